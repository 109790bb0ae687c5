use Rattle.std.proofs.Common.{arith, rules}
use Rattle.tx_bridge.proofs.Passing.{unit_leads, places_next}
use Rattle.tx_bridge.proofs.course.unit_places.Goals as goal

pub unit_place-requires : goal.unit_place-requires
unit_place-requires c = (
  c.requires.0,
  c.requires.1,
  unit_leads c.requires.0 c.args.bridges.now c.loop-bridge.bridge-index c.bridge-item.result c.requires.2 (omega arith)
      c.bridge-item.is,
)

pub loop-bridge-preserved : goal.loop-bridge-preserved
loop-bridge-preserved c = λ t h stand.
    places_next c.args.mods.now t c.args.bridges.now c.loop-bridge.bridge-index c.bridge-item.result
    c.loop-bridge.places.items c.push.new.self.items c.in_ok-unit_place.field-0 (omega arith) c.bridge-item.is
    (c.loop-bridge.invariant t h stand)
    (c.in_ok-unit_place.ensures t h
    (unit_leads t c.args.bridges.now c.loop-bridge.bridge-index c.bridge-item.result stand (omega arith)
    c.bridge-item.is)) (search rules)
