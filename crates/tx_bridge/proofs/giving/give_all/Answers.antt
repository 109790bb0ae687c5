use Rattle.std.proofs.Common.{arith, ◌∙◌, ap, refl, slice_index_or}
use Rattle.tx_bridge.specs.Slots.{given_from}
use Rattle.tx_bridge.proofs.Handed.{give_next, give_end, order_now, moved_here, placed_here}
use Rattle.tx_bridge.proofs.giving.give_all.Goals as goal

pub loop-i-init : goal.loop-i-init
loop-i-init c = record {
  given = refl;
  rest = refl;
  apart = c.requires.apart;
  placed = c.requires.all;
  order = λ first h. h;
}

pub give-hint-requires : goal.give-hint-requires
give-hint-requires c = record {
  apart = c.loop-i.invariant.apart;
  order =
      order_now c.args.places.now c.args.old.now c.loop-i.old c.args.new.now c.loop-i.new c.loop-i.i
      c.loop-i.invariant c.order_of-order.result c.order_of-order.ensures;
  other =
      moved_here c.args.places.now c.args.old.now c.loop-i.old c.args.new.now c.loop-i.new c.loop-i.i
      c.loop-i.invariant c.requires.others (omega arith) (omega (arith, c.requires.number)) c.index-old-i.result
      c.index-places-i.result c.index-places-i.is;
  placed =
      placed_here c.args.places.now c.args.old.now c.loop-i.old c.args.new.now c.loop-i.new c.loop-i.i
      c.loop-i.invariant c.requires.placed (omega arith) c.index-old-i.result;
  all = c.loop-i.invariant.placed;
}

pub loop-i-preserved : goal.loop-i-preserved
loop-i-preserved c =
    give_next c.args.places.now c.args.old.now c.loop-i.old c.args.new.now c.loop-i.new c.loop-i.i c.loop-i.invariant
    (omega arith) (omega (arith, c.requires.number)) c.index-old-i.result c.index-places-i.result c.give-hint.new.old
    c.give-hint.new.new
    (c.give-hint.ensures.given
    ∙ ap (λ q. given_from q c.loop-i.i (slice_index_or c.loop-i.old c.loop-i.i c.index-old-i.result) 0 c.loop-i.new)
    c.index-places-i.is)

pub returns : goal.returns
returns c =
    give_end c.args.places.now c.args.old.now c.loop-i.old c.args.new.now c.loop-i.new c.loop-i.i c.loop-i.invariant
    (omega (arith, c.requires.number))
