use Rattle.std.proofs.Common.{◌∙◌, sym, ap, refl, length, ltb-true, ltb-false}
use Rattle.std.proofs.lemmas.Option.{slice_get_read}
use Rattle.tx_bridge.proofs.Sourced.{source_read, none_read}
use Rattle.tx_bridge.proofs.bridges.Bridges.source.Goals as goal

pub returns-in-None : goal.returns-in-None
returns-in-None c =
    none_read c.self.inside.way c.deref.result.now c.self.inside.bridges.items c.args.self.now.sources c.args.i
    c.deref.ensures.value (ap (λ b. b.sources) c.self.view_is)
    (ltb-false c.args.i (length c.deref.result.now) (sym c.in-None.ensures.lookup.0))

pub returns-in-Some : goal.returns-in-Some
returns-in-Some c =
    c.source_of.ensures
    ∙ source_read c.self.inside.way c.deref.result.now c.self.inside.bridges.items c.args.self.now.sources c.args.i
    c.in-Some.bridge.now c.deref.ensures.value (ap (λ b. b.sources) c.self.view_is)
    (slice_get_read c.deref.result.now (length c.deref.result.now) c.args.i c.in-Some.bridge.now refl
    (ltb-true c.args.i (length c.deref.result.now) (sym c.in-Some.ensures.lookup.0)) c.in-Some.ensures.lookup.1)
