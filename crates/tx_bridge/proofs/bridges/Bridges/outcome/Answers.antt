use Rattle.std.proofs.Common.{◌∙◌, sym, ap, refl, map, length, ltb-true}
use Rattle.std.proofs.lemmas.Option.{slice_get_read}
use Rattle.std.specs.Option.{option_map}
use Rattle.tx_bridge.specs.Entries.{Entry}
use Rattle.tx_bridge.specs.Sound.{kept_unit}
use Rattle.tx_bridge.proofs.Arrived.{hold_all, parts_hold_all, entry_at}
use Rattle.tx_bridge.proofs.bridges.Bridges.outcome.Goals as goal

pub returns-in-None-clause-holds : goal.returns-in-None-clause-holds
returns-in-None-clause-holds c =
    hold_all c.self.inside.bridges.items c.args.self.now.kept (ap (λ b. b.kept) c.self.view_is) c.self.invariant.sound

pub returns-in-Some-clause-found : goal.returns-in-Some-clause-found
returns-in-Some-clause-found c =
    ap (option_map (λ (e : Entry). e.trace))
    (entry_at c.deref.result.now c.args.self.now.kept c.args.i c.in-Some.bridge.now
    (ap (λ bs. map kept_unit bs) c.deref.ensures.value ∙ ap (λ b. b.kept) c.self.view_is)
    (slice_get_read c.deref.result.now (length c.deref.result.now) c.args.i c.in-Some.bridge.now refl
    (ltb-true c.args.i (length c.deref.result.now) (sym c.in-Some.ensures.lookup.0)) c.in-Some.ensures.lookup.1))

pub returns-in-Some-clause-holds : goal.returns-in-Some-clause-holds
returns-in-Some-clause-holds c =
    hold_all c.self.inside.bridges.items c.args.self.now.kept (ap (λ b. b.kept) c.self.view_is) c.self.invariant.sound

pub returns-in-None-clause-parts_hold : goal.returns-in-None-clause-parts_hold
returns-in-None-clause-parts_hold c =
    parts_hold_all c.self.inside.bridges.items c.args.self.now.kept c.args.self.now.parts
    (ap (λ b. b.kept) c.self.view_is) (ap (λ b. b.parts) c.self.view_is) c.self.invariant.sound

pub returns-in-Some-clause-parts_hold : goal.returns-in-Some-clause-parts_hold
returns-in-Some-clause-parts_hold c =
    parts_hold_all c.self.inside.bridges.items c.args.self.now.kept c.args.self.now.parts
    (ap (λ b. b.kept) c.self.view_is) (ap (λ b. b.parts) c.self.view_is) c.self.invariant.sound
