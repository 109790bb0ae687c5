use Rattle.std.proofs.Common.{◌≡◌, ◌∙◌, ◌++◌, ℕ, [], ap, subst, take, drop}
use Rattle.std.specs.Prelude.{IfOk, OnOk, OnErr}
use Rattle.tx_view_form.specs.Outcomes.{beginning}
use Rattle.tx_bridge.specs.Moments.{beginning_with}
use Rattle.tx_bridge.specs.Reached.{reached_from}
use Rattle.tx_bridge.specs.Names.{FreshTraces, FreshParts, PartFlags, Charge, End}
use Rattle.tx_bridge.specs.Names.{FreshTracesFrom, FreshPartsFrom, PartFlagsFrom, ChargeFrom, EndFrom}
use Rattle.tx_bridge.proofs.Spared.{nothing_charged}
use Rattle.tx_bridge.proofs.bridges.Bridges.refresh.Goals as goal

pub returns-clause-fresh : goal.returns-clause-fresh
unfolding FreshTraces FreshTracesFrom
returns-clause-fresh g c =
    subst (λ ps. OnOk c.refresh_from.result (c.refresh_from.new.self.kept ≡ FreshTracesFrom ps c.args.self.now.kept))
    (c.new-none.ensures ∙ c.new.ensures.items) c.refresh_from.ensures.fresh

pub returns-clause-parts : goal.returns-clause-parts
unfolding FreshParts FreshPartsFrom
returns-clause-parts g c =
    subst (λ ps. OnOk c.refresh_from.result (c.refresh_from.new.self.parts ≡ FreshPartsFrom ps c.args.self.now.kept))
    (c.new-none.ensures ∙ c.new.ensures.items) c.refresh_from.ensures.parts

pub returns-clause-parts_renewed : goal.returns-clause-parts_renewed
unfolding PartFlags PartFlagsFrom
returns-clause-parts_renewed g c =
    subst (λ ps. OnOk c.refresh_from.result
    (c.refresh_from.new.self.part_flags ≡ PartFlagsFrom ps c.args.self.now.kept c.args.self.now.parts))
    (c.new-none.ensures ∙ c.new.ensures.items) c.refresh_from.ensures.parts_renewed

pub returns-clause-reached : goal.returns-clause-reached
returns-clause-reached g c =
    subst (λ ps. OnOk c.refresh_from.result (c.refresh_from.new.self.reached
    ≡ reached_from (beginning_with ps) c.args.self.now.kept c.args.self.now.parts))
    (c.new-none.ensures ∙ c.new.ensures.items) c.refresh_from.ensures.reached

pub returns-clause-charge : goal.returns-clause-charge
unfolding Charge ChargeFrom
returns-clause-charge g c =
    subst (λ k. IfOk c.refresh_from.result (λ n. n ≡ k))
    (ap (λ ps. ChargeFrom ps c.args.self.now.kept c.args.self.now.parts [])
    (c.new-none.ensures ∙ c.new.ensures.items)
    ∙ nothing_charged c.opened_cost_law.ensures.nothing beginning c.args.self.now.kept c.args.self.now.parts)
    c.refresh_from.ensures.charge

pub returns-clause-refused : goal.returns-clause-refused
unfolding FreshTraces FreshTracesFrom FreshParts FreshPartsFrom
returns-clause-refused g c =
    subst (λ ps. OnErr c.refresh_from.result ((n : ℕ) × (c.refresh_from.new.self.kept
    ≡ take n (FreshTracesFrom ps c.args.self.now.kept) ++ drop n c.args.self.now.kept)
    × (c.refresh_from.new.self.parts
    ≡ take n (FreshPartsFrom ps c.args.self.now.kept) ++ drop n c.args.self.now.parts)))
    (c.new-none.ensures ∙ c.new.ensures.items) c.refresh_from.ensures.refused

pub returns-clause-end : goal.returns-clause-end
unfolding End EndFrom
returns-clause-end g c =
    subst (λ ps. OnOk c.refresh_from.result (c.refresh_from.new.self.end ≡ EndFrom ps c.args.self.now.kept))
    (c.new-none.ensures ∙ c.new.ensures.items) c.refresh_from.ensures.end
