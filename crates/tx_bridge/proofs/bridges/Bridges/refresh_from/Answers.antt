use Rattle.std.proofs.Common.{◌≡◌, ◌++◌, ◌∙◌, ℕ, ap, subst, take, drop}
use Rattle.std.specs.Prelude.{IfOk, OnOk, OnErr, option_copied}
use Rattle.tx_bridge.specs.Moments.{beginning_with}
use Rattle.tx_bridge.specs.Reached.{reached_by_from}
use Rattle.tx_bridge.specs.Spares.{spares_of}
use Rattle.tx_bridge.specs.Names.{FreshTracesFrom, FreshPartsFrom, PartFlagsFrom, ChargeFrom}
use Rattle.tx_bridge.specs.Names.{FreshPartsBy, PartFlagsBy, ChargeBy, KnowsLayers}
use Rattle.tx_bridge.proofs.Partway.{OnErr-weaker}
use Rattle.tx_bridge.proofs.Spared.{layers_unseen}
use Rattle.tx_bridge.proofs.bridges.Bridges.refresh_from.Goals as goal

pub returns-clause-parts : goal.returns-clause-parts
unfolding FreshPartsFrom FreshPartsBy
returns-clause-parts g c =
    subst (λ s. OnOk c.refresh_by.result
    (c.refresh_by.new.self.parts ≡ FreshPartsBy c.args.start.now s c.args.self.now.kept))
    c.opener_law.ensures.nothing_opened c.refresh_by.ensures.parts

pub returns-clause-parts_renewed : goal.returns-clause-parts_renewed
unfolding PartFlagsFrom PartFlagsBy
returns-clause-parts_renewed g c =
    subst (λ s. OnOk c.refresh_by.result (c.refresh_by.new.self.part_flags
    ≡ PartFlagsBy c.args.start.now s c.args.self.now.kept c.args.self.now.parts))
    c.opener_law.ensures.nothing_opened c.refresh_by.ensures.parts_renewed

pub returns-clause-reached : goal.returns-clause-reached
returns-clause-reached g c =
    subst (λ s. OnOk c.refresh_by.result (c.refresh_by.new.self.reached
    ≡ reached_by_from s (beginning_with c.args.start.now) c.args.self.now.kept c.args.self.now.parts))
    c.opener_law.ensures.nothing_opened c.refresh_by.ensures.reached

pub returns-clause-charge : goal.returns-clause-charge
unfolding ChargeFrom ChargeBy
returns-clause-charge g c =
    subst (λ k. IfOk c.refresh_by.result (λ n. n ≡ k))
    (ap (λ s. ChargeBy c.args.start.now s c.args.self.now.kept c.args.self.now.parts c.args.self.now.layers
    (spares_of (option_copied c.args.spare))) c.opener_law.ensures.nothing_opened
    ∙ layers_unseen c.opened_cost_law.ensures.nothing (beginning_with c.args.start.now) c.args.self.now.kept
    c.args.self.now.parts c.args.self.now.layers (spares_of (option_copied c.args.spare)))
    c.refresh_by.ensures.charge

pub returns-clause-refused : goal.returns-clause-refused
unfolding FreshPartsFrom FreshPartsBy
returns-clause-refused g c =
    OnErr-weaker c.refresh_by.result (λ r. (r.0, r.1, r.2))
    (subst (λ s. OnErr c.refresh_by.result ((n : ℕ) × (c.refresh_by.new.self.kept
    ≡ take n (FreshTracesFrom c.args.start.now c.args.self.now.kept) ++ drop n c.args.self.now.kept)
    × (c.refresh_by.new.self.parts
    ≡ take n (FreshPartsBy c.args.start.now s c.args.self.now.kept) ++ drop n c.args.self.now.parts)
    × (drop n c.refresh_by.new.self.layers ≡ drop n c.args.self.now.layers)
    × KnowsLayers c.args.start.now s (take n c.args.self.now.kept) (take n c.refresh_by.new.self.layers)))
    c.opener_law.ensures.nothing_opened c.refresh_by.ensures.refused)
