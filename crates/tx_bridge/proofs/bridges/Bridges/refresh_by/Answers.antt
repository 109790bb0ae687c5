use Rattle.std.proofs.Common.{◌≡◌, ◌∙◌, ◌++◌, refl, ap, sym, subst, take, drop, length, arith, true, false}
use Rattle.std.proofs.lemmas.Grind.{common_steps}
use Rattle.std.specs.Prelude.{IfSome, option_copied}
use Rattle.std.specs.List.{All}
use Rattle.tx_bridge.specs.Bridged.{Bridged}
use Rattle.tx_bridge.specs.Moments.{beginning_with}
use Rattle.tx_parts.specs.Opening.{shells_by}
use Rattle.tx_bridge.specs.Names.{FreshTracesFrom, FreshPartsBy, PartFlagsBy, ChargeBy, KnowsLayers, EndFrom}
use Rattle.tx_bridge.specs.Charges.{charges_by, AllLayersKnown}
use Rattle.tx_bridge.specs.Reached.{reached_by_from}
use Rattle.tx_bridge.specs.Lent.{spares_in}
use Rattle.tx_bridge.specs.Entries.{units_of, behind_all}
use Rattle.tx_bridge.specs.UnitLists.{AreUnits}
use Rattle.tx_bridge.specs.PartsKept.{part_flags_by_from}
use Rattle.tx_bridge.specs.HeldParts.{kept_parts}
use Rattle.tx_bridge.specs.Sound.{IsSoundBridge, kept_unit, entries_of, stored_parts_in, part_flags_in, layers_in}
use Rattle.tx_bridge.specs.Sound.{flags_of, sources_in}
use Rattle.tx_bridge.specs.Strays.{AreStrays, strays_in}
use Rattle.tx_bridge.proofs.Aside.{none_aside, none_tidy}
use Rattle.tx_bridge.proofs.Lending.{have_units}
use Rattle.tx_bridge.proofs.Partway.{any_err}
use Rattle.tx_bridge.proofs.Refreshed.{stays_whole, refused, settled_whole}
use Rattle.tx_bridge.proofs.Remaining.{parts_stay}
use Rattle.tx_bridge.proofs.Sourced.{sources_stay}
use Rattle.tx_bridge.proofs.Used.{none_there}
use Rattle.tx_bridge.proofs.bridges.Bridges.refresh_by.Goals as goal

pub refresh_all-requires-clause-same : goal.refresh_all-requires-clause-same
refresh_all-requires-clause-same g c =
    have_units c.lent_bridges-lent.result.now c.deref_mut.result.now (option_copied c.args.spare)
    c.lent_bridges-lent.ensures.kept
    (subst (λ us. IfSome (option_copied c.args.spare) (λ (b : Bridged). units_of b.kept ≡ us))
    (sym (ap (λ bs. units_of (entries_of bs)) c.deref_mut.ensures.value ∙ ap (λ b. units_of b.kept) c.self.view_is))
    c.requires.same)

pub invariant_of-self : goal.invariant_of-self
invariant_of-self g c =
    let whole : take c.self.inside.bridges.len (c.refresh_all.new.bridges
    ++ drop (length c.refresh_all.new.bridges) c.self.inside.bridges.items) ≡ c.refresh_all.new.bridges =
    grind (arith, common_steps) in
    record {
      sound = subst (All IsSoundBridge) (sym whole) c.refresh_all.ensures.sound;
      units =
          subst AreUnits
          (sym (ap (λ bs. units_of (entries_of bs)) whole ∙ c.refresh_all.ensures.units
          ∙ ap (λ bs. units_of (entries_of bs)) c.deref_mut.ensures.value)) c.self.invariant.units;
      settled = λ e. let off : true ≡ false = sym e ∙ c.replace.ensures.after in cc;
      strays =
          subst (λ us. AreStrays us (strays_in c.self.inside.strays.items))
          (sym (ap (λ bs. units_of (entries_of bs)) whole ∙ c.refresh_all.ensures.units
          ∙ ap (λ bs. units_of (entries_of bs)) c.deref_mut.ensures.value)) c.self.invariant.strays;
      tidy = c.self.invariant.tidy;
    }

pub returns-in_err-moment-clause-refused : goal.returns-in_err-moment-clause-refused
unfolding FreshTracesFrom FreshPartsBy KnowsLayers
returns-in_err-moment-clause-refused g c = any_err c.from_residual.result (0, refl, refl, refl, tt)

pub returns-in_err-charges-clause-refused : goal.returns-in_err-charges-clause-refused
unfolding FreshTracesFrom FreshPartsBy KnowsLayers
returns-in_err-charges-clause-refused g c =
    let whole : take c.self.inside.bridges.len (c.refresh_all.new.bridges
    ++ drop (length c.refresh_all.new.bridges) c.self.inside.bridges.items) ≡ c.refresh_all.new.bridges =
    grind (arith, common_steps) in
    any_err c.from_residual-in_err-charges.result
    (refused (shells_by (g.O.Opener.opens c.args.opener.now))
    c.in_ok-moment.moment (beginning_with c.args.start.now) c.deref_mut.result.now c.refresh_all.new.bridges _
    c.args.self.now.kept c.args.self.now.parts c.args.self.now.layers c.in_ok-moment.ensures whole
    (ap entries_of c.deref_mut.ensures.value ∙ ap (λ b. b.kept) c.self.view_is)
    (ap stored_parts_in c.deref_mut.ensures.value ∙ ap (λ b. b.parts) c.self.view_is)
    (ap layers_in c.deref_mut.ensures.value ∙ ap (λ b. b.layers) c.self.view_is) c.in_err-charges.ensures.refused)

pub returns-in_err-charges-clause-stays : goal.returns-in_err-charges-clause-stays
returns-in_err-charges-clause-stays g c =
    let whole : take c.self.inside.bridges.len (c.refresh_all.new.bridges
    ++ drop (length c.refresh_all.new.bridges) c.self.inside.bridges.items) ≡ c.refresh_all.new.bridges =
    grind (arith, common_steps) in
    stays_whole kept_unit c.refresh_all.new.bridges _ c.deref_mut.result.now c.args.self.now.kept whole
    (ap entries_of c.deref_mut.ensures.value ∙ ap (λ b. b.kept) c.self.view_is) c.in_err-charges.ensures.stays

pub invariant_of-self-2 : goal.invariant_of-self-2
invariant_of-self-2 g c =
    let whole : take c.self.inside.bridges.len (c.refresh_all.new.bridges
    ++ drop (length c.refresh_all.new.bridges) c.self.inside.bridges.items) ≡ c.refresh_all.new.bridges =
    grind (arith, common_steps) in
    record {
      sound = subst (All IsSoundBridge) (sym whole) c.in_ok-charges.ensures.sound;
      units =
          subst AreUnits
          (sym (ap (λ bs. units_of (entries_of bs)) whole ∙ c.in_ok-charges.ensures.units
          ∙ ap (λ bs. units_of (entries_of bs)) c.deref_mut.ensures.value)) c.self.invariant.units;
      settled = λ e.
          settled_whole c.trace_laws.ensures.agrees c.in_ok-moment.moment c.args.start.now
          (units_of (entries_of c.deref_mut.result.now)) _ c.in_ok-moment.ensures
          (sym (ap length c.pairs.ensures)
          ∙ none_there (length c.pairs.result.now) (sym c.is_empty-bare.ensures ∙ e))
          (ap entries_of whole ∙ c.in_ok-charges.ensures.fresh);
      strays = none_aside _ c.clear.new.self.items c.clear.ensures.items;
      tidy = none_tidy c.clear.new.self.items c.clear.ensures.items;
    }

pub returns-clause-parts_renewed : goal.returns-clause-parts_renewed
unfolding PartFlagsBy
returns-clause-parts_renewed g c =
    let whole : take c.self.inside.bridges.len (c.refresh_all.new.bridges
    ++ drop (length c.refresh_all.new.bridges) c.self.inside.bridges.items) ≡ c.refresh_all.new.bridges =
    grind (arith, common_steps) in
    ap part_flags_in whole ∙ c.in_ok-charges.ensures.parts_renewed
    ∙ ap (λ m. part_flags_by_from (shells_by (g.O.Opener.opens c.args.opener.now)) m
    (entries_of c.deref_mut.result.now) (stored_parts_in c.deref_mut.result.now))
    c.in_ok-moment.ensures
    ∙ ap (λ es. part_flags_by_from (shells_by (g.O.Opener.opens c.args.opener.now))
    (beginning_with c.args.start.now) es (stored_parts_in c.deref_mut.result.now))
    (ap entries_of c.deref_mut.ensures.value ∙ ap (λ b. b.kept) c.self.view_is)
    ∙ ap (part_flags_by_from (shells_by (g.O.Opener.opens c.args.opener.now))
    (beginning_with c.args.start.now) c.args.self.now.kept)
    (ap stored_parts_in c.deref_mut.ensures.value ∙ ap (λ b. b.parts) c.self.view_is)

pub returns-clause-parts_stay : goal.returns-clause-parts_stay
returns-clause-parts_stay g c =
    let whole : take c.self.inside.bridges.len (c.refresh_all.new.bridges
    ++ drop (length c.refresh_all.new.bridges) c.self.inside.bridges.items) ≡ c.refresh_all.new.bridges =
    grind (arith, common_steps) in
    parts_stay c.trace_laws.ensures.over c.opened_standing_law.ensures.stand c.opened_fitting_law.ensures.all_traced
    (shells_by (g.O.Opener.opens c.args.opener.now))
    (c.opener_law.ensures.sheller (g.O.Opener.opens c.args.opener.now) (g.met.O.Opener.sound c.args.opener.now))
    c.in_ok-moment.moment c.deref_mut.result.now c.refresh_all.new.bridges _ c.args.self.now.parts
    (subst (All IsSoundBridge) (sym c.deref_mut.ensures.value) c.self.invariant.sound)
    (ap stored_parts_in c.deref_mut.ensures.value ∙ ap (λ b. b.parts) c.self.view_is)
    c.in_ok-charges.ensures.parts c.in_ok-charges.ensures.parts_renewed whole

pub returns-clause-parts_same : goal.returns-clause-parts_same
returns-clause-parts_same g c =
    let whole : take c.self.inside.bridges.len (c.refresh_all.new.bridges
    ++ drop (length c.refresh_all.new.bridges) c.self.inside.bridges.items) ≡ c.refresh_all.new.bridges =
    grind (arith, common_steps) in
    stays_whole (λ b. kept_parts b.parts) c.refresh_all.new.bridges _ c.deref_mut.result.now c.args.self.now.parts
    whole (ap stored_parts_in c.deref_mut.ensures.value ∙ ap (λ b. b.parts) c.self.view_is)
    c.in_ok-charges.ensures.parts_same

pub returns-clause-stays : goal.returns-clause-stays
returns-clause-stays g c =
    let whole : take c.self.inside.bridges.len (c.refresh_all.new.bridges
    ++ drop (length c.refresh_all.new.bridges) c.self.inside.bridges.items) ≡ c.refresh_all.new.bridges =
    grind (arith, common_steps) in
    stays_whole kept_unit c.refresh_all.new.bridges _ c.deref_mut.result.now c.args.self.now.kept whole
    (ap entries_of c.deref_mut.ensures.value ∙ ap (λ b. b.kept) c.self.view_is) c.in_ok-charges.ensures.stays

pub returns-clause-charge : goal.returns-clause-charge
unfolding ChargeBy
returns-clause-charge g c =
    c.in_ok-charges.ensures.charge
    ∙ ap (λ m. charges_by (shells_by (g.O.Opener.opens c.args.opener.now)) m (entries_of c.deref_mut.result.now)
    (stored_parts_in c.deref_mut.result.now) (layers_in c.deref_mut.result.now)
    (spares_in c.lent_bridges-lent.result.now)) c.in_ok-moment.ensures
    ∙ ap (λ es. charges_by (shells_by (g.O.Opener.opens c.args.opener.now)) (beginning_with c.args.start.now) es
    (stored_parts_in c.deref_mut.result.now) (layers_in c.deref_mut.result.now)
    (spares_in c.lent_bridges-lent.result.now))
    (ap entries_of c.deref_mut.ensures.value ∙ ap (λ b. b.kept) c.self.view_is)
    ∙ ap (λ pss. charges_by (shells_by (g.O.Opener.opens c.args.opener.now))
    (beginning_with c.args.start.now) c.args.self.now.kept pss (layers_in c.deref_mut.result.now)
    (spares_in c.lent_bridges-lent.result.now))
    (ap stored_parts_in c.deref_mut.ensures.value ∙ ap (λ b. b.parts) c.self.view_is)
    ∙ ap (λ lss. charges_by (shells_by (g.O.Opener.opens c.args.opener.now))
    (beginning_with c.args.start.now) c.args.self.now.kept c.args.self.now.parts lss
    (spares_in c.lent_bridges-lent.result.now))
    (ap layers_in c.deref_mut.ensures.value ∙ ap (λ b. b.layers) c.self.view_is)
    ∙ ap (charges_by (shells_by (g.O.Opener.opens c.args.opener.now)) (beginning_with c.args.start.now)
    c.args.self.now.kept c.args.self.now.parts c.args.self.now.layers)
    c.lent_bridges-lent.ensures.spares

pub returns-clause-layers : goal.returns-clause-layers
unfolding KnowsLayers
returns-clause-layers g c =
    let whole : take c.self.inside.bridges.len (c.refresh_all.new.bridges
    ++ drop (length c.refresh_all.new.bridges) c.self.inside.bridges.items) ≡ c.refresh_all.new.bridges =
    grind (arith, common_steps) in
    subst (AllLayersKnown (shells_by (g.O.Opener.opens c.args.opener.now)) (beginning_with c.args.start.now)
    (units_of c.args.self.now.kept)) (sym (ap layers_in whole))
    (subst (λ m. AllLayersKnown (shells_by (g.O.Opener.opens c.args.opener.now)) m (units_of c.args.self.now.kept)
    (layers_in c.refresh_all.new.bridges)) c.in_ok-moment.ensures
    (subst (λ us. AllLayersKnown (shells_by (g.O.Opener.opens c.args.opener.now)) c.in_ok-moment.moment us
    (layers_in c.refresh_all.new.bridges))
    (ap (λ bs. units_of (entries_of bs)) c.deref_mut.ensures.value ∙ ap (λ b. units_of b.kept) c.self.view_is)
    c.in_ok-charges.ensures.layers))

pub returns-clause-reached : goal.returns-clause-reached
returns-clause-reached g c =
    let whole : take c.self.inside.bridges.len (c.refresh_all.new.bridges
    ++ drop (length c.refresh_all.new.bridges) c.self.inside.bridges.items) ≡ c.refresh_all.new.bridges =
    grind (arith, common_steps) in
    ap flags_of whole ∙ c.in_ok-charges.ensures.reached
    ∙ ap (λ m. reached_by_from (shells_by (g.O.Opener.opens c.args.opener.now)) m (entries_of c.deref_mut.result.now)
    (stored_parts_in c.deref_mut.result.now)) c.in_ok-moment.ensures
    ∙ ap (λ es. reached_by_from (shells_by (g.O.Opener.opens c.args.opener.now)) (beginning_with c.args.start.now) es
    (stored_parts_in c.deref_mut.result.now)) (ap entries_of c.deref_mut.ensures.value
    ∙ ap (λ b. b.kept) c.self.view_is)
    ∙ ap (reached_by_from (shells_by (g.O.Opener.opens c.args.opener.now)) (beginning_with c.args.start.now)
    c.args.self.now.kept)
    (ap stored_parts_in c.deref_mut.ensures.value ∙ ap (λ b. b.parts) c.self.view_is)

pub returns-clause-sources : goal.returns-clause-sources
returns-clause-sources g c =
    let whole : take c.self.inside.bridges.len (c.refresh_all.new.bridges
    ++ drop (length c.refresh_all.new.bridges) c.self.inside.bridges.items) ≡ c.refresh_all.new.bridges =
    grind (arith, common_steps) in
    sources_stay c.self.inside.way _ c.self.inside.bridges.items
    (ap sources_in whole ∙ c.in_ok-charges.ensures.sources ∙ ap sources_in c.deref_mut.ensures.value)
    ∙ ap (λ b. b.sources) c.self.view_is

pub returns-clause-end : goal.returns-clause-end
unfolding EndFrom
returns-clause-end g c =
    c.into_env.ensures ∙ ap (λ m. m.env) c.in_ok-charges.ensures.behind
    ∙ ap (λ m. (behind_all m (units_of (entries_of c.deref_mut.result.now))).env) c.in_ok-moment.ensures
    ∙ ap (λ es. (behind_all (beginning_with c.args.start.now) (units_of es)).env)
    (ap entries_of c.deref_mut.ensures.value ∙ ap (λ b. b.kept) c.self.view_is)
