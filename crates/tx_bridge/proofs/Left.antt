-- A unit that is left as it is: its parts are the cached ones wherever its trace can be used.
use Rattle.std.proofs.Common.{◌≡◌, ℕ, List, [], Option, Some, None, refl, ap, sym, subst, ◌∙◌, ◌⊎◌, inl, inr}
use Rattle.std.specs.Prelude.{Bool, true, false, not, ◌&&◌, ◌||◌, if◌then◌else◌}
use Rattle.std.specs.FinMap.{get}
use Rattle.tx_origin.specs.TaggedTrees.{tagged_of}
use Rattle.tx_exec_form.specs.declared.TheConstants.{MOST_LEVELS}
use Rattle.tx_exec_form.specs.Evaluated.{WideTrace}
use Rattle.tx_exec.specs.Outcomes.{wide_outcome}
use Rattle.tx_parts.specs.Opening.{Sheller, no_shells}
use Rattle.tx_parts.specs.Shellers.{IsSheller}
use Rattle.tx_parts.specs.LayerCosts.{Holder, layer_costs_by}
use Rattle.tx_walk.specs.declared.part.Part.{Part as DonePart}
use Rattle.tx_walk.specs.LayerTraces.{TreeTrace, holds_in, holds_either}
use Rattle.tx_view_form.specs.Outcomes.{Moment, allowance}
use Rattle.tx_bridge.specs.declared.bridge.Bridge.{Bridge}
use Rattle.tx_bridge.specs.Entries.{outcome_of}
use Rattle.tx_bridge.specs.Reached.{can_be_used, are_kept, unit_stays_by}
use Rattle.tx_bridge.specs.PartsKept.{KeptParts, kept_at, has_parts, unit_parts, unit_parts_by, parts_if_done}
use Rattle.tx_bridge.specs.PartsKept.{flags_if_done, fresh_parts, fresh_parts_by, part_flags, part_flags_by}
use Rattle.tx_bridge.specs.HeldParts.{AreItsParts, kept_parts, flags_of_parts, unmarked}
use Rattle.tx_bridge.specs.Sound.{IsSoundBridge, kept_unit}
use Rattle.tx_bridge.specs.Spares.{UnitSpare}
use Rattle.tx_bridge.specs.Charges.{layers_charge, charge_by, UnitLayersKnown}
use Rattle.tx_bridge.proofs.ByParts.{outcome_there}
use Rattle.tx_bridge.proofs.Marked.{left_flags}
use Rattle.tx_bridge.proofs.Remaining.{AllTraced}
use Rattle.tx_bridge.proofs.Spared.{AllDistinct, LayersFree, staying_charged, layers_free}
use Rattle.tx_bridge.proofs.Staying.{stored_kept}
use Rattle.tx_bridge.proofs.Used.{AllAgree, fits_is, parts_fit}

-- it has no parts, or there is no shell now, and there was none when these were cached
own_off : (a s t : Bool) → a && (s || t) ≡ false → a && t ≡ false
own_off true true t h = cc
own_off true false t h = h
own_off false s t h = refl

none_now : (a s t : Bool) → a && (s || t) ≡ false → (a ≡ false) ⊎ (s ≡ false)
none_now true true t h = cc
none_now true false t h = inr refl
none_now false s t h = inl refl

pub off_is : (b : Bool) → not b ≡ true → b ≡ false
off_is true h = cc
off_is false h = refl

module _ (m : Moment) (b : Bridge) (sound : IsSoundBridge b) (sheller : Sheller) (shelled : Bool)
    (shut : shelled ≡ false → sheller ≡ no_shells) (fit : can_be_used m (wide_outcome b.kept) ≡ true)
    (off : has_parts b.unit && (shelled || b.shelled) ≡ false) where
  comes : wide_outcome b.kept ≡ outcome_of m b.unit
  comes = fits_is m (wide_outcome b.kept) (tagged_of b.unit.tagged) sound.holds fit

  its : AreItsParts b.unit (kept_parts b.parts) (wide_outcome b.kept)
  its = sound.parts.all (own_off (has_parts b.unit) shelled b.shelled off)

  -- what is so where there are no parts, and where nothing has a shell, is so
  by_shells : {X : Type 0} (f : Sheller → X) → (has_parts b.unit ≡ false → f no_shells ≡ f sheller)
      → f no_shells ≡ f sheller
  by_shells f bare = by (none_now (has_parts b.unit) shelled b.shelled off)
    where
      by : (has_parts b.unit ≡ false) ⊎ (shelled ≡ false) → f no_shells ≡ f sheller
      by (inl none) = bare none
      by (inr none) = ap f (sym (shut none))

  parts_here : kept_parts b.parts ≡ fresh_parts m b.unit
  parts_here = parts_fit m (wide_outcome b.kept) b.unit (kept_parts b.parts) fit comes its

  pub left_parts : kept_parts b.parts ≡ fresh_parts_by sheller m b.unit
  left_parts =
      parts_here
      ∙ by_shells (λ s. fresh_parts_by s m b.unit)
      (λ none. ap (λ a. if a then parts_if_done (outcome_of m b.unit) (unit_parts_by no_shells m b.unit) else []) none
      ∙ sym (ap (λ a. if a then parts_if_done (outcome_of m b.unit) (unit_parts_by sheller m b.unit) else []) none))

  pub left_flags_by : AllAgree → (qs : List DonePart) → qs ≡ unmarked b.parts
      → flags_of_parts qs ≡ part_flags_by sheller m b.unit (kept_parts b.parts)
  left_flags_by agree qs are =
      left_flags agree m b.unit (wide_outcome b.kept) b.parts qs fit comes sound.parts.distinct its are
      ∙ by_shells (λ s. part_flags_by s m b.unit (kept_parts b.parts))
      (λ none. ap (λ a. if a then flags_if_done (outcome_of m b.unit) (kept_at (kept_parts b.parts))
      (unit_parts_by no_shells m b.unit) else []) none
      ∙ sym (ap (λ a. if a then flags_if_done (outcome_of m b.unit) (kept_at (kept_parts b.parts))
      (unit_parts_by sheller m b.unit) else []) none))

  -- no layer costs anything
  left_free : LayersFree → (held : Holder) → layers_charge held sheller m b.unit ≡ 0
  left_free free held =
      sym (by_shells (λ s. layers_charge held s m b.unit)
      (λ none. ap (λ a. if a then layer_costs_by held no_shells MOST_LEVELS (allowance m) b.unit.tagged.tree (get m.env)
      else 0) none
      ∙ sym (ap (λ a. if a then layer_costs_by held sheller MOST_LEVELS (allowance m) b.unit.tagged.tree (get m.env)
      else 0) none)))
      ∙ layers_free free held m b.unit

  pub left_known : LayersFree → (ls : List TreeTrace) → UnitLayersKnown sheller m b.unit ls
  left_known free ls trace is = left_free free (holds_in ls)

  module _ (agree : AllAgree) (traced : AllTraced) (none_shelled : IsSheller no_shells) where
    stays_closed : unit_stays_by no_shells m (kept_unit b) (kept_parts b.parts) ≡ true
    stays_closed =
        ap (λ f. f && (not (has_parts b.unit) || are_kept (kept_parts b.parts) (unit_parts m b.unit))) fit
        ∙ by (has_parts b.unit) (outcome_of m b.unit) refl refl
      where
        none_fits : outcome_of m b.unit ≡ None → ⊥
        none_fits none = let never : true ≡ false = sym fit ∙ ap (can_be_used m) (comes ∙ none) in cc

        by : (a : Bool) (o : Option WideTrace) → has_parts b.unit ≡ a → outcome_of m b.unit ≡ o
            → (not a || are_kept (kept_parts b.parts) (unit_parts m b.unit)) ≡ true
        by false o n e = refl
        by true None n e = absurd (none_fits e)
        by true (Some trace) n e =
            ap (λ ks. are_kept ks (unit_parts m b.unit))
            (parts_here
            ∙ ap (λ a. if a then parts_if_done (outcome_of m b.unit) (unit_parts m b.unit) else []) n
            ∙ ap (λ o. parts_if_done o (unit_parts m b.unit)) e)
            ∙ stored_kept agree (unit_parts m b.unit)
            (traced no_shells none_shelled MOST_LEVELS (allowance m) [] b.unit.tagged.tree (get m.env) trace
            (outcome_there b.unit m m.env m.left (allowance m) refl refl sound.placed n ∙ e))

    pub left_stays : unit_stays_by sheller m (kept_unit b) (kept_parts b.parts) ≡ true
    left_stays =
        sym (by_shells (λ s. unit_stays_by s m (kept_unit b) (kept_parts b.parts))
        (λ none. ap (λ a. can_be_used m (wide_outcome b.kept)
        && (not a || are_kept (kept_parts b.parts) (unit_parts_by no_shells m b.unit))) none
        ∙ sym (ap (λ a. can_be_used m (wide_outcome b.kept)
        && (not a || are_kept (kept_parts b.parts) (unit_parts_by sheller m b.unit))) none)))
        ∙ stays_closed

    pub left_reached : false ≡ not (unit_stays_by sheller m (kept_unit b) (kept_parts b.parts))
    left_reached = sym (ap not left_stays)

    pub left_charge : AllDistinct → LayersFree → (ls : List TreeTrace) (s : UnitSpare)
        → 0 ≡ charge_by sheller m (kept_unit b) (kept_parts b.parts) ls s
    left_charge distinct free ls s =
        sym (staying_charged distinct sheller m (kept_unit b) (kept_parts b.parts) ls s left_stays
        ∙ left_free free (holds_either ls s.layers))
