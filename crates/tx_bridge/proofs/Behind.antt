-- The moment after units that were gone through.
use Rattle.std.proofs.Common.{◌≡◌, ℕ, ◌+◌, ◌≤◌, List, ◌∷◌, length, drop, ap, sym, ◌∙◌}
use Rattle.std.proofs.lemmas.List.{drop_all}
use Rattle.std.specs.Prelude.{Some, slice_get}
use Rattle.tx_tree.proofs.Walks.{drop_item}
use Rattle.tx_origin.specs.TaggedTrees.{tagged_of}
use Rattle.tx_exec.specs.Outcomes.{wide_outcome}
use Rattle.tx_view_form.specs.Outcomes.{Moment, charge, behind}
use Rattle.tx_bridge.specs.declared.bridge.Bridge.{Bridge}
use Rattle.tx_bridge.specs.Entries.{Entry, fresh_from, outcome_of, behind_all}
use Rattle.tx_bridge.specs.Sound.{entries_of, kept_unit}
use Rattle.tx_bridge.proofs.Partway.{units_in}
use Rattle.tx_bridge.proofs.Taking.{heads}
use Rattle.tx_bridge.proofs.Used.{AllAllowed, charge_fits}

-- after i units, at the moment m, from the moment `start`
pub record BehindSome (bs : List Bridge) (start : Moment) (i : ℕ) (m : Moment) : Type 0 where
  pub moment : behind_all m (units_in (drop i bs)) ≡ behind_all start (units_in bs)
  pub fresh : entries_of (drop i bs) ≡ fresh_from m (units_in (drop i bs))

module _ (bs : List Bridge) (start : Moment) (i : ℕ) (m : Moment) (p : BehindSome bs start i m) (b : Bridge)
    (there : slice_get bs i ≡ Some b) where
  ahead : drop i bs ≡ b ∷ drop (i + 1) bs
  ahead = drop_item bs i b there

  abbrev fresh_entry : Entry
  fresh_entry = record { unit = b.unit; trace = outcome_of m b.unit }

  both : (kept_unit b ≡ fresh_entry) × (entries_of (drop (i + 1) bs)
      ≡ fresh_from (behind m (outcome_of m b.unit)) (units_in (drop (i + 1) bs)))
  both =
      heads (kept_unit b) fresh_entry (entries_of (drop (i + 1) bs))
      (fresh_from (behind m (outcome_of m b.unit)) (units_in (drop (i + 1) bs)))
      (sym (ap entries_of ahead) ∙ p.fresh ∙ ap (λ cs. fresh_from m (units_in cs)) ahead)

  -- the next unit has its outcome
  pub comes : wide_outcome b.kept ≡ outcome_of m b.unit
  comes = ap (λ (e : Entry). e.trace) both.0

  pub has_enough : AllAllowed → charge m (wide_outcome b.kept) ≤ m.left
  has_enough allowed = charge_fits allowed m (wide_outcome b.kept) (tagged_of b.unit.tagged) comes

  pub behind_next : (n : Moment) → n ≡ behind m (wide_outcome b.kept) → BehindSome bs start (i + 1) n
  behind_next n is =
      let at : n ≡ behind m (outcome_of m b.unit) = is ∙ ap (behind m) comes in
      record {
        moment = ap (λ k. behind_all k (units_in (drop (i + 1) bs))) at
            ∙ ap (λ cs. behind_all m (units_in cs)) (sym ahead) ∙ p.moment;
        fresh = both.1 ∙ ap (λ k. fresh_from k (units_in (drop (i + 1) bs))) (sym at);
      }

-- after all units
pub behind_whole : (bs : List Bridge) (start : Moment) (i : ℕ) (m : Moment) → BehindSome bs start i m → length bs ≤ i
    → m ≡ behind_all start (units_in bs)
behind_whole bs start i m p past = ap (λ cs. behind_all m (units_in cs)) (sym (drop_all i bs past)) ∙ p.moment
