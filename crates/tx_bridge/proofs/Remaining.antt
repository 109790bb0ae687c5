-- What is cached of a part that isn't evaluated anew is what was cached at its path.
use Rattle.std.proofs.Common.{◌≡◌, ℕ, zero, suc, ◌<◌, leb, List, [], ◌∷◌, map, Option, Some, None, refl, ap, sym, subst}
use Rattle.std.proofs.Common.{◌∙◌, ◌⊎◌, inl, inr, arith}
use Rattle.std.proofs.lemmas.Bool.{leb-true, leb-false}
use Rattle.std.proofs.lemmas.Option.{same_Some}
use Rattle.std.specs.Prelude.{Bool, true, false, not, if◌then◌else◌, slice_get}
use Rattle.std.specs.FinMap.{get}
use Rattle.std.proofs.lemmas.List.Elements.{recursion_from_All}
use Rattle.std.specs.List.{All, AllByRecursion}
use Rattle.tx_tree.specs.WideTree.{WideTree}
use Rattle.tx_tree.specs.Paths.{subtree}
use Rattle.tx_origin.specs.TaggedTrees.{TaggedTree}
use Rattle.tx_exec_form.specs.declared.TheConstants.{MOST_LEVELS}
use Rattle.tx_exec_form.specs.Runs.{Before}
use Rattle.tx_exec_form.specs.Evaluated.{WideTrace, evaluated_in}
use Rattle.tx_exec_form.specs.Laws.{Agrees, Supports}
use Rattle.tx_parts.specs.Composed.{alone, evaluates}
use Rattle.tx_parts.specs.Opening.{Sheller}
use Rattle.tx_parts.specs.Shellers.{IsSheller}
use Rattle.tx_parts.specs.Parts.{Part, HasTrace, parts_by, part_trace, Stored, stored_part}
use Rattle.tx_parts.specs.Standing.{StandsIn}
use Rattle.tx_walk.specs.declared.part.Part.{Part as DonePart}
use Rattle.tx_walk.specs.Held.{IsSound as ServesTree, fits, serves}
use Rattle.tx_walk.specs.Walked.{kept_in}
use Rattle.tx_walk.proofs.Agreed.{agrees_is}
use Rattle.tx_units.specs.declared.kinds.Unit.{Unit as DocUnit}
use Rattle.tx_view_form.specs.Outcomes.{Moment, allowance, behind}
use Rattle.tx_bridge.specs.declared.bridge.Bridge.{Bridge}
use Rattle.tx_bridge.specs.Entries.{units_of, outcome_of}
use Rattle.tx_bridge.specs.PartsKept.{KeptParts, kept_at, has_parts, unit_parts_by, parts_if_done, fresh_parts_by}
use Rattle.tx_bridge.specs.PartsKept.{fresh_parts_by_from, flags_if_done, part_flags_by, part_flags_by_from, PartsStay}
use Rattle.tx_bridge.specs.HeldParts.{HoldsPart, kept_parts}
use Rattle.tx_bridge.specs.Sound.{IsSoundBridge, entries_of, stored_parts_in, part_flags_in}
use Rattle.tx_bridge.specs.UnitLists.{HasPathIfBody}
use Rattle.tx_bridge.proofs.ByParts.{AllStandIn, sound_of, same_store, outcome_there}

-- ---- laws of the evaluator, as the calls state them

abbrev pub AllOver : Type 0
AllOver = (k c : ℕ) (t : TaggedTree) (e : Before) (trace : WideTrace) → evaluated_in k c t e ≡ Some trace → (m n : ℕ)
    (d : Before) → Agrees d trace.looks → (n < trace.cost) ⊎ (m < trace.height) → evaluated_in m n t d ≡ None

abbrev pub AllTraced : Type 0
AllTraced = (sheller : Sheller) → IsSheller sheller → (k c : ℕ) (path : List ℕ) (t : WideTree) (e : Before)
    (trace : WideTrace) → evaluates k c t e ≡ Some trace → AllByRecursion HasTrace (parts_by sheller k c path t e)

-- ---- one part

-- where a tree has an outcome, a trace that supports the tree and agrees is this outcome
pub only_one : AllOver → (k c : ℕ) (t : TaggedTree) (e : Before) (trace come : WideTrace) → Supports trace t
    → Agrees e trace.looks → evaluated_in k c t e ≡ Some come → Some trace ≡ evaluated_in k c t e
only_one over k c t e trace come support agree is =
    by (leb trace.cost c) (leb trace.height k) refl refl
  where
    none : evaluated_in k c t e ≡ None → ⊥
    none over_is = let off : Some come ≡ None = sym is ∙ over_is in cc

    here : evaluated_in trace.height trace.cost t e ≡ Some trace
    here = support trace.height trace.cost e agree (omega arith) (omega arith)

    by : (a b : Bool) → leb trace.cost c ≡ a → leb trace.height k ≡ b → Some trace ≡ evaluated_in k c t e
    by false b f g =
        absurd (none (over trace.height trace.cost t e trace here k c e agree (inl (leb-false trace.cost c f))))
    by true false f g =
        absurd (none (over trace.height trace.cost t e trace here k c e agree (inr (leb-false trace.height k g))))
    by true true f g = sym (support k c e agree (leb-true trace.cost c f) (leb-true trace.height k g))

unflagged : (b : Bool) → not b ≡ false → b ≡ true
unflagged true h = refl
unflagged false h = cc

module _ (over : AllOver) (t : WideTree) (ds : List DonePart) (hold : AllByRecursion (HoldsPart t) ds) where
  -- what is cached at the part's path supports the part's tree
  supports_part : (p : Part) (trace : WideTrace) → StandsIn [] t p → kept_at (kept_parts ds) p.path ≡ Some trace
      → Supports trace (alone p.tree)
  supports_part p trace stands is =
      let sound : ServesTree (kept_in ds) [] t = sound_of t ds hold in
      sound.holds p.path p.tree trace (ap (subtree t) stands.path_is ∙ stands.leads) (same_store ds p.path ∙ is)

  part_stays : (p : Part) → StandsIn [] t p → HasTrace p → not (serves (kept_at (kept_parts ds)) p) ≡ false
      → kept_at (kept_parts ds) p.path ≡ part_trace p
  part_stays p stands traced flag = by (kept_at (kept_parts ds) p.path) refl flag
    where
      by : (o : Option WideTrace) → kept_at (kept_parts ds) p.path ≡ o → not (fits p.before o) ≡ false
          → kept_at (kept_parts ds) p.path ≡ part_trace p
      by None e f = cc
      by (Some trace) e f =
          e ∙ only_one over p.levels p.steps (alone p.tree) p.before trace traced.0 (supports_part p trace stands e)
          (agrees_is p.before trace.looks (unflagged (fits p.before (Some trace)) f)) traced.1

  each_stays : (ps : List Part) → AllByRecursion (StandsIn [] t) ps → AllByRecursion HasTrace ps → (k : ℕ) (s : Stored)
      → slice_get (map stored_part ps) k ≡ Some s
      → slice_get (map (λ p. not (serves (kept_at (kept_parts ds)) p)) ps) k ≡ Some false
      → kept_at (kept_parts ds) s.path ≡ s.trace
  each_stays [] stand traced k s e f = cc
  each_stays (p ∷ ps) stand traced zero s e f =
      subst (λ (x : Stored). kept_at (kept_parts ds) x.path ≡ x.trace) (same_Some (stored_part p) s e)
      (part_stays p stand.0 traced.0 (same_Some (not (serves (kept_at (kept_parts ds)) p)) false f))
  each_stays (p ∷ ps) stand traced (suc k) s e f = each_stays ps stand.1 traced.1 k s e f

-- ---- of one unit, and of all

module _ (over : AllOver) (stand : AllStandIn) (traced : AllTraced) (sheller : Sheller) (sound_by : IsSheller sheller)
  where
    unit_stays : (m : Moment) (u : DocUnit) (ds : List DonePart) → HasPathIfBody u
        → AllByRecursion (HoldsPart u.tagged.tree) ds → (k : ℕ) (s : Stored) → slice_get (fresh_parts_by sheller m u) k
        ≡ Some s
        → slice_get (part_flags_by sheller m u (kept_parts ds)) k ≡ Some false → kept_at (kept_parts ds) s.path
        ≡ s.trace
    unit_stays m u ds placed hold k s = by (has_parts u) (outcome_of m u) refl refl
      where
        by : (b : Bool) (o : Option WideTrace) → has_parts u ≡ b → outcome_of m u ≡ o
            → slice_get (if b then parts_if_done o (unit_parts_by sheller m u) else []) k ≡ Some s
            → slice_get (if b then flags_if_done o (kept_at (kept_parts ds)) (unit_parts_by sheller m u) else []) k
            ≡ Some false
            → kept_at (kept_parts ds) s.path ≡ s.trace
        by false o n e f g = cc
        by true None n e f g = cc
        by true (Some trace) n e f g =
            each_stays over u.tagged.tree ds hold (unit_parts_by sheller m u)
            (stand sheller MOST_LEVELS (allowance m) [] u.tagged.tree (get m.env))
            (traced sheller sound_by MOST_LEVELS (allowance m) [] u.tagged.tree (get m.env) trace
            (outcome_there u m m.env m.left (allowance m) refl refl placed n ∙ e)) k s f g

    units_stay : (m : Moment) (bs : List Bridge) → AllByRecursion IsSoundBridge bs
        → PartsStay (stored_parts_in bs) (fresh_parts_by_from sheller m (units_of (entries_of bs)))
        (part_flags_by_from sheller m (entries_of bs) (stored_parts_in bs))
    units_stay m [] sound i k old new fs s is_old is_new is_fs at flag = cc
    units_stay m (b ∷ bs) sound zero k old new fs s is_old is_new is_fs at flag =
        ap (λ ks. kept_at ks s.path) (sym (same_Some (kept_parts b.parts) old is_old))
        ∙ unit_stays m b.unit b.parts sound.0.placed sound.0.parts.hold k s
        (ap (λ ks. slice_get ks k) (same_Some (fresh_parts_by sheller m b.unit) new is_new) ∙ at)
        (ap (λ gs. slice_get gs k) (same_Some (part_flags_by sheller m b.unit (kept_parts b.parts)) fs is_fs) ∙ flag)
    units_stay m (b ∷ bs) sound (suc i) k old new fs s is_old is_new is_fs at flag =
        units_stay (behind m (outcome_of m b.unit)) bs sound.1 i k old new fs s is_old is_new is_fs at flag

    pub parts_stay : (m : Moment) (bs items whole : List Bridge) (olds : List KeptParts) → All IsSoundBridge bs
        → stored_parts_in bs ≡ olds → stored_parts_in items ≡ fresh_parts_by_from sheller m (units_of (entries_of bs))
        → part_flags_in items ≡ part_flags_by_from sheller m (entries_of bs) (stored_parts_in bs) → whole ≡ items
        → PartsStay olds (stored_parts_in whole) (part_flags_in whole)
    parts_stay m bs items whole olds sound had are marks is =
        subst (λ pss. PartsStay pss (stored_parts_in whole) (part_flags_in whole)) had
        (subst (λ ws. PartsStay (stored_parts_in bs) (stored_parts_in ws) (part_flags_in ws)) (sym is)
        (subst (PartsStay (stored_parts_in bs) (stored_parts_in items)) (sym marks)
        (subst (λ pss. PartsStay (stored_parts_in bs) pss (part_flags_by_from sheller m (entries_of bs)
        (stored_parts_in bs)))
        (sym are)
        (units_stay m bs (recursion_from_All IsSoundBridge bs sound)))))
