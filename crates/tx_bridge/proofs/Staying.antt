-- Units that aren't reached, with their parts.
use Rattle.std.proofs.Common.{◌≡◌, ℕ, suc, ◌+◌, ◌<◌, ◌≤◌, List, [], ◌∷◌, length, drop, map, Option, Some, None}
use Rattle.std.proofs.Common.{slice_index_or, refl, ap, sym, subst, ◌∙◌, arith}
use Rattle.std.proofs.lemmas.List.{drop_more, drop_all}
use Rattle.std.proofs.lemmas.Slice.Eq.{bytes_eq-Decides}
use Rattle.std.specs.Prelude.{Bool, true, false, not, ◌&&◌, ◌||◌, if◌then◌else◌}
use Rattle.std.specs.List.{AllByRecursion, IsDistinct}
use Rattle.std.specs.FinMap.{get}
use Rattle.std.specs.Str.{bytes_eq}
use Rattle.tx_tree.specs.WideTree.{WideTree}
use Rattle.tx_tree.specs.Paths.{subtree}
use Rattle.tx_origin.specs.TaggedTrees.{tagged_of}
use Rattle.tx_exec_form.specs.declared.TheConstants.{MOST_LEVELS}
use Rattle.tx_exec_form.specs.Evaluated.{WideTrace}
use Rattle.tx_exec_form.specs.Laws.{Supports}
use Rattle.tx_exec.specs.Outcomes.{wide_trace, wide_outcome}
use Rattle.tx_parts.specs.Composed.{alone}
use Rattle.tx_parts.specs.Opening.{Sheller, no_shells}
use Rattle.tx_parts.specs.Shellers.{IsSheller}
use Rattle.tx_parts.specs.Parts.{Part, HasTrace, part_trace, Stored, stored_part}
use Rattle.tx_parts.specs.Standing.{StandsIn}
use Rattle.tx_walk.specs.declared.part.Part.{Part as DonePart}
use Rattle.tx_walk.specs.Held.{Store, fits as part_fits, serves}
use Rattle.tx_walk.specs.Walked.{paths_of}
use Rattle.tx_walk.proofs.Agreed.{agrees_is, agrees_of}
use Rattle.tx_walk.proofs.Trees.{both}
use Rattle.tx_units.specs.declared.kinds.Unit.{Unit as DocUnit}
use Rattle.tx_view_form.specs.Outcomes.{Moment, allowance}
use Rattle.tx_bridge.specs.declared.bridge.Bridge.{Bridge}
use Rattle.tx_bridge.specs.Entries.{Entry, outcome_of}
use Rattle.tx_bridge.specs.Reached.{can_be_used, is_kept, are_kept, unit_stays_by}
use Rattle.tx_bridge.specs.PartsKept.{KeptParts, kept_at, has_parts, unit_parts_by, parts_if_done, fresh_parts_by}
use Rattle.tx_bridge.specs.PartsKept.{fresh_parts, flags_if_done, part_flags, part_flags_by}
use Rattle.tx_bridge.specs.HeldParts.{HoldsPart, AreItsParts, kept_part, kept_parts, flags_of_parts}
use Rattle.tx_bridge.specs.HeldParts.{is_same_part, are_same_parts}
use Rattle.tx_bridge.specs.Sound.{TraceHolds, IsSoundBridge, kept_unit}
use Rattle.tx_bridge.specs.UnitLists.{HasPathIfBody}
use Rattle.tx_bridge.proofs.ByParts.{AllStandIn, outcome_there}
use Rattle.tx_bridge.proofs.Marked.{AreKept, each_kept}
use Rattle.tx_bridge.proofs.Remaining.{AllOver, AllTraced, only_one}
use Rattle.tx_bridge.proofs.Taking.{heads}
use Rattle.tx_bridge.proofs.Used.{AllAgree, fits_is, parts_fit}

-- ---- parts that are cached with their traces

one_kept : AllAgree → (p : Part) → HasTrace p → is_kept (stored_part p) p ≡ true
one_kept agree p traced =
    ap (λ b. b && part_fits p.before (part_trace p)) ((bytes_eq-Decides p.path p.path).1 refl)
    ∙ ap (part_fits p.before) traced.1
    ∙ agrees_of p.before traced.0.looks (agree p.levels p.steps (alone p.tree) p.before traced.0 traced.1)

pub stored_kept : AllAgree → (ps : List Part) → AllByRecursion HasTrace ps → are_kept (map stored_part ps) ps ≡ true
stored_kept agree [] traced = refl
stored_kept agree (p ∷ ps) traced =
    ap (λ b. b && are_kept (map stored_part ps) ps) (one_kept agree p traced.0) ∙ stored_kept agree ps traced.1

-- ---- those that a walk finds to be the same are cached

same_by : (k d : DonePart) (p : Part) (kept : Store) (b : Bool) → bytes_eq k.path p.path ≡ b
    → kept k.path ≡ Some (wide_trace k.trace)
    → b && not (not (serves kept p)) ≡ b && part_fits p.before (Some (wide_trace k.trace))
same_by k d p kept false e at = refl
same_by k d p kept true e at =
    let path : p.path ≡ k.path = sym ((bytes_eq-Decides k.path p.path).0 e) in
    twice (serves kept p) ∙ ap (part_fits p.before) (ap kept path ∙ at)
  where
    twice : (b : Bool) → not (not b) ≡ b
    twice true = refl
    twice false = refl

one_same : (kept : Store) (k d : DonePart) (p : Part) → kept k.path ≡ Some (wide_trace k.trace) → d.path ≡ p.path
    → d.renewed ≡ not (serves kept p) → is_same_part k d ≡ is_kept (kept_part k) p
one_same kept k d p at path flag =
    ap (λ q. bytes_eq k.path q && not d.renewed) path
    ∙ ap (λ f. bytes_eq k.path p.path && not f) flag
    ∙ same_by k d p kept (bytes_eq k.path p.path) refl at

pub are_same_is : (kept : Store) (ks ds : List DonePart) (ps : List Part) → AreKept kept ks
    → kept_parts ds ≡ map stored_part ps → flags_of_parts ds ≡ map (λ p. not (serves kept p)) ps
    → are_same_parts ks ds ≡ are_kept (kept_parts ks) ps
are_same_is kept [] [] [] at are flags = refl
are_same_is kept [] [] (p ∷ ps) at are flags = cc
are_same_is kept [] (d ∷ ds) [] at are flags = cc
are_same_is kept [] (d ∷ ds) (p ∷ ps) at are flags = refl
are_same_is kept (k ∷ ks) [] [] at are flags = refl
are_same_is kept (k ∷ ks) [] (p ∷ ps) at are flags = cc
are_same_is kept (k ∷ ks) (d ∷ ds) [] at are flags = cc
are_same_is kept (k ∷ ks) (d ∷ ds) (p ∷ ps) at are flags =
    let parts : (kept_part d ≡ stored_part p) × (kept_parts ds ≡ map stored_part ps) =
    heads (kept_part d) (stored_part p) (kept_parts ds) (map stored_part ps) are in
    let marks : (d.renewed ≡ not (serves kept p)) × (flags_of_parts ds ≡ map (λ q. not (serves kept q)) ps) =
    heads d.renewed (not (serves kept p)) (flags_of_parts ds) (map (λ q. not (serves kept q)) ps) flags in
    ap (λ b. b && are_same_parts ks ds)
    (one_same kept k d p at.0 (ap (λ (s : Stored). s.path) parts.0) marks.0)
    ∙ ap (λ b. is_kept (kept_part k) p && b) (are_same_is kept ks ds ps at.1 parts.1 marks.1)

-- ---- those that are cached are the parts, with their traces

stored_as : List ℕ → Option WideTrace → Stored
stored_as path trace = record { path = path; trace = trace }

one_stored : AllOver → (t : WideTree) (k : DonePart) (p : Part) → HoldsPart t k → StandsIn [] t p → HasTrace p
    → is_kept (kept_part k) p ≡ true → kept_part k ≡ stored_part p
unfolding stored_as
one_stored over t k p hold stands traced is =
    let tests : (bytes_eq k.path p.path ≡ true) × (part_fits p.before (Some (wide_trace k.trace)) ≡ true) =
    both (bytes_eq k.path p.path) (part_fits p.before (Some (wide_trace k.trace))) is in
    let path : k.path ≡ p.path = (bytes_eq-Decides k.path p.path).0 tests.0 in
    let there : Some hold.there ≡ Some p.tree =
    sym hold.leads ∙ ap (subtree t) path ∙ ap (subtree t) stands.path_is ∙ stands.leads in
    let tree : hold.there ≡ p.tree = cc in
    let trace : Some (wide_trace k.trace) ≡ part_trace p =
    only_one over p.levels p.steps (alone p.tree) p.before (wide_trace k.trace) traced.0
    (subst (λ u. Supports (wide_trace k.trace) (alone u)) tree hold.supports)
    (agrees_is p.before (wide_trace k.trace).looks tests.1) traced.1 in
    ap (λ q. stored_as q (Some (wide_trace k.trace))) path ∙ ap (stored_as p.path) trace

pub all_stored : AllOver → (t : WideTree) (ks : List DonePart) (ps : List Part) → AllByRecursion (HoldsPart t) ks
    → AllByRecursion (StandsIn [] t) ps → AllByRecursion HasTrace ps → are_kept (kept_parts ks) ps ≡ true
    → kept_parts ks ≡ map stored_part ps
all_stored over t [] [] hold stand traced is = refl
all_stored over t [] (p ∷ ps) hold stand traced is = cc
all_stored over t (k ∷ ks) [] hold stand traced is = cc
all_stored over t (k ∷ ks) (p ∷ ps) hold stand traced is =
    let tests : (is_kept (kept_part k) p ≡ true) × (are_kept (kept_parts ks) ps ≡ true) =
    both (is_kept (kept_part k) p) (are_kept (kept_parts ks) ps) is in
    ap (λ s. s ∷ kept_parts ks) (one_stored over t k p hold.0 stand.0 traced.0 tests.0)
    ∙ ap (λ ss. stored_part p ∷ ss) (all_stored over t ks ps hold.1 stand.1 traced.1 tests.1)

-- ---- a unit that is evaluated again

shown : (b : Bool) → not b ≡ false → b ≡ true
shown true h = refl
shown false h = cc

-- by the tests that the program makes
stays_by : (sheller : Sheller) (m : Moment) (b : Bridge) (ds : List DonePart) (used : Bool) → IsSoundBridge b
    → used ≡ can_be_used m (wide_outcome b.kept) → (has_parts b.unit ≡ false → used ≡ false)
    → kept_parts ds ≡ fresh_parts_by sheller m b.unit
    → flags_of_parts ds ≡ part_flags_by sheller m b.unit (kept_parts b.parts)
    → used && are_same_parts b.parts ds ≡ unit_stays_by sheller m (kept_unit b) (kept_parts b.parts)
stays_by sheller m b ds false sound is bare are flags =
    ap (λ f. f && (not (has_parts b.unit) || are_kept (kept_parts b.parts) (unit_parts_by sheller m b.unit))) is
stays_by sheller m b ds true sound is bare are flags =
    by (has_parts b.unit) (outcome_of m b.unit) refl refl are flags
    ∙ ap (λ f. f && (not (has_parts b.unit) || are_kept (kept_parts b.parts) (unit_parts_by sheller m b.unit))) is
  where
    comes : wide_outcome b.kept ≡ outcome_of m b.unit
    comes = fits_is m (wide_outcome b.kept) (tagged_of b.unit.tagged) sound.holds (sym is)

    none_fits : outcome_of m b.unit ≡ None → ⊥
    none_fits none = let off : true ≡ false = is ∙ ap (can_be_used m) (comes ∙ none) in cc

    by : (a : Bool) (o : Option WideTrace) → has_parts b.unit ≡ a → outcome_of m b.unit ≡ o
        → kept_parts ds ≡ (if a then parts_if_done o (unit_parts_by sheller m b.unit) else [])
        → flags_of_parts ds
        ≡ (if a then flags_if_done o (kept_at (kept_parts b.parts)) (unit_parts_by sheller m b.unit) else [])
        → are_same_parts b.parts ds
        ≡ (not (has_parts b.unit) || are_kept (kept_parts b.parts) (unit_parts_by sheller m b.unit))
    by false o n e f g = let off : true ≡ false = bare n in cc
    by true None n e f g = absurd (none_fits e)
    by true (Some trace) n e f g =
        are_same_is (kept_at (kept_parts b.parts)) b.parts ds (unit_parts_by sheller m b.unit)
        (each_kept b.parts sound.parts.distinct) f g
        ∙ ap (λ a. not a || are_kept (kept_parts b.parts) (unit_parts_by sheller m b.unit)) (sym n)

pub reached_is : (sheller : Sheller) (m : Moment) (b : Bridge) (ds ks es : List DonePart) (used stays : Bool)
    → IsSoundBridge b → used ≡ can_be_used m (wide_outcome b.kept) → (has_parts b.unit ≡ false → used ≡ false)
    → kept_parts ds ≡ fresh_parts_by sheller m b.unit
    → flags_of_parts ds ≡ part_flags_by sheller m b.unit (kept_parts b.parts) → ks ≡ b.parts → es ≡ ds
    → stays ≡ used && are_same_parts ks es
    → not stays ≡ not (unit_stays_by sheller m (kept_unit b) (kept_parts b.parts))
reached_is sheller m b ds ks es used stays sound is bare are flags own now h =
    ap not (h ∙ ap (λ xs. used && are_same_parts xs es) own ∙ ap (λ xs. used && are_same_parts b.parts xs) now
    ∙ stays_by sheller m b ds used sound is bare are flags)

-- what is cached of it, and of its parts, is as before where it isn't reached
module _ (over : AllOver) (stand : AllStandIn) (traced : AllTraced) (sheller : Sheller) (shells : IsSheller sheller)
    (m : Moment) (b : Bridge) (sound : IsSoundBridge b) (flag : Bool)
    (is : flag ≡ not (unit_stays_by sheller m (kept_unit b) (kept_parts b.parts))) (down : flag ≡ false) where
  stays : unit_stays_by sheller m (kept_unit b) (kept_parts b.parts) ≡ true
  stays = shown (unit_stays_by sheller m (kept_unit b) (kept_parts b.parts)) (sym is ∙ down)

  tests : (can_be_used m (wide_outcome b.kept) ≡ true)
      × ((not (has_parts b.unit) || are_kept (kept_parts b.parts) (unit_parts_by sheller m b.unit)) ≡ true)
  tests =
      both (can_be_used m (wide_outcome b.kept))
      (not (has_parts b.unit) || are_kept (kept_parts b.parts) (unit_parts_by sheller m b.unit)) stays

  pub same_kept : (o : Option WideTrace) → o ≡ outcome_of m b.unit → o ≡ wide_outcome b.kept
  same_kept o comes =
      comes ∙ sym (fits_is m (wide_outcome b.kept) (tagged_of b.unit.tagged) sound.holds tests.0)

  pub same_parts_kept : (ks : KeptParts) (used : Bool) → used ≡ can_be_used m (wide_outcome b.kept)
      → (has_parts b.unit ≡ false → used ≡ false) → ks ≡ fresh_parts_by sheller m b.unit → ks ≡ kept_parts b.parts
  same_parts_kept ks used may bare are = are ∙ by (has_parts b.unit) (outcome_of m b.unit) refl refl
    where
      comes : wide_outcome b.kept ≡ outcome_of m b.unit
      comes = fits_is m (wide_outcome b.kept) (tagged_of b.unit.tagged) sound.holds tests.0

      none_fits : outcome_of m b.unit ≡ None → ⊥
      none_fits none = let off : true ≡ false = sym tests.0 ∙ ap (can_be_used m) (comes ∙ none) in cc

      by : (a : Bool) (o : Option WideTrace) → has_parts b.unit ≡ a → outcome_of m b.unit ≡ o
          → (if a then parts_if_done o (unit_parts_by sheller m b.unit) else []) ≡ kept_parts b.parts
      by false o n e = let off : true ≡ false = sym tests.0 ∙ sym may ∙ bare n in cc
      by true None n e = absurd (none_fits e)
      by true (Some trace) n e =
          sym (all_stored over b.unit.tagged.tree b.parts (unit_parts_by sheller m b.unit) sound.parts.hold
          (stand sheller MOST_LEVELS (allowance m) [] b.unit.tagged.tree (get m.env))
          (traced sheller shells MOST_LEVELS (allowance m) [] b.unit.tagged.tree (get m.env) trace
          (outcome_there b.unit m m.env m.left (allowance m) refl refl sound.placed n ∙ e))
          (ap (λ a. not a || are_kept (kept_parts b.parts) (unit_parts_by sheller m b.unit)) (sym n) ∙ tests.1))

-- ---- the same parts, one after the other

abbrev pub AreSameFrom : List DonePart → List DonePart → ℕ → Type 0
AreSameFrom ks ps i = are_same_parts (drop i ks) (drop i ps) ≡ are_same_parts ks ps

module _ (ks ps : List DonePart) (i : ℕ) (many : length ks ≡ length ps) (inside : i < length ps)
    (so_far : AreSameFrom ks ps i) (k p : DonePart) where
  first_same : is_same_part (slice_index_or ks i k) (slice_index_or ps i p)
      && are_same_parts (drop (i + 1) ks) (drop (i + 1) ps) ≡ are_same_parts ks ps
  first_same =
      sym (ap (λ xs. are_same_parts xs (drop i ps)) (drop_more ks i k (omega (arith, many, inside)))
      ∙ ap (are_same_parts (slice_index_or ks i k ∷ drop (i + 1) ks)) (drop_more ps i p inside)) ∙ so_far

  pub same_more : is_same_part (slice_index_or ks i k) (slice_index_or ps i p) ≡ true → AreSameFrom ks ps (i + 1)
  same_more is =
      sym (ap (λ b. b && are_same_parts (drop (i + 1) ks) (drop (i + 1) ps)) is) ∙ first_same

  pub same_ends : is_same_part (slice_index_or ks i k) (slice_index_or ps i p) ≡ false → false ≡ are_same_parts ks ps
  same_ends is =
      sym (ap (λ b. b && are_same_parts (drop (i + 1) ks) (drop (i + 1) ps)) is) ∙ first_same

pub same_all : (ks ps : List DonePart) (i : ℕ) → length ks ≡ length ps → length ps ≤ i → AreSameFrom ks ps i
    → true ≡ are_same_parts ks ps
same_all ks ps i many past h =
    sym (ap (λ xs. are_same_parts xs (drop i ps)) (drop_all i ks (omega (arith, many, past)))
    ∙ ap (are_same_parts []) (drop_all i ps past)) ∙ h

pub other_many : (ks ps : List DonePart) → (length ks ≡ length ps → ⊥) → false ≡ are_same_parts ks ps
other_many [] [] h = absurd (h refl)
other_many [] (p ∷ ps) h = refl
other_many (k ∷ ks) [] h = refl
other_many (k ∷ ks) (p ∷ ps) h =
    by (is_same_part k p) ∙ ap (λ b. is_same_part k p && b) (other_many ks ps (λ e. h (ap suc e)))
  where
    by : (b : Bool) → false ≡ b && false
    by true = refl
    by false = refl
