-- Parts that have moved to new units hold there, and those that are in none are apart.
use Rattle.std.proofs.Common.{◌≡◌, ℕ, suc, ◌+◌, Bool, true, false, List, [], ◌∷◌, ◌++◌, map, refl, sym, ap, subst}
use Rattle.std.proofs.Common.{Option, Some, None, ◌∙◌, arith, length}
use Rattle.std.proofs.lemmas.Bool.Decides.{Decides-eqb}
use Rattle.std.proofs.lemmas.List.{append_cancel_left}
use Rattle.std.proofs.lemmas.List.Elements.{filter_map-append, recursion_from_All}
use Rattle.std.proofs.lemmas.Map.Keys.{IsDistinct-head, IsDistinct-tail, IsDistinct-cons}
use Rattle.std.proofs.lemmas.Option.{same_Some, slice_get_within}
use Rattle.std.proofs.lemmas.Slice.Eq.{bytes_eq-Decides}
use Rattle.std.specs.List.{All, AllByRecursion, IsDistinct, cons_option, filter_map}
use Rattle.std.specs.Option.{option_map, option_map_or}
use Rattle.std.specs.Prelude.{◌==◌, if◌then◌else◌, slice_get, option_and_then}
use Rattle.std.specs.Str.{bytes_eq}
use Rattle.tx_tree.specs.WideTree.{WideTree}
use Rattle.tx_tree.specs.Paths.{subtree}
use Rattle.tx_mod.specs.declared.mods.Mod.{Mod}
use Rattle.tx_mod.specs.Followed.{CarriesSubtree, CarriesThroughAll, changed_by_all, carried_by_all}
use Rattle.tx_mod.proofs.Kept.{subtree_behind}
use Rattle.tx_parts.specs.Parts.{Stored}
use Rattle.tx_units.specs.declared.kinds.Unit.{Unit as DocUnit}
use Rattle.tx_units.specs.Places.{AreApart, NoneBegins}
use Rattle.tx_walk.specs.Walked.{IsTidy, paths_of}
use Rattle.tx_bridge.specs.declared.course.PartMove.{PartMove}
use Rattle.tx_bridge.specs.Carrying.{through, Stands, AllStand}
use Rattle.tx_bridge.specs.Courses.{arrived_parts}
use Rattle.tx_bridge.specs.HeldParts.{HoldsPart, kept_part, kept_parts}
use Rattle.tx_bridge.specs.PartMoves.{Move, NoneAbove, is_vacant, rest_in, unit_above, move_to, move_from, move_of}
use Rattle.tx_bridge.specs.PartMoves.{moves_below, moves_from, part_moves, seen_move, kept_in_unit, arrived}
use Rattle.tx_bridge.specs.PartsKept.{KeptParts, part_paths}
use Rattle.tx_bridge.proofs.Above.{IsIn, rest_in_is, in_rest, found_at, far_at}
use Rattle.tx_bridge.proofs.Inside.{fronts_meet}
use Rattle.tx_bridge.proofs.Injective.{carried_once}
use Rattle.tx_bridge.proofs.WithinUnit.{Holds, hold_done, kept_paths, clash}

-- ---- parts with their paths in the document

-- the part of number k of the old unit i, at its path in the document
record Standing : Type 0 where
  from : ℕ
  number : ℕ
  path : List ℕ
  kept : Stored

abbrev standing_below : ℕ → List ℕ → ℕ → KeptParts → List Standing
standing_below i p k [] = []
standing_below i p k (s ∷ ks) =
    record { from = i; number = k; path = p ++ s.path; kept = s } ∷ standing_below i p (k + 1) ks

abbrev unit_standing : Bool → ℕ → Option (List ℕ) → KeptParts → List Standing
unit_standing left i o ks = if left then option_map_or (λ p. standing_below i p 0 ks) o [] else []

module _ (ms : List Mod) (t : WideTree) (vs : List DocUnit) where
  -- what moves, if it moves
  abbrev goes : Standing → Option Move
  goes e = move_from ms t vs e.from e.number e.path e.kept

  abbrev standing_from : ℕ → List DocUnit → List KeptParts → List Standing
  standing_from i [] pss = []
  standing_from i (u ∷ us) [] = []
  standing_from i (u ∷ us) (ks ∷ pss) =
      unit_standing (is_vacant (through ms t u.path) vs) i u.path ks ++ standing_from (i + 1) us pss

  below_goes : (i : ℕ) (p : List ℕ) (k : ℕ) (ks : KeptParts)
      → moves_below ms t vs i p k ks ≡ filter_map goes (standing_below i p k ks)
  below_goes i p k [] = refl
  below_goes i p k (s ∷ ks) =
      ap (cons_option (move_of ms t vs i p k s)) (below_goes i p (k + 1) ks)

  unit_goes : (left : Bool) (i : ℕ) (o : Option (List ℕ)) (ks : KeptParts)
      → (if left then option_map_or (λ p. moves_below ms t vs i p 0 ks) o [] else [])
      ≡ filter_map goes (unit_standing left i o ks)
  unit_goes true i (Some p) ks = below_goes i p 0 ks
  unit_goes true i None ks = refl
  unit_goes false i o ks = refl

  all_go : (i : ℕ) (us : List DocUnit) (pss : List KeptParts)
      → moves_from ms t vs i us pss ≡ filter_map goes (standing_from i us pss)
  all_go i [] pss = refl
  all_go i (u ∷ us) [] = refl
  all_go i (u ∷ us) (ks ∷ pss) =
      ap (λ xs. xs ++ moves_from ms t vs (i + 1) us pss) (unit_goes (is_vacant (through ms t u.path) vs) i u.path ks)
      ∙ ap (λ xs. filter_map goes (unit_standing (is_vacant (through ms t u.path) vs) i u.path ks) ++ xs)
      (all_go (i + 1) us pss)
      ∙ sym (filter_map-append goes (unit_standing (is_vacant (through ms t u.path) vs) i u.path ks)
      (standing_from (i + 1) us pss))

-- ---- what is known of them

-- the path leads in t to a tree that the trace supports
abbrev Leading : WideTree → Standing → Type 0
Leading t e = Holds t (record { path = e.path; trace = e.kept.trace })

abbrev paths_of_all : List Standing → List (List ℕ)
paths_of_all es = map (λ e. e.path) es

all_onto : (P : Standing → Type 0) (es fs : List Standing) → AllByRecursion P es → AllByRecursion P fs
    → AllByRecursion P (es ++ fs)
all_onto P [] fs h g = g
all_onto P (e ∷ es) fs h g = (h.0, all_onto P es fs h.1 g)

below_leads : (t x : WideTree) (i : ℕ) (p : List ℕ) (k : ℕ) (ks : KeptParts) → subtree t p ≡ Some x
    → AllByRecursion (Holds x) ks → AllByRecursion (Leading t) (standing_below i p k ks)
below_leads t x i p k [] at h = tt
below_leads t x i p k (s ∷ ks) at h = (
  record { there = h.0.there; leads = subtree_behind p s.path t x at ∙ h.0.leads; supports = h.0.supports },
  below_leads t x i p (k + 1) ks at h.1,
)

-- a path differs from all of these
abbrev DiffersFrom : List ℕ → List Standing → Type 0
DiffersFrom a es = AllByRecursion (λ b. bytes_eq a b ≡ false) (paths_of_all es)

-- each of the first differs from all of the others
abbrev AllDiffer : List Standing → List Standing → Type 0
AllDiffer es fs = AllByRecursion (λ e. DiffersFrom e.path fs) es

differs_onto : (a : List ℕ) (es fs : List Standing) → DiffersFrom a es → DiffersFrom a fs → DiffersFrom a (es ++ fs)
differs_onto a [] fs h g = g
differs_onto a (e ∷ es) fs h g = (h.0, differs_onto a es fs h.1 g)

distinct_onto : (es fs : List Standing) → IsDistinct bytes_eq (paths_of_all es) → IsDistinct bytes_eq (paths_of_all fs)
    → AllDiffer es fs → IsDistinct bytes_eq (paths_of_all (es ++ fs))
distinct_onto [] fs d g h = g
distinct_onto (e ∷ es) fs d g h =
    IsDistinct-cons bytes_eq e.path (paths_of_all (es ++ fs))
    (differs_onto e.path es fs (IsDistinct-head bytes_eq e.path (paths_of_all es) d) h.0)
    (distinct_onto es fs (IsDistinct-tail bytes_eq e.path (paths_of_all es) d) g h.1)

off_by : (b : Bool) → (b ≡ true → ⊥) → b ≡ false
off_by true h = absurd (h refl)
off_by false h = refl

below_differs : (i : ℕ) (p a : List ℕ) (k : ℕ) (ks : KeptParts)
    → AllByRecursion (λ b. bytes_eq a b ≡ false) (part_paths ks) → DiffersFrom (p ++ a) (standing_below i p k ks)
below_differs i p a k [] h = tt
below_differs i p a k (s ∷ ks) h = (
  off_by (bytes_eq (p ++ a) (p ++ s.path))
      (λ e.
      let same : a ≡ s.path = append_cancel_left p a s.path ((bytes_eq-Decides (p ++ a) (p ++ s.path)).0 e) in
      clash (sym h.0 ∙ (bytes_eq-Decides a s.path).1 same)),
  below_differs i p a (k + 1) ks h.1,
)

below_distinct : (i : ℕ) (p : List ℕ) (k : ℕ) (ks : KeptParts) → IsDistinct bytes_eq (part_paths ks)
    → IsDistinct bytes_eq (paths_of_all (standing_below i p k ks))
below_distinct i p k [] d = d
below_distinct i p k (s ∷ ks) d =
    IsDistinct-cons bytes_eq (p ++ s.path) (paths_of_all (standing_below i p (k + 1) ks))
    (below_differs i p s.path (k + 1) ks (IsDistinct-head bytes_eq s.path (part_paths ks) d))
    (below_distinct i p (k + 1) ks (IsDistinct-tail bytes_eq s.path (part_paths ks) d))

-- ---- of two units

-- the path is none below that of a unit with this one
abbrev IsOutside : List ℕ → Option (List ℕ) → Type 0
IsOutside a o = (q s : List ℕ) → o ≡ Some q → a ≡ q ++ s → ⊥

outside_below : (a : List ℕ) (i : ℕ) (q : List ℕ) (k : ℕ) (ks : KeptParts) → IsOutside a (Some q)
    → DiffersFrom a (standing_below i q k ks)
outside_below a i q k [] out = tt
outside_below a i q k (s ∷ ks) out = (
  off_by (bytes_eq a (q ++ s.path)) (λ e. out q s.path refl ((bytes_eq-Decides a (q ++ s.path)).0 e)),
  outside_below a i q (k + 1) ks out,
)

outside_unit : (a : List ℕ) (left : Bool) (i : ℕ) (o : Option (List ℕ)) (ks : KeptParts) → IsOutside a o
    → DiffersFrom a (unit_standing left i o ks)
outside_unit a true i (Some q) ks out = outside_below a i q 0 ks out
outside_unit a true i None ks out = tt
outside_unit a false i o ks out = tt

module _ (ms : List Mod) (t : WideTree) (vs : List DocUnit) where
  outside_all : (a : List ℕ) (i : ℕ) (us : List DocUnit) (pss : List KeptParts)
      → AllByRecursion (λ u. IsOutside a u.path) us → DiffersFrom a (standing_from ms t vs i us pss)
  outside_all a i [] pss out = tt
  outside_all a i (u ∷ us) [] out = tt
  outside_all a i (u ∷ us) (ks ∷ pss) out =
      differs_onto a (unit_standing (is_vacant (through ms t u.path) vs) i u.path ks)
      (standing_from ms t vs (i + 1) us pss)
      (outside_unit a (is_vacant (through ms t u.path) vs) i u.path ks out.0) (outside_all a (i + 1) us pss out.1)

  is_outside : (o : Option (List ℕ)) (p a : List ℕ) (r : Option (List ℕ)) → AreApart o r → o ≡ Some p
      → IsOutside (p ++ a) r
  is_outside o p a r apart is q s f e =
      fronts_meet p q a s e (λ more g. (apart p more).0 is (f ∙ ap (λ z. Some z) g))
      (λ more g. (apart q more).1 f (is ∙ ap (λ z. Some z) g))

  all_outside : (o : Option (List ℕ)) (p a : List ℕ) (us : List DocUnit) → AllByRecursion (λ v. AreApart o v.path) us
      → o ≡ Some p → AllByRecursion (λ u. IsOutside (p ++ a) u.path) us
  all_outside o p a [] apart is = tt
  all_outside o p a (u ∷ us) apart is =
      (is_outside o p a u.path apart.0 is, all_outside o p a us apart.1 is)

  below_apart : (o : Option (List ℕ)) (i : ℕ) (p : List ℕ) (k : ℕ) (ks : KeptParts) (j : ℕ) (us : List DocUnit)
      (pss : List KeptParts) → AllByRecursion (λ v. AreApart o v.path) us → o ≡ Some p
      → AllDiffer (standing_below i p k ks) (standing_from ms t vs j us pss)
  below_apart o i p k [] j us pss apart is = tt
  below_apart o i p k (s ∷ ks) j us pss apart is = (
    outside_all (p ++ s.path) j us pss (all_outside o p s.path us apart is),
    below_apart o i p (k + 1) ks j us pss apart is,
  )

  unit_apart : (left : Bool) (o : Option (List ℕ)) (i : ℕ) (ks : KeptParts) (j : ℕ) (us : List DocUnit)
      (pss : List KeptParts) → AllByRecursion (λ v. AreApart o v.path) us
      → AllDiffer (unit_standing left i o ks) (standing_from ms t vs j us pss)
  unit_apart true (Some p) i ks j us pss apart = below_apart (Some p) i p 0 ks j us pss apart refl
  unit_apart true None i ks j us pss apart = tt
  unit_apart false o i ks j us pss apart = tt

  unit_leads : (left : Bool) (i : ℕ) (o : Option (List ℕ)) (x : WideTree) (ks : KeptParts)
      → ((p : List ℕ) → o ≡ Some p → subtree t p ≡ Some x) → AllByRecursion (Holds x) ks
      → AllByRecursion (Leading t) (unit_standing left i o ks)
  unit_leads true i (Some p) x ks at h = below_leads t x i p 0 ks (at p refl) h
  unit_leads true i None x ks at h = tt
  unit_leads false i o x ks at h = tt

  unit_distinct : (left : Bool) (i : ℕ) (o : Option (List ℕ)) (ks : KeptParts) → IsDistinct bytes_eq (part_paths ks)
      → IsDistinct bytes_eq (paths_of_all (unit_standing left i o ks))
  unfolding IsDistinct
  unit_distinct true i (Some p) ks d = below_distinct i p 0 ks d
  unit_distinct true i None ks d = tt
  unit_distinct false i o ks d = tt

  -- what is cached of the parts of each unit holds in its tree, and no two have one path
  abbrev pub AllHoldParts : List DocUnit → List KeptParts → Type 0
  AllHoldParts [] pss = Unit {0}
  AllHoldParts (u ∷ us) [] = Unit {0}
  AllHoldParts (u ∷ us) (ks ∷ pss) =
      (AllByRecursion (Holds u.tagged.tree) ks × IsDistinct bytes_eq (part_paths ks)) × AllHoldParts us pss

  all_lead : (i : ℕ) (us : List DocUnit) (pss : List KeptParts) → AllStand t us → AllHoldParts us pss
      → AllByRecursion (Leading t) (standing_from ms t vs i us pss)
  all_lead i [] pss stand h = tt
  all_lead i (u ∷ us) [] stand h = tt
  all_lead i (u ∷ us) (ks ∷ pss) stand h =
      all_onto (Leading t) (unit_standing (is_vacant (through ms t u.path) vs) i u.path ks)
      (standing_from ms t vs (i + 1) us pss)
      (unit_leads (is_vacant (through ms t u.path) vs) i u.path u.tagged.tree ks stand.0 h.0.0)
      (all_lead (i + 1) us pss stand.1 h.1)

  all_distinct : (i : ℕ) (us : List DocUnit) (pss : List KeptParts) → NoneBegins us → AllHoldParts us pss
      → IsDistinct bytes_eq (paths_of_all (standing_from ms t vs i us pss))
  unfolding IsDistinct
  all_distinct i [] pss apart h = tt
  all_distinct i (u ∷ us) [] apart h = tt
  all_distinct i (u ∷ us) (ks ∷ pss) apart h =
      distinct_onto (unit_standing (is_vacant (through ms t u.path) vs) i u.path ks)
      (standing_from ms t vs (i + 1) us pss)
      (unit_distinct (is_vacant (through ms t u.path) vs) i u.path ks h.0.1) (all_distinct (i + 1) us pss apart.1 h.1)
      (unit_apart (is_vacant (through ms t u.path) vs) u.path i ks (i + 1) us pss apart.0)

-- ---- strays

-- strays with these paths, which are in no unit, differ from what is in one
inside_differs : (u : DocUnit) (p a : List ℕ) (n k : ℕ) (ks : KeptParts) → u.path ≡ Some p
    → AllByRecursion (λ s. rest_in u s.path ≡ None) ks → DiffersFrom (p ++ a) (standing_below n [] k ks)
inside_differs u p a n k [] has h = tt
inside_differs u p a n k (s ∷ ks) has h = (
  off_by (bytes_eq (p ++ a) s.path)
      (λ e.
      let same : p ++ a ≡ s.path = (bytes_eq-Decides (p ++ a) s.path).0 e in
      let off : None ≡ Some a = sym h.0 ∙ ap (rest_in u) (sym same) ∙ in_rest u p a has in
      cc),
  inside_differs u p a n (k + 1) ks has h.1,
)

parts_beside : (u : DocUnit) (p : List ℕ) (i k : ℕ) (qs : KeptParts) (n : ℕ) (ks : KeptParts) → u.path ≡ Some p
    → AllByRecursion (λ s. rest_in u s.path ≡ None) ks
    → AllDiffer (standing_below i p k qs) (standing_below n [] 0 ks)
parts_beside u p i k [] n ks has h = tt
parts_beside u p i k (q ∷ qs) n ks has h =
    (inside_differs u p q.path n 0 ks has h, parts_beside u p i (k + 1) qs n ks has h)

unit_beside : (u : DocUnit) (left : Bool) (i : ℕ) (o : Option (List ℕ)) (qs : KeptParts) (n : ℕ) (ks : KeptParts)
    → u.path ≡ o → AllByRecursion (λ s. rest_in u s.path ≡ None) ks
    → AllDiffer (unit_standing left i o qs) (standing_below n [] 0 ks)
unit_beside u true i (Some p) qs n ks has h = parts_beside u p i 0 qs n ks has h
unit_beside u true i None qs n ks has h = tt
unit_beside u false i o qs n ks has h = tt

-- none of these is in a unit
abbrev pub AllOutside : List DocUnit → KeptParts → Type 0
AllOutside us ks = AllByRecursion (λ s. NoneAbove s.path us) ks

outside_first : (u : DocUnit) (us : List DocUnit) (ks : KeptParts) → AllOutside (u ∷ us) ks
    → AllByRecursion (λ s. rest_in u s.path ≡ None) ks
outside_first u us [] h = tt
outside_first u us (s ∷ ks) h = (h.0 0 u refl, outside_first u us ks h.1)

outside_others : (u : DocUnit) (us : List DocUnit) (ks : KeptParts) → AllOutside (u ∷ us) ks → AllOutside us ks
outside_others u us [] h = tt
outside_others u us (s ∷ ks) h = ((λ k v e. h.0 (suc k) v e), outside_others u us ks h.1)

-- what is cached of strays holds in the tree, no two have one path, and none is in a unit
pub record HoldAside (t : WideTree) (us : List DocUnit) (ks : KeptParts) : Type 0 where
  pub hold : AllByRecursion (Holds t) ks
  pub distinct : IsDistinct bytes_eq (part_paths ks)
  pub outside : AllOutside us ks

module _ (ms : List Mod) (t : WideTree) (vs : List DocUnit) where
  all_beside : (i : ℕ) (us : List DocUnit) (pss : List KeptParts) (n : ℕ) (ks : KeptParts) → AllOutside us ks
      → AllDiffer (standing_from ms t vs i us pss) (standing_below n [] 0 ks)
  all_beside i [] pss n ks out = tt
  all_beside i (u ∷ us) [] n ks out = tt
  all_beside i (u ∷ us) (qs ∷ pss) n ks out =
      all_onto (λ e. DiffersFrom e.path (standing_below n [] 0 ks))
      (unit_standing (is_vacant (through ms t u.path) vs) i u.path qs) (standing_from ms t vs (i + 1) us pss)
      (unit_beside u (is_vacant (through ms t u.path) vs) i u.path qs n ks refl (outside_first u us ks out))
      (all_beside (i + 1) us pss n ks (outside_others u us ks out))

  module _ (us : List DocUnit) (pss : List KeptParts) (ks : KeptParts) where
    -- parts of units, and strays
    abbrev everything : List Standing
    everything = standing_from ms t vs 0 us pss ++ standing_below (length us) [] 0 ks

    everything_goes : part_moves 0 ms t us pss ks vs ≡ filter_map (goes ms t vs) everything
    everything_goes =
        ap (λ xs. xs ++ moves_below ms t vs (length us) [] 0 ks) (all_go ms t vs 0 us pss)
        ∙ ap (λ xs. filter_map (goes ms t vs) (standing_from ms t vs 0 us pss) ++ xs)
        (below_goes ms t vs (length us) [] 0 ks)
        ∙ sym (filter_map-append (goes ms t vs) (standing_from ms t vs 0 us pss)
        (standing_below (length us) [] 0 ks))

    module _ (stand : AllStand t us) (hold : AllHoldParts ms t vs us pss) (aside : HoldAside t us ks) where
      everything_leads : AllByRecursion (Leading t) everything
      everything_leads =
          all_onto (Leading t) (standing_from ms t vs 0 us pss) (standing_below (length us) [] 0 ks)
          (all_lead ms t vs 0 us pss stand hold) (below_leads t t (length us) [] 0 ks refl aside.hold)

      everything_distinct : NoneBegins us → IsDistinct bytes_eq (paths_of_all everything)
      everything_distinct apart =
          distinct_onto (standing_from ms t vs 0 us pss) (standing_below (length us) [] 0 ks)
          (all_distinct ms t vs 0 us pss apart hold) (below_distinct (length us) [] 0 ks aside.distinct)
          (all_beside 0 us pss (length us) ks aside.outside)

-- ---- where they move to

module _ (ms : List Mod) (t w : WideTree) (vs : List DocUnit)
    (through_all : (q : List ℕ) → CarriesThroughAll ms t q)
    (law : (m : Mod) (s : WideTree) (q : List ℕ) → CarriesSubtree m s q) (made : changed_by_all ms t ≡ Some w)
    (j : ℕ) (IsFront : List ℕ → Type 0) (one : (p q : List ℕ) → IsFront p → IsFront q → p ≡ q)
    (x : WideTree) (stands : (p : List ℕ) → IsFront p → subtree w p ≡ Some x)
    (fronted : (place : List ℕ) → (unit_above 0 vs place).0 ≡ j
    → (p : List ℕ) × IsFront p × (place ≡ p ++ (unit_above 0 vs place).1)) where
  abbrev arrives : Standing → Option Stored
  arrives e = option_and_then (kept_in_unit j) (goes ms t vs e)

  abbrev there_at : List ℕ → Standing → Stored
  there_at r e = record { path = r; trace = e.kept.trace }

  -- it is carried to a place of this number
  record Comes (e : Standing) (r : List ℕ) : Type 0 where
    place : List ℕ
    is : carried_by_all ms t e.path ≡ Some place
    number : (unit_above 0 vs place).0 ≡ j
    rest : (unit_above 0 vs place).1 ≡ r

  -- what holds without the part, and with it where it is carried to, holds
  by_above : (Q : KeptParts → Type 0) (e : Standing) (ks : KeptParts) → Q ks
      → ((r : List ℕ) → Comes e r → Q (there_at r e ∷ ks)) → Q (cons_option (arrives e) ks)
  by_above Q e ks none some = by_place (carried_by_all ms t e.path) refl
    where
      by_test : (place : List ℕ) → carried_by_all ms t e.path ≡ Some place
          → (b : Bool) → (unit_above 0 vs place).0 == j ≡ b
          → Q (cons_option (if b then Some (there_at (unit_above 0 vs place).1 e) else None) ks)
      by_test place is true here =
          some (unit_above 0 vs place).1
          (record { place = place; is = is; number = (Decides-eqb (unit_above 0 vs place).0 j).0 here; rest = refl })
      by_test place is false here = none

      by_place : (o : Option (List ℕ)) → carried_by_all ms t e.path ≡ o
          → Q (cons_option (option_and_then (kept_in_unit j)
          (option_map (λ place. move_to e.from e.number e.kept (unit_above 0 vs place)) o)) ks)
      by_place None is = none
      by_place (Some place) is = by_test place is ((unit_above 0 vs place).0 == j) refl

  -- it is so far below a front
  below_front : (e : Standing) (r : List ℕ) → Comes e r
      → (p : List ℕ) × IsFront p × (carried_by_all ms t e.path ≡ Some (p ++ r))
  below_front e r c =
      let f = fronted c.place c.number in
      (f.0, f.1, c.is ∙ ap (λ z. Some z) (f.2 ∙ ap (λ z. f.0 ++ z) c.rest))

  holds_there : (e : Standing) (r : List ℕ) → Leading t e → Comes e r → Holds x (there_at r e)
  holds_there e r h c = let f = below_front e r c in record {
    there = h.there;
    leads =
        sym (subtree_behind f.0 r w x (stands f.0 f.1))
        ∙ through_all e.path w h.there (f.0 ++ r) made h.leads f.2;
    supports = h.supports;
  }

  hold_there : (es : List Standing) → AllByRecursion (Leading t) es
      → AllByRecursion (Holds x) (filter_map arrives es)
  hold_there [] h = tt
  hold_there (e ∷ es) h =
      by_above (AllByRecursion (Holds x)) e (filter_map arrives es) (hold_there es h.1)
      (λ r c. (holds_there e r h.0 c, hold_there es h.1))

  apart_there : (d e : Standing) (r s : List ℕ) → bytes_eq d.path e.path ≡ false → Leading t d → Leading t e
      → Comes d r → Comes e s → bytes_eq r s ≡ false
  apart_there d e r s apart g h c b =
      off_by (bytes_eq r s)
      (λ is.
      let f = below_front d r c in
      let y = below_front e s b in
      let both : carried_by_all ms t d.path ≡ Some (y.0 ++ s) =
      f.2 ∙ ap (λ p. Some (p ++ r)) (one f.0 y.0 f.1 y.1)
      ∙ ap (λ z. Some (y.0 ++ z)) ((bytes_eq-Decides r s).0 is) in
      let same : d.path ≡ e.path =
      carried_once law ms t w d.path e.path (y.0 ++ s) g.there h.there made g.leads h.leads both y.2 in
      clash (sym apart ∙ (bytes_eq-Decides d.path e.path).1 same))

  all_apart_there : (d : Standing) (r : List ℕ) (es : List Standing) → Leading t d → Comes d r → DiffersFrom d.path es
      → AllByRecursion (Leading t) es
      → AllByRecursion (λ s. bytes_eq r s ≡ false) (part_paths (filter_map arrives es))
  all_apart_there d r [] g c apart h = tt
  all_apart_there d r (e ∷ es) g c apart h =
      by_above (λ ks. AllByRecursion (λ s. bytes_eq r s ≡ false) (part_paths ks)) e (filter_map arrives es)
      (all_apart_there d r es g c apart.1 h.1)
      (λ s b. (apart_there d e r s apart.0 g h.0 c b, all_apart_there d r es g c apart.1 h.1))

  distinct_there : (es : List Standing) → AllByRecursion (Leading t) es → IsDistinct bytes_eq (paths_of_all es)
      → IsDistinct bytes_eq (part_paths (filter_map arrives es))
  unfolding IsDistinct
  distinct_there [] h d = tt
  distinct_there (e ∷ es) h d =
      let rest : IsDistinct bytes_eq (part_paths (filter_map arrives es)) =
      distinct_there es h.1 (IsDistinct-tail bytes_eq e.path (paths_of_all es) d) in
      by_above (λ ks. IsDistinct bytes_eq (part_paths ks)) e (filter_map arrives es) rest
      (λ r c. IsDistinct-cons bytes_eq r (part_paths (filter_map arrives es))
      (all_apart_there e r es h.0 c (IsDistinct-head bytes_eq e.path (paths_of_all es) d) h.1) rest)

-- ---- what has arrived, by what the program has

filter_twice : {A B C : Type 0} (f : B → Option C) (g : A → Option B) (xs : List A)
    → filter_map f (filter_map g xs) ≡ filter_map (λ x. option_and_then f (g x)) xs
filter_twice f g [] = refl
filter_twice {A} {B} f g (x ∷ xs) = by (g x) (filter_twice f g xs)
  where
    by : (o : Option B) → filter_map f (filter_map g xs) ≡ filter_map (λ y. option_and_then f (g y)) xs
        → filter_map f (cons_option o (filter_map g xs))
        ≡ cons_option (option_and_then f o) (filter_map (λ y. option_and_then f (g y)) xs)
    by None e = e
    by (Some y) e = ap (cons_option (f y)) e

pub kept_arrived : (ps : List PartMove) (j : ℕ) → kept_parts (arrived_parts ps j) ≡ arrived (map seen_move ps) j
kept_arrived [] j = refl
kept_arrived (m ∷ ps) j = by (m.to == j) (kept_arrived ps j)
  where
    by : (b : Bool) → kept_parts (arrived_parts ps j) ≡ arrived (map seen_move ps) j
        → kept_parts (cons_option (if b then Some m.part else None) (arrived_parts ps j))
        ≡ cons_option (if b then Some (kept_part m.part) else None) (arrived (map seen_move ps) j)
    by true e = ap (λ ks. kept_part m.part ∷ ks) e
    by false e = e

tidy_arrived : (ps : List PartMove) (j : ℕ) → AllByRecursion (λ m. IsTidy m.part) ps
    → AllByRecursion IsTidy (arrived_parts ps j)
tidy_arrived [] j h = tt
tidy_arrived (m ∷ ps) j h = by (m.to == j) (tidy_arrived ps j h.1)
  where
    by : (b : Bool) → AllByRecursion IsTidy (arrived_parts ps j)
        → AllByRecursion IsTidy (cons_option (if b then Some m.part else None) (arrived_parts ps j))
    by true g = (h.0, g)
    by false g = g

module _ (ms : List Mod) (t w : WideTree) (us vs : List DocUnit) (pss : List KeptParts) (ks : KeptParts)
    (through_all : (q : List ℕ) → CarriesThroughAll ms t q)
    (law : (m : Mod) (s : WideTree) (q : List ℕ) → CarriesSubtree m s q) (made : changed_by_all ms t ≡ Some w)
    (stand : AllStand t us) (apart : NoneBegins us) (hold : AllHoldParts ms t vs us pss) (aside : HoldAside t us ks)
  where
    -- what has arrived in the unit of this number
    arrived_as : (j : ℕ) → arrived (part_moves 0 ms t us pss ks vs) j
        ≡ filter_map (λ e. option_and_then (kept_in_unit j) (goes ms t vs e)) (everything ms t vs us pss ks)
    arrived_as j =
        ap (λ xs. arrived xs j) (everything_goes ms t vs us pss ks)
        ∙ filter_twice (kept_in_unit j) (goes ms t vs) (everything ms t vs us pss ks)

    -- The parts that have moved to the unit v of number j hold there, and no two have one path.
    module _ (ps : List PartMove) (seen : map seen_move ps ≡ part_moves 0 ms t us pss ks vs)
        (tidy : All (λ m. IsTidy m.part) ps) (j : ℕ) (v : DocUnit) (at : slice_get vs j ≡ Some v) (now : Stands w v)
      where
        below_unit : (place : List ℕ) → (unit_above 0 vs place).0 ≡ j
            → (p : List ℕ) × (v.path ≡ Some p) × (place ≡ p ++ (unit_above 0 vs place).1)
        below_unit place here =
            let f = found_at 0 vs place (omega (arith, here, slice_get_within vs j v at)) in
            let k_is : f.0 ≡ j = omega (arith, f.1, here) in
            let same : f.2.unit ≡ v = same_Some f.2.unit v (sym f.2.there ∙ ap (slice_get vs) k_is ∙ at) in
            let y : IsIn v place (unit_above 0 vs place).1 =
            rest_in_is v place (unit_above 0 vs place).1
            (ap (λ (u : DocUnit). rest_in u place) (sym same) ∙ f.2.rest) in
            (y.path, y.has, y.whole)

        one_path : (p q : List ℕ) → v.path ≡ Some p → v.path ≡ Some q → p ≡ q
        one_path p q e f = same_Some p q (sym e ∙ f)

        kept_as : kept_parts (arrived_parts ps j)
            ≡ filter_map (λ e. option_and_then (kept_in_unit j) (goes ms t vs e)) (everything ms t vs us pss ks)
        kept_as = kept_arrived ps j ∙ ap (λ xs. arrived xs j) seen ∙ arrived_as j

        pub arrived_hold : AllByRecursion (HoldsPart v.tagged.tree) (arrived_parts ps j)
            × IsDistinct bytes_eq (paths_of (arrived_parts ps j))
        arrived_hold =
            let leading = everything_leads ms t vs us pss ks stand hold aside in (
              hold_done v.tagged.tree (arrived_parts ps j)
                  (subst (AllByRecursion (Holds v.tagged.tree)) (sym kept_as)
                  (hold_there ms t w vs through_all law made j (λ p. v.path ≡ Some p) one_path v.tagged.tree now
                  below_unit (everything ms t vs us pss ks) leading))
                  (tidy_arrived ps j (recursion_from_All (λ m. IsTidy m.part) ps tidy)),
              subst (IsDistinct bytes_eq) (ap part_paths (sym kept_as) ∙ kept_paths (arrived_parts ps j))
                  (distinct_there ms t w vs through_all law made j (λ p. v.path ≡ Some p) one_path v.tagged.tree now
                  below_unit (everything ms t vs us pss ks) leading
                  (everything_distinct ms t vs us pss ks stand hold aside apart)),
            )

    -- Of those that are in no new unit no two have one path.
    at_root : (place : List ℕ) → (unit_above 0 vs place).0 ≡ length vs
        → (p : List ℕ) × (p ≡ []) × (place ≡ p ++ (unit_above 0 vs place).1)
    at_root place here = ([], refl, sym (far_at 0 vs place (omega (arith, here))).0)

    root_only : (p q : List ℕ) → p ≡ [] → q ≡ [] → p ≡ q
    root_only p q e f = e ∙ sym f

    root_stands : (p : List ℕ) → p ≡ [] → subtree w p ≡ Some w
    root_stands p e = ap (subtree w) e

    pub left_distinct : IsDistinct bytes_eq (part_paths (arrived (part_moves 0 ms t us pss ks vs) (length vs)))
    left_distinct =
        subst (λ xs. IsDistinct bytes_eq (part_paths xs)) (sym (arrived_as (length vs)))
        (distinct_there ms t w vs through_all law made (length vs) (λ p. p ≡ []) root_only w root_stands at_root
        (everything ms t vs us pss ks) (everything_leads ms t vs us pss ks stand hold aside)
        (everything_distinct ms t vs us pss ks stand hold aside apart))

    all_left_outside : (es : List Standing) → AllOutside vs
        (filter_map (λ e. option_and_then (kept_in_unit (length vs)) (goes ms t vs e)) es)
    all_left_outside [] = tt
    all_left_outside (e ∷ es) =
        by_above ms t w vs through_all law made (length vs) (λ p. p ≡ []) root_only w root_stands at_root
        (AllOutside vs) e (filter_map (λ d. option_and_then (kept_in_unit (length vs)) (goes ms t vs d)) es)
        (all_left_outside es) (λ r c.
        let far = far_at 0 vs c.place (omega (arith, c.number)) in
        (subst (λ q. NoneAbove q vs) (sym far.0 ∙ c.rest) far.1, all_left_outside es))

    pub left_outside : AllOutside vs (arrived (part_moves 0 ms t us pss ks vs) (length vs))
    left_outside =
        subst (AllOutside vs) (sym (arrived_as (length vs))) (all_left_outside (everything ms t vs us pss ks))
