-- Strays hold, and are in no unit. Where one unit alone changes, those are left whose trees don't hold it.
use Rattle.std.proofs.Common.{◌≡◌, ℕ, zero, suc, Bool, true, false, cond, not, List, [], ◌∷◌, filter, map}
use Rattle.std.proofs.Common.{Option, Some, None, refl, ap, sym, subst, ◌∙◌, ◌<◌, length, arith, slice_index_or}
use Rattle.std.proofs.lemmas.Map.Keys.{IsDistinct-head, IsDistinct-tail, IsDistinct-cons}
use Rattle.std.proofs.lemmas.Option.{same_Some}
use Rattle.std.specs.List.{AllByRecursion, IsDistinct}
use Rattle.std.specs.Option.{option_map_or}
use Rattle.std.specs.Prelude.{◌&&◌, slice_get, option_and_then}
use Rattle.std.specs.Str.{bytes_eq}
use Rattle.tx_tree.specs.Paths.{subtree}
use Rattle.tx_tree.specs.WideTree.{WideTree}
use Rattle.tx_mod.specs.declared.mods.Mod.{Mod}
use Rattle.tx_mod.specs.Followed.{CarriesThroughAll, changed_by_all}
use Rattle.tx_mod.specs.Moves.{rest_behind}
use Rattle.tx_units.specs.declared.kinds.Unit.{Unit as DocUnit}
use Rattle.tx_units.specs.Units.{unit_with, units_with}
use Rattle.tx_walk.specs.Walked.{IsTidy}
use Rattle.tx_walk.proofs.Trees.{both}
use Rattle.tx_bridge.specs.Entries.{Kept, units_of}
use Rattle.tx_bridge.specs.Sound.{entries_of}
use Rattle.tx_bridge.specs.declared.bridge.Bridge.{Bridge}
use Rattle.tx_bridge.specs.InPlace.{begins_path, is_gone, are_within, IsOneChanged}
use Rattle.tx_bridge.specs.PartMoves.{NoneAbove}
use Rattle.tx_bridge.specs.Strays.{Stray, kept_strays, HoldsStray, AreStrays, StandAside, is_beside, path_at}
use Rattle.tx_bridge.specs.Strays.{strays_beside, stray_of, strays_in, AreTidy}
use Rattle.tx_bridge.specs.declared.strays.Stray.{Stray as DoneStray}
use Rattle.tx_bridge.proofs.Changing.{is_within}
use Rattle.tx_bridge.proofs.Inside.{rest_own, all_stay}
use Rattle.tx_bridge.proofs.WithinUnit.{no_rest_of}

no_strays : (us : List DocUnit) → AreStrays us []
unfolding IsDistinct
no_strays us = record { hold = tt; distinct = tt; outside = tt }

pub none_aside : (us : List DocUnit) (ss : List DoneStray) → ss ≡ [] → AreStrays us (strays_in ss)
none_aside us ss none = subst (λ xs. AreStrays us (strays_in xs)) (sym none) (no_strays us)

pub none_tidy : (ss : List DoneStray) → ss ≡ [] → AreTidy ss
none_tidy ss none = subst AreTidy (sym none) tt

-- what is seen of them
pub strays_seen : (bs : List Bridge) (kept : Kept) (was : List DoneStray) (ss : List Stray) → entries_of bs ≡ kept
    → strays_in was ≡ ss → AreStrays (units_of (entries_of bs)) (strays_in was) → AreStrays (units_of kept) ss
strays_seen bs kept was ss is seen h =
    subst (AreStrays (units_of kept)) seen (subst (λ us. AreStrays us (strays_in was)) (ap units_of is) h)

-- ---- some of them

all_filtered : {A : Type 0} (P : A → Type 0) (f : A → Bool) (xs : List A) → AllByRecursion P xs
    → AllByRecursion P (filter f xs)
all_filtered P f [] h = tt
all_filtered {A} P f (x ∷ xs) h = by (f x) (all_filtered P f xs h.1)
  where
    by : (b : Bool) → AllByRecursion P (filter f xs) → AllByRecursion P (cond b (x ∷ filter f xs) (filter f xs))
    by true rest = (h.0, rest)
    by false rest = rest

-- what the test says is true of those that pass it
pub all_passing : {A : Type 0} (P : A → Type 0) (f : A → Bool) (xs : List A) → ((x : A) → f x ≡ true → P x)
    → AllByRecursion P (filter f xs)
all_passing P f [] h = tt
all_passing {A} P f (x ∷ xs) h = by (f x) refl (all_passing P f xs h)
  where
    by : (b : Bool) → f x ≡ b → AllByRecursion P (filter f xs)
        → AllByRecursion P (cond b (x ∷ filter f xs) (filter f xs))
    by true e rest = (h x e, rest)
    by false e rest = rest

module _ {A : Type 0} (path : A → List ℕ) (f : A → Bool) where
  differs_filtered : (a : List ℕ) (xs : List A) → AllByRecursion (λ b. bytes_eq a b ≡ false) (map path xs)
      → AllByRecursion (λ b. bytes_eq a b ≡ false) (map path (filter f xs))
  differs_filtered a [] h = tt
  differs_filtered a (x ∷ xs) h = by (f x) (differs_filtered a xs h.1)
    where
      by : (b : Bool) → AllByRecursion (λ c. bytes_eq a c ≡ false) (map path (filter f xs))
          → AllByRecursion (λ c. bytes_eq a c ≡ false) (map path (cond b (x ∷ filter f xs) (filter f xs)))
      by true rest = (h.0, rest)
      by false rest = rest

  pub distinct_filtered : (xs : List A) → IsDistinct bytes_eq (map path xs)
      → IsDistinct bytes_eq (map path (filter f xs))
  distinct_filtered [] d = d
  distinct_filtered (x ∷ xs) d = by (f x) (distinct_filtered xs (IsDistinct-tail bytes_eq (path x) (map path xs) d))
    where
      by : (b : Bool) → IsDistinct bytes_eq (map path (filter f xs))
          → IsDistinct bytes_eq (map path (cond b (x ∷ filter f xs) (filter f xs)))
      by true rest =
          IsDistinct-cons bytes_eq (path x) (map path (filter f xs))
          (differs_filtered (path x) xs (IsDistinct-head bytes_eq (path x) (map path xs) d)) rest
      by false rest = rest

-- the paths of strays
paths_seen : (ss : List Stray) → map (λ k. k.path) (kept_strays ss) ≡ map (λ s. s.kept.path) ss
paths_seen [] = refl
paths_seen (s ∷ ss) = ap (λ qs. s.kept.path ∷ qs) (paths_seen ss)

-- ---- the units, of which one has another tree

path_kept : (i : ℕ) (t : WideTree) (us : List DocUnit) (k : ℕ) (u : DocUnit) → slice_get (units_with i t us) k ≡ Some u
    → (v : DocUnit) × (slice_get us k ≡ Some v) × (v.path ≡ u.path)
path_kept i t [] k u e = cc
path_kept zero t (v ∷ us) zero u e = (v, refl, ap (λ (w : DocUnit). w.path) (same_Some (unit_with t v) u e))
path_kept zero t (v ∷ us) (suc k) u e = (u, e, refl)
path_kept (suc i) t (v ∷ us) zero u e = (v, refl, ap (λ (w : DocUnit). w.path) (same_Some v u e))
path_kept (suc i) t (v ∷ us) (suc k) u e = path_kept i t us k u e

none_above_with : (i : ℕ) (t : WideTree) (us : List DocUnit) (place : List ℕ) → NoneAbove place us
    → NoneAbove place (units_with i t us)
none_above_with i t us place h k u at =
    let x : (v : DocUnit) × (slice_get us k ≡ Some v) × (v.path ≡ u.path) = path_kept i t us k u at in
    ap (option_and_then (λ p. rest_behind p place)) (sym x.2) ∙ h k x.0 x.1

outside_with : (i : ℕ) (t : WideTree) (us : List DocUnit) (ss : List Stray)
    → AllByRecursion (λ s. NoneAbove s.kept.path us) ss
    → AllByRecursion (λ s. NoneAbove s.kept.path (units_with i t us)) ss
outside_with i t us [] h = tt
outside_with i t us (s ∷ ss) h = (none_above_with i t us s.kept.path h.0, outside_with i t us ss h.1)

pub are_beside : (i : ℕ) (t : WideTree) (us : List DocUnit) (f : Stray → Bool) (ss : List Stray) → AreStrays us ss
    → AreStrays (units_with i t us) (filter f ss)
are_beside i t us f ss h = record {
  hold = all_filtered HoldsStray f ss h.hold;
  distinct =
      subst (IsDistinct bytes_eq) (sym (paths_seen (filter f ss)))
      (distinct_filtered (λ s. s.kept.path) f ss (subst (IsDistinct bytes_eq) (paths_seen ss) h.distinct));
  outside =
      outside_with i t us (filter f ss) (all_filtered (λ s. NoneAbove s.kept.path us) f ss h.outside);
}

-- ---- the program's

abbrev beside_of : Option (List ℕ) → List DoneStray → List DoneStray
beside_of o ss = filter (λ s. is_beside o s.part.path) ss

pub beside_seen : (o : Option (List ℕ)) (ss : List DoneStray)
    → strays_in (beside_of o ss) ≡ filter (λ s. is_beside o s.kept.path) (strays_in ss)
beside_seen o [] = refl
beside_seen o (s ∷ ss) = by (is_beside o s.part.path) (beside_seen o ss)
  where
    by : (b : Bool) → strays_in (beside_of o ss) ≡ filter (λ x. is_beside o x.kept.path) (strays_in ss)
        → strays_in (cond b (s ∷ beside_of o ss) (beside_of o ss))
        ≡ cond b (stray_of s ∷ filter (λ x. is_beside o x.kept.path) (strays_in ss))
        (filter (λ x. is_beside o x.kept.path) (strays_in ss))
    by true e = ap (λ xs. stray_of s ∷ xs) e
    by false e = e

pub tidy_beside : (o : Option (List ℕ)) (ss : List DoneStray) → AreTidy ss
    → AreTidy (filter (λ s. is_beside o s.part.path) ss)
tidy_beside o ss h = all_filtered (λ s. IsTidy s.part) (λ s. is_beside o s.part.path) ss h

-- the path of the unit that was read
pub path_read : (bs read : List Bridge) (kept : Kept) (i : ℕ) (b : Bridge) → entries_of bs ≡ kept → read ≡ bs
    → i < length read → b ≡ slice_index_or read i b → path_at i (units_of kept) ≡ b.unit.path
path_read bs read kept i b was is inside at =
    ap (path_at i) (sym (ap units_of was) ∙ ap (λ cs. units_of (entries_of cs)) (sym is))
    ∙ by read i inside ∙ ap (λ (c : Bridge). c.unit.path) (sym at)
  where
    by : (cs : List Bridge) (n : ℕ) → n < length cs
        → path_at n (units_of (entries_of cs)) ≡ (slice_index_or cs n b).unit.path
    by [] n less = absurd (omega (arith, less))
    by (c ∷ cs) zero less = refl
    by (c ∷ cs) (suc n) less = by cs n (omega (arith, less))

-- what is seen of those that are left
pub stay_beside : (i : ℕ) (ms : List Mod) (bs : List Bridge) (kept : Kept) (was now : List DoneStray)
    (ss : List Stray) (b : Bridge) → entries_of bs ≡ kept → strays_in was ≡ ss → IsOneChanged i 0 ms (units_of kept)
    → b ≡ slice_index_or bs i b → now ≡ beside_of b.unit.path was
    → strays_in now ≡ strays_beside i (units_of kept) ss
stay_beside i ms bs kept was now ss b is seen one at left =
    ap strays_in left ∙ beside_seen b.unit.path was
    ∙ ap (λ o. filter (λ s. is_beside o s.kept.path) (strays_in was))
    (sym (path_read bs bs kept i b is refl (is_within i ms bs kept is one) at))
    ∙ ap (strays_beside i (units_of kept)) seen

-- ---- the trees of those that are left are in the document afterwards

not_true : (b : Bool) → not b ≡ true → b ≡ false
not_true true e = cc
not_true false e = refl

module _ (ms : List Mod) (t u : WideTree) (us : List DocUnit) (i : ℕ) (one : IsOneChanged i 0 ms us)
    (made : changed_by_all ms t ≡ Some u) (law : (q : List ℕ) → CarriesThroughAll ms t q) where
  has_path : (p : List ℕ) × (one.unit.path ≡ Some p)
  has_path = by one.unit.path refl
    where
      by : (o : Option (List ℕ)) → one.unit.path ≡ o → (p : List ℕ) × (o ≡ Some p)
      by None e =
          let off : false ≡ true =
          sym (ap (λ o. option_map_or (λ q. is_gone q ms && are_within q ms) o false) e) ∙ one.changed in
          absurd (cc)
      by (Some p) e = (p, refl)

  all_within : (p : List ℕ) → one.unit.path ≡ Some p → are_within p ms ≡ true
  all_within p has =
      (both (is_gone p ms) (are_within p ms)
      (sym (ap (λ o. option_map_or (λ q. is_gone q ms && are_within q ms) o false) has) ∙ one.changed)).1

  one_stands : (s : Stray) → subtree t s.kept.path ≡ Some s.tree → NoneAbove s.kept.path us
      → is_beside (path_at i us) s.kept.path ≡ true → subtree u s.kept.path ≡ Some s.tree
  one_stands s at outside beside =
      let p : List ℕ = has_path.0 in
      let has : one.unit.path ≡ Some p = has_path.1 in
      let none : rest_behind p s.kept.path ≡ None =
      sym (ap (option_and_then (λ q. rest_behind q s.kept.path)) has) ∙ outside i one.unit one.there in
      let off : begins_path s.kept.path p ≡ false =
      not_true (begins_path s.kept.path p)
      (sym (ap (λ o. is_beside o s.kept.path) (ap (option_and_then (λ (w : DocUnit). w.path)) one.there ∙ has))
      ∙ beside) in
      law s.kept.path u s.tree s.kept.path made at
      (all_stay ms t u p s.kept.path (all_within p has)
      (λ x e. let gone : None ≡ Some x = sym none ∙ ap (rest_behind p) e ∙ rest_own p x in cc)
      (λ x e.
      let gone : None ≡ Some x =
      sym (no_rest_of s.kept.path p off) ∙ ap (rest_behind s.kept.path) e ∙ rest_own s.kept.path x in
      cc) made)

  pub stand_beside : (ss : List Stray) → StandAside t ss → AllByRecursion (λ s. NoneAbove s.kept.path us) ss
      → StandAside u (strays_beside i us ss)
  stand_beside [] h g = tt
  stand_beside (s ∷ ss) h g = by (is_beside (path_at i us) s.kept.path) refl (stand_beside ss h.1 g.1)
    where
      by : (b : Bool) → is_beside (path_at i us) s.kept.path ≡ b → StandAside u (strays_beside i us ss)
          → StandAside u (cond b (s ∷ strays_beside i us ss) (strays_beside i us ss))
      by true e rest = (one_stands s h.0 g.0 e, rest)
      by false e rest = rest
