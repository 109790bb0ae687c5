-- The parts of a tree are in the order of their paths.
use Rattle.std.proofs.Common.{◌≡◌, ℕ, zero, suc, ◌+◌, ◌*◌, ◌-◌, ◌<◌, ◌≤◌, List, [], ◌∷◌, ◌++◌, map, length, refl, ap, sym}
use Rattle.std.proofs.Common.{subst, ◌∙◌, append_assoc, arith}
use Rattle.std.proofs.Common.{inl, inr}
use Rattle.std.proofs.lemmas.Bool.{eq-eqb}
use Rattle.std.proofs.lemmas.List.{map-append}
use Rattle.std.specs.Prelude.{if◌then◌else◌, Option, Some, None}
use Rattle.std.specs.Option.{option_map_or, IsSome}
use Rattle.std.specs.List.{AllByRecursion}
use Rattle.tx_mod.specs.Moves.{rest_behind}
use Rattle.tx_mod.specs.Orders.{IsBefore}
use Rattle.tx_kept.specs.declared.path_map.Entry.{Entry}
use Rattle.tx_kept.specs.Entries.{AllAfter, IsInOrder}
use Rattle.tx_tree.specs.WideTree.{WideTree}
use Rattle.tx_exec_form.specs.Runs.{Before}
use Rattle.tx_exec_form.specs.Evaluated.{WideTrace}
use Rattle.tx_parts.specs.Atop.{env_atop}
use Rattle.tx_parts.specs.Openness.{Document, With, Shut}
use Rattle.tx_parts.specs.Shells.{Layer}
use Rattle.tx_parts.specs.Opening.{Sheller, Opening, ByTree, ByShell, opening}
use Rattle.tx_parts.specs.Composed.{evaluates, SoFar, nothing_yet, with_child, set_by, settings_cost}
use Rattle.tx_parts.specs.Layered.{layer_values, layer_cost, inside_layer}
use Rattle.tx_parts.specs.Parts.{Part, parts_from, parts_by, parts_in, parts_opened}
use Rattle.tx_parts.specs.Standing.{StandsIn}
use Rattle.tx_parts.proofs.Standing.{parts_by_stand}
use Rattle.tx_replay.specs.Held.{Stores}
use Rattle.tx_replay.specs.Seen.{Seen, seen_in, seen_parts}
use Rattle.tx_replay.specs.Cached.{seen, AllBelow}
use Rattle.tx_replay.specs.declared.cached.CachedPart.{CachedPart}

-- ---- paths

-- all of these are after the path
abbrev AreAfter : List ℕ → List (List ℕ) → Type 0
AreAfter p [] = Unit {0}
AreAfter p (q ∷ qs) = IsBefore p q × AreAfter p qs

-- each path is before those that follow it
abbrev pub AreRising : List (List ℕ) → Type 0
AreRising [] = Unit {0}
AreRising (p ∷ ps) = AreAfter p ps × AreRising ps

less_below : (path : List ℕ) (i j : ℕ) (a b : List ℕ) → i < j → IsBefore (path ++ i ∷ a) (path ++ j ∷ b)
less_below [] i j a b lt = inl lt
less_below (x ∷ xs) i j a b lt = inr (refl, less_below xs i j a b lt)

before_under : (base p q : List ℕ) → IsBefore p q → IsBefore (base ++ p) (base ++ q)
before_under [] p q h = h
before_under (x ∷ base) p q h = inr (refl, before_under base p q h)

rest_there : (base p : List ℕ) → IsSome (rest_behind base (base ++ p))
rest_there [] p = refl
rest_there (x ∷ base) p =
    subst (λ b. IsSome (if b then rest_behind base (base ++ p) else None)) (sym (eq-eqb x x refl)) (rest_there base p)

abbrev pub part_paths : List Part → List (List ℕ)
part_paths ps = map (λ p. p.path) ps

-- ---- paths of children from a number on

-- below a child of number i or a later one
record IsFrom (path : List ℕ) (i : ℕ) (p : List ℕ) : Type 0 where
  child : ℕ
  later : i ≤ child
  rest : List ℕ
  is : p ≡ path ++ child ∷ rest

abbrev AreFrom : List ℕ → ℕ → List (List ℕ) → Type 0
AreFrom path i ps = AllByRecursion (IsFrom path i) ps

from_later : (path : List ℕ) (i : ℕ) (ps : List (List ℕ)) → AreFrom path (i + 1) ps → AreFrom path i ps
from_later path i [] h = tt
from_later path i (p ∷ ps) h = (one h.0, from_later path i ps h.1)
  where
    one : IsFrom path (i + 1) p → IsFrom path i p
    one f =
        let later : i + 1 ≤ f.child = f.later in
        record { child = f.child; later = omega (arith, later); rest = f.rest; is = f.is }

both_from : (path : List ℕ) (i : ℕ) (ps qs : List (List ℕ)) → AreFrom path i ps → AreFrom path i qs →
    AreFrom path i (ps ++ qs)
both_from path i [] qs h g = g
both_from path i (p ∷ ps) qs h g = (h.0, both_from path i ps qs h.1 g)

-- the parts of child i
child_from : (path : List ℕ) (i : ℕ) (t : WideTree) (ps : List Part) →
    AllByRecursion (StandsIn (path ++ i ∷ []) t) ps → AreFrom path i (part_paths ps)
child_from path i t [] h = tt
child_from path i t (p ∷ ps) h = (one h.0, child_from path i t ps h.1)
  where
    one : StandsIn (path ++ i ∷ []) t p → IsFrom path i p.path
    one s =
        record {
          child = i;
          later = omega arith;
          rest = s.below;
          is = s.path_is ∙ append_assoc path (i ∷ []) s.below;
        }

-- a path of child i is before those of later children
child_before : (path : List ℕ) (i : ℕ) (p rest : List ℕ) (qs : List (List ℕ)) → p ≡ path ++ i ∷ rest →
    AreFrom path (i + 1) qs → AreAfter p qs
child_before path i p rest [] is h = tt
child_before path i p rest (q ∷ qs) is h = (one h.0, child_before path i p rest qs is h.1)
  where
    one : IsFrom path (i + 1) q → IsBefore p q
    one f =
        let later : i + 1 ≤ f.child = f.later in
        subst (λ x. IsBefore x q) (sym is)
        (subst (IsBefore (path ++ i ∷ rest)) (sym f.is) (less_below path i f.child rest f.rest (omega (arith, later))))

after_both : (p : List ℕ) (ps qs : List (List ℕ)) → AreAfter p ps → AreAfter p qs → AreAfter p (ps ++ qs)
after_both p [] qs h g = g
after_both p (x ∷ ps) qs h g = (h.0, after_both p ps qs h.1 g)

-- the parts of child i, and those of later children
rising_both : (path : List ℕ) (i : ℕ) (t : WideTree) (ps : List Part) (qs : List (List ℕ)) →
    AllByRecursion (StandsIn (path ++ i ∷ []) t) ps → AreRising (part_paths ps) → AreFrom path (i + 1) qs →
    AreRising qs → AreRising (part_paths ps ++ qs)
rising_both path i t [] qs stand h from g = g
rising_both path i t (p ∷ ps) qs stand h from g = (
  after_both p.path (part_paths ps) qs h.0 (child_before path i p.path stand.0.below qs
      (stand.0.path_is ∙ append_assoc path (i ∷ []) stand.0.below) from),
  rising_both path i t ps qs stand.1 h.1 from g,
)

-- ---- the parts of a tree

abbrev RisesBy : Sheller → ℕ → Type 0
RisesBy sheller k = (c : ℕ) (path : List ℕ) (t : WideTree) (e : Before) →
    AreRising (part_paths (parts_by sheller k c path t e))

abbrev RisesIn : Sheller → ℕ → Type 0
RisesIn sheller k = (ls : List Layer) (i c : ℕ) (path : List ℕ) (t : WideTree) (e : Before) →
    AreRising (part_paths (parts_in sheller k ls i c path t e))

module _ (sheller : Sheller) (k : ℕ) (rises : RisesBy sheller k) (c : ℕ) (path : List ℕ) (e : Before) where
  abbrev from_here : ℕ → SoFar → List WideTree → List Part
  from_here i a ts = parts_from k (parts_by sheller k) c path i a ts e

  abbrev Both : ℕ → List Part → Type 0
  Both i ps = AreRising (part_paths ps) × AreFrom path i (part_paths ps)

  module _ (i : ℕ) (a : SoFar) (t : WideTree) where
    abbrev here : List Part
    here = parts_by sheller k (c - a.cost) (path ++ i ∷ []) t (env_atop a.writes e)

    joined : (rest : List Part) → Both (i + 1) rest → Both i (here ++ rest)
    joined rest h =
        let stand : AllByRecursion (StandsIn (path ++ i ∷ []) t) here =
        parts_by_stand sheller k (c - a.cost) (path ++ i ∷ []) t (env_atop a.writes e) in
        let paths : part_paths here ++ part_paths rest ≡ part_paths (here ++ rest) =
        sym (map-append (λ (p : Part). p.path) here rest) in (
          subst AreRising paths (rising_both path i t here (part_paths rest) stand
              (rises (c - a.cost) (path ++ i ∷ []) t (env_atop a.writes e)) h.1 h.0),
          subst (AreFrom path i) paths (both_from path i (part_paths here) (part_paths rest)
              (child_from path i t here stand) (from_later path i (part_paths rest) h.1)),
        )

    by_trace : (ts : List WideTree) (o : Option WideTrace) →
        ((b : SoFar) → Both (i + 1) (from_here (i + 1) b ts)) →
        Both i (here ++ option_map_or (λ trace. from_here (i + 1) (with_child i a trace) ts) o [])
    by_trace ts None go = joined [] (tt, tt)
    by_trace ts (Some trace) go =
        joined (from_here (i + 1) (with_child i a trace) ts) (go (with_child i a trace))

  children_rise : (i : ℕ) (a : SoFar) (ts : List WideTree) → Both i (from_here i a ts)
  children_rise i a [] = (tt, tt)
  children_rise i a (t ∷ ts) =
      by_trace i a t ts (evaluates k (c - a.cost) t (env_atop a.writes e)) (λ b. children_rise (i + 1) b ts)

module _ (sheller : Sheller) where
  module _ (k : ℕ) (rises : RisesBy sheller k) (rises_in : RisesIn sheller k) where
    by_opening : (o : Opening) (c : ℕ) (path : List ℕ) (t : WideTree) (e : Before) →
        AreRising (part_paths (parts_opened o k (parts_by sheller k) (parts_in sheller k) c path t e))
    by_opening (ByTree (Document ts)) c path t e = (children_rise sheller k rises (c - 1) path e 0 nothing_yet ts).0
    by_opening (ByTree (With ps b)) c path t e =
        rises (c - (1 + settings_cost ps)) (path ++ (2 * length ps) ∷ []) b (env_atop (set_by ps) e)
    by_opening (ByTree Shut) c path t e = (tt, tt)
    by_opening (ByShell shell u) c path t e = rises_in shell.layers shell.inner (c - 1) path u e

    by_values : (l : Layer) (ls : List Layer) (i c : ℕ) (path : List ℕ) (t : WideTree) (e : Before)
        (o : Option SoFar) → AreRising (part_paths (option_map_or
        (λ a. parts_in sheller k ls i (c - layer_cost l.names a) path t (inside_layer l.names a e)) o []))
    by_values l ls i c path t e None = tt
    by_values l ls i c path t e (Some a) =
        rises_in ls i (c - layer_cost l.names a) path t (inside_layer l.names a e)

    next_rises : RisesBy sheller (suc k)
    unfolding parts_by
    next_rises c path t e = by_opening (opening sheller t e) c path t e

    next_in : RisesIn sheller (suc k)
    unfolding parts_in
    next_in [] i c path t e = rises (c - 1) (path ++ i ∷ []) t e
    next_in (l ∷ ls) i c path t e = by_values l ls i c path t e (layer_values k l c e)

  zero_rises : RisesBy sheller 0
  unfolding parts_by
  zero_rises c path t e = tt

  zero_in : RisesIn sheller 0
  unfolding parts_in
  zero_in ls i c path t e = tt

  both_rise : (k : ℕ) → RisesBy sheller k × RisesIn sheller k
  both_rise zero = (zero_rises, zero_in)
  both_rise (suc k) =
      (next_rises k (both_rise k).0 (both_rise k).1, next_in k (both_rise k).0 (both_rise k).1)

  pub parts_rise : (k c : ℕ) (path : List ℕ) (t : WideTree) (e : Before) →
      AreRising (part_paths (parts_by sheller k c path t e))
  parts_rise k = (both_rise k).0

-- ---- the parts that are returned

module _ (kept : Stores) where
  abbrev path_of : Seen → List ℕ
  path_of s = s.path

  abbrev Returned : List (Entry CachedPart) → List Part → Type 0
  Returned xs ps = map seen xs ≡ map (seen_in kept) ps

  -- the first ones, and the others
  record Splits (x : Entry CachedPart) (xs : List (Entry CachedPart)) (p : Part) (ps : List Part) : Type 0 where
    first : x.path ≡ kept.base ++ p.path
    others : Returned xs ps

  splits : (x : Entry CachedPart) (xs : List (Entry CachedPart)) (p : Part) (ps : List Part) →
      Returned (x ∷ xs) (p ∷ ps) → Splits x xs p ps
  splits x xs p ps h =
      let one : seen x ≡ seen_in kept p = cc in
      let others : map seen xs ≡ map (seen_in kept) ps = cc in
      record { first = ap path_of one; others = others }

  all_after : (x : List ℕ) (p : List ℕ) (xs : List (Entry CachedPart)) (ps : List Part) → x ≡ kept.base ++ p →
      Returned xs ps → AreAfter p (part_paths ps) → AllAfter x xs
  all_after x p [] ps is h r = tt
  all_after x p (y ∷ xs) [] is h r = cc
  all_after x p (y ∷ xs) (q ∷ ps) is h r =
      let s : Splits y xs q ps = splits y xs q ps h in (
        subst (λ z. IsBefore z y.path) (sym is)
            (subst (IsBefore (kept.base ++ p)) (sym s.first) (before_under kept.base p q.path r.0)),
        all_after x p xs ps is s.others r.1,
      )

  in_order : (xs : List (Entry CachedPart)) (ps : List Part) → Returned xs ps → AreRising (part_paths ps) →
      IsInOrder xs
  in_order [] ps h r = tt
  in_order (x ∷ xs) [] h r = cc
  in_order (x ∷ xs) (p ∷ ps) h r =
      let s : Splits x xs p ps = splits x xs p ps h in
      (all_after x.path p.path xs ps s.first s.others r.0, in_order xs ps s.others r.1)

  all_below : (xs : List (Entry CachedPart)) (ps : List Part) → Returned xs ps → AllBelow kept.base xs
  all_below [] ps h = tt
  all_below (x ∷ xs) [] h = cc
  all_below (x ∷ xs) (p ∷ ps) h =
      let s : Splits x xs p ps = splits x xs p ps h in (
        subst (λ z. IsSome (rest_behind kept.base z)) (sym s.first) (rest_there kept.base p.path),
        all_below xs ps s.others,
      )

  pub returned_rise : (o : Option WideTrace) (xs : List (Entry CachedPart)) (ps : List Part) →
      map seen xs ≡ seen_parts kept ps o → AreRising (part_paths ps) → IsInOrder xs
  returned_rise None [] ps h r = tt
  returned_rise None (x ∷ xs) ps h r = cc
  returned_rise (Some trace) xs ps h r = in_order xs ps h r

  pub returned_below : (o : Option WideTrace) (xs : List (Entry CachedPart)) (ps : List Part) →
      map seen xs ≡ seen_parts kept ps o → AllBelow kept.base xs
  returned_below None [] ps h = tt
  returned_below None (x ∷ xs) ps h = cc
  returned_below (Some trace) xs ps h = all_below xs ps h
