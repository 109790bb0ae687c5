-- Where one unit changes alone, the layout of parts that is left is what moves by its path. The law of the parts' cache
-- says this of whatever is carried with them: here a trace that distinguishes attributes.
use Rattle.std.proofs.Common.{◌≡◌, ℕ, zero, suc, ◌+◌, Bool, true, false, cond, List, [], ◌∷◌, ◌++◌, length, map, Option}
use Rattle.std.proofs.Common.{Some, None, refl, ap, ap₂, sym, ◌∙◌}
use Rattle.std.proofs.lemmas.Bool.Decides.{Decides-int_eq}
use Rattle.std.proofs.lemmas.List.{map-append}
use Rattle.std.proofs.lemmas.Option.{slice_get-map}
use Rattle.std.proofs.lemmas.Slice.Eq.{bytes_eq-Decides}
use Rattle.std.specs.FinMap.{empty}
use Rattle.std.specs.List.{cons_option, filter, filter_map}
use Rattle.std.specs.Option.{option_map, option_map_or}
use Rattle.std.specs.Prelude.{◌==◌, ◌&&◌, if◌then◌else◌, slice_get, option_and_then}
use Rattle.tx_tree.specs.WideTree.{WideTree, leaf}
use Rattle.tx_mod.specs.declared.mods.Mod.{Mod}
use Rattle.tx_mod.specs.Followed.{changed_by_all, carried_by_all}
use Rattle.tx_mod.specs.Moves.{rest_behind}
use Rattle.tx_origin.specs.Values.{WideValue}
use Rattle.tx_exec_form.specs.Evaluated.{WideTrace}
use Rattle.tx_parts.specs.Parts.{Stored}
use Rattle.tx_units.specs.declared.kinds.Unit.{Unit as DocUnit}
use Rattle.tx_units.specs.Units.{units_with}
use Rattle.tx_items.specs.declared.attributes.Attrs.{Attrs}
use Rattle.tx_view_form.specs.Outcomes.{beginning}
use Rattle.tx_view_form.specs.Started.{attributes_of}
use Rattle.tx_bridge.specs.Carrying.{through}
use Rattle.tx_bridge.specs.CarryingParts.{and_part, parts_behind, parts_but}
use Rattle.tx_bridge.specs.InPlace.{IsOneChanged}
use Rattle.tx_bridge.specs.Names.{CarryParts, CarryStrays, CarryWithin, PartMoves, Sources, StraysBeside}
use Rattle.tx_bridge.specs.PartMoves.{Move, is_vacant, unit_above, move_to, moves_below, unit_moves}
use Rattle.tx_bridge.specs.PartMoves.{moves_from, part_moves, arrived, parts_now, all_parts_now}
use Rattle.tx_bridge.specs.PartsKept.{KeptParts}
use Rattle.tx_bridge.specs.Strays.{Stray, AreOutside, kept_strays, is_beside, path_at, strays_beside}
use Rattle.tx_bridge.specs.UnitLists.{AreUnits}
use Rattle.tx_bridge.proofs.Taking.{heads}
use Rattle.tx_part_layout.proofs.Alike.{attrs_are}
use Rattle.tx_part_layout.specs.LaidParts.{same_attrs}
use Rattle.tx_unit_layout.specs.LaidAts.{LaidAt}
use Rattle.tx_view.specs.Exchanged.{laid_behind, left_at, left_but}
use Rattle.tx_view.specs.Laid.{AreLaidOutside, LaidGoes}
use Rattle.tx_view.specs.LaidMoves.{LaidMove, laid_move, laid_moves_below, laid_unit_moves, laid_moves_from}
use Rattle.tx_view.specs.LaidMoves.{laid_moves, laid_arrived, laid_now, all_laid_now}

-- ---- traces that distinguish attributes

some_trace : WideTrace
some_trace = record { value = WideValue.text [] None; looks = empty; writes = empty; cost = 0; height = 0 }

-- what is cached at the path, where it is of just those that are laid out for these attributes
abbrev as_part : Attrs → LaidAt → Stored
as_part a l = record { path = l.path; trace = if same_attrs a l.before then Some some_trace else None }

abbrev as_parts : Attrs → List LaidAt → KeptParts
as_parts a ls = map (as_part a) ls

both_true : (b c : Bool) → b ≡ true → c ≡ true → b && c ≡ true
both_true b c e f = ap (λ d. d && c) e ∙ f

same_self : (a : Attrs) → same_attrs a a ≡ true
same_self a =
    both_true _ _
    (both_true _ _
    (both_true _ _
    (both_true _ _
    (both_true _ _
    (both_true _ _ ((Decides-int_eq a.left a.left).1 refl) ((Decides-int_eq a.right a.right).1 refl))
    ((Decides-int_eq a.first a.first).1 refl)) ((bytes_eq-Decides a.series a.series).1 refl))
    ((bytes_eq-Decides a.shape a.shape).1 refl)) ((bytes_eq-Decides a.color a.color).1 refl))
    ((bytes_eq-Decides a.mode a.mode).1 refl)

one_apart : (x y : LaidAt) → as_part x.before x ≡ as_part x.before y → x ≡ y
one_apart x y e =
    ap₂ (λ path before. record { path = path; before = before }) (ap (λ (s : Stored). s.path) e)
    (by (same_attrs x.before y.before) refl
    (ap (λ (b : Bool). if b then Some some_trace else None) (sym (same_self x.before))
    ∙ ap (λ (s : Stored). s.trace) e))
  where
    by : (b : Bool) → same_attrs x.before y.before ≡ b → Some some_trace ≡ (if b then Some some_trace else None)
        → x.before ≡ y.before
    by true is f = attrs_are x.before y.before is
    by false is f = cc

list_apart : (xs ys : List LaidAt) → ((a : Attrs) → as_parts a xs ≡ as_parts a ys) → xs ≡ ys
list_apart [] [] f = refl
list_apart [] (y ∷ ys) f = let off : as_parts y.before [] ≡ as_parts y.before (y ∷ ys) = f y.before in cc
list_apart (x ∷ xs) [] f = let off : as_parts x.before (x ∷ xs) ≡ as_parts x.before [] = f x.before in cc
list_apart (x ∷ xs) (y ∷ ys) f =
    ap₂ (λ z zs. z ∷ zs)
    (one_apart x y (heads (as_part x.before x) (as_part x.before y) (as_parts x.before xs) (as_parts x.before ys)
    (f x.before)).0)
    (list_apart xs ys (λ a. (heads (as_part a x) (as_part a y) (as_parts a xs) (as_parts a ys) (f a)).1))

some_attrs : Attrs
some_attrs = attributes_of beginning.env

lists_apart : (xss yss : List (List LaidAt)) → ((a : Attrs) → map (as_parts a) xss ≡ map (as_parts a) yss)
    → xss ≡ yss
lists_apart [] [] f = refl
lists_apart [] (ys ∷ yss) f =
    let off : map (as_parts some_attrs) [] ≡ map (as_parts some_attrs) (ys ∷ yss) = f some_attrs in cc
lists_apart (xs ∷ xss) [] f =
    let off : map (as_parts some_attrs) (xs ∷ xss) ≡ map (as_parts some_attrs) [] = f some_attrs in cc
lists_apart (xs ∷ xss) (ys ∷ yss) f =
    ap₂ (λ z zs. z ∷ zs)
    (list_apart xs ys
    (λ a. (heads (as_parts a xs) (as_parts a ys) (map (as_parts a) xss) (map (as_parts a) yss) (f a)).0))
    (lists_apart xss yss
    (λ a. (heads (as_parts a xs) (as_parts a ys) (map (as_parts a) xss) (map (as_parts a) yss) (f a)).1))

-- ---- in terms of parts

module _ (a : Attrs) (ms : List Mod) (t : WideTree) where
  behind_as : (p : List ℕ) (ls : List LaidAt)
      → as_parts a (filter_map (laid_behind ms t p) ls) ≡ parts_behind ms t p (as_parts a ls)
  behind_as p [] = refl
  behind_as p (l ∷ ls) =
      by (option_and_then (rest_behind p) (carried_by_all ms t (p ++ l.path))) (behind_as p ls)
    where
      by : (o : Option (List ℕ))
          → as_parts a (filter_map (laid_behind ms t p) ls) ≡ parts_behind ms t p (as_parts a ls)
          → as_parts a (cons_option (option_map (λ q. record { path = q; before = l.before }) o)
          (filter_map (laid_behind ms t p) ls))
          ≡ and_part (option_map (λ r. record { path = r; trace = (as_part a l).trace }) o)
          (parts_behind ms t p (as_parts a ls))
      by None later = later
      by (Some q) later = ap (λ ks. as_part a (record { path = q; before = l.before }) ∷ ks) later

  left_as : (i : ℕ) (us : List DocUnit) (lss : List (List LaidAt))
      → map (as_parts a) (left_but ms t i us lss) ≡ parts_but ms t i us (map (as_parts a) lss)
  left_as i [] lss = refl
  left_as i (u ∷ us) [] = refl
  left_as zero (u ∷ us) (ls ∷ lss) = ap (λ ks. ks ∷ map (as_parts a) lss) (by u.path)
    where
      by : (o : Option (List ℕ)) → as_parts a (left_at ms t o ls)
          ≡ option_map_or (λ p. parts_behind ms t p (as_parts a ls)) o []
      by None = refl
      by (Some p) = behind_as p ls
  left_as (suc i) (u ∷ us) (ls ∷ lss) = ap (λ kss. as_parts a ls ∷ kss) (left_as i us lss)

  -- ---- moves

  module _ (vs : List DocUnit) where
    abbrev seen : Move → ℕ × Stored
    seen m = (m.to, m.kept)

    abbrev seen_as : LaidMove → ℕ × Stored
    seen_as x = (x.to, as_part a x.laid)

    below_as : (i : ℕ) (p : List ℕ) (k : ℕ) (ls : List LaidAt)
        → map seen (moves_below ms t vs i p k (as_parts a ls)) ≡ map seen_as (laid_moves_below ms t vs p ls)
    below_as i p k [] = refl
    below_as i p k (l ∷ ls) = by (carried_by_all ms t (p ++ l.path)) (below_as i p (k + 1) ls)
      where
        by : (o : Option (List ℕ))
            → map seen (moves_below ms t vs i p (k + 1) (as_parts a ls)) ≡ map seen_as (laid_moves_below ms t vs p ls)
            → map seen (cons_option (option_map (λ place. move_to i k (as_part a l) (unit_above 0 vs place)) o)
            (moves_below ms t vs i p (k + 1) (as_parts a ls)))
            ≡ map seen_as (cons_option (option_map (λ place. laid_move l (unit_above 0 vs place)) o)
            (laid_moves_below ms t vs p ls))
        by None later = later
        by (Some place) later = ap (λ ys. seen_as (laid_move l (unit_above 0 vs place)) ∷ ys) later

    unit_as : (i : ℕ) (u : DocUnit) (ls : List LaidAt)
        → map seen (unit_moves ms t vs i u (as_parts a ls)) ≡ map seen_as (laid_unit_moves ms t vs u ls)
    unit_as i u ls = by (is_vacant (through ms t u.path) vs) u.path
      where
        by : (b : Bool) (o : Option (List ℕ))
            → map seen (if b then option_map_or (λ p. moves_below ms t vs i p 0 (as_parts a ls)) o [] else [])
            ≡ map seen_as (if b then option_map_or (λ p. laid_moves_below ms t vs p ls) o [] else [])
        by true None = refl
        by true (Some p) = below_as i p 0 ls
        by false o = refl

    units_as : (i : ℕ) (us : List DocUnit) (lss : List (List LaidAt))
        → map seen (moves_from ms t vs i us (map (as_parts a) lss)) ≡ map seen_as (laid_moves_from ms t vs us lss)
    units_as i [] lss = refl
    units_as i (u ∷ us) [] = refl
    units_as i (u ∷ us) (ls ∷ lss) =
        map-append seen (unit_moves ms t vs i u (as_parts a ls)) (moves_from ms t vs (i + 1) us (map (as_parts a) lss))
        ∙ ap₂ (λ xs ys. xs ++ ys) (unit_as i u ls) (units_as (i + 1) us lss)
        ∙ sym (map-append seen_as (laid_unit_moves ms t vs u ls) (laid_moves_from ms t vs us lss))

    all_as : (us : List DocUnit) (lss : List (List LaidAt)) (ls : List LaidAt)
        → map seen (part_moves 0 ms t us (map (as_parts a) lss) (as_parts a ls) vs)
        ≡ map seen_as (laid_moves 0 ms t us lss ls vs)
    all_as us lss ls =
        map-append seen (moves_from ms t vs 0 us (map (as_parts a) lss))
        (moves_below ms t vs (length us) [] 0 (as_parts a ls))
        ∙ ap₂ (λ xs ys. xs ++ ys) (units_as 0 us lss) (below_as (length us) [] 0 ls)
        ∙ sym (map-append seen_as (laid_moves_from ms t vs us lss) (laid_moves_below ms t vs [] ls))

    -- what moves to a unit
    come_as : (j : ℕ) (moves : List Move) (xs : List LaidMove) → map seen moves ≡ map seen_as xs
        → arrived moves j ≡ as_parts a (laid_arrived xs j)
    come_as j [] [] e = refl
    come_as j [] (x ∷ xs) e = cc
    come_as j (m ∷ moves) [] e = cc
    come_as j (m ∷ moves) (x ∷ xs) e =
        let both = heads (seen m) (seen_as x) (map seen moves) (map seen_as xs) e in
        ap (λ (s : ℕ × Stored). cons_option (if s.0 == j then Some s.1 else None) (arrived moves j)) both.0
        ∙ by (x.to == j) (come_as j moves xs both.1)
      where
        by : (b : Bool) → arrived moves j ≡ as_parts a (laid_arrived xs j)
            → cons_option (if b then Some (as_part a x.laid) else None) (arrived moves j)
            ≡ as_parts a (cons_option (if b then Some x.laid else None) (laid_arrived xs j))
        by true later = ap (λ ks. as_part a x.laid ∷ ks) later
        by false later = later

    now_as : (lss : List (List LaidAt)) (moves : List Move) (xs : List LaidMove) → map seen moves ≡ map seen_as xs
        → (j : ℕ) (ss : List (Option ℕ))
        → all_parts_now (map (as_parts a) lss) moves j ss ≡ map (as_parts a) (all_laid_now lss xs j ss)
    now_as lss moves xs e j [] = refl
    now_as lss moves xs e j (s ∷ ss) =
        ap₂ (λ ks kss. ks ∷ kss) (by s) (now_as lss moves xs e (j + 1) ss)
      where
        by_list : (o : Option (List LaidAt))
            → option_map_or (λ ks. ks) (option_map (as_parts a) o) [] ≡ as_parts a (option_map_or (λ ls. ls) o [])
        by_list None = refl
        by_list (Some ls) = refl

        by : (o : Option ℕ) → parts_now (map (as_parts a) lss) moves j o ≡ as_parts a (laid_now lss xs j o)
        by None = come_as j moves xs e
        by (Some i) =
            ap (λ o. option_map_or (λ ks. ks) o []) (slice_get-map (as_parts a) lss i) ∙ by_list (slice_get lss i)

-- ---- strays

abbrev as_stray : Attrs → LaidAt → Stray
as_stray a l = record { kept = as_part a l; tree = leaf [] }

abbrev as_strays : Attrs → List LaidAt → List Stray
as_strays a ls = map (as_stray a) ls

kept_as : (a : Attrs) (ls : List LaidAt) → kept_strays (as_strays a ls) ≡ as_parts a ls
kept_as a [] = refl
kept_as a (l ∷ ls) = ap (λ ks. as_part a l ∷ ks) (kept_as a ls)

outside_as : (a : Attrs) (us : List DocUnit) (ls : List LaidAt) → AreLaidOutside us ls
    → AreOutside us (as_strays a ls)
outside_as a us [] h = tt
outside_as a us (l ∷ ls) h = (h.0, outside_as a us ls h.1)

beside_as : (a : Attrs) (i : ℕ) (us : List DocUnit) (ls : List LaidAt)
    → as_parts a (filter (λ l. is_beside (path_at i us) l.path) ls)
    ≡ kept_strays (strays_beside i us (as_strays a ls))
beside_as a i us [] = refl
beside_as a i us (l ∷ ls) = by (is_beside (path_at i us) l.path) (beside_as a i us ls)
  where
    by : (b : Bool)
        → as_parts a (filter (λ m. is_beside (path_at i us) m.path) ls)
        ≡ kept_strays (strays_beside i us (as_strays a ls))
        → as_parts a (cond b (l ∷ filter (λ m. is_beside (path_at i us) m.path) ls)
        (filter (λ m. is_beside (path_at i us) m.path) ls))
        ≡ kept_strays (cond b (as_stray a l ∷ strays_beside i us (as_strays a ls))
        (strays_beside i us (as_strays a ls)))
    by true later = ap (λ ks. as_part a l ∷ ks) later
    by false later = later

-- ---- one unit changes alone

-- the law, as the crate below states it
abbrev pub PartsInPlace : Type 0
PartsInPlace = (i : ℕ) (ms : List Mod) (t u tree : WideTree) (us : List DocUnit) (parts : List KeptParts)
    (strays : List Stray) → changed_by_all ms t ≡ Some u → AreUnits us → IsOneChanged i 0 ms us
    → length parts ≡ length us → AreOutside us strays
    → CarryWithin i ms t us parts
    ≡ CarryParts parts (PartMoves 0 ms t us parts (kept_strays strays) (units_with i tree us))
    (Sources 0 ms t us (units_with i tree us))

abbrev pub StraysInPlace : Type 0
StraysInPlace = (i : ℕ) (ms : List Mod) (t u tree : WideTree) (us : List DocUnit) (parts : List KeptParts)
    (strays : List Stray) → changed_by_all ms t ≡ Some u → AreUnits us → IsOneChanged i 0 ms us
    → length parts ≡ length us → AreOutside us strays
    → kept_strays (StraysBeside i us strays)
    ≡ CarryStrays (PartMoves 0 ms t us parts (kept_strays strays) (units_with i tree us))
    (length (units_with i tree us))

as_many : (a : Attrs) (lss : List (List LaidAt)) → length (map (as_parts a) lss) ≡ length lss
as_many a [] = refl
as_many a (ls ∷ lss) = ap suc (as_many a lss)

module _ (i : ℕ) (ms : List Mod) (t u x : WideTree) (us : List DocUnit) (lss : List (List LaidAt)) (ls : List LaidAt)
    (made : changed_by_all ms t ≡ Some u) (are : AreUnits us) (one : IsOneChanged i 0 ms us)
    (many : length lss ≡ length us) (out : AreLaidOutside us ls) where
  abbrev vs : List DocUnit
  vs = units_with i x us

  abbrev xs : List LaidMove
  xs = laid_moves 0 ms t us lss ls vs

  told_as : (a : Attrs)
      → PartMoves 0 ms t us (map (as_parts a) lss) (kept_strays (as_strays a ls)) vs
      ≡ part_moves 0 ms t us (map (as_parts a) lss) (as_parts a ls) vs
  unfolding PartMoves
  told_as a = ap (λ ks. part_moves 0 ms t us (map (as_parts a) lss) ks vs) (kept_as a ls)

  left_moves : PartsInPlace → left_but ms t i us lss ≡ all_laid_now lss xs 0 (Sources 0 ms t us vs)
  unfolding CarryWithin CarryParts
  left_moves law =
      lists_apart (left_but ms t i us lss) (all_laid_now lss xs 0 (Sources 0 ms t us vs))
      (λ a. left_as a ms t i us lss
      ∙ law i ms t u x us (map (as_parts a) lss) (as_strays a ls) made are one (as_many a lss ∙ many)
      (outside_as a us ls out)
      ∙ ap (λ moves. all_parts_now (map (as_parts a) lss) moves 0 (Sources 0 ms t us vs)) (told_as a)
      ∙ now_as a ms t vs lss (part_moves 0 ms t us (map (as_parts a) lss) (as_parts a ls) vs) xs
      (all_as a ms t vs us lss ls) 0 (Sources 0 ms t us vs))

  beside_moves : StraysInPlace → filter (λ l. is_beside (path_at i us) l.path) ls ≡ laid_arrived xs (length vs)
  unfolding StraysBeside CarryStrays
  beside_moves law =
      list_apart (filter (λ l. is_beside (path_at i us) l.path) ls) (laid_arrived xs (length vs))
      (λ a. beside_as a i us ls
      ∙ law i ms t u x us (map (as_parts a) lss) (as_strays a ls) made are one (as_many a lss ∙ many)
      (outside_as a us ls out)
      ∙ ap (λ moves. arrived moves (length vs)) (told_as a)
      ∙ come_as a ms t vs (length vs) (part_moves 0 ms t us (map (as_parts a) lss) (as_parts a ls) vs) xs
      (all_as a ms t vs us lss ls))

pub laid_goes : (i : ℕ) (ms : List Mod) (t u x : WideTree) (us : List DocUnit) → changed_by_all ms t ≡ Some u
    → AreUnits us → IsOneChanged i 0 ms us → PartsInPlace → StraysInPlace → LaidGoes i ms t x us
unfolding LaidGoes
laid_goes i ms t u x us made are one parts strays lss ls many out = (
  left_moves i ms t u x us lss ls made are one many out parts,
  beside_moves i ms t u x us lss ls made are one many out strays,
)
