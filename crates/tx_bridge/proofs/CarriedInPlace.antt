-- Where one unit alone changes, a carry in place gives what a carry gives.
use Rattle.std.proofs.Common.{◌≡◌, ℕ, zero, suc, ◌+◌, ◌<◌, Bool, true, false, cond, List, [], ◌∷◌, ◌++◌, length, drop}
use Rattle.std.proofs.Common.{map, not, Option, Some, None, Ok, Err, refl, sym, ap, subst, ◌∙◌, arith}
use Rattle.std.proofs.lemmas.Bool.Decides.{Decides-eqb}
use Rattle.std.proofs.lemmas.List.{append_assoc, append-nil, length-append, length-map}
use Rattle.std.proofs.lemmas.List.Elements.{filter_map-append}
use Rattle.std.proofs.lemmas.Option.{same_Some, slice_get_within}
use Rattle.std.proofs.lemmas.Slice.Eq.{bytes_eq-Decides}
use Rattle.std.specs.List.{AllByRecursion, cons_option}
use Rattle.std.specs.Option.{option_map, option_map_or}
use Rattle.std.specs.Prelude.{◌==◌, ◌&&◌, is_some, if◌then◌else◌, slice_get, option_and_then}
use Rattle.tx_tree.specs.WideTree.{WideTree}
use Rattle.tx_tree.specs.Paths.{subtree}
use Rattle.tx_mod.specs.declared.mods.Mod.{Mod}
use Rattle.tx_mod.specs.Mods.{path_of}
use Rattle.tx_mod.specs.Changes.{Outcome, changed}
use Rattle.tx_mod.specs.Moves.{rest_behind, carried_at, carried_path}
use Rattle.tx_mod.specs.Followed.{outcome_tree, changed_by_all, carried_by_all}
use Rattle.tx_units.specs.declared.kinds.Unit.{Unit as DocUnit}
use Rattle.tx_units.specs.Places.{AreApart, NoneBegins}
use Rattle.tx_units.specs.Units.{unit_with, units_with}
use Rattle.tx_walk.proofs.Trees.{both}
use Rattle.tx_bridge.specs.declared.bridge.Bridge.{Bridge}
use Rattle.tx_bridge.specs.Carrying.{is_path, through, sources}
use Rattle.tx_bridge.specs.CarryingParts.{part_at, and_part, parts_behind, parts_within, parts_but}
use Rattle.tx_bridge.specs.Courses.{IsUnitAbove}
use Rattle.tx_bridge.specs.Entries.{Kept, units_of}
use Rattle.tx_bridge.specs.HeldParts.{AllPartsHold}
use Rattle.tx_bridge.specs.InPlace.{begins_path, is_gone, are_within, IsOneChanged, numbers_but}
use Rattle.tx_bridge.specs.Names.{CarryParts, CarryStrays, CarryWithin, PartMoves, Sources, StraysBeside}
use Rattle.tx_bridge.specs.PartMoves.{Move, NoneAbove, is_vacant, rest_in, unit_above, move_to, moves_below, unit_moves}
use Rattle.tx_bridge.specs.PartMoves.{moves_from, part_moves, kept_in_unit, arrived, parts_now, all_parts_now}
use Rattle.tx_bridge.specs.PartsKept.{KeptParts}
use Rattle.tx_bridge.specs.Slots.{fresh_bridge, bodies_of}
use Rattle.tx_bridge.specs.Sound.{entries_of, changed_in}
use Rattle.tx_bridge.specs.Strays.{Stray, AreOutside, kept_strays, is_beside, path_at, strays_beside}
use Rattle.tx_bridge.specs.UnitLists.{AreUnits}
use Rattle.tx_bridge.proofs.Above.{in_rest, above_is, none_above, vacant_nowhere, vacant_by_path}
use Rattle.tx_bridge.proofs.Arrived.{start_sound, units_bodies}
use Rattle.tx_bridge.proofs.Changing.{in_place}
use Rattle.tx_bridge.proofs.Inside.{IsNoFront, rest_own, no_rest, begins_is, by_rest, all_stay}
use Rattle.tx_bridge.proofs.Putting.{differs}
use Rattle.tx_bridge.proofs.Settling.{many_with, are_units_with, goes_from}
use Rattle.tx_bridge.proofs.Slotting.{some_once}
use Rattle.tx_bridge.proofs.WithinUnit.{no_rest_of}

-- ---- paths through modifications inside the subtree at p

-- what is below p is carried to below p, or nowhere
one_below : (m : Mod) (t : WideTree) (p q r : List ℕ) → begins_path p (path_of m) ≡ true
    → carried_path m t (p ++ q) ≡ Some r → (s : List ℕ) × (r ≡ p ++ s)
one_below m t p q r inside e = by (subtree t (path_of m)) e
  where
    by_way : (o : Option (List ℕ)) → option_map (λ v. path_of m ++ v) o ≡ Some r → (s : List ℕ) × (r ≡ p ++ s)
    by_way None f = cc
    by_way (Some v) f = (
      drop (length p) (path_of m) ++ v,
      sym (same_Some (path_of m ++ v) r f) ∙ ap (λ a. a ++ v) (begins_is p (path_of m) inside)
          ∙ append_assoc p (drop (length p) (path_of m)) v,
    )

    by_down : (x : WideTree) (down up : Option (List ℕ)) → by_rest m x (p ++ q) down up ≡ Some r
        → (s : List ℕ) × (r ≡ p ++ s)
    by_down x (Some a) up f = by_way (carried_at m x a) f
    by_down x None (Some z) f = cc
    by_down x None None f = (q, sym (same_Some (p ++ q) r f))

    by : (o : Option WideTree)
        → option_map_or (λ x. by_rest m x (p ++ q) (rest_behind (path_of m) (p ++ q))
        (rest_behind (p ++ q) (path_of m))) o None ≡ Some r
        → (s : List ℕ) × (r ≡ p ++ s)
    by None f = cc
    by (Some x) f = by_down x (rest_behind (path_of m) (p ++ q)) (rest_behind (p ++ q) (path_of m)) f

pub all_below : (ms : List Mod) (t : WideTree) (p q r : List ℕ) → are_within p ms ≡ true
    → carried_by_all ms t (p ++ q) ≡ Some r → (s : List ℕ) × (r ≡ p ++ s)
all_below [] t p q r inside e = (q, sym (same_Some (p ++ q) r e))
all_below (m ∷ ms) t p q r inside e =
    step (changed m t) (carried_path m t (p ++ q)) refl (λ v s. all_below ms v p s r all.1) e
  where
    all : (begins_path p (path_of m) ≡ true) × (are_within p ms ≡ true)
    all = both (begins_path p (path_of m)) (are_within p ms) inside

    step : (o : Outcome) (c : Option (List ℕ)) → carried_path m t (p ++ q) ≡ c
        → ((v : WideTree) (s : List ℕ) → carried_by_all ms v (p ++ s) ≡ Some r → (x : List ℕ) × (r ≡ p ++ x))
        → option_and_then (λ v. option_and_then (carried_by_all ms v) c) (outcome_tree o) ≡ Some r
        → (s : List ℕ) × (r ≡ p ++ s)
    step (Err cause) c is ih f = cc
    step (Ok v) None is ih f = cc
    step (Ok v) (Some a) is ih f =
        let b : (s : List ℕ) × (a ≡ p ++ s) = one_below m t p q a all.0 is in
        ih v b.0 (ap (carried_by_all ms v) (sym b.1) ∙ f)

-- what holds the modification's path is carried nowhere
holder_goes : (m : Mod) (ms : List Mod) (t : WideTree) (q more : List ℕ) (k : ℕ) → path_of m ≡ q ++ k ∷ more
    → carried_by_all (m ∷ ms) t q ≡ None
holder_goes m ms t q more k whole = step (changed m t)
  where
    no_front : IsNoFront (path_of m) q
    no_front s e =
        let one : length q ≡ length (path_of m) + length s = ap length e ∙ length-append (path_of m) s in
        let other : length (path_of m) ≡ length q + suc (length more) =
        ap length whole ∙ length-append q (k ∷ more) in
        absurd (omega (arith, one, other))

    by : (o : Option WideTree)
        → option_map_or (λ z. by_rest m z q (rest_behind (path_of m) q) (rest_behind q (path_of m))) o None ≡ None
    by None = refl
    by (Some z) =
        ap (λ o. by_rest m z q o (rest_behind q (path_of m))) (no_rest (path_of m) q no_front)
        ∙ ap (λ o. by_rest m z q None o) (ap (rest_behind q) whole ∙ rest_own q (k ∷ more))

    step : (o : Outcome)
        → option_and_then (λ v. option_and_then (carried_by_all ms v) (carried_path m t q)) (outcome_tree o) ≡ None
    step (Ok v) = ap (option_and_then (carried_by_all ms v)) (by (subtree t (path_of m)))
    step (Err cause) = refl

pub all_holders_go : (ms : List Mod) (t : WideTree) (p q x : List ℕ) (k : ℕ) → p ≡ q ++ k ∷ x → is_gone p ms ≡ true
    → are_within p ms ≡ true → carried_by_all ms t q ≡ None
all_holders_go [] t p q x k is gone inside = cc
all_holders_go (m ∷ ms) t p q x k is gone inside =
    holder_goes m ms t q (x ++ drop (length p) (path_of m)) k
    (begins_is p (path_of m) (both (begins_path p (path_of m)) (are_within p ms) inside).0
    ∙ ap (λ a. a ++ drop (length p) (path_of m)) is ∙ append_assoc q (k ∷ x) (drop (length p) (path_of m)))

-- ---- units

other_with : (i : ℕ) (x : WideTree) (us : List DocUnit) (k : ℕ) (w : DocUnit) → slice_get us k ≡ Some w
    → (k ≡ i → ⊥) → slice_get (units_with i x us) k ≡ Some w
other_with i x [] k w at off = cc
other_with zero x (u ∷ us) zero w at off = absurd (off refl)
other_with zero x (u ∷ us) (suc k) w at off = at
other_with (suc i) x (u ∷ us) zero w at off = at
other_with (suc i) x (u ∷ us) (suc k) w at off = other_with i x us k w at (λ e. off (ap suc e))

that_with : (i : ℕ) (x : WideTree) (us : List DocUnit) (w : DocUnit) → slice_get us i ≡ Some w
    → slice_get (units_with i x us) i ≡ Some (unit_with x w)
that_with i x [] w at = cc
that_with zero x (u ∷ us) w at = ap (λ v. Some (unit_with x v)) (same_Some u w at)
that_with (suc i) x (u ∷ us) w at = that_with i x us w at

pub apart_one : (o : Option (List ℕ)) (us : List DocUnit) (k : ℕ) (w : DocUnit)
    → AllByRecursion (λ v. AreApart o v.path) us → slice_get us k ≡ Some w → AreApart o w.path
apart_one o [] k w h e = cc
apart_one o (u ∷ us) zero w h e = subst (λ (v : DocUnit). AreApart o v.path) (same_Some u w e) h.0
apart_one o (u ∷ us) (suc k) w h e = apart_one o us k w h.1 e

turned : (o r : Option (List ℕ)) → AreApart o r → AreApart r o
turned o r h path more = ((h path more).1, (h path more).0)

apart_two : (us : List DocUnit) (j k : ℕ) (v w : DocUnit) → NoneBegins us → (k ≡ j → ⊥) → slice_get us j ≡ Some v
    → slice_get us k ≡ Some w → AreApart v.path w.path
apart_two [] j k v w h off e f = cc
apart_two (u ∷ us) zero zero v w h off e f = absurd (off refl)
apart_two (u ∷ us) zero (suc k) v w h off e f =
    subst (λ (x : DocUnit). AreApart x.path w.path) (same_Some u v e) (apart_one u.path us k w h.0 f)
apart_two (u ∷ us) (suc j) zero v w h off e f =
    subst (λ (x : DocUnit). AreApart v.path x.path) (same_Some u w f)
    (turned u.path v.path (apart_one u.path us j v h.0 e))
apart_two (u ∷ us) (suc j) (suc k) v w h off e f = apart_two us j k v w h.1 (λ same. off (ap suc same)) e f

-- the parts of the unit don't move by themselves
abbrev NoneMove : List Mod → WideTree → List DocUnit → DocUnit → Type 0
NoneMove ms t vs w = (n : ℕ) (ks : KeptParts) → unit_moves ms t vs n w ks ≡ []

module _ (ms : List Mod) (t : WideTree) (vs : List DocUnit) where
  none_move : (n : ℕ) (us : List DocUnit) (pss : List KeptParts)
      → ((k : ℕ) (w : DocUnit) → slice_get us k ≡ Some w → NoneMove ms t vs w) → moves_from ms t vs n us pss ≡ []
  none_move n [] pss h = refl
  none_move n (u ∷ us) [] h = refl
  none_move n (u ∷ us) (ks ∷ pss) h =
      ap (λ xs. xs ++ moves_from ms t vs (n + 1) us pss) (h 0 u refl n ks)
      ∙ none_move (n + 1) us pss (λ k w e. h (suc k) w e)

  one_moves : (j n m : ℕ) (us : List DocUnit) (pss : List KeptParts) (u : DocUnit) (ks : KeptParts)
      → slice_get us j ≡ Some u → slice_get pss j ≡ Some ks
      → ((k : ℕ) (w : DocUnit) → slice_get us k ≡ Some w → (k ≡ j → ⊥) → NoneMove ms t vs w) → m ≡ n + j
      → moves_from ms t vs n us pss ≡ unit_moves ms t vs m u ks
  one_moves j n m [] pss u ks at has h is = cc
  one_moves j n m (w ∷ us) [] u ks at has h is = cc
  one_moves zero n m (w ∷ us) (qs ∷ pss) u ks at has h is =
      let here : n ≡ m = omega (arith, is) in
      ap (λ xs. unit_moves ms t vs n w qs ++ xs) (none_move (n + 1) us pss (λ k v e. h (suc k) v e (λ f. cc)))
      ∙ append-nil (unit_moves ms t vs n w qs) ∙ ap (λ k. unit_moves ms t vs k w qs) here
      ∙ ap (λ (v : DocUnit). unit_moves ms t vs m v qs) (same_Some w u at)
      ∙ ap (unit_moves ms t vs m u) (same_Some qs ks has)
  one_moves (suc j) n m (w ∷ us) (qs ∷ pss) u ks at has h is =
      ap (λ xs. xs ++ moves_from ms t vs (n + 1) us pss) (h 0 w refl (λ f. cc) n qs)
      ∙ one_moves j (n + 1) m us pss u ks at has (λ k v e off. h (suc k) v e (λ f. off (omega (arith, f))))
      (omega (arith, is))

no_path : (b : Bool) (f : List ℕ → List Move) (o : Option (List ℕ)) → o ≡ None
    → (if b then option_map_or f o [] else []) ≡ []
no_path true f o e = ap (λ r. option_map_or f r []) e
no_path false f o e = refl

-- ---- numbers of units

parts_of_number : (all pss : List KeptParts) (ks : KeptParts) (moves : List Move) (i k : ℕ) → (k ≡ i → ⊥)
    → slice_get all k ≡ Some ks → parts_now all moves k (if k == i then None else Some k) ≡ ks
parts_of_number all pss ks moves i k off has =
    ap (λ (b : Bool). parts_now all moves k (if b then None else Some k)) (differs k i off)
    ∙ ap (λ o. option_map_or (λ xs. xs) o []) has

-- the lists from number k on
abbrev AreListsFrom : List KeptParts → ℕ → List KeptParts → Type 0
AreListsFrom all k pss = (m n : ℕ) → n ≡ k + m → slice_get all n ≡ slice_get pss m

others_now : (all : List KeptParts) (moves : List Move) (i k : ℕ) (us : List DocUnit) (pss : List KeptParts) → i < k
    → length pss ≡ length us → AreListsFrom all k pss → pss ≡ all_parts_now all moves k (numbers_but i k (length us))
others_now all moves i k [] [] less many from = refl
others_now all moves i k [] (ks ∷ pss) less many from = absurd (omega (arith, many))
others_now all moves i k (u ∷ us) [] less many from = absurd (omega (arith, many))
others_now all moves i k (u ∷ us) (ks ∷ pss) less many from =
    ap (λ xs. xs ∷ pss)
    (sym (parts_of_number all pss ks moves i k (λ e. absurd (omega (arith, e, less))) (from 0 k (omega arith))))
    ∙ ap (λ xs. parts_now all moves k (if k == i then None else Some k) ∷ xs)
    (others_now all moves i (k + 1) us pss (omega (arith, less)) (omega (arith, many))
    (λ m n is. from (suc m) n (omega (arith, is))))

all_now : (ms : List Mod) (t : WideTree) (all : List KeptParts) (moves : List Move) (i j k : ℕ) (us : List DocUnit)
    (pss : List KeptParts) → i ≡ k + j → length pss ≡ length us → AreListsFrom all k pss
    → ((u : DocUnit) (ks : KeptParts) → slice_get us j ≡ Some u → slice_get pss j ≡ Some ks
    → parts_within ms t u ks ≡ arrived moves i)
    → parts_but ms t j us pss ≡ all_parts_now all moves k (numbers_but i k (length us))
all_now ms t all moves i j k [] pss is many from h = refl
all_now ms t all moves i j k (u ∷ us) [] is many from h = absurd (omega (arith, many))
all_now ms t all moves i zero k (u ∷ us) (ks ∷ pss) is many from h =
    let here : k ≡ i = omega (arith, is) in
    ap (λ xs. xs ∷ pss)
    (h u ks refl refl ∙ ap (arrived moves) (sym here)
    ∙ ap (λ (b : Bool). parts_now all moves k (if b then None else Some k)) (sym ((Decides-eqb k i).1 here)))
    ∙ ap (λ xs. parts_now all moves k (if k == i then None else Some k) ∷ xs)
    (others_now all moves i (k + 1) us pss (omega (arith, is)) (omega (arith, many))
    (λ m n e. from (suc m) n (omega (arith, e))))
all_now ms t all moves i (suc j) k (u ∷ us) (ks ∷ pss) is many from h =
    ap (λ xs. xs ∷ parts_but ms t j us pss)
    (sym (parts_of_number all pss ks moves i k (λ e. absurd (omega (arith, e, is))) (from 0 k (omega arith))))
    ∙ ap (λ xs. parts_now all moves k (if k == i then None else Some k) ∷ xs)
    (all_now ms t all moves i j (k + 1) us pss (omega (arith, is)) (omega (arith, many))
    (λ m n e. from (suc m) n (omega (arith, e))) h)

-- ---- the unit of number i alone changes

module _ (i : ℕ) (ms : List Mod) (t u x : WideTree) (us : List DocUnit) (made : changed_by_all ms t ≡ Some u)
    (are : AreUnits us) (one : IsOneChanged i 0 ms us) (p : List ℕ) (has : one.unit.path ≡ Some p)
    (gone : is_gone p ms ≡ true) (inside : are_within p ms ≡ true) where
  abbrev vs : List DocUnit
  vs = units_with i x us

  vs_are : AreUnits vs
  vs_are = are_units_with i x us are

  less : i < length vs
  less =
      let many : length us ≡ length vs = many_with i x us in
      omega (arith, many, slice_get_within us i one.unit one.there)

  other_moves_none : (k : ℕ) (w : DocUnit) → slice_get us k ≡ Some w → (k ≡ i → ⊥) → NoneMove ms t vs w
  other_moves_none k w at off n ks = by w.path refl
    where
      by : (o : Option (List ℕ)) → w.path ≡ o → unit_moves ms t vs n w ks ≡ []
      by None e = no_path (is_vacant (through ms t w.path) vs) (λ q. moves_below ms t vs n q 0 ks) w.path e
      by (Some q) e =
          let apart : AreApart one.unit.path w.path = apart_two us i k one.unit w are.apart off one.there at in
          let stays : through ms t w.path ≡ Some q =
          ap (through ms t) e
          ∙ all_stay ms t u p q inside
          (λ a is. (apart p a).0 has (e ∙ ap Some is)) (λ a is. (apart q a).1 e (has ∙ ap Some is)) made in
          let there : slice_get vs k ≡ Some w = other_with i x us k w at off in
          let above : IsUnitAbove q vs k = record {
            unit = w;
            there = there;
            within =
                ap is_some (ap (rest_in w) (sym (append-nil q)) ∙ in_rest w q [] e);
          } in
          let taken : false ≡ is_vacant (Some q) vs =
          vacant_by_path vs q k w true vs_are.apart above there
          (sym (ap (is_path q) e ∙ (bytes_eq-Decides q q).1 refl)) in
          ap (λ (b : Bool). if b then option_map_or (λ a. moves_below ms t vs n a 0 ks) w.path [] else [])
          (ap (λ o. is_vacant o vs) stays ∙ sym taken)

  own_moves : (ks : KeptParts) → unit_moves ms t vs i one.unit ks ≡ moves_below ms t vs i p 0 ks
  own_moves ks =
      ap (λ (b : Bool). if b then option_map_or (λ a. moves_below ms t vs i a 0 ks) one.unit.path [] else [])
      (ap (λ o. is_vacant (through ms t o) vs) has ∙ ap (λ o. is_vacant o vs) (goes_from ms t p gone inside)
      ∙ sym (vacant_nowhere vs))
      ∙ ap (λ o. option_map_or (λ a. moves_below ms t vs i a 0 ks) o []) has

  -- the unit is above all that is below its path
  below_own : (r : List ℕ) → unit_above 0 vs (p ++ r) ≡ (i, r)
  below_own r =
      above_is vs i (unit_with x one.unit) (p ++ r) r vs_are.apart (that_with i x us one.unit one.there)
      (in_rest (unit_with x one.unit) p r has)

  -- ---- its parts

  own_arrive : (k : ℕ) (ks : KeptParts) → arrived (moves_below ms t vs i p k ks) i ≡ parts_behind ms t p ks
  own_arrive k [] = refl
  own_arrive k (s ∷ ks) = by (carried_by_all ms t (p ++ s.path)) refl (own_arrive (k + 1) ks)
    where
      by : (o : Option (List ℕ)) → carried_by_all ms t (p ++ s.path) ≡ o
          → arrived (moves_below ms t vs i p (k + 1) ks) i ≡ parts_behind ms t p ks
          → arrived (cons_option (option_map (λ place. move_to i k s (unit_above 0 vs place)) o)
          (moves_below ms t vs i p (k + 1) ks)) i
          ≡ and_part (part_at p o s) (parts_behind ms t p ks)
      by None e rest = rest
      by (Some place) e rest =
          let b : (r : List ℕ) × (place ≡ p ++ r) = all_below ms t p s.path place inside e in
          let told : unit_above 0 vs place ≡ (i, b.0) = ap (unit_above 0 vs) b.1 ∙ below_own b.0 in
          ap (λ y. cons_option (kept_in_unit i (move_to i k s y)) (arrived (moves_below ms t vs i p (k + 1) ks) i)) told
          ∙ ap (λ (c : Bool). cons_option (if c then Some (record { path = b.0; trace = s.trace }) else None)
          (arrived (moves_below ms t vs i p (k + 1) ks) i)) ((Decides-eqb i i).1 refl)
          ∙ ap (λ xs. record { path = b.0; trace = s.trace } ∷ xs) rest
          ∙ ap (λ o. and_part (option_map (λ r. record { path = r; trace = s.trace }) o) (parts_behind ms t p ks))
          (sym (ap (rest_behind p) b.1 ∙ rest_own p b.0))

  -- each of them is in some unit
  own_stray_none : (k : ℕ) (ks : KeptParts) → arrived (moves_below ms t vs i p k ks) (length vs) ≡ []
  own_stray_none k [] = refl
  own_stray_none k (s ∷ ks) = by (carried_by_all ms t (p ++ s.path)) refl (own_stray_none (k + 1) ks)
    where
      by : (o : Option (List ℕ)) → carried_by_all ms t (p ++ s.path) ≡ o
          → arrived (moves_below ms t vs i p (k + 1) ks) (length vs) ≡ []
          → arrived (cons_option (option_map (λ place. move_to i k s (unit_above 0 vs place)) o)
          (moves_below ms t vs i p (k + 1) ks)) (length vs) ≡ []
      by None e rest = rest
      by (Some place) e rest =
          let b : (r : List ℕ) × (place ≡ p ++ r) = all_below ms t p s.path place inside e in
          let told : unit_above 0 vs place ≡ (i, b.0) = ap (unit_above 0 vs) b.1 ∙ below_own b.0 in
          ap (λ y. cons_option (kept_in_unit (length vs) (move_to i k s y))
          (arrived (moves_below ms t vs i p (k + 1) ks) (length vs))) told
          ∙ ap (λ (c : Bool). cons_option (if c then Some (record { path = b.0; trace = s.trace }) else None)
          (arrived (moves_below ms t vs i p (k + 1) ks) (length vs)))
          (differs i (length vs) (λ f. absurd (omega (arith, f, less))))
          ∙ rest

  -- ---- strays

  path_is_own : path_at i us ≡ Some p
  path_is_own = ap (option_and_then (λ (w : DocUnit). w.path)) one.there ∙ has

  none_above_now : (place : List ℕ) → NoneAbove place us → NoneAbove place vs
  none_above_now place h k w at = by (k == i) refl
    where
      by : (b : Bool) → k == i ≡ b → rest_in w place ≡ None
      by true e =
          let same : w ≡ unit_with x one.unit =
          some_once (slice_get vs i) w (unit_with x one.unit)
          (ap (slice_get vs) (sym ((Decides-eqb k i).0 e)) ∙ at) (that_with i x us one.unit one.there) in
          ap (λ (v : DocUnit). rest_in v place) same ∙ h i one.unit one.there
      by false e = was (slice_get us k) refl
        where
          off : k ≡ i → ⊥
          off f = let there : k == i ≡ true = (Decides-eqb k i).1 f in cc

          was : (o : Option DocUnit) → slice_get us k ≡ o → rest_in w place ≡ None
          was None f =
              let many : length us ≡ length vs = many_with i x us in
              absurd (past k us f (omega (arith, many, slice_get_within vs k w at)))
            where
              past : (n : ℕ) (ws : List DocUnit) → slice_get ws n ≡ None → n < length ws → ⊥
              past n [] g l = absurd (omega (arith, l))
              past zero (v ∷ ws) g l = cc
              past (suc n) (v ∷ ws) g l = past n ws g (omega (arith, l))
          was (Some v) f =
              let same : v ≡ w = some_once (slice_get vs k) v w (other_with i x us k v f off) at in
              ap (λ (y : DocUnit). rest_in y place) (sym same) ∙ h k v f

  -- one beside the unit keeps its place
  beside_stays : (s : Stray) → NoneAbove s.kept.path us → is_beside (path_at i us) s.kept.path ≡ true
      → carried_by_all ms t s.kept.path ≡ Some s.kept.path
  beside_stays s h e =
      all_stay ms t u p s.kept.path inside
      (λ a is.
      let off : None ≡ Some a = sym (h i one.unit one.there) ∙ ap (rest_in one.unit) is ∙ in_rest one.unit p a has in
      cc)
      (λ a is. by_front (begins_path s.kept.path p) refl a is) made
    where
      by_front : (b : Bool) → begins_path s.kept.path p ≡ b → (a : List ℕ) → p ≡ s.kept.path ++ a → ⊥
      by_front true f a is =
          let off : false ≡ true =
          sym (ap (λ o. is_beside o s.kept.path) path_is_own ∙ ap not f) ∙ e in
          cc
      by_front false f a is =
          let off : None ≡ Some a =
          sym (no_rest_of s.kept.path p f) ∙ ap (rest_behind s.kept.path) is ∙ rest_own s.kept.path a in
          cc

  -- a stray whose tree holds the unit is carried nowhere
  holding_goes : (s : Stray) → NoneAbove s.kept.path us → is_beside (path_at i us) s.kept.path ≡ false
      → carried_by_all ms t s.kept.path ≡ None
  holding_goes s h e = by_front (begins_path s.kept.path p) refl
    where
      by_more : (a : List ℕ) → p ≡ s.kept.path ++ a → carried_by_all ms t s.kept.path ≡ None
      by_more [] is =
          let same : s.kept.path ≡ p ++ [] = sym (append-nil s.kept.path) ∙ sym is ∙ sym (append-nil p) in
          let off : None ≡ Some [] =
          sym (h i one.unit one.there) ∙ ap (rest_in one.unit) same ∙ in_rest one.unit p [] has in
          cc
      by_more (k ∷ a) is = all_holders_go ms t p s.kept.path a k is gone inside

      by_front : (b : Bool) → begins_path s.kept.path p ≡ b → carried_by_all ms t s.kept.path ≡ None
      by_front true f = by_more (drop (length s.kept.path) p) (begins_is s.kept.path p f)
      by_front false f =
          let off : true ≡ false =
          sym (ap (λ o. is_beside o s.kept.path) path_is_own ∙ ap not f) ∙ e in
          cc

  strays_arrive : (n k : ℕ) (ss : List Stray) → AreOutside us ss
      → arrived (moves_below ms t vs n [] k (kept_strays ss)) (length vs) ≡ kept_strays (strays_beside i us ss)
  strays_arrive n k [] h = refl
  strays_arrive n k (s ∷ ss) h =
      by (is_beside (path_at i us) s.kept.path) refl (strays_arrive n (k + 1) ss h.1)
    where
      by : (b : Bool) → is_beside (path_at i us) s.kept.path ≡ b
          → arrived (moves_below ms t vs n [] (k + 1) (kept_strays ss)) (length vs)
          ≡ kept_strays (strays_beside i us ss)
          → arrived (moves_below ms t vs n [] k (kept_strays (s ∷ ss))) (length vs)
          ≡ kept_strays (cond b (s ∷ strays_beside i us ss) (strays_beside i us ss))
      by true e rest =
          ap (λ o. arrived (cons_option (option_map (λ place. move_to n k s.kept (unit_above 0 vs place)) o)
          (moves_below ms t vs n [] (k + 1) (kept_strays ss))) (length vs)) (beside_stays s h.0 e)
          ∙ ap (λ y. cons_option (kept_in_unit (length vs) (move_to n k s.kept y))
          (arrived (moves_below ms t vs n [] (k + 1) (kept_strays ss)) (length vs)))
          (none_above vs s.kept.path (none_above_now s.kept.path h.0))
          ∙ ap (λ (c : Bool). cons_option (if c then Some s.kept else None)
          (arrived (moves_below ms t vs n [] (k + 1) (kept_strays ss)) (length vs)))
          ((Decides-eqb (length vs) (length vs)).1 refl)
          ∙ ap (λ xs. s.kept ∷ xs) rest
      by false e rest =
          ap (λ o. arrived (cons_option (option_map (λ place. move_to n k s.kept (unit_above 0 vs place)) o)
          (moves_below ms t vs n [] (k + 1) (kept_strays ss))) (length vs)) (holding_goes s h.0 e)
          ∙ rest

  -- none moves to the unit
  strays_stay_out : (n k : ℕ) (ss : List Stray) → AreOutside us ss
      → arrived (moves_below ms t vs n [] k (kept_strays ss)) i ≡ []
  strays_stay_out n k [] h = refl
  strays_stay_out n k (s ∷ ss) h =
      by (is_beside (path_at i us) s.kept.path) refl (strays_stay_out n (k + 1) ss h.1)
    where
      by : (b : Bool) → is_beside (path_at i us) s.kept.path ≡ b
          → arrived (moves_below ms t vs n [] (k + 1) (kept_strays ss)) i ≡ []
          → arrived (moves_below ms t vs n [] k (kept_strays (s ∷ ss))) i ≡ []
      by true e rest =
          ap (λ o. arrived (cons_option (option_map (λ place. move_to n k s.kept (unit_above 0 vs place)) o)
          (moves_below ms t vs n [] (k + 1) (kept_strays ss))) i) (beside_stays s h.0 e)
          ∙ ap (λ y. cons_option (kept_in_unit i (move_to n k s.kept y))
          (arrived (moves_below ms t vs n [] (k + 1) (kept_strays ss)) i))
          (none_above vs s.kept.path (none_above_now s.kept.path h.0))
          ∙ ap (λ (c : Bool). cons_option (if c then Some s.kept else None)
          (arrived (moves_below ms t vs n [] (k + 1) (kept_strays ss)) i))
          (differs (length vs) i (λ f. absurd (omega (arith, f, less))))
          ∙ rest
      by false e rest =
          ap (λ o. arrived (cons_option (option_map (λ place. move_to n k s.kept (unit_above 0 vs place)) o)
          (moves_below ms t vs n [] (k + 1) (kept_strays ss))) i) (holding_goes s h.0 e)
          ∙ rest

  -- ---- all

  all_moves : (pss : List KeptParts) (ks : KeptParts) (ss : List Stray) → slice_get pss i ≡ Some ks
      → part_moves 0 ms t us pss (kept_strays ss) vs
      ≡ moves_below ms t vs i p 0 ks ++ moves_below ms t vs (length us) [] 0 (kept_strays ss)
  all_moves pss ks ss at =
      ap (λ xs. xs ++ moves_below ms t vs (length us) [] 0 (kept_strays ss))
      (one_moves ms t vs i 0 i us pss one.unit ks one.there at other_moves_none (omega arith) ∙ own_moves ks)

  all_arrive : (pss : List KeptParts) (ks : KeptParts) (ss : List Stray) (j : ℕ) → slice_get pss i ≡ Some ks
      → arrived (part_moves 0 ms t us pss (kept_strays ss) vs) j
      ≡ arrived (moves_below ms t vs i p 0 ks) j
      ++ arrived (moves_below ms t vs (length us) [] 0 (kept_strays ss)) j
  all_arrive pss ks ss j at =
      ap (λ ns. arrived ns j) (all_moves pss ks ss at)
      ∙ filter_map-append (kept_in_unit j) (moves_below ms t vs i p 0 ks)
      (moves_below ms t vs (length us) [] 0 (kept_strays ss))

  unit_arrives : (pss : List KeptParts) (ss : List Stray) → AreOutside us ss → (v : DocUnit) (ks : KeptParts)
      → slice_get us i ≡ Some v → slice_get pss i ≡ Some ks
      → parts_within ms t v ks ≡ arrived (part_moves 0 ms t us pss (kept_strays ss) vs) i
  unit_arrives pss ss out v ks at has_parts =
      let same : v ≡ one.unit = some_once (slice_get us i) v one.unit at one.there in
      ap (λ o. option_map_or (λ q. parts_behind ms t q ks) o []) (ap (λ (w : DocUnit). w.path) same ∙ has)
      ∙ sym (own_arrive 0 ks) ∙ sym (append-nil (arrived (moves_below ms t vs i p 0 ks) i))
      ∙ ap (λ xs. arrived (moves_below ms t vs i p 0 ks) i ++ xs) (sym (strays_stay_out (length us) 0 ss out))
      ∙ sym (all_arrive pss ks ss i has_parts)

  parts_same : (pss : List KeptParts) (ss : List Stray) → AreOutside us ss → length pss ≡ length us
      → parts_but ms t i us pss
      ≡ all_parts_now pss (part_moves 0 ms t us pss (kept_strays ss) vs) 0 (numbers_but i 0 (length us))
  parts_same pss ss out many =
      all_now ms t pss (part_moves 0 ms t us pss (kept_strays ss) vs) i i 0 us pss (omega arith) many
      (λ m n is. ap (slice_get pss) (omega (arith, is))) (unit_arrives pss ss out)

  strays_same : (pss : List KeptParts) (ks : KeptParts) (ss : List Stray) → AreOutside us ss
      → slice_get pss i ≡ Some ks
      → kept_strays (strays_beside i us ss)
      ≡ arrived (part_moves 0 ms t us pss (kept_strays ss) vs) (length vs)
  strays_same pss ks ss out at =
      sym (strays_arrive (length us) 0 ss out)
      ∙ ap (λ xs. xs ++ arrived (moves_below ms t vs (length us) [] 0 (kept_strays ss)) (length vs))
      (sym (own_stray_none 0 ks))
      ∙ sym (all_arrive pss ks ss (length vs) at)

-- ---- which ones the units were

fresh_units : (us : List DocUnit) → bodies_of (map fresh_bridge us) ≡ us
fresh_units [] = refl
fresh_units (u ∷ us) = ap (λ vs. u ∷ vs) (fresh_units us)

fresh_many : (us : List DocUnit) → length us ≡ length (map fresh_bridge us)
fresh_many us = sym (length-map us fresh_bridge)

pub numbers_same : (i : ℕ) (ms : List Mod) (t u x : WideTree) (us : List DocUnit) → changed_by_all ms t ≡ Some u
    → AreUnits us → IsOneChanged i 0 ms us → numbers_but i 0 (length us) ≡ sources ms t us (units_with i x us)
numbers_same i ms t u x us made are one =
    let bs : List Bridge = map fresh_bridge us in
    let was : units_of (entries_of bs) ≡ us = units_bodies bs ∙ fresh_units us in
    let all = in_place i ms t x [] bs (u, made) (start_sound us are.placed) (entries_of bs) (changed_in i x [] bs) refl
    (subst AreUnits (sym was) are) (subst (IsOneChanged i 0 ms) (sym was) one) refl in
    ap (λ ws. numbers_but i 0 (length ws)) (sym was) ∙ sym all.numbers ∙ all.sources
    ∙ ap (λ ws. sources ms t ws (units_with i x ws)) was

-- ---- what is asked

pub many_parts : (es : Kept) (pss : List KeptParts) → AllPartsHold es pss → length pss ≡ length (units_of es)
many_parts [] [] h = refl
many_parts [] (ks ∷ pss) h = absurd h
many_parts (e ∷ es) [] h = absurd h
many_parts (e ∷ es) (ks ∷ pss) h = ap suc (many_parts es pss h.1)

there_is : (pss : List KeptParts) (i : ℕ) → i < length pss → (ks : KeptParts) × (slice_get pss i ≡ Some ks)
there_is [] i less = absurd (omega (arith, less))
there_is (ks ∷ pss) zero less = (ks, refl)
there_is (ks ∷ pss) (suc i) less = there_is pss i (omega (arith, less))

-- the path of the unit that changes, and what is asked of it
record ChangesWithin (ms : List Mod) (u : DocUnit) : Type 0 where
  path : List ℕ
  has : u.path ≡ Some path
  gone : is_gone path ms ≡ true
  within : are_within path ms ≡ true

changes : (i : ℕ) (ms : List Mod) (us : List DocUnit) (one : IsOneChanged i 0 ms us) → ChangesWithin ms one.unit
changes i ms us one = by one.unit.path refl one.changed
  where
    by : (o : Option (List ℕ)) → one.unit.path ≡ o
        → option_map_or (λ path. is_gone path ms && are_within path ms) o false ≡ true → ChangesWithin ms one.unit
    by None e f = cc
    by (Some q) e f =
        let all : (is_gone q ms ≡ true) × (are_within q ms ≡ true) = both (is_gone q ms) (are_within q ms) f in
        record { path = q; has = e; gone = all.0; within = all.1 }

module _ (i : ℕ) (ms : List Mod) (t u x : WideTree) (us : List DocUnit) (pss : List KeptParts) (ss : List Stray)
    (made : changed_by_all ms t ≡ Some u) (are : AreUnits us) (one : IsOneChanged i 0 ms us)
    (many : length pss ≡ length us) (out : AreOutside us ss) where
  abbrev change : ChangesWithin ms one.unit
  change = changes i ms us one

  pub parts_in_place : CarryWithin i ms t us pss
      ≡ CarryParts pss (PartMoves 0 ms t us pss (kept_strays ss) (units_with i x us))
      (Sources 0 ms t us (units_with i x us))
  unfolding CarryWithin CarryParts PartMoves Sources
  parts_in_place =
      parts_same i ms t u x us made are one change.path change.has change.gone change.within pss ss out many
      ∙ ap (all_parts_now pss (part_moves 0 ms t us pss (kept_strays ss) (units_with i x us)) 0)
      (numbers_same i ms t u x us made are one)

  pub strays_in_place : kept_strays (StraysBeside i us ss)
      ≡ CarryStrays (PartMoves 0 ms t us pss (kept_strays ss) (units_with i x us)) (length (units_with i x us))
  unfolding StraysBeside CarryStrays PartMoves
  strays_in_place =
      let own = there_is pss i (omega (arith, many, slice_get_within us i one.unit one.there)) in
      strays_same i ms t u x us made are one change.path change.has change.gone change.within pss own.0 ss out own.1
