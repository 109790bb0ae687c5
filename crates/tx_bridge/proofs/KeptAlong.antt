-- What is cached of parts and strays is carried to where their places in the document are carried.
use Rattle.std.proofs.Common.{◌≡◌, ℕ, zero, suc, ◌+◌, Bool, true, false, not, List, [], ◌∷◌, ◌++◌, length}
use Rattle.std.proofs.Common.{Option, Some, None, refl, sym, ap, subst, ◌∙◌, arith, ◌⊎◌, inl, inr}
use Rattle.std.proofs.lemmas.List.{append-nil}
use Rattle.std.proofs.lemmas.Option.{same_Some, slice_get-map, slice_get_within}
use Rattle.std.proofs.lemmas.Slice.Eq.{bytes_eq-Decides}
use Rattle.std.specs.List.{AllByRecursion, IsDistinct, list_any}
use Rattle.std.specs.Option.{option_map, option_map_or}
use Rattle.std.specs.Prelude.{◌||◌, is_some, if◌then◌else◌, slice_get}
use Rattle.std.specs.Str.{bytes_eq}
use Rattle.tx_tree.specs.WideTree.{WideTree}
use Rattle.tx_tree.specs.Paths.{subtree}
use Rattle.tx_mod.specs.declared.mods.Mod.{Mod}
use Rattle.tx_mod.specs.Followed.{CarriesSubtree, CarriesThroughAll, changed_by_all, carried_by_all}
use Rattle.tx_mod.proofs.Kept.{subtree_behind}
use Rattle.tx_exec_form.specs.Evaluated.{WideTrace}
use Rattle.tx_parts.specs.Parts.{Stored}
use Rattle.tx_units.specs.declared.kinds.Unit.{Unit as DocUnit}
use Rattle.tx_units.specs.Places.{NoneBegins}
use Rattle.tx_bridge.specs.Carrying.{is_path, through, unit_places_after, number_at, same_number, source, sources_from}
use Rattle.tx_bridge.specs.Carrying.{Leads, Stands, AllStand}
use Rattle.tx_bridge.specs.Courses.{IsUnitAbove}
use Rattle.tx_bridge.specs.Entries.{Kept, units_of}
use Rattle.tx_bridge.specs.HeldParts.{StoredHolds, StoredAllHold, AllPartsHold}
use Rattle.tx_bridge.specs.KeptInDocument.{kept_in_document, kept_behind, CameAlong}
use Rattle.tx_bridge.specs.Names.{CarryParts, CarryStrays, PartMoves, Sources}
use Rattle.tx_bridge.specs.PartMoves.{Move, NoneAbove, is_vacant, stands_at, rest_in, unit_above, moves_below}
use Rattle.tx_bridge.specs.PartMoves.{moves_from, part_moves, arrived, parts_now}
use Rattle.tx_bridge.specs.PartMoves.{all_parts_now}
use Rattle.tx_bridge.specs.PartsKept.{KeptParts, kept_at, part_paths}
use Rattle.tx_bridge.specs.Strays.{Stray, HoldsStray, AreStrays, StandAside, kept_strays}
use Rattle.tx_bridge.specs.UnitLists.{AreUnits}
use Rattle.tx_bridge.proofs.Above.{IsIn, IsFound, rest_in_is, in_rest, one_above, none_above, above_is, found_at}
use Rattle.tx_bridge.proofs.Above.{far_at, vacant_nowhere, vacant_by_path}
use Rattle.tx_bridge.proofs.CarriedAlong.{all_along}
use Rattle.tx_bridge.proofs.CarriedInPlace.{many_parts}
use Rattle.tx_bridge.proofs.Injective.{carried_once}
use Rattle.tx_bridge.proofs.Single.{ByPath, ByNumber, source_says}
use Rattle.tx_bridge.proofs.Slotting.{some_once}
use Rattle.tx_bridge.proofs.ReadByPath.{AnyOf, any_left, any_right, any_of_both, all_onto, KeepsTrace, IsTraced}
use Rattle.tx_bridge.proofs.ReadByPath.{IsSomeTrace, found_in, told_by, some_kept, leads_there, all_traced}
use Rattle.tx_bridge.proofs.ReadByPath.{ReadIn, ReadAside, read, read_in, read_aside}
use Rattle.tx_bridge.proofs.ReadByPath.{Brings, arrived_from, arrived_to, arrived_traced, below_from, below_to}
use Rattle.tx_bridge.proofs.ReadByPath.{below_traced, units_from, units_to, units_traced}

-- ---- which ones the units were

-- the old unit of number i is at p afterwards
record CameUnit (ms : List Mod) (t : WideTree) (us : List DocUnit) (i : ℕ) (p : List ℕ) : Type 0 where
  unit : DocUnit
  there : slice_get us i ≡ Some unit
  path : List ℕ
  has : unit.path ≡ Some path
  carried : carried_by_all ms t path ≡ Some p

came_at : (ms : List Mod) (t : WideTree) (us : List DocUnit) (i : ℕ) (p : List ℕ)
    → slice_get (unit_places_after ms t us) i ≡ Some (Some p) → CameUnit ms t us i p
came_at ms t [] i p e = cc
came_at ms t (u ∷ us) zero p e = by u.path refl (same_Some (through ms t u.path) (Some p) e)
  where
    by : (o : Option (List ℕ)) → u.path ≡ o → through ms t o ≡ Some p → CameUnit ms t (u ∷ us) 0 p
    by None h f = cc
    by (Some q) h f = record { unit = u; there = refl; path = q; has = h; carried = f }
came_at ms t (u ∷ us) (suc i) p e = let c = came_at ms t us i p e in record {
  unit = c.unit;
  there = c.there;
  path = c.path;
  has = c.has;
  carried = c.carried;
}

place_at : (ms : List Mod) (t : WideTree) (us : List DocUnit) (i : ℕ) (u : DocUnit) → slice_get us i ≡ Some u
    → slice_get (unit_places_after ms t us) i ≡ Some (through ms t u.path)
place_at ms t us i u e =
    slice_get-map (λ (v : DocUnit). through ms t v.path) us i ∙ ap (option_map (λ (v : DocUnit). through ms t v.path)) e

number_some : (p : List ℕ) (n : ℕ) (qs : List (Option (List ℕ))) (k : ℕ)
    → (m : ℕ) × (number_at p n qs (Some k) ≡ Some m)
number_some p n [] k = (k, refl)
number_some p n (q ∷ qs) k = by (is_path p q) (number_some p (n + 1) qs n) (number_some p (n + 1) qs k)
  where
    by : (b : Bool) → (m : ℕ) × (number_at p (n + 1) qs (Some n) ≡ Some m)
        → (m : ℕ) × (number_at p (n + 1) qs (Some k) ≡ Some m)
        → (m : ℕ) × (number_at p (n + 1) qs (if b then Some n else Some k) ≡ Some m)
    by true here later = here
    by false here later = later

number_there : (p : List ℕ) (n : ℕ) (qs : List (Option (List ℕ))) (o : Option ℕ) (i : ℕ)
    → slice_get qs i ≡ Some (Some p) → (m : ℕ) × (number_at p n qs o ≡ Some m)
number_there p n [] o i e = cc
number_there p n (q ∷ qs) o zero e =
    let here : is_path p q ≡ true = ap (is_path p) (same_Some q (Some p) e) ∙ (bytes_eq-Decides p p).1 refl in
    subst (λ (b : Bool). (m : ℕ) × (number_at p (n + 1) qs (if b then Some n else o) ≡ Some m)) (sym here)
    (number_some p (n + 1) qs n)
number_there p n (q ∷ qs) o (suc i) e = number_there p (n + 1) qs (if is_path p q then Some n else o) i e

parts_there : (all : List KeptParts) (ns : List Move) (places : List (Option (List ℕ))) (us : List DocUnit)
    (k n : ℕ) (vs : List DocUnit) (j : ℕ) (v : DocUnit) → slice_get vs j ≡ Some v → n ≡ k + j
    → slice_get (all_parts_now all ns k (sources_from places us k vs)) j
    ≡ Some (parts_now all ns n (source places us n v))
parts_there all ns places us k n [] j v e is = cc
parts_there all ns places us k n (w ∷ vs) zero v e is =
    let here : k ≡ n = omega (arith, is) in
    ap (λ (x : DocUnit). Some (parts_now all ns k (source places us k x))) (same_Some w v e)
    ∙ ap (λ (m : ℕ). Some (parts_now all ns m (source places us m v))) here
parts_there all ns places us k n (w ∷ vs) (suc j) v e is =
    parts_there all ns places us (k + 1) n vs j v e (omega (arith, is))

many_now : (all : List KeptParts) (ns : List Move) (places : List (Option (List ℕ))) (us : List DocUnit) (k : ℕ)
    (vs : List DocUnit) → length (all_parts_now all ns k (sources_from places us k vs)) ≡ length vs
many_now all ns places us k [] = refl
many_now all ns places us k (v ∷ vs) = ap suc (many_now all ns places us (k + 1) vs)

-- ---- vacant places

any_at : (f : DocUnit → Bool) (us : List DocUnit) → list_any f us ≡ true
    → (k : ℕ) × (u : DocUnit) × (slice_get us k ≡ Some u) × (f u ≡ true)
any_at f [] e = cc
any_at f (u ∷ us) e = by (f u) refl (λ g. any_at f us g) e
  where
    by : (b : Bool) → f u ≡ b
        → (list_any f us ≡ true → (k : ℕ) × (v : DocUnit) × (slice_get us k ≡ Some v) × (f v ≡ true))
        → b || list_any f us ≡ true
        → (k : ℕ) × (v : DocUnit) × (slice_get (u ∷ us) k ≡ Some v) × (f v ≡ true)
    by true h later g = (0, u, refl, h)
    by false h later g = let x = later g in (suc x.0, x.1, x.2, x.3)

-- a unit is at the place
record HasUnitAt (vs : List DocUnit) (p : List ℕ) : Type 0 where
  number : ℕ
  unit : DocUnit
  there : slice_get vs number ≡ Some unit
  has : unit.path ≡ Some p

not_false : (b : Bool) → not b ≡ false → b ≡ true
not_false true e = refl
not_false false e = cc

stands_path : (u : DocUnit) (p : List ℕ) → stands_at (Some p) u ≡ true → u.path ≡ Some p
stands_path u p e = by u.path refl
  where
    by : (o : Option (List ℕ)) → u.path ≡ o → o ≡ Some p
    by None h =
        let off : false ≡ true = sym (ap (λ o. option_map_or (λ q. is_path q (Some p)) o false) h) ∙ e in absurd (cc)
    by (Some q) h =
        ap (λ z. Some z)
        (sym ((bytes_eq-Decides p q).0 (sym (ap (λ o. option_map_or (λ a. is_path a (Some p)) o false) h) ∙ e)))

taken_by : (vs : List DocUnit) (p : List ℕ) → is_vacant (Some p) vs ≡ false → HasUnitAt vs p
taken_by vs p e =
    let x = any_at (stands_at (Some p)) vs (not_false (list_any (stands_at (Some p)) vs) e) in
    record { number = x.0; unit = x.1; there = x.2; has = stands_path x.1 p x.3 }

not_vacant : (vs : List DocUnit) (j : ℕ) (v : DocUnit) (p : List ℕ) → NoneBegins vs → slice_get vs j ≡ Some v
    → v.path ≡ Some p → is_vacant (Some p) vs ≡ false
not_vacant vs j v p apart there has =
    let above : IsUnitAbove p vs j = record {
      unit = v;
      there = there;
      within = ap is_some (ap (rest_in v) (sym (append-nil p)) ∙ in_rest v p [] has);
    } in
    sym (vacant_by_path vs p j v true apart above there (sym (ap (is_path p) has ∙ (bytes_eq-Decides p p).1 refl)))

-- ---- through an edit

module _ (ms : List Mod) (t w : WideTree) (us vs : List DocUnit) (pss : List KeptParts) (ks : KeptParts)
    (through_all : (q : List ℕ) → CarriesThroughAll ms t q)
    (law : (m : Mod) (s : WideTree) (q : List ℕ) → CarriesSubtree m s q) (made : changed_by_all ms t ≡ Some w)
    (apart : NoneBegins us) (new_apart : NoneBegins vs) (many : length pss ≡ length us)
    (stand : (k : ℕ) (u : DocUnit) → slice_get us k ≡ Some u → Stands t u)
    (hold : (k : ℕ) (u : DocUnit) (ps : KeptParts) → slice_get us k ≡ Some u → slice_get pss k ≡ Some ps
    → StoredAllHold u.tagged.tree ps)
    (traced : (k : ℕ) (ps : KeptParts) → slice_get pss k ≡ Some ps → AllByRecursion IsTraced ps)
    (aside : AllByRecursion (StoredHolds t) ks) (distinct : IsDistinct bytes_eq (part_paths ks))
    (outside : AllByRecursion (λ s. NoneAbove s.path us) ks) where
  abbrev moves : List Move
  moves = part_moves 0 ms t us pss ks vs

  abbrev places : List (Option (List ℕ))
  places = unit_places_after ms t us

  abbrev new_parts : List KeptParts
  new_parts = all_parts_now pss moves 0 (sources_from places us 0 vs)

  abbrev new_strays : KeptParts
  new_strays = arrived moves (length vs)

  abbrev was : List ℕ → Option WideTrace
  was q = kept_in_document us pss ks q

  abbrev now : List ℕ → Option WideTrace
  now q = kept_in_document vs new_parts new_strays q

  many_new : length new_parts ≡ length vs
  many_new = many_now pss moves places us 0 vs

  all_moves_traced : AllByRecursion (λ m. IsTraced m.kept) moves
  all_moves_traced =
      all_onto (λ m. IsTraced m.kept) (moves_from ms t vs 0 us pss) (moves_below ms t vs (length us) [] 0 ks)
      (units_traced ms t vs 0 us pss traced) (below_traced ms t vs (length us) [] 0 ks (all_traced t ks aside))

  -- a path at which something was cached leads
  was_leads : (q : List ℕ) (trace : WideTrace) → was q ≡ Some trace → Leads t (Some q)
  was_leads q trace e = by (read us pss ks q many)
    where
      by : ReadIn us pss q (was q) ⊎ ReadAside us ks q (was q) → Leads t (Some q)
      by (inl h) =
          let x : IsIn h.unit q h.rest = rest_in_is h.unit q h.rest h.inside in
          let l : Leads h.unit.tagged.tree (Some h.rest) =
          leads_there h.unit.tagged.tree h.parts h.rest trace (hold h.number h.unit h.parts h.there h.has).hold
          (found_in h.parts h.rest trace (sym h.tells ∙ e)) in (
            l.0,
            ap (subtree t) x.whole
                ∙ subtree_behind x.path h.rest t h.unit.tagged.tree (stand h.number h.unit h.there x.path x.has) ∙ l.1,
          )
      by (inr h) = leads_there t ks q trace aside (found_in ks q trace (sym h.tells ∙ e))

  -- a cached stray is outside of all units
  stray_out : (xs : KeptParts) (q : List ℕ) (trace : WideTrace) → AllByRecursion (λ s. NoneAbove s.path us) xs
      → AnyOf (KeepsTrace q trace) xs → NoneAbove q us
  stray_out [] q trace h any = absurd any
  stray_out (s ∷ xs) q trace h (inl any) = subst (λ a. NoneAbove a us) any.path h.0
  stray_out (s ∷ xs) q trace h (inr any) = stray_out xs q trace h.1 any

  -- where a move brings it from
  record Moved (j : ℕ) (r : List ℕ) (trace : WideTrace) : Type 0 where
    path : List ℕ
    place : List ℕ
    carried : carried_by_all ms t path ≡ Some place
    above : unit_above 0 vs place ≡ (j, r)
    kept : was path ≡ Some trace

  moved_from : (j : ℕ) (r : List ℕ) (trace : WideTrace) → AnyOf (Brings j r trace) moves → Moved j r trace
  moved_from j r trace h =
      by (any_of_both (Brings j r trace) (moves_from ms t vs 0 us pss) (moves_below ms t vs (length us) [] 0 ks) h)
    where
      by : AnyOf (Brings j r trace) (moves_from ms t vs 0 us pss)
          ⊎ AnyOf (Brings j r trace) (moves_below ms t vs (length us) [] 0 ks) → Moved j r trace
      by (inl g) =
          let c = units_from ms t vs 0 us pss j r trace g in
          record {
            path = c.base ++ c.below.path;
            place = c.below.place;
            carried = c.below.carried;
            above = c.below.above;
            kept = read_in us pss ks (c.base ++ c.below.path) c.number c.unit c.parts c.below.path apart c.there c.has
                (in_rest c.unit c.base c.below.path c.at)
                ∙ told_by c.parts c.below.path trace (hold c.number c.unit c.parts c.there c.has).distinct c.below.any;
          }
      by (inr g) =
          let c = below_from ms t vs (length us) [] 0 ks j r trace g in
          record {
            path = c.path;
            place = c.place;
            carried = c.carried;
            above = c.above;
            kept = read_aside us pss ks c.path (stray_out ks c.path trace outside c.any)
                ∙ told_by ks c.path trace distinct c.any;
          }

  moved_to : (q r : List ℕ) (trace : WideTrace) (j : ℕ) (rest : List ℕ) → carried_by_all ms t q ≡ Some r
      → was q ≡ Some trace
      → ((i : ℕ) (u : DocUnit) (a : List ℕ) → slice_get us i ≡ Some u → rest_in u q ≡ Some a
      → is_vacant (through ms t u.path) vs ≡ true)
      → unit_above 0 vs r ≡ (j, rest) → AnyOf (Brings j rest trace) moves
  moved_to q r trace j rest carried e vacant above = by (read us pss ks q many)
    where
      by : ReadIn us pss q (was q) ⊎ ReadAside us ks q (was q) → AnyOf (Brings j rest trace) moves
      by (inl h) =
          let x : IsIn h.unit q h.rest = rest_in_is h.unit q h.rest h.inside in
          any_left (Brings j rest trace) (moves_from ms t vs 0 us pss) (moves_below ms t vs (length us) [] 0 ks)
          (units_to ms t vs 0 h.number us pss j rest trace h.unit h.parts x.path h.rest r h.there h.has x.has
          (vacant h.number h.unit h.rest h.there h.inside) (found_in h.parts h.rest trace (sym h.tells ∙ e))
          (ap (carried_by_all ms t) (sym x.whole) ∙ carried) above)
      by (inr h) =
          any_right (Brings j rest trace) (moves_from ms t vs 0 us pss) (moves_below ms t vs (length us) [] 0 ks)
          (below_to ms t vs (length us) [] 0 ks j rest trace q r (found_in ks q trace (sym h.tells ∙ e)) carried above)

  -- a place above which is this unit, with this rest, is the path
  place_of : (j : ℕ) (v : DocUnit) (r rest place : List ℕ) → slice_get vs j ≡ Some v → rest_in v r ≡ Some rest
      → unit_above 0 vs place ≡ (j, rest) → place ≡ r
  place_of j v r rest place there inside above =
      by (found_at 0 vs place (omega (arith, number, slice_get_within vs j v there)))
    where
      number : (unit_above 0 vs place).0 ≡ j
      number = ap (λ (y : ℕ × List ℕ). y.0) above

      same_place : IsIn v place rest → IsIn v r rest → place ≡ r
      same_place y x = y.whole ∙ ap (λ p. p ++ rest) (same_Some y.path x.path (sym y.has ∙ x.has)) ∙ sym x.whole

      same_unit : (k : ℕ) (u : DocUnit) → k ≡ j → slice_get vs k ≡ Some u → u ≡ v
      same_unit k u e at = same_Some u v (sym at ∙ ap (slice_get vs) e ∙ there)

      by : (k : ℕ) × ((unit_above 0 vs place).0 ≡ 0 + k) × IsFound vs k place (unit_above 0 vs place).1 → place ≡ r
      by f =
          let is_j : f.0 ≡ j = omega (arith, f.1, number) in
          same_place
          (rest_in_is v place rest
          (ap (λ (u : DocUnit). rest_in u place) (sym (same_unit f.0 f.2.unit is_j f.2.there)) ∙ f.2.rest
          ∙ ap (λ (z : ℕ × List ℕ). Some z.1) above))
          (rest_in_is v r rest inside)

  no_number : (j : ℕ) (v : DocUnit) (i : ℕ) (r rest : List ℕ) → ByNumber us j v i → rest_in v r ≡ Some rest → ⊥
  no_number j v i r rest x e =
      let y : IsIn v r rest = rest_in_is v r rest e in
      let off : None ≡ Some y.path = sym x.none ∙ y.has in
      cc

  -- ---- what is cached now was cached there

  came_along : (r : List ℕ) (trace : WideTrace) → now r ≡ Some trace → CameAlong ms t us pss ks r trace
  came_along r trace e = by (read vs new_parts new_strays r many_new)
    where
      by_old : (v : DocUnit) (rest : List ℕ) (i : ℕ) (x : ByPath places v i) → rest_in v r ≡ Some rest
          → (o : Option KeptParts) → slice_get pss i ≡ o
          → kept_at (option_map_or (λ ps. ps) o []) rest ≡ Some trace → CameAlong ms t us pss ks r trace
      by_old v rest i x inside None at f = cc
      by_old v rest i x inside (Some ps) at f =
          let c = came_at ms t us i x.path x.place in
          let y : IsIn v r rest = rest_in_is v r rest inside in
          let one : x.path ≡ y.path = same_Some x.path y.path (sym x.has ∙ y.has) in
          record {
            from = c.path ++ rest;
            carried = all_along rest ms t c.path x.path c.carried
                ∙ ap (λ p. Some (p ++ rest)) one ∙ ap (λ z. Some z) (sym y.whole);
            kept = read_in us pss ks (c.path ++ rest) i c.unit ps rest apart c.there at
                (in_rest c.unit c.path rest c.has)
                ∙ f;
          }

      by_source : (j : ℕ) (v : DocUnit) (rest : List ℕ) → slice_get vs j ≡ Some v → rest_in v r ≡ Some rest
          → (o : Option ℕ) → source places us j v ≡ o → kept_at (parts_now pss moves j o) rest ≡ Some trace
          → CameAlong ms t us pss ks r trace
      by_source j v rest there inside None is f =
          let m = moved_from j rest trace (arrived_from moves j rest trace (found_in (arrived moves j) rest trace f)) in
          record {
            from = m.path;
            carried = m.carried ∙ ap (λ z. Some z) (place_of j v r rest m.place there inside m.above);
            kept = m.kept;
          }
      by_source j v rest there inside (Some i) is f = by_way (source_says places us j v i is)
        where
          by_way : ByPath places v i ⊎ ByNumber us j v i → CameAlong ms t us pss ks r trace
          by_way (inl x) = by_old v rest i x inside (slice_get pss i) refl f
          by_way (inr x) = absurd (no_number j v i r rest x inside)

      by : ReadIn vs new_parts r (now r) ⊎ ReadAside vs new_strays r (now r) → CameAlong ms t us pss ks r trace
      by (inl h) =
          let is : h.parts ≡ parts_now pss moves h.number (source places us h.number h.unit) =
          some_once (slice_get new_parts h.number) h.parts
          (parts_now pss moves h.number (source places us h.number h.unit)) h.has
          (parts_there pss moves places us 0 h.number vs h.number h.unit h.there (omega arith)) in
          by_source h.number h.unit h.rest h.there h.inside (source places us h.number h.unit) refl
          (ap (λ ps. kept_at ps h.rest) (sym is) ∙ sym h.tells ∙ e)
      by (inr h) =
          let m = moved_from (length vs) r trace
          (arrived_from moves (length vs) r trace (found_in new_strays r trace (sym h.tells ∙ e))) in
          let number : (unit_above 0 vs m.place).0 ≡ length vs = ap (λ (y : ℕ × List ℕ). y.0) m.above in
          let far = far_at 0 vs m.place (omega (arith, number)) in
          record {
            from = m.path;
            carried = m.carried
                ∙ ap (λ z. Some z) (sym far.0 ∙ ap (λ (y : ℕ × List ℕ). y.1) m.above);
            kept = m.kept;
          }

  -- ---- what was cached there is cached now

  -- what is below an old unit that is a new one is below that one
  stays_below : (i : ℕ) (c : (p : List ℕ) × CameUnit ms t us i p) (q r rest : List ℕ)
      → carried_by_all ms t q ≡ Some r → Leads t (Some q) → r ≡ c.0 ++ rest → q ≡ c.1.path ++ rest
  stays_below i c q r rest carried lead is =
      let tree : WideTree = c.1.unit.tagged.tree in
      let at : subtree t c.1.path ≡ Some tree = stand i c.1.unit c.1.there c.1.path c.1.has in
      let later : subtree w c.0 ≡ Some tree = through_all c.1.path w tree c.0 made at c.1.carried in
      let inside : subtree tree rest ≡ Some lead.0 =
      sym (subtree_behind c.0 rest w tree later) ∙ ap (subtree w) (sym is)
      ∙ through_all q w lead.0 r made lead.1 carried in
      carried_once law ms t w q (c.1.path ++ rest) r lead.0 lead.0 made lead.1
      (subtree_behind c.1.path rest t tree at ∙ inside) carried
      (all_along rest ms t c.1.path c.0 c.1.carried ∙ ap (λ z. Some z) (sym is))

  moved_kept : (q r : List ℕ) (trace : WideTrace) → carried_by_all ms t q ≡ Some r → was q ≡ Some trace
      → ((i : ℕ) (u : DocUnit) (a : List ℕ) → slice_get us i ≡ Some u → rest_in u q ≡ Some a
      → is_vacant (through ms t u.path) vs ≡ true)
      → IsSomeTrace (now r)
  moved_kept q r trace carried e vacant = by (read vs new_parts new_strays r many_new)
    where
      by_source : (j : ℕ) (v : DocUnit) (rest : List ℕ) → slice_get vs j ≡ Some v → rest_in v r ≡ Some rest
          → (o : Option ℕ) → source places us j v ≡ o → IsSomeTrace (kept_at (parts_now pss moves j o) rest)
      by_source j v rest there inside None is =
          some_kept (arrived moves j) rest trace (arrived_traced moves j all_moves_traced)
          (arrived_to moves j rest trace
          (moved_to q r trace j rest carried e vacant (above_is vs j v r rest new_apart there inside)))
      by_source j v rest there inside (Some i) is = by_way (source_says places us j v i is)
        where
          by_way : ByPath places v i ⊎ ByNumber us j v i → IsSomeTrace (kept_at (parts_now pss moves j (Some i)) rest)
          by_way (inr x) = absurd (no_number j v i r rest x inside)
          by_way (inl x) =
              let c = came_at ms t us i x.path x.place in
              let y : IsIn v r rest = rest_in_is v r rest inside in
              let whole : r ≡ x.path ++ rest =
              y.whole ∙ ap (λ p. p ++ rest) (same_Some y.path x.path (sym y.has ∙ x.has)) in
              let same : q ≡ c.path ++ rest =
              stays_below i (x.path, c) q r rest carried (was_leads q trace e) whole in
              let free : is_vacant (through ms t c.unit.path) vs ≡ true =
              vacant i c.unit rest c.there (ap (rest_in c.unit) same ∙ in_rest c.unit c.path rest c.has) in
              let off : true ≡ false =
              sym free ∙ ap (λ o. is_vacant o vs) (ap (through ms t) c.has ∙ c.carried)
              ∙ not_vacant vs j v x.path new_apart there x.has in
              absurd (cc)

      by : ReadIn vs new_parts r (now r) ⊎ ReadAside vs new_strays r (now r) → IsSomeTrace (now r)
      by (inl h) =
          let is : h.parts ≡ parts_now pss moves h.number (source places us h.number h.unit) =
          some_once (slice_get new_parts h.number) h.parts
          (parts_now pss moves h.number (source places us h.number h.unit)) h.has
          (parts_there pss moves places us 0 h.number vs h.number h.unit h.there (omega arith)) in
          let k = by_source h.number h.unit h.rest h.there h.inside (source places us h.number h.unit) refl in
          record { trace = k.trace; is = h.tells ∙ ap (λ ps. kept_at ps h.rest) is ∙ k.is }
      by (inr h) =
          let k = some_kept new_strays r trace (arrived_traced moves (length vs) all_moves_traced)
          (arrived_to moves (length vs) r trace
          (moved_to q r trace (length vs) r carried e vacant (none_above vs r h.outside))) in
          record { trace = k.trace; is = h.tells ∙ k.is }

  -- one of an old unit that is a new one
  unit_kept : (q r : List ℕ) (trace : WideTrace) → carried_by_all ms t q ≡ Some r → was q ≡ Some trace
      → (h : ReadIn us pss q (was q)) → is_vacant (through ms t h.unit.path) vs ≡ false → IsSomeTrace (now r)
  unit_kept q r trace carried e h taken = by (carried_by_all ms t x.path) refl
    where
      x : IsIn h.unit q h.rest
      x = rest_in_is h.unit q h.rest h.inside

      by : (o : Option (List ℕ)) → carried_by_all ms t x.path ≡ o → IsSomeTrace (now r)
      by None f =
          let off : true ≡ false =
          vacant_nowhere vs ∙ ap (λ o. is_vacant o vs) (sym (ap (through ms t) x.has ∙ f)) ∙ taken in
          absurd (cc)
      by (Some p) f = record {
        trace = trace;
        is = read_in vs new_parts new_strays r y.number y.unit (parts_now pss moves y.number (Some h.number)) h.rest
            new_apart y.there
            (parts_there pss moves places us 0 y.number vs y.number y.unit y.there (omega arith)
            ∙ ap (λ o. Some (parts_now pss moves y.number o)) source_is)
            (ap (rest_in y.unit) whole ∙ in_rest y.unit p h.rest y.has)
            ∙ ap (λ o. kept_at (option_map_or (λ ps. ps) o []) h.rest) h.has ∙ sym h.tells ∙ e;
      }
        where
          here : through ms t h.unit.path ≡ Some p
          here = ap (through ms t) x.has ∙ f

          y : HasUnitAt vs p
          y = taken_by vs p (ap (λ o. is_vacant o vs) (sym here) ∙ taken)

          whole : r ≡ p ++ h.rest
          whole =
              same_Some r (p ++ h.rest)
              (sym carried ∙ ap (carried_by_all ms t) x.whole ∙ all_along h.rest ms t x.path p f)

          found : (m : ℕ) × (source places us y.number y.unit ≡ Some m)
          found =
              let other : Option ℕ = same_number us y.number y.unit in
              let n = number_there p 0 places None h.number
              (place_at ms t us h.number h.unit h.there ∙ ap (λ o. Some o) here) in
              (n.0, ap (λ o. option_map_or (λ a. number_at a 0 places None) o other) y.has ∙ n.1)

          by_way : (m : ℕ) → ByPath places y.unit m ⊎ ByNumber us y.number y.unit m → m ≡ h.number
          by_way m (inl z) =
              let c = came_at ms t us m z.path z.place in
              let one : z.path ≡ p = same_Some z.path p (sym z.has ∙ y.has) in
              let same : c.path ≡ x.path =
              carried_once law ms t w c.path x.path p c.unit.tagged.tree h.unit.tagged.tree made
              (stand m c.unit c.there c.path c.has) (stand h.number h.unit h.there x.path x.has)
              (c.carried ∙ ap (λ a. Some a) one) f in
              one_above us m h.number c.unit h.unit q h.rest h.rest apart c.there h.there
              (ap (rest_in c.unit) (x.whole ∙ ap (λ a. a ++ h.rest) (sym same)) ∙ in_rest c.unit c.path h.rest c.has)
              h.inside
          by_way m (inr z) = let off : None ≡ Some p = sym z.none ∙ y.has in absurd (cc)

          source_is : source places us y.number y.unit ≡ Some h.number
          source_is =
              found.1
              ∙ ap (λ m. Some m) (by_way found.0 (source_says places us y.number y.unit found.0 found.1))

  kept_now : (r : List ℕ) (trace : WideTrace) → CameAlong ms t us pss ks r trace → IsSomeTrace (now r)
  kept_now r trace c = by (read us pss ks c.from many)
    where
      by_vacant : (h : ReadIn us pss c.from (was c.from)) (b : Bool) → is_vacant (through ms t h.unit.path) vs ≡ b
          → IsSomeTrace (now r)
      by_vacant h false f = unit_kept c.from r trace c.carried c.kept h f
      by_vacant h true f =
          moved_kept c.from r trace c.carried c.kept
          (λ i u a there inside.
          let number : i ≡ h.number =
          one_above us i h.number u h.unit c.from a h.rest apart there h.there inside h.inside in
          let same : u ≡ h.unit =
          some_once (slice_get us h.number) u h.unit (ap (slice_get us) (sym number) ∙ there) h.there in
          ap (λ (v : DocUnit). is_vacant (through ms t v.path) vs) same ∙ f)

      by : ReadIn us pss c.from (was c.from) ⊎ ReadAside us ks c.from (was c.from) → IsSomeTrace (now r)
      by (inl h) = by_vacant h (is_vacant (through ms t h.unit.path) vs) refl
      by (inr h) =
          moved_kept c.from r trace c.carried c.kept
          (λ i u a there inside. let off : None ≡ Some a = sym (h.outside i u there) ∙ inside in absurd (cc))

  -- no two are carried to one path
  from_once : (r : List ℕ) (a b : WideTrace) (x : CameAlong ms t us pss ks r a) (y : CameAlong ms t us pss ks r b)
      → x.from ≡ y.from
  from_once r a b x y =
      let at_x : Leads t (Some x.from) = was_leads x.from a x.kept in
      let at_y : Leads t (Some y.from) = was_leads y.from b y.kept in
      carried_once law ms t w x.from y.from r at_x.0 at_y.0 made at_x.1 at_y.1 x.carried y.carried

  kept_along : (r : List ℕ) (trace : WideTrace) → CameAlong ms t us pss ks r trace → now r ≡ Some trace
  kept_along r trace c =
      let k : IsSomeTrace (now r) = kept_now r trace c in
      let back : CameAlong ms t us pss ks r k.trace = came_along r k.trace k.is in
      k.is ∙ sym back.kept ∙ ap (kept_in_document us pss ks) (from_once r k.trace trace back c) ∙ c.kept

-- ---- what is asked

unit_stands : (t : WideTree) (us : List DocUnit) → AllStand t us → (k : ℕ) (u : DocUnit) → slice_get us k ≡ Some u
    → Stands t u
unit_stands t [] h k u e = cc
unit_stands t (v ∷ us) h zero u e = subst (λ (x : DocUnit). Stands t x) (same_Some v u e) h.0
unit_stands t (v ∷ us) h (suc k) u e = unit_stands t us h.1 k u e

parts_hold : (es : Kept) (pss : List KeptParts) → AllPartsHold es pss → (k : ℕ) (u : DocUnit) (ps : KeptParts)
    → slice_get (units_of es) k ≡ Some u → slice_get pss k ≡ Some ps → StoredAllHold u.tagged.tree ps
parts_hold [] pss h k u ps e f = cc
parts_hold (d ∷ es) [] h k u ps e f = cc
parts_hold (d ∷ es) (qs ∷ pss) h zero u ps e f =
    subst (λ (x : DocUnit). StoredAllHold x.tagged.tree ps) (same_Some d.unit u e)
    (subst (StoredAllHold d.unit.tagged.tree) (same_Some qs ps f) h.0)
parts_hold (d ∷ es) (qs ∷ pss) h (suc k) u ps e f = parts_hold es pss h.1 k u ps e f

parts_traced : (es : Kept) (pss : List KeptParts) → AllPartsHold es pss → (k : ℕ) (ps : KeptParts)
    → slice_get pss k ≡ Some ps → AllByRecursion IsTraced ps
parts_traced [] [] h k ps f = cc
parts_traced [] (qs ∷ pss) h k ps f = absurd h
parts_traced (d ∷ es) [] h k ps f = cc
parts_traced (d ∷ es) (qs ∷ pss) h zero ps f =
    subst (λ (xs : KeptParts). AllByRecursion IsTraced xs) (same_Some qs ps f)
    (all_traced d.unit.tagged.tree qs h.0.hold)
parts_traced (d ∷ es) (qs ∷ pss) h (suc k) ps f = parts_traced es pss h.1 k ps f

pub strays_hold : (t : WideTree) (ss : List Stray) → AllByRecursion HoldsStray ss → StandAside t ss
    → AllByRecursion (StoredHolds t) (kept_strays ss)
strays_hold t [] h at = tt
strays_hold t (s ∷ ss) h at = (
  record { trace = h.0.trace; is = h.0.is; there = s.tree; leads = at.0; supports = h.0.supports },
  strays_hold t ss h.1 at.1,
)

strays_out : (us : List DocUnit) (ss : List Stray) → AllByRecursion (λ s. NoneAbove s.kept.path us) ss
    → AllByRecursion (λ (s : Stored). NoneAbove s.path us) (kept_strays ss)
strays_out us [] h = tt
strays_out us (s ∷ ss) h = (h.0, strays_out us ss h.1)

module _ (through_all : (ms : List Mod) (t : WideTree) (q : List ℕ) → CarriesThroughAll ms t q)
    (law : (m : Mod) (s : WideTree) (q : List ℕ) → CarriesSubtree m s q) (ms : List Mod) (t w : WideTree)
    (kept : Kept) (pss : List KeptParts) (ss : List Stray) (r : List ℕ) (made : changed_by_all ms t ≡ Some w)
    (are : AreUnits (units_of kept)) (stand : AllStand t (units_of kept)) (hold : AllPartsHold kept pss)
    (strays : AreStrays (units_of kept) ss) (aside : StandAside t ss) where
  pub kept_came : (vs : List DocUnit) → AreUnits vs → (trace : WideTrace)
      → kept_behind pss (PartMoves 0 ms t (units_of kept) pss (kept_strays ss) vs)
      (Sources 0 ms t (units_of kept) vs) vs r ≡ Some trace
      → CameAlong ms t (units_of kept) pss (kept_strays ss) r trace
  unfolding CarryParts CarryStrays PartMoves Sources
  kept_came vs new trace =
      came_along ms t w (units_of kept) vs pss (kept_strays ss) (through_all ms t) law made are.apart new.apart
      (many_parts kept pss hold) (unit_stands t (units_of kept) stand) (parts_hold kept pss hold)
      (parts_traced kept pss hold) (strays_hold t ss strays.hold aside) strays.distinct
      (strays_out (units_of kept) ss strays.outside) r trace

  pub came_kept : (vs : List DocUnit) → AreUnits vs → (trace : WideTrace)
      → CameAlong ms t (units_of kept) pss (kept_strays ss) r trace
      → kept_behind pss (PartMoves 0 ms t (units_of kept) pss (kept_strays ss) vs)
      (Sources 0 ms t (units_of kept) vs) vs r ≡ Some trace
  unfolding CarryParts CarryStrays PartMoves Sources
  came_kept vs new trace =
      kept_along ms t w (units_of kept) vs pss (kept_strays ss) (through_all ms t) law made are.apart new.apart
      (many_parts kept pss hold) (unit_stands t (units_of kept) stand) (parts_hold kept pss hold)
      (parts_traced kept pss hold) (strays_hold t ss strays.hold aside) strays.distinct
      (strays_out (units_of kept) ss strays.outside) r trace

  pub came_once : (a b : WideTrace) (x : CameAlong ms t (units_of kept) pss (kept_strays ss) r a)
      (y : CameAlong ms t (units_of kept) pss (kept_strays ss) r b) → x.from ≡ y.from
  came_once =
      from_once ms t w (units_of kept) [] pss (kept_strays ss) (through_all ms t) law made are.apart tt
      (many_parts kept pss hold) (unit_stands t (units_of kept) stand) (parts_hold kept pss hold)
      (parts_traced kept pss hold) (strays_hold t ss strays.hold aside) strays.distinct
      (strays_out (units_of kept) ss strays.outside) r
