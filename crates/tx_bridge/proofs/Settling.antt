-- Where one unit alone changes, what is given is in its place already.
use Rattle.std.proofs.Common.{◌≡◌, ℕ, zero, suc, ◌+◌, List, [], ◌∷◌, ◌++◌, length, drop, map, slice_set}
use Rattle.std.proofs.Common.{slice_index_or, Option, Some, None, refl, ap, sym, ◌∙◌, subst, arith}
use Rattle.std.proofs.lemmas.Bool.Decides.{Decides-eqb}
use Rattle.std.proofs.lemmas.List.{append_assoc, length-append, length-map}
use Rattle.std.proofs.lemmas.Option.{same_Some, slice_get-map, slice_get-get_or, slice_get_within}
use Rattle.std.proofs.lemmas.Slice.Eq.{bytes_eq-Decides}
use Rattle.std.specs.List.{All, AllByRecursion}
use Rattle.std.specs.Option.{option_map, option_map_or}
use Rattle.std.specs.Prelude.{Bool, true, false, ◌&&◌, ◌==◌, is_some, slice_get, if◌then◌else◌}
use Rattle.tx_tree.specs.WideTree.{WideTree}
use Rattle.tx_mod.specs.declared.mods.Mod.{Mod}
use Rattle.tx_mod.specs.Mods.{path_of}
use Rattle.tx_mod.specs.Followed.{changed_by_all}
use Rattle.tx_units.specs.declared.kinds.Unit.{Unit as DocUnit}
use Rattle.tx_units.specs.declared.kinds.UnitKind.{UnitKind}
use Rattle.tx_units.specs.declared.kinds.UnitKind.TheVariants.{Base, Style, Absent, Initial, Body}
use Rattle.tx_units.specs.Places.{NoneBegins}
use Rattle.tx_units.specs.Places.{AreApart as PathsApart}
use Rattle.tx_units.specs.Units.{unit_with, units_with}
use Rattle.tx_bridge.specs.declared.bridge.Bridge.{Bridge}
use Rattle.tx_bridge.specs.UnitLists.{HasPathIfBody, AreUnits}
use Rattle.tx_bridge.specs.Sound.{IsSoundBridge, sources_in}
use Rattle.tx_bridge.specs.Carrying.{is_path, same_kind, same_unit, through, mods_of}
use Rattle.tx_bridge.specs.Slots.{IsSlot, HaveOwnPaths, AllPlaced, given_from, given_all, fresh_bridge, paths_in}
use Rattle.tx_bridge.specs.Slots.{bodies_of, given}
use Rattle.tx_bridge.specs.InPlace.{begins_path, is_gone, are_within, is_changed, IsOneChanged, numbers_but}
use Rattle.tx_walk.proofs.Trees.{both, and_true, self_same}
use Rattle.tx_bridge.proofs.Slotting.{path_is, some_once, slot_found, slot_by_place}
use Rattle.tx_bridge.proofs.Slotting.{slot_same, slot_gone_at}
use Rattle.tx_bridge.proofs.Handed.{gives_none, gives_some, given_apart, given_placed}
use Rattle.tx_bridge.proofs.Arrived.{fresh_apart, fresh_placed, sound_placed, of_document}
use Rattle.tx_bridge.proofs.Inside.{IsNoFront, begins_is, fronts_meet, all_stay, all_go}

-- ---- units that are alike, and what is in its place

-- the units have one path, or, where the first has none, one kind and tree
abbrev is_alike : DocUnit → DocUnit → Bool
is_alike u v = option_map_or (λ p. is_path p v.path) u.path (same_unit u v)

abbrev AreAlike : List DocUnit → List DocUnit → Type 0
AreAlike us vs = (k : ℕ) (u v : DocUnit) → slice_get us k ≡ Some u → slice_get vs k ≡ Some v → is_alike u v ≡ true

-- the unit of number k is u now; nothing is cached of it where it is new
abbrev pub settled_one : Bool → ℕ → Bridge → DocUnit → Bridge
settled_one true k b u = fresh_bridge u
settled_one false k b u = record {
  unit = u;
  kept = b.kept;
  parts = b.parts;
  layers = b.layers;
  shelled = b.shelled;
  reached = false;
  source = Some k;
}

-- the units from number k on, where number i is new
abbrev pub settled : ℕ → ℕ → List Bridge → List DocUnit → List Bridge
settled i k [] us = []
settled i k (b ∷ bs) [] = []
settled i k (b ∷ bs) (u ∷ us) = settled_one (k == i) k b u ∷ settled i (k + 1) bs us

-- ---- one old unit after the other

set_behind : (xs : List Bridge) (x y : Bridge) (ys : List Bridge) (n : ℕ) → n ≡ length xs
    → slice_set (xs ++ x ∷ ys) n y ≡ xs ++ y ∷ ys
set_behind [] x y ys zero e = refl
set_behind [] x y ys (suc n) e = absurd (omega (arith, e))
set_behind (z ∷ xs) x y ys zero e = absurd (omega (arith, e))
set_behind (z ∷ xs) x y ys (suc n) e = ap (λ zs. z ∷ zs) (set_behind xs x y ys n (omega (arith, e)))

get_behind : (xs : List Bridge) (x : Bridge) (ys : List Bridge) (n : ℕ) → n ≡ length xs
    → slice_get (xs ++ x ∷ ys) n ≡ Some x
get_behind [] x ys zero e = refl
get_behind [] x ys (suc n) e = absurd (omega (arith, e))
get_behind (z ∷ xs) x ys zero e = absurd (omega (arith, e))
get_behind (z ∷ xs) x ys (suc n) e = get_behind xs x ys n (omega (arith, e))

-- The place of the old unit b of number k, and the new unit u of this number. They are alike, and b is where it was.
-- But number i is nowhere, and has a path.
pub record Settles (i k : ℕ) (place : Option (List ℕ)) (b : Bridge) (u : DocUnit) : Type 0 where
  pub alike : is_alike b.unit u ≡ true
  pub placed : HasPathIfBody b.unit
  pub stays : (k ≡ i → ⊥) → place ≡ b.unit.path
  pub goes : k ≡ i → (place ≡ None) × (is_some b.unit.path ≡ true)

with_path : (u v : DocUnit) (o : Option (List ℕ)) (p : List ℕ) → u.path ≡ o → is_alike u v ≡ true → o ≡ Some p
    → is_path p v.path ≡ true
with_path u v o p e h f =
    ap (λ r. option_map_or (λ x. is_path x v.path) r (same_unit u v)) (sym (e ∙ f)) ∙ h

without_path : (u v : DocUnit) → u.path ≡ None → is_alike u v ≡ true → same_unit u v ≡ true
without_path u v e h = ap (λ r. option_map_or (λ x. is_path x v.path) r (same_unit u v)) (sym e) ∙ h

module _ (i k : ℕ) (place : Option (List ℕ)) (b : Bridge) (u : DocUnit) (s : Settles i k place b u)
    (done : List Bridge) (us : List DocUnit) (many : k ≡ length done) where
  abbrev now : List Bridge
  now = done ++ fresh_bridge u ∷ map fresh_bridge us

  here : slice_get now k ≡ Some (fresh_bridge u)
  here = get_behind done (fresh_bridge u) (map fresh_bridge us) k many

  gives_new : k ≡ i → AllPlaced now → given_from place k b 0 now ≡ now
  gives_new at placed =
      sym (gives_none place k b now
      (slot_gone_at place (s.goes at).0 k b.unit now (s.goes at).1 s.placed placed))

  gives_here : (k ≡ i → ⊥) → HaveOwnPaths now → AllPlaced now
      → given_from place k b 0 now ≡ done ++ settled_one false k b u ∷ map fresh_bridge us
  gives_here off apart placed =
      sym (by b.unit.path refl)
      ∙ set_behind done (fresh_bridge u) (settled_one false k b u) (map fresh_bridge us) k many
    where
      by : (o : Option (List ℕ)) → b.unit.path ≡ o
          → slice_set now k (settled_one false k b u) ≡ given_from place k b 0 now
      by (Some p) e =
          gives_some place k b now k (fresh_bridge u) here
          (slot_by_place place p k b.unit now (Some k) (s.stays off ∙ e)
          (λ none. s.stays off ∙ none) s.placed placed
          (slot_found p now k (fresh_bridge u) apart here (with_path b.unit u (Some p) p e s.alike refl)))
      by None e =
          let P : Option (List ℕ) → Type 0 = λ q. IsSlot q k b.unit now (Some k) in
          gives_some place k b now k (fresh_bridge u) here
          (subst P (sym (s.stays off ∙ e))
          (slot_same now k b.unit (fresh_bridge u) e s.placed placed here (without_path b.unit u e s.alike)))

  gives_one : HaveOwnPaths now → AllPlaced now → (c : Bool) → k == i ≡ c
      → given_from place k b 0 now ≡ done ++ settled_one c k b u ∷ map fresh_bridge us
  gives_one apart placed true e = gives_new ((Decides-eqb k i).0 e) placed
  gives_one apart placed false e =
      gives_here (λ q. let there : k == i ≡ true = (Decides-eqb k i).1 q in cc) apart placed

module _ (P : Option (List ℕ) → Option (List ℕ)) (i : ℕ) where
  all_settled : (done bs : List Bridge) (us : List DocUnit) (k : ℕ) → k ≡ length done → length bs ≡ length us
      → HaveOwnPaths (done ++ map fresh_bridge us) → AllPlaced (done ++ map fresh_bridge us)
      → ((m n : ℕ) (b : Bridge) (u : DocUnit) → m ≡ k + n → slice_get bs n ≡ Some b → slice_get us n ≡ Some u
      → Settles i m (P b.unit.path) b u)
      → given_all k (map P (paths_in bs)) bs (done ++ map fresh_bridge us) ≡ done ++ settled i k bs us
  all_settled done [] [] k many same apart placed h = refl
  all_settled done [] (u ∷ us) k many same apart placed h = absurd (omega (arith, same))
  all_settled done (b ∷ bs) [] k many same apart placed h = absurd (omega (arith, same))
  all_settled done (b ∷ bs) (u ∷ us) k many same apart placed h =
      let place : Option (List ℕ) = P b.unit.path in
      let x : Bridge = settled_one (k == i) k b u in
      let first : Settles i k place b u = h k 0 b u (omega arith) refl refl in
      let next : done ++ x ∷ [] ++ map fresh_bridge us
      ≡ given_from place k b 0 (done ++ fresh_bridge u ∷ map fresh_bridge us) =
      append_assoc done (x ∷ []) (map fresh_bridge us)
      ∙ sym (gives_one i k place b u first done us many apart placed (k == i) refl) in
      ap (given_all (k + 1) (map P (paths_in bs)) bs) (sym next)
      ∙ all_settled (done ++ x ∷ []) bs us (k + 1) (omega (arith, many, length-append done (x ∷ [])))
      (omega (arith, same))
      (subst HaveOwnPaths (sym next)
      (given_apart place k b (done ++ fresh_bridge u ∷ map fresh_bridge us) apart))
      (subst AllPlaced (sym next)
      (given_placed place k b (done ++ fresh_bridge u ∷ map fresh_bridge us) placed))
      (λ m n c v e f g. h m (suc n) c v (omega (arith, e)) f g)
      ∙ append_assoc done (x ∷ []) (settled i (k + 1) bs us)

-- ---- where old units are

apart_here : (o : Option (List ℕ)) (us : List DocUnit) (k : ℕ) (w : DocUnit)
    → AllByRecursion (λ v. PathsApart o v.path) us → slice_get us k ≡ Some w → PathsApart o w.path
apart_here o [] k w h e = cc
apart_here o (u ∷ us) zero w h e =
    subst (λ (v : DocUnit). PathsApart o v.path) (same_Some u w e) h.0
apart_here o (u ∷ us) (suc k) w h e = apart_here o us k w h.1 e

turned : (o r : Option (List ℕ)) → PathsApart o r → PathsApart r o
turned o r h path more = ((h path more).1, (h path more).0)

apart_both : (us : List DocUnit) (j k : ℕ) (v w : DocUnit) → NoneBegins us → (j ≡ k → ⊥) → slice_get us j ≡ Some v
    → slice_get us k ≡ Some w → PathsApart v.path w.path
apart_both [] j k v w h off e f = cc
apart_both (u ∷ us) zero zero v w h off e f = absurd (off refl)
apart_both (u ∷ us) zero (suc k) v w h off e f =
    subst (λ (x : DocUnit). PathsApart x.path w.path) (same_Some u v e) (apart_here u.path us k w h.0 f)
apart_both (u ∷ us) (suc j) zero v w h off e f =
    subst (λ (x : DocUnit). PathsApart v.path x.path) (same_Some u w f)
    (turned u.path v.path (apart_here u.path us j v h.0 e))
apart_both (u ∷ us) (suc j) (suc k) v w h off e f =
    apart_both us j k v w h.1 (λ same. off (ap suc same)) e f

pub body_there : (bs : List Bridge) (k : ℕ) (b : Bridge) → slice_get bs k ≡ Some b
    → slice_get (bodies_of bs) k ≡ Some b.unit
body_there bs k b e = slice_get-map (λ (x : Bridge). x.unit) bs k ∙ ap (option_map (λ (x : Bridge). x.unit)) e

-- the path of the unit that changes, and what is asked of it
record Changes (ms : List Mod) (u : DocUnit) : Type 0 where
  pub path : List ℕ
  pub has : u.path ≡ Some path
  pub gone : is_gone path ms ≡ true
  pub within : are_within path ms ≡ true

changes : (ms : List Mod) (u : DocUnit) → is_changed ms u ≡ true → Changes ms u
changes ms u h = by u.path refl h
  where
    by : (o : Option (List ℕ)) → u.path ≡ o
        → option_map_or (λ path. is_gone path ms && are_within path ms) o false ≡ true → Changes ms u
    by None e f = cc
    by (Some q) e f =
        let all : (is_gone q ms ≡ true) × (are_within q ms ≡ true) = both (is_gone q ms) (are_within q ms) f in
        record { path = q; has = e; gone = all.0; within = all.1 }

-- ---- no other unit is changed

one_front : (ms : List Mod) (p q : List ℕ) → is_gone p ms ≡ true → are_within p ms ≡ true → are_within q ms ≡ true
    → IsNoFront p q → IsNoFront q p → ⊥
one_front [] p q gone h g f e = cc
one_front (m ∷ ms) p q gone h g f e =
    let of_p : path_of m ≡ p ++ drop (length p) (path_of m) =
    begins_is p (path_of m) (both (begins_path p (path_of m)) (are_within p ms) h).0 in
    let of_q : path_of m ≡ q ++ drop (length q) (path_of m) =
    begins_is q (path_of m) (both (begins_path q (path_of m)) (are_within q ms) g).0 in
    fronts_meet p q (drop (length p) (path_of m)) (drop (length q) (path_of m)) (sym of_p ∙ of_q) f e

pub changed_once : (ms : List Mod) (us : List DocUnit) → AreUnits us → (j k : ℕ) (u v : DocUnit)
    → slice_get us j ≡ Some u → slice_get us k ≡ Some v → is_changed ms u ≡ true → is_changed ms v ≡ true → j ≡ k
changed_once ms us are j k u v at_j at_k h g = by (j == k) refl
  where
    by : (b : Bool) → j == k ≡ b → j ≡ k
    by true e = (Decides-eqb j k).0 e
    by false e =
        let a : Changes ms u = changes ms u h in
        let b : Changes ms v = changes ms v g in
        let off : j ≡ k → ⊥ = λ same. let there : j == k ≡ true = (Decides-eqb j k).1 same in cc in
        let apart : PathsApart u.path v.path = apart_both us j k u v are.apart off at_j at_k in
        absurd (one_front ms a.path b.path a.gone a.within b.within
        (λ x is. (apart a.path x).0 a.has (b.has ∙ ap Some is))
        (λ x is. (apart b.path x).1 b.has (a.has ∙ ap Some is)))

pub goes_from : (ms : List Mod) (t : WideTree) (q : List ℕ) → is_gone q ms ≡ true → are_within q ms ≡ true
    → through ms t (Some q) ≡ None
goes_from [] t q gone within = cc
goes_from (m ∷ ms) t q gone within = all_go m ms t q within gone

module _ (i buffer : ℕ) (ms : List Mod) (t : WideTree) (old : List Bridge) (us : List DocUnit)
    (applies : (u : WideTree) × (changed_by_all ms t ≡ Some u)) (are : AreUnits us) (sound : All IsSoundBridge old)
    (one : IsOneChanged i buffer ms (bodies_of old)) (many : length (bodies_of old) ≡ length us)
    (alike : AreAlike (bodies_of old) us) where
  changing : Changes ms one.unit
  changing = changes ms one.unit one.changed

  -- the new unit of number i
  abbrev new_one : DocUnit
  new_one = slice_index_or us i one.unit

  new_there : slice_get us i ≡ Some new_one
  new_there =
      slice_get-get_or us i one.unit
      (omega (arith, many, slice_get_within (bodies_of old) i one.unit one.there))

  new_path : new_one.path ≡ Some changing.path
  new_path =
      path_is changing.path new_one.path
      (with_path one.unit new_one (Some changing.path) changing.path changing.has
      (alike i one.unit new_one one.there new_there) refl)

  stays_there : (n : ℕ) (b : Bridge) (u : DocUnit) → slice_get old n ≡ Some b → slice_get us n ≡ Some u
      → (n ≡ i → ⊥) → (o : Option (List ℕ)) → b.unit.path ≡ o → through ms t o ≡ o
  stays_there n b u at there off None e = refl
  stays_there n b u at there off (Some r) e =
      let own : u.path ≡ Some r =
      path_is r u.path
      (with_path b.unit u (Some r) r e (alike n b.unit u (body_there old n b at) there) refl) in
      let apart : PathsApart new_one.path u.path =
      apart_both us i n new_one u are.apart (λ same. off (sym same)) new_there there in
      all_stay ms t applies.0 changing.path r changing.within
      (λ x is. (apart changing.path x).0 new_path (own ∙ ap Some is))
      (λ x is. (apart r x).1 own (new_path ∙ ap Some is)) applies.1

  goes_there : (n : ℕ) (b : Bridge) → slice_get old n ≡ Some b → n ≡ i
      → (through ms t b.unit.path ≡ None) × (is_some b.unit.path ≡ true)
  goes_there n b at is =
      let same : b.unit ≡ one.unit =
      some_once (slice_get (bodies_of old) i) b.unit one.unit
      (ap (slice_get (bodies_of old)) (sym is) ∙ body_there old n b at) one.there in
      let has : b.unit.path ≡ Some changing.path = ap (λ (u : DocUnit). u.path) same ∙ changing.has in (
        ap (through ms t) has ∙ goes_from ms t changing.path changing.gone changing.within,
        ap is_some has,
      )

  settles : (m n : ℕ) (b : Bridge) (u : DocUnit) → m ≡ 0 + n → slice_get old n ≡ Some b → slice_get us n ≡ Some u
      → Settles i m (through ms t b.unit.path) b u
  settles m n b u e at there =
      let is : m ≡ n = omega (arith, e) in
      record {
        alike = alike n b.unit u (body_there old n b at) there;
        placed = sound_placed old sound n b at;
        stays = λ off. stays_there n b u at there (λ same. off (is ∙ same)) b.unit.path refl;
        goes = λ same. goes_there n b at (sym is ∙ same);
      }

  as_many : length old ≡ length us
  as_many = sym (length-map old (λ (b : Bridge). b.unit)) ∙ many

  pub settled_given : settled i 0 old us ≡ given (mods_of buffer ms) t old us
  settled_given =
      sym (all_settled (through ms t) i [] old us 0 refl as_many (fresh_apart us are.apart)
      (fresh_placed us are.placed) settles)
      ∙ ap (λ ns. given ns t old us) (sym (of_document buffer ms one.document))

-- ---- numbers

one_source : (c : Bool) (k : ℕ) (b : Bridge) (u : DocUnit)
    → (settled_one c k b u).source ≡ (if c then None else Some k)
one_source true k b u = refl
one_source false k b u = refl

pub settled_sources : (i k : ℕ) (bs : List Bridge) (us : List DocUnit) → length bs ≡ length us
    → sources_in (settled i k bs us) ≡ numbers_but i k (length us)
settled_sources i k [] [] e = refl
settled_sources i k [] (u ∷ us) e = absurd (omega (arith, e))
settled_sources i k (b ∷ bs) [] e = absurd (omega (arith, e))
settled_sources i k (b ∷ bs) (u ∷ us) e =
    ap (λ s. s ∷ sources_in (settled i (k + 1) bs us)) (one_source (k == i) k b u)
    ∙ ap (λ ss. (if k == i then None else Some k) ∷ ss) (settled_sources i (k + 1) bs us (omega (arith, e)))

-- ---- one unit with another tree

self_kind : (k : UnitKind) → same_kind k k ≡ true
self_kind Base = refl
self_kind (Style m) = (Decides-eqb m m).1 refl
self_kind Absent = refl
self_kind Initial = refl
self_kind Body = refl

self_path : (p : List ℕ) → is_path p (Some p) ≡ true
self_path p = (bytes_eq-Decides p p).1 refl

self_alike : (u : DocUnit) → is_alike u u ≡ true
self_alike u = by u.path
  where
    by : (o : Option (List ℕ)) → option_map_or (λ p. is_path p o) o (same_unit u u) ≡ true
    by None =
        and_true (same_kind u.kind u.kind) _ (self_kind u.kind) (self_same u.tagged.tree)
    by (Some p) = self_path p

alike_with : (t : WideTree) (u : DocUnit) → is_some u.path ≡ true → is_alike u (unit_with t u) ≡ true
alike_with t u has = by u.path has
  where
    by : (o : Option (List ℕ)) → is_some o ≡ true
        → option_map_or (λ p. is_path p o) o (same_unit u (unit_with t u)) ≡ true
    by None h = cc
    by (Some p) h = self_path p

pub are_alike_with : (i : ℕ) (t : WideTree) (us : List DocUnit)
    → ((u : DocUnit) → slice_get us i ≡ Some u → is_some u.path ≡ true) → AreAlike us (units_with i t us)
are_alike_with i t [] has k u v e f = cc
are_alike_with zero t (x ∷ us) has zero u v e f =
    let P : DocUnit → Type 0 = λ w. is_alike u w ≡ true in
    let is_x : x ≡ u = same_Some x u e in
    subst P (ap (unit_with t) (sym is_x) ∙ same_Some (unit_with t x) v f) (alike_with t u (has u e))
are_alike_with zero t (x ∷ us) has (suc k) u v e f =
    let P : DocUnit → Type 0 = λ w. is_alike u w ≡ true in subst P (some_once (slice_get us k) u v e f) (self_alike u)
are_alike_with (suc i) t (x ∷ us) has zero u v e f =
    let P : DocUnit → Type 0 = λ w. is_alike u w ≡ true in
    subst P (sym (same_Some x u e) ∙ same_Some x v f) (self_alike u)
are_alike_with (suc i) t (x ∷ us) has (suc k) u v e f = are_alike_with i t us has k u v e f

pub many_with : (i : ℕ) (t : WideTree) (us : List DocUnit) → length us ≡ length (units_with i t us)
many_with i t [] = refl
many_with zero t (u ∷ us) = refl
many_with (suc i) t (u ∷ us) = ap suc (many_with i t us)

placed_with : (i : ℕ) (t : WideTree) (us : List DocUnit) → AllByRecursion HasPathIfBody us
    → AllByRecursion HasPathIfBody (units_with i t us)
placed_with i t [] h = tt
placed_with zero t (u ∷ us) h = (record { path = h.0.path; origin = h.0.origin }, h.1)
placed_with (suc i) t (u ∷ us) h = (h.0, placed_with i t us h.1)

others_apart : (o : Option (List ℕ)) (i : ℕ) (t : WideTree) (us : List DocUnit)
    → AllByRecursion (λ v. PathsApart o v.path) us → AllByRecursion (λ v. PathsApart o v.path) (units_with i t us)
others_apart o i t [] h = tt
others_apart o zero t (u ∷ us) h = h
others_apart o (suc i) t (u ∷ us) h = (h.0, others_apart o i t us h.1)

apart_with : (i : ℕ) (t : WideTree) (us : List DocUnit) → NoneBegins us → NoneBegins (units_with i t us)
apart_with i t [] h = tt
apart_with zero t (u ∷ us) h = h
apart_with (suc i) t (u ∷ us) h = (others_apart u.path i t us h.0, apart_with i t us h.1)

-- they are units as before
pub are_units_with : (i : ℕ) (t : WideTree) (us : List DocUnit) → AreUnits us → AreUnits (units_with i t us)
are_units_with i t us are = record { placed = placed_with i t us are.placed; apart = apart_with i t us are.apart }

pub has_path : (i buffer : ℕ) (ms : List Mod) (us : List DocUnit) → IsOneChanged i buffer ms us → (u : DocUnit)
    → slice_get us i ≡ Some u → is_some u.path ≡ true
has_path i buffer ms us one u e =
    let same : one.unit ≡ u = some_once (slice_get us i) one.unit u one.there e in
    ap (λ (v : DocUnit). is_some v.path) (sym same) ∙ ap is_some (changes ms one.unit one.changed).has
