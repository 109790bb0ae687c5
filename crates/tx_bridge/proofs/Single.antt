-- No two new units are the same old one.
use Rattle.std.proofs.Common.{◌≡◌, ℕ, zero, suc, ◌+◌, List, [], ◌∷◌, map, Option, Some, None, refl, ap, sym, ◌∙◌}
use Rattle.std.proofs.Common.{arith, ◌⊎◌, inl, inr}
use Rattle.std.proofs.lemmas.Option.{slice_get-map, same_Some}
use Rattle.std.specs.Prelude.{Bool, true, false, slice_get, if◌then◌else◌, option_and_then}
use Rattle.std.specs.Option.{option_map, option_map_or}
use Rattle.tx_units.specs.declared.kinds.Unit.{Unit as DocUnit}
use Rattle.tx_bridge.specs.declared.bridge.Bridge.{Bridge}
use Rattle.tx_bridge.specs.Carrying.{is_path, same_unit, number_at, same_number, source, sources_from}
use Rattle.tx_bridge.specs.Slots.{HaveOwnPaths, AreMoved, AllPlaced, fresh_bridge, bodies_of}
use Rattle.tx_bridge.proofs.Slotting.{path_is, back_alike, some_once}

-- no number is there twice
abbrev pub NoneTwice : List (Option ℕ) → Type 0
NoneTwice ss = (i j k : ℕ) → slice_get ss j ≡ Some (Some i) → slice_get ss k ≡ Some (Some i) → j ≡ k

-- ---- a number that is found is that of a place

-- the place of number i is the path, where places are counted from n on
record IsPlace (p : List ℕ) (n : ℕ) (qs : List (Option (List ℕ))) (i : ℕ) : Type 0 where
  pub behind : ℕ
  pub number : i ≡ n + behind
  pub place : slice_get qs behind ≡ Some (Some p)

later_place : (p : List ℕ) (n : ℕ) (q : Option (List ℕ)) (qs : List (Option (List ℕ))) (i : ℕ)
    → IsPlace p (n + 1) qs i → IsPlace p n (q ∷ qs) i
later_place p n q qs i h = record { behind = suc h.behind; number = omega (arith, h.number); place = h.place }

first_or_later : (p : List ℕ) (n : ℕ) (q : Option (List ℕ)) (qs : List (Option (List ℕ))) (o : Option ℕ) (i : ℕ)
    (b : Bool) → is_path p q ≡ b → ((if b then Some n else o) ≡ Some i) ⊎ IsPlace p (n + 1) qs i
    → (o ≡ Some i) ⊎ IsPlace p n (q ∷ qs) i
first_or_later p n q qs o i true h (inl e) =
    let same : n ≡ i = same_Some n i e in
    inr (record { behind = 0; number = omega (arith, same); place = ap Some (path_is p q h) })
first_or_later p n q qs o i false h (inl e) = inl e
first_or_later p n q qs o i b h (inr later) = inr (later_place p n q qs i later)

number_found : (p : List ℕ) (n : ℕ) (qs : List (Option (List ℕ))) (o : Option ℕ) (i : ℕ) → number_at p n qs o ≡ Some i
    → (o ≡ Some i) ⊎ IsPlace p n qs i
number_found p n [] o i e = inl e
number_found p n (q ∷ qs) o i e =
    first_or_later p n q qs o i (is_path p q) refl
    (number_found p (n + 1) qs (if is_path p q then Some n else o) i e)

-- ---- what a source says

-- the old unit of number i is at the path of the new one
pub record ByPath (qs : List (Option (List ℕ))) (v : DocUnit) (i : ℕ) : Type 0 where
  pub path : List ℕ
  pub has : v.path ≡ Some path
  pub place : slice_get qs i ≡ Some (Some path)

-- the old unit of number i is the new one of number j
pub record ByNumber (us : List DocUnit) (j : ℕ) (v : DocUnit) (i : ℕ) : Type 0 where
  pub none : v.path ≡ None
  pub number : i ≡ j
  pub old : DocUnit
  pub there : slice_get us j ≡ Some old
  pub alike : same_unit old v ≡ true

by_path : (qs : List (Option (List ℕ))) (v : DocUnit) (i : ℕ) (p : List ℕ) → v.path ≡ Some p
    → (None ≡ Some i) ⊎ IsPlace p 0 qs i → ByPath qs v i
by_path qs v i p e (inl off) = cc
by_path qs v i p e (inr h) =
    let number : h.behind ≡ i = omega (arith, h.number) in
    record { path = p; has = e; place = ap (slice_get qs) (sym number) ∙ h.place }

by_number : (us : List DocUnit) (j : ℕ) (v : DocUnit) (i : ℕ) → v.path ≡ None → (o : Option DocUnit)
    → slice_get us j ≡ o → option_and_then (λ u. if same_unit u v then Some j else None) o ≡ Some i
    → ByNumber us j v i
by_number us j v i none None at e = cc
by_number us j v i none (Some u) at e = by (same_unit u v) refl e
  where
    by : (b : Bool) → same_unit u v ≡ b → (if b then Some j else None) ≡ Some i → ByNumber us j v i
    by true same f = record { none = none; number = sym (same_Some j i f); old = u; there = at; alike = same }
    by false other f = cc

pub source_says : (qs : List (Option (List ℕ))) (us : List DocUnit) (j : ℕ) (v : DocUnit) (i : ℕ)
    → source qs us j v ≡ Some i → ByPath qs v i ⊎ ByNumber us j v i
source_says qs us j v i e = by v.path refl e
  where
    by : (o : Option (List ℕ)) → v.path ≡ o
        → option_map_or (λ p. number_at p 0 qs None) o (same_number us j v) ≡ Some i
        → ByPath qs v i ⊎ ByNumber us j v i
    by (Some p) has f = inl (by_path qs v i p has (number_found p 0 qs None i f))
    by None none f = inr (by_number us j v i none (slice_get us j) refl f)

-- ---- two new units

-- the new unit of a number, and its source
pub record HasSource (qs : List (Option (List ℕ))) (us vs : List DocUnit) (k n i : ℕ) : Type 0 where
  pub unit : DocUnit
  pub there : slice_get vs k ≡ Some unit
  pub from : source qs us n unit ≡ Some i

pub source_at : (qs : List (Option (List ℕ))) (us vs : List DocUnit) (j k n i : ℕ) → n ≡ j + k
    → slice_get (sources_from qs us j vs) k ≡ Some (Some i) → HasSource qs us vs k n i
source_at qs us [] j k n i is e = cc
source_at qs us (v ∷ vs) j zero n i is e =
    let first : n ≡ j = omega (arith, is) in
    record {
      unit = v;
      there = refl;
      from = ap (λ m. source qs us m v) first ∙ same_Some (source qs us j v) (Some i) e;
    }
source_at qs us (v ∷ vs) j (suc k) n i is e =
    let h : HasSource qs us vs k n i = source_at qs us vs (j + 1) k n i (omega (arith, is)) e in
    record { unit = h.unit; there = h.there; from = h.from }

pub body_at : (bs : List Bridge) (k : ℕ) (u : DocUnit) → slice_get (bodies_of bs) k ≡ Some u
    → (b : Bridge) × (slice_get bs k ≡ Some b) × (b.unit ≡ u)
body_at [] k u e = cc
body_at (b ∷ bs) zero u e = (b, refl, same_Some b.unit u e)
body_at (b ∷ bs) (suc k) u e = body_at bs k u e

fresh_at : (us : List DocUnit) (k : ℕ) (v : DocUnit) → slice_get us k ≡ Some v
    → slice_get (map fresh_bridge us) k ≡ Some (fresh_bridge v)
fresh_at us k v e = slice_get-map fresh_bridge us k ∙ ap (option_map fresh_bridge) e

module _ (qs : List (Option (List ℕ))) (old : List Bridge) (us : List DocUnit) (moved : AreMoved qs old)
    (placed : AllPlaced old) (apart : HaveOwnPaths (map fresh_bridge us)) (fresh : AllPlaced (map fresh_bridge us))
  where
    -- an old unit that is at a path has no new one by its number
    not_both : (i : ℕ) (p : List ℕ) (k : ℕ) (w : DocUnit) → slice_get qs i ≡ Some (Some p) → slice_get us k ≡ Some w
        → ByNumber (bodies_of old) k w i → ⊥
    not_both i p k w place at y =
        let x : (b : Bridge) × (slice_get old k ≡ Some b) × (b.unit ≡ y.old) = body_at old k y.old y.there in
        let same : same_unit x.0.unit w ≡ true = ap (λ u. same_unit u w) x.2 ∙ y.alike in
        let none : x.0.unit.path ≡ None =
        back_alike x.0.unit w (placed k x.0 x.1) (fresh k (fresh_bridge w) (fresh_at us k w at)) same y.none in
        let off : Some p ≡ None = moved i (Some p) x.0 place (ap (slice_get old) y.number ∙ x.1) none in
        cc

    meet : (i j k : ℕ) (v w : DocUnit) → slice_get us j ≡ Some v → slice_get us k ≡ Some w
        → ByPath qs v i ⊎ ByNumber (bodies_of old) j v i → ByPath qs w i ⊎ ByNumber (bodies_of old) k w i → j ≡ k
    meet i j k v w at_j at_k (inl x) (inl y) =
        let same : Some x.path ≡ Some y.path =
        some_once (slice_get qs i) (Some x.path) (Some y.path) x.place y.place in
        apart j k (fresh_bridge v) (fresh_bridge w) x.path (fresh_at us j v at_j) (fresh_at us k w at_k) x.has
        (y.has ∙ sym same)
    meet i j k v w at_j at_k (inl x) (inr y) = absurd (not_both i x.path k w x.place at_k y)
    meet i j k v w at_j at_k (inr x) (inl y) = absurd (not_both i y.path j v y.place at_j x)
    meet i j k v w at_j at_k (inr x) (inr y) = sym x.number ∙ y.number

    pub none_twice : NoneTwice (sources_from qs (bodies_of old) 0 us)
    none_twice i j k e f =
        let x : HasSource qs (bodies_of old) us j j i = source_at qs (bodies_of old) us 0 j j i (omega arith) e in
        let y : HasSource qs (bodies_of old) us k k i = source_at qs (bodies_of old) us 0 k k i (omega arith) f in
        meet i j k x.unit y.unit x.there y.there (source_says qs (bodies_of old) j x.unit i x.from)
        (source_says qs (bodies_of old) k y.unit i y.from)
