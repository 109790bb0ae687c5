-- In which unit a place is.
use Rattle.std.proofs.Common.{◌≡◌, ℕ, zero, suc, ◌+◌, ◌<◌, List, [], ◌∷◌, ◌++◌, length, Option, Some, None, refl}
use Rattle.std.proofs.Common.{nat_eq}
use Rattle.std.proofs.Common.{ap, sym, ◌∙◌, subst, arith, slice_index_or, ◌≤◌}
use Rattle.std.proofs.lemmas.List.{append-nil}
use Rattle.std.proofs.lemmas.Option.{same_Some, slice_get-get_or}
use Rattle.std.proofs.lemmas.Slice.Eq.{bytes_eq-Decides}
use Rattle.std.specs.List.{AllByRecursion, list_any, starts_with}
use Rattle.std.specs.Option.{option_map_or}
use Rattle.std.specs.Prelude.{Bool, true, false, not, ◌||◌, is_some, slice_get, option_and_then, MatchOption}
use Rattle.tx_mod.specs.Moves.{rest_behind}
use Rattle.tx_units.specs.declared.kinds.Unit.{Unit as DocUnit}
use Rattle.tx_units.specs.Places.{AreApart, NoneBegins}
use Rattle.tx_bridge.specs.Carrying.{is_path}
use Rattle.tx_bridge.specs.Courses.{IsUnitAbove}
use Rattle.tx_bridge.specs.PartMoves.{NoneAbove, is_outside, stands_at, is_vacant, rest_in, unit_above}
use Rattle.tx_bridge.proofs.Inside.{rest_is, rest_own, fronts_meet}
use Rattle.tx_bridge.proofs.WithinUnit.{no_rest_of, rest_of_is}

-- ---- places in units

-- the place is so far below the unit's path
pub record IsIn (u : DocUnit) (place rest : List ℕ) : Type 0 where
  pub path : List ℕ
  pub has : u.path ≡ Some path
  pub whole : place ≡ path ++ rest

pub rest_in_is : (u : DocUnit) (place rest : List ℕ) → rest_in u place ≡ Some rest → IsIn u place rest
rest_in_is u place rest e = by u.path refl
  where
    by : (o : Option (List ℕ)) → u.path ≡ o → IsIn u place rest
    by None is =
        let off : None ≡ Some rest = sym (ap (option_and_then (λ p. rest_behind p place)) is) ∙ e in absurd (cc)
    by (Some p) is = record {
      path = p;
      has = is;
      whole = rest_is p place rest (sym (ap (option_and_then (λ q. rest_behind q place)) is) ∙ e);
    }

pub in_rest : (u : DocUnit) (p rest : List ℕ) → u.path ≡ Some p → rest_in u (p ++ rest) ≡ Some rest
in_rest u p rest is = ap (option_and_then (λ q. rest_behind q (p ++ rest))) is ∙ rest_own p rest

-- at most one of two units that are apart has the place
never_both : (u v : DocUnit) (place r s : List ℕ) → AreApart u.path v.path → rest_in u place ≡ Some r
    → rest_in v place ≡ Some s → ⊥
never_both u v place r s apart e f =
    let x : IsIn u place r = rest_in_is u place r e in
    let y : IsIn v place s = rest_in_is v place s f in
    fronts_meet x.path y.path r s (sym x.whole ∙ y.whole)
    (λ more is. (apart x.path more).0 x.has (y.has ∙ ap (λ p. Some p) is))
    (λ more is. (apart y.path more).1 y.has (x.has ∙ ap (λ p. Some p) is))

unit_is : (v u : DocUnit) (vs : List DocUnit) → slice_get (v ∷ vs) 0 ≡ Some u → v ≡ u
unit_is v u vs e = cc

apart_from : (o : Option (List ℕ)) (vs : List DocUnit) (k : ℕ) (u : DocUnit)
    → AllByRecursion (λ v. AreApart o v.path) vs → slice_get vs k ≡ Some u → AreApart o u.path
apart_from o [] k u h e = cc
apart_from o (v ∷ vs) zero u h e = subst (λ (w : DocUnit). AreApart o w.path) (unit_is v u vs e) h.0
apart_from o (v ∷ vs) (suc k) u h e = apart_from o vs k u h.1 e

pub one_above : (us : List DocUnit) (j k : ℕ) (u v : DocUnit) (place r s : List ℕ) → NoneBegins us
    → slice_get us j ≡ Some u → slice_get us k ≡ Some v → rest_in u place ≡ Some r → rest_in v place ≡ Some s → j ≡ k
one_above [] j k u v place r s h at_j at_k e f = cc
one_above (w ∷ us) zero zero u v place r s h at_j at_k e f = refl
one_above (w ∷ us) zero (suc k) u v place r s h at_j at_k e f =
    let same : w ≡ u = unit_is w u us at_j in
    absurd (never_both u v place r s
    (subst (λ (x : DocUnit). AreApart x.path v.path) same (apart_from w.path us k v h.0 at_k)) e f)
one_above (w ∷ us) (suc j) zero u v place r s h at_j at_k e f =
    let same : w ≡ v = unit_is w v us at_k in
    absurd (never_both v u place s r
    (subst (λ (x : DocUnit). AreApart x.path u.path) same (apart_from w.path us j u h.0 at_j)) f e)
one_above (w ∷ us) (suc j) (suc k) u v place r s h at_j at_k e f =
    ap suc (one_above us j k u v place r s h.1 at_j at_k e f)

-- ---- the first one

none_above_from : (j n : ℕ) (us : List DocUnit) (place : List ℕ) → NoneAbove place us → n ≡ j + length us
    → unit_above j us place ≡ (n, place)
none_above_from j n [] place h is = let same : j ≡ n = omega (arith, is) in ap (λ i. (i, place)) same
none_above_from j n (v ∷ vs) place h is =
    ap (λ o. option_map_or (λ r. (j, r)) o (unit_above (j + 1) vs place)) (h 0 v refl)
    ∙ none_above_from (j + 1) n vs place (λ k u e. h (suc k) u e) (omega (arith, is))

pub none_above : (us : List DocUnit) (place : List ℕ) → NoneAbove place us → unit_above 0 us place ≡ (length us, place)
none_above us place h = none_above_from 0 (length us) us place h (omega arith)

pub off_rest : (v : DocUnit) (place : List ℕ) → ((s : List ℕ) → rest_in v place ≡ Some s → ⊥) → rest_in v place ≡ None
off_rest v place h = by (rest_in v place) refl
  where
    by : (o : Option (List ℕ)) → rest_in v place ≡ o → o ≡ None
    by None e = refl
    by (Some s) e = absurd (h s e)

above_from : (us : List DocUnit) (k j n : ℕ) (u : DocUnit) (place r : List ℕ) → NoneBegins us
    → slice_get us k ≡ Some u → rest_in u place ≡ Some r → n ≡ j + k → unit_above j us place ≡ (n, r)
above_from [] k j n u place r h at e is = cc
above_from (v ∷ vs) zero j n u place r h at e is =
    let same : v ≡ u = unit_is v u vs at in
    let here : j ≡ n = omega (arith, is) in
    ap (λ o. option_map_or (λ x. (j, x)) o (unit_above (j + 1) vs place))
    (ap (λ (w : DocUnit). rest_in w place) same ∙ e)
    ∙ ap (λ i. (i, r)) here
above_from (v ∷ vs) (suc k) j n u place r h at e is =
    ap (λ o. option_map_or (λ x. (j, x)) o (unit_above (j + 1) vs place))
    (off_rest v place (λ s f. never_both v u place s r (apart_from v.path vs k u h.0 at) f e))
    ∙ above_from vs k (j + 1) n u place r h.1 at e (omega (arith, is))

pub above_is : (us : List DocUnit) (j : ℕ) (u : DocUnit) (place r : List ℕ) → NoneBegins us → slice_get us j ≡ Some u
    → rest_in u place ≡ Some r → unit_above 0 us place ≡ (j, r)
above_is us j u place r h at e = above_from us j 0 j u place r h at e (omega arith)

-- ---- what follows from the number

-- the unit of that number has the place
pub record IsFound (vs : List DocUnit) (n : ℕ) (place r : List ℕ) : Type 0 where
  pub unit : DocUnit
  pub there : slice_get vs n ≡ Some unit
  pub rest : rest_in unit place ≡ Some r

-- a number that units have is that of one
pub found_at : (j : ℕ) (vs : List DocUnit) (place : List ℕ) → (unit_above j vs place).0 < j + length vs
    → (k : ℕ) × ((unit_above j vs place).0 ≡ j + k) × IsFound vs k place (unit_above j vs place).1
found_at j [] place few = absurd (omega (arith, few))
found_at j (v ∷ vs) place few = by (rest_in v place) refl few (found_at (j + 1) vs place)
  where
    by : (o : Option (List ℕ)) → rest_in v place ≡ o
        → (option_map_or (λ r. (j, r)) o (unit_above (j + 1) vs place)).0 < j + length (v ∷ vs)
        → ((unit_above (j + 1) vs place).0 < j + 1 + length vs → (k : ℕ)
        × ((unit_above (j + 1) vs place).0 ≡ j + 1 + k) × IsFound vs k place (unit_above (j + 1) vs place).1)
        → (k : ℕ) × ((option_map_or (λ r. (j, r)) o (unit_above (j + 1) vs place)).0 ≡ j + k)
        × IsFound (v ∷ vs) k place (option_map_or (λ r. (j, r)) o (unit_above (j + 1) vs place)).1
    by (Some r) is less later = (0, omega arith, record { unit = v; there = refl; rest = is })
    by None is less later =
        let f = later (omega (arith, less)) in
        (suc f.0, omega (arith, f.1), record { unit = f.2.unit; there = f.2.there; rest = f.2.rest })

-- where the number is that after the last unit, no unit is above the place
pub far_at : (j : ℕ) (vs : List DocUnit) (place : List ℕ) → j + length vs ≤ (unit_above j vs place).0
    → ((unit_above j vs place).1 ≡ place) × NoneAbove place vs
far_at j [] place far = (refl, (λ k u e. cc))
far_at j (v ∷ vs) place far = by (rest_in v place) refl far (far_at (j + 1) vs place)
  where
    by : (o : Option (List ℕ)) → rest_in v place ≡ o
        → j + length (v ∷ vs) ≤ (option_map_or (λ r. (j, r)) o (unit_above (j + 1) vs place)).0
        → (j + 1 + length vs ≤ (unit_above (j + 1) vs place).0
        → ((unit_above (j + 1) vs place).1 ≡ place) × NoneAbove place vs)
        → ((option_map_or (λ r. (j, r)) o (unit_above (j + 1) vs place)).1 ≡ place) × NoneAbove place (v ∷ vs)
    by (Some r) is more later = absurd (omega (arith, more))
    by None is more later = let f = later (omega (arith, more)) in (f.0, none f.1)
      where
        none : NoneAbove place vs → NoneAbove place (v ∷ vs)
        none rest zero u e = ap (λ (w : DocUnit). rest_in w place) (sym (unit_is v u vs e)) ∙ is
        none rest (suc k) u e = rest k u e

-- ---- whether a unit is at the place

any_false : (f : DocUnit → Bool) (us : List DocUnit)
    → ((k : ℕ) (u : DocUnit) → slice_get us k ≡ Some u → f u ≡ false) → list_any f us ≡ false
any_false f [] h = refl
any_false f (u ∷ us) h = ap (λ b. b || list_any f us) (h 0 u refl) ∙ any_false f us (λ k v e. h (suc k) v e)

or_true : (b : Bool) → b || true ≡ true
or_true true = refl
or_true false = refl

any_true : (f : DocUnit → Bool) (us : List DocUnit) (k : ℕ) (u : DocUnit) → slice_get us k ≡ Some u → f u ≡ true
    → list_any f us ≡ true
any_true f [] k u at e = cc
any_true f (v ∷ us) zero u at e =
    ap (λ b. b || list_any f us) (ap f (unit_is v u us at) ∙ e)
any_true f (v ∷ us) (suc k) u at e = ap (λ b. f v || b) (any_true f us k u at e) ∙ or_true (f v)

-- the rest of the place below a unit that is at it is empty
stands_rest : (place : List ℕ) (v : DocUnit) → stands_at (Some place) v ≡ true → rest_in v place ≡ Some []
stands_rest place v e = by v.path refl
  where
    by : (o : Option (List ℕ)) → v.path ≡ o → rest_in v place ≡ Some []
    by None is =
        let off : false ≡ true = sym (ap (λ o. option_map_or (λ p. is_path p (Some place)) o false) is) ∙ e in
        absurd (cc)
    by (Some p) is =
        let same : place ≡ p = (bytes_eq-Decides place p).0
        (sym (ap (λ o. option_map_or (λ q. is_path q (Some place)) o false) is) ∙ e) in
        ap (rest_in v) (same ∙ sym (append-nil p)) ∙ in_rest v p [] is

off_true : (b : Bool) → (b ≡ true → ⊥) → b ≡ false
off_true true h = absurd (h refl)
off_true false h = refl

pub vacant_nowhere : (us : List DocUnit) → true ≡ is_vacant None us
vacant_nowhere us = ap not (sym (any_false (stands_at None) us (λ k u e. by u.path)))
  where
    by : (o : Option (List ℕ)) → option_map_or (λ p. is_path p None) o false ≡ false
    by None = refl
    by (Some p) = refl

pub vacant_above_none : (us : List DocUnit) (place : List ℕ) → NoneAbove place us → true ≡ is_vacant (Some place) us
vacant_above_none us place h =
    ap not (sym (any_false (stands_at (Some place)) us
    (λ k u at. off_true (stands_at (Some place) u)
    (λ e. let off : None ≡ Some [] = sym (h k u at) ∙ stands_rest place u e in cc))))

some_rest : (o : Option (List ℕ)) → is_some o ≡ true → (r : List ℕ) × (o ≡ Some r)
some_rest None e = cc
some_rest (Some r) e = (r, refl)

pub above_rest : (us : List DocUnit) (place : List ℕ) (j : ℕ) (h : IsUnitAbove place us j)
    → (r : List ℕ) × (rest_in h.unit place ≡ Some r)
above_rest us place j h = some_rest (rest_in h.unit place) h.within

pub vacant_by_path : (us : List DocUnit) (place : List ℕ) (j : ℕ) (u : DocUnit) (b : Bool) → NoneBegins us
    → IsUnitAbove place us j → slice_get us j ≡ Some u → b ≡ is_path place u.path → not b ≡ is_vacant (Some place) us
vacant_by_path us place j u true apart h at is =
    ap not (sym (any_true (stands_at (Some place)) us j u at (by u.path refl)))
  where
    by : (o : Option (List ℕ)) → u.path ≡ o → option_map_or (λ p. is_path p (Some place)) o false ≡ true
    by None e = let off : true ≡ false = is ∙ ap (is_path place) e in cc
    by (Some p) e =
        let same : p ≡ place = (bytes_eq-Decides p place).0 (sym (is ∙ ap (is_path place) e)) in
        (bytes_eq-Decides place p).1 (sym same)
vacant_by_path us place j u false apart h at is =
    ap not (sym (any_false (stands_at (Some place)) us
    (λ k v at_k. off_true (stands_at (Some place) v) (λ e. never k v at_k e))))
  where
    never : (k : ℕ) (v : DocUnit) → slice_get us k ≡ Some v → stands_at (Some place) v ≡ true → ⊥
    never k v at_k e =
        let r : (r : List ℕ) × (rest_in h.unit place ≡ Some r) = above_rest us place j h in
        let one : j ≡ k =
        one_above us j k h.unit v place r.0 [] apart h.there at_k r.1 (stands_rest place v e) in
        let same : u ≡ v = same_Some u v (sym at ∙ ap (slice_get us) one ∙ at_k) in
        let x : IsIn v place [] = rest_in_is v place [] (stands_rest place v e) in
        let whole : x.path ≡ place = sym (x.whole ∙ append-nil x.path) in
        let off : false ≡ true =
        is ∙ ap (λ (w : DocUnit). is_path place w.path) same ∙ ap (is_path place) x.has
        ∙ (bytes_eq-Decides x.path place).1 whole in
        cc

pub above_test : (u : DocUnit) (path place : List ℕ) (b : Bool) → u.path ≡ Some path
    → b ≡ starts_with nat_eq place path → b ≡ is_some (rest_in u place)
above_test u path place true is h =
    ap is_some (sym (ap (option_and_then (λ p. rest_behind p place)) is ∙ rest_of_is path place (sym h)))
above_test u path place false is h =
    ap is_some (sym (ap (option_and_then (λ p. rest_behind p place)) is ∙ no_rest_of path place (sym h)))

-- ---- whether one is above

pub outside_is : (us : List DocUnit) (place : List ℕ) → NoneAbove place us → is_outside us place ≡ true
outside_is us place h =
    ap not (any_false (λ u. is_some (rest_in u place)) us (λ k u at. ap is_some (h k u at)))

pub inside_is : (us : List DocUnit) (place : List ℕ) (j : ℕ) → IsUnitAbove place us j → is_outside us place ≡ false
inside_is us place j h =
    ap not (any_true (λ u. is_some (rest_in u place)) us j h.unit h.there h.within)

pub inside_told : (us : List DocUnit) (place : List ℕ) (o : Option ℕ) (j : ℕ)
    → MatchOption o (NoneAbove place us) (λ k. IsUnitAbove place us k) → o ≡ Some j → is_outside us place ≡ false
inside_told us place o j h e =
    inside_is us place j
    (subst (λ r. MatchOption r (NoneAbove place us) (λ k. IsUnitAbove place us k)) e h)

pub outside_none : (us : List DocUnit) (place : List ℕ) → is_outside us place ≡ true → NoneAbove place us
outside_none us place h k u at = by (rest_in u place) refl
  where
    by : (o : Option (List ℕ)) → rest_in u place ≡ o → o ≡ None
    by None e = refl
    by (Some r) e =
        let off : false ≡ true =
        sym (ap not (any_true (λ v. is_some (rest_in v place)) us k u at (ap is_some e))) ∙ h in
        absurd (cc)

-- ---- what is read of the unit

read_at : (us : List DocUnit) (j : ℕ) (u : DocUnit) → j < length us → u ≡ slice_index_or us j u
    → slice_get us j ≡ Some u
read_at us j u inside is = slice_get-get_or us j u inside ∙ ap (λ v. Some v) (sym is)

pub vacant_read : (us : List DocUnit) (place : List ℕ) (j : ℕ) (u : DocUnit) (b : Bool) → NoneBegins us
    → IsUnitAbove place us j → j < length us → u ≡ slice_index_or us j u → b ≡ is_path place u.path
    → not b ≡ is_vacant (Some place) us
vacant_read us place j u b apart h inside is e = vacant_by_path us place j u b apart h (read_at us j u inside is) e

-- a unit above a place has a path
pub above_has_path : (us : List DocUnit) (place : List ℕ) (j : ℕ) (d : DocUnit) → IsUnitAbove place us j → j < length us
    → (slice_index_or us j d).path ≡ None → ⊥
above_has_path us place j d h inside none =
    let same : h.unit ≡ slice_index_or us j d =
    same_Some h.unit (slice_index_or us j d) (sym h.there ∙ slice_get-get_or us j d inside) in
    let r : (r : List ℕ) × (rest_in h.unit place ≡ Some r) = above_rest us place j h in
    let off : None ≡ Some r.0 =
    sym (ap (option_and_then (λ p. rest_behind p place)) (ap (λ (v : DocUnit). v.path) same ∙ none)) ∙ r.1 in
    absurd (cc)

module _ (us : List DocUnit) (place : List ℕ) (j : ℕ) (d : DocUnit) (path : List ℕ) (h : IsUnitAbove place us j)
    (inside : j < length us) (has : (slice_index_or us j d).path ≡ Some path) where
  rest_is_behind : rest_in (slice_index_or us j d) place ≡ rest_behind path place
  rest_is_behind = ap (option_and_then (λ p. rest_behind p place)) has

  pub above_has_rest : None ≡ rest_behind path place → ⊥
  above_has_rest e =
      let same : h.unit ≡ slice_index_or us j d =
      same_Some h.unit (slice_index_or us j d) (sym h.there ∙ slice_get-get_or us j d inside) in
      let r : (r : List ℕ) × (rest_in h.unit place ≡ Some r) = above_rest us place j h in
      let off : None ≡ Some r.0 =
      e ∙ sym rest_is_behind ∙ ap (λ (v : DocUnit). rest_in v place) (sym same) ∙ r.1 in
      absurd (cc)

  pub above_read : (rest : List ℕ) → NoneBegins us → Some rest ≡ rest_behind path place
      → (j, rest) ≡ unit_above 0 us place
  above_read rest apart e =
      sym (above_is us j (slice_index_or us j d) place rest apart (slice_get-get_or us j d inside)
      (rest_is_behind ∙ sym e))
