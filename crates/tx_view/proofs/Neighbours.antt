-- Stops of units whose paths are apart: those of units in parts, and the one unit that has a place.
use Rattle.std.proofs.Common.{◌≡◌, ℕ, Bool, true, false, ◌&&◌, ◌==◌, ◌⊎◌, inl, inr, List, [], ◌∷◌, ◌++◌, length}
use Rattle.std.proofs.Common.{drop}
use Rattle.std.proofs.Common.{append-nil, nat_eq, Option, Some, None, refl, sym, ap, ◌∙◌}
use Rattle.std.specs.List.{AllByRecursion, flat_map, list_any, starts_with}
use Rattle.std.specs.Option.{option_map_or}
use Rattle.std.specs.Str.{bytes_eq}
use Rattle.std.proofs.lemmas.Bool.{or_from, or_parts}
use Rattle.std.proofs.lemmas.Bool.Decides.{Decides-eqb}
use Rattle.std.proofs.lemmas.List.Concat.{flat_map-append}
use Rattle.std.proofs.lemmas.Slice.Eq.{bytes_eq-Decides, starts_is}
use Rattle.tx_tree.specs.declared.places.Place.{Place}
use Rattle.tx_units.specs.Places.{AreApart}
use Rattle.tx_view_form.specs.Views.{UnitView}
use Rattle.tx_view_form.specs.Positions.{Mark, marks_of}
use Rattle.tx_view_form.specs.Stops.{mark_place, stops_by, unit_stops, each_once, stops_of}
use Rattle.tx_tree.specs.SamePlaces.{same_place}
use Rattle.tx_view.specs.Marks.{both_ends}
use Rattle.tx_view.specs.Near.{is_above}
use Rattle.tx_view.specs.Units.{AreAllApart}
use Rattle.tx_view_form.proofs.PathUnits.{all_both}
use Rattle.tx_view.proofs.Parts.{none_in_both, none_once, once_in_parts}

-- ---- the path of a stop begins with that of its unit

record IsBelow (o : Option (List ℕ)) (q : Place) : Type 0 where
  path : List ℕ
  more : List ℕ
  has_path : o ≡ Some path
  is_behind : q.path ≡ path ++ more

below : (path : List ℕ) (m : Mark) (offset : ℕ) → IsBelow (Some path) (mark_place path m offset)
below path m offset = record { path = path; more = m.origin; has_path = refl; is_behind = refl }

ends_below : (path : List ℕ) (ms : List Mark) → AllByRecursion (IsBelow (Some path)) (flat_map (both_ends path) ms)
ends_below path [] = tt
ends_below path (m ∷ ms) = (below path m m.start, (below path m m.stop, ends_below path ms))

stops_below : (path : List ℕ) (ms : List Mark) → AllByRecursion (IsBelow (Some path)) (stops_by path ms)
stops_below path [] = (record { path = path; more = []; has_path = refl; is_behind = sym (append-nil path) }, tt)
stops_below path (m ∷ ms) = ends_below path (m ∷ ms)

unit_below : (x : UnitView) → AllByRecursion (IsBelow x.path) (unit_stops x)
unit_below x = by x.path
  where
    by : (o : Option (List ℕ)) → AllByRecursion (IsBelow o)
        (option_map_or (λ path. stops_by path (marks_of (flat_map (λ p. p.items) x.paragraphs))) o [])
    by None = tt
    by (Some path) = stops_below path (marks_of (flat_map (λ p. p.items) x.paragraphs))

-- ---- two fronts of one path

meet : (a m b n : List ℕ) → a ++ m ≡ b ++ n → ((c : List ℕ) × (b ≡ a ++ c)) ⊎ ((c : List ℕ) × (a ≡ b ++ c))
meet [] m b n e = inl (b, refl)
meet (x ∷ a) m [] n e = inr (x ∷ a, refl)
meet (x ∷ a) m (y ∷ b) n e =
    let tails : a ++ m ≡ b ++ n = cc in
    let heads : x ≡ y = cc in
    by (meet a m b n tails) heads
  where
    by : ((c : List ℕ) × (b ≡ a ++ c)) ⊎ ((c : List ℕ) × (a ≡ b ++ c)) → x ≡ y
        → ((c : List ℕ) × (y ∷ b ≡ x ∷ a ++ c)) ⊎ ((c : List ℕ) × (x ∷ a ≡ y ∷ b ++ c))
    by (inl p) h = inl (p.0, ap (λ k. k ∷ b) (sym h) ∙ ap (λ c. x ∷ c) p.1)
    by (inr p) h = inr (p.0, ap (λ k. k ∷ a) h ∙ ap (λ c. y ∷ c) p.1)

not_both : (o p : Option (List ℕ)) (a m b n : List ℕ) → AreApart o p → o ≡ Some a → p ≡ Some b → a ++ m ≡ b ++ n → ⊥
not_both o p a m b n apart e f same = by (meet a m b n same)
  where
    by : ((c : List ℕ) × (b ≡ a ++ c)) ⊎ ((c : List ℕ) × (a ≡ b ++ c)) → ⊥
    by (inl q) = (apart a q.0).0 e (f ∙ ap Some q.1)
    by (inr q) = (apart b q.0).1 f (e ∙ ap Some q.1)

same_paths : (p q : Place) → same_place p q ≡ true → p.path ≡ q.path
same_paths p q e = by (bytes_eq p.path q.path) refl e
  where
    by : (b : Bool) → bytes_eq p.path q.path ≡ b → (b && (p.offset == q.offset)) ≡ true → p.path ≡ q.path
    by true f g = (bytes_eq-Decides p.path q.path).0 f
    by false f g = absurd cc

differ : (o p : Option (List ℕ)) (x y : Place) → AreApart o p → IsBelow o x → IsBelow p y → same_place y x ≡ false
differ o p x y apart h k = by (same_place y x) refl
  where
    by : (b : Bool) → same_place y x ≡ b → b ≡ false
    by false e = refl
    by true e =
        absurd (not_both o p h.path h.more k.path k.more apart h.has_path k.has_path
        (sym h.is_behind ∙ sym (same_paths y x e) ∙ k.is_behind))

none_of : (o p : Option (List ℕ)) (y : Place) (xs : List Place) → AreApart o p → IsBelow p y
    → AllByRecursion (IsBelow o) xs → list_any (same_place y) xs ≡ false
none_of o p y [] apart k h = refl
none_of o p y (x ∷ xs) apart k h =
    or_from (same_place y x) (list_any (same_place y) xs) (differ o p x y apart h.0 k) (none_of o p y xs apart k h.1)

-- ---- units in parts

-- units that are apart from one
abbrev AreApartOf : List UnitView → UnitView → Type 0
AreApartOf us v = AllByRecursion (λ u. AreApart u.path v.path) us

none_in_units : (us : List UnitView) (v : UnitView) (q : Place) → AreApartOf us v → IsBelow v.path q
    → list_any (same_place q) (flat_map unit_stops us) ≡ false
none_in_units [] v q h k = refl
none_in_units (u ∷ us) v q h k =
    none_in_both (same_place q) (unit_stops u) (flat_map unit_stops us)
    (none_of u.path v.path q (unit_stops u) h.0 k (unit_below u)) (none_in_units us v q h.1 k)

each_apart : (us : List UnitView) (v : UnitView) (qs : List Place) → AreApartOf us v
    → AllByRecursion (IsBelow v.path) qs → AllByRecursion (λ q. list_any (same_place q) (stops_of us) ≡ false) qs
each_apart us v [] h k = tt
each_apart us v (q ∷ qs) h k = (
  none_once same_place (same_place q) (flat_map unit_stops us) (none_in_units us v q h k.0),
  each_apart us v qs h k.1,
)

all_apart : (us vs : List UnitView) → AllByRecursion (AreApartOf us) vs
    → AllByRecursion (λ q. list_any (same_place q) (stops_of us) ≡ false) (flat_map unit_stops vs)
all_apart us [] h = tt
all_apart us (v ∷ vs) h =
    all_both (λ q. list_any (same_place q) (stops_of us) ≡ false) (unit_stops v) (flat_map unit_stops vs)
    (each_apart us v (unit_stops v) h.0 (unit_below v)) (all_apart us vs h.1)

pub all_parts : {X : Type 0} (R : X → Type 0) (xs ys : List X) → AllByRecursion R (xs ++ ys)
    → AllByRecursion R xs × AllByRecursion R ys
all_parts R [] ys h = (tt, h)
all_parts R (x ∷ xs) ys h = let parts = all_parts R xs ys h.1 in ((h.0, parts.0), parts.1)

of_none : (vs : List UnitView) → AllByRecursion (AreApartOf []) vs
of_none [] = tt
of_none (v ∷ vs) = (tt, of_none vs)

of_more : (u : UnitView) (us vs : List UnitView) → AllByRecursion (λ v. AreApart u.path v.path) vs
    → AllByRecursion (AreApartOf us) vs → AllByRecursion (AreApartOf (u ∷ us)) vs
of_more u us [] h k = tt
of_more u us (v ∷ vs) h k = ((h.0, k.0), of_more u us vs h.1 k.1)

across : (us vs : List UnitView) → AreAllApart (us ++ vs) → AllByRecursion (AreApartOf us) vs
across [] vs h = of_none vs
across (u ∷ us) vs h = of_more u us vs (all_parts (λ v. AreApart u.path v.path) us vs h.0).1 (across us vs h.1)

pub apart_left : (us vs : List UnitView) → AreAllApart (us ++ vs) → AreAllApart us
apart_left [] vs h = tt
apart_left (u ∷ us) vs h = ((all_parts (λ v. AreApart u.path v.path) us vs h.0).0, apart_left us vs h.1)

pub apart_right : (us vs : List UnitView) → AreAllApart (us ++ vs) → AreAllApart vs
apart_right [] vs h = h
apart_right (u ∷ us) vs h = apart_right us vs h.1

pub stops_in_parts : (us vs : List UnitView) → AreAllApart (us ++ vs) → stops_of (us ++ vs) ≡ stops_of us ++ stops_of vs
stops_in_parts us vs h =
    ap each_once (flat_map-append unit_stops us vs)
    ∙ once_in_parts same_place (flat_map unit_stops us) (flat_map unit_stops vs) (all_apart us vs (across us vs h))

-- ---- the unit above a place

-- a unit that isn't above the place doesn't have it
not_here : (at : Place) (o : Option (List ℕ)) (qs : List Place) → is_above o at ≡ false → AllByRecursion (IsBelow o) qs
    → list_any (same_place at) qs ≡ false
not_here at o [] e h = refl
not_here at o (q ∷ qs) e h = or_from (same_place at q) (list_any (same_place at) qs) (by (same_place at q) refl)
    (not_here at o qs e h.1)
  where
    above : (path : List ℕ) → o ≡ Some path → at.path ≡ path ++ h.0.more → is_above o at ≡ true
    above path f g =
        ap (λ p. is_above p at) f
        ∙ (starts_is Decides-eqb at.path path (starts_with nat_eq at.path path) refl).1 h.0.more g

    by : (b : Bool) → same_place at q ≡ b → b ≡ false
    by false f = refl
    by true f =
        let is : is_above o at ≡ true = above h.0.path h.0.has_path (same_paths at q f ∙ h.0.is_behind) in
        absurd cc

pub none_above : (at : Place) (us : List UnitView) → list_any (λ u. is_above u.path at) us ≡ false
    → list_any (same_place at) (stops_of us) ≡ false
none_above at us e = none_once same_place (same_place at) (flat_map unit_stops us) (by us e)
  where
    by : (vs : List UnitView) → list_any (λ u. is_above u.path at) vs ≡ false
        → list_any (same_place at) (flat_map unit_stops vs) ≡ false
    by [] f = refl
    by (v ∷ vs) f =
        let parts = or_parts (is_above v.path at) (list_any (λ u. is_above u.path at) vs) f in
        none_in_both (same_place at) (unit_stops v) (flat_map unit_stops vs)
        (not_here at v.path (unit_stops v) parts.0 (unit_below v)) (by vs parts.1)

-- where one unit is above the place, none that is apart from it is
begins : (at : Place) (path : List ℕ) → starts_with nat_eq at.path path ≡ true
    → at.path ≡ path ++ drop (length path) at.path
begins at path e = (starts_is Decides-eqb at.path path (starts_with nat_eq at.path path) refl).0 e

one_above : (at : Place) (o p : Option (List ℕ)) → AreApart o p → is_above o at ≡ true → is_above p at ≡ false
one_above at None p apart e = absurd cc
one_above at (Some a) None apart e = refl
one_above at (Some a) (Some b) apart e = by (starts_with nat_eq at.path b) refl
  where
    by : (t : Bool) → starts_with nat_eq at.path b ≡ t → t ≡ false
    by false f = refl
    by true f =
        absurd (not_both (Some a) (Some b) a (drop (length a) at.path) b (drop (length b) at.path) apart refl refl
        (sym (begins at a e) ∙ begins at b f))

pub none_else : (at : Place) (x : UnitView) (us : List UnitView) → AllByRecursion (λ y. AreApart x.path y.path) us
    → is_above x.path at ≡ true → list_any (λ u. is_above u.path at) us ≡ false
none_else at x [] h e = refl
none_else at x (u ∷ us) h e =
    or_from (is_above u.path at) (list_any (λ u. is_above u.path at) us) (one_above at x.path u.path h.0 e)
    (none_else at x us h.1 e)
