-- From which unit to which the stops are near a place.
use Rattle.std.proofs.Common.{◌≡◌, ℕ, zero, suc, ◌+◌, ◌-◌, ◌<◌, ◌≤◌, Bool, true, false, ◌||◌, List, [], ◌∷◌, ◌++◌}
use Rattle.std.proofs.Common.{length}
use Rattle.std.proofs.Common.{take}
use Rattle.std.proofs.Common.{drop, get_or, Option, Some, None, IfSome, refl, sym, ap, ◌∙◌, subst, arith, append_assoc}
use Rattle.std.proofs.Common.{length-append, length-drop, take-append-drop}
use Rattle.std.specs.List.{list_any, position}
use Rattle.std.proofs.Math.Seq.{drop-append_seam, take-append_seam}
use Rattle.std.proofs.lemmas.Bool.{or_from, both_ways}
use Rattle.std.proofs.lemmas.List.{map-append, length-take-le, drop_more, drop-drop}
use Rattle.std.proofs.lemmas.List.Quantifiers.{position-Some}
use Rattle.tx_tree.specs.declared.places.Place.{Place}
use Rattle.tx_view_form.specs.Stops.{stops_of}
use Rattle.tx_tree.specs.SamePlaces.{same_place, stop_number}
use Rattle.tx_view.specs.Near.{AreNear, is_above, shown_stops, HasStop, IsRange}
use Rattle.tx_view.specs.Units.{unit_views, AreAllApart}
use Rattle.tx_unit_layout.specs.Views.{unit_view}
use Rattle.tx_unit_layout.specs.declared.shown.Shown.{Shown}
use Rattle.tx_view.proofs.Parts.{none_in_both, none_in_parts, some_in_left, some_in_right, number_none, number_below}
use Rattle.tx_view.proofs.Parts.{not_among, number_within, first_of_parts, last_of_parts}
use Rattle.tx_view.proofs.Neighbours.{apart_left, apart_right, stops_in_parts, none_above, none_else}

-- ---- stops of units that are shown, in parts

apart_of : (us vs : List Shown) → AreAllApart (unit_views (us ++ vs)) → AreAllApart (unit_views us ++ unit_views vs)
apart_of us vs h = subst AreAllApart (map-append unit_view us vs) h

left_of : (us vs : List Shown) → AreAllApart (unit_views (us ++ vs)) → AreAllApart (unit_views us)
left_of us vs h = apart_left (unit_views us) (unit_views vs) (apart_of us vs h)

right_of : (us vs : List Shown) → AreAllApart (unit_views (us ++ vs)) → AreAllApart (unit_views vs)
right_of us vs h = apart_right (unit_views us) (unit_views vs) (apart_of us vs h)

shown_in_parts : (us vs : List Shown) → AreAllApart (unit_views (us ++ vs))
    → shown_stops (us ++ vs) ≡ shown_stops us ++ shown_stops vs
shown_in_parts us vs h =
    ap stops_of (map-append unit_view us vs) ∙ stops_in_parts (unit_views us) (unit_views vs) (apart_of us vs h)

-- ---- a range

near_parts : (at : Place) (a b m c d all near : List Place) → all ≡ a ++ (b ++ (m ++ c)) ++ d → near ≡ b ++ (m ++ c)
    → list_any (same_place at) (a ++ b) ≡ false → list_any (same_place at) m ≡ true
    → list_any (same_place at) (c ++ d) ≡ false → (b ≡ [] → a ≡ []) → (c ≡ [] → d ≡ []) → AreNear all near at
near_parts at a b m c d all near e f before here behind first last =
    let before_parts = none_in_parts (same_place at) a b before in
    let behind_parts = none_in_parts (same_place at) c d behind in
    let found : list_any (same_place at) near ≡ true =
    ap (list_any (same_place at)) f
    ∙ some_in_right (same_place at) b (m ++ c) (some_in_left (same_place at) m c here) in
    let lost : stop_number near at ≡ None → ⊥ =
    λ g. both_ways (list_any (same_place at) near) (not_among (same_place at) near g) found in
    let whole : all ≡ a ++ near ++ d = e ∙ ap (λ ps. a ++ ps ++ d) (sym f) in
    record {
      before = a;
      behind = d;
      parts = whole;
      found =
          ap (λ ps. stop_number ps at) whole ∙ number_within (same_place at) a near d before_parts.0 behind_parts.1;
      from_start = λ g. absurd (lost g);
      not_empty = λ g. absurd (lost g);
      first = λ g. first (first_of_parts (same_place at) b (m ++ c) before_parts.1
          (ap (λ ps. stop_number ps at) (sym f) ∙ g));
      last = λ k g h. last (last_of_parts (same_place at) (b ++ m) c k behind_parts.0
          (ap (λ ps. stop_number ps at) (sym (f ∙ sym (append_assoc b m c))) ∙ g)
          (h ∙ ap length (f ∙ sym (append_assoc b m c))));
    }

pub near_none : (at : Place) (near behind all : List Place) → all ≡ near ++ behind
    → list_any (same_place at) all ≡ false → (near ≡ [] → behind ≡ []) → AreNear all near at
near_none at near behind all e none empty =
    let parts = none_in_parts (same_place at) near behind (ap (list_any (same_place at)) (sym e) ∙ none) in
    let lost : stop_number near at ≡ None = number_none (same_place at) near parts.0 in
    record {
      before = [];
      behind = behind;
      parts = e;
      found = ap (λ ps. stop_number ps at) e ∙ number_within (same_place at) [] near behind refl parts.1;
      from_start = λ g. refl;
      not_empty = λ g. empty;
      first = λ g. refl;
      last = λ k g. absurd cc;
    }

-- the elements from one number up to another, of a list in three parts
middle : {X : Type 0} (a n c xs : List X) (from to : ℕ) → xs ≡ a ++ n ++ c → length a ≡ from
    → length (a ++ n) ≡ to → take (to - from) (drop from xs) ≡ n
middle a n c xs from to e f g =
    let many : to - from ≡ length n = omega (arith, f, g, length-append a n) in
    let behind : drop from xs ≡ n ++ c =
    ap (drop from) (e ∙ append_assoc a n c) ∙ ap (λ k. drop k (a ++ (n ++ c))) (sym f) ∙ drop-append_seam a (n ++ c) in
    ap (λ ys. take (to - from) ys) behind ∙ ap (λ k. take k (n ++ c)) many ∙ take-append_seam n c

pub range_none : (xs : List Shown) (at : Place) (n : ℕ) → AreAllApart (unit_views xs) → n ≤ length xs
    → list_any (same_place at) (shown_stops xs) ≡ false
    → (shown_stops (take n xs) ≡ [] → shown_stops (drop n xs) ≡ []) → IsRange xs at (0, n)
range_none xs at n apart le none empty =
    let whole : take n xs ++ drop n xs ≡ xs = take-append-drop n xs in
    let parts : shown_stops xs ≡ shown_stops (take n xs) ++ shown_stops (drop n xs) =
    ap shown_stops (sym whole)
    ∙ shown_in_parts (take n xs) (drop n xs)
    (subst (λ (ys : List Shown). AreAllApart (unit_views ys)) (sym whole) apart) in
    record {
      in_order = omega arith;
      within = le;
      near =
          subst (λ (ys : List Shown). AreNear (shown_stops xs) (shown_stops ys) at)
          (sym (middle [] (take n xs) (drop n xs) xs 0 n (sym whole) refl (length-take-le n xs le)))
          (near_none at (shown_stops (take n xs)) (shown_stops (drop n xs)) (shown_stops xs) parts none empty);
    }

module _ (xs : List Shown) (at : Place) (k from n : ℕ) where
  abbrev left_units : List Shown
  left_units = take k xs

  abbrev own_unit : List Shown
  own_unit = take 1 (drop k xs)

  abbrev right_units : List Shown
  right_units = drop (k + 1) xs

  abbrev far_left : List Shown
  far_left = take from left_units

  abbrev near_left : List Shown
  near_left = drop from left_units

  abbrev near_right : List Shown
  near_right = take n right_units

  abbrev far_right : List Shown
  far_right = drop n right_units

  abbrev near_units : List Shown
  near_units = near_left ++ (own_unit ++ near_right)

  whole_is : xs ≡ far_left ++ near_units ++ far_right
  whole_is =
      let one : left_units ++ drop k xs ≡ xs = take-append-drop k xs in
      let two : own_unit ++ right_units ≡ drop k xs =
      ap (λ ys. own_unit ++ ys) (sym (drop-drop 1 k xs)) ∙ take-append-drop 1 (drop k xs) in
      let three : far_left ++ near_left ≡ left_units = take-append-drop from left_units in
      let four : near_right ++ far_right ≡ right_units = take-append-drop n right_units in
      sym one ∙ ap (λ ys. left_units ++ ys) (sym two) ∙ ap (λ ys. ys ++ (own_unit ++ right_units)) (sym three)
      ∙ append_assoc far_left near_left (own_unit ++ right_units)
      ∙ ap (λ ys. far_left ++ (near_left ++ (own_unit ++ ys))) (sym four)
      ∙ ap (λ ys. far_left ++ (near_left ++ ys)) (sym (append_assoc own_unit near_right far_right))
      ∙ ap (λ ys. far_left ++ ys) (sym (append_assoc near_left (own_unit ++ near_right) far_right))
      ∙ sym (append_assoc far_left near_units far_right)

  pub range_some : AreAllApart (unit_views xs) → HasStop xs at k → from ≤ length left_units
      → (shown_stops near_left ≡ [] → shown_stops far_left ≡ []) → n ≤ length right_units
      → (shown_stops near_right ≡ [] → shown_stops far_right ≡ []) → IsRange xs at (from, k + 1 + n)
  range_some apart h le first le' last =
      let parted : AreAllApart (unit_views (far_left ++ near_units ++ far_right)) =
      subst (λ (ys : List Shown). AreAllApart (unit_views ys)) whole_is apart in
      let front : AreAllApart (unit_views (far_left ++ near_units)) =
      left_of (far_left ++ near_units) far_right parted in
      let middles : AreAllApart (unit_views near_units) = right_of far_left near_units front in
      let ends : AreAllApart (unit_views (own_unit ++ near_right)) =
      right_of near_left (own_unit ++ near_right) middles in
      let near_is : shown_stops near_units
      ≡ shown_stops near_left ++ (shown_stops own_unit ++ shown_stops near_right) =
      shown_in_parts near_left (own_unit ++ near_right) middles
      ∙ ap (λ ps. shown_stops near_left ++ ps) (shown_in_parts own_unit near_right ends) in
      let all_is : shown_stops xs
      ≡ shown_stops far_left ++ (shown_stops near_left ++ (shown_stops own_unit ++ shown_stops near_right))
      ++ shown_stops far_right =
      ap shown_stops whole_is ∙ shown_in_parts (far_left ++ near_units) far_right parted
      ∙ ap (λ ps. ps ++ shown_stops far_right) (shown_in_parts far_left near_units front
      ∙ ap (λ ps. shown_stops far_left ++ ps) near_is) in
      let lefts : AreAllApart (unit_views left_units) =
      left_of left_units (drop k xs)
      (subst (λ (ys : List Shown). AreAllApart (unit_views ys)) (sym (take-append-drop k xs)) apart) in
      let rights : AreAllApart (unit_views right_units) =
      right_of (take (k + 1) xs) right_units
      (subst (λ (ys : List Shown). AreAllApart (unit_views ys)) (sym (take-append-drop (k + 1) xs)) apart) in
      let before_is : shown_stops left_units ≡ shown_stops far_left ++ shown_stops near_left =
      ap shown_stops (sym (take-append-drop from left_units))
      ∙ shown_in_parts far_left near_left
      (subst (λ (ys : List Shown). AreAllApart (unit_views ys)) (sym (take-append-drop from left_units)) lefts) in
      let behind_is : shown_stops right_units ≡ shown_stops near_right ++ shown_stops far_right =
      ap shown_stops (sym (take-append-drop n right_units))
      ∙ shown_in_parts near_right far_right
      (subst (λ (ys : List Shown). AreAllApart (unit_views ys)) (sym (take-append-drop n right_units)) rights) in
      let near : AreNear (shown_stops xs) (shown_stops near_units) at =
      near_parts at (shown_stops far_left) (shown_stops near_left) (shown_stops own_unit) (shown_stops near_right)
      (shown_stops far_right) (shown_stops xs)
      (shown_stops near_units) all_is near_is
      (ap (list_any (same_place at)) (sym before_is) ∙ h.not_before) h.here
      (ap (list_any (same_place at)) (sym behind_is) ∙ h.not_behind) first last in
      let many_before : length left_units ≡ k = length-take-le k xs (omega (arith, h.within)) in
      let many_a : length far_left ≡ from = length-take-le from left_units le in
      let many_here : length own_unit ≡ 1 =
      length-take-le 1 (drop k xs) (omega (arith, h.within, length-drop k xs)) in
      let many_c : length near_right ≡ n = length-take-le n right_units le' in
      let many : length (far_left ++ near_units) ≡ k + 1 + n =
      omega (
        arith,
        length-append far_left near_units,
        length-append near_left (own_unit ++ near_right),
        length-append own_unit near_right,
        length-drop from left_units,
        many_before,
        many_a,
        many_here,
        many_c,
        le,
      ) in
      record {
        in_order = omega (arith, le, many_before);
        within = omega (arith, le', length-drop (k + 1) xs, h.within);
        near =
            subst (λ (ys : List Shown). AreNear (shown_stops xs) (shown_stops ys) at)
            (sym (middle far_left near_units far_right xs from (k + 1 + n) whole_is many_a many))
            near;
      }

-- ---- the unit that has the place

abbrev above : Place → Shown → Bool
above at x = is_above x.path at

any_above : (at : Place) (xs : List Shown) → list_any (λ u. is_above u.path at) (unit_views xs) ≡ list_any (above at) xs
any_above at [] = refl
any_above at (x ∷ xs) = ap (λ b. above at x || b) (any_above at xs)

pub above_nowhere : (xs : List Shown) (at : Place) → position (above at) xs ≡ None
    → list_any (λ u. is_above u.path at) (unit_views xs) ≡ false
above_nowhere xs at e = any_above at xs ∙ not_among (above at) xs e

pub held_nowhere : (xs : List Shown) (at : Place) → position (above at) xs ≡ None
    → list_any (same_place at) (shown_stops xs) ≡ false
held_nowhere xs at e = none_above at (unit_views xs) (above_nowhere xs at e)

none_before : {X : Type 0} (p : X → Bool) (xs : List X) (k : ℕ) → ((j : ℕ) (d : X) → j < k → p (get_or xs j d) ≡ false)
    → k ≤ length xs → list_any p (take k xs) ≡ false
none_before p [] zero h le = refl
none_before p [] (suc k) h le = refl
none_before p (x ∷ xs) zero h le = refl
none_before p (x ∷ xs) (suc k) h le =
    or_from (p x) (list_any p (take k xs)) (h 0 x (omega arith))
    (none_before p xs k (λ j d lt. h (suc j) d (omega (arith, lt))) (omega (arith, le)))

pub found_within : {X : Type 0} (p : X → Bool) (xs : List X) (r : Option ℕ) → r ≡ position p xs
    → IfSome r (λ k. k < length xs)
found_within p xs None e = tt
found_within p xs (Some k) e = number_below p xs k (sym e)

-- a list in which an element is found has one
some_element : {X : Type 0} (p : X → Bool) (xs : List X) (k : ℕ) → position p xs ≡ Some k → X
some_element p [] k e = absurd cc
some_element p (x ∷ xs) k e = x

module _ (xs : List Shown) (at : Place) (k : ℕ) (apart : AreAllApart (unit_views xs))
    (found : position (above at) xs ≡ Some k) where
  abbrev any_unit : Shown
  any_unit = some_element (above at) xs k found

  within : k < length xs
  within = (position-Some (above at) xs k any_unit found).0

  pub none_above_before : list_any (λ u. is_above u.path at) (unit_views (take k xs)) ≡ false
  none_above_before =
      any_above at (take k xs)
      ∙ none_before (above at) xs k (λ j e lt. (position-Some (above at) xs k e found).2 j lt)
      (omega (arith, within))

  pub none_above_behind : list_any (λ u. is_above u.path at) (unit_views (drop (k + 1) xs)) ≡ false
  none_above_behind =
      let x : Shown = get_or xs k any_unit in
      let split : drop k xs ≡ x ∷ drop (k + 1) xs = drop_more xs k any_unit within in
      let from_k : AreAllApart (unit_views (drop k xs)) =
      right_of (take k xs) (drop k xs)
      (subst (λ (ys : List Shown). AreAllApart (unit_views ys)) (sym (take-append-drop k xs)) apart) in
      let later : AreAllApart (unit_views (x ∷ drop (k + 1) xs)) =
      subst (λ (ys : List Shown). AreAllApart (unit_views ys)) split from_k in
      none_else at (unit_view x) (unit_views (drop (k + 1) xs)) later.0
      (position-Some (above at) xs k any_unit found).1

  no_stop_before : list_any (same_place at) (shown_stops (take k xs)) ≡ false
  no_stop_before = none_above at (unit_views (take k xs)) none_above_before

  no_stop_behind : list_any (same_place at) (shown_stops (drop (k + 1) xs)) ≡ false
  no_stop_behind = none_above at (unit_views (drop (k + 1) xs)) none_above_behind

  pub held_here : list_any (same_place at) (shown_stops (take 1 (drop k xs))) ≡ true → HasStop xs at k
  held_here e = record {
    within = within;
    not_before = no_stop_before;
    here = e;
    not_behind = no_stop_behind;
  }

  pub held_not_here : list_any (same_place at) (shown_stops (take 1 (drop k xs))) ≡ false
      → list_any (same_place at) (shown_stops xs) ≡ false
  held_not_here e =
      let whole : take k xs ++ (take 1 (drop k xs) ++ drop (k + 1) xs) ≡ xs =
      ap (λ ys. take k xs ++ ys) (ap (λ ys. take 1 (drop k xs) ++ ys) (sym (drop-drop 1 k xs))
      ∙ take-append-drop 1 (drop k xs)) ∙ take-append-drop k xs in
      let parted : AreAllApart (unit_views (take k xs ++ (take 1 (drop k xs) ++ drop (k + 1) xs))) =
      subst (λ (ys : List Shown). AreAllApart (unit_views ys)) (sym whole) apart in
      let all_is : shown_stops xs
      ≡ shown_stops (take k xs) ++ (shown_stops (take 1 (drop k xs)) ++ shown_stops (drop (k + 1) xs)) =
      ap shown_stops (sym whole)
      ∙ shown_in_parts (take k xs) (take 1 (drop k xs) ++ drop (k + 1) xs) parted
      ∙ ap (λ ps. shown_stops (take k xs) ++ ps)
      (shown_in_parts (take 1 (drop k xs)) (drop (k + 1) xs)
      (right_of (take k xs) (take 1 (drop k xs) ++ drop (k + 1) xs) parted)) in
      ap (list_any (same_place at)) all_is
      ∙ none_in_both (same_place at) (shown_stops (take k xs))
      (shown_stops (take 1 (drop k xs)) ++ shown_stops (drop (k + 1) xs)) no_stop_before
      (none_in_both (same_place at) (shown_stops (take 1 (drop k xs))) (shown_stops (drop (k + 1) xs)) e
      no_stop_behind)
