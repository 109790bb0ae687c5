-- A part of the stops of units that decides what is beside a place.
use Rattle.std.proofs.Common.{◌≡◌, ℕ, zero, suc, ◌+◌, ◌-◌, ◌<◌, ◌≤◌, Bool, true, false, cond, ◌==◌, List, [], ◌∷◌}
use Rattle.std.proofs.Common.{◌++◌, length, take, drop, get_or, Option, Some, None, refl, sym, ap, ◌∙◌, arith}
use Rattle.std.proofs.Common.{append_assoc, append-nil, take-append-drop, length-append}
use Rattle.std.specs.List.{list_any}
use Rattle.std.specs.Option.{option_map}
use Rattle.std.specs.Prelude.{if◌then◌else◌}
use Rattle.std.specs.Str.{bytes_eq}
use Rattle.std.proofs.lemmas.Bool.{both_ways, and_parts, or_from}
use Rattle.std.proofs.lemmas.Bool.Decides.{Decides-eqb}
use Rattle.std.proofs.lemmas.List.{take_more, drop_all, take_all}
use Rattle.std.proofs.lemmas.List.Folds.{list_any_at, list_any_more}
use Rattle.std.proofs.lemmas.List.Sums.{fold-append}
use Rattle.std.proofs.lemmas.Slice.Eq.{bytes_eq-Decides}
use Rattle.tx_tree.specs.declared.places.Place.{Place}
use Rattle.tx_view_form.specs.Stops.{put_place, each_once}
use Rattle.tx_tree.specs.SamePlaces.{same_place, stop_number}
use Rattle.tx_origin.specs.RelativePlaces.{BasedPlace}
use Rattle.tx_view.specs.Marks.{spot_place, spot_places}
use Rattle.tx_view.specs.Near.{AreNear, HasFirst, IsFirst, HasNeighbours}
use Rattle.tx_view.proofs.Parts.{is_among, none_in_parts, number_in_middle, folded_more, once_any, once_some}
use Rattle.tx_view.proofs.Parts.{not_among}
use Rattle.tx_view.proofs.Ranges.{near_none}

-- ---- places that are the same

pub same_is : (p q : Place) → same_place p q ≡ true → p ≡ q
same_is p q e =
    let parts = and_parts (bytes_eq p.path q.path) (p.offset == q.offset) e in
    let paths : p.path ≡ q.path = (bytes_eq-Decides p.path q.path).0 parts.0 in
    let offsets : p.offset ≡ q.offset = (Decides-eqb p.offset q.offset).0 parts.1 in
    λ i. record { path = paths i; offset = offsets i }

-- ---- one spot more

put_some : (b : Bool) (before now : List Place) (q : Place)
    → cond b (before ++ now) (before ++ now ++ q ∷ []) ≡ before ++ cond b now (now ++ q ∷ [])
put_some true before now q = refl
put_some false before now q = append_assoc before now (q ∷ [])

pub between_next : (raw : List Place) (from i : ℕ) (q : Place) (now new : List Place) → i < length raw
    → q ≡ get_or raw i q → each_once (take i raw) ≡ each_once (take from raw) ++ now
    → new ≡ (if list_any (same_place q) (take i raw) then now else now ++ q ∷ [])
    → each_once (take (i + 1) raw) ≡ each_once (take from raw) ++ new
between_next raw from i q now new lt is so more =
    let before : List Place = each_once (take from raw) in
    ap each_once (take_more raw i q lt ∙ ap (λ y. take i raw ++ y ∷ []) (sym is))
    ∙ fold-append put_place [] (take i raw) (q ∷ [])
    ∙ ap (λ b. cond b (each_once (take i raw)) (each_once (take i raw) ++ q ∷ []))
    (once_any same_place same_is q (take i raw))
    ∙ ap (λ ps. cond (list_any (same_place q) (take i raw)) ps (ps ++ q ∷ [])) so
    ∙ put_some (list_any (same_place q) (take i raw)) before now q
    ∙ ap (λ ps. before ++ ps) (sym more)

-- ---- the part

-- what comes after so many stops
rest_of : (raw : List Place) (to : ℕ) (front : List Place) → each_once (take to raw) ≡ front
    → (ys : List Place) × (each_once raw ≡ front ++ ys) × (length raw ≤ to → ys ≡ [])
rest_of raw to front e =
    let more = folded_more same_place (each_once (take to raw)) (drop to raw) in (
      more.0,
      ap each_once (sym (take-append-drop to raw)) ∙ fold-append put_place [] (take to raw) (drop to raw) ∙ more.1
          ∙ ap (λ ps. ps ++ more.0) e,
      λ le. more.2 (drop_all to raw le),
    )

taken : {X : Type 0} (n k : ℕ) (xs : List X) → n ≤ k → take k xs ≡ take n xs ++ take (k - n) (drop n xs)
taken zero k xs le = ap (λ m. take m xs) (omega arith)
taken (suc n) zero xs le = absurd (omega (arith, le))
taken (suc n) (suc k) [] le = sym (take_all (suc k - suc n) [] (omega arith))
taken (suc n) (suc k) (x ∷ xs) le =
    ap (λ ys. x ∷ ys) (taken n k xs (omega (arith, le)) ∙ ap (λ m. take n xs ++ take m (drop n xs)) (omega arith))

pub near_around : (raw : List Place) (at : Place) (k from to : ℕ) (near : List Place) (from_start to_end : Bool)
    → IsFirst raw at (Some k) → from ≤ k → each_once (take to raw) ≡ each_once (take from raw) ++ near
    → HasNeighbours near at from_start to_end → (from_start ≡ true → from ≡ 0) → (to_end ≡ true → length raw ≤ to)
    → AreNear (each_once raw) near at
near_around raw at k from to near from_start to_end first le is inside start end =
    let before : List Place = each_once (take from raw) in
    let rest = rest_of raw to (before ++ near) is in
    let found : list_any (same_place at) near ≡ true = is_among (same_place at) near inside.number inside.there in
    let none : list_any (same_place at) before ≡ false =
    once_any same_place same_is at (take from raw) ∙ fewer k le first.not_before in
    let lost : stop_number near at ≡ None → ⊥ =
    λ g. both_ways (list_any (same_place at) near) (not_among (same_place at) near g) found in
    record {
      before = before;
      behind = rest.0;
      parts = rest.1;
      found = ap (λ ps. stop_number ps at) rest.1 ∙ number_in_middle (same_place at) before near rest.0 none found;
      from_start = λ g. absurd (lost g);
      not_empty = λ g. absurd (lost g);
      first = λ g.
          ap (λ n. each_once (take n raw)) (start (inside.first (number_of inside.number 0 inside.there g)));
      last = λ j g h.
          rest.2 (end (inside.last (ap (λ n. n + 1) (number_of inside.number j inside.there g) ∙ h)));
    }
  where
    number_of : (n m : ℕ) → stop_number near at ≡ Some n → stop_number near at ≡ Some m → n ≡ m
    number_of n m e f = let both : Some n ≡ Some m = sym e ∙ f in cc

    fewer : (k : ℕ) → from ≤ k → list_any (same_place at) (take k raw) ≡ false
        → list_any (same_place at) (take from raw) ≡ false
    fewer k le e =
        (none_in_parts (same_place at) (take from raw) (take (k - from) (drop from raw))
        (ap (list_any (same_place at)) (sym (taken from k raw le)) ∙ e)).0

-- the first stop, where the place is none
pub near_first : (ps raw : List Place) (at : Place) (to : ℕ) (near : List Place) → ps ≡ raw
    → list_any (same_place at) (each_once raw) ≡ false → (1 ≤ length ps → 1 ≤ to)
    → each_once (take to ps) ≡ each_once (take 0 ps) ++ near → AreNear (each_once raw) near at
near_first ps raw at to near e none some is =
    let rest = rest_of ps to near is in
    near_none at near rest.0 (each_once raw) (ap each_once (sym e) ∙ rest.1) none
    (λ empty. rest.2 (within ps to some (is ∙ empty)))
  where
    within : (ps : List Place) (n : ℕ) → (1 ≤ length ps → 1 ≤ n) → each_once (take n ps) ≡ [] → length ps ≤ n
    within [] n h e = omega arith
    within (p ∷ ps) zero h e = absurd (omega (arith, h (omega arith)))
    within (p ∷ ps) (suc n) h e = absurd (once_some same_place p (take n ps) e)

-- ---- a part of a part

pub near_then : (all mid near : List Place) (at : Place) → AreNear all mid at → AreNear mid near at
    → AreNear all near at
near_then all mid near at h k = record {
  before = h.before ++ k.before;
  behind = k.behind ++ h.behind;
  parts =
      h.parts ∙ ap (λ ps. h.before ++ ps ++ h.behind) k.parts ∙ parted h.before k.before near k.behind h.behind;
  found = h.found ∙ ap (option_map (λ n. length h.before + n)) k.found ∙ moved (stop_number near at);
  from_start = λ g.
      ap (λ ps. ps ++ k.before) (h.from_start (lost g)) ∙ k.from_start g;
  not_empty = λ g e.
      let none = k.not_empty g e in
      ap (λ ps. ps ++ h.behind) none
      ∙ h.not_empty (lost g)
      (k.parts ∙ ap (λ ps. ps ++ near ++ k.behind) (k.from_start g) ∙ ap (λ ps. ps ++ k.behind) e ∙ none);
  first = λ g.
      let none = k.first g in
      ap (λ ps. h.before ++ ps) none ∙ append-nil h.before
      ∙ h.first (k.found ∙ ap (option_map (λ n. length k.before + n)) g ∙ ap (λ ps. Some (length ps + 0)) none);
  last = λ n g e.
      let none = k.last n g e in
      ap (λ ps. ps ++ h.behind) none
      ∙ h.last (length k.before + n) (k.found ∙ ap (option_map (λ m. length k.before + m)) g)
      (omega (arith, e, many none));
}
  where
    lost : stop_number near at ≡ None → stop_number mid at ≡ None
    lost g = k.found ∙ ap (option_map (λ n. length k.before + n)) g

    moved : (o : Option ℕ) → option_map (λ n. length h.before + n) (option_map (λ n. length k.before + n) o)
        ≡ option_map (λ n. length (h.before ++ k.before) + n) o
    moved None = refl
    moved (Some n) = ap Some (omega (arith, length-append h.before k.before))

    parted : (a b n c d : List Place) → a ++ (b ++ n ++ c) ++ d ≡ (a ++ b) ++ n ++ (c ++ d)
    parted a b n c d =
        ap (λ ps. ps ++ d) (sym (append_assoc a (b ++ n) c) ∙ ap (λ ps. ps ++ c) (sym (append_assoc a b n)))
        ∙ append_assoc (a ++ b ++ n) c d

    many : k.behind ≡ [] → length mid ≡ length k.before + length near
    many none =
        ap length (k.parts ∙ ap (λ ps. k.before ++ near ++ ps) none ∙ append-nil (k.before ++ near))
        ∙ length-append k.before near

-- ---- spots and their places

pub many_places : (ss : List BasedPlace) → length (spot_places ss) ≡ length ss
many_places [] = refl
many_places (s ∷ ss) = ap suc (many_places ss)

pub places_taken : (i : ℕ) (ss : List BasedPlace) → spot_places (take i ss) ≡ take i (spot_places ss)
places_taken zero ss = refl
places_taken (suc i) [] = refl
places_taken (suc i) (s ∷ ss) = ap (λ ps. spot_place s ∷ ps) (places_taken i ss)

get_place : (ss : List BasedPlace) (i : ℕ) (s : BasedPlace)
    → get_or (spot_places ss) i (spot_place s) ≡ spot_place (get_or ss i s)
get_place [] i s = refl
get_place (r ∷ ss) zero s = refl
get_place (r ∷ ss) (suc i) s = get_place ss i s

pub place_there : (ss : List BasedPlace) (i : ℕ) (s : BasedPlace) → s ≡ get_or ss i s
    → spot_place s ≡ get_or (spot_places ss) i (spot_place s)
place_there ss i s is = ap spot_place is ∙ sym (get_place ss i s)

pub found_first : (ss : List BasedPlace) (at : Place) (i : ℕ) (s : BasedPlace) → i < length ss → s ≡ get_or ss i s
    → list_any (same_place at) (take i (spot_places ss)) ≡ false → same_place at (spot_place s) ≡ true
    → HasFirst (spot_places ss) at i
found_first ss at i s lt is none here = record {
  within = omega (arith, lt, many_places ss);
  not_before = none;
  here =
      list_any_at (same_place at) (spot_places ss) i (spot_place s) (omega (arith, lt, many_places ss))
      (ap (same_place at) (sym (place_there ss i s is)) ∙ here);
}

pub none_next : (ss : List BasedPlace) (at : Place) (i : ℕ) (s : BasedPlace) → i < length ss → s ≡ get_or ss i s
    → list_any (same_place at) (take i (spot_places ss)) ≡ false → same_place at (spot_place s) ≡ false
    → list_any (same_place at) (take (i + 1) (spot_places ss)) ≡ false
none_next ss at i s lt is none here =
    list_any_more (same_place at) (spot_places ss) i (spot_place s) (omega (arith, lt, many_places ss))
    ∙ or_from (list_any (same_place at) (take i (spot_places ss)))
    (same_place at (get_or (spot_places ss) i (spot_place s))) none
    (ap (same_place at) (sym (place_there ss i s is)) ∙ here)

pub spot_next : (ss before : List BasedPlace) (from i : ℕ) (s : BasedPlace) (now new : List Place) → i < length ss
    → s ≡ get_or ss i s → before ≡ take i ss
    → each_once (take i (spot_places ss)) ≡ each_once (take from (spot_places ss)) ++ now
    → new ≡ (if list_any (same_place (spot_place s)) (spot_places before) then now else now ++ spot_place s ∷ [])
    → each_once (take (i + 1) (spot_places ss)) ≡ each_once (take from (spot_places ss)) ++ new
spot_next ss before from i s now new lt is taken so more =
    between_next (spot_places ss) from i (spot_place s) now new (omega (arith, lt, many_places ss))
    (place_there ss i s is) so
    (more ∙ ap (λ ps. if list_any (same_place (spot_place s)) ps then now else now ++ spot_place s ∷ [])
    (ap spot_places taken ∙ places_taken i ss))

-- ---- whether there is such a stop

pub no_stop : (ps raw : List Place) (at : Place) (o : Option ℕ) → ps ≡ raw → IsFirst ps at o → o ≡ None
    → list_any (same_place at) (each_once raw) ≡ false
no_stop ps raw at None e first is = once_any same_place same_is at raw ∙ ap (list_any (same_place at)) (sym e) ∙ first
no_stop ps raw at (Some k) e first is = absurd cc

pub some_stop : (ps raw : List Place) (at : Place) (o : Option ℕ) (k : ℕ) → ps ≡ raw → IsFirst ps at o → o ≡ Some k
    → list_any (same_place at) (each_once raw) ≡ true
some_stop ps raw at None k e first is = absurd cc
some_stop ps raw at (Some n) k e first is =
    once_any same_place same_is at raw ∙ ap (list_any (same_place at)) (sym e) ∙ first.here
