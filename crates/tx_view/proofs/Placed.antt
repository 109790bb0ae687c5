-- A unit that has a path has a stop.
use Rattle.std.proofs.Common.{◌≡◌, ℕ, ◌+◌, ◌<◌, true, List, [], ◌∷◌, ◌++◌, drop, take, get_or, Option, Some}
use Rattle.std.proofs.Common.{None}
use Rattle.std.proofs.Common.{length, refl, sym, ap, ◌∙◌, is_some, append-nil}
use Rattle.std.specs.List.{flat_map}
use Rattle.std.specs.Option.{option_map_or}
use Rattle.std.proofs.lemmas.List.{drop_more, take_more, map-append}
use Rattle.std.proofs.lemmas.List.Concat.{flat_map-append}
use Rattle.tx_tree.specs.declared.places.Place.{Place}
use Rattle.tx_view_form.specs.Views.{UnitView}
use Rattle.tx_view_form.specs.Positions.{Mark, marks_of}
use Rattle.tx_view_form.specs.Stops.{stops_by, unit_stops, each_once}
use Rattle.tx_tree.specs.SamePlaces.{same_place}
use Rattle.tx_view.specs.Near.{shown_stops}
use Rattle.tx_view.specs.Units.{unit_views}
use Rattle.tx_unit_layout.specs.Views.{unit_view}
use Rattle.tx_unit_layout.specs.declared.shown.Shown.{Shown}
use Rattle.tx_view.proofs.Parts.{once_some}

some_by : (path : List ℕ) (ms : List Mark) → stops_by path ms ≡ [] → ⊥
some_by path [] e = cc
some_by path (m ∷ ms) e = cc

has_stops : (x : UnitView) → is_some x.path ≡ true → unit_stops x ≡ [] → ⊥
has_stops x e f = by x.path e f
  where
    by : (o : Option (List ℕ)) → is_some o ≡ true
        → option_map_or (λ path. stops_by path (marks_of (flat_map (λ p. p.items) x.paragraphs))) o [] ≡ [] → ⊥
    by None g h = cc
    by (Some path) g h = some_by path (marks_of (flat_map (λ p. p.items) x.paragraphs)) h

none_put : (ps : List Place) → each_once ps ≡ [] → ps ≡ []
none_put [] e = refl
none_put (p ∷ ps) e = absurd (once_some same_place p ps e)

none_left : {X : Type 0} (xs ys : List X) → xs ++ ys ≡ [] → xs ≡ []
none_left [] ys e = refl
none_left (x ∷ xs) ys e = absurd cc

none_right : {X : Type 0} (xs ys : List X) → xs ++ ys ≡ [] → ys ≡ []
none_right [] ys e = e
none_right (x ∷ xs) ys e = absurd cc

pub some_from : (xs : List Shown) (k : ℕ) (x : Shown) → k < length xs → x ≡ get_or xs k x → is_some x.path ≡ true
    → shown_stops (drop k xs) ≡ [] → ⊥
some_from xs k x lt is e f =
    let parts : drop k xs ≡ x ∷ drop (k + 1) xs = drop_more xs k x lt ∙ ap (λ y. y ∷ drop (k + 1) xs) (sym is) in
    has_stops (unit_view x) e
    (none_left (unit_stops (unit_view x)) (flat_map unit_stops (unit_views (drop (k + 1) xs)))
    (none_put (flat_map unit_stops (unit_views (x ∷ drop (k + 1) xs))) (ap shown_stops (sym parts) ∙ f)))

pub some_up_to : (xs : List Shown) (k : ℕ) (x : Shown) → k < length xs → x ≡ get_or xs k x → is_some x.path ≡ true
    → shown_stops (take (k + 1) xs) ≡ [] → ⊥
some_up_to xs k x lt is e f =
    let parts : take (k + 1) xs ≡ take k xs ++ x ∷ [] =
    take_more xs k x lt ∙ ap (λ y. take k xs ++ y ∷ []) (sym is) in
    let stops : flat_map unit_stops (unit_views (take k xs ++ x ∷ []))
    ≡ flat_map unit_stops (unit_views (take k xs)) ++ unit_stops (unit_view x) =
    ap (flat_map unit_stops) (map-append unit_view (take k xs) (x ∷ []))
    ∙ flat_map-append unit_stops (unit_views (take k xs)) (unit_view x ∷ [])
    ∙ ap (λ ps. flat_map unit_stops (unit_views (take k xs)) ++ ps) (append-nil (unit_stops (unit_view x))) in
    has_stops (unit_view x) e
    (none_right (flat_map unit_stops (unit_views (take k xs))) (unit_stops (unit_view x))
    (sym stops ∙ none_put (flat_map unit_stops (unit_views (take k xs ++ x ∷ []))) (ap shown_stops (sym parts) ∙ f)))
