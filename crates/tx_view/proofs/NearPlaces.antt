-- The nearest place, by the last mark before and the first after.
use Rattle.std.proofs.Common.{◌≡◌, ℕ, ◌+◌, ◌-◌, List, [], ◌∷◌, ◌++◌, length, take, drop, map, refl, sym, ap}
use Rattle.std.proofs.Common.{◌∙◌}
use Rattle.std.proofs.lemmas.List.{take_rest, take-map, drop-map}
use Rattle.std.specs.Prelude.{Option, Some, None, slice_get}
use Rattle.std.specs.List.{flat_map}
use Rattle.std.specs.Option.{option_map_or}
use Rattle.tx_origin.specs.RelativePlaces.{BasedPlace}
use Rattle.tx_items.specs.declared.drawing.Item.{Item}
use Rattle.tx_layout.specs.declared.layout.Line.{Line}
use Rattle.tx_part_items.specs.ItemsUnder.{item_under}
use Rattle.tx_part_layout.specs.LinesUnder.{line_under}
use Rattle.tx_unit_layout.specs.Stretches.{WideStretch, stretches, stretch_lines}
use Rattle.tx_unit_layout.specs.declared.shown.Shown.{Shown}
use Rattle.tx_view_form.specs.Positions.{Mark, marks_of, items_on, nearest, first_or, start_of, stop_of}
use Rattle.tx_view_form.specs.Positions.{unit_place}
use Rattle.tx_view.specs.InUnits.{lines_above, lines_below}
use Rattle.tx_view.specs.Marks.{first_of, last_of}
use Rattle.tx_view.proofs.Finding.{or_else, first_marks, last_marks, first_append, last_two}
use Rattle.tx_view.proofs.Finding.{marks_under, marks_on, marks_in, lines_join}

abbrev stop_or : List ℕ → Option Mark → BasedPlace → BasedPlace
stop_or path (Some m) other = stop_of path m
stop_or path None other = other

abbrev start_or_unit : List ℕ → Option Mark → BasedPlace
start_or_unit path (Some m) = start_of path m
start_or_unit path None = unit_place path

first_or_is : (ms : List Mark) (path : List ℕ) → first_or ms path ≡ start_or_unit path (first_of ms)
first_or_is [] path = refl
first_or_is (m ∷ ms) path = refl

nearest_is : (path : List ℕ) (ms after : List Mark)
    → nearest path ms after ≡ stop_or path (last_of ms) (first_or after path)
nearest_is path [] after = refl
nearest_is path (m ∷ []) after = refl
nearest_is path (m ∷ (n ∷ ns)) after = nearest_is path (n ∷ ns) after

-- what is found above, before, after and below on the lines
abbrev found : List ℕ → Option Mark → Option Mark → Option Mark → Option Mark → BasedPlace
found path own above rest below = stop_or path (or_else own above) (start_or_unit path (or_else rest below))

abbrev near : List ℕ → List Line → List Item → List Item → List Line → BasedPlace
near path above own rest below = nearest path (marks_of (items_on above ++ own)) (marks_of (rest ++ items_on below))

near_parts : (path : List ℕ) (above below : List Line) (own rest : List Item)
    → near path above own rest below ≡ found path (last_of (marks_of own)) (last_of (marks_of (items_on above)))
    (first_of (marks_of rest)) (first_of (marks_of (items_on below)))
near_parts path above below own rest =
    nearest_is path (marks_of (items_on above ++ own)) (marks_of (rest ++ items_on below))
    ∙ ap (λ o. stop_or path o (first_or (marks_of (rest ++ items_on below)) path)) (last_marks (items_on above) own)
    ∙ ap (λ p. stop_or path (or_else (last_of (marks_of own)) (last_of (marks_of (items_on above)))) p)
    (first_or_is (marks_of (rest ++ items_on below)) path
    ∙ ap (start_or_unit path) (first_marks rest (items_on below)))

pub near_own : (path : List ℕ) (above below : List Line) (own rest : List Item) (m : Mark)
    → last_of (marks_of own) ≡ Some m
    → near path above own rest below ≡ stop_of path m
near_own path above below own rest m e =
    near_parts path above below own rest
    ∙ ap (λ o. found path o (last_of (marks_of (items_on above))) (first_of (marks_of rest))
    (first_of (marks_of (items_on below)))) e

pub near_above : (path : List ℕ) (above below : List Line) (own rest : List Item) (m : Mark)
    → last_of (marks_of own) ≡ None
    → last_of (marks_of (items_on above)) ≡ Some m → near path above own rest below ≡ stop_of path m
near_above path above below own rest m e f =
    near_parts path above below own rest
    ∙ ap (λ o. found path o (last_of (marks_of (items_on above))) (first_of (marks_of rest))
    (first_of (marks_of (items_on below)))) e
    ∙ ap (λ o. found path None o (first_of (marks_of rest)) (first_of (marks_of (items_on below)))) f

nothing_before : (path : List ℕ) (above below : List Line) (own rest : List Item) → last_of (marks_of own) ≡ None
    → last_of (marks_of (items_on above)) ≡ None
    → near path above own rest below ≡ found path None None (first_of (marks_of rest))
    (first_of (marks_of (items_on below)))
nothing_before path above below own rest e f =
    near_parts path above below own rest
    ∙ ap (λ o. found path o (last_of (marks_of (items_on above))) (first_of (marks_of rest))
    (first_of (marks_of (items_on below)))) e
    ∙ ap (λ o. found path None o (first_of (marks_of rest)) (first_of (marks_of (items_on below)))) f

pub near_rest : (path : List ℕ) (above below : List Line) (own rest : List Item) (m : Mark)
    → last_of (marks_of own) ≡ None
    → last_of (marks_of (items_on above)) ≡ None → first_of (marks_of rest) ≡ Some m
    → near path above own rest below ≡ start_of path m
near_rest path above below own rest m e f g =
    nothing_before path above below own rest e f
    ∙ ap (λ o. found path None None o (first_of (marks_of (items_on below)))) g

pub near_below : (path : List ℕ) (above below : List Line) (own rest : List Item) (m : Mark)
    → last_of (marks_of own) ≡ None
    → last_of (marks_of (items_on above)) ≡ None → first_of (marks_of rest) ≡ None
    → first_of (marks_of (items_on below)) ≡ Some m
    → near path above own rest below ≡ start_of path m
near_below path above below own rest m e f g h =
    nothing_before path above below own rest e f
    ∙ ap (λ o. found path None None o (first_of (marks_of (items_on below)))) g
    ∙ ap (λ o. found path None None None o) h

pub near_unit : (path : List ℕ) (above below : List Line) (own rest : List Item) → last_of (marks_of own) ≡ None
    → last_of (marks_of (items_on above)) ≡ None → first_of (marks_of rest) ≡ None
    → first_of (marks_of (items_on below)) ≡ None
    → near path above own rest below ≡ unit_place path
near_unit path above below own rest e f g h =
    nothing_before path above below own rest e f
    ∙ ap (λ o. found path None None o (first_of (marks_of (items_on below)))) g
    ∙ ap (λ o. found path None None None o) h

-- ---- lines above and below a line of a stretch

pub last_above_is : (x : Shown) (k i : ℕ) (s : WideStretch) (o : Option Mark) → slice_get (stretches x) k ≡ Some s
    → o ≡ last_of (marks_on s.part (take i s.lines))
    → last_of (marks_of (items_on (lines_above x k i))) ≡ or_else o (last_of (marks_in (take k (stretches x))))
last_above_is x k i s o at is =
    let front : List Line = flat_map stretch_lines (take k (stretches x)) in
    ap (λ q. last_of (marks_of (items_on (front ++ take i (option_map_or stretch_lines q []))))) at
    ∙ ap (λ ls. last_of (marks_of (items_on (front ++ ls)))) (take-map (line_under s.part) i s.lines)
    ∙ ap last_of (lines_join front (map (line_under s.part) (take i s.lines)))
    ∙ last_two (marks_of (items_on front)) (marks_on s.part (take i s.lines))
    ∙ ap (λ q. or_else q (last_of (marks_in (take k (stretches x))))) (sym is)

pub first_below_is : (x : Shown) (k i : ℕ) (s : WideStretch) (o : Option Mark) → slice_get (stretches x) k ≡ Some s
    → o ≡ first_of (marks_on s.part (take (length s.lines - (i + 1)) (drop (i + 1) s.lines)))
    → first_of (marks_of (items_on (lines_below x k i)))
    ≡ or_else o (first_of (marks_in (drop (k + 1) (stretches x))))
first_below_is x k i s o at is =
    let back : List Line = flat_map stretch_lines (drop (k + 1) (stretches x)) in
    ap (λ q. first_of (marks_of (items_on (drop (i + 1) (option_map_or stretch_lines q []) ++ back)))) at
    ∙ ap (λ ls. first_of (marks_of (items_on (ls ++ back)))) (drop-map (line_under s.part) (i + 1) s.lines)
    ∙ ap first_of (lines_join (map (line_under s.part) (drop (i + 1) s.lines)) back)
    ∙ first_append (marks_on s.part (drop (i + 1) s.lines)) (marks_of (items_on back))
    ∙ ap (λ q. or_else q (first_of (marks_in (drop (k + 1) (stretches x)))))
    (ap (λ ls. first_of (marks_on s.part ls)) (sym (take_rest s.lines (i + 1))) ∙ sym is)

-- ---- what was found in parts of a slice

pub own_is : (b : List ℕ) (xs : List Item) (n : ℕ) (r o : Option Mark) → r ≡ last_of (marks_under b (take n xs)) → r ≡ o
    → last_of (marks_of (take n (map (item_under b) xs))) ≡ o
own_is b xs n r o h g = ap (λ zs. last_of (marks_of zs)) (take-map (item_under b) n xs) ∙ sym h ∙ g

pub rest_is : (b : List ℕ) (xs : List Item) (n : ℕ) (r o : Option Mark)
    → r ≡ first_of (marks_under b (take (length xs - n) (drop n xs))) → r ≡ o
    → first_of (marks_of (drop n (map (item_under b) xs))) ≡ o
rest_is b xs n r o h g =
    ap (λ zs. first_of (marks_of zs)) (drop-map (item_under b) n xs)
    ∙ ap (λ zs. first_of (marks_under b zs)) (sym (take_rest xs n)) ∙ sym h ∙ g

pub unit_made : (path : List ℕ) (p : BasedPlace) → p.base ≡ path → p.origin ≡ None → p.offset ≡ 0 → p ≡ unit_place path
unit_made path p e f g = λ i. record { base = e i; origin = f i; offset = g i }
