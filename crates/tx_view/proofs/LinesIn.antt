-- The lines of a unit above and below one of a stretch, and the place at a column of it.
use Rattle.std.proofs.Common.{◌≡◌, ℕ, zero, suc, ◌+◌, ◌<◌, List, [], ◌∷◌, ◌++◌, length, take, drop, refl, sym, ap, ap₂}
use Rattle.std.proofs.Common.{◌∙◌, subst, get_or, arith}
use Rattle.std.specs.Prelude.{Some, slice_get}
use Rattle.std.specs.List.{flat_map}
use Rattle.std.specs.Option.{option_map, option_map_or}
use Rattle.std.proofs.Math.Seq.{take-append-add, drop-append-add}
use Rattle.std.proofs.lemmas.List.{take-append-drop, take-append-le, drop-append-le, drop_more}
use Rattle.std.proofs.lemmas.List.{length-map}
use Rattle.std.proofs.lemmas.List.Concat.{flat_map-append}
use Rattle.std.proofs.lemmas.Option.{slice_get_within, slice_get-get_or, get_or_from_slice_get}
use Rattle.tx_tree.specs.declared.places.Place.{Place}
use Rattle.tx_layout.specs.declared.layout.Line.{Line}
use Rattle.tx_part_layout.specs.LinesUnder.{line_under}
use Rattle.tx_unit_layout.specs.Rows.{IsLineOf}
use Rattle.tx_unit_layout.specs.Stretches.{WideStretch, stretches, stretch_lines}
use Rattle.tx_unit_layout.specs.Views.{unit_view}
use Rattle.tx_unit_layout.specs.declared.shown.Shown.{Shown}
use Rattle.tx_unit_layout.proofs.Stretching.{unit_lines}
use Rattle.tx_view_form.specs.Positions.{place_on}
use Rattle.tx_view.specs.InUnits.{lines_above, lines_below}
use Rattle.tx_view.specs.Marks.{spot_place}

module _ {A B : Type 0} (f : A → List B) (ss : List A) (k i : ℕ) (s : A) (at : slice_get ss k ≡ Some s)
    (within : i < length (f s)) where
  abbrev front : List B
  front = flat_map f (take k ss)

  abbrev back : List B
  back = flat_map f (drop (k + 1) ss)

  split : flat_map f ss ≡ front ++ (f s ++ back)
  split =
      ap (flat_map f) (sym (take-append-drop k ss)) ∙ flat_map-append f (take k ss) (drop k ss)
      ∙ ap (λ xs. front ++ flat_map f xs)
      (drop_more ss k s (slice_get_within ss k s at)
      ∙ ap (λ y. y ∷ drop (k + 1) ss) (get_or_from_slice_get ss k s s at))

  pub above_in : take (length front + i) (flat_map f ss) ≡ front ++ take i (f s)
  above_in =
      ap (take (length front + i)) split ∙ take-append-add front (f s ++ back) i
      ∙ ap (λ ys. front ++ ys) (take-append-le i (f s) back (omega (arith, within)))

  pub below_in : drop (length front + (i + 1)) (flat_map f ss) ≡ drop (i + 1) (f s) ++ back
  below_in =
      ap (drop (length front + (i + 1))) split ∙ drop-append-add front (f s ++ back) (i + 1)
      ∙ drop-append-le (i + 1) (f s) back (omega (arith, within))

-- an element that is there
there_is : {X : Type 0} (xs : List X) (i : ℕ) → i < length xs → (x : X) × (slice_get xs i ≡ Some x)
there_is [] i lt = absurd (omega (arith, lt))
there_is (x ∷ xs) zero lt = (x, refl)
there_is (x ∷ xs) (suc i) lt = there_is xs i (omega (arith, lt))

-- ---- a line of a unit

module _ (x : Shown) (row : ℕ) (r : ℕ × ℕ) (h : IsLineOf x row r) where
  many : r.1 < length (stretch_lines h.stretch)
  many = omega (arith, h.within, length-map h.stretch.lines (line_under h.stretch.part))

  above_line : take row (unit_view x).lines ≡ lines_above x r.0 r.1
  above_line =
      ap₂ take h.number (unit_lines x) ∙ above_in stretch_lines (stretches x) r.0 r.1 h.stretch h.there many
      ∙ ap (λ o. flat_map stretch_lines (take r.0 (stretches x)) ++ take r.1 (option_map_or stretch_lines o []))
      (sym h.there)

  below_line : drop (row + 1) (unit_view x).lines ≡ lines_below x r.0 r.1
  below_line =
      ap₂ drop (omega (arith, h.number)) (unit_lines x)
      ∙ below_in stretch_lines (stretches x) r.0 r.1 h.stretch h.there many
      ∙ ap (λ o. drop (r.1 + 1) (option_map_or stretch_lines o [])
      ++ flat_map stretch_lines (drop (r.0 + 1) (stretches x))) (sym h.there)

  -- the place at a column of the line
  pub place_told : (path : List ℕ) (column : ℕ) (p : Place)
      → ((s : WideStretch) (line : Line) → slice_get (stretches x) r.0 ≡ Some s → slice_get s.lines r.1 ≡ Some line
      → p ≡ spot_place (place_on path (lines_above x r.0 r.1) (line_under s.part line) (lines_below x r.0 r.1) column))
      → option_map (λ line. spot_place (place_on path (take row (unit_view x).lines) line
      (drop (row + 1) (unit_view x).lines) column)) (slice_get (unit_view x).lines row) ≡ Some p
  place_told path column p told =
      let line = there_is h.stretch.lines r.1 h.within in
      ap₂ (λ above below. option_map (λ l. spot_place (place_on path above l below column))
      (slice_get (unit_view x).lines row)) above_line below_line
      ∙ ap (option_map (λ l. spot_place (place_on path (lines_above x r.0 r.1) l (lines_below x r.0 r.1) column)))
      (h.is ∙ ap (option_map (line_under h.stretch.part)) line.1)
      ∙ ap Some (sym (told h.stretch line.0 h.there line.1))

  -- the line itself
  pub line_there : (w : WideStretch) (d : Line) → slice_get (stretches x) r.0 ≡ Some w
      → slice_get (unit_view x).lines row ≡ Some (line_under w.part (get_or w.lines r.1 d))
  line_there w d at =
      let same : h.stretch ≡ w = cc in
      h.is ∙ ap (option_map (line_under h.stretch.part)) (slice_get-get_or h.stretch.lines r.1 d h.within)
      ∙ ap (λ (s : WideStretch). Some (line_under s.part (get_or s.lines r.1 d))) same

  pub line_within : (w : WideStretch) → slice_get (stretches x) r.0 ≡ Some w → r.1 < length w.lines
  line_within w at =
      let same : h.stretch ≡ w = cc in
      subst (λ (s : WideStretch). r.1 < length s.lines) same h.within
