-- Spaces that no line has room for may be counted as 501.
use Rattle.std.proofs.Common.{◌≡◌, ℕ, zero, suc, ◌+◌, ◌-◌, ◌<◌, ◌≤◌, List, [], ◌∷◌, map, take, drop}
use Rattle.std.proofs.Common.{refl, sym, ap, ap₂, ◌∙◌, subst, arith, Bool}
use Rattle.std.specs.Prelude.{slice_range, sum_by, All}
use Rattle.std.proofs.lemmas.List.{length-map, take-map}
use Rattle.std.proofs.lemmas.List.Sums.{sum_by-cons}
use Rattle.std.proofs.lemmas.List.Elements.{All-nil, All-cons, All-head, All-tail}
use Rattle.tx_lines.specs.declared.cut.Cut.{Cut}
use Rattle.tx_lines.specs.declared.first_fit.Piece.{Piece}
use Rattle.tx_lines.specs.Cuts.{Partitions}
use Rattle.tx_lines.specs.FirstFit.{cells_of, line_cells, width_of, IsFirstFit}
use Rattle.tx_items.specs.declared.drawing.Item.{Item}
use Rattle.tx_items.specs.declared.drawing.Item.TheVariants.{Glyph, Space, Chance, Gap, Break, PageEnd, Down}
use Rattle.tx_items.specs.Narrow.{IsNarrow}
use Rattle.tx_layout.specs.declared.measures.Frame.{Frame}
use Rattle.tx_layout.specs.declared.pieces.Span.{Span}
use Rattle.tx_layout.specs.declared.segments.Row.{Row}
use Rattle.tx_layout.specs.Frames.{least_width, IsFrame}
use Rattle.tx_layout.specs.Words.{capped_item, SpansFrom}
use Rattle.tx_layout.specs.Segments.{piece_of, width_at}
use Rattle.tx_layout.specs.Rows.{capped_piece, Narrow, rows_at, AreRows}
use Rattle.tx_layout.proofs.Spans.{is_width}

abbrev beside : Piece → ℕ
beside p = p.before + p.cells

map_drop : (n : ℕ) (xs : List Piece) → drop n (map capped_piece xs) ≡ map capped_piece (drop n xs)
map_drop zero xs = refl
map_drop (suc n) [] = refl
map_drop (suc n) (x ∷ xs) = map_drop n xs

sum_le : (xs : List Piece) → sum_by beside (map capped_piece xs) ≤ sum_by beside xs
sum_le [] = omega arith
sum_le (x ∷ xs) =
    let rest = sum_le xs in
    omega (arith, sum_by-cons beside x xs, sum_by-cons beside (capped_piece x) (map capped_piece xs))

sum_same : (xs : List Piece) → sum_by beside (map capped_piece xs) ≤ 500
    → sum_by beside (map capped_piece xs) ≡ sum_by beside xs
sum_same [] h = refl
sum_same (x ∷ xs) h =
    let first = sum_by-cons beside x xs in
    let others = sum_by-cons beside (capped_piece x) (map capped_piece xs) in
    let rest = sum_same xs (omega arith) in
    omega arith

cells_le : (xs : List Piece) → cells_of (map capped_piece xs) ≤ cells_of xs
cells_le [] = omega arith
cells_le (x ∷ xs) = let rest = sum_le xs in omega arith

cells_same : (xs : List Piece) → cells_of (map capped_piece xs) ≤ 500
    → cells_of (map capped_piece xs) ≡ cells_of xs
cells_same [] h = refl
cells_same (x ∷ xs) h = let rest = sum_same xs (omega arith) in omega arith

line_map : (ps : List Piece) (from to : ℕ)
    → line_cells (map capped_piece ps) from to ≡ cells_of (map capped_piece (slice_range ps from to))
line_map ps from to =
    ap (λ l. cells_of (take (to - from) l)) (map_drop from ps)
    ∙ ap cells_of (take-map capped_piece (to - from) (drop from ps))

narrow_width : (first later k : ℕ) → first ≤ 500 → later ≤ 500 → width_of first later k ≤ 500
narrow_width first later zero a b = a
narrow_width first later (suc k) a b = b

-- lines of pieces counted so are those of the pieces
uncapped : (ps : List Piece) (first later : ℕ) (lines : List Cut) → first ≤ 500 → later ≤ 500
    → IsFirstFit (map capped_piece ps) first later lines → IsFirstFit ps first later lines
uncapped ps first later lines a b h = record {
  in_order = subst (Partitions lines 0) (length-map ps capped_piece) h.in_order;
  fits = λ k line e.
      let fits : line_cells (map capped_piece ps) line.from line.to ≤ width_of first later k = h.fits k line e in
      let small = narrow_width first later k a b in
      let shape = line_map ps line.from line.to in
      let same = cells_same (slice_range ps line.from line.to) (omega arith) in
      omega arith;
  full = λ k line next e f.
      let full : width_of first later k < line_cells (map capped_piece ps) line.from (next.from + 1) =
      h.full k line next e f in
      let shape = line_map ps line.from (next.from + 1) in
      let less = cells_le (slice_range ps line.from (next.from + 1)) in
      omega arith;
}

map_both : (items : List Item) (ss : List Span)
    → map (λ s. capped_piece (piece_of items s)) ss ≡ map capped_piece (map (piece_of items) ss)
map_both items [] = refl
map_both items (s ∷ ss) = ap (λ l. capped_piece (piece_of items s) ∷ l) (map_both items ss)

pub filled : (items : List Item) (ss : List Span) (pieces : List Piece) (first later : ℕ) (cuts : List Cut)
    → first ≤ 500 → later ≤ 500 → pieces ≡ map (λ s. capped_piece (piece_of items s)) ss
    → IsFirstFit pieces first later cuts → IsFirstFit (map (piece_of items) ss) first later cuts
filled items ss pieces first later cuts a b e h =
    let P : List Piece → Type 0 = λ ps. IsFirstFit ps first later cuts in
    uncapped (map (piece_of items) ss) first later cuts a b (subst P (e ∙ map_both items ss) h)

-- items as they are on lines are no wider than the least width
one_shown : (least : ℕ) (i : Item) → 10 ≤ least → IsNarrow i → Narrow least (capped_item least i)
one_shown least (Glyph d) h n = omega arith
one_shown least (Space d) h n = omega arith
one_shown least (Chance d) h n = omega arith
one_shown least (Gap m) h n = omega arith
one_shown least Break h n = omega arith
one_shown least PageEnd h n = omega arith
one_shown least (Down m) h n = omega arith

pub all_shown : (least : ℕ) (items : List Item) → 10 ≤ least → All IsNarrow items
    → All (Narrow least) (map (capped_item least) items)
all_shown least [] h n = All-nil (Narrow least)
all_shown least (x ∷ xs) h n =
    All-cons (Narrow least) (capped_item least x) (map (capped_item least) xs)
    (one_shown least x h (All-head IsNarrow x xs n))
    (all_shown least xs h (All-tail IsNarrow x xs n))

-- the rows of a segment's words, from what each call returned
pub are_rows : (frame : Frame) (b : Bool) (start least width : ℕ) (segment : List Item) (spans given shown : List Span)
    (pieces filling : List Piece) (cuts last : List Cut) (rows : List Row) → IsFrame frame → least ≡ least_width frame
    → width ≡ width_at frame b → SpansFrom least segment 0 spans → given ≡ spans
    → pieces ≡ map (λ s. capped_piece (piece_of segment s)) given → filling ≡ pieces
    → IsFirstFit filling width frame.later_width cuts → shown ≡ spans → last ≡ cuts
    → rows ≡ rows_at frame b start segment shown last → AreRows frame b start segment rows
are_rows frame b start least width segment spans given shown pieces filling cuts last rows hf e w h g p q fit s t r =
    let P : ℕ → Type 0 = λ n. SpansFrom n segment 0 spans in
    let Q : ℕ → Type 0 = λ n. IsFirstFit filling n frame.later_width cuts in
    let first = is_width frame b hf in
    let later = hf.later in
    let all : filling ≡ map (λ s. capped_piece (piece_of segment s)) spans =
    q ∙ p ∙ ap (map (λ s. capped_piece (piece_of segment s))) g in
    record {
      spans = spans;
      cuts = cuts;
      spelled = subst P e h;
      filled = filled segment spans filling (width_at frame b) frame.later_width cuts first.1 later.1 all
          (subst Q w fit);
      made = r ∙ ap₂ (λ ss cs. rows_at frame b start segment ss cs) s t;
    }

pub shown_narrow : (frame : Frame) (least : ℕ) (items shown given : List Item) → IsFrame frame
    → least ≡ least_width frame → All IsNarrow items → shown ≡ map (capped_item least) items → given ≡ shown
    → All (Narrow (least_width frame)) given
shown_narrow frame least items shown given hf e n s g =
    let first = hf.first.0 in
    let later = hf.later.0 in
    let wide : 10 ≤ least_width frame = omega arith in
    let same : given ≡ map (capped_item (least_width frame)) items = g ∙ s ∙ ap (λ l. map (capped_item l) items) e in
    subst (All (Narrow (least_width frame))) (sym same) (all_shown (least_width frame) items wide n)
