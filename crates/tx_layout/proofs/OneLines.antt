-- A paragraph whose items have room side by side is in one line.
use Rattle.std.proofs.Common.{◌≡◌, ℕ, suc, ◌+◌, ◌-◌, ◌<◌, ◌≤◌, min, List, [], ◌∷◌, map, length}
use Rattle.std.proofs.Common.{get_or, refl, ap, ap₂, ◌∙◌, subst, arith, Bool, true, false, inl, inr}
use Rattle.std.specs.Prelude.{slice_range, All}
use Rattle.std.proofs.lemmas.Bool.{cases_lt}
use Rattle.std.proofs.lemmas.List.{length-map, take_all}
use Rattle.std.proofs.lemmas.List.Sums.{sum_by-cons, sum_by-take-le}
use Rattle.tx_lines.specs.declared.cut.Cut.{Cut}
use Rattle.tx_lines.specs.declared.first_fit.Piece.{Piece}
use Rattle.tx_lines.specs.FirstFit.{line_cells, IsFirstFit}
use Rattle.tx_lines.proofs.Places.{forward}
use Rattle.tx_items.specs.declared.drawing.Item.{Item}
use Rattle.tx_items.specs.declared.drawing.Item.TheVariants.{Glyph, Space, Chance, Gap, Break, PageEnd, Down}
use Rattle.tx_items.specs.declared.drawing.Paragraph.{Paragraph}
use Rattle.tx_items.specs.Cells.{item_cells, cells_across}
use Rattle.tx_layout.specs.declared.measures.Side.{Side}
use Rattle.tx_layout.specs.declared.measures.Side.TheVariants.{Left, Center, Right, Justify}
use Rattle.tx_layout.specs.declared.measures.Frame.{Frame}
use Rattle.tx_layout.specs.declared.pieces.Span.{Span}
use Rattle.tx_layout.specs.declared.layout.Line.{Line}
use Rattle.tx_layout.specs.Frames.{line_frame, least_width}
use Rattle.tx_layout.specs.Words.{capped_item, Blank, Solid, SpansFrom}
use Rattle.tx_layout.specs.Segments.{shift, put_in, piece_of, width_at, indent_at, no_span, line_with, lines_of}
use Rattle.tx_layout.specs.Segments.{HasWords}
use Rattle.tx_layout.specs.Spread.{spread}
use Rattle.tx_layout.specs.Shapes.{Whole, or_empty, items_shown, IsShape, HasLines, last_segment, then_cut}
use Rattle.tx_layout.specs.OneLine.{IsOneLine, one_line}
use Rattle.tx_layout.proofs.Slices.{at_slice, at_drop}
use Rattle.tx_layout.proofs.Spans.{at_least}
use Rattle.tx_layout.proofs.Once.{no_both, none_inside}
use Rattle.tx_layout.proofs.Room.{run_cells}

-- ---- no gap is cut

one_same : (least : ℕ) (i : Item) → item_cells i ≤ least → capped_item least i ≡ i
one_same least (Glyph d) h = refl
one_same least (Space d) h = refl
one_same least (Chance d) h = refl
one_same least (Gap n) h = let e : min n least ≡ n = omega arith in ap (λ k. Gap k) e
one_same least Break h = refl
one_same least PageEnd h = refl
one_same least (Down n) h = refl

shown_same : (least : ℕ) (items : List Item) → cells_across items ≤ least → map (capped_item least) items ≡ items
shown_same least [] h = refl
shown_same least (x ∷ xs) h =
    let s = sum_by-cons item_cells x xs in
    ap₂ (λ y ys. y ∷ ys) (one_same least x (omega arith)) (shown_same least xs (omega arith))

-- ---- the pieces go from the first item to the last

first_span : (least : ℕ) (items : List Item) (ss : List Span) → SpansFrom least items 0 ss → 0 < length items
    → Solid (get_or items 0 Break) → (0 < length ss) × ((get_or ss 0 no_span).from ≡ 0)
first_span least items [] h some solid =
    absurd (no_both (get_or items 0 Break) (at_drop Blank items 0 0 Break h (omega arith) some) solid)
first_span least items (s ∷ ss) h some solid =
    let begins : s.spaces ≡ 0 = h.0 in
    let within = h.1.within in
    let more = h.1.some in
    let from : s.from ≡ 0 = elim (cases_lt 0 s.from) [
      | inl x ↦
          absurd
          (
          no_both (get_or items 0 Break)
          (at_slice Blank items s.spaces s.from 0 Break h.1.blank (omega arith) x (omega arith))
          solid
          )
      | inr y ↦ omega arith
    ] in
    (omega arith, from)

last_span : (least : ℕ) (items : List Item) (at : ℕ) (ss : List Span) → SpansFrom least items at ss → 0 < length ss
    → Solid (get_or items (length items - 1) Break) → (get_or ss (length ss - 1) no_span).to ≡ length items
last_span least items at [] h some solid = absurd (omega arith)
last_span least items at (s ∷ []) h some solid =
    let within = h.1.within in
    let place : length (s ∷ []) - 1 ≡ 0 = omega arith in
    ap (λ k. (get_or (s ∷ []) k no_span).to) place
    ∙ elim (cases_lt s.to (length items)) [
      | inl x ↦
          absurd
          (
          no_both (get_or items (length items - 1) Break)
          (at_drop Blank items s.to (length items - 1) Break h.2 (omega arith) (omega arith)) solid
          )
      | inr y ↦ omega arith
    ]
last_span least items at (s ∷ (t ∷ ss)) h some solid =
    let place : length (s ∷ (t ∷ ss)) - 1 ≡ suc (length (t ∷ ss) - 1) = omega arith in
    ap (λ k. (get_or (s ∷ (t ∷ ss)) k no_span).to) place
    ∙ last_span least items s.to (t ∷ ss) h.2 (omega arith) solid

-- ---- there is one cut

front_le : (items : List Item) (a b : ℕ) → a ≡ 0 → cells_across (slice_range items a b) ≤ cells_across items
front_le items a b e =
    let most = sum_by-take-le item_cells items (b - 0) in
    let same = ap (λ k. cells_across (slice_range items k b)) e in
    omega arith

two_cuts : (least : ℕ) (items : List Item) (ss : List Span) (first later : ℕ) (c d : Cut) (cs : List Cut)
    → SpansFrom least items 0 ss → (get_or ss 0 no_span).from ≡ 0 → cells_across items ≤ first
    → IsFirstFit (map (piece_of items) ss) first later (c ∷ (d ∷ cs)) → ⊥
two_cuts least items ss first later c d cs h from narrow fit =
    let pieces : List Piece = map (piece_of items) ss in
    let long : length pieces ≡ length ss = length-map ss (piece_of items) in
    let begins : c.from ≡ 0 = fit.in_order.0 in
    let meets : d.from ≡ c.to = fit.in_order.2.0 in
    let some : c.to < d.to = fit.in_order.2.1 in
    let on : d.to ≤ length pieces = forward cs d.to (length pieces) fit.in_order.2.2 in
    let full : first < line_cells pieces c.from (d.from + 1) = fit.full 0 c d refl refl in
    let same : line_cells pieces c.from (d.from + 1) ≡ line_cells pieces 0 (0 + d.from + 1) =
    ap₂ (λ i k. line_cells pieces i k) begins (omega arith) in
    let cells = run_cells least items ss 0 d.from h (omega arith) in
    let few = front_le items (get_or ss 0 no_span).from (get_or ss (0 + d.from) no_span).to from in
    omega arith

put_none : (side : Side) (free : ℕ) → put_in side true free ≡ 0
put_none Left free = refl
put_none Center free = refl
put_none Right free = refl
put_none Justify free = refl

one_cut : (frame : Frame) (b : Bool) (items : List Item) (ss : List Span) (cuts : List Cut)
    → SpansFrom (least_width frame) items 0 ss
    → 0 < length ss → (get_or ss 0 no_span).from ≡ 0 → (get_or ss (length ss - 1) no_span).to ≡ length items
    → cells_across items ≤ least_width frame
    → IsFirstFit (map (piece_of items) ss) (width_at frame b) frame.later_width cuts
    → lines_of frame b items ss cuts
    ≡ record {
      indent = indent_at frame b + shift frame.side (width_at frame b - cells_across items);
      items = items;
      page_end = false;
    }
    ∷ []
one_cut frame b items ss [] h some from to narrow fit =
    let long = length-map ss (piece_of items) in
    let ends : 0 ≡ length (map (piece_of items) ss) = fit.in_order in
    absurd (omega arith)
one_cut frame b items ss (c ∷ []) h some from to narrow fit =
    let long = length-map ss (piece_of items) in
    let begins : c.from ≡ 0 = fit.in_order.0 in
    let ends : c.to ≡ length (map (piece_of items) ss) = fit.in_order.2 in
    let last : c.to - 1 ≡ length ss - 1 = omega arith in
    let a : (get_or ss c.from no_span).from ≡ 0 = ap (λ k. (get_or ss k no_span).from) begins ∙ from in
    let z : (get_or ss (c.to - 1) no_span).to ≡ length items = ap (λ k. (get_or ss k no_span).to) last ∙ to in
    let all : slice_range items (get_or ss c.from no_span).from (get_or ss (c.to - 1) no_span).to ≡ items =
    ap₂ (λ i k. slice_range items i k) a z ∙ take_all (length items - 0) items (omega arith) in
    let free : ℕ = width_at frame b - cells_across items in
    ap (λ l. line_with frame b true l ∷ []) all
    ∙ ap
    (λ l.
    record { indent = indent_at frame b + shift frame.side free; items = l; page_end = false } ∷ [])
    (ap (λ n. spread n items) (put_none frame.side free))
one_cut frame b items ss (c ∷ (d ∷ cs)) h some from to narrow fit =
    let wide = at_least frame b in
    absurd
    (two_cuts (least_width frame) items ss (width_at frame b) frame.later_width c d cs h from (omega arith) fit)

-- ---- the whole paragraph

segment_one : (frame : Frame) (b : Bool) (items : List Item) (lines : List Line) → 0 < length items
    → Solid (get_or items 0 Break) → Solid (get_or items (length items - 1) Break)
    → cells_across items ≤ least_width frame → HasWords frame b items lines
    → lines
    ≡ record {
      indent = indent_at frame b + shift frame.side (width_at frame b - cells_across items);
      items = items;
      page_end = false;
    }
    ∷ []
segment_one frame b items lines some first last narrow h =
    let begun = first_span (least_width frame) items h.spans h.spelled some first in
    let ended = last_span (least_width frame) items 0 h.spans h.spelled begun.0 last in
    h.made ∙ one_cut frame b items h.spans h.cuts h.spelled begun.0 begun.1 ended narrow h.filled

lines_one : (frame : Frame) (b : Bool) (items : List Item) (lines : List Line) → 0 < length items → All Whole items
    → Solid (get_or items 0 Break) → Solid (get_or items (length items - 1) Break)
    → cells_across items ≤ least_width frame → HasLines frame b items lines
    → lines
    ≡ record {
      indent = indent_at frame b + shift frame.side (width_at frame b - cells_across items);
      items = items;
      page_end = false;
    }
    ∷ []
lines_one frame b items lines some whole first last narrow (last_segment b' is words w h) =
    ap (or_empty b true) (segment_one frame b items words some first last narrow h)
lines_one frame b items lines some whole first last narrow
    (then_cut b' is segment cut rest words others parts w cuts h more) =
    absurd (none_inside segment cut rest cuts (subst (All Whole) parts whole))

pub paragraph_one : (p : Paragraph) (width : ℕ) (lines : List Line) → IsShape p width lines → IsOneLine p width
    → lines ≡ one_line p width ∷ []
paragraph_one p width lines h one =
    let frame : Frame = line_frame p width in
    let same : items_shown p width ≡ p.items = shown_same (least_width frame) p.items one.narrow in
    let P : List Item → Type 0 = λ l. HasLines frame true l lines in
    lines_one frame true p.items lines one.some one.whole one.first one.last one.narrow (subst P same h)
