-- A paragraph has lines.
use Rattle.std.proofs.Common.{◌≡◌, ℕ, ◌+◌, ◌≤◌, min, inl, inr, List, [], ◌∷◌, ◌++◌, map, Bool, true, false}
use Rattle.std.proofs.Common.{refl, sym, subst, arith, append-nil, append_assoc}
use Rattle.std.specs.Prelude.{All, if◌then◌else◌}
use Rattle.std.proofs.lemmas.Bool.{cases_Bool, leb-true}
use Rattle.std.proofs.lemmas.List.Elements.{All-nil, All-cons, All-head, All-tail, All-push}
use Rattle.tx_lines.specs.declared.first_fit.Piece.{Piece}
use Rattle.tx_lines.proofs.SomeFilling.{some_way}
use Rattle.tx_items.specs.declared.drawing.Item.{Item}
use Rattle.tx_items.specs.declared.drawing.Paragraph.{Paragraph}
use Rattle.tx_items.specs.Narrow.{IsNarrow}
use Rattle.tx_layout.specs.declared.measures.Frame.{Frame}
use Rattle.tx_layout.specs.declared.pieces.Span.{Span}
use Rattle.tx_layout.specs.declared.layout.Line.{Line}
use Rattle.tx_layout.specs.Frames.{whole_cells, has_room, left_margin, right_margin, line_frame, least_width}
use Rattle.tx_layout.specs.Words.{SpansFrom}
use Rattle.tx_layout.specs.Rows.{Narrow}
use Rattle.tx_layout.specs.Segments.{piece_of, width_at, lines_of, HasWords}
use Rattle.tx_layout.specs.Shapes.{Whole, is_break, behind_cut, or_empty, HasLines, last_segment, then_cut, IsShape}
use Rattle.tx_layout.proofs.Spans.{at_least}
use Rattle.tx_existence.proofs.Narrow.{all_capped}
use Rattle.tx_existence.proofs.Spanning.{some_spans}

-- ---- widths

abbrev both : Bool → ℕ → ℕ → ℕ
both b left right = (if b then left else 0) + (if b then right else 0)

both_fit : (b : Bool) (left right width : ℕ) → (b ≡ true → left + right + 10 ≤ width) → 20 ≤ width
    → both b left right + 10 ≤ width
both_fit true left right width h wide = h refl
both_fit false left right width h wide = omega arith

least_is : (p : Paragraph) (width : ℕ) → 20 ≤ width → 10 ≤ least_width (line_frame p width)
least_is p width wide =
    let left : ℕ = whole_cells p.left in
    let right : ℕ = whole_cells p.right in
    let fit : left_margin p width + right_margin p width + 10 ≤ width =
    both_fit (has_room p width) left right width (leb-true (left + right + 10) width) wide in
    omega arith

-- ---- words

narrow_pieces : (least first later : ℕ) (items : List Item) (at : ℕ) (ss : List Span)
    → SpansFrom least items at ss → least ≤ first → least ≤ later
    → All (λ (p : Piece). p.cells ≤ min first later) (map (piece_of items) ss)
narrow_pieces least first later items at [] h a b = All-nil (λ (p : Piece). p.cells ≤ min first later)
narrow_pieces least first later items at (s ∷ ss) h a b =
    let own = h.1.narrow in
    All-cons (λ (p : Piece). p.cells ≤ min first later) (piece_of items s) (map (piece_of items) ss) (omega arith)
    (narrow_pieces least first later items s.to ss h.2 a b)

some_words : (frame : Frame) (b : Bool) (items : List Item) → All (Narrow (least_width frame)) items
    → (lines : List Line) × HasWords frame b items lines
some_words frame b items narrow =
    let spans = some_spans (least_width frame) items narrow in
    let fits = narrow_pieces (least_width frame) (width_at frame b) frame.later_width items 0 spans.0 spans.1
    (at_least frame b) (at_least frame false) in
    let cuts = some_way (map (piece_of items) spans.0) (width_at frame b) frame.later_width fits in (
      lines_of frame b items spans.0 cuts.0,
      record {
        spans = spans.0;
        cuts = cuts.0;
        spelled = spans.1;
        filled = cuts.1;
        made = refl;
      },
    )

-- ---- segments

-- the items of a segment so far, and those after them
some_lines : (frame : Frame) (b : Bool) (front items : List Item) → All Whole front
    → All (Narrow (least_width frame)) front → All (Narrow (least_width frame)) items
    → (lines : List Line) × HasLines frame b (front ++ items) lines
some_lines frame b front [] whole narrow later =
    let words = some_words frame b front narrow in
    let lines : List Line = or_empty b true words.0 in (
      lines,
      subst (λ is. HasLines frame b is lines) (sym (append-nil front))
          (last_segment b front words.0 whole words.1),
    )
some_lines frame b front (x ∷ xs) whole narrow later =
    let N : Item → Type 0 = Narrow (least_width frame) in
    let others : All N xs = All-tail N x xs later in
    elim (cases_Bool (is_break x)) [
      | inl cut ↦
          let words = some_words frame b front narrow in
          let rest = some_lines frame false [] xs (All-nil Whole) (All-nil N) others in (
            behind_cut x (or_empty b false words.0) ++ rest.0,
            then_cut b (front ++ x ∷ xs) front x xs words.0 rest.0 refl whole cut words.1 rest.1,
          )
      | inr on ↦
          let all = some_lines frame b (front ++ x ∷ []) xs (All-push Whole front x whole on)
          (All-push N front x narrow (All-head N x xs later)) others in
          (all.0, subst (λ is. HasLines frame b is all.0) (append_assoc front (x ∷ []) xs) all.1)
    ]

pub some_shape : (p : Paragraph) (width : ℕ) → 20 ≤ width → All IsNarrow p.items
    → (lines : List Line) × IsShape p width lines
some_shape p width wide narrow =
    let frame : Frame = line_frame p width in
    let shown = all_capped (least_width frame) p.items (least_is p width wide) narrow in
    some_lines frame true [] _ (All-nil Whole) (All-nil (Narrow (least_width frame))) shown
