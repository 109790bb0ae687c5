-- Pieces in order, and the rows of their cuts.
use Rattle.std.proofs.Common.{◌≡◌, ◌==◌, ℕ, zero, suc, ◌+◌, ◌-◌, ◌<◌, ◌≤◌, min, List, [], ◌∷◌, ◌++◌, map, length, drop}
use Rattle.std.proofs.Common.{get_or, refl, sym, ap, ◌∙◌, subst, arith, Bool, true, false, append_assoc}
use Rattle.std.proofs.Common.{append-nil}
use Rattle.std.specs.Prelude.{slice_range, All}
use Rattle.std.proofs.lemmas.Bool.{eqb-true}
use Rattle.std.proofs.lemmas.List.Elements.{All-nil, All-cons}
use Rattle.std.proofs.lemmas.List.{length-drop, drop_more, take_all}
use Rattle.tx_lines.specs.declared.cut.Cut.{Cut}
use Rattle.tx_lines.specs.declared.first_fit.Piece.{Piece}
use Rattle.tx_lines.specs.Cuts.{Partitions}
use Rattle.tx_lines.specs.FirstFit.{IsWidth}
use Rattle.tx_lines.proofs.Places.{forward}
use Rattle.tx_items.specs.declared.drawing.Item.{Item}
use Rattle.tx_layout.specs.declared.measures.Frame.{Frame}
use Rattle.tx_layout.specs.declared.pieces.Span.{Span}
use Rattle.tx_layout.specs.declared.segments.Row.{Row}
use Rattle.tx_layout.specs.Frames.{least_width, IsFrame}
use Rattle.tx_layout.specs.Words.{Blank, IsSpan, SpansFrom}
use Rattle.tx_layout.specs.Segments.{piece_of, width_at, are_none}
use Rattle.tx_layout.specs.Rows.{Rises, row_at, rows_at, capped_piece}

-- one piece more
pub span_more : (least : ℕ) (items : List Item) (spans spans' : List Span) (s : Span) → spans' ≡ spans ++ s ∷ []
    → IsSpan least items s
    → ((rest : List Span) → SpansFrom least items s.spaces rest → SpansFrom least items 0 (spans ++ rest))
    → (rest : List Span) → SpansFrom least items s.to rest → SpansFrom least items 0 (spans' ++ rest)
span_more least items spans spans' s e is so_far rest h =
    let P : List Span → Type 0 = λ ss. SpansFrom least items 0 ss in
    subst P (sym (ap (λ ss. ss ++ rest) e ∙ append_assoc spans (s ∷ []) rest)) (so_far (s ∷ rest) (refl, is, h))

-- after the last piece are spaces alone
pub spans_done : (least : ℕ) (items : List Item) (spans : List Span) (at from : ℕ)
    → ((rest : List Span) → SpansFrom least items at rest → SpansFrom least items 0 (spans ++ rest))
    → at ≤ from → from ≤ length items → length items ≤ from → All Blank (slice_range items at from)
    → SpansFrom least items 0 spans
spans_done least items spans at from so_far on within past blank =
    let whole : slice_range items at from ≡ drop at items =
    take_all (from - at) (drop at items) (omega (arith, length-drop at items)) in
    let P : List Span → Type 0 = λ ss. SpansFrom least items 0 ss in
    subst P (append-nil spans) (so_far [] (subst (All Blank) whole blank))

-- each piece is within the items
pub each_onward : (least : ℕ) (items : List Item) (at : ℕ) (ss : List Span) → SpansFrom least items at ss
    → All (λ s. s.spaces ≤ s.from) ss
each_onward least items at [] h = All-nil (λ s. s.spaces ≤ s.from)
each_onward least items at (s ∷ ss) h =
    All-cons (λ s. s.spaces ≤ s.from) s ss h.1.onward (each_onward least items s.to ss h.2)

pub each_some : (least : ℕ) (items : List Item) (at : ℕ) (ss : List Span) → SpansFrom least items at ss
    → All (λ s. s.from ≤ s.to) ss
each_some least items at [] h = All-nil (λ s. s.from ≤ s.to)
each_some least items at (s ∷ ss) h =
    let some = h.1.some in
    All-cons (λ s. s.from ≤ s.to) s ss (omega arith) (each_some least items s.to ss h.2)

pub each_within : (least : ℕ) (items : List Item) (at : ℕ) (ss : List Span) → SpansFrom least items at ss
    → All (λ s. s.to ≤ length items) ss
each_within least items at [] h = All-nil (λ s. s.to ≤ length items)
each_within least items at (s ∷ ss) h =
    All-cons (λ s. s.to ≤ length items) s ss h.1.within (each_within least items s.to ss h.2)

behind : (least : ℕ) (items : List Item) (at : ℕ) (ss : List Span) (j : ℕ) (e : Span) → SpansFrom least items at ss
    → j < length ss → (at ≤ (get_or ss j e).to) × ((get_or ss j e).to ≤ length items)
behind least items at [] j e h lt = absurd (omega arith)
behind least items at (s ∷ ss) zero e h lt =
    let a = h.1.onward in let b = h.1.some in let c = h.1.within in let d = h.0 in (omega arith, c)
behind least items at (s ∷ ss) (suc j) e h lt =
    let a = h.1.onward in let b = h.1.some in let d = h.0 in
    let rest = behind least items s.to ss j e h.2 (omega arith) in
    let on : s.to ≤ (get_or ss j e).to = rest.0 in
    (omega arith, rest.1)

rises_from : (least : ℕ) (items : List Item) (at : ℕ) (ss : List Span) → SpansFrom least items at ss
    → (i j : ℕ) (d e : Span) → i ≤ j → j < length ss
    → ((get_or ss i d).from ≤ (get_or ss j e).to) × ((get_or ss j e).to ≤ length items)
rises_from least items at [] h i j d e le lt = absurd (omega arith)
rises_from least items at (s ∷ ss) h zero zero d e le lt = let b = h.1.some in (omega arith, h.1.within)
rises_from least items at (s ∷ ss) h zero (suc j) d e le lt =
    let b = h.1.some in
    let rest = behind least items s.to ss j e h.2 (omega arith) in
    let on : s.to ≤ (get_or ss j e).to = rest.0 in
    (omega arith, rest.1)
rises_from least items at (s ∷ ss) h (suc i) zero d e le lt = absurd (omega arith)
rises_from least items at (s ∷ ss) h (suc i) (suc j) d e le lt =
    rises_from least items s.to ss h.2 i j d e (omega arith) (omega arith)

pub rises : (least : ℕ) (items : List Item) (ss : List Span) → SpansFrom least items 0 ss → Rises items ss
rises least items ss h = rises_from least items 0 ss h

pub few_spans : (least : ℕ) (items : List Item) (at : ℕ) (ss : List Span) → SpansFrom least items at ss
    → at ≤ length items → at + length ss ≤ length items
few_spans least items at [] h le = omega arith
few_spans least items at (s ∷ ss) h le =
    let a = h.1.onward in let b = h.1.some in let c = h.1.within in let d = h.0 in
    let rest : s.to + length ss ≤ length items = few_spans least items s.to ss h.2 c in
    omega arith

-- pieces as first-fit knows them are no wider than the least width
pub narrow_pieces : (least first later : ℕ) (items : List Item) (at : ℕ) (ss : List Span)
    → SpansFrom least items at ss → least ≤ first → least ≤ later
    → All (λ (p : Piece). p.cells ≤ min first later) (map (λ s. capped_piece (piece_of items s)) ss)
narrow_pieces least first later items at [] h a b = All-nil (λ (p : Piece). p.cells ≤ min first later)
narrow_pieces least first later items at (s ∷ ss) h a b =
    let own = h.1.narrow in
    All-cons (λ (p : Piece). p.cells ≤ min first later) (capped_piece (piece_of items s))
    (map (λ s. capped_piece (piece_of items s)) ss) (omega arith)
    (narrow_pieces least first later items s.to ss h.2 a b)

pub cut_step : (cuts : List Cut) (i at len : ℕ) (cut : Cut) → i < length cuts → cut ≡ get_or cuts i cut
    → Partitions (drop i cuts) at len → (cut.from < cut.to) × (cut.to ≤ len) × Partitions (drop (i + 1) cuts) cut.to len
cut_step cuts i at len cut there is h =
    let first : drop i cuts ≡ cut ∷ drop (i + 1) cuts =
    drop_more cuts i cut there ∙ ap (λ c. c ∷ drop (i + 1) cuts) (sym is) in
    let P : List Cut → Type 0 = λ cs. Partitions cs at len in
    let parts = subst P first h in
    let begins : cut.from ≡ at = parts.0 in
    let some : at < cut.to = parts.1 in
    (omega arith, forward (drop (i + 1) cuts) cut.to len parts.2, parts.2)

pub row_step : (frame : Frame) (b : Bool) (start : ℕ) (items : List Item) (spans : List Span) (cuts : List Cut) (i : ℕ)
    (cut : Cut) (rows rows' whole : List Row) (row : Row) (e : Bool) → i < length cuts → cut ≡ get_or cuts i cut
    → rows' ≡ rows ++ row ∷ [] → row ≡ row_at frame b e start items spans cut → e ≡ are_none (drop (i + 1) cuts)
    → rows ++ rows_at frame b start items spans (drop i cuts) ≡ whole
    → rows' ++ rows_at frame false start items spans (drop (i + 1) cuts) ≡ whole
row_step frame b start items spans cuts i cut rows rows' whole row last there is e f g so_far =
    let first : drop i cuts ≡ cut ∷ drop (i + 1) cuts =
    drop_more cuts i cut there ∙ ap (λ c. c ∷ drop (i + 1) cuts) (sym is) in
    let later : List Row = rows_at frame false start items spans (drop (i + 1) cuts) in
    ap (λ rs. rs ++ later) e ∙ append_assoc rows (row ∷ []) later ∙ ap (λ r. rows ++ r ∷ later) (f ∙ ap (λ c. row_at frame b c start items spans cut) g)
    ∙ ap (λ cs. rows ++ rows_at frame b start items spans cs) (sym first) ∙ so_far

-- whether no cut is left, by their number
pub none_by : (cuts : List Cut) (n : ℕ) → n ≡ length cuts → (n == 0) ≡ are_none cuts
none_by [] n e = ap (λ k. k == 0) e
none_by (cut ∷ cuts) n e = by (n == 0) refl
  where
    by : (b : Bool) → (n == 0) ≡ b → (n == 0) ≡ false
    by true is = let same : n ≡ 0 = eqb-true n 0 is in absurd (omega arith)
    by false is = is

pub at_least : (frame : Frame) (b : Bool) → least_width frame ≤ width_at frame b
at_least frame true = omega arith
at_least frame false = omega arith

pub is_width : (frame : Frame) (b : Bool) → IsFrame frame → IsWidth (width_at frame b)
is_width frame true h = h.first
is_width frame false h = h.later
