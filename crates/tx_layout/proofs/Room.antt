-- No line reaches beyond its page.
use Rattle.std.proofs.Common.{◌≡◌, ℕ, zero, suc, ◌+◌, ◌-◌, ◌<◌, ◌≤◌, min, List, [], ◌∷◌, map, length, take, drop}
use Rattle.std.proofs.Common.{replicate, cond, get_or, refl, sym, ap, ap₂, ◌∙◌, subst, arith, Bool, true, false, nat_le}
use Rattle.std.proofs.Common.{Some, None}
use Rattle.std.proofs.Math.ListN.{get_or-map}
use Rattle.std.specs.Prelude.{slice_range, slice_get, All}
use Rattle.std.proofs.lemmas.Bool.{leb-true}
use Rattle.std.proofs.lemmas.List.{length-map, take-take, drop-take, drop-drop}
use Rattle.std.proofs.lemmas.List.Sums.{sum_by-take-drop}
use Rattle.std.proofs.lemmas.List.Elements.{All-nil, All-cons, All-head, All-tail, All-append}
use Rattle.tx_lines.specs.declared.cut.Cut.{Cut}
use Rattle.tx_lines.specs.declared.first_fit.Piece.{Piece}
use Rattle.tx_lines.specs.Cuts.{Partitions}
use Rattle.tx_lines.specs.FirstFit.{line_cells, width_of}
use Rattle.tx_lines.proofs.Cells.{cells_of_one, cells_of_more}
use Rattle.tx_lines.proofs.Places.{forward}
use Rattle.tx_items.specs.declared.drawing.Item.{Item}
use Rattle.tx_items.specs.declared.drawing.Item.TheVariants.{Glyph, Space, Chance, Gap, Break, PageEnd, Down}
use Rattle.tx_items.specs.declared.drawing.Paragraph.{Paragraph}
use Rattle.tx_layout.specs.declared.measures.Side.{Side}
use Rattle.tx_layout.specs.declared.measures.Side.TheVariants.{Left, Center, Right, Justify}
use Rattle.tx_layout.specs.declared.measures.Frame.{Frame}
use Rattle.tx_layout.specs.declared.pieces.Span.{Span}
use Rattle.tx_layout.specs.declared.layout.Line.{Line}
use Rattle.tx_layout.specs.Frames.{whole_cells, moved_by, has_room, left_margin, right_margin}
use Rattle.tx_layout.specs.Frames.{line_frame, least_width}
use Rattle.tx_items.specs.Cells.{item_cells, cells_across}
use Rattle.tx_layout.specs.Words.{SpansFrom}
use Rattle.tx_layout.specs.Segments.{shift, put_in, piece_of, width_at, indent_at, no_span, are_none, line_of, lines_of}
use Rattle.tx_layout.specs.Segments.{HasWords}
use Rattle.tx_layout.specs.Spread.{spaces_among, spread}
use Rattle.tx_layout.specs.Shapes.{empty_line, page_ending, with_last, behind_cut, or_empty, items_shown, IsShape}
use Rattle.tx_layout.specs.Shapes.{HasLines, last_segment, then_cut}
use Rattle.tx_layout.proofs.Spans.{rises}
use Rattle.tx_layout.proofs.Kept.{place, span_at, place_behind}
use Rattle.tx_layout.proofs.Spreading.{takes_most, fills, same_spaces}

abbrev Within : ℕ → Line → Type 0
Within width line = line.indent + cells_across line.items ≤ width

-- ---- cells side by side

joined : (items : List Item) (a b c : ℕ) → a ≤ b → b ≤ c
    → cells_across (slice_range items a b) + cells_across (slice_range items b c) ≡ cells_across (slice_range items a c)
joined items a b c ab bc =
    let whole : List Item = slice_range items a c in
    let parts : c - a ≡ (b - a) + (c - b) = omega arith in
    let place : a + (b - a) ≡ b = omega arith in
    let first : take (b - a) whole ≡ slice_range items a b =
    take-take (b - a) (c - a) (drop a items) (omega arith) in
    let last : drop (b - a) whole ≡ slice_range items b c =
    ap (λ n. drop (b - a) (take n (drop a items))) parts ∙ drop-take (b - a) (c - b) (drop a items)
    ∙ ap (take (c - b)) (drop-drop (b - a) a items ∙ ap (λ n. drop n items) place) in
    ap₂ (λ x y. cells_across x + cells_across y) (sym first) (sym last) ∙ sum_by-take-drop item_cells whole (b - a)

-- pieces side by side take the cells of the items from the first to the last
pub run_cells : (least : ℕ) (items : List Item) (ss : List Span) (i n : ℕ) → SpansFrom least items 0 ss → i + n < length ss
    → line_cells (map (piece_of items) ss) i (i + n + 1)
    ≡ cells_across (slice_range items (get_or ss i no_span).from (get_or ss (i + n) no_span).to)
run_cells least items ss i zero h lt =
    let pieces : List Piece = map (piece_of items) ss in
    let long = length-map ss (piece_of items) in
    let e : i + 0 ≡ i = omega arith in
    ap (λ k. line_cells pieces i (k + 1)) e ∙ cells_of_one pieces i (piece_of items no_span) (omega arith)
    ∙ ap (λ (p : Piece). p.cells) (get_or-map (piece_of items) ss i no_span)
    ∙ ap (λ k. cells_across (slice_range items (get_or ss i no_span).from (get_or ss k no_span).to)) (sym e)
run_cells least items ss i (suc n) h lt =
    let pieces : List Piece = map (piece_of items) ss in
    let long = length-map ss (piece_of items) in
    let m : ℕ = i + n + 1 in
    let e : i + suc n ≡ i + n + 1 = omega arith in
    let f : suc (i + n) ≡ i + n + 1 = omega arith in
    let there : m < length ss = omega arith in
    let before : i + n < length ss = omega arith in
    let first : Span = get_or ss i no_span in
    let last : Span = get_or ss (i + n) no_span in
    let next : Span = get_or ss m no_span in
    let own = span_at least items 0 ss m no_span h there in
    let meets : next.spaces ≡ last.to = own.0 ∙ ap (place 0 ss) (sym f) ∙ place_behind 0 ss (i + n) no_span before in
    let onward : next.spaces ≤ next.from = own.1.onward in
    let some : next.from < next.to = own.1.some in
    let rise = rises least items ss h i (i + n) no_span no_span (omega arith) before in
    let le : first.from ≤ last.to = rise.0 in
    let grown : line_cells pieces i (m + 1)
    ≡ line_cells pieces i m + ((piece_of items next).before + (piece_of items next).cells) =
    cells_of_more pieces i m (piece_of items no_span) (omega arith) (omega arith)
    ∙ ap (λ (p : Piece). line_cells pieces i m + (p.before + p.cells)) (get_or-map (piece_of items) ss m no_span) in
    let rest : line_cells pieces i m ≡ cells_across (slice_range items first.from next.spaces) =
    run_cells least items ss i n h before ∙ ap (λ k. cells_across (slice_range items first.from k)) (sym meets) in
    let spaces = joined items first.from next.spaces next.from (omega arith) onward in
    let piece = joined items first.from next.from next.to (omega arith) (omega arith) in
    let whole : line_cells pieces i (m + 1) ≡ cells_across (slice_range items first.from next.to) = omega arith in
    ap (λ k. line_cells pieces i (k + 1)) e ∙ whole
    ∙ ap (λ k. cells_across (slice_range items first.from (get_or ss k no_span).to)) (sym e)

cut_cells : (least : ℕ) (items : List Item) (ss : List Span) (cut : Cut) → SpansFrom least items 0 ss
    → cut.from < cut.to
    → cut.to ≤ length ss → line_cells (map (piece_of items) ss) cut.from cut.to
    ≡ cells_across (slice_range items (get_or ss cut.from no_span).from (get_or ss (cut.to - 1) no_span).to)
cut_cells least items ss cut h some within =
    let n : ℕ = cut.to - cut.from - 1 in
    let e : cut.from + n + 1 ≡ cut.to = omega arith in
    let f : cut.from + n ≡ cut.to - 1 = omega arith in
    ap (λ k. line_cells (map (piece_of items) ss) cut.from k) (sym e)
    ∙ run_cells least items ss cut.from n h (omega arith)
    ∙ ap (λ k. cells_across (slice_range items (get_or ss cut.from no_span).from (get_or ss k no_span).to)) f

-- ---- lines of a segment

-- what a line is moved and what is put in are at most its free cells
moved_le : (side : Side) (e : Bool) (free : ℕ) → shift side free + put_in side e free ≤ free
moved_le Left e free = omega arith
moved_le Center e free = omega arith
moved_le Right e free = omega arith
moved_le Justify true free = omega arith
moved_le Justify false free = omega arith

later_alone : (later j : ℕ) → width_of later later j ≡ later
later_alone later zero = refl
later_alone later (suc j) = refl

words_room : (frame : Frame) (b : Bool) (width least : ℕ) (items : List Item) (ss : List Span) (cuts : List Cut) (k : ℕ)
    → SpansFrom least items 0 ss → Partitions cuts k (length ss) → indent_at frame b + width_at frame b ≤ width
    → frame.later_indent + frame.later_width ≤ width
    → ((j : ℕ) (cut : Cut) → slice_get cuts j ≡ Some cut
    → line_cells (map (piece_of items) ss) cut.from cut.to ≤ width_of (width_at frame b) frame.later_width j)
    → All (Within width) (lines_of frame b items ss cuts)
words_room frame b width least items ss [] k h order first later fits = All-nil (Within width)
words_room frame b width least items ss (cut ∷ cuts) k h order first later fits =
    let begins = order.0 in
    let some = order.1 in
    let ahead = forward cuts cut.to (length ss) order.2 in
    let cells = cut_cells least items ss cut h (omega arith) ahead in
    let line : List Item = slice_range items (get_or ss cut.from no_span).from (get_or ss (cut.to - 1) no_span).to in
    let own : line_cells (map (piece_of items) ss) cut.from cut.to ≤ width_at frame b = fits 0 cut refl in
    let free : ℕ = width_at frame b - cells_across line in
    let moved = moved_le frame.side (are_none cuts) free in
    let most = takes_most (put_in frame.side (are_none cuts) free) line in
    All-cons (Within width) (line_of frame b (are_none cuts) items ss cut) (lines_of frame false items ss cuts) (omega arith)
    (words_room frame false width least items ss cuts cut.to h order.2 later later
    (λ j c e. let fit = fits (suc j) c e in let same = later_alone frame.later_width j in omega arith))

-- ---- spread lines

-- a line that is spread, and has a space, has its width
full_line : (frame : Frame) (b : Bool) (line : List Item) → frame.side ≡ Justify → cells_across line ≤ width_at frame b
    → 0 < spaces_among (spread (put_in frame.side false (width_at frame b - cells_across line)) line)
    → cells_across (spread (put_in frame.side false (width_at frame b - cells_across line)) line) ≡ width_at frame b
full_line frame b line is fits some =
    let free : ℕ = width_at frame b - cells_across line in
    let put : put_in frame.side false free ≡ free = ap (λ s. put_in s false free) is in
    let own : 0 < spaces_among line = omega (arith, some, same_spaces (put_in frame.side false free) line) in
    let all = fills free line own in
    ap (λ n. cells_across (spread n line)) put ∙ omega (arith, all, fits)

no_line : {X : Type 0} (x : X) → None ≡ Some x → ⊥
no_line x e = cc

some_line : {X : Type 0} (x y : X) → Some x ≡ Some y → x ≡ y
some_line x y e = cc

words_full : (frame : Frame) → frame.side ≡ Justify → (b : Bool) (least : ℕ) (items : List Item) (ss : List Span)
    (cuts : List Cut) (k : ℕ) → SpansFrom least items 0 ss → Partitions cuts k (length ss)
    → ((j : ℕ) (cut : Cut) → slice_get cuts j ≡ Some cut
    → line_cells (map (piece_of items) ss) cut.from cut.to ≤ width_of (width_at frame b) frame.later_width j)
    → (j : ℕ) (line next : Line) → slice_get (lines_of frame b items ss cuts) j ≡ Some line
    → slice_get (lines_of frame b items ss cuts) (suc j) ≡ Some next → 0 < spaces_among line.items
    → cells_across line.items ≡ width_of (width_at frame b) frame.later_width j
words_full frame is b least items ss [] k h order fits j line next e f some = absurd (no_line line e)
words_full frame is b least items ss (cut ∷ []) k h order fits zero line next e f some = absurd (no_line next f)
words_full frame is b least items ss (cut ∷ []) k h order fits (suc j) line next e f some = absurd (no_line line e)
words_full frame is b least items ss (cut ∷ (c ∷ cs)) k h order fits zero line next e f some =
    let begins = order.0 in
    let long = order.1 in
    let ahead = forward (c ∷ cs) cut.to (length ss) order.2 in
    let cells = cut_cells least items ss cut h (omega arith) ahead in
    let own : line_cells (map (piece_of items) ss) cut.from cut.to ≤ width_at frame b = fits 0 cut refl in
    let same : line_of frame b false items ss cut ≡ line = some_line _ line e in
    let plain : List Item = slice_range items (get_or ss cut.from no_span).from (get_or ss (cut.to - 1) no_span).to in
    ap (λ (l : Line). cells_across l.items) (sym same)
    ∙ full_line frame b plain is (omega (arith, own, cells))
    (subst (λ (l : Line). 0 < spaces_among l.items) (sym same) some)
words_full frame is b least items ss (cut ∷ (c ∷ cs)) k h order fits (suc j) line next e f some =
    words_full frame is false least items ss (c ∷ cs) cut.to h order.2
    (λ i d g. let fit = fits (suc i) d g in let same = later_alone frame.later_width i in omega arith) j line next e f
    some ∙ later_alone frame.later_width j

pub segment_full : (frame : Frame) (b : Bool) (items : List Item) (lines : List Line) (k : ℕ) (line next : Line)
    → frame.side ≡ Justify → HasWords frame b items lines → slice_get lines k ≡ Some line
    → slice_get lines (suc k) ≡ Some next → 0 < spaces_among line.items
    → cells_across line.items ≡ width_of (width_at frame b) frame.later_width k
segment_full frame b items lines k line next is h e f some =
    words_full frame is b (least_width frame) items h.spans h.cuts 0 h.spelled
    (subst (Partitions h.cuts 0) (length-map h.spans (piece_of items)) h.filled.in_order) h.filled.fits k line next
    (ap (λ ls. slice_get ls k) (sym h.made) ∙ e) (ap (λ ls. slice_get ls (suc k)) (sym h.made) ∙ f) some

-- ---- lines of a paragraph

single_room : (width : ℕ) (a b : Bool) (lines : List Line) → All (Within width) lines
    → All (Within width) (or_empty a b lines)
single_room width true true [] h = All-cons (Within width) empty_line [] (omega arith) (All-nil (Within width))
single_room width true false [] h = All-cons (Within width) empty_line [] (omega arith) (All-nil (Within width))
single_room width false true [] h = All-nil (Within width)
single_room width false false [] h = All-cons (Within width) empty_line [] (omega arith) (All-nil (Within width))
single_room width a b (x ∷ xs) h = h

last_room : (width : ℕ) (lines : List Line) → All (Within width) lines
    → All (Within width) (with_last page_ending lines)
last_room width [] h = h
last_room width (x ∷ []) h =
    All-cons (Within width) (page_ending x) [] (All-head (Within width) x [] h) (All-nil (Within width))
last_room width (x ∷ (y ∷ ys)) h =
    All-cons (Within width) x (with_last page_ending (y ∷ ys)) (All-head (Within width) x (y ∷ ys) h)
    (last_room width (y ∷ ys) (All-tail (Within width) x (y ∷ ys) h))

empties_room : (width n : ℕ) → All (Within width) (replicate n empty_line)
empties_room width zero = All-nil (Within width)
empties_room width (suc n) =
    All-cons (Within width) empty_line (replicate n empty_line) (omega arith) (empties_room width n)

behind_room : (width : ℕ) (cut : Item) (lines : List Line) → All (Within width) lines
    → All (Within width) (behind_cut cut lines)
behind_room width (Glyph d) lines h = h
behind_room width (Space d) lines h = h
behind_room width (Chance d) lines h = h
behind_room width (Gap n) lines h = h
behind_room width Break lines h = h
behind_room width PageEnd lines h = last_room width lines h
behind_room width (Down n) lines h =
    All-append (Within width) lines (replicate n empty_line) h (empties_room width n)

room_at : (frame : Frame) (b : Bool) (width : ℕ) → frame.first_indent + frame.first_width ≤ width
    → frame.later_indent + frame.later_width ≤ width → indent_at frame b + width_at frame b ≤ width
room_at frame true width first later = first
room_at frame false width first later = later

segment_room : (frame : Frame) (b : Bool) (width : ℕ) (items : List Item) (lines : List Line)
    → frame.first_indent + frame.first_width ≤ width → frame.later_indent + frame.later_width ≤ width
    → HasWords frame b items lines → All (Within width) lines
segment_room frame b width items lines first later h =
    subst (All (Within width)) (sym h.made)
    (words_room frame b width (least_width frame) items h.spans h.cuts 0 h.spelled
    (subst (Partitions h.cuts 0) (length-map h.spans (piece_of items)) h.filled.in_order)
    (room_at frame b width first later) later h.filled.fits)

lines_room : (frame : Frame) (b : Bool) (width : ℕ) (items : List Item) (lines : List Line)
    → frame.first_indent + frame.first_width ≤ width → frame.later_indent + frame.later_width ≤ width
    → HasLines frame b items lines → All (Within width) lines
lines_room frame b width items lines first later (last_segment b' is words w h) =
    single_room width b true words (segment_room frame b width items words first later h)
lines_room frame b width items lines first later (then_cut b' is segment cut rest words others parts w cuts h more) =
    let own : List Line = or_empty b false words in
    All-append (Within width) (behind_cut cut own) others
    (behind_room width cut own
    (single_room width b false words (segment_room frame b width segment words first later h)))
    (lines_room frame false width rest others first later more)

-- ---- both widths are within the page

first_sum : (m r width : ℕ) → min m (width - r - 10) + (width - min m (width - r - 10) - r) ≤ width
first_sum m r width = omega arith

kept_margin : (b : Bool) (l r width : ℕ) → nat_le (l + r + 10) width ≡ b → cond b l 0 ≤ width
kept_margin true l r width e = let fits : l + r + 10 ≤ width = leb-true (l + r + 10) width e in omega arith
kept_margin false l r width e = omega arith

later_sum : (l r width : ℕ) → l ≤ width → l + (width - l - r) ≤ width
later_sum l r width h = omega arith

pub shape_room : (p : Paragraph) (width : ℕ) (lines : List Line) → IsShape p width lines → All (Within width) lines
shape_room p width lines h =
    lines_room (line_frame p width) true width (items_shown p width) lines
    (first_sum (moved_by (left_margin p width) p.first) (right_margin p width) width)
    (later_sum (left_margin p width) (right_margin p width) width
    (kept_margin (has_room p width) (whole_cells p.left) (whole_cells p.right) width refl))
    h
