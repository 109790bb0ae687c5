-- Rows of segments as lines of a paragraph.
use Rattle.std.proofs.Common.{◌≡◌, ℕ, zero, suc, ◌+◌, ◌-◌, ◌<◌, ◌≤◌, List, [], ◌∷◌, ◌++◌, map, length, drop}
use Rattle.std.proofs.Common.{replicate, get_or, refl, sym, ap, ap₂, ◌∙◌, subst, arith, Bool, true, false, append_assoc}
use Rattle.std.proofs.Math.ListN.{set}
use Rattle.std.proofs.lemmas.List.{take_all, length-drop, length-map, length-take-le, map-append, drop_more}
use Rattle.std.proofs.lemmas.List.Folds.{drop_split}
use Rattle.std.proofs.lemmas.List.Elements.{All-nil, All-cons, All-append, All-head, All-tail}
use Rattle.std.specs.Prelude.{slice_range, All}
use Rattle.tx_lines.specs.declared.cut.Cut.{Cut}
use Rattle.tx_lines.specs.Cuts.{Partitions}
use Rattle.tx_lines.proofs.Places.{forward}
use Rattle.tx_items.specs.declared.drawing.Item.{Item}
use Rattle.tx_items.specs.declared.drawing.Item.TheVariants.{Glyph, Space, Chance, Gap, Break, PageEnd, Down}
use Rattle.tx_items.specs.declared.drawing.Paragraph.{Paragraph}
use Rattle.tx_layout.specs.declared.measures.Side.{Side}
use Rattle.tx_layout.specs.declared.measures.Side.TheVariants.{Left, Center, Right, Justify}
use Rattle.tx_layout.specs.declared.measures.Frame.{Frame}
use Rattle.tx_layout.specs.declared.pieces.Span.{Span}
use Rattle.tx_layout.specs.declared.segments.Row.{Row}
use Rattle.tx_layout.specs.declared.layout.Line.{Line}
use Rattle.tx_layout.specs.Frames.{least_width, line_frame, IsFrame}
use Rattle.tx_items.specs.Cells.{cells_across}
use Rattle.tx_layout.specs.Words.{capped_item}
use Rattle.tx_layout.specs.Segments.{shift, put_in, piece_of, width_at, indent_at, no_span, are_none, line_of, lines_of}
use Rattle.tx_layout.specs.Spread.{spread}
use Rattle.tx_layout.specs.Shapes.{is_break, Cutting, Whole, empty_line, page_ending, with_last, behind_cut}
use Rattle.tx_layout.specs.Shapes.{or_empty, HasLines, last_segment, then_cut, items_shown, IsShape}
use Rattle.tx_layout.specs.Rows.{line_at, empty_row, row_ending, rows_behind, rows_or_empty, IsWithin, row_at, rows_at}
use Rattle.tx_layout.specs.Rows.{Rises, AreRows, OwnLines}
use Rattle.tx_layout.proofs.Slices.{slice_slice, at_slice}
use Rattle.tx_layout.proofs.Spans.{rises, is_width}

-- ---- the last of some rows, marked

mark_at : (xs : List Row) (i : ℕ) (row : Row) → i + 1 ≡ length xs → row ≡ get_or xs i row
    → set xs i (row_ending row) ≡ with_last row_ending xs
mark_at [] i row h e = absurd (omega arith)
mark_at (x ∷ []) zero row h e = ap (λ l. row_ending l ∷ []) e
mark_at (x ∷ []) (suc i) row h e = absurd (omega arith)
mark_at (x ∷ (y ∷ ys)) zero row h e = absurd (omega arith)
mark_at (x ∷ (y ∷ ys)) (suc i) row h e = ap (λ l. x ∷ l) (mark_at (y ∷ ys) i row (omega arith) e)

pub mark_last : (xs : List Row) (n : ℕ) (row : Row) (cut : Item) → n ≡ length xs → 0 < n
    → row ≡ get_or xs (n - 1) row → cut ≡ PageEnd → set xs (n - 1) (row_ending row) ≡ rows_behind cut xs
mark_last xs n row cut e some is c = mark_at xs (n - 1) row (omega arith) is ∙ ap (λ i. rows_behind i xs) (sym c)

-- ---- rows as lines

last_map : (items : List Item) (xs : List Row)
    → map (line_at items) (with_last row_ending xs) ≡ with_last page_ending (map (line_at items) xs)
last_map items [] = refl
last_map items (x ∷ []) = refl
last_map items (x ∷ (y ∷ ys)) = ap (λ l. line_at items x ∷ l) (last_map items (y ∷ ys))

empties : (items : List Item) (n : ℕ) → map (line_at items) (replicate n empty_row) ≡ replicate n empty_line
empties items zero = refl
empties items (suc n) = ap (λ l. empty_line ∷ l) (empties items n)

behind_map : (items : List Item) (cut : Item) (xs : List Row)
    → map (line_at items) (rows_behind cut xs) ≡ behind_cut cut (map (line_at items) xs)
behind_map items (Glyph d) xs = refl
behind_map items (Space d) xs = refl
behind_map items (Chance d) xs = refl
behind_map items (Gap n) xs = refl
behind_map items Break xs = refl
behind_map items PageEnd xs = last_map items xs
behind_map items (Down n) xs =
    map-append (line_at items) xs (replicate n empty_row) ∙ ap (λ l. map (line_at items) xs ++ l) (empties items n)

single_map : (items : List Item) (a b : Bool) (xs : List Row)
    → map (line_at items) (rows_or_empty a b xs) ≡ or_empty a b (map (line_at items) xs)
single_map items true true [] = refl
single_map items true false [] = refl
single_map items false true [] = refl
single_map items false false [] = refl
single_map items a b (x ∷ xs) = refl

long : (items : List Item) (start end : ℕ) → start ≤ end → end ≤ length items
    → length (slice_range items start end) ≡ end - start
long items start end on within =
    length-take-le (end - start) (drop start items) (omega (arith, length-drop start items))

one_line : (frame : Frame) (b e : Bool) (items : List Item) (start end : ℕ) (spans : List Span) (cut : Cut) → start ≤ end
    → end ≤ length items → Rises (slice_range items start end) spans → cut.from < cut.to → cut.to ≤ length spans
    → line_at items (row_at frame b e start (slice_range items start end) spans cut)
    ≡ line_of frame b e (slice_range items start end) spans cut
one_line frame b e items start end spans cut on within rise some there =
    let segment : List Item = slice_range items start end in
    let from : ℕ = (get_or spans cut.from no_span).from in
    let to : ℕ = (get_or spans (cut.to - 1) no_span).to in
    let placed = rise cut.from (cut.to - 1) no_span no_span (omega arith) (omega arith) in
    let le : from ≤ to = placed.0 in
    let inside : to ≤ length segment = placed.1 in
    let size : length segment ≡ end - start = long items start end on within in
    let free : ℕ = width_at frame b - cells_across (slice_range segment from to) in
    let line : List Item → Line = λ is. record {
      indent = indent_at frame b + shift frame.side free;
      items = spread (put_in frame.side e free) is;
      page_end = false;
    } in
    ap line (sym (slice_slice items start end from to le (omega arith)))

words_map : (frame : Frame) (b : Bool) (items : List Item) (start end : ℕ) (spans : List Span) (cuts : List Cut)
    (at : ℕ)
    → start ≤ end → end ≤ length items → Rises (slice_range items start end) spans → Partitions cuts at (length spans)
    → map (line_at items) (rows_at frame b start (slice_range items start end) spans cuts)
    ≡ lines_of frame b (slice_range items start end) spans cuts
words_map frame b items start end spans [] at on within rise h = refl
words_map frame b items start end spans (cut ∷ cuts) at on within rise h =
    let begins = h.0 in
    let some = h.1 in
    ap₂ (λ l ls. l ∷ ls)
    (one_line frame b (are_none cuts) items start end spans cut on within rise (omega arith) (forward cuts cut.to (length spans) h.2))
    (words_map frame false items start end spans cuts cut.to on within rise h.2)

-- no more cells are put in than the line has
put_most : (side : Side) (e : Bool) (free : ℕ) → put_in side e free ≤ free
put_most Left e free = omega arith
put_most Center e free = omega arith
put_most Right e free = omega arith
put_most Justify true free = omega arith
put_most Justify false free = omega arith

words_within : (frame : Frame) → IsFrame frame → (b : Bool) (items : List Item) (start end : ℕ) (spans : List Span) (cuts : List Cut)
    (at : ℕ) → start ≤ end → end ≤ length items → Rises (slice_range items start end) spans
    → Partitions cuts at (length spans)
    → All (IsWithin (length items)) (rows_at frame b start (slice_range items start end) spans cuts)
words_within frame f b items start end spans [] at on within rise h = All-nil (IsWithin (length items))
words_within frame f b items start end spans (cut ∷ cuts) at on within rise h =
    let segment : List Item = slice_range items start end in
    let begins = h.0 in
    let some = h.1 in
    let ahead = forward cuts cut.to (length spans) h.2 in
    let placed = rise cut.from (cut.to - 1) no_span no_span (omega arith) (omega arith) in
    let le : (get_or spans cut.from no_span).from ≤ (get_or spans (cut.to - 1) no_span).to = placed.0 in
    let inside : (get_or spans (cut.to - 1) no_span).to ≤ length segment = placed.1 in
    let size : length segment ≡ end - start = long items start end on within in
    let line : List Item =
    slice_range segment (get_or spans cut.from no_span).from (get_or spans (cut.to - 1) no_span).to in
    let put = put_most frame.side (are_none cuts) (width_at frame b - cells_across line) in
    let wide = (is_width frame b f).1 in
    All-cons (IsWithin (length items)) (row_at frame b (are_none cuts) start segment spans cut)
    (rows_at frame false start segment spans cuts) (omega arith, omega arith, omega arith)
    (words_within frame f false items start end spans cuts cut.to on within rise h.2)

in_order : (frame : Frame) (b : Bool) (start : ℕ) (segment : List Item) (rows : List Row)
    (h : AreRows frame b start segment rows) → Partitions h.cuts 0 (length h.spans)
in_order frame b start segment rows h =
    subst (Partitions h.cuts 0) (length-map h.spans (piece_of segment)) h.filled.in_order

-- ---- the lines of one segment

pub own_lines : (frame : Frame) (b last : Bool) (items : List Item) (start end : ℕ) (rows rows' : List Row)
    → start ≤ end
    → end ≤ length items → (h : AreRows frame b start (slice_range items start end) rows)
    → rows' ≡ rows_or_empty b last rows
    → OwnLines frame b last (slice_range items start end) (map (line_at items) rows')
own_lines frame b last items start end rows rows' on within h e =
    let segment : List Item = slice_range items start end in
    let rise = rises (least_width frame) segment h.spans h.spelled in
    let order = in_order frame b start segment rows h in
    let made : map (line_at items) rows ≡ lines_of frame b segment h.spans h.cuts =
    ap (map (line_at items)) h.made ∙ words_map frame b items start end h.spans h.cuts 0 on within rise order in
    record {
      words = map (line_at items) rows;
      filled = record { spans = h.spans; cuts = h.cuts; spelled = h.spelled; filled = h.filled; made = made };
      made = ap (map (line_at items)) e ∙ single_map items b last rows;
    }

alone : (len : ℕ) → All (IsWithin len) (empty_row ∷ [])
alone len = All-cons (IsWithin len) empty_row [] (omega arith, omega arith, omega arith) (All-nil (IsWithin len))

single_within : (len : ℕ) (a b : Bool) (xs : List Row) → All (IsWithin len) xs
    → All (IsWithin len) (rows_or_empty a b xs)
single_within len true true [] h = alone len
single_within len true false [] h = alone len
single_within len false true [] h = All-nil (IsWithin len)
single_within len false false [] h = alone len
single_within len a b (x ∷ xs) h = h

pub own_within : (frame : Frame) → IsFrame frame → (b last : Bool) (items : List Item) (start end : ℕ) (rows rows' : List Row)
    → start ≤ end
    → end ≤ length items → (h : AreRows frame b start (slice_range items start end) rows)
    → rows' ≡ rows_or_empty b last rows
    → All (IsWithin (length items)) rows'
own_within frame f b last items start end rows rows' on within h e =
    let segment : List Item = slice_range items start end in
    let rise = rises (least_width frame) segment h.spans h.spelled in
    let order = in_order frame b start segment rows h in
    let P : List Row → Type 0 = λ rs. All (IsWithin (length items)) rs in
    subst P (sym e)
    (single_within (length items) b last rows
    (subst P (sym h.made) (words_within frame f b items start end h.spans h.cuts 0 on within rise order)))

last_within : (len : ℕ) (xs : List Row) → All (IsWithin len) xs → All (IsWithin len) (with_last row_ending xs)
last_within len [] h = h
last_within len (x ∷ []) h =
    All-cons (IsWithin len) (row_ending x) [] (All-head (IsWithin len) x [] h) (All-nil (IsWithin len))
last_within len (x ∷ (y ∷ ys)) h =
    All-cons (IsWithin len) x (with_last row_ending (y ∷ ys)) (All-head (IsWithin len) x (y ∷ ys) h)
    (last_within len (y ∷ ys) (All-tail (IsWithin len) x (y ∷ ys) h))

empties_within : (len n : ℕ) → All (IsWithin len) (replicate n empty_row)
empties_within len zero = All-nil (IsWithin len)
empties_within len (suc n) =
    All-cons (IsWithin len) empty_row (replicate n empty_row) (omega arith, omega arith, omega arith)
    (empties_within len n)

behind_within : (len : ℕ) (cut : Item) (xs : List Row) → All (IsWithin len) xs → All (IsWithin len) (rows_behind cut xs)
behind_within len (Glyph d) xs h = h
behind_within len (Space d) xs h = h
behind_within len (Chance d) xs h = h
behind_within len (Gap n) xs h = h
behind_within len Break xs h = h
behind_within len PageEnd xs h = last_within len xs h
behind_within len (Down n) xs h =
    All-append (IsWithin len) xs (replicate n empty_row) h (empties_within len n)

-- ---- segments in order

pub within_more : (len : ℕ) (cut : Item) (rows rows' own own' : List Row) → All (IsWithin len) rows
    → All (IsWithin len) own → own' ≡ rows_behind cut own → rows' ≡ rows ++ own' → All (IsWithin len) rows'
within_more len cut rows rows' own own' h k e f =
    let P : List Row → Type 0 = λ rs. All (IsWithin len) rs in
    subst P (sym (f ∙ ap (λ o. rows ++ o) e))
    (All-append (IsWithin len) rows (rows_behind cut own) h (behind_within len cut own k))

pub within_done : (len : ℕ) (rows rows' own : List Row) → All (IsWithin len) rows → All (IsWithin len) own
    → rows' ≡ rows ++ own → All (IsWithin len) rows'
within_done len rows rows' own h k f =
    let P : List Row → Type 0 = λ rs. All (IsWithin len) rs in
    subst P (sym f) (All-append (IsWithin len) rows own h k)

pub shape_more : (frame : Frame) (items : List Item) (b : Bool) (start end : ℕ) (rows rows' own own' : List Row)
    (cut : Item) → start ≤ end → end < length items → All Whole (slice_range items start end)
    → All Cutting (slice_range items end (end + 1)) → cut ≡ get_or items end cut
    → OwnLines frame b false (slice_range items start end) (map (line_at items) own) → own' ≡ rows_behind cut own
    → rows' ≡ rows ++ own'
    → ((more : List Line) → HasLines frame b (drop start items) more
    → HasLines frame true items (map (line_at items) rows ++ more))
    → (more : List Line) → HasLines frame false (drop (end + 1) items) more
    → HasLines frame true items (map (line_at items) rows' ++ more)
shape_more frame items b start end rows rows' own own' cut on there whole cutting is ours e f so_far more h =
    let segment : List Item = slice_range items start end in
    let f' : Row → Line = line_at items in
    let parts : drop start items ≡ segment ++ cut ∷ drop (end + 1) items =
    drop_split items start end on
    ∙ ap (λ l. segment ++ l) (drop_more items end cut there ∙ ap (λ i. i ∷ drop (end + 1) items) (sym is)) in
    let cuts : is_break cut ≡ true =
    subst Cutting (sym is)
    (at_slice Cutting items end (end + 1) end cut cutting (omega arith) (omega arith) (omega arith)) in
    let lines : List Line = behind_cut cut (or_empty b false ours.words) in
    let same : map f' rows' ≡ map f' rows ++ lines =
    ap (map f') (f ∙ ap (λ o. rows ++ o) e) ∙ map-append f' rows (rows_behind cut own)
    ∙ ap (λ l. map f' rows ++ l) (behind_map items cut own ∙ ap (behind_cut cut) ours.made) in
    let P : List Line → Type 0 = λ l. HasLines frame true items l in
    subst P (sym (ap (λ l. l ++ more) same ∙ append_assoc (map f' rows) lines more))
    (so_far (lines ++ more)
    (then_cut b (drop start items) segment cut (drop (end + 1) items) ours.words more parts whole cuts ours.filled h))

pub shape_done : (frame : Frame) (items : List Item) (b : Bool) (start end : ℕ) (rows rows' own : List Row)
    → start ≤ end → end ≤ length items → length items ≤ end → All Whole (slice_range items start end)
    → OwnLines frame b true (slice_range items start end) (map (line_at items) own) → rows' ≡ rows ++ own
    → ((more : List Line) → HasLines frame b (drop start items) more
    → HasLines frame true items (map (line_at items) rows ++ more))
    → HasLines frame true items (map (line_at items) rows')
shape_done frame items b start end rows rows' own on within past whole ours f so_far =
    let segment : List Item = slice_range items start end in
    let f' : Row → Line = line_at items in
    let all : segment ≡ drop start items =
    take_all (end - start) (drop start items) (omega (arith, length-drop start items)) in
    let Q : List Item → Type 0 = λ is. HasLines frame b is (or_empty b true ours.words) in
    let P : List Line → Type 0 = λ l. HasLines frame true items l in
    let same : map f' rows' ≡ map f' rows ++ or_empty b true ours.words =
    ap (map f') f ∙ map-append f' rows own ∙ ap (λ l. map f' rows ++ l) ours.made in
    subst P (sym same)
    (so_far (or_empty b true ours.words) (subst Q all (last_segment b segment ours.words whole ours.filled)))

-- the lines of a paragraph, from what each call returned
pub laid_out : (p : Paragraph) (width least : ℕ) (frame : Frame) (shown given : List Item) (rows lent : List Row)
    (lines : List Line) → frame ≡ line_frame p width → least ≡ least_width frame
    → shown ≡ map (capped_item least) p.items → given ≡ shown
    → HasLines frame true given (map (line_at given) rows) → lent ≡ rows
    → lines ≡ map (line_at shown) lent → IsShape p width lines
laid_out p width least frame shown given rows lent lines f e s g h l m =
    let all : given ≡ items_shown p width = g ∙ s ∙ ap (λ n. map (capped_item n) p.items) (e ∙ ap least_width f) in
    let same : lines ≡ map (line_at given) rows = m ∙ ap₂ (λ is rs. map (line_at is) rs) (sym g) l in
    let P : Frame → List Item → List Line → Type 0 = λ a is ls. HasLines a true is ls in
    subst (λ (a : Frame). P a (items_shown p width) lines) f
    (subst (λ (is : List Item). P frame is lines) all (subst (P frame given) (sym same) h))
