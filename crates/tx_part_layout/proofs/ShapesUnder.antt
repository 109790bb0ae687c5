-- Paragraphs whose items have their origins under a path have the lines that they have without it, with their items'
-- origins under it.
use Rattle.std.proofs.Common.{◌≡◌, ℕ, zero, suc, ◌+◌, ◌-◌, ◌/◌, ◌%◌, min, ◌≤◌, ◌<◌, inl, inr, Bool, true, false, not, ◌&&◌, cond}
use Rattle.std.proofs.Common.{List, [], ◌∷◌, ◌++◌, map, take, drop, get_or, replicate}
use Rattle.std.proofs.Common.{refl, ap, ap₂, sym, ◌∙◌, subst, arith}
use Rattle.std.specs.Prelude.{slice_range, All}
use Rattle.std.specs.List.{drop-map}
use Rattle.std.proofs.lemmas.List.{take-map, length-map, map-append}
use Rattle.std.proofs.lemmas.List.Elements.{All-map}
use Rattle.std.proofs.lemmas.List.Sums.{sum_by-cons}
use Rattle.tx_items.specs.declared.drawing.Item.{Item}
use Rattle.tx_items.specs.declared.drawing.Item.TheVariants.{Glyph, Space, Chance, Gap, Break, PageEnd, Down}
use Rattle.tx_items.specs.declared.drawing.Paragraph.{Paragraph}
use Rattle.tx_layout.specs.declared.measures.Frame.{Frame}
use Rattle.tx_layout.specs.declared.pieces.Span.{Span}
use Rattle.tx_layout.specs.declared.layout.Line.{Line}
use Rattle.tx_layout.specs.Frames.{line_frame, least_width}
use Rattle.tx_items.specs.Cells.{item_cells, cells_across}
use Rattle.tx_layout.specs.Words.{capped_item, is_blank_item, is_chance_item, Blank}
use Rattle.tx_layout.specs.Words.{IsSpan, SpansFrom}
use Rattle.tx_layout.specs.Spread.{one_if_blank, spaces_among, gap_of, spread_by, spread}
use Rattle.tx_layout.specs.Segments.{shift, piece_of, width_at, indent_at, line_with, no_span, line_of, lines_of}
use Rattle.tx_layout.specs.Segments.{put_in, are_none, HasWords}
use Rattle.tx_layout.specs.Shapes.{is_break, Whole, empty_line, page_ending, with_last, behind_cut, or_empty, HasLines}
use Rattle.tx_layout.specs.Shapes.{last_segment, then_cut, items_shown, IsShape}
use Rattle.tx_view_form.specs.Views.{AreLines, no_lines, lines_then}
use Rattle.tx_part_items.specs.ItemsUnder.{item_under, paragraph_under}
use Rattle.tx_part_layout.specs.LinesUnder.{line_under}

map_copies : {X Y : Type 0} (f : X → Y) (n : ℕ) (x : X) → map f (replicate n x) ≡ replicate n (f x)
map_copies f zero x = refl
map_copies f (suc n) x = ap (λ ys. f x ∷ ys) (map_copies f n x)

module _ (base : List ℕ) where
  abbrev items_under : List Item → List Item
  items_under items = map (item_under base) items

  abbrev lines_under : List Line → List Line
  lines_under lines = map (line_under base) lines

  -- ---- items

  same_cells : (i : Item) → item_cells (item_under base i) ≡ item_cells i
  same_cells (Glyph d) = refl
  same_cells (Space d) = refl
  same_cells (Chance d) = refl
  same_cells (Gap n) = refl
  same_cells Break = refl
  same_cells PageEnd = refl
  same_cells (Down n) = refl

  same_blank : (i : Item) → is_blank_item (item_under base i) ≡ is_blank_item i
  same_blank (Glyph d) = refl
  same_blank (Space d) = refl
  same_blank (Chance d) = refl
  same_blank (Gap n) = refl
  same_blank Break = refl
  same_blank PageEnd = refl
  same_blank (Down n) = refl

  same_chance : (i : Item) → is_chance_item (item_under base i) ≡ is_chance_item i
  same_chance (Glyph d) = refl
  same_chance (Space d) = refl
  same_chance (Chance d) = refl
  same_chance (Gap n) = refl
  same_chance Break = refl
  same_chance PageEnd = refl
  same_chance (Down n) = refl

  same_cut : (i : Item) → is_break (item_under base i) ≡ is_break i
  same_cut (Glyph d) = refl
  same_cut (Space d) = refl
  same_cut (Chance d) = refl
  same_cut (Gap n) = refl
  same_cut Break = refl
  same_cut PageEnd = refl
  same_cut (Down n) = refl

  capped_under : (least : ℕ) (i : Item) → capped_item least (item_under base i) ≡ item_under base (capped_item least i)
  capped_under least (Glyph d) = refl
  capped_under least (Space d) = refl
  capped_under least (Chance d) = refl
  capped_under least (Gap n) = refl
  capped_under least Break = refl
  capped_under least PageEnd = refl
  capped_under least (Down n) = refl

  all_capped : (least : ℕ) (items : List Item) →
      map (capped_item least) (items_under items) ≡ items_under (map (capped_item least) items)
  all_capped least [] = refl
  all_capped least (i ∷ items) = ap₂ (λ x xs. x ∷ xs) (capped_under least i) (all_capped least items)

  blank_under : (b : Bool) (items : List Item) → All (λ i. is_blank_item i ≡ b) items
      → All (λ i. is_blank_item i ≡ b) (items_under items)
  blank_under b items h =
      All-map (λ i. is_blank_item i ≡ b) (item_under base) items (λ k d lt. same_blank (get_or items k d) ∙ h k d lt)

  chance_under : (b : Bool) (items : List Item) → All (λ i. is_chance_item i ≡ b) items
      → All (λ i. is_chance_item i ≡ b) (items_under items)
  chance_under b items h =
      All-map (λ i. is_chance_item i ≡ b) (item_under base) items
      (λ k d lt. same_chance (get_or items k d) ∙ h k d lt)

  whole_under : (items : List Item) → All Whole items → All Whole (items_under items)
  whole_under items h =
      All-map Whole (item_under base) items (λ k d lt. same_cut (get_or items k d) ∙ h k d lt)

  cells_under : (items : List Item) → cells_across (items_under items) ≡ cells_across items
  cells_under [] = refl
  cells_under (i ∷ items) =
      sum_by-cons item_cells (item_under base i) (items_under items)
      ∙ ap₂ (λ m n. m + n) (same_cells i) (cells_under items)
      ∙ sym (sum_by-cons item_cells i items)

  -- ---- pieces

  slice_under : (items : List Item) (from to : ℕ) →
      slice_range (items_under items) from to ≡ items_under (slice_range items from to)
  slice_under items from to =
      ap (take (to - from)) (drop-map (item_under base) from items)
      ∙ take-map (item_under base) (to - from) (drop from items)

  cells_in : (items : List Item) (from to : ℕ) →
      cells_across (slice_range (items_under items) from to) ≡ cells_across (slice_range items from to)
  cells_in items from to = ap cells_across (slice_under items from to) ∙ cells_under (slice_range items from to)

  blank_in : (b : Bool) (items : List Item) (from to : ℕ) → All (λ i. is_blank_item i ≡ b) (slice_range items from to)
      → All (λ i. is_blank_item i ≡ b) (slice_range (items_under items) from to)
  blank_in b items from to h =
      subst (All (λ i. is_blank_item i ≡ b)) (sym (slice_under items from to))
      (blank_under b (slice_range items from to) h)

  chance_in : (b : Bool) (items : List Item) (from to : ℕ) → All (λ i. is_chance_item i ≡ b) (slice_range items from to)
      → All (λ i. is_chance_item i ≡ b) (slice_range (items_under items) from to)
  chance_in b items from to h =
      subst (All (λ i. is_chance_item i ≡ b)) (sym (slice_under items from to))
      (chance_under b (slice_range items from to) h)

  span_under : (least : ℕ) (items : List Item) (s : Span) → IsSpan least items s → IsSpan least (items_under items) s
  span_under least items s h = record {
    onward = h.onward;
    some = h.some;
    within = omega (arith, h.within, length-map items (item_under base));
    blank = blank_in true items s.spaces s.from h.blank;
    solid = blank_in false items s.from s.to h.solid;
    unbroken = chance_in false items s.from (s.to - 1) h.unbroken;
    narrow = subst (λ n. n ≤ least) (sym (cells_in items s.from s.to)) h.narrow;
    greatest = λ more.
        elim (h.greatest (omega (arith, more, length-map items (item_under base)))) [
          | inl blank ↦ inl (blank_in true items s.to (s.to + 1) blank)
          | inr (inl chance) ↦ inr (inl (chance_in true items (s.to - 1) s.to chance))
          | inr (inr wide) ↦ inr (inr (subst (λ n. least < n) (sym (cells_in items s.from (s.to + 1))) wide))
        ];
  }

  spans_under : (least : ℕ) (items : List Item) (at : ℕ) (ss : List Span) → SpansFrom least items at ss
      → SpansFrom least (items_under items) at ss
  spans_under least items at [] h =
      subst (All Blank) (sym (drop-map (item_under base) at items)) (blank_under true (drop at items) h)
  spans_under least items at (s ∷ ss) h =
      (h.0, span_under least items s h.1, spans_under least items s.to ss h.2)

  piece_under : (items : List Item) (s : Span) → piece_of (items_under items) s ≡ piece_of items s
  piece_under items s =
      ap₂ (λ m n. record { before = m; cells = n }) (cells_in items s.spaces s.from) (cells_in items s.from s.to)

  pieces_under : (items : List Item) (ss : List Span) →
      map (piece_of (items_under items)) ss ≡ map (piece_of items) ss
  pieces_under items [] = refl
  pieces_under items (s ∷ ss) = ap₂ (λ p ps. p ∷ ps) (piece_under items s) (pieces_under items ss)

  -- ---- lines, by cuts of tx_lines; this crate doesn't use it, so their type isn't named

  gap_under : (n : ℕ) → items_under (gap_of n) ≡ gap_of n
  gap_under zero = refl
  gap_under (suc n) = refl

  spread_pick : (b : Bool) (each more : ℕ) (x : Item) (xs : List Item) →
      spread_by each more (items_under xs) ≡ items_under (spread_by each more xs) →
      spread_by each (more - 1) (items_under xs) ≡ items_under (spread_by each (more - 1) xs) →
      cond b (item_under base x ∷ (gap_of (each + min more 1) ++ spread_by each (more - 1) (items_under xs)))
      (item_under base x ∷ spread_by each more (items_under xs))
      ≡ items_under (cond b (x ∷ (gap_of (each + min more 1) ++ spread_by each (more - 1) xs)) (x ∷ spread_by each more xs))
  spread_pick true each more x xs h k =
      ap (λ l. item_under base x ∷ l)
      (ap₂ (λ g l. g ++ l) (sym (gap_under (each + min more 1))) k
      ∙ sym (map-append (item_under base) (gap_of (each + min more 1)) (spread_by each (more - 1) xs)))
  spread_pick false each more x xs h k = ap (λ l. item_under base x ∷ l) h

  spread_by_under : (each more : ℕ) (items : List Item) →
      spread_by each more (items_under items) ≡ items_under (spread_by each more items)
  spread_by_under each more [] = refl
  spread_by_under each more (x ∷ xs) =
      ap (λ c. cond c (item_under base x ∷ (gap_of (each + min more 1) ++ spread_by each (more - 1) (items_under xs)))
      (item_under base x ∷ spread_by each more (items_under xs))) (same_blank x)
      ∙ spread_pick (is_blank_item x) each more x xs (spread_by_under each more xs) (spread_by_under each (more - 1) xs)

  spaces_under : (items : List Item) → spaces_among (items_under items) ≡ spaces_among items
  spaces_under [] = refl
  spaces_under (x ∷ xs) =
      sum_by-cons one_if_blank (item_under base x) (items_under xs)
      ∙ ap₂ (λ c n. cond c 1 0 + n) (same_blank x) (spaces_under xs) ∙ sym (sum_by-cons one_if_blank x xs)

  spread_under : (free : ℕ) (items : List Item) → spread free (items_under items) ≡ items_under (spread free items)
  spread_under zero items = refl
  spread_under (suc free) items =
      ap (λ n. spread_by (suc free / n) (suc free % n) (items_under items)) (spaces_under items)
      ∙ spread_by_under (suc free / spaces_among items) (suc free % spaces_among items) items

  line_with_under : (frame : Frame) (b e : Bool) (items : List Item) →
      line_with frame b e (items_under items) ≡ line_under base (line_with frame b e items)
  line_with_under frame b e items =
      ap {B = Line} (λ n. record {
        indent = indent_at frame b + shift frame.side (width_at frame b - n);
        items = spread (put_in frame.side e (width_at frame b - n)) (items_under items);
        page_end = false;
      }) (cells_under items)
      ∙ ap {B = Line} (λ l. record {
        indent = indent_at frame b + shift frame.side (width_at frame b - cells_across items);
        items = l;
        page_end = false;
      }) (spread_under (put_in frame.side e (width_at frame b - cells_across items)) items)

  line_of_under : (frame : Frame) (b e : Bool) (items : List Item) (spans : List Span) (cut : _) →
      line_of frame b e (items_under items) spans cut ≡ line_under base (line_of frame b e items spans cut)
  line_of_under frame b e items spans cut =
      let from : ℕ = (get_or spans cut.from no_span).from in
      let to : ℕ = (get_or spans (cut.to - 1) no_span).to in
      ap (line_with frame b e) (slice_under items from to) ∙ line_with_under frame b e (slice_range items from to)

  lines_of_under : (frame : Frame) (b : Bool) (items : List Item) (spans : List Span) (cuts : List _) →
      lines_of frame b (items_under items) spans cuts ≡ lines_under (lines_of frame b items spans cuts)
  lines_of_under frame b items spans [] = refl
  lines_of_under frame b items spans (cut ∷ cuts) =
      ap₂ (λ l ls. l ∷ ls) (line_of_under frame b (are_none cuts) items spans cut)
      (lines_of_under frame false items spans cuts)

  words_under : (frame : Frame) (b : Bool) (items : List Item) (lines : List Line) → HasWords frame b items lines
      → HasWords frame b (items_under items) (lines_under lines)
  words_under frame b items lines h = record {
    spans = h.spans;
    cuts = h.cuts;
    spelled = spans_under (least_width frame) items 0 h.spans h.spelled;
    filled = rw (pieces_under items h.spans) h.filled;
    made = ap lines_under h.made ∙ sym (lines_of_under frame b items h.spans h.cuts);
  }

  -- ---- segments

  single_under : (is_first is_last : Bool) (lines : List Line) →
      or_empty is_first is_last (lines_under lines) ≡ lines_under (or_empty is_first is_last lines)
  single_under is_first is_last [] = pick (is_last && not is_first)
    where
      pick : (b : Bool) → cond b [] (empty_line ∷ []) ≡ lines_under (cond b [] (empty_line ∷ []))
      pick true = refl
      pick false = refl
  single_under is_first is_last (line ∷ lines) = refl

  last_under : (lines : List Line) →
      with_last page_ending (lines_under lines) ≡ lines_under (with_last page_ending lines)
  last_under [] = refl
  last_under (x ∷ []) = refl
  last_under (x ∷ (y ∷ ys)) = ap (λ ls. line_under base x ∷ ls) (last_under (y ∷ ys))

  cut_under : (cut : Item) (lines : List Line) →
      behind_cut (item_under base cut) (lines_under lines) ≡ lines_under (behind_cut cut lines)
  cut_under (Glyph d) lines = refl
  cut_under (Space d) lines = refl
  cut_under (Chance d) lines = refl
  cut_under (Gap n) lines = refl
  cut_under Break lines = refl
  cut_under PageEnd lines = last_under lines
  cut_under (Down n) lines =
      ap (λ ls. lines_under lines ++ ls) (sym (map_copies (line_under base) n empty_line))
      ∙ sym (map-append (line_under base) lines (replicate n empty_line))

  segment_under : (is_first : Bool) (cut : Item) (words others : List Line) →
      behind_cut (item_under base cut) (or_empty is_first false (lines_under words)) ++ lines_under others ≡
      lines_under (behind_cut cut (or_empty is_first false words) ++ others)
  segment_under is_first cut words others =
      ap (λ ls. behind_cut (item_under base cut) ls ++ lines_under others) (single_under is_first false words)
      ∙ ap (λ ls. ls ++ lines_under others) (cut_under cut (or_empty is_first false words))
      ∙ sym (map-append (line_under base) (behind_cut cut (or_empty is_first false words)) others)

  has_lines_under : (frame : Frame) (b : Bool) (items : List Item) (lines : List Line) → HasLines frame b items lines
      → HasLines frame b (items_under items) (lines_under lines)
  has_lines_under frame b items lines (last_segment b' segment words whole h) =
      subst (HasLines frame b (items_under segment)) (single_under b true words)
      (last_segment b (items_under segment) (lines_under words) (whole_under segment whole)
      (words_under frame b segment words h))
  has_lines_under frame b items lines (then_cut b' is segment cut rest words others parts whole cuts h more) =
      subst (HasLines frame b (items_under items)) (segment_under b cut words others)
      (then_cut b (items_under items) (items_under segment) (item_under base cut) (items_under rest)
      (lines_under words) (lines_under others)
      (ap items_under parts ∙ map-append (item_under base) segment (cut ∷ rest)) (whole_under segment whole)
      (same_cut cut ∙ cuts) (words_under frame b segment words h) (has_lines_under frame false rest others more))

  -- ---- paragraphs

  shape_under : (p : Paragraph) (width : ℕ) (lines : List Line) → IsShape p width lines
      → IsShape (paragraph_under base p) width (lines_under lines)
  shape_under p width lines h =
      subst (λ items. HasLines (line_frame p width) true items (lines_under lines))
      (sym (all_capped (least_width (line_frame p width)) p.items))
      (has_lines_under (line_frame p width) true (items_shown p width) lines h)

  pub are_lines_under : (width : ℕ) (ps : List Paragraph) (lines : List Line) → AreLines width ps lines
      → AreLines width (map (paragraph_under base) ps) (lines_under lines)
  are_lines_under width ps lines no_lines = no_lines
  are_lines_under width ps lines (lines_then p qs own others shape behind) =
      subst (AreLines width (map (paragraph_under base) (p ∷ qs))) (sym (map-append (line_under base) own others))
      (lines_then (paragraph_under base p) (map (paragraph_under base) qs) (lines_under own) (lines_under others)
      (shape_under p width own shape) (are_lines_under width qs others behind))
