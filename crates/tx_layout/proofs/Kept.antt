-- The lines of a paragraph hold its glyphs, chances and gaps, each once and in order.
use Rattle.std.proofs.Common.{◌≡◌, ◌≢◌, ℕ, zero, suc, ◌-◌, ◌<◌, ◌≤◌, List, [], ◌∷◌, ◌++◌, length, drop, filter}
use Rattle.std.proofs.Common.{replicate, cond, get_or, refl, sym, ap, ap₂, ◌∙◌, subst, arith, Bool, true, false}
use Rattle.std.proofs.Common.{append-nil}
use Rattle.std.specs.Prelude.{slice_range, All}
use Rattle.std.specs.List.{flat_map}
use Rattle.std.proofs.lemmas.Grind.{flat_map-append}
use Rattle.std.proofs.lemmas.List.{length-map}
use Rattle.std.proofs.lemmas.List.Folds.{drop_split}
use Rattle.std.proofs.lemmas.List.Elements.{All-head, All-tail, filter-append}
use Rattle.tx_lines.specs.declared.cut.Cut.{Cut}
use Rattle.tx_lines.specs.Cuts.{Partitions}
use Rattle.tx_lines.proofs.Places.{forward}
use Rattle.tx_items.specs.declared.drawing.Item.{Item}
use Rattle.tx_items.specs.declared.drawing.Item.TheVariants.{Glyph, Space, Chance, Gap, Break, PageEnd, Down}
use Rattle.tx_layout.specs.declared.measures.Side.{Side}
use Rattle.tx_layout.specs.declared.measures.Side.TheVariants.{Left, Center, Right, Justify}
use Rattle.tx_layout.specs.declared.measures.Frame.{Frame}
use Rattle.tx_layout.specs.declared.pieces.Span.{Span}
use Rattle.tx_layout.specs.declared.layout.Line.{Line}
use Rattle.tx_layout.specs.Frames.{least_width}
use Rattle.tx_items.specs.Cells.{cells_across}
use Rattle.tx_layout.specs.Words.{Blank, IsSpan, SpansFrom}
use Rattle.tx_layout.specs.Segments.{piece_of, no_span, lines_of, put_in, are_none, width_at, HasWords}
use Rattle.tx_layout.specs.Spread.{spread}
use Rattle.tx_layout.specs.Shapes.{is_break, empty_line, page_ending, with_last, behind_cut, or_empty, is_ink, is_ink_cluster}
use Rattle.tx_layout.specs.Shapes.{HasLines, last_segment, then_cut}
use Rattle.tx_layout.proofs.Spans.{rises}
use Rattle.tx_layout.proofs.Spreading.{spread_keeps}

abbrev on_lines : List Line → List Item
on_lines lines = flat_map (λ line. line.items) lines

-- ---- the pieces of a segment

-- where the spaces before a piece begin
abbrev pub place : ℕ → List Span → ℕ → ℕ
place at ss zero = at
place at [] (suc k) = at
place at (s ∷ ss) (suc k) = place s.to ss k

pub span_at : (least : ℕ) (items : List Item) (at : ℕ) (ss : List Span) (k : ℕ) (d : Span) → SpansFrom least items at ss
    → k < length ss → ((get_or ss k d).spaces ≡ place at ss k) × IsSpan least items (get_or ss k d)
span_at least items at [] k d h lt = absurd (omega arith)
span_at least items at (s ∷ ss) zero d h lt = (h.0, h.1)
span_at least items at (s ∷ ss) (suc k) d h lt = span_at least items s.to ss k d h.2 (omega arith)

blank_end : (least : ℕ) (items : List Item) (at : ℕ) (ss : List Span) → SpansFrom least items at ss
    → All Blank (drop (place at ss (length ss)) items)
blank_end least items at [] h = h
blank_end least items at (s ∷ ss) h = blank_end least items s.to ss h.2

pub place_behind : (at : ℕ) (ss : List Span) (k : ℕ) (d : Span) → k < length ss
    → place at ss (suc k) ≡ (get_or ss k d).to
place_behind at [] k d lt = absurd (omega arith)
place_behind at (s ∷ ss) zero d lt = refl
place_behind at (s ∷ ss) (suc k) d lt = place_behind s.to ss k d (omega arith)

-- ---- what is added between segments

single_kept : (a b : Bool) (lines : List Line) → on_lines (or_empty a b lines) ≡ on_lines lines
single_kept true true [] = refl
single_kept true false [] = refl
single_kept false true [] = refl
single_kept false false [] = refl
single_kept a b (x ∷ xs) = refl

last_kept : (lines : List Line) → on_lines (with_last page_ending lines) ≡ on_lines lines
last_kept [] = refl
last_kept (x ∷ []) = refl
last_kept (x ∷ (y ∷ ys)) = ap (λ l. x.items ++ l) (last_kept (y ∷ ys))

empties_kept : (n : ℕ) → on_lines (replicate n empty_line) ≡ []
empties_kept zero = refl
empties_kept (suc n) = empties_kept n

behind_kept : (cut : Item) (lines : List Line) → on_lines (behind_cut cut lines) ≡ on_lines lines
behind_kept (Glyph d) lines = refl
behind_kept (Space d) lines = refl
behind_kept (Chance d) lines = refl
behind_kept (Gap n) lines = refl
behind_kept Break lines = refl
behind_kept PageEnd lines = last_kept lines
behind_kept (Down n) lines =
    flat_map-append (λ (line : Line). line.items) lines (replicate n empty_line)
    ∙ ap (λ l. on_lines lines ++ l) (empties_kept n) ∙ append-nil (on_lines lines)

-- ---- what passes a test

-- a test that no space passes and no cut, and that is left as it is where lines are spread
module _ (q : Item → Bool) (blank_dry : (i : Item) → Blank i → q i ≡ false)
    (cut_dry : (i : Item) → is_break i ≡ true → q i ≡ false) (frame : Frame)
    (same : (is_last : Bool) (free : ℕ) (xs : List Item)
    → filter q (spread (put_in frame.side is_last free) xs) ≡ filter q xs) where
  abbrev ink : List Item → List Item
  ink items = filter q items

  dry_first : (i : Item) (xs : List Item) → q i ≡ false → ink (i ∷ xs) ≡ ink xs
  dry_first i xs e = ap (λ b. cond b (i ∷ ink xs) (ink xs)) e

  blanks_dry : (xs : List Item) → All Blank xs → ink xs ≡ []
  blanks_dry [] h = refl
  blanks_dry (x ∷ xs) h =
      dry_first x xs (blank_dry x (All-head Blank x xs h)) ∙ blanks_dry xs (All-tail Blank x xs h)

  -- from the pieces at a place on
  words_kept : (b : Bool) (least : ℕ) (items : List Item) (spans : List Span) (cuts : List Cut) (k : ℕ)
      → SpansFrom least items 0 spans → Partitions cuts k (length spans)
      → ink (on_lines (lines_of frame b items spans cuts)) ≡ ink (drop (place 0 spans k) items)
  words_kept b least items spans [] k h order =
      sym (ap (λ n. ink (drop (place 0 spans n) items)) order
      ∙ blanks_dry (drop (place 0 spans (length spans)) items) (blank_end least items 0 spans h))
  words_kept b least items spans (cut ∷ cuts) k h order =
      let begins : cut.from ≡ k = order.0 in
      let some : k < cut.to = order.1 in
      let ahead = forward cuts cut.to (length spans) order.2 in
      let first : Span = get_or spans cut.from no_span in
      let last : Span = get_or spans (cut.to - 1) no_span in
      let own = span_at least items 0 spans cut.from no_span h (omega arith) in
      let at : first.spaces ≡ place 0 spans k = own.0 ∙ ap (place 0 spans) begins in
      let on : first.spaces ≤ first.from = own.1.onward in
      let rise = rises least items spans h cut.from (cut.to - 1) no_span no_span (omega arith) (omega arith) in
      let le : first.from ≤ last.to = rise.0 in
      let next : suc (cut.to - 1) ≡ cut.to = omega arith in
      let behind : place 0 spans cut.to ≡ last.to =
      ap (place 0 spans) (sym next) ∙ place_behind 0 spans (cut.to - 1) no_span (omega arith) in
      let line : List Item = slice_range items first.from last.to in
      let rest : List Item = drop last.to items in
      let later = words_kept false least items spans cuts cut.to h order.2 in
      let spaces : List Item = slice_range items first.spaces first.from in
      let whole : drop (place 0 spans k) items ≡ spaces ++ (line ++ rest) =
      ap (λ n. drop n items) (sym at) ∙ drop_split items first.spaces first.from on
      ∙ ap (λ l. spaces ++ l) (drop_split items first.from last.to le) in
      let shown : ink (drop (place 0 spans k) items) ≡ ink line ++ ink rest =
      ap ink whole ∙ filter-append q spaces (line ++ rest)
      ∙ ap (λ l. l ++ ink (line ++ rest)) (blanks_dry spaces own.1.blank) ∙ filter-append q line rest in
      filter-append q (spread (put_in frame.side (are_none cuts) (width_at frame b - cells_across line)) line)
      (on_lines (lines_of frame false items spans cuts))
      ∙ ap (λ l. l ++ ink (on_lines (lines_of frame false items spans cuts)))
      (same (are_none cuts) (width_at frame b - cells_across line) line)
      ∙ ap (λ l. ink line ++ l) (later ∙ ap (λ n. ink (drop n items)) behind) ∙ sym shown

  segment_kept : (b : Bool) (items : List Item) (lines : List Line) → HasWords frame b items lines
      → ink (on_lines lines) ≡ ink items
  segment_kept b items lines h =
      ap (λ l. ink (on_lines l)) h.made
      ∙ words_kept b (least_width frame) items h.spans h.cuts 0 h.spelled
      (subst (Partitions h.cuts 0) (length-map h.spans (piece_of items)) h.filled.in_order)

  pub shape_kept : (b : Bool) (items : List Item) (lines : List Line) → HasLines frame b items lines
      → ink (on_lines lines) ≡ ink items
  shape_kept b items lines (last_segment b' is words w h) =
      ap ink (single_kept b true words) ∙ segment_kept b items words h
  shape_kept b items lines (then_cut b' is segment cut rest words others parts w cuts h more) =
      let own : List Line = or_empty b false words in
      let here : on_lines (behind_cut cut own) ≡ on_lines words = behind_kept cut own ∙ single_kept b false words in
      let first : ink (on_lines words) ≡ ink segment = segment_kept b segment words h in
      let later : ink (on_lines others) ≡ ink rest = shape_kept false rest others more in
      let whole : ink items ≡ ink segment ++ ink rest =
      ap ink parts ∙ filter-append q segment (cut ∷ rest)
      ∙ ap (λ l. ink segment ++ l) (dry_first cut rest (cut_dry cut cuts)) in
      ap ink (flat_map-append (λ (line : Line). line.items) (behind_cut cut own) others)
      ∙ filter-append q (on_lines (behind_cut cut own)) (on_lines others)
      ∙ ap₂ (λ k l. k ++ l) (ap ink here ∙ first) later ∙ sym whole

-- ---- clusters, and gaps too where no line is spread

blank_not : (i : Item) → Blank i → is_ink i ≡ false
blank_not (Glyph d) h = let no : false ≡ true = h in cc
blank_not (Space d) h = refl
blank_not (Chance d) h = let no : false ≡ true = h in cc
blank_not (Gap n) h = let no : false ≡ true = h in cc
blank_not Break h = refl
blank_not PageEnd h = refl
blank_not (Down n) h = refl

cut_not : (i : Item) → is_break i ≡ true → is_ink i ≡ false
cut_not (Glyph d) h = let no : false ≡ true = h in cc
cut_not (Space d) h = refl
cut_not (Chance d) h = let no : false ≡ true = h in cc
cut_not (Gap n) h = let no : false ≡ true = h in cc
cut_not Break h = refl
cut_not PageEnd h = refl
cut_not (Down n) h = refl

-- a cluster is ink
cluster_ink : (i : Item) → is_ink i ≡ false → is_ink_cluster i ≡ false
cluster_ink (Glyph d) h = h
cluster_ink (Space d) h = refl
cluster_ink (Chance d) h = h
cluster_ink (Gap n) h = refl
cluster_ink Break h = refl
cluster_ink PageEnd h = refl
cluster_ink (Down n) h = refl

nothing_put : (side : Side) (is_last : Bool) (free : ℕ) → side ≢ Justify → put_in side is_last free ≡ 0
nothing_put Left is_last free h = refl
nothing_put Center is_last free h = refl
nothing_put Right is_last free h = refl
nothing_put Justify is_last free h = absurd (h refl)

pub clusters_kept : (frame : Frame) (b : Bool) (items : List Item) (lines : List Line) → HasLines frame b items lines
    → filter is_ink_cluster (on_lines lines) ≡ filter is_ink_cluster items
clusters_kept frame =
    shape_kept is_ink_cluster (λ i h. cluster_ink i (blank_not i h)) (λ i h. cluster_ink i (cut_not i h)) frame
    (λ is_last free xs. spread_keeps is_ink_cluster (λ n. refl) (put_in frame.side is_last free) xs)

pub gaps_kept : (frame : Frame) → frame.side ≢ Justify → (b : Bool) (items : List Item) (lines : List Line)
    → HasLines frame b items lines → filter is_ink (on_lines lines) ≡ filter is_ink items
gaps_kept frame h =
    shape_kept is_ink blank_not cut_not frame
    (λ is_last free xs. ap (λ n. filter is_ink (spread n xs)) (nothing_put frame.side is_last free h))
