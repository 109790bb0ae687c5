-- Paragraphs have at most as many items, and as many lines, as they weigh.
use Rattle.std.proofs.Common.{◌≡◌, ℕ, ◌+◌, ◌<◌, ◌≤◌, Bool, true, false, List, [], ◌∷◌, ◌++◌, map, length}
use Rattle.std.proofs.Common.{replicate, refl, ap, ◌∙◌, arith, length-append}
use Rattle.std.specs.List.{flat_map}
use Rattle.std.proofs.lemmas.List.{length-map, length-replicate}
use Rattle.std.proofs.lemmas.List.Sums.{sum_by-cons, sum_by-append}
use Rattle.tx_lines.specs.declared.cut.Cut.{Cut}
use Rattle.tx_lines.specs.Cuts.{Partitions}
use Rattle.tx_items.specs.declared.drawing.Item.{Item}
use Rattle.tx_items.specs.declared.drawing.Item.TheVariants.{Glyph, Space, Chance, Gap, Break, PageEnd, Down}
use Rattle.tx_items.specs.declared.drawing.Paragraph.{Paragraph}
use Rattle.tx_layout.specs.declared.measures.Frame.{Frame}
use Rattle.tx_layout.specs.declared.pieces.Span.{Span}
use Rattle.tx_layout.specs.declared.layout.Line.{Line}
use Rattle.tx_layout.specs.Frames.{line_frame, least_width}
use Rattle.tx_layout.specs.Words.{capped_item}
use Rattle.tx_layout.specs.Segments.{piece_of, lines_of, HasWords}
use Rattle.tx_layout.specs.Shapes.{empty_line, page_ending, with_last, behind_cut, or_empty, items_shown, HasLines}
use Rattle.tx_layout.specs.Shapes.{last_segment, then_cut}
use Rattle.tx_layout.proofs.Spans.{few_spans}
use Rattle.tx_view_form.specs.Views.{AreLines, no_lines, lines_then}
use Rattle.tx_view_form.specs.Weights.{item_weight, items_weight, weight_of}

abbrev paragraph_weight : Paragraph → ℕ
paragraph_weight p = 1 + items_weight p.items

-- ---- items

some_weight : (x : Item) → 1 ≤ item_weight x
some_weight (Glyph d) = omega arith
some_weight (Space d) = omega arith
some_weight (Chance d) = omega arith
some_weight (Gap n) = omega arith
some_weight Break = omega arith
some_weight PageEnd = omega arith
some_weight (Down n) = omega arith

few_items : (xs : List Item) → length xs ≤ items_weight xs
few_items [] = omega arith
few_items (x ∷ xs) =
    let rest : length xs ≤ items_weight xs = few_items xs in
    let first : 1 ≤ item_weight x = some_weight x in
    let whole : items_weight (x ∷ xs) ≡ item_weight x + items_weight xs = sum_by-cons item_weight x xs in
    omega arith

pub all_items : (ps : List Paragraph) → length (flat_map (λ p. p.items) ps) ≤ weight_of ps
all_items [] = omega arith
all_items (p ∷ ps) =
    let others : List Item = flat_map (λ (q : Paragraph). q.items) ps in
    let rest : length others ≤ weight_of ps = all_items ps in
    let own : length p.items ≤ items_weight p.items = few_items p.items in
    let long : length (p.items ++ others) ≡ length p.items + length others = length-append p.items others in
    let whole : weight_of (p ∷ ps) ≡ paragraph_weight p + weight_of ps = sum_by-cons paragraph_weight p ps in
    omega arith

-- ---- lines of words

few_cuts : (cuts : List Cut) (from to : ℕ) → Partitions cuts from to → from + length cuts ≤ to
few_cuts [] from to h = let same : from ≡ to = h in omega arith
few_cuts (cut ∷ cuts) from to h =
    let some : from < cut.to = h.1 in
    let rest : cut.to + length cuts ≤ to = few_cuts cuts cut.to to h.2 in
    omega arith

line_each : (frame : Frame) (b : Bool) (items : List Item) (spans : List Span) (cuts : List Cut)
    → length (lines_of frame b items spans cuts) ≡ length cuts
line_each frame b items spans [] = refl
line_each frame b items spans (cut ∷ cuts) =
    let rest : length (lines_of frame false items spans cuts) ≡ length cuts = line_each frame false items spans cuts in
    omega arith

few_words : (frame : Frame) (b : Bool) (items : List Item) (lines : List Line) → HasWords frame b items lines
    → length lines ≤ length items
few_words frame b items lines h =
    let each : length lines ≡ length h.cuts = ap length h.made ∙ line_each frame b items h.spans h.cuts in
    let pieces : length (map (piece_of items) h.spans) ≡ length h.spans = length-map h.spans (piece_of items) in
    let cut : 0 + length h.cuts ≤ length (map (piece_of items) h.spans) =
    few_cuts h.cuts 0 (length (map (piece_of items) h.spans)) h.filled.in_order in
    let spelled : 0 + length h.spans ≤ length items =
    few_spans (least_width frame) items 0 h.spans h.spelled (omega arith) in
    omega arith

-- ---- lines of a paragraph

few_single : (a b : Bool) (lines : List Line) → length (or_empty a b lines) ≤ 1 + length lines
few_single true true [] = omega arith
few_single true false [] = omega arith
few_single false true [] = omega arith
few_single false false [] = omega arith
few_single a b (x ∷ xs) = omega arith

same_last : (lines : List Line) → length (with_last page_ending lines) ≡ length lines
same_last [] = refl
same_last (x ∷ []) = refl
same_last (x ∷ (y ∷ ys)) =
    let rest : length (with_last page_ending (y ∷ ys)) ≡ length (y ∷ ys) = same_last (y ∷ ys) in
    omega arith

few_behind : (cut : Item) (lines : List Line) → length (behind_cut cut lines) + 1 ≤ length lines + item_weight cut
few_behind (Glyph d) lines = omega arith
few_behind (Space d) lines = omega arith
few_behind (Chance d) lines = omega arith
few_behind (Gap n) lines = omega arith
few_behind Break lines = omega arith
few_behind PageEnd lines = let same = same_last lines in omega arith
few_behind (Down n) lines =
    let long : length (lines ++ replicate n empty_line) ≡ length lines + length (replicate n empty_line) =
    length-append lines (replicate n empty_line) in
    let empties : length (replicate n empty_line) ≡ n = length-replicate n empty_line in
    omega arith

few_lines : (frame : Frame) (b : Bool) (items : List Item) (lines : List Line) → HasLines frame b items lines
    → length lines ≤ 1 + items_weight items
few_lines frame b items lines (last_segment b' is words w h) =
    let single : length (or_empty b true words) ≤ 1 + length words = few_single b true words in
    let own : length words ≤ length items = few_words frame b items words h in
    let weight : length items ≤ items_weight items = few_items items in
    omega arith
few_lines frame b items lines (then_cut b' is segment cut rest words others parts w cuts h more) =
    let own : List Line = or_empty b false words in
    let single : length own ≤ 1 + length words = few_single b false words in
    let spelled : length words ≤ length segment = few_words frame b segment words h in
    let front : length segment ≤ items_weight segment = few_items segment in
    let here : length (behind_cut cut own) + 1 ≤ length own + item_weight cut = few_behind cut own in
    let later : length others ≤ 1 + items_weight rest = few_lines frame false rest others more in
    let long : length (behind_cut cut own ++ others) ≡ length (behind_cut cut own) + length others =
    length-append (behind_cut cut own) others in
    let whole : items_weight items ≡ items_weight segment + (item_weight cut + items_weight rest) =
    ap items_weight parts ∙ sum_by-append item_weight segment (cut ∷ rest)
    ∙ ap (λ n. items_weight segment + n) (sum_by-cons item_weight cut rest) in
    omega arith

capped_weight : (least : ℕ) (x : Item) → item_weight (capped_item least x) ≡ item_weight x
capped_weight least (Glyph d) = refl
capped_weight least (Space d) = refl
capped_weight least (Chance d) = refl
capped_weight least (Gap n) = refl
capped_weight least Break = refl
capped_weight least PageEnd = refl
capped_weight least (Down n) = refl

shown_weight : (least : ℕ) (xs : List Item) → items_weight (map (capped_item least) xs) ≡ items_weight xs
shown_weight least [] = refl
shown_weight least (x ∷ xs) =
    let rest : items_weight (map (capped_item least) xs) ≡ items_weight xs = shown_weight least xs in
    let own : item_weight (capped_item least x) ≡ item_weight x = capped_weight least x in
    let left : items_weight (capped_item least x ∷ map (capped_item least) xs)
    ≡ item_weight (capped_item least x) + items_weight (map (capped_item least) xs) =
    sum_by-cons item_weight (capped_item least x) (map (capped_item least) xs) in
    let right : items_weight (x ∷ xs) ≡ item_weight x + items_weight xs = sum_by-cons item_weight x xs in
    omega arith

pub all_lines : (width : ℕ) (ps : List Paragraph) (lines : List Line) → AreLines width ps lines
    → length lines ≤ weight_of ps
all_lines width ps lines no_lines = omega arith
all_lines width ps lines (lines_then p qs own others shape rest) =
    let first : length own ≤ 1 + items_weight (items_shown p width) =
    few_lines (line_frame p width) true (items_shown p width) own shape in
    let same : items_weight (items_shown p width) ≡ items_weight p.items =
    shown_weight (least_width (line_frame p width)) p.items in
    let later : length others ≤ weight_of qs = all_lines width qs others rest in
    let long : length (own ++ others) ≡ length own + length others = length-append own others in
    let whole : weight_of (p ∷ qs) ≡ paragraph_weight p + weight_of qs = sum_by-cons paragraph_weight p qs in
    omega arith
