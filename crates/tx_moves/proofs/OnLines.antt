-- What holds of each item of paragraphs holds of each item on their lines.
use Rattle.std.proofs.Common.{◌≡◌, ℕ, zero, suc, ◌+◌, ◌-◌, ◌/◌, ◌%◌, min, Bool, true, false, not, ◌&&◌, cond, List, []}
use Rattle.std.proofs.Common.{◌∷◌, ◌++◌, drop, get_or, replicate, sym, subst}
use Rattle.std.specs.Prelude.{All, slice_range}
use Rattle.std.proofs.lemmas.List.Elements.{All-nil, All-cons, All-append, All-head, All-tail, All-replicate, All-take}
use Rattle.std.proofs.lemmas.List.Elements.{All-drop, All-map}
use Rattle.tx_items.specs.declared.drawing.Item.{Item}
use Rattle.tx_items.specs.declared.drawing.Item.TheVariants.{Glyph, Space, Chance, Gap, Break, PageEnd, Down}
use Rattle.tx_items.specs.declared.drawing.Paragraph.{Paragraph}
use Rattle.tx_lines.specs.declared.cut.Cut.{Cut}
use Rattle.tx_layout.specs.declared.measures.Frame.{Frame}
use Rattle.tx_layout.specs.declared.pieces.Span.{Span}
use Rattle.tx_layout.specs.declared.layout.Line.{Line}
use Rattle.tx_layout.specs.Frames.{line_frame, least_width}
use Rattle.tx_items.specs.Cells.{cells_across}
use Rattle.tx_layout.specs.Words.{capped_item, is_blank_item}
use Rattle.tx_layout.specs.Segments.{put_in, width_at, no_span, are_none, line_of, lines_of, HasWords}
use Rattle.tx_layout.specs.Spread.{spaces_among, gap_of, spread_by, spread}
use Rattle.tx_layout.specs.Shapes.{empty_line, page_ending, with_last, behind_cut, or_empty, HasLines, last_segment}
use Rattle.tx_layout.specs.Shapes.{then_cut, items_shown}
use Rattle.tx_view_form.specs.Views.{AreLines}
use Rattle.tx_moves.proofs.Parted.{IsParted, parted}

-- the parts of a list
pub all_front : {X : Type 0} (P : X → Type 0) (xs ys : List X) → All P (xs ++ ys) → All P xs
all_front P [] ys h = All-nil P
all_front P (x ∷ xs) ys h =
    All-cons P x xs (All-head P x (xs ++ ys) h) (all_front P xs ys (All-tail P x (xs ++ ys) h))

pub all_behind : {X : Type 0} (P : X → Type 0) (xs ys : List X) → All P (xs ++ ys) → All P ys
all_behind P [] ys h = h
all_behind P (x ∷ xs) ys h = all_behind P xs ys (All-tail P x (xs ++ ys) h)

module _ (P : Item → Type 0) (of_gap : (n : ℕ) → P (Gap n)) where
  abbrev OnLine : Line → Type 0
  OnLine line = All P line.items

  -- the gaps of a line that is spread
  gap_holds : (n : ℕ) → All P (gap_of n)
  gap_holds zero = All-nil P
  gap_holds (suc n) = All-cons P (Gap (suc n)) [] (of_gap (suc n)) (All-nil P)

  spread_pick : (b : Bool) (each more : ℕ) (x : Item) (xs : List Item) → P x → All P (spread_by each more xs)
      → All P (spread_by each (more - 1) xs)
      → All P (cond b (x ∷ (gap_of (each + min more 1) ++ spread_by each (more - 1) xs)) (x ∷ spread_by each more xs))
  spread_pick true each more x xs h k l =
      All-cons P x (gap_of (each + min more 1) ++ spread_by each (more - 1) xs) h
      (All-append P (gap_of (each + min more 1)) (spread_by each (more - 1) xs) (gap_holds (each + min more 1)) l)
  spread_pick false each more x xs h k l = All-cons P x (spread_by each more xs) h k

  spread_by_holds : (each more : ℕ) (items : List Item) → All P items → All P (spread_by each more items)
  spread_by_holds each more [] h = h
  spread_by_holds each more (x ∷ xs) h =
      spread_pick (is_blank_item x) each more x xs (All-head P x xs h)
      (spread_by_holds each more xs (All-tail P x xs h)) (spread_by_holds each (more - 1) xs (All-tail P x xs h))

  spread_holds : (free : ℕ) (items : List Item) → All P items → All P (spread free items)
  spread_holds zero items h = h
  spread_holds (suc free) items h =
      spread_by_holds (suc free / spaces_among items) (suc free % spaces_among items) items h

  words_hold : (frame : Frame) (b : Bool) (items : List Item) (spans : List Span) (cuts : List Cut) → All P items
      → All OnLine (lines_of frame b items spans cuts)
  words_hold frame b items spans [] h = All-nil OnLine
  words_hold frame b items spans (cut ∷ cuts) h =
      let from : ℕ = (get_or spans cut.from no_span).from in
      let to : ℕ = (get_or spans (cut.to - 1) no_span).to in
      let line : List Item = slice_range items from to in
      All-cons OnLine (line_of frame b (are_none cuts) items spans cut) (lines_of frame false items spans cuts)
      (spread_holds (put_in frame.side (are_none cuts) (width_at frame b - cells_across line)) line
      (All-take P (to - from) (drop from items) (All-drop P from items h)))
      (words_hold frame false items spans cuts h)

  segment_holds : (frame : Frame) (b : Bool) (items : List Item) (lines : List Line) → HasWords frame b items lines
      → All P items → All OnLine lines
  segment_holds frame b items lines h all =
      subst (All OnLine) (sym h.made) (words_hold frame b items h.spans h.cuts all)

  empty_holds : All OnLine (empty_line ∷ [])
  empty_holds = All-cons OnLine empty_line [] (All-nil P) (All-nil OnLine)

  single_holds : (is_first is_last : Bool) (lines : List Line) → All OnLine lines
      → All OnLine (or_empty is_first is_last lines)
  single_holds is_first is_last [] h = pick (is_last && not is_first)
    where
      pick : (b : Bool) → All OnLine (cond b [] (empty_line ∷ []))
      pick true = All-nil OnLine
      pick false = empty_holds
  single_holds is_first is_last (line ∷ lines) h = h

  last_holds : (lines : List Line) → All OnLine lines → All OnLine (with_last page_ending lines)
  last_holds [] h = h
  last_holds (x ∷ []) h = All-cons OnLine (page_ending x) [] (All-head OnLine x [] h) (All-nil OnLine)
  last_holds (x ∷ (y ∷ ys)) h =
      All-cons OnLine x (with_last page_ending (y ∷ ys)) (All-head OnLine x (y ∷ ys) h)
      (last_holds (y ∷ ys) (All-tail OnLine x (y ∷ ys) h))

  cut_holds : (cut : Item) (lines : List Line) → All OnLine lines → All OnLine (behind_cut cut lines)
  cut_holds (Glyph d) lines h = h
  cut_holds (Space d) lines h = h
  cut_holds (Chance d) lines h = h
  cut_holds (Gap n) lines h = h
  cut_holds Break lines h = h
  cut_holds PageEnd lines h = last_holds lines h
  cut_holds (Down n) lines h =
      All-append OnLine lines (replicate n empty_line) h (All-replicate OnLine n empty_line (All-nil P))

  shape_holds : (frame : Frame) (b : Bool) (items : List Item) (lines : List Line) → HasLines frame b items lines
      → All P items → All OnLine lines
  shape_holds frame b items lines (last_segment b' segment words whole h) all =
      single_holds b true words (segment_holds frame b items words h all)
  shape_holds frame b items lines (then_cut b' is segment cut rest words others parts whole cuts h more) all =
      let both : All P (segment ++ cut ∷ rest) = subst (All P) parts all in
      let own : All OnLine words = segment_holds frame b segment words h (all_front P segment (cut ∷ rest) both) in
      let behind : All P rest = All-tail P cut rest (all_behind P segment (cut ∷ rest) both) in
      All-append OnLine (behind_cut cut (or_empty b false words)) others
      (cut_holds cut (or_empty b false words) (single_holds b false words own))
      (shape_holds frame false rest others more behind)

  pub lines_hold : ((least : ℕ) (item : Item) → P item → P (capped_item least item)) → (width : ℕ) (ps : List Paragraph)
      (lines : List Line) → AreLines width ps lines → All (λ p. All P p.items) ps → All OnLine lines
  lines_hold kept width [] lines h all =
      let none : lines ≡ [] = parted width [] lines h in
      subst (All OnLine) (sym none) (All-nil OnLine)
  lines_hold kept width (p ∷ ps) lines h all =
      let parts : IsParted width p ps lines = parted width (p ∷ ps) lines h in
      let least : ℕ = least_width (line_frame p width) in
      let first : All P p.items = All-head (λ q. All P q.items) p ps all in
      let shown : All P (items_shown p width) =
      All-map P (capped_item least) p.items (λ k d lt. kept least (get_or p.items k d) (first k d lt)) in
      subst (All OnLine) (sym parts.is)
      (All-append OnLine parts.own parts.others
      (shape_holds (line_frame p width) true (items_shown p width) parts.own parts.shape shown)
      (lines_hold kept width ps parts.others parts.behind (All-tail (λ q. All P q.items) p ps all)))
