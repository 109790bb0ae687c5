-- The paths of the parts that show rows, where all units are evaluated and laid out.
use Rattle.std.proofs.Common.{◌≡◌, ℕ, zero, suc, ◌<◌, ◌⊎◌, inl, inr, List, [], ◌∷◌, ◌++◌, length, map}
use Rattle.std.proofs.Common.{Bool, true, false, Option, Some, refl, ap, ap₂, sym, subst, ◌∙◌, arith, append_assoc}
use Rattle.std.proofs.Common.{append-nil}
use Rattle.std.proofs.lemmas.List.{map-append}
use Rattle.std.proofs.lemmas.List.Concat.{flat_map-append}
use Rattle.std.proofs.lemmas.List.Elements.{All-nil, All-head, All-tail}
use Rattle.std.specs.List.{All, flat_map, cons_option}
use Rattle.std.specs.Option.{option_map}
use Rattle.std.specs.Prelude.{replicate, if◌then◌else◌}
use Rattle.tx_tree.specs.WideTree.{WideTree}
use Rattle.tx_exec_form.specs.declared.TheConstants.{MOST_LEVELS}
use Rattle.tx_exec_form.specs.Evaluated.{WideTrace}
use Rattle.tx_parts.specs.Openness.{Openness, Document, With, Shut, openness}
use Rattle.tx_units.specs.declared.kinds.Unit.{Unit as DocUnit}
use Rattle.tx_items.specs.declared.attributes.Attrs.{Attrs}
use Rattle.tx_items.specs.declared.drawing.Item.{Item}
use Rattle.tx_items.specs.declared.drawing.Paragraph.{Paragraph}
use Rattle.tx_items.specs.Drawing.{paragraph}
use Rattle.tx_items.specs.Shows.{Form, inline, listed, empty, begun, show, part_paragraphs}
use Rattle.tx_lines.specs.declared.cut.Cut.{Cut}
use Rattle.tx_lines.specs.Cuts.{Partitions}
use Rattle.tx_layout.specs.declared.measures.Frame.{Frame}
use Rattle.tx_layout.specs.declared.pieces.Span.{Span}
use Rattle.tx_layout.specs.declared.layout.Line.{Line}
use Rattle.tx_layout.specs.Frames.{line_frame, least_width}
use Rattle.tx_layout.specs.Words.{SpansFrom, Blank}
use Rattle.tx_layout.specs.Segments.{piece_of, HasWords}
use Rattle.tx_layout.specs.Shapes.{Whole, empty_line, or_empty, HasLines, last_segment, then_cut, IsShape}
use Rattle.tx_view_form.specs.Outcomes.{Moment, behind, beginning}
use Rattle.tx_view_form.specs.Started.{attributes_of}
use Rattle.tx_view_form.specs.Views.{AreLines, no_lines, lines_then}
use Rattle.tx_part_items.specs.ShownParts.{PartValue, ShownPart, PartsShown, own_paragraphs, own_value, kept_values}
use Rattle.tx_part_items.specs.ShownParts.{settings_set, settings_given_back, Shower, children_shown, shown_as}
use Rattle.tx_part_items.specs.ShownParts.{parts_shown, tree_shown}
use Rattle.tx_part_layout.specs.declared.laid.LaidPart.{LaidPart}
use Rattle.tx_part_layout.specs.declared.laid.PlacedPart.{PlacedPart}
use Rattle.tx_part_layout.specs.LaidParts.{IsLaidPart}
use Rattle.tx_bridge.specs.Entries.{Kept, fresh_from, outcome_of}
use Rattle.tx_bridge.specs.PartsKept.{KeptParts, fresh_parts, fresh_parts_from}
use Rattle.tx_unit_layout.specs.LaidAts.{LaidAt, laid_at, laid_ats, shown_at, shown_parts_of, is_by_parts}
use Rattle.tx_unit_layout.specs.LaidUnits.{IsLaid, AreLaidParts, AreOf}
use Rattle.tx_unit_layout.specs.Stretches.{part_stretch, own_stretch, line_parts}
use Rattle.tx_unit_layout.specs.Views.{unit_view}
use Rattle.tx_unit_layout.specs.declared.shown.Shown.{Shown}
use Rattle.tx_view.specs.Costs.{entry_at}
use Rattle.tx_view.specs.Laid.{AreLaid, laid_in}
use Rattle.tx_view.specs.RowParts.{AreLineParts, no_parts, part_then, shown_parts_at, AreUnitRowParts, AreRowParts}
use Rattle.tx_view.specs.RowParts.{no_units, unit_then}
use Rattle.tx_view.specs.Rows.{unit_row_parts, row_parts}
use Rattle.tx_view.specs.Stores.{attributes_from}
use Rattle.tx_view.specs.Units.{unit_views}
use Rattle.tx_view.proofs.UnitRows.{as_many_parts}

-- ---- a paragraph without an item has one line, whatever its attributes are

no_spans : (least : ℕ) (ss : List Span) → SpansFrom least [] 0 ss → ss ≡ []
no_spans least [] h = refl
no_spans least (s ∷ ss) h = let some = h.1.some in let within = h.1.within in absurd (omega arith)

no_cuts : (cuts : List Cut) → Partitions cuts 0 0 → cuts ≡ []
no_cuts [] h = refl
no_cuts (c ∷ cs) h = absurd (ends c.to cs h.1 h.2)
  where
    ends : (at : ℕ) (rest : List Cut) → 0 < at → Partitions rest at 0 → ⊥
    ends at [] lt is = omega (arith, lt, is)
    ends at (d ∷ ds) lt is = ends d.to ds (let more = is.1 in omega arith) is.2

no_words : (frame : Frame) (b : Bool) (words : List Line) → HasWords frame b [] words → words ≡ []
no_words frame b words h =
    let spans : h.spans ≡ [] = no_spans (least_width frame) h.spans h.spelled in
    let cuts : h.cuts ≡ [] = no_cuts h.cuts
    (subst (λ (ss : List Span). Partitions h.cuts 0 (length (map (piece_of []) ss))) spans h.filled.in_order) in
    cc

without_words : (frame : Frame) (b : Bool) → HasWords frame b [] []
without_words frame b = record {
  spans = [];
  cuts = [];
  spelled = All-nil Blank;
  filled = record { in_order = refl; fits = λ k line is. cc; full = λ k line next is also. cc };
  made = refl;
}

no_front : (segment : List Item) (cut : Item) (rest : List Item) → [] ≡ segment ++ cut ∷ rest → ⊥
no_front [] cut rest e = cc
no_front (i ∷ is) cut rest e = cc

one_empty : (frame : Frame) (ls : List Line) → HasLines frame true [] ls → ls ≡ empty_line ∷ []
one_empty frame ls (last_segment b is words w h) = ap (or_empty true true) (no_words frame true words h)
one_empty frame ls (then_cut b is segment cut rest words others parts w cuts h more) =
    absurd (no_front segment cut rest parts)

empty_shape : (frame : Frame) → HasLines frame true [] (empty_line ∷ [])
empty_shape frame = last_segment true [] [] (All-nil Whole) (without_words frame true)

one_line : (width : ℕ) (ps : List Paragraph) (ls : List Line) (a : Attrs) → AreLines width ps ls
    → ps ≡ paragraph [] a ∷ [] → ls ≡ empty_line ∷ []
one_line width ps ls a no_lines e = cc
one_line width ps ls a (lines_then p qs own others shape no_lines) e =
    let same : p ≡ paragraph [] a = cc in
    append-nil own
    ∙ one_empty (line_frame (paragraph [] a) width) own (subst (λ q. IsShape q width own) same shape)
one_line width ps ls a (lines_then p qs own others shape (lines_then q rs more rest next behind)) e = cc

blank_lines : (width : ℕ) (a : Attrs) → AreLines width (paragraph [] a ∷ []) (empty_line ∷ [])
blank_lines width a =
    lines_then (paragraph [] a) [] (empty_line ∷ []) [] (empty_shape (line_frame (paragraph [] a) width)) no_lines

-- ---- a part

for_any_end : (width : ℕ) (x : Form) (a b : Attrs) (ls : List Line) → AreLines width (part_paragraphs x a) ls
    → AreLines width (part_paragraphs x b) ls
for_any_end width (inline empty) a b ls h =
    subst (AreLines width (paragraph [] b ∷ [])) (sym (one_line width (paragraph [] a ∷ []) ls a h refl))
    (blank_lines width b)
for_any_end width (inline (begun c items)) a b ls h = h
for_any_end width (listed ps) a b ls h = h

-- ---- the values of parts, in order

abbrev InOrder : Shower → Type 0
InOrder s =
    (back : Attrs → Attrs) (a : Attrs) (ps : List PartValue) (t : WideTree)
    → map own_value (s back a ps t).each ++ (s back a ps t).left ≡ ps

children_first : (s : Shower) → InOrder s → (a : Attrs) (ps : List PartValue) (ts : List WideTree)
    → map own_value (children_shown s a ps ts).each ++ (children_shown s a ps ts).left ≡ ps
children_first s h a ps [] = refl
children_first s h a ps (t ∷ ts) =
    let first : PartsShown = s (λ b. b) a ps t in
    let others : PartsShown = children_shown s first.after first.left ts in
    ap (λ vs. vs ++ others.left) (map-append own_value first.each others.each)
    ∙ append_assoc (map own_value first.each) (map own_value others.each) others.left
    ∙ ap (λ vs. map own_value first.each ++ vs) (children_first s h first.after first.left ts)
    ∙ h (λ b. b) a ps t

shown_first : (o : Openness) (s : Shower) → InOrder s → InOrder (shown_as o s)
shown_first (Document ts) s h back a ps t = children_first s h a ps ts
shown_first (With settings b) s h back a ps t =
    h (λ c. back (settings_given_back settings a c)) (settings_set settings a) ps b
shown_first Shut s h back a [] t = refl
shown_first Shut s h back a (p ∷ ps) t = refl

parts_first : (k : ℕ) → InOrder (parts_shown k)
unfolding parts_shown
parts_first zero back a ps t = refl
parts_first (suc k) back a ps t = shown_first (openness t) (parts_shown k) (parts_first k) back a ps t

abbrev placed_value : PlacedPart → PartValue
placed_value p = record { path = p.path; value = p.laid.value.value }

values_of : (ks : KeptParts) (ps : List PlacedPart) → AreOf ks ps → map placed_value ps ≡ kept_values ks
values_of [] [] h = refl
values_of [] (p ∷ ps) h = absurd h
values_of (k ∷ ks) [] h = absurd h
values_of (k ∷ ks) (p ∷ ps) h =
    ap₂ (λ path value. record { path = path; value = value } ∷ map placed_value ps) h.0.path h.0.value
    ∙ ap (λ vs. record { path = k.path; value = h.0.trace.value } ∷ vs) (values_of ks ps h.1)
    ∙ ap (λ (o : Option WideTrace).
    cons_option (option_map (λ t. record { path = k.path; value = t.value }) o) (kept_values ks)) (sym h.0.kept)

-- ---- the parts of a unit

part_lines_are : (width : ℕ) (p : LaidPart) (s : ShownPart) → IsLaidPart width p → p.before ≡ s.before
    → p.value ≡ s.value → AreLines width (own_paragraphs s) p.lines
part_lines_are width p s h before value =
    for_any_end width (show s.before s.value).form h.end s.end p.lines
    (subst (λ (qs : List Paragraph). AreLines width qs p.lines)
    (h.paragraphs ∙ ap₂ (λ a v. part_paragraphs (show a v).form h.end) before value) h.lines)

abbrev rows_of : List PlacedPart → List (List ℕ)
rows_of ps = flat_map line_parts (map part_stretch ps)

are_line_parts : (width : ℕ) (ps : List PlacedPart) (ss : List ShownPart) (left : List PartValue)
    → map laid_at ps ≡ map shown_at ss → map placed_value ps ≡ map own_value ss ++ left
    → All (λ p. IsLaidPart width p.laid.value) ps → AreLineParts width ss (rows_of ps)
are_line_parts width [] [] left at is h = no_parts
are_line_parts width [] (s ∷ ss) left at is h = absurd cc
are_line_parts width (p ∷ ps) [] left at is h = absurd cc
are_line_parts width (p ∷ ps) (s ∷ ss) left at is h =
    let first : laid_at p ≡ shown_at s = cc in
    let others : map laid_at ps ≡ map shown_at ss = cc in
    let value : placed_value p ≡ own_value s = cc in
    let values : map placed_value ps ≡ map own_value ss ++ left = cc in
    let own : AreLines width (own_paragraphs s) p.laid.value.lines =
    part_lines_are width p.laid.value s (All-head (λ q. IsLaidPart width q.laid.value) p ps h)
    (ap (λ (l : LaidAt). l.before) first) (ap (λ (v : PartValue). v.value) value) in
    subst (λ path. AreLineParts width (s ∷ ss) (map (λ line. path) p.laid.value.lines ++ rows_of ps))
    (sym (ap (λ (l : LaidAt). l.path) first))
    (part_then s ss p.laid.value.lines (rows_of ps) own
    (are_line_parts width ps ss left others values (All-tail (λ q. IsLaidPart width q.laid.value) p ps h)))

-- ---- a unit

all_empty : (ls : List Line) → map {B = List ℕ} (λ line. []) ls ≡ replicate (length ls) []
all_empty [] = refl
all_empty (l ∷ ls) = ap (λ rs. [] ∷ rs) (all_empty ls)

rows_are : (x : Shown) → unit_row_parts x ≡ rows_of x.parts ++ replicate (length x.lines) []
rows_are x =
    flat_map-append line_parts (map part_stretch x.parts) (own_stretch x ∷ [])
    ∙ ap (λ rs. rows_of x.parts ++ rs) (append-nil (line_parts (own_stretch x)) ∙ all_empty x.lines)

no_values : (ss : List ShownPart) → [] ≡ map shown_at ss → [] ≡ map own_value ss ++ []
no_values [] e = refl
no_values (s ∷ ss) e = cc

parts_are : (width : ℕ) (m : Moment) (u : DocUnit) (x : Shown) → AreLaidParts width (fresh_parts m u) x.parts
    → map laid_at x.parts ≡ laid_ats (attributes_of m.env) (entry_at m u) (fresh_parts m u)
    → AreLineParts width (shown_parts_at m u) (rows_of x.parts)
parts_are width m u x h at = by (is_by_parts (entry_at m u)) h.of_kept at
  where
    ss : List ShownPart
    ss = shown_parts_of (attributes_of m.env) (entry_at m u) (fresh_parts m u)

    by : (b : Bool) → (x.parts ≡ []) ⊎ AreOf (fresh_parts m u) x.parts
        → map laid_at x.parts ≡ (if b then map shown_at ss else [])
        → AreLineParts width (if b then ss else []) (rows_of x.parts)
    by false either none = are_line_parts width x.parts [] (map placed_value x.parts) none refl h.each
    by true (inl none) is =
        are_line_parts width x.parts ss [] is
        (ap (map placed_value) none ∙ no_values ss (sym (ap (map laid_at) none) ∙ is)) h.each
    by true (inr of) is =
        are_line_parts width x.parts ss
        (tree_shown MOST_LEVELS (attributes_of m.env) (fresh_parts m u) u.tagged.tree).left is
        (values_of (fresh_parts m u) x.parts of
        ∙ sym (parts_first MOST_LEVELS (λ b. b) (attributes_of m.env) (kept_values (fresh_parts m u)) u.tagged.tree))
        h.each

one_is : (width : ℕ) (m : Moment) (u : DocUnit) (x : Shown)
    → IsLaid width (entry_at m u) (fresh_parts m u) (fresh_parts m u) x → x.laid ≡ Some (attributes_of m.env)
    → AreUnitRowParts width m u (unit_view x) (unit_row_parts x)
one_is width m u x h laid = record {
  of_parts = rows_of x.parts;
  are = parts_are width m u x h.parts (h.by_parts (attributes_of m.env) laid);
  others = length x.lines;
  is = rows_are x;
  as_many = sym (as_many_parts x);
}

-- ---- all units

all_from : (width : ℕ) (m : Moment) (us : List DocUnit) (xs : List Shown)
    → AreLaid width (fresh_from m us) (fresh_parts_from m us) xs → laid_in xs ≡ attributes_from m us
    → AreRowParts width m us (unit_views xs) (row_parts xs)
all_from width m [] [] h is = no_units m
all_from width m [] (x ∷ xs) h is = absurd h
all_from width m (u ∷ us) [] h is = absurd h
all_from width m (u ∷ us) (x ∷ xs) h is =
    let first : x.laid ≡ Some (attributes_of m.env) = cc in
    let others : laid_in xs ≡ attributes_from (behind m (outcome_of m u)) us = cc in
    unit_then m u us (unit_view x) (unit_views xs) (unit_row_parts x) (row_parts xs) (one_is width m u x h.0 first)
    (all_from width (behind m (outcome_of m u)) us xs h.1 others)

-- where all units are evaluated and laid out
pub row_parts_are : (width : ℕ) (us : List DocUnit) (kept : Kept) (pss : List KeptParts) (xs : List Shown)
    → AreLaid width kept pss xs → kept ≡ fresh_from beginning us → pss ≡ fresh_parts_from beginning us
    → laid_in xs ≡ attributes_from beginning us → AreRowParts width beginning us (unit_views xs) (row_parts xs)
row_parts_are width us kept pss xs h is_kept is_parts is_laid =
    all_from width beginning us xs
    (subst (λ (qss : List KeptParts). AreLaid width (fresh_from beginning us) qss xs) is_parts
    (subst (λ (es : Kept). AreLaid width es pss xs) is_kept h)) is_laid
