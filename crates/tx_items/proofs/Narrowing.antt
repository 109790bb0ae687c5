-- No cluster that is shown is wider than 2 cells.
use Rattle.std.proofs.Common.{ℕ, zero, suc, ◌+◌, ◌-◌, map, take, drop, length, ◌≤◌, Bool, true, false, cond, List, [], ◌∷◌, ◌++◌, get_or, Option, Some, None}
use Rattle.std.specs.Prelude.{All, codes, ℤ, option_and_then}
use Rattle.std.proofs.Common.{subst, sym}
use Rattle.std.proofs.lemmas.List.{append-nil}
use Rattle.std.proofs.lemmas.List.Elements.{All-nil, All-cons, All-append, All-map}
use Rattle.tx_prim.specs.Lengths.{length_of}
use Rattle.tx_origin.specs.Values.{WideValue, WideValues, text, made, none, also, value_text}
use Rattle.tx_text.specs.declared.cutting.Cluster.{Cluster}
use Rattle.tx_text.specs.Clusters.{items_of, clusters_of}
use Rattle.tx_text.proofs.Spreading.{narrow}
use Rattle.tx_table.specs.declared.grids.Grid.{Grid}
use Rattle.tx_table.specs.declared.settings.Side.{Side}
use Rattle.tx_table.specs.Grids.{grid_of}
use Rattle.tx_table.specs.Columns.{column_widths, left_pad, right_pad, across}
use Rattle.tx_items.specs.declared.attributes.Attrs.{Attrs}
use Rattle.tx_items.specs.declared.drawing.Item.{Item}
use Rattle.tx_items.specs.declared.drawing.Drawn.{Drawn}
use Rattle.tx_items.specs.declared.drawing.Item.TheVariants.{Glyph, Space, Chance, Gap, Break, PageEnd, Down}
use Rattle.tx_items.specs.declared.drawing.Paragraph.{Paragraph}
use Rattle.tx_items.specs.Looks.{WideLook}
use Rattle.tx_items.specs.Attributes.{with_named, attribute_in}
use Rattle.tx_items.specs.Drawing.{is_space, is_chance, look_of, item_of, drawn, paragraph}
use Rattle.tx_items.specs.Rules.{Rule, rule_of}
use Rattle.tx_items.specs.Rules as rules
use Rattle.tx_items.specs.Shows.{ItemRun, empty, begun, run_of, beside, whole_run, run_ended, Form, inline, listed}
use Rattle.tx_items.specs.Shows.{Shown}
use Rattle.tx_items.specs.Shows.{AllShown, part_paragraphs}
use Rattle.tx_items.specs.Shows.{all_inline, side_by_side, paragraphs_of, joined_forms, one_by_one, error_items}
use Rattle.tx_items.specs.Shows.{with_shown}
use Rattle.tx_items.specs.Shows.{assign_shown, cells_of_length, space_by, space_shown, error_by, error_shown, made_form}
use Rattle.tx_items.specs.Shows.{tag_shown}
use Rattle.tx_items.specs.Shows.{rule_shown, giving_back, show, show_all, show_with, or_one, unit_paragraphs}
use Rattle.tx_items.specs.Shows.{shown_paragraphs}
use Rattle.tx_items.specs.Shows.{items_in, after_each, shown_rows, rows_shown, cells_fit, bad, tabular_shown}
use Rattle.tx_items.specs.Shows.{show_below}
use Rattle.tx_items.specs.Cells.{cells_across}
use Rattle.tx_items.specs.Tables.{missing_gap, gap_before, cell_items, row_from, row_items, ShownRow, row_widths}
use Rattle.tx_items.specs.Tables.{row_paragraphs, Level, Every, Final, levels_of}
use Rattle.tx_items.specs.Narrow.{IsNarrow}

abbrev OfRun : ItemRun → Type 0
OfRun empty = Unit {0}
OfRun (begun a xs) = All IsNarrow xs

abbrev OfPars : List Paragraph → Type 0
OfPars ps = All (λ p. All IsNarrow p.items) ps

abbrev OfForm : Form → Type 0
OfForm (inline r) = OfRun r
OfForm (listed ps) = OfPars ps

abbrev OfForms : List (Form × Attrs) → Type 0
OfForms [] = Unit {0}
OfForms (f ∷ fs) = OfForm f.0 × OfForms fs

run_narrow : (a : Attrs) (xs : List Item) → All IsNarrow xs → OfRun (run_of a xs)
run_narrow a [] h = tt
run_narrow a (x ∷ xs) h = h

beside_narrow : (r s : ItemRun) → OfRun r → OfRun s → OfRun (beside r s)
beside_narrow empty s h k = k
beside_narrow (begun a xs) empty h k = h
beside_narrow (begun a xs) (begun b ys) h k = All-append IsNarrow xs ys h k

one_paragraph : (xs : List Item) (a : Attrs) → All IsNarrow xs → OfPars (paragraph xs a ∷ [])
one_paragraph xs a h =
    All-cons (λ p. All IsNarrow p.items) (paragraph xs a) [] h (All-nil (λ p. All IsNarrow p.items))

ended_narrow : (r : ItemRun) → OfRun r → OfPars (run_ended r)
ended_narrow empty h = All-nil (λ p. All IsNarrow p.items)
ended_narrow (begun a xs) h = one_paragraph xs a h

whole_narrow : (r : ItemRun) (a : Attrs) → OfRun r → OfPars (whole_run r a ∷ [])
whole_narrow empty a h = one_paragraph [] a (All-nil IsNarrow)
whole_narrow (begun b xs) a h = one_paragraph xs b h

pars_append : (ps qs : List Paragraph) → OfPars ps → OfPars qs → OfPars (ps ++ qs)
pars_append ps qs h k = All-append (λ p. All IsNarrow p.items) ps qs h k

side_narrow : (fs : List (Form × Attrs)) → OfForms fs → OfRun (side_by_side fs)
side_narrow [] h = tt
side_narrow ((inline r, a) ∷ fs) h = beside_narrow r (side_by_side fs) h.0 (side_narrow fs h.1)
side_narrow ((listed ps, a) ∷ fs) h = side_narrow fs h.1

paragraphs_narrow : (r : ItemRun) (fs : List (Form × Attrs)) → OfRun r → OfForms fs → OfPars (paragraphs_of r fs)
paragraphs_narrow r [] h k = ended_narrow r h
paragraphs_narrow r ((inline q, a) ∷ fs) h k = paragraphs_narrow (beside r q) fs (beside_narrow r q h k.0) k.1
paragraphs_narrow r ((listed ps, a) ∷ fs) h k =
    pars_append (run_ended r ++ ps) (paragraphs_of empty fs) (pars_append (run_ended r) ps (ended_narrow r h) k.0)
    (paragraphs_narrow empty fs tt k.1)

one_narrow : (fs : List (Form × Attrs)) → OfForms fs → OfPars (one_by_one fs)
one_narrow [] h = All-nil (λ p. All IsNarrow p.items)
one_narrow ((inline r, a) ∷ fs) h =
    pars_append (whole_run r a ∷ []) (one_by_one fs) (whole_narrow r a h.0) (one_narrow fs h.1)
one_narrow ((listed ps, a) ∷ fs) h = pars_append ps (one_by_one fs) h.0 (one_narrow fs h.1)

joined_narrow : (fs : List (Form × Attrs)) → OfForms fs → OfForm (joined_forms fs)
joined_narrow fs h = pick (all_inline fs)
  where
    pick : (b : Bool) → OfForm (cond b (inline (side_by_side fs)) (listed (paragraphs_of empty fs)))
    pick true = side_narrow fs h
    pick false = paragraphs_narrow empty fs tt h

-- ---- texts

item_narrow : (look : WideLook) (c : Cluster) → c.cells ≤ 2 → IsNarrow (item_of look c)
item_narrow look c h = pick (is_space c.glyphs) (is_chance c.glyphs)
  where
    d : Drawn
    d = record { cluster = c; look = look }

    pick : (b e : Bool) → IsNarrow (cond b (Space d) (cond e (Chance d) (Glyph d)))
    pick true e = h
    pick false true = h
    pick false false = h

drawn_narrow : (a : Attrs) (at : Option (List ℕ)) (words : List ℕ) → All IsNarrow (drawn a at words)
drawn_narrow a at words =
    let cs : List Cluster = clusters_of (items_of words) in
    All-map IsNarrow (item_of (look_of a at)) cs
    (λ k d lt. item_narrow (look_of a at) (get_or cs k d) (narrow (items_of words) k d lt))

both_narrow : (xs ys : List Item) → All IsNarrow xs → All IsNarrow ys → All IsNarrow (xs ++ ys)
both_narrow xs ys h k = All-append IsNarrow xs ys h k

error_narrow : (a : Attrs) (kind detail : List ℕ) → All IsNarrow (error_items a kind detail)
error_narrow a kind [] =
    let front : List Item = drawn a None (codes "<less>!") in
    both_narrow (front ++ drawn a None kind) _
    (both_narrow front _ (drawn_narrow a None (codes "<less>!")) (drawn_narrow a None kind))
    (drawn_narrow a None (codes "<gtr>"))
error_narrow a kind (d ∷ detail) =
    let one : List Item = drawn a None (codes "<less>!") ++ drawn a None kind in
    let two : List Item = one ++ drawn a None (codes " ") in
    let three : List Item = two ++ drawn a None (d ∷ detail) in
    both_narrow three _
    (both_narrow two _
    (both_narrow one _
    (both_narrow (drawn a None (codes "<less>!")) _ (drawn_narrow a None (codes "<less>!"))
    (drawn_narrow a None kind)) (drawn_narrow a None (codes " "))) (drawn_narrow a None (d ∷ detail)))
    (drawn_narrow a None (codes "<gtr>"))

failed_narrow : (a : Attrs) (kind detail : List ℕ) → OfRun (run_of a (error_items a kind detail))
failed_narrow a kind detail = run_narrow a (error_items a kind detail) (error_narrow a kind detail)

bad_narrow : (a : Attrs) (label : List ℕ) → OfRun (run_of a (error_items a (codes "bad") label))
bad_narrow a label = failed_narrow a (codes "bad") label

-- ---- rules

assign_narrow : (a : Attrs) (label : List ℕ) (vs : WideValues) → OfForm (assign_shown a label vs).form
assign_narrow a label none = bad_narrow a label
assign_narrow a label (also x none) = bad_narrow a label
assign_narrow a label (also x (also v none)) = tt
assign_narrow a label (also x (also v (also w vs))) = bad_narrow a label

space_by_narrow : (item : ℕ → Item) → ((n : ℕ) → IsNarrow (item n)) → (a : Attrs) (label : List ℕ) (z : Option ℤ)
    → OfForm (space_by item a label z).form
space_by_narrow item h a label None = bad_narrow a label
space_by_narrow item h a label (Some z) =
    All-cons IsNarrow (item (cells_of_length z)) [] (h (cells_of_length z)) (All-nil IsNarrow)

space_narrow : (item : ℕ → Item) → ((n : ℕ) → IsNarrow (item n)) → (a : Attrs) (label : List ℕ) (vs : WideValues)
    → OfForm (space_shown item a label vs).form
space_narrow item h a label none = bad_narrow a label
space_narrow item h a label (also v none) =
    space_by_narrow item h a label (option_and_then length_of (value_text v))
space_narrow item h a label (also v (also w vs)) = bad_narrow a label

error_by_narrow : (a : Attrs) (label : List ℕ) (k d : Option (List ℕ)) → OfForm (error_by a label k d).form
error_by_narrow a label None d = bad_narrow a label
error_by_narrow a label (Some k) None = bad_narrow a label
error_by_narrow a label (Some k) (Some d) = failed_narrow a k d

error_shown_narrow : (a : Attrs) (label : List ℕ) (vs : WideValues) → OfForm (error_shown a label vs).form
error_shown_narrow a label none = bad_narrow a label
error_shown_narrow a label (also k none) = bad_narrow a label
error_shown_narrow a label (also k (also d none)) = error_by_narrow a label (value_text k) (value_text d)
error_shown_narrow a label (also k (also d (also e vs))) = bad_narrow a label

forms_behind : (fs : List (Form × Attrs)) (r : ItemRun) (a : Attrs) → OfForms fs → OfRun r
    → OfForms (fs ++ (inline r, a) ∷ [])
forms_behind [] r a h k = (k, tt)
forms_behind (f ∷ fs) r a h k = (h.0, forms_behind fs r a h.1 k)

tag_narrow : (a : Attrs) (label : List ℕ) (all : AllShown) → OfForms all.each → OfForm (tag_shown a label all).form
tag_narrow a label all h =
    let front : List Item = drawn a None (codes "<less>") in
    let close : List Item = drawn all.after None (codes "<gtr>") in
    joined_narrow (made_form a (front ++ drawn a None label) ∷ (all.each ++ made_form all.after close ∷ [])) (
      run_narrow a (front ++ drawn a None label)
          (both_narrow front _ (drawn_narrow a None (codes "<less>")) (drawn_narrow a None label)),
      forms_behind all.each (run_of all.after close) all.after h
          (run_narrow all.after close (drawn_narrow all.after None (codes "<gtr>"))),
    )

one_item : (a : Attrs) (x : Item) → IsNarrow x → OfRun (run_of a (x ∷ []))
one_item a x h = All-cons IsNarrow x [] h (All-nil IsNarrow)

-- ---- tables

abbrev OfCells : List (List Item) → Type 0
OfCells [] = Unit {0}
OfCells (x ∷ xs) = All IsNarrow x × OfCells xs

abbrev OfRows : List ShownRow → Type 0
OfRows [] = Unit {0}
OfRows (row ∷ rows) = OfCells row.1 × OfRows rows

cell_narrow : (x : Form) → OfForm x → All IsNarrow (items_in x)
cell_narrow (inline empty) h = All-nil IsNarrow
cell_narrow (inline (begun a xs)) h = h
cell_narrow (listed ps) h = All-nil IsNarrow

taken_narrow : (n : ℕ) (fs : List (Form × Attrs)) → OfForms fs → OfCells (map (λ f. items_in f.0) (take n fs))
taken_narrow zero fs h = tt
taken_narrow (suc n) [] h = tt
taken_narrow (suc n) (f ∷ fs) h = (cell_narrow f.0 h.0, taken_narrow n fs h.1)

dropped_narrow : (n : ℕ) (fs : List (Form × Attrs)) → OfForms fs → OfForms (drop n fs)
dropped_narrow zero fs h = h
dropped_narrow (suc n) [] h = tt
dropped_narrow (suc n) (f ∷ fs) h = dropped_narrow n fs h.1

rows_narrow : (ns : List ℕ) (a : Attrs) (fs : List (Form × Attrs)) → OfForms fs → OfRows (shown_rows ns a fs)
rows_narrow [] a fs h = tt
rows_narrow (n ∷ ns) a fs h =
    (taken_narrow n fs h, rows_narrow ns (after_each a (take n fs)) (drop n fs) (dropped_narrow n fs h))

gap_narrow : (n : ℕ) (xs : List Item) → All IsNarrow xs → All IsNarrow (Gap n ∷ xs)
gap_narrow n xs h = All-cons IsNarrow (Gap n) xs tt h

missing_narrow : (columns : List ℕ) → All IsNarrow (missing_gap columns)
missing_narrow [] = All-nil IsNarrow
missing_narrow (n ∷ ns) = gap_narrow (2 + across (n ∷ ns)) [] (All-nil IsNarrow)

before_narrow : (j : ℕ) → All IsNarrow (gap_before j)
before_narrow zero = All-nil IsNarrow
before_narrow (suc j) = gap_narrow 2 [] (All-nil IsNarrow)

padded_narrow : (s : Side) (n : ℕ) (x : List Item) → All IsNarrow x → All IsNarrow (cell_items s n x)
padded_narrow s n x h =
    let free : ℕ = n - cells_across x in
    gap_narrow (left_pad s free) (x ++ Gap (right_pad s free) ∷ [])
    (All-append IsNarrow x (Gap (right_pad s free) ∷ []) h
    (gap_narrow (right_pad s free) [] (All-nil IsNarrow)))

row_narrow : (j : ℕ) (columns : List ℕ) (sides : List Side) (cells : List (List Item)) → OfCells cells
    → All IsNarrow (row_from j columns sides cells)
row_narrow j columns sides [] h = missing_narrow columns
row_narrow j [] sides (x ∷ xs) h = All-nil IsNarrow
row_narrow j (n ∷ ns) [] (x ∷ xs) h = All-nil IsNarrow
row_narrow j (n ∷ ns) (s ∷ ss) (x ∷ xs) h =
    All-append IsNarrow (gap_before j ++ cell_items s n x) (row_from (j + 1) ns ss xs)
    (All-append IsNarrow (gap_before j) (cell_items s n x) (before_narrow j) (padded_narrow s n x h.0))
    (row_narrow (j + 1) ns ss xs h.1)

table_narrow : (columns : List ℕ) (sides : List (List Side)) (rows : List ShownRow) → OfRows rows
    → OfPars (row_paragraphs columns sides rows)
table_narrow columns [] rows h = All-nil (λ p. All IsNarrow p.items)
table_narrow columns (ss ∷ sides) [] h = All-nil (λ p. All IsNarrow p.items)
table_narrow columns (ss ∷ sides) (row ∷ rows) h =
    pars_append (paragraph (row_items columns ss row.1) row.0 ∷ []) (row_paragraphs columns sides rows)
    (one_paragraph (row_items columns ss row.1) row.0 (row_narrow 0 columns ss row.1 h.0))
    (table_narrow columns sides rows h.1)

tabular_narrow : (a : Attrs) (label : List ℕ) (grid : Option Grid) (cells : AllShown) → OfForms cells.each
    → OfForm (tabular_shown a label grid cells).form
tabular_narrow a label None cells h = bad_narrow a label
tabular_narrow a label (Some grid) cells h = pick (cells_fit cells.each)
  where
    rows : List ShownRow
    rows = shown_rows (map length grid.sides) a cells.each

    pick : (b : Bool) → OfForm (cond b (rows_shown a grid.sides cells) (bad a label)).form
    pick true =
        table_narrow (column_widths (row_widths rows)) grid.sides rows
        (rows_narrow (map length grid.sides) a cells.each h)
    pick false = bad_narrow a label

forms_both : (xs ys : List (Form × Attrs)) → OfForms xs → OfForms ys → OfForms (xs ++ ys)
forms_both [] ys h k = k
forms_both (x ∷ xs) ys h k = (h.0, forms_both xs ys h.1 k)

rule_narrow : (r : Rule) (a : Attrs) (label : List ℕ) (vs : WideValues) (all : Bool → AllShown) (last : Option Shown)
    (table : Shown) → ((barred : Bool) → OfForms (all barred).each) → OfForm (with_shown a label last).form
    → OfForm table.form → OfForm (rule_shown r a label vs all last table).form
rule_narrow rules.Concat a label vs all last table h k t = joined_narrow (all false).each (h false)
rule_narrow rules.Document a label vs all last table h k t = one_narrow (all false).each (h false)
rule_narrow rules.With a label vs all last table h k t = k
rule_narrow rules.Assign a label vs all last table h k t = assign_narrow a label vs
rule_narrow rules.Silent a label vs all last table h k t = tt
rule_narrow rules.NextLine a label vs all last table h k t = one_item a Break tt
rule_narrow rules.NewPage a label vs all last table h k t = one_item a PageEnd tt
rule_narrow rules.Hspace a label vs all last table h k t = space_narrow Gap (λ n. tt) a label vs
rule_narrow rules.Vspace a label vs all last table h k t = space_narrow Down (λ n. tt) a label vs
rule_narrow rules.Error a label vs all last table h k t = error_shown_narrow a label vs
rule_narrow rules.Tabular a label vs all last table h k t = t
rule_narrow rules.Other a label vs all last table h k t = tag_narrow a label (all true) (h true)

giving_narrow : (name : Option (List ℕ)) (before a : Attrs) (label : List ℕ) (o : Option Shown)
    → OfForm (with_shown a label o).form → OfForm (with_shown a label (giving_back name before o)).form
giving_narrow name before a label None h = h
giving_narrow name before a label (Some s) h = h

mutual
  unfolding show

  show_narrow : (a : Attrs) (v : WideValue) → OfForm (show a v).form
  show_narrow a (text words at) = run_narrow a (drawn a at words) (drawn_narrow a at words)
  show_narrow a (made label vs at) =
      rule_narrow (rule_of label) a label vs (λ barred. show_all barred a vs) (show_with a a vs)
      (tabular_shown a label (grid_of (made label vs at)) (show_below (levels_of vs) a vs))
      (λ barred. all_narrow barred a vs) (last_narrow a label a a vs)
      (tabular_narrow a label (grid_of (made label vs at)) (show_below (levels_of vs) a vs)
      (below_narrow (levels_of vs) a vs))

  all_narrow : (barred : Bool) (a : Attrs) (vs : WideValues) → OfForms (show_all barred a vs).each
  all_narrow barred a none = tt
  all_narrow true a (also v vs) = (
    run_narrow a (drawn a None (codes "|")) (drawn_narrow a None (codes "|")),
    (show_narrow a v, all_narrow true (show a v).after vs),
  )
  all_narrow false a (also v vs) = (show_narrow a v, all_narrow false (show a v).after vs)

  last_narrow : (c : Attrs) (label : List ℕ) (before a : Attrs) (vs : WideValues)
      → OfForm (with_shown c label (show_with before a vs)).form
  last_narrow c label before a none = bad_narrow c label
  last_narrow c label before a (also v none) = show_narrow a v
  last_narrow c label before a (also x (also v vs)) =
      giving_narrow (value_text x) before c label
      (show_with before (with_named (attribute_in (value_text x)) (value_text v) a) vs)
      (last_narrow c label before (with_named (attribute_in (value_text x)) (value_text v) a) vs)

  below_narrow : (levels : List Level) (a : Attrs) (vs : WideValues) → OfForms (show_below levels a vs).each
  below_narrow levels a none = tt
  below_narrow [] a (also v none) = (show_narrow a v, tt)
  below_narrow [] a (also x (also v vs)) = tt
  below_narrow (Every ∷ levels) a (also (text words at) vs) = below_narrow (Every ∷ levels) a vs
  below_narrow (Every ∷ levels) a (also (made label ws at) vs) =
      forms_both (show_below levels a ws).each (show_below (Every ∷ levels) (show_below levels a ws).after vs).each
      (below_narrow levels a ws) (below_narrow (Every ∷ levels) (show_below levels a ws).after vs)
  below_narrow (Final ∷ levels) a (also (text words at) none) = tt
  below_narrow (Final ∷ levels) a (also (made label ws at) none) = below_narrow levels a ws
  below_narrow (Final ∷ levels) a (also x (also v vs)) = below_narrow (Final ∷ levels) a (also v vs)

or_one_narrow : (end : Attrs) (ps : List Paragraph) → OfPars ps → OfPars (or_one end ps)
or_one_narrow end [] h = one_paragraph [] end (All-nil IsNarrow)
or_one_narrow end (p ∷ ps) h = h

unit_narrow : (x : Form) (end : Attrs) → OfForm x → OfPars (unit_paragraphs x end)
unit_narrow (inline r) end h = whole_narrow r end h
unit_narrow (listed ps) end h = or_one_narrow end ps h

pub shown_narrow : (a : Attrs) (v : WideValue) → All (λ p. All IsNarrow p.items) (shown_paragraphs a v)
shown_narrow a v = unit_narrow (show a v).form (show a v).after (show_narrow a v)

part_narrow_as : (x : Form) (end : Attrs) → OfForm x → OfPars (part_paragraphs x end)
part_narrow_as (inline r) end h = whole_narrow r end h
part_narrow_as (listed ps) end h = subst OfPars (sym (append-nil ps)) h

pub part_narrow : (a : Attrs) (v : WideValue)
    → All (λ p. All IsNarrow p.items) (part_paragraphs (show a v).form (show a v).after)
part_narrow a v = part_narrow_as (show a v).form (show a v).after (show_narrow a v)
