-- What holds of each item that a value shows, where it holds of the clusters of the value's texts, of those of text
-- without a place, and of items that are no clusters.
use Rattle.std.proofs.Common.{ℕ, zero, suc, ◌+◌, ◌-◌, map, take, drop, length, Bool, true, false, cond, List, [], ◌∷◌, ◌++◌, Option, Some, None}
use Rattle.std.specs.Prelude.{All, codes, ℤ, option_and_then}
use Rattle.std.proofs.lemmas.List.Elements.{All-nil, All-cons, All-append}
use Rattle.tx_prim.specs.Lengths.{length_of}
use Rattle.tx_origin.specs.Values.{WideValue, WideValues, text, made, none, also, value_text}
use Rattle.tx_table.specs.declared.grids.Grid.{Grid}
use Rattle.tx_table.specs.declared.settings.Side.{Side}
use Rattle.tx_table.specs.Grids.{grid_of}
use Rattle.tx_table.specs.Columns.{column_widths, left_pad, right_pad, across}
use Rattle.tx_items.specs.declared.attributes.Attrs.{Attrs}
use Rattle.tx_items.specs.declared.drawing.Item.{Item}
use Rattle.tx_items.specs.declared.drawing.Item.TheVariants.{Gap, Break, PageEnd, Down}
use Rattle.tx_items.specs.declared.drawing.Paragraph.{Paragraph}
use Rattle.tx_items.specs.Attributes.{with_named, attribute_in}
use Rattle.tx_items.specs.Drawing.{drawn, paragraph}
use Rattle.tx_items.specs.Rules.{Rule, rule_of}
use Rattle.tx_items.specs.Cells.{cells_across}
use Rattle.tx_items.specs.Tables.{missing_gap, gap_before, cell_items, row_from, row_items, ShownRow, row_widths}
use Rattle.tx_items.specs.Tables.{row_paragraphs, Level, Every, Final, levels_of}
use Rattle.tx_items.specs.Shows.{items_in, after_each, shown_rows, rows_shown, cells_fit, bad, tabular_shown}
use Rattle.tx_items.specs.Shows.{show_below}
use Rattle.tx_items.specs.Rules as rules
use Rattle.tx_items.specs.Shows.{ItemRun, empty, begun, run_of, beside, whole_run, run_ended, Form, inline, listed}
use Rattle.tx_items.specs.Shows.{Shown}
use Rattle.tx_items.specs.Shows.{all_inline, side_by_side, paragraphs_of, joined_forms, one_by_one, error_items}
use Rattle.tx_items.specs.Shows.{with_shown}
use Rattle.tx_items.specs.Shows.{assign_shown, cells_of_length, space_by, space_shown, error_by, error_shown, made_form}
use Rattle.tx_items.specs.Shows.{tag_shown, rule_shown, giving_back, show, show_all, show_with, or_one}
use Rattle.tx_items.specs.Shows.{AllShown, unit_paragraphs, shown_paragraphs}

-- T holds of each text of the value and its origin
abbrev mutual
  pub EachText : (List ℕ → Option (List ℕ) → Type 0) → WideValue → Type 0
  EachText T (text words at) = T words at
  EachText T (made label vs at) = EachTexts T vs

  pub EachTexts : (List ℕ → Option (List ℕ) → Type 0) → WideValues → Type 0
  EachTexts T none = Unit {0}
  EachTexts T (also v vs) = EachText T v × EachTexts T vs

-- T is enough for P of a text's clusters, and P holds of text without a place, and of what is no cluster
pub record IsEnough (T : List ℕ → Option (List ℕ) → Type 0) (P : Item → Type 0) : Type 0 where
  pub of_text : (a : Attrs) (words : List ℕ) (at : Option (List ℕ)) → T words at → All P (drawn a at words)
  pub of_made : (a : Attrs) (words : List ℕ) → All P (drawn a None words)
  pub of_gap : (n : ℕ) → P (Gap n)
  pub of_break : P Break
  pub of_page_end : P PageEnd
  pub of_down : (n : ℕ) → P (Down n)

module _ (T : List ℕ → Option (List ℕ) → Type 0) (P : Item → Type 0) (enough : IsEnough T P) where
  abbrev OfRun : ItemRun → Type 0
  OfRun empty = Unit {0}
  OfRun (begun a xs) = All P xs

  abbrev OfPars : List Paragraph → Type 0
  OfPars ps = All (λ p. All P p.items) ps

  abbrev OfForm : Form → Type 0
  OfForm (inline r) = OfRun r
  OfForm (listed ps) = OfPars ps

  abbrev OfForms : List (Form × Attrs) → Type 0
  OfForms [] = Unit {0}
  OfForms (f ∷ fs) = OfForm f.0 × OfForms fs

  run_holds : (a : Attrs) (xs : List Item) → All P xs → OfRun (run_of a xs)
  run_holds a [] h = tt
  run_holds a (x ∷ xs) h = h

  beside_holds : (r s : ItemRun) → OfRun r → OfRun s → OfRun (beside r s)
  beside_holds empty s h k = k
  beside_holds (begun a xs) empty h k = h
  beside_holds (begun a xs) (begun b ys) h k = All-append P xs ys h k

  one_paragraph : (xs : List Item) (a : Attrs) → All P xs → OfPars (paragraph xs a ∷ [])
  one_paragraph xs a h =
      All-cons (λ p. All P p.items) (paragraph xs a) [] h (All-nil (λ p. All P p.items))

  ended_holds : (r : ItemRun) → OfRun r → OfPars (run_ended r)
  ended_holds empty h = All-nil (λ p. All P p.items)
  ended_holds (begun a xs) h = one_paragraph xs a h

  whole_holds : (r : ItemRun) (a : Attrs) → OfRun r → OfPars (whole_run r a ∷ [])
  whole_holds empty a h = one_paragraph [] a (All-nil P)
  whole_holds (begun b xs) a h = one_paragraph xs b h

  pars_append : (ps qs : List Paragraph) → OfPars ps → OfPars qs → OfPars (ps ++ qs)
  pars_append ps qs h k = All-append (λ p. All P p.items) ps qs h k

  side_holds : (fs : List (Form × Attrs)) → OfForms fs → OfRun (side_by_side fs)
  side_holds [] h = tt
  side_holds ((inline r, a) ∷ fs) h = beside_holds r (side_by_side fs) h.0 (side_holds fs h.1)
  side_holds ((listed ps, a) ∷ fs) h = side_holds fs h.1

  paragraphs_holds : (r : ItemRun) (fs : List (Form × Attrs)) → OfRun r → OfForms fs → OfPars (paragraphs_of r fs)
  paragraphs_holds r [] h k = ended_holds r h
  paragraphs_holds r ((inline q, a) ∷ fs) h k = paragraphs_holds (beside r q) fs (beside_holds r q h k.0) k.1
  paragraphs_holds r ((listed ps, a) ∷ fs) h k =
      pars_append (run_ended r ++ ps) (paragraphs_of empty fs) (pars_append (run_ended r) ps (ended_holds r h) k.0)
      (paragraphs_holds empty fs tt k.1)

  one_holds : (fs : List (Form × Attrs)) → OfForms fs → OfPars (one_by_one fs)
  one_holds [] h = All-nil (λ p. All P p.items)
  one_holds ((inline r, a) ∷ fs) h =
      pars_append (whole_run r a ∷ []) (one_by_one fs) (whole_holds r a h.0) (one_holds fs h.1)
  one_holds ((listed ps, a) ∷ fs) h = pars_append ps (one_by_one fs) h.0 (one_holds fs h.1)

  joined_holds : (fs : List (Form × Attrs)) → OfForms fs → OfForm (joined_forms fs)
  joined_holds fs h = pick (all_inline fs)
    where
      pick : (b : Bool) → OfForm (cond b (inline (side_by_side fs)) (listed (paragraphs_of empty fs)))
      pick true = side_holds fs h
      pick false = paragraphs_holds empty fs tt h

  both_holds : (xs ys : List Item) → All P xs → All P ys → All P (xs ++ ys)
  both_holds xs ys h k = All-append P xs ys h k

  error_holds : (a : Attrs) (kind detail : List ℕ) → All P (error_items a kind detail)
  error_holds a kind [] =
      let front : List Item = drawn a None (codes "<less>!") in
      both_holds (front ++ drawn a None kind) _
      (both_holds front _ (enough.of_made a (codes "<less>!")) (enough.of_made a kind))
      (enough.of_made a (codes "<gtr>"))
  error_holds a kind (d ∷ detail) =
      let one : List Item = drawn a None (codes "<less>!") ++ drawn a None kind in
      let two : List Item = one ++ drawn a None (codes " ") in
      let three : List Item = two ++ drawn a None (d ∷ detail) in
      both_holds three _
      (both_holds two _
      (both_holds one _
      (both_holds (drawn a None (codes "<less>!")) _ (enough.of_made a (codes "<less>!"))
      (enough.of_made a kind)) (enough.of_made a (codes " "))) (enough.of_made a (d ∷ detail)))
      (enough.of_made a (codes "<gtr>"))

  failed_holds : (a : Attrs) (kind detail : List ℕ) → OfRun (run_of a (error_items a kind detail))
  failed_holds a kind detail = run_holds a (error_items a kind detail) (error_holds a kind detail)

  bad_holds : (a : Attrs) (label : List ℕ) → OfRun (run_of a (error_items a (codes "bad") label))
  bad_holds a label = failed_holds a (codes "bad") label

  -- ---- rules

  assign_holds : (a : Attrs) (label : List ℕ) (vs : WideValues) → OfForm (assign_shown a label vs).form
  assign_holds a label none = bad_holds a label
  assign_holds a label (also x none) = bad_holds a label
  assign_holds a label (also x (also v none)) = tt
  assign_holds a label (also x (also v (also w vs))) = bad_holds a label

  space_by_holds : (item : ℕ → Item) → ((n : ℕ) → P (item n)) → (a : Attrs) (label : List ℕ) (z : Option ℤ)
      → OfForm (space_by item a label z).form
  space_by_holds item h a label None = bad_holds a label
  space_by_holds item h a label (Some z) =
      All-cons P (item (cells_of_length z)) [] (h (cells_of_length z)) (All-nil P)

  space_holds : (item : ℕ → Item) → ((n : ℕ) → P (item n)) → (a : Attrs) (label : List ℕ) (vs : WideValues)
      → OfForm (space_shown item a label vs).form
  space_holds item h a label none = bad_holds a label
  space_holds item h a label (also v none) =
      space_by_holds item h a label (option_and_then length_of (value_text v))
  space_holds item h a label (also v (also w vs)) = bad_holds a label

  error_by_holds : (a : Attrs) (label : List ℕ) (k d : Option (List ℕ)) → OfForm (error_by a label k d).form
  error_by_holds a label None d = bad_holds a label
  error_by_holds a label (Some k) None = bad_holds a label
  error_by_holds a label (Some k) (Some d) = failed_holds a k d

  error_shown_holds : (a : Attrs) (label : List ℕ) (vs : WideValues) → OfForm (error_shown a label vs).form
  error_shown_holds a label none = bad_holds a label
  error_shown_holds a label (also k none) = bad_holds a label
  error_shown_holds a label (also k (also d none)) = error_by_holds a label (value_text k) (value_text d)
  error_shown_holds a label (also k (also d (also e vs))) = bad_holds a label

  forms_behind : (fs : List (Form × Attrs)) (r : ItemRun) (a : Attrs) → OfForms fs → OfRun r
      → OfForms (fs ++ (inline r, a) ∷ [])
  forms_behind [] r a h k = (k, tt)
  forms_behind (f ∷ fs) r a h k = (h.0, forms_behind fs r a h.1 k)

  tag_holds : (a : Attrs) (label : List ℕ) (all : AllShown) → OfForms all.each → OfForm (tag_shown a label all).form
  tag_holds a label all h =
      let front : List Item = drawn a None (codes "<less>") in
      let close : List Item = drawn all.after None (codes "<gtr>") in
      joined_holds (made_form a (front ++ drawn a None label) ∷ (all.each ++ made_form all.after close ∷ [])) (
        run_holds a (front ++ drawn a None label)
            (both_holds front _ (enough.of_made a (codes "<less>")) (enough.of_made a label)),
        forms_behind all.each (run_of all.after close) all.after h
            (run_holds all.after close (enough.of_made all.after (codes "<gtr>"))),
      )

  one_item : (a : Attrs) (x : Item) → P x → OfRun (run_of a (x ∷ []))
  one_item a x h = All-cons P x [] h (All-nil P)

  -- ---- tables

  abbrev OfCells : List (List Item) → Type 0
  OfCells [] = Unit {0}
  OfCells (x ∷ xs) = All P x × OfCells xs

  abbrev OfRows : List ShownRow → Type 0
  OfRows [] = Unit {0}
  OfRows (row ∷ rows) = OfCells row.1 × OfRows rows

  cell_holds : (x : Form) → OfForm x → All P (items_in x)
  cell_holds (inline empty) h = All-nil P
  cell_holds (inline (begun a xs)) h = h
  cell_holds (listed ps) h = All-nil P

  taken_holds : (n : ℕ) (fs : List (Form × Attrs)) → OfForms fs → OfCells (map (λ f. items_in f.0) (take n fs))
  taken_holds zero fs h = tt
  taken_holds (suc n) [] h = tt
  taken_holds (suc n) (f ∷ fs) h = (cell_holds f.0 h.0, taken_holds n fs h.1)

  dropped_holds : (n : ℕ) (fs : List (Form × Attrs)) → OfForms fs → OfForms (drop n fs)
  dropped_holds zero fs h = h
  dropped_holds (suc n) [] h = tt
  dropped_holds (suc n) (f ∷ fs) h = dropped_holds n fs h.1

  rows_holds : (ns : List ℕ) (a : Attrs) (fs : List (Form × Attrs)) → OfForms fs → OfRows (shown_rows ns a fs)
  rows_holds [] a fs h = tt
  rows_holds (n ∷ ns) a fs h =
      (taken_holds n fs h, rows_holds ns (after_each a (take n fs)) (drop n fs) (dropped_holds n fs h))

  gap_holds : (n : ℕ) (xs : List Item) → All P xs → All P (Gap n ∷ xs)
  gap_holds n xs h = All-cons P (Gap n) xs (enough.of_gap n) h

  missing_holds : (columns : List ℕ) → All P (missing_gap columns)
  missing_holds [] = All-nil P
  missing_holds (n ∷ ns) = gap_holds (2 + across (n ∷ ns)) [] (All-nil P)

  before_holds : (j : ℕ) → All P (gap_before j)
  before_holds zero = All-nil P
  before_holds (suc j) = gap_holds 2 [] (All-nil P)

  padded_holds : (s : Side) (n : ℕ) (x : List Item) → All P x → All P (cell_items s n x)
  padded_holds s n x h =
      let free : ℕ = n - cells_across x in
      gap_holds (left_pad s free) (x ++ Gap (right_pad s free) ∷ [])
      (All-append P x (Gap (right_pad s free) ∷ []) h
      (gap_holds (right_pad s free) [] (All-nil P)))

  row_holds : (j : ℕ) (columns : List ℕ) (sides : List Side) (cells : List (List Item)) → OfCells cells
      → All P (row_from j columns sides cells)
  row_holds j columns sides [] h = missing_holds columns
  row_holds j [] sides (x ∷ xs) h = All-nil P
  row_holds j (n ∷ ns) [] (x ∷ xs) h = All-nil P
  row_holds j (n ∷ ns) (s ∷ ss) (x ∷ xs) h =
      All-append P (gap_before j ++ cell_items s n x) (row_from (j + 1) ns ss xs)
      (All-append P (gap_before j) (cell_items s n x) (before_holds j) (padded_holds s n x h.0))
      (row_holds (j + 1) ns ss xs h.1)

  table_holds : (columns : List ℕ) (sides : List (List Side)) (rows : List ShownRow) → OfRows rows
      → OfPars (row_paragraphs columns sides rows)
  table_holds columns [] rows h = All-nil (λ p. All P p.items)
  table_holds columns (ss ∷ sides) [] h = All-nil (λ p. All P p.items)
  table_holds columns (ss ∷ sides) (row ∷ rows) h =
      pars_append (paragraph (row_items columns ss row.1) row.0 ∷ []) (row_paragraphs columns sides rows)
      (one_paragraph (row_items columns ss row.1) row.0 (row_holds 0 columns ss row.1 h.0))
      (table_holds columns sides rows h.1)

  tabular_holds : (a : Attrs) (label : List ℕ) (grid : Option Grid) (cells : AllShown) → OfForms cells.each
      → OfForm (tabular_shown a label grid cells).form
  tabular_holds a label None cells h = bad_holds a label
  tabular_holds a label (Some grid) cells h = pick (cells_fit cells.each)
    where
      rows : List ShownRow
      rows = shown_rows (map length grid.sides) a cells.each

      pick : (b : Bool) → OfForm (cond b (rows_shown a grid.sides cells) (bad a label)).form
      pick true =
          table_holds (column_widths (row_widths rows)) grid.sides rows
          (rows_holds (map length grid.sides) a cells.each h)
      pick false = bad_holds a label

  forms_both : (xs ys : List (Form × Attrs)) → OfForms xs → OfForms ys → OfForms (xs ++ ys)
  forms_both [] ys h k = k
  forms_both (x ∷ xs) ys h k = (h.0, forms_both xs ys h.1 k)

  rule_holds : (r : Rule) (a : Attrs) (label : List ℕ) (vs : WideValues) (all : Bool → AllShown) (last : Option Shown)
      (table : Shown) → ((barred : Bool) → OfForms (all barred).each) → OfForm (with_shown a label last).form
      → OfForm table.form → OfForm (rule_shown r a label vs all last table).form
  rule_holds rules.Concat a label vs all last table h k t = joined_holds (all false).each (h false)
  rule_holds rules.Document a label vs all last table h k t = one_holds (all false).each (h false)
  rule_holds rules.With a label vs all last table h k t = k
  rule_holds rules.Assign a label vs all last table h k t = assign_holds a label vs
  rule_holds rules.Silent a label vs all last table h k t = tt
  rule_holds rules.NextLine a label vs all last table h k t = one_item a Break enough.of_break
  rule_holds rules.NewPage a label vs all last table h k t = one_item a PageEnd enough.of_page_end
  rule_holds rules.Hspace a label vs all last table h k t = space_holds Gap enough.of_gap a label vs
  rule_holds rules.Vspace a label vs all last table h k t = space_holds Down enough.of_down a label vs
  rule_holds rules.Error a label vs all last table h k t = error_shown_holds a label vs
  rule_holds rules.Tabular a label vs all last table h k t = t
  rule_holds rules.Other a label vs all last table h k t = tag_holds a label (all true) (h true)

  giving_holds : (name : Option (List ℕ)) (before a : Attrs) (label : List ℕ) (o : Option Shown)
      → OfForm (with_shown a label o).form → OfForm (with_shown a label (giving_back name before o)).form
  giving_holds name before a label None h = h
  giving_holds name before a label (Some s) h = h

  mutual
    unfolding show

    show_holds : (a : Attrs) (v : WideValue) → EachText T v → OfForm (show a v).form
    show_holds a (text words at) h = run_holds a (drawn a at words) (enough.of_text a words at h)
    show_holds a (made label vs at) h =
        rule_holds (rule_of label) a label vs (λ barred. show_all barred a vs) (show_with a a vs)
        (tabular_shown a label (grid_of (made label vs at)) (show_below (levels_of vs) a vs))
        (λ barred. all_holds barred a vs h) (last_holds a label a a vs h)
        (tabular_holds a label (grid_of (made label vs at)) (show_below (levels_of vs) a vs)
        (below_holds (levels_of vs) a vs h))

    all_holds : (barred : Bool) (a : Attrs) (vs : WideValues) → EachTexts T vs → OfForms (show_all barred a vs).each
    all_holds barred a none h = tt
    all_holds true a (also v vs) h = (
      run_holds a (drawn a None (codes "|")) (enough.of_made a (codes "|")),
      (show_holds a v h.0, all_holds true (show a v).after vs h.1),
    )
    all_holds false a (also v vs) h = (show_holds a v h.0, all_holds false (show a v).after vs h.1)

    last_holds : (c : Attrs) (label : List ℕ) (before a : Attrs) (vs : WideValues)
        → EachTexts T vs → OfForm (with_shown c label (show_with before a vs)).form
    last_holds c label before a none h = bad_holds c label
    last_holds c label before a (also v none) h = show_holds a v h.0
    last_holds c label before a (also x (also v vs)) h =
        giving_holds (value_text x) before c label
        (show_with before (with_named (attribute_in (value_text x)) (value_text v) a) vs)
        (last_holds c label before (with_named (attribute_in (value_text x)) (value_text v) a) vs h.1.1)

    below_holds : (levels : List Level) (a : Attrs) (vs : WideValues) → EachTexts T vs
        → OfForms (show_below levels a vs).each
    below_holds levels a none h = tt
    below_holds [] a (also v none) h = (show_holds a v h.0, tt)
    below_holds [] a (also x (also v vs)) h = tt
    below_holds (Every ∷ levels) a (also (text words at) vs) h = below_holds (Every ∷ levels) a vs h.1
    below_holds (Every ∷ levels) a (also (made label ws at) vs) h =
        forms_both (show_below levels a ws).each (show_below (Every ∷ levels) (show_below levels a ws).after vs).each
        (below_holds levels a ws h.0) (below_holds (Every ∷ levels) (show_below levels a ws).after vs h.1)
    below_holds (Final ∷ levels) a (also (text words at) none) h = tt
    below_holds (Final ∷ levels) a (also (made label ws at) none) h = below_holds levels a ws h.0
    below_holds (Final ∷ levels) a (also x (also v vs)) h = below_holds (Final ∷ levels) a (also v vs) h.1

  or_one_holds : (end : Attrs) (ps : List Paragraph) → OfPars ps → OfPars (or_one end ps)
  or_one_holds end [] h = one_paragraph [] end (All-nil P)
  or_one_holds end (p ∷ ps) h = h

  unit_holds : (x : Form) (end : Attrs) → OfForm x → OfPars (unit_paragraphs x end)
  unit_holds (inline r) end h = whole_holds r end h
  unit_holds (listed ps) end h = or_one_holds end ps h

  pub shown_holds : (a : Attrs) (v : WideValue) → EachText T v → All (λ p. All P p.items) (shown_paragraphs a v)
  shown_holds a v h = unit_holds (show a v).form (show a v).after (show_holds a v h)
