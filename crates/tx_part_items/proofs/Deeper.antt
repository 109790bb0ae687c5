-- A value with origins under a path shows what the value shows, with the items' origins under the path.
use Rattle.std.proofs.Common.{◌≡◌, ℕ, zero, suc, ◌+◌, ◌-◌, List, [], ◌∷◌, ◌++◌, map, take, drop, length, refl, ap, ap₂}
use Rattle.std.proofs.Common.{sym, ◌∙◌, ◌&&◌, ◌||◌, not, arith}
use Rattle.std.proofs.lemmas.List.{map-append}
use Rattle.std.proofs.lemmas.List.Sums.{sum_by-cons}
use Rattle.std.specs.List.{list_any}
use Rattle.std.specs.Prelude.{Bool, true, false, if◌then◌else◌, Option, Some, None, ℤ, option_and_then, codes}
use Rattle.std.specs.Option.{option_map}
use Rattle.tx_prim.specs.Lengths.{length_of}
use Rattle.tx_origin.specs.Values.{WideValue, WideValues, text, made, none, also, value_text}
use Rattle.tx_origin.specs.Under.{origin_under, value_under, values_under}
use Rattle.tx_text.specs.declared.cutting.Cluster.{Cluster}
use Rattle.tx_text.specs.Clusters.{items_of, clusters_of}
use Rattle.tx_table.specs.declared.grids.Grid.{Grid}
use Rattle.tx_table.specs.declared.settings.Side.{Side}
use Rattle.tx_table.specs.Grids.{grid_of}
use Rattle.tx_table.specs.Columns.{column_widths, left_pad, right_pad}
use Rattle.tx_items.specs.declared.attributes.Attrs.{Attrs}
use Rattle.tx_items.specs.declared.drawing.Item.{Item}
use Rattle.tx_items.specs.declared.drawing.Item.TheVariants.{Glyph, Space, Chance, Gap, Break, PageEnd, Down}
use Rattle.tx_items.specs.declared.drawing.Paragraph.{Paragraph}
use Rattle.tx_items.specs.Attributes.{with_named, attribute_in}
use Rattle.tx_items.specs.Cells.{item_cells, cells_across}
use Rattle.tx_items.specs.Drawing.{is_space, is_chance, look_of, item_of, drawn, paragraph}
use Rattle.tx_items.specs.Tables.{is_cut, missing_gap, gap_before, cell_items, row_from, ShownRow, row_widths}
use Rattle.tx_items.specs.Tables.{row_paragraphs, table_paragraphs, Level, Every, Final, levels_of}
use Rattle.tx_items.specs.Shows.{run_items, items_in, fits_cell, cells_fit, after_each, shown_rows, rows_shown}
use Rattle.tx_items.specs.Shows.{tabular_shown, show_below, one_of, both_shown}
use Rattle.tx_items.specs.Rules.{Rule, rule_of}
use Rattle.tx_items.specs.Rules as rules
use Rattle.tx_items.specs.Shows.{ItemRun, empty, begun, run_of, beside, whole_run, run_ended, Form, inline, listed}
use Rattle.tx_items.specs.Shows.{Shown}
use Rattle.tx_items.specs.Shows.{AllShown, all_inline, side_by_side, paragraphs_of, joined_forms, one_by_one, in_line}
use Rattle.tx_items.specs.Shows.{made_error, error_items, failed, bad, with_shown, assign_shown, cells_of_length}
use Rattle.tx_items.specs.Shows.{space_by}
use Rattle.tx_items.specs.Shows.{space_shown, error_by, error_shown, made_form, tag_shown, behind_bar, rule_shown}
use Rattle.tx_items.specs.Shows.{giving_back, show, show_all, show_with, or_one, unit_paragraphs, shown_paragraphs}
use Rattle.tx_part_items.proofs.GridsUnder.{grid_under}
use Rattle.tx_part_items.specs.ItemsUnder.{item_under, paragraph_under, run_under, form_under, shown_under}
use Rattle.tx_part_items.specs.ShownParts.{ShownPart, show_part, paragraphs_in_tree}

module _ (base : List ℕ) where
  -- ---- items and runs

  cluster_deeper : (a : Attrs) (at : Option (List ℕ)) (c : Cluster) →
      item_of (look_of a (origin_under base at)) c ≡ item_under base (item_of (look_of a at) c)
  cluster_deeper a at c = by (is_space c.glyphs) (is_chance c.glyphs)
    where
      by : (b e : Bool) →
          (if b then Space (record { cluster = c; look = look_of a (origin_under base at) })
          else if e then Chance (record { cluster = c; look = look_of a (origin_under base at) })
          else Glyph (record { cluster = c; look = look_of a (origin_under base at) })) ≡
          item_under base
          (if b then Space (record { cluster = c; look = look_of a at })
          else if e then Chance (record { cluster = c; look = look_of a at })
          else Glyph (record { cluster = c; look = look_of a at }))
      by true e = refl
      by false true = refl
      by false false = refl

  clusters_deeper : (a : Attrs) (at : Option (List ℕ)) (cs : List Cluster) →
      map (item_of (look_of a (origin_under base at))) cs ≡ map (item_under base) (map (item_of (look_of a at)) cs)
  clusters_deeper a at [] = refl
  clusters_deeper a at (c ∷ cs) =
      ap (λ x. x ∷ map (item_of (look_of a (origin_under base at))) cs) (cluster_deeper a at c)
      ∙ ap (λ xs. item_under base (item_of (look_of a at) c) ∷ xs) (clusters_deeper a at cs)

  drawn_deeper : (a : Attrs) (at : Option (List ℕ)) (words : List ℕ) →
      drawn a (origin_under base at) words ≡ map (item_under base) (drawn a at words)
  drawn_deeper a at words = clusters_deeper a at (clusters_of (items_of words))

  -- text without a place has none under a path either
  made_deeper : (a : Attrs) (words : List ℕ) → map (item_under base) (drawn a None words) ≡ drawn a None words
  made_deeper a words = sym (drawn_deeper a None words)

  both_deeper : (xs ys : List Item) → map (item_under base) xs ≡ xs → map (item_under base) ys ≡ ys →
      map (item_under base) (xs ++ ys) ≡ xs ++ ys
  both_deeper xs ys h k =
      map-append (item_under base) xs ys ∙ ap (λ zs. zs ++ map (item_under base) ys) h ∙ ap (λ zs. xs ++ zs) k

  run_deeper : (a : Attrs) (xs : List Item) → run_of a (map (item_under base) xs) ≡ run_under base (run_of a xs)
  run_deeper a [] = refl
  run_deeper a (x ∷ xs) = refl

  beside_deeper : (r s : ItemRun) → beside (run_under base r) (run_under base s) ≡ run_under base (beside r s)
  beside_deeper empty s = refl
  beside_deeper (begun a xs) empty = refl
  beside_deeper (begun a xs) (begun b ys) = ap (begun a) (sym (map-append (item_under base) xs ys))

  whole_deeper : (r : ItemRun) (end : Attrs) → whole_run (run_under base r) end ≡ paragraph_under base (whole_run r end)
  whole_deeper empty end = refl
  whole_deeper (begun a xs) end = refl

  ended_deeper : (r : ItemRun) → run_ended (run_under base r) ≡ map (paragraph_under base) (run_ended r)
  ended_deeper empty = refl
  ended_deeper (begun a xs) = refl

  -- ---- forms

  abbrev forms_under : List (Form × Attrs) → List (Form × Attrs)
  forms_under [] = []
  forms_under (f ∷ fs) = (form_under base f.0, f.1) ∷ forms_under fs

  inline_deeper : (fs : List (Form × Attrs)) → all_inline (forms_under fs) ≡ all_inline fs
  inline_deeper [] = refl
  inline_deeper ((inline r, a) ∷ fs) = inline_deeper fs
  inline_deeper ((listed ps, a) ∷ fs) = refl

  side_deeper : (fs : List (Form × Attrs)) → side_by_side (forms_under fs) ≡ run_under base (side_by_side fs)
  side_deeper [] = refl
  side_deeper ((inline r, a) ∷ fs) =
      ap (beside (run_under base r)) (side_deeper fs) ∙ beside_deeper r (side_by_side fs)
  side_deeper ((listed ps, a) ∷ fs) = side_deeper fs

  runs_deeper : (r : ItemRun) (fs : List (Form × Attrs)) →
      paragraphs_of (run_under base r) (forms_under fs) ≡ map (paragraph_under base) (paragraphs_of r fs)
  runs_deeper r [] = ended_deeper r
  runs_deeper r ((inline q, a) ∷ fs) =
      ap (λ s. paragraphs_of s (forms_under fs)) (beside_deeper r q) ∙ runs_deeper (beside r q) fs
  runs_deeper r ((listed ps, a) ∷ fs) =
      ap (λ es. es ++ map (paragraph_under base) ps ++ paragraphs_of empty (forms_under fs)) (ended_deeper r)
      ∙ ap (λ qs. map (paragraph_under base) (run_ended r) ++ map (paragraph_under base) ps ++ qs)
      (runs_deeper empty fs)
      ∙ ap (λ es. es ++ map (paragraph_under base) (paragraphs_of empty fs))
      (sym (map-append (paragraph_under base) (run_ended r) ps))
      ∙ sym (map-append (paragraph_under base) (run_ended r ++ ps) (paragraphs_of empty fs))

  pub one_deeper : (fs : List (Form × Attrs)) →
      one_by_one (forms_under fs) ≡ map (paragraph_under base) (one_by_one fs)
  one_deeper [] = refl
  one_deeper ((inline r, a) ∷ fs) =
      ap (λ p. p ∷ one_by_one (forms_under fs)) (whole_deeper r a)
      ∙ ap (λ ps. paragraph_under base (whole_run r a) ∷ ps) (one_deeper fs)
  one_deeper ((listed ps, a) ∷ fs) =
      ap (λ qs. map (paragraph_under base) ps ++ qs) (one_deeper fs)
      ∙ sym (map-append (paragraph_under base) ps (one_by_one fs))

  joined_deeper : (fs : List (Form × Attrs)) → joined_forms (forms_under fs) ≡ form_under base (joined_forms fs)
  joined_deeper fs =
      ap (λ b. if b then inline (side_by_side (forms_under fs)) else listed (paragraphs_of empty (forms_under fs)))
      (inline_deeper fs) ∙ by (all_inline fs)
    where
      by : (b : Bool) →
          (if b then inline (side_by_side (forms_under fs)) else listed (paragraphs_of empty (forms_under fs))) ≡
          form_under base (if b then inline (side_by_side fs) else listed (paragraphs_of empty fs))
      by true = ap inline (side_deeper fs)
      by false = ap listed (runs_deeper empty fs)

  form_behind : (fs : List (Form × Attrs)) (f : Form × Attrs) →
      forms_under (fs ++ f ∷ []) ≡ forms_under fs ++ (form_under base f.0, f.1) ∷ []
  form_behind [] f = refl
  form_behind (g ∷ fs) f = ap (λ gs. (form_under base g.0, g.1) ∷ gs) (form_behind fs f)

  made_form_deeper : (a : Attrs) (xs : List Item) → map (item_under base) xs ≡ xs →
      made_form a xs ≡ (form_under base (inline (run_of a xs)), a)
  made_form_deeper a xs h =
      ap (λ ys. made_form a ys) (sym h) ∙ ap {B = Form × Attrs} (λ r. (inline r, a)) (run_deeper a xs)

  bar_deeper : (barred : Bool) (a : Attrs) (fs : List (Form × Attrs)) →
      behind_bar barred a (forms_under fs) ≡ forms_under (behind_bar barred a fs)
  bar_deeper false a fs = refl
  bar_deeper true a fs =
      ap (λ f. f ∷ forms_under fs)
      (made_form_deeper a (drawn a None (codes "|")) (made_deeper a (codes "|")))

  -- ---- rules

  line_deeper : (a : Attrs) (xs : List Item) →
      in_line a (map (item_under base) xs) ≡ shown_under base (in_line a xs)
  line_deeper a xs =
      ap {B = Shown} (λ r. record { form = inline r; after = a; errors = [] }) (run_deeper a xs)

  error_deeper : (a : Attrs) (kind detail : List ℕ) →
      map (item_under base) (error_items a kind detail) ≡ error_items a kind detail
  error_deeper a kind [] =
      let front : List Item = drawn a None (codes "<less>!") in
      both_deeper (front ++ drawn a None kind) (drawn a None (codes "<gtr>"))
      (both_deeper front (drawn a None kind) (made_deeper a (codes "<less>!")) (made_deeper a kind))
      (made_deeper a (codes "<gtr>"))
  error_deeper a kind (d ∷ detail) =
      let one : List Item = drawn a None (codes "<less>!") ++ drawn a None kind in
      let two : List Item = one ++ drawn a None (codes " ") in
      let three : List Item = two ++ drawn a None (d ∷ detail) in
      both_deeper three (drawn a None (codes "<gtr>"))
      (both_deeper two (drawn a None (d ∷ detail))
      (both_deeper one (drawn a None (codes " "))
      (both_deeper (drawn a None (codes "<less>!")) (drawn a None kind) (made_deeper a (codes "<less>!"))
      (made_deeper a kind)) (made_deeper a (codes " "))) (made_deeper a (d ∷ detail)))
      (made_deeper a (codes "<gtr>"))

  failed_deeper : (a : Attrs) (kind detail : List ℕ) →
      failed a kind detail ≡ shown_under base (failed a kind detail)
  failed_deeper a kind detail =
      ap {B = Shown} (λ xs. record {
        form = inline (run_of a xs);
        after = a;
        errors = made_error kind detail ∷ [];
      }) (sym (error_deeper a kind detail))
      ∙ ap {B = Shown} (λ r. record { form = inline r; after = a; errors = made_error kind detail ∷ [] })
      (run_deeper a (error_items a kind detail))

  bad_deeper : (a : Attrs) (label : List ℕ) → bad a label ≡ shown_under base (bad a label)
  bad_deeper a label = failed_deeper a (codes "bad") label

  text_deeper : (v : WideValue) → value_text (value_under base v) ≡ value_text v
  text_deeper (text words at) = refl
  text_deeper (made label parts at) = refl

  assign_deeper : (a : Attrs) (label : List ℕ) (vs : WideValues) →
      assign_shown a label (values_under base vs) ≡ shown_under base (assign_shown a label vs)
  assign_deeper a label none = bad_deeper a label
  assign_deeper a label (also x none) = bad_deeper a label
  assign_deeper a label (also x (also v none)) =
      ap {B = Shown} (λ o. record {
        form = inline empty;
        after = with_named (attribute_in o) (value_text (value_under base v)) a;
        errors = [];
      }) (text_deeper x)
      ∙ ap {B = Shown} (λ o. record {
        form = inline empty;
        after = with_named (attribute_in (value_text x)) o a;
        errors = [];
      }) (text_deeper v)
  assign_deeper a label (also x (also v (also w vs))) = bad_deeper a label

  space_by_deeper : (item : ℕ → Item) → ((n : ℕ) → item_under base (item n) ≡ item n) → (a : Attrs)
      (label : List ℕ) (z : Option ℤ) → space_by item a label z ≡ shown_under base (space_by item a label z)
  space_by_deeper item h a label None = bad_deeper a label
  space_by_deeper item h a label (Some z) = ap (λ x. in_line a (x ∷ [])) (sym (h (cells_of_length z)))

  space_deeper : (item : ℕ → Item) → ((n : ℕ) → item_under base (item n) ≡ item n) → (a : Attrs) (label : List ℕ)
      (vs : WideValues) → space_shown item a label (values_under base vs) ≡
      shown_under base (space_shown item a label vs)
  space_deeper item h a label none = bad_deeper a label
  space_deeper item h a label (also v none) =
      ap (λ o. space_by item a label (option_and_then length_of o)) (text_deeper v)
      ∙ space_by_deeper item h a label (option_and_then length_of (value_text v))
  space_deeper item h a label (also v (also w vs)) = bad_deeper a label

  error_by_deeper : (a : Attrs) (label : List ℕ) (k d : Option (List ℕ)) →
      error_by a label k d ≡ shown_under base (error_by a label k d)
  error_by_deeper a label None d = bad_deeper a label
  error_by_deeper a label (Some k) None = bad_deeper a label
  error_by_deeper a label (Some k) (Some d) = failed_deeper a k d

  error_shown_deeper : (a : Attrs) (label : List ℕ) (vs : WideValues) →
      error_shown a label (values_under base vs) ≡ shown_under base (error_shown a label vs)
  error_shown_deeper a label none = bad_deeper a label
  error_shown_deeper a label (also k none) = bad_deeper a label
  error_shown_deeper a label (also k (also d none)) =
      ap (λ o. error_by a label o (value_text (value_under base d))) (text_deeper k)
      ∙ ap (error_by a label (value_text k)) (text_deeper d)
      ∙ error_by_deeper a label (value_text k) (value_text d)
  error_shown_deeper a label (also k (also d (also e vs))) = bad_deeper a label

  abbrev all_under : AllShown → AllShown
  all_under all = record all { each = forms_under all.each }

  concat_deeper : (all : AllShown) → (record {
    form = joined_forms (forms_under all.each);
    after = all.after;
    errors = all.errors;
  }) ≡ shown_under base (record { form = joined_forms all.each; after = all.after; errors = all.errors })
  concat_deeper all =
      ap {B = Shown} (λ f. record { form = f; after = all.after; errors = all.errors }) (joined_deeper all.each)

  document_deeper : (all : AllShown) → (record {
    form = listed (one_by_one (forms_under all.each));
    after = all.after;
    errors = all.errors;
  }) ≡ shown_under base (record { form = listed (one_by_one all.each); after = all.after; errors = all.errors })
  document_deeper all =
      ap {B = Shown} (λ ps. record { form = listed ps; after = all.after; errors = all.errors }) (one_deeper all.each)

  tag_deeper : (a : Attrs) (label : List ℕ) (all : AllShown) →
      tag_shown a label (all_under all) ≡ shown_under base (tag_shown a label all)
  tag_deeper a label all =
      let front : List Item = drawn a None (codes "<less>") ++ drawn a None label in
      let close : List Item = drawn all.after None (codes "<gtr>") in
      let begins : Form × Attrs = (form_under base (inline (run_of a front)), a) in
      let same : made_form a front ∷ (forms_under all.each ++ made_form all.after close ∷ []) ≡
      forms_under (made_form a front ∷ (all.each ++ made_form all.after close ∷ [])) =
      ap (λ f. f ∷ (forms_under all.each ++ made_form all.after close ∷ []))
      (made_form_deeper a front (both_deeper (drawn a None (codes "<less>")) (drawn a None label)
      (made_deeper a (codes "<less>")) (made_deeper a label)))
      ∙ ap (λ f. begins ∷ (forms_under all.each ++ f ∷ []))
      (made_form_deeper all.after close (made_deeper all.after (codes "<gtr>")))
      ∙ ap (λ fs. begins ∷ fs) (sym (form_behind all.each (made_form all.after close))) in
      ap {B = Shown} (λ f. record {
        form = f;
        after = all.after;
        errors = made_error (codes "undefined-tag") label ∷ all.errors;
      }) (ap joined_forms same ∙ joined_deeper (made_form a front ∷ (all.each ++ made_form all.after close ∷ [])))

  with_shown_deeper : (a : Attrs) (label : List ℕ) (last : Option Shown) →
      with_shown a label (option_map (shown_under base) last) ≡ shown_under base (with_shown a label last)
  with_shown_deeper a label None = bad_deeper a label
  with_shown_deeper a label (Some s) = refl

  -- ---- tables

  under_append : (xs ys : List Item) →
      map (item_under base) (xs ++ ys) ≡ map (item_under base) xs ++ map (item_under base) ys
  under_append xs ys = map-append (item_under base) xs ys

  cut_deeper : (x : Item) → is_cut (item_under base x) ≡ is_cut x
  cut_deeper (Glyph d) = refl
  cut_deeper (Space d) = refl
  cut_deeper (Chance d) = refl
  cut_deeper (Gap n) = refl
  cut_deeper Break = refl
  cut_deeper PageEnd = refl
  cut_deeper (Down n) = refl

  cells_deeper : (x : Item) → item_cells (item_under base x) ≡ item_cells x
  cells_deeper (Glyph d) = refl
  cells_deeper (Space d) = refl
  cells_deeper (Chance d) = refl
  cells_deeper (Gap n) = refl
  cells_deeper Break = refl
  cells_deeper PageEnd = refl
  cells_deeper (Down n) = refl

  cuts_deeper : (xs : List Item) → list_any is_cut (map (item_under base) xs) ≡ list_any is_cut xs
  cuts_deeper [] = refl
  cuts_deeper (x ∷ xs) = ap₂ ◌||◌ (cut_deeper x) (cuts_deeper xs)

  across_deeper : (xs : List Item) → cells_across (map (item_under base) xs) ≡ cells_across xs
  across_deeper [] = refl
  across_deeper (x ∷ xs) =
      omega (
        arith,
        sum_by-cons item_cells (item_under base x) (map (item_under base) xs),
        sum_by-cons item_cells x xs,
        cells_deeper x,
        across_deeper xs,
      )

  run_items_deeper : (r : ItemRun) → run_items (run_under base r) ≡ map (item_under base) (run_items r)
  run_items_deeper empty = refl
  run_items_deeper (begun a xs) = refl

  fits_deeper : (x : Form) → fits_cell (form_under base x) ≡ fits_cell x
  fits_deeper (inline r) = ap (λ xs. not (list_any is_cut xs)) (run_items_deeper r) ∙ ap not (cuts_deeper (run_items r))
  fits_deeper (listed ps) = refl

  all_fit_deeper : (fs : List (Form × Attrs)) → cells_fit (forms_under fs) ≡ cells_fit fs
  all_fit_deeper [] = refl
  all_fit_deeper (f ∷ fs) = ap₂ ◌&&◌ (fits_deeper f.0) (all_fit_deeper fs)

  items_deeper : (x : Form) → items_in (form_under base x) ≡ map (item_under base) (items_in x)
  items_deeper (inline r) = run_items_deeper r
  items_deeper (listed ps) = refl

  abbrev cells_under : List (List Item) → List (List Item)
  cells_under [] = []
  cells_under (x ∷ xs) = map (item_under base) x ∷ cells_under xs

  abbrev rows_under : List ShownRow → List ShownRow
  rows_under [] = []
  rows_under (r ∷ rs) = (r.0, cells_under r.1) ∷ rows_under rs

  taken_deeper : (n : ℕ) (fs : List (Form × Attrs)) →
      map (λ f. items_in f.0) (take n (forms_under fs)) ≡ cells_under (map (λ f. items_in f.0) (take n fs))
  taken_deeper zero fs = refl
  taken_deeper (suc n) [] = refl
  taken_deeper (suc n) (f ∷ fs) = ap₂ ◌∷◌ (items_deeper f.0) (taken_deeper n fs)

  dropped_deeper : (n : ℕ) (fs : List (Form × Attrs)) → drop n (forms_under fs) ≡ forms_under (drop n fs)
  dropped_deeper zero fs = refl
  dropped_deeper (suc n) [] = refl
  dropped_deeper (suc n) (f ∷ fs) = dropped_deeper n fs

  after_deeper : (n : ℕ) (a : Attrs) (fs : List (Form × Attrs)) →
      after_each a (take n (forms_under fs)) ≡ after_each a (take n fs)
  after_deeper zero a fs = refl
  after_deeper (suc n) a [] = refl
  after_deeper (suc n) a (f ∷ fs) = after_deeper n f.1 fs

  rows_deeper : (ns : List ℕ) (a : Attrs) (fs : List (Form × Attrs)) →
      shown_rows ns a (forms_under fs) ≡ rows_under (shown_rows ns a fs)
  rows_deeper [] a fs = refl
  rows_deeper (n ∷ ns) a fs =
      ap₂ {C = List ShownRow} (λ cs rs. (a, cs) ∷ rs) (taken_deeper n fs)
      (ap₂ (shown_rows ns) (after_deeper n a fs) (dropped_deeper n fs)
      ∙ rows_deeper ns (after_each a (take n fs)) (drop n fs))

  row_widths_deeper : (cells : List (List Item)) → map cells_across (cells_under cells) ≡ map cells_across cells
  row_widths_deeper [] = refl
  row_widths_deeper (x ∷ xs) = ap₂ ◌∷◌ (across_deeper x) (row_widths_deeper xs)

  widths_deeper : (rows : List ShownRow) → row_widths (rows_under rows) ≡ row_widths rows
  widths_deeper [] = refl
  widths_deeper (r ∷ rs) = ap₂ ◌∷◌ (row_widths_deeper r.1) (widths_deeper rs)

  missing_deeper : (columns : List ℕ) → map (item_under base) (missing_gap columns) ≡ missing_gap columns
  missing_deeper [] = refl
  missing_deeper (n ∷ ns) = refl

  before_deeper : (j : ℕ) → map (item_under base) (gap_before j) ≡ gap_before j
  before_deeper zero = refl
  before_deeper (suc j) = refl

  cell_deeper : (s : Side) (n : ℕ) (x : List Item) →
      cell_items s n (map (item_under base) x) ≡ map (item_under base) (cell_items s n x)
  cell_deeper s n x =
      let free : ℕ = n - cells_across x in
      ap (λ w. Gap (left_pad s (n - w)) ∷ (map (item_under base) x ++ Gap (right_pad s (n - w)) ∷ [])) (across_deeper x)
      ∙ ap (λ xs. Gap (left_pad s free) ∷ xs) (sym (under_append x (Gap (right_pad s free) ∷ [])))

  row_deeper : (j : ℕ) (columns : List ℕ) (sides : List Side) (cells : List (List Item)) →
      row_from j columns sides (cells_under cells) ≡ map (item_under base) (row_from j columns sides cells)
  row_deeper j columns sides [] = sym (missing_deeper columns)
  row_deeper j [] sides (x ∷ xs) = refl
  row_deeper j (n ∷ ns) [] (x ∷ xs) = refl
  row_deeper j (n ∷ ns) (s ∷ ss) (x ∷ xs) =
      ap₂ {C = List Item} (λ c r. gap_before j ++ c ++ r) (cell_deeper s n x) (row_deeper (j + 1) ns ss xs)
      ∙ ap (λ g. g ++ map (item_under base) (cell_items s n x) ++ map (item_under base) (row_from (j + 1) ns ss xs))
      (sym (before_deeper j))
      ∙ ap (λ g. g ++ map (item_under base) (row_from (j + 1) ns ss xs))
      (sym (under_append (gap_before j) (cell_items s n x)))
      ∙ sym (under_append (gap_before j ++ cell_items s n x) (row_from (j + 1) ns ss xs))

  table_deeper : (columns : List ℕ) (sides : List (List Side)) (rows : List ShownRow) →
      row_paragraphs columns sides (rows_under rows) ≡ map (paragraph_under base) (row_paragraphs columns sides rows)
  table_deeper columns [] rows = refl
  table_deeper columns (ss ∷ sides) [] = refl
  table_deeper columns (ss ∷ sides) (r ∷ rs) =
      ap₂ {C = List Paragraph} (λ xs ps. paragraph xs r.0 ∷ ps) (row_deeper 0 columns ss r.1)
      (table_deeper columns sides rs)

  rows_shown_deeper : (a : Attrs) (sides : List (List Side)) (cells : AllShown) →
      rows_shown a sides (all_under cells) ≡ shown_under base (rows_shown a sides cells)
  rows_shown_deeper a sides cells =
      let rows : List ShownRow = shown_rows (map length sides) a cells.each in
      ap {B = Shown} (λ ps. record { form = listed ps; after = cells.after; errors = cells.errors })
      (ap (table_paragraphs sides) (rows_deeper (map length sides) a cells.each)
      ∙ ap (λ ws. row_paragraphs (column_widths ws) sides (rows_under rows)) (widths_deeper rows)
      ∙ table_deeper (column_widths (row_widths rows)) sides rows)

  tabular_deeper : (a : Attrs) (label : List ℕ) (grid' grid : Option Grid) (cells' cells : AllShown) →
      option_map (λ g. g.sides) grid' ≡ option_map (λ g. g.sides) grid → cells' ≡ all_under cells →
      tabular_shown a label grid' cells' ≡ shown_under base (tabular_shown a label grid cells)
  tabular_deeper a label None None cells' cells e f = bad_deeper a label
  tabular_deeper a label None (Some g) cells' cells e f = absurd cc
  tabular_deeper a label (Some g') None cells' cells e f = absurd cc
  tabular_deeper a label (Some g') (Some g) cells' cells e f =
      let sides : g'.sides ≡ g.sides = cc in
      ap (λ c. if cells_fit c.each then rows_shown a g'.sides c else bad a label) f
      ∙ ap (λ ss. if cells_fit (forms_under cells.each) then rows_shown a ss (all_under cells) else bad a label) sides
      ∙ ap (λ b. if b then rows_shown a g.sides (all_under cells) else bad a label) (all_fit_deeper cells.each)
      ∙ pick (cells_fit cells.each)
    where
      pick : (b : Bool) → (if b then rows_shown a g.sides (all_under cells) else bad a label) ≡
          shown_under base (if b then rows_shown a g.sides cells else bad a label)
      pick true = rows_shown_deeper a g.sides cells
      pick false = bad_deeper a label

  levels_deeper : (vs : WideValues) → levels_of (values_under base vs) ≡ levels_of vs
  levels_deeper none = refl
  levels_deeper (also (text words at) vs) = refl
  levels_deeper (also (made label ws at) vs) = refl

  forms_both : (xs ys : List (Form × Attrs)) → forms_under xs ++ forms_under ys ≡ forms_under (xs ++ ys)
  forms_both [] ys = refl
  forms_both (x ∷ xs) ys = ap (λ fs. (form_under base x.0, x.1) ∷ fs) (forms_both xs ys)

  both_shown_deeper : (x y : AllShown) → both_shown (all_under x) (all_under y) ≡ all_under (both_shown x y)
  both_shown_deeper x y =
      ap {B = AllShown} (λ fs. record { each = fs; after = y.after; errors = x.errors ++ y.errors })
      (forms_both x.each y.each)

  rule_deeper : (r : Rule) (a : Attrs) (label : List ℕ) (vs : WideValues) (all' all : Bool → AllShown)
      (last' last : Option Shown) (table' table : Shown) → ((barred : Bool) → all' barred ≡ all_under (all barred)) →
      last' ≡ option_map (shown_under base) last → table' ≡ shown_under base table →
      rule_shown r a label (values_under base vs) all' last' table' ≡
      shown_under base (rule_shown r a label vs all last table)
  rule_deeper rules.Concat a label vs all' all last' last table' table h k t =
      ap {B = Shown} (λ s. record { form = joined_forms s.each; after = s.after; errors = s.errors }) (h false)
      ∙ concat_deeper (all false)
  rule_deeper rules.Document a label vs all' all last' last table' table h k t =
      ap {B = Shown} (λ s. record { form = listed (one_by_one s.each); after = s.after; errors = s.errors }) (h false)
      ∙ document_deeper (all false)
  rule_deeper rules.With a label vs all' all last' last table' table h k t =
      ap (with_shown a label) k ∙ with_shown_deeper a label last
  rule_deeper rules.Assign a label vs all' all last' last table' table h k t = assign_deeper a label vs
  rule_deeper rules.Silent a label vs all' all last' last table' table h k t = refl
  rule_deeper rules.NextLine a label vs all' all last' last table' table h k t = refl
  rule_deeper rules.NewPage a label vs all' all last' last table' table h k t = refl
  rule_deeper rules.Hspace a label vs all' all last' last table' table h k t = space_deeper Gap (λ n. refl) a label vs
  rule_deeper rules.Vspace a label vs all' all last' last table' table h k t = space_deeper Down (λ n. refl) a label vs
  rule_deeper rules.Error a label vs all' all last' last table' table h k t = error_shown_deeper a label vs
  rule_deeper rules.Tabular a label vs all' all last' last table' table h k t = t
  rule_deeper rules.Other a label vs all' all last' last table' table h k t =
      ap (tag_shown a label) (h true) ∙ tag_deeper a label (all true)

  giving_deeper : (name : Option (List ℕ)) (before : Attrs) (o : Option Shown) →
      giving_back name before (option_map (shown_under base) o) ≡
      option_map (shown_under base) (giving_back name before o)
  giving_deeper name before None = refl
  giving_deeper name before (Some s) = refl

  -- ---- values

  -- one value, and others after it
  abbrev first_shown : Bool → Attrs → Shown → AllShown → AllShown
  first_shown barred a s rest = record {
    each = behind_bar barred a ((s.form, s.after) ∷ rest.each);
    after = rest.after;
    errors = s.errors ++ rest.errors;
  }

  first_deeper : (barred : Bool) (a : Attrs) (s : Shown) (rest : AllShown) →
      first_shown barred a (shown_under base s) (all_under rest) ≡ all_under (first_shown barred a s rest)
  first_deeper barred a s rest =
      ap {B = AllShown} (λ fs. record { each = fs; after = rest.after; errors = s.errors ++ rest.errors })
      (bar_deeper barred a ((s.form, s.after) ∷ rest.each))

  mutual
    unfolding show

    pub show_deeper : (a : Attrs) (v : WideValue) → show a (value_under base v) ≡ shown_under base (show a v)
    show_deeper a (text words at) =
        ap (in_line a) (drawn_deeper a at words) ∙ line_deeper a (drawn a at words)
    show_deeper a (made label vs at) =
        rule_deeper (rule_of label) a label vs (λ barred. show_all barred a (values_under base vs))
        (λ barred. show_all barred a vs) (show_with a a (values_under base vs)) (show_with a a vs)
        (tabular_shown a label (grid_of (value_under base (made label vs at)))
        (show_below (levels_of (values_under base vs)) a (values_under base vs)))
        (tabular_shown a label (grid_of (made label vs at)) (show_below (levels_of vs) a vs))
        (λ barred. all_deeper barred a vs) (with_deeper a a vs)
        (tabular_deeper a label (grid_of (value_under base (made label vs at))) (grid_of (made label vs at))
        (show_below (levels_of (values_under base vs)) a (values_under base vs)) (show_below (levels_of vs) a vs)
        (grid_under base (made label vs at))
        (ap (λ ls. show_below ls a (values_under base vs)) (levels_deeper vs) ∙ below_deeper (levels_of vs) a vs))

    all_deeper : (barred : Bool) (a : Attrs) (vs : WideValues) →
        show_all barred a (values_under base vs) ≡ all_under (show_all barred a vs)
    all_deeper barred a none = refl
    all_deeper barred a (also v vs) =
        ap (λ s. first_shown barred a s (show_all barred s.after (values_under base vs))) (show_deeper a v)
        ∙ ap (first_shown barred a (shown_under base (show a v))) (all_deeper barred (show a v).after vs)
        ∙ first_deeper barred a (show a v) (show_all barred (show a v).after vs)

    with_deeper : (before a : Attrs) (vs : WideValues) →
        show_with before a (values_under base vs) ≡ option_map (shown_under base) (show_with before a vs)
    with_deeper before a none = refl
    with_deeper before a (also v none) = ap Some (show_deeper a v)
    with_deeper before a (also x (also v vs)) =
        ap (λ o. giving_back o before
        (show_with before (with_named (attribute_in o) (value_text (value_under base v)) a) (values_under base vs)))
        (text_deeper x)
        ∙ ap (λ o. giving_back (value_text x) before
        (show_with before (with_named (attribute_in (value_text x)) o a) (values_under base vs))) (text_deeper v)
        ∙ ap (giving_back (value_text x) before)
        (with_deeper before (with_named (attribute_in (value_text x)) (value_text v) a) vs)
        ∙ giving_deeper (value_text x) before
        (show_with before (with_named (attribute_in (value_text x)) (value_text v) a) vs)

    below_deeper : (levels : List Level) (a : Attrs) (vs : WideValues) →
        show_below levels a (values_under base vs) ≡ all_under (show_below levels a vs)
    below_deeper levels a none = refl
    below_deeper [] a (also v none) = ap one_of (show_deeper a v)
    below_deeper [] a (also x (also v vs)) = refl
    below_deeper (Every ∷ levels) a (also (text words at) vs) = below_deeper (Every ∷ levels) a vs
    below_deeper (Every ∷ levels) a (also (made label ws at) vs) =
        ap (λ s. both_shown s (show_below (Every ∷ levels) s.after (values_under base vs))) (below_deeper levels a ws)
        ∙ ap (both_shown (all_under (show_below levels a ws)))
        (below_deeper (Every ∷ levels) (show_below levels a ws).after vs)
        ∙ both_shown_deeper (show_below levels a ws) (show_below (Every ∷ levels) (show_below levels a ws).after vs)
    below_deeper (Final ∷ levels) a (also (text words at) none) = refl
    below_deeper (Final ∷ levels) a (also (made label ws at) none) = below_deeper levels a ws
    below_deeper (Final ∷ levels) a (also x (also v vs)) = below_deeper (Final ∷ levels) a (also v vs)

  -- ---- units

  or_one_deeper : (end : Attrs) (ps : List Paragraph) →
      or_one end (map (paragraph_under base) ps) ≡ map (paragraph_under base) (or_one end ps)
  or_one_deeper end [] = refl
  or_one_deeper end (p ∷ ps) = refl

  unit_deeper : (f : Form) (end : Attrs) →
      unit_paragraphs (form_under base f) end ≡ map (paragraph_under base) (unit_paragraphs f end)
  unit_deeper (inline r) end = ap (λ p. p ∷ []) (whole_deeper r end)
  unit_deeper (listed ps) end = or_one_deeper end ps

  pub paragraphs_deeper : (a : Attrs) (v : WideValue) →
      shown_paragraphs a (value_under base v) ≡ map (paragraph_under base) (shown_paragraphs a v)
  paragraphs_deeper a v =
      ap (λ s. unit_paragraphs s.form s.after) (show_deeper a v) ∙ unit_deeper (show a v).form (show a v).after

-- ---- parts

-- a part's paragraphs in the tree are those that its value with origins under its path shows
pub placed_paragraphs : (p : ShownPart) →
    paragraphs_in_tree p ≡ one_by_one (((show p.before (value_under p.path p.value)).form, p.end) ∷ [])
placed_paragraphs p =
    sym (one_deeper p.path (((show_part p).form, p.end) ∷ []))
    ∙ ap (λ s. one_by_one ((s.form, p.end) ∷ [])) (sym (show_deeper p.path p.before p.value))
