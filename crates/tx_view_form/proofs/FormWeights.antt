-- What runs, forms and paragraphs weigh, and what they weigh put together.
use Rattle.std.proofs.Common.{◌≡◌, ℕ, zero, suc, ◌+◌, ◌-◌, ◌<◌, ◌≤◌, Bool, true, false, cond, List, [], ◌∷◌, ◌++◌}
use Rattle.std.proofs.Common.{map, length, take, drop, refl, sym, ap, ◌∙◌, arith}
use Rattle.std.proofs.lemmas.List.{take-append-drop, length-take-le, length-drop}
use Rattle.std.proofs.lemmas.List.Sums.{sum_by-cons, sum_by-append}
use Rattle.tx_table.specs.declared.settings.Side.{Side}
use Rattle.tx_table.specs.Columns.{left_pad, right_pad, across}
use Rattle.tx_items.specs.declared.attributes.Attrs.{Attrs}
use Rattle.tx_items.specs.declared.drawing.Item.{Item}
use Rattle.tx_items.specs.declared.drawing.Item.TheVariants.{Gap}
use Rattle.tx_items.specs.declared.drawing.Paragraph.{Paragraph}
use Rattle.tx_items.specs.Cells.{cells_across}
use Rattle.tx_items.specs.Drawing.{paragraph}
use Rattle.tx_items.specs.Tables.{missing_gap, gap_before, cell_items, row_from, row_items, row_paragraphs}
use Rattle.tx_items.specs.Shows.{items_in, after_each, shown_rows}
use Rattle.tx_items.proofs.Below.{AreSome, sum_of}
use Rattle.tx_items.specs.Shows.{ItemRun, empty, begun, run_of, beside, whole_run, run_ended, Form, inline, listed}
use Rattle.tx_items.specs.Shows.{all_inline}
use Rattle.tx_items.specs.Shows.{side_by_side, paragraphs_of, joined_forms, one_by_one, or_one, unit_paragraphs}
use Rattle.tx_view_form.specs.Weights.{item_weight, items_weight, weight_of}

abbrev pub run_weight : ItemRun → ℕ
run_weight empty = 0
run_weight (begun a xs) = items_weight xs

abbrev pub form_weight : Form → ℕ
form_weight (inline r) = run_weight r
form_weight (listed ps) = weight_of ps

-- where each may be a paragraph of its own
abbrev pub forms_weight : List (Form × Attrs) → ℕ
forms_weight [] = 0
forms_weight (f ∷ fs) = 1 + form_weight f.0 + forms_weight fs

pub items_both : (xs ys : List Item) → items_weight (xs ++ ys) ≡ items_weight xs + items_weight ys
items_both xs ys = sum_by-append item_weight xs ys

pub one_item : (x : Item) → items_weight (x ∷ []) ≡ item_weight x
one_item x = omega (arith, sum_by-cons item_weight x [])

pars_both : (ps qs : List Paragraph) → weight_of (ps ++ qs) ≡ weight_of ps + weight_of qs
pars_both ps qs = sum_by-append (λ p. 1 + items_weight p.items) ps qs

one_paragraph : (xs : List Item) (a : Attrs) → weight_of (paragraph xs a ∷ []) ≡ 1 + items_weight xs
one_paragraph xs a = omega (arith, sum_by-cons (λ p. 1 + items_weight p.items) (paragraph xs a) [])

pub run_of_weight : (a : Attrs) (xs : List Item) → run_weight (run_of a xs) ≡ items_weight xs
run_of_weight a [] = refl
run_of_weight a (x ∷ xs) = refl

beside_weight : (r s : ItemRun) → run_weight (beside r s) ≡ run_weight r + run_weight s
beside_weight empty s = omega arith
beside_weight (begun a xs) empty = omega arith
beside_weight (begun a xs) (begun b ys) = items_both xs ys

ended_weight : (r : ItemRun) → weight_of (run_ended r) ≤ 1 + run_weight r
ended_weight empty = omega arith
ended_weight (begun a xs) = omega (arith, one_paragraph xs a)

whole_weight : (r : ItemRun) (a : Attrs) → weight_of (whole_run r a ∷ []) ≡ 1 + run_weight r
whole_weight empty a = one_paragraph [] a
whole_weight (begun b xs) a = one_paragraph xs b

side_weight : (fs : List (Form × Attrs)) → run_weight (side_by_side fs) ≤ forms_weight fs
side_weight [] = omega arith
side_weight ((inline r, a) ∷ fs) =
    let rest : run_weight (side_by_side fs) ≤ forms_weight fs = side_weight fs in
    omega (arith, beside_weight r (side_by_side fs))
side_weight ((listed ps, a) ∷ fs) =
    let rest : run_weight (side_by_side fs) ≤ forms_weight fs = side_weight fs in
    omega arith

paragraphs_weight : (r : ItemRun) (fs : List (Form × Attrs))
    → weight_of (paragraphs_of r fs) ≤ 1 + run_weight r + forms_weight fs
paragraphs_weight r [] = omega (arith, ended_weight r)
paragraphs_weight r ((inline q, a) ∷ fs) =
    let rest : weight_of (paragraphs_of (beside r q) fs) ≤ 1 + run_weight (beside r q) + forms_weight fs =
    paragraphs_weight (beside r q) fs in
    omega (arith, beside_weight r q)
paragraphs_weight r ((listed ps, a) ∷ fs) =
    let later : List Paragraph = paragraphs_of empty fs in
    let rest : weight_of later ≤ 1 + 0 + forms_weight fs = paragraphs_weight empty fs in
    let front : weight_of (run_ended r ++ ps) ≡ weight_of (run_ended r) + weight_of ps = pars_both (run_ended r) ps in
    let whole : weight_of (run_ended r ++ ps ++ later) ≡ weight_of (run_ended r ++ ps) + weight_of later =
    pars_both (run_ended r ++ ps) later in
    let own : weight_of (run_ended r) ≤ 1 + run_weight r = ended_weight r in
    omega arith

pub one_weight : (fs : List (Form × Attrs)) → weight_of (one_by_one fs) ≤ forms_weight fs
one_weight [] = omega arith
one_weight ((inline r, a) ∷ fs) =
    let rest : weight_of (one_by_one fs) ≤ forms_weight fs = one_weight fs in
    let whole : weight_of (whole_run r a ∷ one_by_one fs)
    ≡ weight_of (whole_run r a ∷ []) + weight_of (one_by_one fs) = pars_both (whole_run r a ∷ []) (one_by_one fs) in
    omega (arith, whole_weight r a)
one_weight ((listed ps, a) ∷ fs) =
    let rest : weight_of (one_by_one fs) ≤ forms_weight fs = one_weight fs in
    omega (arith, pars_both ps (one_by_one fs))

pub joined_weight : (fs : List (Form × Attrs)) → form_weight (joined_forms fs) ≤ 1 + forms_weight fs
joined_weight fs = pick (all_inline fs)
  where
    pick : (b : Bool)
        → form_weight (cond b (inline (side_by_side fs)) (listed (paragraphs_of empty fs))) ≤ 1 + forms_weight fs
    pick true = omega (arith, side_weight fs)
    pick false = omega (arith, paragraphs_weight empty fs)

pub forms_behind : (fs : List (Form × Attrs)) (f : Form) (a : Attrs)
    → forms_weight (fs ++ (f, a) ∷ []) ≡ forms_weight fs + (1 + form_weight f)
forms_behind [] f a = omega arith
forms_behind (g ∷ fs) f a =
    let rest : forms_weight (fs ++ (f, a) ∷ []) ≡ forms_weight fs + (1 + form_weight f) = forms_behind fs f a in
    omega arith

or_one_weight : (end : Attrs) (ps : List Paragraph) → weight_of (or_one end ps) ≤ 1 + weight_of ps
or_one_weight end [] = omega (arith, one_paragraph [] end)
or_one_weight end (p ∷ ps) = omega arith

pub unit_weight : (f : Form) (end : Attrs) → weight_of (unit_paragraphs f end) ≤ 1 + form_weight f
unit_weight (inline r) end = omega (arith, whole_weight r end)
unit_weight (listed ps) end = or_one_weight end ps

-- ---- tables

-- each cell with its pads and the gap beside it, and with a paragraph that may begin with it
abbrev pub cells_weight : List (Form × Attrs) → ℕ
cells_weight [] = 0
cells_weight (f ∷ fs) = 4 + form_weight f.0 + cells_weight fs

pub cells_both : (xs ys : List (Form × Attrs)) → cells_weight (xs ++ ys) ≡ cells_weight xs + cells_weight ys
cells_both [] ys = omega arith
cells_both (x ∷ xs) ys =
    let rest : cells_weight (xs ++ ys) ≡ cells_weight xs + cells_weight ys = cells_both xs ys in
    omega arith

gap_weight : (n : ℕ) (xs : List Item) → items_weight (Gap n ∷ xs) ≡ 1 + items_weight xs
gap_weight n xs = sum_by-cons item_weight (Gap n) xs

missing_weight : (columns : List ℕ) → items_weight (missing_gap columns) ≤ 1
missing_weight [] = omega arith
missing_weight (n ∷ ns) = omega (arith, gap_weight (2 + across (n ∷ ns)) [])

before_weight : (j : ℕ) → items_weight (gap_before j) ≤ 1
before_weight zero = omega arith
before_weight (suc j) = omega (arith, gap_weight 2 [])

cell_weight : (s : Side) (n : ℕ) (x : List Item) → items_weight (cell_items s n x) ≡ 2 + items_weight x
cell_weight s n x =
    let free : ℕ = n - cells_across x in
    let l : ℕ = left_pad s free in
    let r : ℕ = right_pad s free in
    let first : items_weight (Gap l ∷ (x ++ Gap r ∷ [])) ≡ 1 + items_weight (x ++ Gap r ∷ []) =
    gap_weight l (x ++ Gap r ∷ []) in
    let both : items_weight (x ++ Gap r ∷ []) ≡ items_weight x + items_weight (Gap r ∷ []) =
    items_both x (Gap r ∷ []) in
    let last : items_weight (Gap r ∷ []) ≡ 1 + 0 = gap_weight r [] in
    omega arith

item_in_weight : (x : Form) → items_weight (items_in x) ≤ form_weight x
item_in_weight (inline empty) = omega arith
item_in_weight (inline (begun a xs)) = omega arith
item_in_weight (listed ps) = omega arith

abbrev cells_in : List (Form × Attrs) → List (List Item)
cells_in fs = map (λ f. items_in f.0) fs

row_from_weight : (j : ℕ) (columns : List ℕ) (sides : List Side) (fs : List (Form × Attrs))
    → items_weight (row_from j columns sides (cells_in fs)) ≤ 1 + cells_weight fs
row_from_weight j columns sides [] = omega (arith, missing_weight columns)
row_from_weight j [] sides (f ∷ fs) = omega arith
row_from_weight j (n ∷ ns) [] (f ∷ fs) = omega arith
row_from_weight j (n ∷ ns) (s ∷ ss) (f ∷ fs) =
    let own : List Item = cell_items s n (items_in f.0) in
    let more : List Item = row_from (j + 1) ns ss (cells_in fs) in
    let rest : items_weight more ≤ 1 + cells_weight fs = row_from_weight (j + 1) ns ss fs in
    let front : items_weight (gap_before j ++ own) ≡ items_weight (gap_before j) + items_weight own =
    items_both (gap_before j) own in
    let whole : items_weight (gap_before j ++ own ++ more) ≡ items_weight (gap_before j ++ own) + items_weight more =
    items_both (gap_before j ++ own) more in
    omega (arith, before_weight j, cell_weight s n (items_in f.0), item_in_weight f.0)

-- a row of one cell or more, as a paragraph
row_weight : (columns : List ℕ) (sides : List Side) (fs : List (Form × Attrs)) → 0 < length fs
    → 1 + items_weight (row_items columns sides (cells_in fs)) ≤ cells_weight fs
row_weight columns sides [] h = absurd (omega arith)
row_weight [] sides (f ∷ fs) h = omega arith
row_weight (n ∷ ns) [] (f ∷ fs) h = omega arith
row_weight (n ∷ ns) (s ∷ ss) (f ∷ fs) h =
    let own : List Item = cell_items s n (items_in f.0) in
    let more : List Item = row_from 1 ns ss (cells_in fs) in
    let rest : items_weight more ≤ 1 + cells_weight fs = row_from_weight 1 ns ss fs in
    let whole : items_weight (own ++ more) ≡ items_weight own + items_weight more = items_both own more in
    omega (arith, cell_weight s n (items_in f.0), item_in_weight f.0)

take_drop_weight : (n : ℕ) (fs : List (Form × Attrs))
    → cells_weight fs ≡ cells_weight (take n fs) + cells_weight (drop n fs)
take_drop_weight n fs = ap cells_weight (sym (take-append-drop n fs)) ∙ cells_both (take n fs) (drop n fs)

pub rows_weight : (columns : List ℕ) (sides : List (List Side)) (ns : List ℕ) (a : Attrs) (fs : List (Form × Attrs))
    → AreSome ns → length fs ≡ sum_of ns → weight_of (row_paragraphs columns sides (shown_rows ns a fs)) ≤ cells_weight fs
rows_weight columns [] ns a fs some long = omega arith
rows_weight columns (ss ∷ sides) [] a fs some long = omega arith
rows_weight columns (ss ∷ sides) (n ∷ ns) a fs some long =
    let own : List (Form × Attrs) = take n fs in
    let later : List Paragraph = row_paragraphs columns sides (shown_rows ns (after_each a own) (drop n fs)) in
    let there : 0 < length own = omega (arith, length-take-le n fs (omega (arith, long)), some.0) in
    let fewer : length (drop n fs) ≡ sum_of ns = omega (arith, length-drop n fs, long) in
    let rest : weight_of later ≤ cells_weight (drop n fs) =
    rows_weight columns sides ns (after_each a own) (drop n fs) some.1 fewer in
    let first : Paragraph = paragraph (row_items columns ss (cells_in own)) a in
    let whole : weight_of (first ∷ later) ≡ weight_of (first ∷ []) + weight_of later = pars_both (first ∷ []) later in
    omega (
      arith,
      row_weight columns ss own there,
      take_drop_weight n fs,
      one_paragraph (row_items columns ss (cells_in own)) a,
    )
