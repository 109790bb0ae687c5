-- Loops and calls that tell whether values are flat.
use Rattle.std.proofs.Common.{◌≡◌, ◌≢◌, ℕ, zero, suc, ◌+◌, ◌-◌, ◌%◌, ◌<◌, ◌≤◌, Bool, true, false, not, ◌&&◌, List, [], ◌∷◌}
use Rattle.std.proofs.Common.{◌++◌, length, drop, get_or, Option, Some, None, refl, sym, ap, ◌∙◌, arith}
use Rattle.std.specs.Prelude.{option_and_then}
use Rattle.std.proofs.lemmas.List.{drop_all, drop_more}
use Rattle.tx_prim.specs.Lengths.{length_of}
use Rattle.tx_tree.specs.WideTree.{WideTree, depth_of, deepest, is_leaf}
use Rattle.tx_origin.specs.Values.{WideValue, WideValues, text, made, none, also, vals, each_of, value_parts, value_text}
use Rattle.tx_origin.specs.Values.{value_label, plain, plains}
use Rattle.tx_origin.proofs.Parts.{vals_each, deepest-append}
use Rattle.tx_table.specs.declared.grids.Grid.{Grid}
use Rattle.tx_table.specs.Grids.{grid_of}
use Rattle.tx_items.specs.Rules.{Rule, rule_of}
use Rattle.tx_items.specs.Flat.{is_no_length, flat_space, is_table, rule_flat, is_flat, all_flat, last_flat}
use Rattle.tx_items.specs.Flat.{flat_below, shows_table}
use Rattle.tx_items.specs.Plans.{table_plan}
use Rattle.tx_items.specs.Tables.{levels_of}
use Rattle.tx_items.specs.Running.{all_cells}
use Rattle.tx_items.proofs.Walks.{text_or_node, last_there}
use Rattle.tx_items.proofs.Runs.{item_first}
use Rattle.tx_items.proofs.Below.{cells_below, below_flat, flat_append, grid_holds, grid_shallower}

pub flat_text : (v : WideValue) → value_label v ≡ None → is_flat v ≡ true
unfolding is_flat
flat_text (text words at) e = refl
flat_text (made label vs at) e = absurd cc

pub flat_row : (v : WideValue) (label : List ℕ) (r : Rule) → value_label v ≡ Some label → r ≡ rule_of label
    → is_flat v
    ≡ rule_flat r (vals (value_parts v)) (all_flat (vals (value_parts v))) (last_flat (vals (value_parts v)))
    (shows_table v)
unfolding is_flat shows_table
flat_row (text words at) label r e f = absurd cc
flat_row (made l vs at) label r e f =
    let same : l ≡ label = cc in
    let table : Bool = shows_table (made l vs at) in
    ap (λ m. rule_flat (rule_of m) vs (all_flat vs) (last_flat vs) table) same
    ∙ ap (λ q. rule_flat q vs (all_flat vs) (last_flat vs) table) (sym f)
    ∙ ap (λ us. rule_flat r us (all_flat us) (last_flat us) table) (sym (vals_each vs))

-- ---- the last part after pairs

pub flat_even : (xs : List WideValue) → length xs % 2 ≡ 0 → last_flat (vals xs) ≡ true
unfolding is_flat
flat_even [] h = refl
flat_even (x ∷ []) h = absurd (omega arith)
flat_even (x ∷ (v ∷ xs)) h = flat_even xs (omega arith)

pub flat_odd : (xs : List WideValue) (x : WideValue) → length xs % 2 ≢ 0 → x ≡ get_or xs (length xs - 1) x
    → last_flat (vals xs) ≡ is_flat x
unfolding is_flat
flat_odd [] x h e = absurd (h refl)
flat_odd (y ∷ []) x h e = ap is_flat (sym e)
flat_odd (y ∷ (v ∷ xs)) x h e =
    let odd : length xs % 2 ≢ 0 = λ f. h (omega arith) in
    let place : length (y ∷ (v ∷ xs)) - 1 ≡ suc (suc (length xs - 1)) = last_place (length xs) odd in
    flat_odd xs x odd (e ∙ ap (λ n. get_or (y ∷ (v ∷ xs)) n x) place)
  where
    last_place : (n : ℕ) → n % 2 ≢ 0 → suc (suc n) - 1 ≡ suc (suc (n - 1))
    last_place zero h = absurd (h refl)
    last_place (suc n) h = omega arith

-- ---- the loop over parts

flat_first : (x : WideValue) (xs : List WideValue) → all_flat (vals (x ∷ xs)) ≡ is_flat x && all_flat (vals xs)
unfolding is_flat
flat_first x xs = refl

pub part_flat : (xs : List WideValue) (i : ℕ) (x : WideValue) (whole : Bool) → i < length xs → x ≡ get_or xs i x
    → true ≡ is_flat x → all_flat (vals (drop i xs)) ≡ whole → all_flat (vals (drop (i + 1) xs)) ≡ whole
part_flat xs i x whole there is flat so_far =
    ap (λ b. b && all_flat (vals (drop (i + 1) xs))) flat ∙ sym (flat_first x (drop (i + 1) xs))
    ∙ sym (ap (λ ys. all_flat (vals ys)) (item_first xs i x there is)) ∙ so_far

pub part_not : (xs : List WideValue) (i : ℕ) (x : WideValue) (whole : Bool) → i < length xs → x ≡ get_or xs i x
    → false ≡ is_flat x → all_flat (vals (drop i xs)) ≡ whole → false ≡ whole
part_not xs i x whole there is flat so_far =
    ap (λ b. b && all_flat (vals (drop (i + 1) xs))) flat ∙ sym (flat_first x (drop (i + 1) xs))
    ∙ sym (ap (λ ys. all_flat (vals ys)) (item_first xs i x there is)) ∙ so_far

flat_none : true ≡ all_flat none
unfolding is_flat
flat_none = refl

pub parts_flat : (xs : List WideValue) (i : ℕ) (whole : Bool) → length xs ≤ i → all_flat (vals (drop i xs)) ≡ whole
    → true ≡ whole
parts_flat xs i whole past so_far = flat_none ∙ sym (ap (λ ys. all_flat (vals ys)) (drop_all i xs past)) ∙ so_far

-- ---- the loop over rows

row_first : (rows : List (List WideValue)) (i : ℕ) (row : List WideValue) → i < length rows → row ≡ get_or rows i row
    → drop i rows ≡ row ∷ drop (i + 1) rows
row_first rows i row there is = drop_more rows i row there ∙ ap (λ x. x ∷ drop (i + 1) rows) (sym is)

pub row_flat : (rows : List (List WideValue)) (i : ℕ) (row : List WideValue) (whole : Bool) → i < length rows
    → row ≡ get_or rows i row → true ≡ all_flat (vals row) → all_flat (vals (all_cells (drop i rows))) ≡ whole
    → all_flat (vals (all_cells (drop (i + 1) rows))) ≡ whole
row_flat rows i row whole there is flat so_far =
    ap (λ b. b && all_flat (vals (all_cells (drop (i + 1) rows)))) flat
    ∙ sym (flat_append row (all_cells (drop (i + 1) rows)))
    ∙ sym (ap (λ rs. all_flat (vals (all_cells rs))) (row_first rows i row there is)) ∙ so_far

pub row_not : (rows : List (List WideValue)) (i : ℕ) (row : List WideValue) (whole : Bool) → i < length rows
    → row ≡ get_or rows i row → false ≡ all_flat (vals row) → all_flat (vals (all_cells (drop i rows))) ≡ whole
    → false ≡ whole
row_not rows i row whole there is flat so_far =
    ap (λ b. b && all_flat (vals (all_cells (drop (i + 1) rows)))) flat
    ∙ sym (flat_append row (all_cells (drop (i + 1) rows)))
    ∙ sym (ap (λ rs. all_flat (vals (all_cells rs))) (row_first rows i row there is)) ∙ so_far

pub rows_flat : (rows : List (List WideValue)) (i : ℕ) (whole : Bool) → length rows ≤ i
    → all_flat (vals (all_cells (drop i rows))) ≡ whole → true ≡ whole
rows_flat rows i whole past so_far =
    flat_none ∙ sym (ap (λ rs. all_flat (vals (all_cells rs))) (drop_all i rows past)) ∙ so_far

-- ---- tables

pub no_table : (v : WideValue) → None ≡ grid_of v → false ≡ shows_table v
unfolding shows_table
no_table (text words at) e = refl
no_table (made label vs at) e = ap (λ g. is_table g (flat_below (levels_of vs) vs)) e

pub whole_table : (v : WideValue) (g : Grid) → Some g ≡ grid_of v → all_flat (vals (all_cells g.rows)) ≡ shows_table v
unfolding shows_table
whole_table (text words at) g e = absurd cc
whole_table (made label vs at) g e =
    ap (λ us. all_flat (vals us)) ((grid_holds label vs at g (sym e)).1) ∙ sym (below_flat (levels_of vs) vs)
    ∙ ap (λ o. is_table o (flat_below (levels_of vs) vs)) e

-- ---- depths

pub part_below : (xs : List WideValue) (i : ℕ) (x : WideValue) → i < length xs → x ≡ get_or xs i x
    → depth_of (plain x) ≤ deepest (plains (vals xs))
part_below [] i x there is = absurd (omega arith)
part_below (y ∷ xs) zero x there is = rw is (omega arith)
part_below (y ∷ xs) (suc i) x there is = omega (arith, part_below xs i x (omega arith) is)

pub row_below : (rows : List (List WideValue)) (i : ℕ) (row : List WideValue) → i < length rows
    → row ≡ get_or rows i row → deepest (plains (vals row)) ≤ deepest (plains (vals (all_cells rows)))
row_below [] i row there is = absurd (omega arith)
row_below (r ∷ rows) zero row there is = rw is (omega (arith, deepest-append r (all_cells rows)))
row_below (r ∷ rows) (suc i) row there is =
    omega (arith, row_below rows i row (omega arith) is, deepest-append r (all_cells rows))

pub parts_below : (v : WideValue) → deepest (plains (vals (value_parts v))) < depth_of (plain v)
parts_below (text words at) = omega arith
parts_below (made label vs at) = rw (vals_each vs) (omega arith)

pub grid_below : (v : WideValue) (g : Grid) → Some g ≡ grid_of v
    → deepest (plains (vals (all_cells g.rows))) < depth_of (plain v)
grid_below (text words at) g e = absurd cc
grid_below (made label vs at) g e = grid_shallower label vs at g (sym e)

-- ---- a space down

pub space_not : (vs : List WideValue) → length vs ≢ 1 → flat_space (vals vs) ≡ true
space_not [] h = refl
space_not (v ∷ []) h = absurd (h refl)
space_not (v ∷ (w ∷ vs)) h = refl

pub space_one : (vs : List WideValue) (d : WideValue) → length vs ≡ 1
    → flat_space (vals vs) ≡ is_no_length (option_and_then length_of (value_text (get_or vs 0 d)))
space_one [] d h = absurd (omega arith)
space_one (v ∷ []) d h = refl
space_one (v ∷ (w ∷ vs)) d h = absurd (omega arith)

pub ruleset spaces = (space_not, space_one)

pub ruleset looping = (
  flat_text,
  flat_even,
  flat_odd,
  part_flat,
  part_not,
  parts_flat,
  row_flat,
  row_not,
  rows_flat,
  no_table,
  whole_table,
  part_below,
  row_below,
  parts_below,
  grid_below,
  last_there,
)

-- ---- the cells of a table that is shown

flat_both : (x y : Bool) → x && y ≡ true → (x ≡ true) × (y ≡ true)
flat_both true true h = (refl, refl)
flat_both true false h = absurd cc
flat_both false y h = absurd cc

pub cell_is_flat : (xs : List WideValue) (i : ℕ) (x : WideValue) → all_flat (vals xs) ≡ true → i < length xs
    → x ≡ get_or xs i x → is_flat x ≡ true
cell_is_flat [] i x h there is = absurd (omega arith)
cell_is_flat (y ∷ xs) zero x h there is =
    ap is_flat is ∙ (flat_both (is_flat y) (all_flat (vals xs)) (sym (flat_first y xs) ∙ h)).0
cell_is_flat (y ∷ xs) (suc i) x h there is =
    cell_is_flat xs i x (flat_both (is_flat y) (all_flat (vals xs)) (sym (flat_first y xs) ∙ h)).1 (omega arith) is

pub row_is_flat : (rows : List (List WideValue)) (i : ℕ) (row : List WideValue)
    → all_flat (vals (all_cells rows)) ≡ true → i < length rows → row ≡ get_or rows i row
    → all_flat (vals row) ≡ true
row_is_flat [] i row h there is = absurd (omega arith)
row_is_flat (r ∷ rows) zero row h there is =
    ap (λ x. all_flat (vals x)) is
    ∙ (flat_both (all_flat (vals r)) (all_flat (vals (all_cells rows))) (sym (flat_append r (all_cells rows)) ∙ h)).0
row_is_flat (r ∷ rows) (suc i) row h there is =
    row_is_flat rows i row
    (flat_both (all_flat (vals r)) (all_flat (vals (all_cells rows))) (sym (flat_append r (all_cells rows)) ∙ h)).1
    (omega arith) is

-- a plan that is a list is that of a table
pub table_is_flat : (v : WideValue) (p : WideTree) (g : Grid) → p ≡ table_plan (shows_table v)
    → true ≡ not (is_leaf p) → Some g ≡ grid_of v → all_flat (vals (all_cells g.rows)) ≡ true
table_is_flat v p g is list e = whole_table v g e ∙ pick (shows_table v) (list ∙ ap (λ q. not (is_leaf q)) is)
  where
    pick : (b : Bool) → true ≡ not (is_leaf (table_plan b)) → b ≡ true
    pick true h = refl
    pick false h = absurd cc

pub table_there : (v : WideValue) (p : WideTree) → p ≡ table_plan (shows_table v) → true ≡ not (is_leaf p)
    → shows_table v ≡ true
table_there v p is list = pick (shows_table v) (list ∙ ap (λ q. not (is_leaf q)) is)
  where
    pick : (b : Bool) → true ≡ not (is_leaf (table_plan b)) → b ≡ true
    pick true h = refl
    pick false h = absurd cc

pub table_not : (v : WideValue) (p : WideTree) → p ≡ table_plan (shows_table v) → false ≡ not (is_leaf p)
    → shows_table v ≡ false
table_not v p is list = pick (shows_table v) (list ∙ ap (λ q. not (is_leaf q)) is)
  where
    pick : (b : Bool) → false ≡ not (is_leaf (table_plan b)) → b ≡ false
    pick true h = absurd cc
    pick false h = refl

pub ruleset cells = (text_or_node, cell_is_flat, row_is_flat, table_is_flat, part_below, row_below, grid_below)
