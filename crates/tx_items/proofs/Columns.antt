-- Where the cells of a row are in it, and how many cells it takes.
use Rattle.std.proofs.Common.{◌≡◌, ℕ, zero, suc, ◌+◌, ◌-◌, ◌<◌, ◌≤◌, List, [], ◌∷◌, ◌++◌, length, get_or, Some}
use Rattle.std.proofs.Common.{refl, sym, ap, ◌∙◌, subst, arith, append_assoc}
use Rattle.std.specs.Prelude.{slice_get}
use Rattle.std.proofs.lemmas.List.Sums.{sum_by-cons, sum_by-append}
use Rattle.tx_table.specs.declared.settings.Side.{Side}
use Rattle.tx_table.specs.declared.settings.Side.TheVariants.{Left, Center, Right}
use Rattle.tx_table.specs.Columns.{left_pad, right_pad, across}
use Rattle.tx_items.specs.declared.drawing.Item.{Item}
use Rattle.tx_items.specs.declared.drawing.Item.TheVariants.{Gap}
use Rattle.tx_items.specs.Cells.{item_cells, cells_across}
use Rattle.tx_items.specs.Tables.{missing_gap, gap_before, cell_items, row_from, row_items}
use Rattle.tx_items.specs.RowPlaces.{StandsAt, column_start, FitsRow, ColumnStands}

pad_le : (s : Side) (free : ℕ) → left_pad s free ≤ free
pad_le Left free = omega arith
pad_le Center free = omega arith
pad_le Right free = omega arith

both_cells : (xs ys : List Item) → cells_across (xs ++ ys) ≡ cells_across xs + cells_across ys
both_cells xs ys = sum_by-append item_cells xs ys

gap_cells : (n : ℕ) (xs : List Item) → cells_across (Gap n ∷ xs) ≡ n + cells_across xs
gap_cells n xs = sum_by-cons item_cells (Gap n) xs

-- a cell takes its column
cell_cells : (s : Side) (n : ℕ) (x : List Item) → cells_across x ≤ n → cells_across (cell_items s n x) ≡ n
cell_cells s n x h =
    let free : ℕ = n - cells_across x in
    let l : ℕ = left_pad s free in
    let first : cells_across (Gap l ∷ (x ++ Gap (free - l) ∷ [])) ≡ l + cells_across (x ++ Gap (free - l) ∷ []) =
    gap_cells l (x ++ Gap (free - l) ∷ []) in
    let second : cells_across (x ++ Gap (free - l) ∷ []) ≡ cells_across x + cells_across (Gap (free - l) ∷ []) =
    both_cells x (Gap (free - l) ∷ []) in
    let third : cells_across (Gap (free - l) ∷ []) ≡ free - l + 0 = gap_cells (free - l) [] in
    let pad : l ≤ free = pad_le s free in
    omega (arith, h)

-- the cells of the gap before a cell
abbrev before : ℕ → ℕ
before zero = 0
before (suc j) = 2

before_cells : (j : ℕ) → cells_across (gap_before j) ≡ before j
before_cells zero = refl
before_cells (suc j) = omega (arith, gap_cells 2 [])

before_next : (j : ℕ) → before (j + 1) ≡ 2
before_next j = let e : j + 1 ≡ suc j = omega arith in ap before e

row_parts : (j n : ℕ) (ns : List ℕ) (s : Side) (ss : List Side) (x : List Item) (xs : List (List Item))
    → cells_across x ≤ n
    → cells_across (row_from j (n ∷ ns) (s ∷ ss) (x ∷ xs)) ≡ before j + n + cells_across (row_from (j + 1) ns ss xs)
row_parts j n ns s ss x xs h =
    let own : List Item = cell_items s n x in
    let rest : List Item = row_from (j + 1) ns ss xs in
    let whole : cells_across (gap_before j ++ own ++ rest) ≡ cells_across (gap_before j ++ own) + cells_across rest =
    both_cells (gap_before j ++ own) rest in
    let front : cells_across (gap_before j ++ own) ≡ cells_across (gap_before j) + cells_across own =
    both_cells (gap_before j) own in
    omega (arith, before_cells j, cell_cells s n x h)

row_across : (j n : ℕ) (ns : List ℕ) (s : Side) (ss : List Side) (x : List Item) (xs : List (List Item))
    → FitsRow (n ∷ ns) (s ∷ ss) (x ∷ xs)
    → cells_across (row_from j (n ∷ ns) (s ∷ ss) (x ∷ xs)) ≡ before j + across (n ∷ ns)
row_across j n [] s ss x [] h = omega (arith, row_parts j n [] s ss x [] h.0)
row_across j n (m ∷ ms) s ss x [] h =
    omega (arith, row_parts j n (m ∷ ms) s ss x [] h.0, gap_cells (2 + across (m ∷ ms)) [])
row_across j n [] s ss x (y ∷ ys) h = absurd h.1
row_across j n (m ∷ ms) s [] x (y ∷ ys) h = absurd h.1
row_across j n (m ∷ ms) s (t ∷ ts) x (y ∷ ys) h =
    omega (
      arith,
      row_parts j n (m ∷ ms) s (t ∷ ts) x (y ∷ ys) h.0,
      row_across (j + 1) m ms t ts y ys h.1,
      before_next j,
    )

-- a row takes the cells of its columns and of the gaps between them
pub row_cells : (columns : List ℕ) (sides : List Side) (cells : List (List Item)) → FitsRow columns sides cells
    → 0 < length cells → cells_across (row_items columns sides cells) ≡ across columns
row_cells columns sides [] h some = absurd (omega arith)
row_cells [] sides (x ∷ xs) h some = absurd h
row_cells (n ∷ ns) [] (x ∷ xs) h some = absurd h
row_cells (n ∷ ns) (s ∷ ss) (x ∷ xs) h some = omega (arith, row_across 0 n ns s ss x xs h)

-- a cell is first in its row
first_stands : (j : ℕ) (s : Side) (n : ℕ) (x rest : List Item)
    → StandsAt (gap_before j ++ cell_items s n x ++ rest) (before j + left_pad s (n - cells_across x)) x
first_stands j s n x rest =
    let g : List Item = gap_before j in
    let free : ℕ = n - cells_across x in
    let l : ℕ = left_pad s free in
    let r : ℕ = right_pad s free in
    record {
      front = g ++ Gap l ∷ [];
      back = Gap r ∷ rest;
      are = append_assoc g (Gap l ∷ (x ++ Gap r ∷ [])) rest
          ∙ ap (λ xs. g ++ (Gap l ∷ xs)) (append_assoc x (Gap r ∷ []) rest)
          ∙ sym (append_assoc g (Gap l ∷ []) (x ++ Gap r ∷ rest))
          ∙ sym (append_assoc (g ++ Gap l ∷ []) x (Gap r ∷ rest));
      cells = omega (arith, both_cells g (Gap l ∷ []), before_cells j, gap_cells l []);
    }

-- what is in the rest of a row is after its first cell
later_stands : (j : ℕ) (s : Side) (n at : ℕ) (x y rest : List Item) → cells_across x ≤ n → StandsAt rest at y
    → StandsAt (gap_before j ++ cell_items s n x ++ rest) (before j + n + at) y
later_stands j s n at x y rest h st =
    let own : List Item = gap_before j ++ cell_items s n x in
    record {
      front = own ++ st.front;
      back = st.back;
      are = ap (λ xs. own ++ xs) (st.are ∙ append_assoc st.front y st.back)
          ∙ sym (append_assoc own st.front (y ++ st.back)) ∙ sym (append_assoc (own ++ st.front) y st.back);
      cells = omega (
        arith,
        both_cells own st.front,
        both_cells (gap_before j) (cell_items s n x),
        before_cells j,
        cell_cells s n x h,
        st.cells,
      );
    }

from_stands : (j : ℕ) (columns : List ℕ) (sides : List Side) (cells : List (List Item)) (i : ℕ) (x : List Item)
    → FitsRow columns sides cells → slice_get cells i ≡ Some x
    → StandsAt (row_from j columns sides cells)
    (before j + (column_start columns i + left_pad (get_or sides i Left) (get_or columns i 0 - cells_across x))) x
from_stands j columns sides [] i x h e = absurd cc
from_stands j [] sides (y ∷ ys) i x h e = absurd h
from_stands j (n ∷ ns) [] (y ∷ ys) i x h e = absurd h
from_stands j (n ∷ ns) (s ∷ ss) (y ∷ ys) zero x h e =
    let same : y ≡ x = cc in
    let pad : ℕ = left_pad s (n - cells_across y) in
    let place : before j + pad ≡ before j + (0 + pad) = omega arith in
    subst (λ z. StandsAt (row_from j (n ∷ ns) (s ∷ ss) (y ∷ ys)) (before j + (0 + left_pad s (n - cells_across z))) z)
    same
    (subst (λ k. StandsAt (row_from j (n ∷ ns) (s ∷ ss) (y ∷ ys)) k y) place
    (first_stands j s n y (row_from (j + 1) ns ss ys)))
from_stands j (n ∷ ns) (s ∷ ss) (y ∷ ys) (suc i) x h e =
    let pad : ℕ = left_pad (get_or ss i Left) (get_or ns i 0 - cells_across x) in
    let place : before j + n + (before (j + 1) + (column_start ns i + pad))
    ≡ before j + (n + 2 + column_start ns i + pad) = omega (arith, before_next j) in
    subst (λ k. StandsAt (row_from j (n ∷ ns) (s ∷ ss) (y ∷ ys)) k x) place
    (later_stands j s n (before (j + 1) + (column_start ns i + pad)) y x (row_from (j + 1) ns ss ys) h.0
    (from_stands (j + 1) ns ss ys i x h.1 e))

pub column_stands : (columns : List ℕ) (sides : List Side) (cells : List (List Item)) (j : ℕ) (x : List Item)
    → FitsRow columns sides cells → slice_get cells j ≡ Some x → ColumnStands columns sides cells j x
column_stands columns sides cells j x h e =
    let at : ℕ = column_start columns j + left_pad (get_or sides j Left) (get_or columns j 0 - cells_across x) in
    let place : 0 + at ≡ at = omega arith in
    subst (λ k. StandsAt (row_items columns sides cells) k x) place (from_stands 0 columns sides cells j x h e)
