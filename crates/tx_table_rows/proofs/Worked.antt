-- A worked table: its columns, its rows, and a row on a line.
use Rattle.std.proofs.Common.{◌≡◌, ℕ, List, [], ◌∷◌, Some, None, true, refl}
use Rattle.std.specs.Prelude.{codes}
use Rattle.tx_origin.specs.Values.{WideValue, text, made, vals}
use Rattle.tx_table.specs.declared.grids.Grid.{Grid}
use Rattle.tx_table.specs.declared.settings.Side.TheVariants.{Left, Center}
use Rattle.tx_table.specs.Grids.{grid_of}
use Rattle.tx_items.specs.declared.attributes.Attrs.{Attrs}
use Rattle.tx_items.specs.declared.drawing.Item.TheVariants.{Gap}
use Rattle.tx_items.specs.Attributes.{initial}
use Rattle.tx_items.specs.Rules.{rule_of}
use Rattle.tx_items.specs.Shows.{show}
use Rattle.tx_table_rows.specs.GridRows.{rows_fit, columns_of, row_shown}
use Rattle.tx_table_rows.specs.RowLines.{row_line}

abbrev tag : List ℕ → List WideValue → WideValue
tag label vs = made label (vals vs) None

abbrev words : List ℕ → WideValue
words bytes = text bytes None

-- so many free cells
abbrev free : List ℕ → WideValue
free bytes = tag (codes "hspace") (words bytes ∷ [])

abbrev cell : WideValue → WideValue
cell v = tag (codes "cell") (v ∷ [])

-- the second column is centred
abbrev setting : WideValue
setting =
    tag (codes "cwith")
    (words (codes "1") ∷ words (codes "-1") ∷ words (codes "2") ∷ words (codes "2") ∷ words (codes "cell-halign")
    ∷ words (codes "c") ∷ [])

-- cells of 1 and 6 free cells, of 3 and 1, and a row that lacks the second one
abbrev table : WideValue
table =
    tag (codes "table")
    (tag (codes "row") (cell (free (codes "1spc")) ∷ cell (free (codes "6spc")) ∷ [])
    ∷ tag (codes "row") (cell (free (codes "3spc")) ∷ cell (free (codes "1spc")) ∷ [])
    ∷ tag (codes "row") (cell (free (codes "2spc")) ∷ []) ∷ [])

abbrev whole : WideValue
whole = tag (codes "tabular") (tag (codes "tformat") (setting ∷ table ∷ []) ∷ [])

abbrev grid : Grid
grid = record {
  rows = (free (codes "1spc") ∷ free (codes "6spc") ∷ [])
      ∷ (free (codes "3spc") ∷ free (codes "1spc") ∷ []) ∷ (free (codes "2spc") ∷ []) ∷ [];
  sides = (Left ∷ Center ∷ []) ∷ (Left ∷ Center ∷ []) ∷ (Left ∷ []) ∷ [];
}

grid_is : grid_of whole ≡ Some grid
grid_is = refl

fits : rows_fit initial grid.rows ≡ true
unfolding show rule_of
fits = refl

columns : columns_of initial grid ≡ 3 ∷ (6 ∷ [])
unfolding show rule_of
columns = refl

-- the centred cell has 2 free cells before it and 3 after it
second_row : (row_shown initial grid 1).items
    ≡ Gap 0 ∷ (Gap 3 ∷ (Gap 0 ∷ (Gap 2 ∷ (Gap 2 ∷ (Gap 1 ∷ (Gap 3 ∷ []))))))
unfolding show rule_of
second_row = refl

-- the missing cell's column, with the gap before it, is one gap
third_row : (row_shown initial grid 2).items ≡ Gap 0 ∷ (Gap 2 ∷ (Gap 1 ∷ (Gap 8 ∷ [])))
unfolding show rule_of
third_row = refl

-- at the right of a page of 40 cells, a row of 11 cells begins after 29
abbrev at_right : Attrs
at_right = record initial { mode = codes "right" }

right_row : (row_line at_right grid 40 1).indent ≡ 29
unfolding show rule_of
right_row = refl
