-- Columns of a table, and the pads of its cells, from the natural widths of the cells.
use Rattle.std.specs.Prelude.{ℕ, ◌+◌, ◌-◌, ◌/◌, max, List, [], ◌∷◌}
use Rattle.tx_table.specs.declared.plans.Plan.{Plan}
use Rattle.tx_table.specs.declared.settings.Side.{Side}
use Rattle.tx_table.specs.declared.settings.Side.TheVariants.{Left, Center, Right}

-- the greater of both, column by column
abbrev pub wider : List ℕ → List ℕ → List ℕ
wider [] ms = ms
wider (n ∷ ns) [] = n ∷ ns
wider (n ∷ ns) (m ∷ ms) = max n m ∷ wider ns ms

-- the width of each column: the greatest natural width in it
abbrev pub column_widths : List (List ℕ) → List ℕ
column_widths [] = []
column_widths (row ∷ rows) = wider row (column_widths rows)

-- how many of the free cells are before a cell with this side
abbrev pub left_pad : Side → ℕ → ℕ
left_pad Left free = 0
left_pad Center free = free / 2
left_pad Right free = free

abbrev pub right_pad : Side → ℕ → ℕ
right_pad side free = free - left_pad side free

-- the pads of a row, in columns of these widths: those at one side of each cell
abbrev pub row_pads : (Side → ℕ → ℕ) → List ℕ → List Side → List ℕ → List ℕ
row_pads pad (n ∷ ns) (s ∷ ss) (w ∷ ws) = pad s (n - w) ∷ row_pads pad ns ss ws
row_pads pad columns sides widths = []

-- the pads of the rows
abbrev pub all_pads : (Side → ℕ → ℕ) → List ℕ → List (List Side) → List (List ℕ) → List (List ℕ)
all_pads pad columns (ss ∷ sss) (ws ∷ wss) = row_pads pad columns ss ws ∷ all_pads pad columns sss wss
all_pads pad columns sides widths = []

-- the columns of cells of these widths, and the pads of cells at these sides
abbrev pub plan_of : List (List ℕ) → List (List Side) → Plan
plan_of widths sides =
    let columns = column_widths widths in
    record {
      columns = columns;
      left = all_pads left_pad columns sides widths;
      right = all_pads right_pad columns sides widths;
    }

-- the cells of columns side by side, with 2 between them
abbrev pub across : List ℕ → ℕ
across [] = 0
across (n ∷ []) = n
across (n ∷ (m ∷ ms)) = n + (2 + across (m ∷ ms))
