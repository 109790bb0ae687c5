-- What a painter makes of a terminal: rows are shown of which only those are written that aren't there already, and the
-- cursor is at its cell, or hidden.
use Rattle.std.specs.Prelude.{◌≡◌, ◌≢◌, ℕ, ◌+◌, ◌<◌, ◌≤◌, Bool, true, false, List, [], ◌∷◌, ◌++◌, length}
use Rattle.std.specs.Prelude.{take, map, slice_get, Option, Some, None}
use Rattle.std.specs.List.{AllByRecursion}
use Rattle.tx_terminal.specs.Characters.{Shown}
use Rattle.tx_terminal.specs.Terminals.{Terminal, after_bytes, quiet}
use Rattle.tx_terminal.specs.Terminals.Mode.{settled}
use Rattle.tx_terminal.specs.Painting.{Fits, Paints, ShowsCursor, filled, most_bytes, row_cells, with_rows}

-- the first rows of the terminal are these, each with blanks after its cells
abbrev pub Shows : Terminal → List (List Shown) → Type 0
Shows t rows = take (length rows) t.rows ≡ map (λ row. filled t.width (row_cells row)) rows

-- the cell is one of the terminal, where there is a cell
abbrev pub HasCell : Terminal → Option (ℕ × ℕ) → Type 0
HasCell t None = Unit {0}
HasCell t (Some place) = (place.0 < length t.rows) × (place.1 < t.width)

-- the terminal has room for rows, and the cell of the cursor
pub record HasRoom (t : Terminal) (rows : List (List Shown)) (cursor : Option (ℕ × ℕ)) : Type 0 where
  pub enough : length rows ≤ length t.rows
  pub wide : 0 < t.width
  pub fits : AllByRecursion (Fits t) rows
  pub cell : HasCell t cursor

-- the cursor is shown at the cell, or hidden where there is none
abbrev pub HasCursor : Terminal → Option (ℕ × ℕ) → Type 0
HasCursor t None = t.cursor_shown ≡ false
HasCursor t (Some place) = (t.cursor_shown ≡ true) × (t.cursor ≡ Some place)

-- The terminal u is t with these rows first, all further rows as before, and the cursor so. Nothing is said of how
-- later text is shown.
pub record IsPainted (t : Terminal) (rows : List (List Shown)) (cursor : Option (ℕ × ℕ)) (u : Terminal) : Type 0 where
  pub shown : u.rows ≡ with_rows t 0 rows
  pub placed : HasCursor u cursor
  pub ended : u.mode ≡ settled
  pub as_wide : u.width ≡ t.width
  pub same_cells : u.cells_of ≡ t.cells_of

-- of rows from number r on, those that aren't the former row of their number
pub data AreChanged (former : List (List Shown)) : ℕ → List (List Shown) → List (List Shown) → Type 0 where
  no_rows : (r : ℕ) → AreChanged former r [] []
  same_row : (r : ℕ) (row : List Shown) (rows changed : List (List Shown)) → slice_get former r ≡ Some row
      → AreChanged former (r + 1) rows changed → AreChanged former r (row ∷ rows) changed
  other_row : (r : ℕ) (row : List Shown) (rows changed : List (List Shown)) → slice_get former r ≢ Some row
      → AreChanged former (r + 1) rows changed → AreChanged former r (row ∷ rows) (row ∷ changed)

-- bytes that hide the cursor come first
abbrev pub HidesFirst : List ℕ → Type 0
HidesFirst bytes = (first rest : List ℕ) × (bytes ≡ first ++ rest) × ShowsCursor first false

-- These bytes paint rows and place the cursor on each terminal that shows the former rows, whatever else it shows.
pub record Repaints (bytes : List ℕ) (former rows : List (List Shown)) (cursor : Option (ℕ × ℕ)) : Type 0 where
  -- how many they are at most: none for a row that is the former one
  pub changed : List (List Shown)
  pub are_changed : AreChanged former 0 rows changed
  pub few : length bytes ≤ 26 + most_bytes changed
  -- the cursor isn't seen while rows are written
  pub hidden : take (length rows) former ≢ rows → HidesFirst bytes
  pub painted : (t : Terminal) → Shows t former → HasRoom t rows cursor
      → IsPainted t rows cursor (after_bytes (quiet t) bytes)

-- ---- the parts of the bytes

-- bytes of rows from number r on: each that isn't the former one of its number is painted
pub data WriteRows (former : List (List Shown)) : ℕ → List (List Shown) → List ℕ → Type 0 where
  nothing : (r : ℕ) → WriteRows former r [] []
  kept : (r : ℕ) (row : List Shown) (rows : List (List Shown)) (bytes : List ℕ) → slice_get former r ≡ Some row
      → WriteRows former (r + 1) rows bytes → WriteRows former r (row ∷ rows) bytes
  written : (r : ℕ) (row : List Shown) (rows : List (List Shown)) (first bytes : List ℕ)
      → slice_get former r ≢ Some row → Paints first r row → WriteRows former (r + 1) rows bytes
      → WriteRows former r (row ∷ rows) (first ++ bytes)

-- bytes that hide the cursor, or none
abbrev pub HidesWhere : Bool → List ℕ → Type 0
HidesWhere true bytes = ShowsCursor bytes false
HidesWhere false bytes = bytes ≡ []

-- bytes that show the cursor at a cell, or none
abbrev pub ShowsAt : Option (ℕ × ℕ) → List ℕ → Type 0
ShowsAt None bytes = bytes ≡ []
ShowsAt (Some place) bytes = (length bytes ≤ 20) × ((t : Terminal) → place.0 < length t.rows → place.1 < t.width
    → after_bytes (quiet t) bytes ≡ record t { cursor = Some place; cursor_shown = true; mode = settled })
