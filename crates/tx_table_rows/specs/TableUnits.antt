-- A unit of a document that is a table.
use Rattle.std.specs.Prelude.{◌≡◌, ℕ, zero, suc, ◌+◌, ◌<◌, List, [], ◌∷◌, length, take, Some, slice_get}
use Rattle.tx_origin.specs.TaggedTrees.{tagged_of}
use Rattle.tx_table.specs.declared.grids.Grid.{Grid}
use Rattle.tx_doc.specs.declared.buffer.Buffer.{Buffer}
use Rattle.tx_units.specs.declared.kinds.Unit.{Unit as DocUnit}
use Rattle.tx_units.specs.Units.{units}
use Rattle.tx_items.specs.declared.attributes.Attrs.{Attrs}
use Rattle.tx_layout.specs.declared.layout.Line.{Line}
use Rattle.tx_view_form.specs.Outcomes.{Moment, beginning, outcome, behind, unit_value}
use Rattle.tx_view_form.specs.Started.{attributes_of}
use Rattle.tx_view_form.specs.Views.{UnitView, AreLines, lines_of}
use Rattle.tx_table_rows.specs.GridRows.{all_rows, IsTable}
use Rattle.tx_table_rows.specs.RowLines.{RowHasRoom, IsPageRow}

-- the moment before unit n, where this is the one before the first
abbrev pub moment_before : Moment → List DocUnit → ℕ → Moment
moment_before m us zero = m
moment_before m [] (suc n) = m
moment_before m (u ∷ us) (suc n) = moment_before (behind m (outcome (tagged_of u.tagged) m)) us n

-- unit n of the buffers has this path, these are the attributes before it, and its value is a table with this grid
pub record IsTableUnit (buffers : List Buffer) (n : ℕ) (path : List ℕ) (a : Attrs) (g : Grid) : Type 0 where
  pub unit : DocUnit
  pub moment : Moment
  pub there : slice_get (units buffers) n ≡ Some unit
  pub has_path : unit.path ≡ Some path
  pub before : moment ≡ moment_before beginning (units buffers) n
  pub attrs : a ≡ attributes_of moment.env
  pub table : IsTable a (unit_value (outcome (tagged_of unit.tagged) moment)) g

-- row i of the table of unit n is one line of all: it comes after the lines of the units before, and after those of the
-- rows before it in the table
pub record StandsInUnit (a : Attrs) (g : Grid) (width n i : ℕ) (xs : List UnitView) (path : List ℕ) : Type 0 where
  pub above : List Line
  pub before : AreLines width (take i (all_rows a g)) above
  -- rows that have room are a line each
  pub each_one : ((k : ℕ) → k < i → RowHasRoom a g width k) → length above ≡ i
  pub row : IsPageRow a g width i xs (length (lines_of (take n xs)) + length above) path
