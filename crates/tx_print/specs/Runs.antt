-- How the attributes of the cells of a row are printed: by the longest runs of cells that look the same.
use Rattle.std.specs.Prelude.{ℕ, ◌+◌, Bool, ◌==◌, ◌&&◌, List, [], ◌∷◌, ◌++◌, replicate, decimal, slice_get}
use Rattle.std.specs.Prelude.{Option, Some, None, if◌then◌else◌}
use Rattle.std.specs.List.{flat_map}
use Rattle.std.specs.Option.{option_map}
use Rattle.std.specs.Str.{bytes_eq}
use Rattle.tx_items.specs.Looks.{WideLook}
use Rattle.tx_items.specs.declared.drawing.Item.{Item}
use Rattle.tx_items.specs.declared.drawing.Drawn.{Drawn}
use Rattle.tx_layout.specs.declared.layout.Line.{Line}
use Rattle.tx_items.specs.Cells.{item_cells}
use Rattle.tx_view_form.specs.Cells.{drawn_in}
use Rattle.tx_view_form.specs.Views.{WideView, lines_of}
use Rattle.tx_print.specs.Lines.{line, shown}
use Rattle.tx_print.specs.Places.{no_cell}

-- the attributes of a cell of a cluster
pub record CellLook : Type 0 where
  pub series : List ℕ
  pub shape : List ℕ
  pub color : List ℕ

abbrev pub cell_look : WideLook → CellLook
cell_look l = record { series = l.series; shape = l.shape; color = l.color }

-- how the cells of a cluster look; other cells have no attributes
abbrev pub look_in : Option Drawn → Option CellLook
look_in drawn = option_map (λ d. cell_look d.look) drawn

abbrev pub item_looks : Item → List (Option CellLook)
item_looks item = replicate (item_cells item) (look_in (drawn_in item))

-- how each cell of a line looks; a cell of the indent has no attributes
abbrev pub looks_on : Line → List (Option CellLook)
looks_on l = replicate l.indent None ++ flat_map item_looks l.items

abbrev pub same_look : CellLook → CellLook → Bool
same_look x y = bytes_eq x.series y.series && bytes_eq x.shape y.shape && bytes_eq x.color y.color

-- cells from a column up to another, which look the same
pub record CellRun : Type 0 where
  pub from : ℕ
  pub to : ℕ
  pub look : CellLook

-- a cell at a column, before the runs after it: it makes the first of them longer, or is a run of its own
abbrev pub cell_before : ℕ → CellLook → List CellRun → List CellRun
cell_before at look [] = record { from = at; to = at + 1; look = look } ∷ []
cell_before at look (r ∷ rs) =
    if (r.from == at + 1) && same_look look r.look then record { from = at; to = r.to; look = look } ∷ rs
    else record { from = at; to = at + 1; look = look } ∷ (r ∷ rs)

abbrev pub runs_before : ℕ → Option CellLook → List CellRun → List CellRun
runs_before at (Some look) rs = cell_before at look rs
runs_before at None rs = rs

-- the longest runs of cells, of which the first is at a column
abbrev pub runs_from : ℕ → List (Option CellLook) → List CellRun
runs_from at [] = []
runs_from at (cell ∷ cells) = runs_before at cell (runs_from (at + 1) cells)

-- the first column, the column after the last, and the attributes
abbrev pub run_text : CellRun → List ℕ
run_text r =
    line (decimal r.from ++ 32 ∷ decimal r.to ++ 32 ∷ shown r.look.series ++ 32 ∷ shown r.look.shape
    ++ 32 ∷ shown r.look.color)

abbrev pub runs_or : List ℕ → Option Line → List ℕ
runs_or otherwise (Some l) = flat_map run_text (runs_from 0 (looks_on l))
runs_or otherwise None = otherwise

-- the attributes of a row
abbrev pub attrs_reply : WideView → ℕ → ℕ → List ℕ
attrs_reply v width r = runs_or (no_cell v width) (slice_get (lines_of v.units) r)
