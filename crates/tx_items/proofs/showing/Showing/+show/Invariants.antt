use Rattle.std.proofs.Common.{◌+◌, ◌*◌, ◌++◌, List, drop, false}
use Rattle.tx_tree.specs.WideTree.{depth_of, deepest}
use Rattle.tx_origin.specs.Values.{vals, plain, plains}
use Rattle.tx_items.specs.declared.drawing.Item.{Item}
use Rattle.tx_items.specs.Tables.{ShownRow}
use Rattle.tx_items.specs.Shows.{show_all}
use Rattle.tx_items.specs.Running.{State, state_of, HasRun, HasPars, HasCells, HasRows, all_cells}
use Rattle.tx_items.proofs.showing.Showing.+show.Given as goal

abbrev pub decreases-show : goal.decreases-show
decreases-show l = 6 * depth_of (plain l.value.now) + 3

abbrev pub decreases-with : goal.decreases-with
decreases-with l = 6 * depth_of (plain l.value.now) + 2

abbrev pub decreases-tag : goal.decreases-tag
decreases-tag l = 6 * depth_of (plain l.value.now) + 2

abbrev pub decreases-each : goal.decreases-each
decreases-each l = 6 * depth_of (plain l.value.now) + 1

abbrev pub decreases-document : goal.decreases-document
decreases-document l = 6 * depth_of (plain l.value.now) + 1

abbrev pub decreases-part : goal.decreases-part
decreases-part l = 6 * depth_of (plain l.part.now) + 4

abbrev pub decreases-paragraph : goal.decreases-paragraph
decreases-paragraph l = 6 * depth_of (plain l.part.now) + 4

abbrev pub decreases-cell : goal.decreases-cell
decreases-cell l = 6 * depth_of (plain l.value.now) + 4

abbrev pub decreases-row : goal.decreases-row
decreases-row l = 6 * deepest (plains (vals l.cells.now)) + 5

abbrev pub decreases-rows : goal.decreases-rows
decreases-rows l = 6 * deepest (plains (vals (all_cells l.rows.now))) + 6

abbrev pub decreases-tabular : goal.decreases-tabular
decreases-tabular l = 6 * depth_of (plain l.value.now) + 2

abbrev pub invariant-row-loop-cell : goal.invariant-row-loop-cell
invariant-row-loop-cell l =
    (w : State) (more : List (List Item))
    → HasCells (show_all false l.self.attrs (vals (drop l.cell-index l.cells))) (state_of l.self) w more
    → HasCells (show_all false l.fn.self.attrs (vals l.cells)) (state_of l.fn.self) w (l.row.items ++ more)

abbrev pub invariant-rows-loop-row : goal.invariant-rows-loop-row
invariant-rows-loop-row l =
    (w : State) (more : List ShownRow) → HasRows (drop l.row-index l.rows) (state_of l.self) w more
    → HasRows l.rows (state_of l.fn.self) w (l.shown.items ++ more)

abbrev pub invariant-each-loop-i : goal.invariant-each-loop-i
invariant-each-loop-i l =
    (w : State) → HasRun (show_all l.barred l.self.attrs (vals (drop l.i l.parts))) (state_of l.self) w
    → HasRun (show_all l.barred l.fn.self.attrs (vals l.parts)) (state_of l.fn.self) w

abbrev pub invariant-document-loop-i : goal.invariant-document-loop-i
invariant-document-loop-i l =
    (w : State) → HasPars (show_all false l.self.attrs (vals (drop l.i l.parts))) (state_of l.self) w
    → HasPars (show_all false l.fn.self.attrs (vals l.parts)) (state_of l.fn.self) w
