use Rattle.std.proofs.Common.{◌≡◌, ◌-◌, List, refl, ap, sym, ◌∙◌, take, length}
use Rattle.tx_origin.specs.Values.{WideValue}
use Rattle.tx_table.specs.Settings.{parts_if}
use Rattle.tx_table.specs.Grids.{format_grid, table_grid}
use Rattle.tx_table.proofs.Gathering.{format_by}
use Rattle.tx_table.proofs.grids.format_grid.Goals as goal

pub returns : goal.returns
returns c =
    let parts : List WideValue = c.in-Some.parts.now in
    let table : WideValue = c.in-Some-last.table.now in
    let value : WideValue = c.args.value.now in
    let front : List WideValue = take (length parts - 1) parts in
    let same : format_grid value ≡ table_grid front table =
    format_by value parts front table
    (ap (λ words. parts_if words value) (sym c.as_slice.ensures) ∙ c.in-Some.ensures)
    (sym c.in-Some-last.ensures.value) refl in
    rw same c.table_grid-2.ensures
