use Rattle.std.proofs.Common.{◌≡◌, ◌+◌, ◌++◌, drop, length}
use Rattle.std.specs.Vec.Iter.{into_iter_items}
use Rattle.tx_items.specs.Tables.{row_paragraphs, table_paragraphs}
use Rattle.tx_items.proofs.showing.Showing.add_rows.Given as goal

abbrev pub invariant-loop-row : goal.invariant-loop-row
invariant-loop-row l = record {
  left : into_iter_items l.row-iterator ≡ drop l.at l.fn.rows.items;
  added : l.self.paragraphs.items
      ++ row_paragraphs l.plan.columns (drop l.at l.sides) (into_iter_items l.row-iterator)
      ≡ l.fn.self.paragraphs.items ++ table_paragraphs l.sides l.fn.rows.items;
  attrs : l.self.attrs ≡ l.fn.self.attrs;
  run : l.self.run ≡ l.fn.self.run;
  first : l.self.first ≡ l.fn.self.first;
  errors : l.self.errors ≡ l.fn.self.errors;
}
