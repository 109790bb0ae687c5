use Rattle.std.proofs.Common.{ap, ◌∙◌}
use Rattle.tx_items.specs.Cells.{cells_across}
use Rattle.tx_layout.specs.OneLine.{one_line}
use Rattle.tx_view_form.proofs.TableRows.{row_one, row_covers, drawn_covers, place_covers}
use Rattle.tx_view_form.proofs.tables.table_place_law.Goals as goal

pub returns : goal.returns
returns c = record {
  line = λ p width columns sides cells lines h shape.
      c.one_line_law.ensures p width lines shape (row_one c.row_law.ensures.across p width columns sides cells h);
  cells = λ p width columns sides cells h.
      ap cells_across h.made ∙ c.row_law.ensures.across columns sides cells h.fits h.some;
  drawn = λ p width columns sides cells j item at h covers.
      drawn_covers (one_line p width) item at
      (row_covers c.row_law.ensures.places p width columns sides cells j item at h covers);
  place = λ p width columns sides cells j item at path above below m h covers marked.
      place_covers (one_line p width) item at path above below m marked
      (row_covers c.row_law.ensures.places p width columns sides cells j item at h covers);
}
