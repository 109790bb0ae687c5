use Rattle.tx_moves.proofs.Covering.{begun_there, bare_there}
use Rattle.tx_moves.proofs.Bounding.{row_in_unit, row_within, cluster_within}
use Rattle.tx_moves.proofs.rows.row_laws.Goals as goal

pub returns : goal.returns
returns c = record {
  begun = begun_there c.cell_law.ensures;
  reach = cluster_within c.within_page.ensures;
  bare = bare_there;
  unit = row_in_unit;
  within = row_within c.within_page.ensures;
}
