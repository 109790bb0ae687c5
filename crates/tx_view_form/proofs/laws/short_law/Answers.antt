use Rattle.std.proofs.Common.{◌≤◌}
use Rattle.tx_tree.specs.declared.TheConstants.{MOST_TEXT}
use Rattle.tx_view_form.specs.Positions.{IsShort}
use Rattle.tx_view_form.proofs.Marking.{capped_marked}
use Rattle.tx_view_form.proofs.OnLines.{lines_hold}
use Rattle.tx_view_form.proofs.Shortness.{short_items}
use Rattle.tx_view_form.proofs.laws.short_law.Goals as goal

pub returns-clause-items : goal.returns-clause-items
returns-clause-items c = short_items

pub returns-clause-lines : goal.returns-clause-lines
returns-clause-lines c = λ width ps lines. lines_hold IsShort (λ n m e. absurd cc) (capped_marked (λ m. m.stop ≤ MOST_TEXT)) width ps lines
