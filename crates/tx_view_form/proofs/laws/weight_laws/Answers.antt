use Rattle.tx_view_form.proofs.LineCounts.{all_items, all_lines}
use Rattle.tx_view_form.proofs.ErrorCounts.{show_errors}
use Rattle.tx_view_form.proofs.ShownWeights.{value_weight, over_weight}
use Rattle.tx_view_form.proofs.laws.weight_laws.Goals as goal

pub returns-clause-value : goal.returns-clause-value
returns-clause-value c = value_weight

pub returns-clause-over : goal.returns-clause-over
returns-clause-over c = over_weight

pub returns-clause-items : goal.returns-clause-items
returns-clause-items c = all_items

pub returns-clause-lines : goal.returns-clause-lines
returns-clause-lines c = all_lines

pub returns-clause-errors : goal.returns-clause-errors
returns-clause-errors c = show_errors
