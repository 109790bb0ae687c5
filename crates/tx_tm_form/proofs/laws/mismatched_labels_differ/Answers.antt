use Rattle.tx_tm_form.proofs.Mismatches.{open_tag_there, labels_differ, other_label}
use Rattle.tx_tm_form.proofs.laws.mismatched_labels_differ.Goals as goal

pub returns-clause-stands : goal.returns-clause-stands
returns-clause-stands c = open_tag_there

pub returns-clause-differs : goal.returns-clause-differs
returns-clause-differs c = labels_differ

pub returns-clause-labels : goal.returns-clause-labels
returns-clause-labels c = other_label
