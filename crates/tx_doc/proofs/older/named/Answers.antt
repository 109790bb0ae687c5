use Rattle.std.proofs.Common.{sym}
use Rattle.tx_doc.proofs.Calling.{none_named}
use Rattle.tx_doc.proofs.WithoutCalls.{label_by}
use Rattle.tx_doc.proofs.older.named.Goals as goal

pub returns-in_default-clause-named : goal.returns-in_default-clause-named
returns-in_default-clause-named c = none_named c.args.label.now c.args.first.now c.in_default.ensures

pub returns-then-is_label-clause-label : goal.returns-then-is_label-clause-label
returns-then-is_label-clause-label c = label_by c.bytes-bytes.result.now (sym c.if-is_label.ensures)
