use Rattle.tx_units.proofs.Sound.{assign_label, quote_label}
use Rattle.tx_units.proofs.initial.Labels.new.Goals as goal

pub label-requires : goal.label-requires
label-requires c = assign_label

pub label-requires-2 : goal.label-requires-2
label-requires-2 c = quote_label
