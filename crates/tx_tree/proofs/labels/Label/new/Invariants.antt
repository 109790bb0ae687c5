use Rattle.std.proofs.Common.{◌≡◌, ◌≤◌, true, take}
use Rattle.std.specs.List.{AllByRecursion}
use Rattle.tx_tree.specs.Labels.{is_label_byte}
use Rattle.tx_tree.proofs.labels.Label.new.Given as goal

abbrev pub invariant-loop-i : goal.invariant-loop-i
invariant-loop-i l = record { each : AllByRecursion (λ b. is_label_byte b ≡ true) (take l.i l.bytes); short : l.i ≤ 64 }
