use Rattle.std.proofs.Common.{◌≡◌, true, take}
use Rattle.std.specs.Prelude.{All}
use Rattle.tx_tree.specs.Labels.{is_label_byte}
use Rattle.tx_scm.proofs.names.letters_len.Given as goal

abbrev pub invariant-loop-i : goal.invariant-loop-i
invariant-loop-i l = All (λ b. is_label_byte b ≡ true) (take l.i l.bytes)
