-- The first bytes of a label.
use Rattle.std.specs.Prelude.{◌≡◌, ◌≤◌, ℕ, true, List, length}
use Rattle.std.specs.List.{AllByRecursion}
use Rattle.tx_tree.specs.declared.TheConstants.{MOST_LABEL}
use Rattle.tx_tree.specs.Labels.{is_label_byte}

pub record IsLabelFront (bytes : List ℕ) : Type 0 where
  pub each : AllByRecursion (λ b. is_label_byte b ≡ true) bytes
  pub short : length bytes ≤ MOST_LABEL
