-- Labels of nodes.
use Rattle.std.specs.Prelude.{◌≡◌, ℕ, ◌≤◌, Bool, true, ◌==◌, ◌||◌, ◌&&◌, nat_le, List, length}
use Rattle.std.specs.List.{AllByRecursion}
use Rattle.tx_base.specs.Fronts.{IsLongestFront}
use Rattle.tx_tree.specs.declared.TheConstants.{MOST_LABEL}
use Rattle.tx_tree.specs.declared.labels.LabelFault.{LabelFault}
use Rattle.tx_tree.specs.declared.labels.LabelFault.TheVariants.{BadLabel, Memory}

-- a letter, a digit, or one of fifteen signs, by their numbers from the minus sign, 45, to the caret, 94
unfoldable pub is_label_byte : ℕ → Bool
is_label_byte b =
    (nat_le 97 b && nat_le b 122) || (nat_le 65 b && nat_le b 90) || (nat_le 48 b && nat_le b 57) || b == 45 || b == 95
    || b == 43 || b == 42 || b == 58 || b == 46 || b == 63 || b == 33
    || b == 61 || b == 126 || b == 64 || b == 36 || b == 37 || b == 38 || b == 94

pub record IsLabel (label : List ℕ) : Type 0 where
  pub each : AllByRecursion (λ b. is_label_byte b ≡ true) label
  pub some : 1 ≤ length label
  pub short : length label ≤ MOST_LABEL

-- the first bytes of a label, also none and all of them
abbrev pub BeginsLabel : List ℕ → Type 0
BeginsLabel label = AllByRecursion (λ b. is_label_byte b ≡ true) label × (length label ≤ MOST_LABEL)

-- why bytes are no label: so many of them and no more begin one
abbrev pub IsLabelFault : List ℕ → LabelFault → Type 0
IsLabelFault bytes (BadLabel n) = IsLongestFront IsLabel bytes n × (IsLabel bytes → ⊥)
IsLabelFault bytes Memory = ⊥
