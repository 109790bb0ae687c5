-- The cells of a row while settings are gone over from the last to the first.
use Rattle.std.specs.Prelude.{◌≡◌, ℕ, ◌<◌, ◌≤◌, nat_lt, List, [], ◌∷◌, length, get_or, Option, Some, None, if◌then◌else◌}
use Rattle.std.specs.Option.{option_or, unwrap_or}
use Rattle.tx_table.specs.declared.settings.Side.{Side}
use Rattle.tx_table.specs.declared.settings.Side.TheVariants.{Left}
use Rattle.tx_table.specs.declared.settings.Setting.{Setting}
use Rattle.tx_table.specs.Settings.{is_inside}

-- the side that a setting sets there
abbrev pub set_by : Setting → ℕ → ℕ → Option Side
set_by s r c = if is_inside s r c then Some s.side else None

-- the side that the last of these sets there, or None where none does
abbrev pub last_set : List Setting → ℕ → ℕ → Option Side
last_set [] r c = None
last_set (s ∷ ss) r c = option_or (last_set ss r c) (set_by s r c)

-- These sides were set so far, and the others are left. From each column `next` leads to the next one that may not be
-- set yet, over columns that are set. From one that isn't set it leads to itself.
pub record Painted (done : ℕ → Option Side) (sides : List Side) (next : List ℕ) : Type 0 where
  pub long : length next ≡ length sides
  pub each : (k : ℕ) → k < length sides → get_or sides k Left ≡ unwrap_or (done k) Left
  pub onward : (k : ℕ) → k < length sides → k ≤ get_or next k 0
  pub within : (k : ℕ) → k < length sides → get_or next k 0 ≤ length sides
  pub over : (c k : ℕ) → c < length sides → c ≤ k → k < get_or next c 0 → done k ≡ None → ⊥
  pub free : (k : ℕ) → k < length sides → get_or next k 0 ≡ k → done k ≡ None

-- the first ones up to a column, and the second ones from there on
abbrev pub up_to : ℕ → (ℕ → Option Side) → (ℕ → Option Side) → ℕ → Option Side
up_to at f g k = if nat_lt k at then f k else g k
