-- The first bytes of a symbol's name, and of raw data.
use Rattle.std.specs.Prelude.{◌≡◌, ◌≤◌, ℕ, Bool, true, false, List, length, Option, Some, None}
use Rattle.std.specs.List.{AllByRecursion}
use Rattle.tx_tree.specs.declared.TheConstants.{MOST_NAME, MOST_TEXT}
use Rattle.tx_tree.specs.Texts.{is_name_byte}
use Rattle.tx_tm_form.specs.Forms.{AreDigits}

pub record IsNameFront (bytes : List ℕ) : Type 0 where
  pub each : AllByRecursion (λ b. is_name_byte b ≡ true) bytes
  pub short : length bytes ≤ MOST_NAME

pub record IsDigitFront (bytes : List ℕ) : Type 0 where
  pub each : AreDigits bytes
  pub short : length bytes ≤ MOST_TEXT

-- with one byte more, where there was room for it
abbrev pub IsBytePushed : Option (List ℕ) → Bool → List ℕ → Type 0
IsBytePushed None room bytes = room ≡ false
IsBytePushed (Some xs) room bytes = (room ≡ true) × (xs ≡ bytes)
