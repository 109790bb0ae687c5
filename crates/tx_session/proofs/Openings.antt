-- What a law of opening says: words and files have one outcome.
use Rattle.std.specs.Prelude.{◌≡◌, ℕ, List, Some}
use Rattle.tx_outside.specs.Files.{Files}
use Rattle.tx_open.specs.Outcomes.{ComesTo, IsDecided, OpenOutcome}

abbrev pub OneOutcome : Type 0
OneOutcome = (words : List (List ℕ)) (told : Files) (o p : OpenOutcome) → ComesTo words (Some told) o
    → ComesTo words (Some told) p → IsDecided o → IsDecided p → o ≡ p
