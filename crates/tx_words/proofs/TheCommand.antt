-- What `clap` makes of the words at the command.
use Rattle.std.proofs.Common.{◌≡◌, ◌∙◌, true, refl, sym, ap, List, []}
use Rattle.clap.specs.Words.{App, Text, fault_of, is_simple_and_free, takes}
use Rattle.tx_words.specs.Words.{tmx}
use Rattle.tx_words.proofs.Taken.{no_fault_takes}

-- the command takes words in which no fault was found
pub taken : (a : App) (words : List Text) → a ≡ tmx → (is_simple_and_free a ≡ true → fault_of a words ≡ [])
    → takes tmx words ≡ true
taken a words same none =
    no_fault_takes tmx words refl refl refl refl
    (ap (λ (x : App). fault_of x words) (sym same) ∙ none (ap is_simple_and_free same))
