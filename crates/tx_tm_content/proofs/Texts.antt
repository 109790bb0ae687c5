-- Texts that grow.
use Rattle.std.proofs.Common.{ℕ, ◌+◌, ◌≤◌, ◌<◌, List, [], ◌∷◌, ◌++◌, length, refl, length-append, arith}
use Rattle.tx_tree.specs.declared.TheConstants.{MOST_TEXT}
use Rattle.tx_tree.specs.Texts.{IsText}
use Rattle.tx_tm_form.proofs.Formed.{text_text, no_text, one_byte_text}
use Rattle.tx_tm_content.specs.Lines.{IsLineText}

pub both : (a b : List ℕ) → IsLineText a → IsText b → length a + length b ≤ MOST_TEXT → IsLineText (a ++ b)
both a b h k n = record { text = text_text a b h.text k; short = omega (arith, length-append a b) }

pub with_space : (a : List ℕ) → IsLineText a → length a < MOST_TEXT → IsLineText (a ++ 32 ∷ [])
with_space a h n = both a (32 ∷ []) h (one_byte_text 32 refl) (omega arith)

pub nothing_yet : IsLineText []
nothing_yet = record { text = no_text; short = omega arith }
