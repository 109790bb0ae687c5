-- Names and digits that grow.
use Rattle.std.proofs.Common.{◌≡◌, ℕ, ◌<◌, ◌≤◌, ◌==◌, true, false, Some, List, [], ◌∷◌, ◌++◌, length, length-append}
use Rattle.std.proofs.Common.{arith}
use Rattle.tx_tree.specs.declared.TheConstants.{MOST_NAME, MOST_TEXT}
use Rattle.tx_tree.specs.Texts.{is_name_byte, IsText}
use Rattle.tx_tree.proofs.Scanning.{all_snoc}
use Rattle.tx_tm_form.specs.Bytes.{is_digit, kind_of, is_plain, escape_of}
use Rattle.tx_tm_form.specs.declared.bytes.Escaped.TheVariants.{Byte}
use Rattle.tx_tm_form.specs.Forms.{symbol_bytes}
use Rattle.tx_tm_form.proofs.Formed.{digits_text, symbol_text, escaped_text, one_byte_text, plain_item}
use Rattle.tx_tm_read.specs.Fronts.{IsNameFront, IsDigitFront}

pub name_more : (l : List ℕ) (b : ℕ) → IsNameFront l → is_name_byte b ≡ true → length l < MOST_NAME
    → IsNameFront (l ++ b ∷ [])
name_more l b h k n =
    record {
      each = all_snoc (λ b. is_name_byte b ≡ true) l b h.each k;
      short = omega (arith, length-append l (b ∷ []));
    }

pub digit_more : (l : List ℕ) (b : ℕ) → IsDigitFront l → is_digit b ≡ true → length l < MOST_TEXT
    → IsDigitFront (l ++ b ∷ [])
digit_more l b h k n =
    record { each = all_snoc (λ b. is_digit b ≡ true) l b h.each k; short = omega (arith, length-append l (b ∷ [])) }

pub digits_are_text : (l : List ℕ) → IsDigitFront l → IsText l
digits_are_text l h = digits_text l h.each

pub symbol_is_text : (l : List ℕ) → IsNameFront l → 1 ≤ length l → IsText (symbol_bytes l)
symbol_is_text l h n = symbol_text l (record { each = h.each; some = n; short = h.short })

pub nonempty : (l : List ℕ) → (length l == 0) ≡ false → 1 ≤ length l
nonempty [] e = absurd cc
nonempty (b ∷ l) e = omega arith

pub escape_is_text : (b v : ℕ) → escape_of b ≡ Some (Byte v) → IsText (v ∷ [])
escape_is_text b v e = escaped_text b (Byte v) e

pub plain_is_text : (b : ℕ) → is_plain (kind_of b) ≡ true → IsText (b ∷ [])
plain_is_text b h = one_byte_text b (plain_item b h)
