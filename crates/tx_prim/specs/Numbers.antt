-- Numbers: a minus sign or none, and one digit or more, within 64 bits.
use Rattle.std.specs.Prelude.{ℕ, ◌^◌, Bool, true, false, ◌==◌, ◌&&◌, nat_lt, if◌then◌else◌}
use Rattle.std.specs.Prelude.{List, [], ◌∷◌, length, ℤ, pos, negsuc, neg_ℤ, Option, Some, None}
use Rattle.std.specs.List.{list_all}
use Rattle.tx_tree.specs.PathSpelling.{is_digit, number_after}

-- 64 bits with a sign hold the number: it lies from -2 ^ 63 to 2 ^ 63 - 1
abbrev pub fits_word : ℤ → Bool
fits_word (pos n) = nat_lt n (2 ^ 63)
fits_word (negsuc n) = nat_lt n (2 ^ 63)

abbrev pub if_fits : ℤ → Option ℤ
if_fits z = if fits_word z then Some z else None

-- whether a minus sign is in front, and what comes after it
abbrev pub has_minus : List ℕ → Bool
has_minus [] = false
has_minus (b ∷ bytes) = b == 45

abbrev pub behind_minus : List ℕ → List ℕ
behind_minus [] = []
behind_minus (b ∷ bytes) = if b == 45 then bytes else b ∷ bytes

abbrev pub signed : Bool → ℕ → ℤ
signed false n = pos n
signed true n = neg_ℤ (pos n)

-- one digit or more
abbrev pub are_digits : List ℕ → Bool
are_digits bytes = nat_lt 0 (length bytes) && list_all is_digit bytes

-- the number that the bytes write
abbrev pub integer_of : List ℕ → Option ℤ
integer_of bytes =
    if are_digits (behind_minus bytes)
    then if_fits (signed (has_minus bytes) (number_after 0 (behind_minus bytes)))
    else None
