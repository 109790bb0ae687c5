-- Lengths: a minus sign or none, digits, a point and digits or none, and a unit. They are counted in thousandths of a
-- cell.
use Rattle.std.specs.Prelude.{ℕ, ◌*◌, ◌/◌, Bool, ◌==◌, nat_lt, if◌then◌else◌, List, [], ◌∷◌, ◌++◌, length}
use Rattle.std.specs.Prelude.{take, drop, ℤ, codes, take_while, Option, Some, None, option_and_then}
use Rattle.std.specs.Str.{bytes_eq}
use Rattle.std.specs.Fmt.{signed_decimal}
use Rattle.tx_tree.specs.PathSpelling.{is_digit, number_after}
use Rattle.tx_prim.specs.declared.TheConstants.{MOST_WHOLE}
use Rattle.tx_prim.specs.Numbers.{has_minus, behind_minus, signed, if_fits}

-- the units, each with its thousandths of a cell
abbrev pub unit_of : List ℕ → Option ℕ
unit_of name =
    if bytes_eq name (codes "mcell") then Some 1
    else (if bytes_eq name (codes "spc") then Some 1000
    else (if bytes_eq name (codes "em") then Some 2000
    else (if bytes_eq name (codes "fn") then Some 2000
    else (if bytes_eq name (codes "tab") then Some 4000
    else (if bytes_eq name (codes "mm") then Some 500
    else (if bytes_eq name (codes "cm") then Some 5000
    else (if bytes_eq name (codes "in") then Some 12700
    else (if bytes_eq name (codes "pt") then Some 176
    else None))))))))

-- a thousand times what the digits before and after the point write, without those past the third
abbrev pub thousandths : List ℕ → List ℕ → ℕ
thousandths whole decimals = number_after 0 (whole ++ take 3 (decimals ++ codes "000"))

-- so many thousandths of the unit, cut toward zero
abbrev pub measured_length : Bool → List ℕ → List ℕ → List ℕ → Option ℤ
measured_length minus whole decimals unit =
    option_and_then (λ u. if_fits (signed minus (thousandths whole decimals * u / 1000))) (unit_of unit)

-- the digits in front, and what comes after them
abbrev pub digits_front : List ℕ → List ℕ
digits_front bytes = take_while is_digit bytes

abbrev pub digits_rest : List ℕ → List ℕ
digits_rest bytes = drop (length (digits_front bytes)) bytes

-- after the digits of the whole: a point with one digit or more and a unit, or a unit, if there were digits
abbrev pub length_behind : Bool → List ℕ → List ℕ → Option ℤ
length_behind minus whole [] = None
length_behind minus whole (b ∷ bytes) =
    if b == 46
    then (if nat_lt 0 (length (digits_front bytes))
    then measured_length minus whole (digits_front bytes) (digits_rest bytes) else None)
    else (if nat_lt 0 (length whole) then measured_length minus whole [] (b ∷ bytes) else None)

-- the length that the bytes write
abbrev pub length_of : List ℕ → Option ℤ
length_of bytes =
    if nat_lt MOST_WHOLE (length (digits_front (behind_minus bytes)))
    then None
    else length_behind (has_minus bytes) (digits_front (behind_minus bytes)) (digits_rest (behind_minus bytes))

-- a length as it is printed
abbrev pub length_text : ℤ → List ℕ
length_text z = signed_decimal z ++ codes "mcell"
