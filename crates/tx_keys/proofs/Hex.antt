-- The symbol that shows a code point by its number.
use Rattle.std.proofs.Common.{◌≡◌, ◌≢◌, ℕ, ◌+◌, ◌-◌, ◌*◌, ◌/◌, ◌%◌, ◌<◌, ◌≤◌, Bool, true, false, not, ◌&&◌, ◌||◌, ◌==◌}
use Rattle.std.proofs.Common.{List, [], ◌∷◌, ◌++◌, length, take, drop, Some, None, inl, inr, refl, sym, ap, ◌∙◌, arith}
use Rattle.std.proofs.Common.{zero, suc, subst, unwrap_or}
use Rattle.std.specs.Prelude.{nat_lt, nat_le}
use Rattle.std.specs.List.{AllByRecursion, prefix_len, take_while}
use Rattle.std.specs.Char.{digit_value}
use Rattle.std.proofs.lemmas.Bool.{agree_below_at, eqb-true, and_parts, cases_Bool, le-leb, lt-ltb}
use Rattle.tx_tree.specs.Texts.{IsName, is_name_byte, symbol}
use Rattle.tx_text.specs.Displays.{hex_behind, is_shown_code, numbered_code, symbol_code, symbol_codes, item_codes}
use Rattle.tx_keys.specs.Typing.{hex_digit, hex_name, is_nought, six_digits, without_noughts}

-- ---- the digits of a number below 16

abbrev is_right_digit : ℕ → Bool
is_right_digit n = (digit_value (hex_digit n) == n) && is_name_byte (hex_digit n)

abbrev always : ℕ → Bool
always n = true

right_digit : (n : ℕ) → n < 16 → is_right_digit n ≡ true
right_digit n small = agree_below_at is_right_digit always 16 n refl small

value_of : (n : ℕ) → n < 16 → digit_value (hex_digit n) ≡ n
value_of n small =
    eqb-true (digit_value (hex_digit n)) n
    (and_parts (digit_value (hex_digit n) == n) (is_name_byte (hex_digit n)) (right_digit n small)).0

name_of : (n : ℕ) → n < 16 → is_name_byte (hex_digit n) ≡ true
name_of n small = (and_parts (digit_value (hex_digit n) == n) (is_name_byte (hex_digit n)) (right_digit n small)).1

one_more : (v n : ℕ) (ds : List ℕ) → n < 16 → hex_behind v (hex_digit n ∷ ds) ≡ hex_behind (v * 16 + n) ds
one_more v n ds small =
    let value : digit_value (hex_digit n) ≡ n = value_of n small in
    rw (value, lt-ltb n 16 small) refl

six_value : (code : ℕ) → code < 0x1000000 → hex_behind 0 (six_digits code) ≡ Some code
six_value code few =
    let a : ℕ = code / 0x100000 % 16 in
    let b : ℕ = code / 0x10000 % 16 in
    let c : ℕ = code / 0x1000 % 16 in
    let d : ℕ = code / 0x100 % 16 in
    let e : ℕ = code / 0x10 % 16 in
    let f : ℕ = code % 16 in
    let value : (((((0 * 16 + a) * 16 + b) * 16 + c) * 16 + d) * 16 + e) * 16 + f ≡ code = omega (arith, few) in
    rw (
      one_more 0 a (hex_digit b ∷ hex_digit c ∷ hex_digit d ∷ hex_digit e ∷ hex_digit f ∷ []) (omega arith),
      one_more (0 * 16 + a) b (hex_digit c ∷ hex_digit d ∷ hex_digit e ∷ hex_digit f ∷ []) (omega arith),
      one_more ((0 * 16 + a) * 16 + b) c (hex_digit d ∷ hex_digit e ∷ hex_digit f ∷ []) (omega arith),
      one_more (((0 * 16 + a) * 16 + b) * 16 + c) d (hex_digit e ∷ hex_digit f ∷ []) (omega arith),
      one_more ((((0 * 16 + a) * 16 + b) * 16 + c) * 16 + d) e (hex_digit f ∷ []) (omega arith),
      one_more (((((0 * 16 + a) * 16 + b) * 16 + c) * 16 + d) * 16 + e) f [] (omega arith),
    ) (ap (λ n. Some n) value)

-- ---- without zeros in front

same_value : (ds : List ℕ) → hex_behind 0 (without_noughts ds) ≡ hex_behind 0 ds
same_value [] = refl
same_value (d ∷ ds) =
    elim (cases_Bool (d == 48)) [
      | inl is ↦
          let nought : d ≡ 48 = eqb-true d 48 is in
          let one : 1 + prefix_len is_nought ds ≡ suc (prefix_len is_nought ds) = omega arith in
          subst (λ x. hex_behind 0 (without_noughts (x ∷ ds)) ≡ hex_behind 0 (x ∷ ds)) (sym nought)
          (ap (λ n. hex_behind 0 (drop (length (take n (48 ∷ ds))) (48 ∷ ds))) one ∙ same_value ds)
      | inr other ↦ rw (other) refl
    ]

abbrev AreNameBytes : List ℕ → Type 0
AreNameBytes ds = AllByRecursion (λ b. is_name_byte b ≡ true) ds

dropped : (n : ℕ) (ds : List ℕ) → AreNameBytes ds → AreNameBytes (drop n ds)
dropped zero ds all = all
dropped (suc n) [] all = all
dropped (suc n) (d ∷ ds) all = dropped n ds all.1

six_names : (code : ℕ) → AreNameBytes (six_digits code)
six_names code = (
  name_of (code / 0x100000 % 16) (omega arith),
  (
    name_of (code / 0x10000 % 16) (omega arith),
    (
      name_of (code / 0x1000 % 16) (omega arith),
      (
        name_of (code / 0x100 % 16) (omega arith),
        (name_of (code / 0x10 % 16) (omega arith), (name_of (code % 16) (omega arith), tt)),
      ),
    ),
  ),
)

short : (n : ℕ) (ds : List ℕ) → length (drop n ds) ≤ length ds
short zero ds = omega arith
short (suc n) [] = omega arith
short (suc n) (d ∷ ds) = let rest = short n ds in omega (arith, rest)

pub hex_name_is : (code : ℕ) → IsName (hex_name code)
hex_name_is code =
    let ds : List ℕ = six_digits code in
    let n : ℕ = length (take_while is_nought ds) in
    let few : length (drop n ds) ≤ 6 = short n ds in
    record {
      each = (refl, dropped n ds (six_names code));
      some = omega arith;
      short = omega (arith, few);
    }

-- some digits are left of a number that isn't 0
not_none : (ds : List ℕ) (code : ℕ) → 0 < code → hex_behind 0 ds ≡ Some code → 1 ≤ length ds
not_none [] code some e = absurd (omega (arith, some, zero_is code e))
  where
    zero_is : (n : ℕ) → Some 0 ≡ Some n → 0 ≡ n
    zero_is n e = ap (λ o. unwrap_or o 0) e
not_none (d ∷ ds) code some e = omega arith

pub hex_shows : (code : ℕ) → is_shown_code code ≡ true → 0 < code → code < 0x1000000
    → item_codes (symbol (hex_name code)) ≡ code ∷ []
hex_shows code shown some few =
    let ds : List ℕ = without_noughts (six_digits code) in
    let value : hex_behind 0 ds ≡ Some code = same_value (six_digits code) ∙ six_value code few in
    let long : 1 ≤ length ds = not_none ds code some value in
    let n : ℕ = length (take_while is_nought (six_digits code)) in
    let most : length ds ≤ 6 = short n (six_digits code) in
    rw (le-leb 1 (length ds) long, le-leb (length ds) 6 most, value, shown) refl
