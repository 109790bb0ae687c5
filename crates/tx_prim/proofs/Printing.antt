-- What is printed for numbers and lengths is read as them.
use Rattle.std.proofs.Common.{◌≡◌, ℕ, zero, suc, ◌+◌, ◌-◌, ◌*◌, ◌/◌, ◌%◌, ◌^◌, ◌<◌, ◌≤◌, Bool, true, false, cond, ◌==◌}
use Rattle.std.proofs.Common.{◌&&◌, nat_lt, List, [], ◌∷◌, ◌++◌, length, take, drop, ℤ, pos, negsuc, neg_ℤ}
use Rattle.std.proofs.Common.{unsigned_abs, Option, Some, None, refl, sym, ap, subst, ◌∙◌, codes, decimal, arith}
use Rattle.std.specs.List.{list_all, prefix_len}
use Rattle.std.specs.Fmt.{signed_decimal}
use Rattle.std.proofs.Math.Nat.{mul-le-mul_right, pow-suc, pow-le-pow_right}
use Rattle.std.proofs.lemmas.Bool.{and_parts, and_from, lt-ltb, le-ltb, false_from_ne_true, eqb-true, ltb-true}
use Rattle.std.proofs.lemmas.List.{append-nil, take_at, drop_at}
use Rattle.std.proofs.lemmas.Fmt.{decimal_by_steps, decimal_nonempty, length-decimal-le}
use Rattle.tx_tree.specs.PathSpelling.{is_digit, number_after}
use Rattle.tx_tree.proofs.PathReading.{number_after-append}
use Rattle.tx_prim.specs.Numbers.{fits_word, if_fits, signed, has_minus, behind_minus, are_digits, integer_of}
use Rattle.tx_prim.specs.Lengths.{digits_front, digits_rest, length_behind, length_of, length_text, measured_length}
use Rattle.tx_prim.proofs.Plain.{decimal_digits}
use Rattle.tx_prim.proofs.Digits.{measured_is}

-- ---- the digits of a number

one_value : (n : ℕ) → n < 10 → number_after 0 ((48 + n) ∷ []) ≡ n
one_value n lt = omega arith

more_value : (n : ℕ) (ds : List ℕ) → 10 ≤ n → number_after 0 ds ≡ n / 10 → number_after 0 (ds ++ (48 + n % 10) ∷ []) ≡ n
more_value n ds le e = number_after-append 0 ds ((48 + n % 10) ∷ []) ∙ omega (arith, e)

pub decimal_value : (n : ℕ) → n < 2 ^ 64 → number_after 0 (decimal n) ≡ n
decimal_value n lt = decimal_by_steps (λ m ds. number_after 0 ds ≡ m) one_value more_value n lt

-- so many digits write a number below that power of ten
digits_below : (v : ℕ) (ds : List ℕ) → list_all is_digit ds ≡ true → number_after v ds < (v + 1) * 10 ^ length ds
digits_below v [] h = omega arith
digits_below v (b ∷ ds) h =
    let p = and_parts (is_digit b) (list_all is_digit ds) h in
    let d = b - 48 in
    let small : v * 10 + d + 1 ≤ (v + 1) * 10 = digit_small v b p.0 in
    let power : 10 ^ suc (length ds) ≡ 10 ^ length ds * 10 = pow-suc 10 (length ds) in
    subst (λ q. number_after v (b ∷ ds) < (v + 1) * q) (sym power)
    (power_step v d (10 ^ length ds) (number_after v (b ∷ ds)) (digits_below (v * 10 + d) ds p.1)
    (mul-le-mul_right (10 ^ length ds) small))
  where
    power_step : (v d p n : ℕ) → n < (v * 10 + d + 1) * p → (v * 10 + d + 1) * p ≤ (v + 1) * 10 * p
        → n < (v + 1) * (p * 10)
    power_step v d p n lt le = omega (arith, lt, le)

    digit_small : (v b : ℕ) → is_digit b ≡ true → v * 10 + (b - 48) + 1 ≤ (v + 1) * 10
    digit_small v b h = grind arith

long_digits : (n : ℕ) → n < 2 ^ 64 → 10 ^ 18 ≤ n → 18 < length (decimal n)
long_digits n lt le = by_cases (nat_lt 18 (length (decimal n))) refl
  where
    below : number_after 0 (decimal n) < (0 + 1) * 10 ^ length (decimal n)
    below = digits_below 0 (decimal n) (decimal_digits n lt)

    by_cases : (b : Bool) → nat_lt 18 (length (decimal n)) ≡ b → 18 < length (decimal n)
    by_cases true e = ltb-true 18 (length (decimal n)) e
    by_cases false e =
        let few : length (decimal n) ≤ 18 = grind (arith, e) in
        absurd (omega (
          arith,
          below,
          decimal_value n lt,
          le,
          pow-le-pow_right (let ten : 0 < 10 = omega arith in ten) few,
        ))

-- ---- reading

first_digit : (ds rest : List ℕ) → 0 < length ds → list_all is_digit ds ≡ true → (has_minus (ds ++ rest) ≡ false)
    × (behind_minus (ds ++ rest) ≡ ds ++ rest)
first_digit [] rest some h = absurd (omega arith)
first_digit (b ∷ ds) rest some h =
    let p = and_parts (is_digit b) (list_all is_digit ds) h in
    let other : (b == 45) ≡ false = no_minus b p.0 in
    (other, ap (λ c. cond c (ds ++ rest) (b ∷ (ds ++ rest))) other)
  where
    no_minus : (b : ℕ) → is_digit b ≡ true → (b == 45) ≡ false
    no_minus b h = grind arith

prefix_step : (d : Bool) (n m : ℕ) → d ≡ true → n ≡ m → cond d (1 + n) 0 ≡ suc m
prefix_step true n m e f = omega arith
prefix_step false n m e f = cc

prefix_is : (ds : List ℕ) → list_all is_digit ds ≡ true → prefix_len is_digit (ds ++ codes "mcell") ≡ length ds
prefix_is [] h = refl
prefix_is (b ∷ ds) h =
    let p = and_parts (is_digit b) (list_all is_digit ds) h in
    prefix_step (is_digit b) (prefix_len is_digit (ds ++ codes "mcell")) (length ds) p.0 (prefix_is ds p.1)

front_is : (ds : List ℕ) → list_all is_digit ds ≡ true → digits_front (ds ++ codes "mcell") ≡ ds
front_is ds h = ap (λ k. take k (ds ++ codes "mcell")) (prefix_is ds h) ∙ take_at ds (codes "mcell") (length ds) refl

rest_is : (ds : List ℕ) → list_all is_digit ds ≡ true → digits_rest (ds ++ codes "mcell") ≡ codes "mcell"
rest_is ds h = ap (λ d. drop (length d) (ds ++ codes "mcell")) (front_is ds h)
    ∙ drop_at ds (codes "mcell") (length ds) refl

-- the length that the bytes after a sign write
abbrev length_unsigned : Bool → List ℕ → Option ℤ
length_unsigned minus bytes =
    cond (nat_lt 18 (length (digits_front bytes))) None (length_behind minus (digits_front bytes) (digits_rest bytes))

unsigned_is : (minus : Bool) (n : ℕ) → n < 2 ^ 64
    → length_unsigned minus (decimal n ++ codes "mcell") ≡ cond (nat_lt 18 (length (decimal n))) None
    (if_fits (signed minus n))
unsigned_is minus n lt =
    let ds = decimal n in
    let digits = decimal_digits n lt in
    let some : nat_lt 0 (length ds) ≡ true = lt-ltb 0 (length ds) (decimal_nonempty n lt) in
    let size : n ≡ number_after 0 ds * 1 + 0 = omega (arith, decimal_value n lt) in
    let behind : length_behind minus ds (codes "mcell") ≡ if_fits (signed minus n) =
    ap (λ c. cond c (measured_length minus ds [] (codes "mcell")) None) some
    ∙ sym (measured_is minus ds [] (codes "mcell") 1 n refl size) in
    ap (λ d. cond (nat_lt 18 (length d)) None (length_behind minus d (digits_rest (ds ++ codes "mcell"))))
    (front_is ds digits)
    ∙ ap (λ r. cond (nat_lt 18 (length ds)) None (length_behind minus ds r)) (rest_is ds digits)
    ∙ ap (λ r. cond (nat_lt 18 (length ds)) None r) behind

positive : (n : ℕ) → n < 2 ^ 64 → length_of (length_text (pos n)) ≡ cond (nat_lt 18 (length (decimal n))) None
    (if_fits (pos n))
positive n lt =
    let first = first_digit (decimal n) (codes "mcell") (decimal_nonempty n lt) (decimal_digits n lt) in
    ap (λ m. length_unsigned m (behind_minus (decimal n ++ codes "mcell"))) first.0 ∙ ap (length_unsigned false) first.1
    ∙ unsigned_is false n lt

negative : (n : ℕ) → suc n < 2 ^ 64 → length_of (length_text (negsuc n)) ≡ cond (nat_lt 18 (length (decimal (suc n))))
    None (if_fits (negsuc n))
negative n lt = unsigned_is true (suc n) lt

held : (z : ℤ) → fits_word z ≡ true → if_fits z ≡ Some z
held z h = ap (λ c. cond c (Some z) None) h

few : (n : ℕ) → n < 10 ^ 18 → nat_lt 18 (length (decimal n)) ≡ false
few n lt = le-ltb 18 (length (decimal n)) (length-decimal-le 18 n (omega arith) lt (omega (arith, lt)))

small : (z : ℤ) → unsigned_abs z < 10 ^ 18 → fits_word z ≡ true
small (pos n) lt = lt-ltb n (2 ^ 63) (omega (arith, lt))
small (negsuc n) lt = lt-ltb n (2 ^ 63) (omega (arith, lt))

pub length_read : (z : ℤ) → unsigned_abs z < 10 ^ 18 → length_of (length_text z) ≡ Some z
length_read (pos n) lt = positive n (omega (arith, lt)) ∙ ap (λ c. cond c None (if_fits (pos n))) (few n lt)
    ∙ held (pos n) (small (pos n) lt)
length_read (negsuc n) lt = negative n (omega (arith, lt)) ∙ ap (λ c. cond c None (if_fits (negsuc n))) (few (suc n) lt)
    ∙ held (negsuc n) (small (negsuc n) lt)

pub length_unread : (z : ℤ) → fits_word z ≡ true → 10 ^ 18 ≤ unsigned_abs z → length_of (length_text z) ≡ None
length_unread (pos n) f le =
    let lt : n < 2 ^ 64 = omega (arith, ltb-true n (2 ^ 63) f) in
    positive n lt ∙ ap (λ c. cond c None (if_fits (pos n))) (lt-ltb 18 (length (decimal n)) (long_digits n lt le))
length_unread (negsuc n) f le =
    let lt : suc n < 2 ^ 64 = omega (arith, ltb-true n (2 ^ 63) f) in
    negative n lt
    ∙ ap (λ c. cond c None (if_fits (negsuc n))) (lt-ltb 18 (length (decimal (suc n))) (long_digits (suc n) lt le))

-- ---- numbers

digits_there : (n : ℕ) → n < 2 ^ 64 → are_digits (decimal n) ≡ true
digits_there n lt =
    and_from (nat_lt 0 (length (decimal n))) (list_all is_digit (decimal n))
    (lt-ltb 0 (length (decimal n)) (decimal_nonempty n lt)) (decimal_digits n lt)

number_unsigned : (minus : Bool) (n : ℕ) → n < 2 ^ 64
    → cond (are_digits (decimal n)) (if_fits (signed minus (number_after 0 (decimal n)))) None ≡ if_fits
    (signed minus n)
number_unsigned minus n lt =
    ap (λ c. cond c (if_fits (signed minus (number_after 0 (decimal n)))) None) (digits_there n lt)
    ∙ ap (λ m. if_fits (signed minus m)) (decimal_value n lt)

pub number_read : (z : ℤ) → fits_word z ≡ true → integer_of (signed_decimal z) ≡ Some z
number_read (pos n) f =
    let lt : n < 2 ^ 64 = omega (arith, ltb-true n (2 ^ 63) f) in
    let first = first_digit (decimal n) [] (decimal_nonempty n lt) (decimal_digits n lt) in
    let front : has_minus (decimal n) ≡ false = ap has_minus (sym (append-nil (decimal n))) ∙ first.0 in
    let behind : behind_minus (decimal n) ≡ decimal n = ap behind_minus (sym (append-nil (decimal n))) ∙ first.1
    ∙ append-nil (decimal n) in
    ap (λ m. cond (are_digits (behind_minus (decimal n)))
    (if_fits (signed m (number_after 0 (behind_minus (decimal n))))) None) front
    ∙ ap (λ ds. cond (are_digits ds) (if_fits (signed false (number_after 0 ds))) None) behind
    ∙ number_unsigned false n lt
    ∙ held (pos n) f
number_read (negsuc n) f =
    let lt : suc n < 2 ^ 64 = omega (arith, ltb-true n (2 ^ 63) f) in
    number_unsigned true (suc n) lt ∙ held (negsuc n) f
