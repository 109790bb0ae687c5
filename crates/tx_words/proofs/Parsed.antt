-- Numbers as `parse` reads them.
use Rattle.std.proofs.Common.{◌≡◌, ◌≢◌, ℕ, ◌<◌, ◌≤◌, ◌^◌, ◌==◌, true, false, List, length, get_or, None}
use Rattle.std.proofs.Common.{rules, arith}
use Rattle.std.specs.Prelude.{IfSome, Result, Ok, Err}
use Rattle.std.specs.List.{AllByRecursion}
use Rattle.std.specs.Result.{OkIff, result_ok}
use Rattle.std.specs.Str.Parse.{ParsesUnsigned}
use Rattle.std.proofs.lemmas.Str.Parse.{IsNumeralModel, numerals_by_fold, parse_plain}
use Rattle.tx_tree.specs.PathSpelling.{is_digit, number_after, IsNumber}

abbrev AreDigits : List ℕ → Type 0
AreDigits = AllByRecursion (λ b. is_digit b ≡ true)

own : IsNumeralModel AreDigits (number_after 0)
own = numerals_by_fold _ (search rules) number_after (search rules)

abbrev IsRead : {E : Type 0} → List ℕ → Result ℕ E → Type 0
IsRead digits r =
    OkIff r (AreDigits digits × (0 < length digits) × (number_after 0 digits < 2 ^ 32)) (number_after 0 digits)

-- what was parsed is the number
pub parsed : {E : Type 0} (digits : List ℕ) (r : Result ℕ E) → ParsesUnsigned 32 10 digits r → length digits ≤ 10
    → get_or digits 0 0 ≢ 43 → IfSome (result_ok r) (λ n. IsNumber digits n)
parsed {E} digits r h short unsigned = go r (parse_plain own 32 digits r h unsigned)
  where
    go : (s : Result ℕ E) → IsRead digits s → IfSome (result_ok s) (λ n. IsNumber digits n)
    go (Ok n) k = record { each = k.0.0; some = k.0.1; short = short; value = k.1; fits = omega (arith, k.0.2, k.1) }
    go (Err e) k = search rules

-- where nothing was parsed there is no number
pub not_parsed : {E : Type 0} (digits : List ℕ) (r : Result ℕ E) (n : ℕ) → ParsesUnsigned 32 10 digits r
    → get_or digits 0 0 ≢ 43 → result_ok r ≡ None → IsNumber digits n → ⊥
not_parsed {E} digits r n h unsigned none number = go r (parse_plain own 32 digits r h unsigned) none
  where
    go : (s : Result ℕ E) → IsRead digits s → result_ok s ≡ None → ⊥
    go (Ok m) k e = absurd cc
    go (Err e) k _ =
        let value = number.value in
        let fits = number.fits in
        k (number.each, number.some, omega arith)

pub is_unsigned : (first : ℕ) → false ≡ (first == 43) → first ≢ 43
is_unsigned first e same = absurd (grind arith)
