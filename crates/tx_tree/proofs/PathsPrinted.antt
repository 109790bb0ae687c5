-- A printed path spells that path.
use Rattle.std.proofs.Common.{◌≡◌, ℕ, ◌<◌, ◌≤◌, List, [], ◌∷◌, ◌++◌, length, refl, sym, arith, rules, true, ◌^◌}
use Rattle.std.specs.Prelude.{decimal}
use Rattle.std.specs.List.{AllByRecursion}
use Rattle.std.proofs.lemmas.Fmt.{digits_decimal, digits_value-decimal, decimal_nonempty, length-decimal-le}
use Rattle.std.proofs.lemmas.Str.Parse.{IsNumeralModel, numerals_by_fold}
use Rattle.tx_tree.specs.PathSpelling.{is_digit, number_after, IsNumber, AreNumbers, SpellsPath, numbers_text}
use Rattle.tx_tree.specs.PathSpelling.{path_text, place_text}
use Rattle.tx_tree.proofs.PathReading.{spelled_numbers}

own : IsNumeralModel (AllByRecursion (λ b. is_digit b ≡ true)) (number_after 0)
own = numerals_by_fold _ (search rules) number_after (search rules)

pub decimal_number : (n : ℕ) → n ≤ 4294967295 → IsNumber (decimal n) n
decimal_number n fits =
    let small : n < 2 ^ 64 = omega arith in
    record {
      each = digits_decimal own n small;
      some = omega (arith, decimal_nonempty n small);
      short = length-decimal-le 10 n (omega arith) (omega arith) small;
      value = sym (digits_value-decimal own n small);
      fits = fits;
    }

printed_numbers : (path : List ℕ) → AllByRecursion (λ n. n ≤ 4294967295) path → AreNumbers (numbers_text path) path
printed_numbers [] h = refl
printed_numbers (n ∷ path) h = (decimal n, numbers_text path, decimal_number n h.0, refl, printed_numbers path h.1)

pub printed_path : (path : List ℕ) → length path ≤ 400 → AllByRecursion (λ n. n ≤ 4294967295) path
    → SpellsPath (path_text path) path
printed_path [] few h = refl
printed_path (n ∷ path) few h = (printed_numbers (n ∷ path) h, few)

and_last : (path : List ℕ) (o : ℕ) → AllByRecursion (λ n. n ≤ 4294967295) path → o ≤ 4294967295
    → AllByRecursion (λ n. n ≤ 4294967295) (path ++ o ∷ [])
and_last [] o h k = (k, tt)
and_last (n ∷ path) o h k = (h.0, and_last path o h.1 k)

pub printed_place : (path : List ℕ) (o : ℕ) → length path < 400 → AllByRecursion (λ n. n ≤ 4294967295) path
    → o ≤ 4294967295 → SpellsPath (place_text path o) (path ++ o ∷ [])
printed_place path o few h k =
    spelled_numbers path (place_text path o) o (printed_numbers (path ++ o ∷ []) (and_last path o h k)) few
