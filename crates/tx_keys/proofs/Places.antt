-- Reports of the cursor and clicks of the mouse, with numbers in decimal.
use Rattle.std.proofs.Common.{◌≡◌, ℕ, ◌+◌, ◌-◌, ◌*◌, ◌/◌, ◌%◌, ◌<◌, ◌≤◌, ◌^◌, Bool, true, false, List, [], ◌∷◌, ◌++◌}
use Rattle.std.proofs.Common.{Some, None, refl, arith, mod-lt}
use Rattle.std.specs.Prelude.{decimal}
use Rattle.std.proofs.lemmas.Bool.{le-leb, lt-ltb, ne_eqb}
use Rattle.std.proofs.lemmas.Fmt.{decimal_by_steps}
use Rattle.std.proofs.Math.Nat.{div-add-mod}
use Rattle.tx_keys.specs.declared.sequences.Key.{Key}
use Rattle.tx_keys.specs.declared.sequences.Key.TheVariants.{Click, Report}
use Rattle.tx_keys.specs.declared.sequences.Begun.{Begun}
use Rattle.tx_keys.specs.declared.sequences.Begun.TheVariants.{Nothing, Bracket, Numbers}
use Rattle.tx_keys.specs.Keys.{number_byte, bracket_byte, bytes_keys, read_keys}
use Rattle.tx_keys.specs.Encodings.{IsPlace, report_bytes, click_bytes}
use Rattle.tx_keys.proofs.Parts.{bytes_both}

digit : (m : Bool) (a b last d : ℕ) → d < 10 → last < 10000
    → number_byte m a b last (48 + d) ≡ Some (Numbers m a b (last * 10 + (48 + d - 48)), None)
digit m a b last d small few =
    rw (le-leb 48 (48 + d) (omega arith), le-leb (48 + d) 57 (omega (arith, small)), lt-ltb last 10000 few) refl

first_digit : (d : ℕ) → d < 10 → bracket_byte (48 + d) ≡ number_byte false 0 0 0 (48 + d)
first_digit d small =
    rw (
      ne_eqb (48 + d) 60 (λ e. omega (arith, e, small)),
      ne_eqb (48 + d) 77 (λ e. omega (arith, e, small)),
      ne_eqb (48 + d) 91 (λ e. omega (arith, e, small)),
    ) refl

-- these digits are a number, right after CSI and after others
abbrev Spells : ℕ → List ℕ → Type 0
Spells n ds = n < 100000 → (bytes_keys Bracket ds ≡ (Numbers false 0 0 n, []))
    × ((m : Bool) (a b : ℕ) → bytes_keys (Numbers m a b 0) ds ≡ (Numbers m a b n, []))

one_digit : (n : ℕ) → n < 10 → Spells n ((48 + n) ∷ [])
one_digit n small few =
    let value : 0 * 10 + (48 + n - 48) ≡ n = omega arith in (
      rw (first_digit n small, digit false 0 0 0 n small (omega arith)) (rw (value) refl),
      λ m a b. rw (digit m a b 0 n small (omega arith)) (rw (value) refl),
    )

more_digits : (n : ℕ) (ds : List ℕ) → 10 ≤ n → Spells (n / 10) ds → Spells n (ds ++ ((48 + n % 10) ∷ []))
more_digits n ds long front few =
    let last : 10 * (n / 10) + n % 10 ≡ n = div-add-mod n 10 in
    let value : n / 10 * 10 + (48 + n % 10 - 48) ≡ n = omega (arith, last) in
    let small : n % 10 < 10 = mod-lt n (omega arith) in
    let fewer : n / 10 < 10000 = omega (arith, last, few) in
    let before = front (omega (arith, fewer)) in (
      rw (bytes_both ds ((48 + n % 10) ∷ []) Bracket, before.0)
          (rw (digit false 0 0 (n / 10) (n % 10) small fewer) (rw (value) refl)),
      λ m a b. rw (bytes_both ds ((48 + n % 10) ∷ []) (Numbers m a b 0), before.1 m a b)
          (rw (digit m a b (n / 10) (n % 10) small fewer) (rw (value) refl)),
    )

number : (n : ℕ) → n < 100000 → Spells n (decimal n)
number n few = decimal_by_steps Spells one_digit more_digits n (omega (arith, few))

-- a second number and the last byte
pair_ends : (m : Bool) (a b n last : ℕ) → n < 100000
    → bytes_keys (Numbers m a b 0) (decimal n ++ last ∷ []) ≡ bytes_keys (Numbers m a b n) (last ∷ [])
pair_ends m a b n last few =
    rw (bytes_both (decimal n) (last ∷ []) (Numbers m a b 0), (number n few few).1 m a b) refl

pub report_keys : (r c : ℕ) → IsPlace r → IsPlace c → read_keys Nothing (report_bytes r c) ≡ (Nothing, Report r c ∷ [])
report_keys r c row column =
    rw (
      bytes_both (decimal r) (59 ∷ (decimal c ++ 82 ∷ [])) Bracket,
      (number r row.1 row.1).0,
      pair_ends false 0 r c 82 column.1,
      le-leb 1 r row.0,
      le-leb 1 c column.0,
    ) refl

pub click_keys : (c r : ℕ) → IsPlace c → IsPlace r → read_keys Nothing (click_bytes c r) ≡ (Nothing, Click c r ∷ [])
click_keys c r column row =
    rw (
      bytes_both (decimal c) (59 ∷ (decimal r ++ 77 ∷ [])) (Numbers true 0 0 0),
      (number c column.1 column.1).1 true 0 0,
      pair_ends true 0 c r 77 row.1,
      le-leb 1 c column.0,
      le-leb 1 r row.0,
    ) refl
