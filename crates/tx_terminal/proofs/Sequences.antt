-- What control sequences make of a terminal, and bytes that come in two parts.
use Rattle.std.proofs.Common.{◌≡◌, ℕ, ◌+◌, ◌-◌, ◌*◌, ◌/◌, ◌%◌, ◌<◌, ◌≤◌, ◌^◌, Bool, false, List, [], ◌∷◌, ◌++◌}
use Rattle.std.proofs.Common.{length, refl, arith, mod-lt}
use Rattle.std.specs.Prelude.{decimal}
use Rattle.std.proofs.lemmas.Bool.{le-leb}
use Rattle.std.proofs.lemmas.Fmt.{decimal_by_steps, length-decimal-le}
use Rattle.std.proofs.lemmas.List.{length-append}
use Rattle.std.proofs.Math.Nat.{div-add-mod}
use Rattle.tx_terminal.specs.Terminals.{Terminal, after_byte, after_bytes, standing_at, quiet}
use Rattle.tx_terminal.specs.Terminals.Mode.{control}
use Rattle.tx_terminal.specs.Painting.{Moves, move_bytes}

pub after_both : (xs ys : List ℕ) (t : Terminal) → after_bytes t (xs ++ ys) ≡ after_bytes (after_bytes t xs) ys
after_both [] ys t = refl
after_both (x ∷ xs) ys t = after_both xs ys (after_byte t x)

abbrev begun : Terminal → Bool → List ℕ → ℕ → Terminal
begun t asked done last = record t { mode = control asked done last }

digit : (t : Terminal) (asked : Bool) (done : List ℕ) (last d : ℕ) → d < 10
    → after_byte (begun t asked done last) (48 + d) ≡ begun t asked done (last * 10 + (48 + d - 48))
digit t asked done last d small = rw (le-leb 48 (48 + d) (omega arith), le-leb (48 + d) 57 (omega (arith, small))) refl

-- digits are the number that goes on
abbrev Spells : ℕ → List ℕ → Type 0
Spells n ds =
    (t : Terminal) (asked : Bool) (done : List ℕ) → after_bytes (begun t asked done 0) ds ≡ begun t asked done n

one_digit : (n : ℕ) → n < 10 → Spells n ((48 + n) ∷ [])
one_digit n small t asked done =
    let value : 0 * 10 + (48 + n - 48) ≡ n = omega arith in rw (digit t asked done 0 n small) (rw (value) refl)

more_digits : (n : ℕ) (ds : List ℕ) → 10 ≤ n → Spells (n / 10) ds → Spells n (ds ++ ((48 + n % 10) ∷ []))
more_digits n ds long front t asked done =
    let last : 10 * (n / 10) + n % 10 ≡ n = div-add-mod n 10 in
    let value : n / 10 * 10 + (48 + n % 10 - 48) ≡ n = omega (arith, last) in
    let small : n % 10 < 10 = mod-lt n (omega arith) in
    rw (after_both ds ((48 + n % 10) ∷ []) (begun t asked done 0), front t asked done)
    (rw (digit t asked done (n / 10) (n % 10) small) (rw (value) refl))

number : (n : ℕ) → n < 2 ^ 64 → Spells n (decimal n)
number n few = decimal_by_steps Spells one_digit more_digits n few

arrived : (t : Terminal) (r c : ℕ) → r < length t.rows → c < t.width
    → after_bytes (begun t false ((r + 1) ∷ []) (c + 1)) (72 ∷ []) ≡ standing_at t r c
arrived t r c below within =
    let row : r + 1 - 1 ≡ r = omega arith in
    let column : c + 1 - 1 ≡ c = omega arith in
    rw (
      le-leb 1 (r + 1) (omega arith),
      le-leb (r + 1) (length t.rows) (omega (arith, below)),
      le-leb 1 (c + 1) (omega arith),
      le-leb (c + 1) t.width (omega (arith, within)),
    ) (rw (row, column) refl)

after_row : (t : Terminal) (r c : ℕ) → r < length t.rows → c < t.width → c < 65536
    → after_bytes (begun t false [] (r + 1)) (59 ∷ (decimal (c + 1) ++ 72 ∷ [])) ≡ standing_at t r c
after_row t r c below within narrow =
    rw (
      after_both (decimal (c + 1)) (72 ∷ []) (begun t false ((r + 1) ∷ []) 0),
      number (c + 1) (omega (arith, narrow)) t false ((r + 1) ∷ []),
    ) (arrived t r c below within)

pub moved : (t : Terminal) (r c : ℕ) → r < 65536 → c < 65536 → r < length t.rows → c < t.width
    → after_bytes (quiet t) (move_bytes r c) ≡ standing_at t r c
moved t r c few narrow below within =
    rw (
      after_both (decimal (r + 1)) (59 ∷ (decimal (c + 1) ++ 72 ∷ [])) (begun t false [] 0),
      number (r + 1) (omega (arith, few)) t false [],
    ) (after_row t r c below within narrow)

place_digits : (n : ℕ) → n < 65536 → length (decimal (n + 1)) ≤ 5
place_digits n few = length-decimal-le 5 (n + 1) (omega arith) (omega (arith, few)) (omega (arith, few))

pub move_length : (r c : ℕ) → r < 65536 → c < 65536
    → length (move_bytes r c) ≤ 9 + length (decimal (c + 1))
move_length r c few narrow =
    let row = place_digits r few in
    let whole = length-append (decimal (r + 1)) (59 ∷ (decimal (c + 1) ++ 72 ∷ [])) in
    let last = length-append (decimal (c + 1)) (72 ∷ []) in
    omega (arith, row, whole, last)

pub moves : (r c : ℕ) → r < 65536 → c < 65536 → Moves (move_bytes r c) r c
moves r c few narrow = record {
  few = let all = move_length r c few narrow in let column = place_digits c narrow in omega (arith, all, column);
  moved = λ t. moved t r c few narrow;
}
