-- The table of bytes agrees with the code's arrays. This is shown by computing each of the 256 values.
use Rattle.std.proofs.Common.{◌≡◌, ℕ, zero, suc, ◌+◌, ◌-◌, ◌<◌, ◌≤◌, Bool, true, not, ◌&&◌, ◌||◌, ◌==◌, get_or, refl}
use Rattle.std.proofs.Common.{sym, ap, ◌∙◌, inl, inr, arith}
use Rattle.std.specs.Int.{is_in_range}
use Rattle.std.proofs.lemmas.Bool.{and_parts, cases_order}
use Rattle.std.proofs.lemmas.Bool.Decides.{nat_tests}
use Rattle.tx_text.specs.Tables.{byte_code}
use Rattle.tx_text.specs.declared.tables.TheConstants.{FIRST, MIDDLE}

unfoldable pub all_below : (ℕ → Bool) → ℕ → Bool
all_below p zero = true
all_below p (suc n) = p n && all_below p n

pub all_below-at : (p : ℕ → Bool) (n : ℕ) → all_below p n ≡ true → (b : ℕ) → b < n → p b ≡ true
unfolding all_below
all_below-at p zero h b lt = absurd (omega arith)
all_below-at p (suc n) h b lt =
    let parts = and_parts (p n) (all_below p n) h in
    elim (cases_order b n) [
      | inl e ↦ ap p e ∙ parts.0
      | inr (inl low) ↦ all_below-at p n parts.1 b low
      | inr (inr high) ↦ absurd (omega arith)
    ]

pub eq_from_test : (a b : ℕ) → (a == b) ≡ true → a ≡ b
eq_from_test a b h = grind (arith, nat_tests)

-- the arms of the code
pub first_code : (b i : ℕ) → i ≡ b → b ≤ 31 → get_or FIRST i 0 ≡ byte_code b
unfolding byte_code all_below
first_code b i e le =
    ap (λ x. get_or FIRST x 0) e
    ∙ eq_from_test (get_or FIRST b 0) (byte_code b)
    (all_below-at (λ x. get_or FIRST x 0 == byte_code x) 32 refl b (omega arith))

pub middle_code : (b i : ℕ) → i ≡ b → 127 ≤ b → b ≤ 191 → get_or MIDDLE (i - 127) 0 ≡ byte_code b
unfolding byte_code all_below
middle_code b i e low high =
    let back : 127 + (b - 127) ≡ b = omega arith in
    ap (λ x. get_or MIDDLE (x - 127) 0) e
    ∙ eq_from_test (get_or MIDDLE (b - 127) 0) (byte_code (127 + (b - 127)))
    (all_below-at (λ x. get_or MIDDLE x 0 == byte_code (127 + x)) 65 refl (b - 127) (omega arith))
    ∙ ap byte_code back

pub byte_code-215 : 338 ≡ byte_code 215
unfolding byte_code
byte_code-215 = refl

pub byte_code-223 : 7838 ≡ byte_code 223
unfolding byte_code
byte_code-223 = refl

pub byte_code-247 : 339 ≡ byte_code 247
unfolding byte_code
byte_code-247 = refl

pub byte_code-255 : 223 ≡ byte_code 255
unfolding byte_code
byte_code-255 = refl

-- a byte that shows as itself
shows_itself : ℕ → Bool
shows_itself b = is_in_range 32 126 b || (is_in_range 192 255 b && not (b == 215 || b == 223 || b == 247 || b == 255))

itself : (b : ℕ) → b < 256 → shows_itself b ≡ true → byte_code b ≡ b
unfolding byte_code all_below shows_itself
itself b lt own =
    let all = all_below-at (λ x. not (shows_itself x) || (byte_code x == x)) 256 refl b lt in
    eq_from_test (byte_code b) b (ap (λ r. not r || (byte_code b == b)) (sym own) ∙ all)

pub ascii_code : (b i : ℕ) → i ≡ b → 32 ≤ b → b ≤ 126 → i ≡ byte_code b
unfolding shows_itself
ascii_code b i e low high = e ∙ sym (itself b (omega arith) (grind (arith, nat_tests)))

pub late_code : (b i : ℕ) → i ≡ b → b < 256 → (b < 192 → ⊥) → (b ≡ 215 → ⊥) → (b ≡ 223 → ⊥) → (b ≡ 247 → ⊥)
    → (b ≡ 255 → ⊥) → i ≡ byte_code b
unfolding shows_itself
late_code b i e lt low n1 n2 n3 n4 = e ∙ sym (itself b lt (grind (arith, nat_tests)))

-- visible ASCII and the space show as themselves
pub byte_code-ascii : (b : ℕ) → b < 127 → is_in_range 32 126 b ≡ true → byte_code b ≡ b
unfolding byte_code all_below
byte_code-ascii b lt inside =
    let all = all_below-at (λ x. not (is_in_range 32 126 x) || (byte_code x == x)) 127 refl b lt in
    eq_from_test (byte_code b) b (ap (λ r. not r || (byte_code b == b)) (sym inside) ∙ all)
