-- What digits write.
use Rattle.std.proofs.Common.{◌≡◌, ℕ, zero, suc, ◌+◌, ◌-◌, ◌*◌, ◌/◌, ◌^◌, ◌<◌, ◌≤◌, Bool, true, false, List, [], ◌∷◌}
use Rattle.std.proofs.Common.{◌++◌, length, take, drop, get_or, Some, None, refl, sym, ap, subst, ◌∙◌, codes, arith}
use Rattle.std.proofs.Common.{cond}
use Rattle.std.specs.List.{list_all, prefix_len}
use Rattle.std.proofs.lemmas.Bool.{and_from, le-ltb}
use Rattle.std.proofs.lemmas.List.{at_drop_more, at_drop_all}
use Rattle.tx_tree.specs.PathSpelling.{is_digit, number_after}
use Rattle.tx_tree.proofs.PathReading.{number_grows, number_after-append}
use Rattle.tx_prim.specs.Numbers.{if_fits, signed}
use Rattle.std.specs.Prelude.{option_and_then}
use Rattle.std.proofs.Math.Nat.{mul-le-mul_left}
use Rattle.tx_prim.specs.Lengths.{thousandths, unit_of, measured_length}

-- three digits after the point
pub three : (v : ℕ) (decimals : List ℕ) → number_after v (take 3 (decimals ++ codes "000")) ≡ v * 1000 + number_after 0
    (take 3 (decimals ++ codes "000"))
three v [] = omega arith
three v (a ∷ []) = omega arith
three v (a ∷ b ∷ []) = omega arith
three v (a ∷ b ∷ c ∷ decimals) = omega arith

-- so many thousandths of a unit are the whole units and the rest, cut
pub size_is : (whole decimals : List ℕ) (u : ℕ) → thousandths whole decimals * u / 1000 ≡ number_after 0 whole * u
    + number_after 0 (take 3 (decimals ++ codes "000")) * u / 1000
size_is whole decimals u =
    let w = number_after 0 whole in
    let f = number_after 0 (take 3 (decimals ++ codes "000")) in
    let e : thousandths whole decimals ≡ w * 1000 + f = number_after-append 0 whole (take 3 (decimals ++ codes "000"))
    ∙ three w decimals in
    ap (λ n. n * u / 1000) e ∙ cut w f u
  where
    cut : (w f u : ℕ) → (w * 1000 + f) * u / 1000 ≡ w * u + f * u / 1000
    cut w f u = omega arith

-- no 64 bits hold such a number
pub none_fits : (minus : Bool) (n : ℕ) → 2 ^ 64 ≤ n → None ≡ if_fits (signed minus n)
none_fits false n h = rw (le-ltb n (2 ^ 63) (omega arith)) refl
none_fits true zero h = absurd (omega arith)
none_fits true (suc n) h = rw (le-ltb n (2 ^ 63) (omega arith)) refl

pub too_many : (digits : List ℕ) (i v : ℕ) → i < length digits → number_after 0 digits ≡ number_after v (drop i digits)
    → (v * 10 + (get_or digits i 0 - 48) < 2 ^ 64 → ⊥)
    → number_after 0 digits < 2 ^ 64 → ⊥
too_many digits i v lt e over h =
    let next = v * 10 + (get_or digits i 0 - 48) in
    let step : number_after v (drop i digits) ≡ number_after next (drop (i + 1) digits) =
    at_drop_more (number_after v) digits i 0 lt in
    over (omega (arith, e, step, number_grows next (drop (i + 1) digits), h))

pub at_end : (digits : List ℕ) (i v : ℕ) → length digits ≤ i → v < 2 ^ 64
    → number_after 0 digits ≡ number_after v (drop i digits) → (number_after 0 digits < 2 ^ 64)
    × (v ≡ number_after 0 digits)
at_end digits i v le small e =
    let is : number_after 0 digits ≡ v = e ∙ at_drop_all (number_after v) digits i le in
    (omega (arith, is), sym is)

-- ---- lengths

pub measured_is : (minus : Bool) (whole decimals unit : List ℕ) (u n : ℕ) → Some u ≡ unit_of unit
    → n ≡ number_after 0 whole * u + number_after 0 (take 3 (decimals ++ codes "000")) * u / 1000
    → if_fits (signed minus n) ≡ measured_length minus whole decimals unit
measured_is minus whole decimals unit u n is e =
    ap (λ m. if_fits (signed minus m)) (e ∙ sym (size_is whole decimals u))
    ∙ ap (option_and_then (λ v. if_fits (signed minus (thousandths whole decimals * v / 1000)))) is

over : (minus : Bool) (whole decimals unit : List ℕ) (u n : ℕ) → Some u ≡ unit_of unit
    → n ≡ number_after 0 whole * u + number_after 0 (take 3 (decimals ++ codes "000")) * u / 1000
    → 2 ^ 64 ≤ n → None ≡ measured_length minus whole decimals unit
over minus whole decimals unit u n is e le = none_fits minus n le ∙ measured_is minus whole decimals unit u n is e

pub whole_over : (minus : Bool) (whole decimals unit : List ℕ) (u : ℕ) → Some u ≡ unit_of unit → 1 ≤ u
    → (number_after 0 whole < 2 ^ 64 → ⊥) → None ≡ measured_length minus whole decimals unit
whole_over minus whole decimals unit u is some many =
    over minus whole decimals unit u
    (number_after 0 whole * u + number_after 0 (take 3 (decimals ++ codes "000")) * u / 1000) is refl
    (omega (arith, many, mul-le-mul_left (number_after 0 whole) some))

pub product_over : (minus : Bool) (whole decimals unit : List ℕ) (u w : ℕ) → Some u ≡ unit_of unit
    → w ≡ number_after 0 whole → (w * u < 2 ^ 64 → ⊥) → None ≡ measured_length minus whole decimals unit
product_over minus whole decimals unit u w is e many =
    over minus whole decimals unit u (w * u + number_after 0 (take 3 (decimals ++ codes "000")) * u / 1000) is
    (ap (λ n. n * u + number_after 0 (take 3 (decimals ++ codes "000")) * u / 1000) e)
    (omega (arith, many))

pub sum_is : (whole decimals : List ℕ) (u w p f : ℕ) → w ≡ number_after 0 whole → p ≡ w * u
    → f ≡ number_after 0 (take 3 (decimals ++ codes "000"))
    → p + f * u / 1000 ≡ number_after 0 whole * u + number_after 0 (take 3 (decimals ++ codes "000")) * u / 1000
sum_is whole decimals u w p f e g h =
    ap (λ n. n + f * u / 1000) (g ∙ ap (λ n. n * u) e) ∙ ap (λ n. number_after 0 whole * u + n * u / 1000) h

pub sum_over : (minus : Bool) (whole decimals unit : List ℕ) (u w p f : ℕ) → Some u ≡ unit_of unit
    → w ≡ number_after 0 whole → p ≡ w * u → f ≡ number_after 0 (take 3 (decimals ++ codes "000"))
    → (p + f * u / 1000 < 2 ^ 64 → ⊥) → None ≡ measured_length minus whole decimals unit
sum_over minus whole decimals unit u w p f is e g h many =
    over minus whole decimals unit u (p + f * u / 1000) is (sum_is whole decimals u w p f e g h) (omega (arith, many))

-- ---- digits in front

front_case : (d : Bool) (b n : ℕ) (bytes : List ℕ) → is_digit b ≡ d → list_all is_digit (take n bytes) ≡ true
    → list_all is_digit (take (cond d (1 + n) 0) (b ∷ bytes)) ≡ true
front_case true b n bytes e h =
    let more : suc n ≡ 1 + n = omega arith in
    subst (λ k. list_all is_digit (take k (b ∷ bytes)) ≡ true) more
    (and_from (is_digit b) (list_all is_digit (take n bytes)) e h)
front_case false b n bytes e h = refl

pub front_digits : (bytes : List ℕ) → list_all is_digit (take (prefix_len is_digit bytes) bytes) ≡ true
front_digits [] = refl
front_digits (b ∷ bytes) = front_case (is_digit b) b (prefix_len is_digit bytes) bytes refl (front_digits bytes)

pub front_within : (bytes : List ℕ) → prefix_len is_digit bytes ≤ length bytes
front_within [] = omega arith
front_within (b ∷ bytes) = by_digit (is_digit b) (prefix_len is_digit bytes) (length bytes) (front_within bytes)
  where
    by_digit : (d : Bool) (n m : ℕ) → n ≤ m → cond d (1 + n) 0 ≤ suc m
    by_digit true n m h = omega arith
    by_digit false n m h = omega arith

pub ruleset digits_seen = (front_digits, front_within)
