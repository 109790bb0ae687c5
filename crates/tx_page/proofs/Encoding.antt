-- The bytes of a character that takes cells alone are one character of a row.
use Rattle.std.proofs.Common.{◌≡◌, ℕ, ◌+◌, ◌*◌, ◌/◌, ◌%◌, ◌<◌, ◌≤◌, Bool, true, false, [], ◌∷◌, ◌⊎◌}
use Rattle.std.proofs.Common.{Some, None, inl, inr, ⊎_elim, refl, arith, mod-lt}
use Rattle.std.specs.Prelude.{◌==◌, ◌||◌, nat_le, nat_lt, unwrap_or, if◌then◌else◌}
use Rattle.std.proofs.lemmas.Bool.{le-leb, lt-leb, lt-ltb, le-ltb, cases_lt, ltb-true, leb-true, eqb-true, cond_both}
use Rattle.std.proofs.lemmas.Bool.{or_cases}
use Rattle.std.proofs.Math.Nat.{div-add-mod}
use lib.Utf8.{scalar, scalar_cases, encode}
use Rattle.unicode_width.specs.Width.{char_width}
use Rattle.tx_terminal.specs.Characters.{character_length, is_second, is_later, is_character, least_second, most_second}
use Rattle.tx_page.specs.Clusters.{cells_alone}

-- a character that is no control
abbrev IsSeen : ℕ → Type 0
IsSeen c = ((32 ≤ c) × (c < 127)) ⊎ (160 ≤ c)

seen_by : (a b d : Bool) (n : ℕ)
    → 1 ≤ unwrap_or (if a then (if b then Some 1 else None) else if d then Some n else None) 0
    → ((a ≡ true) × (b ≡ true)) ⊎ (d ≡ true)
seen_by true true d n some = inl (refl, refl)
seen_by true false d n some = absurd (omega (arith, some))
seen_by false b true n some = inr refl
seen_by false b false n some = absurd (omega (arith, some))

seen : (c : ℕ) → 1 ≤ cells_alone c → IsSeen c
unfolding char_width
seen c some =
    elim (seen_by (nat_lt c 0x7F) (nat_le 0x20 c) (nat_le 0xA0 c) _ some) [
      | inl both ↦ inl (leb-true 32 c both.1, ltb-true c 127 both.0)
      | inr high ↦ inr (leb-true 160 c high)
    ]

one : (c : ℕ) → IsSeen c → c < 128 → is_character (c ∷ []) ≡ true
one c ok low =
    elim ok [
      | inl both ↦ rw (le-leb 32 c both.0, le-leb c 126 (omega (arith, both.1))) refl
      | inr high ↦ absurd (omega (arith, high, low))
    ]

above : (c : ℕ) → IsSeen c → 128 ≤ c → 160 ≤ c
above c ok high = elim ok [ inl both ↦ absurd (omega (arith, both.1, high)) | inr far ↦ far ]

later : (n : ℕ) → n < 64 → is_later (128 + n) ≡ true
later n small = rw (le-leb 128 (128 + n) (omega arith), le-leb (128 + n) 191 (omega (arith, small))) refl

lead_2 : (a : ℕ) → 2 ≤ a → a < 32 → character_length (192 + a) ≡ 2
lead_2 a low high =
    rw (
      lt-leb (192 + a) 126 (omega arith),
      le-leb 32 (192 + a) (omega arith),
      le-leb 194 (192 + a) (omega (arith, low)),
      le-leb (192 + a) 223 (omega (arith, high)),
    ) refl

lead_3 : (a : ℕ) → a < 16 → character_length (224 + a) ≡ 3
lead_3 a high =
    rw (
      le-leb 32 (224 + a) (omega arith),
      lt-leb (224 + a) 126 (omega arith),
      le-leb 194 (224 + a) (omega arith),
      lt-leb (224 + a) 223 (omega arith),
      le-leb 224 (224 + a) (omega arith),
      le-leb (224 + a) 239 (omega (arith, high)),
    ) refl

lead_4 : (a : ℕ) → a < 5 → character_length (240 + a) ≡ 4
lead_4 a high =
    rw (
      le-leb 32 (240 + a) (omega arith),
      lt-leb (240 + a) 126 (omega arith),
      le-leb 194 (240 + a) (omega arith),
      lt-leb (240 + a) 223 (omega arith),
      le-leb 224 (240 + a) (omega arith),
      lt-leb (240 + a) 239 (omega arith),
      le-leb 240 (240 + a) (omega arith),
      le-leb (240 + a) 244 (omega (arith, high)),
    ) refl

least : (a b : ℕ) → (a ≡ 194 → 160 ≤ b) → (a ≡ 224 → 160 ≤ b) → (a ≡ 240 → 144 ≤ b) → 128 ≤ b → least_second a ≤ b
least a b at_194 at_224 at_240 low =
    cond_both ((a == 194) || (a == 224)) 160 (if a == 240 then 144 else 128) (λ x. x ≤ b)
    (λ e. ⊎_elim (λ f. at_194 (eqb-true a 194 f)) (λ f. at_224 (eqb-true a 224 f)) (or_cases (a == 194) (a == 224) e))
    (λ _. cond_both (a == 240) 144 128 (λ x. x ≤ b) (λ e. at_240 (eqb-true a 240 e)) (λ _. low))

most : (a b : ℕ) → (a ≡ 237 → b ≤ 159) → (a ≡ 244 → b ≤ 143) → b ≤ 191 → b ≤ most_second a
most a b at_237 at_244 high =
    cond_both (a == 237) 159 (if a == 244 then 143 else 191) (λ x. b ≤ x) (λ e. at_237 (eqb-true a 237 e))
    (λ _. cond_both (a == 244) 143 191 (λ x. b ≤ x) (λ e. at_244 (eqb-true a 244 e)) (λ _. high))

second : (a b : ℕ) → least_second a ≤ b → b ≤ most_second a → is_second a b ≡ true
second a b low high = rw (le-leb (least_second a) b low, le-leb b (most_second a) high) refl

two : (c : ℕ) → 160 ≤ c → c < 2048 → is_character ((192 + c / 64) ∷ (128 + c % 64) ∷ []) ≡ true
two c low high =
    let whole : 64 * (c / 64) + c % 64 ≡ c = div-add-mod c 64 in
    let small : c % 64 < 64 = mod-lt c (omega arith) in
    let a : ℕ = c / 64 in
    let b : ℕ = c % 64 in
    let from : least_second (192 + a) ≤ 128 + b
    = least (192 + a) (128 + b) (λ e. omega (arith, e, whole, small, low)) (λ e. omega (arith, e, whole, high))
    (λ e. omega (arith, e, whole, high)) (omega arith) in
    let to : 128 + b ≤ most_second (192 + a)
    = most (192 + a) (128 + b) (λ e. omega (arith, e, whole, high)) (λ e. omega (arith, e, whole, high))
    (omega (arith, small)) in
    rw (
      lead_2 a (omega (arith, whole, small, low)) (omega (arith, whole, high)),
      second (192 + a) (128 + b) from to,
    ) refl

three : (c : ℕ) → scalar c ≡ true → 2048 ≤ c → c < 65536
    → is_character ((224 + c / 4096) ∷ (128 + c / 64 % 64) ∷ (128 + c % 64) ∷ []) ≡ true
three c ok low high =
    let whole : 64 * (c / 64) + c % 64 ≡ c = div-add-mod c 64 in
    let small : c % 64 < 64 = mod-lt c (omega arith) in
    let upper : 64 * (c / 64 / 64) + c / 64 % 64 ≡ c / 64 = div-add-mod (c / 64) 64 in
    let upper_small : c / 64 % 64 < 64 = mod-lt (c / 64) (omega arith) in
    let lead : c / 4096 ≡ c / 64 / 64 = omega arith in
    let a : ℕ = c / 64 / 64 in
    let b : ℕ = c / 64 % 64 in
    let from : least_second (224 + a) ≤ 128 + b
    = least (224 + a) (128 + b) (λ e. omega (arith, e)) (λ e. omega (arith, e, whole, small, upper, upper_small, low))
    (λ e. omega (arith, e, whole, upper, high)) (omega arith) in
    let to : 128 + b ≤ most_second (224 + a)
    = most (224 + a) (128 + b)
    (λ e. elim (scalar_cases c ok) [
      | inl below ↦ omega (arith, e, whole, small, upper, upper_small, below)
      | inr above ↦ omega (arith, e, whole, small, upper, upper_small, above.0)
    ])
    (λ e. omega (arith, e, whole, upper, high)) (omega (arith, upper_small)) in
    rw (
      lead,
      lead_3 a (omega (arith, whole, upper, high)),
      second (224 + a) (128 + b) from to,
      later (c % 64) small,
    ) refl

four : (c : ℕ) → scalar c ≡ true → 65536 ≤ c
    → is_character ((240 + c / 262144) ∷ (128 + c / 4096 % 64) ∷ (128 + c / 64 % 64) ∷ (128 + c % 64) ∷ []) ≡ true
four c ok low =
    let high : c < 1114112
    = elim (scalar_cases c ok) [ inl below ↦ absurd (omega (arith, below, low)) | inr h ↦ h.1 ] in
    let whole : 64 * (c / 64) + c % 64 ≡ c = div-add-mod c 64 in
    let small : c % 64 < 64 = mod-lt c (omega arith) in
    let upper : 64 * (c / 64 / 64) + c / 64 % 64 ≡ c / 64 = div-add-mod (c / 64) 64 in
    let upper_small : c / 64 % 64 < 64 = mod-lt (c / 64) (omega arith) in
    let third : c / 4096 ≡ c / 64 / 64 = omega arith in
    let top : 64 * (c / 64 / 64 / 64) + c / 64 / 64 % 64 ≡ c / 64 / 64 = div-add-mod (c / 64 / 64) 64 in
    let top_small : c / 64 / 64 % 64 < 64 = mod-lt (c / 64 / 64) (omega arith) in
    let lead : c / 262144 ≡ c / 64 / 64 / 64 = omega arith in
    let a : ℕ = c / 64 / 64 / 64 in
    let b : ℕ = c / 64 / 64 % 64 in
    let from : least_second (240 + a) ≤ 128 + b
    = least (240 + a) (128 + b) (λ e. omega (arith, e)) (λ e. omega (arith, e))
    (λ e. omega (arith, e, whole, small, upper, upper_small, top, top_small, low)) (omega arith) in
    let to : 128 + b ≤ most_second (240 + a)
    = most (240 + a) (128 + b) (λ e. omega (arith, e))
    (λ e. omega (arith, e, whole, small, upper, upper_small, top, top_small, high)) (omega (arith, top_small)) in
    rw (
      lead,
      third,
      lead_4 a (omega (arith, whole, upper, top, high)),
      second (240 + a) (128 + b) from to,
      later (c / 64 % 64) upper_small,
      later (c % 64) small,
    ) refl

pub encoded : (c : ℕ) → scalar c ≡ true → 1 ≤ cells_alone c → is_character (encode c) ≡ true
unfolding encode
encoded c ok some =
    let no_control : IsSeen c = seen c some in
    elim (cases_lt c 128) [
      | inl a ↦ rw (lt-ltb c 128 a) (one c no_control a)
      | inr b ↦ elim (cases_lt c 2048) [
        | inl a ↦ rw (le-ltb c 128 b, lt-ltb c 2048 a) (two c (above c no_control b) a)
        | inr d ↦ elim (cases_lt c 65536) [
          | inl a ↦ rw (le-ltb c 128 b, le-ltb c 2048 d, lt-ltb c 65536 a) (three c ok d a)
          | inr e ↦ rw (le-ltb c 128 b, le-ltb c 2048 d, le-ltb c 65536 e) (four c ok e)
        ]
      ]
    ]
