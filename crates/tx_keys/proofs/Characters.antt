-- The keys of a text in UTF-8 are its characters.
use Rattle.std.proofs.Common.{◌≡◌, ◌≢◌, ℕ, ◌+◌, ◌-◌, ◌*◌, ◌/◌, ◌%◌, ◌<◌, ◌≤◌, Bool, true, false, List, [], ◌∷◌, ◌++◌}
use Rattle.std.proofs.Common.{Option, Some, None, append_assoc, map, inl, inr, refl, sym, ap, ◌∙◌, arith, mod-lt}
use Rattle.std.specs.Prelude.{encode_utf8_all, nat_le, ◌&&◌, if◌then◌else◌}
use Rattle.std.specs.List.{AllByRecursion}
use Rattle.std.proofs.lemmas.Bool.{le-leb, lt-leb, lt-ltb, le-ltb, ne_eqb, cases_lt}
use Rattle.std.proofs.Math.Nat.{div-add-mod}
use lib.Utf8.{scalar, scalar_cases, encode}
use Rattle.tx_keys.specs.declared.sequences.Key.{Key}
use Rattle.tx_keys.specs.declared.sequences.Key.TheVariants.{Char}
use Rattle.tx_keys.specs.declared.sequences.Begun.{Begun}
use Rattle.tx_keys.specs.declared.sequences.Begun.TheVariants.{Nothing, Character}
use Rattle.tx_keys.specs.Keys.{char_byte, char_key, first_byte, bytes_keys, read_keys}
use Rattle.tx_keys.specs.Encodings.{IsTypable}
use Rattle.tx_keys.proofs.Parts.{bytes_both}

ascii_first : (c : ℕ) → 32 ≤ c → c < 127 → first_byte c ≡ (Nothing, Some (Char c))
ascii_first c low high =
    rw (
      ne_eqb c 13 (λ e. omega (arith, e, low)),
      ne_eqb c 8 (λ e. omega (arith, e, low)),
      ne_eqb c 127 (λ e. omega (arith, e, high)),
      ne_eqb c 27 (λ e. omega (arith, e, low)),
      le-ltb c 32 low,
      lt-ltb c 127 high,
    ) refl

-- the first byte of a longer character
lead_first : (x : ℕ) → 194 ≤ x → first_byte x
    ≡ (if nat_le x 223 then (Character 1 (x - 192) 0x80, None)
    else if nat_le 224 x && nat_le x 239 then (Character 2 (x - 224) 0x800, None)
    else if nat_le 240 x && nat_le x 244 then (Character 3 (x - 240) 0x10000, None)
    else (Nothing, None))
lead_first x low =
    rw (
      ne_eqb x 13 (λ e. omega (arith, e, low)),
      ne_eqb x 8 (λ e. omega (arith, e, low)),
      ne_eqb x 127 (λ e. omega (arith, e, low)),
      ne_eqb x 27 (λ e. omega (arith, e, low)),
      le-ltb x 32 (omega (arith, low)),
      le-ltb x 127 (omega (arith, low)),
      le-leb 194 x low,
    ) refl

lead_2 : (a : ℕ) → 2 ≤ a → a < 32 → first_byte (192 + a) ≡ (Character 1 a 0x80, None)
lead_2 a low high =
    let bits : 192 + a - 192 ≡ a = omega arith in
    rw (lead_first (192 + a) (omega (arith, low)), le-leb (192 + a) 223 (omega (arith, high)), bits) refl

lead_3 : (a : ℕ) → a < 16 → first_byte (224 + a) ≡ (Character 2 a 0x800, None)
lead_3 a high =
    let bits : 224 + a - 224 ≡ a = omega arith in
    rw (
      lead_first (224 + a) (omega arith),
      lt-leb (224 + a) 223 (omega arith),
      le-leb 224 (224 + a) (omega arith),
      le-leb (224 + a) 239 (omega (arith, high)),
      bits,
    ) refl

lead_4 : (a : ℕ) → a < 5 → first_byte (240 + a) ≡ (Character 3 a 0x10000, None)
lead_4 a high =
    let bits : 240 + a - 240 ≡ a = omega arith in
    rw (
      lead_first (240 + a) (omega arith),
      lt-leb (240 + a) 223 (omega arith),
      lt-leb (240 + a) 239 (omega arith),
      le-leb 240 (240 + a) (omega arith),
      le-leb (240 + a) 244 (omega (arith, high)),
      bits,
    ) (rw (le-leb 224 (240 + a) (omega arith)) refl)

-- a later byte
inner : (left bits least y : ℕ) → bits < 65536 → y < 64 → char_byte left bits least (128 + y)
    ≡ (if nat_le left 1 then Some (Nothing, char_key (bits * 64 + y) least)
    else Some (Character (left - 1) (bits * 64 + y) least, None))
inner left bits least y few small =
    let low : 128 + y - 128 ≡ y = omega arith in
    rw (
      le-ltb (128 + y) 128 (omega arith),
      le-ltb 191 (128 + y) (omega (arith, small)),
      lt-leb 65536 bits few,
      low,
    ) refl

is_char : (c least : ℕ) → scalar c ≡ true → least ≤ c → char_key c least ≡ Some (Char c)
is_char c least ok long =
    elim (scalar_cases c ok) [
      | inl low ↦ rw (le-ltb c least long, le-ltb 0x10FFFF c (omega (arith, low)), lt-leb 0xD800 c low) refl
      | inr high ↦ rw (
        le-ltb c least long,
        le-ltb 0x10FFFF c (omega (arith, high.1)),
        le-leb 0xD800 c (omega (arith, high.0)),
        lt-leb c 0xDFFF (omega (arith, high.0)),
      ) refl
    ]

-- the bytes of a character, and nothing else
abbrev IsCharOf : List ℕ → ℕ → Type 0
IsCharOf bytes c = bytes_keys Nothing bytes ≡ (Nothing, Char c ∷ [])

two : (c : ℕ) → scalar c ≡ true → 128 ≤ c → c < 2048 → IsCharOf ((192 + c / 64) ∷ (128 + c % 64) ∷ []) c
two c ok low high =
    let whole : 64 * (c / 64) + c % 64 ≡ c = div-add-mod c 64 in
    let small : c % 64 < 64 = mod-lt c (omega arith) in
    let value : c / 64 * 64 + c % 64 ≡ c = omega (arith, whole) in
    rw (
      lead_2 (c / 64) (omega (arith, whole, small)) (omega (arith, whole, small)),
      inner 1 (c / 64) 0x80 (c % 64) (omega (arith, whole, small)) small,
      value,
      is_char c 0x80 ok low,
    ) refl

three : (c : ℕ) → scalar c ≡ true → 2048 ≤ c → c < 65536
    → IsCharOf ((224 + c / 4096) ∷ (128 + c / 64 % 64) ∷ (128 + c % 64) ∷ []) c
three c ok low high =
    let whole : 64 * (c / 64) + c % 64 ≡ c = div-add-mod c 64 in
    let small : c % 64 < 64 = mod-lt c (omega arith) in
    let upper : 64 * (c / 64 / 64) + c / 64 % 64 ≡ c / 64 = div-add-mod (c / 64) 64 in
    let upper_small : c / 64 % 64 < 64 = mod-lt (c / 64) (omega arith) in
    let lead : c / 4096 ≡ c / 64 / 64 = omega arith in
    let middle : c / 64 / 64 * 64 + c / 64 % 64 ≡ c / 64 = omega (arith, upper) in
    let value : c / 64 * 64 + c % 64 ≡ c = omega (arith, whole) in
    rw (
      lead,
      lead_3 (c / 64 / 64) (omega (arith, whole, small, upper, upper_small, high)),
      inner 2 (c / 64 / 64) 0x800 (c / 64 % 64) (omega (arith, whole, small, upper, upper_small, high)) upper_small,
      middle,
      inner 1 (c / 64) 0x800 (c % 64) (omega (arith, whole, high)) small,
      value,
      is_char c 0x800 ok low,
    ) refl

four : (c : ℕ) → scalar c ≡ true → 65536 ≤ c
    → IsCharOf ((240 + c / 262144) ∷ (128 + c / 4096 % 64) ∷ (128 + c / 64 % 64) ∷ (128 + c % 64) ∷ []) c
four c ok low =
    let high : c < 1114112
    = elim (scalar_cases c ok) [ inl below ↦ absurd (omega (arith, below, low)) | inr h ↦ h.1 ] in
    let whole : 64 * (c / 64) + c % 64 ≡ c = div-add-mod c 64 in
    let small : c % 64 < 64 = mod-lt c (omega arith) in
    let upper : 64 * (c / 64 / 64) + c / 64 % 64 ≡ c / 64 = div-add-mod (c / 64) 64 in
    let upper_small : c / 64 % 64 < 64 = mod-lt (c / 64) (omega arith) in
    let third : c / 4096 ≡ c / 64 / 64 = omega arith in
    let top : 64 * (c / 64 / 64 / 64) + c / 64 / 64 % 64 ≡ c / 64 / 64 = div-add-mod (c / 64 / 64) 64 in
    let top_small : c / 64 / 64 % 64 < 64 = mod-lt (c / 64 / 64) (omega arith) in
    let lead : c / 262144 ≡ c / 64 / 64 / 64 = omega arith in
    let first : c / 64 / 64 / 64 * 64 + c / 64 / 64 % 64 ≡ c / 64 / 64 = omega (arith, top) in
    let middle : c / 64 / 64 * 64 + c / 64 % 64 ≡ c / 64 = omega (arith, upper) in
    let value : c / 64 * 64 + c % 64 ≡ c = omega (arith, whole) in
    rw (
      lead,
      third,
      lead_4 (c / 64 / 64 / 64) (omega (arith, whole, upper, top, high)),
      inner 3 (c / 64 / 64 / 64) 0x10000 (c / 64 / 64 % 64) (omega (arith, whole, upper, top, high)) top_small,
      first,
      inner 2 (c / 64 / 64) 0x10000 (c / 64 % 64) (omega (arith, whole, upper, high)) upper_small,
      middle,
      inner 1 (c / 64) 0x10000 (c % 64) (omega (arith, whole, high)) small,
      value,
      is_char c 0x10000 ok low,
    ) refl

one : (c : ℕ) → IsTypable c → c < 128 → IsCharOf (c ∷ []) c
one c ok low = rw (ascii_first c ok.1 (omega (arith, ok.2, low))) refl

char_keys : (c : ℕ) → IsTypable c → IsCharOf (encode c) c
unfolding encode
char_keys c ok =
    elim (cases_lt c 128) [
      | inl a ↦ rw (lt-ltb c 128 a) (one c ok a)
      | inr b ↦ elim (cases_lt c 2048) [
        | inl a ↦ rw (le-ltb c 128 b, lt-ltb c 2048 a) (two c ok.0 b a)
        | inr d ↦ elim (cases_lt c 65536) [
          | inl a ↦ rw (le-ltb c 128 b, le-ltb c 2048 d, lt-ltb c 65536 a) (three c ok.0 d a)
          | inr e ↦ rw (le-ltb c 128 b, le-ltb c 2048 d, le-ltb c 65536 e) (four c ok.0 e)
        ]
      ]
    ]

texts : (cs : List ℕ) → AllByRecursion IsTypable cs → bytes_keys Nothing (encode_utf8_all cs) ≡ (Nothing, map Char cs)
texts [] all = refl
texts (c ∷ cs) all =
    rw (bytes_both (encode c) (encode_utf8_all cs) Nothing) (rw (char_keys c all.0) (rw (texts cs all.1) refl))

pub text_keys : (cs : List ℕ) → AllByRecursion IsTypable cs
    → read_keys Nothing (encode_utf8_all cs) ≡ (Nothing, map Char cs)
text_keys cs all = rw (texts cs all) refl
