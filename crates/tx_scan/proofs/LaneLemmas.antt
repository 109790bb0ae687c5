-- From the lanes of a comparison to the bytes under them.
use Rattle.std.proofs.Common.{◌≡◌, ℕ, ◌%◌, ◌^◌, ◌<◌, ◌≤◌, eqb, Bool, true, false, cond, ◌||◌, List, [], ◌∷◌, map}
use Rattle.std.proofs.Common.{length, refl, sym, ap, ap₂, ◌∙◌, arith, bit_or, inl, inr}
use Rattle.std.specs.List.{position_or_len}
use Rattle.std.proofs.lemmas.Bool.{cases_eq, eq-eqb, ne_eqb}
use Rattle.std.proofs.lemmas.List.{length-map}
use Rattle.std.proofs.lemmas.Simd.{mask_l-mod, leading_from_mask_l, trailing_mask_l}
use lib.Count.{count_trailing_zeros}
use lib.Lanes.{zip2, mask_l, top}

-- the lanes of a comparison: all ones where the byte passes p
abbrev pub lanes_passing : (ℕ → Bool) → List ℕ → List ℕ
lanes_passing p block = map (λ x. cond (p x) 255 0) block

pub lanes_passing-same : (p q : ℕ → Bool) → ((x : ℕ) → p x ≡ q x) → (block : List ℕ)
    → lanes_passing p block ≡ lanes_passing q block
lanes_passing-same p q same [] = refl
lanes_passing-same p q same (x ∷ xs) = ap₂ ◌∷◌ (ap (λ b. cond b 255 0) (same x)) (lanes_passing-same p q same xs)

either_lane : (a b : Bool) → bit_or (cond a 255 0) (cond b 255 0) ≡ cond (a || b) 255 0
either_lane true true = refl
either_lane true false = refl
either_lane false true = refl
either_lane false false = refl

-- `|` of two comparisons
pub lanes_passing-or : (p q : ℕ → Bool) (block : List ℕ)
    → zip2 bit_or (lanes_passing p block) (lanes_passing q block) ≡ lanes_passing (λ x. p x || q x) block
lanes_passing-or p q [] = refl
lanes_passing-or p q (x ∷ xs) = ap₂ ◌∷◌ (either_lane (p x) (q x)) (lanes_passing-or p q xs)

pub eqb_comm : (a b : ℕ) → eqb a b ≡ eqb b a
eqb_comm a b =
    elim (cases_eq a b) [
      | inl same ↦ eq-eqb a b same ∙ sym (eq-eqb b a (sym same))
      | inr differ ↦ ne_eqb a b differ ∙ sym (ne_eqb b a (λ e. differ (sym e)))
    ]

top_lane : (b : Bool) → top 7 (cond b 255 0) ≡ b
top_lane true = refl
top_lane false = refl

tops : (p : ℕ → Bool) (block : List ℕ) → map (top 7) (lanes_passing p block) ≡ map p block
tops p [] = refl
tops p (x ∷ xs) = ap₂ ◌∷◌ (top_lane (p x)) (tops p xs)

-- `to_bitmask` of a comparison
pub bitmask_passing : (p : ℕ → Bool) (block : List ℕ) → length block ≤ 64
    → mask_l (map (top 7) (lanes_passing p block)) % 2 ^ 64 ≡ mask_l (map p block)
bitmask_passing p block few =
    ap (λ l. mask_l l % 2 ^ 64) (tops p block) ∙ mask_l-mod (map p block) 64 (omega (arith, length-map block p))

-- no lane is set: no byte of the block passes
pub none_in_block : (p : ℕ → Bool) (block : List ℕ) → length block ≡ 32
    → mask_l (map (top 7) (lanes_passing p block)) % 2 ^ 64 ≡ 0 → 32 ≡ position_or_len p block
none_in_block p block long none =
    sym (leading_from_mask_l p block (sym (bitmask_passing p block (omega arith)) ∙ none) ∙ long)

-- the lowest lane that is set is the first byte that passes
pub first_in_block : (p : ℕ → Bool) (block : List ℕ) → length block ≡ 32
    → 0 < mask_l (map (top 7) (lanes_passing p block)) % 2 ^ 64
    → count_trailing_zeros 64 (mask_l (map (top 7) (lanes_passing p block)) % 2 ^ 64) ≡ position_or_len p block
first_in_block p block long some =
    let mask = bitmask_passing p block (omega arith) in
    ap (count_trailing_zeros 64) mask ∙ trailing_mask_l p 64 block (omega arith) (omega arith)
