-- The test of a byte by the eight bytes of a set that was filled up with zeros.
use Rattle.std.proofs.Common.{◌≡◌, ℕ, ◌+◌, ◌<◌, ◌≤◌, eqb, ltb, zero, suc, Bool, true, false, ◌||◌, List, ◌++◌, length}
use Rattle.std.proofs.Common.{take, get_or, replicate, refl, sym, ap, ap₂, ◌∙◌, arith, inl, inr}
use Rattle.std.specs.List.{list_any}
use Rattle.std.proofs.lemmas.Bool.{cases_Bool, ltb-false, ne_eqb, or_left}
use Rattle.std.proofs.lemmas.List.Folds.{list_any-append, list_any_more}
use Rattle.std.proofs.Math.Bool.{or_assoc}
use Rattle.tx_scan.proofs.LaneLemmas.{eqb_comm}
use Rattle.tx_scan.specs.Stops.{is_stop}

no_zero : (k b : ℕ) → 32 ≤ b → list_any (λ s. eqb s b) (replicate k 0) ≡ false
no_zero zero b high = refl
no_zero (suc k) b high = ap₂ ◌||◌ (ne_eqb 0 b (λ e. omega arith)) (no_zero k b high)

pub or_false : (a : Bool) → (a || false) ≡ a
or_false true = refl
or_false false = refl

-- zeros are below 32, so they add no stop
pub is_stop-padded : (set : List ℕ) (k b : ℕ) → is_stop (set ++ replicate k 0) b ≡ is_stop set b
is_stop-padded set k b =
    let here : ℕ → Bool = λ s. eqb s b in
    elim (cases_Bool (ltb b 32)) [
      | inl low ↦ or_left _ (list_any here (set ++ replicate k 0)) low ∙ sym (or_left _ (list_any here set) low)
      | inr high ↦
          ap (λ r. ltb b 32 || r) (
          list_any-append here set (replicate k 0)
          ∙ ap (λ r. list_any here set || r) (no_zero k b (ltb-false b 32 high))
          ∙ or_false (list_any here set)
          )
    ]

-- one more byte of the set
pub is_stop_more : (set : List ℕ) (i b : ℕ) → i < length set
    → (is_stop (take i set) b || eqb b (get_or set i 0)) ≡ is_stop (take (i + 1) set) b
is_stop_more set i b lt =
    or_assoc (ltb b 32) (list_any (λ s. eqb s b) (take i set)) (eqb b (get_or set i 0))
    ∙ ap (λ r. ltb b 32 || r) (ap (λ r. list_any (λ s. eqb s b) (take i set) || r) (eqb_comm b (get_or set i 0))
    ∙ sym (list_any_more (λ s. eqb s b) set i 0 lt))

-- the eight bytes of a value test as its set does
pub is_stop-inside : (bytes set : List ℕ) (n k b : ℕ) → bytes ≡ take n bytes ++ replicate k 0 → take n bytes ≡ set
    → is_stop bytes b ≡ is_stop set b
is_stop-inside bytes set n k b padded view =
    ap (λ l. is_stop l b) padded ∙ is_stop-padded (take n bytes) k b ∙ ap (λ l. is_stop l b) view
