-- Where the longest front ends, of anything that bytes can spell.
use Rattle.std.proofs.Common.{◌≡◌, ℕ, zero, suc, ◌+◌, ◌<◌, ◌≤◌, List, [], ◌∷◌, ◌++◌, length, take, refl, sym, ap, subst}
use Rattle.std.proofs.Common.{◌∙◌, append_assoc, arith, ⊎_elim}
use Rattle.std.proofs.lemmas.List.{append-nil, take_all}
use Rattle.std.proofs.lemmas.Bool.{cases_lt}
use Rattle.tx_base.specs.Fronts.{IsFront, IsLongestFront}

-- the first bytes begin with fewer of them
pub take_less : (bytes : List ℕ) (i m : ℕ) → i ≤ m → (rest : List ℕ) × (take m bytes ≡ take i bytes ++ rest)
take_less bytes zero m h = (take m bytes, refl)
take_less bytes (suc i) zero h = absurd (omega arith)
take_less [] (suc i) (suc m) h = ([], refl)
take_less (b ∷ bytes) (suc i) (suc m) h = let t = take_less bytes i m (omega arith) in (t.0, ap (λ x. b ∷ x) t.1)

-- what is spelled is a front, all of it
pub whole_front : (P : List ℕ → Type 0) (bytes : List ℕ) → P bytes → IsFront P bytes (length bytes)
whole_front P bytes h = (
  omega arith,
  ([], subst P (sym (append-nil (take (length bytes) bytes) ∙ take_all (length bytes) bytes (omega arith))) h),
)

-- where the first bytes can be continued, but not with the next byte, they are the longest front
pub ends_before : (P : List ℕ → Type 0) (bytes : List ℕ) (i : ℕ) → i < length bytes
    → (more : List ℕ) × P (take i bytes ++ more) → ((more : List ℕ) → P (take (i + 1) bytes ++ more) → ⊥)
    → IsLongestFront P bytes i × (P bytes → ⊥)
ends_before P bytes i lt front stops = (
  record {
    front = (omega arith, front);
    longest = λ m f. ⊎_elim (λ (past : i < m). absurd (no_front m past f.1.0 f.1.1)) (λ (le : m ≤ i). le)
        (cases_lt i m);
  },
  λ h. let all = whole_front P bytes h in no_front (length bytes) lt all.1.0 all.1.1,
)
  where
    no_front : (m : ℕ) → i < m → (more : List ℕ) → P (take m bytes ++ more) → ⊥
    no_front m past more h =
        let t = take_less bytes (i + 1) m (omega arith) in
        stops (t.0 ++ more) (subst P (ap (λ x. x ++ more) t.1 ∙ append_assoc (take (i + 1) bytes) t.0 more) h)

-- where all bytes can be continued, but aren't whole themselves, all of them are the longest front
pub ends_behind : (P : List ℕ → Type 0) (bytes : List ℕ) → (more : List ℕ) × P (bytes ++ more) → (P bytes → ⊥)
    → IsLongestFront P bytes (length bytes) × (P bytes → ⊥)
ends_behind P bytes front none = (
  record {
    front = (
      omega arith,
      subst (λ x. (more : List ℕ) × P (x ++ more)) (sym (take_all (length bytes) bytes (omega arith)))
          front,
    );
    longest = λ m f. f.0;
  },
  none,
)

-- two longest fronts are one
pub one_front : (P : List ℕ → Type 0) (bytes : List ℕ) (n m : ℕ) → IsLongestFront P bytes n → IsLongestFront P bytes m
    → n ≡ m
one_front P bytes n m h k = let a : n ≤ m = k.longest n h.front in let b : m ≤ n = h.longest m k.front in omega arith
