-- Numbers that are equal or not, and the elements of a list from a number on.
use Rattle.std.proofs.Common.{◌≡◌, ℕ, zero, suc, ◌+◌, ◌<◌, true, false, List, [], ◌∷◌, ◌++◌, length, Some, refl, ap}
use Rattle.std.proofs.Common.{arith}
use Rattle.std.proofs.lemmas.Bool.{false_from_ne_true}
use Rattle.std.proofs.lemmas.Bool.Decides.{Decides-eqb}
use Rattle.std.specs.Prelude.{slice_get, is_some, ◌==◌}

pub not_equal : (k i : ℕ) → (k ≡ i → ⊥) → k == i ≡ false
not_equal k i h = false_from_ne_true (k == i) (λ e. absurd (h ((Decides-eqb k i).0 e)))

pub are_equal : (k i : ℕ) → k ≡ i → k == i ≡ true
are_equal k i e = (Decides-eqb k i).1 e

-- these are the elements from number k on
abbrev pub AreFrom : {A : Type 0} → List A → ℕ → List A → Type 0
AreFrom all k xs = (n m : ℕ) → m ≡ k + n → slice_get all m ≡ slice_get xs n

pub from_first : {A : Type 0} (all : List A) → AreFrom all 0 all
from_first all n m e = let same : m ≡ n = omega (arith, e) in ap (slice_get all) same

pub some_there : {A : Type 0} (xs : List A) (i : ℕ) → i < length xs → is_some (slice_get xs i) ≡ true
some_there [] i less = absurd (omega (arith, less))
some_there (x ∷ xs) zero less = refl
some_there (x ∷ xs) (suc i) less = some_there xs i (omega (arith, less))

-- the element that follows a list, and those of the list
pub at_seam : {A : Type 0} (xs : List A) (y : A) → slice_get (xs ++ y ∷ []) (length xs) ≡ Some y
at_seam [] y = refl
at_seam (x ∷ xs) y = at_seam xs y

pub at_front : {A : Type 0} (xs : List A) (y : A) (i : ℕ) → (i ≡ length xs → ⊥)
    → slice_get (xs ++ y ∷ []) i ≡ slice_get xs i
at_front [] y zero off = absurd (off refl)
at_front [] y (suc i) off = refl
at_front (x ∷ xs) y zero off = refl
at_front (x ∷ xs) y (suc i) off = at_front xs y i (λ e. off (ap suc e))
