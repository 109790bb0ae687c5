-- The last item of a list.
use Rattle.std.proofs.Common.{◌≡◌, ℕ, zero, suc, ◌-◌, ◌+◌, List, [], ◌∷◌, ◌++◌, length, take, refl, ap, arith}
use Rattle.std.specs.Prelude.{slice_get, Some, None}
use Rattle.std.proofs.lemmas.Grind.{common_steps}

-- up to the item at the end, and that one
last_at : {X : Type 0} → (xs : List X) (n : ℕ) (x : X) → length xs ≡ n + 1 → slice_get xs n ≡ Some x
    → xs ≡ take n xs ++ x ∷ []
last_at [] n x l e = absurd cc
last_at (y ∷ []) zero x l e = cc
last_at (y ∷ []) (suc n) x l e = absurd cc
last_at (y ∷ z ∷ xs) zero x l e = absurd (omega arith)
last_at {X} (y ∷ z ∷ xs) (suc n) x l e = let rest : z ∷ xs ≡ take n (z ∷ xs) ++ x ∷ [] =
    last_at {X = X} (z ∷ xs) n x (omega arith) e in ap (λ r. y ∷ r) rest

some_at : {X : Type 0} → (xs : List X) (n : ℕ) → length xs ≡ n + 1 → slice_get xs n ≡ None → xs ≡ []
some_at [] n l e = refl
some_at (y ∷ []) zero l e = absurd cc
some_at (y ∷ []) (suc n) l e = absurd (omega arith)
some_at (y ∷ z ∷ xs) zero l e = absurd cc
some_at {X} (y ∷ z ∷ xs) (suc n) l e = let none : z ∷ xs ≡ [] = some_at {X = X} (z ∷ xs) n (omega arith) e in absurd cc

-- a list with a last item is the others and that one
pub with_last : {X : Type 0} → (xs : List X) (x : X) → slice_get xs (length xs - 1) ≡ Some x
    → xs ≡ take (length xs - 1) xs ++ x ∷ []
with_last [] x e = absurd cc
with_last (y ∷ xs) x e = last_at (y ∷ xs) (length (y ∷ xs) - 1) x (omega arith) e

-- a list without one is empty
pub without_last : {X : Type 0} → (xs : List X) → slice_get xs (length xs - 1) ≡ None → xs ≡ []
without_last [] e = refl
without_last (y ∷ xs) e = some_at (y ∷ xs) (length (y ∷ xs) - 1) (omega arith) e

pub ruleset end_rules = (with_last, without_last, common_steps)
