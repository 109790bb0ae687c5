-- What holds of each element, one element after the other.
use Rattle.std.proofs.Common.{◌≡◌, ℕ, zero, suc, ◌+◌, ◌<◌, List, [], ◌∷◌, length, take, get_or, subst, arith}
use Rattle.std.specs.List.{AllByRecursion}

-- one element more
pub each_more : {X : Type 0} (P : X → Type 0) (xs : List X) (i : ℕ) (x : X) → i < length xs → x ≡ get_or xs i x
    → AllByRecursion P (take i xs) → P x
    → AllByRecursion P (take (i + 1) xs)
each_more P [] i x lt is h k = absurd (omega arith)
each_more P (y ∷ xs) zero x lt is h k = (subst P is k, tt)
each_more {X} P (y ∷ xs) (suc i) x lt is h k =
    let next : suc (i + 1) ≡ suc i + 1 = omega arith in
    subst (λ n. AllByRecursion P (take {A = X} n (y ∷ xs))) next
    (h.0, each_more {X = X} P xs i x (omega arith) is h.1 k)
