-- The last byte of a kind, found from the end.
use Rattle.std.proofs.Common.{◌≡◌, ℕ, ◌-◌, ◌<◌, ◌≤◌, true, not, eqb, List, length, get_or, arith, ap}
use Rattle.std.specs.List.{suffix_len}
use Rattle.std.proofs.lemmas.List.Sums.{suffix_len_is}

pub last_is : (bytes : List ℕ) (b end : ℕ) → end ≤ length bytes
    → ((k : ℕ) → end ≤ k → k < length bytes → not (eqb (get_or bytes k 0) b) ≡ true)
    → (0 < end → eqb (get_or bytes (end - 1) 0) b ≡ true)
    → end ≡ length bytes - suffix_len (λ x. not (eqb x b)) bytes
last_is bytes b end le above at =
    let len = suffix_len_is (λ x. not (eqb x b)) bytes end 0 le above (λ lt. ap not (at lt)) in
    omega (arith, len)
