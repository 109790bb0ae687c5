-- What is spent rises as the steps do.
use Rattle.std.proofs.Common.{◌≡◌, ℕ, ◌+◌, ◌≤◌, arith}
use Rattle.std.specs.Prelude.{Result, Ok, Err, OnOk}
use Rattle.tx_walk.specs.Spending.{capped, IsSpentSince, RisesAlike}

pub stays : (n s : ℕ) → RisesAlike n s n s
stays n s = record { since = λ start h. h }

pub rise_both : (n s n1 s1 n2 s2 : ℕ) → RisesAlike n s n1 s1 → RisesAlike n1 s1 n2 s2 → RisesAlike n s n2 s2
rise_both n s n1 s1 n2 s2 f g = record { since = λ start h. g.since start (f.since start h) }

pub pays : (n s n1 s1 cost : ℕ) → n1 ≡ n + cost → s1 ≡ capped (s + cost) → RisesAlike n s n1 s1
pays n s n1 s1 cost e f = record { since = λ start h. (omega (arith, h.0, e), omega (arith, h.0, h.1, e, f)) }

-- what was spent from nothing on is what the steps rose by
pub spent_all : (n s n1 s1 charge : ℕ) → s ≡ 0 → n1 ≡ n + charge → charge ≤ 1000000 → RisesAlike n s n1 s1 →
    s1 ≡ charge
spent_all n s n1 s1 charge nothing e few f =
    let h : IsSpentSince n n1 s1 = f.since n (omega arith, omega (arith, nothing)) in
    omega (arith, h.0, h.1, e, few)

pub both_on : {X Y : Type 0} (r : Result X Y) (P Q R : Type 0) → (P → Q → R) → OnOk r P → OnOk r Q → OnOk r R
both_on (Ok x) P Q R f p q = f p q
both_on (Err y) P Q R f p q = tt
