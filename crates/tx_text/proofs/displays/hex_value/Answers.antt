use Rattle.std.proofs.Common.{ℕ, ◌^◌, ◌≤◌, ◌<◌, lit<, arith}
use Rattle.std.proofs.Math.Nat.{pow-le-pow_right}
use Rattle.tx_text.proofs.displays.hex_value.Goals as goal

room : (n v : ℕ) → v < 16 ^ n → n < 6 → v < 1048576
room n v small few = let top : 16 ^ n ≤ 16 ^ 5 = pow-le-pow_right (lit< tt) {i = n} {j = 5} (omega arith) in omega arith

pub overflow_mul-value : goal.overflow_mul-value
overflow_mul-value c =
    let low = room c.loop-digit.digit-index c.loop-digit.value c.loop-digit.invariant.small (omega arith) in omega arith

pub overflow_add-value : goal.overflow_add-value
overflow_add-value c =
    let low = room c.loop-digit.digit-index c.loop-digit.value c.loop-digit.invariant.small (omega arith) in
    omega arith
