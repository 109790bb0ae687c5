use Rattle.std.proofs.Common.{◌≡◌, ℕ, ◌+◌, ◌-◌, ◌==◌, Bool, List, length, take, drop, count_by, cond, ap, ◌∙◌, arith}
use Rattle.std.proofs.Common.{length-drop}
use Rattle.std.proofs.Math.Seq.{take-add}
use Rattle.std.proofs.lemmas.List.{take-append-drop, take_all, length-take-le}
use Rattle.std.proofs.lemmas.List.Sums.{sum_by-append, count_by-le-length}
use lib.Lanes.{chunk}
use Rattle.tx_scan.proofs.count.count_of.Goals as goal

-- a count, one block on
count_by_block : (p : ℕ → Bool) (xs : List ℕ) (at : ℕ)
    → count_by p (take (at + 32) xs) ≡ count_by p (take at xs) + count_by p (chunk at 32 xs)
count_by_block p xs at = ap (count_by p) (take-add at 32 xs) ∙ sum_by-append _ (take at xs) (chunk at 32 xs)

pub overflow_add-total : goal.overflow_add-total
overflow_add-total c =
    let bytes = c.args.bytes.now in
    let at = c.loop-at.at in
    omega (
      arith,
      count_by_block (λ x. x == c.args.b) bytes at,
      count_by-le-length (λ x. x == c.args.b) (take (at + 32) bytes),
      length-take-le (at + 32) bytes,
    )

pub loop-at-preserved : goal.loop-at-preserved
loop-at-preserved c = (omega arith, omega (arith, count_by_block (λ x. x == c.args.b) c.args.bytes.now c.loop-at.at))

pub returns : goal.returns
returns c =
    let p : ℕ → Bool = λ x. x == c.args.b in
    let bytes = c.args.bytes.now in
    let at = c.loop-at.at in
    let parts = sum_by-append (λ x. cond (p x) 1 0) (take at bytes) (drop at bytes) in
    let whole = ap (count_by p) (take-append-drop at bytes) in
    let rest = ap (count_by p) (take_all (length bytes - at) (drop at bytes) (omega (arith, length-drop at bytes))) in
    omega (arith, parts, whole, rest)
