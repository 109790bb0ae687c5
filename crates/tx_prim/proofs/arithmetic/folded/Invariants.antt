use Rattle.std.proofs.Common.{◌≡◌, drop}
use Rattle.tx_prim.specs.Arithmetic.{folded}
use Rattle.tx_prim.proofs.arithmetic.folded.Given as goal

abbrev pub invariant-loop-other : goal.invariant-loop-other
invariant-loop-other l =
    folded l.operation l.fn.first l.others ≡ folded l.operation l.so_far (drop l.other-index l.others)
