use Rattle.std.proofs.Common.{arith}
use Rattle.tx_doc.proofs.Versioning.{cut, uncut}
use Rattle.tx_doc.proofs.versions.split_at_point.Goals as goal

pub returns-then-byte-eq46-clause-pieces : goal.returns-then-byte-eq46-clause-pieces
returns-then-byte-eq46-clause-pieces c =
    cut c.args.bytes.now c.loop-at.at c.loop-at-test.true c.if-byte-eq46.true c.loop-at.invariant

pub returns-clause-pieces : goal.returns-clause-pieces
returns-clause-pieces c =
    uncut c.args.bytes.now (λ k lt. c.loop-at.invariant k (omega (arith, c.loop-at-test.false)))
