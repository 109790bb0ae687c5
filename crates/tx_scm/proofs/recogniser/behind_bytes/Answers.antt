use Rattle.std.proofs.Common.{◌∙◌, arith}
use Rattle.tx_scm.proofs.Places.{bytes_more, bytes_differ, bytes_end, bytes_found}
use Rattle.tx_scm.proofs.recogniser.behind_bytes.Goals as goal
use Rattle.tx_scm.proofs.recogniser.behind_bytes.Goals.{then-end-bytes-via-then-end-bytes}
use Rattle.tx_scm.proofs.recogniser.behind_bytes.Goals.{then-end-bytes-via-else-end-bytes+then-bytes-end}

pub returns-then-end-bytes : goal.returns-then-end-bytes
returns-then-end-bytes c =
    elim c.then-end-bytes.branch [
      | then-end-bytes-via-then-end-bytes w ↦ c.loop-byte.invariant.same
          ∙ bytes_end c.args.wanted.now c.args.bytes.now c.loop-byte.byte-index c.loop-byte.end c.loop-byte-test.true
          (omega arith)
      | then-end-bytes-via-else-end-bytes+then-bytes-end w ↦
          c.loop-byte.invariant.same ∙ bytes_differ c.args.bytes.now c.loop-byte.end (omega arith) c.args.wanted.now
          c.loop-byte.byte-index c.loop-byte-test.true w.if-bytes-end.true
    ]

pub loop-byte-preserved : goal.loop-byte-preserved
loop-byte-preserved c =
    record {
      end = omega arith;
      same = c.loop-byte.invariant.same ∙ bytes_more c.args.bytes.now c.loop-byte.end (omega arith) c.args.wanted.now
          c.loop-byte.byte-index c.loop-byte-test.true c.if-bytes-end.false;
    }

pub returns : goal.returns
returns c = (
  c.loop-byte.invariant.end,
  c.loop-byte.invariant.same
      ∙ bytes_found c.args.wanted.now c.args.bytes.now c.loop-byte.byte-index c.loop-byte.end c.loop-byte-test.false,
)
