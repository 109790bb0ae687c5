use Rattle.std.proofs.Common.{arith}
use Rattle.tx_tm_read.proofs.Running.{head_there}
use Rattle.tx_tm_read.proofs.heads.head_to.Goals as goal

pub returns-in-Some : goal.returns-in-Some
returns-in-Some c =
    let bytes = rw c.in-Some.is at c.in_ok-tag.ensures.bytes in
    let label = rw c.in-Some.is at c.in_ok-tag.ensures.label in
    record {
      there = record {
        label = label;
        some = omega arith;
        within = omega arith;
        there = head_there c.args.bytes.now c.args.end c.args.more c.in-Some.label c.requires.some c.requires.within
            c.requires.first c.requires.last bytes;
      };
    }
