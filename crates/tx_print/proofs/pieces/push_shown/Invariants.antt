use Rattle.std.proofs.Common.{◌-◌, drop, length}
use Rattle.tx_tree.specs.Texts.{IsCut}
use Rattle.tx_print.specs.Lines.{shown}
use Rattle.tx_print.proofs.Wording.{Leaves}
use Rattle.tx_print.proofs.pieces.push_shown.Given as goal

abbrev pub invariant-loop-count : goal.invariant-loop-count
invariant-loop-count g l =
    record {
      cut : IsCut l.text l.at;
      left : Leaves (shown (drop l.at l.text)) (shown l.text)
          l.fn.printer (g.O.Sink.seen l.fn.out)
          l.printer (g.O.Sink.seen l.out);
    }

abbrev pub decreases-loop-count : goal.decreases-loop-count
decreases-loop-count g l = length l.text - l.at
