use Rattle.std.proofs.Common.{arith}
use Rattle.tx_lines.proofs.Cells.{cells_of_more}
use Rattle.tx_lines.proofs.first_fit.line_end.Goals as goal

pub returns-then-used-from-clause-full : goal.returns-then-used-from-clause-full
returns-then-used-from-clause-full c there =
    omega (
      arith,
      cells_of_more c.args.pieces.now c.args.from c.loop-end.end (record { before = 0; cells = 0 })
          (omega arith) (omega arith),
    )

pub loop-end-preserved : goal.loop-end-preserved
loop-end-preserved c = let more =
    cells_of_more c.args.pieces.now c.args.from c.loop-end.end (record { before = 0; cells = 0 }) (omega arith)
    (omega arith) in (omega (arith, more), omega arith)
