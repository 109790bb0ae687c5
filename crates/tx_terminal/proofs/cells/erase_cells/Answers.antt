use Rattle.std.proofs.Common.{◌≡◌, ◌∙◌, length, ap, arith}
use Rattle.std.specs.Prelude.{replicate}
use Rattle.tx_terminal.specs.Terminals.{blank}
use Rattle.tx_terminal.proofs.Emulating.{erase_more, erase_all}
use Rattle.tx_terminal.proofs.cells.erase_cells.Goals as goal

pub loop-at-preserved : goal.loop-at-preserved
loop-at-preserved c =
    erase_more c.args.row.now c.loop-at.row c.loop-at.at c.blank.result (omega arith) c.blank.ensures
    c.loop-at.invariant

pub returns : goal.returns
returns c =
    let end : c.loop-at.at ≡ length c.args.row.now = omega arith in
    c.loop-at.invariant ∙ erase_all c.args.row.now c.loop-at.at end ∙ ap (λ n. replicate n blank) end
