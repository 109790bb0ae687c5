use Rattle.std.proofs.Common.{◌≡◌, ◌+◌, ◌∙◌, arith}
use Rattle.tx_terminal.proofs.Emulating.{put_first, put_more, put_all}
use Rattle.tx_terminal.proofs.cells.put_cells.Goals as goal

pub loop-at-init : goal.loop-at-init
loop-at-init c = put_first c.args.row.now c.args.column c.args.glyphs c.args.ink (omega arith)

pub loop-at-preserved : goal.loop-at-preserved
loop-at-preserved c =
    put_more c.args.row.now c.loop-at.row c.args.column c.args.glyphs c.loop-at.at c.args.ink c.rest.result
    (omega arith) (omega arith) c.rest.ensures c.loop-at.invariant

pub returns : goal.returns
returns c =
    let end : c.loop-at.at ≡ c.args.column + c.args.cells = omega arith in
    c.loop-at.invariant
    ∙ put_all c.args.row.now c.args.column c.args.glyphs c.args.cells c.loop-at.at c.args.ink end
