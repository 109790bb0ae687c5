use Rattle.std.proofs.Common.{take, refl, subst, sym, arith, take_all}
use Rattle.std.specs.List.{All}
use Rattle.std.proofs.lemmas.List.Elements.{All-append, All-map}
use Rattle.tx_layout.specs.Paging.{Unmarked}
use Rattle.tx_part_layout.specs.LaidParts.{placed_lines, lines_placed}
use Rattle.tx_part_layout.specs.LinesUnder.{line_under}
use Rattle.tx_unit_layout.proofs.Below.{placed_more}
use Rattle.tx_unit_layout.proofs.laid_parts.are_marked.Goals as goal

pub loop-part-preserved : goal.loop-part-preserved
loop-part-preserved c =
    let own : All Unmarked c.part-item.result.laid.value.lines =
    c.part-item.result.marked c.if-part.false in
    subst (All Unmarked)
    (sym (placed_more c.args.parts.now c.loop-part.part-index c.part-item.result c.loop-part-test.true c.part-item.is))
    (All-append Unmarked (placed_lines (take c.loop-part.part-index c.args.parts.now)) (lines_placed c.part-item.result)
    c.loop-part.invariant
    (All-map Unmarked (line_under c.part-item.result.path) c.part-item.result.laid.value.lines own))

pub returns : goal.returns
returns c = λ none.
    subst (λ ps. All Unmarked (placed_lines ps))
    (take_all c.loop-part.part-index c.args.parts.now (omega (arith, c.loop-part-test.false))) c.loop-part.invariant
