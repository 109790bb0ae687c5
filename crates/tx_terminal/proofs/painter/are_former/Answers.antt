use Rattle.std.proofs.Common.{◌≡◌, ◌∙◌}
use Rattle.std.specs.Prelude.{Some, slice_get}
use Rattle.std.proofs.lemmas.List.{take_more_same}
use Rattle.std.proofs.lemmas.Option.{slice_get_within, get_or_from_slice_get}
use Rattle.tx_terminal.proofs.painter.are_former.Goals as goal

pub loop-at-preserved : goal.loop-at-preserved
loop-at-preserved c =
    let i = c.loop-at.at in
    let former = c.args.former.now in
    let row = c.index-rows-at.result in
    let same : slice_get former i ≡ Some row = c.is_former.ensures.0 c.if-not-is_former.false in
    take_more_same former c.args.rows.now i row (slice_get_within former i row same) c.loop-at-test.true
    c.loop-at.invariant (get_or_from_slice_get former i row row same ∙ c.index-rows-at.is)
