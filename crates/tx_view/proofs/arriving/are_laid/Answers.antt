use Rattle.std.proofs.Common.{◌≡◌, ◌∙◌, Some, ap, sym, arith, take_all}
use Rattle.std.specs.List.{list_all}
use Rattle.tx_bridge.specs.PartMoves.{seen_move}
use Rattle.tx_unit_layout.specs.Moving.{put_at}
use Rattle.tx_view.specs.Laid.{PlacedLists, placed_in, wide_moved}
use Rattle.tx_view.proofs.Adding.{is_laid, all_wide_by, none_laid, not_laid}
use Rattle.tx_view.proofs.arriving.are_laid.Goals as goal

pub returns-then-is_none : goal.returns-then-is_none
returns-then-is_none c =
    let old : PlacedLists = placed_in c.args.old.now c.args.strays.now in
    sym (not_laid old c.args.moves.now c.loop-m.m-index c.m-item.result c.loop-m-test.true c.m-item.is
    (none_laid (λ p. wide_moved old (seen_move c.m-item.result) ≡ Some (put_at c.m-item.result.part.path p.now))
    c.laid_part.result (wide_moved old (seen_move c.m-item.result)) c.laid_part.ensures c.if-is_none.ensures))

pub returns : goal.returns
returns c =
    let old : PlacedLists = placed_in c.args.old.now c.args.strays.now in
    sym (all_wide_by old c.args.moves.now
    ∙ ap (list_all (is_laid old))
    (sym (take_all c.loop-m.m-index c.args.moves.now (omega (arith, c.loop-m-test.false)))) ∙ c.loop-m.invariant)
