use Rattle.std.proofs.Common.{◌∙◌, List, ap, sym, subst, map, take, take_all, arith, rules}
use Rattle.tx_bridge.specs.PartMoves.{Move, seen_move}
use Rattle.tx_view.specs.Laid.{PlacedLists, HaveArrived, placed_in}
use Rattle.tx_view.proofs.Adding.{none_arrived, none_goes, all_go, seen_more}
use Rattle.tx_view.proofs.arriving.put_all.Goals as goal

pub returns-then-not-are_laid : goal.returns-then-not-are_laid
returns-then-not-are_laid c us blank none =
    let old : PlacedLists = placed_in c.args.old.now c.args.strays.now in
    subst (λ (moves : List Move). HaveArrived old moves us c.args.new.now c.args.new_strays.now)
    (sym (none_goes old (map seen_move c.args.moves.now) c.are_laid.result c.are_laid.ensures (search rules)))
    (none_arrived old us c.args.new.now c.args.new_strays.now blank none)

pub loop-m-init : goal.loop-m-init
loop-m-init c us blank none =
    none_arrived (placed_in c.args.old.now c.args.strays.now) us c.args.new.now c.args.new_strays.now blank none

pub loop-m-preserved : goal.loop-m-preserved
loop-m-preserved c us blank none =
    subst (λ (moves : List Move). HaveArrived (placed_in c.args.old.now c.args.strays.now) moves us c.put_one.new.new
    c.put_one.new.new_strays)
    (sym (seen_more c.args.moves.now c.loop-m.m-index c.m-item.result c.loop-m-test.true c.m-item.is))
    (c.in_ok-put_one.ensures us (map seen_move (take c.loop-m.m-index c.args.moves.now))
    (c.loop-m.invariant us blank none))

pub returns : goal.returns
returns c us blank none =
    let old : PlacedLists = placed_in c.args.old.now c.args.strays.now in
    subst (λ (moves : List Move). HaveArrived old moves us c.loop-m.new c.loop-m.new_strays)
    (ap (map seen_move) (take_all c.loop-m.m-index c.args.moves.now (omega (arith, c.loop-m-test.false)))
    ∙ sym (all_go old (map seen_move c.args.moves.now) c.are_laid.result c.are_laid.ensures c.if-not-are_laid.false))
    (c.loop-m.invariant us blank none)
