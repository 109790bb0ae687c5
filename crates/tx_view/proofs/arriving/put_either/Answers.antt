use Rattle.std.proofs.Common.{List, if◌then◌else◌, ap, sym, subst, map}
use Rattle.std.proofs.lemmas.Result.{on_ok_weaker}
use Rattle.tx_bridge.specs.PartMoves.{seen_move}
use Rattle.tx_unit_layout.specs.declared.shown.Shown.{Shown}
use Rattle.tx_view.specs.Laid.{HaveArrived, going, placed_in}
use Rattle.tx_view.proofs.arriving.put_either.Goals as goal

pub returns-then-fresh : goal.returns-then-fresh
returns-then-fresh c =
    on_ok_weaker c.put_all.result
    (λ all us blank none.
    subst (λ (old : List Shown). HaveArrived (placed_in old c.args.strays.now)
    (going (placed_in old c.args.strays.now) (map seen_move c.args.moves.now)) us c.put_all.new.new
    c.put_all.new.new_strays)
    (ap (λ b. if b then c.args.shown.now else c.args.hidden.now) (sym c.if-fresh.true)) (all us blank none))
    c.put_all.ensures

pub returns-else-fresh : goal.returns-else-fresh
returns-else-fresh c =
    on_ok_weaker c.put_all-else-fresh.result
    (λ all us blank none.
    subst (λ (old : List Shown). HaveArrived (placed_in old c.args.strays.now)
    (going (placed_in old c.args.strays.now) (map seen_move c.args.moves.now)) us c.put_all-else-fresh.new.new
    c.put_all-else-fresh.new.new_strays)
    (ap (λ b. if b then c.args.shown.now else c.args.hidden.now) (sym c.if-fresh.false)) (all us blank none))
    c.put_all-else-fresh.ensures
