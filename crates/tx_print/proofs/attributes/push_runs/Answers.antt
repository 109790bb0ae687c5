use Rattle.std.proofs.Common.{◌<◌, ◌∙◌, ap, arith}
use Rattle.std.specs.List.{flat_map}
use Rattle.std.proofs.lemmas.List.{drop_all}
use Rattle.tx_print.specs.Runs.{item_looks}
use Rattle.tx_print.specs.Begun.{open_run_in, open_run}
use Rattle.tx_print.proofs.Running.{item_less, open_item, told_closed, told_item, told_same, told_start}
use Rattle.tx_print.proofs.attributes.push_runs.Goals as goal

pub loop-item-init : goal.loop-item-init
loop-item-init g c =
    record {
      bound = omega (arith, c.from-at.ensures);
      is_open = tt;
      told = told_start c.from-at.result c.args.line.now.indent c.args.line.now.items c.all-item-items.result.now
          c.from-at.ensures c.all-item-items.ensures;
    }

pub loop-item-preserved : goal.loop-item-preserved
loop-item-preserved g c =
    let items = c.all-item-items.result.now in
    let i = c.loop-item.item-index in
    let cells = c.from-at-in-loop-item.result in
    let some : 0 < cells = omega (arith, c.from-at-in-loop-item.ensures, c.if-cells-eq0.false) in
    let less = item_less items i c.item-item.result cells c.loop-item-test.true c.item-item.is
    (c.from-at-in-loop-item.ensures ∙ c.item_cells-cells.ensures) in
    record {
      bound = omega (arith, c.from-at-in-loop-item.ensures, c.item_cells-cells.type_inv, c.loop-item.invariant.bound);
      is_open = open_item _ _ _ _ _ c.go_on-begun.ensures.run c.loop-item.invariant.is_open some;
      told = told_item _ _ _ _ _ _ _ _ c.look_of.ensures c.go_on-begun.ensures.run c.loop-item.invariant.is_open some
          (told_same _ _ _ _ _ less c.loop-item.invariant.told) c.go_on-begun.ensures.adds;
    }

pub returns-in-Some : goal.returns-in-Some
returns-in-Some g c =
    let none = ap (flat_map item_looks) (drop_all c.loop-item.item-index c.all-item-items.result.now
    c.loop-item-test.false) in
    told_closed _ (open_run c.in-Some.last) _ _ _ (ap open_run_in c.in-Some.is) none c.loop-item.invariant.is_open
    c.loop-item.invariant.told c.push_run.ensures
