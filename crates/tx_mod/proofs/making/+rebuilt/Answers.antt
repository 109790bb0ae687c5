use Rattle.std.proofs.Common.{rules}
use Rattle.tx_mod.proofs.Built.{leads_down, within_down}
use Rattle.tx_mod.proofs.making.+rebuilt.Goals as goal

pub rebuilt-requires : goal.rebuilt-requires
rebuilt-requires g t c = λ κs sub. (
  search rules,
  (
    search rules,
    (
      leads_down c.args.t.now c.in-Some-child.child.now c.args.path.now c.in-Some.rest.now c.in-Some.i
          c.in-Some-child.ensures c.in-Some.ensures c.requires.leads,
      within_down c.args.t.now c.in-Some-child.child.now c.args.new c.args.path.now c.in-Some.rest.now c.in-Some.i
          c.in-Some-child.ensures c.in-Some.ensures c.requires.within,
    ),
  ),
)
