use Rattle.std.proofs.Common.{rules, ◌≡◌, ◌∙◌, ap, true}
use Rattle.std.specs.Prelude.{if◌then◌else◌, Some, None}
use Rattle.tx_kept.proofs.Along.{along_next}
use Rattle.tx_kept.proofs.course.carried_along.Goals as goal

pub loop-i-preserved : goal.loop-i-preserved
loop-i-preserved c =
    let on : c.in_ok-on.on ≡ true = search rules in
    along_next c.args.mods.now c.args.trees.now c.args.before.now c.loop-i.i c.args.path.now c.loop-i.place
    c.loop-i.invariant c.loop-i-test.true c.index-mods-i.result c.index-mods-i.is c.index-trees-i.result
    c.index-trees-i.is c.carried_law.ensures c.carry_in_place.new.path
    (c.in_ok-on.ensures.carried ∙ ap (λ b. if b then Some c.carry_in_place.new.path else None) on)
