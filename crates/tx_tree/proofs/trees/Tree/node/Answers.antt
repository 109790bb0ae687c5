use Rattle.std.proofs.Common.{arith}
use Rattle.std.proofs.lemmas.List.{take_all}
use Rattle.std.proofs.lemmas.Grind.{common_steps}
use Rattle.tx_tree.proofs.Children.{counted_next, counted_all, sound_within}
use Rattle.tx_tree.proofs.trees.Tree.node.Goals as goal

pub loop-child-preserved : goal.loop-child-preserved
loop-child-preserved g c =
    counted_next _ _ _ _ _ _ _ c.loop-child.invariant c.size.ensures.well_formed c.size.ensures.within
    c.loop-child-test.true c.child-item.is (grind (arith, common_steps)) (grind (arith, common_steps))

pub invariant_of-result : goal.invariant_of-result
invariant_of-result g c =
    let whole = rw (take_all _ _ c.loop-child-test.false, c.deref-child-items.ensures.value) at
    c.loop-child.invariant in
    let sound = counted_all _ _ c.args.label _ whole c.bytes-bytes.ensures.label (omega arith) in
    let within = sound_within _ _ _ sound c.if-depth-gt-MOST_DEPTH.false c.if-size-gt-MOST_SIZE.false in
    rw c.in_ok-new.ensures.ok
    (record { size = sound.sized; depth = sound.deep; well_formed = sound.well_formed; within = within })

pub returns-clause-within : goal.returns-clause-within
returns-clause-within g c =
    let whole = rw (take_all _ _ c.loop-child-test.false, c.deref-child-items.ensures.value) at
    c.loop-child.invariant in
    sound_within _ _ _ (counted_all _ _ c.args.label _ whole c.bytes-bytes.ensures.label (omega arith))
    c.if-depth-gt-MOST_DEPTH.false c.if-size-gt-MOST_SIZE.false
