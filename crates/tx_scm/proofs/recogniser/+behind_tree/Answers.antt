use Rattle.std.proofs.Common.{◌∙◌}
use Rattle.tx_scm.proofs.Places.{not_opened, not_named, named_at, child_none, child_more}
use Rattle.tx_scm.proofs.recogniser.+behind_tree.Goals as goal

pub returns-in_default-behind_bytes : goal.returns-in_default-behind_bytes
returns-in_default-behind_bytes t c =
    not_opened c.args.tree.now _ _ c.in-Some-label.ensures (rw c.in_default-behind_bytes.is at c.behind_bytes-2.ensures)

pub behind_white-requires : goal.behind_white-requires
behind_white-requires t c = (c.in-Some-behind_bytes.ensures).0

pub returns-in_default-behind_bytes-2 : goal.returns-in_default-behind_bytes-2
returns-in_default-behind_bytes-2 t c =
    not_named c.args.tree.now _ _ c.in-Some-label.ensures _ _ (c.in-Some-behind_bytes.ensures).1
    c.behind_white.ensures.rest (rw c.bytes-2.ensures.bytes at c.in_default-behind_bytes-2.ensures)

pub loop-child-init : goal.loop-child-init
loop-child-init t c =
    record {
      end = (c.in-Some-behind_bytes-2.ensures).0;
      same = rw c.children-child-items.ensures
          (named_at c.args.tree.now _ _ c.in-Some-label.ensures _ _ _ (c.in-Some-behind_bytes.ensures).1
          c.behind_white.ensures.rest (rw c.bytes-2.ensures.bytes at (c.in-Some-behind_bytes-2.ensures).1));
    }

pub returns-in-None : goal.returns-in-None
returns-in-None t c =
    c.loop-child.invariant.same
    ∙ child_none c.children-child-items.result.now c.loop-child.child-index c.child-item.result _ _
    c.loop-child-test.true c.child-item.is c.behind_white-in-loop-child.ensures.rest
    (rw c.in-None.is at c.in_ok-behind_tree.ensures)

pub loop-child-preserved : goal.loop-child-preserved
loop-child-preserved t c =
    let found = rw c.in-Some-2.is at c.in_ok-behind_tree.ensures in
    record {
      end = found.0;
      same = c.loop-child.invariant.same
          ∙ child_more c.children-child-items.result.now c.loop-child.child-index c.child-item.result _ _
          c.loop-child-test.true c.child-item.is c.behind_white-in-loop-child.ensures.rest _ found.1;
    }
