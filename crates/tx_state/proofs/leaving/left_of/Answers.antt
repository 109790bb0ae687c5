use Rattle.std.proofs.Common.{◌≡◌, length, reverse, take, ap, sym, ◌∙◌, arith}
use Rattle.tx_state.proofs.GoingBack.{few_back, total_first, if_ok, makes_without}
use Rattle.tx_state.proofs.leaving.left_of.Goals as goal

pub leave-requires-clause-few : goal.leave-requires-clause-few
leave-requires-clause-few g c =
    let few = few_back c.args.buffer c.args.n (reverse c.args.history.now.past) c.args.tree.now
    c.in_ok-backward.backward.edits.items c.in_ok-backward.ensures.backward.edits in
    omega (arith, few, c.in-Some.ensures.cases.1, ap length c.deref.ensures.value, c.ranges.n.fits)

pub returns-clause-makes : goal.returns-clause-makes
returns-clause-makes g c =
    if_ok c.leave.result
    (makes_without c.leave_law.ensures c.args.buffer (take c.args.n (reverse c.args.history.now.past)) c.args.tree.now
    c.in_ok-backward.backward c.in_ok-backward.ensures.backward c.size-size.ensures.well_formed)

pub returns-clause-counted : goal.returns-clause-counted
returns-clause-counted g c =
    let slice : c.as_slice.result.now ≡ c.in-Some.edit.now = c.as_slice.ensures in
    let all = total_first c.args.buffer (take c.args.n (reverse c.args.history.now.past)) c.args.tree.now
    c.in_ok-backward.backward.edits.items c.in-Some.later.now c.in-Some.edit.now
    c.in_ok-backward.ensures.backward.edits (sym c.deref.ensures.value ∙ c.in-Some.ensures.cases.0) in
    omega (arith, c.leave.ensures.counted, c.walk_back.ensures.counted, all, ap length slice)
