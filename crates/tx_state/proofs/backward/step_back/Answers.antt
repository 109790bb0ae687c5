use Rattle.std.proofs.Common.{rules, ◌≡◌, ◌≤◌, ◌+◌, subst}
use Rattle.tx_state.specs.Ready.{cost_both_ways}
use Rattle.tx_state.proofs.GoingBack.{step_counted}
use Rattle.tx_state.proofs.backward.step_back.Goals as goal

pub returns-in-Ok-clause-counted : goal.returns-in-Ok-clause-counted
returns-in-Ok-clause-counted g c =
    let same : c.args.entry.now.buffer ≡ c.args.buffer = search rules in
    step_counted c.args.buffer c.args.entry.now c.args.tree.now c.args.steps.now c.change_in_turn.new.steps same
    c.size-size.ensures.within c.requires
    (subst (λ ms. c.change_in_turn.new.steps ≤ c.args.steps.now + cost_both_ways ms) c.as_slice.ensures
    c.change_in_turn.ensures.counted)

pub returns-in-Err-Memory-clause-counted : goal.returns-in-Err-Memory-clause-counted
returns-in-Err-Memory-clause-counted g c =
    let same : c.args.entry.now.buffer ≡ c.args.buffer = search rules in
    step_counted c.args.buffer c.args.entry.now c.args.tree.now c.args.steps.now c.change_in_turn.new.steps same
    c.size-size.ensures.within c.requires
    (subst (λ ms. c.change_in_turn.new.steps ≤ c.args.steps.now + cost_both_ways ms) c.as_slice.ensures
    c.change_in_turn.ensures.counted)
