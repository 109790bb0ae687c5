use Rattle.std.proofs.lemmas.Result.{IfOk-weaker}
use Rattle.tx_exec.specs.States.{before_of}
use Rattle.tx_replay.specs.Cached.{stores_of}
use Rattle.tx_replay.specs.Replays.{state_by}
use Rattle.tx_replay.proofs.Ended.{lent_begun, all_come, in_order, all_below}
use Rattle.tx_replay.proofs.unit.evaluate_by_parts.Goals as goal

pub walk_root-walked-requires-clause-begun : goal.walk_root-walked-requires-clause-begun
walk_root-walked-requires-clause-begun g c =
    lent_begun (stores_of c.args.caches.now) c.args.allowance c.args.t.now c.args.env.now c.enter-mark.new.self
    c.replace-lent.result c.args.steps.now c.args.steps.now c.replace-lent.ensures.value c.enter-mark.ensures.scopes
    c.enter-mark.ensures.map

pub returns-clause-exact : goal.returns-clause-exact
returns-clause-exact g c =
    let kept = stores_of c.args.caches.now in
    let unit = c.walk_root-walked.result in
    IfOk-weaker c.by_parts.result _ _ (λ w h. h.exact)
    (all_come kept c.args.allowance c.args.t.now c.args.env.now c.enter-mark.new.self c.replace-lent.result
    c.args.steps.now c.walk_root-walked.new.steps c.replace-lent.ensures.value c.enter-mark.ensures.scopes
    c.by_parts.result unit.walked (state_by unit.noted) unit.parts.items c.walk_root-walked.ensures.walks
    c.by_parts.ensures.ends)

pub returns-clause-parts : goal.returns-clause-parts
returns-clause-parts g c =
    let kept = stores_of c.args.caches.now in
    let unit = c.walk_root-walked.result in
    IfOk-weaker c.by_parts.result _ _ (λ w h. h.seen_all)
    (all_come kept c.args.allowance c.args.t.now c.args.env.now c.enter-mark.new.self c.replace-lent.result
    c.args.steps.now c.walk_root-walked.new.steps c.replace-lent.ensures.value c.enter-mark.ensures.scopes
    c.by_parts.result unit.walked (state_by unit.noted) unit.parts.items c.walk_root-walked.ensures.walks
    c.by_parts.ensures.ends)

pub returns-clause-order : goal.returns-clause-order
returns-clause-order g c =
    let kept = stores_of c.args.caches.now in
    let unit = c.walk_root-walked.result in
    IfOk-weaker c.by_parts.result _ _ (λ w h. in_order kept c.args.allowance c.args.t.now (before_of c.args.env.now) c.args.steps.now
    c.walk_root-walked.new.steps w h)
    (all_come kept c.args.allowance c.args.t.now c.args.env.now c.enter-mark.new.self c.replace-lent.result
    c.args.steps.now c.walk_root-walked.new.steps c.replace-lent.ensures.value c.enter-mark.ensures.scopes
    c.by_parts.result unit.walked (state_by unit.noted) unit.parts.items c.walk_root-walked.ensures.walks
    c.by_parts.ensures.ends)

pub returns-clause-below : goal.returns-clause-below
returns-clause-below g c =
    let kept = stores_of c.args.caches.now in
    let unit = c.walk_root-walked.result in
    IfOk-weaker c.by_parts.result _ _ (λ w h. all_below kept c.args.allowance c.args.t.now (before_of c.args.env.now) c.args.steps.now
    c.walk_root-walked.new.steps w h)
    (all_come kept c.args.allowance c.args.t.now c.args.env.now c.enter-mark.new.self c.replace-lent.result
    c.args.steps.now c.walk_root-walked.new.steps c.replace-lent.ensures.value c.enter-mark.ensures.scopes
    c.by_parts.result unit.walked (state_by unit.noted) unit.parts.items c.walk_root-walked.ensures.walks
    c.by_parts.ensures.ends)

pub returns-clause-counted : goal.returns-clause-counted
returns-clause-counted g c =
    let kept = stores_of c.args.caches.now in
    let unit = c.walk_root-walked.result in
    IfOk-weaker c.by_parts.result _ _ (λ w h. h.counted)
    (all_come kept c.args.allowance c.args.t.now c.args.env.now c.enter-mark.new.self c.replace-lent.result
    c.args.steps.now c.walk_root-walked.new.steps c.replace-lent.ensures.value c.enter-mark.ensures.scopes
    c.by_parts.result unit.walked (state_by unit.noted) unit.parts.items c.walk_root-walked.ensures.walks
    c.by_parts.ensures.ends)
