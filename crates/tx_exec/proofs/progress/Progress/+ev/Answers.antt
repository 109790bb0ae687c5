use Rattle.std.proofs.Common.{rules, [], ◌≡◌, ◌+◌, ◌*◌, ◌-◌, ◌<◌, drop, arith, ap, sym, ◌∙◌, refl, length, ◌≤◌}
use Rattle.std.proofs.lemmas.Grind.{common_steps}
use Rattle.std.proofs.lemmas.Result.{err_from_is_err_and}
use Rattle.std.specs.Prelude.{codes, Some, None, true, false}
use Rattle.tx_tree.specs.WideTree.{size_of}
use Rattle.tx_origin.specs.Values.{plain}
use Rattle.tx_origin.specs.TaggedTrees.{tagged_of, kids_of}
use Rattle.tx_origin.proofs.Parts.{nodes_le_size}
use Rattle.tx_exec_form.specs.Runs.{on_done}
use Rattle.tx_exec_form.specs.declared.TheConstants.{MOST_TURNS}
use Rattle.tx_exec_form.specs.Rows.{ex, each, with_parts, wrong, chosen, turns}
use Rattle.tx_exec.specs.FrameView.{frame_in}
use Rattle.tx_exec.specs.States.{state_of, before_of}
use Rattle.tx_exec.specs.Settings.{sets_of, held_of}
use Rattle.tx_exec.specs.Gives.{Fails}
use Rattle.tx_exec.specs.FlowRuns.{truth_run}
use Rattle.tx_exec.specs.PartRuns.{kid_run, paired, stored_pair, node_ended}
use Rattle.tx_exec.proofs.Each.{gives_as, fails_as, stop_bind, each_next, each_stop}
use Rattle.tx_exec.proofs.Sizes.{next_size, next_depth}
use Rattle.tx_exec.proofs.Levels.{ex_leaf, ex_node}
use Rattle.tx_exec.proofs.WithLoop.{row_odd, row_even, two_kids, pair_stop, pair_bad, pair_next, with_last, told_next}
use Rattle.tx_exec.proofs.WithLoop.{set_back, with_unpaid, with_begun, held_begun, held_done}
use Rattle.tx_exec.proofs.Choosing.{pick_stop, pick_bad, pick_true, pick_false, pick_last, pick_nothing, found_as}
use Rattle.tx_exec.proofs.Choosing.{odd_count}
use Rattle.tx_exec.proofs.Turning.{turn_stop, turn_bad, turn_end, body_stop, turn_next, last_stop, last_bad, last_holds}
use Rattle.tx_exec.proofs.Turning.{one_less}
use Rattle.tx_exec.proofs.progress.Progress.+ev.Goals as goal

pub level-returns-in-Some-clause-gives : goal.level-returns-in-Some-clause-gives
level-returns-in-Some-clause-gives g t c =
    let e = before_of c.args.env.now in
    let s = state_of c.args.self.now in
    let leaf =
    ex_leaf c.args.levels (tagged_of c.args.t.now) (frame_in c.args.frame) c.in-Some.words.now e s (omega arith)
    c.in-Some.ensures in
    gives_as (λ v. v) c.leaf.result _ _ _ leaf (c.leaf.ensures.gives e)

pub level-returns-clause-gives : goal.level-returns-clause-gives
level-returns-clause-gives g t c =
    let node =
    ex_node c.args.levels (tagged_of c.args.t.now) (frame_in c.args.frame) c.in-Some-label.label.now
    (before_of c.args.env.now) (state_of c.args.self.now) (omega arith) c.in-Some-label.ensures in
    gives_as (λ v. v) c.node.result _ _ _ node c.node.ensures.gives

pub each-returns-in_err-value-clause-gives : goal.each-returns-in_err-value-clause-gives
each-returns-in_err-value-clause-gives g t c =
    let p = err_from_is_err_and c.from_residual.result c.from_residual.ensures.1 in
    let below = ex c.args.levels in
    let f = frame_in c.args.frame in
    let kids = kids_of (tagged_of c.args.t.now) in
    let e = before_of c.args.env.now in
    let whole = each below f [] (drop c.args.first kids) e (state_of c.args.self.now) in
    let stop =
    each_stop below f kids c.loop-i.i c.loop-i.values.items e (state_of c.loop-i.self) whole c.in_err-value.field-0.0
    (omega (arith, c.loop-i-test.true, c.arity-i-end.ensures)) c.in_err-value.ensures.gives c.loop-i.invariant.run in
    rw (p.1, p.2) stop

pub each-loop-i-preserved : goal.each-loop-i-preserved
each-loop-i-preserved g t c =
    let below = ex c.args.levels in
    let f = frame_in c.args.frame in
    let kids = kids_of (tagged_of c.args.t.now) in
    let e = before_of c.args.env.now in
    let whole = each below f [] (drop c.args.first kids) e (state_of c.args.self.now) in
    let held = c.loop-i.invariant in
    let pushed = c.in_ok-push.ensures.items in
    record {
      run =
          each_next below f kids c.loop-i.i c.loop-i.values.items e (state_of c.loop-i.self) whole c.push.new.self.items
          c.in_ok-value.value (state_of c.kid_value.new.self) (omega (arith, c.loop-i-test.true, c.arity-i-end.ensures))
          c.in_ok-value.ensures.gives pushed held.run;
      paid = omega (arith, held.paid, c.in_ok-value.ensures.paid);
      arity = grind (arith, common_steps, held.arity, pushed);
      size = next_size _ _ _ _ _ _ pushed held.size c.in_ok-value.ensures.size;
      depth = next_depth _ _ _ _ pushed held.depth c.in_ok-value.ensures.depth;
    }

pub assign-returns-clause-gives : goal.assign-returns-clause-gives
assign-returns-clause-gives g t c =
    let two =
    two_kids c.args.levels (ex (c.args.levels - 1)) (frame_in c.args.frame) c.args.label.now c.args.t.now.at
    (kids_of (tagged_of c.args.t.now)) (before_of c.args.env.now) (state_of c.args.self.now) (search rules) in
    gives_as (λ v. v) c.assigned.result _ _ _ two c.assigned.ensures.gives

pub with_row-returns-in-Some-clause-gives : goal.with_row-returns-in-Some-clause-gives
with_row-returns-in-Some-clause-gives g t c =
    let odd =
    row_odd c.args.levels (ex (c.args.levels - 1)) (frame_in c.args.frame) c.args.label.now c.args.t.now.at
    (kids_of (tagged_of c.args.t.now)) c.in-Some.pairs (search (rules, c.in-Some.ensures, c.arity.ensures)) in
    gives_as (λ v. v) c.with_parts.result _ _ _
    (ap (λ m. m (before_of c.args.env.now) (state_of c.args.self.now)) odd) c.with_parts.ensures.gives

pub with_row-returns-in-None-clause-gives : goal.with_row-returns-in-None-clause-gives
with_row-returns-in-None-clause-gives g t c =
    let even =
    row_even c.args.levels (ex (c.args.levels - 1)) (frame_in c.args.frame) c.args.label.now c.args.t.now.at
    (kids_of (tagged_of c.args.t.now)) c.arity.result c.in-None.ensures.0 c.arity.ensures c.in-None.ensures.1 in
    search (rules, ap (λ m. m (before_of c.args.env.now) (state_of c.args.self.now)) even)

pub with_names-returns-in_err-value-clause-gives : goal.with_names-returns-in_err-value-clause-gives
with_names-returns-in_err-value-clause-gives g t c =
    let p = err_from_is_err_and c.from_residual-in_err-value.result c.from_residual-in_err-value.ensures.1 in
    let e = before_of c.args.env.now in
    let old = held_of c.in_ok-kept.kept.items in
    let run =
    held_begun (ex c.args.levels) (frame_in c.args.frame) (held_of c.args.names.now) old
    (kids_of (tagged_of c.args.t.now)) c.args.number e (state_of c.args.self.now) (state_of c.set_all.new.self)
    c.in_ok-kept.ensures (c.in_ok-set_all.ensures.gives e) in
    rw (p.1, p.2)
    (fails_as c.in_err-value.field-0.0 _ _ run
    (stop_bind c.in_err-value.field-0.0 e (set_back old) _ c.in_err-value.ensures.gives))

pub with_names-returns-clause-gives : goal.with_names-returns-clause-gives
with_names-returns-clause-gives g t c =
    let e = before_of c.args.env.now in
    let old = held_of c.in_ok-kept.kept.items in
    let run =
    held_begun (ex c.args.levels) (frame_in c.args.frame) (held_of c.args.names.now) old
    (kids_of (tagged_of c.args.t.now)) c.args.number e (state_of c.args.self.now) (state_of c.set_all.new.self)
    c.in_ok-kept.ensures (c.in_ok-set_all.ensures.gives e) in
    let body =
    kid_run (ex c.args.levels) (frame_in c.args.frame) (kids_of (tagged_of c.args.t.now)) c.args.number e
    (state_of c.set_all.new.self) in
    run
    ∙ held_done old c.in_ok-value.value e body (state_of c.kid_value.new.self) (state_of c.set_all-2.new.self)
    c.in_ok-value.ensures.gives (search (rules, c.in_ok-set_all-2.ensures.gives e))

pub with_body-returns-in_err-trees-clause-gives : goal.with_body-returns-in_err-trees-clause-gives
with_body-returns-in_err-trees-clause-gives g t c =
    let p = err_from_is_err_and c.from_residual.result c.from_residual.ensures.1 in
    let e = before_of c.args.env.now in
    let unpaid =
    with_unpaid (ex (c.args.levels - 1)) (frame_in c.args.frame) c.args.label.now c.args.t.now.at
    c.args.parts.values.items (sets_of c.args.parts.settings.items) (kids_of (tagged_of c.args.t.now))
    (2 * c.args.pairs)
    e (state_of c.args.self.now) c.args.parts.total in
    rw (p.1, p.2) (unpaid c.in_err-trees.field-0.0 c.requires.told.total (c.in_err-trees.ensures.over e))

pub with_body-returns-in_err-value-clause-gives : goal.with_body-returns-in_err-value-clause-gives
with_body-returns-in_err-value-clause-gives g t c =
    let p = err_from_is_err_and c.from_residual-in_err-value.result c.from_residual-in_err-value.ensures.1 in
    let e = before_of c.args.env.now in
    let run =
    with_begun (ex (c.args.levels - 1)) (frame_in c.args.frame) c.args.label.now c.args.t.now.at
    c.args.parts.values.items (sets_of c.args.parts.settings.items) (held_of c.deref.result.now)
    (kids_of (tagged_of c.args.t.now)) (2 * c.args.pairs) e (state_of c.args.self.now) (state_of c.charged.new.self)
    c.args.parts.total c.requires.told.total (search (rules, c.in_ok-trees.ensures.trees))
    (c.in_ok-trees.ensures.over e) in
    rw (p.1, p.2)
    (fails_as c.in_err-value.field-0.0 _ _ run
    (stop_bind c.in_err-value.field-0.0 e (node_ended c.args.label.now c.args.t.now.at c.args.parts.values.items) _
    c.in_err-value.ensures.gives))

pub with_body-returns-clause-gives : goal.with_body-returns-clause-gives
with_body-returns-clause-gives g t c =
    let e = before_of c.args.env.now in
    let run =
    with_begun (ex (c.args.levels - 1)) (frame_in c.args.frame) c.args.label.now c.args.t.now.at
    c.args.parts.values.items (sets_of c.args.parts.settings.items) (held_of c.in_ok-trees.trees.items)
    (kids_of (tagged_of c.args.t.now)) (2 * c.args.pairs) e (state_of c.args.self.now) (state_of c.charged.new.self)
    c.args.parts.total c.requires.told.total c.in_ok-trees.ensures.trees
    (c.in_ok-trees.ensures.over e) in
    let last = node_ended c.args.label.now c.args.t.now.at c.args.parts.values.items in
    let done = ap (on_done e last) c.in_ok-value.ensures.gives in
    search (rules, run, done)

pub all_pairs-returns-in_err-found-clause-goes : goal.all_pairs-returns-in_err-found-clause-goes
all_pairs-returns-in_err-found-clause-goes g t c =
    let p = err_from_is_err_and c.from_residual.result c.from_residual.ensures.1 in
    let k = c.args.levels in
    let below = ex (c.args.levels - 1) in
    let f = frame_in c.args.frame in
    let label = c.args.label.now in
    let at = c.args.t.now.at in
    let kids = kids_of (tagged_of c.args.t.now) in
    let e = before_of c.args.env.now in
    let vs = c.loop-i.parts.values.items in
    let ps = sets_of c.loop-i.parts.settings.items in
    let s = state_of c.loop-i.self in
    let whole = with_parts k below f label at [] [] kids e (state_of c.args.self.now) in
    let lt : 2 * c.loop-i.i + 1 < length kids = omega (arith, c.loop-i-test.true, c.requires.pairs) in
    let run = c.loop-i.invariant.run in
    let stop = pair_stop k below f label at kids c.loop-i.i vs ps e s whole lt run in
    rw (p.1, p.2) (stop c.in_err-found.field-0.0 c.in_err-found.ensures.gives)

pub all_pairs-returns-in_err-bad-clause-goes : goal.all_pairs-returns-in_err-bad-clause-goes
all_pairs-returns-in_err-bad-clause-goes g t c =
    let p = err_from_is_err_and c.from_residual-in_err-bad.result c.from_residual-in_err-bad.ensures.1 in
    let k = c.args.levels in
    let below = ex (c.args.levels - 1) in
    let f = frame_in c.args.frame in
    let label = c.args.label.now in
    let at = c.args.t.now.at in
    let kids = kids_of (tagged_of c.args.t.now) in
    let e = before_of c.args.env.now in
    let vs = c.loop-i.parts.values.items in
    let ps = sets_of c.loop-i.parts.settings.items in
    let s = state_of c.loop-i.self in
    let whole = with_parts k below f label at [] [] kids e (state_of c.args.self.now) in
    let lt : 2 * c.loop-i.i + 1 < length kids = omega (arith, c.loop-i-test.true, c.requires.pairs) in
    let run = c.loop-i.invariant.run in
    let s1 = state_of c.pair.new.self in
    let bad = pair_bad k below f label at kids c.loop-i.i vs ps e s whole lt run s1 (search rules) in
    let over : Fails c.in_err-bad.field-0.0 (wrong k (codes "bad") label e s1) =
    search (rules, c.in_err-bad.ensures.gives e) in
    rw (p.1, p.2) (fails_as c.in_err-bad.field-0.0 _ _ bad over)

pub all_pairs-returns-in_default-clause-goes : goal.all_pairs-returns-in_default-clause-goes
all_pairs-returns-in_default-clause-goes g t c =
    let k = c.args.levels in
    let below = ex (c.args.levels - 1) in
    let f = frame_in c.args.frame in
    let label = c.args.label.now in
    let at = c.args.t.now.at in
    let kids = kids_of (tagged_of c.args.t.now) in
    let e = before_of c.args.env.now in
    let vs = c.loop-i.parts.values.items in
    let ps = sets_of c.loop-i.parts.settings.items in
    let s = state_of c.loop-i.self in
    let whole = with_parts k below f label at [] [] kids e (state_of c.args.self.now) in
    let lt : 2 * c.loop-i.i + 1 < length kids = omega (arith, c.loop-i-test.true, c.requires.pairs) in
    let run = c.loop-i.invariant.run in
    let s1 = state_of c.pair.new.self in
    let bad = pair_bad k below f label at kids c.loop-i.i vs ps e s whole lt run s1 (search rules) in
    search (rules, bad, c.in_ok-bad.ensures.gives e)

pub all_pairs-add-requires-clause-nodes : goal.all_pairs-add-requires-clause-nodes
all_pairs-add-requires-clause-nodes g t c =
    let value = plain c.in-Some.pair.value in
    let total : c.loop-i.parts.total + size_of value ≤ 1000000 = search rules in
    omega (arith, total, nodes_le_size value, c.loop-i.invariant.told.few)

pub all_pairs-loop-i-preserved : goal.all_pairs-loop-i-preserved
all_pairs-loop-i-preserved g t c =
    let k = c.args.levels in
    let below = ex (c.args.levels - 1) in
    let f = frame_in c.args.frame in
    let label = c.args.label.now in
    let at = c.args.t.now.at in
    let kids = kids_of (tagged_of c.args.t.now) in
    let e = before_of c.args.env.now in
    let vs = c.loop-i.parts.values.items in
    let ps = sets_of c.loop-i.parts.settings.items in
    let s = state_of c.loop-i.self in
    let whole = with_parts k below f label at [] [] kids e (state_of c.args.self.now) in
    let lt : 2 * c.loop-i.i + 1 < length kids = omega (arith, c.loop-i-test.true, c.requires.pairs) in
    let run = c.loop-i.invariant.run in
    let s1 = state_of c.pair.new.self in
    let next = pair_next k below f label at kids c.loop-i.i vs ps e s whole lt run c.in-Some.pair s1 in
    let added = c.in_ok-add.ensures in
    let parts = c.add.new.self in
    record {
      run = next parts.values.items (sets_of parts.settings.items) (search rules) added.values added.settings;
      paid = omega (arith, c.loop-i.invariant.paid, c.in_ok-found.ensures.paid);
      told =
          told_next _ _ _ _ c.in-Some.pair _ _ _ _ _ _ _ _ _ c.loop-i.invariant.told added.values added.settings
          added.counted added.total added.nodes (search rules) (search rules);
    }

pub with_parts-returns-in-None-clause-gives : goal.with_parts-returns-in-None-clause-gives
with_parts-returns-in-None-clause-gives g t c =
    let k = c.args.levels in
    let below = ex (c.args.levels - 1) in
    let f = frame_in c.args.frame in
    let label = c.args.label.now in
    let at = c.args.t.now.at in
    let kids = kids_of (tagged_of c.args.t.now) in
    let e = before_of c.args.env.now in
    let s1 = state_of c.all_pairs.new.self in
    let vs = c.all_pairs.new.parts.values.items in
    let ps = sets_of c.all_pairs.new.parts.settings.items in
    let goes :
    with_parts k below f label at [] [] kids e (state_of c.args.self.now)
    ≡ with_parts k below f label at vs ps (drop (2 * c.args.pairs) kids) e s1 =
    search rules in
    let last = with_last k below f label at vs ps kids c.args.pairs e s1 c.requires.pairs in
    gives_as (λ v. v) c.with_body.result _ _ _ (goes ∙ last) c.with_body.ensures.gives

pub pick-returns-in_err-found-clause-goes : goal.pick-returns-in_err-found-clause-goes
pick-returns-in_err-found-clause-goes g t c =
    let k = c.args.levels in
    let below = ex (c.args.levels - 1) in
    let f = frame_in c.args.frame in
    let label = c.args.label.now in
    let e = before_of c.args.env.now in
    let kids = kids_of (tagged_of c.args.t.now) in
    let i = c.loop-i.i in
    let s = state_of c.loop-i.self in
    let whole = chosen k below f label kids e (state_of c.args.self.now) in
    let run = c.loop-i.invariant.run in
    let lt : 2 * i + 1 < length kids =
    omega (arith, c.loop-i-test.true, c.half-pairs.ensures.least, c.arity-count.ensures) in
    let here = c.in_ok-condition.ensures in
    let condition = tagged_of c.in_ok-condition.condition in
    let p = err_from_is_err_and c.from_residual-in_err-found.result c.from_residual-in_err-found.ensures.1 in
    let stop = pick_stop k below f label kids i condition e s whole here lt run in
    rw (p.1, p.2) (stop c.in_err-found.field-0.0 c.in_err-found.ensures.gives)

pub pick-returns-in_default-clause-goes : goal.pick-returns-in_default-clause-goes
pick-returns-in_default-clause-goes g t c =
    let k = c.args.levels in
    let below = ex (c.args.levels - 1) in
    let f = frame_in c.args.frame in
    let label = c.args.label.now in
    let e = before_of c.args.env.now in
    let kids = kids_of (tagged_of c.args.t.now) in
    let i = c.loop-i.i in
    let s = state_of c.loop-i.self in
    let whole = chosen k below f label kids e (state_of c.args.self.now) in
    let run = c.loop-i.invariant.run in
    let lt : 2 * i + 1 < length kids =
    omega (arith, c.loop-i-test.true, c.half-pairs.ensures.least, c.arity-count.ensures) in
    let here = c.in_ok-condition.ensures in
    let condition = tagged_of c.in_ok-condition.condition in
    let gave = truth_run below f condition e s in
    let found =
    found_as gave c.in_ok-found.found None (state_of c.truth.new.self)
    c.in_ok-found.ensures.gives c.in_default.is in
    pick_bad k below f label kids i condition e s whole here lt run (state_of c.truth.new.self) found

pub pick-returns-then-holds-clause-goes : goal.pick-returns-then-holds-clause-goes
pick-returns-then-holds-clause-goes g t c =
    let k = c.args.levels in
    let below = ex (c.args.levels - 1) in
    let f = frame_in c.args.frame in
    let label = c.args.label.now in
    let e = before_of c.args.env.now in
    let kids = kids_of (tagged_of c.args.t.now) in
    let i = c.loop-i.i in
    let s = state_of c.loop-i.self in
    let whole = chosen k below f label kids e (state_of c.args.self.now) in
    let run = c.loop-i.invariant.run in
    let lt : 2 * i + 1 < length kids =
    omega (arith, c.loop-i-test.true, c.half-pairs.ensures.least, c.arity-count.ensures) in
    let here = c.in_ok-condition.ensures in
    let condition = tagged_of c.in_ok-condition.condition in
    let gave = truth_run below f condition e s in
    let found =
    found_as gave c.in_ok-found.found (Some true) (state_of c.truth.new.self)
    c.in_ok-found.ensures.gives (c.in-Some.is ∙ ap Some c.if-holds.true) in
    pick_true k below f label kids i condition e s whole here lt run (state_of c.truth.new.self) found

pub pick-loop-i-preserved : goal.pick-loop-i-preserved
pick-loop-i-preserved g t c =
    let k = c.args.levels in
    let below = ex (c.args.levels - 1) in
    let f = frame_in c.args.frame in
    let label = c.args.label.now in
    let e = before_of c.args.env.now in
    let kids = kids_of (tagged_of c.args.t.now) in
    let i = c.loop-i.i in
    let s = state_of c.loop-i.self in
    let whole = chosen k below f label kids e (state_of c.args.self.now) in
    let run = c.loop-i.invariant.run in
    let lt : 2 * i + 1 < length kids =
    omega (arith, c.loop-i-test.true, c.half-pairs.ensures.least, c.arity-count.ensures) in
    let here = c.in_ok-condition.ensures in
    let condition = tagged_of c.in_ok-condition.condition in
    let gave = truth_run below f condition e s in
    let found =
    found_as gave c.in_ok-found.found (Some false) (state_of c.truth.new.self)
    c.in_ok-found.ensures.gives (c.in-Some.is ∙ ap Some c.if-holds.false) in
    record {
      run = pick_false k below f label kids i condition e s whole here lt run (state_of c.truth.new.self) found;
      paid = omega (arith, c.loop-i.invariant.paid, c.in_ok-found.ensures.paid);
      left = omega (arith, c.loop-i.invariant.left, c.in_ok-found.ensures.left);
    }

pub pick-returns-then-count-pairs-clause-goes : goal.pick-returns-then-count-pairs-clause-goes
pick-returns-then-count-pairs-clause-goes g t c =
    let k = c.args.levels in
    let below = ex (c.args.levels - 1) in
    let f = frame_in c.args.frame in
    let label = c.args.label.now in
    let e = before_of c.args.env.now in
    let kids = kids_of (tagged_of c.args.t.now) in
    let i = c.loop-i.i in
    let s = state_of c.loop-i.self in
    let whole = chosen k below f label kids e (state_of c.args.self.now) in
    let run = c.loop-i.invariant.run in
    let all : i ≡ c.half-pairs.result = omega (arith, c.loop-i-test.false, c.loop-i.auto.i-end) in
    pick_nothing k below f label kids i c.half-pairs.result e s whole all run
    (omega (arith, c.arity-count.ensures, c.if-count-pairs.true))

pub pick-returns-clause-goes : goal.pick-returns-clause-goes
pick-returns-clause-goes g t c =
    let k = c.args.levels in
    let below = ex (c.args.levels - 1) in
    let f = frame_in c.args.frame in
    let label = c.args.label.now in
    let e = before_of c.args.env.now in
    let kids = kids_of (tagged_of c.args.t.now) in
    let i = c.loop-i.i in
    let s = state_of c.loop-i.self in
    let whole = chosen k below f label kids e (state_of c.args.self.now) in
    let run = c.loop-i.invariant.run in
    let all : i ≡ c.half-pairs.result = omega (arith, c.loop-i-test.false, c.loop-i.auto.i-end) in
    let odd =
    odd_count c.arity-count.result c.half-pairs.result c.half-pairs.ensures.least c.half-pairs.ensures.most
    c.if-count-pairs.false in
    pick_last k below f label kids i c.half-pairs.result e s whole all run (omega (arith, c.arity-count.ensures, odd))

pub all_turns-returns-in_err-found-clause-goes : goal.all_turns-returns-in_err-found-clause-goes
all_turns-returns-in_err-found-clause-goes g t c =
    let k = c.args.levels in
    let below = ex (c.args.levels - 1) in
    let f = frame_in c.args.frame in
    let label = c.args.label.now in
    let e = before_of c.args.env.now in
    let condition = tagged_of c.args.condition.now in
    let body = tagged_of c.args.body.now in
    let i = c.loop-turn.turn in
    let vs = c.loop-turn.values.items in
    let s = state_of c.loop-turn.self in
    let whole = turns MOST_TURNS k below f label condition body [] e (state_of c.args.self.now) in
    let run = c.loop-turn.invariant.run in
    let more = one_less MOST_TURNS i c.loop-turn-test.true in
    let left = MOST_TURNS - i in
    let next = MOST_TURNS - (i + 1) in
    let p = err_from_is_err_and c.from_residual.result c.from_residual.ensures.1 in
    let stop = turn_stop k below f label condition body vs e s whole left next more run in
    rw (p.1, p.2) (stop c.in_err-found.field-0.0 c.in_err-found.ensures.gives)

pub all_turns-returns-in_default-clause-goes : goal.all_turns-returns-in_default-clause-goes
all_turns-returns-in_default-clause-goes g t c =
    let k = c.args.levels in
    let below = ex (c.args.levels - 1) in
    let f = frame_in c.args.frame in
    let label = c.args.label.now in
    let e = before_of c.args.env.now in
    let condition = tagged_of c.args.condition.now in
    let body = tagged_of c.args.body.now in
    let i = c.loop-turn.turn in
    let vs = c.loop-turn.values.items in
    let s = state_of c.loop-turn.self in
    let whole = turns MOST_TURNS k below f label condition body [] e (state_of c.args.self.now) in
    let run = c.loop-turn.invariant.run in
    let more = one_less MOST_TURNS i c.loop-turn-test.true in
    let left = MOST_TURNS - i in
    let next = MOST_TURNS - (i + 1) in
    let gave = truth_run below f condition e s in
    let found =
    found_as gave c.in_ok-found.found None (state_of c.truth.new.self)
    c.in_ok-found.ensures.gives c.in_default.is in
    turn_bad k below f label condition body vs e s whole left next more run (state_of c.truth.new.self) found

pub all_turns-returns-then-not-holds-clause-goes : goal.all_turns-returns-then-not-holds-clause-goes
all_turns-returns-then-not-holds-clause-goes g t c =
    let k = c.args.levels in
    let below = ex (c.args.levels - 1) in
    let f = frame_in c.args.frame in
    let label = c.args.label.now in
    let e = before_of c.args.env.now in
    let condition = tagged_of c.args.condition.now in
    let body = tagged_of c.args.body.now in
    let i = c.loop-turn.turn in
    let vs = c.loop-turn.values.items in
    let s = state_of c.loop-turn.self in
    let whole = turns MOST_TURNS k below f label condition body [] e (state_of c.args.self.now) in
    let run = c.loop-turn.invariant.run in
    let more = one_less MOST_TURNS i c.loop-turn-test.true in
    let left = MOST_TURNS - i in
    let next = MOST_TURNS - (i + 1) in
    let gave = truth_run below f condition e s in
    let found =
    found_as gave c.in_ok-found.found (Some false) (state_of c.truth.new.self)
    c.in_ok-found.ensures.gives (c.in-Some.is ∙ ap Some c.if-not-holds.true) in
    turn_end k below f label condition body vs e s whole left next more run (state_of c.truth.new.self) found

pub all_turns-returns-in_err-value-clause-goes : goal.all_turns-returns-in_err-value-clause-goes
all_turns-returns-in_err-value-clause-goes g t c =
    let k = c.args.levels in
    let below = ex (c.args.levels - 1) in
    let f = frame_in c.args.frame in
    let label = c.args.label.now in
    let e = before_of c.args.env.now in
    let condition = tagged_of c.args.condition.now in
    let body = tagged_of c.args.body.now in
    let i = c.loop-turn.turn in
    let vs = c.loop-turn.values.items in
    let s = state_of c.loop-turn.self in
    let whole = turns MOST_TURNS k below f label condition body [] e (state_of c.args.self.now) in
    let run = c.loop-turn.invariant.run in
    let more = one_less MOST_TURNS i c.loop-turn-test.true in
    let left = MOST_TURNS - i in
    let next = MOST_TURNS - (i + 1) in
    let p = err_from_is_err_and c.from_residual-in_err-value.result c.from_residual-in_err-value.ensures.1 in
    let gave = truth_run below f condition e s in
    let found =
    found_as gave c.in_ok-found.found (Some true) (state_of c.truth.new.self)
    c.in_ok-found.ensures.gives (c.in-Some.is ∙ ap Some c.if-not-holds.false) in
    let stop = body_stop k below f label condition body vs e s whole left next more run (state_of c.truth.new.self) in
    rw (p.1, p.2) (stop c.in_err-value.field-0.0 found c.in_err-value.ensures.gives)

pub all_turns-loop-turn-preserved : goal.all_turns-loop-turn-preserved
all_turns-loop-turn-preserved g t c =
    let k = c.args.levels in
    let below = ex (c.args.levels - 1) in
    let f = frame_in c.args.frame in
    let label = c.args.label.now in
    let e = before_of c.args.env.now in
    let condition = tagged_of c.args.condition.now in
    let body = tagged_of c.args.body.now in
    let i = c.loop-turn.turn in
    let vs = c.loop-turn.values.items in
    let s = state_of c.loop-turn.self in
    let whole = turns MOST_TURNS k below f label condition body [] e (state_of c.args.self.now) in
    let run = c.loop-turn.invariant.run in
    let more = one_less MOST_TURNS i c.loop-turn-test.true in
    let left = MOST_TURNS - i in
    let next = MOST_TURNS - (i + 1) in
    let gave = truth_run below f condition e s in
    let found =
    found_as gave c.in_ok-found.found (Some true) (state_of c.truth.new.self)
    c.in_ok-found.ensures.gives (c.in-Some.is ∙ ap Some c.if-not-holds.false) in
    let held = c.loop-turn.invariant in
    let pushed = c.in_ok-push.ensures.items in
    record {
      run =
          turn_next k below f label condition body vs e s whole left next more run (state_of c.truth.new.self)
          (state_of c.ev.new.self) c.in_ok-value.value c.push.new.self.items found c.in_ok-value.ensures.gives pushed;
      paid = omega (arith, held.paid, c.in_ok-found.ensures.paid, c.in_ok-value.ensures.paid);
      few = grind (arith, common_steps, held.few, pushed);
      size =
          next_size _ _ _ _ _ _ pushed (omega (arith, held.size, c.in_ok-found.ensures.left))
          c.in_ok-value.ensures.size;
      depth = next_depth _ _ _ _ pushed held.depth c.in_ok-value.ensures.depth;
    }

pub all_turns-returns-in_err-last-clause-goes : goal.all_turns-returns-in_err-last-clause-goes
all_turns-returns-in_err-last-clause-goes g t c =
    let k = c.args.levels in
    let below = ex (c.args.levels - 1) in
    let f = frame_in c.args.frame in
    let label = c.args.label.now in
    let e = before_of c.args.env.now in
    let condition = tagged_of c.args.condition.now in
    let body = tagged_of c.args.body.now in
    let i = c.loop-turn.turn in
    let vs = c.loop-turn.values.items in
    let s = state_of c.loop-turn.self in
    let whole = turns MOST_TURNS k below f label condition body [] e (state_of c.args.self.now) in
    let run = c.loop-turn.invariant.run in
    let left = MOST_TURNS - i in
    let none : left ≡ 0 = omega (arith, c.loop-turn-test.false, c.loop-turn.auto.turn-end) in
    let p = err_from_is_err_and c.from_residual-in_err-last.result c.from_residual-in_err-last.ensures.1 in
    let stop = last_stop k below f label condition body vs e s whole left none run in
    rw (p.1, p.2) (stop c.in_err-last.field-0.0 c.in_err-last.ensures.gives)

pub all_turns-returns-in-None-clause-goes : goal.all_turns-returns-in-None-clause-goes
all_turns-returns-in-None-clause-goes g t c =
    let k = c.args.levels in
    let below = ex (c.args.levels - 1) in
    let f = frame_in c.args.frame in
    let label = c.args.label.now in
    let e = before_of c.args.env.now in
    let condition = tagged_of c.args.condition.now in
    let body = tagged_of c.args.body.now in
    let i = c.loop-turn.turn in
    let vs = c.loop-turn.values.items in
    let s = state_of c.loop-turn.self in
    let whole = turns MOST_TURNS k below f label condition body [] e (state_of c.args.self.now) in
    let run = c.loop-turn.invariant.run in
    let left = MOST_TURNS - i in
    let none : left ≡ 0 = omega (arith, c.loop-turn-test.false, c.loop-turn.auto.turn-end) in
    let gave = truth_run below f condition e s in
    let found =
    found_as gave c.in_ok-last.last None (state_of c.truth-2.new.self)
    c.in_ok-last.ensures.gives c.in-None.is in
    last_bad k below f label condition body vs e s whole left none run (state_of c.truth-2.new.self) found

pub all_turns-returns-in-Some-last-clause-goes : goal.all_turns-returns-in-Some-last-clause-goes
all_turns-returns-in-Some-last-clause-goes g t c =
    let k = c.args.levels in
    let below = ex (c.args.levels - 1) in
    let f = frame_in c.args.frame in
    let label = c.args.label.now in
    let e = before_of c.args.env.now in
    let condition = tagged_of c.args.condition.now in
    let body = tagged_of c.args.body.now in
    let i = c.loop-turn.turn in
    let vs = c.loop-turn.values.items in
    let s = state_of c.loop-turn.self in
    let whole = turns MOST_TURNS k below f label condition body [] e (state_of c.args.self.now) in
    let run = c.loop-turn.invariant.run in
    let left = MOST_TURNS - i in
    let none : left ≡ 0 = omega (arith, c.loop-turn-test.false, c.loop-turn.auto.turn-end) in
    let gave = truth_run below f condition e s in
    let found =
    found_as gave c.in_ok-last.last (Some c.in-Some-last.holds) (state_of c.truth-2.new.self)
    c.in_ok-last.ensures.gives c.in-Some-last.is in
    let ends = last_holds k below f label condition body vs e s whole left none run c.in-Some-last.holds in
    ends (state_of c.truth-2.new.self) c.last_ending.result found c.last_ending.ensures
