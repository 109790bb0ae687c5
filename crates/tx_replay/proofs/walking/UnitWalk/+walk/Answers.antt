use Rattle.std.proofs.Common.{rules, ◌-◌, ◌<◌, ◌≤◌, [], ◌∷◌, ◌++◌, ap, sym, subst, ◌∙◌, arith}
use Rattle.std.proofs.lemmas.Result.{err_from_is_err_and}
use Rattle.std.specs.Prelude.{codes}
use Rattle.tx_tree.specs.WideTree.{children_of}
use Rattle.tx_exec_form.specs.Rows.{set_all}
use Rattle.tx_replay.specs.Cached.{stores_in, closed}
use Rattle.tx_replay.specs.Going.{names_of}
use Rattle.tx_replay.specs.Holding.{held_of, AreHeldFor}
use Rattle.tx_replay.specs.Stages.{stage_of}
use Rattle.tx_replay.specs.Walks.{walk, children_walk, document_walk, part_walk}
use Rattle.tx_replay.proofs.Answering.{walks_as}
use Rattle.tx_replay.proofs.HeldNames.{held_by_scopes}
use Rattle.tx_replay.proofs.Levels.{none_walk, document_level, shut_level}
use Rattle.tx_replay.proofs.OpenSteps.{same_names, bounds_of, next_child, stop_child, size_next, depth_next, count_next}
use Rattle.tx_replay.proofs.OpenSteps.{document_unentered, document_stopped, document_went}
use Rattle.tx_replay.proofs.OpenSteps.{scope_found, scope_dear, scope_unpaid, scope_unbegun, scope_stopped, scope_went}
use Rattle.tx_replay.proofs.OpenSteps.{scope_arity, scope_depth, scope_size}
use Rattle.tx_replay.proofs.Scopes.{document_label, few_children}
use Rattle.tx_replay.proofs.Sound.{child_sound, sound_at}
use Rattle.tx_replay.proofs.walking.UnitWalk.+walk.Goals as goal

-- ---- children

pub children-returns-in_err-value-clause-walks : goal.children-returns-in_err-value-clause-walks
children-returns-in_err-value-clause-walks g t c =
    let p = err_from_is_err_and c.from_residual-in_err-value.result c.from_residual-in_err-value.ensures.1 in
    let walker = walk (closed c.args.source.now) c.args.levels in
    let e = names_of c.args.self.now.progress in
    let kids = children_of c.args.t.now in
    let whole = children_walk walker c.args.path.now 0 [] kids e (stage_of c.args.self.now c.args.steps.now) in
    rw (p.1, p.2)
    (stop_child walker c.args.path.now kids c.loop-i.i c.loop-i.values.items e (names_of c.loop-i.self.progress)
    (stage_of c.loop-i.self c.loop-i.steps) whole
    (same_names c.loop-i.self.progress c.args.self.now.progress c.loop-i.invariant.scopes)
    c.in_err-value.field-0.0 c.in-Some.kid.now c.in_ok-below.below c.tree.new.steps c.in-Some.ensures
    c.in_ok-below.ensures c.in_err-value.ensures.walks c.loop-i.invariant.run)

pub children-loop-i-preserved : goal.children-loop-i-preserved
children-loop-i-preserved g t c =
    let walker = walk (closed c.args.source.now) c.args.levels in
    let e = names_of c.args.self.now.progress in
    let kids = children_of c.args.t.now in
    let whole = children_walk walker c.args.path.now 0 [] kids e (stage_of c.args.self.now c.args.steps.now) in
    let vs = c.loop-i.values.items in
    let us = c.push.new.self.items in
    let v = c.in_ok-value.value in
    let held = c.loop-i.invariant in
    let b = c.in_ok-value.ensures.bounds in
    record {
      run = next_child walker c.args.path.now kids c.loop-i.i vs e (names_of c.loop-i.self.progress)
          (stage_of c.loop-i.self c.loop-i.steps) whole
          (same_names c.loop-i.self.progress c.args.self.now.progress held.scopes) c.in-Some.kid.now
          c.in_ok-below.below us v (stage_of c.tree.new.self c.tree.new.steps) c.in-Some.ensures c.in_ok-below.ensures
          c.in_ok-value.ensures.walks c.in_ok-push.ensures.items held.run;
      scopes = c.in_ok-value.ensures.scopes ∙ held.scopes;
      arity = count_next vs us v c.loop-i.i c.in_ok-push.ensures.items held.arity;
      size = size_next vs us v c.args.levels c.args.self.now.progress.state c.loop-i.self.progress.state
          c.tree.new.self.progress.state c.in_ok-push.ensures.items held.size b;
      depth = depth_next vs us v c.args.levels c.loop-i.self.progress.state c.tree.new.self.progress.state
          c.in_ok-push.ensures.items held.depth b;
      slack = b.slack;
    }

-- ---- a `document`

pub document-returns-in_err-enter-clause-walks : goal.document-returns-in_err-enter-clause-walks
document-returns-in_err-enter-clause-walks g t c =
    let p = err_from_is_err_and c.from_residual.result c.from_residual.ensures.1 in
    let e = names_of c.args.self.now.progress in
    rw (p.1, p.2)
    (document_unentered c.args.levels (walk (closed c.args.source.now) (c.args.levels - 1)) c.args.path.now
    (children_of c.args.t.now) e e (stage_of c.args.self.now c.args.steps.now) c.in_err-enter.field-0.0
    (c.in_err-enter.ensures.gives e))

pub document-returns-in_err-values-clause-walks : goal.document-returns-in_err-values-clause-walks
document-returns-in_err-values-clause-walks g t c =
    let p = err_from_is_err_and c.from_residual-in_err-values.result c.from_residual-in_err-values.ensures.1 in
    let e = names_of c.args.self.now.progress in
    rw (p.1, p.2)
    (document_stopped c.args.levels (walk (closed c.args.source.now) (c.args.levels - 1)) c.args.path.now
    (children_of c.args.t.now) e (names_of c.enter.new.self) (stage_of c.args.self.now c.args.steps.now)
    c.in_err-values.field-0.0 c.enter.new.self.state c.children.new.steps
    (same_names c.enter.new.self c.args.self.now.progress c.in_ok-enter.ensures.scopes)
    (c.in_ok-enter.ensures.gives e) c.in_err-values.ensures.walks)

pub document-node_at-requires-clause-arity : goal.document-node_at-requires-clause-arity
document-node_at-requires-clause-arity g t c =
    omega (arith, c.in_ok-values.ensures.bounds.arity, few_children c.args.t.now c.size-size.ensures.within)

pub document-returns-clause-walks : goal.document-returns-clause-walks
document-returns-clause-walks g t c =
    let e = names_of c.args.self.now.progress in
    document_went c.args.levels (walk (closed c.args.source.now) (c.args.levels - 1)) c.args.path.now
    (children_of c.args.t.now) e (names_of c.enter.new.self) (stage_of c.args.self.now c.args.steps.now)
    c.enter.new.self.state c.in_ok-values.values.items (stage_of c.children.new.self c.children.new.steps)
    c.in_ok-node_at.field-0 (same_names c.enter.new.self c.args.self.now.progress c.in_ok-enter.ensures.scopes)
    (c.in_ok-enter.ensures.gives e) c.in_ok-values.ensures.walks
    (c.in_ok-node_at.ensures (codes "document") (document_label c.args.t.now c.requires.opens))

-- ---- by how a tree is gone into

pub level-returns-then-levels-eq0-clause-walks : goal.level-returns-then-levels-eq0-clause-walks
level-returns-then-levels-eq0-clause-walks g t c =
    none_walk (stores_in c.args.source.now) c.args.levels c.args.path.now c.args.t.now
    (names_of c.args.self.now.progress) (stage_of c.args.self.now c.args.steps.now) c.if-levels-eq0.true

pub level-returns-in-Document-clause-walks : goal.level-returns-in-Document-clause-walks
level-returns-in-Document-clause-walks g t c =
    let e = names_of c.args.self.now.progress in
    let s = stage_of c.args.self.now c.args.steps.now in
    let some : 0 < c.args.levels = omega (arith, c.if-levels-eq0.false) in
    walks_as (λ v. v) c.document.result
    (walk (closed c.args.source.now) c.args.levels c.args.path.now c.args.t.now e s)
    (document_walk c.args.levels (walk (closed c.args.source.now) (c.args.levels - 1)) c.args.path.now
    (children_of c.args.t.now) e s)
    (stage_of c.document.new.self c.document.new.steps)
    (document_level (stores_in c.args.source.now) c.args.levels c.args.path.now c.args.t.now e s some
    (children_of c.args.t.now) c.in-Document.ensures)
    c.document.ensures.walks

pub level-returns-in-Shut-clause-walks : goal.level-returns-in-Shut-clause-walks
level-returns-in-Shut-clause-walks g t c =
    let e = names_of c.args.self.now.progress in
    let s = stage_of c.args.self.now c.args.steps.now in
    let some : 0 < c.args.levels = omega (arith, c.if-levels-eq0.false) in
    walks_as (λ v. v) c.part.result
    (walk (closed c.args.source.now) c.args.levels c.args.path.now c.args.t.now e s)
    (part_walk (stores_in c.args.source.now) c.args.levels c.args.path.now c.args.t.now e s)
    (stage_of c.part.new.self c.part.new.steps)
    (shut_level (stores_in c.args.source.now) c.args.levels c.args.path.now c.args.t.now e s some c.in-Shut.ensures)
    c.part.ensures.walks

pub tree-returns-clause-bounds : goal.tree-returns-clause-bounds
tree-returns-clause-bounds g t c =
    bounds_of (stores_in c.args.source.now) c.args.levels c.args.path.now c.args.t.now
    (names_of c.args.self.now.progress) (stage_of c.args.self.now c.args.steps.now)
    (stage_of c.level.new.self c.level.new.steps) c.level.result c.requires.slack c.level.ensures.walks

-- ---- a `with`

pub scope-scope_with-requires : goal.scope-scope_with-requires
scope-scope_with-requires g t c κs within =
    let o = c.requires.opens in
    search (
      rules,
      scope_found c.args.t.now o.1 c.args.path.now c.left.result o.0 c.in_ok-settings_of.field-0 c.in-Some.settings o.2
          c.in_ok-settings_of.ensures c.in-Some.is,
    )

pub scope-returns-in-None-clause-walks : goal.scope-returns-in-None-clause-walks
scope-returns-in-None-clause-walks g t c =
    let o = c.requires.opens in
    scope_unpaid (stores_in c.args.source.now) c.args.levels c.args.path.now c.args.t.now o.1 o.0
    (names_of c.args.self.now.progress) (stage_of c.args.self.now c.args.steps.now) c.requires.some o.2
    (scope_dear c.args.t.now o.1 c.args.path.now c.args.self.now.progress.state.left c.left.result o.0
    c.in_ok-settings_of.field-0 o.2 c.in_ok-settings_of.ensures c.in-None.is c.left.ensures)

pub scope_with-returns-in_err-before-clause-walks :
    goal.scope_with-returns-in_err-before-clause-walks
scope_with-returns-in_err-before-clause-walks g t c =
    let p = err_from_is_err_and c.from_residual-in_err-before.result c.from_residual-in_err-before.ensures.1 in
    let e = names_of c.args.self.now.progress in
    rw (p.1, p.2)
    (scope_unbegun (stores_in c.args.source.now) c.args.levels c.args.path.now c.args.t.now e e
    (stage_of c.args.self.now c.args.steps.now) c.requires.some c.args.settings c.requires.scope c.deref.result.now
    c.deref.ensures.value c.in_err-before.field-0.0 (c.in_err-before.ensures.gives e))

pub scope_with-tree-requires : goal.scope_with-tree-requires
scope_with-tree-requires g t c κs within =
    let few : c.begin_with.new.self.state.left ≤ 1000000 =
    omega (arith, c.in_ok-before.ensures.left, c.requires.left) in
    let low : c.begin_with.new.self.state.slack ≤ c.args.levels - 1 = omega (arith, c.in_ok-before.ensures.slack) in
    search (
      rules,
      few,
      low,
      sound_at (stores_in c.args.source.now) (c.args.path.now ++ (c.arity-last.result - 1) ∷ []) c.in_ok-below.below
          c.in-Some.inner.now c.in_ok-below.ensures
          (child_sound (stores_in c.args.source.now) c.args.path.now c.args.t.now c.in-Some.inner.now
          (c.arity-last.result - 1) c.in-Some.ensures c.requires.sound),
    )

pub scope_with-returns-in_err-value-clause-walks :
    goal.scope_with-returns-in_err-value-clause-walks
scope_with-returns-in_err-value-clause-walks g t c =
    let p = err_from_is_err_and c.from_residual-in_err-value.result c.from_residual-in_err-value.ensures.1 in
    let e = names_of c.args.self.now.progress in
    rw (p.1, p.2)
    (scope_stopped (stores_in c.args.source.now) c.args.levels c.args.path.now c.args.t.now e
    (names_of c.begin_with.new.self) (stage_of c.args.self.now c.args.steps.now) c.requires.some c.args.settings
    c.requires.scope c.deref.result.now c.deref.ensures.value (c.arity-last.result - 1)
    (ap (λ n. n - 1) c.arity-last.ensures) c.in_err-value.field-0.0 c.in_ok-below.below c.in-Some.inner.now
    (held_of c.in_ok-before.before.items) c.begin_with.new.self.state c.tree.new.steps c.in_ok-below.ensures
    c.in-Some.ensures (same_names c.begin_with.new.self c.args.self.now.progress c.in_ok-before.ensures.scopes)
    (c.in_ok-before.ensures.gives e) c.in_err-value.ensures.walks)

pub scope_with-set_back-requires : goal.scope_with-set_back-requires
scope_with-set_back-requires g t c =
    subst (AreHeldFor (names_of c.tree.new.self.progress)) (sym c.deref-2.ensures.value)
    (held_by_scopes c.tree.new.self.progress.scopes c.args.self.now.progress.scopes c.in_ok-before.before.items
    (c.in_ok-value.ensures.scopes ∙ c.in_ok-before.ensures.scopes) c.in_ok-before.ensures.held)

pub scope_with-with_value-requires-clause-arity : goal.scope_with-with_value-requires-clause-arity
scope_with-with_value-requires-clause-arity g t c =
    let e = names_of c.args.self.now.progress in
    scope_arity (stores_in c.args.source.now) c.args.levels c.args.path.now c.args.t.now e e
    (stage_of c.args.self.now c.args.steps.now) c.requires.some c.args.settings c.requires.scope c.deref.result.now
    c.deref.ensures.value c.size-size.ensures.within

pub scope_with-with_value-requires-clause-depth : goal.scope_with-with_value-requires-clause-depth
scope_with-with_value-requires-clause-depth g t c =
    let e = names_of c.args.self.now.progress in
    scope_depth (stores_in c.args.source.now) c.args.levels c.args.path.now c.args.t.now e e
    (stage_of c.args.self.now c.args.steps.now) c.requires.some c.args.settings c.requires.scope c.deref.result.now
    c.deref.ensures.value c.in_ok-value.value c.begin_with.new.self.state c.tree.new.self.progress.state
    c.requires.levels c.in_ok-value.ensures.bounds

pub scope_with-with_value-requires-clause-size : goal.scope_with-with_value-requires-clause-size
scope_with-with_value-requires-clause-size g t c =
    let e = names_of c.args.self.now.progress in
    scope_size (stores_in c.args.source.now) c.args.levels c.args.path.now c.args.t.now e e
    (stage_of c.args.self.now c.args.steps.now) c.requires.some c.args.settings c.requires.scope c.deref.result.now
    c.deref.ensures.value c.in_ok-value.value c.begin_with.new.self.state c.tree.new.self.progress.state
    c.requires.left c.in_ok-before.ensures.left c.in_ok-value.ensures.bounds

pub scope_with-returns-clause-walks : goal.scope_with-returns-clause-walks
scope_with-returns-clause-walks g t c =
    let e = names_of c.args.self.now.progress in
    scope_went (stores_in c.args.source.now) c.args.levels c.args.path.now c.args.t.now e
    (names_of c.begin_with.new.self) (stage_of c.args.self.now c.args.steps.now) c.requires.some c.args.settings
    c.requires.scope c.deref.result.now c.deref.ensures.value (c.arity-last.result - 1)
    (ap (λ n. n - 1) c.arity-last.ensures) c.in_ok-below.below c.in-Some.inner.now
    (held_of c.in_ok-before.before.items) c.begin_with.new.self.state c.in_ok-value.value
    (stage_of c.tree.new.self c.tree.new.steps) c.set_back.new.self.state c.in_ok-with_value.field-0
    c.in_ok-below.ensures c.in-Some.ensures
    (same_names c.begin_with.new.self c.args.self.now.progress c.in_ok-before.ensures.scopes)
    (c.in_ok-before.ensures.gives e) c.in_ok-value.ensures.walks
    (ap (λ hs. set_all (held_of hs) e c.tree.new.self.progress.state) (sym c.deref-2.ensures.value)
    ∙ c.in_ok-set_back.ensures.gives e)
    c.in_ok-with_value.ensures
