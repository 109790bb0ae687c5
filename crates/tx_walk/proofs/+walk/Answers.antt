use Rattle.std.proofs.Common.{rules, ap, refl, sym, ◌≡◌, ◌∙◌, ◌+◌, ◌-◌, ◌<◌, [], ◌∷◌, ◌++◌, arith, subst}
use Rattle.std.proofs.lemmas.Result.{IfOk-weaker}
use Rattle.std.specs.Prelude.{Some, None}
use Rattle.std.specs.Option.{option_map}
use Rattle.tx_tree.specs.WideTree.{children_of}
use Rattle.tx_exec.specs.States.{before_of}
use Rattle.tx_exec.specs.Outcomes.{wide_outcome}
use Rattle.tx_parts.proofs.Settings.{none_low}
use Rattle.tx_parts.specs.Composed.{evaluates}
use Rattle.tx_parts.specs.Opening.{shells_by}
use Rattle.tx_parts.specs.Parts.{parts_by}
use Rattle.tx_parts.proofs.Openers.{sheller_is}
use Rattle.tx_walk.specs.Guides.{guide_of}
use Rattle.tx_walk.specs.Prior.{stores_of, holder_of}
use Rattle.tx_walk.specs.Steps.{trace_under, so_far_of, stage_of, IsBehind, IsAdded}
use Rattle.tx_walk.proofs.Spending.{stays, rise_both}
use Rattle.tx_walk.proofs.Charging.{none_charged, low_charged, nothing_more}
use Rattle.tx_walk.proofs.Settled.{outcome_cost, any_ok}
use Rattle.tx_walk.proofs.Soundness.{child_sound, sound_at}
use Rattle.tx_walk.proofs.Going.{child_comes, begins, next, stops, ends}
use Rattle.tx_walk.proofs.Document.{document_label, document_over, comes_exact, comes_fits, comes_behind, comes_added}
use Rattle.tx_walk.proofs.Document.{comes_counted, comes_known}
use Rattle.tx_walk.proofs.Within.{scope_is, scope_over, scope_charged, too_dear, dear_with}
use Rattle.tx_walk.proofs.Within.{closed_exact, closed_fits, closed_added}
use Rattle.tx_walk.proofs.Within.{closed_counted, closed_known}
use Rattle.std.specs.List.{AllByRecursion}
use Rattle.std.specs.FinMap.{get, empty, from_entries}
use Rattle.tx_env.specs.Environments.{overlaid}
use Rattle.tx_parts.specs.Shells.{IsFull}
use Rattle.tx_parts.specs.Parts.{parts_in}
use Rattle.tx_walk.specs.Guides.{charged, charged_in}
use Rattle.tx_parts.specs.Layered.{evaluates_in}
use Rattle.tx_walk.specs.LayerTraces.{holds_in, AllHeldBy, AreKnownBy, AreKnownIn}
use Rattle.tx_walk.specs.Layers.{LayerStage, LayerDone}
use Rattle.tx_walk.specs.Layers.{pairs_of_settings, set_sizes, new_nodes, stage_in}
use Rattle.tx_walk.specs.Shells.{wide_layer, wide_layers, wide_shell}
use Rattle.tx_walk.specs.Shelled.{step_more, look_before, layer_by, BehindLayer}
use Rattle.tx_walk.proofs.Charging.{low_inside, none_inside}
use Rattle.tx_walk.proofs.Texts.{settings_count, inner_at}
use Rattle.tx_walk.proofs.Within.{named}
use Rattle.tx_walk.proofs.Layered.{missing, none_first, behind_same, pushed_both, added_as, added_same, behind_as}
use Rattle.tx_walk.proofs.Layered.{without_steps, nothing_in, low_in, values_cost}
use Rattle.tx_walk.proofs.Layered.{child_parts, child_charged, child_exact, child_counted, tag_parts, tag_charged}
use Rattle.tx_walk.proofs.Layered.{tag_exact, tag_counted, values_over, over_counted, dear_over, dear_counted}
use Rattle.tx_walk.proofs.Layered.{inside_exact, inside_fits, inside_behind, inside_parts, inside_counted}
use Rattle.tx_walk.proofs.Layered.{child_known, tag_known, inside_known}
use Rattle.tx_walk.proofs.+walk.Goals as goal

pub walking::walk_tree-returns-then-levels-eq0-clause-exact :
    goal.walking::walk_tree-returns-then-levels-eq0-clause-exact
walking::walk_tree-returns-then-levels-eq0-clause-exact g t c =
    sym (ap (λ k. option_map (trace_under c.args.path)
    (evaluates k c.args.left c.args.t.now (before_of c.args.env.now))) c.if-levels-eq0.true
    ∙ ap (option_map (trace_under c.args.path)) (none_low c.args.left c.args.t.now (before_of c.args.env.now)))

pub walking::walk_tree-returns-then-levels-eq0-clause-counted :
    goal.walking::walk_tree-returns-then-levels-eq0-clause-counted
walking::walk_tree-returns-then-levels-eq0-clause-counted g t c =
    nothing_more c.args.steps.now (low_charged (guide_of (g.O.Opener.opens c.args.opener.now) c.args.kept.now)
    c.args.levels c.args.left c.args.path c.args.t.now (before_of c.args.env.now) c.if-levels-eq0.true)

pub walking::one_child-walk_tree-requires : goal.walking::one_child-walk_tree-requires
walking::one_child-walk_tree-requires g t c κs within =
    search (
      rules,
      sound_at (stores_of c.args.kept.now) _ c.in_ok-below.below c.args.t.now c.in_ok-below.ensures
          c.requires.sound,
    )

pub walking::one_child-add_outcome-requires-clause-cost : goal.walking::one_child-add_outcome-requires-clause-cost
walking::one_child-add_outcome-requires-clause-cost g t c =
    outcome_cost c.args.levels _ c.args.joined.now.cost c.in_ok-below.below c.args.t.now (before_of c.args.env.now)
    (wide_outcome c.in_ok-outcome.outcome) c.in_ok-outcome.ensures.exact (omega arith)

pub walking::one_child-returns-clause-comes : goal.walking::one_child-returns-clause-comes
walking::one_child-returns-clause-comes g t c =
    IfOk-weaker c.add_outcome.result _ _ (λ went h. child_comes (guide_of (g.O.Opener.opens c.args.opener.now)
    c.args.kept.now) c.args.levels c.args.left c.args.path.now c.args.i c.args.t.now (so_far_of c.args.joined.now)
    (so_far_of c.add_outcome.new.self) (before_of c.args.env.now) (before_of c.walk_tree.new.env) c.args.done.now.items
    c.walk_tree.new.done.items c.args.steps.now c.walk_tree.new.steps c.args.progress.now.layers.items
    c.walk_tree.new.progress.layers.items c.in_ok-below.below (c.args.left - c.args.joined.now.cost) (wide_outcome
    c.in_ok-outcome.outcome) went c.in_ok-below.ensures refl c.in_ok-outcome.ensures.exact
    c.in_ok-outcome.ensures.behind c.in_ok-outcome.ensures.added c.in_ok-outcome.ensures.counted
    c.in_ok-outcome.ensures.layers h) c.add_outcome.ensures

pub walking::children-loop-i-init : goal.walking::children-loop-i-init
walking::children-loop-i-init g t c = record {
  going = begins (guide_of (g.O.Opener.opens c.args.opener.now) c.args.kept.now) c.args.levels c.args.left
      c.args.path.now (children_of c.args.t.now) (stage_of c.args.joined.now c.args.env.now c.args.done.now.items
      c.args.steps.now c.args.progress.now.layers.items)
      c.requires.nothing;
  done_ready = c.requires.done_ready;
  scopes = refl;
  spent = stays c.args.steps.now c.args.progress.now.spent;
}

pub walking::children-loop-i-preserved : goal.walking::children-loop-i-preserved
walking::children-loop-i-preserved g t c = record {
  going = next (guide_of (g.O.Opener.opens c.args.opener.now) c.args.kept.now) c.args.levels c.args.left c.args.path.now
      (children_of c.args.t.now) (stage_of c.args.joined.now c.args.env.now c.args.done.now.items c.args.steps.now
      c.args.progress.now.layers.items) c.loop-i.i (stage_of c.loop-i.joined c.loop-i.env c.loop-i.done.items
      c.loop-i.steps c.loop-i.progress.layers.items) c.loop-i.invariant.going
      c.in-Some.kid.now c.in-Some.ensures (stage_of c.one_child.new.joined c.one_child.new.env
      c.one_child.new.done.items c.one_child.new.steps c.one_child.new.progress.layers.items)
      (rw c.if-not-went.false at c.in_ok-went.ensures.comes);
  done_ready = c.in_ok-went.ensures.done_ready;
  scopes = c.in_ok-went.ensures.scopes ∙ c.loop-i.invariant.scopes;
  spent = rise_both c.args.steps.now c.args.progress.now.spent c.loop-i.steps c.loop-i.progress.spent
      c.one_child.new.steps c.one_child.new.progress.spent c.loop-i.invariant.spent c.in_ok-went.ensures.spent;
}

pub walking::children-one_child-requires : goal.walking::children-one_child-requires
walking::children-one_child-requires g t c κs within =
    search (
      rules,
      child_sound (stores_of c.args.kept.now) c.args.path.now c.args.t.now c.in-Some.kid.now c.loop-i.i
          c.in-Some.ensures c.requires.sound,
    )

pub walking::children-returns-then-not-went-clause-comes : goal.walking::children-returns-then-not-went-clause-comes
walking::children-returns-then-not-went-clause-comes g t c =
    stops (guide_of (g.O.Opener.opens c.args.opener.now) c.args.kept.now) c.args.levels c.args.left c.args.path.now
    (children_of c.args.t.now) (stage_of c.args.joined.now c.args.env.now c.args.done.now.items c.args.steps.now
    c.args.progress.now.layers.items) c.loop-i.i (stage_of c.loop-i.joined c.loop-i.env c.loop-i.done.items
    c.loop-i.steps c.loop-i.progress.layers.items) c.loop-i.invariant.going
    c.in-Some.kid.now c.in-Some.ensures (stage_of c.one_child.new.joined c.one_child.new.env
    c.one_child.new.done.items c.one_child.new.steps c.one_child.new.progress.layers.items) (rw c.if-not-went.true at
    c.in_ok-went.ensures.comes)

pub walking::children-returns-clause-comes : goal.walking::children-returns-clause-comes
walking::children-returns-clause-comes g t c =
    ends (guide_of (g.O.Opener.opens c.args.opener.now) c.args.kept.now) c.args.levels c.args.left c.args.path.now
    (children_of c.args.t.now) (stage_of c.args.joined.now c.args.env.now c.args.done.now.items c.args.steps.now
    c.args.progress.now.layers.items) c.loop-i.i (stage_of c.loop-i.joined c.loop-i.env c.loop-i.done.items
    c.loop-i.steps c.loop-i.progress.layers.items) c.loop-i.invariant.going (omega (
      arith,
      c.loop-i-test.false,
      c.loop-i.auto.i-end,
      c.arity-i-end.ensures,
    ))

pub walking::document-returns-then-left-eq0-clause-exact : goal.walking::document-returns-then-left-eq0-clause-exact
walking::document-returns-then-left-eq0-clause-exact g t c =
    sym (ap (option_map (trace_under c.args.path.now)) (document_over c.args.levels c.args.left c.args.path.now
    c.args.t.now (before_of c.args.env.now) c.requires.opens c.requires.some c.if-left-eq0.true))

pub walking::document-returns-then-left-eq0-clause-counted : goal.walking::document-returns-then-left-eq0-clause-counted
walking::document-returns-then-left-eq0-clause-counted g t c =
    nothing_more c.args.steps.now (none_charged (guide_of (g.O.Opener.opens c.args.opener.now) c.args.kept.now)
    (sheller_is (g.O.Opener.opens c.args.opener.now) (g.met.O.Opener.sound c.args.opener.now)) c.args.levels c.args.left
    c.args.path.now c.args.t.now (before_of c.args.env.now) c.if-left-eq0.true)

pub walking::document-document_of-requires : goal.walking::document-document_of-requires
walking::document-document_of-requires g t c = record {
  label = document_label c.args.t.now c.requires.opens;
  fits = comes_fits (guide_of (g.O.Opener.opens c.args.opener.now) c.args.kept.now) c.args.levels c.args.left
      c.args.path.now c.args.t.now c.requires.opens c.requires.some (omega arith) (so_far_of c.new-joined.result)
      (so_far_of c.children.new.joined) (before_of c.args.env.now) (before_of c.children.new.env) c.args.done.now.items
      c.children.new.done.items c.args.steps.now c.children.new.steps c.args.progress.now.layers.items
      c.children.new.progress.layers.items c.requires.unshelled c.in_ok-went.went c.in_ok-went.ensures.comes
      c.requires.levels
      c.requires.left c.size-size.ensures.within;
}

pub walking::document-returns-clause-exact : goal.walking::document-returns-clause-exact
walking::document-returns-clause-exact g t c =
    IfOk-weaker c.document_of.result _ _ (λ o h. h ∙ comes_exact (guide_of (g.O.Opener.opens c.args.opener.now)
    c.args.kept.now) c.args.levels c.args.left c.args.path.now c.args.t.now c.requires.opens c.requires.some (omega
    arith) (so_far_of c.new-joined.result) (so_far_of c.children.new.joined) (before_of c.args.env.now) (before_of
    c.children.new.env) c.args.done.now.items c.children.new.done.items c.args.steps.now c.children.new.steps
    c.args.progress.now.layers.items c.children.new.progress.layers.items c.requires.unshelled c.in_ok-went.went
    c.in_ok-went.ensures.comes) c.document_of.ensures.outcome

pub walking::document-returns-clause-behind : goal.walking::document-returns-clause-behind
walking::document-returns-clause-behind g t c =
    IfOk-weaker c.document_of.result _ _ (λ o h. subst (IsBehind (before_of c.args.env.now) (before_of
    c.children.new.env)) (sym h) (comes_behind (guide_of (g.O.Opener.opens c.args.opener.now) c.args.kept.now)
    c.args.levels c.args.left c.args.path.now c.args.t.now c.requires.opens c.requires.some (omega arith) (so_far_of
    c.new-joined.result) (so_far_of c.children.new.joined) (before_of c.args.env.now) (before_of c.children.new.env)
    c.args.done.now.items c.children.new.done.items c.args.steps.now c.children.new.steps
    c.args.progress.now.layers.items c.children.new.progress.layers.items c.requires.unshelled c.in_ok-went.went
    c.in_ok-went.ensures.comes)) c.document_of.ensures.outcome

pub walking::document-returns-clause-added : goal.walking::document-returns-clause-added
walking::document-returns-clause-added g t c =
    IfOk-weaker c.document_of.result _ _ (λ o h. subst (IsAdded (stores_of c.args.kept.now) (parts_by (shells_by
    (g.O.Opener.opens c.args.opener.now)) c.args.levels c.args.left c.args.path.now c.args.t.now (before_of
    c.args.env.now)) c.args.done.now.items c.children.new.done.items) (sym h) (comes_added (guide_of (g.O.Opener.opens
    c.args.opener.now) c.args.kept.now) c.args.levels c.args.left c.args.path.now c.args.t.now c.requires.opens
    c.requires.some (omega arith) (so_far_of c.new-joined.result) (so_far_of c.children.new.joined) (before_of
    c.args.env.now) (before_of c.children.new.env) c.args.done.now.items c.children.new.done.items c.args.steps.now
    c.children.new.steps c.args.progress.now.layers.items c.children.new.progress.layers.items c.requires.unshelled
    c.in_ok-went.went c.in_ok-went.ensures.comes)) c.document_of.ensures.outcome

pub walking::document-returns-clause-layers : goal.walking::document-returns-clause-layers
walking::document-returns-clause-layers g t c =
    IfOk-weaker c.document_of.result _ _ (λ o h. subst (AreKnownBy (shells_by (g.O.Opener.opens c.args.opener.now))
    c.args.levels c.args.left c.args.t.now (before_of c.args.env.now) c.args.progress.now.layers.items
    c.children.new.progress.layers.items) (sym h) (comes_known (guide_of (g.O.Opener.opens c.args.opener.now)
    c.args.kept.now) c.args.levels c.args.left c.args.path.now c.args.t.now c.requires.opens c.requires.some (omega
    arith) (so_far_of c.new-joined.result) (so_far_of c.children.new.joined) (before_of c.args.env.now) (before_of
    c.children.new.env) c.args.done.now.items c.children.new.done.items c.args.steps.now c.children.new.steps
    c.args.progress.now.layers.items c.children.new.progress.layers.items c.requires.unshelled c.in_ok-went.went
    c.in_ok-went.ensures.comes)) c.document_of.ensures.outcome

pub walking::document-returns-clause-counted : goal.walking::document-returns-clause-counted
walking::document-returns-clause-counted g t c =
    any_ok c.document_of.result _ (comes_counted (guide_of (g.O.Opener.opens c.args.opener.now) c.args.kept.now)
    c.args.levels c.args.left c.args.path.now c.args.t.now c.requires.opens c.requires.some (omega arith) (so_far_of
    c.new-joined.result) (so_far_of c.children.new.joined) (before_of c.args.env.now) (before_of c.children.new.env)
    c.args.done.now.items c.children.new.done.items c.args.steps.now c.children.new.steps
    c.args.progress.now.layers.items c.children.new.progress.layers.items c.requires.unshelled c.in_ok-went.went
    c.in_ok-went.ensures.comes)

pub walking::set_inside-walk_tree-requires : goal.walking::set_inside-walk_tree-requires
walking::set_inside-walk_tree-requires g t c κs within =
    search (
      rules,
      sound_at (stores_of c.args.kept.now) _ c.in_ok-below.below c.args.t.now c.in_ok-below.ensures
          c.requires.sound,
    )

pub walking::scope-scope_with-requires : goal.walking::scope-scope_with-requires
walking::scope-scope_with-requires g t c κs within =
    search (
      rules,
      scope_is c.args.t.now c.args.path.now c.args.left c.in_ok-settings_of.field-0 c.in-Some.settings
          c.requires.opens c.in_ok-settings_of.ensures c.in-Some.is,
    )

pub walking::scope-returns-in-None-clause-exact : goal.walking::scope-returns-in-None-clause-exact
walking::scope-returns-in-None-clause-exact g t c =
    sym (ap (option_map (trace_under c.args.path.now))
    (scope_over c.args.levels c.args.left c.args.path.now c.args.t.now (before_of c.args.env.now)
    c.in_ok-settings_of.field-0 c.requires.opens c.requires.some c.in_ok-settings_of.ensures c.in-None.is))

pub walking::scope-returns-in-None-clause-counted : goal.walking::scope-returns-in-None-clause-counted
walking::scope-returns-in-None-clause-counted g t c =
    nothing_more c.args.steps.now (scope_charged (guide_of (g.O.Opener.opens c.args.opener.now) c.args.kept.now)
    (sheller_is (g.O.Opener.opens c.args.opener.now) (g.met.O.Opener.sound c.args.opener.now)) c.args.levels c.args.left
    c.args.path.now
    c.args.t.now (before_of c.args.env.now) c.in_ok-settings_of.field-0 c.requires.unshelled c.requires.opens
    c.requires.some c.in_ok-settings_of.ensures c.in-None.is)

pub walking::scope_with-returns-then-settings-left-clause-exact :
    goal.walking::scope_with-returns-then-settings-left-clause-exact
walking::scope_with-returns-then-settings-left-clause-exact g t c =
    sym (ap (option_map (trace_under c.args.path.now)) (too_dear c.args.levels c.args.left c.args.path.now c.args.t.now
    c.args.settings c.requires.scope c.requires.some (before_of c.args.env.now) c.if-settings-left.true))

pub walking::scope_with-returns-then-settings-left-clause-counted :
    goal.walking::scope_with-returns-then-settings-left-clause-counted
walking::scope_with-returns-then-settings-left-clause-counted g t c =
    nothing_more c.args.steps.now (dear_with c.args.levels c.args.left c.args.path.now c.args.t.now c.args.settings
    c.requires.scope c.requires.some (guide_of (g.O.Opener.opens c.args.opener.now) c.args.kept.now) (sheller_is
    (g.O.Opener.opens c.args.opener.now) (g.met.O.Opener.sound c.args.opener.now)) (before_of c.args.env.now)
    c.requires.unshelled c.if-settings-left.true)

pub walking::scope_with-with_of-requires-clause-fits : goal.walking::scope_with-with_of-requires-clause-fits
walking::scope_with-with_of-requires-clause-fits g t c =
    closed_fits c.args.levels c.args.left c.args.path.now c.args.t.now c.args.settings c.requires.scope
    c.requires.some (guide_of (g.O.Opener.opens c.args.opener.now) c.args.kept.now) c.if-settings-left.false
    c.in-Some.inner.now (c.arity-last.result - 1)
    c.arity-last.result c.arity-last.ensures refl c.in-Some.ensures (c.args.left - 1 - c.args.settings.cost) refl
    c.args.env.now.map c.deref.result.now c.deref.ensures.value (wide_outcome c.in_ok-outcome.outcome) None
    c.requires.unshelled c.in_ok-outcome.ensures.exact c.requires.levels c.requires.left c.size-size.ensures.within

pub walking::scope_with-returns-clause-exact : goal.walking::scope_with-returns-clause-exact
walking::scope_with-returns-clause-exact g t c =
    IfOk-weaker c.with_of.result _ _ (λ o h.
    closed_exact c.args.levels c.args.left c.args.path.now c.args.t.now c.args.settings c.requires.scope
    c.requires.some (guide_of (g.O.Opener.opens c.args.opener.now) c.args.kept.now) c.if-settings-left.false
    c.in-Some.inner.now (c.arity-last.result - 1)
    c.arity-last.result c.arity-last.ensures refl c.in-Some.ensures (c.args.left - 1 - c.args.settings.cost) refl
    c.args.env.now.map c.deref.result.now c.deref.ensures.value (wide_outcome c.in_ok-outcome.outcome) (wide_outcome o)
    c.requires.unshelled c.in_ok-outcome.ensures.exact h) c.with_of.ensures.outcome

pub walking::scope_with-returns-clause-added : goal.walking::scope_with-returns-clause-added
walking::scope_with-returns-clause-added g t c =
    IfOk-weaker c.with_of.result _ _ (λ o h.
    closed_added c.args.levels c.args.left c.args.path.now c.args.t.now c.args.settings c.requires.scope
    c.requires.some (guide_of (g.O.Opener.opens c.args.opener.now) c.args.kept.now) c.if-settings-left.false
    c.in-Some.inner.now (c.arity-last.result - 1)
    c.arity-last.result c.arity-last.ensures refl c.in-Some.ensures (c.args.left - 1 - c.args.settings.cost) refl
    c.args.env.now.map c.deref.result.now c.deref.ensures.value (wide_outcome c.in_ok-outcome.outcome) (wide_outcome o)
    c.requires.unshelled c.args.done.now.items c.inside.new.done.items h c.in_ok-outcome.ensures.added)
    c.with_of.ensures.outcome

pub walking::scope_with-returns-clause-layers : goal.walking::scope_with-returns-clause-layers
walking::scope_with-returns-clause-layers g t c =
    IfOk-weaker c.with_of.result _ _ (λ o h.
    closed_known c.args.levels c.args.left c.args.path.now c.args.t.now c.args.settings c.requires.scope
    c.requires.some (guide_of (g.O.Opener.opens c.args.opener.now) c.args.kept.now) c.if-settings-left.false
    c.in-Some.inner.now (c.arity-last.result - 1)
    c.arity-last.result c.arity-last.ensures refl c.in-Some.ensures (c.args.left - 1 - c.args.settings.cost) refl
    c.args.env.now.map c.deref.result.now c.deref.ensures.value (wide_outcome c.in_ok-outcome.outcome) (wide_outcome o)
    c.requires.unshelled c.args.progress.now.layers.items c.inside.new.progress.layers.items h
    c.in_ok-outcome.ensures.layers) c.with_of.ensures.outcome

pub walking::scope_with-returns-clause-counted : goal.walking::scope_with-returns-clause-counted
walking::scope_with-returns-clause-counted g t c =
    any_ok c.with_of.result _ (closed_counted c.args.levels c.args.left c.args.path.now c.args.t.now c.args.settings
    c.requires.scope c.requires.some (guide_of (g.O.Opener.opens c.args.opener.now) c.args.kept.now)
    c.if-settings-left.false
    c.in-Some.inner.now (c.arity-last.result - 1)
    c.arity-last.result c.arity-last.ensures refl c.in-Some.ensures (c.args.left - 1 - c.args.settings.cost) refl
    c.args.env.now.map c.deref.result.now c.deref.ensures.value (wide_outcome c.in_ok-outcome.outcome) None
    c.requires.unshelled c.args.steps.now c.inside.new.steps c.in_ok-outcome.ensures.counted)

pub walking::scope-settings_of-requires-clause-opens : goal.walking::scope-settings_of-requires-clause-opens
walking::scope-settings_of-requires-clause-opens g t c = (
  c.requires.opens.0,
  c.requires.opens.1,
  (named c.args.t.now c.requires.opens.0 c.requires.opens.1
      c.requires.opens.2).texts,
)

pub walking::scope_with-overflow_sub-last : goal.walking::scope_with-overflow_sub-last
walking::scope_with-overflow_sub-last g t c =
    omega (
      arith,
      c.arity-last.ensures,
      settings_count (children_of c.args.t.now) c.requires.scope.texts c.requires.scope.inner
          (named c.args.t.now c.requires.scope.texts c.requires.scope.inner c.requires.scope.opens).texts,
    )

pub walking::scope_with-unreachable-requires : goal.walking::scope_with-unreachable-requires
walking::scope_with-unreachable-requires g t c =
    let there = inner_at (children_of c.args.t.now) c.requires.scope.texts c.requires.scope.inner
    (c.arity-last.result - 1) (named c.args.t.now c.requires.scope.texts c.requires.scope.inner
    c.requires.scope.opens).texts (omega (
      arith,
      c.arity-last.ensures,
      settings_count (children_of c.args.t.now) c.requires.scope.texts c.requires.scope.inner
          (named c.args.t.now c.requires.scope.texts c.requires.scope.inner c.requires.scope.opens).texts,
    )) in
    let off : Some c.requires.scope.inner ≡ None = sym there ∙ c.in_default.ensures in
    absurd cc

pub walking::scope_with-with_of-requires-clause-label : goal.walking::scope_with-with_of-requires-clause-label
walking::scope_with-with_of-requires-clause-label g t c =
    (named c.args.t.now c.requires.scope.texts c.requires.scope.inner c.requires.scope.opens).label

pub walking::scope_with-inside-requires : goal.walking::scope_with-inside-requires
walking::scope_with-inside-requires g t c κs within =
    search (
      rules,
      child_sound (stores_of c.args.kept.now) c.args.path.now c.args.t.now c.in-Some.inner.now
          (c.arity-last.result - 1) c.in-Some.ensures c.requires.sound,
    )

pub walking::set_inside-returns-clause-added : goal.walking::set_inside-returns-clause-added
walking::set_inside-returns-clause-added g t c =
    IfOk-weaker c.walk_tree.result _ _ (λ o h. added_same (guide_of (g.O.Opener.opens c.args.opener.now)
    c.args.kept.now) _ _ _ _ (wide_outcome o) (ap (λ p. parts_by (shells_by (g.O.Opener.opens c.args.opener.now))
    c.args.levels c.args.left p c.args.t.now (get c.set_all.new.env.map)) c.in_ok-below.ensures ∙ ap (λ m. parts_by
    (shells_by (g.O.Opener.opens c.args.opener.now)) c.args.levels c.args.left (c.args.path.now ++ c.args.i ∷ [])
    c.args.t.now (get m)) c.in_ok-set_all.ensures.map) h) c.walk_tree.ensures.added

pub walking::inside-returns-clause-layers : goal.walking::inside-returns-clause-layers
walking::inside-returns-clause-layers g t c =
    IfOk-weaker c.set_inside-outcome.result _ _ (λ o h. subst (λ m. AreKnownBy (shells_by (g.O.Opener.opens
    c.args.opener.now)) c.args.levels c.args.left c.args.t.now (get (overlaid m c.args.pairs.now))
    c.args.progress.now.layers.items c.set_inside-outcome.new.progress.layers.items (wide_outcome o))
    c.enter-mark.ensures.map h) c.set_inside-outcome.ensures.layers

pub layering::inside_layer-returns-clause-layers : goal.layering::inside_layer-returns-clause-layers
layering::inside_layer-returns-clause-layers g t c =
    IfOk-weaker c.set_layer-outcome.result _ _ (λ o h. subst (λ m. AreKnownIn (shells_by (g.O.Opener.opens
    c.args.opener.now)) c.args.levels (wide_layers c.args.layers.now) c.args.left c.args.t.now (get (overlaid m
    c.args.pairs.now)) c.args.progress.now.layers.items c.set_layer-outcome.new.progress.layers.items (wide_outcome o))
    c.enter-mark.ensures.map h) c.set_layer-outcome.ensures.layers

pub walking::set_inside-returns-clause-layers : goal.walking::set_inside-returns-clause-layers
walking::set_inside-returns-clause-layers g t c =
    IfOk-weaker c.walk_tree.result _ _ (λ o h. subst (λ m. AreKnownBy (shells_by (g.O.Opener.opens c.args.opener.now))
    c.args.levels c.args.left c.args.t.now (get m) c.args.progress.now.layers.items
    c.walk_tree.new.progress.layers.items (wide_outcome o)) c.in_ok-set_all.ensures.map h) c.walk_tree.ensures.layers

pub layering::set_layer-returns-clause-layers : goal.layering::set_layer-returns-clause-layers
layering::set_layer-returns-clause-layers g t c =
    IfOk-weaker c.in_layers.result _ _ (λ o h. subst (λ m. AreKnownIn (shells_by (g.O.Opener.opens c.args.opener.now))
    c.args.levels (wide_layers c.args.layers.now) c.args.left c.args.t.now (get m) c.args.progress.now.layers.items
    c.in_layers.new.progress.layers.items (wide_outcome o)) c.in_ok-set_all.ensures.map h) c.in_layers.ensures.layers

pub layering::set_layer-returns-clause-added : goal.layering::set_layer-returns-clause-added
layering::set_layer-returns-clause-added g t c =
    IfOk-weaker c.in_layers.result _ _ (λ o h. added_same (guide_of (g.O.Opener.opens c.args.opener.now)
    c.args.kept.now) _ _ _ _ (wide_outcome o) (ap (λ m. parts_in (shells_by (g.O.Opener.opens c.args.opener.now))
    c.args.levels (wide_layers c.args.layers.now) c.args.i c.args.left c.args.path.now c.args.t.now (get m))
    c.in_ok-set_all.ensures.map) h) c.in_layers.ensures.added

pub layering::in_layers-returns-then-levels-eq0-clause-exact :
    goal.layering::in_layers-returns-then-levels-eq0-clause-exact
layering::in_layers-returns-then-levels-eq0-clause-exact g t c =
    sym (ap (option_map (trace_under c.args.path.now)) (low_in c.args.levels (wide_layers c.args.layers.now) c.args.i
    c.args.left c.args.t.now (before_of c.args.env.now) c.if-levels-eq0.true))

pub layering::in_layers-returns-then-levels-eq0-clause-counted :
    goal.layering::in_layers-returns-then-levels-eq0-clause-counted
layering::in_layers-returns-then-levels-eq0-clause-counted g t c =
    nothing_more c.args.steps.now (low_inside (guide_of (g.O.Opener.opens c.args.opener.now) c.args.kept.now)
    c.args.levels (wide_layers c.args.layers.now) c.args.i c.args.left c.args.path.now c.args.t.now
    (before_of c.args.env.now) c.if-levels-eq0.true)

pub layering::in_layers-returns-then-left-eq0-clause-exact : goal.layering::in_layers-returns-then-left-eq0-clause-exact
layering::in_layers-returns-then-left-eq0-clause-exact g t c =
    sym (ap (option_map (trace_under c.args.path.now)) (nothing_in c.args.levels (wide_layers c.args.layers.now)
    c.args.i c.args.left c.args.t.now (before_of c.args.env.now) c.if-left-eq0.true))

pub layering::in_layers-returns-then-left-eq0-clause-counted :
    goal.layering::in_layers-returns-then-left-eq0-clause-counted
layering::in_layers-returns-then-left-eq0-clause-counted g t c =
    nothing_more c.args.steps.now (none_inside (guide_of (g.O.Opener.opens c.args.opener.now) c.args.kept.now)
    (sheller_is (g.O.Opener.opens c.args.opener.now) (g.met.O.Opener.sound c.args.opener.now)) c.args.levels c.args.left
    c.args.path.now c.args.t.now (before_of c.args.env.now) (wide_layers c.args.layers.now) c.args.i c.if-left-eq0.true)

pub layering::in_layers-returns-in-None-clause-added : goal.layering::in_layers-returns-in-None-clause-added
layering::in_layers-returns-in-None-clause-added g t c =
    IfOk-weaker c.in_child.result _ _ (λ o h. added_same (guide_of (g.O.Opener.opens c.args.opener.now) c.args.kept.now)
    _ _ _ _ (wide_outcome o) (ap (λ ls. parts_in (shells_by (g.O.Opener.opens c.args.opener.now)) c.args.levels
    (wide_layers ls) c.args.i c.args.left c.args.path.now c.args.t.now (before_of c.args.env.now)) (sym (none_first
    c.args.layers.now
    c.in-None.ensures.cases))) h)
    c.in_child.ensures.added

pub layering::in_layers-returns-in-None-clause-layers : goal.layering::in_layers-returns-in-None-clause-layers
layering::in_layers-returns-in-None-clause-layers g t c =
    IfOk-weaker c.in_child.result _ _ (λ o h. subst (λ ls. AreKnownIn (shells_by (g.O.Opener.opens c.args.opener.now))
    c.args.levels (wide_layers ls) c.args.left c.args.t.now (before_of c.args.env.now) c.args.progress.now.layers.items
    c.in_child.new.progress.layers.items (wide_outcome o)) (sym (none_first c.args.layers.now
    c.in-None.ensures.cases)) h)
    c.in_child.ensures.layers

pub layering::in_layers-returns-in-Some-clause-layers : goal.layering::in_layers-returns-in-Some-clause-layers
layering::in_layers-returns-in-Some-clause-layers g t c =
    IfOk-weaker c.in_layer.result _ _ (λ o h. subst (λ ls. AreKnownIn (shells_by (g.O.Opener.opens c.args.opener.now))
    c.args.levels (wide_layers ls) c.args.left c.args.t.now (before_of c.args.env.now) c.args.progress.now.layers.items
    c.in_layer.new.progress.layers.items (wide_outcome o)) (sym c.in-Some.ensures.cases.0) h)
    c.in_layer.ensures.layers

pub layering::in_layers-returns-in-Some-clause-added : goal.layering::in_layers-returns-in-Some-clause-added
layering::in_layers-returns-in-Some-clause-added g t c =
    IfOk-weaker c.in_layer.result _ _ (λ o h. added_same (guide_of (g.O.Opener.opens c.args.opener.now) c.args.kept.now)
    _ _ _ _ (wide_outcome o) (ap (λ ls. parts_in (shells_by (g.O.Opener.opens c.args.opener.now)) c.args.levels
    (wide_layers ls) c.args.i c.args.left
    c.args.path.now c.args.t.now (before_of c.args.env.now)) (sym c.in-Some.ensures.cases.0)) h)
    c.in_layer.ensures.added

pub layering::in_child-stepped-requires-clause-counted : goal.layering::in_child-stepped-requires-clause-counted
layering::in_child-stepped-requires-clause-counted g t c =
    child_counted (guide_of (g.O.Opener.opens c.args.opener.now) c.args.kept.now) c.args.levels c.args.left c.args.i
    c.args.path.now c.args.t.now (before_of c.args.env.now) c.requires.some c.requires.allowed c.in_ok-below.below
    (wide_outcome c.in_ok-outcome.outcome) c.in_ok-below.ensures c.in_ok-outcome.ensures.exact c.requires.levels
    c.requires.left

pub layering::in_child-returns-clause-exact : goal.layering::in_child-returns-clause-exact
layering::in_child-returns-clause-exact g t c =
    child_exact (guide_of (g.O.Opener.opens c.args.opener.now) c.args.kept.now) c.args.levels c.args.left c.args.i
    c.args.path.now c.args.t.now (before_of c.args.env.now) c.requires.some c.requires.allowed c.in_ok-below.below
    (wide_outcome c.in_ok-outcome.outcome) c.in_ok-below.ensures c.in_ok-outcome.ensures.exact (wide_outcome
    c.stepped.result) c.stepped.ensures.outcome

pub layering::in_child-returns-clause-added : goal.layering::in_child-returns-clause-added
layering::in_child-returns-clause-added g t c =
    added_as (guide_of (g.O.Opener.opens c.args.opener.now) c.args.kept.now) step_more _ _ _ _ (wide_outcome
    c.in_ok-outcome.outcome) (wide_outcome c.stepped.result) (ap (λ p. parts_by (shells_by (g.O.Opener.opens
    c.args.opener.now)) (c.args.levels - 1) (c.args.left - 1) p c.args.t.now (before_of c.args.env.now))
    c.in_ok-below.ensures ∙ sym (child_parts (guide_of (g.O.Opener.opens c.args.opener.now) c.args.kept.now)
    c.args.levels c.args.left c.args.i c.args.path.now c.args.t.now (before_of c.args.env.now) c.requires.some
    c.requires.allowed)) c.stepped.ensures.outcome c.in_ok-outcome.ensures.added

pub layering::in_child-returns-clause-layers : goal.layering::in_child-returns-clause-layers
layering::in_child-returns-clause-layers g t c =
    child_known (guide_of (g.O.Opener.opens c.args.opener.now) c.args.kept.now) c.args.levels c.args.left c.args.i
    c.args.path.now c.args.t.now (before_of c.args.env.now) c.requires.some c.requires.allowed
    c.args.progress.now.layers.items c.walk_tree.new.progress.layers.items (wide_outcome c.in_ok-outcome.outcome)
    (wide_outcome c.stepped.result) c.stepped.ensures.outcome c.in_ok-outcome.ensures.layers

pub layering::in_child-returns-clause-counted : goal.layering::in_child-returns-clause-counted
layering::in_child-returns-clause-counted g t c =
    c.in_ok-outcome.ensures.counted ∙ ap (λ n. c.args.steps.now + n) (ap (λ p. charged (guide_of (g.O.Opener.opens
    c.args.opener.now) c.args.kept.now) (c.args.levels - 1) (c.args.left - 1) p c.args.t.now (before_of c.args.env.now))
    c.in_ok-below.ensures ∙ sym (child_charged (guide_of (g.O.Opener.opens c.args.opener.now) c.args.kept.now)
    c.args.levels c.args.left c.args.i c.args.path.now c.args.t.now (before_of c.args.env.now) c.requires.some
    c.requires.allowed))

pub layering::shelled-returns-then-left-eq0-clause-exact : goal.layering::shelled-returns-then-left-eq0-clause-exact
layering::shelled-returns-then-left-eq0-clause-exact g t c =
    sym (ap (option_map (trace_under c.args.path.now)) (without_steps c.args.levels c.args.left c.args.t.now
    (before_of c.args.env.now) c.if-left-eq0.true))

pub layering::shelled-returns-then-left-eq0-clause-counted : goal.layering::shelled-returns-then-left-eq0-clause-counted
layering::shelled-returns-then-left-eq0-clause-counted g t c =
    nothing_more c.args.steps.now (none_charged (guide_of (g.O.Opener.opens c.args.opener.now) c.args.kept.now)
    (sheller_is (g.O.Opener.opens c.args.opener.now) (g.met.O.Opener.sound c.args.opener.now))
    c.args.levels c.args.left c.args.path.now c.args.t.now (before_of c.args.env.now) c.if-left-eq0.true)

pub layering::shelled-unreachable-requires : goal.layering::shelled-unreachable-requires
layering::shelled-unreachable-requires g t c =
    let shell = (sheller_is (g.O.Opener.opens c.args.opener.now) (g.met.O.Opener.sound c.args.opener.now)).shells
    c.args.t.now (before_of c.args.env.now) (wide_shell c.args.shell.now) c.requires.shelled in
    missing (children_of c.args.t.now) c.args.shell.now.inner shell.inside c.in_default.ensures

pub layering::shelled-in_layers-requires : goal.layering::shelled-in_layers-requires
layering::shelled-in_layers-requires g t c κs within =
    let shell = (sheller_is (g.O.Opener.opens c.args.opener.now) (g.met.O.Opener.sound c.args.opener.now)).shells
    c.args.t.now (before_of c.args.env.now) (wide_shell c.args.shell.now) c.requires.shelled in
    search (
      rules,
      child_sound (stores_of c.args.kept.now) c.args.path.now c.args.t.now c.in-Some.inner.now
          c.args.shell.now.inner c.in-Some.ensures c.requires.sound,
      subst (λ ls. AllByRecursion IsFull (wide_layers ls)) (sym c.deref.ensures.value) shell.full,
    )

pub layering::shelled-tag_of-requires-clause-counted : goal.layering::shelled-tag_of-requires-clause-counted
layering::shelled-tag_of-requires-clause-counted g t c =
    tag_counted (guide_of (g.O.Opener.opens c.args.opener.now) c.args.kept.now)
    c.args.levels c.args.left c.args.path.now c.args.t.now (wide_shell c.args.shell.now) c.in-Some.inner.now
    (before_of c.args.env.now) (sheller_is (g.O.Opener.opens c.args.opener.now) (g.met.O.Opener.sound
    c.args.opener.now))
    c.requires.shelled c.in-Some.ensures c.requires.some
    (omega (arith, c.if-left-eq0.false)) (wide_outcome c.in_ok-outcome.outcome) (subst (λ ls. wide_outcome
    c.in_ok-outcome.outcome ≡ option_map (trace_under c.args.path.now)
    (evaluates_in (c.args.levels - 1) (wide_layers ls) c.args.shell.now.inner (c.args.left - 1) c.in-Some.inner.now
    (before_of c.args.env.now))) c.deref.ensures.value c.in_ok-outcome.ensures.exact) c.requires.levels c.requires.left

pub layering::shelled-returns-clause-exact : goal.layering::shelled-returns-clause-exact
layering::shelled-returns-clause-exact g t c =
    IfOk-weaker c.tag_of.result _ _ (λ o h. tag_exact (guide_of (g.O.Opener.opens c.args.opener.now) c.args.kept.now)
    c.args.levels c.args.left c.args.path.now c.args.t.now (wide_shell c.args.shell.now) c.in-Some.inner.now
    (before_of c.args.env.now) (sheller_is (g.O.Opener.opens c.args.opener.now) (g.met.O.Opener.sound
    c.args.opener.now))
    c.requires.shelled c.in-Some.ensures c.requires.some
    (omega (arith, c.if-left-eq0.false)) (wide_outcome c.in_ok-outcome.outcome) (subst (λ ls. wide_outcome
    c.in_ok-outcome.outcome ≡ option_map (trace_under c.args.path.now)
    (evaluates_in (c.args.levels - 1) (wide_layers ls) c.args.shell.now.inner (c.args.left - 1) c.in-Some.inner.now
    (before_of c.args.env.now))) c.deref.ensures.value c.in_ok-outcome.ensures.exact) (from_entries c.in_ok-look.look)
    (wide_outcome o) c.in_ok-look.ensures h) c.tag_of.ensures.outcome

pub layering::shelled-returns-clause-behind : goal.layering::shelled-returns-clause-behind
layering::shelled-returns-clause-behind g t c =
    IfOk-weaker c.tag_of.result _ _ (λ o h. behind_as (look_before (from_entries c.in_ok-look.look)) (λ u. refl)
    (before_of c.args.env.now) (before_of c.in_layers.new.env) (wide_outcome c.in_ok-outcome.outcome) (wide_outcome o) h
    c.in_ok-outcome.ensures.behind) c.tag_of.ensures.outcome

pub layering::shelled-returns-clause-added : goal.layering::shelled-returns-clause-added
layering::shelled-returns-clause-added g t c =
    IfOk-weaker c.tag_of.result _ _ (λ o h. added_as (guide_of (g.O.Opener.opens c.args.opener.now) c.args.kept.now)
    (look_before (from_entries c.in_ok-look.look)) _ _ _ _ (wide_outcome c.in_ok-outcome.outcome) (wide_outcome o) (ap
    (λ ls. parts_in (shells_by (g.O.Opener.opens c.args.opener.now)) (c.args.levels - 1) (wide_layers ls)
    c.args.shell.now.inner (c.args.left - 1) c.args.path.now c.in-Some.inner.now (before_of c.args.env.now))
    c.deref.ensures.value ∙ sym (tag_parts (guide_of (g.O.Opener.opens c.args.opener.now) c.args.kept.now)
    c.args.levels c.args.left c.args.path.now c.args.t.now (wide_shell c.args.shell.now) c.in-Some.inner.now
    (before_of c.args.env.now) (sheller_is (g.O.Opener.opens c.args.opener.now) (g.met.O.Opener.sound
    c.args.opener.now))
    c.requires.shelled c.in-Some.ensures c.requires.some)) h c.in_ok-outcome.ensures.added)
    c.tag_of.ensures.outcome

pub layering::shelled-returns-clause-layers : goal.layering::shelled-returns-clause-layers
layering::shelled-returns-clause-layers g t c =
    IfOk-weaker c.tag_of.result _ _ (λ o h. tag_known (guide_of (g.O.Opener.opens c.args.opener.now) c.args.kept.now)
    c.args.levels c.args.left c.args.path.now c.args.t.now (wide_shell c.args.shell.now) c.in-Some.inner.now
    (before_of c.args.env.now) (sheller_is (g.O.Opener.opens c.args.opener.now) (g.met.O.Opener.sound
    c.args.opener.now))
    c.requires.shelled c.in-Some.ensures c.requires.some (from_entries c.in_ok-look.look)
    c.args.progress.now.layers.items c.in_layers.new.progress.layers.items (wide_outcome c.in_ok-outcome.outcome)
    (wide_outcome o) h (subst (λ ls. AreKnownIn (shells_by (g.O.Opener.opens c.args.opener.now)) (c.args.levels - 1)
    (wide_layers ls) (c.args.left - 1) c.in-Some.inner.now (before_of c.args.env.now)
    c.args.progress.now.layers.items c.in_layers.new.progress.layers.items (wide_outcome c.in_ok-outcome.outcome))
    c.deref.ensures.value c.in_ok-outcome.ensures.layers)) c.tag_of.ensures.outcome

pub layering::shelled-returns-clause-counted : goal.layering::shelled-returns-clause-counted
layering::shelled-returns-clause-counted g t c =
    any_ok c.tag_of.result _ (c.in_ok-outcome.ensures.counted ∙ ap (λ n. c.args.steps.now + n) (ap (λ ls. charged_in
    (guide_of (g.O.Opener.opens c.args.opener.now) c.args.kept.now) (c.args.levels - 1) (wide_layers ls)
    c.args.shell.now.inner (c.args.left - 1) c.args.path.now
    c.in-Some.inner.now (before_of c.args.env.now)) c.deref.ensures.value
    ∙ sym (tag_charged (guide_of (g.O.Opener.opens c.args.opener.now) c.args.kept.now)
    c.args.levels c.args.left c.args.path.now c.args.t.now (wide_shell c.args.shell.now) c.in-Some.inner.now
    (before_of c.args.env.now) (sheller_is (g.O.Opener.opens c.args.opener.now) (g.met.O.Opener.sound
    c.args.opener.now))
    c.requires.shelled c.in-Some.ensures c.requires.some)))

pub layering::through_layer-returns-then-not-went-clause-exact :
    goal.layering::through_layer-returns-then-not-went-clause-exact
layering::through_layer-returns-then-not-went-clause-exact g t c =
    sym (ap (option_map (trace_under c.args.path.now)) (values_over (guide_of (g.O.Opener.opens c.args.opener.now)
    c.args.kept.now) (sheller_is (g.O.Opener.opens c.args.opener.now) (g.met.O.Opener.sound c.args.opener.now))
    c.args.levels c.args.left c.args.i c.args.path.now (wide_layer c.args.layer.now) (wide_layers c.args.inner.now)
    c.args.t.now (stage_in c.args.so_far.now c.args.env.now c.args.steps.now) c.requires.some (stage_in
    c.add_layer.new.self c.add_layer.new.env c.add_layer.new.steps) (rw c.if-not-went.true at
    c.in_ok-went.ensures.comes)))

pub layering::through_layer-returns-then-not-went-clause-counted :
    goal.layering::through_layer-returns-then-not-went-clause-counted
layering::through_layer-returns-then-not-went-clause-counted g t c =
    over_counted (guide_of (g.O.Opener.opens c.args.opener.now) c.args.kept.now) (sheller_is (g.O.Opener.opens
    c.args.opener.now) (g.met.O.Opener.sound c.args.opener.now)) c.args.levels c.args.left c.args.i c.args.path.now
    (wide_layer c.args.layer.now) (wide_layers c.args.inner.now) c.args.t.now (stage_in c.args.so_far.now c.args.env.now
    c.args.steps.now) c.requires.some (stage_in c.add_layer.new.self c.add_layer.new.env c.add_layer.new.steps) (rw
    c.if-not-went.true at c.in_ok-went.ensures.comes)

pub layering::through_layer-returns-clause-exact : goal.layering::through_layer-returns-clause-exact
layering::through_layer-returns-clause-exact g t c =
    c.behind_values.ensures.exact (stage_in c.args.so_far.now c.args.env.now c.args.steps.now)
    (rw c.if-not-went.false at c.in_ok-went.ensures.comes)

pub layering::through_layer-returns-clause-behind : goal.layering::through_layer-returns-clause-behind
layering::through_layer-returns-clause-behind g t c =
    c.behind_values.ensures.behind (stage_in c.args.so_far.now c.args.env.now c.args.steps.now)
    (rw c.if-not-went.false at c.in_ok-went.ensures.comes)

pub layering::through_layer-returns-clause-added : goal.layering::through_layer-returns-clause-added
layering::through_layer-returns-clause-added g t c =
    c.behind_values.ensures.added (stage_in c.args.so_far.now c.args.env.now c.args.steps.now)
    (rw c.if-not-went.false at c.in_ok-went.ensures.comes)

pub layering::through_layer-returns-clause-counted : goal.layering::through_layer-returns-clause-counted
layering::through_layer-returns-clause-counted g t c =
    c.behind_values.ensures.counted (stage_in c.args.so_far.now c.args.env.now c.args.steps.now)
    (rw c.if-not-went.false at c.in_ok-went.ensures.comes)

pub layering::through_layer-returns-clause-layers : goal.layering::through_layer-returns-clause-layers
layering::through_layer-returns-clause-layers g t c =
    IfOk-weaker c.behind_values.result _ _ (λ o h. subst (λ ms. AreKnownIn (shells_by (g.O.Opener.opens
    c.args.opener.now)) c.args.levels (wide_layer c.args.layer.now ∷ wide_layers c.args.inner.now) c.args.left
    c.args.t.now (before_of c.args.env.now) ms.items c.behind_values.new.progress.layers.items (wide_outcome o))
    c.in_ok-went.ensures.layers h) (c.behind_values.ensures.layers (stage_in c.args.so_far.now c.args.env.now
    c.args.steps.now) (rw c.if-not-went.false at c.in_ok-went.ensures.comes))

pub layering::behind_values-overflow_add-so_far : goal.layering::behind_values-overflow_add-so_far
layering::behind_values-overflow_add-so_far g t c =
    omega (
      arith,
      values_cost (holder_of c.args.kept.now) (c.args.levels - 1) (c.args.left - 1)
          (wide_layer c.args.layer.now) c.requires.comes.0
          (stage_in c.args.so_far.now c.args.env.now c.args.steps.now) c.requires.comes.1,
      c.requires.left,
    )

pub layering::behind_values-returns-in_default-clause-exact :
    goal.layering::behind_values-returns-in_default-clause-exact
layering::behind_values-returns-in_default-clause-exact g t c =
    λ s d. sym (ap (option_map (trace_under c.args.path.now)) (dear_over (guide_of (g.O.Opener.opens c.args.opener.now)
    c.args.kept.now) (sheller_is (g.O.Opener.opens c.args.opener.now) (g.met.O.Opener.sound c.args.opener.now))
    c.args.levels c.args.left c.args.i c.args.path.now (wide_layer c.args.layer.now) (wide_layers c.args.inner.now)
    c.args.t.now s c.requires.some (stage_in c.args.so_far.now c.args.env.now c.args.steps.now) d (subst (λ ss.
    c.args.left < (1 + c.args.so_far.now.joined.cost) + set_sizes (pairs_of_settings ss)) c.deref.ensures.value
    c.in_default.ensures)))

pub layering::behind_values-returns-in_default-clause-counted :
    goal.layering::behind_values-returns-in_default-clause-counted
layering::behind_values-returns-in_default-clause-counted g t c =
    λ s d. dear_counted (guide_of (g.O.Opener.opens c.args.opener.now) c.args.kept.now)
    (sheller_is (g.O.Opener.opens c.args.opener.now) (g.met.O.Opener.sound c.args.opener.now)) c.args.levels c.args.left
    c.args.i c.args.path.now (wide_layer c.args.layer.now) (wide_layers c.args.inner.now) c.args.t.now s c.requires.some
    (stage_in c.args.so_far.now c.args.env.now c.args.steps.now) d (subst (λ ss. c.args.left < (1 +
    c.args.so_far.now.joined.cost) + set_sizes (pairs_of_settings ss)) c.deref.ensures.value c.in_default.ensures)

pub layering::behind_values-layer_of-requires-clause-fits : goal.layering::behind_values-layer_of-requires-clause-fits
layering::behind_values-layer_of-requires-clause-fits g t c =
    let s = c.requires.comes.0 in
    let d = c.requires.comes.1 in
    inside_fits (guide_of (g.O.Opener.opens c.args.opener.now) c.args.kept.now) (sheller_is (g.O.Opener.opens
    c.args.opener.now) (g.met.O.Opener.sound c.args.opener.now)) c.args.levels c.args.left c.args.i c.args.path.now
    (wide_layer c.args.layer.now) (wide_layers c.args.inner.now) c.args.t.now s c.requires.some
    (stage_in c.args.so_far.now c.args.env.now c.args.steps.now) d c.in-Some.cost
    (c.args.left - c.in-Some.cost)
    (c.in-Some.ensures.0 ∙ ap (λ ss. (1 + c.args.so_far.now.joined.cost) + set_sizes (pairs_of_settings ss))
    c.deref.ensures.value) c.in-Some.ensures.1 refl c.args.env.now.map refl c.deref-3.result.now
    (c.deref-3.ensures.value ∙ c.in_ok-pairs.ensures.pairs ∙ ap pairs_of_settings c.deref-2.ensures.value) (wide_outcome
    c.in_ok-outcome.outcome) c.in_ok-outcome.ensures.exact c.requires.full c.requires.levels c.requires.left

pub layering::behind_values-returns-clause-exact : goal.layering::behind_values-returns-clause-exact
layering::behind_values-returns-clause-exact g t c =
    λ s d. IfOk-weaker c.layer_of.result _ _
    (λ o h. inside_exact (guide_of (g.O.Opener.opens c.args.opener.now) c.args.kept.now) (sheller_is (g.O.Opener.opens
    c.args.opener.now) (g.met.O.Opener.sound c.args.opener.now)) c.args.levels c.args.left c.args.i c.args.path.now
    (wide_layer c.args.layer.now) (wide_layers c.args.inner.now) c.args.t.now s c.requires.some
    (stage_in c.args.so_far.now c.args.env.now c.args.steps.now) d c.in-Some.cost
    (c.args.left - c.in-Some.cost)
    (c.in-Some.ensures.0 ∙ ap (λ ss. (1 + c.args.so_far.now.joined.cost) + set_sizes (pairs_of_settings ss))
    c.deref.ensures.value) c.in-Some.ensures.1 refl c.args.env.now.map refl c.deref-3.result.now
    (c.deref-3.ensures.value ∙ c.in_ok-pairs.ensures.pairs ∙ ap pairs_of_settings c.deref-2.ensures.value)
    (wide_outcome c.in_ok-outcome.outcome) c.in_ok-outcome.ensures.exact (wide_outcome o) (subst (λ ps. wide_outcome o ≡
    option_map (layer_by (overlaid empty ps) (so_far_of c.args.so_far.now.joined)
    c.in-Some.cost) (wide_outcome c.in_ok-outcome.outcome))
    (c.deref-4.ensures.value ∙ sym c.deref-3.ensures.value) h)) c.layer_of.ensures.outcome

pub layering::behind_values-returns-clause-behind : goal.layering::behind_values-returns-clause-behind
layering::behind_values-returns-clause-behind g t c =
    λ s d. pushed_both c.layer_of.result _ _ _
    (λ p o h. inside_behind (guide_of (g.O.Opener.opens c.args.opener.now) c.args.kept.now) (sheller_is
    (g.O.Opener.opens c.args.opener.now) (g.met.O.Opener.sound c.args.opener.now)) c.args.levels c.args.left c.args.i
    c.args.path.now (wide_layer c.args.layer.now) (wide_layers c.args.inner.now) c.args.t.now s c.requires.some
    (stage_in c.args.so_far.now c.args.env.now c.args.steps.now) d c.in-Some.cost
    (c.args.left - c.in-Some.cost)
    (c.in-Some.ensures.0 ∙ ap (λ ss. (1 + c.args.so_far.now.joined.cost) + set_sizes (pairs_of_settings ss))
    c.deref.ensures.value) c.in-Some.ensures.1 refl c.args.env.now.map refl c.deref-3.result.now
    (c.deref-3.ensures.value ∙ c.in_ok-pairs.ensures.pairs ∙ ap pairs_of_settings c.deref-2.ensures.value)
    (wide_outcome c.in_ok-outcome.outcome) c.in_ok-outcome.ensures.exact (wide_outcome o) (before_of c.layer_of.new.env)
    (subst (λ ps. wide_outcome o ≡ option_map (layer_by (overlaid empty ps) (so_far_of c.args.so_far.now.joined)
    c.in-Some.cost) (wide_outcome c.in_ok-outcome.outcome))
    (c.deref-4.ensures.value ∙ sym c.deref-3.ensures.value) h) (subst (λ ps. BehindLayer (overlaid empty ps) (before_of
    c.args.env.now) (before_of c.layer_of.new.env) (wide_outcome c.in_ok-outcome.outcome)) (c.deref-4.ensures.value ∙
    sym c.deref-3.ensures.value) (behind_same c.inside_layer.new.env c.args.env.now c.in_ok-outcome.ensures.same _ _ _
    p))) c.layer_of.ensures.behind c.layer_of.ensures.outcome

pub layering::behind_values-returns-clause-added : goal.layering::behind_values-returns-clause-added
layering::behind_values-returns-clause-added g t c =
    λ s d. IfOk-weaker c.layer_of.result _ _
    (λ o h. added_as (guide_of (g.O.Opener.opens c.args.opener.now) c.args.kept.now) (layer_by (overlaid empty
    c.deref-3.result.now)
    (so_far_of c.args.so_far.now.joined) c.in-Some.cost) _ _ _ _ (wide_outcome c.in_ok-outcome.outcome)
    (wide_outcome o) (inside_parts (guide_of (g.O.Opener.opens c.args.opener.now) c.args.kept.now) (sheller_is
    (g.O.Opener.opens c.args.opener.now) (g.met.O.Opener.sound c.args.opener.now)) c.args.levels c.args.left c.args.i
    c.args.path.now (wide_layer c.args.layer.now) (wide_layers c.args.inner.now) c.args.t.now s c.requires.some
    (stage_in c.args.so_far.now c.args.env.now c.args.steps.now) d c.in-Some.cost
    (c.args.left - c.in-Some.cost)
    (c.in-Some.ensures.0 ∙ ap (λ ss. (1 + c.args.so_far.now.joined.cost) + set_sizes (pairs_of_settings ss))
    c.deref.ensures.value) c.in-Some.ensures.1 refl c.args.env.now.map refl c.deref-3.result.now
    (c.deref-3.ensures.value ∙ c.in_ok-pairs.ensures.pairs ∙ ap pairs_of_settings c.deref-2.ensures.value))
    (subst (λ ps. wide_outcome o ≡ option_map (layer_by (overlaid empty ps) (so_far_of c.args.so_far.now.joined)
    c.in-Some.cost) (wide_outcome c.in_ok-outcome.outcome))
    (c.deref-4.ensures.value ∙ sym c.deref-3.ensures.value) h) c.in_ok-outcome.ensures.added) c.layer_of.ensures.outcome

pub layering::behind_values-returns-in_default-clause-layers :
    goal.layering::behind_values-returns-in_default-clause-layers
layering::behind_values-returns-in_default-clause-layers g t c = λ s d. tt

pub layering::behind_values-returns-clause-layers : goal.layering::behind_values-returns-clause-layers
layering::behind_values-returns-clause-layers g t c =
    λ s d. IfOk-weaker c.layer_of.result _ _
    (λ o h. inside_known (guide_of (g.O.Opener.opens c.args.opener.now) c.args.kept.now) (sheller_is (g.O.Opener.opens
    c.args.opener.now) (g.met.O.Opener.sound c.args.opener.now)) c.args.levels c.args.left c.args.i c.args.path.now
    (wide_layer c.args.layer.now) (wide_layers c.args.inner.now) c.args.t.now s c.requires.some
    (stage_in c.args.so_far.now c.args.env.now c.args.steps.now) d c.in-Some.cost
    (c.args.left - c.in-Some.cost)
    (c.in-Some.ensures.0 ∙ ap (λ ss. (1 + c.args.so_far.now.joined.cost) + set_sizes (pairs_of_settings ss))
    c.deref.ensures.value) c.in-Some.ensures.1 refl c.args.env.now.map refl c.deref-3.result.now
    (c.deref-3.ensures.value ∙ c.in_ok-pairs.ensures.pairs ∙ ap pairs_of_settings c.deref-2.ensures.value)
    c.args.progress.now.layers.items c.pairs_to_set.new.progress.layers.items c.inside_layer.new.progress.layers.items
    (wide_outcome c.in_ok-outcome.outcome) (wide_outcome o) c.in_ok-pairs.ensures.more (subst (AllHeldBy (holds_in
    c.pairs_to_set.new.progress.layers.items)) c.deref-2.ensures.value c.in_ok-pairs.ensures.held) (subst (λ ps.
    wide_outcome o ≡ option_map (layer_by (overlaid empty ps) (so_far_of c.args.so_far.now.joined)
    c.in-Some.cost) (wide_outcome c.in_ok-outcome.outcome))
    (c.deref-4.ensures.value ∙ sym c.deref-3.ensures.value) h) c.in_ok-outcome.ensures.layers)
    c.layer_of.ensures.outcome

pub layering::behind_values-returns-clause-counted : goal.layering::behind_values-returns-clause-counted
layering::behind_values-returns-clause-counted g t c =
    λ s d. any_ok c.layer_of.result _
    (inside_counted (guide_of (g.O.Opener.opens c.args.opener.now) c.args.kept.now) (sheller_is (g.O.Opener.opens
    c.args.opener.now) (g.met.O.Opener.sound c.args.opener.now)) c.args.levels c.args.left c.args.i c.args.path.now
    (wide_layer c.args.layer.now) (wide_layers c.args.inner.now) c.args.t.now s c.requires.some
    (stage_in c.args.so_far.now c.args.env.now c.args.steps.now) d c.in-Some.cost
    (c.args.left - c.in-Some.cost)
    (c.in-Some.ensures.0 ∙ ap (λ ss. (1 + c.args.so_far.now.joined.cost) + set_sizes (pairs_of_settings ss))
    c.deref.ensures.value) c.in-Some.ensures.1 refl c.args.env.now.map refl c.deref-3.result.now
    (c.deref-3.ensures.value ∙ c.in_ok-pairs.ensures.pairs ∙ ap pairs_of_settings c.deref-2.ensures.value)
    c.pairs_to_set.new.steps c.inside_layer.new.steps (c.in_ok-pairs.ensures.counted ∙ ap (λ ss. c.args.steps.now +
    new_nodes ss) c.deref-2.ensures.value) c.in_ok-outcome.ensures.counted)

pub layering::through_layer-behind_values-requires : goal.layering::through_layer-behind_values-requires
layering::through_layer-behind_values-requires g t c κs within =
    let done : (s : LayerStage) × LayerDone (holder_of c.args.kept.now) (c.args.levels - 1) (c.args.left - 1)
    (wide_layer c.args.layer.now) s
    (stage_in c.add_layer.new.self c.add_layer.new.env c.add_layer.new.steps) = (
      stage_in c.args.so_far.now c.args.env.now c.args.steps.now,
      rw c.if-not-went.false at c.in_ok-went.ensures.comes,
    ) in
    search (rules, done)
