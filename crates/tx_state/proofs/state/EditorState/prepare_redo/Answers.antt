use Rattle.std.proofs.Common.{rules, ◌≤◌, ◌+◌, sym, ap, subst, ◌∙◌}
use Rattle.tx_state.specs.Changing.{IsAlong}
use Rattle.tx_state.specs.Ready.{IsReadyRedo, first_cost}
use Rattle.tx_state.specs.Edits.{redone_state}
use Rattle.tx_state.specs.Entries.{EntryLeads}
use Rattle.tx_state.proofs.MadeReady.{redo_leads, redo_cost, redo_ready, no_redo}
use Rattle.tx_state.proofs.state.EditorState.prepare_redo.Goals as goal

pub step_along-requires : goal.step_along-requires
step_along-requires g c =
    subst (λ bs. EntryLeads bs c.in-Some.entry.now) (sym c.deref.ensures.value)
    (redo_leads c.self.inside c.in-Some.entry.now c.self.invariant (search rules))

pub returns-in-None-clause-nothing : goal.returns-in-None-clause-nothing
returns-in-None-clause-nothing g c = λ _. ap redone_state (sym c.self.view_is) ∙ no_redo c.self.inside (search rules)

pub returns-in_ok-step_along-in-Some-clause-ready : goal.returns-in_ok-step_along-in-Some-clause-ready
returns-in_ok-step_along-in-Some-clause-ready g c =
    subst (λ s. IsReadyRedo s c.in_ok-step_along-in-Some.field-0) c.self.view_is
    (redo_ready c.self.inside c.in_ok-step_along-in-Some.field-0 c.in-Some.entry.now c.self.invariant (search rules)
    (subst (λ bs. IsAlong bs c.in-Some.entry.now c.in_ok-step_along-in-Some.field-0) c.deref.ensures.value
    c.in_ok-step_along-in-Some.ensures.along)).ready

pub returns-in_ok-step_along-in-Some-clause-same : goal.returns-in_ok-step_along-in-Some-clause-same
returns-in_ok-step_along-in-Some-clause-same g c = λ e future h.
    (redo_ready c.self.inside c.in_ok-step_along-in-Some.field-0 c.in-Some.entry.now c.self.invariant (search rules)
    (subst (λ bs. IsAlong bs c.in-Some.entry.now c.in_ok-step_along-in-Some.field-0) c.deref.ensures.value
    c.in_ok-step_along-in-Some.ensures.along)).same e future (ap (λ s. s.future) c.self.view_is ∙ h)

pub returns-in_ok-step_along-in-Some-clause-counted : goal.returns-in_ok-step_along-in-Some-clause-counted
returns-in_ok-step_along-in-Some-clause-counted g c =
    subst (λ n. c.step_along.new.steps ≤ c.args.steps.now + n)
    (redo_cost c.self.inside c.in-Some.entry.now c.self.invariant (search rules)
    ∙ ap (λ s. first_cost s.future) c.self.view_is) c.step_along.ensures.counted

pub returns-in_err-step_along-in-Some-clause-counted : goal.returns-in_err-step_along-in-Some-clause-counted
returns-in_err-step_along-in-Some-clause-counted g c =
    subst (λ n. c.step_along.new.steps ≤ c.args.steps.now + n)
    (redo_cost c.self.inside c.in-Some.entry.now c.self.invariant (search rules)
    ∙ ap (λ s. first_cost s.future) c.self.view_is) c.step_along.ensures.counted
