use Rattle.std.proofs.Common.{rules, ◌≤◌, ◌+◌, sym, ap, subst, ◌∙◌}
use Rattle.tx_state.specs.Changing.{IsAlong}
use Rattle.tx_state.specs.Ready.{IsReadyUndo, first_cost}
use Rattle.tx_state.specs.Edits.{undone_state}
use Rattle.tx_state.specs.Entries.{EntryLeads}
use Rattle.tx_state.proofs.MadeReady.{undo_leads, undo_cost, undo_ready, no_undo}
use Rattle.tx_state.proofs.state.EditorState.prepare_undo.Goals as goal

pub step_along-requires : goal.step_along-requires
step_along-requires g c =
    subst (λ bs. EntryLeads bs c.in-Some.entry.now) (sym c.deref.ensures.value)
    (undo_leads c.self.inside c.in-Some.entry.now c.self.invariant (search rules))

pub returns-in-None-clause-nothing : goal.returns-in-None-clause-nothing
returns-in-None-clause-nothing g c = λ _. ap undone_state (sym c.self.view_is) ∙ no_undo c.self.inside (search rules)

pub returns-in_ok-step_along-in-Some-clause-ready : goal.returns-in_ok-step_along-in-Some-clause-ready
returns-in_ok-step_along-in-Some-clause-ready g c =
    subst (λ s. IsReadyUndo s c.in_ok-step_along-in-Some.field-0) c.self.view_is
    (undo_ready c.self.inside c.in_ok-step_along-in-Some.field-0 c.in-Some.entry.now c.self.invariant (search rules)
    (subst (λ bs. IsAlong bs c.in-Some.entry.now c.in_ok-step_along-in-Some.field-0) c.deref.ensures.value
    c.in_ok-step_along-in-Some.ensures.along)).ready

pub returns-in_ok-step_along-in-Some-clause-inverses : goal.returns-in_ok-step_along-in-Some-clause-inverses
returns-in_ok-step_along-in-Some-clause-inverses g c = λ e past h.
    (undo_ready c.self.inside c.in_ok-step_along-in-Some.field-0 c.in-Some.entry.now c.self.invariant (search rules)
    (subst (λ bs. IsAlong bs c.in-Some.entry.now c.in_ok-step_along-in-Some.field-0) c.deref.ensures.value
    c.in_ok-step_along-in-Some.ensures.along)).inverses e past (ap (λ s. s.past) c.self.view_is ∙ h)

pub returns-in_ok-step_along-in-Some-clause-counted : goal.returns-in_ok-step_along-in-Some-clause-counted
returns-in_ok-step_along-in-Some-clause-counted g c =
    subst (λ n. c.step_along.new.steps ≤ c.args.steps.now + n)
    (undo_cost c.self.inside c.in-Some.entry.now c.self.invariant (search rules)
    ∙ ap (λ s. first_cost s.past) c.self.view_is) c.step_along.ensures.counted

pub returns-in_err-step_along-in-Some-clause-counted : goal.returns-in_err-step_along-in-Some-clause-counted
returns-in_err-step_along-in-Some-clause-counted g c =
    subst (λ n. c.step_along.new.steps ≤ c.args.steps.now + n)
    (undo_cost c.self.inside c.in-Some.entry.now c.self.invariant (search rules)
    ∙ ap (λ s. first_cost s.past) c.self.view_is) c.step_along.ensures.counted
