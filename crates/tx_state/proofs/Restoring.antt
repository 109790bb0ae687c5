-- States after many edits, undos and redos.
use Rattle.std.proofs.Common.{◌≡◌, ℕ, zero, suc, ◌+◌, ◌-◌, ◌≤◌, min, List, [], ◌∷◌, length, take, Option, Some, None}
use Rattle.std.proofs.Common.{Ok, Err, refl, sym, ap, ◌∙◌, subst, arith}
use Rattle.std.specs.Prelude.{Result, option_and_then}
use Rattle.std.proofs.lemmas.List.{length-take, take_all, take-take}
use Rattle.std.proofs.lemmas.Option.{option_and_then_some}
use Rattle.tx_tree.specs.WideTree.{WideTree}
use Rattle.tx_state.specs.declared.edits.Edit.{Edit}
use Rattle.tx_mod.specs.declared.faults.ModFault.{ModFault}
use Rattle.tx_mod.specs.Changes.{Outcome}
use Rattle.tx_mod.specs.InTurn.{changed_in_turn}
use Rattle.tx_state.specs.declared.TheConstants.{MOST_UNDO}
use Rattle.tx_doc.specs.Buffers.{tree_of}
use Rattle.tx_state.specs.States.{State, KeptEdit, present}
use Rattle.tx_state.specs.Edits.{edited, edited_to, cursor_after, with_outcome, turned, at_moment, back_to, on_to}
use Rattle.tx_state.specs.Edits.{undone_state, redone_state}
use Rattle.tx_state.specs.Undoing.{IsEditedBy, done_times, Restores, RunsOut}

pub same_state : (s t : State) → ◌≡◌ {A = Option State} (Some s) (Some t) → s ≡ t
same_state s t e = cc

-- ---- steps, and steps that lead back

step_kept : (step : State → Option State) (o : Option State) → option_and_then (done_times step zero) o ≡ o
step_kept step None = refl
step_kept step (Some s) = refl

step_further : (step : State → Option State) (n : ℕ)
    → ((s : State) → done_times step (suc n) s ≡ option_and_then step (done_times step n s)) → (o : Option State)
    → option_and_then (done_times step (suc n)) o ≡ option_and_then step (option_and_then (done_times step n) o)
step_further step n on None = refl
step_further step n on (Some s) = on s

-- one step more at the end
last_step : (step : State → Option State) (n : ℕ) (s : State)
    → done_times step (suc n) s ≡ option_and_then step (done_times step n s)
last_step step zero s = step_kept step (step s)
last_step step (suc n) s = step_further step n (λ x. last_step step n x) (step s)

-- where each step is led back, so are n of them
all_back : (go back : State → Option State) → ((s t : State) → go s ≡ Some t → back t ≡ Some s) → (n : ℕ) (s t : State)
    → done_times go n s ≡ Some t → done_times back n t ≡ Some s
all_back go back one zero s t e = sym e
all_back go back one (suc n) s t e =
    option_and_then_some (done_times go n) (go s) t e
    (λ x f g. last_step back n t ∙ ap (option_and_then back) (all_back go back one n x t g) ∙ one s x f)

-- ---- redo after undo, and undo after redo

undo_led_back : (s t : State) → undone_state s ≡ Some t → redone_state t ≡ Some s
undo_led_back s t e = by_past s.past refl e
  where
    by_past : (ps : List KeptEdit) → s.past ≡ ps → back_to s ps ≡ Some t → redone_state t ≡ Some s
    by_past [] h f = absurd (cc)
    by_past (kept ∷ ps) h f =
        ap redone_state (sym (same_state (at_moment s kept ps (turned s kept ∷ s.future)) t f))
        ∙ ap (λ qs. Some (record s { past = qs })) (sym h)

redo_led_back : (s t : State) → redone_state s ≡ Some t → undone_state t ≡ Some s
redo_led_back s t e = by_future s.future refl e
  where
    by_future : (ps : List KeptEdit) → s.future ≡ ps → on_to s ps ≡ Some t → undone_state t ≡ Some s
    by_future [] h f = absurd (cc)
    by_future (kept ∷ ps) h f =
        ap undone_state (sym (same_state (at_moment s kept (turned s kept ∷ s.past) ps) t f))
        ∙ ap (λ qs. Some (record s { future = qs })) (sym h)

pub redoes : (n : ℕ) (u v : State) → done_times undone_state n u ≡ Some v → done_times redone_state n v ≡ Some u
redoes n u v e = all_back undone_state redone_state undo_led_back n u v e

pub undoes : (n : ℕ) (u v : State) → done_times redone_state n u ≡ Some v → done_times undone_state n v ≡ Some u
undoes n u v e = all_back redone_state undone_state redo_led_back n u v e

-- ---- an edit

-- the state after an edit that makes the tree w
abbrev made : Edit → State → WideTree → State
made e s w = edited_to e.buffer e.mods w (cursor_after e s) s

edit_made : (e : Edit) (s u : State) (o : Outcome) → with_outcome e s o ≡ Ok u → (w : WideTree) × (u ≡ made e s w)
edit_made e s u (Ok w) h = (w, same_result (made e s w) u h)
  where
    same_result : (a b : State) → ◌≡◌ {A = Result State ModFault} (Ok a) (Ok b) → b ≡ a
    same_result a b f = cc
edit_made e s u (Err cause) h = absurd (cc)

found : (e : Edit) (s u : State) → edited e s ≡ Ok u → (w : WideTree) × (u ≡ made e s w)
found e s u h = edit_made e s u (changed_in_turn e.mods (tree_of s.buffers e.buffer)) h

abbrev kept_of : Edit → State → KeptEdit
kept_of e s = record { moment = present s; buffer = e.buffer; mods = e.mods }

edit_past : (e : Edit) (s u : State) → edited e s ≡ Ok u → u.past ≡ take MOST_UNDO (kept_of e s ∷ s.past)
edit_past e s u h = ap (λ x. x.past) (found e s u h).1

edit_selected : (e : Edit) (s u : State) → edited e s ≡ Ok u → u.selected ≡ s.selected
edit_selected e s u h = ap (λ x. x.selected) (found e s u h).1

pub no_redo : (e : Edit) (s u : State) → edited e s ≡ Ok u → redone_state u ≡ None
no_redo e s u h = ap redone_state (found e s u h).1

-- ---- undos

undo_to : (u : State) (kept : KeptEdit) (ps : List KeptEdit) → u.past ≡ kept ∷ ps
    → undone_state u ≡ Some (at_moment u kept ps (turned u kept ∷ u.future))
undo_to u kept ps h = ap (back_to u) h

-- the edits before the last k
kept_before : (d k : ℕ) (p : KeptEdit) (ps : List KeptEdit) → suc k ≤ d
    → take (d - k) (take d (p ∷ ps)) ≡ p ∷ take (d - suc k) ps
kept_before d k p ps le =
    let less : d - k ≤ d = omega arith in
    let one : d - k ≡ suc (d - suc k) = omega arith in
    take-take (d - k) d (p ∷ ps) less ∙ ap (λ n. take n (p ∷ ps)) one

few_kept : (e : Edit) (s u : State) → edited e s ≡ Ok u → length u.past ≡ min MOST_UNDO (suc (length s.past))
few_kept e s u h = ap length (edit_past e s u h) ∙ length-take MOST_UNDO (kept_of e s ∷ s.past)

pub restores : (es : List Edit) (s u : State) → Restores es s u
restores [] s u le h = (
  u,
  refl,
  record {
    buffers = ap (λ x. x.buffers) h;
    selected = ap (λ x. x.selected) h;
    cursor =
        ap (λ x. x.cursor) h;
    past = λ few. ap (λ x. x.past) h ∙ sym (take_all MOST_UNDO s.past few);
  },
)
restores (e ∷ es) s u le h =
    let next : State = h.0 in
    let less : length es ≤ MOST_UNDO = omega arith in
    let few : length next.past ≤ MOST_UNDO = omega (arith, few_kept e s next h.1) in
    let again = restores es next u less h.2 in
    let v : State = again.0 in
    let rest : List KeptEdit = take (MOST_UNDO - suc (length es)) s.past in
    let behind : v.past ≡ kept_of e s ∷ rest =
    again.2.past few ∙ ap (take (MOST_UNDO - length es)) (edit_past e s next h.1)
    ∙ kept_before MOST_UNDO (length es) (kept_of e s) s.past le in (
      at_moment v (kept_of e s) rest (turned v (kept_of e s) ∷ v.future),
      last_step undone_state (length es) u ∙ ap (option_and_then undone_state) again.1
          ∙ undo_to v (kept_of e s) rest behind,
      record {
        buffers = refl;
        selected = again.2.selected ∙ edit_selected e s next h.1;
        cursor = refl;
        past = λ _.
            refl;
      },
    )

-- all that can be taken back is taken back
drained : (ps : List KeptEdit) (u : State) → u.past ≡ ps
    → (w : State) × (done_times undone_state (length ps) u ≡ Some w) × (undone_state w ≡ None)
drained [] u h = (u, refl, ap (back_to u) h)
drained (p ∷ ps) u h =
    let further = drained ps (at_moment u p ps (turned u p ∷ u.future)) refl in
    (further.0, ap (option_and_then (done_times undone_state (length ps))) (undo_to u p ps h) ∙ further.1, further.2)

past_length : (es : List Edit) (s u : State) → length s.past ≤ MOST_UNDO → IsEditedBy es s u
    → length u.past ≡ min (length s.past + length es) MOST_UNDO
past_length [] s u few h = omega (arith, ap (λ x. length x.past) h)
past_length (e ∷ es) s u few h =
    let kept = few_kept e s h.0 h.1 in
    let within : length h.0.past ≤ MOST_UNDO = omega (arith, kept) in
    omega (arith, past_length es h.0 u within h.2, kept)

pub runs_out : (es : List Edit) (s u : State) → RunsOut es s u
runs_out es s u few h =
    let all = drained u.past u refl in
    (all.0, subst (λ n. done_times undone_state n u ≡ Some all.0) (past_length es s u few h) all.1, all.2)
