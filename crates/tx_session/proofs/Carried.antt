-- The view's cache is carried with edits, keys and the steps back and forth.
use Rattle.std.proofs.Common.{◌≡◌, ◌≢◌, ℕ, ◌+◌, ◌*◌, ◌≤◌, List, [], ◌∷◌, Option, Some, None, Result}
use Rattle.std.proofs.Common.{Ok, Err, refl, ap, sym, subst, ◌∙◌, arith}
use Rattle.std.specs.Prelude.{is_err, is_none, if◌then◌else◌}
use Rattle.std.specs.Option.{option_map_or}
use Rattle.tx_tree.specs.WideTree.{WideTree}
use Rattle.tx_mod.specs.declared.faults.ModFault.{ModFault}
use Rattle.tx_mod.specs.declared.mods.Mod.{Mod}
use Rattle.tx_mod.specs.Followed.{changed_by_all, outcome_tree as tree_made}
use Rattle.tx_mod.specs.InTurn.{changed_in_turn, cost_of, inverses_of}
use Rattle.tx_mod.proofs.InTurn.{same_in_turn}
use Rattle.tx_doc.specs.Buffers.{tree_of, with_tree}
use Rattle.tx_doc.specs.declared.buffer.Buffer.{Buffer}
use Rattle.tx_units.specs.Units.{made}
use Rattle.tx_state.specs.States.{State, KeptEdit}
use Rattle.tx_state.specs.Edits.{edited, undone_state, redone_state, back_to, on_to, cursor_after}
use Rattle.tx_state.specs.Ready.{IsReadyUndo, IsReadyRedo, cost_both_ways, first_cost, with_edit, with_undo, with_redo}
use Rattle.tx_state.specs.declared.edits.Edit.{Edit}
use Rattle.tx_state.specs.Leaving.{leaving}
use Rattle.tx_state.specs.declared.faults.LeaveFault.{LeaveFault}
use Rattle.tx_state.specs.declared.faults.LeaveFault.TheVariants as leaves
use Rattle.tx_state.specs.Leaving.{mods_among}
use Rattle.tx_state.specs.declared.edits.Prepared.{Prepared}
use Rattle.tx_edit.specs.declared.faults.EditFault.{EditFault}
use Rattle.tx_edit.specs.declared.faults.EditFault.TheVariants.{NoText, AtStart, AtEnd, NotInParagraph, Memory}
use Rattle.tx_edit.specs.declared.moves.Move.{Move}
use Rattle.tx_edit.specs.declared.moves.Move.TheVariants.{Edit as KeyEdit}
use Rattle.tx_cmd.specs.declared.command.Command.TheVariants.{Change, Undo, Redo, Typed, Backspace, Enter, UndoAt}
use Rattle.tx_view.specs.WholeViews.{WholeView}
use Rattle.tx_session.specs.declared.replies.Reply.{Reply}
use Rattle.tx_session.specs.declared.replies.Reply.TheVariants.{Done, Fixed, Made, Wanting, Unsaved}
use Rattle.tx_session.specs.Causes.{leave_reply}
use Rattle.tx_session.specs.Asking.{IsEditKept, IsKeyKept}
use Rattle.tx_session.specs.Keeps.{Keeps, carried_keep, undone_mods, redone_mods, leave_mods, kept_after}
use Rattle.tx_session.specs.Keeps.{edit_cost, key_cost, step_cost, leave_cost}
use Rattle.tx_session.specs.Effects.{leave_fails}
use Rattle.tx_session.specs.Saying.{Says, reply_mark}
use Rattle.tx_session.specs.Sessions.{keep_of, view_with}
use Rattle.tx_session.specs.States.{selected_edit, key_edit, by_typing, by_backspace, by_enter}
use Rattle.tx_session.specs.Worlds.{SeenSession, Keep, WholeSession, LineMark, plain, lacking, unsaved, told}
use Rattle.tx_session.proofs.Answered.{IsIdleReply, IsLeftReply}

-- modifications that make a tree in turn make it
pub in_turn : (ms : List Mod) (t u : WideTree) → changed_in_turn ms t ≡ Ok u → changed_by_all ms t ≡ Some u
in_turn ms t u e = sym (same_in_turn ms t) ∙ ap tree_made e

-- a view that was given a change has the carried cache
pub view_carried : (v w : WholeView) (old new : List Buffer) (p : Prepared) → v.buffers ≡ old → w ≡ view_with v p
    → new ≡ with_tree old p.buffer p.tree → keep_of w ≡ carried_keep old new (keep_of v) (p.buffer, p.mods)
view_carried v w old new p e f g =
    let h : new ≡ with_tree v.buffers p.buffer p.tree = g ∙ ap (λ x. with_tree x p.buffer p.tree) (sym e) in
    ap keep_of f ∙ ap (λ x. carried_keep v.buffers x (keep_of v) (p.buffer, p.mods)) (sym h)
    ∙ ap (λ x. carried_keep x new (keep_of v) (p.buffer, p.mods)) e

-- ---- edits

-- an edit that is done
pub edit_done : (edit : Edit) (now : WholeSession) (seen after : SeenSession) (v w : WholeView) (p : Prepared)
    → record { seen = seen; keep = keep_of v } ≡ now → edited edit seen.state ≡ Ok (with_edit seen.state p)
    → (p.buffer ≡ edit.buffer) × (p.mods ≡ edit.mods) × (p.cursor ≡ cursor_after edit seen.state)
    → v.buffers ≡ seen.state.buffers → w ≡ view_with v p → after.state ≡ with_edit seen.state p
    → IsEditKept (is_err (edited edit now.seen.state)) (edit.buffer, edit.mods) now plain
    (record { seen = after; keep = keep_of w })
edit_done edit now seen after v w p is e of g h k =
    let next : WholeSession = record { seen = after; keep = keep_of w } in
    let before : WholeSession = record { seen = seen; keep = keep_of v } in
    let old = seen.state.buffers in
    let new = after.state.buffers in
    let kept : keep_of w ≡ carried_keep old new (keep_of v) (edit.buffer, edit.mods) =
    view_carried v w old new p g h (ap (λ s. s.buffers) k) ∙ (λ i. carried_keep old new (keep_of v) (of.0 i, of.1 i)) in
    let made : IsEditKept (is_err (edited edit seen.state)) (edit.buffer, edit.mods) before plain next =
    subst (λ z. IsEditKept (is_err z) (edit.buffer, edit.mods) before plain next) (sym e) kept in
    subst (λ x. IsEditKept (is_err (edited edit x.seen.state)) (edit.buffer, edit.mods) x plain next) is made

-- one that is refused
pub refused_kept : (r : Result State ModFault) (cause : ModFault) (edit : ℕ × List Mod) (before after : WholeSession)
    (mark : LineMark) → r ≡ Err cause → (mark ≢ unsaved) → ((n : ℕ) → mark ≢ told n) → after.keep ≡ before.keep
    → IsEditKept (is_err r) edit before mark after
refused_kept r cause edit before after plain e u t h =
    subst (λ z. IsEditKept (is_err z) edit before plain after) (sym e) h
refused_kept r cause edit before after lacking e u t h = h
refused_kept r cause edit before after unsaved e u t h = absurd (u refl)
refused_kept r cause edit before after (told n) e u t h = absurd (t n refl)

pub change_keeps : (m : Mod) (edit : Edit) (before after : WholeSession) (mark : LineMark)
    → edit ≡ selected_edit before.seen.state m
    → IsEditKept (is_err (edited edit before.seen.state)) (edit.buffer, edit.mods) before mark after
    → Keeps before (Change m) mark after
change_keeps m edit before after mark e h =
    by_mark mark
    (subst (λ z. IsEditKept (is_err (edited z before.seen.state)) (z.buffer, z.mods) before mark after) e h)
  where
    by_mark : (mark : LineMark)
        → IsEditKept (is_err (edited (selected_edit before.seen.state m) before.seen.state))
        (before.seen.state.selected, m ∷ []) before mark after
        → Keeps before (Change m) mark after
    by_mark plain h = h
    by_mark lacking h = h
    by_mark unsaved h = absurd h
    by_mark (told n) h = absurd h

-- ---- keys

pub key_kept : (outcome : Result Move EditFault) (mods : List Mod) (to : _) (before after : WholeSession)
    (mark : LineMark) → outcome ≡ Ok (KeyEdit mods to)
    → IsEditKept (is_err (edited (key_edit mods) before.seen.state)) (0, mods) before mark after
    → IsKeyKept outcome before mark after
key_kept outcome mods to before after mark e h = subst (λ o. IsKeyKept o before mark after) (sym e) (by_mark mark h)
  where
    by_mark : (mark : LineMark)
        → IsEditKept (is_err (edited (key_edit mods) before.seen.state)) (0, mods) before mark after
        → IsKeyKept (Ok (KeyEdit mods to)) before mark after
    by_mark plain h = h
    by_mark lacking h = h
    by_mark unsaved h = absurd h
    by_mark (told n) h = absurd h

named_kept : (fault : EditFault) (outcome : Result Move EditFault) (whole : WholeSession) (reply : Reply)
    → fault ≢ Memory → IsIdleReply fault reply → outcome ≡ Err fault → IsKeyKept outcome whole (reply_mark reply) whole
named_kept fault outcome whole reply named h e =
    subst (λ o. IsKeyKept o whole (reply_mark reply) whole) (sym e)
    (subst (λ m. IsKeyKept (Err fault) whole m whole) (sym (h.0 named).1) refl)

-- a key that does nothing keeps all
pub idle_kept : (fault : EditFault) (outcome : Result Move EditFault) (whole : WholeSession) (reply : Reply)
    → IsIdleReply fault reply → (fault ≢ Memory → outcome ≡ Err fault)
    → IsKeyKept outcome whole (reply_mark reply) whole
idle_kept NoText outcome whole reply h e = named_kept NoText outcome whole reply (λ f. cc) h (e (λ f. cc))
idle_kept AtStart outcome whole reply h e = named_kept AtStart outcome whole reply (λ f. cc) h (e (λ f. cc))
idle_kept AtEnd outcome whole reply h e = named_kept AtEnd outcome whole reply (λ f. cc) h (e (λ f. cc))
idle_kept NotInParagraph outcome whole reply h e =
    named_kept NotInParagraph outcome whole reply (λ f. cc) h (e (λ f. cc))
idle_kept Memory outcome whole reply h e =
    subst (λ r. IsKeyKept outcome whole (reply_mark r) whole) (sym (h.1 refl)) refl

pub typed_keeps : (text : List ℕ) (before after : WholeSession) (mark : LineMark)
    → IsKeyKept (by_typing before.seen.state text) before mark after → Keeps before (Typed text) mark after
typed_keeps text before after plain h = h
typed_keeps text before after lacking h = h
typed_keeps text before after unsaved h = absurd h
typed_keeps text before after (told n) h = absurd h

pub backspace_keeps : (before after : WholeSession) (mark : LineMark)
    → IsKeyKept (by_backspace before.seen.state) before mark after → Keeps before Backspace mark after
backspace_keeps before after plain h = h
backspace_keeps before after lacking h = h
backspace_keeps before after unsaved h = absurd h
backspace_keeps before after (told n) h = absurd h

pub enter_keeps : (before after : WholeSession) (mark : LineMark)
    → IsKeyKept (by_enter before.seen.state) before mark after → Keeps before Enter mark after
enter_keeps before after plain h = h
enter_keeps before after lacking h = h
enter_keeps before after unsaved h = absurd h
enter_keeps before after (told n) h = absurd h

-- ---- undo and redo

some_state : {s : State} → None ≡ Some s → ⊥
some_state e = cc

-- an edit that is taken back goes by the inverses
pub undo_kept : (state next : State) (b : ℕ) (mods : List Mod) (k : Keep) → undone_state state ≡ Some next
    → ((e : KeptEdit) (past : List KeptEdit) → state.past ≡ e ∷ past
    → (b ≡ e.buffer) × (mods ≡ inverses_of e.mods (tree_of e.moment.buffers e.buffer)))
    → kept_after state Undo next k ≡ carried_keep state.buffers next.buffers k (b, mods)
undo_kept state next b mods k e h = by_past state.past refl
  where
    by_past : (past : List KeptEdit) → state.past ≡ past
        → kept_after state Undo next k ≡ carried_keep state.buffers next.buffers k (b, mods)
    by_past [] f = absurd (some_state (ap (back_to state) (sym f) ∙ e))
    by_past (kept ∷ past) f =
        let is = h kept past f in
        let new = next.buffers in
        ap (λ o. if is_none o then k else option_map_or (carried_keep state.buffers new k) (undone_mods state.past) k) e
        ∙ ap (λ ps. option_map_or (carried_keep state.buffers next.buffers k) (undone_mods ps) k) f
        ∙ (λ i. carried_keep state.buffers next.buffers k (sym is.0 i, sym is.1 i))

pub redo_kept : (state next : State) (b : ℕ) (mods : List Mod) (k : Keep) → redone_state state ≡ Some next
    → ((e : KeptEdit) (future : List KeptEdit) → state.future ≡ e ∷ future → (b ≡ e.buffer) × (mods ≡ e.mods))
    → kept_after state Redo next k ≡ carried_keep state.buffers next.buffers k (b, mods)
redo_kept state next b mods k e h = by_future state.future refl
  where
    by_future : (future : List KeptEdit) → state.future ≡ future
        → kept_after state Redo next k ≡ carried_keep state.buffers next.buffers k (b, mods)
    by_future [] f = absurd (some_state (ap (on_to state) (sym f) ∙ e))
    by_future (kept ∷ future) f =
        let is = h kept future f in
        let new = next.buffers in
        ap (λ o. if is_none o then k else option_map_or (carried_keep state.buffers new k)
        (redone_mods state.future) k) e
        ∙ ap (λ es. option_map_or (carried_keep state.buffers next.buffers k) (redone_mods es) k) f
        ∙ (λ i. carried_keep state.buffers next.buffers k (sym is.0 i, sym is.1 i))

made_buffers : (o : Option State) (s t : State) → o ≡ Some s → o ≡ Some t → s.buffers ≡ t.buffers
made_buffers o s t e f = let same : Some s ≡ Some t = sym e ∙ f in
    ap (λ z. option_map_or (λ x. x.buffers) z []) same

module _ (now : WholeSession) (seen after : SeenSession) (v w : WholeView) (p : Prepared)
    (is : record { seen = seen; keep = keep_of v } ≡ now) (same : v.buffers ≡ seen.state.buffers)
    (with_change : w ≡ view_with v p) where
  abbrev next : WholeSession
  next = record { seen = after; keep = keep_of w }

  pub undo_done : IsReadyUndo seen.state p → undone_state seen.state ≡ Some after.state
      → ((e : KeptEdit) (past : List KeptEdit) → seen.state.past ≡ e ∷ past
      → (p.buffer ≡ e.buffer) × (p.mods ≡ inverses_of e.mods (tree_of e.moment.buffers e.buffer)))
      → Keeps now Undo plain next
  undo_done ready done h =
      subst (λ x. Keeps x Undo plain next) is
      (view_carried v w seen.state.buffers after.state.buffers p same with_change
      (sym (made_buffers (undone_state seen.state) (with_undo seen.state p) after.state ready.is done))
      ∙ sym (undo_kept seen.state after.state p.buffer p.mods (keep_of v) done h))

  pub redo_done : IsReadyRedo seen.state p → redone_state seen.state ≡ Some after.state
      → ((e : KeptEdit) (future : List KeptEdit) → seen.state.future ≡ e ∷ future
      → (p.buffer ≡ e.buffer) × (p.mods ≡ e.mods))
      → Keeps now Redo plain next
  redo_done ready done h =
      subst (λ x. Keeps x Redo plain next) is
      (view_carried v w seen.state.buffers after.state.buffers p same with_change
      (sym (made_buffers (redone_state seen.state) (with_redo seen.state p) after.state ready.is done))
      ∙ sym (redo_kept seen.state after.state p.buffer p.mods (keep_of v) done h))

-- where there is nothing to take back, or to make again
pub no_undo_keeps : (now after : WholeSession) → undone_state now.seen.state ≡ None → after.keep ≡ now.keep
    → Keeps now Undo plain after
no_undo_keeps now after e h =
    let k = now.keep in
    let state = now.seen.state in
    h ∙ sym (ap (λ o. if is_none o then k
    else option_map_or (carried_keep state.buffers after.seen.state.buffers k) (undone_mods state.past) k) e)

pub no_redo_keeps : (now after : WholeSession) → redone_state now.seen.state ≡ None → after.keep ≡ now.keep
    → Keeps now Redo plain after
no_redo_keeps now after e h =
    let k = now.keep in
    let state = now.seen.state in
    h ∙ sym (ap (λ o. if is_none o then k
    else option_map_or (carried_keep state.buffers after.seen.state.buffers k) (redone_mods state.future) k) e)

-- ---- an earlier edit

abbrev kept_by : Result Edit LeaveFault → WholeSession → State → Keep
kept_by r before next =
    if leave_fails before.seen.state r then before.keep
    else option_map_or (carried_keep before.seen.state.buffers next.buffers before.keep) (leave_mods r) before.keep

-- the edit that takes an earlier one back was done or refused
pub leave_keeps : (n : ℕ) (edit : Edit) (before after : WholeSession) (mark : LineMark)
    → leaving n before.seen.state ≡ Ok edit
    → IsEditKept (is_err (edited edit before.seen.state)) (edit.buffer, edit.mods) before mark after
    → Keeps before (UndoAt n) mark after
leave_keeps n edit before after plain e h = h ∙ sym (ap (λ r. kept_by r before after.seen.state) e)
leave_keeps n edit before after lacking e h = h
leave_keeps n edit before after unsaved e h = absurd h
leave_keeps n edit before after (told k) e h = absurd h

named_not_left : (n : ℕ) (fault : LeaveFault) (whole : WholeSession) (reply : Reply)
    → Says reply (leave_reply fault) → leaving n whole.seen.state ≡ Err fault
    → Keeps whole (UndoAt n) (reply_mark reply) whole
named_not_left n fault whole Done says e = sym (ap (λ r. kept_by r whole whole.seen.state) e)
named_not_left n fault whole (Fixed text) says e = sym (ap (λ r. kept_by r whole whole.seen.state) e)
named_not_left n fault whole (Made text) says e = sym (ap (λ r. kept_by r whole whole.seen.state) e)
named_not_left n fault whole Wanting says e = refl
named_not_left n fault whole Unsaved says e = absurd says

-- an earlier edit that can't be taken back keeps all
pub not_left_keeps : (n : ℕ) (fault : LeaveFault) (whole : WholeSession) (reply : Reply) → IsLeftReply fault reply
    → (fault ≢ leaves.Memory → leaving n whole.seen.state ≡ Err fault) → Keeps whole (UndoAt n) (reply_mark reply) whole
not_left_keeps n leaves.Nothing whole reply h e =
    named_not_left n leaves.Nothing whole reply (h.0 (λ f. cc)) (e (λ f. cc))
not_left_keeps n (leaves.Entangled j) whole reply h e =
    named_not_left n (leaves.Entangled j) whole reply (h.0 (λ f. cc)) (e (λ f. cc))
not_left_keeps n (leaves.Refused cause) whole reply h e =
    named_not_left n (leaves.Refused cause) whole reply (h.0 (λ f. cc)) (e (λ f. cc))
not_left_keeps n leaves.Memory whole reply h e =
    subst (λ r. Keeps whole (UndoAt n) (reply_mark r) whole) (sym (h.1 refl)) refl

-- ---- steps

-- finding what takes an earlier edit back, and doing it
pub leave_counted : (n : ℕ) (edit : Edit) (state : State) (old between new reach : ℕ) → leaving n state ≡ Ok edit
    → between ≤ old + 1609 * reach → new ≤ between + edit_cost edit.mods (edited edit state)
    → new ≤ old + (1609 * reach + leave_cost state (leaving n state))
leave_counted n edit state old between new reach e h k = omega (arith, h, k, ap (leave_cost state) e)

both_ways : (mods : List Mod) (r : Result State ModFault) → cost_both_ways mods ≤ edit_cost mods r
both_ways mods (Ok next) = omega arith
both_ways mods (Err cause) = omega arith

-- an edit that isn't put in place
pub edit_tried : (mods : List Mod) (r : Result State ModFault) (old new : ℕ) → new ≤ old + cost_both_ways mods
    → new ≤ old + edit_cost mods r
edit_tried mods r old new h = omega (arith, h, both_ways mods r)

-- an edit that was made ready, and that the view was given
pub edit_counted : (state : State) (edit : Edit) (p : Prepared) (bs : List Buffer) (old between new : ℕ)
    → edited edit state ≡ Ok (with_edit state p) → p.mods ≡ edit.mods → bs ≡ state.buffers
    → between ≤ old + cost_both_ways edit.mods
    → new ≤ between + (cost_of p.mods + made (with_tree bs p.buffer p.tree))
    → new ≤ old + edit_cost edit.mods (edited edit state)
edit_counted state edit p bs old between new e f g h k =
    let cost : edit_cost edit.mods (edited edit state)
    ≡ 3 * cost_of edit.mods + made (with_tree state.buffers p.buffer p.tree) = ap (edit_cost edit.mods) e in
    omega (arith, h, k, cost, ap cost_of f, ap (λ z. made (with_tree z p.buffer p.tree)) g)

pub key_counted : (outcome : Result Move EditFault) (mods : List Mod) (to : _) (state : State) (old new : ℕ)
    → outcome ≡ Ok (KeyEdit mods to) → new ≤ old + edit_cost mods (edited (key_edit mods) state)
    → new ≤ old + key_cost state outcome
key_counted outcome mods to state old new e h = subst (λ o. new ≤ old + key_cost state o) (sym e) h

first_both : (edits : List KeptEdit) (mods : Option (ℕ × List Mod)) (next : Option State)
    → first_cost edits ≤ step_cost edits mods next
first_both [] mods next = omega arith
first_both (kept ∷ edits) mods next = omega arith

-- a step that isn't put in place
pub step_tried : (edits : List KeptEdit) (mods : Option (ℕ × List Mod)) (next : Option State) (old new : ℕ)
    → new ≤ old + first_cost edits → new ≤ old + step_cost edits mods next
step_tried edits mods next old new h = omega (arith, h, first_both edits mods next)

-- a step that was made ready, and that the view was given
step_counted : (edits : List KeptEdit) (b : ℕ) (mods : List Mod) (made_of : Option (ℕ × List Mod)) (next : Option State)
    (then_state : State) (old between new : ℕ) → edits ≢ [] → made_of ≡ Some (b, mods) → next ≡ Some then_state
    → between ≤ old + first_cost edits
    → new ≤ between + (cost_of mods + made then_state.buffers) → new ≤ old + step_cost edits made_of next
step_counted [] b mods made_of next then_state old between new n e f h k = absurd (n refl)
step_counted (kept ∷ edits) b mods made_of next then_state old between new n e f h k =
    let by_mods : option_map_or (λ c. cost_of c.1) made_of 0 ≡ cost_of mods =
    ap (λ o. option_map_or (λ c. cost_of c.1) o 0) e in
    let by_next : option_map_or (λ s. made s.buffers) next 0 ≡ made then_state.buffers =
    ap (λ o. option_map_or (λ s. made s.buffers) o 0) f in
    omega (arith, h, k, by_mods, by_next)

pub undo_counted : (state : State) (p : Prepared) (bs : List Buffer) (old between new : ℕ)
    → undone_state state ≡ Some (with_undo state p)
    → ((e : KeptEdit) (past : List KeptEdit) → state.past ≡ e ∷ past
    → (p.buffer ≡ e.buffer) × (p.mods ≡ inverses_of e.mods (tree_of e.moment.buffers e.buffer)))
    → bs ≡ state.buffers → between ≤ old + first_cost state.past
    → new ≤ between + (cost_of p.mods + made (with_tree bs p.buffer p.tree))
    → new ≤ old + step_cost state.past (undone_mods state.past) (undone_state state)
undo_counted state p bs old between new e h g i k = by_past state.past refl
  where
    by_past : (past : List KeptEdit) → state.past ≡ past
        → new ≤ old + step_cost state.past (undone_mods state.past) (undone_state state)
    by_past [] f = absurd (some_state (ap (back_to state) (sym f) ∙ e))
    by_past (kept ∷ past) f =
        let is = h kept past f in
        let some : state.past ≢ [] = λ n. cc in
        step_counted state.past p.buffer p.mods (undone_mods state.past) (undone_state state) (with_undo state p) old
        between new some (ap undone_mods f ∙ (λ i. Some (sym is.0 i, sym is.1 i))) e i
        (subst (λ z. new ≤ between + (cost_of p.mods + made (with_tree z p.buffer p.tree))) g k)

pub redo_counted : (state : State) (p : Prepared) (bs : List Buffer) (old between new : ℕ)
    → redone_state state ≡ Some (with_redo state p)
    → ((e : KeptEdit) (future : List KeptEdit) → state.future ≡ e ∷ future
    → (p.buffer ≡ e.buffer) × (p.mods ≡ e.mods))
    → bs ≡ state.buffers → between ≤ old + first_cost state.future
    → new ≤ between + (cost_of p.mods + made (with_tree bs p.buffer p.tree))
    → new ≤ old + step_cost state.future (redone_mods state.future) (redone_state state)
redo_counted state p bs old between new e h g i k = by_future state.future refl
  where
    by_future : (future : List KeptEdit) → state.future ≡ future
        → new ≤ old + step_cost state.future (redone_mods state.future) (redone_state state)
    by_future [] f = absurd (some_state (ap (on_to state) (sym f) ∙ e))
    by_future (kept ∷ future) f =
        let is = h kept future f in
        let some : state.future ≢ [] = λ n. cc in
        step_counted state.future p.buffer p.mods (redone_mods state.future) (redone_state state) (with_redo state p)
        old between new some (ap redone_mods f ∙ (λ i. Some (sym is.0 i, sym is.1 i))) e i
        (subst (λ z. new ≤ between + (cost_of p.mods + made (with_tree z p.buffer p.tree))) g k)
