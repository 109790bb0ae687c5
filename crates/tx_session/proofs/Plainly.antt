-- Replies that are no marks.
use Rattle.std.proofs.Common.{◌≡◌, ◌≢◌, ◌≤◌, ◌+◌, ◌==◌, ◌||◌, if◌then◌else◌, Bool, true, false, ℕ, List, [], ◌∷◌, ◌++◌}
use Rattle.std.proofs.Common.{take, Option, Some, None, Result, Ok, Err, refl, ap, sym, ◌∙◌, subst, inl, inr}
use Rattle.std.proofs.Common.{arith}
use Rattle.std.specs.Prelude.{codes, decimal, OnOk, bytes_eq, slice_get}
use Rattle.std.specs.Io.KnownBytes.{append_known}
use Rattle.std.specs.List.{flat_map}
use Rattle.std.proofs.lemmas.List.{append_cancel_left}
use Rattle.tx_outside.specs.Counts.{Rose}
use Rattle.tx_outside.specs.declared.faults.WriteFault.{WriteFault}
use Rattle.tx_tree.specs.PathSpelling.{place_text}
use Rattle.tx_tree.specs.WideTree.{WideTree, leaf, node}
use Rattle.tx_tree.specs.declared.faults.PlaceFault.{PlaceFault}
use Rattle.tx_tree.specs.declared.faults.PlaceFault.TheVariants as places
use Rattle.tx_scm.specs.Canonical.{scheme_text}
use Rattle.tx_mod.specs.declared.faults.ModFault.{ModFault}
use Rattle.tx_mod.specs.declared.faults.ModFault.TheVariants.{NoPath, NotString, NotNode, BadPlace, Differ, CutsSymbol}
use Rattle.tx_mod.specs.declared.faults.ModFault.TheVariants.{TooLong, TooWide, TooDeep, TooBig}
use Rattle.tx_doc.specs.Forms.{form_of}
use Rattle.tx_doc.specs.Buffers.{number_of}
use Rattle.tx_state.specs.States.{State}
use Rattle.tx_state.specs.Edits.{edited, undone_state, redone_state}
use Rattle.tx_state.specs.Leaving.{leaving}
use Rattle.tx_state.specs.declared.faults.LeaveFault.{LeaveFault}
use Rattle.tx_state.specs.declared.faults.LeaveFault.TheVariants as leaves
use Rattle.tx_state.specs.declared.edits.Edit.{Edit}
use Rattle.tx_edit.specs.declared.faults.EditFault.{EditFault}
use Rattle.tx_edit.specs.declared.faults.EditFault.TheVariants as keys
use Rattle.tx_edit.specs.declared.faults.EditFault.TheVariants.{NoText, AtStart, AtEnd, NotInParagraph}
use Rattle.tx_edit.specs.declared.moves.Move.{Move}
use Rattle.tx_edit.specs.declared.moves.Move.TheVariants.{Edit as KeyEdit, Go as MoveTo}
use Rattle.tx_edit.specs.Stops.{to_left, to_right}
use Rattle.tx_origin.specs.RelativePlaces.{BasedPlace}
use Rattle.tx_lines.specs.declared.cut.Cut.{Cut}
use Rattle.tx_layout.specs.declared.layout.Line.{Line}
use Rattle.tx_view_form.specs.Views.{WideView, lines_of}
use Rattle.tx_view_form.specs.Positions.{position_in, whole_path}
use Rattle.tx_view_form.specs.Stops.{stops_of}
use Rattle.tx_print.specs.Lines.{shown}
use Rattle.tx_print.specs.Pages.{show_text, page_or, page_numbered}
use Rattle.tx_print.specs.Errors.{errors_text}
use Rattle.tx_print.specs.Places.{no_cell, place_or}
use Rattle.tx_print.specs.Runs.{CellRun, run_text, runs_or, runs_from, looks_on}
use Rattle.tx_cmd.specs.declared.command.Command.{Command}
use Rattle.tx_cmd.specs.declared.command.Command.TheVariants.{Change, Undo, Redo, At, Go, Click, Left, Right, Typed}
use Rattle.tx_cmd.specs.declared.command.Command.TheVariants.{Backspace, Enter, Show, Page, Errors, PlaceOf, Cursor}
use Rattle.tx_cmd.specs.declared.command.Command.TheVariants.{Attrs, Work, Tree, Save, Quit, UndoAt}
use Rattle.tx_cmd.specs.declared.command.CmdFault.{CmdFault}
use Rattle.tx_cmd.specs.declared.command.CmdFault.TheVariants.{Long, Unknown, Args, Path, Tree as BadTree, Memory}
use Rattle.tx_session.specs.declared.session.Next.{Next}
use Rattle.tx_session.specs.Causes.{cause_reply, astray_reply, key_reply, leave_reply}
use Rattle.tx_session.specs.Differences.{IsPlainReply}
use Rattle.tx_session.specs.Forms.{Saving, no_form, file_long, writes, saving}
use Rattle.tx_print.specs.Lines.{line}
use Rattle.tx_print.specs.Work.{work_reply}
use Rattle.tx_session.specs.Replies.{wanting_reply, unsaved_reply, refusal, IsDone, IsReply}
use Rattle.tx_session.specs.States.{selected_edit, selected_tree, key_edit, by_typing, by_backspace, by_enter}
use Rattle.tx_session.specs.States.{view_reply, IsAnswer, IsEditAnswer, IsKeyAnswer, IsStepAnswer, IsChoice, IsGoAnswer}
use Rattle.tx_session.specs.States.{IsLeaveAnswer, IsClickAnswer, IsAskedAnswer, IsViewAnswer, done_reply, save_reply}
use Rattle.tx_session.specs.Worlds.{SeenWorld, LineMark, plain, lacking, unsaved, told}
use Rattle.tx_session.specs.Writing.{IsSaid}

-- the first six bytes are those of one of the two
abbrev begins_mark : List ℕ → Bool
begins_mark reply = bytes_eq (take 6 reply) (codes "no mem") || bytes_eq (take 6 reply) (codes "no sto")

differ : false ≡ true → ⊥
differ e = cc

begun : (reply : List ℕ) → begins_mark reply ≡ false → IsPlainReply reply
begun reply e = (λ f. differ (sym e ∙ ap begins_mark f), λ f. differ (sym e ∙ ap begins_mark f))

plain_cause : (cause : ModFault) → IsPlainReply (cause_reply cause)
plain_cause (NoPath n) = begun (cause_reply (NoPath n)) refl
plain_cause NotString = begun (cause_reply NotString) refl
plain_cause NotNode = begun (cause_reply NotNode) refl
plain_cause (BadPlace n) = begun (cause_reply (BadPlace n)) refl
plain_cause Differ = begun (cause_reply Differ) refl
plain_cause (CutsSymbol n) = begun (cause_reply (CutsSymbol n)) refl
plain_cause (TooLong n) = begun (cause_reply (TooLong n)) refl
plain_cause (TooWide n) = begun (cause_reply (TooWide n)) refl
plain_cause (TooDeep n) = begun (cause_reply (TooDeep n)) refl
plain_cause (TooBig n) = begun (cause_reply (TooBig n)) refl

plain_astray : (fault : PlaceFault) → IsPlainReply (astray_reply fault)
plain_astray (places.NoPath n) = begun (astray_reply (places.NoPath n)) refl
plain_astray (places.BadPlace n) = begun (astray_reply (places.BadPlace n)) refl
plain_astray (places.CutsSymbol n) = begun (astray_reply (places.CutsSymbol n)) refl

plain_save : (s : Saving) → IsPlainReply (save_reply s)
plain_save no_form = begun (save_reply no_form) refl
plain_save (file_long n) = begun (save_reply (file_long n)) refl
plain_save (writes bytes) = begun (save_reply (writes bytes)) refl

plain_ok : IsPlainReply done_reply
plain_ok = begun done_reply refl

plain_tree : (t : WideTree) → IsPlainReply (line (scheme_text t))
plain_tree (leaf text) = begun (line (scheme_text (leaf text))) refl
plain_tree (node label ts) = begun (line (scheme_text (node label ts))) refl

plain_place : (path : List ℕ) (o : ℕ) → IsPlainReply (line (place_text path o))
plain_place [] o = begun (line (place_text [] o)) refl
plain_place (n ∷ path) o = begun (line (place_text (n ∷ path) o)) refl

kept : (a b : List ℕ) → a ≡ b → IsPlainReply b → IsPlainReply a
kept a b e h = subst IsPlainReply (sym e) h

plain_edit : (state : State) (r : Result State ModFault) (next : State) (reply : List ℕ)
    → IsEditAnswer state r next reply → IsPlainReply reply
plain_edit state (Ok made) next reply h = kept reply done_reply h.1 plain_ok
plain_edit state (Err cause) next reply h = kept reply (cause_reply cause) h.1 (plain_cause cause)

plain_step : (state : State) (none : List ℕ) (r : Option State) (next : State) (reply : List ℕ)
    → IsPlainReply (line none) → IsStepAnswer state none r next reply → IsPlainReply reply
plain_step state none (Some made) next reply n h = kept reply done_reply h.1 plain_ok
plain_step state none None next reply n h = kept reply (line none) h.1 n

plain_go : (state : State) (numbers : List ℕ) (next : State) (reply : List ℕ) → IsGoAnswer state numbers next reply
    → IsPlainReply reply
plain_go state numbers next reply (inl h) = kept reply done_reply h.1 plain_ok
plain_go state numbers next reply (inr h) = kept reply (astray_reply h.0) h.3 (plain_astray h.0)

plain_key_cause : (fault : EditFault) → IsPlainReply (key_reply fault)
plain_key_cause NoText = begun (key_reply NoText) refl
plain_key_cause AtStart = begun (key_reply AtStart) refl
plain_key_cause AtEnd = begun (key_reply AtEnd) refl
plain_key_cause NotInParagraph = begun (key_reply NotInParagraph) refl
plain_key_cause keys.Memory = begun (key_reply keys.Memory) refl

plain_key : (state : State) (r : Result Move EditFault) (next : State) (reply : List ℕ)
    → IsKeyAnswer state r next reply → IsPlainReply reply
plain_key state (Ok (KeyEdit mods to)) next reply h = plain_edit state (edited (key_edit mods) state) next reply h
plain_key state (Ok (MoveTo to)) next reply h = kept reply done_reply h.1 plain_ok
plain_key state (Err fault) next reply h = kept reply (key_reply fault) h.2 (plain_key_cause fault)

plain_leave_cause : (fault : LeaveFault) → IsPlainReply (leave_reply fault)
plain_leave_cause leaves.Nothing = begun (leave_reply leaves.Nothing) refl
plain_leave_cause (leaves.Entangled j) = begun (leave_reply (leaves.Entangled j)) refl
plain_leave_cause (leaves.Refused cause) = plain_cause cause
plain_leave_cause leaves.Memory = begun (leave_reply leaves.Memory) refl

plain_leave : (n : ℕ) (state : State) (r : Result Edit LeaveFault) (next : State) (reply : List ℕ)
    → IsLeaveAnswer n state r next reply → IsPlainReply reply
plain_leave n state (Ok edit) next reply h = plain_edit state (edited edit state) next reply h.2
plain_leave n state (Err fault) next reply h = kept reply (leave_reply fault) h.2 (plain_leave_cause fault)

plain_choice : (state : State) (r : Option ℕ) (next : State) (reply : List ℕ) → IsChoice state r next reply
    → IsPlainReply reply
plain_choice state (Some number) next reply h = kept reply done_reply h.1 plain_ok
plain_choice state None next reply h =
    kept reply (line (codes "no buffer")) h.1 (begun (line (codes "no buffer")) refl)

-- ---- what is printed of a view

plain_no_cell : (v : WideView) (width : ℕ) → IsPlainReply (no_cell v width)
plain_no_cell v width = begun (no_cell v width) refl

plain_click : (v : WideView) (width : ℕ) (state : State) (r : Option BasedPlace) (next : State) (reply : List ℕ)
    → IsClickAnswer state (no_cell v width) r next reply → IsPlainReply reply
plain_click v width state (Some p) next reply h = kept reply done_reply h.1 plain_ok
plain_click v width state None next reply h = kept reply (no_cell v width) h.1 (plain_no_cell v width)

plain_page : (v : WideView) (n : ℕ) (cut : Option Cut) → IsPlainReply (page_or v n cut)
plain_page v n (Some cut) = begun (page_or v n (Some cut)) refl
plain_page v n None = begun (page_or v n None) refl

plain_where : (v : WideView) (width : ℕ) (p : Option BasedPlace) → IsPlainReply (place_or (no_cell v width) p)
plain_where v width (Some p) = plain_place (whole_path p) p.offset
plain_where v width None = plain_no_cell v width

-- how many spaces there are
unfoldable spaces_in : List ℕ → ℕ
spaces_in [] = 0
spaces_in (b ∷ bytes) = (if b == 32 then 1 else 0) + spaces_in bytes

spaces_both : (a b : List ℕ) → spaces_in (a ++ b) ≡ spaces_in a + spaces_in b
unfolding spaces_in
spaces_both [] b = omega arith
spaces_both (x ∷ a) b = omega (arith, spaces_both a b)

-- both marks have one space
spaced : (reply : List ℕ) → 2 ≤ spaces_in reply → IsPlainReply reply
unfolding spaces_in
spaced reply some =
    let memory : spaces_in wanting_reply ≡ 1 = refl in
    let store : spaces_in unsaved_reply ≡ 1 = refl in (
      λ e. absurd (omega (arith, some, memory, ap spaces_in e)),
      λ e. absurd
          (omega (arith, some, store, ap spaces_in e)),
    )

-- a text, two more after spaces, and a last byte
two_spaces : (a b c : List ℕ) (last : ℕ) (more : List ℕ) → 2 ≤ spaces_in (a ++ 32 ∷ b ++ 32 ∷ c ++ last ∷ [] ++ more)
unfolding spaces_in
two_spaces a b c last more = omega (
  arith,
  spaces_both (a ++ 32 ∷ b ++ 32 ∷ c ++ last ∷ []) more,
  spaces_both (a ++ 32 ∷ b ++ 32 ∷ c) (last ∷ []),
  spaces_both (a ++ 32 ∷ b) (32 ∷ c),
  spaces_both a (32 ∷ b),
)

plain_run : (r : CellRun) (more : List ℕ) → 2 ≤ spaces_in (run_text r ++ more)
plain_run r more =
    two_spaces (decimal r.from ++ 32 ∷ decimal r.to ++ 32 ∷ shown r.look.series) (shown r.look.shape)
    (shown r.look.color) 10 more

plain_runs : (rs : List CellRun) → IsPlainReply (flat_map run_text rs)
plain_runs [] = begun [] refl
plain_runs (r ∷ rs) = spaced (flat_map run_text (r ∷ rs)) (plain_run r (flat_map run_text rs))

plain_attrs : (v : WideView) (width : ℕ) (l : Option Line) → IsPlainReply (runs_or (no_cell v width) l)
plain_attrs v width (Some l) = plain_runs (runs_from 0 (looks_on l))
plain_attrs v width None = plain_no_cell v width

plain_printed : (width : ℕ) (v : WideView) (it : Command) → IsPlainReply (view_reply width v it)
plain_printed width v Show = begun (show_text v) refl
plain_printed width v (Page n) = plain_page v n (page_numbered v.pages n)
plain_printed width v Errors = begun (errors_text v) refl
plain_printed width v (PlaceOf r c) = plain_where v width (position_in v.units width r c)
plain_printed width v (Attrs r) = plain_attrs v width (slice_get (lines_of v.units) r)
plain_printed width v it = begun [] refl

plain_asked : (width : ℕ) (v : WideView) (state : State) (it : Command) (next : State) (reply : List ℕ)
    → IsAskedAnswer width v state it next reply → IsPlainReply reply
plain_asked width v state (Click r c) next reply h =
    plain_click v width state (position_in v.units width r c) next reply h
plain_asked width v state Left next reply h =
    plain_key state (to_left (stops_of v.units) state.cursor) next reply h
plain_asked width v state Right next reply h =
    plain_key state (to_right (stops_of v.units) state.cursor) next reply h
plain_asked width v state it next reply h = kept reply (view_reply width v it) h.1 (plain_printed width v it)

plain_viewed : (width height : ℕ) (state : State) (it : Command) (next : State) (reply : List ℕ)
    → IsViewAnswer width height state it next reply → IsPlainReply reply
plain_viewed width height state it next reply h = plain_asked width h.0 state it next reply h.2

plain_answer : (width height : ℕ) (state : State) (it : Command) (next : State) (reply : List ℕ)
    → IsAnswer width height state it next reply → IsPlainReply reply
plain_answer width height state (Change m) next reply h =
    plain_edit state (edited (selected_edit state m) state) next reply h
plain_answer width height state Undo next reply h =
    plain_step state (codes "no undo") (undone_state state) next reply (begun (line (codes "no undo")) refl) h
plain_answer width height state (UndoAt n) next reply h = plain_leave n state (leaving n state) next reply h
plain_answer width height state Redo next reply h =
    plain_step state (codes "no redo") (redone_state state) next reply (begun (line (codes "no redo")) refl) h
plain_answer width height state (At name) next reply h =
    plain_choice state (number_of state.buffers name) next reply h
plain_answer width height state (Go numbers) next reply h = plain_go state numbers next reply h
plain_answer width height state (Typed text) next reply h = plain_key state (by_typing state text) next reply h
plain_answer width height state Backspace next reply h = plain_key state (by_backspace state) next reply h
plain_answer width height state Enter next reply h = plain_key state (by_enter state) next reply h
plain_answer width height state Cursor next reply h =
    kept reply (line (place_text state.cursor.path state.cursor.offset)) h.1
    (plain_place state.cursor.path state.cursor.offset)
plain_answer width height state Tree next reply h =
    kept reply (line (scheme_text (selected_tree state))) h.1 (plain_tree (selected_tree state))
plain_answer width height state (Save name) next reply h =
    kept reply (save_reply (saving (form_of name) (selected_tree state))) h.1
    (plain_save (saving (form_of name) (selected_tree state)))
plain_answer width height state Work next reply h = absurd h
plain_answer width height state Quit next reply h = kept reply [] h.1 (begun [] refl)
plain_answer width height state (Click r c) next reply h = plain_viewed width height state (Click r c) next reply h
plain_answer width height state Left next reply h = plain_viewed width height state Left next reply h
plain_answer width height state Right next reply h = plain_viewed width height state Right next reply h
plain_answer width height state Show next reply h = plain_viewed width height state Show next reply h
plain_answer width height state (Page n) next reply h = plain_viewed width height state (Page n) next reply h
plain_answer width height state Errors next reply h = plain_viewed width height state Errors next reply h
plain_answer width height state (PlaceOf r c) next reply h =
    plain_viewed width height state (PlaceOf r c) next reply h
plain_answer width height state (Attrs r) next reply h = plain_viewed width height state (Attrs r) next reply h

pub plain_done : (before after : SeenWorld) (it : Command) (reply : List ℕ) → IsDone before it after reply
    → IsPlainReply reply
plain_done before after it reply h =
    plain_answer before.session.width before.session.height before.session.state it after.session.state reply h.answer

-- the reply with the number of steps is plain
pub plain_told : (n : ℕ) → IsPlainReply (work_reply n)
plain_told n = begun (work_reply n) refl

pub plain_refusal : (cause : CmdFault) → cause ≢ Memory → IsPlainReply (refusal cause)
plain_refusal (Long n) m = begun (refusal (Long n)) refl
plain_refusal Unknown m = begun (refusal Unknown) refl
plain_refusal (Args n) m = begun (refusal (Args n)) refl
plain_refusal (Path n) m = begun (refusal (Path n)) refl
plain_refusal (BadTree fault) m = begun (refusal (BadTree fault)) refl
plain_refusal Memory m = absurd (m refl)

abbrev says_memory : List ℕ → Bool
says_memory reply = bytes_eq (take 4 reply) (110 ∷ 111 ∷ 32 ∷ 109 ∷ [])

-- where the reply of a failed store was written whole, the store has failed
counted : (v w : SeenWorld) (it : Command) (mark : LineMark) (reply : List ℕ) → IsReply v it mark w reply
    → reply ≡ unsaved_reply → Rose v.store.faults w.store.faults
counted v w it plain reply h e = absurd ((plain_done v w it reply h).1 e)
counted v w it lacking reply h e = absurd (differ (ap says_memory (sym e ∙ h.3)))
counted v w it unsaved reply h e = h.4.1
counted v w it (told n) reply h e = absurd ((plain_told n).1 (sym h.said ∙ e))

pub failure_counted : (v w : SeenWorld) (it : Command) (mark : LineMark) (reply : List ℕ) (next : Next)
    (before after : Option (List ℕ)) (bytes : List ℕ)
    → IsReply v it mark w reply → IsSaid (Ok next) reply before after → before ≡ Some bytes
    → after ≡ Some (bytes ++ unsaved_reply) → Rose v.store.faults w.store.faults
failure_counted v w it mark reply next before after bytes h said b a =
    let whole : Some (bytes ++ reply) ≡ Some (bytes ++ unsaved_reply) = ap (λ z. append_known z reply) (sym b)
    ∙ sym said ∙ a in
    let same : bytes ++ reply ≡ bytes ++ unsaved_reply = cc in
    counted v w it mark reply h (append_cancel_left bytes reply unsaved_reply same)

pub no_store : (v w : SeenWorld) (it : Command) (mark : LineMark) (reply : List ℕ) (result : Result Next WriteFault)
    (before after : Option (List ℕ)) → IsReply v it mark w reply → IsSaid result reply before after
    → OnOk result ((bytes : List ℕ) → before ≡ Some bytes → after ≡ Some (bytes ++ unsaved_reply)
    → Rose v.store.faults w.store.faults)
no_store v w it mark reply (Ok next) before after h said =
    λ bytes b a. failure_counted v w it mark reply next before after bytes h said b a
no_store v w it mark reply (Err fault) before after h said = tt
