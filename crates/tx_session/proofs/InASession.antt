-- Every buffer of a session is well formed, at present and at each moment of its history.
use Rattle.std.proofs.Common.{◌≡◌, ◌⊎◌, inl, inr, ℕ, zero, suc, ◌<◌, Bool, true, false, List, [], ◌∷◌, ◌++◌}
use Rattle.std.proofs.Common.{length, take, Option, Some, None, Result, Ok, Err, refl, sym, ap, subst, ◌∙◌}
use Rattle.std.proofs.Common.{append_assoc, arith}
use Rattle.std.specs.Prelude.{◌≢◌, slice_get, slice_set, codes, nat_le, if◌then◌else◌}
use Rattle.std.specs.List.{AllByRecursion}
use Rattle.std.specs.Option.{option_map_or}
use Rattle.tx_outside.specs.Files.{Files}
use Rattle.tx_outside.specs.declared.file_store.TheConstants.{MOST_FILE}
use Rattle.tx_outside.specs.Outside.{StoreSeen}
use Rattle.tx_tree.specs.Limits.{IsWellFormed, IsWithinLimits}
use Rattle.tx_tree.specs.WideTree.{WideTree, leaf}
use Rattle.tx_tree.specs.declared.places.Place.{Place}
use Rattle.tx_tree.proofs.Scanning.{no_bytes}
use Rattle.tx_scm.proofs.Spelled.{well_formed}
use Rattle.tx_tm_form.proofs.Formed.{spelled_tree}
use Rattle.tx_mod.specs.declared.mods.Mod.{Mod}
use Rattle.tx_mod.specs.declared.mods.Mod.TheVariants.{Assign, Insert, Remove, Split, Join, AssignNode, InsertNode}
use Rattle.tx_mod.specs.declared.mods.Mod.TheVariants.{RemoveNode}
use Rattle.tx_mod.specs.Changes.{Outcome}
use Rattle.tx_mod.specs.InTurn.{changed_in_turn, AreSoundMods}
use Rattle.tx_mod.specs.Moves.{place}
use Rattle.tx_mod.specs.Sound.{IsSoundMod}
use Rattle.tx_mod.proofs.InTurn.{can_be_undone}
use Rattle.tx_doc.specs.declared.buffer.Buffer.{Buffer}
use Rattle.tx_doc.specs.declared.forms.Form.{Form}
use Rattle.tx_doc.specs.declared.forms.Form.TheVariants.{Tm, Scheme}
use Rattle.tx_doc.specs.Buffers.{tree_of, with_tree, document_of, number_of, AreFormed}
use Rattle.tx_doc.specs.Forms.{form_of}
use Rattle.tx_doc.specs.Modern.{modern}
use Rattle.tx_doc.proofs.WithoutCalls.{modern_formed, modern_within}
use Rattle.tx_state.specs.States.{State, KeptEdit, present}
use Rattle.tx_state.specs.Edits.{edited_to, with_outcome, back_to, on_to, cursor_after}
use Rattle.tx_state.specs.declared.TheConstants.{MOST_UNDO}
use Rattle.tx_state.specs.Leaving.{leaving}
use Rattle.tx_state.specs.declared.edits.Edit.{Edit}
use Rattle.tx_state.specs.declared.faults.LeaveFault.{LeaveFault}
use Rattle.tx_edit.specs.declared.faults.EditFault.{EditFault}
use Rattle.tx_edit.specs.declared.moves.Move.{Move}
use Rattle.tx_edit.specs.declared.moves.Move.TheVariants.{Edit as KeyEdit, Go as MoveTo}
use Rattle.tx_edit.specs.Stops.{to_left, to_right}
use Rattle.tx_tree.specs.SamePlaces.{stop_number}
use Rattle.tx_origin.specs.RelativePlaces.{BasedPlace}
use Rattle.tx_view_form.specs.Views.{WideView}
use Rattle.tx_view_form.specs.Positions.{position_in}
use Rattle.tx_view_form.specs.Stops.{stops_of}
use Rattle.tx_print.specs.Places.{no_cell}
use Rattle.tx_cmd.specs.declared.command.Command.{Command}
use Rattle.tx_cmd.specs.declared.command.Command.TheVariants.{Change, Undo, Redo, At, Go, Click, Left, Right, Typed}
use Rattle.tx_cmd.specs.declared.command.Command.TheVariants.{Backspace, Enter, Show, Page, Errors, PlaceOf, Cursor}
use Rattle.tx_cmd.specs.declared.command.Command.TheVariants.{Attrs, Work, Tree, Save, Quit, UndoAt}
use Rattle.tx_cmd.specs.Commands.{IsCommand}
use Rattle.tx_session.specs.Forms.{Saving, no_form, file_long, writes, fitting, saving, has_text_in, form_text}
use Rattle.tx_print.specs.Lines.{line}
use Rattle.tx_open.specs.declared.opening.Opened.{Opened}
use Rattle.tx_open.specs.Forms.{SpellsIn}
use Rattle.tx_open.specs.Outcomes.{opened, AreRead, ComesTo}
use Rattle.tx_words.specs.Words.{Named}
use Rattle.tx_session.specs.Replies.{Reading, nothing, too_long, unread, command, faulty, IsLineRead, IsReply}
use Rattle.tx_session.specs.Replies.{IsReplyTo, IsRefusalReply, IsLineReply}
use Rattle.tx_session.specs.Runs.{seen_start, start_with}
use Rattle.tx_session.specs.Savings.{IsSavedAlone, IsNotSaved, StandsAmong}
use Rattle.tx_session.specs.Scripts.{Answered, command_line}
use Rattle.tx_session.specs.States.{IsAnswer, IsEditAnswer, IsKeyAnswer, IsStepAnswer, IsChoice, IsClickAnswer}
use Rattle.tx_session.specs.States.{IsAskedAnswer, IsLeaveAnswer, IsViewAnswer, selected_edit, selected_tree, key_edit}
use Rattle.tx_session.specs.States.{by_typing, by_backspace, by_enter, whole_place, save_reply, file_saved}
use Rattle.tx_session.specs.Worlds.{SeenWorld, World, IsAsBefore, seen_of_world, StoresFile, LineMark, plain, lacking}
use Rattle.tx_session.specs.Worlds.{unsaved, told}
use Rattle.tx_session.proofs.Determined.{one_reading, was_read}
use Rattle.tx_session.proofs.Saved.{saved_alone}
use Rattle.tx_session.proofs.SoundKeys.{IsSoundKey, typed_sound, erased_sound, entered_sound, left_sound, right_sound}
use Rattle.tx_session.proofs.SoundKeys.{typed_text}

abbrev IsFormedTree : WideTree → Type 0
IsFormedTree t = IsWellFormed t × IsWithinLimits t

abbrev AreFormedAt : List KeptEdit → Type 0
AreFormedAt = AllByRecursion (λ kept. AreFormed kept.moment.buffers)

record IsFormed (s : State) : Type 0 where
  now : AreFormed s.buffers
  past : AreFormedAt s.past
  future : AreFormedAt s.future

-- ---- buffers

-- the empty text is used where there is no buffer
nothing_formed : IsFormedTree (leaf [])
nothing_formed = (no_bytes, record { text = omega arith; arity = omega arith; depth = omega arith; size = omega arith })

tree_formed : (bs : List Buffer) (k : ℕ) → AreFormed bs → IsFormedTree (tree_of bs k)
tree_formed [] zero h = nothing_formed
tree_formed [] (suc k) h = nothing_formed
tree_formed (b ∷ bs) zero h = h.0
tree_formed (b ∷ bs) (suc k) h = tree_formed bs k h.1

-- the buffers, with the tree u where one of them was found
abbrev put_where : List Buffer → ℕ → WideTree → Option Buffer → List Buffer
put_where bs k u found = option_map_or (λ c. slice_set bs k (record { name = c.name; tree = u })) found bs

put_behind : (b : Buffer) (bs : List Buffer) (k : ℕ) (u : WideTree) (found : Option Buffer)
    → AreFormed (b ∷ bs) → AreFormed (put_where bs k u found) → AreFormed (put_where (b ∷ bs) (suc k) u found)
put_behind b bs k u None h rest = h
put_behind b bs k u (Some c) h rest = (h.0, rest)

put_formed : (bs : List Buffer) (k : ℕ) (u : WideTree) → AreFormed bs → IsFormedTree u → AreFormed (with_tree bs k u)
put_formed [] zero u h f = tt
put_formed [] (suc k) u h f = tt
put_formed (b ∷ bs) zero u h f = (f, h.1)
put_formed (b ∷ bs) (suc k) u h f = put_behind b bs k u (slice_get bs k) h (put_formed bs k u h.1 f)

first_kept : (n : ℕ) (es : List KeptEdit) → AreFormedAt es → AreFormedAt (take n es)
first_kept zero es h = tt
first_kept (suc n) [] h = tt
first_kept (suc n) (e ∷ es) h = (h.0, first_kept n es h.1)

-- ---- commands

-- the parts that a line puts in are well formed
sound_change : (text : List ℕ) (m : Mod) → IsCommand text (Change m) → IsSoundMod m
sound_change text (Assign p t) h = well_formed h.1.1.3.0 t h.1.1.3.2.0
sound_change text (Insert p i t) h = well_formed h.1.1.3.3.0 t h.1.1.3.3.2.0
sound_change text (Remove p i n) h = tt
sound_change text (Split p i j) h = tt
sound_change text (Join p i) h = tt
sound_change text (AssignNode p l) h = h.1.1.3.2.0
sound_change text (InsertNode p i t) h = well_formed h.1.1.3.3.0 t h.1.1.3.3.2.0
sound_change text (RemoveNode p i) h = tt

edit_formed : (edit : Edit) (s next : State) (reply : List ℕ) (o : Outcome) → AreSoundMods edit.mods → IsFormed s
    → changed_in_turn edit.mods (tree_of s.buffers edit.buffer) ≡ o
    → IsEditAnswer s (with_outcome edit s o) next reply → IsFormed next
edit_formed edit s next reply (Err cause) h f e a = subst IsFormed (sym a.0) f
edit_formed edit s next reply (Ok u) h f e a =
    let before : IsFormedTree (tree_of s.buffers edit.buffer) = tree_formed s.buffers edit.buffer f.now in
    let r = can_be_undone edit.mods (tree_of s.buffers edit.buffer) u h before.0 before.1 e in
    let kept : List KeptEdit = record { moment = present s; buffer = edit.buffer; mods = edit.mods } ∷ s.past in
    let made : IsFormed (edited_to edit.buffer edit.mods u (cursor_after edit s) s) = record {
      now = put_formed s.buffers edit.buffer u f.now (r.formed, r.within);
      past = first_kept MOST_UNDO kept (f.now, f.past);
      future = tt;
    } in
    subst IsFormed (sym a.0) made

cursor_formed : (s next : State) (at : Place) → next ≡ record s { cursor = at } → IsFormed s → IsFormed next
cursor_formed s next at e f = subst IsFormed (sym e) (record { now = f.now; past = f.past; future = f.future })

key_formed : (made : Result Move EditFault) (s next : State) (reply : List ℕ) → IsSoundKey made → IsFormed s
    → IsKeyAnswer s made next reply → IsFormed next
key_formed (Ok (KeyEdit mods to)) s next reply h f a =
    edit_formed (key_edit mods) s next reply (changed_in_turn mods (tree_of s.buffers 0)) h f refl a
key_formed (Ok (MoveTo to)) s next reply h f a = cursor_formed s next to a.0 f
key_formed (Err fault) s next reply h f a = subst IsFormed (sym a.1) f

leave_formed : (n : ℕ) (made : Result Edit LeaveFault) (s next : State) (reply : List ℕ) → IsFormed s
    → IsLeaveAnswer n s made next reply → IsFormed next
leave_formed n (Ok edit) s next reply f a =
    edit_formed edit s next reply (changed_in_turn edit.mods (tree_of s.buffers edit.buffer)) a.0 f refl a.2
leave_formed n (Err fault) s next reply f a = subst IsFormed (sym a.1) f

choice_formed : (s next : State) (o : Option ℕ) (reply : List ℕ) → IsFormed s → IsChoice s o next reply → IsFormed next
choice_formed s next (Some k) reply f a =
    subst IsFormed (sym a.0) (record { now = f.now; past = f.past; future = f.future })
choice_formed s next None reply f a = subst IsFormed (sym a.0) f

click_formed : (s next : State) (none : List ℕ) (o : Option BasedPlace) (reply : List ℕ) → IsFormed s
    → IsClickAnswer s none o next reply → IsFormed next
click_formed s next none (Some p) reply f a = cursor_formed s next (whole_place p) a.0 f
click_formed s next none None reply f a = subst IsFormed (sym a.0) f

asked_formed : (width : ℕ) (v : WideView) (s next : State) (it : Command) (reply : List ℕ) → IsFormed s
    → IsAskedAnswer width v s it next reply → IsFormed next
asked_formed width v s next (Click r c) reply f a =
    click_formed s next (no_cell v width) (position_in v.units width r c) reply f a
asked_formed width v s next Left reply f a =
    key_formed (to_left (stops_of v.units) s.cursor) s next reply
    (left_sound (stops_of v.units) (stop_number (stops_of v.units) s.cursor)) f a
asked_formed width v s next Right reply f a =
    key_formed (to_right (stops_of v.units) s.cursor) s next reply
    (right_sound (stops_of v.units) (stop_number (stops_of v.units) s.cursor)) f a
asked_formed width v s next it reply f a = subst IsFormed (sym a.0) f

viewed_formed : (width height : ℕ) (s next : State) (it : Command) (reply : List ℕ) → IsFormed s
    → IsViewAnswer width height s it next reply → IsFormed next
viewed_formed width height s next it reply f a = asked_formed width a.0 s next it reply f a.2

-- ---- undo and redo

undo_formed : (s next : State) (none reply : List ℕ) (past : List KeptEdit) → IsFormed s → AreFormedAt past
    → IsStepAnswer s none (back_to s past) next reply → IsFormed next
undo_formed s next none reply [] f h a = subst IsFormed (sym a.0) f
undo_formed s next none reply (kept ∷ past) f h a =
    subst IsFormed (sym a.0) (record { now = h.0; past = h.1; future = (f.now, f.future) })

redo_formed : (s next : State) (none reply : List ℕ) (future : List KeptEdit) → IsFormed s → AreFormedAt future
    → IsStepAnswer s none (on_to s future) next reply → IsFormed next
redo_formed s next none reply [] f h a = subst IsFormed (sym a.0) f
redo_formed s next none reply (kept ∷ future) f h a =
    subst IsFormed (sym a.0) (record { now = h.0; past = (f.now, f.past); future = h.1 })

-- ---- lines

answer_formed : (text : List ℕ) (it : Command) (width height : ℕ) (s next : State) (reply : List ℕ) → IsCommand text it
    → IsFormed s
    → IsAnswer width height s it next reply → IsFormed next
answer_formed text (Change m) width height s next reply h f a =
    edit_formed (selected_edit s m) s next reply (changed_in_turn (m ∷ []) (tree_of s.buffers s.selected))
    (sound_change text m h, tt) f refl a
answer_formed text Undo width height s next reply h f a = undo_formed s next (codes "no undo") reply s.past f f.past a
answer_formed text (UndoAt n) width height s next reply h f a = leave_formed n (leaving n s) s next reply f a
answer_formed text Redo width height s next reply h f a =
    redo_formed s next (codes "no redo") reply s.future f f.future a
answer_formed text (At name) width height s next reply h f a =
    choice_formed s next (number_of s.buffers name) reply f a
answer_formed text (Go numbers) width height s next reply h f (inl a) =
    cursor_formed s next (place a.0.0 a.0.1) a.0.4 f
answer_formed text (Go numbers) width height s next reply h f (inr a) = subst IsFormed (sym a.2) f
answer_formed text (Typed words) width height s next reply h f a =
    key_formed (by_typing s words) s next reply
    (typed_sound words (document_of s.buffers) s.cursor (typed_text text words h)) f a
answer_formed text Backspace width height s next reply h f a =
    key_formed (by_backspace s) s next reply (erased_sound (document_of s.buffers) s.cursor) f a
answer_formed text Enter width height s next reply h f a =
    key_formed (by_enter s) s next reply (entered_sound (document_of s.buffers) s.cursor) f a
answer_formed text Cursor width height s next reply h f a = subst IsFormed (sym a.0) f
answer_formed text Tree width height s next reply h f a = subst IsFormed (sym a.0) f
answer_formed text (Save name) width height s next reply h f a = subst IsFormed (sym a.0) f
answer_formed text Work width height s next reply h f a = absurd a
answer_formed text Quit width height s next reply h f a = subst IsFormed (sym a.0) f
answer_formed text (Click r c) width height s next reply h f a =
    viewed_formed width height s next (Click r c) reply f a
answer_formed text Left width height s next reply h f a = viewed_formed width height s next Left reply f a
answer_formed text Right width height s next reply h f a = viewed_formed width height s next Right reply f a
answer_formed text Show width height s next reply h f a = viewed_formed width height s next Show reply f a
answer_formed text (Page n) width height s next reply h f a = viewed_formed width height s next (Page n) reply f a
answer_formed text Errors width height s next reply h f a = viewed_formed width height s next Errors reply f a
answer_formed text (PlaceOf r c) width height s next reply h f a =
    viewed_formed width height s next (PlaceOf r c) reply f a
answer_formed text (Attrs r) width height s next reply h f a = viewed_formed width height s next (Attrs r) reply f a

abbrev IsFormedWorld : World → Type 0
IsFormedWorld world = IsFormed world.session.seen.state

same_formed : (before after : World) → after ≡ before → IsFormedWorld before → IsFormedWorld after
same_formed before after e f = subst IsFormedWorld (sym e) f

still_formed : (before after : World) → IsAsBefore before after → IsFormedWorld before → IsFormedWorld after
still_formed before after h f = subst (λ x. IsFormed x.seen.state) (sym h.session) f

command_formed : (text : List ℕ) (it : Command) (before next : SeenWorld) (mark : LineMark) (reply : List ℕ)
    → IsCommand text it → IsFormed before.session.state
    → IsReply before it mark next reply → IsFormed next.session.state
command_formed text it before next plain reply h f a =
    answer_formed text it before.session.width before.session.height before.session.state next.session.state reply h f
    a.answer
command_formed text it before next lacking reply h f a = subst (λ x. IsFormed x.state) (sym a.1) f
command_formed text it before next unsaved reply h f a = subst (λ x. IsFormed x.state) (sym a.3) f
command_formed text it before next (told n) reply h f a = subst (λ x. IsFormed x.state) (sym a.session) f

refusal_formed : (before next : World) (text : List ℕ) (mark : LineMark) (reply : List ℕ) → IsFormedWorld before
    → IsRefusalReply before text mark next reply → IsFormedWorld next
refusal_formed before next text plain reply f a = still_formed before next a.0 f
refusal_formed before next text lacking reply f a = still_formed before next a.0 f
refusal_formed before next text unsaved reply f a = absurd a
refusal_formed before next text (told n) reply f a = absurd a

reply_formed : (text : List ℕ) (reading : Reading) (before next : World) (mark : LineMark) (reply : List ℕ)
    → IsLineRead text reading → IsFormedWorld before
    → IsReplyTo before reading mark next reply → IsFormedWorld next
reply_formed text nothing before next mark reply h f a = same_formed before next a.1 f
reply_formed text (too_long count) before next mark reply h f a = refusal_formed before next _ mark reply f a.0
reply_formed text unread before next mark reply h f a = still_formed before next a.1 f
reply_formed text (command it) before next mark reply h f a =
    command_formed text it (seen_of_world before) (seen_of_world next) mark reply h.1 f a.1.replied
reply_formed text (faulty cause) before next mark reply h f a = refusal_formed before next _ mark reply f a

lines_formed : (before last : World) (lines : List (List ℕ)) (marks : List LineMark) (text : List ℕ)
    → IsFormedWorld before → Answered before lines marks last text → IsFormedWorld last
lines_formed before last [] [] text f a = same_formed before last a.0 f
lines_formed before last [] (mark ∷ marks) text f a = absurd a
lines_formed before last (one ∷ lines) [] text f a = absurd a
lines_formed before last (one ∷ lines) (mark ∷ marks) text f a =
    let next : World = a.0 in
    let replied = a.3 in
    lines_formed next last lines marks a.2
    (reply_formed (command_line one) replied.0 before next mark a.1 replied.1 f replied.2) a.4

-- ---- saving

not_unread : (it : Command) → command it ≢ unread
not_unread it e = cc

opened_formed : (form : Form) (bytes : List ℕ) (t : WideTree) → SpellsIn form bytes t → IsWellFormed t
opened_formed Scheme bytes t h = well_formed bytes t h
opened_formed Tm bytes t h = spelled_tree bytes t h

-- the modern form of a formed tree is formed
modern_tree : (t u : WideTree) → u ≡ modern t → IsWellFormed t → IsWithinLimits t → IsWellFormed u × IsWithinLimits u
modern_tree t u e h w = rw e (modern_formed t h, modern_within t w)

-- files are read as formed trees
read_formed : (files : Option Files) (names : List Named) (buffers : List Buffer) → AreRead files names buffers
    → AreFormed buffers
read_formed files [] [] h = tt
read_formed files [] (b ∷ bs) h = absurd h
read_formed files (f ∷ fs) [] h = absurd h
read_formed files (f ∷ fs) (b ∷ bs) h =
    let own = h.0 in
    let tree = own.read in (
      modern_tree own.spelled b.tree own.made
          (opened_formed (form_of f.word) tree.bytes own.spelled tree.spelled) tree.within,
      read_formed files fs bs h.1,
    )

start_formed : (all : Opened) → AreFormed all.buffers → IsFormed (seen_start all).state
start_formed all f = record { now = f; past = tt; future = tt }

abbrev count_in : Saving → ℕ
count_in no_form = 0
count_in (file_long n) = n
count_in (writes bytes) = 0

past : (n : ℕ) → nat_le n MOST_FILE ≡ false → MOST_FILE < n
past n e = grind arith

long_file : (bytes : List ℕ) (b : Bool) → nat_le (length bytes) MOST_FILE ≡ b → (n : ℕ)
    → (if b then writes bytes else file_long (length bytes)) ≡ file_long n → MOST_FILE < n
long_file bytes true e n h = absurd cc
long_file bytes false e n h = subst (λ m. MOST_FILE < m) (ap count_in h) (past (length bytes) e)

long_saving : (form : Form) (t : WideTree) (b : Bool) (n : ℕ)
    → (if b then fitting (line (form_text form t)) else no_form) ≡ file_long n → MOST_FILE < n
long_saving form t true n h =
    long_file (line (form_text form t)) (nat_le (length (line (form_text form t))) MOST_FILE) refl n h
long_saving form t false n h = absurd cc

saved_so : (name : List ℕ) (t : WideTree) (before after : StoreSeen) (reply : List ℕ) (x : Saving) → IsWellFormed t
    → saving (form_of name) t ≡ x
    → reply ≡ save_reply x → StoresFile (file_saved name x) before after → IsSavedAlone name t before after reply
    ⊎ IsNotSaved before after reply
saved_so name t before after reply no_form f e r s = inr (s, inl r)
saved_so name t before after reply (file_long n) f e r s =
    inr (s, inr (n, long_saving (form_of name) t (has_text_in (form_of name) t) n e, r))
saved_so name t before after reply (writes bytes) f e r s =
    inl (record { bytes = bytes; alone = saved_alone (form_of name) t bytes f e; said = r; kept = s.0 })

-- a line `save` of a formed session
save_line : (text name : List ℕ) (reading : Reading) (before next : World) (reply : List ℕ)
    → reading ≡ command (Save name) → IsFormedWorld before
    → IsReplyTo before reading plain next reply
    → IsSavedAlone name (selected_tree before.session.seen.state) before.store next.store reply
    ⊎ IsNotSaved before.store next.store reply
save_line text name reading before next reply e f a =
    let done = (subst (λ r. IsReplyTo before r plain next reply) e a).1.replied in
    let state : State = before.session.seen.state in
    let t : WideTree = selected_tree state in
    saved_so name t before.store next.store reply (saving (form_of name) t)
    (tree_formed state.buffers state.selected f.now).0 refl done.answer.1 done.stored

pub saves_alone : (words : List (List ℕ)) (files : Option Files) (all : Opened) (first : StoreSeen) (steps : ℕ)
    → ComesTo words files (opened all)
    → (lines : List (List ℕ)) (marks : List LineMark) (seen : World) (done : List ℕ)
    → Answered (start_with all first steps) lines marks seen done
    → (one name reply : List ℕ) (next : World) → IsLineRead (command_line one) (command (Save name))
    → IsLineReply seen (command_line one) plain next reply
    → IsSavedAlone name (selected_tree seen.session.seen.state) seen.store next.store reply
    ⊎ IsNotSaved seen.store next.store reply
saves_alone words files all first steps opens lines marks seen done a one name reply next c r =
    let formed : AreFormed all.buffers = read_formed files opens.names all.buffers opens.read in
    let now : IsFormedWorld seen = lines_formed (start_with all first steps) seen lines marks
    done (start_formed all formed) a in
    let is : r.0 ≡ command (Save name) =
    one_reading (command_line one) r.0 (command (Save name)) (was_read seen r.0 plain next reply tt r.2)
    (not_unread (Save name)) r.1 c in
    save_line (command_line one) name r.0 seen next reply is now r.2

-- one line among others
pub stands_among : (start : World) (before : List (List ℕ)) (one : List ℕ) (behind : List (List ℕ))
    (marks : List LineMark) (last : World) (text : List ℕ)
    → Answered start (before ++ one ∷ behind) marks last text → StandsAmong start before one behind marks last text
stands_among start [] one behind [] last text a = absurd a
stands_among start [] one behind (mark ∷ marks) last text a = record {
  marks_before = [];
  mark = mark;
  marks_behind = marks;
  seen = start;
  next = a.0;
  done = [];
  reply = a.1;
  rest = a.2;
  answered = (refl, refl);
  replied = a.3;
  others = a.4;
  marked = refl;
  written = a.5;
}
stands_among start (two ∷ before) one behind [] last text a = absurd a
stands_among start (two ∷ before) one behind (mark ∷ marks) last text a =
    let r = stands_among a.0 before one behind marks last a.2 a.4 in record {
      marks_before = mark ∷ r.marks_before;
      mark = r.mark;
      marks_behind = r.marks_behind;
      seen = r.seen;
      next = r.next;
      done = a.1 ++ r.done;
      reply = r.reply;
      rest = r.rest;
      answered = (a.0, a.1, r.done, a.3, r.answered, refl);
      replied = r.replied;
      others = r.others;
      marked = ap (λ ms. mark ∷ ms) r.marked;
      written = a.5 ∙ ap (λ x. a.1 ++ x) r.written ∙ sym (append_assoc a.1 r.done (r.reply ++ r.rest));
    }
