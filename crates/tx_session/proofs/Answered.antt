-- What methods of a session return is the reply to their commands.
use Rattle.std.proofs.Common.{◌≡◌, ◌≢◌, ◌||◌, ℕ, Bool, true, false, not, List, Option, Some, None, Result, Ok, Err}
use Rattle.std.proofs.Common.{refl, ap}
use Rattle.std.proofs.Common.{sym, subst, ◌∙◌}
use Rattle.std.specs.Prelude.{IfOk, IfErr, OnErr}
use Rattle.tx_outside.specs.Counts.{Rose}
use Rattle.tx_outside.specs.declared.faults.WriteFault.{WriteFault}
use Rattle.tx_outside.proofs.GoingOn.{store_goes_on_refl}
use Rattle.tx_outside.specs.Outside.{StoreSeen}
use Rattle.tx_tree.specs.WideTree.{WideTree}
use Rattle.tx_tree.specs.declared.places.Place.{Place}
use Rattle.tx_mod.specs.declared.faults.ModFault.{ModFault}
use Rattle.tx_mod.specs.declared.mods.Mod.{Mod}
use Rattle.tx_mod.specs.InTurn.{AreSoundMods}
use Rattle.tx_doc.specs.declared.buffer.Buffer.{Buffer}
use Rattle.tx_doc.specs.Buffers.{tree_of}
use Rattle.tx_state.specs.States.{State}
use Rattle.tx_state.specs.Edits.{edited}
use Rattle.tx_state.specs.Leaving.{leaving, tree_without}
use Rattle.tx_state.specs.declared.edits.Edit.{Edit as StateEdit}
use Rattle.tx_state.specs.declared.faults.LeaveFault.{LeaveFault}
use Rattle.tx_state.specs.declared.faults.LeaveFault.TheVariants as leaves
use Rattle.tx_edit.specs.declared.faults.EditFault.{EditFault}
use Rattle.tx_edit.specs.declared.faults.EditFault.TheVariants.{NoText, AtStart, AtEnd, NotInParagraph, Memory}
use Rattle.tx_edit.specs.declared.moves.Move.{Move}
use Rattle.tx_edit.specs.declared.moves.Move.TheVariants.{Edit as KeyEdit, Go as MoveTo}
use Rattle.tx_edit.specs.Followed.{Applies}
use Rattle.tx_edit.specs.Stops.{to_left, to_right}
use Rattle.tx_view_form.specs.Views.{WideView, IsView}
use Rattle.tx_view_form.specs.Stops.{stops_of}
use Rattle.tx_cmd.specs.declared.command.Command.{Command}
use Rattle.tx_cmd.specs.declared.command.Command.TheVariants.{Change, Click, Left, Right, Typed, Backspace, Enter}
use Rattle.tx_cmd.specs.declared.command.Command.TheVariants.{Show, Page, Errors, PlaceOf, Attrs, Work, UndoAt}
use Rattle.tx_session.specs.declared.replies.Reply.{Reply}
use Rattle.tx_session.specs.declared.replies.Reply.TheVariants.{Done, Fixed, Made, Wanting, Unsaved}
use Rattle.tx_session.specs.Asking.{IsChange, IsKeyChange, IsKeptView, IsWanting, IsArrival, IsEdit, Makes, Prints}
use Rattle.tx_session.specs.Asking.{IsClicked, IsLeaveChange, is_plain_mark, next_after}
use Rattle.tx_print.specs.Work.{work_reply}
use Rattle.tx_print.specs.Writing.{IsTextWritten, IsFaultCounted}
use Rattle.tx_session.specs.declared.session.Next.TheVariants.{Quit}
use Rattle.tx_session.specs.Writing.{IsSaid}
use Rattle.tx_session.specs.Causes.{key_reply, leave_reply}
use Rattle.tx_session.specs.Replies.{IsReply, MayLack, fresh_after, wanting_reply}
use Rattle.tx_session.specs.Saying.{Says, reply_mark, reply_text}
use Rattle.tx_session.specs.States.{IsAnswer, selected_edit, key_edit, by_typing}
use Rattle.tx_session.specs.States.{by_backspace, by_enter, view_reply, saved_by}
use Rattle.tx_session.proofs.Turning.{same_seen}
use Rattle.tx_session.specs.Worlds.{SeenSession, StoresFile, LineMark, plain, lacking, unsaved, told}

-- a command that saves nothing was done
pub done : (it : Command) (before after : SeenSession) (store : StoreSeen) (reply : List ℕ)
    → IsAnswer before.width before.height before.state it after.state reply → after.fresh ≡ fresh_after before it
    → after.width ≡ before.width → after.height ≡ before.height → saved_by before.state it ≡ None
    → IsReply (record { session = before; store = store }) it plain (record { session = after; store = store }) reply
done it before after store reply a f w h n = record {
  answer = a;
  fresh = f;
  width = w;
  height = h;
  stored = subst (λ o. StoresFile o store store) (sym n) refl;
}

-- memory ran out
pub lacked : (it : Command) (before after : SeenSession) (store : StoreSeen) (reply : List ℕ) → MayLack before it
    → IsWanting before after reply
    → IsReply (record { session = before; store = store }) it lacking (record { session = after; store = store }) reply
lacked it before after store reply m h = (m, h.0, (refl, store_goes_on_refl store), h.1)

-- ---- edits and keys

pub change_replied : (m : Mod) (before after : SeenSession) (store : StoreSeen) (mark : LineMark) (reply : List ℕ)
    → IsChange (edited (selected_edit before.state m) before.state) before mark after reply
    → IsReply (record { session = before; store = store }) (Change m) mark (record { session = after; store = store })
    reply
change_replied m before after store plain reply h =
    done (Change m) before after store reply h.0 h.1.fresh h.1.width h.1.height refl
change_replied m before after store lacking reply h = lacked (Change m) before after store reply refl h
change_replied m before after store unsaved reply h = absurd h
change_replied m before after store (told n) reply h = absurd h

pub typed_replied : (text : List ℕ) (before after : SeenSession) (store : StoreSeen) (mark : LineMark) (reply : List ℕ)
    → IsKeyChange (by_typing before.state text) before mark after reply
    → IsReply (record { session = before; store = store }) (Typed text) mark
    (record { session = after; store = store }) reply
typed_replied text before after store plain reply h =
    done (Typed text) before after store reply h.0 h.1.fresh h.1.width h.1.height refl
typed_replied text before after store lacking reply h = lacked (Typed text) before after store reply refl h
typed_replied text before after store unsaved reply h = absurd h
typed_replied text before after store (told n) reply h = absurd h

pub backspace_replied : (before after : SeenSession) (store : StoreSeen) (mark : LineMark) (reply : List ℕ)
    → IsKeyChange (by_backspace before.state) before mark after reply
    → IsReply (record { session = before; store = store }) Backspace mark (record { session = after; store = store })
    reply
backspace_replied before after store plain reply h =
    done Backspace before after store reply h.0 h.1.fresh h.1.width h.1.height refl
backspace_replied before after store lacking reply h = lacked Backspace before after store reply refl h
backspace_replied before after store unsaved reply h = absurd h
backspace_replied before after store (told n) reply h = absurd h

pub enter_replied : (before after : SeenSession) (store : StoreSeen) (mark : LineMark) (reply : List ℕ)
    → IsKeyChange (by_enter before.state) before mark after reply
    → IsReply (record { session = before; store = store }) Enter mark (record { session = after; store = store }) reply
enter_replied before after store plain reply h =
    done Enter before after store reply h.0 h.1.fresh h.1.width h.1.height refl
enter_replied before after store lacking reply h = lacked Enter before after store reply refl h
enter_replied before after store unsaved reply h = absurd h
enter_replied before after store (told n) reply h = absurd h

-- the edit that a key asks for was done or refused
pub key_changed : (before after : SeenSession) (mods : List Mod) (to : _) (mark : LineMark) (reply : List ℕ)
    → IsChange (edited (key_edit mods) before.state) before mark after reply
    → IsKeyChange (Ok (KeyEdit mods to)) before mark after reply
key_changed before after mods to plain reply h = h
key_changed before after mods to lacking reply h = h
key_changed before after mods to unsaved reply h = absurd h
key_changed before after mods to (told n) reply h = absurd h

pub leave_replied : (n : ℕ) (before after : SeenSession) (store : StoreSeen) (mark : LineMark) (reply : List ℕ)
    → IsLeaveChange n (leaving n before.state) before mark after reply
    → IsReply (record { session = before; store = store }) (UndoAt n) mark
    (record { session = after; store = store }) reply
leave_replied n before after store plain reply h =
    done (UndoAt n) before after store reply h.0 h.1.fresh h.1.width h.1.height refl
leave_replied n before after store lacking reply h = lacked (UndoAt n) before after store reply refl h
leave_replied n before after store unsaved reply h = absurd h
leave_replied n before after store (told k) reply h = absurd h

-- the edit that takes an earlier one back was done or refused
pub leave_changed : (n : ℕ) (r : Result StateEdit LeaveFault) (edit : StateEdit) (before after : SeenSession)
    (mark : LineMark) (reply : List ℕ) → r ≡ Ok edit → AreSoundMods edit.mods
    → ((next : State) → edited edit before.state ≡ Ok next
    → tree_without n before.state ≡ Some (tree_of next.buffers edit.buffer))
    → IsChange (edited edit before.state) before mark after reply → IsLeaveChange n r before mark after reply
leave_changed n r edit before after mark reply e sound left h =
    subst (λ o. IsLeaveChange n o before mark after reply) (sym e) (by_mark mark h)
  where
    IsLeft : State → Type 0
    IsLeft made = tree_without n before.state ≡ Some (tree_of made.buffers edit.buffer)

    where_done : (outcome : Result State ModFault) → ((next : State) → outcome ≡ Ok next → IsLeft next)
        → IfOk outcome IsLeft
    where_done (Ok next) left = left next refl
    where_done (Err cause) left = cc

    by_mark : (mark : LineMark) → IsChange (edited edit before.state) before mark after reply
        → IsLeaveChange n (Ok edit) before mark after reply
    by_mark plain h = ((sound, where_done (edited edit before.state) left, h.0), h.1)
    by_mark lacking h = h
    by_mark unsaved h = absurd h
    by_mark (told k) h = absurd h

-- what was said where an earlier edit can't be taken back, or memory ran out
abbrev pub IsLeftReply : LeaveFault → Reply → Type 0
IsLeftReply fault reply =
    (fault ≢ leaves.Memory → Says reply (leave_reply fault)) × (fault ≡ leaves.Memory → reply ≡ Wanting)

abbrev StaysLeft : ℕ → Result StateEdit LeaveFault → SeenSession → LineMark → List ℕ → Type 0
StaysLeft n r seen mark text = IsLeaveChange n r seen mark seen text

named_left : (n : ℕ) (fault : LeaveFault) (r : Result StateEdit LeaveFault) (seen : SeenSession) (reply : Reply)
    → fault ≢ leaves.Memory → Says reply (leave_reply fault) → r ≡ Err fault
    → StaysLeft n r seen (reply_mark reply) (reply_text reply)
named_left n fault r seen reply named says e =
    subst (λ o. StaysLeft n o seen (reply_mark reply) (reply_text reply)) (sym e) (by_reply reply says)
  where
    unchanged : IsKeptView true seen seen
    unchanged = record { width = refl; height = refl; fresh = refl }

    by_reply : (reply : Reply) → Says reply (leave_reply fault)
        → StaysLeft n (Err fault) seen (reply_mark reply) (reply_text reply)
    by_reply Done says = ((named, refl, says), unchanged)
    by_reply (Fixed text) says = ((named, refl, says), unchanged)
    by_reply (Made text) says = ((named, refl, says), unchanged)
    by_reply Wanting says = (refl, refl)
    by_reply Unsaved says = absurd says

-- an earlier edit that can't be taken back changes nothing
pub not_left_changed : (n : ℕ) (fault : LeaveFault) (r : Result StateEdit LeaveFault) (seen : SeenSession) (reply : Reply)
    → IsLeftReply fault reply → (fault ≢ leaves.Memory → r ≡ Err fault)
    → IsLeaveChange n r seen (reply_mark reply) seen (reply_text reply)
not_left_changed n leaves.Nothing r seen reply h e =
    named_left n leaves.Nothing r seen reply (λ f. cc) (h.0 (λ f. cc)) (e (λ f. cc))
not_left_changed n (leaves.Entangled j) r seen reply h e =
    named_left n (leaves.Entangled j) r seen reply (λ f. cc) (h.0 (λ f. cc)) (e (λ f. cc))
not_left_changed n (leaves.Refused cause) r seen reply h e =
    named_left n (leaves.Refused cause) r seen reply (λ f. cc) (h.0 (λ f. cc)) (e (λ f. cc))
not_left_changed n leaves.Memory r seen reply h e =
    subst (λ x. IsLeaveChange n r seen (reply_mark x) seen (reply_text x)) (sym (h.1 refl)) (refl, refl)

-- what was said where a key does nothing, or memory ran out
abbrev pub IsIdleReply : EditFault → Reply → Type 0
IsIdleReply fault reply =
    (fault ≢ Memory → (reply_text reply ≡ key_reply fault) × (reply_mark reply ≡ plain))
    × (fault ≡ Memory → reply ≡ Wanting)

abbrev Idles : Result Move EditFault → SeenSession → LineMark → List ℕ → Type 0
Idles outcome seen mark text = IsKeyChange outcome seen mark seen text

named_idle : (fault : EditFault) (outcome : Result Move EditFault) (seen : SeenSession) (reply : Reply) → fault ≢ Memory
    → IsIdleReply fault reply → outcome ≡ Err fault → Idles outcome seen (reply_mark reply) (reply_text reply)
named_idle fault outcome seen reply named h e =
    let said = h.0 named in
    let kept : IsKeptView true seen seen = record { width = refl; height = refl; fresh = refl } in
    subst (λ o. Idles o seen (reply_mark reply) (reply_text reply)) (sym e)
    (subst (λ m. Idles (Err fault) seen m (reply_text reply)) (sym said.1) ((named, refl, said.0), kept))

-- a key that does nothing changes nothing
pub idle_changed : (fault : EditFault) (outcome : Result Move EditFault) (seen : SeenSession) (reply : Reply)
    → IsIdleReply fault reply → (fault ≢ Memory → outcome ≡ Err fault)
    → IsKeyChange outcome seen (reply_mark reply) seen (reply_text reply)
idle_changed NoText outcome seen reply h e = named_idle NoText outcome seen reply (λ f. cc) h (e (λ f. cc))
idle_changed AtStart outcome seen reply h e = named_idle AtStart outcome seen reply (λ f. cc) h (e (λ f. cc))
idle_changed AtEnd outcome seen reply h e = named_idle AtEnd outcome seen reply (λ f. cc) h (e (λ f. cc))
idle_changed NotInParagraph outcome seen reply h e =
    named_idle NotInParagraph outcome seen reply (λ f. cc) h (e (λ f. cc))
idle_changed Memory outcome seen reply h e =
    subst (λ r. IsKeyChange outcome seen (reply_mark r) seen (reply_text r)) (sym (h.1 refl)) (refl, refl)

named_arrival : (fault : EditFault) (outcome : Result Move EditFault) (state : State) (reply : Reply) → fault ≢ Memory
    → IsIdleReply fault reply → outcome ≡ Err fault
    → IsArrival outcome state (reply_mark reply) state (reply_text reply)
named_arrival fault outcome state reply named h e =
    let said = h.0 named in
    subst (λ o. IsArrival o state (reply_mark reply) state (reply_text reply)) (sym e)
    (subst (λ m. IsArrival (Err fault) state m state (reply_text reply)) (sym said.1) (named, refl, said.0))

-- where the key has this fault, the state is unchanged and its reply is the fault's
pub idle_arrival : (fault : EditFault) (outcome : Result Move EditFault) (state : State) (reply : Reply)
    → IsIdleReply fault reply → (fault ≢ Memory → outcome ≡ Err fault)
    → IsArrival outcome state (reply_mark reply) state (reply_text reply)
idle_arrival NoText outcome state reply h e = named_arrival NoText outcome state reply (λ f. cc) h (e (λ f. cc))
idle_arrival AtStart outcome state reply h e = named_arrival AtStart outcome state reply (λ f. cc) h (e (λ f. cc))
idle_arrival AtEnd outcome state reply h e = named_arrival AtEnd outcome state reply (λ f. cc) h (e (λ f. cc))
idle_arrival NotInParagraph outcome state reply h e =
    named_arrival NotInParagraph outcome state reply (λ f. cc) h (e (λ f. cc))
idle_arrival Memory outcome state reply h e =
    subst (λ r. IsArrival outcome state (reply_mark r) state (reply_text r)) (sym (h.1 refl)) (refl, refl)

-- what a key makes of what is the document, or its stops, and of the cursor
pub makes : {X : Type 0} (key : X → Place → Result Move EditFault) (t u : X) (at to : Place)
    (made : Result Move EditFault) → t ≡ u → at ≡ to → IfOk made (λ m. key t at ≡ Ok m)
    → IfErr made (λ e. e ≢ Memory → key t at ≡ Err e) → Makes made (key u to)
makes key t u at to made e f done refused =
    subst (λ z. Makes made (key z to)) e (subst (λ z. Makes made (key t z)) f (done, refused))

-- modifications that apply are an edit
pub edits : (t : WideTree) (made : Result Move EditFault) → IfOk made (λ m. Applies t m) → IfOk made IsEdit
edits t (Ok (KeyEdit mods to)) h = tt
edits t (Ok (MoveTo to)) h = absurd h
edits t (Err fault) h = tt

-- ---- the view

-- the result of a command that prints the view
pub printed_answer : (it : Command) (width height : ℕ) (state : State) (v : WideView) → Prints it
    → IsView state.buffers width height v → IsAnswer width height state it state (view_reply width v it)
printed_answer Show width height state v p h = (v, h, (refl, refl))
printed_answer (Page n) width height state v p h = (v, h, (refl, refl))
printed_answer Errors width height state v p h = (v, h, (refl, refl))
printed_answer (PlaceOf r c) width height state v p h = (v, h, (refl, refl))
printed_answer (Attrs r) width height state v p h = (v, h, (refl, refl))
printed_answer it width height state v p h = absurd p

-- it leaves the view fresh
pub printed_fresh : (it : Command) (seen : SeenSession) → Prints it → true ≡ fresh_after seen it
printed_fresh Show seen p = refl
printed_fresh (Page n) seen p = refl
printed_fresh Errors seen p = refl
printed_fresh (PlaceOf r c) seen p = refl
printed_fresh (Attrs r) seen p = refl
printed_fresh it seen p = absurd p

pub printed_saves : (it : Command) (state : State) → Prints it → saved_by state it ≡ None
printed_saves Show state p = refl
printed_saves (Page n) state p = refl
printed_saves Errors state p = refl
printed_saves (PlaceOf r c) state p = refl
printed_saves (Attrs r) state p = refl
printed_saves it state p = absurd p

-- memory can run out where the view isn't fresh
pub printed_lacks : (it : Command) (seen : SeenSession) → Prints it → seen.fresh ≡ false → MayLack seen it
printed_lacks Show seen p e = ap not e
printed_lacks (Page n) seen p e = ap not e
printed_lacks Errors seen p e = ap not e
printed_lacks (PlaceOf r c) seen p e = ap not e
printed_lacks (Attrs r) seen p e = ap not e
printed_lacks it seen p e = absurd p

-- the view wasn't asked, since it isn't fresh
pub not_asked : (asked fresh : Bool) → (asked ≡ true → fresh ≡ true) → (fresh ≡ true → ⊥) → asked ≡ false
not_asked false fresh h k = refl
not_asked true fresh h k = absurd (k (h refl))

-- ---- left and right

either : (b : Bool) → b || true ≡ true
either true = refl
either false = refl

neither : (b : Bool) → b || false ≡ b
neither true = refl
neither false = refl

pub left_replied : (before after : SeenSession) (v : WideView) (store : StoreSeen) (mark : LineMark) (reply : List ℕ)
    → IsView before.state.buffers before.width before.height v
    → IsArrival (to_left (stops_of v.units) before.state.cursor) before.state mark after.state reply
    → after.fresh ≡ before.fresh || is_plain_mark mark → after.width ≡ before.width → after.height ≡ before.height
    → IsReply (record { session = before; store = store }) Left mark (record { session = after; store = store }) reply
left_replied before after v store plain reply is h e w t =
    done Left before after store reply (v, is, h) (e ∙ either before.fresh) w t refl
left_replied before after v store lacking reply is h e w t =
    lacked Left before after store reply refl (same_seen after before h.0 w t (e ∙ neither before.fresh), h.1)
left_replied before after v store unsaved reply is h e w t = absurd h
left_replied before after v store (told n) reply is h e w t = absurd h

pub right_replied : (before after : SeenSession) (v : WideView) (store : StoreSeen) (mark : LineMark) (reply : List ℕ)
    → IsView before.state.buffers before.width before.height v
    → IsArrival (to_right (stops_of v.units) before.state.cursor) before.state mark after.state reply
    → after.fresh ≡ before.fresh || is_plain_mark mark → after.width ≡ before.width → after.height ≡ before.height
    → IsReply (record { session = before; store = store }) Right mark (record { session = after; store = store }) reply
right_replied before after v store plain reply is h e w t =
    done Right before after store reply (v, is, h) (e ∙ either before.fresh) w t refl
right_replied before after v store lacking reply is h e w t =
    lacked Right before after store reply refl (same_seen after before h.0 w t (e ∙ neither before.fresh), h.1)
right_replied before after v store unsaved reply is h e w t = absurd h
right_replied before after v store (told n) reply is h e w t = absurd h

pub click_replied : (r c : ℕ) (before after : SeenSession) (v : WideView) (width : ℕ) (store : StoreSeen)
    (mark : LineMark) (reply : List ℕ) → IsView before.state.buffers before.width before.height v
    → IsClicked width v r c before.state mark after.state reply → width ≡ before.width
    → after.fresh ≡ before.fresh || is_plain_mark mark → after.width ≡ before.width → after.height ≡ before.height
    → IsReply (record { session = before; store = store }) (Click r c) mark (record { session = after; store = store })
    reply
click_replied r c before after v width store plain reply is h s e w t =
    done (Click r c) before after store reply
    (v, is, subst (λ z. IsClicked z v r c before.state plain after.state reply) s h) (e ∙ either before.fresh) w t refl
click_replied r c before after v width store lacking reply is h s e w t =
    lacked (Click r c) before after store reply refl (same_seen after before h.0 w t (e ∙ neither before.fresh), h.1)
click_replied r c before after v width store unsaved reply is h s e w t = absurd h
click_replied r c before after v width store (told n) reply is h s e w t = absurd h

-- the view that was made is that of the present buffers
pub present_view : (bs cs : List Buffer) (w x t u : ℕ) (v : WideView) → bs ≡ cs → w ≡ x → t ≡ u → IsView bs w t v
    → IsView cs x u v
present_view bs cs w x t u v e f g h =
    subst (λ z. IsView cs x z v) g (subst (λ z. IsView cs z t v) f (subst (λ z. IsView z w t v) e h))

-- ---- printing

pub printed_done : (it : Command) (before : SeenSession) (w t : ℕ) (v : WideView) (store : StoreSeen) → Prints it
    → IsView before.state.buffers before.width before.height v → w ≡ before.width → t ≡ before.height
    → IsReply (record { session = before; store = store }) it plain
    (record { session = record { state = before.state; width = w; height = t; fresh = true }; store = store })
    (view_reply w v it)
printed_done it before w t v store p is e f =
    let after : SeenSession = record { state = before.state; width = w; height = t; fresh = true } in
    let answer = printed_answer it before.width before.height before.state v p is in
    done it before after store (view_reply w v it)
    (subst (λ z. IsAnswer before.width before.height before.state it before.state (view_reply z v it)) (sym e) answer)
    (printed_fresh it before p) e f (printed_saves it before.state p)

pub printed_wanting : (it : Command) (before after : SeenSession) (store : StoreSeen) → Prints it → after ≡ before
    → before.fresh ≡ false
    → IsReply (record { session = before; store = store }) it lacking (record { session = after; store = store })
    wanting_reply
printed_wanting it before after store p e f =
    lacked it before after store wanting_reply (printed_lacks it before p f) (e, refl)

-- the reply to `work` is the number of steps
pub work_told : (n : ℕ) (before : SeenSession) (w t : ℕ) (store : StoreSeen) → w ≡ before.width → t ≡ before.height
    → IsReply (record { session = before; store = store }) Work (told n)
    (record { session = record { state = before.state; width = w; height = t; fresh = true }; store = store })
    (work_reply n)
work_told n before w t store e f = record {
  work = refl;
  session = λ i. record { state = before.state; width = e i; height = f i; fresh = true };
  stored = refl;
  said = refl;
}

pub work_wanting : (before after : SeenSession) (store : StoreSeen) → after ≡ before → before.fresh ≡ false
    → IsReply (record { session = before; store = store }) Work lacking (record { session = after; store = store })
    wanting_reply
work_wanting before after store e f = lacked Work before after store wanting_reply (ap not f) (e, refl)

pub printed_said : (r : Result (Unit {0}) WriteFault) (text : List ℕ) (before after : Option (List ℕ))
    → IsTextWritten r text before after → IsSaid (next_after r) text before after
printed_said (Ok u) text before after h = h
printed_said (Err fault) text before after h = h

pub printed_goes : (r : Result (Unit {0}) WriteFault) → next_after r ≢ Ok Quit
printed_goes (Ok u) e = cc
printed_goes (Err fault) e = cc

pub printed_rose : (r : Result (Unit {0}) WriteFault) (before after : ℕ) → IsFaultCounted r before after
    → OnErr (next_after r) (Rose before after)
printed_rose (Ok u) before after h = tt
printed_rose (Err fault) before after h = h
