-- The view's cache, and the steps, after commands that ask the view and after those that leave it.
use Rattle.std.proofs.Common.{◌≡◌, ℕ, ◌+◌, ◌≤◌, inl, inr, Bool, true, false, List, Result, refl, ap, sym, subst}
use Rattle.std.proofs.Common.{◌∙◌, arith}
use Rattle.std.specs.Prelude.{if◌then◌else◌}
use Rattle.std.specs.Option.{option_map_or}
use Rattle.tx_doc.specs.declared.buffer.Buffer.{Buffer}
use Rattle.tx_cmd.specs.declared.command.Command.{Command}
use Rattle.tx_cmd.specs.declared.command.Command.TheVariants.{Show, Page, Errors, PlaceOf, Attrs}
use Rattle.tx_state.specs.States.{State}
use Rattle.tx_edit.specs.declared.faults.EditFault.{EditFault}
use Rattle.tx_edit.specs.declared.moves.Move.{Move}
use Rattle.tx_view_form.specs.Views.{WideView}
use Rattle.tx_view.specs.Names.{Fresh, Bound}
use Rattle.tx_view.specs.Stores.{IsPartlyFresh}
use Rattle.tx_view.specs.WholeViews.{WholeView}
use Rattle.tx_session.specs.declared.replies.Reply.{Reply}
use Rattle.tx_session.specs.declared.replies.Reply.TheVariants.{Done, Fixed, Made, Wanting, Unsaved}
use Rattle.tx_session.specs.Asking.{IsArrival, IsClicked, Prints}
use Rattle.tx_session.specs.Keeps.{Keeps, Takes, TakesAsking, TakesLacking, IsBrokenOff, IsKeptLacking, kept_after}
use Rattle.tx_session.specs.Keeps.{most_steps}
use Rattle.tx_session.specs.Keeps.{refreshed}
use Rattle.tx_session.specs.Keeps.{refresh_cost, carried_keep, command_mods}
use Rattle.tx_session.specs.Effects.{asks_view, keeps_buffers}
use Rattle.tx_session.specs.Saying.{reply_mark}
use Rattle.tx_session.specs.Sessions.{keep_of}
use Rattle.tx_session.specs.Worlds.{SeenSession, Keep, WholeSession, LineMark, plain, lacking, unsaved, told}

-- ---- the view

-- a view that was made anew, unless it was fresh, keeps what is refreshed
pub view_refreshed : (v w : WholeView) (bs : List Buffer) → v.buffers ≡ bs → w.fresh ≡ true → w.stores ≡ Fresh v.buffers
    → (v.fresh ≡ false → w.work ≡ Bound v.stores) → (v.fresh ≡ true → w ≡ v) → keep_of w ≡ refreshed bs (keep_of v)
view_refreshed v w bs e f g h k = by_fresh v.fresh refl
  where
    by_fresh : (b : Bool) → v.fresh ≡ b → keep_of w ≡ refreshed bs (keep_of v)
    by_fresh true is =
        ap keep_of (k is)
        ∙ sym (ap (λ b. if b then keep_of v else record { fresh = true; stores = Fresh bs; work = Bound v.stores }) is)
    by_fresh false is =
        let made : Keep = record { fresh = true; stores = Fresh bs; work = Bound v.stores } in
        let stores = g ∙ ap Fresh e in
        let is_made : keep_of w ≡ made = λ i. record { fresh = f i; stores = stores i; work = h is i } in
        is_made ∙ sym (ap (λ b. if b then keep_of v else made) is)

pub view_steps : (v : WholeView) (old new : ℕ) → (v.fresh ≡ false → new ≡ old + Bound v.stores)
    → (v.fresh ≡ true → new ≡ old) → new ≡ old + refresh_cost (keep_of v)
view_steps v old new h k = by_fresh v.fresh refl
  where
    by_fresh : (b : Bool) → v.fresh ≡ b → new ≡ old + refresh_cost (keep_of v)
    by_fresh true is =
        let cost : refresh_cost (keep_of v) ≡ 0 = ap (λ b. if b then 0 else Bound v.stores) is in
        omega (arith, k is, cost)
    by_fresh false is =
        let cost : refresh_cost (keep_of v) ≡ Bound v.stores = ap (λ b. if b then 0 else Bound v.stores) is in
        omega (arith, h is, cost)

-- ---- commands that ask the view

-- the mark of a reply that was made, or for which memory ran out
abbrev pub IsMade : LineMark → Type 0
IsMade plain = Unit {0}
IsMade lacking = Unit {0}
IsMade unsaved = ⊥
IsMade (told n) = ⊥

asked_kept : (it : Command) (before after : WholeSession) → asks_view it ≡ true
    → after.keep ≡ refreshed before.seen.state.buffers before.keep
    → after.keep ≡ kept_after before.seen.state it after.seen.state before.keep
asked_kept it before after e h =
    let k = before.keep in
    let state = before.seen.state in
    subst (λ b. after.keep ≡ (if b then refreshed state.buffers k else if keeps_buffers state it then k
    else option_map_or (carried_keep state.buffers after.seen.state.buffers k) (command_mods state it) k)) (sym e) h

-- a fresh view is unchanged
fresh_stays : (bs : List Buffer) (k : Keep) → k.fresh ≡ true → refreshed bs k ≡ k
fresh_stays bs k f = ap (λ b. if b then k else record { fresh = true; stores = Fresh bs; work = Bound k.stores }) f

pub asked_keeps : (it : Command) (before after : WholeSession) (mark : LineMark) → asks_view it ≡ true → IsMade mark
    → after.keep ≡ refreshed before.seen.state.buffers before.keep → Keeps before it mark after
asked_keeps it before after plain e m h = asked_kept it before after e h
asked_keeps it before after lacking e m h =
    let k = before.keep in
    let next = after.keep in
    let bs = before.seen.state.buffers in
    subst (λ b. IsKeptLacking b bs k next) (sym e) ((λ f. h ∙ fresh_stays bs k f), inl h)
asked_keeps it before after unsaved e m h = absurd m
asked_keeps it before after (told n) e m h = absurd m

-- the number that is printed is the one that is cached
pub told_keeps : (it : Command) (before after : WholeSession) (n : ℕ) → asks_view it ≡ true
    → after.keep ≡ refreshed before.seen.state.buffers before.keep → n ≡ after.keep.work
    → Keeps before it (told n) after
told_keeps it before after n e h w = (asked_kept it before after e h, w)

-- memory ran out in the refresh, which a fresh view doesn't make
pub lacked_keeps : (it : Command) (before after : WholeSession) → asks_view it ≡ true
    → (before.keep.fresh ≡ true → after.keep ≡ before.keep)
    → IsBrokenOff before.seen.state.buffers before.keep after.keep → Keeps before it lacking after
lacked_keeps it before after e same off =
    let k = before.keep in
    let next = after.keep in
    let bs = before.seen.state.buffers in
    subst (λ b. IsKeptLacking b bs k next) (sym e) (same, inr off)

pub asked_takes : (it : Command) (before : WholeSession) (mark : LineMark) (old new : ℕ) → asks_view it ≡ true
    → new ≡ old + refresh_cost before.keep → Takes before it mark old new
asked_takes it before plain old new e h = subst (λ b. TakesAsking b before it old new) (sym e) h
asked_takes it before lacking old new e h = subst (λ b. TakesLacking b before it old new) (sym e) (λ f. free f)
  where
    free : before.keep.fresh ≡ true → new ≡ old
    free f =
        let cost : refresh_cost before.keep ≡ 0 = ap (λ b. if b then 0 else Bound before.keep.stores) f in
        omega (arith, h, cost)
asked_takes it before unsaved old new e h = subst (λ b. TakesAsking b before it old new) (sym e) h
asked_takes it before (told n) old new e h = subst (λ b. TakesAsking b before it old new) (sym e) h

pub lacked_takes : (it : Command) (before : WholeSession) (old new : ℕ) → asks_view it ≡ true
    → (before.keep.fresh ≡ true → new ≡ old) → Takes before it lacking old new
lacked_takes it before old new e h = subst (λ b. TakesLacking b before it old new) (sym e) h

pub prints_ask : (it : Command) → Prints it → asks_view it ≡ true
prints_ask Show p = refl
prints_ask (Page n) p = refl
prints_ask Errors p = refl
prints_ask (PlaceOf r c) p = refl
prints_ask (Attrs r) p = refl
prints_ask it p = absurd p

-- ---- after a refresh of the view of a session

-- a key or a click makes its reply, or memory runs out
pub arrival_made : (outcome : Result Move EditFault) (before after : State) (mark : LineMark) (reply : List ℕ)
    → IsArrival outcome before mark after reply → IsMade mark
arrival_made outcome before after plain reply h = tt
arrival_made outcome before after lacking reply h = tt
arrival_made outcome before after unsaved reply h = absurd h
arrival_made outcome before after (told n) reply h = absurd h

pub clicked_made : (width : ℕ) (v : WideView) (r c : ℕ) (before after : State) (mark : LineMark) (reply : List ℕ)
    → IsClicked width v r c before mark after reply → IsMade mark
clicked_made width v r c before after plain reply h = tt
clicked_made width v r c before after lacking reply h = tt
clicked_made width v r c before after unsaved reply h = absurd h
clicked_made width v r c before after (told n) reply h = absurd h

module _ (it : Command) (asks : asks_view it ≡ true) (now : WholeSession) (seen after : SeenSession) (v w : WholeView)
    (is : record { seen = seen; keep = keep_of v } ≡ now) where
  abbrev next : WholeSession
  next = record { seen = after; keep = keep_of w }

  pub keeps_asked : (mark : LineMark) → IsMade mark → v.buffers ≡ seen.state.buffers → w.fresh ≡ true
      → w.stores ≡ Fresh v.buffers → (v.fresh ≡ false → w.work ≡ Bound v.stores) → (v.fresh ≡ true → w ≡ v)
      → Keeps now it mark next
  keeps_asked mark m e f g h k =
      subst (λ x. Keeps x it mark next) is
      (asked_keeps it (record { seen = seen; keep = keep_of v }) next mark asks m
      (view_refreshed v w seen.state.buffers e f g h k))

  pub keeps_told : v.buffers ≡ seen.state.buffers → w.fresh ≡ true → w.stores ≡ Fresh v.buffers
      → (v.fresh ≡ false → w.work ≡ Bound v.stores) → (v.fresh ≡ true → w ≡ v) → (n : ℕ) → n ≡ w.work
      → Keeps now it (told n) next
  keeps_told e f g h k n told_so =
      subst (λ x. Keeps x it (told n) next) is
      (told_keeps it (record { seen = seen; keep = keep_of v }) next n asks
      (view_refreshed v w seen.state.buffers e f g h k) told_so)

  pub keeps_lacking : v.buffers ≡ seen.state.buffers → (v.fresh ≡ true → w ≡ v) → w.fresh ≡ false
      → IsPartlyFresh v.stores (Fresh v.buffers) w.stores → w.work ≡ v.work → Keeps now it lacking next
  keeps_lacking e k f h g =
      let partly = subst (λ bs. IsPartlyFresh v.stores (Fresh bs) w.stores) e h in
      subst (λ x. Keeps x it lacking next) is
      (lacked_keeps it (record { seen = seen; keep = keep_of v }) next asks (λ e. ap keep_of (k e))
      (record { stale = f; stores = partly; work = g }))

  pub takes_lacking : (old new : ℕ) → (v.fresh ≡ true → new ≡ old) → Takes now it lacking old new
  takes_lacking old new h =
      subst (λ x. Takes x it lacking old new) is
      (lacked_takes it (record { seen = seen; keep = keep_of v }) old new asks h)

  pub takes_asked : (mark : LineMark) (old new : ℕ) → (v.fresh ≡ false → new ≡ old + Bound v.stores)
      → (v.fresh ≡ true → new ≡ old) → Takes now it mark old new
  takes_asked mark old new h k =
      subst (λ x. Takes x it mark old new) is
      (asked_takes it (record { seen = seen; keep = keep_of v }) mark old new asks (view_steps v old new h k))

-- ---- other commands

pub unasked_takes : (it : Command) (before : WholeSession) (mark : LineMark) (old new : ℕ) → asks_view it ≡ false
    → new ≤ old + most_steps before.seen.state it → Takes before it mark old new
unasked_takes it before plain old new e h = subst (λ b. TakesAsking b before it old new) (sym e) h
unasked_takes it before lacking old new e h = subst (λ b. TakesLacking b before it old new) (sym e) h
unasked_takes it before unsaved old new e h = subst (λ b. TakesAsking b before it old new) (sym e) h
unasked_takes it before (told n) old new e h = subst (λ b. TakesAsking b before it old new) (sym e) h

pub free_takes : (it : Command) (before : WholeSession) (mark : LineMark) (now : ℕ) → asks_view it ≡ false
    → Takes before it mark now now
free_takes it before mark now e = unasked_takes it before mark now now e (omega arith)

-- what a command takes that doesn't ask the view
pub most_taken : (it : Command) (before : WholeSession) (mark : LineMark) (old new : ℕ) → Takes before it mark old new
    → asks_view it ≡ false → new ≤ old + most_steps before.seen.state it
most_taken it before plain old new h e = subst (λ b. TakesAsking b before it old new) e h
most_taken it before lacking old new h e = subst (λ b. TakesLacking b before it old new) e h
most_taken it before unsaved old new h e = subst (λ b. TakesAsking b before it old new) e h
most_taken it before (told n) old new h e = subst (λ b. TakesAsking b before it old new) e h

-- one that leaves the view as it is
module _ (it : Command) (before after : WholeSession) (asks_not : asks_view it ≡ false)
    (keeps : keeps_buffers before.seen.state it ≡ true) (same : after.keep ≡ before.keep) where
  still : after.keep ≡ kept_after before.seen.state it after.seen.state before.keep
  still =
      let k = before.keep in
      let state = before.seen.state in
      let left = option_map_or (carried_keep state.buffers after.seen.state.buffers k) (command_mods state it) k in
      same
      ∙ sym (ap (λ b. if b then refreshed state.buffers k else if keeps_buffers state it then k else left) asks_not
      ∙ ap (λ b. if b then k else left) keeps)

  still_lacking : IsKeptLacking (asks_view it) before.seen.state.buffers before.keep after.keep
  still_lacking =
      subst (λ b. IsKeptLacking b before.seen.state.buffers before.keep after.keep) (sym asks_not) same

  pub still_keeps : (reply : Reply) → Keeps before it (reply_mark reply) after
  still_keeps Done = still
  still_keeps (Fixed text) = still
  still_keeps (Made text) = still
  still_keeps Wanting = still_lacking
  still_keeps Unsaved = same
