-- What methods of a session return. Only private clauses cite this.
use Rattle.std.specs.Prelude.{◌≡◌, ◌≢◌, ◌&&◌, is_err, Bool, true, false, if◌then◌else◌, ℕ, List, Result, Ok, Err}
use Rattle.std.specs.Prelude.{IfOk, IfErr}
use Rattle.std.specs.Option.{option_map_or}
use Rattle.tx_tree.specs.Places.{IsPlace}
use Rattle.tx_tree.specs.WideTree.{WideTree}
use Rattle.tx_mod.specs.declared.faults.ModFault.{ModFault}
use Rattle.tx_mod.specs.declared.mods.Mod.{Mod}
use Rattle.tx_state.specs.States.{State}
use Rattle.tx_state.specs.declared.edits.Edit.{Edit as StateEdit}
use Rattle.tx_state.specs.declared.faults.LeaveFault.{LeaveFault}
use Rattle.tx_edit.specs.declared.faults.EditFault.{EditFault}
use Rattle.tx_edit.specs.declared.faults.EditFault.TheVariants.{Memory}
use Rattle.tx_edit.specs.declared.moves.Move.{Move}
use Rattle.tx_edit.specs.declared.moves.Move.TheVariants.{Edit, Go as GoTo}
use Rattle.tx_view_form.specs.Views.{WideView}
use Rattle.tx_view_form.specs.Positions.{position_in}
use Rattle.tx_print.specs.Places.{no_cell}
use Rattle.tx_cmd.specs.declared.command.Command.{Command}
use Rattle.tx_cmd.specs.declared.command.Command.TheVariants.{Show, Page, Errors, PlaceOf, Attrs}
use Rattle.tx_outside.specs.declared.faults.WriteFault.{WriteFault}
use Rattle.tx_session.specs.declared.session.Next.{Next}
use Rattle.tx_session.specs.declared.session.Next.TheVariants.{Go}
use Rattle.tx_session.specs.States.{IsEditAnswer, IsKeyAnswer, IsLeaveAnswer, IsClickAnswer}
use Rattle.tx_session.specs.Effects.{key_fails, leave_fails}
use Rattle.tx_session.specs.Keeps.{carried_keep, key_mods}
use Rattle.tx_session.specs.Replies.{wanting_reply}
use Rattle.tx_session.specs.Worlds.{SeenSession, WholeSession, LineMark, plain, lacking, unsaved, told}

-- the size of pages is that before, and the view is as fresh unless the buffers changed
pub record IsKeptView (changed_not : Bool) (before after : SeenSession) : Type 0 where
  pub width : after.width ≡ before.width
  pub height : after.height ≡ before.height
  pub fresh : after.fresh ≡ (changed_not && before.fresh)

-- nothing changed, since memory ran out
abbrev pub IsWanting : SeenSession → SeenSession → List ℕ → Type 0
IsWanting before after reply = (after ≡ before) × (reply ≡ wanting_reply)

-- an edit with this outcome was done or refused
abbrev pub IsChange : Result State ModFault → SeenSession → LineMark → SeenSession → List ℕ → Type 0
IsChange outcome before plain after reply =
    IsEditAnswer before.state outcome after.state reply × IsKeptView (is_err outcome) before after
IsChange outcome before lacking after reply = IsWanting before after reply
IsChange outcome before unsaved after reply = ⊥
IsChange outcome before (told n) after reply = ⊥

-- a key with this outcome was done or refused
abbrev pub IsKeyChange : Result Move EditFault → SeenSession → LineMark → SeenSession → List ℕ → Type 0
IsKeyChange made before plain after reply =
    IsKeyAnswer before.state made after.state reply × IsKeptView (key_fails before.state made) before after
IsKeyChange made before lacking after reply = IsWanting before after reply
IsKeyChange made before unsaved after reply = ⊥
IsKeyChange made before (told n) after reply = ⊥

-- the n-th last edit was taken back, or that was refused, with this outcome
abbrev pub IsLeaveChange : ℕ → Result StateEdit LeaveFault → SeenSession → LineMark → SeenSession → List ℕ → Type 0
IsLeaveChange n made before plain after reply =
    IsLeaveAnswer n before.state made after.state reply × IsKeptView (leave_fails before.state made) before after
IsLeaveChange n made before lacking after reply = IsWanting before after reply
IsLeaveChange n made before unsaved after reply = ⊥
IsLeaveChange n made before (told k) after reply = ⊥

-- this is what a key makes, unless memory ran out
abbrev pub Makes : Result Move EditFault → Result Move EditFault → Type 0
Makes made outcome = IfOk made (λ m. outcome ≡ Ok m) × IfErr made (λ e. e ≢ Memory → outcome ≡ Err e)

-- a key edits
abbrev pub IsEdit : Move → Type 0
IsEdit (Edit mods to) = Unit {0}
IsEdit (GoTo to) = ⊥

-- the cursor goes to a place of the tree
abbrev pub GoesIn : WideTree → Move → Type 0
GoesIn t (GoTo to) = IsPlace t to.path to.offset
GoesIn t (Edit mods to) = ⊥

-- What is cached after an edit of a buffer: it is carried by the modifications, unless they are refused.
abbrev pub IsEditKept : (refused : Bool) → ℕ × List Mod → WholeSession → LineMark → WholeSession → Type 0
IsEditKept refused edit before plain after =
    after.keep ≡ (if refused then before.keep
    else carried_keep before.seen.state.buffers after.seen.state.buffers before.keep edit)
IsEditKept refused edit before lacking after = after.keep ≡ before.keep
IsEditKept refused edit before unsaved after = ⊥
IsEditKept refused edit before (told n) after = ⊥

-- what is cached after a key
abbrev pub IsKeyKept : Result Move EditFault → WholeSession → LineMark → WholeSession → Type 0
IsKeyKept made before plain after =
    after.keep ≡ (if key_fails before.seen.state made then before.keep
    else option_map_or (carried_keep before.seen.state.buffers after.seen.state.buffers before.keep) (key_mods made)
    before.keep)
IsKeyKept made before lacking after = after.keep ≡ before.keep
IsKeyKept made before unsaved after = ⊥
IsKeyKept made before (told n) after = ⊥

-- the cursor went to the place of a cell, or there is no such cell
abbrev pub IsClicked : ℕ → WideView → ℕ → ℕ → State → LineMark → State → List ℕ → Type 0
IsClicked width v r c before plain after reply =
    IsClickAnswer before (no_cell v width) (position_in v.units width r c) after reply
IsClicked width v r c before lacking after reply = (after ≡ before) × (reply ≡ wanting_reply)
IsClicked width v r c before unsaved after reply = ⊥
IsClicked width v r c before (told n) after reply = ⊥

-- the cursor went where a key leads it
abbrev pub IsArrival : Result Move EditFault → State → LineMark → State → List ℕ → Type 0
IsArrival outcome before plain after reply = IsKeyAnswer before outcome after reply
IsArrival outcome before lacking after reply = (after ≡ before) × (reply ≡ wanting_reply)
IsArrival outcome before unsaved after reply = ⊥
IsArrival outcome before (told n) after reply = ⊥

abbrev pub is_plain_mark : LineMark → Bool
is_plain_mark plain = true
is_plain_mark lacking = false
is_plain_mark unsaved = false
is_plain_mark (told n) = false

-- the command prints the view
abbrev pub Prints : Command → Type 0
Prints Show = Unit {0}
Prints (Page n) = Unit {0}
Prints Errors = Unit {0}
Prints (PlaceOf r c) = Unit {0}
Prints (Attrs r) = Unit {0}
Prints command = ⊥

-- the session goes on after what was printed
abbrev pub next_after : Result (Unit {0}) WriteFault → Result Next WriteFault
next_after (Ok done) = Ok Go
next_after (Err fault) = Err fault
