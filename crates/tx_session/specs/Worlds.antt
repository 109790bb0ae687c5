-- A session with what it keeps and its store, and marks of lines.
use Rattle.std.specs.Prelude.{◌≡◌, ◌≤◌, ◌⊎◌, ◌+◌, ◌-◌, ◌^◌, ℕ, Bool, List, [], ◌∷◌, Option, Some, None}
use Rattle.tx_outside.specs.Counts.{Rose}
use Rattle.tx_outside.specs.Files.{WithFile, OthersKept}
use Rattle.tx_outside.specs.Known.{WhereKnown}
use Rattle.tx_outside.specs.Outside.{StoreGoesOn, StoreSeen}
use Rattle.tx_state.specs.States.{State}
use Rattle.tx_view.specs.Stores.{ViewStores}

-- What contracts see of a session: its state, the width and the height of its pages, and whether a command that asks
-- the view was done since a buffer last changed. Asking it again then takes no memory.
pub record SeenSession : Type 0 where
  pub state : State
  pub width : ℕ
  pub height : ℕ
  pub fresh : Bool

-- whether the view is that of the present buffers, what it keeps from refresh to refresh, and by how many steps its
-- last refresh raised the count
pub record Keep : Type 0 where
  pub fresh : Bool
  pub stores : ViewStores
  pub work : ℕ

-- a session with what it keeps
pub record WholeSession : Type 0 where
  pub seen : SeenSession
  pub keep : Keep

-- a session as it is seen, with its store
pub record SeenWorld : Type 0 where
  pub session : SeenSession
  pub store : StoreSeen

abbrev pub seen_world : SeenSession → StoreSeen → SeenWorld
seen_world session store = record { session = session; store = store }

-- a session with what it keeps, its store, and how many steps were counted
pub record World : Type 0 where
  pub session : WholeSession
  pub store : StoreSeen
  pub steps : ℕ

abbrev pub world : WholeSession → StoreSeen → ℕ → World
world session store steps = record { session = session; store = store; steps = steps }

abbrev pub seen_of_world : World → SeenWorld
seen_of_world w = record { session = w.session.seen; store = w.store }

-- all is as before, but that steps may have been counted
pub record IsAsBefore (before after : World) : Type 0 where
  pub session : after.session ≡ before.session
  pub store : after.store ≡ before.store
  pub steps : before.steps ≤ after.steps

-- What the reply to a line owes to the machine outside: nothing, or that memory ran out, or that the store failed. At
-- `work` it owes the number, which nothing but what the view keeps decides.
pub data LineMark : Type 0 where
  plain : LineMark
  lacking : LineMark
  unsaved : LineMark
  told : (n : ℕ) → LineMark

-- the mark without the number that was printed
abbrev pub untold : LineMark → LineMark
untold plain = plain
untold lacking = lacking
untold unsaved = unsaved
untold (told n) = plain

-- the store did nothing, or keeps this file
abbrev pub StoresFile : Option (List ℕ × List ℕ) → StoreSeen → StoreSeen → Type 0
StoresFile None before after = after ≡ before
StoresFile (Some file) before after =
    WhereKnown (WithFile file.0 file.1) before.files after.files × StoreGoesOn before after

-- the files are as before
abbrev pub KeepsFiles : StoreSeen → StoreSeen → Type 0
KeepsFiles before after = (after.files ≡ before.files) × StoreGoesOn before after

-- the store failed in saving the file of this name, of which nothing is known then
abbrev pub FailsToStore : List ℕ → StoreSeen → StoreSeen → Type 0
FailsToStore name before after = WhereKnown (OthersKept name) before.files after.files × Rose before.faults after.faults
    × StoreGoesOn before after

-- how many lines are marked as not saved
abbrev pub unsaved_in : List LineMark → ℕ
unsaved_in [] = 0
unsaved_in (unsaved ∷ marks) = 1 + unsaved_in marks
unsaved_in (plain ∷ marks) = unsaved_in marks
unsaved_in (lacking ∷ marks) = unsaved_in marks
unsaved_in (told n ∷ marks) = unsaved_in marks

-- a count rose by at least n, or is at its last value
abbrev pub RoseBy : ℕ → ℕ → ℕ → Type 0
RoseBy n before after = (n + before ≤ after) ⊎ (after ≡ 2 ^ 64 - 1)
