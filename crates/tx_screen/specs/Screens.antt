-- A screen as contracts see it, and lines that its session executes.
use Rattle.std.specs.Prelude.{◌≡◌, ℕ, Bool, true, false, List, [], ◌∷◌, codes, if◌then◌else◌}
use Rattle.std.specs.List.{flat_map}
use Rattle.std.specs.Str.{bytes_eq}
use Rattle.tx_terminal.specs.Characters.{Shown}
use Rattle.tx_session.specs.Replies.{IsLineReply}
use Rattle.tx_session.specs.Worlds.{World, LineMark, WholeSession}
use Rattle.tx_screen.specs.declared.modes.Size.{Size}
use Rattle.tx_screen.specs.declared.modes.Mode.{Mode}
use Rattle.tx_screen.specs.declared.modes.Mode.TheVariants.{Text, Asked, Errors, Shown as IsShowing, Leaving, Pasted}

-- whether keys edit the document: nothing is asked, shown or pasted
abbrev pub edits_in : Mode → Bool
edits_in Text = true
edits_in (Asked question typed) = false
edits_in (Errors chosen) = false
edits_in (IsShowing text) = false
edits_in Leaving = false
edits_in (Pasted text) = false

-- what is beside the session: whether keys edit, the size of the terminal, and the rows that were painted on it
pub record DeskSeen : Type 0 where
  pub edits : Bool
  pub size : Size
  pub painted : List (List Shown)

-- a screen: its session, and what is beside it
pub record ScreenSeen : Type 0 where
  pub session : WholeSession
  pub desk : DeskSeen

-- The session executes these lines in order, as it executes those of a script.
abbrev pub AreExecuted : World → List (List ℕ) → World → Type 0
AreExecuted before [] after = after ≡ before
AreExecuted before (line ∷ lines) after =
    (next : World) × (mark : LineMark) × (reply : List ℕ) × IsLineReply before line mark next reply
    × AreExecuted next lines after

-- a line is executed, unless it is `quit`
abbrev pub unless_quit : List ℕ → List (List ℕ)
unless_quit line = if bytes_eq line (codes "quit") then [] else line ∷ []

-- the session is given these lines
abbrev pub IsTold : World → List (List ℕ) → World → Type 0
IsTold before lines after = AreExecuted before (flat_map unless_quit lines) after
