-- Replies to commands and to lines, also when out of memory.
use Rattle.std.specs.Prelude.{◌≡◌, ◌≢◌, ◌<◌, ◌≤◌, ◌+◌, ◌&&◌, ◌||◌, not, length, ℕ}
use Rattle.std.specs.Prelude.{Bool, Some, true, false, List, [], ◌++◌, codes, decimal}
use Rattle.tx_cmd.specs.declared.command.Command.{Command}
use Rattle.tx_cmd.specs.declared.command.Command.TheVariants.{At, Show, Page, Errors, PlaceOf, Cursor}
use Rattle.tx_cmd.specs.declared.command.Command.TheVariants.{Attrs, Work, Quit}
use Rattle.tx_cmd.specs.declared.command.CmdFault.{CmdFault}
use Rattle.tx_cmd.specs.declared.command.CmdFault.TheVariants.{Long, Unknown, Args, Path, Tree as BadTree, Memory}
use Rattle.tx_cmd.specs.declared.TheConstants.{MOST_LINE}
use Rattle.tx_cmd.specs.Words.{up_to_space, TakesMemory}
use Rattle.tx_cmd.specs.Commands.{IsCommand, values_of}
use Rattle.tx_cmd.specs.Refusals.{IsCmdFault}
use Rattle.tx_cmd.specs.Values.{nodes_in_values}
use Rattle.tx_print.specs.Lines.{line}
use Rattle.tx_print.specs.Work.{work_reply}
use Rattle.tx_session.specs.Effects.{asks_view, keeps_buffers}
use Rattle.tx_session.specs.FaultTexts.{read_fault_text}
use Rattle.tx_session.specs.Keeps.{Keeps, Takes}
use Rattle.tx_session.specs.States.{IsAnswer, saved_by, unknown_reply}
use Rattle.tx_session.specs.Worlds.{SeenSession, SeenWorld, World, IsAsBefore, seen_of_world, LineMark, plain, lacking}
use Rattle.tx_session.specs.Worlds.{unsaved, told, StoresFile, KeepsFiles, FailsToStore}

-- the reply where memory ran out
abbrev pub wanting_reply : List ℕ
wanting_reply = line (codes "no memory")

-- the reply where the store failed
abbrev pub unsaved_reply : List ℕ
unsaved_reply = line (codes "no store")

-- the command takes memory of its own, beside what making the view takes
abbrev pub takes_memory : Command → Bool
takes_memory Show = false
takes_memory (Page n) = false
takes_memory Errors = false
takes_memory (PlaceOf r c) = false
takes_memory (Attrs r) = false
takes_memory Work = false
takes_memory (At name) = false
takes_memory Cursor = false
takes_memory Quit = false
takes_memory _ = true

-- where a command can run out of memory
abbrev pub MayLack : SeenSession → Command → Type 0
MayLack seen command = takes_memory command || (asks_view command && not seen.fresh) ≡ true

-- a command that asks the view leaves it fresh, and one that changes no buffer as it was
abbrev pub fresh_after : SeenSession → Command → Bool
fresh_after seen command = asks_view command || (keeps_buffers seen.state command && seen.fresh)

-- the command is done
pub record IsDone (before : SeenWorld) (command : Command) (after : SeenWorld) (reply : List ℕ) : Type 0 where
  pub answer : IsAnswer before.session.width before.session.height before.session.state command
      after.session.state reply
  pub fresh : after.session.fresh ≡ fresh_after before.session command
  pub width : after.session.width ≡ before.session.width
  pub height : after.session.height ≡ before.session.height
  pub stored : StoresFile (saved_by before.session.state command) before.store after.store

-- the command is `work`, and prints the number; the view is fresh afterwards
pub record IsWorkTold (before : SeenWorld) (command : Command) (n : ℕ) (after : SeenWorld)
    (reply : List ℕ) : Type 0 where
  pub work : command ≡ Work
  pub session : after.session ≡ record before.session { fresh = true }
  pub stored : after.store ≡ before.store
  pub said : reply ≡ work_reply n

-- the store failed where the command saves a file
abbrev pub IsUnsaved : SeenWorld → Command → SeenWorld → List ℕ → Type 0
IsUnsaved before command after reply =
    (name bytes : List ℕ) × (saved_by before.session.state command ≡ Some (name, bytes))
    × (after.session ≡ before.session) × FailsToStore name before.store after.store × (reply ≡ unsaved_reply)

-- what a session and its store are after a command, and the reply, by the mark
abbrev pub IsReply : SeenWorld → Command → LineMark → SeenWorld → List ℕ → Type 0
IsReply before command plain after reply = IsDone before command after reply
IsReply before command lacking after reply = MayLack before.session command × (after.session ≡ before.session)
    × KeepsFiles before.store after.store × (reply ≡ wanting_reply)
IsReply before command unsaved after reply = IsUnsaved before command after reply
IsReply before command (told n) after reply = IsWorkTold before command n after reply

-- the reply to a line that is no command
abbrev pub refusal : CmdFault → List ℕ
refusal (Long n) = line (codes "no long " ++ decimal n)
refusal Unknown = unknown_reply
refusal (Args n) = line (codes "no args " ++ decimal n)
refusal (Path n) = line (codes "no path " ++ decimal n)
refusal (BadTree fault) = line (codes "no tree " ++ read_fault_text fault)
refusal Memory = wanting_reply

-- what a line is
pub data Reading : Type 0 where
  nothing : Reading
  too_long : (count : ℕ) → Reading
  unread : Reading
  command : (it : Command) → Reading
  faulty : (cause : CmdFault) → Reading

-- a line that isn't empty, and not too long for a command
abbrev pub IsAsked : List ℕ → Type 0
IsAsked text = (text ≢ []) × (length text ≤ MOST_LINE)

-- Memory can run out before a line is read that begins like a command with a path, a label, a name or a tree.
abbrev pub IsLineRead : List ℕ → Reading → Type 0
IsLineRead text nothing = text ≡ []
IsLineRead text (too_long count) = (MOST_LINE < length text) × (count ≡ length text)
IsLineRead text unread = IsAsked text × TakesMemory (up_to_space text)
IsLineRead text (command it) = IsAsked text × IsCommand text it
IsLineRead text (faulty cause) = IsAsked text × (cause ≢ Memory) × IsCmdFault text cause

-- a refusal, or out of memory in its place
abbrev pub IsRefusalReply : World → (text : List ℕ) → LineMark → World → List ℕ → Type 0
IsRefusalReply before text plain after reply = IsAsBefore before after × (reply ≡ text)
IsRefusalReply before text lacking after reply = IsAsBefore before after × (reply ≡ wanting_reply)
IsRefusalReply before text unsaved after reply = ⊥
IsRefusalReply before text (told n) after reply = ⊥

-- the reply to a command that was read from a line, with the view's cache and the steps after it, of which reading
-- takes at most the nodes of the line's tree
pub record IsCommandReply (before : World) (it : Command) (mark : LineMark) (after : World)
    (reply : List ℕ) : Type 0 where
  pub replied : IsReply (seen_of_world before) it mark (seen_of_world after) reply
  pub keeps : Keeps before.session it mark after.session
  pub read : ℕ
  pub reading : (before.steps ≤ read) × (read ≤ before.steps + nodes_in_values (values_of it))
  pub takes : Takes before.session it mark read after.steps

-- the reply to a line that was read, unless it is `quit`
abbrev pub IsReplyTo : World → Reading → LineMark → World → List ℕ → Type 0
IsReplyTo before nothing mark after reply = (mark ≡ plain) × (after ≡ before) × (reply ≡ [])
IsReplyTo before (too_long count) mark after reply =
    IsRefusalReply before (refusal (Long count)) mark after reply × (after.steps ≡ before.steps)
IsReplyTo before unread mark after reply = (mark ≡ lacking) × IsAsBefore before after × (reply ≡ wanting_reply)
IsReplyTo before (command it) mark after reply = (it ≢ Quit) × IsCommandReply before it mark after reply
IsReplyTo before (faulty cause) mark after reply = IsRefusalReply before (refusal cause) mark after reply

abbrev pub IsLineReply : World → List ℕ → LineMark → World → List ℕ → Type 0
IsLineReply before text mark after reply =
    (reading : Reading) × IsLineRead text reading × IsReplyTo before reading mark after reply
