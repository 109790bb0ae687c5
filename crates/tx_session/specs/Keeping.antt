-- The beginning of a line that is stored while the line is read. Only private clauses cite this.
use Rattle.std.specs.Prelude.{◌≡◌, ◌+◌, ℕ, true, nat_eq, List, [], ◌∷◌, ◌++◌}
use Rattle.std.specs.Prelude.{length, take, Option, Result, Ok, Err, ◌≤◌, ◌≢◌}
use Rattle.std.specs.List.{ends_with}
use Rattle.std.specs.Io.KnownBytes.{append_known}
use Rattle.tx_cmd.specs.declared.TheConstants.{MOST_LINE}
use Rattle.tx_outside.specs.Known.{AppendsPart}
use Rattle.tx_outside.specs.declared.faults.WriteFault.{WriteFault}
use Rattle.tx_session.specs.declared.session.Next.{Next}
use Rattle.tx_session.specs.declared.kept_line.KeptLine.{KeptLine}
use Rattle.tx_session.specs.declared.script.Turn.{Turn}
use Rattle.tx_session.specs.declared.script.Turn.TheVariants as turns
use Rattle.tx_session.specs.Executed.{IsExecuted}
use Rattle.tx_session.specs.Replies.{IsLineReply}
use Rattle.tx_session.specs.Worlds.{World, LineMark}
use Rattle.tx_session.specs.Scripts.{HasEndedLines, Answered, command_line, is_quit}

-- what is stored of a line of these bytes: enough to execute it
pub record KeepsLine (line : KeptLine) (bytes : List ℕ) : Type 0 where
  pub front : line.front.items ≡ take (MOST_LINE + 1) bytes
  pub count : line.count ≡ length bytes
  pub returned : line.returned ≡ ends_with nat_eq bytes (13 ∷ [])

-- what became of a line that was stored
abbrev pub IsTurned : Result Next WriteFault → World → List ℕ → World → (before after : Option (List ℕ)) → Type 0
IsTurned result seen bytes next before after = IsExecuted result seen (command_line bytes) next before after

-- the bytes have these lines, which were executed, and the replies written
pub record StandsAnswered (start : World) (before : Option (List ℕ)) (bytes rest : List ℕ) (seen : World)
    (after : Option (List ℕ)) : Type 0 where
  pub ended : List (List ℕ)
  pub marks : List LineMark
  pub replies : List ℕ
  pub lines : HasEndedLines bytes ended rest
  pub answered : Answered start ended marks seen replies
  pub written : after ≡ append_known before replies

-- the bytes have such lines, and the line that has not ended is stored
pub record StandsWith (start : World) (before : Option (List ℕ)) (bytes : List ℕ) (seen : World) (line : KeptLine)
    (after : Option (List ℕ)) : Type 0 where
  pub rest : List ℕ
  pub stands : StandsAnswered start before bytes rest seen after
  pub kept : KeepsLine line rest

-- the lines that ended in the bytes were executed, and the last reply, to the line after them, is written in part
pub record IsCutAt (start : World) (before : Option (List ℕ)) (bytes : List ℕ) (next : World)
    (after : Option (List ℕ)) : Type 0 where
  pub rest : List ℕ
  pub seen : World
  pub between : Option (List ℕ)
  pub mark : LineMark
  pub reply : List ℕ
  pub stands : StandsAnswered start before bytes rest seen between
  pub replied : IsLineReply seen (command_line rest) mark next reply
  pub part : AppendsPart reply between after

-- where the bytes end that were taken until now, or that were taken when the session ended
abbrev pub TurnLeadsTo : Turn → World → Option (List ℕ) → List ℕ → World → KeptLine → Option (List ℕ) → Type 0
TurnLeadsTo turns.Go start before bytes seen line after = StandsWith start before bytes seen line after
TurnLeadsTo turns.Quit start before bytes seen line after =
    (upto more rest : List ℕ) × (bytes ≡ upto ++ 10 ∷ more) × StandsAnswered start before upto rest seen after
    × (is_quit rest ≡ true)
TurnLeadsTo turns.NoMemory start before bytes seen line after =
    (upto more rest : List ℕ) × (b : ℕ) × (bytes ≡ upto ++ b ∷ more) × (b ≢ 10) × (length rest ≤ MOST_LINE)
    × StandsAnswered start before upto rest seen after
TurnLeadsTo turns.OutputFailed start before bytes seen line after =
    (upto more : List ℕ) × (bytes ≡ upto ++ 10 ∷ more) × IsCutAt start before upto seen after
