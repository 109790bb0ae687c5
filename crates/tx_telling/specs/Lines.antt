-- Lines that are a command.
use Rattle.std.specs.Prelude.{◌≢◌, ℕ, List}
use Rattle.std.specs.List.{AllByRecursion}
use Rattle.tx_cmd.specs.declared.command.Command.{Command}
use Rattle.tx_cmd.specs.Commands.{IsCommand}

-- no byte ends a line: neither a newline nor a return
abbrev pub HasNoLineEnd : List ℕ → Type 0
HasNoLineEnd = AllByRecursion (λ b. (b ≢ 10) × (b ≢ 13))

-- the line is the command, and no byte of it ends a line
pub record IsScriptLine (line : List ℕ) (command : Command) : Type 0 where
  pub is_command : IsCommand line command
  pub no_end : HasNoLineEnd line

-- no line is the command
abbrev pub HasNoLine : Command → Type 0
HasNoLine command = (line : List ℕ) → IsCommand line command → ⊥
