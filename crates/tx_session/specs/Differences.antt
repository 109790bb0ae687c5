-- Stores that hold the same files, marks without `lacking`, replies that no mark says, and statuses with which opening
-- ends a run.
use Rattle.std.specs.Prelude.{◌≡◌, ◌≢◌, ℕ, List, Option}
use Rattle.std.specs.List.{AllByRecursion}
use Rattle.tx_outside.specs.Files.{Files, file_of}
use Rattle.tx_outside.specs.Known.{WhereKnown}
use Rattle.tx_session.specs.declared.status.Status.{Status}
use Rattle.tx_session.specs.declared.status.Status.TheVariants.{Words, Missing, Refused, StoreFault}
use Rattle.tx_session.specs.Replies.{wanting_reply, unsaved_reply}
use Rattle.tx_session.specs.Worlds.{LineMark, lacking}

-- both hold the same bytes under each name, where both are known
abbrev pub HoldSameFiles : Option Files → Option Files → Type 0
HoldSameFiles files others =
    WhereKnown (λ all more. (name : List ℕ) → file_of more name ≡ file_of all name) files others

-- memory sufficed at each line
abbrev pub Suffices : List LineMark → Type 0
Suffices marks = AllByRecursion (λ mark. mark ≢ lacking) marks

-- neither the reply where memory ran out nor the one where the store failed
abbrev pub IsPlainReply : List ℕ → Type 0
IsPlainReply reply = (reply ≢ wanting_reply) × (reply ≢ unsaved_reply)

-- a run ends so only where no file was opened
abbrev pub EndsAtOpening : Status → Type 0
EndsAtOpening Words = Unit {0}
EndsAtOpening Missing = Unit {0}
EndsAtOpening Refused = Unit {0}
EndsAtOpening StoreFault = Unit {0}
EndsAtOpening _ = ⊥
