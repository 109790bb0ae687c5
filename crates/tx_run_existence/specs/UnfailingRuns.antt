-- Runs in which no device fails and memory suffices.
use Rattle.std.specs.Prelude.{◌≡◌, ℕ, List, Some}
use Rattle.tx_outside.specs.Files.{Files}
use Rattle.tx_open.specs.Outcomes.{OpenOutcome, ComesTo, IsDecided}
use Rattle.tx_session.specs.declared.status.Status.{Status}
use Rattle.tx_session.specs.Differences.{Suffices}
use Rattle.tx_session.specs.Runs.{Outside, IsWhole, IsRun, IsFinal}
use Rattle.tx_session.specs.Worlds.{LineMark, unsaved_in}

-- The words and these files have an outcome, and a run of it ends with this status and has written this text. At each
-- line memory sufficed, and each file that a line saves was saved.
pub record IsUnfailingRun (words : List (List ℕ)) (told : Files) (before after : Outside) (marks : List LineMark)
    (status : Status) (text : List ℕ) : Type 0 where
  pub outcome : OpenOutcome
  pub comes : ComesTo words (Some told) outcome
  pub decided : IsDecided outcome
  pub final : IsFinal status
  pub whole : IsWhole outcome before after marks status text
  pub suffices : Suffices marks
  pub saved : unsaved_in marks ≡ 0
  pub run : IsRun words status before after
