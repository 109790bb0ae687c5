-- How a script was executed. Only private clauses cite this.
use Rattle.std.specs.Prelude.{◌≡◌, ◌≢◌, ◌++◌, ◌⊎◌, ℕ, List, Option}
use Rattle.std.specs.Io.KnownBytes.{append_known}
use Rattle.tx_outside.specs.Known.{AppendsPart}
use Rattle.tx_session.specs.declared.status.Status.{Status}
use Rattle.tx_session.specs.declared.status.Status.TheVariants.{InputFault, OutputFault}
use Rattle.tx_open.specs.declared.opening.Opened.{Opened}
use Rattle.tx_open.specs.Outcomes.{OpenOutcome}
use Rattle.tx_session.specs.Outcomes.{status_of, outcome_text}
use Rattle.tx_session.specs.Worlds.{World, LineMark}
use Rattle.tx_session.specs.Runs.{TellsScript, IsOwnLineAlone, IsPlayed, IsPlayedAlone, IsReplyAlone, IsReplyBehind}
use Rattle.tx_session.specs.Runs.{own_line}

-- the replies are written, and the status's own line isn't yet
pub record HasPlayed (start last : World) (told rest : Option (List ℕ)) (status : Status)
    (before after : Option (List ℕ)) : Type 0 where
  pub script : List ℕ
  pub marks : List LineMark
  pub replies : List ℕ
  pub tells : TellsScript told script
  pub played : IsPlayed start script marks rest status last replies
  pub written : after ≡ append_known before replies

-- a reply is written in part
pub record IsCutOff (start last : World) (told : Option (List ℕ)) (before after : Option (List ℕ)) : Type 0 where
  pub script : List ℕ
  pub done : List ℕ
  pub reply : List ℕ
  pub tells : TellsScript told script
  pub behind : IsReplyBehind start script last done reply
  pub part : AppendsPart reply (append_known before done) after

abbrev pub IsEnd : Status → (start last : World) → (told rest before after : Option (List ℕ)) → Type 0
IsEnd OutputFault start last told rest before after = IsCutOff start last told before after
IsEnd status start last told rest before after = HasPlayed start last told rest status before after

-- the script was executed, and the status's own line is written too
pub record IsClosed (start last : World) (told rest : Option (List ℕ)) (status : Status)
    (before after : Option (List ℕ)) : Type 0 where
  pub script : List ℕ
  pub marks : List LineMark
  pub replies : List ℕ
  pub tells : TellsScript told script
  pub played : IsPlayed start script marks rest status last replies
  pub written : after ≡ append_known before (replies ++ own_line status)

pub record IsClosedInPart (failed : Type 0) (start last : World) (told rest : Option (List ℕ))
    (before after : Option (List ℕ)) : Type 0 where
  pub status : Status
  pub between : Option (List ℕ)
  pub played : HasPlayed start last told rest status before between
  pub part : AppendsPart (own_line status) between after
  pub caused : status ≡ InputFault → failed

abbrev pub IsServed : Type 0 → Status → (start last : World) → (told rest before after : Option (List ℕ)) → Type 0
IsServed failed OutputFault start last told rest before after =
    IsCutOff start last told before after ⊎ IsClosedInPart failed start last told rest before after
IsServed failed status start last told rest before after = IsClosed start last told rest status before after

-- how the session of a generated document was served: all is written, or the output failed
pub record IsServedAlone (all : Opened) (old new : ℕ) (status : Status) (before after : Option (List ℕ)) : Type 0 where
  pub done : status ≢ OutputFault → (marks : List LineMark) × (replies : List ℕ)
      × IsPlayedAlone all old new marks status replies × (after ≡ append_known before (replies ++ own_line status))
  pub cut : status ≡ OutputFault → (done part : List ℕ)
      × (IsReplyAlone all old new done part ⊎ IsOwnLineAlone all old new done part)
      × AppendsPart part (append_known before done) after

-- the line of an outcome that opened nothing, which is written, or in part
pub record IsUnopenedLine (o : OpenOutcome) (status : Status) (before after : Option (List ℕ)) : Type 0 where
  pub done : status ≢ OutputFault → (status ≡ status_of o) × (after ≡ append_known before (outcome_text o))
  pub cut : status ≡ OutputFault → AppendsPart (outcome_text o) before after
