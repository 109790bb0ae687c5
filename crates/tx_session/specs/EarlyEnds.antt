-- A run that ends before a session begins.
use Rattle.std.specs.Prelude.{◌≡◌, ℕ, List, Option}
use Rattle.std.specs.Io.KnownBytes.{append_known}
use Rattle.tx_outside.specs.Outside.{StoreSeen}
use Rattle.tx_open.specs.Loads.{LoadOf, StoreIsAsked}
use Rattle.tx_open.specs.Outcomes.{ComesTo, OpenOutcome}
use Rattle.tx_session.specs.Outcomes.{outcome_text, status_of}
use Rattle.tx_session.specs.declared.status.Status.{Status}

-- Words and files come to an outcome that opens nothing, and the store was asked for no more than that takes. The status
-- and the line that is written are those of this outcome.
pub record HasOpenedNothing {S : Type 0} (load : LoadOf S) (seen : S → StoreSeen) (words : List (List ℕ))
    (status : Status) (old new : S) (before after : Option (List ℕ)) : Type 0 where
  pub outcome : OpenOutcome
  pub comes : ComesTo words (seen old).files outcome
  pub asked : StoreIsAsked load seen words outcome old new
  pub ended : status ≡ status_of outcome
  pub written : after ≡ append_known before (outcome_text outcome)
