-- Runs that end before a session begins.
use Rattle.std.proofs.Common.{◌≡◌, ◌⊎◌, inl, inr, ℕ, List, Option, subst}
use Rattle.tx_outside.specs.Outside.{StoreSeen}
use Rattle.tx_open.specs.Loads.{LoadOf, StoreIsAsked}
use Rattle.tx_open.specs.Outcomes.{ComesTo, OpenOutcome, no_memory}
use Rattle.tx_session.specs.Differences.{EndsAtOpening}
use Rattle.tx_session.specs.Playing.{IsUnopenedLine}
use Rattle.tx_session.specs.EarlyEnds.{HasOpenedNothing}
use Rattle.tx_session.specs.declared.status.Status.{Status}

-- the line of an outcome that opened nothing is written, or the one that says that memory ran out
pub opened_nothing : {S : Type 0} (load : LoadOf S) (seen : S → StoreSeen) (words : List (List ℕ)) (status : Status)
    (old new : S) (before after : Option (List ℕ)) (o : OpenOutcome) → ComesTo words (seen old).files o
    → StoreIsAsked load seen words o old new
    → IsUnopenedLine o status before after ⊎ IsUnopenedLine no_memory status before after → EndsAtOpening status
    → HasOpenedNothing load seen words status old new before after
opened_nothing load seen words status old new before after o comes asked (inl line) ends =
    let done = line.done (λ e. subst EndsAtOpening e ends) in
    record { outcome = o; comes = comes; asked = asked; ended = done.0; written = done.1 }
opened_nothing load seen words status old new before after o comes asked (inr line) ends =
    let done = line.done (λ e. subst EndsAtOpening e ends) in absurd (subst EndsAtOpening done.0 ends)
