-- How a run ends where nothing was opened: its status, and what it writes.
use Rattle.std.specs.Prelude.{ℕ, List, [], ◌∷◌, ◌++◌, codes}
use Rattle.tx_open.specs.Outcomes.{OpenOutcome, faulty_words, missing, too_long, no_tree, store_fault, no_memory}
use Rattle.tx_open.specs.Outcomes.{opened, generated}
use Rattle.tx_print.specs.Lines.{line}
use Rattle.tx_session.specs.declared.status.Status.{Status}
use Rattle.tx_session.specs.declared.status.Status.TheVariants as statuses
use Rattle.tx_session.specs.FaultTexts.{read_fault_text}

-- the status with which opening ends the run, or Ok
abbrev pub status_of : OpenOutcome → Status
status_of faulty_words = statuses.Words
status_of (missing word) = statuses.Missing
status_of (too_long word) = statuses.Refused
status_of (no_tree word fault) = statuses.Refused
status_of (store_fault word) = statuses.StoreFault
status_of no_memory = statuses.NoMemory
status_of (opened all) = statuses.Ok
status_of (generated all) = statuses.Ok

abbrev pub usage : List ℕ
usage = codes "usage: tmx [--width N] [--height N] FILE [STYLE]..."

-- what is written where nothing was opened; a file is named by its word
abbrev pub outcome_text : OpenOutcome → List ℕ
outcome_text faulty_words = line usage
outcome_text (missing word) = line (codes "missing " ++ word)
outcome_text (too_long word) = line (codes "refused " ++ (word ++ codes " long"))
outcome_text (no_tree word fault) = line (codes "refused " ++ (word ++ (32 ∷ read_fault_text fault)))
outcome_text (store_fault word) = line (codes "store " ++ word)
outcome_text no_memory = line (codes "memory")
outcome_text (opened all) = []
outcome_text (generated all) = []
