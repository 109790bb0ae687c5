-- The results of the program, as outcomes.
use Rattle.std.specs.Prelude.{ℕ, ◌*◌}
use Rattle.tx_open.specs.declared.failure.Failure.{Failure}
use Rattle.tx_open.specs.declared.failure.Failure.TheVariants as failures
use Rattle.tx_open.specs.declared.opening.Opened.{Opened}
use Rattle.tx_open.specs.declared.opening.Opening.{Opening}
use Rattle.tx_open.specs.declared.opening.Opening.TheVariants as openings
use Rattle.tx_open.specs.Outcomes.{OpenOutcome, faulty_words, missing, too_long, no_tree, store_fault, no_memory}
use Rattle.tx_open.specs.Outcomes.{opened, generated, nodes_in_buffers}

abbrev pub open_outcome : Opening → OpenOutcome
open_outcome openings.FaultyWords = faulty_words
open_outcome openings.UnreadWords = no_memory
open_outcome (openings.Missing word) = missing word.now
open_outcome (openings.TooLong word) = too_long word.now
open_outcome (openings.NoTree word fault) = no_tree word.now fault
open_outcome (openings.StoreFault word) = store_fault word.now
open_outcome openings.NoMemory = no_memory
open_outcome (openings.Opened all) = opened all
open_outcome (openings.Generated all) = generated all

abbrev pub failed_as : Failure → OpenOutcome
failed_as (failures.Missing word) = missing word.now
failed_as (failures.TooLong word) = too_long word.now
failed_as (failures.NoTree word fault) = no_tree word.now fault
failed_as (failures.StoreFault word) = store_fault word.now
failed_as failures.NoMemory = no_memory

-- What was opened may cost so many steps: each node of a file's tree is read, and may be made modern; a document that
-- is generated is read alone.
abbrev pub reading_cost : Opening → ℕ
reading_cost (openings.Opened all) = 2 * nodes_in_buffers all.buffers
reading_cost (openings.Generated all) = nodes_in_buffers all.buffers
reading_cost _ = 0

-- this holds of what was opened, where files were, or a generated document
abbrev pub IfOpened : Opening → (Opened → Type 0) → Type 0
IfOpened (openings.Opened all) P = P all
IfOpened (openings.Generated all) P = P all
IfOpened _ P = Unit {0}
