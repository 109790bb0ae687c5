-- How a run of the screen ends, and what it does to its session and its store.
use Rattle.std.specs.Prelude.{◌≡◌, ◌⊎◌, ◌≤◌, ◌+◌, ℕ, List, [], IfSome}
use Rattle.tx_outside.specs.Counts.{Rose}
use Rattle.tx_outside.specs.Outside.{SinkSeen, SourceSeen, StoreSeen}
use Rattle.tx_open.specs.declared.opening.Opened.{Opened}
use Rattle.tx_open.specs.Outcomes.{OpenOutcome, faulty_words, missing, too_long, no_tree, store_fault, no_memory}
use Rattle.tx_open.specs.Outcomes.{opened, generated, ComesTo, IsCaused}
use Rattle.tx_session.specs.Runs.{opening_cost, whole_start}
use Rattle.tx_session.specs.Worlds.{KeepsFiles, WholeSession, world}
use Rattle.tx_screen.specs.declared.ending.Ending.{Ending}
use Rattle.tx_screen.specs.declared.ending.Ending.TheVariants.{Words, Missing, Refused, StoreFault, NoMemory}
use Rattle.tx_screen.specs.declared.ending.Ending.TheVariants.{InputFault, OutputFault, InputEnded, Unsaved}
use Rattle.tx_screen.specs.Screens.{IsTold}

-- the ending by which a run says that nothing was opened, and why
abbrev pub EndsSo : OpenOutcome → Ending → Type 0
EndsSo faulty_words ending = ending ≡ Words
EndsSo (missing word) ending = ending ≡ Missing
EndsSo (too_long word) ending = ending ≡ Refused
EndsSo (no_tree word fault) ending = ending ≡ Refused
EndsSo (store_fault word) ending = ending ≡ StoreFault
EndsSo no_memory ending = ending ≡ NoMemory
EndsSo _ ending = ⊥

-- an ending that comes only where nothing was opened
abbrev pub EndsAtOpening : Ending → Type 0
EndsAtOpening Words = Unit {0}
EndsAtOpening Missing = Unit {0}
EndsAtOpening Refused = Unit {0}
EndsAtOpening StoreFault = Unit {0}
EndsAtOpening _ = ⊥

-- where the ending of a screen that was opened comes
pub record HasCause (ending : Ending) (input input_then : SourceSeen) (out out_then : SinkSeen) : Type 0 where
  pub served : ¬ EndsAtOpening ending
  pub input_fault : ending ≡ InputFault → Rose input.faults input_then.faults
  pub output_fault : ending ≡ OutputFault → Rose out.faults out_then.faults
  pub at_end : (ending ≡ InputEnded) ⊎ (ending ≡ Unsaved) → IfSome input_then.left (λ bytes. bytes ≡ [])

-- the words and the files have an outcome, by which nothing is opened, or memory ran out
pub record EndsUnopened (words : List (List ℕ)) (ending : Ending) (before after : StoreSeen) : Type 0 where
  pub outcome : OpenOutcome
  pub comes : ComesTo words before.files outcome
  pub caused : IsCaused before after outcome
  pub so : EndsSo outcome ending
  pub kept : KeepsFiles before after

-- the session is that of the files or of the generated document for which the words ask
pub record Begins (words : List (List ℕ)) (before after : StoreSeen) (old new : ℕ) (begun : WholeSession) : Type 0 where
  pub all : Opened
  pub comes : ComesTo words before.files (opened all) ⊎ ComesTo words before.files (generated all)
  pub loaded : KeepsFiles before after
  pub counted : new ≤ old + opening_cost all
  pub starts : begun ≡ whole_start all

-- Such a session is given lines, in order, as those of a script are executed. The store and the count of steps are as
-- these leave them.
pub record EndsServed (words : List (List ℕ)) (before after : StoreSeen) (old new : ℕ) : Type 0 where
  pub first : StoreSeen
  pub steps : ℕ
  pub start : WholeSession
  pub lines : List (List ℕ)
  pub last : WholeSession
  pub begins : Begins words before first old steps start
  pub told : IsTold (world start first steps) lines (world last after new)

abbrev pub IsScreenRun : List (List ℕ) → Ending → (before after : StoreSeen) → (old new : ℕ) → Type 0
IsScreenRun words ending before after old new =
    EndsUnopened words ending before after ⊎ (¬ EndsAtOpening ending × EndsServed words before after old new)
