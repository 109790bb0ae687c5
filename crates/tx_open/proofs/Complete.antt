-- Files that can be opened are opened, or memory runs out.
use Rattle.std.proofs.Common.{◌≡◌, ◌≢◌, ◌⊎◌, inl, inr, ℕ, List, Option, refl, sym, subst}
use Rattle.tx_outside.specs.Counts.{Rose}
use Rattle.tx_outside.specs.Files.{Files}
use Rattle.tx_outside.specs.Outside.{StoreSeen}
use Rattle.tx_words.specs.declared.asked.Source.{Source}
use Rattle.tx_words.specs.declared.asked.Source.TheVariants.{Files as AllFiles, Generated as FromNumber}
use Rattle.tx_words.specs.Words.{Ask, AreFaulty, Named}
use Rattle.tx_tree.specs.declared.faults.ReadFault.{ReadFault}
use Rattle.tx_tree.specs.declared.faults.ReadFault.TheVariants.{Stray, BadEscape, BadLabel, BadText, Mismatch, Unclosed}
use Rattle.tx_tree.specs.declared.faults.ReadFault.TheVariants.{After, Limit, Memory}
use Rattle.tx_tm_form.specs.Faults.{IsTmFault}
use Rattle.tx_open.specs.declared.failure.Failure.{Failure}
use Rattle.tx_open.specs.declared.failure.Failure.TheVariants as failures
use Rattle.tx_open.specs.declared.opening.Opened.{Opened}
use Rattle.tx_open.specs.declared.opening.Opening.{Opening}
use Rattle.tx_open.specs.declared.opening.Opening.TheVariants as openings
use Rattle.tx_open.specs.Openings.{failed_as, open_outcome}
use Rattle.tx_open.specs.Outcomes.{CanBeOpened, ComesTo, EndsIn, EndsOf, IsCaused, IsOpenedAs, OpenOutcome}
use Rattle.tx_open.specs.Outcomes.{missing, too_long, no_tree, store_fault, no_memory}
use Rattle.tx_open.proofs.Single.{AskOnce, ends_or_opens, not_files, same_files}

-- where bytes have no fault, reading them can fail only when out of memory
pub only_memory : (bytes : List ℕ) (fault : ReadFault) → (fault ≢ Memory → IsTmFault bytes fault)
    → (IsTmFault bytes fault → ⊥) → fault ≡ Memory
only_memory bytes (Stray n) h none = absurd (none (h (λ e. cc)))
only_memory bytes (BadEscape n) h none = absurd (none (h (λ e. cc)))
only_memory bytes (BadLabel n) h none = absurd (none (h (λ e. cc)))
only_memory bytes (BadText n) h none = absurd (none (h (λ e. cc)))
only_memory bytes (Mismatch p n) h none = absurd (none (h (λ e. cc)))
only_memory bytes (After n) h none = absurd (none (h (λ e. cc)))
only_memory bytes (Unclosed n) h none = absurd (none (h (λ e. cc)))
only_memory bytes (Limit which n) h none = absurd (none (h (λ e. cc)))
only_memory bytes Memory h none = refl

-- a file that spells no tree isn't read
refused : (words : List (List ℕ)) (asked_once : AskOnce words) (files : Option Files) (word : List ℕ)
    (fault : ReadFault) → CanBeOpened words files → EndsOf words files (no_tree word fault) → ⊥
refused words asked_once files word fault can h =
    let all = can.all in
    let opens = subst (λ (fs : Option Files). IsOpenedAs words fs all) can.known can.opens in
    let ends = subst (λ (fs : Option Files). EndsOf words fs (no_tree word fault)) can.known h in
    let asked =
    asked_once ends.width ends.height all.width all.height (AllFiles ends.names) (AllFiles opens.names) ends.asked
    opens.asked in
    let names = same_files ends.names opens.names asked.2 in
    ends_or_opens can.told ends.names opens.names (no_tree word fault) all.buffers names ends.ends tt opens.read

-- words that ask for something aren't faulty
pub asks : {P : Type 0} (words : List (List ℕ)) (width height : ℕ) (source : Source) → Ask words width height source
    → AreFaulty words → P
asks words width height source ask faulty = absurd (faulty width height source ask)

-- words that ask for files ask for no generated document
pub no_number : (words : List (List ℕ)) (asked_once : AskOnce words) (names : List Named) (width height : ℕ)
    → Ask words width height (AllFiles names)
    → (w h number count : ℕ) → Ask words w h (FromNumber number count) → ⊥
no_number words asked_once names width height a w h number count b =
    let asked = asked_once width height w h (AllFiles names) (FromNumber number count) a b in
    not_files names number count asked.2

pub is_opened : (words : List (List ℕ)) (asked_once : AskOnce words) (files : Option Files) (r : Opening)
    → CanBeOpened words files → ComesTo words files (open_outcome r)
    → ((word : List ℕ) → open_outcome r ≡ missing word → ⊥)
    → ((word : List ℕ) → open_outcome r ≡ too_long word → ⊥) → ((word : List ℕ) → open_outcome r ≡ store_fault word → ⊥)
    → (open_outcome r ≡ no_memory) ⊎ ((all : Opened) × (r ≡ openings.Opened all))
is_opened words asked_once files openings.FaultyWords can h m l f =
    let opens = can.opens in
    let all = can.all in
    absurd (h all.width all.height (AllFiles opens.names) opens.asked)
is_opened words asked_once files (openings.Missing word) can h m l f = absurd (m word.now refl)
is_opened words asked_once files (openings.TooLong word) can h m l f = absurd (l word.now refl)
is_opened words asked_once files (openings.NoTree word fault) can h m l f =
    absurd (refused words asked_once files word.now fault can h)
is_opened words asked_once files (openings.StoreFault word) can h m l f = absurd (f word.now refl)
is_opened words asked_once files openings.UnreadWords can h m l f = inl refl
is_opened words asked_once files openings.NoMemory can h m l f = inl refl
is_opened words asked_once files (openings.Opened all) can h m l f = inr (all, refl)
is_opened words asked_once files (openings.Generated made) can h m l f =
    let opens = can.opens in
    let all = can.all in
    absurd (no_number words asked_once opens.names all.width all.height opens.asked made.width made.height h.number
    h.count h.asked)

-- one of the files that the words ask for isn't read
module _ (words : List (List ℕ)) (files : Option Files) (width height : ℕ) (names : List Named)
    (asked : Ask words width height (AllFiles names)) where
  ends_of : (o : OpenOutcome) → EndsIn files names o → EndsOf words files o
  ends_of o h = record { width = width; height = height; names = names; asked = asked; ends = h }

  failed : (f : Failure) → EndsIn files names (failed_as f) → ComesTo words files (failed_as f)
  failed (failures.Missing word) h = ends_of (missing word.now) h
  failed (failures.TooLong word) h = ends_of (too_long word.now) h
  failed (failures.NoTree word fault) h = ends_of (no_tree word.now fault) h
  failed (failures.StoreFault word) h = ends_of (store_fault word.now) h
  failed failures.NoMemory h = tt

  pub comes_from : (r : Opening) (f : Failure) → open_outcome r ≡ failed_as f → EndsIn files names (failed_as f)
      → ComesTo words files (open_outcome r)
  comes_from r f e h = subst (ComesTo words files) (sym e) (failed f h)

-- a cause, of each outcome that has one
module _ (before after : StoreSeen) (o : OpenOutcome) (h : IsCaused before after o) where
  pub missing_caused : (word : List ℕ) → o ≡ missing word → Rose before.misses after.misses
  missing_caused word e = subst (IsCaused before after) e h

  pub long_caused : (word : List ℕ) → o ≡ too_long word → Rose before.longs after.longs
  long_caused word e = subst (IsCaused before after) e h

  pub fault_caused : (word : List ℕ) → o ≡ store_fault word → Rose before.faults after.faults
  fault_caused word e = subst (IsCaused before after) e h
