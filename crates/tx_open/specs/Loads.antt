-- What opening asks of the store: which files it loads, in which order, and what each load returned.
--
-- In all of these `load word result old new` says that a load of the file of this word returned this, and left the new
-- store of the old one. It is `Store::load_leaves` of `tx_outside`, of any store: so a chain of loads leads from one
-- store to another only where each of its files was asked for once, in its order, and nothing else was.
use Rattle.std.specs.Prelude.{◌≡◌, ◌⊎◌, ℕ, List, [], ◌∷◌, ◌++◌, Result, Ok, Err}
use Rattle.tx_outside.specs.Counts.{Rose}
use Rattle.tx_outside.specs.Outside.{StoreGoesOn, StoreSeen}
use Rattle.tx_outside.specs.declared.faults.LoadFault.{LoadFault}
use Rattle.tx_outside.specs.declared.faults.LoadFault.TheVariants.{Missing, Failed, TooLong, Memory}
use Rattle.tx_words.specs.declared.asked.Source.TheVariants as sources
use Rattle.tx_words.specs.Words.{Ask, Named}
use Rattle.tx_open.specs.Outcomes.{OpenOutcome, faulty_words, missing, too_long, no_tree, store_fault, no_memory}
use Rattle.tx_open.specs.Outcomes.{opened, generated}

-- a relation like `load`, of stores of this type
abbrev pub LoadOf : Type 0 → Type 1
LoadOf S = List ℕ → Result (Unit {0}) LoadFault → S → S → Type 0

-- each of these files is loaded once, in their order
abbrev pub AreLoaded : {S : Type 0} → LoadOf S → List Named → (old new : S) → Type 0
AreLoaded load [] old new = new ≡ old
AreLoaded {S} load (file ∷ files) old new =
    (next : S) × load file.word (Ok tt) old next × AreLoaded load files next new

-- the words ask for files of which this holds
pub record AskForFilesThat (words : List (List ℕ)) (Hold : List Named → Type 0) : Type 0 where
  pub width : ℕ
  pub height : ℕ
  pub names : List Named
  pub asked : Ask words width height (sources.Files names)
  pub hold : Hold names

module _ {S : Type 0} (load : LoadOf S) (seen : S → StoreSeen) where
  -- The last file that is asked for is the one of this word. A fault of the store is what this load returned, and its
  -- count rose in this load. Memory may have run out before this load, in it or after it.
  abbrev pub IsLastLoad : (file : List ℕ) → OpenOutcome → (old new : S) → Type 0
  IsLastLoad file (missing word) old new =
      (word ≡ file) × load file (Err Missing) old new × Rose (seen old).misses (seen new).misses
  IsLastLoad file (too_long word) old new =
      (word ≡ file) × load file (Err TooLong) old new × Rose (seen old).longs (seen new).longs
  IsLastLoad file (store_fault word) old new =
      (word ≡ file) × load file (Err Failed) old new × Rose (seen old).faults (seen new).faults
  IsLastLoad file (no_tree word fault) old new = (word ≡ file) × load file (Ok tt) old new
  IsLastLoad file no_memory old new = (new ≡ old) ⊎ load file (Ok tt) old new ⊎ load file (Err Memory) old new
  IsLastLoad file _ old new = ⊥

  -- the files before one of them are loaded, each once and in their order, and this one is the last that is asked for
  pub record AreLoadedUpTo (names : List Named) (outcome : OpenOutcome) (old new : S) : Type 0 where
    pub before : List Named
    pub file : Named
    pub behind : List Named
    pub parts : names ≡ before ++ file ∷ behind
    pub between : S
    pub loaded : AreLoaded load before old between
    pub goes_on : StoreGoesOn (seen old) (seen between)
    pub last : IsLastLoad file.word outcome between new

  -- What is asked of the store where words come to this outcome: the file of each word once, in the order of the words,
  -- and none after the one that decides. Where no files are opened, nothing is.
  abbrev pub StoreIsAsked : List (List ℕ) → OpenOutcome → (old new : S) → Type 0
  StoreIsAsked words faulty_words old new = new ≡ old
  StoreIsAsked words (generated all) old new = new ≡ old
  StoreIsAsked words (opened all) old new = AskForFilesThat words (λ names. AreLoaded load names old new)
  StoreIsAsked words no_memory old new =
      (new ≡ old) ⊎ AskForFilesThat words (λ names. AreLoadedUpTo names no_memory old new)
  StoreIsAsked words outcome old new = AskForFilesThat words (λ names. AreLoadedUpTo names outcome old new)
