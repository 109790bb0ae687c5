-- What a store over files has counted.
use Rattle.std.specs.Prelude.{◌≡◌, ℕ, List, None, Result, Ok, Err}
use Rattle.tx_outside.specs.Counts.{raised}
use Rattle.tx_outside.specs.Outside.{StoreSeen}
use Rattle.tx_outside.specs.declared.faults.LoadFault.{LoadFault}
use Rattle.tx_outside.specs.declared.faults.LoadFault.TheVariants.{Missing, Failed, TooLong, Memory}
use Rattle.tx_system.specs.declared.file_store.FileStore.{FileStore}

-- how often the store has failed
abbrev pub faults_of : {R : Type 0} → FileStore R → ℕ
faults_of store = store.faults

-- how often a file that was asked for wasn't there
abbrev pub misses_of : {R : Type 0} → FileStore R → ℕ
misses_of store = store.misses

-- how often a file that was asked for was too long
abbrev pub longs_of : {R : Type 0} → FileStore R → ℕ
longs_of store = store.longs

-- what is seen of the files, whose contents aren't known
abbrev pub seen_files : {R : Type 0} → FileStore R → StoreSeen
seen_files store =
    record {
      files = None;
      faults = faults_of store;
      misses = misses_of store;
      longs = longs_of store;
    }

-- What a load leaves of a store over files, by what it returned: its fault is counted.
abbrev pub LoadLeaves : {R : Type 0} → List ℕ → Result (Unit {0}) LoadFault → (old new : FileStore R) → Type 0
LoadLeaves name (Ok done) old new = new ≡ old
LoadLeaves name (Err Missing) old new = new ≡ record old { misses = raised old.misses }
LoadLeaves name (Err Failed) old new = new ≡ record old { faults = raised old.faults }
LoadLeaves name (Err TooLong) old new = new ≡ record old { longs = raised old.longs }
LoadLeaves name (Err Memory) old new = new ≡ old
