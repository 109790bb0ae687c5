-- What contracts see of a source, a sink and a store in memory.
use Rattle.std.specs.Prelude.{◌≡◌, ℕ, ◌≤◌, List, Contains, Some, IsSomeAnd, Result, Ok, Err, length}
use Rattle.tx_outside.specs.Counts.{raised}
use Rattle.tx_outside.specs.Files.{Files, IsAbsent, IsTooLong, file_of}
use Rattle.tx_outside.specs.declared.faults.LoadFault.{LoadFault}
use Rattle.tx_outside.specs.declared.faults.LoadFault.TheVariants.{Missing, Failed, TooLong, Memory}
use Rattle.tx_outside.specs.declared.file_store.TheConstants.{MOST_FILE}
use Rattle.tx_outside.specs.Outside.{SinkSeen, SourceSeen, StoreSeen}

-- the calls of one object: the numbers of those that fail, the number of the next one, and how many failed
pub record CallsMade : Type 0 where
  pub failing : List ℕ
  pub next : ℕ
  pub faults : ℕ

-- the next call is one of those that fail
abbrev pub NextFails : CallsMade → Type 0
NextFails calls = Contains calls.failing calls.next

-- no call was made yet
abbrev pub no_calls : List ℕ → CallsMade
no_calls failing = record { failing = failing; next = 0; faults = 0 }

-- one call more
abbrev pub one_more : CallsMade → CallsMade
one_more calls = record calls { next = raised calls.next }

-- one call more, and it failed
abbrev pub one_failed : CallsMade → CallsMade
one_failed calls = record calls { next = raised calls.next; faults = raised calls.faults }

-- a source: the bytes that are left, and its calls
pub record MemorySource : Type 0 where
  pub left : List ℕ
  pub calls : CallsMade

-- a sink: the bytes that were written, how many it takes at most, and its calls
pub record MemorySink : Type 0 where
  pub written : List ℕ
  pub room : ℕ
  pub calls : CallsMade

-- a store: its files, its calls, and how many of the files asked for were missing or too long
pub record MemoryStore : Type 0 where
  pub files : Files
  pub calls : CallsMade
  pub misses : ℕ
  pub longs : ℕ

-- what is seen of them: all their contents
abbrev pub seen_source : MemorySource → SourceSeen
seen_source source = record { left = Some source.left; faults = source.calls.faults }

abbrev pub seen_sink : MemorySink → SinkSeen
seen_sink sink = record { written = Some sink.written; faults = sink.calls.faults }

abbrev pub seen_store : MemoryStore → StoreSeen
seen_store store =
    record {
      files = Some store.files;
      faults = store.calls.faults;
      misses = store.misses;
      longs = store.longs;
    }

-- What a load of the file of that name leaves of a store, by what it returned: one call more, and its fault counted.
abbrev pub LoadLeaves : List ℕ → Result (Unit {0}) LoadFault → (old new : MemoryStore) → Type 0
LoadLeaves name (Ok done) old new =
    IsSomeAnd (file_of old.files name) (λ bytes. length bytes ≤ MOST_FILE)
    × (new ≡ record old { calls = one_more old.calls })
LoadLeaves name (Err Missing) old new =
    IsAbsent name old.files × (new ≡ record old { calls = one_more old.calls; misses = raised old.misses })
LoadLeaves name (Err Failed) old new = NextFails old.calls × (new ≡ record old { calls = one_failed old.calls })
LoadLeaves name (Err TooLong) old new =
    IsTooLong name old.files × (new ≡ record old { calls = one_more old.calls; longs = raised old.longs })
LoadLeaves name (Err Memory) old new = new ≡ record old { calls = one_more old.calls }
