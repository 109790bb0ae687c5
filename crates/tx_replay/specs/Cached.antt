-- What is cached of the trees of a unit, by entries at paths of the document.
use Rattle.std.specs.Prelude.{ℕ, if◌then◌else◌, List, [], ◌∷◌, ◌++◌, Some, None}
use Rattle.std.specs.Option.{IsSome}
use Rattle.std.specs.List.{AllByRecursion}
use Rattle.std.specs.Str.{bytes_eq}
use Rattle.tx_mod.specs.Moves.{rest_behind}
use Rattle.tx_kept.specs.declared.path_map.Entry.{Entry}
use Rattle.tx_parts.specs.Opening.{no_shells}
use Rattle.tx_replay.specs.Held.{Store, Stores}
use Rattle.tx_replay.specs.Seen.{Seen, Guide}
use Rattle.tx_replay.specs.declared.cached.CachedPart.{CachedPart}
use Rattle.tx_replay.specs.declared.cached.Caches.{Caches}
use Rattle.tx_replay.specs.declared.cached.Source.{Source}

-- the trace of the first entry at the path
abbrev pub trace_at : List (Entry CachedPart) → Store
trace_at [] path = None
trace_at (x ∷ xs) path = if bytes_eq x.path path then Some x.value.trace else trace_at xs path

-- what is cached of the trees of the unit at this path
abbrev pub store_below : List ℕ → List (Entry CachedPart) → Store
store_below base xs path = trace_at xs (base ++ path)

abbrev pub stores_of : Caches → Stores
stores_of c = record {
  base = c.base.now;
  own = store_below c.base.now c.own.now;
  spare = store_below c.base.now c.spare.now;
}

abbrev pub stores_in : Source → Stores
stores_in s = stores_of s.caches.now

-- where nothing has a shell
abbrev pub closed : Source → Guide
closed s = record { stores = stores_in s; sheller = no_shells }

-- ---- parts that are returned

abbrev pub seen : Entry CachedPart → Seen
seen x = record { path = x.path; trace = Some x.value.trace; renewed = x.value.renewed }

-- each entry is at a tree of the unit at this path
abbrev pub AllBelow : List ℕ → List (Entry CachedPart) → Type 0
AllBelow base xs = AllByRecursion (λ x. IsSome (rest_behind base x.path)) xs
