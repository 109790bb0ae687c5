-- Maps of a part, combined with those of what was done before it.
use Rattle.std.specs.Prelude.{not, ◌++◌}
use Rattle.std.specs.Option.{option_or}
use Rattle.std.specs.FinMap.{entries, get, contains_key, retain_keys, from_entries}
use Rattle.tx_env.specs.Environments.{NameMap}
use Rattle.tx_exec_form.specs.Maps.{Map, LookMap}
use Rattle.tx_exec_form.specs.Runs.{Before}

-- both maps: where both have a name, the first counts
unfoldable pub atop : {X : Type 0} → Map X → Map X → Map X
atop over below = from_entries (entries over ++ entries below)

-- what names have once these are set
abbrev pub env_atop : NameMap → Before → Before
env_atop own e x = option_or (get own x) (e x)

-- the second map at the names that the first doesn't have
unfoldable pub past : {X : Type 0} → NameMap → Map X → Map X
past own m = retain_keys m (λ x. not (contains_key own x))

-- The looks of two evaluations in order: those of the first, which has set `own`, and those of the second at names that
-- the first hasn't set.
abbrev pub both_looks : LookMap → NameMap → LookMap → LookMap
both_looks looks own more = atop looks (past own more)
