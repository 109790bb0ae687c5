-- What is cached agrees with itself: no looks disagree with what the cached traces before them set.
use Rattle.std.specs.Prelude.{◌≡◌, true, [], ◌∷◌, Option, Some, None}
use Rattle.std.specs.FinMap.{get}
use Rattle.tx_env.specs.Environments.{NameMap}
use Rattle.tx_exec_form.specs.Evaluated.{WideTrace}
use Rattle.tx_view_form.specs.Outcomes.{env_behind}
use Rattle.tx_bridge.specs.Entries.{Kept}
use Rattle.tx_walk.specs.Held.{agrees}

-- the looks, if a trace is cached, agree with what names have
abbrev pub AgreesWith : NameMap → Option WideTrace → Type 0
AgreesWith env None = Unit {0}
AgreesWith env (Some trace) = agrees (get env) trace.looks ≡ true

-- Each trace's looks agree with what names have before it, where names have this before the first unit. A unit of which
-- nothing is cached sets none.
abbrev pub AreSettled : NameMap → Kept → Type 0
AreSettled env [] = Unit {0}
AreSettled env (e ∷ es) = AgreesWith env e.trace × AreSettled (env_behind env e.trace) es

-- it sets no name
abbrev pub IsSilent : Option WideTrace → Type 0
IsSilent o = (env : NameMap) → env_behind env o ≡ env
