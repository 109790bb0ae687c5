-- The trace of an open tree, composed of the traces of its inner trees.
use Rattle.std.specs.Prelude.{ℕ, suc, ◌+◌, ◌*◌, ◌-◌, max, nat_le, if◌then◌else◌, List, [], ◌∷◌, ◌++◌, length, map}
use Rattle.std.specs.Prelude.{Option, Some, None, option_and_then, codes}
use Rattle.std.specs.Option.{option_map}
use Rattle.std.specs.FinMap.{empty}
use Rattle.tx_tree.specs.WideTree.{WideTree, leaf}
use Rattle.tx_env.specs.Pairs.{Name}
use Rattle.tx_env.specs.Environments.{NameMap, overlaid}
use Rattle.tx_origin.specs.Values.{WideValue, text, made, vals}
use Rattle.tx_origin.specs.TaggedTrees.{TaggedTree}
use Rattle.tx_exec_form.specs.Maps.{LookMap}
use Rattle.tx_exec_form.specs.Runs.{Before}
use Rattle.tx_exec_form.specs.Evaluated.{WideTrace, evaluated_in}
use Rattle.tx_parts.specs.Atop.{atop, env_atop, past, both_looks}
use Rattle.tx_origin.specs.Under.{value_under}
use Rattle.tx_parts.specs.Openness.{Settings, Openness, Document, With, Shut}

-- a tree that is evaluated alone has an origin of its own
abbrev pub alone : WideTree → TaggedTree
alone t = record { tree = t; at = Some [] }

-- the trace of a tree with so many steps in an environment, or None where it runs out
abbrev pub Tracer : Type 0
Tracer = ℕ → WideTree → Before → Option WideTrace

-- with k levels
abbrev pub evaluates : ℕ → Tracer
evaluates k c t e = evaluated_in k c (alone t) e

-- ---- `document`

-- the values, looks and writes of children in order so far, and what they took
pub record SoFar : Type 0 where
  pub values : List WideValue
  pub looks : LookMap
  pub writes : NameMap
  pub cost : ℕ
  pub height : ℕ

abbrev pub nothing_yet : SoFar
nothing_yet = record { values = []; looks = empty; writes = empty; cost = 0; height = 0 }

-- with this trace of child i
abbrev pub with_child : ℕ → SoFar → WideTrace → SoFar
with_child i a trace = record {
  values = a.values ++ value_under (i ∷ []) trace.value ∷ [];
  looks = both_looks a.looks a.writes trace.looks;
  writes = atop trace.writes a.writes;
  cost = a.cost + trace.cost;
  height = max a.height trace.height;
}

-- The children from number i on, with c steps for all: each is evaluated alone, in the environment after those before
-- it.
abbrev pub children_from : Tracer → ℕ → ℕ → SoFar → List WideTree → Before → Option SoFar
children_from tracer c i a [] e = Some a
children_from tracer c i a (t ∷ ts) e =
    option_and_then (λ trace. children_from tracer c (i + 1) (with_child i a trace) ts e)
    (tracer (c - a.cost) t (env_atop a.writes e))

abbrev pub document_trace : SoFar → WideTrace
document_trace a = record {
  value = made (codes "document") (vals a.values) (Some []);
  looks = a.looks;
  writes = a.writes;
  cost = 1 + a.cost;
  height = 1 + a.height;
}

-- ---- `with`

-- the names with what the settings give them
abbrev pub setting_pairs : Settings → List (Name × WideTree)
setting_pairs ps = map (λ p. (p.0, leaf p.1)) ps

-- what the settings set
abbrev pub set_by : Settings → NameMap
set_by ps = overlaid empty (setting_pairs ps)

-- both texts are evaluated, and the second is stored
abbrev pub settings_cost : Settings → ℕ
settings_cost [] = 0
settings_cost (p ∷ ps) = (1 + length p.0) + (1 + length p.1) + (1 + length p.1) + settings_cost ps

-- their values, which are the children from number i on
abbrev pub setting_values : ℕ → Settings → List WideValue
setting_values i [] = []
setting_values i (p ∷ ps) =
    text p.0 (Some (i ∷ [])) ∷ text p.1 (Some ((i + 1) ∷ [])) ∷ setting_values (i + 2) ps

-- The inner tree's looks and writes at the names of the settings are not those of the whole.
abbrev pub with_trace : Settings → WideTrace → WideTrace
with_trace ps trace = record {
  value =
      made (codes "with") (vals (setting_values 0 ps ++ value_under ((2 * length ps) ∷ []) trace.value ∷ [])) (Some []);
  looks = past (set_by ps) trace.looks;
  writes = past (set_by ps) trace.writes;
  cost = 1 + settings_cost ps + trace.cost;
  height = 1 + trace.height;
}

-- ---- nested

-- the trace of a tree by its form, where the inner trees have k of `suc k` levels
abbrev pub composed_as : Openness → ℕ → Tracer → Tracer
composed_as (Document ts) k tracer c t e =
    if nat_le 1 c then option_map document_trace (children_from tracer (c - 1) 0 nothing_yet ts e) else None
composed_as (With ps b) k tracer c t e =
    if nat_le (1 + settings_cost ps) c
    then option_map (with_trace ps) (tracer (c - (1 + settings_cost ps)) b (env_atop (set_by ps) e))
    else None
composed_as Shut k tracer c t e = evaluates (suc k) c t e
