-- The trace of a unit, as it is cached.
use Rattle.std.specs.Prelude.{◌≤◌, ℕ, Option, Some, None, refl}
use Rattle.std.specs.Coded.{Coded, code_by, coded×, coded_ℕ, coded_list, coded_option}
use Rattle.std.specs.FinMap.{code}
use Rattle.std.specs.List.{IsDistinct}
use Rattle.std.specs.Map.{keys_of}
use Rattle.std.specs.Str.{bytes_eq}
use Rattle.tx_tree.specs.WideTree.{coded_WideTree}
use Rattle.tx_env.specs.Environments.{NameMap, coded_NameMap}
use Rattle.tx_origin.specs.TaggedTrees.{TaggedTree}
use Rattle.tx_origin.specs.Values.{WideValue, coded_WideValue}
use Rattle.tx_exec_form.specs.declared.TheConstants.{MOST_LEVELS}
use Rattle.tx_exec_form.specs.Evaluated.{WideTrace}
use Rattle.tx_exec_form.specs.Laws.{Supports}
use Rattle.tx_exec_form.specs.Maps.{LookMap}
use Rattle.tx_exec.specs.declared.outcome.Trace.{Trace}

-- no name occurs twice in the looks, and none in the writes
abbrev pub AreOnce : Trace → Type 0
AreOnce trace = IsDistinct bytes_eq (keys_of trace.looks) × IsDistinct bytes_eq (keys_of trace.writes)

-- The trace, if there is one, is the tree's in every environment that agrees with its looks. It needs no more levels
-- than there are.
abbrev pub TraceHolds : Option WideTrace → TaggedTree → Type 0
TraceHolds None t = Unit {0}
TraceHolds (Some trace) t = Supports trace t × (trace.height ≤ MOST_LEVELS)

-- the code by which proofs tell traces apart
abbrev pub coded_trace : Coded WideTrace
coded_trace =
    code_by (WideValue × (LookMap × (NameMap × (ℕ × ℕ))))
    (coded× coded_WideValue
    (coded× (code (coded_list coded_ℕ) (coded_option coded_WideTree)) (coded× coded_NameMap (coded× coded_ℕ coded_ℕ))))
    (λ t. (t.value, (t.looks, (t.writes, (t.cost, t.height)))))
    (λ p. record { value = p.0; looks = p.1.0; writes = p.1.1.0; cost = p.1.1.1.0; height = p.1.1.1.1 }) (λ _. refl)
