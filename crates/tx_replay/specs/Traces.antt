-- The trace of a part as it is cached.
use Rattle.std.specs.Prelude.{◌≡◌, ℕ, Option, IfSome, refl}
use Rattle.std.specs.List.{IsDistinct}
use Rattle.std.specs.Map.{keys_of}
use Rattle.std.specs.Str.{bytes_eq}
use Rattle.std.specs.Coded.{Coded, code_by, coded×, coded_ℕ}
use Rattle.tx_env.specs.Environments.{NameMap, coded_NameMap}
use Rattle.tx_origin.specs.Values.{WideValue, coded_WideValue}
use Rattle.tx_origin.specs.Under.{value_under}
use Rattle.tx_exec_form.specs.Maps.{LookMap}
use Rattle.tx_exec_form.specs.Evaluated.{WideTrace}
use Rattle.tx_exec.specs.declared.outcome.Trace.{Trace}
use Rattle.tx_replay.specs.Going.{coded_looks}
use Rattle.tx_replay.specs.declared.part_trace.Placed.{Placed}

-- no name occurs twice in the looks, and none in the writes
abbrev pub AreOnce : Trace → Type 0
AreOnce trace = IsDistinct bytes_eq (keys_of trace.looks) × IsDistinct bytes_eq (keys_of trace.writes)

-- No name occurs twice, and the value at hand is the trace's with its origins under a path.
pub record IsPartTrace (trace : Trace) (placed : Option Placed) : Type 0 where
  pub once : AreOnce trace
  pub is_placed : IfSome placed (λ p. p.value ≡ value_under p.path trace.value)

-- the code by which proofs tell them apart
abbrev pub coded_trace : Coded WideTrace
coded_trace =
    code_by (WideValue × (LookMap × (NameMap × (ℕ × ℕ))))
    (coded× coded_WideValue (coded× coded_looks (coded× coded_NameMap (coded× coded_ℕ coded_ℕ))))
    (λ t. (t.value, (t.looks, (t.writes, (t.cost, t.height)))))
    (λ p. record { value = p.0; looks = p.1.0; writes = p.1.1.0; cost = p.1.1.1.0; height = p.1.1.1.1 }) (λ _. refl)
