-- A trace of the program as a trace with finite maps.
use Rattle.std.specs.Prelude.{Option, Some, None}
use Rattle.std.specs.FinMap.{from_entries}
use Rattle.std.specs.List.{IsDistinct}
use Rattle.std.specs.Map.{keys_of}
use Rattle.std.specs.Str.{bytes_eq}
use Rattle.tx_exec_form.specs.Evaluated.{WideTrace}
use Rattle.tx_exec.specs.declared.outcome.Trace.{Trace}
use Rattle.tx_exec.specs.declared.outcome.Outcome.{Outcome}
use Rattle.tx_exec.specs.declared.outcome.Outcome.TheVariants as outcomes

abbrev pub wide_trace : Trace → WideTrace
wide_trace t =
    record {
      value = t.value;
      looks = from_entries t.looks;
      writes = from_entries t.writes;
      cost = t.cost;
      height = t.height;
    }

-- None where it runs out
abbrev pub wide_outcome : Outcome → Option WideTrace
wide_outcome outcomes.Over = None
wide_outcome (outcomes.Done trace) = Some (wide_trace trace)

-- no name occurs twice in the looks, and none in the writes
abbrev pub NamesOnce : Outcome → Type 0
NamesOnce outcomes.Over = Unit {0}
NamesOnce (outcomes.Done t) = IsDistinct bytes_eq (keys_of t.looks) × IsDistinct bytes_eq (keys_of t.writes)
