use Rattle.std.proofs.Common.{◌≡◌, drop}
use Rattle.tx_exec.specs.States.{before_of}
use Rattle.tx_walk.specs.LayerTraces.{holds_in}
use Rattle.tx_walk.proofs.layer_traces.found_layer.Given as goal

abbrev pub invariant-loop-i : goal.invariant-loop-i
invariant-loop-i l =
    holds_in l.all l.t (before_of l.env) ≡ holds_in (drop l.i l.all) l.t (before_of l.env)
