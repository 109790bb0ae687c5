use Rattle.std.proofs.Common.{◌≡◌, drop}
use Rattle.tx_walk.proofs.Once.{found}
use Rattle.tx_walk.proofs.layer_traces.has_look.Given as goal

abbrev pub invariant-loop-pair : goal.invariant-loop-pair
invariant-loop-pair l = found l.look.0 l.looks ≡ found l.look.0 (drop l.pair-index l.looks)
