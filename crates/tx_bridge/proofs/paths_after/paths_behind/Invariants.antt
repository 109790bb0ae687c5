use Rattle.std.proofs.Common.{◌≡◌, map, take}
use Rattle.std.specs.Prelude.{option_and_then}
use Rattle.tx_mod.specs.Moves.{carried_path}
use Rattle.tx_bridge.proofs.paths_after.paths_behind.Given as goal

abbrev pub invariant-loop-path : goal.invariant-loop-path
invariant-loop-path l = l.behind.items ≡ map (option_and_then (carried_path l.m l.t)) (take l.path-index l.paths)
