use Rattle.std.proofs.Common.{◌≡◌, take, Some, []}
use Rattle.tx_tree.specs.PathScan.{start, path_state, path_run}
use Rattle.tx_tree.proofs.paths.Path.parse.Given as goal

abbrev pub invariant-loop-i : goal.invariant-loop-i
invariant-loop-i l = path_run (Some (start [])) (take l.i l.bytes) ≡ Some (path_state l.path l.place)
