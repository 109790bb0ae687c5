use Rattle.std.proofs.Common.{◌≡◌}
use Rattle.std.specs.Prelude.{slice_get}
use Rattle.tx_origin.proofs.paths.Ip.step.Given as goal

abbrev pub invariant-loop-path : goal.invariant-loop-path
invariant-loop-path l = slice_get l.path l.i ≡ slice_get l.self l.i
