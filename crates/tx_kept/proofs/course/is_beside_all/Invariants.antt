use Rattle.std.proofs.Common.{◌≡◌, drop}
use Rattle.std.specs.Prelude.{true}
use Rattle.tx_kept.specs.Carrying.{is_beside_all}
use Rattle.tx_kept.proofs.course.is_beside_all.Given as goal

abbrev pub invariant-loop-m : goal.invariant-loop-m
invariant-loop-m l = is_beside_all (drop l.m-index l.mods) l.path ≡ true → is_beside_all l.mods l.path ≡ true
