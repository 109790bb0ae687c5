use Rattle.std.proofs.Common.{◌≡◌, true, take}
use Rattle.std.specs.List.{list_all}
use Rattle.tx_view.specs.Laid.{placed_in}
use Rattle.tx_view.proofs.Adding.{is_laid}
use Rattle.tx_view.proofs.arriving.are_laid.Given as goal

abbrev pub invariant-loop-m : goal.invariant-loop-m
invariant-loop-m l = list_all (is_laid (placed_in l.old l.strays)) (take l.m-index l.moves) ≡ true
