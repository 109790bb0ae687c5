use Rattle.std.proofs.Common.{take}
use Rattle.tx_view.specs.Laid.{AreBlank}
use Rattle.tx_view.proofs.carrying.blanks.Given as goal

abbrev pub invariant-loop-unit : goal.invariant-loop-unit
invariant-loop-unit l = AreBlank (take l.unit-index l.units) l.all.items
