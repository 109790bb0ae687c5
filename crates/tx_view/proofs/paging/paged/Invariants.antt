use Rattle.std.proofs.Common.{take}
use Rattle.tx_layout.specs.Told.{HasTold}
use Rattle.tx_view_form.specs.Views.{lines_of}
use Rattle.tx_view.specs.Units.{unit_views}
use Rattle.tx_view.proofs.paging.paged.Given as goal

abbrev pub invariant-loop-unit : goal.invariant-loop-unit
invariant-loop-unit l = HasTold (lines_of (unit_views (take l.unit-index l.units))) l.height l.paginator
