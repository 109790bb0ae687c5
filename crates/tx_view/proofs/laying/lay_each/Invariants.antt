use Rattle.std.proofs.Common.{◌≡◌}
use Rattle.tx_view_form.specs.Outcomes.{beginning}
use Rattle.tx_view_form.specs.Started.{attributes_of}
use Rattle.tx_bridge.specs.Entries.{units_of}
use Rattle.tx_view.specs.Laid.{laid_in, ArePartlyLaid}
use Rattle.tx_view.specs.Stores.{attributes_from}
use Rattle.tx_view.proofs.Onward.{Onward}
use Rattle.tx_view.proofs.laying.lay_each.Given as goal

abbrev pub invariant-loop-i : goal.invariant-loop-i
invariant-loop-i g l = record {
  onward : Onward l.width l.bridges l.fn.units l.units l.i l.moment l.items l.fn.steps l.steps;
  attributes : l.attrs ≡ attributes_of l.moment.env;
  still :
      ArePartlyLaid (laid_in l.fn.units) (attributes_from beginning (units_of l.bridges.kept)) (laid_in l.units);
}
