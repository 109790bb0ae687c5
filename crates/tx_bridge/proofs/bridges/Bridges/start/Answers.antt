use Rattle.std.proofs.Common.{subst, sym, rules}
use Rattle.tx_bridge.specs.UnitLists.{AreUnits}
use Rattle.tx_bridge.specs.Names.{EmptyTraces, EmptyParts}
use Rattle.tx_bridge.proofs.Arrived.{started}
use Rattle.tx_bridge.proofs.Aside.{none_aside, none_tidy}
use Rattle.tx_bridge.proofs.bridges.Bridges.start.Goals as goal

pub invariant_of-result : goal.invariant_of-result
invariant_of-result c = record {
  sound =
      (started c.in_ok-bridges_of.field-0.items c.args.units.items c.in_ok-bridges_of.ensures
      c.requires.units.placed).0;
  units =
      subst AreUnits
      (sym (started c.in_ok-bridges_of.field-0.items c.args.units.items c.in_ok-bridges_of.ensures
      c.requires.units.placed).2) c.requires.units;
  settled = λ e. cc;
  strays = none_aside _ c.new.result.items (search rules);
  tidy = none_tidy c.new.result.items (search rules);
}

pub returns-clause-empty : goal.returns-clause-empty
unfolding EmptyTraces
returns-clause-empty c =
    (started c.in_ok-bridges_of.field-0.items c.args.units.items c.in_ok-bridges_of.ensures c.requires.units.placed).1

pub returns-clause-units : goal.returns-clause-units
returns-clause-units c =
    (started c.in_ok-bridges_of.field-0.items c.args.units.items c.in_ok-bridges_of.ensures c.requires.units.placed).2

pub returns-clause-sources : goal.returns-clause-sources
returns-clause-sources c =
    (started c.in_ok-bridges_of.field-0.items c.args.units.items c.in_ok-bridges_of.ensures c.requires.units.placed).3

pub returns-clause-parts : goal.returns-clause-parts
unfolding EmptyParts
returns-clause-parts c =
    (started c.in_ok-bridges_of.field-0.items c.args.units.items c.in_ok-bridges_of.ensures c.requires.units.placed).4
