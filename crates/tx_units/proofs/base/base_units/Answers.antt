use Rattle.tx_units.specs.BaseStyle.{base_style}
use Rattle.tx_units.specs.Units.{base_units}
use Rattle.tx_units.proofs.Spelled.{base_spelled, base_texts, base_same, when_ok}
use Rattle.tx_units.proofs.base.base_units.Goals as goal

pub spelled_units-requires : goal.spelled_units-requires
unfolding base_style
spelled_units-requires g c = base_spelled

pub returns-clause-units : goal.returns-clause-units
unfolding base_style
returns-clause-units g c = when_ok c.spelled_units.result base_same c.spelled_units.ensures.ok

pub returns-clause-counted : goal.returns-clause-counted
unfolding base_style
returns-clause-counted g c = c.spelled_units.ensures.made base_units base_texts
