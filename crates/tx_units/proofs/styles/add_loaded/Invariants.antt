use Rattle.std.proofs.Common.{◌≡◌, ◌++◌, map, take}
use Rattle.tx_units.specs.Units.{unit}
use Rattle.tx_units.specs.declared.kinds.UnitKind.TheVariants.{Style}
use Rattle.tx_units.proofs.styles.add_loaded.Given as goal

abbrev pub invariant-loop-paragraph : goal.invariant-loop-paragraph
invariant-loop-paragraph l = l.units.items ≡ l.fn.units.items ++ map (unit (Style l.k)) (take l.paragraph-index l.all)
