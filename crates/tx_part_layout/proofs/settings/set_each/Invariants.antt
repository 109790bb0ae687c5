use Rattle.std.proofs.Common.{◌≡◌, drop}
use Rattle.tx_part_items.specs.ShownParts.{settings_set}
use Rattle.tx_part_layout.proofs.settings.set_each.Given as goal

abbrev pub invariant-loop-name : goal.invariant-loop-name
invariant-loop-name l =
    settings_set (drop l.name-index l.settings) l.attrs ≡ settings_set l.settings l.fn.attrs
