use Rattle.std.proofs.Common.{◌≡◌, ◌-◌, drop, length}
use Rattle.tx_part_items.specs.ShownParts.{settings_given_back}
use Rattle.tx_part_layout.proofs.settings.restore_each.Given as goal

abbrev pub invariant-loop-i : goal.invariant-loop-i
invariant-loop-i l =
    l.attrs ≡ settings_given_back (drop (length l.settings - l.i) l.settings) l.before l.fn.attrs
