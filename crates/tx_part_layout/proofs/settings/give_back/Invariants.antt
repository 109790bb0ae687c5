use Rattle.std.proofs.Common.{◌≡◌, ◌-◌, drop, length}
use Rattle.tx_part_layout.specs.Laying.{given_back_by}
use Rattle.tx_part_layout.proofs.settings.give_back.Given as goal

abbrev pub invariant-loop-i : goal.invariant-loop-i
invariant-loop-i l = l.attrs ≡ given_back_by (drop (length l.frames - l.i) l.frames) l.fn.attrs
