use Rattle.std.proofs.Common.{◌≡◌, ◌≤◌, take, drop, length}
use Rattle.tx_terminal.specs.Emulators.{without_last_blanks}
use Rattle.tx_terminal.proofs.emulator.trim.Given as goal

-- From the end on there are blanks alone.
abbrev pub invariant-loop-end : goal.invariant-loop-end
invariant-loop-end l = record {
  above : l.start ≤ l.end;
  within : l.end ≤ length l.out.items;
  same : without_last_blanks (drop l.start (take l.end l.out.items)) ≡ without_last_blanks (drop l.start l.out.items);
}

abbrev pub decreases-loop-end : goal.decreases-loop-end
decreases-loop-end l = l.end
