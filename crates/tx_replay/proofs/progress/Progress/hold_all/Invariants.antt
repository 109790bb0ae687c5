use Rattle.std.proofs.Common.{◌≡◌, take}
use Rattle.tx_exec_form.specs.Rows.{kept_of}
use Rattle.tx_parts.specs.Layered.{as_sets}
use Rattle.tx_replay.specs.Going.{names_of}
use Rattle.tx_replay.specs.Holding.{held_of, AreHeldFor}
use Rattle.tx_replay.proofs.progress.Progress.hold_all.Given as goal

abbrev pub invariant-loop-name : goal.invariant-loop-name
invariant-loop-name l = record {
  kept : held_of l.held.items ≡ kept_of (as_sets (take l.name-index l.pairs)) l.self.state.own;
  held : AreHeldFor (names_of l.self) l.held.items;
}
