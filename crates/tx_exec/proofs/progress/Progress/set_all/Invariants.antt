use Rattle.std.proofs.Common.{◌≡◌, take}
use Rattle.tx_exec_form.specs.Runs.{Before, Done}
use Rattle.tx_exec_form.specs.Rows.{set_all}
use Rattle.tx_exec.specs.Settings.{held_of}
use Rattle.tx_exec.specs.States.{state_of}
use Rattle.tx_exec.proofs.progress.Progress.set_all.Given as goal

abbrev pub invariant-loop-held : goal.invariant-loop-held
invariant-loop-held l = record {
  run : (e : Before) → set_all (held_of (take l.held-index l.names)) e (state_of l.fn.self) ≡ Done tt (state_of l.self);
  left : l.self.left ≡ l.fn.self.left;
}
