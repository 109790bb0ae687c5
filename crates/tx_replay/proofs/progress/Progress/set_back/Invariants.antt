use Rattle.std.proofs.Common.{◌≡◌, take}
use Rattle.tx_exec_form.specs.Runs.{Before, Done}
use Rattle.tx_exec_form.specs.Rows.{set_all}
use Rattle.tx_replay.specs.Holding.{held_of}
use Rattle.tx_replay.proofs.progress.Progress.set_back.Given as goal

abbrev pub invariant-loop-one : goal.invariant-loop-one
invariant-loop-one l = record {
  run : (e : Before) → set_all (held_of (take l.one-index l.held)) e l.fn.self.state ≡ Done tt l.self.state;
  left : l.self.state.left ≡ l.fn.self.state.left;
  slack : l.self.state.slack ≡ l.fn.self.state.slack;
  scopes : l.self.scopes ≡ l.fn.self.scopes;
}
