use Rattle.std.proofs.Common.{◌≡◌, take}
use Rattle.tx_env.specs.Changes.{map_of}
use Rattle.tx_exec_form.specs.Rows.{kept_of}
use Rattle.tx_exec.specs.Settings.{held_of}
use Rattle.tx_exec.proofs.progress.Progress.kept.Given as goal

abbrev pub invariant-loop-held : goal.invariant-loop-held
invariant-loop-held l = held_of l.kept.items ≡ kept_of (held_of (take l.held-index l.names)) (map_of l.fn.self.own)
