use Rattle.tx_state.proofs.Restoring.{restores, runs_out, redoes, undoes, no_redo}
use Rattle.tx_state.proofs.laws.undo_law.Goals as goal

pub returns : goal.returns
returns c = record { restores = restores; no_more = runs_out; redoes = redoes; undoes = undoes; no_redo = no_redo }
