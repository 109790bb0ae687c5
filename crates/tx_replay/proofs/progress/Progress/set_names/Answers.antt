use Rattle.tx_replay.proofs.HeldNames.{names_done}
use Rattle.tx_replay.proofs.progress.Progress.set_names.Goals as goal

pub returns-clause-gives : goal.returns-clause-gives
returns-clause-gives c = λ e.
    names_done c.args.pairs.now e c.args.self.now.state c.set_all.new.self.state c.in_ok-held.held.items
    c.in_ok-held.ensures.kept c.in_ok-set_all.ensures.state
