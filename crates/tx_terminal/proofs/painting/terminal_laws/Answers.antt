use Rattle.tx_terminal.proofs.Sequences.{after_both}
use Rattle.tx_terminal.proofs.painting.terminal_laws.Goals as goal

pub returns : goal.returns
returns c = record { parts = λ t xs ys. after_both xs ys t }
