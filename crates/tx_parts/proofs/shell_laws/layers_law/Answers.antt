use Rattle.tx_parts.proofs.Opened.{layers_are, in_part, in_bounded}
use Rattle.tx_parts.proofs.Fitting.{in_agrees, in_again, values_there}
use Rattle.tx_parts.proofs.shell_laws.layers_law.Goals as goal

pub returns : goal.returns
returns c = record {
  inner = layers_are;
  part = in_part;
  cost = λ k ls i c t e trace h. (in_bounded k ls i c t e trace h).0;
  height = λ k ls i c t e trace h. (in_bounded k ls i c t e trace h).1;
  agrees = in_agrees;
  again = in_again;
  same_values = values_there;
}
