use Rattle.tx_parts.proofs.Maps.{past_nothing, past_set, past_unset}
use Rattle.tx_parts.proofs.Restoring.{first_looks}
use Rattle.tx_parts.proofs.laws.past_law.Goals as goal

pub returns : goal.returns
returns c =
    record {
      looks = first_looks;
      nothing = past_nothing;
      at_set = past_set;
      at_unset = past_unset;
    }
