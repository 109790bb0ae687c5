use Rattle.tx_parts.proofs.Maps.{looks_nothing, both_set, both_unset}
use Rattle.tx_parts.proofs.PartRuns.{both_agree, before_fits, part_fits}
use Rattle.tx_parts.proofs.Pairing.{look_more}
use Rattle.tx_parts.proofs.laws.looks_law.Goals as goal

pub returns : goal.returns
returns c =
    record {
      both = both_agree;
      first = before_fits;
      second = part_fits;
      nothing = λ own looks. looks_nothing looks own;
      at_set = λ own looks more x t found. both_set looks own more x t found;
      at_unset = λ own looks more x found. both_unset looks own more x found;
      more = look_more;
    }
