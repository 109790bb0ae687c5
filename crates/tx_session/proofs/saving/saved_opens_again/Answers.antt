use Rattle.tx_session.proofs.Saved.{opens_alone, reads_again}
use Rattle.tx_session.proofs.saving.saved_opens_again.Goals as goal

pub returns : goal.returns
returns c =
    record {
      read = λ told word bytes t formed within e held. reads_again told word bytes t formed within e held;
      alone = λ words told width height word bytes t o formed within e asked held comes decided.
          opens_alone told word bytes t formed within e held c.one_outcome.ensures words width height o asked comes
          decided;
    }
