use Rattle.tx_exec_form.proofs.Tracing.{supports, over, over_past, past_over, agrees, allowed}
use Rattle.tx_exec_form.proofs.laws.trace_laws.Goals as goal

pub returns : goal.returns
returns c =
    record {
      supports = supports;
      over = over;
      exactly = λ k c t e. (over_past k c t e, past_over k c t e);
      agrees =
          agrees;
      allowed = allowed;
    }
