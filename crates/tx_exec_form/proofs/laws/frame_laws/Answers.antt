use Rattle.tx_exec_form.proofs.Framing.{framed_top, supports, over, over_is_past, past_is_over, agrees, allowed, small}
use Rattle.tx_exec_form.proofs.laws.frame_laws.Goals as goal

pub returns : goal.returns
returns c =
    record {
      top = framed_top;
      supports = supports;
      over = over;
      exactly = λ f k c t e. (over_is_past f k c t e, past_is_over f k c t e);
      agrees = agrees;
      cost = λ f k c t e trace h. (allowed f k c t e trace h).0;
      height = λ f k c t e trace h. (allowed f k c t e trace h).1;
      size = λ f k c t e trace h. (small f k c t e trace h).0;
      depth = λ f k c t e trace h. (small f k c t e trace h).1;
    }
