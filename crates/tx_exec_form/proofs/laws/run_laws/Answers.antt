use Rattle.tx_exec_form.proofs.RunFraming.{of_none, supports, over, over_is_past, past_is_over, agrees, allowed, small}
use Rattle.tx_exec_form.proofs.laws.run_laws.Goals as goal

pub returns : goal.returns
returns c =
    record {
      nothing = of_none;
      supports = supports;
      over = over;
      exactly = λ f k c ts e. (over_is_past f k c ts e, past_is_over f k c ts e);
      agrees = agrees;
      cost = λ f k c ts e trace h. (allowed f k c ts e trace h).0;
      height = λ f k c ts e trace h. (allowed f k c ts e trace h).1;
      size = λ f k c ts e trace h. (small f k c ts e trace h).0;
      depth = λ f k c ts e trace h. (small f k c ts e trace h).1;
    }
