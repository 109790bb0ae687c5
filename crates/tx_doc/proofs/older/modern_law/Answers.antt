use Rattle.tx_doc.proofs.WithoutCalls.{modern_again, modern_formed, modern_within}
use Rattle.tx_doc.proofs.older.modern_law.Goals as goal

pub returns : goal.returns
returns c =
    record {
      again = modern_again c.args.t.now;
      well_formed = modern_formed c.args.t.now c.size-size.ensures.well_formed;
      within = modern_within c.args.t.now c.size-size.ensures.within;
    }
