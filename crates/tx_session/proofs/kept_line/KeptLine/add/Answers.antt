use Rattle.std.proofs.Common.{ℕ, List, length, ◌≤◌, sym, ◌∙◌, arith}
use Rattle.std.proofs.lemmas.Grind.{common_steps}
use Rattle.tx_session.proofs.KeptLines.{returned_next, front_next, front_full, short_line, err_anyway}
use Rattle.tx_session.specs.Keeping.{KeepsLine}
use Rattle.tx_session.proofs.kept_line.KeptLine.add.Goals as goal

pub returns-then-len-gt-MOST_LINE-clause-kept : goal.returns-then-len-gt-MOST_LINE-clause-kept
returns-then-len-gt-MOST_LINE-clause-kept c =
    λ bytes k. record {
      front = front_full bytes c.args.self.now.front.items c.args.byte 1048576 k.front
          (omega (arith, c.len.ensures, c.if-len-gt-MOST_LINE.true));
      count = grind (arith, common_steps, k.count);
      returned =
          sym (returned_next bytes _);
    }

pub returns-clause-kept : goal.returns-clause-kept
returns-clause-kept c =
    λ bytes k. record {
      front = c.in_ok-push.ensures.items
          ∙ front_next bytes c.args.self.now.front.items c.args.byte 1048576 k.front
          (omega (arith, c.len.ensures, c.if-len-gt-MOST_LINE.false));
      count =
          grind (arith, common_steps, k.count);
      returned = sym (returned_next bytes _);
    }

pub returns-in_err-push-clause-short : goal.returns-in_err-push-clause-short
returns-in_err-push-clause-short c =
    err_anyway c.from_residual.result ((bytes : List ℕ) → KeepsLine c.args.self.now bytes → length bytes ≤ 1048576)
    (λ bytes k. short_line bytes c.args.self.now.front.items 1048576 k.front
    (omega (arith, c.len.ensures, c.if-len-gt-MOST_LINE.false)))
