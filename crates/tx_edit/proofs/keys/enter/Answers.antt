use Rattle.std.proofs.Common.{◌≡◌, Ok, rules}
use Rattle.std.proofs.lemmas.Result.{IfOk-weaker}
use Rattle.tx_edit.specs.Followed.{Applies, IsMoved, StandsAfter}
use Rattle.tx_edit.specs.Keys.{entered}
use Rattle.tx_edit.proofs.Following.{entered_follows}
use Rattle.tx_edit.proofs.keys.enter.Goals as goal

pub returns-clause-applies : goal.returns-clause-applies
returns-clause-applies c =
    IfOk-weaker c.split_in.result (λ m. entered c.args.t.now c.args.cursor.now ≡ Ok m) (λ m. Applies c.args.t.now m)
    (λ m e. (entered_follows c.args.t.now c.args.cursor.now m c.size-size.ensures.well_formed c.requires e).applies)
    (search rules)

pub returns-clause-moved : goal.returns-clause-moved
returns-clause-moved c =
    IfOk-weaker c.split_in.result (λ m. entered c.args.t.now c.args.cursor.now ≡ Ok m)
    (λ m. IsMoved c.args.t.now c.args.cursor.now m)
    (λ m e. (entered_follows c.args.t.now c.args.cursor.now m c.size-size.ensures.well_formed c.requires e).moved)
    (search rules)

pub returns-clause-place : goal.returns-clause-place
returns-clause-place c =
    IfOk-weaker c.split_in.result (λ m. entered c.args.t.now c.args.cursor.now ≡ Ok m) (λ m. StandsAfter c.args.t.now m)
    (λ m e. (entered_follows c.args.t.now c.args.cursor.now m c.size-size.ensures.well_formed c.requires e).place)
    (search rules)
