use Rattle.std.proofs.Common.{◌≡◌, Ok, rules}
use Rattle.std.proofs.lemmas.Result.{IfOk-weaker}
use Rattle.tx_edit.specs.Followed.{Applies, IsMoved, StandsAfter}
use Rattle.tx_edit.specs.Keys.{erased}
use Rattle.tx_edit.proofs.Following.{erased_follows}
use Rattle.tx_edit.proofs.keys.backspace.Goals as goal

pub returns-then-cursor-eq0-clause-applies : goal.returns-then-cursor-eq0-clause-applies
returns-then-cursor-eq0-clause-applies c =
    IfOk-weaker c.join_to_former.result (λ m. erased c.args.t.now c.args.cursor.now ≡ Ok m)
    (λ m. Applies c.args.t.now m)
    (λ m e. (erased_follows c.args.t.now c.args.cursor.now m c.size-size.ensures.well_formed c.requires e).applies)
    (search rules)

pub returns-then-cursor-eq0-clause-moved : goal.returns-then-cursor-eq0-clause-moved
returns-then-cursor-eq0-clause-moved c =
    IfOk-weaker c.join_to_former.result (λ m. erased c.args.t.now c.args.cursor.now ≡ Ok m)
    (λ m. IsMoved c.args.t.now c.args.cursor.now m)
    (λ m e. (erased_follows c.args.t.now c.args.cursor.now m c.size-size.ensures.well_formed c.requires e).moved)
    (search rules)

pub returns-then-cursor-eq0-clause-place : goal.returns-then-cursor-eq0-clause-place
returns-then-cursor-eq0-clause-place c =
    IfOk-weaker c.join_to_former.result (λ m. erased c.args.t.now c.args.cursor.now ≡ Ok m)
    (λ m. StandsAfter c.args.t.now m)
    (λ m e. (erased_follows c.args.t.now c.args.cursor.now m c.size-size.ensures.well_formed c.requires e).place)
    (search rules)

pub returns-clause-applies : goal.returns-clause-applies
returns-clause-applies c =
    (erased_follows c.args.t.now c.args.cursor.now c.in_ok-edit.field-0 c.size-size.ensures.well_formed c.requires
    (search rules)).applies

pub returns-clause-moved : goal.returns-clause-moved
returns-clause-moved c =
    (erased_follows c.args.t.now c.args.cursor.now c.in_ok-edit.field-0 c.size-size.ensures.well_formed c.requires
    (search rules)).moved

pub returns-clause-place : goal.returns-clause-place
returns-clause-place c =
    (erased_follows c.args.t.now c.args.cursor.now c.in_ok-edit.field-0 c.size-size.ensures.well_formed c.requires
    (search rules)).place
