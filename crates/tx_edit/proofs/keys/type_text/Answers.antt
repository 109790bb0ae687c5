use Rattle.std.proofs.Common.{rules}
use Rattle.tx_edit.proofs.Following.{typed_follows}
use Rattle.tx_edit.proofs.keys.type_text.Goals as goal

pub returns-clause-applies : goal.returns-clause-applies
returns-clause-applies c =
    (typed_follows c.args.t.now c.args.cursor.now c.args.text.now c.in_ok-edit.field-0 c.size-size.ensures.well_formed
    c.bytes.ensures.text c.requires (search rules)).applies

pub returns-clause-moved : goal.returns-clause-moved
returns-clause-moved c =
    (typed_follows c.args.t.now c.args.cursor.now c.args.text.now c.in_ok-edit.field-0 c.size-size.ensures.well_formed
    c.bytes.ensures.text c.requires (search rules)).moved

pub returns-clause-place : goal.returns-clause-place
returns-clause-place c =
    (typed_follows c.args.t.now c.args.cursor.now c.args.text.now c.in_ok-edit.field-0 c.size-size.ensures.well_formed
    c.bytes.ensures.text c.requires (search rules)).place
