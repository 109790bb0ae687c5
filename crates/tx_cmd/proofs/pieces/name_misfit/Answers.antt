use Rattle.std.proofs.Common.{◌∙◌, sym}
use Rattle.std.proofs.lemmas.Bool.{eqb-true}
use Rattle.tx_cmd.proofs.Names.{name_stops, no_name}
use Rattle.tx_cmd.proofs.pieces.name_misfit.Goals as goal

pub returns-then-not-may_stand : goal.returns-then-not-may_stand
returns-then-not-may_stand c =
    name_stops c.args.piece.now c.loop-i.i c.loop-i-test.true c.loop-i.invariant (λ b few.
    let may = c.may_stand.ensures.1 (b, few) in
    let not_so = c.if-not-may_stand.true in
    cc)

pub returns-then-is_empty : goal.returns-then-is_empty
returns-then-is_empty c = no_name c.args.piece.now (eqb-true _ _ (sym c.is_empty.ensures ∙ c.if-is_empty.true))
