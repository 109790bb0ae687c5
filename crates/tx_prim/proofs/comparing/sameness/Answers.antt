use Rattle.tx_prim.proofs.Sames.{same_told, differ_told}
use Rattle.tx_prim.proofs.comparing.sameness.Goals as goal

pub returns-then-wanted : goal.returns-then-wanted
returns-then-wanted c =
    same_told c.args.wanted c.args.operands.now c.a-item.result c.b-item.result c.same-same.result c.if-wanted.true
    c.in-len2.len_at_least c.in-len2.len_below c.a-item.is c.b-item.is c.same-same.ensures

pub returns-else-wanted : goal.returns-else-wanted
returns-else-wanted c =
    differ_told c.args.wanted c.args.operands.now c.a-item.result c.b-item.result c.same-same.result c.if-wanted.false
    c.in-len2.len_at_least c.in-len2.len_below c.a-item.is c.b-item.is c.same-same.ensures
