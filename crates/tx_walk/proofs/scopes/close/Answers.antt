use Rattle.std.proofs.Common.{refl}
use Rattle.tx_walk.proofs.Behind.{set_behind}
use Rattle.tx_walk.proofs.scopes.close.Goals as goal

pub returns-clause-behind : goal.returns-clause-behind
returns-clause-behind c =
    set_behind c.args.env.now.map c.set_all.new.env.map c.pairs.result.now c.in_ok-trace.trace.writes
    c.in_ok-trace.trace.writes c.in_ok-set_all.ensures.map c.pairs.ensures refl c.in_ok-trace.ensures.once.1
