use Rattle.tx_replay.proofs.Stepping.{listed_again, put_pair, pair_again}
use Rattle.tx_replay.proofs.progress.put_both.Goals as goal

pub put_back-requires : goal.put_back-requires
put_back-requires c =
    listed_again c.args.name c.in_ok-copy.field-0 c.in_ok-again.again c.args.tree c.args.own.now c.put.new.self
    c.in_ok-put.ensures.ok c.in_ok-copy.ensures c.in_ok-again.ensures

pub returns-in-Ok-clause-own : goal.returns-in-Ok-clause-own
returns-in-Ok-clause-own c =
    put_pair c.args.name c.in_ok-copy.field-0 c.args.tree c.args.own.now c.put.new.self c.in_ok-put.ensures.ok
    c.in_ok-copy.ensures

pub returns-in-Err-clause-own_err : goal.returns-in-Err-clause-own_err
returns-in-Err-clause-own_err c =
    pair_again c.args.name c.in_ok-copy.field-0 c.in_ok-again.again c.args.tree c.in_ok-before.before c.args.own.now
    c.put.new.self c.put_back.new.self c.in_ok-put.ensures.ok c.put_back.ensures c.in_ok-copy.ensures
    c.in_ok-again.ensures c.in_ok-before.ensures
