use Rattle.std.proofs.Common.{rules, sym}
use Rattle.tx_bridge.proofs.WithinUnit.{no_rest_of, rest_of_is}
use Rattle.tx_bridge.proofs.within.rest_of.Goals as goal

pub returns-then-not-starts_with : goal.returns-then-not-starts_with
returns-then-not-starts_with c = sym (no_rest_of c.args.front.now c.args.path.now (search rules))

pub returns : goal.returns
returns c =
    let whole = rest_of_is c.args.front.now c.args.path.now (search rules) in
    search (rules, sym whole)
