use Rattle.std.proofs.Common.{arith}
use Rattle.std.proofs.lemmas.List.{drop_all}
use Rattle.tx_commute.proofs.OnWay.{list_starts, list_first, list_goes, list_stuck, list_limit, list_ends}
use Rattle.tx_commute.proofs.midway.past_list.Goals as goal

pub past_one-requires-clause-applies : goal.past_one-requires-clause-applies
past_one-requires-clause-applies g c =
    list_first c.args.mods.now c.loop-b.b-index c.args.midway c.loop-b.now c.b-item.result c.b-item.result
    c.loop-b.invariant.further (omega arith) c.b-item.is c.requires.apply

pub past_one-requires-clause-midway : goal.past_one-requires-clause-midway
past_one-requires-clause-midway g c = c.loop-b.invariant.further.midway

pub loop-b-init : goal.loop-b-init
loop-b-init g c =
    record {
      further = list_starts c.args.mods.now c.args.midway c.requires.midway;
      counted = omega arith;
    }

pub loop-b-preserved : goal.loop-b-preserved
loop-b-preserved g c =
    record {
      further = list_goes c.args.mods.now c.loop-b.b-index c.args.midway c.loop-b.now c.in-All.next c.b-item.result
          c.b-item.result c.in_ok-passed.passed c.loop-b.invariant.further (omega arith) c.b-item.is
          c.in_ok-passed.ensures.passed c.in-All.is;
      counted = omega (arith, c.loop-b.invariant.counted, c.in_ok-passed.ensures.counted);
    }

pub returns-in-Stuck-clause-passed : goal.returns-in-Stuck-clause-passed
returns-in-Stuck-clause-passed g c =
    list_stuck c.args.mods.now c.loop-b.b-index c.args.midway c.loop-b.now c.b-item.result c.b-item.result
    c.in_ok-passed.passed c.loop-b.invariant.further (omega arith) c.b-item.is c.in_ok-passed.ensures.passed
    c.in-Stuck.is

pub returns-in-Limit-clause-passed : goal.returns-in-Limit-clause-passed
returns-in-Limit-clause-passed g c =
    list_limit c.args.mods.now c.loop-b.b-index c.args.midway c.loop-b.now c.b-item.result c.b-item.result
    c.in_ok-passed.passed c.in-Limit.cause c.loop-b.invariant.further (omega arith) c.b-item.is
    c.in_ok-passed.ensures.passed c.in-Limit.is

pub returns-clause-passed : goal.returns-clause-passed
returns-clause-passed g c =
    list_ends c.args.mods.now c.loop-b.b-index c.args.midway c.loop-b.now c.loop-b.invariant.further
    (drop_all c.loop-b.b-index c.args.mods.now (omega arith))
