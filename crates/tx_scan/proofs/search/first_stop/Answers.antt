use Rattle.std.proofs.Common.{◌≡◌, ◌+◌, ◌∙◌, sym, arith}
use Rattle.tx_scan.specs.Stops.{first_stop_from}
use Rattle.tx_scan.proofs.SearchLemmas.{first_stop_from-in_block, first_stop_from-past_block, first_stop_from-within}
use Rattle.tx_scan.proofs.SearchLemmas.{first_stop_from-before, first_stop_from-found}
use Rattle.tx_scan.proofs.search.first_stop.Goals as goal

-- the place in a block where the loop ends is the result
in_block : (c : goal.Then-run-lt-BLOCK_SIZE)
    → c.loop-at.at + c.run_in_block-run.result ≡ first_stop_from c.args.stops.now c.args.bytes.now c.args.from
in_block c =
    sym (
    c.loop-at.invariant.2
    ∙ first_stop_from-in_block c.args.stops.now c.args.bytes.now c.loop-at.at c.run_in_block-run.result (omega arith)
    c.run_in_block-run.ensures c.if-run-lt-BLOCK_SIZE.true
    )

pub returns-then-run-lt-BLOCK_SIZE-clause-value : goal.returns-then-run-lt-BLOCK_SIZE-clause-value
returns-then-run-lt-BLOCK_SIZE-clause-value c = in_block c

pub returns-then-run-lt-BLOCK_SIZE-clause-before :
    goal.returns-then-run-lt-BLOCK_SIZE-clause-before
returns-then-run-lt-BLOCK_SIZE-clause-before c k = first_stop_from-before _ _ c.args.from _ k (in_block c)

pub returns-then-run-lt-BLOCK_SIZE-clause-found : goal.returns-then-run-lt-BLOCK_SIZE-clause-found
returns-then-run-lt-BLOCK_SIZE-clause-found c = first_stop_from-found _ _ c.args.from _ (in_block c)

pub loop-at-preserved : goal.loop-at-preserved
loop-at-preserved c = (
  omega arith,
  omega arith,
  c.loop-at.invariant.2
      ∙ first_stop_from-past_block c.args.stops.now c.args.bytes.now c.loop-at.at c.run_in_block-run.result
      (omega arith) c.run_in_block-run.ensures c.if-run-lt-BLOCK_SIZE.false,
)

pub returns-clause-within : goal.returns-clause-within
returns-clause-within c =
    first_stop_from-within c.args.stops.now c.args.bytes.now c.args.from _ c.requires
    (c.first_stop_one_by_one.ensures ∙ sym c.loop-at.invariant.2)

pub returns-clause-before : goal.returns-clause-before
returns-clause-before c k =
    first_stop_from-before _ _ c.args.from _ k (c.first_stop_one_by_one.ensures ∙ sym c.loop-at.invariant.2)

pub returns-clause-found : goal.returns-clause-found
returns-clause-found c =
    first_stop_from-found _ _ c.args.from _ (c.first_stop_one_by_one.ensures ∙ sym c.loop-at.invariant.2)
