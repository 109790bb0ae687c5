use Rattle.std.proofs.Common.{◌≡◌, ◌≤◌, false, refl, arith}
use Rattle.tx_tree.specs.Cuts.{is_cut}
use Rattle.tx_edit.proofs.Backwards.{symbol_last, symbol_inside, symbol_goes_on, further_front, further_begins}
use Rattle.tx_edit.proofs.keys.symbol_start.Goals as goal

pub loop-start-init : goal.loop-start-init
loop-start-init c = record {
  here = refl;
  within = omega arith;
  begins = symbol_last c.args.text.now c.args.last c.bytes-bytes.ensures.text c.requires.within c.requires.symbol
      c.requires.end;
}

pub overflow_sub-start : goal.overflow_sub-start
overflow_sub-start c =
    symbol_goes_on c.args.text.now c.loop-start.start c.loop-start.invariant.begins
    (rw c.bytes-bytes.ensures.bytes at c.loop-start-test.true)

pub loop-start-smaller : goal.loop-start-smaller
loop-start-smaller c =
    omega (
      arith,
      symbol_goes_on c.args.text.now c.loop-start.start c.loop-start.invariant.begins
          (rw c.bytes-bytes.ensures.bytes at c.loop-start-test.true),
    )

pub loop-start-preserved : goal.loop-start-preserved
loop-start-preserved c =
    let none : is_cut c.args.text.now c.loop-start.start ≡ false =
    symbol_inside c.args.text.now c.loop-start.start c.loop-start.invariant.begins
    (rw c.bytes-bytes.ensures.bytes at c.loop-start-test.true) in
    let le : 1 ≤ c.loop-start.start =
    symbol_goes_on c.args.text.now c.loop-start.start c.loop-start.invariant.begins
    (rw c.bytes-bytes.ensures.bytes at c.loop-start-test.true) in
    record {
      here = further_front c.args.text.now c.args.last c.loop-start.start c.loop-start.invariant.here none le;
      within = omega arith;
      begins = further_begins c.args.text.now c.loop-start.start c.bytes-bytes.ensures.text (omega arith) none le;
    }
