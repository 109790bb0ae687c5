use Rattle.std.proofs.Common.{get_or, drop, ◌∙◌, refl, sym, arith}
use Rattle.tx_scm.specs.Kinds.{kind_of}
use Rattle.tx_scm.specs.States.{state_of, opens_of}
use Rattle.tx_scm.proofs.Runs.{at_end}
use Rattle.tx_scm.proofs.Sizing.{too_large}
use Rattle.tx_scm.proofs.Making.{made_most, made_so_far, made_next}
use Rattle.tx_scm.proofs.Tokens.{tree_standing}
use Rattle.tx_scm.proofs.reader.read_all.Goals as goal

pub returns-in_err-take-clause-made : goal.returns-in_err-take-clause-made
returns-in_err-take-clause-made g c = λ t spelled.
    made_next c.args.steps.now t c.args.bytes.now spelled (state_of c.loop-at.reader) c.loop-at.at c.loop-at.steps
    c.loop-at.invariant.led c.loop-at.invariant.counted (kind_of (get_or c.args.bytes.now c.loop-at.at 0))
    c.take.new.steps c.loop-at-test.true refl c.take.ensures.made

pub returns-in-None-clause-made : goal.returns-in-None-clause-made
returns-in-None-clause-made g c = λ t spelled.
    made_next c.args.steps.now t c.args.bytes.now spelled (state_of c.loop-at.reader) c.loop-at.at c.loop-at.steps
    c.loop-at.invariant.led c.loop-at.invariant.counted (kind_of (get_or c.args.bytes.now c.loop-at.at 0))
    c.take.new.steps c.loop-at-test.true refl c.take.ensures.made

pub returns-then-reader-most-clause-found : goal.returns-then-reader-most-clause-found
returns-then-reader-most-clause-found g c =
    too_large c.args.bytes.now (drop c.in-Some.end c.args.bytes.now) (state_of c.take.new.self) c.take.new.self.size
    ((rw c.in-Some.is at c.in_ok-take.ensures.sized) c.loop-at.invariant.sized) (omega (arith, c.if-reader-most.true))
    (c.loop-at.invariant.same ∙ (rw c.in-Some.is at c.in_ok-take.ensures.next).same)

pub returns-then-reader-most-clause-made : goal.returns-then-reader-most-clause-made
returns-then-reader-most-clause-made g c = λ t spelled.
    made_so_far c.args.steps.now t c.args.bytes.now spelled (state_of c.take.new.self) c.in-Some.end c.take.new.steps
    (c.loop-at.invariant.led ∙ (rw c.in-Some.is at c.in_ok-take.ensures.next).led)
    ((rw c.in-Some.is at c.in_ok-take.ensures.counted) c.args.steps.now c.loop-at.invariant.counted)

pub loop-at-preserved : goal.loop-at-preserved
loop-at-preserved g c =
    let gone = rw c.in-Some.is at c.in_ok-take.ensures.next in
    record {
      same = c.loop-at.invariant.same ∙ gone.same;
      led = c.loop-at.invariant.led ∙ gone.led;
      counted = (rw c.in-Some.is at c.in_ok-take.ensures.counted) c.args.steps.now c.loop-at.invariant.counted;
      sized = (rw c.in-Some.is at c.in_ok-take.ensures.sized) c.loop-at.invariant.sized;
      small = omega (arith, c.if-reader-most.false);
      within = gone.there;
      bounded = omega (
        arith,
        c.loop-at.invariant.bounded,
        c.take.ensures.made,
        made_most (state_of c.loop-at.reader) (kind_of (get_or c.args.bytes.now c.loop-at.at 0)),
        gone.later,
      );
      rises = omega (arith, c.loop-at.invariant.rises, c.take.ensures.rises);
    }

pub returns-clause-found : goal.returns-clause-found
returns-clause-found g c =
    tree_standing c.loop-at.reader.whole (opens_of c.loop-at.reader.brackets.items)
    ∙ sym (c.loop-at.invariant.same
    ∙ at_end (state_of c.loop-at.reader) c.args.bytes.now c.loop-at.at c.loop-at-test.false)

pub returns-clause-made : goal.returns-clause-made
returns-clause-made g c = λ t spelled.
    made_so_far c.args.steps.now t c.args.bytes.now spelled (state_of c.loop-at.reader) c.loop-at.at c.loop-at.steps
    c.loop-at.invariant.led c.loop-at.invariant.counted
