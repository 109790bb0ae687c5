use Rattle.std.proofs.Common.{◌+◌, [], ◌∙◌, sym, subst, arith}
use Rattle.tx_tree.specs.WideTree.{leaf}
use Rattle.tx_scm.specs.Machine.{texting, put_tree}
use Rattle.tx_scm.specs.States.{GoesTo}
use Rattle.tx_scm.proofs.Runs.{at_end}
use Rattle.tx_scm.proofs.Tokens.{no_text, text_ends}
use Rattle.tx_scm.proofs.strings.string_text.Goals as goal

pub returns-in-None : goal.returns-in-None
returns-in-None c = λ opens.
    c.loop-end.invariant.same opens
    ∙ no_text c.args.bytes.now c.loop-end.text opens c.loop-end.end c.loop-end-test.true c.if-bytes-end-eq34.true
    (rw c.in-None.is at c.in_ok-finish.ensures)

pub returns-in-Some : goal.returns-in-Some
returns-in-Some c = λ opens.
    let ended = rw c.in-Some.is at c.in_ok-finish.ensures in
    let behind = text_ends c.args.bytes.now c.loop-end.text opens c.loop-end.end c.loop-end-test.true
    c.if-bytes-end-eq34.true ended.0 in
    subst (λ t. GoesTo c.args.bytes.now (texting [] opens) c.args.at (put_tree (leaf t) opens) (c.loop-end.end + 1))
    (sym ended.1)
    (record {
      later = omega (arith, c.loop-end.invariant.later);
      there = behind.there;
      same = c.loop-end.invariant.same opens ∙ behind.same;
      led = c.loop-end.invariant.led opens ∙ behind.led;
    })

pub returns-in-None-2 : goal.returns-in-None-2
returns-in-None-2 c = λ opens.
    c.loop-end.invariant.same opens ∙ (rw c.in-None-2.is at c.in_ok-string_part.ensures.next opens)

pub loop-end-smaller : goal.loop-end-smaller
loop-end-smaller c =
    let gone = rw c.in-Some-2.is at c.in_ok-string_part.ensures.next [] in
    omega (arith, gone.later, gone.there)

pub loop-end-preserved : goal.loop-end-preserved
loop-end-preserved c =
    let gone = rw c.in-Some-2.is at c.in_ok-string_part.ensures.next [] in
    record {
      later = omega (arith, c.loop-end.invariant.later, gone.later);
      there = gone.there;
      same = λ opens.
          c.loop-end.invariant.same opens ∙ (rw c.in-Some-2.is at c.in_ok-string_part.ensures.next opens).same;
      led = λ opens.
          c.loop-end.invariant.led opens ∙ (rw c.in-Some-2.is at c.in_ok-string_part.ensures.next opens).led;
    }

pub returns : goal.returns
returns c = λ opens.
    c.loop-end.invariant.same opens
    ∙ at_end (texting c.loop-end.text opens) c.args.bytes.now c.loop-end.end c.loop-end-test.false
