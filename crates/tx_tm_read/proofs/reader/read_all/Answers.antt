use Rattle.std.proofs.Common.{◌∙◌, sym, ap, arith, length}
use Rattle.std.proofs.lemmas.Bool.{eqb-true}
use Rattle.std.proofs.lemmas.List.{length-drop}
use Rattle.tx_tm_form.specs.Machine.{run, keep}
use Rattle.tx_tm_read.specs.Readers.{byte_machine}
use Rattle.tx_tm_read.proofs.Running.{run_on, none_on, over, nothing_left, rest_is}
use Rattle.tx_tm_read.proofs.reader.read_all.Goals as goal

pub returns-in-None-clause-found : goal.returns-in-None-clause-found
returns-in-None-clause-found g c =
    let a = rw c.in-None.is at c.in_ok-advance.ensures.next in
    none_on (byte_machine c.bytes.reader) a.0 c.bytes.rest.now c.args.bytes.now c.bytes.invariant.going a.1

pub bytes-preserved : goal.bytes-preserved
bytes-preserved g c =
    let a = rw c.in-Some.is at c.in_ok-advance.ensures.next in
    let n = rw c.in-Some.is at c.in_ok-advance.ensures.counted in
    let paid = rw c.in-Some.is at c.in_ok-advance.ensures.paid in
    record {
      going = ap (run keep (byte_machine c.in-Some.advance.reader)) (rest_is c.in-Some.advance.taken c.bytes.rest.now)
          ∙ run_on (byte_machine c.bytes.reader) (byte_machine c.in-Some.advance.reader) c.in-Some.advance.taken
          c.bytes.rest.now c.args.bytes.now c.bytes.invariant.going a.2;
      counted = omega (arith, c.bytes.invariant.counted, n);
      bounded = omega (
        arith,
        c.bytes.invariant.bounded,
        paid,
        a.1,
        ap length (rest_is c.in-Some.advance.taken c.bytes.rest.now),
        length-drop c.in-Some.advance.taken c.bytes.rest.now,
      );
      rises = omega (arith, c.bytes.invariant.rises, c.advance.ensures.rises);
    }

pub returns-clause-found : goal.returns-clause-found
returns-clause-found g c =
    over _ (byte_machine c.bytes.reader) c.bytes.rest.now c.args.bytes.now c.bytes.invariant.going
    (nothing_left c.bytes.rest.now (eqb-true _ _ (sym c.is_empty.ensures ∙ c.bytes-test.false))) c.finish.ensures.found
