use Rattle.std.proofs.Common.{◌∙◌, ◌+◌, sym, ap, subst, arith}
use Rattle.std.proofs.lemmas.List.{take_all}
use Rattle.tx_tm_form.specs.Machine.{run}
use Rattle.tx_tm_form.specs.Marks.{keep_marks, start_marks, marks_go_on}
use Rattle.tx_tm_form.specs.Faults.{IsTmFault}
use Rattle.tx_tm_form.proofs.Stopping.{stop_there, end_there, whole_there}
use Rattle.tx_tm_faults.specs.Scans.{scan_of}
use Rattle.tx_tm_faults.proofs.Spotting.{taken_so_far, begun_there, scan_more}
use Rattle.tx_tm_faults.proofs.scan.misspelled.Goals as goal

pub loop-place-init : goal.loop-place-init
loop-place-init c =
    let same = sym (c.new-scan.ensures c.args.bytes.now) in
    record {
      same = same;
      on = ap marks_go_on (sym same);
      counted =
          taken_so_far c.args.bytes.now 0 c.new-scan.result same;
    }

pub step-requires-clause-there : goal.step-requires-clause-there
step-requires-clause-there c =
    begun_there c.args.bytes.now c.loop-place.place c.loop-place.scan c.loop-place-test.true c.loop-place.invariant.same

pub returns-in-None : goal.returns-in-None
returns-in-None c =
    let stop = rw c.in-None.is at c.in_ok-step.ensures in
    subst (IsTmFault c.args.bytes.now) (sym (c.fault-fault.ensures c.args.bytes.now))
    (stop_there (scan_of c.args.bytes.now c.loop-place.scan) c.args.bytes.now c.loop-place.place
    c.loop-place-test.true c.loop-place.invariant.same c.loop-place.invariant.on stop)

pub returns-then-not-goes_on : goal.returns-then-not-goes_on
returns-then-not-goes_on c =
    let next = rw c.in-Some.is at c.in_ok-step.ensures in
    let stop = ap marks_go_on (sym next) ∙ sym c.goes_on.ensures ∙ c.if-not-goes_on.true in
    subst (IsTmFault c.args.bytes.now) (sym (c.fault-fault.ensures c.args.bytes.now))
    (stop_there (scan_of c.args.bytes.now c.loop-place.scan) c.args.bytes.now c.loop-place.place
    c.loop-place-test.true c.loop-place.invariant.same c.loop-place.invariant.on stop)

pub loop-place-preserved : goal.loop-place-preserved
loop-place-preserved c =
    let next = rw c.in-Some.is at c.in_ok-step.ensures in
    let same = scan_more c.args.bytes.now c.loop-place.place c.loop-place.scan c.in-Some.next c.loop-place-test.true
    c.loop-place.invariant.same next in
    record {
      same = same;
      on = sym c.goes_on.ensures ∙ c.if-not-goes_on.false;
      counted = taken_so_far c.args.bytes.now (c.loop-place.place + 1) c.in-Some.next same;
    }

pub returns-then-is_whole : goal.returns-then-is_whole
returns-then-is_whole c =
    whole_there (scan_of c.args.bytes.now c.loop-place.scan) c.args.bytes.now
    (ap (run keep_marks start_marks) (sym (take_all c.loop-place.place c.args.bytes.now (omega arith)))
    ∙ c.loop-place.invariant.same) (sym (c.is_whole.ensures c.args.bytes.now) ∙ c.if-is_whole.true)

pub returns : goal.returns
returns c =
    end_there (scan_of c.args.bytes.now c.loop-place.scan) c.args.bytes.now
    (ap (run keep_marks start_marks) (sym (take_all c.loop-place.place c.args.bytes.now (omega arith)))
    ∙ c.loop-place.invariant.same) c.loop-place.invariant.on
    (sym (c.is_whole.ensures c.args.bytes.now) ∙ c.if-is_whole.false)
