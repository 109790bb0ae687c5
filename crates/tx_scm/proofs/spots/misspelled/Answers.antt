use Rattle.std.proofs.Common.{◌∙◌, get_or, sym, ap, subst, arith}
use Rattle.std.specs.Prelude.{Some}
use Rattle.std.proofs.lemmas.List.{take_all}
use Rattle.tx_scm.specs.declared.spots.Spot.TheVariants.{Between}
use Rattle.tx_scm.specs.Faults.{IsSchemeFault}
use Rattle.tx_scm.specs.Spots.{step, spots}
use Rattle.tx_scm.proofs.Fronts.{scan_more, stopped, unfinished, spelled}
use Rattle.tx_scm.proofs.spots.misspelled.Goals as goal

pub returns-in-None-clause-fault : goal.returns-in-None-clause-fault
returns-in-None-clause-fault c =
    let bytes = c.args.bytes.now in
    let i = c.loop-i.i in
    let stop = sym (ap (λ k. step c.loop-i.spot k (get_or bytes i 0)) c.kind_of.ensures) ∙ sym c.in-None.ensures.is in
    subst (IsSchemeFault bytes) (sym c.fault.ensures)
    (stopped bytes i c.loop-i.spot c.loop-i-test.true c.loop-i.invariant.same stop)

pub loop-i-preserved : goal.loop-i-preserved
loop-i-preserved c =
    let bytes = c.args.bytes.now in
    let i = c.loop-i.i in
    record {
      same = scan_more bytes i c.loop-i.spot c.loop-i-test.true c.loop-i.invariant.same
          ∙ sym (ap (λ k. step c.loop-i.spot k (get_or bytes i 0)) c.kind_of.ensures) ∙ sym c.in-Some.ensures.is;
      depth = omega (arith, c.loop-i.invariant.depth, c.in-Some.ensures.depth);
    }

pub returns-in-Whole-clause-none : goal.returns-in-Whole-clause-none
returns-in-Whole-clause-none c = λ none.
    let bytes = c.args.bytes.now in
    spelled bytes (ap (λ x. spots (Some (Between 0)) x) (sym (take_all c.loop-i.i bytes (omega arith)))
    ∙ c.loop-i.invariant.same ∙ ap Some c.in-Whole.is)

pub returns-in_default : goal.returns-in_default
returns-in_default c =
    let bytes = c.args.bytes.now in
    record {
      fault = unfinished bytes c.loop-i.spot
          (ap (λ x. spots (Some (Between 0)) x) (sym (take_all c.loop-i.i bytes (omega arith)))
          ∙ c.loop-i.invariant.same) (λ e. c.in_default.not-Whole (sym e));
      none = λ e. absurd cc;
    }
