use Rattle.std.proofs.Common.{◌∙◌, ◌+◌, sym, ap, subst, arith}
use Rattle.tx_scm.specs.Gauges.{gauge_of}
use Rattle.tx_scm.specs.Measuring.{IsSmallGauge, Measures, step}
use Rattle.tx_scm.proofs.Measured.{measures, measured_more, measured_all, small_more, step_small}
use Rattle.tx_scm.proofs.measures.measure.Goals as goal

pub step-requires : goal.step-requires
step-requires c =
    small_more (c.loop-byte.byte-index + 1) _ (omega arith) (gauge_of c.loop-byte.gauge) c.loop-byte.invariant.small

pub loop-byte-preserved : goal.loop-byte-preserved
loop-byte-preserved c =
    let before = gauge_of c.loop-byte.gauge in
    let i = c.loop-byte.byte-index in
    record {
      same = c.loop-byte.invariant.same
          ∙ measured_more c.args.bytes.now before i (gauge_of c.in_ok-gauge.gauge) c.loop-byte-test.true
          (c.in_ok-gauge.ensures ∙ ap (λ k. step before k) c.kind_of.ensures);
      small = subst (λ g. IsSmallGauge (i + 1 + 1) g) (sym c.in_ok-gauge.ensures)
          (step_small (i + 1) before (omega arith) c.loop-byte.invariant.small c.kind_of.result);
    }

pub returns : goal.returns
returns c = λ t h. subst (λ g. Measures g t)
    (c.loop-byte.invariant.same ∙ measured_all c.args.bytes.now (gauge_of c.loop-byte.gauge) c.loop-byte.byte-index
    c.loop-byte-test.false) (measures c.args.bytes.now t h)
