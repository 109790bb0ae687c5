use Rattle.std.proofs.Common.{◌∙◌, ◌^◌, ◌<◌, length, arith}
use Rattle.tx_tm_faults.proofs.Metering.{meter_more, meter_lost, metered}
use Rattle.tx_tm_faults.proofs.Bounding.{metered_small, metered_end}
use Rattle.tx_tm_faults.proofs.measuring.measure.Goals as goal

pub returns-in-None : goal.returns-in-None
returns-in-None c = λ t h.
    let over = rw c.in-None.is at c.in_ok-step.ensures in
    absurd (meter_lost c.args.bytes.now c.loop-byte.byte-index c.loop-byte.meter t c.loop-byte-test.true
    c.loop-byte.invariant over h)

pub loop-byte-preserved : goal.loop-byte-preserved
loop-byte-preserved c =
    let next = rw c.in-Some.is at c.in_ok-step.ensures in
    meter_more c.args.bytes.now c.loop-byte.byte-index c.loop-byte.meter c.in-Some.next c.loop-byte-test.true
    c.loop-byte.invariant next

pub step-requires : goal.step-requires
step-requires c =
    let short : length c.args.bytes.now < 2 ^ 63 = omega arith in
    metered_small c.args.bytes.now c.loop-byte.byte-index c.loop-byte.meter short c.loop-byte.invariant

pub body_sums-requires : goal.body_sums-requires
body_sums-requires c =
    let short : length c.args.bytes.now < 2 ^ 63 = omega arith in
    metered_end c.args.bytes.now c.loop-byte.byte-index c.loop-byte.meter short c.loop-byte.invariant

pub returns : goal.returns
returns c =
    λ t h. c.body_sums.ensures ∙ metered c.args.bytes.now c.loop-byte.byte-index c.loop-byte.meter t
    (omega (arith, c.loop-byte-test.false)) c.loop-byte.invariant h
