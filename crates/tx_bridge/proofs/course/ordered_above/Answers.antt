use Rattle.std.proofs.Common.{◌≡◌, ◌+◌, ◌-◌, ◌∙◌, ℕ, sym, refl, ap, arith, length, ltb-true, ltb-false}
use Rattle.std.proofs.Common.{slice_index_or}
use Rattle.std.proofs.lemmas.Option.{slice_get_read, slice_get_within, same_Some}
use Rattle.std.specs.Prelude.{is_some}
use Rattle.tx_units.specs.declared.kinds.Unit.{Unit as DocUnit}
use Rattle.tx_bridge.specs.PartMoves.{rest_in}
use Rattle.tx_bridge.proofs.Aligned.{none_near, none_at, none_some}
use Rattle.tx_bridge.proofs.course.ordered_above.Goals as goal
use Rattle.tx_bridge.proofs.course.ordered_above.Goals.{then-order-eq0-via-then-order-eq0}
use Rattle.tx_bridge.proofs.course.ordered_above.Goals.{then-order-eq0-via-else-order-eq0+then-steps-order}

pub returns-then-order-eq0-clause-unit_above : goal.returns-then-order-eq0-clause-unit_above
returns-then-order-eq0-clause-unit_above c =
    none_near c.args.order.first c.args.order.depth c.args.units.now c.args.place.now c.requires
    (λ deep far. elim c.then-order-eq0.branch [
      | then-order-eq0-via-then-order-eq0 w ↦ omega (arith, deep, w.if-order-eq0.true)
      | then-order-eq0-via-else-order-eq0+then-steps-order w ↦
          omega (arith, far, w.if-steps-order.true, ap length c.steps-steps.ensures)
    ])

pub returns-in-None-clause-unit_above : goal.returns-in-None-clause-unit_above
returns-in-None-clause-unit_above c =
    let n : ℕ = slice_index_or c.steps-steps.result.now (c.args.order.depth - 1) 0 in
    none_at c.args.order.first c.args.order.depth c.args.units.now c.args.place.now c.requires n 0
    (omega (arith, c.if-order-eq0.false, c.if-steps-order.false, ap length c.steps-steps.ensures))
    (ap (λ q. slice_index_or q (c.args.order.depth - 1) 0) c.steps-steps.ensures)
    (λ u at. absurd (omega (
      arith,
      slice_get_within c.args.units.now (c.args.order.first + n) u at,
      ltb-false (c.args.order.first + n) (length c.args.units.now) (sym c.in-None.ensures.lookup.0),
    )))

pub returns-then-is_above-clause-unit_above : goal.returns-then-is_above-clause-unit_above
returns-then-is_above-clause-unit_above c =
    let n : ℕ = slice_index_or c.steps-steps.result.now (c.args.order.depth - 1) 0 in
    record {
      unit = c.in-Some.unit.now;
      there =
          slice_get_read c.args.units.now (length c.args.units.now) (c.args.order.first + n) c.in-Some.unit.now refl
          (ltb-true (c.args.order.first + n) (length c.args.units.now) (sym c.in-Some.ensures.lookup.0))
          c.in-Some.ensures.lookup.1;
      within = sym c.is_above.ensures ∙ c.if-is_above.true;
    }

pub returns-else-is_above-clause-unit_above : goal.returns-else-is_above-clause-unit_above
returns-else-is_above-clause-unit_above c =
    let n : ℕ = slice_index_or c.steps-steps.result.now (c.args.order.depth - 1) 0 in
    none_at c.args.order.first c.args.order.depth c.args.units.now c.args.place.now c.requires n 0
    (omega (arith, c.if-order-eq0.false, c.if-steps-order.false, ap length c.steps-steps.ensures))
    (ap (λ q. slice_index_or q (c.args.order.depth - 1) 0) c.steps-steps.ensures)
    (λ u at.
    let same : c.in-Some.unit.now ≡ u =
    same_Some c.in-Some.unit.now u
    (sym (slice_get_read c.args.units.now (length c.args.units.now) (c.args.order.first + n) c.in-Some.unit.now refl
    (ltb-true (c.args.order.first + n) (length c.args.units.now) (sym c.in-Some.ensures.lookup.0))
    c.in-Some.ensures.lookup.1) ∙ at) in
    none_some (rest_in u c.args.place.now)
    (ap (λ (v : DocUnit). is_some (rest_in v c.args.place.now)) (sym same) ∙ sym c.is_above.ensures
    ∙ c.if-is_above.false))
