use Rattle.std.proofs.Common.{arith, refl, ℕ, ◌+◌, get_or, drop, Option}
use Rattle.std.proofs.lemmas.List.{get_or_default}
use Rattle.tx_table.specs.declared.settings.Side.{Side}
use Rattle.tx_table.specs.declared.settings.Side.TheVariants.{Left}
use Rattle.tx_table.specs.declared.settings.Setting.{Setting}
use Rattle.tx_table.specs.Painting.{last_set, up_to}
use Rattle.tx_table.proofs.Coloring.{row_set, row_passed, shortened}
use Rattle.tx_table.proofs.sides.paint.Goals as goal

pub loop-at-preserved-then-after-at : goal.loop-at-preserved-then-after-at
loop-at-preserved-then-after-at c =
    let d : Setting = record { top = 0; bottom = 0; first = 0; last = 0; side = Left } in
    let all = c.args.settings.now in
    let s : Setting = get_or all c.args.i d in
    record {
      far = omega arith;
      painted =
          row_set all c.args.i c.args.row c.loop-at.at s c.loop-at.sides c.loop-at.next c.requires.there
          (get_or_default all c.args.i d s c.requires.there) c.if-row-setting.false c.if-setting-row.false
          c.loop-at.invariant.far c.loop-at-test.true c.if-at-sides.true c.if-after-at.true c.loop-at.invariant.painted;
    }

pub loop-at-preserved-then-after-sides : goal.loop-at-preserved-then-after-sides
loop-at-preserved-then-after-sides c =
    let d : Setting = record { top = 0; bottom = 0; first = 0; last = 0; side = Left } in
    let all = c.args.settings.now in
    let s : Setting = get_or all c.args.i d in
    let after : ℕ = get_or c.loop-at.next c.loop-at.at 0 in
    let both : ℕ → Option Side =
    up_to after (last_set (drop c.args.i all) c.args.row) (last_set (drop (c.args.i + 1) all) c.args.row) in
    let up = c.loop-at.invariant.painted.onward c.loop-at.at c.if-at-sides.true in
    record {
      far = omega arith;
      painted =
          shortened both c.loop-at.sides c.loop-at.next c.loop-at.at after (get_or c.loop-at.next after 0)
          c.if-at-sides.true refl c.if-after-sides.true c.if-after-at.false refl
          (
          row_passed all c.args.i c.args.row c.loop-at.at after s c.loop-at.sides c.loop-at.next c.requires.there
          (get_or_default all c.args.i d s c.requires.there) c.if-row-setting.false c.if-setting-row.false
          c.loop-at.invariant.far c.if-at-sides.true refl c.loop-at.invariant.painted
          );
    }
