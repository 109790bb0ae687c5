use Rattle.std.proofs.Common.{◌+◌, ◌-◌, ◌≡◌, arith, drop, length, get_or}
use Rattle.std.proofs.lemmas.List.{length-drop}
use Rattle.std.proofs.lemmas.List.{get_or_default}
use Rattle.tx_layout.proofs.Spans.{cut_step, row_step, none_by}
use Rattle.tx_layout.proofs.segments.cut_rows.Goals as goal

pub row_of-row-requires-clause-some : goal.row_of-row-requires-clause-some
row_of-row-requires-clause-some c =
    let i = c.loop-cut.cut-index in
    let cut = get_or c.args.cuts.now i (record { from = 0; to = 0 }) in
    (cut_step c.args.cuts.now i _ _ cut c.loop-cut-test.true
    (get_or_default c.args.cuts.now i _ _ c.loop-cut-test.true) c.loop-cut.invariant.rest.1).0

pub row_of-row-requires-clause-within : goal.row_of-row-requires-clause-within
row_of-row-requires-clause-within c =
    let i = c.loop-cut.cut-index in
    let cut = get_or c.args.cuts.now i (record { from = 0; to = 0 }) in
    (cut_step c.args.cuts.now i _ _ cut c.loop-cut-test.true
    (get_or_default c.args.cuts.now i _ _ c.loop-cut-test.true) c.loop-cut.invariant.rest.1).1

pub loop-cut-preserved : goal.loop-cut-preserved
loop-cut-preserved c =
    let i = c.loop-cut.cut-index in
    let cut = get_or c.args.cuts.now i (record { from = 0; to = 0 }) in
    let is = get_or_default c.args.cuts.now i (record { from = 0; to = 0 }) cut c.loop-cut-test.true in
    let left : c.loop-cut.left - 1 ≡ length (drop (i + 1) c.args.cuts.now) =
    omega (arith, c.loop-cut.invariant.left, length-drop i c.args.cuts.now, length-drop (i + 1) c.args.cuts.now) in
    record {
      so_far = row_step _ _ _ _ _ _ _ cut _ _ _ _ _ c.loop-cut-test.true is c.in_ok-push.ensures.items
          c.row_of-row.ensures (none_by (drop (i + 1) c.args.cuts.now) _ left) c.loop-cut.invariant.so_far;
      left = left;
      rest = (cut.to, (cut_step c.args.cuts.now i _ _ cut c.loop-cut-test.true is c.loop-cut.invariant.rest.1).2);
    }
