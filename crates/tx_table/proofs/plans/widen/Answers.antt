use Rattle.std.proofs.Common.{arith, ap, ◌∙◌, get_or}
use Rattle.std.proofs.Math.ListN.{set}
use Rattle.std.specs.Prelude.{max}
use Rattle.std.proofs.lemmas.List.{get_or_read}
use Rattle.tx_table.proofs.Widening.{widen_set, widen_push}
use Rattle.tx_table.proofs.plans.widen.Goals as goal
use Rattle.tx_table.proofs.plans.widen.Goals.{then-i-len, else-i-len+in_ok-push}

pub loop-i-preserved : goal.loop-i-preserved
loop-i-preserved c =
    let old = c.loop-i.columns.items in
    let width = get_or c.args.row.now c.loop-i.i 0 in
    elim c.if-i-len.branch [
      | then-i-len w ↦
          ap (λ v. v.items) w.columns-is
          ∙ ap (λ x. set old c.loop-i.i x)
          (w.max.ensures
          ∙ ap (λ y. max y width) (get_or_read old c.loop-i.i w.index.result.now (omega arith) w.index.ensures 0))
          ∙ widen_set c.args.columns.now.items c.args.row.now old c.loop-i.i c.loop-i.invariant (omega arith) (omega arith)
      | else-i-len+in_ok-push w ↦
          ap (λ v. v.items) w.columns-is ∙ w.in_ok-push.ensures.items
          ∙ widen_push c.args.columns.now.items c.args.row.now old c.loop-i.i c.loop-i.invariant (omega arith) (omega arith)
    ]
