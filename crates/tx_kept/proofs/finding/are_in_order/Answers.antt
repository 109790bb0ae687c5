use Rattle.std.proofs.Common.{rules, ◌≡◌, ◌∙◌, sym, refl, true, false}
use Rattle.tx_kept.proofs.Found.{row_more, row_all, row_broken}
use Rattle.tx_kept.proofs.finding.are_in_order.Goals as goal

pub returns-then-not-stands_before : goal.returns-then-not-stands_before
returns-then-not-stands_before g c =
    let off : c.stands_before.result ≡ false = search rules in (
      λ h. absurd (cc),
      λ o. absurd (row_broken c.args.entries.now c.loop-i.i c.index-entries-i.result c.index-entries-i-in-loop-i.result
          c.loop-i.auto.i c.loop-i-test.true c.index-entries-i.is c.index-entries-i-in-loop-i.is
          (sym c.stands_before.ensures ∙ off) o),
    )

pub loop-i-preserved : goal.loop-i-preserved
loop-i-preserved g c =
    let on : c.stands_before.result ≡ true = search rules in
    row_more c.args.entries.now c.loop-i.i c.index-entries-i.result c.index-entries-i-in-loop-i.result
    c.loop-i.auto.i c.loop-i-test.true c.index-entries-i.is c.index-entries-i-in-loop-i.is
    (sym c.stands_before.ensures ∙ on) c.loop-i.invariant

pub returns : goal.returns
returns g c = (λ h. row_all c.args.entries.now c.loop-i.i c.loop-i-test.false c.loop-i.invariant, λ o. refl)
