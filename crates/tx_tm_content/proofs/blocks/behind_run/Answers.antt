use Rattle.std.proofs.Common.{rules, ◌≡◌, ℕ, Some, sym, subst}
use Rattle.tx_tm_form.specs.declared.bytes.White.TheVariants.{Break}
use Rattle.tx_tm_form.specs.Growing.{ended, resumed}
use Rattle.tx_tm_content.specs.ContentFits.{RowFits, LineFits}
use Rattle.tx_tm_content.proofs.Fitting.{full_row}
use Rattle.tx_tm_content.proofs.blocks.behind_run.Goals as goal

pub returns-in-None-3-clause-next : goal.returns-in-None-3-clause-next
returns-in-None-3-clause-next g c =
    let made = rw c.in-Some.is at c.in_ok-finish-in-Some-Break.ensures.made in
    let next = rw c.in-None-3.is at c.in_ok-with-in-Some.ensures in
    let last : c.args.run ≡ Some Break = search rules in
    subst (λ w. (k : ℕ) → RowFits k (ended w c.args.full c.args.now) → LineFits k (resumed w c.args.now) → ⊥) (sym last)
    (full_row c.args.full c.args.now c.in-Some.tree made next)
