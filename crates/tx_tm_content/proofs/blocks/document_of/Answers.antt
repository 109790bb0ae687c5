use Rattle.tx_tm_form.specs.Parts.{document_label}
use Rattle.tx_tm_form.specs.Growing.{grown}
use Rattle.tx_tm_content.proofs.Fitting.{last_within, whole_row}
use Rattle.tx_tm_content.proofs.blocks.document_of.Goals as goal

pub returns-in-None-clause-made : goal.returns-in-None-clause-made
returns-in-None-clause-made g c =
    let made = rw c.in-None.is at c.in_ok-finish.ensures.made in
    λ h. made (last_within document_label c.args.full (grown c.args.now) h)

pub returns-in-None-2-clause-made : goal.returns-in-None-2-clause-made
returns-in-None-2-clause-made g c =
    let made = rw c.in-Some.is at c.in_ok-finish.ensures.made in
    let next = rw c.in-None-2.is at c.in_ok-with-in-Some.ensures in
    whole_row document_label c.args.full (grown c.args.now) c.in-Some.tree made next
