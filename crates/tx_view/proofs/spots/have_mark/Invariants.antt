use Rattle.std.proofs.Common.{◌≡◌, [], drop}
use Rattle.tx_view.proofs.Finding.{marks_within}
use Rattle.tx_view.proofs.Stopping.{have_some}
use Rattle.tx_view.proofs.spots.have_mark.Given as goal

abbrev pub invariant-loop-paragraph : goal.invariant-loop-paragraph
invariant-loop-paragraph l =
    have_some (marks_within [] l.paragraphs) ≡ have_some (marks_within [] (drop l.paragraph-index l.paragraphs))
