use Rattle.std.proofs.Common.{List, ℕ, ap}
use Rattle.std.specs.Prelude.{option_copied}
use Rattle.tx_unit_layout.specs.Stretches.{part_or_root}
use Rattle.tx_view.specs.Marks.{stops_on, spot_places}
use Rattle.tx_view.proofs.Finding.{marks_under, marks_within, within_join, one_paragraph}
use Rattle.tx_view.proofs.Stopping.{stops_added}
use Rattle.tx_view.proofs.spots.add_paragraphs.Goals as goal

pub loop-paragraph-preserved : goal.loop-paragraph-preserved
loop-paragraph-preserved c =
    let b : List ℕ = part_or_root (option_copied c.args.part) in
    stops_added (marks_within b) (within_join b) c.args.path.now c.args.paragraphs.now c.loop-paragraph.paragraph-index
    c.paragraph-item.result (stops_on c.args.path.now (marks_under b c.all.result.now))
    (spot_places c.args.spots.now.items) (spot_places c.loop-paragraph.spots.items)
    (spot_places c.add_items.new.spots.items) c.loop-paragraph-test.true c.paragraph-item.is
    (ap (stops_on c.args.path.now) (one_paragraph b c.paragraph-item.result c.all.result.now c.all.ensures))
    c.loop-paragraph.invariant c.in_ok-add_items.ensures
