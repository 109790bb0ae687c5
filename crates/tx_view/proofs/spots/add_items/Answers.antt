use Rattle.std.proofs.Common.{List, ℕ}
use Rattle.std.specs.Prelude.{option_copied}
use Rattle.tx_part_items.specs.ItemsUnder.{item_under}
use Rattle.tx_view_form.specs.Positions.{mark_of}
use Rattle.tx_unit_layout.specs.Stretches.{part_or_root}
use Rattle.tx_view.specs.Marks.{stops_at, spot_places}
use Rattle.tx_view.proofs.Finding.{marks_under, items_join}
use Rattle.tx_view.proofs.Stopping.{stops_added, item_stops}
use Rattle.tx_view.proofs.spots.add_items.Goals as goal

pub loop-item-preserved : goal.loop-item-preserved
loop-item-preserved c =
    let b : List ℕ = part_or_root (option_copied c.args.part) in
    stops_added (marks_under b) (items_join b) c.args.path.now c.args.items.now c.loop-item.item-index
    c.item-item.result (stops_at c.args.path.now (mark_of (item_under b c.item-item.result)))
    (spot_places c.args.spots.now.items) (spot_places c.loop-item.spots.items) (spot_places c.add_item.new.spots.items)
    c.loop-item-test.true c.item-item.is (item_stops c.args.path.now b c.item-item.result) c.loop-item.invariant
    c.in_ok-add_item.ensures
