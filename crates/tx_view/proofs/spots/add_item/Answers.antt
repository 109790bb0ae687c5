use Rattle.std.proofs.Common.{List, ℕ, ◌++◌, refl, sym, ap, ◌∙◌}
use Rattle.std.specs.Prelude.{Some, option_copied}
use Rattle.tx_part_items.specs.ItemsUnder.{item_under}
use Rattle.tx_view_form.specs.Positions.{Mark, mark_of}
use Rattle.tx_unit_layout.specs.Stretches.{part_or_root}
use Rattle.tx_view.proofs.Stopping.{ends_at, ends_added}
use Rattle.tx_view.proofs.spots.add_item.Goals as goal

pub returns-in_ok-push-2 : goal.returns-in_ok-push-2
returns-in_ok-push-2 c =
    let path : List ℕ = c.args.path.now in
    let b : List ℕ = part_or_root (option_copied c.mark.inside.part) in
    let at : List ℕ = c.mark.inside.origin.now in
    let m : Mark = record { origin = b ++ at; start = c.mark.inside.start; stop = c.mark.inside.stop } in
    ends_added path (mark_of (item_under (part_or_root (option_copied c.args.part)) c.args.item.now)) m
    c.behind.result c.behind-in-Some.result c.args.spots.now.items c.push.new.self.items c.push-in-Some.new.self.items
    (sym c.mark_of.ensures ∙ c.in-Some.is ∙ ap Some (sym c.mark.view_is))
    (ends_at path b at c.behind.result m m.start (c.behind.ensures.base ∙ c.base_of.ensures) c.behind.ensures.origin
    c.behind.ensures.offset refl)
    (ends_at path b at c.behind-in-Some.result m m.stop (c.behind-in-Some.ensures.base ∙ c.base_of-in-Some.ensures)
    c.behind-in-Some.ensures.origin c.behind-in-Some.ensures.offset refl)
    c.in_ok-push.ensures.items c.in_ok-push-2.ensures.items
