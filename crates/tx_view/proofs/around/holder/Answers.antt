use Rattle.std.proofs.Common.{◌≡◌, ◌+◌, ◌-◌, take, drop, sym, ap, ◌∙◌, arith}
use Rattle.std.specs.List.{list_any}
use Rattle.std.proofs.lemmas.List.Elements.{All-take, All-drop}
use Rattle.tx_tree.specs.SamePlaces.{same_place}
use Rattle.tx_view.specs.Near.{shown_stops}
use Rattle.tx_unit_layout.specs.Views.{IsReadable}
use Rattle.tx_view.proofs.Ranges.{held_nowhere, held_here, held_not_here}
use Rattle.tx_view.proofs.around.holder.Goals as goal

pub returns-in_default : goal.returns-in_default
returns-in_default c =
    held_nowhere c.args.units.now c.args.at.now (sym c.unit_above.ensures.number ∙ c.in_default.is)

pub has_stop-requires : goal.has_stop-requires
has_stop-requires c =
    All-take IsReadable (c.in-Some.k + 1 - c.in-Some.k) (drop c.in-Some.k c.args.units.now)
    (All-drop IsReadable c.in-Some.k c.args.units.now c.requires.readable)

pub returns-then-here : goal.returns-then-here
returns-then-here c =
    let one : 1 ≡ c.in-Some.k + 1 - c.in-Some.k = omega arith in
    held_here c.args.units.now c.args.at.now c.in-Some.k c.requires.apart
    (sym c.unit_above.ensures.number ∙ c.in-Some.is)
    (ap (λ n. list_any (same_place c.args.at.now) (shown_stops (take n (drop c.in-Some.k c.args.units.now)))) one
    ∙ sym c.in_ok-here.ensures ∙ c.if-here.true)

pub returns : goal.returns
returns c =
    let one : 1 ≡ c.in-Some.k + 1 - c.in-Some.k = omega arith in
    held_not_here c.args.units.now c.args.at.now c.in-Some.k c.requires.apart
    (sym c.unit_above.ensures.number ∙ c.in-Some.is)
    (ap (λ n. list_any (same_place c.args.at.now) (shown_stops (take n (drop c.in-Some.k c.args.units.now)))) one
    ∙ sym c.in_ok-here.ensures ∙ c.if-here.false)
