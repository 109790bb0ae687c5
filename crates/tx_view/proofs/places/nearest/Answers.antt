use Rattle.std.proofs.Common.{◌-◌, List, ℕ, length, take, drop, map, sym, ap, ◌∙◌}
use Rattle.std.specs.Prelude.{Some, None, option_copied}
use Rattle.std.proofs.lemmas.List.Elements.{All-take, All-drop}
use Rattle.tx_items.specs.declared.drawing.Item.{Item}
use Rattle.tx_part_items.specs.ItemsUnder.{item_under}
use Rattle.tx_unit_layout.specs.Stretches.{part_or_root}
use Rattle.tx_view_form.specs.Positions.{IsShort}
use Rattle.tx_view.specs.InUnits.{lines_above, lines_below}
use Rattle.tx_view.specs.Marks.{spot_place}
use Rattle.tx_view.proofs.NearPlaces.{near_own, near_above, near_rest, near_below, near_unit, own_is, rest_is}
use Rattle.tx_view.proofs.NearPlaces.{unit_made}
use Rattle.tx_view.proofs.places.nearest.Goals as goal

pub returns-in-Some : goal.returns-in-Some
returns-in-Some c =
    let b : List ℕ = part_or_root (option_copied c.args.part) in
    let is : List Item = map (item_under b) c.args.items.now in
    c.stop_of.ensures
    ∙ ap spot_place (sym (near_own c.args.path.now (lines_above c.args.shown.now c.args.k c.args.i)
    (lines_below c.args.shown.now c.args.k c.args.i) (take c.args.number is) (drop c.args.number is) c.in-Some.mark
    (own_is b c.args.items.now c.args.number c.last_mark.result (Some c.in-Some.mark) c.last_mark.ensures
    c.in-Some.is)))

pub returns-in-Some-last_above : goal.returns-in-Some-last_above
returns-in-Some-last_above c =
    let b : List ℕ = part_or_root (option_copied c.args.part) in
    let is : List Item = map (item_under b) c.args.items.now in
    c.stop_of-in-Some-last_above.ensures
    ∙ ap spot_place (sym (near_above c.args.path.now (lines_above c.args.shown.now c.args.k c.args.i)
    (lines_below c.args.shown.now c.args.k c.args.i) (take c.args.number is) (drop c.args.number is)
    c.in-Some-last_above.mark
    (own_is b c.args.items.now c.args.number c.last_mark.result None c.last_mark.ensures c.in_default.is)
    (sym c.last_above.ensures ∙ c.in-Some-last_above.is)))

pub first_mark-requires : goal.first_mark-requires
first_mark-requires c =
    All-take IsShort (length c.args.items.now - c.args.number) (drop c.args.number c.args.items.now)
    (All-drop IsShort c.args.number c.args.items.now c.requires.here)

pub returns-in-Some-first_mark : goal.returns-in-Some-first_mark
returns-in-Some-first_mark c =
    let b : List ℕ = part_or_root (option_copied c.args.part) in
    let is : List Item = map (item_under b) c.args.items.now in
    c.start_of.ensures
    ∙ ap spot_place (sym (near_rest c.args.path.now (lines_above c.args.shown.now c.args.k c.args.i)
    (lines_below c.args.shown.now c.args.k c.args.i) (take c.args.number is) (drop c.args.number is)
    c.in-Some-first_mark.mark
    (own_is b c.args.items.now c.args.number c.last_mark.result None c.last_mark.ensures c.in_default.is)
    (sym c.last_above.ensures ∙ c.in_default-last_above.is)
    (rest_is b c.args.items.now c.args.number c.first_mark.result (Some c.in-Some-first_mark.mark)
    c.first_mark.ensures c.in-Some-first_mark.is)))

pub returns-in-Some-first_below : goal.returns-in-Some-first_below
returns-in-Some-first_below c =
    let b : List ℕ = part_or_root (option_copied c.args.part) in
    let is : List Item = map (item_under b) c.args.items.now in
    c.start_of-in-Some-first_below.ensures
    ∙ ap spot_place (sym (near_below c.args.path.now (lines_above c.args.shown.now c.args.k c.args.i)
    (lines_below c.args.shown.now c.args.k c.args.i) (take c.args.number is) (drop c.args.number is)
    c.in-Some-first_below.mark
    (own_is b c.args.items.now c.args.number c.last_mark.result None c.last_mark.ensures c.in_default.is)
    (sym c.last_above.ensures ∙ c.in_default-last_above.is)
    (rest_is b c.args.items.now c.args.number c.first_mark.result None c.first_mark.ensures
    c.in_default-first_mark.is) (sym c.first_below.ensures ∙ c.in-Some-first_below.is)))

pub returns : goal.returns
returns c =
    let b : List ℕ = part_or_root (option_copied c.args.part) in
    let is : List Item = map (item_under b) c.args.items.now in
    ap spot_place (unit_made c.args.path.now c.new.result c.new.ensures.base c.new.ensures.origin c.new.ensures.offset
    ∙ sym (near_unit c.args.path.now (lines_above c.args.shown.now c.args.k c.args.i)
    (lines_below c.args.shown.now c.args.k c.args.i) (take c.args.number is) (drop c.args.number is)
    (own_is b c.args.items.now c.args.number c.last_mark.result None c.last_mark.ensures c.in_default.is)
    (sym c.last_above.ensures ∙ c.in_default-last_above.is)
    (rest_is b c.args.items.now c.args.number c.first_mark.result None c.first_mark.ensures
    c.in_default-first_mark.is) (sym c.first_below.ensures ∙ c.in_default-first_below.is)))
