use Rattle.std.proofs.Common.{◌-◌, drop, length, List, ℕ}
use Rattle.std.specs.Prelude.{option_copied}
use Rattle.std.proofs.lemmas.List.Elements.{All-take, All-drop, All-same}
use Rattle.tx_view_form.specs.Positions.{IsShort}
use Rattle.tx_unit_layout.specs.Stretches.{part_or_root}
use Rattle.tx_view.proofs.StopAlone.{stop_covered, stop_before, stop_after, no_stop}
use Rattle.tx_view.proofs.moves.place_alone.Goals as goal

pub returns-in-Some : goal.returns-in-Some
returns-in-Some c =
    let b : List ℕ = part_or_root (option_copied c.args.part) in
    stop_covered c.args.path.now b c.args.line.now c.args.goal c.covering.result c.in-Some.mark c.start_of.result
    c.covering.ensures c.in-Some.is c.start_of.ensures

pub last_mark-requires : goal.last_mark-requires
last_mark-requires c =
    All-take IsShort c.item_number-number.result c.all-items.result.now
    (All-same IsShort c.all-items.result.now c.args.line.now.items c.all-items.ensures c.requires)

pub returns-in-Some-last_mark : goal.returns-in-Some-last_mark
returns-in-Some-last_mark c =
    let b : List ℕ = part_or_root (option_copied c.args.part) in
    stop_before c.args.path.now b c.args.line.now c.args.goal c.covering.result c.covering.ensures c.in_default.is
    c.all-items.result.now c.all-items.ensures c.item_number-number.result c.item_number-number.ensures.number
    c.last_mark.result c.in-Some-last_mark.mark c.stop_of.result c.last_mark.ensures c.in-Some-last_mark.is
    c.stop_of.ensures

pub first_mark-requires : goal.first_mark-requires
first_mark-requires c =
    let n : ℕ = c.item_number-number.result in
    All-take IsShort (length c.all-items.result.now - n) (drop n c.all-items.result.now)
    (All-drop IsShort n c.all-items.result.now
    (All-same IsShort c.all-items.result.now c.args.line.now.items c.all-items.ensures c.requires))

pub returns-in-None : goal.returns-in-None
returns-in-None c =
    let b : List ℕ = part_or_root (option_copied c.args.part) in
    no_stop c.args.path.now b c.args.line.now c.args.goal c.covering.result c.covering.ensures c.in_default.is
    c.all-items.result.now c.all-items.ensures c.item_number-number.result c.item_number-number.ensures.number
    c.last_mark.result c.first_mark.result c.last_mark.ensures c.in_default-last_mark.is c.first_mark.ensures
    c.in-None.is

pub returns-in-Some-first_mark : goal.returns-in-Some-first_mark
returns-in-Some-first_mark c =
    let b : List ℕ = part_or_root (option_copied c.args.part) in
    stop_after c.args.path.now b c.args.line.now c.args.goal c.covering.result c.covering.ensures c.in_default.is
    c.all-items.result.now c.all-items.ensures c.item_number-number.result c.item_number-number.ensures.number
    c.last_mark.result c.first_mark.result c.in-Some-first_mark.mark c.start_of-in-Some-first_mark.result
    c.last_mark.ensures c.in_default-last_mark.is c.first_mark.ensures c.in-Some-first_mark.is
    c.start_of-in-Some-first_mark.ensures
