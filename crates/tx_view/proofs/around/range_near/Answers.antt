use Rattle.std.proofs.Common.{◌≡◌, ◌+◌, ◌-◌, ◌≤◌, List, [], length, take, drop, subst, arith, length-drop}
use Rattle.std.proofs.lemmas.List.{take_all}
use Rattle.tx_view.specs.Near.{IsHolder, shown_stops}
use Rattle.tx_unit_layout.specs.declared.shown.Shown.{Shown}
use Rattle.tx_view.proofs.Ranges.{range_none, range_some}
use Rattle.tx_view.proofs.around.range_near.Goals as goal

pub returns-in_default : goal.returns-in_default
returns-in_default c =
    range_none c.args.units.now c.args.at.now c.up_to_placed.result c.requires.apart c.up_to_placed.ensures.within
    (subst (IsHolder c.args.units.now c.args.at.now) c.in_default.is c.in_ok-k.ensures) c.up_to_placed.ensures.none

pub returns : goal.returns
returns c =
    let behind : List Shown = drop (c.in-Some.k + 1) c.args.units.now in
    let many : length behind ≤ length c.args.units.now - (c.in-Some.k + 1) =
    omega (arith, length-drop (c.in-Some.k + 1) c.args.units.now) in
    let whole : take (length c.args.units.now - (c.in-Some.k + 1)) behind ≡ behind =
    take_all (length c.args.units.now - (c.in-Some.k + 1)) behind many in
    range_some c.args.units.now c.args.at.now c.in-Some.k c.last_placed-from.result c.up_to_placed-2.result
    c.requires.apart (subst (IsHolder c.args.units.now c.args.at.now) c.in-Some.is c.in_ok-k.ensures)
    c.last_placed-from.ensures.within c.last_placed-from.ensures.none
    (subst (λ (xs : List Shown). c.up_to_placed-2.result ≤ length xs) whole c.up_to_placed-2.ensures.within)
    (subst (λ (xs : List Shown). shown_stops (take c.up_to_placed-2.result xs) ≡ []
    → shown_stops (drop c.up_to_placed-2.result xs) ≡ []) whole c.up_to_placed-2.ensures.none)
