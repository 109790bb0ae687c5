use Rattle.std.proofs.Common.{◌≡◌, List, ℕ, sym, ap, ◌∙◌}
use Rattle.std.specs.Prelude.{Option, Some, option_copied}
use Rattle.std.specs.Option.{option_map}
use Rattle.tx_layout.specs.declared.layout.Line.{Line}
use Rattle.tx_part_layout.specs.LinesUnder.{line_under}
use Rattle.tx_moves.proofs.Seeing.{stop_is}
use Rattle.tx_unit_layout.specs.Stretches.{part_or_root}
use Rattle.tx_view.specs.Marks.{spot_place}
use Rattle.tx_view.specs.Units.{unit_views}
use Rattle.tx_view.proofs.StopAlone.{goes_back, place_made}
use Rattle.tx_view.proofs.moves.stop_on.Goals as goal

pub returns-in-None : goal.returns-in-None
returns-in-None c =
    let path : List ℕ = c.in-Some.path.now in
    let line : Line = line_under (part_or_root (option_copied c.in-Some.part)) c.in-Some.line.now in
    goes_back (unit_views c.args.units.now) c.args.r path line c.args.goal c.in_ok-place.place c.in_ok-place.place
    (ap Some (place_made c.in_ok-place.place c.in-Some-place_alone.spot c.in_ok-place.ensures.path
    c.in_ok-place.ensures.offset)
    ∙ ap (option_map spot_place) (sym c.in-Some-place_alone.is) ∙ c.place_alone.ensures)
    (sym c.is_past.ensures ∙ c.if-not-is_past.false) (c.in-None.ensures c.in_ok-place.place)
    ∙ sym (stop_is (unit_views c.args.units.now) c.args.r path line c.in-Some.ensures.line c.args.goal)

pub returns-in_ok-place-in-Some-last_start : goal.returns-in_ok-place-in-Some-last_start
returns-in_ok-place-in-Some-last_start c =
    let path : List ℕ = c.in-Some.path.now in
    let line : Line = line_under (part_or_root (option_copied c.in-Some.part)) c.in-Some.line.now in
    goes_back (unit_views c.args.units.now) c.args.r path line c.args.goal c.in_ok-place.place
    (c.in_ok-place-in-Some-last_start).field-0
    (ap Some (place_made c.in_ok-place.place c.in-Some-place_alone.spot c.in_ok-place.ensures.path
    c.in_ok-place.ensures.offset)
    ∙ ap (option_map spot_place) (sym c.in-Some-place_alone.is) ∙ c.place_alone.ensures)
    (sym c.is_past.ensures ∙ c.if-not-is_past.false)
    (c.in-Some-last_start.ensures c.in_ok-place.place
    ∙ sym (place_made (c.in_ok-place-in-Some-last_start).field-0 c.in-Some-last_start.spot
    (c.in_ok-place-in-Some-last_start).ensures.path (c.in_ok-place-in-Some-last_start).ensures.offset))
    ∙ sym (stop_is (unit_views c.args.units.now) c.args.r path line c.in-Some.ensures.line c.args.goal)
