-- Where the keys left and right lead among the stops of a view.
use Rattle.std.specs.Prelude.{ℕ, zero, suc, ◌+◌, List, Option, Some, None, Result, Ok, Err, slice_get}
use Rattle.std.specs.Option.{option_map_or}
use Rattle.tx_tree.specs.SamePlaces.{stop_number}
use Rattle.tx_tree.specs.declared.places.Place.{Place}
use Rattle.tx_edit.specs.declared.faults.EditFault.{EditFault}
use Rattle.tx_edit.specs.declared.faults.EditFault.TheVariants.{AtStart, AtEnd}
use Rattle.tx_edit.specs.declared.moves.Move.{Move}
use Rattle.tx_edit.specs.declared.moves.Move.TheVariants.{Go}

-- to stop k, or the cause why not where there is none
abbrev pub to_stop : List Place → ℕ → EditFault → Result Move EditFault
to_stop stops k cause = option_map_or (λ stop. Ok (Go stop)) (slice_get stops k) (Err cause)

abbrev pub to_left_of : List Place → Option ℕ → Result Move EditFault
to_left_of stops None = to_stop stops 0 AtStart
to_left_of stops (Some zero) = Err AtStart
to_left_of stops (Some (suc k)) = to_stop stops k AtStart

-- the stop before the first one that is this place, or the first of all where none is
abbrev pub to_left : List Place → Place → Result Move EditFault
to_left stops at = to_left_of stops (stop_number stops at)

abbrev pub to_right_of : List Place → Option ℕ → Result Move EditFault
to_right_of stops None = to_stop stops 0 AtEnd
to_right_of stops (Some k) = to_stop stops (k + 1) AtEnd

-- the stop after the first one that is this place, or the first of all where none is
abbrev pub to_right : List Place → Place → Result Move EditFault
to_right stops at = to_right_of stops (stop_number stops at)
