-- Which of some places is this one.
use Rattle.std.specs.Prelude.{ℕ, ◌==◌, Bool, ◌&&◌, List, Option}
use Rattle.std.specs.List.{position}
use Rattle.std.specs.Str.{bytes_eq}
use Rattle.tx_tree.specs.declared.places.Place.{Place}

-- the paths and the offsets are equal
abbrev pub same_place : Place → Place → Bool
same_place a b = bytes_eq a.path b.path && (a.offset == b.offset)

-- the number of the first of these places that is this one
abbrev pub stop_number : List Place → Place → Option ℕ
stop_number stops at = position (same_place at) stops
