-- Versions, as a document has one of the TeXmacs that wrote it.
use Rattle.std.specs.Prelude.{ℕ, Bool, false, ◌==◌, ◌&&◌, nat_le, if◌then◌else◌, List, [], ◌∷◌, length}
use Rattle.std.specs.Prelude.{Option, Some, None, option_map, option_and_then}
use Rattle.std.specs.Option.{option_map_or}
use Rattle.std.specs.List.{list_all, slice_split}
use Rattle.std.specs.Ordering.{is_lt, nat_cmp}
use Rattle.std.specs.Cmp.Lexicographic.{slice_cmp}
use Rattle.tx_tree.specs.PathSpelling.{is_digit, number_after}

-- one number of a version: one to nine digits
abbrev pub number_of_digits : List ℕ → Option ℕ
number_of_digits digits =
    if nat_le 1 (length digits) && nat_le (length digits) 9 && list_all is_digit digits
    then Some (number_after 0 digits)
    else None

-- the numbers that the pieces write, if each piece writes one
abbrev pub numbers_of : List (List ℕ) → Option (List ℕ)
numbers_of [] = Some []
numbers_of (piece ∷ pieces) =
    option_and_then (λ n. option_map (λ ns. n ∷ ns) (numbers_of pieces)) (number_of_digits piece)

abbrev pub is_point : ℕ → Bool
is_point b = b == 46

-- the numbers of a version, with points between them
abbrev pub version_of : List ℕ → Option (List ℕ)
version_of bytes = numbers_of (slice_split is_point bytes)

-- a version before 1.0.2, by the order of lists of numbers, where a proper prefix comes first
abbrev pub is_old_version : List ℕ → Bool
is_old_version bytes = option_map_or (λ ns. is_lt (slice_cmp nat_cmp ns (1 ∷ 0 ∷ 2 ∷ []))) (version_of bytes) false
