-- The numbers of `arg`, `quote-arg` and `map-args`, and the parts to which they lead.
use Rattle.std.specs.Prelude.{ℕ, ◌-◌, ◌&&◌, nat_le, if◌then◌else◌, ℤ, pos, negsuc, List, [], ◌∷◌, Option, Some}
use Rattle.std.specs.Prelude.{None, option_and_then, slice_get}
use Rattle.std.specs.List.{range_with_len}
use Rattle.std.specs.Option.{option_map}
use Rattle.tx_prim.specs.Numbers.{integer_of}
use Rattle.tx_origin.specs.Values.{WideValue, value_text}
use Rattle.tx_origin.specs.TaggedTrees.{TaggedTree, kids_of}

-- the number that a value is
abbrev pub value_number : WideValue → Option ℤ
value_number v = option_and_then integer_of (value_text v)

-- each of the values as a number, or None where one of them is none
abbrev pub integers_of : List WideValue → Option (List ℤ)
integers_of [] = Some []
integers_of (v ∷ vs) = option_and_then (λ n. option_map (λ ns. n ∷ ns) (integers_of vs)) (value_number v)

-- the tree of this number
abbrev pub tree_at : List TaggedTree → ℤ → Option TaggedTree
tree_at ts (pos i) = slice_get ts i
tree_at ts (negsuc i) = None

-- the child of this number, with its origin
abbrev pub kid_at : TaggedTree → ℤ → Option TaggedTree
kid_at t n = tree_at (kids_of t) n

-- the part to which the numbers lead
abbrev pub part_of : TaggedTree → List ℤ → Option TaggedTree
part_of t [] = Some t
part_of t (n ∷ ns) = option_and_then (λ u. part_of u ns) (kid_at t n)

-- the part among several trees: the first number picks one, and the others lead on
abbrev pub part_among : List TaggedTree → ℤ → List ℤ → Option TaggedTree
part_among ts n ns = option_and_then (λ u. part_of u ns) (tree_at ts n)

-- `map-args` goes from its first number, or 0
abbrev pub from_number : List ℤ → ℤ
from_number [] = pos 0
from_number (a ∷ ns) = a

-- to before its second number, or before the number of parts
abbrev pub to_number : ℕ → List ℤ → ℤ
to_number count [] = pos count
to_number count (a ∷ []) = pos count
to_number count (a ∷ b ∷ ns) = b

-- the numbers from a to before b, where 0, a, b and the number of parts are in rising order
abbrev pub numbers_between : ℕ → ℤ → ℤ → Option (List ℕ)
numbers_between count (pos a) (pos b) = if nat_le a b && nat_le b count then Some (range_with_len a (b - a)) else None
numbers_between count a b = None
