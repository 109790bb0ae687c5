-- Trees and values whose origins are put under a path.
use Rattle.std.specs.Prelude.{ℕ, List, ◌++◌, Option}
use Rattle.std.specs.Option.{option_map}
use Rattle.tx_origin.specs.Values.{WideValue, WideValues, text, made, none, also}
use Rattle.tx_origin.specs.TaggedTrees.{TaggedTree}

abbrev pub origin_under : List ℕ → Option (List ℕ) → Option (List ℕ)
origin_under base at = option_map (λ p. base ++ p) at

abbrev pub tree_under : List ℕ → TaggedTree → TaggedTree
tree_under base t = record { tree = t.tree; at = origin_under base t.at }

-- each origin of the value
abbrev mutual
  pub value_under : List ℕ → WideValue → WideValue
  value_under base (text words at) = text words (origin_under base at)
  value_under base (made label parts at) = made label (values_under base parts) (origin_under base at)

  pub values_under : List ℕ → WideValues → WideValues
  values_under base none = none
  values_under base (also v vs) = also (value_under base v) (values_under base vs)
