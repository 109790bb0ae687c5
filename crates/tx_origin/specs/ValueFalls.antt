-- Each part of a value is less deep than the value.
use Rattle.std.specs.Prelude.{◌+◌, ◌≤◌, max, List, [], ◌∷◌}
use Rattle.std.proofs.Common.{arith}
use denote.Param.Weighed.{most}
use Rattle.tx_tree.specs.WideTree.{depth_of, deepest}
use Rattle.tx_origin.specs.Values.{WideValue, vals, plain, plains}
use Rattle.tx_origin.specs.declared.values.Content.{Content}
use Rattle.tx_origin.specs.declared.values.Content.TheVariants.{Text, Node}
use Rattle.tx_origin.specs.declared.values.Value.TheDeep.{deep-Content}
use Rattle.tx_origin.specs.ValueView.{wide_value_of}

pub most_le-deepest : (vs : List WideValue) → most (λ v. depth_of (plain v) + 1) vs ≤ deepest (plains (vals vs)) + 1
most_le-deepest [] = omega arith
most_le-deepest (v ∷ vs) = omega (arith, most_le-deepest vs)

pub depth_falls : (c : Content) → max (deep-Content c) 0 ≤ depth_of (plain (wide_value_of c))
depth_falls (Text words at) = omega arith
depth_falls (Node label parts at from) = omega (arith, most_le-deepest parts.items)
