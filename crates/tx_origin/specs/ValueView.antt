-- A value of the program as a value without limits.
use Rattle.std.specs.Prelude.{◌≡◌}
use Rattle.tx_tree.specs.WideTree.{size_of, depth_of, nodes_of}
use Rattle.tx_tree.specs.Limits.{IsWellFormed, IsWithinLimits}
use Rattle.tx_origin.specs.Values.{WideValue, text, made, vals, plain, IsFrom}
use Rattle.tx_origin.specs.declared.values.Content.{Content}
use Rattle.tx_origin.specs.declared.values.Content.TheVariants.{Text, Node}
use Rattle.tx_origin.specs.declared.values.Value.TheInside.{Inside}

abbrev pub wide_value_of : Content → WideValue
wide_value_of (Text words at) = text words at
wide_value_of (Node label parts at from) = made label (vals parts.items) at

-- a node that was taken from a tree is that tree without origins
abbrev pub IsTaken : Content → Type 0
IsTaken (Text words at) = Unit {0}
IsTaken (Node label parts at from) = IsFrom label parts.items from

-- the stored numbers are right, and the tree is within the limits
pub record IsKept (v : Inside) : Type 0 where
  pub size : v.size ≡ size_of (plain (wide_value_of v.content.value))
  pub depth : v.depth ≡ depth_of (plain (wide_value_of v.content.value))
  pub nodes : v.nodes ≡ nodes_of (plain (wide_value_of v.content.value))
  pub well_formed : IsWellFormed (plain (wide_value_of v.content.value))
  pub within : IsWithinLimits (plain (wide_value_of v.content.value))
  pub taken : IsTaken v.content.value
