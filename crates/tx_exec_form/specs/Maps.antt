-- Finite maps from names. They are canonical: two that have the same at each name are equal.
use Rattle.std.specs.Prelude.{Option, if◌then◌else◌}
use Rattle.std.specs.Ordering.{nat_cmp}
use Rattle.std.specs.Cmp.Lexicographic.{slice_cmp}
use Rattle.std.specs.FinMap.{FinMap, contains_key, insert}
use Rattle.tx_tree.specs.WideTree.{WideTree}
use Rattle.tx_env.specs.Pairs.{Name}

abbrev pub Map : Type 0 → Type 0
Map X = FinMap (slice_cmp nat_cmp) X

-- what names were found to have: a tree, or nothing
abbrev pub LookMap : Type 0
LookMap = Map (Option WideTree)

-- with this look, where the name has none yet
abbrev pub noted : LookMap → Name → Option WideTree → LookMap
noted looks x t = if contains_key looks x then looks else insert looks x t
