-- What a modification makes of a tree, limits aside.
use Rattle.std.specs.Prelude.{Option, option_and_then, option_map}
use Rattle.tx_tree.specs.Paths.{subtree}
use Rattle.tx_tree.specs.WideTree.{WideTree}
use Rattle.tx_mod.specs.declared.mods.Mod.{Mod}
use Rattle.tx_mod.specs.Mods.{path_of, replaced}
use Rattle.tx_mod.specs.Changes.{changed_at}
use Rattle.tx_mod.specs.Followed.{outcome_tree}

-- the changed tree, if the modification applies, limits aside
abbrev pub freely : Mod → WideTree → Option WideTree
freely m t =
    option_and_then (λ s. option_map (λ v. replaced t (path_of m) v) (outcome_tree (changed_at m s)))
    (subtree t (path_of m))
