-- Modifications whose parts are well formed.
use Rattle.std.specs.Prelude.{◌≡◌, Ok}
use Rattle.tx_tree.specs.Labels.{IsLabel}
use Rattle.tx_tree.specs.Limits.{IsWellFormed, IsWithinLimits}
use Rattle.tx_tree.specs.WideTree.{WideTree}
use Rattle.tx_mod.specs.declared.mods.Mod.{Mod}
use Rattle.tx_mod.specs.declared.mods.Mod.TheVariants.{Assign, Insert, Remove, Split, Join}
use Rattle.tx_mod.specs.declared.mods.Mod.TheVariants.{AssignNode, InsertNode, RemoveNode}
use Rattle.tx_mod.specs.Changes.{changed}
use Rattle.tx_mod.specs.Inverses.{inverse_of}

-- a tree that is put in is well formed, and a label that is given is a label
abbrev pub IsSoundMod : Mod → Type 0
IsSoundMod (Assign p x) = IsWellFormed x
IsSoundMod (Insert p i x) = IsWellFormed x
IsSoundMod (Remove p i n) = Unit {0}
IsSoundMod (Split p i j) = Unit {0}
IsSoundMod (Join p i) = Unit {0}
IsSoundMod (AssignNode p l) = IsLabel l
IsSoundMod (InsertNode p i x) = IsWellFormed x
IsSoundMod (RemoveNode p i) = Unit {0}

-- what a modification makes of a well formed tree is well formed and within the limits
abbrev pub StaysWellFormed : Mod → WideTree → Type 0
StaysWellFormed m t =
    (u : WideTree) → IsSoundMod m → IsWellFormed t → changed m t ≡ Ok u → IsWellFormed u × IsWithinLimits u

-- what undoes a modification gives the tree back
abbrev pub GivesBack : Mod → WideTree → Type 0
GivesBack m t = (u : WideTree) → IsSoundMod m → IsWellFormed t → IsWithinLimits t → changed m t ≡ Ok u
    → changed (inverse_of m t) u ≡ Ok t

-- what undoes the undoing, in the changed tree, is the modification itself
abbrev pub IsMadeAgain : Mod → WideTree → Type 0
IsMadeAgain m t = (u : WideTree) → changed m t ≡ Ok u → inverse_of (inverse_of m t) u ≡ m
