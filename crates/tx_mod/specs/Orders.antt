-- The order of the paths of a document, and what keeps it.
use Rattle.std.specs.Prelude.{◌≡◌, ℕ, ◌<◌, ◌⊎◌, List, [], ◌∷◌, Some}
use Rattle.tx_tree.specs.Paths.{subtree}
use Rattle.tx_tree.specs.WideTree.{WideTree}
use Rattle.tx_mod.specs.declared.mods.Mod.{Mod}
use Rattle.tx_mod.specs.Moves.{carried_path}

-- the order of the document: a tree is before those in it, and these are before the next tree
abbrev pub IsBefore : List ℕ → List ℕ → Type 0
IsBefore [] [] = ⊥
IsBefore [] (j ∷ q) = Unit {0}
IsBefore (i ∷ p) [] = ⊥
IsBefore (i ∷ p) (j ∷ q) = (i < j) ⊎ ((i ≡ j) × IsBefore p q)

-- where two trees are in order, the modification carries the first before the second
abbrev pub KeepsOrder : Mod → WideTree → List ℕ → List ℕ → Type 0
KeepsOrder m t q r = (x y : WideTree) (q1 r1 : List ℕ) → subtree t q ≡ Some x → subtree t r ≡ Some y
    → IsBefore q r → carried_path m t q ≡ Some q1 → carried_path m t r ≡ Some r1 → IsBefore q1 r1
