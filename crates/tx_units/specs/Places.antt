-- Where the units of a body are.
use Rattle.std.specs.Prelude.{◌≡◌, ℕ, List, [], ◌∷◌, ◌++◌, Option, Some}
use Rattle.std.specs.List.{AllByRecursion}
use Rattle.tx_tree.specs.Paths.{subtree}
use Rattle.tx_tree.specs.WideTree.{WideTree}
use Rattle.tx_units.specs.declared.kinds.Unit.{Unit as DocUnit}
use Rattle.tx_units.specs.declared.kinds.UnitKind.TheVariants.{Body}

-- the unit is a paragraph of the document: its tree is at its path, and the root is its origin
pub record UnitStandsIn (document : WideTree) (u : DocUnit) : Type 0 where
  pub path : List ℕ
  pub has_path : u.path ≡ Some path
  pub leads : subtree document path ≡ Some u.tagged.tree
  pub at_root : u.tagged.at ≡ Some []
  pub is_body : u.kind ≡ Body

-- no path is another, or begins it
abbrev pub AreApart : Option (List ℕ) → Option (List ℕ) → Type 0
AreApart p q = (path more : List ℕ)
    → (p ≡ Some path → q ≡ Some (path ++ more) → ⊥) × (q ≡ Some path → p ≡ Some (path ++ more) → ⊥)

abbrev pub NoneBegins : List DocUnit → Type 0
NoneBegins [] = Unit {0}
NoneBegins (u ∷ us) = AllByRecursion (λ v. AreApart u.path v.path) us × NoneBegins us
