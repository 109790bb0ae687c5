-- Lists of units as documents have them.
use Rattle.std.specs.Prelude.{◌≡◌, ℕ, Bool, true, false, [], ◌∷◌, List, Some, None, is_some, filter, filter_map}
use Rattle.std.specs.Option.{option_map}
use Rattle.std.specs.List.{AllByRecursion}
use Rattle.tx_tree.specs.Paths.{subtree}
use Rattle.tx_tree.specs.WideTree.{WideTree}
use Rattle.tx_mod.specs.Moves.{rest_behind}
use Rattle.tx_mod.specs.Orders.{IsBefore}
use Rattle.tx_units.specs.declared.kinds.Unit.{Unit as DocUnit}
use Rattle.tx_units.specs.declared.kinds.UnitKind.{UnitKind}
use Rattle.tx_units.specs.declared.kinds.UnitKind.TheVariants.{Base, Style, Absent, Initial, Body}

abbrev pub is_body : UnitKind → Bool
is_body Base = false
is_body (Style k) = false
is_body Absent = false
is_body Initial = false
is_body Body = true

-- A paragraph of the body has a path, and the root is its origin. No other unit has a path or an origin.
pub record HasPathIfBody (u : DocUnit) : Type 0 where
  pub path : is_some u.path ≡ is_body u.kind
  pub origin : u.tagged.at ≡ option_map (λ _. []) u.path

-- the paths of the paragraphs
abbrev pub paths_of : List DocUnit → List (List ℕ)
paths_of us = filter_map (λ u. u.path) us

-- the paragraphs
abbrev pub paragraphs_of : List DocUnit → List DocUnit
paragraphs_of us = filter (λ u. is_some u.path) us

-- the tree at p, with all trees in it, is before that at q
pub record IsApart (p q : List ℕ) : Type 0 where
  pub before : IsBefore p q
  pub outside : rest_behind p q ≡ None

-- each tree is before those that follow it
abbrev pub AreApart : List (List ℕ) → Type 0
AreApart [] = Unit {0}
AreApart (p ∷ ps) = AllByRecursion (IsApart p) ps × AreApart ps

-- the paragraphs of the body, and no others, have paths, and are in the order of the document
pub record AreUnits (us : List DocUnit) : Type 0 where
  pub placed : AllByRecursion HasPathIfBody us
  pub apart : AreApart (paths_of us)

-- ---- in a document

-- the document has the unit's tree at its path
abbrev pub Stands : WideTree → DocUnit → Type 0
Stands t u = (p : List ℕ) → u.path ≡ Some p → subtree t p ≡ Some u.tagged.tree

abbrev pub AllStand : WideTree → List DocUnit → Type 0
AllStand t us = AllByRecursion (Stands t) us
