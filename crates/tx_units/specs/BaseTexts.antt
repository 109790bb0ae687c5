-- Texts in the Scheme syntax, and the units whose trees they spell. Private clauses cite them.
use Rattle.std.specs.Prelude.{◌≡◌, ℕ, List, [], ◌∷◌}
use Rattle.tx_scm.specs.Spelling.{Spells}
use Rattle.tx_tree.specs.Limits.{IsWithinLimits}
use Rattle.tx_tree.specs.WideTree.{WideTree}
use Rattle.tx_units.specs.Units.{unit}
use Rattle.tx_units.specs.declared.kinds.Unit.{Unit as DocUnit}
use Rattle.tx_units.specs.declared.kinds.UnitKind.TheVariants.{Base}

-- the text spells a tree within the limits
pub record IsSpelled (text : List ℕ) : Type 0 where
  pub tree : WideTree
  pub spelled : Spells text tree
  pub within : IsWithinLimits tree

abbrev pub AreSpelled : List (List ℕ) → Type 0
AreSpelled [] = Unit {0}
AreSpelled (text ∷ texts) = IsSpelled text × AreSpelled texts

-- the unit is one of the base style, and the text spells its tree
pub record IsOfText (text : List ℕ) (u : DocUnit) : Type 0 where
  pub spelled : Spells text u.tagged.tree
  pub is : u ≡ unit Base u.tagged.tree

abbrev pub AreOfTexts : List (List ℕ) → List DocUnit → Type 0
AreOfTexts [] [] = Unit {0}
AreOfTexts [] (u ∷ us) = ⊥
AreOfTexts (text ∷ texts) [] = ⊥
AreOfTexts (text ∷ texts) (u ∷ us) = IsOfText text u × AreOfTexts texts us
