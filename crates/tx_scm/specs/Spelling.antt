-- Which bytes spell which wide tree in the Scheme syntax.
use Rattle.std.specs.Prelude.{◌≡◌, ℕ, Bool, true, ◌==◌, ◌||◌, if◌then◌else◌, List, [], ◌∷◌, ◌++◌}
use Rattle.std.specs.List.{AllByRecursion, flat_map}
use Rattle.tx_tree.specs.Texts.{IsText}
use Rattle.tx_tree.specs.Labels.{IsLabel}
use Rattle.tx_tree.specs.WideTree.{WideTree, Forest, leaf, node, nil, cons}

-- a tab, a newline, a return or a space
abbrev pub is_white : ℕ → Bool
is_white b = b == 9 || b == 10 || b == 13 || b == 32

abbrev pub AreWhite : List ℕ → Type 0
AreWhite = AllByRecursion (λ b. is_white b ≡ true)

-- a byte of a text as it is written in a string: a quote and a backslash after a backslash
abbrev pub escaped : ℕ → List ℕ
escaped b = if b == 34 || b == 92 then 92 ∷ b ∷ [] else b ∷ []

-- the string of a text: its bytes between quotes
abbrev pub string_of : List ℕ → List ℕ
string_of text = 34 ∷ (flat_map escaped text ++ 34 ∷ [])

-- The bytes are the tree, with no white round it. White may come after an opening bracket, before each child, and
-- before the closing bracket.
abbrev mutual
  pub SpellsTree : List ℕ → WideTree → Type 0
  SpellsTree bytes (leaf text) = IsText text × (bytes ≡ string_of text)
  SpellsTree bytes (node label ts) =
      (before children behind : List ℕ) × AreWhite before × IsLabel label × SpellsTrees children ts × AreWhite behind
      × (bytes ≡ 40 ∷ (before ++ (label ++ (children ++ (behind ++ 41 ∷ [])))))

  -- trees in order
  pub SpellsTrees : List ℕ → Forest → Type 0
  SpellsTrees bytes nil = bytes ≡ []
  SpellsTrees bytes (cons t ts) = (white first others : List ℕ) × AreWhite white × SpellsTree first t
      × SpellsTrees others ts × (bytes ≡ white ++ (first ++ others))

-- the bytes are the tree, with white on both sides
abbrev pub Spells : List ℕ → WideTree → Type 0
Spells bytes t = (before tree behind : List ℕ) × AreWhite before × SpellsTree tree t × AreWhite behind
    × (bytes ≡ before ++ (tree ++ behind))

-- the bytes spell this tree and no other wide tree
pub record SpellsAlone (bytes : List ℕ) (t : WideTree) : Type 0 where
  pub spelled : Spells bytes t
  pub alone : (u : WideTree) → Spells bytes u → u ≡ t
