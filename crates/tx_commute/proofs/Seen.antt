-- How far a tree goes, by what is seen of it.
use Rattle.std.proofs.Common.{◌≡◌, ℕ, List, length, Option, Some, None, refl, sym, ap}
use Rattle.tx_tree.specs.WideTree.{WideTree, leaf, node, children_of, text_of}
use Rattle.tx_mod.specs.Mods.{extent}

pub extent_of_text : (t : WideTree) (text : List ℕ) → text_of t ≡ Some text → length text ≡ extent t
extent_of_text (leaf words) text e = let same : words ≡ text = cc in ap length (sym same)
extent_of_text (node l ts) text e = absurd (cc)

pub extent_of_children : (t : WideTree) → text_of t ≡ None → length (children_of t) ≡ extent t
extent_of_children (leaf words) e = absurd (cc)
extent_of_children (node l ts) e = refl

pub ruleset seen = (extent_of_text, extent_of_children)
