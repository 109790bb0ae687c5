-- Nodes of lists, lines and blocks.
use Rattle.std.proofs.Common.{◌≡◌, ℕ, ◌+◌, Bool, List, [], ◌∷◌, ◌++◌, map, None, refl, ap, ◌∙◌, arith}
use Rattle.tx_tree.specs.WideTree.{WideTree, nodes_of}
use Rattle.tx_tm_form.specs.Parts.{tag, leaf_before}
use Rattle.tx_tm_form.specs.Growing.{CollectionEntry, Tags, tree_of_entry, Content, collecting, put_part}
use Rattle.tx_tm_content.specs.ContentNodes.{nodes_in, tags_nodes}

pub nodes_both : (ts us : List WideTree) → nodes_in (ts ++ us) ≡ nodes_in ts + nodes_in us
nodes_both [] us = omega arith
nodes_both (t ∷ ts) us = omega (arith, nodes_both ts us)

no_leaf_nodes : (s : List ℕ) → nodes_in (leaf_before s []) ≡ 0
no_leaf_nodes [] = refl
no_leaf_nodes (b ∷ s) = omega arith

pub line_trees : (ts : List WideTree) (s : List ℕ) → nodes_in (ts ++ leaf_before s []) ≡ nodes_in ts
line_trees ts s = omega (arith, nodes_both ts (leaf_before s []), no_leaf_nodes s)

pub entries_nodes : (es : List CollectionEntry) (e : CollectionEntry)
    → nodes_in (map tree_of_entry (es ++ e ∷ [])) ≡ nodes_in (map tree_of_entry es) + nodes_of e.tree
entries_nodes [] e = omega arith
entries_nodes (d ∷ es) e = omega (arith, entries_nodes es e)

same_tags : (x y : Tags) → (let c : Content = collecting x in c) ≡ collecting y → x ≡ y
same_tags x y e = cc

pub tag_more : (x y : Tags) (c : Bool) (t : WideTree)
    → (let z : Content = collecting x in z) ≡ put_part (collecting y) (tag c t)
    → tags_nodes x ≡ tags_nodes y + nodes_of t
tag_more x y c t e =
    ap tags_nodes
    (same_tags x
    (record { entries = y.entries ++ record { before = y.run; collects = c; tree = t } ∷ []; run = None }) e)
    ∙ entries_nodes y.entries (record { before = y.run; collects = c; tree = t })
