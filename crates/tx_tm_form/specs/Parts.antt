-- What content, blocks and tags stand for.
use Rattle.std.specs.Prelude.{ℕ, Bool, true, false, ◌==◌, ◌&&◌, if◌then◌else◌, List, [], ◌∷◌, ◌++◌, map}
use Rattle.tx_tree.specs.WideTree.{WideTree, leaf, node, forest}
use Rattle.tx_tm_form.specs.Bytes.{joint_run}
use Rattle.tx_tm_form.specs.declared.bytes.White.{White}
use Rattle.tx_tm_form.specs.declared.bytes.White.TheVariants.{Break}

-- a part of content: white, an item by its bytes in a text (the mark has none), or a tag, which may be a collection tag
pub data ContentPart : Type 0 where
  gap : (white : White) → ContentPart
  text : (bytes : List ℕ) → ContentPart
  tag : (collects : Bool) (tree : WideTree) → ContentPart

abbrev pub concat_label : List ℕ
concat_label = 99 ∷ 111 ∷ 110 ∷ 99 ∷ 97 ∷ 116 ∷ []

abbrev pub document_label : List ℕ
document_label = 100 ∷ 111 ∷ 99 ∷ 117 ∷ 109 ∷ 101 ∷ 110 ∷ 116 ∷ []

abbrev pub collection_label : List ℕ
collection_label = 99 ∷ 111 ∷ 108 ∷ 108 ∷ 101 ∷ 99 ∷ 116 ∷ 105 ∷ 111 ∷ 110 ∷ []

abbrev pub raw_data_label : List ℕ
raw_data_label = 114 ∷ 97 ∷ 119 ∷ 45 ∷ 100 ∷ 97 ∷ 116 ∷ 97 ∷ []

-- ---- content

-- no leaf for no bytes
abbrev pub leaf_before : List ℕ → List WideTree → List WideTree
leaf_before [] ts = ts
leaf_before (b ∷ bytes) ts = leaf (b ∷ bytes) ∷ ts

-- The texts and tags, after the bytes of a text. Items side by side are one text, and each run is one space.
abbrev pub texts_and_tags : Bool → List ℕ → List ContentPart → List WideTree
texts_and_tags in_run bytes [] = leaf_before bytes []
texts_and_tags in_run bytes (gap w ∷ ps) = texts_and_tags true (if in_run then bytes else bytes ++ 32 ∷ []) ps
texts_and_tags in_run bytes (text x ∷ ps) = texts_and_tags false (bytes ++ x) ps
texts_and_tags in_run bytes (tag c t ∷ ps) = leaf_before bytes (t ∷ texts_and_tags false [] ps)

-- the empty text, the one text or tag, or all in order
abbrev pub concat_of : List WideTree → WideTree
concat_of [] = leaf []
concat_of (t ∷ []) = t
concat_of (t ∷ u ∷ ts) = node concat_label (forest (t ∷ u ∷ ts))

unfoldable pub content : List ContentPart → WideTree
content ps = concat_of (texts_and_tags false [] ps)

-- ---- blocks

-- white side by side is one run
abbrev pub run_before : ContentPart → List ContentPart → List ContentPart
run_before (gap v) (gap w ∷ ps) = gap (joint_run v w) ∷ ps
run_before p ps = p ∷ ps

abbrev pub with_runs : List ContentPart → List ContentPart
with_runs [] = []
with_runs (p ∷ ps) = run_before p (with_runs ps)

-- runs at the edges are dropped
abbrev pub from_first : List ContentPart → List ContentPart
from_first (gap w ∷ ps) = ps
from_first ps = ps

abbrev pub unless_last : ContentPart → List ContentPart → List ContentPart
unless_last (gap w) [] = []
unless_last p ps = p ∷ ps

abbrev pub to_last : List ContentPart → List ContentPart
to_last [] = []
to_last (p ∷ ps) = unless_last p (to_last ps)

-- runs with two or more bytes 10 separate paragraphs
abbrev pub into_first : ContentPart → List (List ContentPart) → List (List ContentPart)
into_first p [] = (p ∷ []) ∷ []
into_first p (q ∷ qs) = (p ∷ q) ∷ qs

abbrev pub separate : White → List (List ContentPart) → List (List ContentPart)
separate Break qs = [] ∷ qs
separate w qs = into_first (gap w) qs

abbrev pub parts_by_paragraph : List ContentPart → List (List ContentPart)
parts_by_paragraph [] = []
parts_by_paragraph (gap w ∷ ps) = separate w (parts_by_paragraph ps)
parts_by_paragraph (p ∷ ps) = into_first p (parts_by_paragraph ps)

-- the collection that is alone, or a document, in which the empty text stands for no paragraphs
abbrev pub tree_of_document : List (List ContentPart) → WideTree
tree_of_document [] = node document_label (forest (leaf [] ∷ []))
tree_of_document ((tag true t ∷ []) ∷ []) = t
tree_of_document qs = node document_label (forest (map content qs))

unfoldable pub block : List ContentPart → WideTree
block ps = tree_of_document (parts_by_paragraph (to_last (from_first (with_runs ps))))

-- ---- long tags

abbrev pub has_no_items : List ContentPart → Bool
has_no_items [] = true
has_no_items (text x ∷ ps) = false
has_no_items (p ∷ ps) = has_no_items ps

abbrev pub tag_trees : List ContentPart → List WideTree
tag_trees [] = []
tag_trees (tag c t ∷ ps) = t ∷ tag_trees ps
tag_trees (p ∷ ps) = tag_trees ps

abbrev pub same_bytes : List ℕ → List ℕ → Bool
same_bytes [] [] = true
same_bytes [] (c ∷ cs) = false
same_bytes (b ∷ bs) [] = false
same_bytes (b ∷ bs) (c ∷ cs) = b == c && same_bytes bs cs

abbrev pub none : List WideTree → Bool
none [] = true
none (t ∷ ts) = false

-- A long tag by its first block and the children before and after that: a collection tag, or a node with all children.
unfoldable pub long_tag : List ℕ → List WideTree → List ContentPart → List WideTree → ContentPart
long_tag label before first behind =
    if same_bytes label collection_label && none before && none behind && has_no_items first
    then tag true (node collection_label (forest (tag_trees first)))
    else tag false (node label (forest (before ++ block first ∷ behind)))
