-- The tree of the document, of which the text is the canonical one.
use Rattle.std.specs.Prelude.{ℕ, ◌+◌, ◌*◌, ◌/◌, ◌%◌, ◌==◌, if◌then◌else◌, List, [], ◌∷◌, ◌++◌, map, codes}
use Rattle.std.specs.List.{range_with_len}
use Rattle.tx_tree.specs.WideTree.{WideTree, leaf, node, forest}
use Rattle.tx_tm_form.specs.Parts.{concat_label, document_label}
use Rattle.tx_generated.specs.Document.{drawn_number, more_words, word}

abbrev pub assignment_tree : List ℕ → WideTree
assignment_tree text = node (codes "assign") (forest (leaf (codes "v") ∷ leaf text ∷ []))

-- a tag and a text after it
abbrev pub before_text : WideTree → List ℕ → WideTree
before_text tag text = node concat_label (forest (tag ∷ leaf text ∷ []))

-- a paragraph by its kind, its first word and what is after that
abbrev pub paragraph_of : ℕ → List ℕ → List ℕ → WideTree
paragraph_of kind w more =
    if kind == 0 then leaf (w ++ more)
    else if kind == 1 then before_text (node (codes "em") (forest (leaf w ∷ []))) more
    else if kind == 2 then before_text (assignment_tree w) (w ++ more)
    else before_text (node (codes "value") (forest (leaf (codes "v") ∷ []))) (codes " " ++ w ++ more)

abbrev pub paragraph_tree : ℕ → WideTree
paragraph_tree drawn =
    paragraph_of (drawn / 64 % 4) (word (drawn % 8)) (more_words (drawn % 8) (2 * (drawn / 8 % 8) + 1))

-- an assignment, and so many paragraphs after it
abbrev pub paragraph_trees : ℕ → ℕ → List WideTree
paragraph_trees number count =
    assignment_tree (codes "tree") ∷ map (λ i. paragraph_tree (drawn_number number i)) (range_with_len 1 count)

abbrev pub document : ℕ → ℕ → WideTree
document number count = node document_label (forest (paragraph_trees number count))
