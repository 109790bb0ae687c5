-- The parts of a document: its sections, the styles that it names, and its paragraphs.
use Rattle.std.specs.Prelude.{ℕ, Bool, not, ◌++◌, if◌then◌else◌, List, [], ◌∷◌, codes, Option, Some, None}
use Rattle.std.specs.Prelude.{option_and_then, slice_get}
use Rattle.std.specs.List.{find, filter, filter_map, list_any}
use Rattle.std.specs.Option.{option_map_or}
use Rattle.std.specs.Str.{bytes_eq}
use Rattle.tx_tree.specs.WideTree.{WideTree, leaf, node, trees, children_of, text_of}
use Rattle.tx_tree.specs.Paths.{subtree}
use Rattle.tx_doc.specs.Bodies.{is_labelled, body_of}

abbrev pub is_document : WideTree → Bool
is_document t = is_labelled (codes "document") t

-- child 0 of the first child with this label, where the root is a `document`
abbrev pub section : List ℕ → WideTree → Option WideTree
section label t =
    if is_document t
    then option_and_then (λ part. slice_get (children_of part) 0) (find (is_labelled label) (children_of t)) else None

-- ---- styles

-- a text is a name, and a `tuple` has the names that are among its children
abbrev pub names_in : WideTree → List (List ℕ)
names_in (leaf text) = text ∷ []
names_in (node label ts) = if bytes_eq label (codes "tuple") then filter_map text_of (trees ts) else []

-- the names, each once, where it first is
abbrev pub each_once : List (List ℕ) → List (List ℕ)
each_once [] = []
each_once (name ∷ names) = name ∷ filter (λ other. not (bytes_eq other name)) (each_once names)

-- the names, and after them another that isn't one of them
abbrev pub put_name : List (List ℕ) → Option (List ℕ) → List (List ℕ)
put_name names None = names
put_name names (Some name) = if list_any (bytes_eq name) names then names else names ++ name ∷ []

-- the styles that a document with this tree names
abbrev pub style_names : WideTree → List (List ℕ)
style_names t = each_once (option_map_or names_in (section (codes "style") t) [])

-- ---- the initial environment

-- the children of the `collection`
abbrev pub entries : WideTree → List WideTree
entries t =
    option_map_or (λ c. if is_labelled (codes "collection") c then children_of c else [])
    (section (codes "initial") t) []

-- ---- the body

-- the paragraphs of a body: the children of a `document`, and any other tree is one
abbrev pub paragraphs_in : WideTree → List WideTree
paragraphs_in body = if is_document body then children_of body else body ∷ []

-- the paragraphs of a buffer with this tree, none where its `body` is empty
abbrev pub paragraphs : WideTree → List WideTree
paragraphs t = option_map_or (λ path. option_map_or paragraphs_in (subtree t path) []) (body_of t) []
