-- The base style: what names have before any style is read.
use Rattle.std.specs.Prelude.{ℕ, List, [], ◌∷◌, ◌++◌, map, codes}
use Rattle.tx_tree.specs.WideTree.{WideTree, leaf, node, forest}

-- a node with this label and these children
abbrev pub tag : List ℕ → List WideTree → WideTree
tag label parts = node label (forest parts)

abbrev pub assign_tag : WideTree → WideTree → WideTree
assign_tag name value = tag (codes "assign") (name ∷ value ∷ [])

-- ---- the tags that the base style is written with

-- what a name has, and an argument of a macro
abbrev value : List ℕ → WideTree
value name = tag (codes "value") (leaf name ∷ [])

abbrev arg : List ℕ → WideTree
arg name = tag (codes "arg") (leaf name ∷ [])

abbrev plus_tag : WideTree → List ℕ → WideTree
plus_tag t text = tag (codes "plus") (t ∷ leaf text ∷ [])

abbrev joined : List WideTree → WideTree
joined parts = tag (codes "concat") parts

-- a macro with the names of its arguments
abbrev macro_of : List (List ℕ) → WideTree → WideTree
macro_of names body = tag (codes "macro") (map leaf names ++ body ∷ [])

-- the tree, where one name has this text
abbrev styled : List ℕ → List ℕ → WideTree → WideTree
styled name text t = tag (codes "with") (leaf name ∷ leaf text ∷ t ∷ [])

-- the name has one more than it had
abbrev counted : List ℕ → WideTree
counted name = assign_tag (leaf name) (plus_tag (value name) (codes "1"))

-- what a margin has, and so much more
abbrev wider : List ℕ → List ℕ → List WideTree
wider margin by = leaf margin ∷ plus_tag (value margin) by ∷ []

-- a list whose items are of this kind, counted from one
abbrev list_of : List ℕ → WideTree
list_of kind =
    macro_of (codes "b" ∷ []) (tag (codes "with") (wider (codes "par-left") (codes "2spc")
    ++ leaf (codes "item-kind") ∷ leaf kind ∷ leaf (codes "item-nr") ∷ leaf (codes "0") ∷ arg (codes "b") ∷ []))

-- ---- the macros

abbrev section : WideTree
section =
    macro_of (codes "t" ∷ []) (joined (counted (codes "section-nr")
    ∷ assign_tag (leaf (codes "subsection-nr")) (leaf (codes "0"))
    ∷ styled (codes "font-series") (codes "bold")
    (joined (value (codes "section-nr") ∷ leaf (codes " ") ∷ arg (codes "t") ∷ [])) ∷ []))

abbrev subsection : WideTree
subsection =
    macro_of (codes "t" ∷ []) (joined (counted (codes "subsection-nr") ∷ styled (codes "font-series") (codes "bold")
    (joined (value (codes "section-nr") ∷ leaf (codes ".") ∷ value (codes "subsection-nr") ∷ leaf (codes " ")
    ∷ arg (codes "t") ∷ [])) ∷ []))

-- the number and a point in a list that is numbered, and else a dash
abbrev item : WideTree
item =
    macro_of [] (joined (counted (codes "item-nr") ∷ tag (codes "if")
    (tag (codes "equal") (value (codes "item-kind") ∷ leaf (codes "number") ∷ [])
    ∷ tag (codes "merge") (value (codes "item-nr") ∷ leaf (codes ". ") ∷ []) ∷ leaf (codes "- ") ∷ []) ∷ []))

abbrev quotation : WideTree
quotation =
    macro_of (codes "b" ∷ []) (tag (codes "with") (wider (codes "par-left") (codes "4spc")
    ++ wider (codes "par-right") (codes "4spc") ++ arg (codes "b") ∷ []))

abbrev fraction : WideTree
fraction =
    macro_of (codes "a" ∷ codes "b" ∷ []) (joined (leaf (codes "(") ∷ arg (codes "a") ∷ leaf (codes ")/(")
    ∷ arg (codes "b") ∷ leaf (codes ")") ∷ []))

abbrev root : WideTree
root = macro_of (codes "x" ∷ []) (joined (leaf (codes "sqrt(") ∷ arg (codes "x") ∷ leaf (codes ")") ∷ []))

-- a macro that shows its argument after a sign, and one that shows it styled
abbrev signed : List ℕ → WideTree
signed sign = macro_of (codes "x" ∷ []) (joined (leaf sign ∷ arg (codes "x") ∷ []))

abbrev styling : List ℕ → List ℕ → WideTree
styling name text = macro_of (codes "x" ∷ []) (styled name text (arg (codes "x")))

abbrev centred : WideTree
centred = macro_of (codes "b" ∷ []) (styled (codes "par-mode") (codes "center") (arg (codes "b")))

-- ---- the names, in the order in which they are assigned

unfoldable pub base_style : List (List ℕ × WideTree)
base_style =
    (codes "font-series", leaf (codes "medium"))
    ∷ (codes "font-shape", leaf (codes "right"))
    ∷ (codes "color", leaf (codes "black"))
    ∷ (codes "par-mode", leaf (codes "left"))
    ∷ (codes "par-left", leaf (codes "0mcell"))
    ∷ (codes "par-right", leaf (codes "0mcell"))
    ∷ (codes "par-first", leaf (codes "0mcell"))
    ∷ (codes "em", styling (codes "font-shape") (codes "italic"))
    ∷ (codes "strong", styling (codes "font-series") (codes "bold"))
    ∷ (codes "section-nr", leaf (codes "0"))
    ∷ (codes "subsection-nr", leaf (codes "0"))
    ∷ (codes "section", section)
    ∷ (codes "subsection", subsection)
    ∷ (codes "item-kind", leaf (codes "bullet"))
    ∷ (codes "item-nr", leaf (codes "0"))
    ∷ (codes "item", item)
    ∷ (codes "itemize", list_of (codes "bullet"))
    ∷ (codes "enumerate", list_of (codes "number"))
    ∷ (codes "quotation", quotation)
    ∷ (codes "center", centred)
    ∷ (codes "verbatim", styling (codes "font-family") (codes "tt"))
    ∷ (codes "math", styling (codes "mode") (codes "math"))
    ∷ (codes "frac", fraction)
    ∷ (codes "sqrt", root)
    ∷ (codes "rsub", signed (codes "_"))
    ∷ (codes "rsup", signed (codes "^"))
    ∷ []
