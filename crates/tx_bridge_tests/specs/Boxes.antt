-- A box: a tag with one child, whose label has a macro of two layers round its argument.
use Rattle.std.specs.Prelude.{Bool, false, List, [], ◌∷◌, Some, None, if◌then◌else◌, codes}
use Rattle.tx_tree.specs.WideTree.{WideTree, leaf, node, forest, children_of}
use Rattle.tx_parts.specs.Shells.{Layer, Shell, Opener}
use Rattle.tx_walk.specs.SameTrees.{is_same}

-- (value "m")
abbrev pub value_of_m : WideTree
value_of_m = node (codes "value") (forest (leaf (codes "m") ∷ []))

-- (with "n" (value "m") (arg "x"))
abbrev pub inner_body : WideTree
inner_body = node (codes "with") (forest (leaf (codes "n") ∷ value_of_m
    ∷ node (codes "arg") (forest (leaf (codes "x") ∷ [])) ∷ []))

-- (with "color" "red" ..)
abbrev pub outer_body : WideTree
outer_body = node (codes "with") (forest (leaf (codes "color") ∷ leaf (codes "red") ∷ inner_body ∷ []))

-- (macro "x" (with "color" "red" (with "n" (value "m") (arg "x"))))
abbrev pub box_macro : WideTree
box_macro = node (codes "macro") (forest (leaf (codes "x") ∷ outer_body ∷ []))

-- round a tag's one child the color is `red`, and `n` has what `m` has
abbrev pub box_layers : List Layer
box_layers = record { names = codes "color" ∷ []; trees = leaf (codes "red") ∷ [] }
    ∷ record { names = codes "n" ∷ []; trees = value_of_m ∷ [] } ∷ []

abbrev pub box_shell : Shell
box_shell = record { layers = box_layers; inner = 0 }

abbrev pub is_box : List WideTree → WideTree → Bool
is_box (t ∷ []) meaning = is_same meaning box_macro
is_box others meaning = false

abbrev pub opens_boxes : Opener
opens_boxes tag meaning = if is_box (children_of tag) meaning then Some box_shell else None
