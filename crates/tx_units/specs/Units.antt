-- The units of buffers: the trees that are evaluated in order.
use Rattle.std.specs.Prelude.{ℕ, zero, suc, ◌+◌, List, [], ◌∷◌, ◌++◌, map, drop, codes, if◌then◌else◌, Some, None}
use Rattle.std.specs.List.{flat_map, enumerate_from, sum_by}
use Rattle.std.specs.Option.{option_map_or}
use Rattle.std.specs.Str.{bytes_eq}
use Rattle.tx_tree.specs.WideTree.{WideTree, leaf, node, nil, cons, children_of, nodes_of}
use Rattle.tx_tree.specs.Paths.{subtree}
use Rattle.tx_doc.specs.Bodies.{body_of}
use Rattle.tx_doc.specs.Buffers.{tree_of, document_of, number_of}
use Rattle.tx_doc.specs.declared.buffer.Buffer.{Buffer}
use Rattle.tx_units.specs.BaseStyle.{tag, assign_tag, base_style}
use Rattle.tx_units.specs.Documents.{is_document, style_names, entries, paragraphs}
use Rattle.tx_units.specs.declared.kinds.Unit.{Unit as DocUnit}
use Rattle.tx_units.specs.declared.kinds.UnitKind.{UnitKind}
use Rattle.tx_units.specs.declared.kinds.UnitKind.TheVariants.{Base, Style, Absent, Initial, Body}

-- a unit that is no paragraph of the document: without an origin, and without a path
abbrev pub unit : UnitKind → WideTree → DocUnit
unit kind t = record { kind = kind; tagged = record { tree = t; at = None }; path = None }

-- a paragraph of the document: the root is its origin, and it has its path in the document
abbrev pub body_unit : WideTree → List ℕ → DocUnit
body_unit t path = record { kind = Body; tagged = record { tree = t; at = Some [] }; path = Some path }

-- ---- the base style

unfoldable pub base_units : List DocUnit
base_units = map (λ row. unit Base (assign_tag (leaf row.0) row.1)) base_style

-- ---- styles

-- the paragraphs of the style in buffer k
abbrev pub loaded_units : ℕ → WideTree → List DocUnit
loaded_units k t = map (unit (Style k)) (paragraphs t)

-- the error in place of a style that isn't loaded
abbrev pub absent_unit : List ℕ → DocUnit
absent_unit name = unit Absent (tag (codes "error") (leaf (codes "undefined-style") ∷ leaf name ∷ []))

-- what a name gives. The loaded styles are buffer 1 and those after it; `generic` is none.
abbrev pub named_units : List Buffer → List ℕ → List DocUnit
named_units styles name =
    if bytes_eq name (codes "generic") then []
    else option_map_or (λ k. loaded_units (k + 1) (tree_of styles k)) (number_of styles name) (absent_unit name ∷ [])

-- what the names give, in the order in which the document has them
abbrev pub style_units : WideTree → List Buffer → List DocUnit
style_units document styles = flat_map (named_units styles) (style_names document)

-- ---- the initial environment

-- `(associate X V)` sets X to V, unevaluated; no other tree is an entry
abbrev pub entry_units : WideTree → List DocUnit
entry_units (node label (cons x (cons v nil))) =
    if bytes_eq label (codes "associate") then unit Initial (assign_tag x (tag (codes "quote") (v ∷ []))) ∷ [] else []
entry_units t = []

abbrev pub initial_units : WideTree → List DocUnit
initial_units document = flat_map entry_units (entries document)

-- ---- the body

-- the paragraphs of a body that is at this path, each with its own path
abbrev pub units_at : List ℕ → WideTree → List DocUnit
units_at path body =
    if is_document body then map (λ p. body_unit p.1 (path ++ p.0 ∷ [])) (enumerate_from 0 (children_of body))
    else body_unit body path ∷ []

abbrev pub body_units : WideTree → List DocUnit
body_units document =
    option_map_or (λ path. option_map_or (units_at path) (subtree document path) []) (body_of document) []

-- ---- all of them

-- those that are before the body's
abbrev pub front_units : WideTree → List Buffer → List DocUnit
front_units document styles = base_units ++ (style_units document styles ++ initial_units document)

-- the units of buffers, of which the first is the document and the others are loaded styles
abbrev pub units : List Buffer → List DocUnit
units buffers = front_units (document_of buffers) (drop 1 buffers) ++ body_units (document_of buffers)

-- the units of the buffers, where these are the units of the base style
abbrev pub units_over : List DocUnit → List Buffer → List DocUnit
units_over base buffers =
    (base ++ (style_units (document_of buffers) (drop 1 buffers) ++ initial_units (document_of buffers)))
    ++ body_units (document_of buffers)

-- ---- one of them with another tree

-- the unit, where it has this tree
abbrev pub unit_with : WideTree → DocUnit → DocUnit
unit_with t u = record u { tagged = record u.tagged { tree = t } }

-- the units, of which that of number i has this tree
abbrev pub units_with : ℕ → WideTree → List DocUnit → List DocUnit
units_with i t [] = []
units_with zero t (u ∷ us) = unit_with t u ∷ us
units_with (suc i) t (u ∷ us) = u ∷ units_with i t us

-- ---- what they are made of

-- How many nodes of a unit's tree, leaves aside, are in no buffer: all of a base unit's, the error of an absent
-- style, and the two nodes that an entry of the initial environment gets.
abbrev pub made_as : UnitKind → WideTree → ℕ
made_as Base t = nodes_of t
made_as (Style k) t = 0
made_as Absent t = 1
made_as Initial t = 2
made_as Body t = 0

abbrev pub nodes_made : List DocUnit → ℕ
nodes_made us = sum_by (λ u. made_as u.kind u.tagged.tree) us

-- how many nodes of the units of the buffers are in no buffer
abbrev pub made : List Buffer → ℕ
made buffers = nodes_made (units buffers)

-- how many nodes of the units are in no buffer, the base style's aside
abbrev pub made_over : List Buffer → ℕ
made_over buffers =
    nodes_made (style_units (document_of buffers) (drop 1 buffers)) + nodes_made (initial_units (document_of buffers))
