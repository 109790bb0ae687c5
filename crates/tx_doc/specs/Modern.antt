-- Old documents, in which macros are called by `expand` and `apply`, and their modern form.
use Rattle.std.specs.Prelude.{ℕ, Bool, false, ◌&&◌, ◌||◌, nat_le, if◌then◌else◌, List, length, codes}
use Rattle.std.specs.Prelude.{Option, option_and_then, slice_get}
use Rattle.std.specs.Option.{option_map_or}
use Rattle.std.specs.List.{list_all, find}
use Rattle.std.specs.Str.{bytes_eq}
use Rattle.tx_tree.specs.declared.TheConstants.{MOST_LABEL}
use Rattle.tx_tree.specs.Labels.{is_label_byte}
use Rattle.tx_tree.specs.WideTree.{WideTree, Forest, leaf, node, nil, cons, children_of, text_of}
use Rattle.tx_doc.specs.Bodies.{is_labelled}
use Rattle.tx_doc.specs.Versions.{is_old_version}

-- the text that says the version: child 0 of the first child `TeXmacs`
abbrev pub version_text : WideTree → Option (List ℕ)
version_text t =
    option_and_then (λ c. option_and_then text_of (slice_get (children_of c) 0))
    (find (is_labelled (codes "TeXmacs")) (children_of t))

-- an old document: its version is before 1.0.2
abbrev pub is_old : WideTree → Bool
is_old t = is_labelled (codes "document") t && option_map_or is_old_version (version_text t) false

-- the two labels of calls, of which child 0 names the macro
abbrev pub is_call : List ℕ → Bool
is_call label = bytes_eq label (codes "expand") || bytes_eq label (codes "apply")

-- a test of whether these bytes are a label
abbrev pub is_label : List ℕ → Bool
is_label bytes = nat_le 1 (length bytes) && nat_le (length bytes) MOST_LABEL && list_all is_label_byte bytes

-- The node with this label and these children; for a call, the node of the macro. While the label is one of a call and
-- child 0 is a text that is a label, that text becomes the label, and the other children become the children.
abbrev pub called : List ℕ → Forest → WideTree
called label nil = node label nil
called label (cons (leaf text) others) =
    if is_call label && is_label text then called text others else node label (cons (leaf text) others)
called label (cons (node l ts) others) = node label (cons (node l ts) others)

-- the tree without calls, from the leaves upwards
abbrev mutual
  pub without_calls : WideTree → WideTree
  without_calls (leaf text) = leaf text
  without_calls (node label ts) = called label (all_without_calls ts)

  pub all_without_calls : Forest → Forest
  all_without_calls nil = nil
  all_without_calls (cons t ts) = cons (without_calls t) (all_without_calls ts)

-- the modern form of a tree: of an old document the one without calls, of every other tree the tree itself
abbrev pub modern : WideTree → WideTree
modern t = if is_old t then without_calls t else t
