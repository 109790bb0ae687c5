-- What typing, backspace and enter make of a tree at a place: modifications and the place afterwards, or the cause why
-- they make nothing.
use Rattle.std.specs.Prelude.{ℕ, zero, suc, ◌+◌, ◌-◌, ◌==◌, Bool, false, if◌then◌else◌, List, [], ◌∷◌, ◌++◌}
use Rattle.std.specs.Prelude.{length, codes, Option, Some, None, option_and_then, Result, Ok, Err}
use Rattle.std.specs.Option.{option_map_or}
use Rattle.tx_tree.specs.declared.places.Place.{Place}
use Rattle.tx_tree.specs.Cuts.{is_cut}
use Rattle.tx_tree.specs.Paths.{subtree}
use Rattle.tx_tree.specs.WideTree.{WideTree, leaf, text_of}
use Rattle.tx_mod.specs.declared.mods.Mod.TheVariants.{Insert, Remove, Split, Join}
use Rattle.tx_mod.specs.Moves.{place}
use Rattle.tx_doc.specs.Bodies.{is_labelled}
use Rattle.tx_edit.specs.declared.faults.EditFault.{EditFault}
use Rattle.tx_edit.specs.declared.faults.EditFault.TheVariants.{NoText, AtStart, NotInParagraph}
use Rattle.tx_edit.specs.declared.moves.Move.{Move}
use Rattle.tx_edit.specs.declared.moves.Move.TheVariants.{Edit}

-- the text of the leaf at the path, if a leaf is there
abbrev pub text_at : WideTree → List ℕ → Option (List ℕ)
text_at t path = option_and_then text_of (subtree t path)

-- a `document` is at the path
abbrev pub is_document_at : WideTree → List ℕ → Bool
is_document_at t path = option_map_or (is_labelled (codes "document")) (subtree t path) false

-- a `concat` is at the path
abbrev pub is_concat_at : WideTree → List ℕ → Bool
is_concat_at t path = option_map_or (is_labelled (codes "concat")) (subtree t path) false

-- the path to the parent, and the number among its children; the root has none
abbrev pub parent_of : List ℕ → Option (List ℕ × ℕ)
parent_of [] = None
parent_of (i ∷ path) = Some (option_map_or (λ last. (i ∷ last.0, last.1)) (parent_of path) ([], i))

-- ---- typing

-- the text is put in at the place, and the cursor is after it
abbrev pub typed : WideTree → Place → List ℕ → Result Move EditFault
typed t at text =
    option_map_or
    (λ _. Ok (Edit (Insert at.path at.offset (leaf text) ∷ []) (place at.path (at.offset + length text))))
    (text_at t at.path) (Err NoText)

-- ---- backspace

-- the last cut of the text before place o, where the item begins that ends at o
abbrev pub cut_before : List ℕ → ℕ → ℕ
cut_before text zero = zero
cut_before text (suc o) = if is_cut text o then o else cut_before text o

-- the item of the leaf between the two places is taken out
abbrev pub without_item : List ℕ → ℕ → ℕ → Move
without_item path start end = Edit (Remove path start (end - start) ∷ []) (place path start)

-- child i of the node at the path, a text, takes in the next child, and the cursor is between the two
abbrev pub joined_behind : List ℕ → ℕ → List ℕ → Move
joined_behind path i text = Edit (Join path i ∷ []) (place (path ++ i ∷ []) (length text))

-- child k of the node at the path goes to the end of the child before it, if that is a text
abbrev pub joined_to_former : WideTree → List ℕ → ℕ → Result Move EditFault
joined_to_former t path zero = Err AtStart
joined_to_former t path (suc i) =
    option_map_or (λ text. Ok (joined_behind path i text)) (text_at t (path ++ i ∷ [])) (Err AtStart)

-- at the start of a text: only a child of a `document` can be joined
abbrev pub joined_in : WideTree → Option (List ℕ × ℕ) → Result Move EditFault
joined_in t None = Err AtStart
joined_in t (Some last) = if is_document_at t last.0 then joined_to_former t last.0 last.1 else Err AtStart

abbrev pub erased_in : WideTree → List ℕ → ℕ → List ℕ → Result Move EditFault
erased_in t path o text =
    if o == 0 then joined_in t (parent_of path) else Ok (without_item path (cut_before text o) o)

-- after an item that item is taken out, and at the start of a paragraph it is joined to the one before
abbrev pub erased : WideTree → Place → Result Move EditFault
erased t at = option_map_or (erased_in t at.path at.offset) (text_at t at.path) (Err NoText)

-- ---- enter

-- child i of the node at the path becomes two, and the cursor is before the second
abbrev pub split_text : List ℕ → ℕ → ℕ → Move
split_text path i o = Edit (Split path i o ∷ []) (place (path ++ (i + 1) ∷ []) 0)

-- Child j of child i of the node at the path becomes two, and then child i between these, where the cursor is.
abbrev pub split_both : List ℕ → ℕ → ℕ → ℕ → Move
split_both path i j o =
    Edit (Split (path ++ i ∷ []) j o ∷ Split path i (j + 1) ∷ []) (place (path ++ (i + 1) ∷ 0 ∷ []) 0)

-- a text in a `concat`, which is to be a child of a `document`
abbrev pub split_in_concat : WideTree → ℕ → ℕ → Option (List ℕ × ℕ) → Result Move EditFault
split_in_concat t j o None = Err NotInParagraph
split_in_concat t j o (Some last) =
    if is_document_at t last.0 then Ok (split_both last.0 last.1 j o) else Err NotInParagraph

-- a text as child of the node at the path
abbrev pub split_in : WideTree → ℕ → Option (List ℕ × ℕ) → Result Move EditFault
split_in t o None = Err NotInParagraph
split_in t o (Some last) =
    if is_document_at t last.0
    then Ok (split_text last.0 last.1 o)
    else (if is_concat_at t last.0 then split_in_concat t last.1 o (parent_of last.0) else Err NotInParagraph)

-- the paragraph becomes two at the place
abbrev pub entered : WideTree → Place → Result Move EditFault
entered t at = option_map_or (λ _. split_in t at.offset (parent_of at.path)) (text_at t at.path) (Err NoText)
