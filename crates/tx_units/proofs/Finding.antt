-- The section of a label, by the number of the first child that has it.
use Rattle.std.proofs.Common.{◌≡◌, ℕ, ◌≤◌, Bool, true, List, length, get_or, Option, Some, None, refl, ap, arith, ◌∙◌}
use Rattle.std.specs.Prelude.{if◌then◌else◌, option_and_then, slice_get}
use Rattle.std.specs.List.{find, position, position_or_len}
use Rattle.std.proofs.lemmas.List.Folds.{find_at}
use Rattle.std.proofs.lemmas.List.Quantifiers.{position-Some}
use Rattle.std.proofs.lemmas.Option.{slice_get_read, slice_get_past}
use Rattle.std.proofs.lemmas.Grind.{common_steps}
use Rattle.tx_doc.specs.Bodies.{is_labelled}
use Rattle.tx_tree.specs.WideTree.{WideTree, children_of}
use Rattle.tx_units.specs.Documents.{is_document, section}

found_at : (p : WideTree → Bool) (ts : List WideTree) (i : ℕ) (t : WideTree) → position p ts ≡ Some i
    → t ≡ get_or ts i t → find p ts ≡ Some t
found_at p ts i t e is =
    let h = position-Some p ts i t e in
    let at : position_or_len p ts ≡ i = grind (arith, common_steps) in
    find_at p ts ∙ ap (slice_get ts) at ∙ slice_get_read ts (length ts) i t refl h.0 is

not_found : (p : WideTree → Bool) (ts : List WideTree) → position p ts ≡ None → find p ts ≡ None
not_found p ts e =
    let past : length ts ≤ position_or_len p ts = grind (arith, common_steps) in
    find_at p ts ∙ slice_get_past ts (position_or_len p ts) past

section_is : (label : List ℕ) (t : WideTree) (o : Option WideTree) → is_document t ≡ true
    → find (is_labelled label) (children_of t) ≡ o
    → section label t ≡ option_and_then (λ part. slice_get (children_of part) 0) o
section_is label t o d f =
    ap (λ b. if b then option_and_then (λ part. slice_get (children_of part) 0)
    (find (is_labelled label) (children_of t)) else None) d
    ∙ ap (option_and_then (λ part. slice_get (children_of part) 0)) f

-- the child is one of the list of the children
pub section_at : (label : List ℕ) (t part : WideTree) (ts : List WideTree) (i : ℕ) → ts ≡ children_of t
    → is_document t ≡ true
    → position (is_labelled label) (children_of t) ≡ Some i → part ≡ get_or ts i part
    → section label t ≡ slice_get (children_of part) 0
section_at label t part ts i same d e is =
    section_is label t (Some part) d
    (found_at (is_labelled label) (children_of t) i part e (is ∙ ap (λ us. get_or us i part) same))

pub no_section : (label : List ℕ) (t : WideTree) → is_document t ≡ true
    → position (is_labelled label) (children_of t) ≡ None
    → section label t ≡ None
no_section label t d e = section_is label t None d (not_found (is_labelled label) (children_of t) e)
