-- The trees of all units are labelled.
use Rattle.std.proofs.Common.{◌≡◌, ℕ, zero, suc, ◌+◌, Bool, true, false, cond, List, [], ◌∷◌, ◌++◌, map, codes, Option}
use Rattle.std.proofs.Common.{Some, None, refl}
use Rattle.std.specs.Prelude.{◌&&◌, slice_get, option_and_then, if◌then◌else◌}
use Rattle.std.specs.List.{AllByRecursion, flat_map, enumerate_from, find}
use Rattle.std.specs.Option.{option_map_or}
use Rattle.std.specs.Str.{bytes_eq}
use Rattle.std.proofs.lemmas.Bool.{and_parts}
use Rattle.tx_tree.specs.WideTree.{WideTree, Forest, leaf, node, nil, cons, children_of}
use Rattle.tx_tree.specs.Labels.{is_label_byte}
use Rattle.tx_tree.specs.Paths.{subtree}
use Rattle.tx_doc.specs.Bodies.{is_labelled, body_of}
use Rattle.tx_doc.specs.Buffers.{AreFormed, tree_of, number_of}
use Rattle.tx_doc.specs.declared.buffer.Buffer.{Buffer}
use Rattle.tx_units.specs.BaseStyle.{tag, assign_tag, base_style}
use Rattle.tx_units.specs.Documents.{is_document, section, style_names, entries, paragraphs_in, paragraphs}
use Rattle.tx_units.specs.declared.kinds.Unit.{Unit as DocUnit}
use Rattle.tx_units.specs.declared.kinds.UnitKind.{UnitKind}
use Rattle.tx_units.specs.declared.kinds.UnitKind.TheVariants.{Style, Initial}
use Rattle.tx_units.specs.Units.{unit, body_unit, base_units, loaded_units, absent_unit, named_units, style_units}
use Rattle.tx_units.specs.Units.{entry_units, initial_units, units_at, body_units, front_units, units}
use Rattle.tx_units.proofs.Sound.{is_label, label_by, assign_label, quote_label, error_label}
use Rattle.tx_view_form.proofs.Labelled.{IsLabelled, AreLabelled}
use Rattle.tx_view_form.proofs.ShownWeights.{labelled}
use Rattle.tx_line_count.proofs.Trees.{AllLabelled, IfLabelled, children_labelled, get_labelled, found_labelled}
use Rattle.tx_line_count.proofs.Trees.{then_labelled, subtree_labelled}

abbrev pub UnitHas : DocUnit → Type 0
UnitHas u = IsLabelled u.tagged.tree

abbrev pub UnitsHave : List DocUnit → Type 0
UnitsHave = AllByRecursion UnitHas

both : (us vs : List DocUnit) → UnitsHave us → UnitsHave vs → UnitsHave (us ++ vs)
both [] vs h k = k
both (u ∷ us) vs h k = (h.0, both us vs h.1 k)

of_trees : (kind : UnitKind) (ts : List WideTree) → AllLabelled ts → UnitsHave (map (unit kind) ts)
of_trees kind [] h = tt
of_trees kind (t ∷ ts) h = (h.0, of_trees kind ts h.1)

-- ---- the base style, by a test

abbrev mutual
  labels_pass : WideTree → Bool
  labels_pass (leaf words) = true
  labels_pass (node label ts) = is_label label && all_pass ts

  all_pass : Forest → Bool
  all_pass nil = true
  all_pass (cons t ts) = labels_pass t && all_pass ts

mutual
  tested : (t : WideTree) → labels_pass t ≡ true → IsLabelled t
  tested (leaf words) e = tt
  tested (node label ts) e =
      let p = and_parts (is_label label) (all_pass ts) e in
      (label_by label p.0, all_tested ts p.1)

  all_tested : (ts : Forest) → all_pass ts ≡ true → AreLabelled ts
  all_tested nil e = tt
  all_tested (cons t ts) e =
      let p = and_parts (labels_pass t) (all_pass ts) e in
      (tested t p.0, all_tested ts p.1)

abbrev units_pass : List DocUnit → Bool
units_pass [] = true
units_pass (u ∷ us) = labels_pass u.tagged.tree && units_pass us

units_tested : (us : List DocUnit) → units_pass us ≡ true → UnitsHave us
units_tested [] e = tt
units_tested (u ∷ us) e =
    let p = and_parts (labels_pass u.tagged.tree) (units_pass us) e in
    (tested u.tagged.tree p.0, units_tested us p.1)

base_pass : units_pass base_units ≡ true
unfolding base_units base_style is_label_byte
base_pass = refl

base_have : UnitsHave base_units
base_have = units_tested base_units base_pass

-- ---- the parts of a document

section_labelled : (label : List ℕ) (t : WideTree) → IsLabelled t → IfLabelled (section label t)
section_labelled label t h = by (is_document t)
  where
    by : (b : Bool) → IfLabelled
        (cond b (option_and_then (λ part. slice_get (children_of part) 0) (find (is_labelled label) (children_of t)))
        None)
    by true =
        then_labelled (λ part. slice_get (children_of part) 0) (find (is_labelled label) (children_of t))
        (found_labelled (is_labelled label) (children_of t) (children_labelled t h))
        (λ u k. get_labelled (children_of u) 0 (children_labelled u k))
    by false = tt

paragraphs_labelled : (t : WideTree) → IsLabelled t → AllLabelled (paragraphs t)
paragraphs_labelled t h = by (body_of t)
  where
    within : (s : WideTree) → IsLabelled s → (b : Bool) → AllLabelled (cond b (children_of s) (s ∷ []))
    within s k true = children_labelled s k
    within s k false = (k, tt)

    there : (o : Option WideTree) → IfLabelled o → AllLabelled (option_map_or paragraphs_in o [])
    there None k = tt
    there (Some s) k = within s k (is_document s)

    by : (o : Option (List ℕ))
        → AllLabelled (option_map_or (λ path. option_map_or paragraphs_in (subtree t path) []) o [])
    by None = tt
    by (Some path) = there (subtree t path) (subtree_labelled t path h)

numbered_have : (path : List ℕ) (i : ℕ) (ts : List WideTree) → AllLabelled ts
    → UnitsHave (map (λ p. body_unit p.1 (path ++ p.0 ∷ [])) (enumerate_from i ts))
numbered_have path i [] h = tt
numbered_have path i (t ∷ ts) h = (h.0, numbered_have path (i + 1) ts h.1)

body_have : (t : WideTree) → IsLabelled t → UnitsHave (body_units t)
body_have t h = by (body_of t)
  where
    within : (path : List ℕ) (s : WideTree) → IsLabelled s → (b : Bool) → UnitsHave
        (cond b (map (λ p. body_unit p.1 (path ++ p.0 ∷ [])) (enumerate_from 0 (children_of s)))
        (body_unit s path ∷ []))
    within path s k true = numbered_have path 0 (children_of s) (children_labelled s k)
    within path s k false = (k, tt)

    there : (path : List ℕ) (o : Option WideTree) → IfLabelled o → UnitsHave (option_map_or (units_at path) o [])
    there path None k = tt
    there path (Some s) k = within path s k (is_document s)

    by : (o : Option (List ℕ))
        → UnitsHave (option_map_or (λ path. option_map_or (units_at path) (subtree t path) []) o [])
    by None = tt
    by (Some path) = there path (subtree t path) (subtree_labelled t path h)

-- ---- buffers

abbrev BuffersHave : List Buffer → Type 0
BuffersHave = AllByRecursion (λ b. IsLabelled b.tree)

buffers_have : (bs : List Buffer) → AreFormed bs → BuffersHave bs
buffers_have [] h = tt
buffers_have (b ∷ bs) h = (labelled b.tree h.0.0, buffers_have bs h.1)

tree_has : (bs : List Buffer) (k : ℕ) → BuffersHave bs → IsLabelled (tree_of bs k)
tree_has [] k h = tt
tree_has (b ∷ bs) zero h = h.0
tree_has (b ∷ bs) (suc k) h = tree_has bs k h.1

-- ---- styles

name_has : (bs : List Buffer) (name : List ℕ) → BuffersHave bs → UnitsHave (named_units bs name)
name_has bs name h = by (bytes_eq name (codes "generic"))
  where
    loaded : (o : Option ℕ)
        → UnitsHave (option_map_or (λ k. loaded_units (k + 1) (tree_of bs k)) o (absent_unit name ∷ []))
    loaded None = ((error_label, (tt, (tt, tt))), tt)
    loaded (Some k) =
        of_trees (Style (k + 1)) (paragraphs (tree_of bs k)) (paragraphs_labelled (tree_of bs k) (tree_has bs k h))

    by : (b : Bool) → UnitsHave
        (cond b [] (option_map_or (λ k. loaded_units (k + 1) (tree_of bs k)) (number_of bs name)
        (absent_unit name ∷ [])))
    by true = tt
    by false = loaded (number_of bs name)

names_have : (bs : List Buffer) (names : List (List ℕ)) → BuffersHave bs → UnitsHave (flat_map (named_units bs) names)
names_have bs [] h = tt
names_have bs (name ∷ names) h =
    both (named_units bs name) (flat_map (named_units bs) names) (name_has bs name h) (names_have bs names h)

-- ---- the initial environment

entry_has : (t : WideTree) → IsLabelled t → UnitsHave (entry_units t)
entry_has (leaf words) h = tt
entry_has (node label nil) h = tt
entry_has (node label (cons x nil)) h = tt
entry_has (node label (cons x (cons v nil))) h = by (bytes_eq label (codes "associate"))
  where
    by : (b : Bool) → UnitsHave (cond b (unit Initial (assign_tag x (tag (codes "quote") (v ∷ []))) ∷ []) [])
    by true = ((assign_label, (h.1.0, ((quote_label, (h.1.1.0, tt)), tt))), tt)
    by false = tt
entry_has (node label (cons x (cons v (cons w ts)))) h = tt

each_entry : (ts : List WideTree) → AllLabelled ts → UnitsHave (flat_map entry_units ts)
each_entry [] h = tt
each_entry (t ∷ ts) h = both (entry_units t) (flat_map entry_units ts) (entry_has t h.0) (each_entry ts h.1)

entries_labelled : (t : WideTree) → IsLabelled t → AllLabelled (entries t)
entries_labelled t h = by (section (codes "initial") t) (section_labelled (codes "initial") t h)
  where
    within : (c : WideTree) (b : Bool) → IsLabelled c → AllLabelled (cond b (children_of c) [])
    within c true k = children_labelled c k
    within c false k = tt

    by : (o : Option WideTree) → IfLabelled o
        → AllLabelled (option_map_or (λ c. if is_labelled (codes "collection") c then children_of c else []) o [])
    by None k = tt
    by (Some c) k = within c (is_labelled (codes "collection") c) k

-- ---- all of them

document_has : (t : WideTree) (styles : List Buffer) → IsLabelled t → BuffersHave styles
    → UnitsHave (front_units t styles ++ body_units t)
document_has t styles h k =
    both (front_units t styles) (body_units t)
    (both base_units (style_units t styles ++ initial_units t) base_have
    (both (style_units t styles) (initial_units t) (names_have styles (style_names t) k)
    (each_entry (entries t) (entries_labelled t h))))
    (body_have t h)

pub units_have : (bs : List Buffer) → AreFormed bs → UnitsHave (units bs)
units_have [] h = document_has (leaf []) [] tt tt
units_have (b ∷ bs) h = document_has b.tree bs (labelled b.tree h.0.0) (buffers_have bs h.1)
