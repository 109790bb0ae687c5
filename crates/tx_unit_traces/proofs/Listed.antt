-- The units of buffers are such as calls ask for.
use Rattle.std.proofs.Common.{◌≡◌, ℕ, ◌+◌, Bool, true, false, cond, List, [], ◌∷◌, ◌++◌, map, Option, Some, None}
use Rattle.std.proofs.Common.{refl, sym, ap, subst, ◌∙◌, drop}
use Rattle.std.specs.Prelude.{codes, is_some, if◌then◌else◌}
use Rattle.std.specs.List.{AllByRecursion, flat_map, cons_option}
use Rattle.std.specs.Option.{option_map, option_map_or}
use Rattle.std.specs.Str.{bytes_eq}
use Rattle.tx_tree.specs.WideTree.{WideTree, leaf, node, nil, cons}
use Rattle.tx_tree.specs.Paths.{subtree}
use Rattle.tx_doc.specs.Buffers.{tree_of, document_of, number_of}
use Rattle.tx_doc.specs.declared.buffer.Buffer.{Buffer}
use Rattle.tx_units.specs.BaseStyle.{tag, assign_tag, base_style}
use Rattle.tx_units.specs.Documents.{style_names, entries, paragraphs}
use Rattle.tx_units.specs.declared.kinds.Unit.{Unit as DocUnit}
use Rattle.tx_units.specs.declared.kinds.UnitKind.TheVariants.{Base, Style, Initial}
use Rattle.tx_units.specs.Places.{UnitStandsIn}
use Rattle.tx_units.specs.Units.{unit, base_units, loaded_units, absent_unit, named_units, style_units, entry_units}
use Rattle.tx_units.specs.Units.{initial_units, body_units, front_units, units}
use Rattle.tx_unit_traces.specs.UnitLists.{HasPathIfBody, AreUnits, is_body, Stands, AllStand}
use Rattle.tx_unit_traces.specs.UnitLists.{AreApart, paths_of, paragraphs_of}
use Rattle.tx_unit_traces.proofs.Placed.{body_apart}

all_both : {X : Type 0} (P : X → Type 0) (xs ys : List X) → AllByRecursion P xs → AllByRecursion P ys
    → AllByRecursion P (xs ++ ys)
all_both P [] ys h k = k
all_both P (x ∷ xs) ys h k = (h.0, all_both P xs ys h.1 k)

all_then : {X : Type 0} (P Q : X → Type 0) → ((x : X) → P x → Q x) → (xs : List X) → AllByRecursion P xs
    → AllByRecursion Q xs
all_then P Q f [] h = tt
all_then P Q f (x ∷ xs) h = (f x h.0, all_then P Q f xs h.1)

-- ---- units before those of the body have no path and no origin

pub record IsBare (u : DocUnit) : Type 0 where
  pub path : u.path ≡ None
  pub origin : u.tagged.at ≡ None
  pub kind : is_body u.kind ≡ false

mapped : {X : Type 0} (f : X → DocUnit) → ((x : X) → IsBare (f x)) → (xs : List X) → AllByRecursion IsBare (map f xs)
mapped f h [] = tt
mapped f h (x ∷ xs) = (h x, mapped f h xs)

all_flat : {X : Type 0} (f : X → List DocUnit) → ((x : X) → AllByRecursion IsBare (f x)) → (xs : List X)
    → AllByRecursion IsBare (flat_map f xs)
all_flat f h [] = tt
all_flat f h (x ∷ xs) = all_both IsBare (f x) (flat_map f xs) (h x) (all_flat f h xs)

base_bare : AllByRecursion IsBare base_units
unfolding base_units
base_bare =
    mapped (λ row. unit Base (assign_tag (leaf row.0) row.1))
    (λ row. record { path = refl; origin = refl; kind = refl })
    base_style

named_bare : (styles : List Buffer) (name : List ℕ) → AllByRecursion IsBare (named_units styles name)
named_bare styles name = pick (bytes_eq name (codes "generic"))
  where
    by : (o : Option ℕ) → AllByRecursion IsBare (option_map_or (λ k. loaded_units (k + 1) (tree_of styles k)) o
        (absent_unit name ∷ []))
    by None = (record { path = refl; origin = refl; kind = refl }, tt)
    by (Some k) =
        mapped (unit (Style (k + 1))) (λ p. record { path = refl; origin = refl; kind = refl })
        (paragraphs (tree_of styles k))

    pick : (b : Bool) → AllByRecursion IsBare (cond b []
        (option_map_or (λ k. loaded_units (k + 1) (tree_of styles k)) (number_of styles name)
        (absent_unit name ∷ [])))
    pick true = tt
    pick false = by (number_of styles name)

entry_bare : (t : WideTree) → AllByRecursion IsBare (entry_units t)
entry_bare (leaf words) = tt
entry_bare (node label nil) = tt
entry_bare (node label (cons x nil)) = tt
entry_bare (node label (cons x (cons v nil))) = pick (bytes_eq label (codes "associate"))
  where
    pick : (b : Bool)
        → AllByRecursion IsBare (cond b (unit Initial (assign_tag x (tag (codes "quote") (v ∷ []))) ∷ []) [])
    pick true = (record { path = refl; origin = refl; kind = refl }, tt)
    pick false = tt
entry_bare (node label (cons x (cons v (cons w ts)))) = tt

front_bare : (document : WideTree) (styles : List Buffer) → AllByRecursion IsBare (front_units document styles)
front_bare document styles =
    all_both IsBare base_units (style_units document styles ++ initial_units document) base_bare
    (all_both IsBare (style_units document styles) (initial_units document)
    (all_flat (named_units styles) (named_bare styles) (style_names document))
    (all_flat entry_units entry_bare (entries document)))

-- ---- each unit

some_once : {A : Type 0} (x y : A) → Some x ≡ Some y → x ≡ y
some_once x y e = cc

bare_placed : (u : DocUnit) → IsBare u → HasPathIfBody u
bare_placed u h = record {
  path = ap is_some h.path ∙ sym h.kind;
  origin = h.origin ∙ sym (ap (option_map (λ _. [])) h.path);
}

body_placed : (t : WideTree) (u : DocUnit) → UnitStandsIn t u → HasPathIfBody u
body_placed t u h = record {
  path = ap is_some h.has_path ∙ sym (ap is_body h.is_body);
  origin = h.at_root ∙ sym (ap (option_map (λ _. [])) h.has_path);
}

bare_stands : (t : WideTree) (u : DocUnit) → IsBare u → Stands t u
bare_stands t u h p e = let off : None ≡ Some p = sym h.path ∙ e in cc

body_stands : (t : WideTree) (u : DocUnit) → UnitStandsIn t u → Stands t u
body_stands t u h p e =
    ap (subtree t) (some_once p h.path (sym e ∙ h.has_path)) ∙ h.leads

-- units without paths add none
front_paths : (us vs : List DocUnit) → AllByRecursion IsBare us → paths_of (us ++ vs) ≡ paths_of vs
front_paths [] vs h = refl
front_paths (u ∷ us) vs h = ap (λ o. cons_option o (paths_of (us ++ vs))) h.0.path ∙ front_paths us vs h.1

-- ---- all units, by the laws of those of a body

module _ (stand : (t : WideTree) → AllByRecursion (UnitStandsIn t) (body_units t)) (buffers : List Buffer) where
  bare : AllByRecursion IsBare (front_units (document_of buffers) (drop 1 buffers))
  bare = front_bare (document_of buffers) (drop 1 buffers)

  pub units_are : AreUnits (units buffers)
  units_are = record {
    placed =
        all_both HasPathIfBody (front_units (document_of buffers) (drop 1 buffers)) (body_units (document_of buffers))
        (all_then IsBare HasPathIfBody bare_placed (front_units (document_of buffers) (drop 1 buffers)) bare)
        (all_then (UnitStandsIn (document_of buffers)) HasPathIfBody (body_placed (document_of buffers))
        (body_units (document_of buffers)) (stand (document_of buffers)));
    apart =
        subst AreApart (sym (front_paths (front_units (document_of buffers) (drop 1 buffers))
        (body_units (document_of buffers)) bare)) (body_apart (document_of buffers));
  }

  pub units_stand : AllStand (document_of buffers) (units buffers)
  units_stand =
      all_both (Stands (document_of buffers)) (front_units (document_of buffers) (drop 1 buffers))
      (body_units (document_of buffers))
      (all_then IsBare (Stands (document_of buffers)) (bare_stands (document_of buffers))
      (front_units (document_of buffers) (drop 1 buffers)) bare)
      (all_then (UnitStandsIn (document_of buffers)) (Stands (document_of buffers)) (body_stands (document_of buffers))
      (body_units (document_of buffers)) (stand (document_of buffers)))

-- ---- the paragraphs are those of the body

module _ (stand : (t : WideTree) → AllByRecursion (UnitStandsIn t) (body_units t)) (buffers : List Buffer) where
  keep_one : (b : Bool) (u : DocUnit) (us : List DocUnit) → b ≡ true → (if b then u ∷ us else us) ≡ u ∷ us
  keep_one true u us e = refl
  keep_one false u us e = cc

  drop_one : (b : Bool) (u : DocUnit) (us : List DocUnit) → b ≡ false → (if b then u ∷ us else us) ≡ us
  drop_one true u us e = cc
  drop_one false u us e = refl

  all_bare : (us vs : List DocUnit) → AllByRecursion IsBare us → paragraphs_of (us ++ vs) ≡ paragraphs_of vs
  all_bare [] vs h = refl
  all_bare (u ∷ us) vs h =
      drop_one (is_some u.path) u (paragraphs_of (us ++ vs)) (ap is_some h.0.path) ∙ all_bare us vs h.1

  all_placed : (t : WideTree) (us : List DocUnit) → AllByRecursion (UnitStandsIn t) us → paragraphs_of us ≡ us
  all_placed t [] h = refl
  all_placed t (u ∷ us) h =
      keep_one (is_some u.path) u (paragraphs_of us) (ap is_some h.0.has_path) ∙ ap (λ vs. u ∷ vs) (all_placed t us h.1)

  pub paragraphs_are : paragraphs_of (units buffers) ≡ body_units (document_of buffers)
  paragraphs_are =
      all_bare (front_units (document_of buffers) (drop 1 buffers)) (body_units (document_of buffers))
      (front_bare (document_of buffers) (drop 1 buffers))
      ∙ all_placed (document_of buffers) (body_units (document_of buffers)) (stand (document_of buffers))
