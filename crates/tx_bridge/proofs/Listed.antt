-- The units of buffers are such as calls ask for.
use Rattle.std.proofs.Common.{◌≡◌, ℕ, ◌+◌, Bool, true, false, cond, List, [], ◌∷◌, ◌++◌, map, Option, Some, None}
use Rattle.std.proofs.Common.{refl, sym, ap, ◌∙◌, drop}
use Rattle.std.specs.Prelude.{codes, is_some}
use Rattle.std.specs.List.{AllByRecursion, flat_map}
use Rattle.std.specs.Option.{option_map, option_map_or}
use Rattle.std.specs.Str.{bytes_eq}
use Rattle.tx_tree.specs.WideTree.{WideTree, leaf, node, nil, cons}
use Rattle.tx_tree.specs.Paths.{subtree}
use Rattle.tx_doc.specs.Buffers.{tree_of, document_of, number_of}
use Rattle.tx_doc.specs.declared.buffer.Buffer.{Buffer}
use Rattle.tx_units.specs.BaseStyle.{tag, assign_tag, base_style}
use Rattle.tx_units.specs.Documents.{style_names, entries, paragraphs}
use Rattle.tx_units.specs.declared.kinds.Unit.{Unit as DocUnit}
use Rattle.tx_units.specs.declared.kinds.UnitKind.TheVariants.{Base, Style, Initial}
use Rattle.tx_units.specs.Places.{UnitStandsIn, AreApart, NoneBegins}
use Rattle.tx_units.specs.Units.{unit, base_units, loaded_units, absent_unit, named_units, style_units, entry_units}
use Rattle.tx_units.specs.Units.{initial_units, body_units, front_units, units}
use Rattle.tx_bridge.specs.UnitLists.{HasPathIfBody, AreUnits, is_body_unit}
use Rattle.tx_bridge.specs.Carrying.{Stands, AllStand, HaveOneTree, AreSameBodies}

all_both : {X : Type 0} (P : X → Type 0) (xs ys : List X) → AllByRecursion P xs → AllByRecursion P ys
    → AllByRecursion P (xs ++ ys)
all_both P [] ys h k = k
all_both P (x ∷ xs) ys h k = (h.0, all_both P xs ys h.1 k)

all_then : {X : Type 0} (P Q : X → Type 0) → ((x : X) → P x → Q x) → (xs : List X) → AllByRecursion P xs
    → AllByRecursion Q xs
all_then P Q f [] h = tt
all_then P Q f (x ∷ xs) h = (f x h.0, all_then P Q f xs h.1)

-- ---- units before those of the body have no path and no origin

pub record IsBare (u : DocUnit) : Type 0 where
  pub path : u.path ≡ None
  pub origin : u.tagged.at ≡ None
  pub kind : is_body_unit u.kind ≡ false

mapped : {X : Type 0} (f : X → DocUnit) → ((x : X) → IsBare (f x)) → (xs : List X) → AllByRecursion IsBare (map f xs)
mapped f h [] = tt
mapped f h (x ∷ xs) = (h x, mapped f h xs)

all_flat : {X : Type 0} (f : X → List DocUnit) → ((x : X) → AllByRecursion IsBare (f x)) → (xs : List X)
    → AllByRecursion IsBare (flat_map f xs)
all_flat f h [] = tt
all_flat f h (x ∷ xs) = all_both IsBare (f x) (flat_map f xs) (h x) (all_flat f h xs)

base_bare : AllByRecursion IsBare base_units
unfolding base_units
base_bare =
    mapped (λ row. unit Base (assign_tag (leaf row.0) row.1))
    (λ row. record { path = refl; origin = refl; kind = refl })
    base_style

named_bare : (styles : List Buffer) (name : List ℕ) → AllByRecursion IsBare (named_units styles name)
named_bare styles name = pick (bytes_eq name (codes "generic"))
  where
    by : (o : Option ℕ) → AllByRecursion IsBare (option_map_or (λ k. loaded_units (k + 1) (tree_of styles k)) o
        (absent_unit name ∷ []))
    by None = (record { path = refl; origin = refl; kind = refl }, tt)
    by (Some k) =
        mapped (unit (Style (k + 1))) (λ p. record { path = refl; origin = refl; kind = refl })
        (paragraphs (tree_of styles k))

    pick : (b : Bool) → AllByRecursion IsBare (cond b []
        (option_map_or (λ k. loaded_units (k + 1) (tree_of styles k)) (number_of styles name)
        (absent_unit name ∷ [])))
    pick true = tt
    pick false = by (number_of styles name)

entry_bare : (t : WideTree) → AllByRecursion IsBare (entry_units t)
entry_bare (leaf words) = tt
entry_bare (node label nil) = tt
entry_bare (node label (cons x nil)) = tt
entry_bare (node label (cons x (cons v nil))) = pick (bytes_eq label (codes "associate"))
  where
    pick : (b : Bool)
        → AllByRecursion IsBare (cond b (unit Initial (assign_tag x (tag (codes "quote") (v ∷ []))) ∷ []) [])
    pick true = (record { path = refl; origin = refl; kind = refl }, tt)
    pick false = tt
entry_bare (node label (cons x (cons v (cons w ts)))) = tt

front_bare : (document : WideTree) (styles : List Buffer) → AllByRecursion IsBare (front_units document styles)
front_bare document styles =
    all_both IsBare base_units (style_units document styles ++ initial_units document) base_bare
    (all_both IsBare (style_units document styles) (initial_units document)
    (all_flat (named_units styles) (named_bare styles) (style_names document))
    (all_flat entry_units entry_bare (entries document)))

-- ---- each unit

some_once : {A : Type 0} (x y : A) → Some x ≡ Some y → x ≡ y
some_once x y e = cc

bare_placed : (u : DocUnit) → IsBare u → HasPathIfBody u
bare_placed u h = record {
  path = ap is_some h.path ∙ sym h.kind;
  origin = h.origin ∙ sym (ap (option_map (λ _. [])) h.path);
}

body_placed : (t : WideTree) (u : DocUnit) → UnitStandsIn t u → HasPathIfBody u
body_placed t u h = record {
  path = ap is_some h.has_path ∙ sym (ap is_body_unit h.is_body);
  origin = h.at_root ∙ sym (ap (option_map (λ _. [])) h.has_path);
}

bare_stands : (t : WideTree) (u : DocUnit) → IsBare u → Stands t u
bare_stands t u h p e = let off : None ≡ Some p = sym h.path ∙ e in cc

body_stands : (t : WideTree) (u : DocUnit) → UnitStandsIn t u → Stands t u
body_stands t u h p e =
    ap (subtree t) (some_once p h.path (sym e ∙ h.has_path)) ∙ h.leads

bare_apart : (u v : DocUnit) → IsBare u → AreApart u.path v.path
bare_apart u v h path more = (
  (λ e f. let off : None ≡ Some path = sym h.path ∙ e in cc),
  (λ e f. let off : None ≡ Some (path ++ more) = sym h.path ∙ f in cc),
)

all_apart : (u : DocUnit) → IsBare u → (vs : List DocUnit) → AllByRecursion (λ v. AreApart u.path v.path) vs
all_apart u h [] = tt
all_apart u h (v ∷ vs) = (bare_apart u v h, all_apart u h vs)

front_apart : (us vs : List DocUnit) → AllByRecursion IsBare us → NoneBegins vs → NoneBegins (us ++ vs)
front_apart [] vs h apart = apart
front_apart (u ∷ us) vs h apart = (all_apart u h.0 (us ++ vs), front_apart us vs h.1 apart)

-- ---- all units, by the laws of those of a body

module _ (stand : (t : WideTree) → AllByRecursion (UnitStandsIn t) (body_units t))
    (apart : (t : WideTree) → NoneBegins (body_units t)) (buffers : List Buffer) where
  bare : AllByRecursion IsBare (front_units (document_of buffers) (drop 1 buffers))
  bare = front_bare (document_of buffers) (drop 1 buffers)

  pub units_are : AreUnits (units buffers)
  units_are = record {
    placed =
        all_both HasPathIfBody (front_units (document_of buffers) (drop 1 buffers)) (body_units (document_of buffers))
        (all_then IsBare HasPathIfBody bare_placed (front_units (document_of buffers) (drop 1 buffers)) bare)
        (all_then (UnitStandsIn (document_of buffers)) HasPathIfBody (body_placed (document_of buffers))
        (body_units (document_of buffers)) (stand (document_of buffers)));
    apart =
        front_apart (front_units (document_of buffers) (drop 1 buffers)) (body_units (document_of buffers)) bare
        (apart (document_of buffers));
  }

  pub units_stand : AllStand (document_of buffers) (units buffers)
  units_stand =
      all_both (Stands (document_of buffers)) (front_units (document_of buffers) (drop 1 buffers))
      (body_units (document_of buffers))
      (all_then IsBare (Stands (document_of buffers)) (bare_stands (document_of buffers))
      (front_units (document_of buffers) (drop 1 buffers)) bare)
      (all_then (UnitStandsIn (document_of buffers)) (Stands (document_of buffers)) (body_stands (document_of buffers))
      (body_units (document_of buffers)) (stand (document_of buffers)))

-- ---- units of one document have one tree at one path

one_tree : (t : WideTree) (u : DocUnit) → Stands t u → (vs : List DocUnit) → AllStand t vs
    → AllByRecursion (HaveOneTree u) vs
one_tree t u h [] stand = tt
one_tree t u h (v ∷ vs) stand = (
  (λ p e f. some_once u.tagged.tree v.tagged.tree (sym (h p e) ∙ stand.0 p f)),
  one_tree t u h vs stand.1,
)

pub bodies_same : (t : WideTree) (us vs : List DocUnit) → AllStand t us → AllStand t vs → AreSameBodies us vs
bodies_same t [] vs h stand = tt
bodies_same t (u ∷ us) vs h stand = (one_tree t u h.0 vs stand, bodies_same t us vs h.1 stand)
