-- No path of a unit that is shown is that of another, or begins it.
use Rattle.std.proofs.Common.{◌≡◌, ℕ, ◌+◌, Bool, true, false, cond, List, [], ◌∷◌, ◌++◌, map, drop, Option, Some, None}
use Rattle.std.proofs.Common.{refl, sym, subst}
use Rattle.std.specs.Prelude.{codes}
use Rattle.std.specs.List.{AllByRecursion, flat_map}
use Rattle.std.specs.Option.{option_map_or}
use Rattle.std.specs.Str.{bytes_eq}
use Rattle.tx_tree.specs.WideTree.{WideTree, leaf, node, nil, cons}
use Rattle.tx_origin.specs.TaggedTrees.{tagged_of}
use Rattle.tx_doc.specs.Buffers.{tree_of, document_of, number_of}
use Rattle.tx_doc.specs.declared.buffer.Buffer.{Buffer}
use Rattle.tx_units.specs.BaseStyle.{tag, assign_tag, base_style}
use Rattle.tx_units.specs.Documents.{style_names, entries, paragraphs}
use Rattle.tx_units.specs.declared.kinds.Unit.{Unit as DocUnit}
use Rattle.tx_units.specs.declared.kinds.UnitKind.TheVariants.{Base, Style, Initial}
use Rattle.tx_units.specs.Places.{AreApart, NoneBegins}
use Rattle.tx_units.specs.Units.{unit, base_units, loaded_units, absent_unit, named_units, style_units, entry_units}
use Rattle.tx_units.specs.Units.{initial_units, body_units, front_units, units}
use Rattle.tx_view_form.specs.Outcomes.{Moment, beginning, outcome, behind}
use Rattle.tx_view_form.specs.Views.{UnitView, AreShown}
use Rattle.tx_view.specs.Units.{AreAllApart}
use Rattle.tx_view_form.proofs.PathUnits.{all_both}

-- ---- units before those of the body have no path

abbrev HasNoPath : DocUnit → Type 0
HasNoPath u = u.path ≡ None

abbrev HaveNoPath : List DocUnit → Type 0
HaveNoPath us = AllByRecursion HasNoPath us

mapped : {X : Type 0} (f : X → DocUnit) → ((x : X) → HasNoPath (f x)) → (xs : List X) → HaveNoPath (map f xs)
mapped f h [] = tt
mapped f h (x ∷ xs) = (h x, mapped f h xs)

all_flat : {X : Type 0} (f : X → List DocUnit) → ((x : X) → HaveNoPath (f x)) → (xs : List X)
    → HaveNoPath (flat_map f xs)
all_flat f h [] = tt
all_flat f h (x ∷ xs) = all_both HasNoPath (f x) (flat_map f xs) (h x) (all_flat f h xs)

base_bare : HaveNoPath base_units
unfolding base_units
base_bare = mapped (λ row. unit Base (assign_tag (leaf row.0) row.1)) (λ row. refl) base_style

named_bare : (styles : List Buffer) (name : List ℕ) → HaveNoPath (named_units styles name)
named_bare styles name = pick (bytes_eq name (codes "generic"))
  where
    by : (o : Option ℕ) → HaveNoPath (option_map_or (λ k. loaded_units (k + 1) (tree_of styles k)) o
        (absent_unit name ∷ []))
    by None = (refl, tt)
    by (Some k) = mapped (unit (Style (k + 1))) (λ p. refl) (paragraphs (tree_of styles k))

    pick : (b : Bool) → HaveNoPath (cond b []
        (option_map_or (λ k. loaded_units (k + 1) (tree_of styles k)) (number_of styles name)
        (absent_unit name ∷ [])))
    pick true = tt
    pick false = by (number_of styles name)

entry_bare : (t : WideTree) → HaveNoPath (entry_units t)
entry_bare (leaf words) = tt
entry_bare (node label nil) = tt
entry_bare (node label (cons x nil)) = tt
entry_bare (node label (cons x (cons v nil))) = pick (bytes_eq label (codes "associate"))
  where
    pick : (b : Bool) → HaveNoPath (cond b (unit Initial (assign_tag x (tag (codes "quote") (v ∷ []))) ∷ []) [])
    pick true = (refl, tt)
    pick false = tt
entry_bare (node label (cons x (cons v (cons w ts)))) = tt

front_bare : (document : WideTree) (styles : List Buffer) → HaveNoPath (front_units document styles)
front_bare document styles =
    all_both HasNoPath base_units (style_units document styles ++ initial_units document) base_bare
    (all_both HasNoPath (style_units document styles) (initial_units document)
    (all_flat (named_units styles) (named_bare styles) (style_names document))
    (all_flat entry_units entry_bare (entries document)))

-- ---- all units

no_such : (o : Option (List ℕ)) (path : List ℕ) → o ≡ None → o ≡ Some path → ⊥
no_such o path e f = cc

beside_none : (u : DocUnit) → HasNoPath u → (vs : List DocUnit) → AllByRecursion (λ v. AreApart u.path v.path) vs
beside_none u e [] = tt
beside_none u e (v ∷ vs) =
    ((λ path more. ((λ f g. no_such u.path path e f), (λ f g. no_such u.path (path ++ more) e g))), beside_none u e vs)

bare_then : (us vs : List DocUnit) → HaveNoPath us → NoneBegins vs → NoneBegins (us ++ vs)
bare_then [] vs h k = k
bare_then (u ∷ us) vs h k = (beside_none u h.0 (us ++ vs), bare_then us vs h.1 k)

-- ---- what is shown of them

beside_shown : (p : Option (List ℕ)) (width : ℕ) (m : Moment) (us : List DocUnit) (xs : List UnitView)
    → AreShown width m us xs → AllByRecursion (λ v. AreApart p v.path) us → AllByRecursion (λ y. AreApart p y.path) xs
beside_shown p width m [] [] s h = tt
beside_shown p width m [] (x ∷ xs) s h = absurd s
beside_shown p width m (u ∷ us) [] s h = absurd s
beside_shown p width m (u ∷ us) (x ∷ xs) s h = (
  subst (λ (q : Option (List ℕ)). AreApart p q) (sym s.0.path_is) h.0,
  beside_shown p width (behind m (outcome (tagged_of u.tagged) m)) us xs s.1 h.1,
)

shown_apart : (width : ℕ) (m : Moment) (us : List DocUnit) (xs : List UnitView) → AreShown width m us xs
    → NoneBegins us → AreAllApart xs
shown_apart width m [] [] s h = tt
shown_apart width m [] (x ∷ xs) s h = absurd s
shown_apart width m (u ∷ us) [] s h = absurd s
shown_apart width m (u ∷ us) (x ∷ xs) s h =
    let later : Moment = behind m (outcome (tagged_of u.tagged) m) in (
      subst (λ (p : Option (List ℕ)). AllByRecursion (λ y. AreApart p y.path) xs) (sym s.0.path_is)
          (beside_shown u.path width later us xs s.1 h.0),
      shown_apart width later us xs s.1 h.1,
    )

pub units_apart : (buffers : List Buffer) (width : ℕ) (xs : List UnitView)
    → NoneBegins (body_units (document_of buffers)) → AreShown width beginning (units buffers) xs → AreAllApart xs
units_apart buffers width xs apart shown =
    let document : WideTree = document_of buffers in
    shown_apart width beginning (units buffers) xs shown
    (bare_then (front_units document (drop 1 buffers)) (body_units document)
    (front_bare document (drop 1 buffers)) apart)
