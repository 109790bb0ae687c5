-- Units that are before those of the body: each is made by `unit`, so none has a path.
use Rattle.std.proofs.Common.{◌≡◌, ℕ, zero, suc, ◌+◌, Bool, true, false, cond, List, [], ◌∷◌, ◌++◌, map, Option, Some}
use Rattle.std.proofs.Common.{None}
use Rattle.std.proofs.Common.{refl, sym, ap, ◌∙◌}
use Rattle.std.specs.Prelude.{codes, slice_get}
use Rattle.std.specs.List.{AllByRecursion, flat_map}
use Rattle.std.specs.Option.{option_map_or}
use Rattle.std.specs.Str.{bytes_eq}
use Rattle.tx_tree.specs.WideTree.{WideTree, leaf, node, nil, cons}
use Rattle.tx_doc.specs.Buffers.{tree_of, number_of}
use Rattle.tx_doc.specs.declared.buffer.Buffer.{Buffer}
use Rattle.tx_units.specs.BaseStyle.{tag, assign_tag, base_style}
use Rattle.tx_units.specs.Documents.{style_names, entries, paragraphs}
use Rattle.tx_units.specs.declared.kinds.Unit.{Unit as DocUnit}
use Rattle.tx_units.specs.declared.kinds.UnitKind.TheVariants.{Base, Style, Initial}
use Rattle.tx_units.specs.Units.{unit, base_units, loaded_units, absent_unit, named_units, style_units, entry_units}
use Rattle.tx_units.specs.Units.{initial_units, front_units, units_with}

abbrev NoPath : DocUnit → Type 0
NoPath u = u.path ≡ None

all_both : (xs ys : List DocUnit) → AllByRecursion NoPath xs → AllByRecursion NoPath ys
    → AllByRecursion NoPath (xs ++ ys)
all_both [] ys h k = k
all_both (x ∷ xs) ys h k = (h.0, all_both xs ys h.1 k)

mapped : {X : Type 0} (f : X → DocUnit) → ((x : X) → NoPath (f x)) → (xs : List X) → AllByRecursion NoPath (map f xs)
mapped f h [] = tt
mapped f h (x ∷ xs) = (h x, mapped f h xs)

all_flat : {X : Type 0} (f : X → List DocUnit) → ((x : X) → AllByRecursion NoPath (f x)) → (xs : List X)
    → AllByRecursion NoPath (flat_map f xs)
all_flat f h [] = tt
all_flat f h (x ∷ xs) = all_both (f x) (flat_map f xs) (h x) (all_flat f h xs)

base_front : AllByRecursion NoPath base_units
unfolding base_units
base_front = mapped (λ row. unit Base (assign_tag (leaf row.0) row.1)) (λ row. refl) base_style

named_front : (styles : List Buffer) (name : List ℕ) → AllByRecursion NoPath (named_units styles name)
named_front styles name = pick (bytes_eq name (codes "generic"))
  where
    by : (o : Option ℕ) → AllByRecursion NoPath
        (option_map_or (λ k. loaded_units (k + 1) (tree_of styles k)) o (absent_unit name ∷ []))
    by None = (refl, tt)
    by (Some k) = mapped (unit (Style (k + 1))) (λ p. refl) (paragraphs (tree_of styles k))

    pick : (b : Bool) → AllByRecursion NoPath
        (cond b [] (option_map_or (λ k. loaded_units (k + 1) (tree_of styles k)) (number_of styles name)
        (absent_unit name ∷ [])))
    pick true = tt
    pick false = by (number_of styles name)

entry_front : (t : WideTree) → AllByRecursion NoPath (entry_units t)
entry_front (leaf words) = tt
entry_front (node label nil) = tt
entry_front (node label (cons x nil)) = tt
entry_front (node label (cons x (cons v nil))) = pick (bytes_eq label (codes "associate"))
  where
    pick : (b : Bool)
        → AllByRecursion NoPath (cond b (unit Initial (assign_tag x (tag (codes "quote") (v ∷ []))) ∷ []) [])
    pick true = (refl, tt)
    pick false = tt
entry_front (node label (cons x (cons v (cons w ts)))) = tt

pub no_paths : (document : WideTree) (styles : List Buffer) → AllByRecursion NoPath (front_units document styles)
no_paths document styles =
    all_both base_units (style_units document styles ++ initial_units document) base_front
    (all_both (style_units document styles) (initial_units document)
    (all_flat (named_units styles) (named_front styles) (style_names document))
    (all_flat entry_units entry_front (entries document)))

-- ---- a unit with a path is after them

pub record IsBehind (i : ℕ) (x : WideTree) (front us : List DocUnit) (u : DocUnit) : Type 0 where
  pub number : ℕ
  pub there : slice_get us number ≡ Some u
  pub changed : units_with i x (front ++ us) ≡ front ++ units_with number x us

pub behind : (front us : List DocUnit) (i : ℕ) (x : WideTree) (u : DocUnit) (p : List ℕ)
    → AllByRecursion NoPath front → slice_get (front ++ us) i ≡ Some u → u.path ≡ Some p
    → IsBehind i x front us u
behind [] us i x u p none e is = record { number = i; there = e; changed = refl }
behind (f ∷ front) us zero x u p none e is =
    let same : f ≡ u = cc in
    let off : None ≡ Some p = sym none.0 ∙ ap (λ v. v.path) same ∙ is in
    absurd cc
behind (f ∷ front) us (suc i) x u p none e is =
    let h = behind front us i x u p none.1 e is in
    record { number = h.number; there = h.there; changed = ap (λ vs. f ∷ vs) h.changed }
