-- Only the units of the body have a path.
use Rattle.std.proofs.Common.{◌≡◌, ℕ, ◌+◌, Bool, true, false, cond, List, [], ◌∷◌, ◌++◌, map, drop, Option, Some, None}
use Rattle.std.specs.Prelude.{codes}
use Rattle.std.specs.List.{AllByRecursion, flat_map}
use Rattle.std.specs.Option.{option_map_or}
use Rattle.std.specs.Str.{bytes_eq}
use Rattle.tx_tree.specs.WideTree.{WideTree, leaf, node, nil, cons}
use Rattle.tx_doc.specs.Buffers.{tree_of, document_of, number_of}
use Rattle.tx_doc.specs.declared.buffer.Buffer.{Buffer}
use Rattle.tx_units.specs.BaseStyle.{tag, assign_tag, base_style}
use Rattle.tx_units.specs.Documents.{style_names, entries, paragraphs}
use Rattle.tx_units.specs.declared.kinds.Unit.{Unit as DocUnit}
use Rattle.tx_units.specs.declared.kinds.UnitKind.TheVariants.{Base, Style, Initial}
use Rattle.tx_units.specs.Places.{UnitStandsIn}
use Rattle.tx_units.specs.Units.{unit, base_units, loaded_units, absent_unit, named_units, style_units, entry_units}
use Rattle.tx_units.specs.Units.{initial_units, body_units, front_units, units}
use Rattle.tx_units.proofs.Placing.{body_stands}

-- where the unit has a path, it is in the document
abbrev pub Stands : WideTree → DocUnit → Type 0
Stands document u = (path : List ℕ) → u.path ≡ Some path → UnitStandsIn document u

pub all_both : {X : Type 0} (R : X → Type 0) (xs ys : List X) → AllByRecursion R xs → AllByRecursion R ys
    → AllByRecursion R (xs ++ ys)
all_both R [] ys h k = k
all_both R (x ∷ xs) ys h k = (h.0, all_both R xs ys h.1 k)

pub all_flat : {X Y : Type 0} (R : Y → Type 0) (f : X → List Y) → ((x : X) → AllByRecursion R (f x)) → (xs : List X)
    → AllByRecursion R (flat_map f xs)
all_flat R f h [] = tt
all_flat R f h (x ∷ xs) = all_both R (f x) (flat_map f xs) (h x) (all_flat R f h xs)

all_map : {X Y : Type 0} (R : Y → Type 0) (f : X → Y) → ((x : X) → R (f x)) → (xs : List X)
    → AllByRecursion R (map f xs)
all_map R f h [] = tt
all_map R f h (x ∷ xs) = (h x, all_map R f h xs)

module _ (document : WideTree) where
  abbrev AllStand : List DocUnit → Type 0
  AllStand us = AllByRecursion (Stands document) us

  base_stand : AllStand base_units
  unfolding base_units
  base_stand =
      all_map (Stands document) (λ row. unit Base (assign_tag (leaf row.0) row.1)) (λ row path e. absurd cc) base_style

  loaded_stand : (k : ℕ) (t : WideTree) → AllStand (loaded_units k t)
  loaded_stand k t = all_map (Stands document) (unit (Style k)) (λ p path e. absurd cc) (paragraphs t)

  named_stand : (styles : List Buffer) (name : List ℕ) → AllStand (named_units styles name)
  named_stand styles name = pick (bytes_eq name (codes "generic"))
    where
      by : (o : Option ℕ) → AllStand (option_map_or (λ k. loaded_units (k + 1) (tree_of styles k)) o
          (absent_unit name ∷ []))
      by None = ((λ path e. absurd cc), tt)
      by (Some k) = loaded_stand (k + 1) (tree_of styles k)

      pick : (b : Bool) → AllStand (cond b []
          (option_map_or (λ k. loaded_units (k + 1) (tree_of styles k)) (number_of styles name)
          (absent_unit name ∷ [])))
      pick true = tt
      pick false = by (number_of styles name)

  entry_stands : (t : WideTree) → AllStand (entry_units t)
  entry_stands (leaf words) = tt
  entry_stands (node label nil) = tt
  entry_stands (node label (cons x nil)) = tt
  entry_stands (node label (cons x (cons v nil))) = pick (bytes_eq label (codes "associate"))
    where
      pick : (b : Bool) → AllStand (cond b (unit Initial (assign_tag x (tag (codes "quote") (v ∷ []))) ∷ []) [])
      pick true = ((λ path e. absurd cc), tt)
      pick false = tt
  entry_stands (node label (cons x (cons v (cons w ts)))) = tt

  front_stand : (styles : List Buffer) → AllStand (front_units document styles)
  front_stand styles =
      all_both (Stands document) base_units (style_units document styles ++ initial_units document) base_stand
      (all_both (Stands document) (style_units document styles) (initial_units document)
      (all_flat (Stands document) (named_units styles) (named_stand styles) (style_names document))
      (all_flat (Stands document) entry_units entry_stands (entries document)))

  body_stand : (us : List DocUnit) → AllByRecursion (UnitStandsIn document) us → AllStand us
  body_stand [] h = tt
  body_stand (u ∷ us) h = ((λ path e. h.0), body_stand us h.1)

pub units_stand : (buffers : List Buffer) → AllByRecursion (Stands (document_of buffers)) (units buffers)
units_stand buffers =
    let document : WideTree = document_of buffers in
    all_both (Stands document) (front_units document (drop 1 buffers)) (body_units document)
    (front_stand document (drop 1 buffers)) (body_stand document (body_units document) (body_stands document))
