-- Where more is held of layers, they cost no more.
use Rattle.std.proofs.Common.{◌≡◌, ℕ, zero, suc, ◌+◌, ◌-◌, ◌≤◌, List, [], ◌∷◌, refl, arith}
use Rattle.std.specs.Prelude.{Bool, true, false, nat_le, if◌then◌else◌, Option, Some, None}
use Rattle.std.specs.Option.{option_map_or}
use Rattle.tx_tree.specs.WideTree.{WideTree, leaf}
use Rattle.tx_env.specs.Pairs.{Name}
use Rattle.tx_exec_form.specs.Runs.{Before}
use Rattle.tx_exec_form.specs.Evaluated.{WideTrace, paid}
use Rattle.tx_parts.specs.Atop.{env_atop}
use Rattle.tx_parts.specs.Openness.{Openness, Document, With, Shut}
use Rattle.tx_parts.specs.Shells.{Layer}
use Rattle.tx_parts.specs.Opening.{Sheller, Opening, ByTree, ByShell, opening}
use Rattle.tx_parts.specs.Composed.{evaluates, SoFar, nothing_yet, with_child, set_by, settings_cost}
use Rattle.tx_parts.specs.Layered.{evaluates_bare, layer_values, layer_cost, inside_layer}
use Rattle.tx_parts.specs.LayerCosts.{Holder, holds_nothing, HoldsMore, TreeMeasure, tree_counts, tree_counts_from}
use Rattle.tx_parts.specs.LayerCosts.{set_nodes, layer_tree_costs, layer_set_nodes, Counter, counts_from, counts_as}
use Rattle.tx_parts.specs.LayerCosts.{LayerCounter, costs_inside, costs_layers, costs_opened, layer_costs_by}
use Rattle.tx_parts.specs.LayerCosts.{layer_costs_in}

pub nothing_less : (held : Holder) → HoldsMore holds_nothing held
nothing_less held t e h = let off : false ≡ true = h in cc

abbrev pub IsFewer : Counter → Counter → Type 0
IsFewer few many = (c : ℕ) (t : WideTree) (e : Before) → few c t e ≤ many c t e

module _ (held more : Holder) (both : HoldsMore held more) where
  unless_less : (t : WideTree) (e : Before) (n : ℕ) → (if more t e then 0 else n) ≤ (if held t e then 0 else n)
  unless_less t e n = by (held t e) (more t e) (both t e)
    where
      by : (a b : Bool) → (a ≡ true → b ≡ true) → (if b then 0 else n) ≤ (if a then 0 else n)
      by a true f = omega arith
      by false false f = omega arith
      by true false f = let off : false ≡ true = f refl in cc

  -- ---- the trees of a layer

  pub trees_fewer : (measure : TreeMeasure) (k c i : ℕ) (a : SoFar) (xs : List Name) (ts : List WideTree)
      (e : Before) →
      tree_counts_from more measure k c i a xs ts e ≤ tree_counts_from held measure k c i a xs ts e
  trees_fewer measure k c i a [] ts e = omega arith
  trees_fewer measure k c i a (x ∷ xs) [] e = omega arith
  trees_fewer measure k c i a (x ∷ xs) (t ∷ ts) e =
      by_name (evaluates_bare k (c - a.cost) (leaf x) (env_atop a.writes e))
      (λ b. trees_fewer measure k c (i + 1 + 1) b xs ts e)
    where
      by_tree : (b : SoFar) (o : Option WideTrace) → ((z : SoFar) →
          tree_counts_from more measure k c (i + 1 + 1) z xs ts e ≤
          tree_counts_from held measure k c (i + 1 + 1) z xs ts e) →
          (if more t (env_atop b.writes e) then 0 else measure (c - b.cost) o)
          + option_map_or (λ trace. tree_counts_from more measure k c (i + 1 + 1) (with_child (i + 1) b trace) xs ts e)
          o 0 ≤
          (if held t (env_atop b.writes e) then 0 else measure (c - b.cost) o)
          + option_map_or (λ trace. tree_counts_from held measure k c (i + 1 + 1) (with_child (i + 1) b trace) xs ts e)
          o 0
      by_tree b None go = omega (arith, unless_less t (env_atop b.writes e) (measure (c - b.cost) None))
      by_tree b (Some trace) go =
          omega (
            arith,
            unless_less t (env_atop b.writes e) (measure (c - b.cost) (Some trace)),
            go (with_child (i + 1) b trace),
          )

      by_name : (o : Option WideTrace) → ((z : SoFar) → tree_counts_from more measure k c (i + 1 + 1) z xs ts e ≤
          tree_counts_from held measure k c (i + 1 + 1) z xs ts e) →
          option_map_or (λ name. tree_counts more measure k c (i + 1) (with_child i a name) t
          (λ b. tree_counts_from more measure k c (i + 1 + 1) b xs ts e) e) o 0 ≤
          option_map_or (λ name. tree_counts held measure k c (i + 1) (with_child i a name) t
          (λ b. tree_counts_from held measure k c (i + 1 + 1) b xs ts e) e) o 0
      by_name None go = omega arith
      by_name (Some name) go =
          by_tree (with_child i a name) (evaluates_bare k (c - (with_child i a name).cost) t
          (env_atop (with_child i a name).writes e)) go

  -- ---- children

  module _ (k : ℕ) (few many : Counter) (below : IsFewer few many) where
    children_fewer : (c i : ℕ) (a : SoFar) (ts : List WideTree) (e : Before) →
        counts_from k few c i a ts e ≤ counts_from k many c i a ts e
    children_fewer c i a [] e = omega arith
    children_fewer c i a (t ∷ ts) e =
        by (evaluates k (c - a.cost) t (env_atop a.writes e)) (below (c - a.cost) t (env_atop a.writes e))
        (λ b. children_fewer c (i + 1) b ts e)
      where
        by : (o : Option WideTrace) →
            few (c - a.cost) t (env_atop a.writes e) ≤ many (c - a.cost) t (env_atop a.writes e) →
            ((b : SoFar) → counts_from k few c (i + 1) b ts e ≤ counts_from k many c (i + 1) b ts e) →
            few (c - a.cost) t (env_atop a.writes e)
            + option_map_or (λ trace. counts_from k few c (i + 1) (with_child i a trace) ts e) o 0 ≤
            many (c - a.cost) t (env_atop a.writes e)
            + option_map_or (λ trace. counts_from k many c (i + 1) (with_child i a trace) ts e) o 0
        by None first go = omega (arith, first)
        by (Some trace) first go = omega (arith, first, go (with_child i a trace))

    as_fewer : (o : Openness) → IsFewer (counts_as o k few) (counts_as o k many)
    as_fewer (Document ts) c t e = children_fewer (c - 1) 0 nothing_yet ts e
    as_fewer (With ps b) c t e = below (c - (1 + settings_cost ps)) b (env_atop (set_by ps) e)
    as_fewer Shut c t e = omega arith

    -- ---- layers

    module _ (fewer_in many_in : LayerCounter) (within : (ls : List Layer) → IsFewer (fewer_in ls) (many_in ls)) where
      layers_fewer : (ls : List Layer) → IsFewer (costs_layers more k few fewer_in ls)
          (costs_layers held k many many_in ls)
      layers_fewer [] c t e = below (c - 1) t e
      layers_fewer (l ∷ ls) c t e =
          by (layer_values k l c e) (trees_fewer paid k (c - 1) 0 nothing_yet l.names l.trees e)
        where
          by_test : (a : SoFar) (b : Bool) →
              (if b then layer_set_nodes more k l c e
              + fewer_in ls (c - layer_cost l.names a) t (inside_layer l.names a e) else 0) ≤
              (if b then layer_set_nodes held k l c e
              + many_in ls (c - layer_cost l.names a) t (inside_layer l.names a e) else 0)
          by_test a true =
              omega (
                arith,
                trees_fewer set_nodes k (c - 1) 0 nothing_yet l.names l.trees e,
                within ls (c - layer_cost l.names a) t (inside_layer l.names a e),
              )
          by_test a false = omega arith

          by : (o : Option SoFar) → layer_tree_costs more k l c e ≤ layer_tree_costs held k l c e →
              layer_tree_costs more k l c e
              + option_map_or (λ a. costs_inside more k l a (fewer_in ls) c t e) o 0 ≤
              layer_tree_costs held k l c e
              + option_map_or (λ a. costs_inside held k l a (many_in ls) c t e) o 0
          by None trees = omega (arith, trees)
          by (Some a) trees = omega (arith, trees, by_test a (nat_le (layer_cost l.names a) c))

      opened_fewer : (o : Opening) → IsFewer (costs_opened o k few fewer_in) (costs_opened o k many many_in)
      opened_fewer (ByTree o) c t e = as_fewer o c t e
      opened_fewer (ByShell shell u) c t e = within shell.layers (c - 1) u e

  module _ (sheller : Sheller) where
    mutual
      unfolding layer_costs_by layer_costs_in

      pub costs_fewer : (k : ℕ) → IsFewer (layer_costs_by more sheller k) (layer_costs_by held sheller k)
      costs_fewer zero c t e = omega arith
      costs_fewer (suc k) c t e =
          opened_fewer k (layer_costs_by more sheller k) (layer_costs_by held sheller k) (costs_fewer k)
          (layer_costs_in more sheller k) (layer_costs_in held sheller k) (costs_in_fewer k) (opening sheller t e) c t e

      pub costs_in_fewer : (k : ℕ) (ls : List Layer) →
          IsFewer (layer_costs_in more sheller k ls) (layer_costs_in held sheller k ls)
      costs_in_fewer zero ls c t e = omega arith
      costs_in_fewer (suc k) ls c t e =
          layers_fewer k (layer_costs_by more sheller k) (layer_costs_by held sheller k) (costs_fewer k)
          (layer_costs_in more sheller k) (layer_costs_in held sheller k) (costs_in_fewer k) ls c t e
