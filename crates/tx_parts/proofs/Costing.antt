-- The parts of a tree and the trees of its layers cost at most what the tree does.
use Rattle.std.proofs.Common.{◌≡◌, ℕ, zero, suc, ◌+◌, ◌*◌, ◌-◌, ◌≤◌, List, [], ◌∷◌, ◌++◌, length, subst, refl, sym}
use Rattle.std.proofs.Common.{ap, ◌∙◌, append_assoc, length-append, arith}
use Rattle.std.proofs.lemmas.Grind.{common_steps}
use Rattle.std.proofs.lemmas.List.Sums.{sum_by-append}
use Rattle.std.specs.Prelude.{Bool, true, false, nat_le, if◌then◌else◌, Option, Some, None, option_and_then}
use Rattle.std.specs.Option.{option_map, option_map_or}
use Rattle.std.specs.List.{sum_by}
use Rattle.tx_tree.specs.WideTree.{WideTree, leaf, size_of, nodes_of}
use Rattle.tx_origin.specs.Values.{WideValue, plain}
use Rattle.tx_origin.specs.Under.{value_under}
use Rattle.tx_origin.proofs.Under.{plain_under}
use Rattle.tx_origin.proofs.Parts.{nodes_le_size}
use Rattle.tx_exec_form.specs.Runs.{Before}
use Rattle.tx_exec_form.specs.Rows.{sizes}
use Rattle.tx_exec_form.specs.Evaluated.{WideTrace, paid}
use Rattle.tx_exec_form.proofs.Tracing.{allowed}
use Rattle.tx_parts.specs.Atop.{env_atop}
use Rattle.tx_parts.specs.Openness.{Settings, Openness, Document, With, Shut, openness}
use Rattle.tx_parts.specs.Composed.{alone, evaluates, SoFar, nothing_yet, with_child, children_from, document_trace}
use Rattle.tx_parts.specs.Composed.{set_by, settings_cost, with_trace, composed_as}
use Rattle.tx_env.specs.Pairs.{Name}
use Rattle.tx_parts.specs.Shells.{Layer, bare, in_turn}
use Rattle.tx_parts.specs.Opening.{Sheller, no_shells, Opening, ByTree, ByShell, opening}
use Rattle.tx_parts.specs.Layered.{evaluates_bare, layer_values, layer_pairs, as_sets, layer_cost}
use Rattle.tx_parts.specs.Layered.{inside_layer, layer_trace, child_trace, layer_composed}
use Rattle.tx_parts.specs.Layered.{composed_layers, evaluates_in, shell_trace, composed_opened}
use Rattle.tx_parts.specs.Shellers.{IsSheller}
use Rattle.tx_parts.specs.Parts.{Part, part_cost, Finder, parts_from, parts_as, parts, LayerFinder, parts_layers}
use Rattle.tx_parts.specs.Parts.{parts_opened, parts_by, parts_in}
use Rattle.tx_parts.specs.LayerCosts.{Holder, holds_nothing, tree_counts, tree_counts_from, set_nodes}
use Rattle.tx_parts.specs.LayerCosts.{layer_tree_costs, layer_set_nodes, Counter, counts_from, counts_as}
use Rattle.tx_parts.specs.LayerCosts.{LayerCounter, costs_inside, costs_layers, costs_opened, layer_costs_by}
use Rattle.tx_parts.specs.LayerCosts.{layer_costs_in}
use Rattle.tx_parts.proofs.Holding.{nothing_less, costs_fewer, costs_in_fewer}
use Rattle.tx_parts.proofs.Children.{IsWithin, tagged_within, child_within, children_within, evaluates_bounded}
use Rattle.tx_parts.proofs.Children.{bare_bounded, FirstDone, first_done}
use Rattle.tx_parts.proofs.LayerValues.{pairs_more}
use Rattle.tx_parts.proofs.Opened.{in_bounded, opened_is, closed_is}

abbrev total : List Part → ℕ
total ps = sum_by part_cost ps

total_both : (ps qs : List Part) → total (ps ++ qs) ≡ total ps + total qs
total_both ps qs = sum_by-append part_cost ps qs

-- what children take of c steps
abbrev children_paid : ℕ → Option SoFar → ℕ
children_paid c None = c
children_paid c (Some b) = b.cost

pub paid_most : (k c : ℕ) (t : WideTree) (e : Before) (o : Option WideTrace) → evaluates k c t e ≡ o → paid c o ≤ c
paid_most k c t e None h = omega arith
paid_most k c t e (Some trace) h = (allowed k c (alone t) e trace h).0

children_most : (k c : ℕ) (ts : List WideTree) (e : Before) (o : Option SoFar) →
    children_from (evaluates k) c 0 nothing_yet ts e ≡ o → children_paid c o ≤ c
children_most k c ts e None h = omega arith
children_most k c ts e (Some b) h = (children_within k (evaluates k) (evaluates_bounded k) c 0 nothing_yet
    ts e b (omega arith, omega arith) h).0

abbrev pub CostBelow : ℕ → Finder → Counter → Type 0
CostBelow k finder counter = (c : ℕ) (path : List ℕ) (t : WideTree) (e : Before) →
    total (finder c path t e) + counter c t e ≤ paid c (evaluates k c t e)

module _ (k : ℕ) (finder : Finder) (counter : Counter) (below : CostBelow k finder counter) where
  children_cost : (c : ℕ) (path : List ℕ) (i : ℕ) (a : SoFar) (ts : List WideTree) (e : Before) → IsWithin k c a →
      a.cost + (total (parts_from k finder c path i a ts e) + counts_from k counter c i a ts e) ≤
      children_paid c (children_from (evaluates k) c i a ts e)
  children_cost c path i a [] e h = omega arith
  children_cost c path i a (t ∷ ts) e h =
      by (evaluates k (c - a.cost) t (env_atop a.writes e)) refl
      (below (c - a.cost) (path ++ i ∷ []) t (env_atop a.writes e))
      (λ a' g. children_cost c path (i + 1) a' ts e g)
    where
      by : (o : Option WideTrace) → evaluates k (c - a.cost) t (env_atop a.writes e) ≡ o →
          total (finder (c - a.cost) (path ++ i ∷ []) t (env_atop a.writes e))
          + counter (c - a.cost) t (env_atop a.writes e) ≤ paid (c - a.cost) o →
          ((a' : SoFar) → IsWithin k c a' → a'.cost + (total (parts_from k finder c path (i + 1) a' ts e)
          + counts_from k counter c (i + 1) a' ts e) ≤
          children_paid c (children_from (evaluates k) c (i + 1) a' ts e)) →
          a.cost + (total (finder (c - a.cost) (path ++ i ∷ []) t (env_atop a.writes e)
          ++ option_map_or (λ trace. parts_from k finder c path (i + 1) (with_child i a trace) ts e) o [])
          + (counter (c - a.cost) t (env_atop a.writes e)
          + option_map_or (λ trace. counts_from k counter c (i + 1) (with_child i a trace) ts e) o 0)) ≤
          children_paid c
          (option_and_then (λ trace. children_from (evaluates k) c (i + 1) (with_child i a trace) ts e) o)
      by None q first go =
          let both : total (finder (c - a.cost) (path ++ i ∷ []) t (env_atop a.writes e) ++ []) ≡
          total (finder (c - a.cost) (path ++ i ∷ []) t (env_atop a.writes e)) + 0 =
          total_both (finder (c - a.cost) (path ++ i ∷ []) t (env_atop a.writes e)) [] in
          omega (arith, both, first, h.0)
      by (Some trace) q first go =
          let rest : List Part = parts_from k finder c path (i + 1) (with_child i a trace) ts e in
          let more : ℕ = counts_from k counter c (i + 1) (with_child i a trace) ts e in
          let both : total (finder (c - a.cost) (path ++ i ∷ []) t (env_atop a.writes e) ++ rest) ≡
          total (finder (c - a.cost) (path ++ i ∷ []) t (env_atop a.writes e)) + total rest =
          total_both (finder (c - a.cost) (path ++ i ∷ []) t (env_atop a.writes e)) rest in
          let later : (a.cost + trace.cost) + (total rest + more) ≤
          children_paid c (children_from (evaluates k) c (i + 1) (with_child i a trace) ts e) =
          go (with_child i a trace) (child_within k c i a t (env_atop a.writes e) trace h q) in
          omega (arith, both, first, later)

  document_cost : (c n : ℕ) (b : Bool) (o : Option SoFar) → n ≤ children_paid (c - 1) o →
      children_paid (c - 1) o ≤ c - 1 →
      n ≤ paid c (if b then option_map document_trace o else None)
  document_cost c n true None h g = omega (arith, h)
  document_cost c n true (Some so_far) h g = omega (arith, h)
  document_cost c n false o h g = omega (arith, h, g)

  with_cost : (ps : Settings) (c n : ℕ) (b : Bool) (o : Option WideTrace) →
      n ≤ paid (c - (1 + settings_cost ps)) o → paid (c - (1 + settings_cost ps)) o ≤ c - (1 + settings_cost ps) →
      n ≤ paid c (if b then option_map (with_trace ps) o else None)
  with_cost ps c n true None h g = omega (arith, h)
  with_cost ps c n true (Some trace) h g = omega (arith, h)
  with_cost ps c n false o h g = omega (arith, h, g)

  open_cost : (o : Openness) (c : ℕ) (path : List ℕ) (t : WideTree) (e : Before) →
      total (parts_as o k finder c path t e) + counts_as o k counter c t e ≤
      paid c (composed_as o k (evaluates k) c t e)
  open_cost (Document ts) c path t e =
      let all : 0 + (total (parts_from k finder (c - 1) path 0 nothing_yet ts e)
      + counts_from k counter (c - 1) 0 nothing_yet ts e) ≤
      children_paid (c - 1) (children_from (evaluates k) (c - 1) 0 nothing_yet ts e) =
      children_cost (c - 1) path 0 nothing_yet ts e (omega arith, omega arith) in
      document_cost c (total (parts_from k finder (c - 1) path 0 nothing_yet ts e)
      + counts_from k counter (c - 1) 0 nothing_yet ts e) (nat_le 1 c)
      (children_from (evaluates k) (c - 1) 0 nothing_yet ts e) (omega (arith, all))
      (children_most k (c - 1) ts e (children_from (evaluates k) (c - 1) 0 nothing_yet ts e) refl)
  open_cost (With ps u) c path t e =
      with_cost ps c
      (total (finder (c - (1 + settings_cost ps)) (path ++ (2 * length ps) ∷ []) u (env_atop (set_by ps) e))
      + counter (c - (1 + settings_cost ps)) u (env_atop (set_by ps) e))
      (nat_le (1 + settings_cost ps) c) (evaluates k (c - (1 + settings_cost ps)) u (env_atop (set_by ps) e))
      (below (c - (1 + settings_cost ps)) (path ++ (2 * length ps) ∷ []) u (env_atop (set_by ps) e))
      (paid_most k (c - (1 + settings_cost ps)) u (env_atop (set_by ps) e)
      (evaluates k (c - (1 + settings_cost ps)) u (env_atop (set_by ps) e)) refl)
  open_cost Shut c path t e = omega arith

-- ---- the trees of a layer

module _ (k c i : ℕ) (a : SoFar) (x : Name) (xs : List Name) (t : WideTree) (ts : List WideTree) (e : Before) where
  abbrev rest : SoFar → ℕ
  rest z = tree_counts_from holds_nothing paid k c (i + 1 + 1) z xs ts e

  abbrev children_after : SoFar → Option SoFar
  children_after z = children_from (evaluates_bare k) c (i + 1 + 1) z (in_turn xs ts) e

  by_tree : (b : SoFar) (o : Option WideTrace) → a.cost ≤ b.cost → IsWithin k c b →
      evaluates_bare k (c - b.cost) t (env_atop b.writes e) ≡ o →
      ((z : SoFar) → IsWithin k c z → z.cost + rest z ≤ children_paid c (children_after z)) →
      a.cost + (paid (c - b.cost) o + option_map_or (λ trace. rest (with_child (i + 1) b trace)) o 0) ≤
      children_paid c (option_and_then (λ trace. children_after (with_child (i + 1) b trace)) o)
  by_tree b None more within q go = let cost : b.cost ≤ c = within.0 in omega (arith, more, cost)
  by_tree b (Some trace) more within q go =
      let later : (b.cost + trace.cost) + rest (with_child (i + 1) b trace) ≤
      children_paid c (children_after (with_child (i + 1) b trace)) =
      go (with_child (i + 1) b trace) (tagged_within k c (i + 1) b (bare t) (env_atop b.writes e) trace within q) in
      omega (arith, more, later)

  by_name : (o : Option WideTrace) → IsWithin k c a →
      evaluates_bare k (c - a.cost) (leaf x) (env_atop a.writes e) ≡ o →
      ((z : SoFar) → IsWithin k c z → z.cost + rest z ≤ children_paid c (children_after z)) →
      a.cost + option_map_or (λ name. tree_counts holds_nothing paid k c (i + 1) (with_child i a name) t rest e) o 0 ≤
      children_paid c (option_and_then (λ name. children_from (evaluates_bare k) c (i + 1) (with_child i a name)
      (t ∷ in_turn xs ts) e) o)
  by_name None h q go = let cost : a.cost ≤ c = h.0 in omega (arith, cost)
  by_name (Some name) h q go =
      by_tree (with_child i a name) (evaluates_bare k (c - (with_child i a name).cost) t
      (env_atop (with_child i a name).writes e)) (omega arith)
      (tagged_within k c i a (bare (leaf x)) (env_atop a.writes e) name h q) refl go

-- names and trees from here on
trees_cost : (k c i : ℕ) (a : SoFar) (xs : List Name) (ts : List WideTree) (e : Before) → IsWithin k c a →
    a.cost + tree_counts_from holds_nothing paid k c i a xs ts e ≤
    children_paid c (children_from (evaluates_bare k) c i a (in_turn xs ts) e)
trees_cost k c i a [] ts e h = omega arith
trees_cost k c i a (x ∷ xs) [] e h = omega arith
trees_cost k c i a (x ∷ xs) (t ∷ ts) e h =
    by_name k c i a x xs t ts e (evaluates_bare k (c - a.cost) (leaf x) (env_atop a.writes e)) h refl
    (λ z g. trees_cost k c (i + 1 + 1) z xs ts e g)

layer_trees_cost : (k : ℕ) (l : Layer) (c : ℕ) (e : Before) →
    layer_tree_costs holds_nothing k l c e ≤ children_paid (c - 1) (layer_values k l c e)
layer_trees_cost k l c e =
    let all : 0 + layer_tree_costs holds_nothing k l c e ≤ children_paid (c - 1) (layer_values k l c e) =
    trees_cost k (c - 1) 0 nothing_yet l.names l.trees e (omega arith, omega arith) in
    omega (arith, all)

-- the nodes of what names are set to

pairs_sizes : (ps qs : List (Name × WideTree)) → sizes (as_sets (ps ++ qs)) ≡ sizes (as_sets ps) + sizes (as_sets qs)
pairs_sizes [] qs = omega arith
pairs_sizes (p ∷ ps) qs =
    let rest : sizes (as_sets (ps ++ qs)) ≡ sizes (as_sets ps) + sizes (as_sets qs) = pairs_sizes ps qs in
    omega (arith, rest)

sizes_front : (ys xs : List Name) (vs : List WideValue) →
    sizes (as_sets (layer_pairs ys vs)) ≤ sizes (as_sets (layer_pairs (ys ++ xs) vs))
sizes_front [] xs vs = omega arith
sizes_front (y ∷ ys) xs [] = omega arith
sizes_front (y ∷ ys) xs (v ∷ []) = omega arith
sizes_front (y ∷ ys) xs (u ∷ v ∷ vs) = omega (arith, sizes_front ys xs vs)

-- those after the names ys, where names and trees from here on evaluate to b
abbrev NodesBehind : ℕ → ℕ → ℕ → List Name → List Name → List WideTree → Before → SoFar → Type 0
NodesBehind k c i ys xs ts e b = (a : SoFar) → length a.values ≡ 2 * length ys →
    children_from (evaluates_bare k) c i a (in_turn xs ts) e ≡ Some b →
    sizes (as_sets (layer_pairs ys a.values)) + tree_counts_from holds_nothing set_nodes k c i a xs ts e ≤
    sizes (as_sets (layer_pairs (ys ++ xs) b.values))

trees_nodes : (k c i : ℕ) (ys xs : List Name) (ts : List WideTree) (e : Before) (b : SoFar) →
    NodesBehind k c i ys xs ts e b
trees_nodes k c i ys [] ts e b a many h =
    let same : a ≡ b = cc in
    subst (λ (z : SoFar). sizes (as_sets (layer_pairs ys a.values)) + 0 ≤ sizes (as_sets
    (layer_pairs (ys ++ []) z.values))) same (omega (arith, sizes_front ys [] a.values))
trees_nodes k c i ys (x ∷ xs) [] e b a many h =
    let same : a ≡ b = cc in
    subst (λ (z : SoFar). sizes (as_sets (layer_pairs ys a.values)) + 0 ≤ sizes (as_sets
    (layer_pairs (ys ++ x ∷ xs) z.values))) same (omega (arith, sizes_front ys (x ∷ xs) a.values))
trees_nodes k c i ys (x ∷ xs) (t ∷ ts) e b a many h =
    by_name (first_done (evaluates_bare k) c i a (leaf x) (t ∷ in_turn xs ts) e b h)
    (trees_nodes k c (i + 1 + 1) (ys ++ x ∷ []) xs ts e b)
  where
    by_tree : (f : FirstDone (evaluates_bare k) c i a (leaf x) (t ∷ in_turn xs ts) e b) →
        FirstDone (evaluates_bare k) c (i + 1) (with_child i a f.trace) t (in_turn xs ts) e b →
        NodesBehind k c (i + 1 + 1) (ys ++ x ∷ []) xs ts e b →
        sizes (as_sets (layer_pairs ys a.values))
        + tree_counts_from holds_nothing set_nodes k c i a (x ∷ xs) (t ∷ ts) e ≤
        sizes (as_sets (layer_pairs (ys ++ x ∷ xs) b.values))
    by_tree f g go =
        let name : WideValue = value_under (i ∷ []) f.trace.value in
        let value : WideValue = value_under ((i + 1) ∷ []) g.trace.value in
        let z : SoFar = with_child (i + 1) (with_child i a f.trace) g.trace in
        let rest : ℕ = tree_counts_from holds_nothing set_nodes k c (i + 1 + 1) z xs ts e in
        let counts : tree_counts_from holds_nothing set_nodes k c i a (x ∷ xs) (t ∷ ts) e ≡
        nodes_of (plain g.trace.value) + rest =
        ap (λ o. option_map_or (λ w. tree_counts holds_nothing set_nodes k c (i + 1) (with_child i a w) t
        (λ b. tree_counts_from holds_nothing set_nodes k c (i + 1 + 1) b xs ts e) e) o 0) f.first
        ∙ ap (λ o. set_nodes (c - (with_child i a f.trace).cost) o + option_map_or (λ w. tree_counts_from holds_nothing
        set_nodes k c (i + 1 + 1) (with_child (i + 1) (with_child i a f.trace) w) xs ts e) o 0) g.first in
        let values : (a.values ++ name ∷ []) ++ value ∷ [] ≡ a.values ++ name ∷ value ∷ [] =
        append_assoc a.values (name ∷ []) (value ∷ []) in
        let two : length (a.values ++ name ∷ value ∷ []) ≡ length a.values + 2 =
        length-append a.values (name ∷ value ∷ []) in
        let one : length (ys ++ x ∷ []) ≡ length ys + 1 = length-append ys (x ∷ []) in
        let long : length ((a.values ++ name ∷ []) ++ value ∷ []) ≡ 2 * length (ys ++ x ∷ []) =
        ap length values ∙ omega (arith, two, one, many) in
        let pairs : layer_pairs (ys ++ x ∷ []) ((a.values ++ name ∷ []) ++ value ∷ []) ≡
        layer_pairs ys a.values ++ (x, plain value) ∷ [] =
        ap (layer_pairs (ys ++ x ∷ [])) values ∙ pairs_more ys x a.values name value many in
        let size : sizes (as_sets (layer_pairs (ys ++ x ∷ []) ((a.values ++ name ∷ []) ++ value ∷ []))) ≡
        sizes (as_sets (layer_pairs ys a.values)) + (size_of (plain value) + 0) =
        ap (λ ps. sizes (as_sets ps)) pairs ∙ pairs_sizes (layer_pairs ys a.values) ((x, plain value) ∷ []) in
        let nodes : nodes_of (plain g.trace.value) ≤ size_of (plain value) =
        subst (λ u. nodes_of u ≤ size_of (plain value)) (plain_under ((i + 1) ∷ []) g.trace.value)
        (nodes_le_size (plain value)) in
        let later : sizes (as_sets (layer_pairs (ys ++ x ∷ []) ((a.values ++ name ∷ []) ++ value ∷ []))) + rest ≤
        sizes (as_sets (layer_pairs ((ys ++ x ∷ []) ++ xs) b.values)) = go z long g.others in
        let names : sizes (as_sets (layer_pairs ((ys ++ x ∷ []) ++ xs) b.values)) ≡
        sizes (as_sets (layer_pairs (ys ++ x ∷ xs) b.values)) =
        ap (λ zs. sizes (as_sets (layer_pairs zs b.values))) (append_assoc ys (x ∷ []) xs) in
        omega (arith, counts, size, nodes, later, names)

    by_name : FirstDone (evaluates_bare k) c i a (leaf x) (t ∷ in_turn xs ts) e b →
        NodesBehind k c (i + 1 + 1) (ys ++ x ∷ []) xs ts e b →
        sizes (as_sets (layer_pairs ys a.values))
        + tree_counts_from holds_nothing set_nodes k c i a (x ∷ xs) (t ∷ ts) e ≤
        sizes (as_sets (layer_pairs (ys ++ x ∷ xs) b.values))
    by_name f go =
        by_tree f (first_done (evaluates_bare k) c (i + 1) (with_child i a f.trace) t (in_turn xs ts) e b f.others) go

nodes_most : (k : ℕ) (l : Layer) (c : ℕ) (e : Before) (a : SoFar) → layer_values k l c e ≡ Some a →
    layer_set_nodes holds_nothing k l c e ≤ sizes (as_sets (layer_pairs l.names a.values))
nodes_most k l c e a h =
    let all : 0 + layer_set_nodes holds_nothing k l c e ≤ sizes (as_sets (layer_pairs l.names a.values)) =
    trees_nodes k (c - 1) 0 [] l.names l.trees e a nothing_yet (omega arith) h in
    omega (arith, all)

layer_most : (k : ℕ) (l : Layer) (c : ℕ) (e : Before) (o : Option SoFar) → layer_values k l c e ≡ o →
    children_paid (c - 1) o ≤ c - 1
layer_most k l c e None h = omega arith
layer_most k l c e (Some b) h = (children_within k (evaluates_bare k) (bare_bounded k) (c - 1) 0 nothing_yet
    (in_turn l.names l.trees) e b (omega arith, omega arith) h).0

-- ---- layers

abbrev pub CostInside : ℕ → LayerFinder → LayerCounter → Type 0
CostInside k inside costs = (ls : List Layer) (i c : ℕ) (path : List ℕ) (t : WideTree) (e : Before) →
    total (inside ls i c path t e) + costs ls c t e ≤ paid c (evaluates_in k ls i c t e)

pub in_most : (k : ℕ) (ls : List Layer) (i c : ℕ) (t : WideTree) (e : Before) (o : Option WideTrace) →
    evaluates_in k ls i c t e ≡ o → paid c o ≤ c
in_most k ls i c t e None h = omega arith
in_most k ls i c t e (Some trace) h = (in_bounded k ls i c t e trace h).0

-- with n steps more round what is inside, of which p are counted
round_cost : (g : WideTrace → WideTrace) (n c m p : ℕ) → ((u : WideTrace) → (g u).cost ≡ n + u.cost) → (b : Bool)
    (o : Option WideTrace) → m ≤ paid (c - n) o → paid (c - n) o ≤ c - n → p ≤ n → p ≤ c →
    m + p ≤ paid c (if b then option_map g o else None)
round_cost g n c m p more true None h most few low = omega (arith, h, few, low)
round_cost g n c m p more true (Some trace) h most few low =
    let cost : (g trace).cost ≡ n + trace.cost = more trace in
    omega (arith, h, cost, few)
round_cost g n c m p more false o h most few low = omega (arith, h, most, few, low)

module _ (k : ℕ) (finder : Finder) (counter : Counter) (below : CostBelow k finder counter) (inside : LayerFinder)
    (costs : LayerCounter) (within : CostInside k inside costs) where
  layers_cost : (ls : List Layer) (i c : ℕ) (path : List ℕ) (t : WideTree) (e : Before) →
      total (parts_layers k finder inside ls i c path t e) + costs_layers holds_nothing k counter costs ls c t e ≤
      paid c (composed_layers k (evaluates k) (evaluates_in k) ls i c t e)
  layers_cost [] i c path t e =
      let all = round_cost (child_trace i) 1 c (total (finder (c - 1) (path ++ i ∷ []) t e) + counter (c - 1) t e) 0
      (λ u. refl) (nat_le 1 c) (evaluates k (c - 1) t e) (below (c - 1) (path ++ i ∷ []) t e)
      (paid_most k (c - 1) t e (evaluates k (c - 1) t e) refl) (omega arith) (omega arith) in
      omega (arith, all)
  layers_cost (l ∷ ls) i c path t e =
      by (layer_values k l c e) refl (layer_trees_cost k l c e)
      (layer_most k l c e (layer_values k l c e) refl)
    where
      by_test : (a : SoFar) (d : Bool) → layer_values k l c e ≡ Some a →
          layer_tree_costs holds_nothing k l c e ≤ a.cost → a.cost ≤ c - 1 →
          d ≡ nat_le (layer_cost l.names a) c →
          total (inside ls i (c - layer_cost l.names a) path t (inside_layer l.names a e))
          + (layer_tree_costs holds_nothing k l c e + (if d then layer_set_nodes holds_nothing k l c e
          + costs ls (c - layer_cost l.names a) t (inside_layer l.names a e) else 0)) ≤
          paid c (if d then option_map (layer_trace l.names a)
          (evaluates_in k ls i (c - layer_cost l.names a) t (inside_layer l.names a e)) else None)
      by_test a true done trees most q =
          let nodes : layer_set_nodes holds_nothing k l c e ≤ sizes (as_sets (layer_pairs l.names a.values)) =
          nodes_most k l c e a done in
          let low : layer_cost l.names a ≤ c = grind (arith, common_steps, q) in
          let all = round_cost (layer_trace l.names a) (layer_cost l.names a) c
          (total (inside ls i (c - layer_cost l.names a) path t (inside_layer l.names a e))
          + costs ls (c - layer_cost l.names a) t (inside_layer l.names a e))
          (layer_tree_costs holds_nothing k l c e + layer_set_nodes holds_nothing k l c e) (λ u. refl) true
          (evaluates_in k ls i (c - layer_cost l.names a) t (inside_layer l.names a e))
          (within ls i (c - layer_cost l.names a) path t (inside_layer l.names a e))
          (in_most k ls i (c - layer_cost l.names a) t (inside_layer l.names a e)
          (evaluates_in k ls i (c - layer_cost l.names a) t (inside_layer l.names a e)) refl)
          (omega (arith, trees, nodes)) (omega (arith, trees, nodes, low)) in
          omega (arith, all)
      by_test a false done trees most q =
          let below : total (inside ls i (c - layer_cost l.names a) path t (inside_layer l.names a e))
          + costs ls (c - layer_cost l.names a) t (inside_layer l.names a e) ≤ paid (c - layer_cost l.names a)
          (evaluates_in k ls i (c - layer_cost l.names a) t (inside_layer l.names a e)) =
          within ls i (c - layer_cost l.names a) path t (inside_layer l.names a e) in
          let few = in_most k ls i (c - layer_cost l.names a) t (inside_layer l.names a e)
          (evaluates_in k ls i (c - layer_cost l.names a) t (inside_layer l.names a e)) refl in
          omega (arith, trees, most, below, few)

      by : (o : Option SoFar) → layer_values k l c e ≡ o →
          layer_tree_costs holds_nothing k l c e ≤ children_paid (c - 1) o →
          children_paid (c - 1) o ≤ c - 1 → total (option_map_or
          (λ a. inside ls i (c - layer_cost l.names a) path t (inside_layer l.names a e)) o [])
          + (layer_tree_costs holds_nothing k l c e
          + option_map_or (λ a. costs_inside holds_nothing k l a (costs ls) c t e) o 0) ≤
          paid c (option_and_then (λ a. layer_composed l.names a (evaluates_in k ls i) c t e) o)
      by None done trees most = omega (arith, trees, most)
      by (Some a) done trees most = by_test a (nat_le (layer_cost l.names a) c) done trees most refl

  opened_cost : (o : Opening) (c : ℕ) (path : List ℕ) (t : WideTree) (e : Before) →
      total (parts_opened o k finder inside c path t e) + costs_opened o k counter costs c t e ≤
      paid c (composed_opened o k (evaluates k) (evaluates_in k) c t e)
  opened_cost (ByTree o) c path t e = open_cost k finder counter below o c path t e
  opened_cost (ByShell shell u) c path t e =
      let all = round_cost (shell_trace t e) 1 c (total (inside shell.layers shell.inner (c - 1) path u e)
      + costs shell.layers (c - 1) u e) 0 (λ v. refl)
      (nat_le 1 c) (evaluates_in k shell.layers shell.inner (c - 1) u e)
      (within shell.layers shell.inner (c - 1) path u e)
      (in_most k shell.layers shell.inner (c - 1) u e (evaluates_in k shell.layers shell.inner (c - 1) u e) refl)
      (omega arith) (omega arith) in
      omega (arith, all)

module _ (sheller : Sheller) (sound : IsSheller sheller) where
  abbrev counter_by : ℕ → Counter
  counter_by k = layer_costs_by holds_nothing sheller k

  abbrev counter_in : ℕ → LayerCounter
  counter_in k = layer_costs_in holds_nothing sheller k

  mutual
    unfolding parts_by parts_in layer_costs_by layer_costs_in evaluates_in

    unheld_cost : (k : ℕ) → CostBelow k (parts_by sheller k) (counter_by k)
    unheld_cost zero c path t e = omega arith
    unheld_cost (suc k) c path t e =
        subst (λ o. total (parts_by sheller (suc k) c path t e) + counter_by (suc k) c t e ≤ paid c o)
        (sym (opened_is sheller sound k c t e))
        (opened_cost k (parts_by sheller k) (counter_by k) (unheld_cost k) (parts_in sheller k)
        (counter_in k) (unheld_cost_in k) (opening sheller t e) c path t e)

    unheld_cost_in : (k : ℕ) → CostInside k (parts_in sheller k) (counter_in k)
    unheld_cost_in zero ls i c path t e = omega arith
    unheld_cost_in (suc k) ls i c path t e =
        layers_cost k (parts_by sheller k) (counter_by k) (unheld_cost k) (parts_in sheller k)
        (counter_in k) (unheld_cost_in k) ls i c path t e

-- whatever is held
pub all_cost : (held : Holder) (sheller : Sheller) → IsSheller sheller → (k : ℕ) →
    CostBelow k (parts_by sheller k) (layer_costs_by held sheller k)
all_cost held sheller sound k c path t e =
    let few : layer_costs_by held sheller k c t e ≤ layer_costs_by holds_nothing sheller k c t e =
    costs_fewer holds_nothing held (nothing_less held) sheller k c t e in
    omega (arith, few, unheld_cost sheller sound k c path t e)

pub all_cost_in : (held : Holder) (sheller : Sheller) → IsSheller sheller → (k : ℕ) →
    CostInside k (parts_in sheller k) (layer_costs_in held sheller k)
all_cost_in held sheller sound k ls i c path t e =
    let few : layer_costs_in held sheller k ls c t e ≤ layer_costs_in holds_nothing sheller k ls c t e =
    costs_in_fewer holds_nothing held (nothing_less held) sheller k ls c t e in
    omega (arith, few, unheld_cost_in sheller sound k ls i c path t e)

pub parts_cost : (k c : ℕ) (path : List ℕ) (t : WideTree) (e : Before) →
    total (parts k c path t e) ≤ paid c (evaluates k c t e)
parts_cost k c path t e =
    let all : total (parts k c path t e) + layer_costs_by holds_nothing no_shells k c t e ≤ paid c (evaluates k c t e) =
    all_cost holds_nothing no_shells closed_is k c path t e in
    omega (arith, all)

-- ---- where nothing has a shell

module _ (k : ℕ) (counter : Counter) (none : (c : ℕ) (t : WideTree) (e : Before) → counter c t e ≡ 0) where
  none_from : (c i : ℕ) (a : SoFar) (ts : List WideTree) (e : Before) → counts_from k counter c i a ts e ≡ 0
  none_from c i a [] e = refl
  none_from c i a (t ∷ ts) e =
      let first : counter (c - a.cost) t (env_atop a.writes e) ≡ 0 = none (c - a.cost) t (env_atop a.writes e) in
      by (evaluates k (c - a.cost) t (env_atop a.writes e)) first (λ a'. none_from c (i + 1) a' ts e)
    where
      by : (o : Option WideTrace) → counter (c - a.cost) t (env_atop a.writes e) ≡ 0 →
          ((a' : SoFar) → counts_from k counter c (i + 1) a' ts e ≡ 0) →
          counter (c - a.cost) t (env_atop a.writes e)
          + option_map_or (λ trace. counts_from k counter c (i + 1) (with_child i a trace) ts e) o 0 ≡ 0
      by None first go = omega (arith, first)
      by (Some trace) first go = omega (arith, first, go (with_child i a trace))

  none_as : (o : Openness) (c : ℕ) (t : WideTree) (e : Before) → counts_as o k counter c t e ≡ 0
  none_as (Document ts) c t e = none_from (c - 1) 0 nothing_yet ts e
  none_as (With ps b) c t e = none (c - (1 + settings_cost ps)) b (env_atop (set_by ps) e)
  none_as Shut c t e = refl

-- no layer costs anything
pub closed_costs : (held : Holder) (k c : ℕ) (t : WideTree) (e : Before) → layer_costs_by held no_shells k c t e ≡ 0
unfolding layer_costs_by
closed_costs held zero c t e = refl
closed_costs held (suc k) c t e =
    none_as k (layer_costs_by held no_shells k) (closed_costs held k) (openness t) c t e
