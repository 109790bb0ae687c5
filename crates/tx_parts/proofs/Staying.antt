-- Where layers cost nothing, they cost nothing in each environment in which the trace of the whole fits.
use Rattle.std.proofs.Common.{◌≡◌, ℕ, zero, suc, ◌+◌, ◌*◌, ◌-◌, ◌≤◌, List, [], ◌∷◌, length, subst, refl, sym, ◌∙◌, ap}
use Rattle.std.proofs.Common.{arith}
use Rattle.std.proofs.lemmas.Grind.{common_steps}
use Rattle.std.specs.Prelude.{Bool, true, false, nat_le, if◌then◌else◌, Option, Some, None}
use Rattle.std.specs.Option.{option_map, option_map_or}
use Rattle.std.specs.FinMap.{empty}
use Rattle.tx_tree.specs.WideTree.{WideTree, leaf}
use Rattle.tx_env.specs.Pairs.{Name}
use Rattle.tx_exec_form.specs.Runs.{Before}
use Rattle.tx_exec_form.specs.Evaluated.{WideTrace, paid}
use Rattle.tx_exec_form.specs.Laws.{Agrees}
use Rattle.tx_exec_form.proofs.Agreeing.{agrees_nothing}
use Rattle.tx_exec_form.proofs.Tracing.{agrees}
use Rattle.tx_parts.specs.Atop.{atop, env_atop, past, both_looks}
use Rattle.tx_parts.specs.Openness.{Settings, Openness, Document, With, Shut}
use Rattle.tx_parts.specs.Shells.{Layer, Shell, in_turn}
use Rattle.tx_parts.specs.Opening.{Sheller, Opening, ByTree, ByShell, opening, opening_by}
use Rattle.tx_parts.specs.Composed.{alone, evaluates, SoFar, nothing_yet, with_child, children_from}
use Rattle.tx_parts.specs.Composed.{document_trace, set_by, settings_cost, with_trace, composed_as}
use Rattle.tx_parts.specs.Layered.{evaluates_bare, layer_values, layer_sets, layer_cost, inside_layer, evaluates_in}
use Rattle.tx_parts.specs.Layered.{label_look, shell_trace, composed_opened}
use Rattle.tx_parts.specs.Shellers.{IsSheller}
use Rattle.tx_parts.specs.LayerCosts.{Holder, StaysHeld, TreeMeasure, set_nodes, tree_counts, tree_counts_from}
use Rattle.tx_parts.specs.LayerCosts.{layer_tree_costs, layer_set_nodes, Counter, counts_from, counts_as}
use Rattle.tx_parts.specs.LayerCosts.{LayerCounter, costs_inside, costs_layers, costs_opened, layer_costs_by}
use Rattle.tx_parts.specs.LayerCosts.{layer_costs_in}
use Rattle.tx_parts.proofs.PartRuns.{part_fits, before_fits, both_agree}
use Rattle.tx_parts.proofs.Children.{FirstDone, first_done}
use Rattle.tx_parts.proofs.Restoring.{first_looks, past_none, atop_empty}
use Rattle.tx_parts.proofs.Opened.{LayerDone, layer_done, ChildDone, child_done, opened_is}
use Rattle.tx_parts.proofs.Fitting.{there_too, label_agrees, children_looks, children_more, bare_agrees, bare_again}
use Rattle.tx_parts.proofs.Fitting.{in_agrees, LayerThere, layer_there, holds}

both_none : (m n : ℕ) → m + n ≡ 0 → (m ≡ 0) × (n ≡ 0)
both_none m n h = (omega (arith, h), omega (arith, h))

none_both : (m n : ℕ) → m ≡ 0 → n ≡ 0 → m + n ≡ 0
none_both m n h g = omega (arith, h, g)

-- what is counted of a tree that has a trace doesn't depend on the steps that it has
abbrev pub IsEven : TreeMeasure → Type 0
IsEven measure = (c n : ℕ) (trace : WideTrace) → measure c (Some trace) ≡ measure n (Some trace)

-- ---- the trees of a layer

module _ (held : Holder) (stays : StaysHeld held) (measure : TreeMeasure) (even : IsEven measure) where
  tree_stays : (k c m n : ℕ) (t : WideTree) (e d : Before) (trace : WideTrace) →
      evaluates_bare k c t e ≡ Some trace → Agrees d trace.looks →
      (if held t e then 0 else measure m (Some trace)) ≡ 0 → (if held t d then 0 else measure n (Some trace)) ≡ 0
  tree_stays k c m n t e d trace h g none =
      by (held t e) (held t d) (λ q. stays k c t e d trace q h g) none
    where
      by : (a b : Bool) → (a ≡ true → b ≡ true) → (if a then 0 else measure m (Some trace)) ≡ 0 →
          (if b then 0 else measure n (Some trace)) ≡ 0
      by a true f q = refl
      by false false f q = even n m trace ∙ q
      by true false f q = let off : false ≡ true = f refl in cc

  trees_stay : (k c n i : ℕ) (a : SoFar) (xs : List Name) (ts : List WideTree) (e d : Before) (b : SoFar) →
      Agrees e a.looks → children_from (evaluates_bare k) c i a (in_turn xs ts) e ≡ Some b → Agrees d b.looks →
      b.cost ≤ n → tree_counts_from held measure k c i a xs ts e ≡ 0 →
      tree_counts_from held measure k n i a xs ts d ≡ 0
  trees_stay k c n i a [] ts e d b before h g enough none = refl
  trees_stay k c n i a (x ∷ xs) [] e d b before h g enough none = refl
  trees_stay k c n i a (x ∷ xs) (t ∷ ts) e d b before h g enough none =
      by_name (first_done (evaluates_bare k) c i a (leaf x) (t ∷ in_turn xs ts) e b h) none
      (λ z p q r. trees_stay k c n (i + 1 + 1) z xs ts e d b p q g enough r)
    where
      by_tree : (f : FirstDone (evaluates_bare k) c i a (leaf x) (t ∷ in_turn xs ts) e b) →
          FirstDone (evaluates_bare k) c (i + 1) (with_child i a f.trace) t (in_turn xs ts) e b →
          tree_counts_from held measure k c i a (x ∷ xs) (t ∷ ts) e ≡ 0 →
          ((z : SoFar) → Agrees e z.looks →
          children_from (evaluates_bare k) c (i + 1 + 1) z (in_turn xs ts) e ≡ Some b →
          tree_counts_from held measure k c (i + 1 + 1) z xs ts e ≡ 0 →
          tree_counts_from held measure k n (i + 1 + 1) z xs ts d ≡ 0) →
          tree_counts_from held measure k n i a (x ∷ xs) (t ∷ ts) d ≡ 0
      by_tree f s none go =
          let named : SoFar = with_child i a f.trace in
          let done : SoFar = with_child (i + 1) named s.trace in
          let name_here : Agrees (env_atop a.writes e) f.trace.looks =
          bare_agrees k (c - a.cost) (leaf x) (env_atop a.writes e) f.trace f.first in
          let named_looks : Agrees e named.looks = both_agree e a.writes a.looks f.trace.looks before name_here in
          let tree_here : Agrees (env_atop named.writes e) s.trace.looks =
          bare_agrees k (c - named.cost) t (env_atop named.writes e) s.trace s.first in
          let done_looks : Agrees e done.looks =
          both_agree e named.writes named.looks s.trace.looks named_looks tree_here in
          let later : Agrees d done.looks =
          children_looks (evaluates_bare k) c (i + 1 + 1) done (in_turn xs ts) e d b s.others g in
          let later_named : Agrees d named.looks =
          children_looks (evaluates_bare k) c (i + 1) named (t ∷ in_turn xs ts) e d b f.others g in
          let name_there : Agrees (env_atop a.writes d) f.trace.looks =
          part_fits d e a.writes a.looks f.trace.looks before name_here later_named in
          let tree_there : Agrees (env_atop named.writes d) s.trace.looks =
          part_fits d e named.writes named.looks s.trace.looks named_looks tree_here later in
          let cost : done.cost ≤ b.cost =
          children_more (evaluates_bare k) c (i + 1 + 1) done (in_turn xs ts) e b s.others in
          let name_again : evaluates_bare k (n - a.cost) (leaf x) (env_atop a.writes d) ≡ Some f.trace =
          bare_again k (c - a.cost) (n - a.cost) (leaf x) (env_atop a.writes e) (env_atop a.writes d) f.trace f.first
          name_there (omega (arith, cost, enough)) in
          let tree_again : evaluates_bare k (n - named.cost) t (env_atop named.writes d) ≡ Some s.trace =
          bare_again k (c - named.cost) (n - named.cost) t (env_atop named.writes e) (env_atop named.writes d) s.trace
          s.first tree_there (omega (arith, cost, enough)) in
          let counts_here : tree_counts_from held measure k c i a (x ∷ xs) (t ∷ ts) e ≡
          (if held t (env_atop named.writes e) then 0 else measure (c - named.cost) (Some s.trace))
          + tree_counts_from held measure k c (i + 1 + 1) done xs ts e =
          ap (λ o. option_map_or (λ w. tree_counts held measure k c (i + 1) (with_child i a w) t
          (λ z. tree_counts_from held measure k c (i + 1 + 1) z xs ts e) e) o 0) f.first
          ∙ ap (λ o. (if held t (env_atop named.writes e) then 0 else measure (c - named.cost) o) + option_map_or
          (λ w. tree_counts_from held measure k c (i + 1 + 1) (with_child (i + 1) named w) xs ts e) o 0) s.first in
          let counts_there : tree_counts_from held measure k n i a (x ∷ xs) (t ∷ ts) d ≡
          (if held t (env_atop named.writes d) then 0 else measure (n - named.cost) (Some s.trace))
          + tree_counts_from held measure k n (i + 1 + 1) done xs ts d =
          ap (λ o. option_map_or (λ w. tree_counts held measure k n (i + 1) (with_child i a w) t
          (λ z. tree_counts_from held measure k n (i + 1 + 1) z xs ts d) d) o 0) name_again
          ∙ ap (λ o. (if held t (env_atop named.writes d) then 0 else measure (n - named.cost) o) + option_map_or
          (λ w. tree_counts_from held measure k n (i + 1 + 1) (with_child (i + 1) named w) xs ts d) o 0) tree_again in
          let gone = both_none (if held t (env_atop named.writes e) then 0
          else measure (c - named.cost) (Some s.trace)) (tree_counts_from held measure k c (i + 1 + 1) done xs ts e)
          (sym counts_here ∙ none) in
          counts_there
          ∙ none_both (if held t (env_atop named.writes d) then 0 else measure (n - named.cost) (Some s.trace))
          (tree_counts_from held measure k n (i + 1 + 1) done xs ts d)
          (tree_stays k (c - named.cost) (c - named.cost) (n - named.cost) t (env_atop named.writes e)
          (env_atop named.writes d) s.trace s.first tree_there gone.0)
          (go done done_looks s.others gone.1)

      by_name : FirstDone (evaluates_bare k) c i a (leaf x) (t ∷ in_turn xs ts) e b →
          tree_counts_from held measure k c i a (x ∷ xs) (t ∷ ts) e ≡ 0 →
          ((z : SoFar) → Agrees e z.looks →
          children_from (evaluates_bare k) c (i + 1 + 1) z (in_turn xs ts) e ≡ Some b →
          tree_counts_from held measure k c (i + 1 + 1) z xs ts e ≡ 0 →
          tree_counts_from held measure k n (i + 1 + 1) z xs ts d ≡ 0) →
          tree_counts_from held measure k n i a (x ∷ xs) (t ∷ ts) d ≡ 0
      by_name f none go =
          by_tree f (first_done (evaluates_bare k) c (i + 1) (with_child i a f.trace) t (in_turn xs ts) e b f.others)
          none go

-- ---- children

abbrev pub StayBelow : ℕ → Counter → Type 0
StayBelow k counter = (c n : ℕ) (t : WideTree) (e d : Before) (trace : WideTrace) → evaluates k c t e ≡ Some trace →
    Agrees d trace.looks → trace.cost ≤ n → counter c t e ≡ 0 → counter n t d ≡ 0

module _ (k : ℕ) (counter : Counter) (below : StayBelow k counter) where
  children_stay : (c n i : ℕ) (a : SoFar) (ts : List WideTree) (e d : Before) (b : SoFar) → Agrees e a.looks →
      children_from (evaluates k) c i a ts e ≡ Some b → Agrees d b.looks → b.cost ≤ n →
      counts_from k counter c i a ts e ≡ 0 → counts_from k counter n i a ts d ≡ 0
  children_stay c n i a [] e d b before h g enough none = refl
  children_stay c n i a (t ∷ ts) e d b before h g enough none =
      by (first_done (evaluates k) c i a t ts e b h) none
      (λ a' p q r. children_stay c n (i + 1) a' ts e d b p q g enough r)
    where
      by : FirstDone (evaluates k) c i a t ts e b → counts_from k counter c i a (t ∷ ts) e ≡ 0 →
          ((a' : SoFar) → Agrees e a'.looks → children_from (evaluates k) c (i + 1) a' ts e ≡ Some b →
          counts_from k counter c (i + 1) a' ts e ≡ 0 → counts_from k counter n (i + 1) a' ts d ≡ 0) →
          counts_from k counter n i a (t ∷ ts) d ≡ 0
      by f none go =
          let here : Agrees (env_atop a.writes e) f.trace.looks =
          agrees k (c - a.cost) (alone t) (env_atop a.writes e) f.trace f.first in
          let later : Agrees d (both_looks a.looks a.writes f.trace.looks) =
          children_looks (evaluates k) c (i + 1) (with_child i a f.trace) ts e d b f.others g in
          let fits : Agrees (env_atop a.writes d) f.trace.looks =
          part_fits d e a.writes a.looks f.trace.looks before here later in
          let cost : a.cost + f.trace.cost ≤ b.cost =
          children_more (evaluates k) c (i + 1) (with_child i a f.trace) ts e b f.others in
          let cheap : f.trace.cost ≤ n - a.cost = omega (arith, cost, enough) in
          let again : evaluates k (n - a.cost) t (env_atop a.writes d) ≡ Some f.trace =
          there_too k (c - a.cost) (n - a.cost) t (env_atop a.writes e) (env_atop a.writes d) f.trace f.first fits
          cheap in
          let counts_here : counts_from k counter c i a (t ∷ ts) e ≡ counter (c - a.cost) t (env_atop a.writes e)
          + counts_from k counter c (i + 1) (with_child i a f.trace) ts e =
          ap (λ o. counter (c - a.cost) t (env_atop a.writes e)
          + option_map_or (λ w. counts_from k counter c (i + 1) (with_child i a w) ts e) o 0) f.first in
          let counts_there : counts_from k counter n i a (t ∷ ts) d ≡ counter (n - a.cost) t (env_atop a.writes d)
          + counts_from k counter n (i + 1) (with_child i a f.trace) ts d =
          ap (λ o. counter (n - a.cost) t (env_atop a.writes d)
          + option_map_or (λ w. counts_from k counter n (i + 1) (with_child i a w) ts d) o 0) again in
          let gone = both_none (counter (c - a.cost) t (env_atop a.writes e))
          (counts_from k counter c (i + 1) (with_child i a f.trace) ts e) (sym counts_here ∙ none) in
          counts_there
          ∙ none_both (counter (n - a.cost) t (env_atop a.writes d))
          (counts_from k counter n (i + 1) (with_child i a f.trace) ts d)
          (below (c - a.cost) (n - a.cost) t (env_atop a.writes e) (env_atop a.writes d) f.trace f.first fits cheap
          gone.0)
          (go (with_child i a f.trace) (both_agree e a.writes a.looks f.trace.looks before here) f.others gone.1)

  document_stays : (c n : ℕ) (ts : List WideTree) (e d : Before) (trace : WideTrace) (b : Bool) (o : Option SoFar) →
      children_from (evaluates k) (c - 1) 0 nothing_yet ts e ≡ o →
      (if b then option_map document_trace o else None) ≡ Some trace → Agrees d trace.looks → trace.cost ≤ n →
      counts_from k counter (c - 1) 0 nothing_yet ts e ≡ 0 → counts_from k counter (n - 1) 0 nothing_yet ts d ≡ 0
  document_stays c n ts e d trace true (Some so_far) q h g enough none =
      let same : trace ≡ document_trace so_far = cc in
      let cost : 1 + so_far.cost ≤ n = subst (λ (u : WideTrace). u.cost ≤ n) same enough in
      children_stay (c - 1) (n - 1) 0 nothing_yet ts e d so_far (agrees_nothing e) q
      (subst (λ (u : WideTrace). Agrees d u.looks) same g) (omega (arith, cost)) none
  document_stays c n ts e d trace true None q h g enough none = cc
  document_stays c n ts e d trace false o q h g enough none = cc

  with_stays : (c n : ℕ) (ps : Settings) (u : WideTree) (e d : Before) (trace : WideTrace) (b : Bool)
      (o : Option WideTrace) → evaluates k (c - (1 + settings_cost ps)) u (env_atop (set_by ps) e) ≡ o →
      (if b then option_map (with_trace ps) o else None) ≡ Some trace → Agrees d trace.looks → trace.cost ≤ n →
      counter (c - (1 + settings_cost ps)) u (env_atop (set_by ps) e) ≡ 0 →
      counter (n - (1 + settings_cost ps)) u (env_atop (set_by ps) d) ≡ 0
  with_stays c n ps u e d trace true (Some inner) q h g enough none =
      let same : trace ≡ with_trace ps inner = cc in
      let looks : Agrees d (past (set_by ps) inner.looks) = subst (λ (x : WideTrace). Agrees d x.looks) same g in
      let here : Agrees (env_atop (set_by ps) e) inner.looks =
      agrees k (c - (1 + settings_cost ps)) (alone u) (env_atop (set_by ps) e) inner q in
      let cost : 1 + settings_cost ps + inner.cost ≤ n = subst (λ (x : WideTrace). x.cost ≤ n) same enough in
      below (c - (1 + settings_cost ps)) (n - (1 + settings_cost ps)) u (env_atop (set_by ps) e)
      (env_atop (set_by ps) d) inner q
      (part_fits d e (set_by ps) empty inner.looks (agrees_nothing e) here
      (subst (Agrees d) (sym (first_looks (set_by ps) inner.looks)) looks)) (omega (arith, cost)) none
  with_stays c n ps u e d trace true None q h g enough none = cc
  with_stays c n ps u e d trace false o q h g enough none = cc

  open_stays : (o : Openness) (c n : ℕ) (t : WideTree) (e d : Before) (trace : WideTrace) →
      composed_as o k (evaluates k) c t e ≡ Some trace → Agrees d trace.looks → trace.cost ≤ n →
      counts_as o k counter c t e ≡ 0 → counts_as o k counter n t d ≡ 0
  open_stays (Document ts) c n t e d trace q g enough none =
      document_stays c n ts e d trace (nat_le 1 c) (children_from (evaluates k) (c - 1) 0 nothing_yet ts e) refl
      q g enough none
  open_stays (With ps u) c n t e d trace q g enough none =
      with_stays c n ps u e d trace (nat_le (1 + settings_cost ps) c)
      (evaluates k (c - (1 + settings_cost ps)) u (env_atop (set_by ps) e)) refl q g enough none
  open_stays Shut c n t e d trace q g enough none = refl

-- ---- layers

abbrev pub StayInside : ℕ → LayerCounter → Type 0
StayInside k costs = (ls : List Layer) (i c n : ℕ) (t : WideTree) (e d : Before) (trace : WideTrace) →
    evaluates_in k ls i c t e ≡ Some trace → Agrees d trace.looks → trace.cost ≤ n → costs ls c t e ≡ 0 →
    costs ls n t d ≡ 0

paid_even : IsEven paid
paid_even c n trace = refl

nodes_even : IsEven set_nodes
nodes_even c n trace = refl

module _ (held : Holder) (stays : StaysHeld held) (k : ℕ) (counter : Counter) (below : StayBelow k counter)
    (costs : LayerCounter) (within : StayInside k costs) where
  -- a layer whose trees and inside cost nothing
  abbrev costs_done : Layer → List Layer → ℕ → SoFar → WideTree → Before → ℕ
  costs_done l ls c a t e =
      layer_tree_costs held k l c e
      + (layer_set_nodes held k l c e + costs ls (c - layer_cost l.names a) t (inside_layer l.names a e))

  costs_are : (l : Layer) (ls : List Layer) (c : ℕ) (a : SoFar) (t : WideTree) (e : Before) →
      layer_values k l c e ≡ Some a → layer_cost l.names a ≤ c →
      costs_layers held k counter costs (l ∷ ls) c t e ≡ costs_done l ls c a t e
  costs_are l ls c a t e done low =
      ap (λ o. layer_tree_costs held k l c e + option_map_or (λ z. costs_inside held k l z (costs ls) c t e) o 0) done
      ∙ ap (λ b. layer_tree_costs held k l c e + (if b then layer_set_nodes held k l c e
      + costs ls (c - layer_cost l.names a) t (inside_layer l.names a e) else 0)) (holds (layer_cost l.names a) c low)

  layers_stay : StayInside (suc k) (costs_layers held k counter costs)
  layers_stay [] i c n t e d trace h g enough none = by (child_done k i c t e trace h)
    where
      by : ChildDone k i c t e trace → counter (n - 1) t d ≡ 0
      by z =
          let cost : trace.cost ≡ 1 + z.inner.cost = ap (λ (u : WideTrace). u.cost) z.is in
          below (c - 1) (n - 1) t e d z.inner z.inside
          (subst (λ (u : WideTrace). Agrees d u.looks) z.is g) (omega (arith, cost, enough)) none
  layers_stay (l ∷ ls) i c n t e d trace h g enough none = by (layer_done k l ls i c t e trace h)
    where
      by : LayerDone k l ls i c t e trace → costs_layers held k counter costs (l ∷ ls) n t d ≡ 0
      by z =
          let there : LayerThere k n l d z.values z.inner = layer_there k n l ls i c t e d trace z g enough in
          let after : Agrees d
          (both_looks z.values.looks z.values.writes (past (layer_sets l.names z.values) z.inner.looks)) =
          subst (λ (u : WideTrace). Agrees d u.looks) z.is g in
          let looks : Agrees d z.values.looks =
          before_fits d z.values.writes z.values.looks (past (layer_sets l.names z.values) z.inner.looks) after in
          let cost : trace.cost ≡ layer_cost l.names z.values + z.inner.cost = ap (λ (u : WideTrace). u.cost) z.is in
          let few : z.values.cost ≤ n - 1 = omega (arith, cost, enough) in
          let first = both_none (layer_tree_costs held k l c e) (layer_set_nodes held k l c e
          + costs ls (c - layer_cost l.names z.values) t (inside_layer l.names z.values e))
          (sym (costs_are l ls c z.values t e z.done z.cheap) ∙ none) in
          let rest = both_none (layer_set_nodes held k l c e)
          (costs ls (c - layer_cost l.names z.values) t (inside_layer l.names z.values e)) first.1 in
          costs_are l ls n z.values t d there.again there.cheap
          ∙ none_both (layer_tree_costs held k l n d) (layer_set_nodes held k l n d
          + costs ls (n - layer_cost l.names z.values) t (inside_layer l.names z.values d))
          (trees_stay held stays paid paid_even k (c - 1) (n - 1) 0 nothing_yet l.names l.trees e d z.values
          (agrees_nothing e) z.done looks few first.0)
          (none_both (layer_set_nodes held k l n d)
          (costs ls (n - layer_cost l.names z.values) t (inside_layer l.names z.values d))
          (trees_stay held stays set_nodes nodes_even k (c - 1) (n - 1) 0 nothing_yet l.names l.trees e d z.values
          (agrees_nothing e) z.done looks few rest.0)
          (within ls i (c - layer_cost l.names z.values) (n - layer_cost l.names z.values) t
          (inside_layer l.names z.values e) (inside_layer l.names z.values d) z.inner z.inside there.agrees
          there.enough rest.1))

  shell_stays : (c n : ℕ) (t : WideTree) (shell : Shell) (u : WideTree) (e d : Before) (trace : WideTrace) (b : Bool)
      (o : Option WideTrace) → evaluates_in k shell.layers shell.inner (c - 1) u e ≡ o →
      (if b then option_map (shell_trace t e) o else None) ≡ Some trace → Agrees d trace.looks → trace.cost ≤ n →
      costs shell.layers (c - 1) u e ≡ 0 → costs shell.layers (n - 1) u d ≡ 0
  shell_stays c n t shell u e d trace true (Some inner) q h g enough none =
      let same : trace ≡ shell_trace t e inner = cc in
      let cost : trace.cost ≡ 1 + inner.cost = ap (λ (x : WideTrace). x.cost) same in
      let here : Agrees e inner.looks = in_agrees k shell.layers shell.inner (c - 1) u e inner q in
      let looks : Agrees d (atop (label_look t e) inner.looks) = subst (λ (x : WideTrace). Agrees d x.looks) same g in
      let both : Agrees d (both_looks (label_look t e) empty inner.looks) =
      subst (λ m. Agrees d (atop (label_look t e) m)) (sym (past_none inner.looks)) looks in
      let look : Agrees e (label_look t e) = label_agrees t e in
      let there : Agrees d inner.looks =
      subst (λ x. Agrees x inner.looks) (atop_empty d)
      (part_fits d e empty (label_look t e) inner.looks look
      (subst (λ x. Agrees x inner.looks) (sym (atop_empty e)) here) both) in
      within shell.layers shell.inner (c - 1) (n - 1) u e d inner q there (omega (arith, cost, enough)) none
  shell_stays c n t shell u e d trace true None q h g enough none = cc
  shell_stays c n t shell u e d trace false o q h g enough none = cc

  opened_stays : (o : Opening) (c n : ℕ) (t : WideTree) (e d : Before) (trace : WideTrace) →
      composed_opened o k (evaluates k) (evaluates_in k) c t e ≡ Some trace → Agrees d trace.looks →
      trace.cost ≤ n → costs_opened o k counter costs c t e ≡ 0 → costs_opened o k counter costs n t d ≡ 0
  opened_stays (ByTree o) c n t e d trace q g enough none = open_stays k counter below o c n t e d trace q g enough none
  opened_stays (ByShell shell u) c n t e d trace q g enough none =
      shell_stays c n t shell u e d trace (nat_le 1 c) (evaluates_in k shell.layers shell.inner (c - 1) u e) refl
      q g enough none

module _ (held : Holder) (stays : StaysHeld held) (sheller : Sheller) (sound : IsSheller sheller) where
  mutual
    unfolding layer_costs_by layer_costs_in

    pub costs_stay : (k : ℕ) → StayBelow k (layer_costs_by held sheller k)
    costs_stay zero c n t e d trace h g enough none = refl
    costs_stay (suc k) c n t e d trace h g enough none =
        subst (λ o. costs_opened (opening_by o t) k (layer_costs_by held sheller k) (layer_costs_in held sheller k)
        n t d ≡ 0) (sym (sound.again (suc k) c t e d trace h g))
        (opened_stays held stays k (layer_costs_by held sheller k) (costs_stay k) (layer_costs_in held sheller k)
        (costs_in_stay k) (opening sheller t e) c n t e d trace (sym (opened_is sheller sound k c t e) ∙ h) g enough
        none)

    pub costs_in_stay : (k : ℕ) → StayInside k (layer_costs_in held sheller k)
    costs_in_stay zero ls i c n t e d trace h g enough none = refl
    costs_in_stay (suc k) ls i c n t e d trace h g enough none =
        layers_stay held stays k (layer_costs_by held sheller k) (costs_stay k) (layer_costs_in held sheller k)
        (costs_in_stay k) ls i c n t e d trace h g enough none
