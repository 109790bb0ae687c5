-- Where the trace of the whole fits, so do those of its parts.
use Rattle.std.proofs.Common.{◌≡◌, ℕ, zero, suc, ◌+◌, ◌*◌, ◌-◌, ◌≤◌, List, [], ◌∷◌, ◌++◌, length, subst, refl, sym, ◌∙◌}
use Rattle.std.proofs.Common.{ap, arith}
use Rattle.std.specs.Prelude.{Bool, true, false, nat_le, if◌then◌else◌, Option, Some, None, map, option_and_then}
use Rattle.std.proofs.lemmas.Grind.{common_steps}
use Rattle.std.specs.Option.{option_map, option_map_or}
use Rattle.std.specs.FinMap.{empty}
use Rattle.std.specs.List.{AllByRecursion}
use Rattle.tx_tree.specs.WideTree.{WideTree, leaf, node}
use Rattle.tx_env.specs.Environments.{NameMap}
use Rattle.tx_exec_form.specs.Maps.{LookMap}
use Rattle.tx_exec_form.specs.Runs.{Before}
use Rattle.tx_exec_form.specs.Evaluated.{WideTrace}
use Rattle.tx_exec_form.specs.Laws.{Agrees}
use Rattle.tx_exec_form.proofs.Agreeing.{agrees_nothing, agrees_noted}
use Rattle.tx_exec_form.proofs.Tracing.{supports, allowed, agrees}
use Rattle.tx_parts.specs.Atop.{atop, env_atop, past, both_looks}
use Rattle.tx_parts.specs.Openness.{Settings, Openness, Document, With, Shut}
use Rattle.tx_parts.specs.Shells.{Layer, Shell, bare, in_turn}
use Rattle.tx_parts.specs.Opening.{Sheller, no_shells, Opening, ByTree, ByShell, opening, opening_by}
use Rattle.tx_parts.specs.Composed.{Tracer, alone, evaluates, SoFar, nothing_yet, with_child, children_from}
use Rattle.tx_parts.specs.Composed.{document_trace, set_by, settings_cost, with_trace, composed_as}
use Rattle.tx_parts.specs.Layered.{evaluates_bare, layer_values, layer_sets, layer_cost, inside_layer, evaluates_in}
use Rattle.tx_parts.specs.Layered.{layer_trace, child_trace, layer_composed, label_look, shell_trace, composed_opened}
use Rattle.tx_parts.specs.Shellers.{IsSheller}
use Rattle.tx_parts.specs.Parts.{Part, Finder, parts_from, parts_as, parts, part_trace, HasTrace, stored_part}
use Rattle.tx_parts.specs.Parts.{LayerFinder}
use Rattle.tx_parts.specs.Parts.{parts_layers, parts_opened, parts_by, parts_in}
use Rattle.tx_parts.specs.Fitting.{Fits, AllFit}
use Rattle.tx_parts.proofs.PartRuns.{part_fits, before_fits, both_agree}
use Rattle.tx_parts.proofs.Children.{FirstDone, first_done}
use Rattle.tx_parts.proofs.Restoring.{first_looks, past_none, atop_empty}
use Rattle.tx_parts.proofs.Opened.{layers_are, LayerDone, layer_done, ChildDone, child_done, none_inside, opened_is}
use Rattle.tx_parts.proofs.Opened.{closed_is}

both_fit : (ps qs rs ss : List Part) → AllFit ps qs → AllFit rs ss → AllFit (ps ++ rs) (qs ++ ss)
both_fit [] [] rs ss h g = g
both_fit [] (q ∷ qs) rs ss h g = absurd h
both_fit (p ∷ ps) [] rs ss h g = absurd h
both_fit (p ∷ ps) (q ∷ qs) rs ss h g = (h.0, both_fit ps qs rs ss h.1 g)

-- the same trace in the other environment, with steps enough
pub there_too : (k c n : ℕ) (t : WideTree) (e d : Before) (trace : WideTrace) → evaluates k c t e ≡ Some trace →
    Agrees d trace.looks → trace.cost ≤ n → evaluates k n t d ≡ Some trace
there_too k c n t e d trace h g enough =
    let bounds : (trace.cost ≤ c) × (trace.height ≤ k) = allowed k c (alone t) e trace h in
    supports k c (alone t) e trace h k n d g enough bounds.1

pub label_agrees : (t : WideTree) (e : Before) → Agrees e (label_look t e)
label_agrees (leaf words) e = agrees_nothing e
label_agrees (node label ts) e = agrees_noted e label empty (agrees_nothing e)

-- the looks of what comes later are more
pub children_looks : (tracer : Tracer) (c i : ℕ) (a : SoFar) (ts : List WideTree) (e d : Before) (b : SoFar) →
    children_from tracer c i a ts e ≡ Some b → Agrees d b.looks → Agrees d a.looks
children_looks tracer c i a [] e d b h g = let same : b ≡ a = cc in subst (λ (x : SoFar). Agrees d x.looks) same g
children_looks tracer c i a (t ∷ ts) e d b h g =
    by (first_done tracer c i a t ts e b h) (λ a' q. children_looks tracer c (i + 1) a' ts e d b q g)
  where
    by : FirstDone tracer c i a t ts e b → ((a' : SoFar) → children_from tracer c (i + 1) a' ts e ≡ Some b →
        Agrees d a'.looks) → Agrees d a.looks
    by f go = before_fits d a.writes a.looks f.trace.looks (go (with_child i a f.trace) f.others)

-- what comes later costs more
pub children_more : (tracer : Tracer) (c i : ℕ) (a : SoFar) (ts : List WideTree) (e : Before) (b : SoFar) →
    children_from tracer c i a ts e ≡ Some b → a.cost ≤ b.cost
children_more tracer c i a [] e b h =
    let same : b ≡ a = cc in
    subst (λ (x : SoFar). a.cost ≤ x.cost) (sym same) (omega arith)
children_more tracer c i a (t ∷ ts) e b h =
    by (first_done tracer c i a t ts e b h) (λ a' q. children_more tracer c (i + 1) a' ts e b q)
  where
    by : FirstDone tracer c i a t ts e b → ((a' : SoFar) → children_from tracer c (i + 1) a' ts e ≡ Some b →
        a'.cost ≤ b.cost) → a.cost ≤ b.cost
    by f go =
        let later : a.cost + f.trace.cost ≤ b.cost = go (with_child i a f.trace) f.others in
        omega (arith, later)

abbrev pub FitBelow : ℕ → Finder → Type 0
FitBelow k finder = (c n : ℕ) (path : List ℕ) (t : WideTree) (e d : Before) (trace : WideTrace) →
    evaluates k c t e ≡ Some trace → Agrees d trace.looks → trace.cost ≤ n →
    AllFit (finder c path t e) (finder n path t d)

module _ (k : ℕ) (finder : Finder) (below : FitBelow k finder) where
  children_fit : (c n : ℕ) (path : List ℕ) (i : ℕ) (a : SoFar) (ts : List WideTree) (e d : Before) (b : SoFar) →
      Agrees e a.looks → children_from (evaluates k) c i a ts e ≡ Some b → Agrees d b.looks → b.cost ≤ n →
      AllFit (parts_from k finder c path i a ts e) (parts_from k finder n path i a ts d)
  children_fit c n path i a [] e d b before h g enough = tt
  children_fit c n path i a (t ∷ ts) e d b before h g enough =
      by (first_done (evaluates k) c i a t ts e b h) (λ a' q r. children_fit c n path (i + 1) a' ts e d b q r g enough)
    where
      by : FirstDone (evaluates k) c i a t ts e b → ((a' : SoFar) → Agrees e a'.looks →
          children_from (evaluates k) c (i + 1) a' ts e ≡ Some b →
          AllFit (parts_from k finder c path (i + 1) a' ts e) (parts_from k finder n path (i + 1) a' ts d)) →
          AllFit (parts_from k finder c path i a (t ∷ ts) e) (parts_from k finder n path i a (t ∷ ts) d)
      by f go =
          let here : Agrees (env_atop a.writes e) f.trace.looks =
          agrees k (c - a.cost) (alone t) (env_atop a.writes e) f.trace f.first in
          let later : Agrees d (both_looks a.looks a.writes f.trace.looks) =
          children_looks (evaluates k) c (i + 1) (with_child i a f.trace) ts e d b f.others g in
          let fits : Agrees (env_atop a.writes d) f.trace.looks =
          part_fits d e a.writes a.looks f.trace.looks before here later in
          let cost : a.cost + f.trace.cost ≤ b.cost =
          children_more (evaluates k) c (i + 1) (with_child i a f.trace) ts e b f.others in
          let cheap : f.trace.cost ≤ n - a.cost = omega (arith, cost, enough) in
          let again : evaluates k (n - a.cost) t (env_atop a.writes d) ≡ Some f.trace =
          there_too k (c - a.cost) (n - a.cost) t (env_atop a.writes e) (env_atop a.writes d) f.trace f.first fits
          cheap in
          let behind : ℕ → Before → Option WideTrace → List Part = λ m x o. option_map_or
          (λ trace. parts_from k finder m path (i + 1) (with_child i a trace) ts x) o [] in
          both_fit (finder (c - a.cost) (path ++ i ∷ []) t (env_atop a.writes e))
          (finder (n - a.cost) (path ++ i ∷ []) t (env_atop a.writes d))
          (behind c e (evaluates k (c - a.cost) t (env_atop a.writes e)))
          (behind n d (evaluates k (n - a.cost) t (env_atop a.writes d)))
          (below (c - a.cost) (n - a.cost) (path ++ i ∷ []) t (env_atop a.writes e) (env_atop a.writes d) f.trace
          f.first fits cheap)
          (subst (λ o. AllFit (behind c e o) (behind n d (evaluates k (n - a.cost) t (env_atop a.writes d))))
          (sym f.first)
          (subst (λ o. AllFit (parts_from k finder c path (i + 1) (with_child i a f.trace) ts e) (behind n d o))
          (sym again)
          (go (with_child i a f.trace) (both_agree e a.writes a.looks f.trace.looks before here) f.others)))

  -- a `document` that has a trace
  document_fits : (c n : ℕ) (path : List ℕ) (ts : List WideTree) (t : WideTree) (e d : Before) (trace : WideTrace)
      (b : Bool) (o : Option SoFar) → children_from (evaluates k) (c - 1) 0 nothing_yet ts e ≡ o →
      (if b then option_map document_trace o else None) ≡ Some trace → Agrees d trace.looks → trace.cost ≤ n →
      AllFit (parts_as (Document ts) k finder c path t e) (parts_as (Document ts) k finder n path t d)
  document_fits c n path ts t e d trace true (Some so_far) q h g enough =
      let same : trace ≡ document_trace so_far = cc in
      let cost : 1 + so_far.cost ≤ n = subst (λ (u : WideTrace). u.cost ≤ n) same enough in
      children_fit (c - 1) (n - 1) path 0 nothing_yet ts e d so_far (agrees_nothing e) q
      (subst (λ (u : WideTrace). Agrees d u.looks) same g) (omega (arith, cost))
  document_fits c n path ts t e d trace true None q h g enough = cc
  document_fits c n path ts t e d trace false o q h g enough = cc

  -- a `with` that has a trace
  with_fits : (c n : ℕ) (path : List ℕ) (ps : Settings) (u t : WideTree) (e d : Before) (trace : WideTrace)
      (b : Bool) (o : Option WideTrace) → evaluates k (c - (1 + settings_cost ps)) u (env_atop (set_by ps) e) ≡ o →
      (if b then option_map (with_trace ps) o else None) ≡ Some trace → Agrees d trace.looks → trace.cost ≤ n →
      AllFit (parts_as (With ps u) k finder c path t e) (parts_as (With ps u) k finder n path t d)
  with_fits c n path ps u t e d trace true (Some inner) q h g enough =
      let same : trace ≡ with_trace ps inner = cc in
      let looks : Agrees d (past (set_by ps) inner.looks) = subst (λ (x : WideTrace). Agrees d x.looks) same g in
      let here : Agrees (env_atop (set_by ps) e) inner.looks =
      agrees k (c - (1 + settings_cost ps)) (alone u) (env_atop (set_by ps) e) inner q in
      let cost : 1 + settings_cost ps + inner.cost ≤ n = subst (λ (x : WideTrace). x.cost ≤ n) same enough in
      below (c - (1 + settings_cost ps)) (n - (1 + settings_cost ps)) (path ++ (2 * length ps) ∷ []) u
      (env_atop (set_by ps) e) (env_atop (set_by ps) d) inner q
      (part_fits d e (set_by ps) empty inner.looks (agrees_nothing e) here
      (subst (Agrees d) (sym (first_looks (set_by ps) inner.looks)) looks)) (omega (arith, cost))
  with_fits c n path ps u t e d trace true None q h g enough = cc
  with_fits c n path ps u t e d trace false o q h g enough = cc

  open_fits : (o : Openness) (c n : ℕ) (path : List ℕ) (t : WideTree) (e d : Before) (trace : WideTrace) →
      evaluates (suc k) c t e ≡ Some trace → composed_as o k (evaluates k) c t e ≡ Some trace → Agrees d trace.looks →
      trace.cost ≤ n → AllFit (parts_as o k finder c path t e) (parts_as o k finder n path t d)
  open_fits (Document ts) c n path t e d trace h q g enough =
      document_fits c n path ts t e d trace (nat_le 1 c) (children_from (evaluates k) (c - 1) 0 nothing_yet ts e) refl
      q g enough
  open_fits (With ps u) c n path t e d trace h q g enough =
      with_fits c n path ps u t e d trace (nat_le (1 + settings_cost ps) c)
      (evaluates k (c - (1 + settings_cost ps)) u (env_atop (set_by ps) e)) refl q g enough
  open_fits Shut c n path t e d trace h q g enough = (
    record {
      path = refl;
      tree = refl;
      trace = trace;
      comes = h;
      agrees = g;
      again = there_too (suc k) c n t e d trace h g enough;
    },
    tt,
  )

-- ---- layers

pub bare_agrees : (k c : ℕ) (t : WideTree) (e : Before) (trace : WideTrace) → evaluates_bare k c t e ≡ Some trace →
    Agrees e trace.looks
bare_agrees k c t e trace h = agrees k c (bare t) e trace h

pub bare_again : (k c n : ℕ) (t : WideTree) (e d : Before) (trace : WideTrace) → evaluates_bare k c t e ≡ Some trace →
    Agrees d trace.looks → trace.cost ≤ n → evaluates_bare k n t d ≡ Some trace
bare_again k c n t e d trace h g enough =
    supports k c (bare t) e trace h k n d g enough (allowed k c (bare t) e trace h).1

-- their looks agree, and in each environment that agrees with these looks the children evaluate to the same
pub record Again (k n i : ℕ) (a : SoFar) (ts : List WideTree) (e : Before) (b : SoFar) : Type 0 where
  pub agrees : Agrees e b.looks
  pub again : (d : Before) → Agrees d b.looks → b.cost ≤ n →
      children_from (evaluates_bare k) n i a ts d ≡ Some b

values_again : (k c n i : ℕ) (a : SoFar) (ts : List WideTree) (e : Before) (b : SoFar) → Agrees e a.looks →
    children_from (evaluates_bare k) c i a ts e ≡ Some b → Again k n i a ts e b
values_again k c n i a [] e b before h =
    let same : a ≡ b = cc in
    record { agrees = subst (λ (x : SoFar). Agrees e x.looks) same before; again = λ d g enough. ap Some same }
values_again k c n i a (t ∷ ts) e b before h =
    by (first_done (evaluates_bare k) c i a t ts e b h) (λ a' q r. values_again k c n (i + 1) a' ts e b q r)
  where
    by : FirstDone (evaluates_bare k) c i a t ts e b → ((a' : SoFar) → Agrees e a'.looks →
        children_from (evaluates_bare k) c (i + 1) a' ts e ≡ Some b → Again k n (i + 1) a' ts e b) →
        Again k n i a (t ∷ ts) e b
    by f go =
        let here : Agrees (env_atop a.writes e) f.trace.looks =
        bare_agrees k (c - a.cost) t (env_atop a.writes e) f.trace f.first in
        let rest : Again k n (i + 1) (with_child i a f.trace) ts e b =
        go (with_child i a f.trace) (both_agree e a.writes a.looks f.trace.looks before here) f.others in
        let cost : a.cost + f.trace.cost ≤ b.cost =
        children_more (evaluates_bare k) c (i + 1) (with_child i a f.trace) ts e b f.others in
        record {
          agrees = rest.agrees;
          again = λ d g enough.
              let later : Agrees d (both_looks a.looks a.writes f.trace.looks) =
              children_looks (evaluates_bare k) c (i + 1) (with_child i a f.trace) ts e d b f.others g in
              let fits : Agrees (env_atop a.writes d) f.trace.looks =
              part_fits d e a.writes a.looks f.trace.looks before here later in
              ap (option_and_then (λ trace. children_from (evaluates_bare k) n (i + 1) (with_child i a trace) ts d))
              (bare_again k (c - a.cost) (n - a.cost) t (env_atop a.writes e) (env_atop a.writes d) f.trace f.first
              fits (omega (arith, cost, enough))) ∙ rest.again d g enough;
        }

-- looks from inside what is set
inside_agrees : (e : Before) (own : NameMap) (looks : LookMap) → Agrees (env_atop own e) looks →
    Agrees e (past own looks)
inside_agrees e own looks h =
    subst (Agrees e) (first_looks own looks) (both_agree e own empty looks (agrees_nothing e) h)

inside_fits : (d e : Before) (own : NameMap) (looks : LookMap) → Agrees (env_atop own e) looks →
    Agrees d (past own looks) → Agrees (env_atop own d) looks
inside_fits d e own looks here h =
    part_fits d e own empty looks (agrees_nothing e) here (subst (Agrees d) (sym (first_looks own looks)) h)

pub in_agrees : (k : ℕ) (ls : List Layer) (i c : ℕ) (t : WideTree) (e : Before) (trace : WideTrace) →
    evaluates_in k ls i c t e ≡ Some trace → Agrees e trace.looks
in_agrees zero ls i c t e trace h = let off : None ≡ Some trace = sym (none_inside ls i c t e) ∙ h in absurd cc
in_agrees (suc k) [] i c t e trace h = by (child_done k i c t e trace h)
  where
    by : ChildDone k i c t e trace → Agrees e trace.looks
    by d = subst (λ (u : WideTrace). Agrees e u.looks) (sym d.is) (agrees k (c - 1) (alone t) e d.inner d.inside)
in_agrees (suc k) (l ∷ ls) i c t e trace h =
    by (layer_done k l ls i c t e trace h) (λ n d u g. in_agrees k ls i n t d u g)
  where
    by : LayerDone k l ls i c t e trace → ((n : ℕ) (d : Before) (u : WideTrace) → evaluates_in k ls i n t d ≡ Some u →
        Agrees d u.looks) → Agrees e trace.looks
    by d go =
        let values : Again k (c - 1) 0 nothing_yet (in_turn l.names l.trees) e d.values =
        values_again k (c - 1) (c - 1) 0 nothing_yet (in_turn l.names l.trees) e d.values (agrees_nothing e) d.done in
        let inner : Agrees (inside_layer l.names d.values e) d.inner.looks =
        go (c - layer_cost l.names d.values) (inside_layer l.names d.values e) d.inner d.inside in
        subst (λ (u : WideTrace). Agrees e u.looks) (sym d.is)
        (both_agree e d.values.writes d.values.looks (past (layer_sets l.names d.values) d.inner.looks) values.agrees
        (inside_agrees (env_atop d.values.writes e) (layer_sets l.names d.values) d.inner.looks inner))

-- a layer that is done, in another environment with which its looks agree
pub record LayerThere (k n : ℕ) (l : Layer) (d : Before) (a : SoFar) (inner : WideTrace) : Type 0 where
  pub again : layer_values k l n d ≡ Some a
  pub agrees : Agrees (inside_layer l.names a d) inner.looks
  pub cheap : layer_cost l.names a ≤ n
  pub enough : inner.cost ≤ n - layer_cost l.names a

pub layer_there : (k n : ℕ) (l : Layer) (ls : List Layer) (i c : ℕ) (t : WideTree) (e d : Before) (trace : WideTrace)
    (z : LayerDone k l ls i c t e trace) → Agrees d trace.looks → trace.cost ≤ n →
    LayerThere k n l d z.values z.inner
layer_there k n l ls i c t e d trace z g enough =
    let cost : trace.cost ≡ layer_cost l.names z.values + z.inner.cost = ap (λ (u : WideTrace). u.cost) z.is in
    let all : Again k (n - 1) 0 nothing_yet (in_turn l.names l.trees) e z.values =
    values_again k (c - 1) (n - 1) 0 nothing_yet (in_turn l.names l.trees) e z.values (agrees_nothing e) z.done in
    let looks : Agrees d
    (both_looks z.values.looks z.values.writes (past (layer_sets l.names z.values) z.inner.looks)) =
    subst (λ (u : WideTrace). Agrees d u.looks) z.is g in
    let here : Agrees (inside_layer l.names z.values e) z.inner.looks =
    in_agrees k ls i (c - layer_cost l.names z.values) t (inside_layer l.names z.values e) z.inner z.inside in
    record {
      again = all.again d (before_fits d z.values.writes z.values.looks
          (past (layer_sets l.names z.values) z.inner.looks) looks) (omega (arith, cost, enough));
      agrees = inside_fits (env_atop z.values.writes d) (env_atop z.values.writes e) (layer_sets l.names z.values)
          z.inner.looks here
          (part_fits d e z.values.writes z.values.looks (past (layer_sets l.names z.values) z.inner.looks) all.agrees
          (inside_agrees (env_atop z.values.writes e) (layer_sets l.names z.values) z.inner.looks here) looks);
      cheap = omega (arith, cost, enough);
      enough = omega (arith, cost, enough);
    }

pub holds : (m n : ℕ) → m ≤ n → nat_le m n ≡ true
holds m n h = grind (arith, common_steps, h)

-- the same trace in the other environment, with steps enough
pub in_again : (k : ℕ) (ls : List Layer) (i c n : ℕ) (t : WideTree) (e d : Before) (trace : WideTrace) →
    evaluates_in k ls i c t e ≡ Some trace → Agrees d trace.looks → trace.cost ≤ n →
    evaluates_in k ls i n t d ≡ Some trace
in_again zero ls i c n t e d trace h g enough =
    let off : None ≡ Some trace = sym (none_inside ls i c t e) ∙ h in
    absurd cc
in_again (suc k) [] i c n t e d trace h g enough = by (child_done k i c t e trace h)
  where
    by : ChildDone k i c t e trace → evaluates_in (suc k) [] i n t d ≡ Some trace
    by z =
        let cost : trace.cost ≡ 1 + z.inner.cost = ap (λ (u : WideTrace). u.cost) z.is in
        layers_are k [] i n t d
        ∙ ap (λ b. if b then option_map (child_trace i) (evaluates k (n - 1) t d) else None)
        (holds 1 n (omega (arith, cost, enough)))
        ∙ ap (option_map (child_trace i)) (there_too k (c - 1) (n - 1) t e d z.inner z.inside
        (subst (λ (u : WideTrace). Agrees d u.looks) z.is g) (omega (arith, cost, enough)))
        ∙ ap Some (sym z.is)
in_again (suc k) (l ∷ ls) i c n t e d trace h g enough =
    by (layer_done k l ls i c t e trace h)
    (λ m o x y u q r more. in_again k ls i m o t x y u q r more)
  where
    by_there : (z : LayerDone k l ls i c t e trace) → LayerThere k n l d z.values z.inner →
        ((m o : ℕ) (x y : Before) (u : WideTrace) → evaluates_in k ls i m t x ≡ Some u → Agrees y u.looks →
        u.cost ≤ o → evaluates_in k ls i o t y ≡ Some u) → evaluates_in (suc k) (l ∷ ls) i n t d ≡ Some trace
    by_there z f go =
        layers_are k (l ∷ ls) i n t d
        ∙ ap (option_and_then (λ a. layer_composed l.names a (evaluates_in k ls i) n t d)) f.again
        ∙ ap (λ b. if b then option_map (layer_trace l.names z.values)
        (evaluates_in k ls i (n - layer_cost l.names z.values) t (inside_layer l.names z.values d)) else None)
        (holds (layer_cost l.names z.values) n f.cheap)
        ∙ ap (option_map (layer_trace l.names z.values))
        (go (c - layer_cost l.names z.values) (n - layer_cost l.names z.values) (inside_layer l.names z.values e)
        (inside_layer l.names z.values d) z.inner z.inside f.agrees f.enough)
        ∙ ap Some (sym z.is)

    by : LayerDone k l ls i c t e trace →
        ((m o : ℕ) (x y : Before) (u : WideTrace) → evaluates_in k ls i m t x ≡ Some u → Agrees y u.looks →
        u.cost ≤ o → evaluates_in k ls i o t y ≡ Some u) → evaluates_in (suc k) (l ∷ ls) i n t d ≡ Some trace
    by z go = by_there z (layer_there k n l ls i c t e d trace z g enough) go

-- what the layer's trees evaluate to there
pub values_there : (k : ℕ) (l : Layer) (ls : List Layer) (i c n : ℕ) (t : WideTree) (e d : Before)
    (trace : WideTrace) → evaluates_in (suc k) (l ∷ ls) i c t e ≡ Some trace → Agrees d trace.looks →
    trace.cost ≤ n → layer_values k l n d ≡ layer_values k l c e
values_there k l ls i c n t e d trace h g enough = by (layer_done k l ls i c t e trace h)
  where
    by : LayerDone k l ls i c t e trace → layer_values k l n d ≡ layer_values k l c e
    by z =
        let there : LayerThere k n l d z.values z.inner = layer_there k n l ls i c t e d trace z g enough in
        there.again ∙ sym z.done

abbrev pub FitInside : ℕ → LayerFinder → Type 0
FitInside k inside = (ls : List Layer) (i c n : ℕ) (path : List ℕ) (t : WideTree) (e d : Before) (trace : WideTrace) →
    evaluates_in k ls i c t e ≡ Some trace → Agrees d trace.looks → trace.cost ≤ n →
    AllFit (inside ls i c path t e) (inside ls i n path t d)

module _ (k : ℕ) (finder : Finder) (below : FitBelow k finder) (inside : LayerFinder)
    (within : FitInside k inside) where
  layers_fit : FitInside (suc k) (parts_layers k finder inside)
  layers_fit [] i c n path t e d trace h g enough = by (child_done k i c t e trace h)
    where
      by : ChildDone k i c t e trace →
          AllFit (finder (c - 1) (path ++ i ∷ []) t e) (finder (n - 1) (path ++ i ∷ []) t d)
      by z =
          let cost : trace.cost ≡ 1 + z.inner.cost = ap (λ (u : WideTrace). u.cost) z.is in
          below (c - 1) (n - 1) (path ++ i ∷ []) t e d z.inner z.inside
          (subst (λ (u : WideTrace). Agrees d u.looks) z.is g) (omega (arith, cost, enough))
  layers_fit (l ∷ ls) i c n path t e d trace h g enough = by (layer_done k l ls i c t e trace h)
    where
      by : LayerDone k l ls i c t e trace → AllFit (parts_layers k finder inside (l ∷ ls) i c path t e)
          (parts_layers k finder inside (l ∷ ls) i n path t d)
      by z =
          let there : LayerThere k n l d z.values z.inner = layer_there k n l ls i c t e d trace z g enough in
          let behind : ℕ → Before → Option SoFar → List Part = λ m x o.
          option_map_or (λ a. inside ls i (m - layer_cost l.names a) path t (inside_layer l.names a x)) o [] in
          subst (λ o. AllFit (behind c e o) (behind n d (layer_values k l n d))) (sym z.done)
          (subst (λ o. AllFit (behind c e (Some z.values)) (behind n d o)) (sym there.again)
          (within ls i (c - layer_cost l.names z.values) (n - layer_cost l.names z.values) path t
          (inside_layer l.names z.values e) (inside_layer l.names z.values d) z.inner z.inside there.agrees
          there.enough))

  -- the look at the label is one more
  shell_fits : (c n : ℕ) (path : List ℕ) (t : WideTree) (shell : Shell) (u : WideTree) (e d : Before)
      (trace : WideTrace) (b : Bool) (o : Option WideTrace) →
      evaluates_in k shell.layers shell.inner (c - 1) u e ≡ o →
      (if b then option_map (shell_trace t e) o else None) ≡ Some trace → Agrees d trace.looks → trace.cost ≤ n →
      AllFit (inside shell.layers shell.inner (c - 1) path u e) (inside shell.layers shell.inner (n - 1) path u d)
  shell_fits c n path t shell u e d trace true (Some inner) q h g enough =
      let same : trace ≡ shell_trace t e inner = cc in
      let cost : trace.cost ≡ 1 + inner.cost = ap (λ (x : WideTrace). x.cost) same in
      let here : Agrees e inner.looks = in_agrees k shell.layers shell.inner (c - 1) u e inner q in
      let looks : Agrees d (atop (label_look t e) inner.looks) = subst (λ (x : WideTrace). Agrees d x.looks) same g in
      let both : Agrees d (both_looks (label_look t e) empty inner.looks) =
      subst (λ m. Agrees d (atop (label_look t e) m)) (sym (past_none inner.looks)) looks in
      let look : Agrees e (label_look t e) = label_agrees t e in
      let there : Agrees d inner.looks =
      subst (λ x. Agrees x inner.looks) (atop_empty d)
      (part_fits d e empty (label_look t e) inner.looks look
      (subst (λ x. Agrees x inner.looks) (sym (atop_empty e)) here) both) in
      within shell.layers shell.inner (c - 1) (n - 1) path u e d inner q there (omega (arith, cost, enough))
  shell_fits c n path t shell u e d trace true None q h g enough = cc
  shell_fits c n path t shell u e d trace false o q h g enough = cc

  opened_fits : (o : Opening) (c n : ℕ) (path : List ℕ) (t : WideTree) (e d : Before) (trace : WideTrace) →
      evaluates (suc k) c t e ≡ Some trace →
      composed_opened o k (evaluates k) (evaluates_in k) c t e ≡ Some trace → Agrees d trace.looks →
      trace.cost ≤ n → AllFit (parts_opened o k finder inside c path t e) (parts_opened o k finder inside n path t d)
  opened_fits (ByTree o) c n path t e d trace h q g enough =
      open_fits k finder below o c n path t e d trace h q g enough
  opened_fits (ByShell shell u) c n path t e d trace h q g enough =
      shell_fits c n path t shell u e d trace (nat_le 1 c) (evaluates_in k shell.layers shell.inner (c - 1) u e) refl
      q g enough

module _ (sheller : Sheller) (sound : IsSheller sheller) where
  mutual
    unfolding parts_by parts_in

    pub parts_by_fit : (k : ℕ) → FitBelow k (parts_by sheller k)
    parts_by_fit zero c n path t e d trace h g enough = tt
    parts_by_fit (suc k) c n path t e d trace h g enough =
        subst (λ o. AllFit (parts_by sheller (suc k) c path t e)
        (parts_opened (opening_by o t) k (parts_by sheller k) (parts_in sheller k) n path t d))
        (sym (sound.again (suc k) c t e d trace h g))
        (opened_fits k (parts_by sheller k) (parts_by_fit k) (parts_in sheller k) (parts_in_fit k)
        (opening sheller t e) c n path t e d trace h (sym (opened_is sheller sound k c t e) ∙ h) g enough)

    pub parts_in_fit : (k : ℕ) → FitInside k (parts_in sheller k)
    parts_in_fit zero ls i c n path t e d trace h g enough = tt
    parts_in_fit (suc k) ls i c n path t e d trace h g enough =
        layers_fit k (parts_by sheller k) (parts_by_fit k) (parts_in sheller k) (parts_in_fit k) ls i c n path t e d
        trace h g enough

-- ---- what is stored of them

one_stored : (p q : Part) → Fits p q → stored_part q ≡ stored_part p
one_stored p q f =
    let same : part_trace q ≡ part_trace p = f.again ∙ sym f.comes in
    ap (λ at. record { path = at; trace = part_trace q }) f.path ∙ ap (λ o. record { path = p.path; trace = o }) same

stored_alike : (ps qs : List Part) → AllFit ps qs → map stored_part qs ≡ map stored_part ps
stored_alike [] [] h = refl
stored_alike [] (q ∷ qs) h = absurd h
stored_alike (p ∷ ps) [] h = absurd h
stored_alike (p ∷ ps) (q ∷ qs) h =
    ap (λ s. s ∷ map stored_part qs) (one_stored p q h.0) ∙ ap (λ ss. stored_part p ∷ ss) (stored_alike ps qs h.1)

each_traced : (ps qs : List Part) → AllFit ps qs → AllByRecursion HasTrace ps
each_traced [] [] h = tt
each_traced [] (q ∷ qs) h = absurd h
each_traced (p ∷ ps) [] h = absurd h
each_traced (p ∷ ps) (q ∷ qs) h = ((h.0.trace, h.0.comes), each_traced ps qs h.1)

module _ (sheller : Sheller) (sound : IsSheller sheller) where
  pub stored_by : (k c n : ℕ) (path : List ℕ) (t : WideTree) (e d : Before) (trace : WideTrace) →
      evaluates k c t e ≡ Some trace → Agrees d trace.looks → trace.cost ≤ n →
      map stored_part (parts_by sheller k n path t d) ≡ map stored_part (parts_by sheller k c path t e)
  stored_by k c n path t e d trace h g enough =
      stored_alike (parts_by sheller k c path t e) (parts_by sheller k n path t d)
      (parts_by_fit sheller sound k c n path t e d trace h g enough)

  -- they fit where they are
  pub traced_by : (k c : ℕ) (path : List ℕ) (t : WideTree) (e : Before) (trace : WideTrace) →
      evaluates k c t e ≡ Some trace → AllByRecursion HasTrace (parts_by sheller k c path t e)
  traced_by k c path t e trace h =
      let bounds : (trace.cost ≤ c) × (trace.height ≤ k) = allowed k c (alone t) e trace h in
      each_traced (parts_by sheller k c path t e) (parts_by sheller k c path t e)
      (parts_by_fit sheller sound k c c path t e e trace h (agrees k c (alone t) e trace h) bounds.0)

-- ---- where nothing has a shell

pub parts_fit : (k : ℕ) → FitBelow k (parts k)
parts_fit k = parts_by_fit no_shells closed_is k

pub same_stored : (k c n : ℕ) (path : List ℕ) (t : WideTree) (e d : Before) (trace : WideTrace) →
    evaluates k c t e ≡ Some trace → Agrees d trace.looks → trace.cost ≤ n →
    map stored_part (parts k n path t d) ≡ map stored_part (parts k c path t e)
same_stored k c n path t e d trace h g enough = stored_by no_shells closed_is k c n path t e d trace h g enough

pub all_traced : (k c : ℕ) (path : List ℕ) (t : WideTree) (e : Before) (trace : WideTrace) →
    evaluates k c t e ≡ Some trace → AllByRecursion HasTrace (parts k c path t e)
all_traced k c path t e trace h = traced_by no_shells closed_is k c path t e trace h
