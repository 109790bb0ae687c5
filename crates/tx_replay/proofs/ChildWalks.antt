-- The children of a `document` in order, in the state of the whole.
use Rattle.std.proofs.Common.{◌≡◌, ℕ, ◌+◌, ◌-◌, ◌≤◌, List, [], ◌∷◌, ◌++◌, map, refl, ap, sym, ◌∙◌}
use Rattle.std.proofs.Common.{append_assoc, arith}
use Rattle.std.proofs.lemmas.List.{map-append}
use Rattle.std.specs.Prelude.{Option, Some, None, option_and_then}
use Rattle.tx_tree.specs.WideTree.{WideTree}
use Rattle.tx_origin.specs.Values.{WideValue}
use Rattle.tx_origin.specs.Under.{value_under}
use Rattle.tx_origin.proofs.Under.{under_nested}
use Rattle.tx_exec_form.specs.Runs.{Before, State}
use Rattle.tx_exec_form.specs.Evaluated.{WideTrace}
use Rattle.tx_parts.specs.Atop.{env_atop}
use Rattle.tx_parts.specs.Adding.{after_part}
use Rattle.tx_parts.specs.Composed.{evaluates, SoFar, with_child, children_from}
use Rattle.tx_parts.specs.Parts.{Part, parts_by, parts_from}
use Rattle.tx_parts.proofs.PartRuns.{atop_twice}
use Rattle.tx_replay.specs.Seen.{Seen, seen_in, Guide, charged}
use Rattle.tx_replay.specs.Walks.{Stage, Walked, Stopped, Went, on_went, told, Walker, children_walk, tree_told}
use Rattle.tx_replay.proofs.States.{behind, one_behind}
use Rattle.tx_replay.proofs.Charging.{charged_from, parts_after, charged_next, append_none}

-- a walker does so for trees with k levels
abbrev pub Tells : Guide → ℕ → Walker → Type 0
Tells g k walker = (path : List ℕ) (t : WideTree) (e : Before) (s : Stage) → s.state.slack ≤ k →
    walker path t e s ≡ tree_told g k path t e s

-- the values under the path, with one more
pub values_more : (base : List ℕ) (i : ℕ) (vs : List WideValue) (v : WideValue) →
    map (value_under base) vs ++ value_under (base ++ i ∷ []) v ∷ [] ≡
    map (value_under base) (vs ++ value_under (i ∷ []) v ∷ [])
values_more base i vs v =
    ap (λ u. map (value_under base) vs ++ u ∷ []) (under_nested base (i ∷ []) v)
    ∙ sym (map-append (value_under base) vs (value_under (i ∷ []) v ∷ []))

module _ (g : Guide) (k : ℕ) (path : List ℕ) (e : Before) (s : State) (walker : Walker) (tells : Tells g k walker)
    (low : s.slack ≤ k) where
  abbrev inside : Before
  inside = env_atop s.own e

  -- the stage after children with these traces
  abbrev pub stage_behind : List Seen → ℕ → SoFar → Stage
  stage_behind done count a = record { state = behind k s a; done = done; count = count }

  abbrev pub children_ended : List Seen → ℕ → Option SoFar → Walked (List WideValue)
  children_ended ps n None = Stopped n
  children_ended ps n (Some b) = Went (map (value_under path) b.values) (stage_behind ps n b)

  abbrev pub rest_told : List Seen → ℕ → ℕ → SoFar → List WideTree → Walked (List WideValue)
  rest_told done count i a ts =
      children_ended
      (done ++ map (seen_in g.stores) (parts_from k (parts_by g.sheller k) s.left path i a ts inside))
      (count + charged_from g k s.left path i a ts inside)
      (children_from (evaluates k) s.left i a ts inside)

  none_left : (done : List Seen) (count i : ℕ) (a : SoFar) →
      Went (map (value_under path) a.values) (stage_behind done count a) ≡ rest_told done count i a []
  none_left done count i a =
      let same : count ≡ count + charged_from g k s.left path i a [] inside = omega arith in
      ap (λ ps. Went (map (value_under path) a.values) (stage_behind ps count a)) (sym (append_none done))
      ∙ ap (λ n. Went (map (value_under path) a.values) (stage_behind (done ++ []) n a)) same

  module _ (t : WideTree) (ts : List WideTree) (i : ℕ) (a : SoFar) where
    abbrev before : Before
    before = env_atop a.writes inside

    abbrev parts_here : List Part
    parts_here = parts_by g.sheller k (s.left - a.cost) (path ++ i ∷ []) t before

    abbrev charged_here : ℕ
    charged_here = charged g k (s.left - a.cost) (path ++ i ∷ []) t before

    abbrev then_rest : WideValue → Before → Stage → Walked (List WideValue)
    then_rest v = children_walk walker path (i + 1) (map (value_under path) a.values ++ v ∷ []) ts

    module _ (done : List Seen) (count : ℕ) where
      first_is : walker (path ++ i ∷ []) t e (stage_behind done count a) ≡
          told k (path ++ i ∷ []) (stage_behind done count a) (map (seen_in g.stores) parts_here) charged_here
          (evaluates k (s.left - a.cost) t before)
      first_is =
          tells (path ++ i ∷ []) t e (stage_behind done count a) (omega (arith, low))
          ∙ ap (λ d. told k (path ++ i ∷ []) (stage_behind done count a)
          (map (seen_in g.stores) (parts_by g.sheller k (s.left - a.cost) (path ++ i ∷ []) t d))
          (charged g k (s.left - a.cost) (path ++ i ∷ []) t d)
          (evaluates k (s.left - a.cost) t d)) (atop_twice a.writes s.own e)

      by : (o : Option WideTrace) → evaluates k (s.left - a.cost) t before ≡ o →
          ((b : SoFar) (d : List Seen) (n : ℕ) →
          children_walk walker path (i + 1) (map (value_under path) b.values) ts e (stage_behind d n b) ≡
          rest_told d n (i + 1) b ts) →
          on_went e then_rest (told k (path ++ i ∷ []) (stage_behind done count a)
          (map (seen_in g.stores) parts_here) charged_here o) ≡
          children_ended
          (done ++ map (seen_in g.stores) (parts_here ++ parts_after g k s.left path i a t ts inside o))
          (count + charged_from g k s.left path i a (t ∷ ts) inside)
          (option_and_then (λ trace. children_from (evaluates k) s.left (i + 1) (with_child i a trace) ts inside) o)
      by None q go =
          let charge : charged_from g k s.left path i a (t ∷ ts) inside ≡ charged_here + 0 =
          charged_next g k s.left path i a t ts inside None q in
          let same : count + charged_here ≡ count + charged_from g k s.left path i a (t ∷ ts) inside =
          omega (arith, charge) in
          ap Stopped same
      by (Some trace) q go =
          let charge : charged_from g k s.left path i a (t ∷ ts) inside ≡
          charged_here + charged_from g k s.left path (i + 1) (with_child i a trace) ts inside =
          charged_next g k s.left path i a t ts inside (Some trace) q in
          let same : (count + charged_here) + charged_from g k s.left path (i + 1) (with_child i a trace) ts inside ≡
          count + charged_from g k s.left path i a (t ∷ ts) inside = omega (arith, charge) in
          let lists : (done ++ map (seen_in g.stores) parts_here) ++ map (seen_in g.stores)
          (parts_from k (parts_by g.sheller k) s.left path (i + 1) (with_child i a trace) ts inside) ≡
          done ++ map (seen_in g.stores) (parts_here
          ++ parts_from k (parts_by g.sheller k) s.left path (i + 1) (with_child i a trace) ts inside) =
          append_assoc done (map (seen_in g.stores) parts_here) (map (seen_in g.stores)
          (parts_from k (parts_by g.sheller k) s.left path (i + 1) (with_child i a trace) ts inside))
          ∙ ap (λ xs. done ++ xs) (sym (map-append (seen_in g.stores) parts_here
          (parts_from k (parts_by g.sheller k) s.left path (i + 1) (with_child i a trace) ts inside))) in
          ap (λ vs. children_walk walker path (i + 1) vs ts e (record {
            state = after_part k (behind k s a) trace;
            done = done ++ map (seen_in g.stores) parts_here;
            count = count + charged_here;
          })) (values_more path i a.values trace.value)
          ∙ ap (λ z. children_walk walker path (i + 1) (map (value_under path) (with_child i a trace).values) ts e
          (record {
            state = z;
            done = done ++ map (seen_in g.stores) parts_here;
            count = count + charged_here;
          })) (one_behind k i s a trace)
          ∙ go (with_child i a trace) (done ++ map (seen_in g.stores) parts_here) (count + charged_here)
          ∙ ap (λ xs. children_ended xs
          ((count + charged_here) + charged_from g k s.left path (i + 1) (with_child i a trace) ts inside)
          (children_from (evaluates k) s.left (i + 1) (with_child i a trace) ts inside)) lists
          ∙ ap (λ n. children_ended (done ++ map (seen_in g.stores) (parts_here
          ++ parts_from k (parts_by g.sheller k) s.left path (i + 1) (with_child i a trace) ts inside)) n
          (children_from (evaluates k) s.left (i + 1) (with_child i a trace) ts inside)) same

  pub children_are : (ts : List WideTree) (i : ℕ) (a : SoFar) (done : List Seen) (count : ℕ) →
      children_walk walker path i (map (value_under path) a.values) ts e (stage_behind done count a) ≡
      rest_told done count i a ts
  children_are [] i a done count = none_left done count i a
  children_are (t ∷ ts) i a done count =
      ap (on_went e (then_rest t ts i a)) (first_is t ts i a done count)
      ∙ by t ts i a done count (evaluates k (s.left - a.cost) t (env_atop a.writes inside)) refl
      (λ b d n. children_are ts (i + 1) b d n)
