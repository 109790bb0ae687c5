-- Trees in order in a frame: each alone, after those before it.
use Rattle.std.proofs.Common.{◌≡◌, ℕ, ◌+◌, ◌-◌, ◌≤◌, min, max, List, [], ◌∷◌, ◌++◌, append_assoc, ap, refl, sym, ◌∙◌}
use Rattle.std.proofs.Common.{arith}
use Rattle.std.specs.Prelude.{Option, Some, None, map, option_and_then}
use Rattle.std.specs.Option.{option_map}
use Rattle.tx_origin.specs.Values.{WideValue}
use Rattle.tx_origin.specs.TaggedTrees.{TaggedTree}
use Rattle.tx_origin.specs.Under.{origin_under, tree_under, value_under}
use Rattle.tx_origin.proofs.Under.{under_none}
use Rattle.tx_env.specs.Environments.{NameMap}
use Rattle.tx_exec_form.specs.Maps.{LookMap}
use Rattle.tx_exec_form.specs.Runs.{Before, State, Ran, Over, Done, on_done}
use Rattle.tx_exec_form.specs.Frames.{Frame, top, call, call_all}
use Rattle.tx_exec_form.specs.Rows.{Eval, ex, each}
use Rattle.tx_exec_form.specs.Evaluated.{WideTrace, start, trace_of, traced}
use Rattle.tx_exec_form.specs.Framed.{RunTrace, run_trace_of, run_traced, framed, run_framed}
use Rattle.tx_exec_form.proofs.Follows.{ex_follows, eachs as each_follows}
use Rattle.tx_exec_form.proofs.Again.{left_fits}
use Rattle.tx_exec_form.proofs.RunFraming.{allowed as run_allowed}
use Rattle.tx_parts.specs.Atop.{atop, env_atop, both_looks}
use Rattle.tx_parts.specs.Adding.{after_part, part_ran}
use Rattle.tx_parts.specs.InFrames.{frame_under, ran_here, after_run, run_ran, joined, run_joined}
use Rattle.tx_parts.proofs.Shifting.{added, ran_added, ex_shifts, eachs as each_shifts}
use Rattle.tx_parts.proofs.PartRuns.{begun, framed_is}

-- ---- under no path

tree_same : (t : TaggedTree) (at : Option (List ℕ)) → t.at ≡ at → tree_under [] t ≡ t
tree_same t None h = ap (λ o. record { tree = t.tree; at = origin_under [] o }) h
    ∙ ap (λ o. record { tree = t.tree; at = o }) (sym h)
tree_same t (Some p) h = ap (λ o. record { tree = t.tree; at = origin_under [] o }) h
    ∙ ap (λ o. record { tree = t.tree; at = o }) (sym h)

all_same : (ts : List TaggedTree) → map (tree_under []) ts ≡ ts
all_same [] = refl
all_same (t ∷ ts) = ap (λ u. u ∷ map (tree_under []) ts) (tree_same t t.at refl) ∙ ap (λ us. t ∷ us) (all_same ts)

frame_same : (f : Frame) → frame_under [] f ≡ f
frame_same top = refl
frame_same (call parameters arguments caller) =
    ap (λ ts. call parameters ts (frame_under [] caller)) (all_same arguments)
    ∙ ap (call parameters arguments) (frame_same caller)
frame_same (call_all parameter arguments caller) =
    ap (λ ts. call_all parameter ts (frame_under [] caller)) (all_same arguments)
    ∙ ap (call_all parameter arguments) (frame_same caller)

ran_same : (k : ℕ) (s : State) (o : Option WideTrace) → part_ran k [] s o ≡ ran_here k s o
ran_same k s None = refl
ran_same k s (Some trace) = ap (λ v. Done v (after_part k s trace)) (under_none trace.value)

pub here_is : (f : Frame) (k : ℕ) (t : TaggedTree) (e : Before) (s : State) → s.slack ≤ k →
    ex k t f e s ≡ ran_here k s (framed f k s.left t (env_atop s.own e))
here_is f k t e s low =
    ap (λ u. ex k u f e s) (sym (tree_same t t.at refl))
    ∙ ap (λ g. ex k (tree_under [] t) g e s) (sym (frame_same f))
    ∙ framed_is f k [] t e s low
    ∙ ran_same k s (framed f k s.left t (env_atop s.own e))

-- ---- all of them in the whole

-- the state after them, by their trace
run_ended : (f : Frame) (k : ℕ) (path : List ℕ) (s : State) (ts : List TaggedTree) (e : Before)
    (r : Ran (List WideValue)) → each (ex k) f [] ts e (start k s.left) ≡ r →
    ran_added (map (value_under path)) s.own s.looks s.slack r ≡ run_ran k path s (run_traced k s.left r)
run_ended f k path s ts e Over q = refl
run_ended f k path s ts e (Done vs z) q =
    by (left_fits (λ k. each (ex k) f [] ts) (λ k k'. each_follows k k' (ex k) (ex k') (ex_follows k k') f ts [])
    k s.left e vs z q)
  where
    by : (z.left ≤ s.left) × (z.slack ≤ k) →
        Done (map (value_under path) vs) (added s.own s.looks s.slack z) ≡
        Done (map (value_under path) vs) (after_run k s (run_trace_of k s.left vs z))
    by h =
        let left : z.left ≡ s.left - (s.left - z.left) = omega (arith, h.0) in
        let slack : min s.slack z.slack ≡ min s.slack (k - (k - z.slack)) = omega (arith, h.1) in
        ap (λ i. Done (map (value_under path) vs)
        (record {
          own = atop z.own s.own;
          looks = both_looks s.looks s.own z.looks;
          left = i;
          slack = min s.slack z.slack;
        }))
        left
        ∙ ap (λ i. Done (map (value_under path) vs) (record {
          own = atop z.own s.own;
          looks = both_looks s.looks s.own z.looks;
          left = s.left - (s.left - z.left);
          slack = i;
        })) slack

pub run_is : (f : Frame) (k : ℕ) (path : List ℕ) (ts : List TaggedTree) (e : Before) (s : State) → s.slack ≤ k →
    each (ex k) (frame_under path f) [] (map (tree_under path) ts) e s ≡
    run_ran k path s (run_framed f k s.left ts (env_atop s.own e))
unfolding run_framed
run_is f k path ts e s low =
    ap (each (ex k) (frame_under path f) [] (map (tree_under path) ts) e) (sym (begun k s low))
    ∙ sym ((each_shifts s.own s.looks s.slack path k (ex k) (ex_shifts s.own s.looks s.slack path k) f ts []).runs e
    (start k s.left))
    ∙ run_ended f k path s ts (env_atop s.own e) (each (ex k) f [] ts (env_atop s.own e) (start k s.left)) refl

-- ---- the first, and the others after it

-- with these values before the others
ran_before : List WideValue → Ran (List WideValue) → Ran (List WideValue)
ran_before us Over = Over
ran_before us (Done vs s) = Done (us ++ vs) s

each_before : (below : Eval) (f : Frame) (us vs : List WideValue) (ts : List TaggedTree) (e : Before) (s : State) →
    each below f (us ++ vs) ts e s ≡ ran_before us (each below f vs ts e s)
unfolding ran_before
each_before below f us vs [] e s = refl
each_before below f us vs (t ∷ ts) e s =
    by (below t f e s) (λ v z. each_before below f us (vs ++ v ∷ []) ts e z)
  where
    by : (r : Ran WideValue) → ((v : WideValue) (z : State) → each below f (us ++ (vs ++ v ∷ [])) ts e z ≡
        ran_before us (each below f (vs ++ v ∷ []) ts e z)) →
        on_done e (λ v. each below f ((us ++ vs) ++ v ∷ []) ts) r ≡
        ran_before us (on_done e (λ v. each below f (vs ++ v ∷ []) ts) r)
    by Over h = refl
    by (Done v z) h = ap (λ ws. each below f ws ts e z) (append_assoc us vs (v ∷ [])) ∙ h v z

values_same : (vs : List WideValue) → map (value_under []) vs ≡ vs
values_same [] = refl
values_same (v ∷ vs) = ap (λ u. u ∷ map (value_under []) vs) (under_none v) ∙ ap (λ us. v ∷ us) (values_same vs)

-- the others, after the first
others_are : (f : Frame) (k : ℕ) (ts : List TaggedTree) (e : Before) (v : WideValue) (s : State) → s.slack ≤ k →
    each (ex k) f (v ∷ []) ts e s ≡
    ran_before (v ∷ []) (run_ran k [] s (run_framed f k s.left ts (env_atop s.own e)))
others_are f k ts e v s low =
    each_before (ex k) f (v ∷ []) [] ts e s
    ∙ ap (λ us. ran_before (v ∷ []) (each (ex k) f [] us e s)) (sym (all_same ts))
    ∙ ap (λ g. ran_before (v ∷ []) (each (ex k) g [] (map (tree_under []) ts) e s)) (sym (frame_same f))
    ∙ ap (ran_before (v ∷ [])) (run_is f k [] ts e s low)

abbrev trace_with : LookMap → NameMap → List WideValue → ℕ → ℕ → RunTrace
trace_with looks writes vs i m = record { values = vs; looks = looks; writes = writes; cost = i; height = m }

trace_same : (looks : LookMap) (writes : NameMap) (us vs : List WideValue) (i j m n : ℕ) → us ≡ vs → i ≡ j → m ≡ n →
    trace_with looks writes us i m ≡ trace_with looks writes vs j n
trace_same looks writes us vs i j m n p q r =
    ap (λ ws. trace_with looks writes ws i m) p
    ∙ ap (λ l. trace_with looks writes vs l m) q
    ∙ ap (λ l. trace_with looks writes vs j l) r

both_traced : (k c : ℕ) (v : WideValue) (s : State) (o : Option RunTrace) → s.left ≤ c → s.slack ≤ k →
    ((b : RunTrace) → o ≡ Some b → (b.cost ≤ s.left) × (b.height ≤ k)) →
    run_traced k c (ran_before (v ∷ []) (run_ran k [] s o)) ≡ option_map (joined (trace_of k c v s)) o
unfolding ran_before
both_traced k c v s None p q h = refl
both_traced k c v s (Some b) p q h =
    let most : (b.cost ≤ s.left) × (b.height ≤ k) = h b refl in
    let cost : c - (s.left - b.cost) ≡ (c - s.left) + b.cost = omega (arith, p, most.0) in
    let height : k - min s.slack (k - b.height) ≡ max (k - s.slack) b.height = omega (arith, q, most.1) in
    ap Some (trace_same (both_looks s.looks s.own b.looks) (atop b.writes s.own)
    (v ∷ map (value_under []) b.values) (v ∷ b.values) (c - (s.left - b.cost)) ((c - s.left) + b.cost)
    (k - min s.slack (k - b.height)) (max (k - s.slack) b.height)
    (ap (λ us. v ∷ us) (values_same b.values)) cost height)

pub next_is : (f : Frame) (k c : ℕ) (t : TaggedTree) (ts : List TaggedTree) (e : Before) →
    run_framed f k c (t ∷ ts) e ≡ run_joined f k c t ts e
unfolding framed run_framed
next_is f k c t ts e = by (ex k t f e (start k c)) refl
  where
    by : (r : Ran WideValue) → ex k t f e (start k c) ≡ r →
        run_traced k c (on_done e (λ v. each (ex k) f (v ∷ []) ts) r) ≡
        option_and_then (λ a. option_map (joined a) (run_framed f k (c - a.cost) ts (env_atop a.writes e)))
        (traced k c r)
    by Over q = refl
    by (Done v s) q = behind (left_fits (λ k. ex k t f) (λ k k'. ex_follows k k' t f) k c e v s q)
      where
        behind : (s.left ≤ c) × (s.slack ≤ k) → run_traced k c (each (ex k) f (v ∷ []) ts e s) ≡
            option_map (joined (trace_of k c v s)) (run_framed f k (c - (c - s.left)) ts (env_atop s.own e))
        behind h =
            let left : s.left ≡ c - (c - s.left) = omega (arith, h.0) in
            ap (run_traced k c) (others_are f k ts e v s h.1)
            ∙ both_traced k c v s (run_framed f k s.left ts (env_atop s.own e)) h.0 h.1
            (λ b g. run_allowed f k s.left ts (env_atop s.own e) b g)
            ∙ ap (λ n. option_map (joined (trace_of k c v s)) (run_framed f k n ts (env_atop s.own e))) left
