-- A tree in layers does in the whole what its trace says.
use Rattle.std.proofs.Common.{◌≡◌, ℕ, zero, suc, ◌-◌, ◌≤◌, List, [], ◌∷◌, ◌++◌, map, ap, subst, refl, sym, ◌∙◌, arith}
use Rattle.std.specs.Prelude.{Option, Some, None, codes}
use Rattle.tx_tree.specs.WideTree.{WideTree}
use Rattle.tx_env.specs.Environments.{NameMap}
use Rattle.tx_origin.specs.Values.{WideValue}
use Rattle.tx_origin.specs.TaggedTrees.{TaggedTree}
use Rattle.tx_exec_form.specs.Maps.{LookMap}
use Rattle.tx_exec_form.specs.Runs.{Before, State, Ran, Over, Done, Run}
use Rattle.tx_exec_form.specs.Frames.{Frame, top}
use Rattle.tx_exec_form.specs.Rows.{Eval, ex, with_row}
use Rattle.tx_exec_form.specs.Evaluated.{WideTrace, start, trace_of, traced, evaluated_in}
use Rattle.tx_exec_form.proofs.Follows.{Held, follows_start}
use Rattle.tx_parts.specs.Atop.{env_atop}
use Rattle.tx_origin.specs.Under.{origin_under, tree_under, value_under}
use Rattle.tx_parts.specs.Adding.{part_ran}
use Rattle.tx_parts.specs.Shells.{Layer, bare, in_turn, by_origin, in_layers}
use Rattle.tx_parts.specs.InFrames.{frame_under}
use Rattle.tx_parts.proofs.Shifting.{ran_added, Shifts, next, needs, pays, overs, with_rows, ex_shifts}
use Rattle.tx_parts.proofs.PartRuns.{begun}

-- ---- in the whole

-- the children of a layer's row
abbrev pub layer_kids : Layer → TaggedTree → List TaggedTree
layer_kids l t = map bare (in_turn l.names l.trees) ++ t ∷ []

-- what a layer's row does with them
abbrev pub layer_eval : ℕ → List Layer → Eval
layer_eval k ls u g = by_origin u.at (ex k u g) (in_layers k ls u g)

module _ (w : NameMap) (l : LookMap) (n : ℕ) (base : List ℕ) where
  abbrev Goes : Run WideValue → Run WideValue → Type 0
  Goes m m' = Shifts w l n (value_under base) m m'

  bare_under : (ts : List WideTree) (t : TaggedTree) →
      map (tree_under base) (map bare ts ++ t ∷ []) ≡ map bare ts ++ tree_under base t ∷ []
  bare_under [] t = refl
  bare_under (u ∷ us) t = ap (λ ts. bare u ∷ ts) (bare_under us t)

  by_origins : (at : Option (List ℕ)) (m m' o o' : Run WideValue) → Goes m m' → Goes o o' →
      Goes (by_origin at m o) (by_origin (origin_under base at) m' o')
  by_origins None m m' o o' h g = h
  by_origins (Some p) m m' o o' h g = g

  pub layers_shift : (k : ℕ) (ls : List Layer) (t : TaggedTree) (f : Frame) →
      Goes (in_layers k ls t f) (in_layers k ls (tree_under base t) (frame_under base f))
  unfolding in_layers
  layers_shift zero ls t f = overs w l n (value_under base)
  layers_shift (suc k) [] t f =
      next w l n (needs w l n 1 (suc k)) (λ _. next w l n (pays w l n 1) (λ _. ex_shifts w l n base k t f))
  layers_shift (suc k) (x ∷ ls) t f =
      next w l n (needs w l n 1 (suc k)) (λ _. next w l n (pays w l n 1) (λ _.
      subst (λ us. Goes (with_row (suc k) (layer_eval k ls) f (codes "with") None (layer_kids x t))
      (with_row (suc k) (layer_eval k ls) (frame_under base f) (codes "with") None us))
      (bare_under (in_turn x.names x.trees) t)
      (with_rows w l n base (suc k) (layer_eval k ls) (λ u g. by_origins u.at _ _ _ _ (ex_shifts w l n base k u g)
      (layers_shift k ls u g)) f (codes "with") None (layer_kids x t))))

-- ---- from the start

-- the result of a run with this trace, where it has k levels and c steps at first
abbrev pub ran_of : ℕ → ℕ → Option WideTrace → Ran WideValue
ran_of k c None = Over
ran_of k c (Some trace) = Done trace.value (record {
  own = trace.writes;
  looks = trace.looks;
  left = c - trace.cost;
  slack = k - trace.height;
})

ran_back : (k c : ℕ) (t : TaggedTree) (e : Before) (r : Ran WideValue) → ex k t top e (start k c) ≡ r →
    r ≡ ran_of k c (traced k c r)
ran_back k c t e Over q = refl
ran_back k c t e (Done v s) q = by (follows_start k k c t e v s q)
  where
    by : Held k k (ex k t top) e (start k c) v s → Done v s ≡ ran_of k c (Some (trace_of k c v s))
    by h =
        let fewer : s.left ≤ c = h.fewer in
        let tighter : s.slack ≤ k = h.tighter in
        let left : s.left ≡ c - (c - s.left) = omega (arith, fewer) in
        let slack : s.slack ≡ k - (k - s.slack) = omega (arith, tighter) in
        ap (λ i. Done v (record { own = s.own; looks = s.looks; left = i; slack = s.slack })) left
        ∙ ap (λ i. Done v (record { own = s.own; looks = s.looks; left = c - (c - s.left); slack = i })) slack

-- a tree alone
pub alone_ran : (k c : ℕ) (t : TaggedTree) (e : Before) →
    ex k t top e (start k c) ≡ ran_of k c (evaluated_in k c t e)
unfolding evaluated_in
alone_ran k c t e = ran_back k c t e (ex k t top e (start k c)) refl

-- ---- in any state

ran_is : (k : ℕ) (s : State) (o : Option WideTrace) →
    ran_added (value_under []) s.own s.looks s.slack (ran_of k s.left o) ≡ part_ran k [] s o
ran_is k s None = refl
ran_is k s (Some trace) = refl

-- A tree in layers, where its traces are these.
pub layers_part : (k : ℕ) (ls : List Layer) (i : ℕ) (t : WideTree) (trace : ℕ → Before → Option WideTrace) →
    ((c : ℕ) (e : Before) → in_layers k ls (record { tree = t; at = Some (i ∷ []) }) top e (start k c) ≡
    ran_of k c (trace c e)) → (e : Before) (s : State) → s.slack ≤ k →
    in_layers k ls (record { tree = t; at = Some (i ∷ []) }) top e s ≡
    part_ran k [] s (trace s.left (env_atop s.own e))
layers_part k ls i t trace h e s low =
    ap (in_layers k ls (record { tree = t; at = Some (i ∷ []) }) top e) (sym (begun k s low))
    ∙ sym ((layers_shift s.own s.looks s.slack [] k ls (record { tree = t; at = Some (i ∷ []) }) top).runs e
    (start k s.left))
    ∙ ap (ran_added (value_under []) s.own s.looks s.slack) (h s.left (env_atop s.own e))
    ∙ ran_is k s (trace s.left (env_atop s.own e))
