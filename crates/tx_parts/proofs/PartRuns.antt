-- A part does in the whole what its trace says.
use Rattle.std.proofs.Common.{◌≡◌, ℕ, ◌-◌, ◌<◌, ◌≤◌, min, ◌⊎◌, List, ap, refl, sym, ◌∙◌, arith}
use mathlib.Core.Path.{fun_ext}
use Rattle.std.specs.Prelude.{Option, Some, None}
use Rattle.std.specs.Option.{option_or}
use Rattle.std.specs.FinMap.{get, empty}
use Rattle.tx_tree.specs.WideTree.{WideTree}
use Rattle.tx_env.specs.Environments.{NameMap}
use Rattle.tx_origin.specs.Values.{WideValue}
use Rattle.tx_origin.specs.TaggedTrees.{TaggedTree}
use Rattle.tx_exec_form.specs.Maps.{LookMap}
use Rattle.tx_exec_form.specs.Runs.{Before, State, Ran, Over, Done}
use Rattle.tx_exec_form.specs.Frames.{Frame, top}
use Rattle.tx_exec_form.specs.Rows.{ex}
use Rattle.tx_exec_form.specs.Evaluated.{WideTrace, start, trace_of, traced, evaluated_in}
use Rattle.tx_exec_form.specs.Laws.{Agrees, Supports}
use Rattle.tx_exec_form.specs.Framed.{framed, SupportsFramed}
use Rattle.tx_exec_form.proofs.Follows.{ex_follows}
use Rattle.tx_exec_form.proofs.Again.{left_fits}
use Rattle.tx_exec_form.proofs.Framing.{over as framed_over}
use Rattle.tx_parts.specs.Atop.{atop, env_atop, both_looks}
use Rattle.tx_origin.specs.Under.{tree_under, value_under}
use Rattle.tx_parts.specs.Adding.{after_part, part_ran}
use Rattle.tx_parts.specs.InFrames.{frame_under}
use Rattle.tx_parts.proofs.Maps.{atop_nothing, looks_nothing, unless, get_atop, get_both}
use Rattle.tx_parts.proofs.Shifting.{added, ran_added, ex_shifts}

-- the state of the whole is where a part begins, seen in the whole
pub begun : (k : ℕ) (s : State) → s.slack ≤ k → added s.own s.looks s.slack (start k s.left) ≡ s
begun k s low =
    let level : min s.slack k ≡ s.slack = omega (arith, low) in
    ap (λ m. record { own = m; looks = both_looks s.looks s.own empty; left = s.left; slack = min s.slack k })
    (atop_nothing s.own)
    ∙ ap (λ m. record { own = s.own; looks = m; left = s.left; slack = min s.slack k }) (looks_nothing s.looks s.own)
    ∙ ap (λ i. record { own = s.own; looks = s.looks; left = s.left; slack = i }) level

-- ---- in any frame

-- after the part, by its trace
ended : (f : Frame) (k : ℕ) (path : List ℕ) (s : State) (t : TaggedTree) (e : Before) (r : Ran WideValue) →
    ex k t f e (start k s.left) ≡ r →
    ran_added (value_under path) s.own s.looks s.slack r ≡ part_ran k path s (traced k s.left r)
ended f k path s t e Over q = refl
ended f k path s t e (Done v z) q =
    by (left_fits (λ k. ex k t f) (λ k k'. ex_follows k k' t f) k s.left e v z q)
  where
    by : (z.left ≤ s.left) × (z.slack ≤ k) →
        Done (value_under path v) (added s.own s.looks s.slack z) ≡
        Done (value_under path v) (after_part k s (trace_of k s.left v z))
    by h =
        let left : z.left ≡ s.left - (s.left - z.left) = omega (arith, h.0) in
        let slack : min s.slack z.slack ≡ min s.slack (k - (k - z.slack)) = omega (arith, h.1) in
        ap (λ i. Done (value_under path v)
        (record {
          own = atop z.own s.own;
          looks = both_looks s.looks s.own z.looks;
          left = i;
          slack = min s.slack z.slack;
        }))
        left
        ∙ ap (λ i. Done (value_under path v) (record {
          own = atop z.own s.own;
          looks = both_looks s.looks s.own z.looks;
          left = s.left - (s.left - z.left);
          slack = i;
        })) slack

pub framed_is : (f : Frame) (k : ℕ) (path : List ℕ) (t : TaggedTree) (e : Before) (s : State) → s.slack ≤ k →
    ex k (tree_under path t) (frame_under path f) e s ≡
    part_ran k path s (framed f k s.left t (env_atop s.own e))
unfolding framed
framed_is f k path t e s low =
    ap (ex k (tree_under path t) (frame_under path f) e) (sym (begun k s low))
    ∙ sym ((ex_shifts s.own s.looks s.slack path k t f).runs e (start k s.left))
    ∙ ended f k path s t (env_atop s.own e) (ex k t f (env_atop s.own e) (start k s.left)) refl

pub framed_kept_is : (f : Frame) (trace : WideTrace) (k : ℕ) (path : List ℕ) (t : TaggedTree) (e : Before)
    (s : State) → s.slack ≤ k → SupportsFramed f trace t → Agrees (env_atop s.own e) trace.looks →
    trace.cost ≤ s.left → trace.height ≤ k →
    ex k (tree_under path t) (frame_under path f) e s ≡ Done (value_under path trace.value) (after_part k s trace)
framed_kept_is f trace k path t e s low h agrees cheap high =
    framed_is f k path t e s low ∙ ap (part_ran k path s) (h k s.left (env_atop s.own e) agrees cheap high)

pub framed_too_dear_is : (f : Frame) (trace : WideTrace) (k : ℕ) (path : List ℕ) (t : TaggedTree) (e : Before)
    (s : State) → s.slack ≤ k → SupportsFramed f trace t → Agrees (env_atop s.own e) trace.looks →
    (s.left < trace.cost) ⊎ (k < trace.height) → ex k (tree_under path t) (frame_under path f) e s ≡ Over
framed_too_dear_is f trace k path t e s low h agrees few =
    framed_is f k path t e s low
    ∙ ap (part_ran k path s) (framed_over f trace k s.left t (env_atop s.own e) h agrees few)

-- ---- without a frame

pub part_is : (k : ℕ) (path : List ℕ) (t : TaggedTree) (e : Before) (s : State) → s.slack ≤ k →
    ex k (tree_under path t) top e s ≡ part_ran k path s (evaluated_in k s.left t (env_atop s.own e))
unfolding evaluated_in framed
part_is k path t e s low = framed_is top k path t e s low

pub kept_is : (trace : WideTrace) (k : ℕ) (path : List ℕ) (t : TaggedTree) (e : Before) (s : State) → s.slack ≤ k →
    Supports trace t → Agrees (env_atop s.own e) trace.looks → trace.cost ≤ s.left → trace.height ≤ k →
    ex k (tree_under path t) top e s ≡ Done (value_under path trace.value) (after_part k s trace)
unfolding evaluated_in framed
kept_is trace k path t e s low h agrees cheap high = framed_kept_is top trace k path t e s low h agrees cheap high

-- a trace that agrees and isn't allowed
pub none_allowed : (trace : WideTrace) (k c : ℕ) (t : TaggedTree) (e : Before) → Supports trace t →
    Agrees e trace.looks → (c < trace.cost) ⊎ (k < trace.height) → evaluated_in k c t e ≡ None
unfolding evaluated_in framed
none_allowed trace k c t e h agrees few = framed_over top trace k c t e h agrees few

pub too_dear_is : (trace : WideTrace) (k : ℕ) (path : List ℕ) (t : TaggedTree) (e : Before) (s : State) →
    s.slack ≤ k → Supports trace t → Agrees (env_atop s.own e) trace.looks →
    (s.left < trace.cost) ⊎ (k < trace.height) → ex k (tree_under path t) top e s ≡ Over
unfolding evaluated_in framed
too_dear_is trace k path t e s low h agrees few = framed_too_dear_is top trace k path t e s low h agrees few

-- ---- looks that agree

look_fits : (d e own : Option WideTree) (l : Option (Option WideTree)) (v : Option WideTree) →
    ((u : Option WideTree) → l ≡ Some u → e ≡ u) → option_or own e ≡ v →
    ((u : Option WideTree) → option_or l (unless own (Some v)) ≡ Some u → d ≡ u) → option_or own d ≡ v
look_fits d e (Some t) l v before here h = here
look_fits d e None None v before here h = h v refl
look_fits d e None (Some u) v before here h = h u refl ∙ sym (before u refl) ∙ here

-- where the looks of the whole agree with d, so do those of the part with what is set atop d
pub part_fits : (d e : Before) (own : NameMap) (looks more : LookMap) → Agrees e looks → Agrees (env_atop own e) more →
    Agrees d (both_looks looks own more) → Agrees (env_atop own d) more
part_fits d e own looks more before here h = λ x v m.
    look_fits (d x) (e x) (get own x) (get looks x) v (before x) (here x v m)
    (λ u g. h x u (get_both looks own more x ∙ ap (λ o. option_or (get looks x) (unless (get own x) o)) m ∙ g))

-- the looks of what was before the part agree with d too
pub before_fits : (d : Before) (own : NameMap) (looks more : LookMap) →
    Agrees d (both_looks looks own more) → Agrees d looks
before_fits d own looks more h = λ x v m.
    h x v (get_both looks own more x ∙ ap (λ o. option_or o (unless (get own x) (get more x))) m)

both_agree_at : (e own : Option WideTree) (l k : Option (Option WideTree)) (v : Option WideTree) →
    ((u : Option WideTree) → l ≡ Some u → e ≡ u) → ((u : Option WideTree) → k ≡ Some u → option_or own e ≡ u) →
    option_or l (unless own k) ≡ Some v → e ≡ v
both_agree_at e own (Some u) k v before here h = before v h
both_agree_at e (Some t) None k v before here h = cc
both_agree_at e None None k v before here h = here v h

-- where the looks of two evaluations in order agree, the looks of both together do
pub both_agree : (e : Before) (own : NameMap) (looks more : LookMap) → Agrees e looks → Agrees (env_atop own e) more →
    Agrees e (both_looks looks own more)
both_agree e own looks more before here = λ x v m.
    both_agree_at (e x) (get own x) (get looks x) (get more x) v (before x) (here x)
    (sym (get_both looks own more x) ∙ m)

-- ---- environments

or_twice : (b a e : Option WideTree) → option_or (option_or b a) e ≡ option_or b (option_or a e)
or_twice (Some t) a e = refl
or_twice None a e = refl

-- what two evaluations in order have set
pub atop_twice : (later earlier : NameMap) (e : Before) →
    env_atop (atop later earlier) e ≡ env_atop later (env_atop earlier e)
atop_twice later earlier e = fun_ext (λ x.
    ap (λ o. option_or o (e x)) (get_atop later earlier x) ∙ or_twice (get later x) (get earlier x) (e x))
