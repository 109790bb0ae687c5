-- A `document` evaluates to what its children evaluate to, each after those before it.
use Rattle.std.proofs.Common.{◌≡◌, ℕ, suc, ◌+◌, ◌-◌, ◌≤◌, min, max, List, [], ◌∷◌, ◌++◌, ap, subst, refl, ◌∙◌}
use Rattle.std.proofs.Common.{arith}
use Rattle.std.specs.Prelude.{Bool, true, false, nat_le, if◌then◌else◌, Option, Some, None, option_and_then, codes}
use Rattle.std.specs.Option.{option_map}
use Rattle.std.proofs.lemmas.Grind.{common_steps}
use Rattle.tx_tree.specs.WideTree.{WideTree, Forest, node, nil, cons, trees}
use Rattle.tx_origin.specs.Values.{WideValue, made, vals}
use Rattle.tx_origin.specs.TaggedTrees.{TaggedTree, kids_from}
use Rattle.tx_exec_form.specs.Runs.{Before, State, Ran, Over, Done, on_done, give}
use Rattle.tx_exec_form.specs.Frames.{top}
use Rattle.tx_exec_form.specs.Words.{row_of}
use Rattle.tx_exec_form.specs.Rows.{ex, row, each, rebuilt}
use Rattle.tx_exec_form.specs.declared.rows.Row.TheVariants as rows
use Rattle.tx_exec_form.specs.Evaluated.{WideTrace, traced, evaluated_in}
use Rattle.tx_exec_form.proofs.Tracing.{allowed}
use Rattle.tx_parts.specs.Atop.{atop, env_atop, both_looks}
use Rattle.tx_origin.specs.Under.{value_under}
use Rattle.tx_parts.specs.Adding.{after_part, part_ran}
use Rattle.tx_parts.specs.Shells.{bare}
use Rattle.tx_parts.specs.Composed.{Tracer, alone, evaluates, SoFar, nothing_yet, with_child, children_from}
use Rattle.tx_parts.specs.Composed.{document_trace}
use Rattle.tx_parts.specs.Layered.{evaluates_bare}
use Rattle.tx_parts.proofs.PartRuns.{part_is}
use Rattle.tx_parts.proofs.Running.{fresh, row_alone, node_start}

-- ---- how much children take

-- c steps and k levels are enough
abbrev pub IsWithin : ℕ → ℕ → SoFar → Type 0
IsWithin k c a = (a.cost ≤ c) × (a.height ≤ k)

pub tagged_within : (k c i : ℕ) (a : SoFar) (t : TaggedTree) (e : Before) (trace : WideTrace) → IsWithin k c a →
    evaluated_in k (c - a.cost) t e ≡ Some trace → IsWithin k c (with_child i a trace)
tagged_within k c i a t e trace h q =
    let bounds : (trace.cost ≤ c - a.cost) × (trace.height ≤ k) = allowed k (c - a.cost) t e trace q in
    (omega (arith, h.0, bounds.0), omega (arith, h.1, bounds.1))

pub child_within : (k c i : ℕ) (a : SoFar) (t : WideTree) (e : Before) (trace : WideTrace) → IsWithin k c a →
    evaluates k (c - a.cost) t e ≡ Some trace → IsWithin k c (with_child i a trace)
child_within k c i a t e trace h q = tagged_within k c i a (alone t) e trace h q

-- the first of several children is done, and then the others
pub record FirstDone (tracer : Tracer) (c i : ℕ) (a : SoFar) (t : WideTree) (ts : List WideTree) (e : Before)
    (b : SoFar) : Type 0 where
  pub trace : WideTrace
  pub first : tracer (c - a.cost) t (env_atop a.writes e) ≡ Some trace
  pub others : children_from tracer c (i + 1) (with_child i a trace) ts e ≡ Some b

pub first_done : (tracer : Tracer) (c i : ℕ) (a : SoFar) (t : WideTree) (ts : List WideTree) (e : Before) (b : SoFar) →
    children_from tracer c i a (t ∷ ts) e ≡ Some b → FirstDone tracer c i a t ts e b
first_done tracer c i a t ts e b h = by (tracer (c - a.cost) t (env_atop a.writes e)) refl h
  where
    by : (o : Option WideTrace) → tracer (c - a.cost) t (env_atop a.writes e) ≡ o →
        option_and_then (λ trace. children_from tracer c (i + 1) (with_child i a trace) ts e) o ≡ Some b →
        FirstDone tracer c i a t ts e b
    by None q g = cc
    by (Some trace) q g = record { trace = trace; first = q; others = g }

-- k levels and the steps are enough for each trace
abbrev pub IsBounded : ℕ → Tracer → Type 0
IsBounded k tracer = (c : ℕ) (t : WideTree) (e : Before) (trace : WideTrace) → tracer c t e ≡ Some trace →
    (trace.cost ≤ c) × (trace.height ≤ k)

pub evaluates_bounded : (k : ℕ) → IsBounded k (evaluates k)
evaluates_bounded k c t e trace h = allowed k c (alone t) e trace h

pub bare_bounded : (k : ℕ) → IsBounded k (evaluates_bare k)
bare_bounded k c t e trace h = allowed k c (bare t) e trace h

pub children_within : (k : ℕ) (tracer : Tracer) → IsBounded k tracer → (c i : ℕ) (a : SoFar) (ts : List WideTree)
    (e : Before) (b : SoFar) → IsWithin k c a → children_from tracer c i a ts e ≡ Some b → IsWithin k c b
children_within k tracer bounds c i a [] e b h q = let same : a ≡ b = cc in subst (IsWithin k c) same h
children_within k tracer bounds c i a (t ∷ ts) e b h q =
    by (first_done tracer c i a t ts e b q) (λ a' g p. children_within k tracer bounds c (i + 1) a' ts e b g p)
  where
    by : FirstDone tracer c i a t ts e b → ((a' : SoFar) → IsWithin k c a' →
        children_from tracer c (i + 1) a' ts e ≡ Some b → IsWithin k c b) → IsWithin k c b
    by f go =
        let most : (f.trace.cost ≤ c - a.cost) × (f.trace.height ≤ k) =
        bounds (c - a.cost) t (env_atop a.writes e) f.trace f.first in
        go (with_child i a f.trace) (omega (arith, h.0, most.0), omega (arith, h.1, most.1)) f.others

-- ---- the run of the children

-- the state after children with these traces, which had k levels and c steps
abbrev pub state_behind : ℕ → ℕ → SoFar → State
state_behind k c a = record { own = a.writes; looks = a.looks; left = c - a.cost; slack = k - a.height }

abbrev pub children_ran : ℕ → ℕ → Option SoFar → Ran (List WideValue)
children_ran k c None = Over
children_ran k c (Some b) = Done b.values (state_behind k c b)

pub one_more : (k c i : ℕ) (a : SoFar) (trace : WideTrace) → IsWithin k c a → IsWithin k c (with_child i a trace) →
    after_part k (state_behind k c a) trace ≡ state_behind k c (with_child i a trace)
one_more k c i a trace h g =
    let left : (c - a.cost) - trace.cost ≡ c - (a.cost + trace.cost) = omega arith in
    let slack : min (k - a.height) (k - trace.height) ≡ k - max a.height trace.height = omega arith in
    ap (λ n. record {
      own = atop trace.writes a.writes;
      looks = both_looks a.looks a.writes trace.looks;
      left = n;
      slack = min (k - a.height) (k - trace.height);
    }) left ∙ ap (λ n. record {
      own = atop trace.writes a.writes;
      looks = both_looks a.looks a.writes trace.looks;
      left = c - (a.cost + trace.cost);
      slack = n;
    }) slack

pub each_is : (k c i : ℕ) (a : SoFar) (ts : Forest) (e : Before) → IsWithin k c a →
    each (ex k) top a.values (kids_from (Some []) i ts) e (state_behind k c a) ≡
    children_ran k c (children_from (evaluates k) c i a (trees ts) e)
each_is k c i a nil e h = refl
each_is k c i a (cons t ts) e h =
    ap (on_done e (λ v. each (ex k) top (a.values ++ v ∷ []) (kids_from (Some []) (i + 1) ts)))
    (part_is k (i ∷ []) (alone t) e (state_behind k c a) (omega arith))
    ∙ by (evaluates k (c - a.cost) t (env_atop a.writes e)) refl (λ a' g. each_is k c (i + 1) a' ts e g)
  where
    by : (o : Option WideTrace) → evaluates k (c - a.cost) t (env_atop a.writes e) ≡ o →
        ((a' : SoFar) → IsWithin k c a' →
        each (ex k) top a'.values (kids_from (Some []) (i + 1) ts) e (state_behind k c a') ≡
        children_ran k c (children_from (evaluates k) c (i + 1) a' (trees ts) e)) →
        on_done e (λ v. each (ex k) top (a.values ++ v ∷ []) (kids_from (Some []) (i + 1) ts))
        (part_ran k (i ∷ []) (state_behind k c a) o) ≡
        children_ran k c (option_and_then
        (λ trace. children_from (evaluates k) c (i + 1) (with_child i a trace) (trees ts) e) o)
    by None q go = refl
    by (Some trace) q go =
        let within : IsWithin k c (with_child i a trace) =
        child_within k c i a t (env_atop a.writes e) trace h q in
        ap (each (ex k) top (a.values ++ value_under (i ∷ []) trace.value ∷ []) (kids_from (Some []) (i + 1) ts) e)
        (one_more k c i a trace h within)
        ∙ go (with_child i a trace) within

-- ---- the node

-- its trace, where one step is paid
document_traced : (k c : ℕ) (o : Option SoFar) → 1 ≤ c → ((b : SoFar) → o ≡ Some b → IsWithin k (c - 1) b) →
    (e : Before) → traced (suc k) c (on_done e (λ vs. give (made (codes "document") (vals vs) (Some [])))
    (children_ran k (c - 1) o)) ≡ option_map document_trace o
document_traced k c None one h e = refl
document_traced k c (Some b) one h e =
    let within : IsWithin k (c - 1) b = h b refl in
    let cost : c - ((c - 1) - b.cost) ≡ 1 + b.cost = omega (arith, one, within.0) in
    let height : suc k - (k - b.height) ≡ 1 + b.height = omega (arith, within.1) in
    ap (λ n. Some (record {
      value = made (codes "document") (vals b.values) (Some []);
      looks = b.looks;
      writes = b.writes;
      cost = n;
      height = suc k - (k - b.height);
    })) cost ∙ ap (λ n. Some (record {
      value = made (codes "document") (vals b.values) (Some []);
      looks = b.looks;
      writes = b.writes;
      cost = 1 + b.cost;
      height = n;
    })) height

document_row : row_of (codes "document") ≡ rows.Same
document_row = refl

-- nothing is done yet
pub at_first : (k c : ℕ) → fresh c k ≡ state_behind k c nothing_yet
at_first k c =
    let left : c ≡ c - 0 = omega arith in
    let slack : k ≡ k - 0 = omega arith in
    ap (λ n. fresh n k) left ∙ ap (fresh (c - 0)) slack

pub document_is : (k c : ℕ) (ts : Forest) (e : Before) →
    evaluates (suc k) c (node (codes "document") ts) e ≡
    (if nat_le 1 c then option_map document_trace (children_from (evaluates k) (c - 1) 0 nothing_yet (trees ts) e)
    else None)
unfolding evaluated_in row rebuilt
document_is k c ts e =
    ap (traced (suc k) c) (node_start k c (codes "document") ts e) ∙ by (nat_le 1 c) refl
  where
    by : (b : Bool) → b ≡ nat_le 1 c →
        traced (suc k) c (if b then row_alone k c (codes "document") ts e e (fresh (c - 1) k) else Over) ≡
        (if b then option_map document_trace (children_from (evaluates k) (c - 1) 0 nothing_yet (trees ts) e) else None)
    by false q = refl
    by true q =
        let one : 1 ≤ c = grind (arith, common_steps, q) in
        ap (λ s. traced (suc k) c (on_done e (λ vs. give (made (codes "document") (vals vs) (Some [])))
        (each (ex k) top [] (kids_from (Some []) 0 ts) e s))) (at_first k (c - 1))
        ∙ ap (λ r. traced (suc k) c (on_done e (λ vs. give (made (codes "document") (vals vs) (Some []))) r))
        (each_is k (c - 1) 0 nothing_yet ts e (omega arith, omega arith))
        ∙ document_traced k c (children_from (evaluates k) (c - 1) 0 nothing_yet (trees ts) e) one
        (λ b g. children_within k (evaluates k) (evaluates_bounded k) (c - 1) 0 nothing_yet (trees ts) e b
        (omega arith, omega arith) g) e
