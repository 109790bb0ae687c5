-- States of an evaluation after several parts.
use Rattle.std.proofs.Common.{◌≡◌, ℕ, ◌+◌, ◌-◌, min, max, refl, ap, sym, ◌∙◌, arith}
use Rattle.std.specs.Prelude.{Option, Some, None}
use Rattle.std.specs.Option.{option_or}
use Rattle.std.specs.FinMap.{get}
use Rattle.tx_tree.specs.WideTree.{WideTree}
use Rattle.tx_env.specs.Environments.{NameMap}
use Rattle.tx_exec_form.specs.Maps.{LookMap}
use Rattle.tx_exec_form.specs.Runs.{State}
use Rattle.tx_exec_form.specs.Evaluated.{WideTrace}
use Rattle.tx_exec_form.proofs.Agreeing.{same}
use Rattle.tx_parts.specs.Atop.{atop, both_looks}
use Rattle.tx_parts.specs.Adding.{after_part}
use Rattle.tx_parts.specs.Composed.{SoFar, with_child}
use Rattle.tx_parts.proofs.Maps.{unless, get_atop, get_both}

or_joined : (a b c : Option WideTree) → option_or a (option_or b c) ≡ option_or (option_or a b) c
or_joined (Some t) b c = refl
or_joined None b c = refl

pub atop_joined : (w a o : NameMap) → atop w (atop a o) ≡ atop (atop w a) o
atop_joined w a o = same (atop w (atop a o)) (atop (atop w a) o) (λ q.
    get_atop w (atop a o) q ∙ ap (option_or (get w q)) (get_atop a o q)
    ∙ or_joined (get w q) (get a q) (get o q)
    ∙ sym (get_atop (atop w a) o q ∙ ap (λ x. option_or x (get o q)) (get_atop w a q)))

looks_at : (l a t : Option (Option WideTree)) (o w : Option WideTree) →
    option_or (option_or l (unless o a)) (unless (option_or w o) t) ≡
    option_or l (unless o (option_or a (unless w t)))
looks_at (Some x) a t o w = refl
looks_at None a t (Some u) (Some v) = refl
looks_at None a t (Some u) None = refl
looks_at None (Some x) t None w = refl
looks_at None None t None (Some v) = refl
looks_at None None t None None = refl

pub looks_joined : (l a t : LookMap) (o w : NameMap) →
    both_looks (both_looks l o a) (atop w o) t ≡ both_looks l o (both_looks a w t)
looks_joined l a t o w =
    same (both_looks (both_looks l o a) (atop w o) t) (both_looks l o (both_looks a w t)) (λ q.
    get_both (both_looks l o a) (atop w o) t q
    ∙ ap (λ x. option_or x (unless (get (atop w o) q) (get t q))) (get_both l o a q)
    ∙ ap (λ x. option_or (option_or (get l q) (unless (get o q) (get a q))) (unless x (get t q))) (get_atop w o q)
    ∙ looks_at (get l q) (get a q) (get t q) (get o q) (get w q)
    ∙ sym (get_both l o (both_looks a w t) q
    ∙ ap (λ x. option_or (get l q) (unless (get o q) x)) (get_both a w t q)))

-- the state after children with these traces, each with k levels
abbrev pub behind : ℕ → State → SoFar → State
behind k s a = record {
  own = atop a.writes s.own;
  looks = both_looks s.looks s.own a.looks;
  left = s.left - a.cost;
  slack = min s.slack (k - a.height);
}

pub one_behind : (k i : ℕ) (s : State) (a : SoFar) (trace : WideTrace) →
    after_part k (behind k s a) trace ≡ behind k s (with_child i a trace)
one_behind k i s a trace =
    let left : (s.left - a.cost) - trace.cost ≡ s.left - (a.cost + trace.cost) = omega arith in
    let slack : min (min s.slack (k - a.height)) (k - trace.height) ≡ min s.slack (k - max a.height trace.height) =
    omega arith in
    ap (λ m. record {
      own = m;
      looks = both_looks (both_looks s.looks s.own a.looks) (atop a.writes s.own) trace.looks;
      left = (s.left - a.cost) - trace.cost;
      slack = min (min s.slack (k - a.height)) (k - trace.height);
    }) (atop_joined trace.writes a.writes s.own)
    ∙ ap (λ m. record {
      own = atop (atop trace.writes a.writes) s.own;
      looks = m;
      left = (s.left - a.cost) - trace.cost;
      slack = min (min s.slack (k - a.height)) (k - trace.height);
    }) (looks_joined s.looks a.looks trace.looks s.own a.writes)
    ∙ ap (λ n. record {
      own = atop (atop trace.writes a.writes) s.own;
      looks = both_looks s.looks s.own (both_looks a.looks a.writes trace.looks);
      left = n;
      slack = min (min s.slack (k - a.height)) (k - trace.height);
    }) left
    ∙ ap (λ n. record {
      own = atop (atop trace.writes a.writes) s.own;
      looks = both_looks s.looks s.own (both_looks a.looks a.writes trace.looks);
      left = s.left - (a.cost + trace.cost);
      slack = n;
    }) slack
