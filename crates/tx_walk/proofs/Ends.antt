-- The trace that is made of what children evaluated to.
use Rattle.std.proofs.Common.{◌≡◌, ℕ, ◌+◌, max, List, [], ◌∷◌, ◌++◌, ap, ◌∙◌}
use Rattle.std.specs.Prelude.{Some, None, codes}
use Rattle.std.specs.List.{IsDistinct}
use Rattle.std.specs.Map.{keys_of}
use Rattle.std.specs.Str.{bytes_eq}
use Rattle.std.specs.FinMap.{empty, from_entries}
use Rattle.tx_tree.specs.WideTree.{WideTree}
use Rattle.tx_env.specs.Pairs.{Name, Pairs}
use Rattle.tx_env.specs.Changes.{map_of}
use Rattle.tx_origin.specs.Values.{WideValue, made, vals}
use Rattle.tx_exec.specs.States.{set_pairs}
use Rattle.tx_exec.proofs.Ending.{trace_is}
use Rattle.tx_walk.specs.declared.joined.Joined.{Joined}
use Rattle.tx_env.specs.Environments.{NameMap, overlaid}
use Rattle.tx_exec.specs.declared.outcome.Trace.{Trace}
use Rattle.tx_exec_form.specs.Evaluated.{WideTrace}
use Rattle.tx_exec.specs.Outcomes.{wide_trace}
use Rattle.tx_parts.specs.Atop.{atop, past, both_looks}
use Rattle.tx_parts.proofs.Restoring.{past_none}
use Rattle.tx_walk.specs.Steps.{so_far_of, document_at}
use Rattle.tx_walk.specs.Outside.{outside}
use Rattle.tx_walk.specs.Scopes.{with_at}
use Rattle.tx_walk.specs.Shelled.{look_before, layer_by}
use Rattle.tx_walk.proofs.Elsewhere.{outside_is}

pub document_traced : (base : List ℕ) (j : Joined) (v : WideValue) (looks : Pairs) (writes : List (Name × WideTree)) →
    v ≡ made (codes "document") (vals j.values.items) (Some base) → looks ≡ j.looks → writes ≡ set_pairs j.writes →
    IsDistinct bytes_eq (keys_of j.writes) →
    record {
      value = v;
      looks = from_entries looks;
      writes = from_entries writes;
      cost = 1 + j.cost;
      height = 1 + j.height;
    } ≡ document_at base (so_far_of j)
document_traced base j v looks writes is_v is_looks is_writes once =
    trace_is v j.writes j.looks looks writes (1 + j.cost) (1 + j.height) is_looks is_writes once
    ∙ ap (λ u. record {
      value = u;
      looks = from_entries j.looks;
      writes = map_of j.writes;
      cost = 1 + j.cost;
      height = 1 + j.height;
    }) is_v

-- the trace of a `with`
pub with_traced : (base : List ℕ) (pairs : List (Name × WideTree)) (values : List WideValue) (n : ℕ) (trace : Trace)
    (v : WideValue) (looks : Pairs) (writes : List (Name × WideTree)) →
    v ≡ made (codes "with") (vals (values ++ trace.value ∷ [])) (Some base) → looks ≡ outside pairs trace.looks →
    writes ≡ outside pairs trace.writes →
    record {
      value = v;
      looks = from_entries looks;
      writes = from_entries writes;
      cost = 1 + n + trace.cost;
      height = 1 + trace.height;
    } ≡ with_at base (overlaid empty pairs) values n (wide_trace trace)
with_traced base pairs values n trace v looks writes is_v is_looks is_writes =
    ap (λ u. record {
      value = u;
      looks = from_entries looks;
      writes = from_entries writes;
      cost = 1 + n + trace.cost;
      height = 1 + trace.height;
    }) is_v
    ∙ ap (λ u. record {
      value = made (codes "with") (vals (values ++ trace.value ∷ [])) (Some base);
      looks = u;
      writes = from_entries writes;
      cost = 1 + n + trace.cost;
      height = 1 + trace.height;
    }) (ap from_entries is_looks ∙ outside_is pairs trace.looks)
    ∙ ap (λ u. record {
      value = made (codes "with") (vals (values ++ trace.value ∷ [])) (Some base);
      looks = past (overlaid empty pairs) (from_entries trace.looks);
      writes = u;
      cost = 1 + n + trace.cost;
      height = 1 + trace.height;
    }) (ap from_entries is_writes ∙ outside_is pairs trace.writes)

-- the trace of a tag, with the look at its label before it
pub tag_traced : (trace : Trace) (before own mid looks : Pairs) → own ≡ [] →
    from_entries mid ≡ both_looks (from_entries before) (map_of own) (from_entries trace.looks) → looks ≡ mid →
    record {
      value = trace.value;
      looks = from_entries looks;
      writes = from_entries trace.writes;
      cost = 1 + trace.cost;
      height = 1 + trace.height;
    } ≡ look_before (from_entries before) (wide_trace trace)
tag_traced trace before own mid looks is_own joined is_looks =
    ap (λ m. record {
      value = trace.value;
      looks = m;
      writes = from_entries trace.writes;
      cost = 1 + trace.cost;
      height = 1 + trace.height;
    }) (ap from_entries is_looks ∙ joined
    ∙ ap (λ o. both_looks (from_entries before) (map_of o) (from_entries trace.looks)) is_own
    ∙ ap (atop (from_entries before)) (past_none (from_entries trace.looks)))

-- the trace of a layer, of what was joined
pub layer_traced : (own : NameMap) (j mid : Joined) (n : ℕ) (trace : Trace) (w : WideTrace) (m : ℕ) →
    mid.values ≡ j.values → m ≡ max j.height trace.height →
    from_entries mid.looks ≡ both_looks (from_entries j.looks) (map_of j.writes)
    (past own (from_entries trace.looks)) →
    map_of mid.writes ≡ atop (past own (from_entries trace.writes)) (map_of j.writes) →
    w ≡ record {
      value = made (codes "with") (vals (mid.values.items ++ trace.value ∷ [])) None;
      looks = from_entries mid.looks;
      writes = map_of mid.writes;
      cost = n + trace.cost;
      height = 1 + m;
    } → w ≡ layer_by own (so_far_of j) n (wide_trace trace)
layer_traced own j mid n trace w m is_values is_m is_looks is_writes is =
    is ∙ ap (λ vs. record {
      value = made (codes "with") (vals (vs.items ++ trace.value ∷ [])) None;
      looks = from_entries mid.looks;
      writes = map_of mid.writes;
      cost = n + trace.cost;
      height = 1 + m;
    }) is_values
    ∙ ap (λ u. record {
      value = made (codes "with") (vals (j.values.items ++ trace.value ∷ [])) None;
      looks = u;
      writes = map_of mid.writes;
      cost = n + trace.cost;
      height = 1 + m;
    }) is_looks
    ∙ ap (λ u. record {
      value = made (codes "with") (vals (j.values.items ++ trace.value ∷ [])) None;
      looks = both_looks (from_entries j.looks) (map_of j.writes) (past own (from_entries trace.looks));
      writes = u;
      cost = n + trace.cost;
      height = 1 + m;
    }) is_writes
    ∙ ap (λ u. record {
      value = made (codes "with") (vals (j.values.items ++ trace.value ∷ [])) None;
      looks = both_looks (from_entries j.looks) (map_of j.writes) (past own (from_entries trace.looks));
      writes = atop (past own (from_entries trace.writes)) (map_of j.writes);
      cost = n + trace.cost;
      height = 1 + u;
    }) is_m
