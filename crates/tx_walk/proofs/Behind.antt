-- What names have after a part, and what a tree evaluates to at an origin of its own.
use Rattle.std.proofs.Common.{◌≡◌, ℕ, ◌+◌, List, ap, sym, ◌∙◌}
use Rattle.std.specs.Prelude.{Option, Some, None}
use Rattle.std.specs.List.{IsDistinct}
use Rattle.std.specs.Map.{keys_of}
use Rattle.std.specs.Str.{bytes_eq}
use Rattle.std.specs.FinMap.{get, from_entries}
use Rattle.tx_tree.specs.WideTree.{WideTree}
use Rattle.tx_env.specs.Pairs.{Name}
use Rattle.tx_env.specs.Environments.{NameMap, overlaid}
use Rattle.tx_exec_form.specs.Evaluated.{WideTrace, paid}
use Rattle.tx_exec.specs.declared.outcome.Trace.{Trace}
use Rattle.tx_exec.specs.declared.outcome.Outcome.{Outcome}
use Rattle.tx_exec.specs.declared.outcome.Outcome.TheVariants.{Over, Done}
use Rattle.tx_exec.specs.Outcomes.{wide_trace, wide_outcome}
use Rattle.tx_parts.specs.Atop.{env_atop}
use Rattle.tx_parts.proofs.Pairing.{overlaid_is}

pub set_behind : (before after : NameMap) (pairs ws vs : List (Name × WideTree)) → after ≡ overlaid before pairs →
    pairs ≡ ws → vs ≡ ws → IsDistinct bytes_eq (keys_of ws) → get after ≡ env_atop (from_entries vs) (get before)
set_behind before after pairs ws vs h is_ws is_vs once =
    ap get h ∙ ap (λ us. get (overlaid before us)) is_ws ∙ overlaid_is before ws once
    ∙ ap (λ us. env_atop (from_entries us) (get before)) (sym is_vs)

pub comes_over : (o : Outcome) (r : Option WideTrace) → wide_outcome o ≡ r → o ≡ Over → r ≡ None
comes_over o r h is = sym h ∙ ap wide_outcome is

pub comes_done : (o : Outcome) (trace : Trace) (r : Option WideTrace) → wide_outcome o ≡ r → o ≡ Done trace →
    r ≡ Some (wide_trace trace)
comes_done o trace r h is = sym h ∙ ap wide_outcome is

pub counted_done : (o : Outcome) (trace : Trace) (before after c : ℕ) → after ≡ before + paid c (wide_outcome o) →
    o ≡ Done trace → after ≡ before + (wide_trace trace).cost
counted_done o trace before after c h is = h ∙ ap (λ x. before + paid c (wide_outcome x)) is

pub counted_over : (o : Outcome) (before after c : ℕ) → after ≡ before + paid c (wide_outcome o) → o ≡ Over →
    after ≡ before + c
counted_over o before after c h is = h ∙ ap (λ x. before + paid c (wide_outcome x)) is
