-- A walk from nothing comes to the tree's trace.
use Rattle.std.proofs.Common.{◌≡◌, ℕ, ◌+◌, ◌-◌, ◌≤◌, min, List, [], map, refl, ap, sym, ◌∙◌, arith}
use Rattle.std.specs.Prelude.{Option, Some, None}
use Rattle.std.specs.FinMap.{empty}
use Rattle.tx_tree.specs.WideTree.{WideTree}
use Rattle.tx_origin.specs.Values.{WideValue}
use Rattle.tx_origin.specs.Under.{value_under}
use Rattle.tx_origin.proofs.Under.{under_none}
use Rattle.tx_exec_form.specs.Runs.{Before, State}
use Rattle.tx_exec_form.specs.Evaluated.{WideTrace, start, trace_of}
use Rattle.tx_exec_form.proofs.Tracing.{allowed}
use Rattle.tx_parts.specs.Atop.{atop, both_looks}
use Rattle.tx_parts.specs.Adding.{after_part}
use Rattle.tx_parts.specs.Opening.{no_shells}
use Rattle.tx_parts.specs.Composed.{alone, evaluates}
use Rattle.tx_parts.specs.Parts.{parts, parts_by}
use Rattle.tx_parts.specs.LayerCosts.{holds_nothing, layer_costs_by}
use Rattle.tx_parts.proofs.Costing.{closed_costs}
use Rattle.tx_parts.proofs.Restoring.{atop_none, past_none, atop_empty, first_looks}
use Rattle.tx_parts.proofs.Opened.{closed_is}
use Rattle.tx_replay.specs.Held.{Stores, charges}
use Rattle.tx_replay.specs.Seen.{Seen, seen_in, charged}
use Rattle.tx_replay.specs.Walks.{Stage, Walked, Stopped, Went, told, walk}
use Rattle.tx_replay.proofs.Levels.{shut_guide}
use Rattle.tx_replay.proofs.Told.{both_tell}

-- from the start, its trace
from_start : (c : ℕ) (trace : WideTrace) → trace.cost ≤ c → trace.height ≤ 400 →
    trace_of 400 c (value_under [] trace.value) (after_part 400 (start 400 c) trace) ≡ trace
from_start c trace cheap low =
    let cost : c - (c - trace.cost) ≡ trace.cost = omega (arith, cheap) in
    let height : 400 - min 400 (400 - trace.height) ≡ trace.height = omega (arith, low) in
    ap (λ v. record {
      value = v;
      looks = both_looks empty empty trace.looks;
      writes = atop trace.writes empty;
      cost = c - (c - trace.cost);
      height = 400 - min 400 (400 - trace.height);
    }) (under_none trace.value)
    ∙ ap (λ m. record {
      value = trace.value;
      looks = m;
      writes = atop trace.writes empty;
      cost = c - (c - trace.cost);
      height = 400 - min 400 (400 - trace.height);
    }) (first_looks empty trace.looks ∙ past_none trace.looks)
    ∙ ap (λ m. record {
      value = trace.value;
      looks = trace.looks;
      writes = m;
      cost = c - (c - trace.cost);
      height = 400 - min 400 (400 - trace.height);
    }) (atop_none trace.writes)
    ∙ ap (λ n. record {
      value = trace.value;
      looks = trace.looks;
      writes = trace.writes;
      cost = n;
      height = 400 - min 400 (400 - trace.height);
    }) cost
    ∙ ap (λ n. record {
      value = trace.value;
      looks = trace.looks;
      writes = trace.writes;
      cost = trace.cost;
      height = n;
    }) height

module _ (kept : Stores) (c : ℕ) (t : WideTree) (e : Before) (count : ℕ) where
  abbrev root_stage : Stage
  root_stage = record { state = start 400 c; done = []; count = count }

  abbrev charge : ℕ
  charge = charges kept (parts 400 c [] t e)

  abbrev seen_all : List Seen
  seen_all = map (seen_in kept) (parts 400 c [] t e)

  charge_is : charged (shut_guide kept) 400 c [] t e ≡ charge
  charge_is =
      let none : layer_costs_by holds_nothing no_shells 400 c t e ≡ 0 = closed_costs holds_nothing 400 c t e in
      omega (arith, none)

  walk_is : walk (shut_guide kept) 400 [] t e root_stage ≡
      told 400 [] root_stage seen_all charge (evaluates 400 c t e)
  walk_is =
      (both_tell (shut_guide kept) closed_is 400).0 [] t e root_stage (omega arith)
      ∙ ap (λ d. told 400 [] root_stage (map (seen_in kept) (parts_by no_shells 400 c [] t d))
      (charged (shut_guide kept) 400 c [] t d) (evaluates 400 c t d)) (atop_empty e)
      ∙ ap (λ n. told 400 [] root_stage seen_all n (evaluates 400 c t e)) charge_is

  -- it is done
  pub record RootDone (v : WideValue) (z : State) (ds : List Seen) (n : ℕ) : Type 0 where
    pub comes : Some (trace_of 400 c v z) ≡ evaluates 400 c t e
    pub done : ds ≡ seen_all
    pub counted : n ≡ count + charge

  -- it runs out
  pub record RootOver (n : ℕ) : Type 0 where
    pub comes : None ≡ evaluates 400 c t e
    pub counted : n ≡ count + charge

  abbrev value_of : WideValue → Walked WideValue → WideValue
  value_of d (Stopped m) = d
  value_of d (Went u y) = u

  abbrev stage_in : Stage → Walked WideValue → Stage
  stage_in d (Stopped m) = d
  stage_in d (Went u y) = y

  abbrev count_in : Walked WideValue → ℕ
  count_in (Stopped m) = m
  count_in (Went u y) = y.count

  done_by : (v : WideValue) (y : Stage) (o : Option WideTrace) → evaluates 400 c t e ≡ o →
      told 400 [] root_stage seen_all charge o ≡ Went v y → RootDone v y.state y.done y.count
  done_by v y None q h = cc
  done_by v y (Some trace) q h =
      let most : (trace.cost ≤ c) × (trace.height ≤ 400) = allowed 400 c (alone t) e trace q in
      let value : value_under [] trace.value ≡ v = ap (value_of v) h in
      let state : after_part 400 (start 400 c) trace ≡ y.state = ap (λ w. (stage_in y w).state) h in
      record {
        comes = ap (λ u. Some (trace_of 400 c u y.state)) (sym value)
            ∙ ap (λ z. Some (trace_of 400 c (value_under [] trace.value) z)) (sym state)
            ∙ ap Some (from_start c trace most.0 most.1) ∙ sym q;
        done = sym (ap (λ w. (stage_in y w).done) h);
        counted = sym (ap count_in h);
      }

  pub root_done : (v : WideValue) (y : Stage) → walk (shut_guide kept) 400 [] t e root_stage ≡ Went v y →
      RootDone v y.state y.done y.count
  root_done v y h = done_by v y (evaluates 400 c t e) refl (sym walk_is ∙ h)

  over_by : (n : ℕ) (o : Option WideTrace) → evaluates 400 c t e ≡ o →
      told 400 [] root_stage seen_all charge o ≡ Stopped n → RootOver n
  over_by n None q h = record { comes = sym q; counted = sym (ap count_in h) }
  over_by n (Some trace) q h = cc

  pub root_over : (n : ℕ) → walk (shut_guide kept) 400 [] t e root_stage ≡ Stopped n → RootOver n
  root_over n h = over_by n (evaluates 400 c t e) refl (sym walk_is ∙ h)
