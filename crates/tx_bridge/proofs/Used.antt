-- What is cached is used again.
use Rattle.std.proofs.Common.{◌≡◌, ℕ, ◌≤◌, List, [], ◌∷◌, length, nat_eq, refl, ap, sym, subst, ◌∙◌, leb-true, arith}
use Rattle.std.specs.Prelude.{Bool, true, ◌&&◌, if◌then◌else◌, nat_le, Option, Some, None}
use Rattle.std.specs.FinMap.{get}
use Rattle.std.specs.List.{list_all}
use Rattle.tx_env.specs.Environments.{NameMap}
use Rattle.tx_origin.specs.TaggedTrees.{TaggedTree, tagged_of}
use Rattle.tx_exec_form.specs.declared.TheConstants.{MOST_LEVELS}
use Rattle.tx_exec_form.specs.Runs.{Before}
use Rattle.tx_exec_form.specs.Evaluated.{WideTrace, evaluated_in}
use Rattle.tx_exec_form.specs.Laws.{Agrees, Supports}
use Rattle.tx_exec.specs.declared.outcome.Trace.{Trace}
use Rattle.tx_exec.specs.declared.outcome.Outcome.{Outcome}
use Rattle.tx_exec.specs.declared.outcome.Outcome.TheVariants.{Done, Over}
use Rattle.tx_exec.specs.Outcomes.{wide_outcome, NamesOnce}
use Rattle.tx_view_form.specs.Outcomes.{Moment, allowance, outcome, charge, behind, env_behind}
use Rattle.tx_units.specs.declared.kinds.Unit.{Unit as DocUnit}
use Rattle.tx_walk.specs.LayerTraces.{TreeTrace}
use Rattle.tx_walk.specs.SameTrees.{same}
use Rattle.tx_bridge.specs.Entries.{outcome_of, fresh_from}
use Rattle.tx_walk.specs.Held.{agrees}
use Rattle.tx_bridge.specs.Reached.{can_be_used}
use Rattle.tx_bridge.specs.Settled.{AgreesWith, AreSettled, IsSilent}
use Rattle.tx_bridge.specs.Sound.{TraceHolds, IsSoundBridge}
use Rattle.tx_bridge.specs.PartsKept.{KeptParts, has_parts, unit_parts, parts_if_done, fresh_parts}
use Rattle.tx_bridge.specs.HeldParts.{PartsHold, AreItsParts}
use Rattle.tx_walk.specs.declared.part.Part.{Part as DonePart}
use Rattle.tx_bridge.specs.UnitLists.{HasPathIfBody}
use Rattle.tx_walk.proofs.Trees.{both}
use Rattle.tx_bridge.proofs.Once.{none_set}
use Rattle.tx_walk.proofs.Agreed.{agrees_is, agrees_of, test_same}

-- what fits is the outcome of the tree
pub fits_is : (m : Moment) (o : Option WideTrace) (t : TaggedTree) → TraceHolds o t → can_be_used m o ≡ true
    → o ≡ outcome t m
unfolding outcome
fits_is m None t holds h = cc
fits_is m (Some trace) t holds h =
    let tests : (agrees (get m.env) trace.looks ≡ true) × (nat_le trace.cost (allowance m) ≡ true) =
    both (agrees (get m.env) trace.looks) (nat_le trace.cost (allowance m)) h in
    sym (holds.0 MOST_LEVELS (allowance m) (get m.env) (agrees_is (get m.env) trace.looks tests.0)
    (leb-true trace.cost (allowance m) tests.1) holds.1)

-- ---- by the laws of the evaluator

abbrev pub AllSupport : Type 0
AllSupport = (k c : ℕ) (t : TaggedTree) (e : Before) (trace : WideTrace) → evaluated_in k c t e ≡ Some trace
    → Supports trace t

abbrev pub AllAllowed : Type 0
AllAllowed = (k c : ℕ) (t : TaggedTree) (e : Before) (trace : WideTrace) → evaluated_in k c t e ≡ Some trace
    → (trace.cost ≤ c) × (trace.height ≤ k)

-- the outcome of a tree holds of it
pub outcome_holds : AllSupport → AllAllowed → (m : Moment) (o : Option WideTrace) (t : TaggedTree) → o ≡ outcome t m
    → TraceHolds o t
unfolding outcome
outcome_holds support allowed m None t e = tt
outcome_holds support allowed m (Some trace) t e = (
  support MOST_LEVELS (allowance m) t (get m.env) trace (sym e),
  (allowed MOST_LEVELS (allowance m) t (get m.env) trace (sym e)).1,
)

-- there are steps enough for it
pub charge_fits : AllAllowed → (m : Moment) (o : Option WideTrace) (t : TaggedTree) → o ≡ outcome t m
    → charge m o ≤ m.left
unfolding outcome
charge_fits allowed m None t e = omega arith
charge_fits allowed m (Some trace) t e =
    let cost : trace.cost ≤ allowance m = (allowed MOST_LEVELS (allowance m) t (get m.env) trace (sym e)).0 in
    omega (arith, cost)

pub sound_with : AllSupport → AllAllowed → (m : Moment) (u : DocUnit) (o : Outcome) (ps : List DonePart)
    (ls : List TreeTrace) (shelled flag : Bool) (from : Option ℕ)
    → wide_outcome o ≡ outcome (tagged_of u.tagged) m → NamesOnce o
    → HasPathIfBody u → PartsHold shelled u (wide_outcome o) ps
    → IsSoundBridge (record {
      unit = u;
      kept = o;
      parts = ps;
      layers = ls;
      shelled = shelled;
      reached = flag;
      source = from;
    })
sound_with support allowed m u o ps ls shelled flag from e once placed hold = record {
  holds = outcome_holds support allowed m (wide_outcome o) (tagged_of u.tagged) e;
  once = once;
  placed = placed;
  parts = hold;
}

-- where what is cached fits, its parts fit
pub parts_fit : (m : Moment) (o : Option WideTrace) (u : DocUnit) (ks : KeptParts) → can_be_used m o ≡ true
    → o ≡ outcome_of m u → AreItsParts u ks o → ks ≡ fresh_parts m u
parts_fit m None u ks fit is all = cc
parts_fit m (Some trace) u ks fit is all =
    let tests : (agrees (get m.env) trace.looks ≡ true) × (nat_le trace.cost (allowance m) ≡ true) =
    both (agrees (get m.env) trace.looks) (nat_le trace.cost (allowance m)) fit in
    sym (all (allowance m) (get m.env) (agrees_is (get m.env) trace.looks tests.0)
    (leb-true trace.cost (allowance m) tests.1))
    ∙ ap (λ o. if has_parts u then parts_if_done o (unit_parts m u) else []) is

-- the test of a cached trace, by the pairs of its looks
pub fits_done : (m : Moment) (map : NameMap) (o : Outcome) (trace : Trace) (b : Bool) → o ≡ Done trace → NamesOnce o
    → map ≡ m.env → b ≡ list_all (λ look. same (get map look.0) look.1) trace.looks
    → b && nat_le trace.cost (allowance m) ≡ can_be_used m (wide_outcome o)
fits_done m map o trace b is once env h =
    ap (λ a. a && nat_le trace.cost (allowance m))
    (h ∙ ap (λ (e : NameMap). list_all (λ look. same (get e look.0) look.1) trace.looks) env
    ∙ test_same (λ look. same (get m.env look.0) look.1) trace.looks (subst NamesOnce is once).0)
    ∙ ap (λ x. can_be_used m (wide_outcome x)) (sym is)

-- where the looks are known to agree, their pairs agree
pub pairs_agree : (m : Moment) (map : NameMap) (o : Outcome) (trace : Trace) → o ≡ Done trace → NamesOnce o
    → map ≡ m.env → AgreesWith m.env (wide_outcome o)
    → list_all (λ look. same (get map look.0) look.1) trace.looks ≡ true
pairs_agree m map o trace is once env h =
    ap (λ (e : NameMap). list_all (λ look. same (get e look.0) look.1) trace.looks) env
    ∙ test_same (λ look. same (get m.env look.0) look.1) trace.looks (subst NamesOnce is once).0
    ∙ subst (λ (x : Outcome). AgreesWith m.env (wide_outcome x)) is h

-- ---- what evaluation from nothing gives agrees with itself

abbrev pub AllAgree : Type 0
AllAgree = (k c : ℕ) (t : TaggedTree) (e : Before) (trace : WideTrace) → evaluated_in k c t e ≡ Some trace
    → Agrees e trace.looks

outcome_agrees : AllAgree → (m : Moment) (t : TaggedTree) (o : Option WideTrace) → o ≡ outcome t m
    → AgreesWith m.env o
unfolding outcome
outcome_agrees law m t None e = tt
outcome_agrees law m t (Some trace) e =
    agrees_of (get m.env) trace.looks (law MOST_LEVELS (allowance m) t (get m.env) trace (sym e))

pub fresh_settled : AllAgree → (m : Moment) (us : List DocUnit) → AreSettled m.env (fresh_from m us)
fresh_settled law m [] = tt
fresh_settled law m (u ∷ us) = (
  outcome_agrees law m (tagged_of u.tagged) (outcome_of m u) refl,
  fresh_settled law (behind m (outcome_of m u)) us,
)

-- ---- what sets no name

pub silent_over : (o : Outcome) → o ≡ Over → IsSilent (wide_outcome o)
silent_over o is = subst (λ (x : Outcome). IsSilent (wide_outcome x)) (sym is) (λ env. refl)

pub silent_done : (o : Outcome) (trace : Trace) → o ≡ Done trace → length trace.writes ≡ 0 → IsSilent (wide_outcome o)
silent_done o trace is none =
    subst (λ (x : Outcome). IsSilent (wide_outcome x)) (sym is) (λ env. none_set env trace.writes none)

pub none_there : (n : ℕ) → nat_eq n 0 ≡ true → n ≡ 0
none_there n e = grind arith

-- what names have after a unit whose cached trace is used, and after one that is evaluated anew and sets none
pub env_used : (m after : Moment) (kept o : Option WideTrace) → kept ≡ o → after ≡ behind m o
    → after.env ≡ env_behind m.env kept
env_used m after kept o e is = ap (λ (k : Moment). k.env) is ∙ ap (env_behind m.env) (sym e)

pub env_anew : (m after : Moment) (kept o : Option WideTrace) → IsSilent kept → IsSilent o → after ≡ behind m o
    → after.env ≡ env_behind m.env kept
env_anew m after kept o silent still is = ap (λ (k : Moment). k.env) is ∙ still m.env ∙ sym (silent m.env)
