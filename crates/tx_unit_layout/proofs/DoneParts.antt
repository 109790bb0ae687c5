-- The parts of a paragraph of the body that isn't over.
use Rattle.std.proofs.Common.{◌≡◌, ℕ, ◌+◌, ◌≤◌, List, [], ◌∷◌, map, length, Some, refl, ap, sym, ◌∙◌, arith}
use Rattle.std.specs.Prelude.{true, if◌then◌else◌}
use Rattle.std.specs.FinMap.{get}
use Rattle.std.specs.List.{All, AllByRecursion, sum_by}
use Rattle.std.proofs.lemmas.List.Elements.{All-from_recursion}
use Rattle.std.proofs.lemmas.List.Sums.{sum_by-cons}
use Rattle.tx_tree.specs.WideTree.{WideTree, leaf, node, size_of}
use Rattle.tx_origin.specs.Values.{plain}
use Rattle.tx_exec_form.specs.declared.TheConstants.{MOST_LEVELS}
use Rattle.tx_exec_form.specs.Runs.{Before}
use Rattle.tx_exec_form.specs.Evaluated.{WideTrace, evaluated_in, paid}
use Rattle.tx_exec.specs.Outcomes.{wide_trace}
use Rattle.tx_parts.specs.Composed.{alone, evaluates}
use Rattle.tx_parts.specs.Parts.{Part, parts, part_trace, part_cost, Stored, stored_part}
use Rattle.tx_walk.specs.declared.part.Part.{Part as DonePart}
use Rattle.tx_units.specs.declared.kinds.Unit.{Unit as DocUnit}
use Rattle.tx_view_form.specs.Outcomes.{Moment, allowance, outcome}
use Rattle.tx_part_items.specs.ShownParts.{kept_values}
use Rattle.tx_part_layout.specs.LaidParts.{done_value}
use Rattle.tx_bridge.proofs.Paying.{AllSmall}
use Rattle.tx_bridge.proofs.Used.{AllAllowed}
use Rattle.tx_bridge.specs.Entries.{outcome_of}
use Rattle.tx_bridge.specs.HeldParts.{kept_part, kept_parts}
use Rattle.tx_bridge.specs.PartsKept.{has_parts, unit_parts, parts_if_done, fresh_parts}
use Rattle.tx_bridge.specs.UnitLists.{HasPathIfBody}
use Rattle.tx_bridge.proofs.ByParts.{is_alone}
use Rattle.tx_unit_layout.proofs.Heads.{first_same, others_same}

-- ---- values

pub values_are : (ds : List DonePart) → kept_values (kept_parts ds) ≡ map done_value ds
values_are [] = refl
values_are (d ∷ ds) = ap (λ vs. done_value d ∷ vs) (values_are ds)

-- ---- laws, as the calls state them

abbrev pub AllCharged : Type 0
AllCharged = (k c : ℕ) (path : List ℕ) (t : WideTree) (e : Before)
    → sum_by part_cost (parts k c path t e) ≤ paid c (evaluates k c t e)

-- ---- sizes

some_size : (t : WideTree) → 1 ≤ size_of t
some_size (leaf text) = omega arith
some_size (node label ts) = omega arith

-- a value is no larger than what its part costs
part_size : AllSmall → (p : Part) (d : DonePart) → stored_part p ≡ kept_part d
    → size_of (plain d.trace.value) ≤ part_cost p
part_size law p d same =
    let is : part_trace p ≡ Some (wide_trace d.trace) = ap (λ (s : Stored). s.trace) same in
    let small : size_of (plain d.trace.value) ≤ d.trace.cost =
    (law p.levels p.steps (alone p.tree) p.before (wide_trace d.trace) is).0 in
    omega (arith, small, ap (paid p.steps) is)

-- values that are so small, and of at most so many parts
pub record AreSmall (n : ℕ) (ds : List DonePart) : Type 0 where
  pub each : AllByRecursion (λ d. size_of (plain d.trace.value) ≤ n) ds
  pub count : length ds ≤ n

larger : (n m : ℕ) (ds : List DonePart) → n ≤ m → AllByRecursion (λ d. size_of (plain d.trace.value) ≤ n) ds
    → AllByRecursion (λ d. size_of (plain d.trace.value) ≤ m) ds
larger n m [] le h = tt
larger n m (d ∷ ds) le h = (omega (arith, le, h.0), larger n m ds le h.1)

are_small : AllSmall → (ps : List Part) (ds : List DonePart) → map stored_part ps ≡ kept_parts ds
    → AreSmall (sum_by part_cost ps) ds
are_small law ps [] h = record { each = tt; count = omega arith }
are_small law [] (d ∷ ds) h = cc
are_small law (p ∷ ps) (d ∷ ds) h =
    let first : size_of (plain d.trace.value) ≤ part_cost p = part_size law p d
    (first_same (stored_part p) (kept_part d) (map stored_part ps) (kept_parts ds) h) in
    let some : 1 ≤ size_of (plain d.trace.value) = some_size (plain d.trace.value) in
    let others : AreSmall (sum_by part_cost ps) ds = are_small law ps ds
    (others_same (stored_part p) (kept_part d) (map stored_part ps) (kept_parts ds) h) in
    let all : sum_by part_cost (p ∷ ps) ≡ part_cost p + sum_by part_cost ps = sum_by-cons part_cost p ps in
    record {
      each = (
        omega (arith, first, all),
        larger (sum_by part_cost ps) (sum_by part_cost (p ∷ ps)) ds (omega (arith, all)) others.each,
      );
      count = let few = others.count in omega (arith, first, some, few, all);
    }

-- ---- at a moment

-- what is true of the parts, and of the whole
pub record AreDone (u : DocUnit) (trace : WideTrace) (ds : List DonePart) : Type 0 where
  pub few : length ds ≤ 1000000
  pub small : All (λ d. size_of (plain d.trace.value) ≤ 1000000) ds
  pub whole : size_of (plain trace.value) ≤ 1000000
  pub evaluates : (c : ℕ) × (e : Before) × (evaluates MOST_LEVELS c u.tagged.tree e ≡ Some trace)
      × (kept_values (map stored_part (parts MOST_LEVELS c [] u.tagged.tree e)) ≡ map done_value ds)

module _ (m : Moment) (u : DocUnit) (trace : WideTrace) (ds : List DonePart) (placed : HasPathIfBody u)
    (body : has_parts u ≡ true) (is : Some trace ≡ outcome_of m u) (fresh : kept_parts ds ≡ fresh_parts m u) where
  evaluates_there : evaluates MOST_LEVELS (allowance m) u.tagged.tree (get m.env) ≡ Some trace
  unfolding outcome
  evaluates_there =
      ap (λ t. evaluated_in MOST_LEVELS (allowance m) t (get m.env)) (sym (is_alone u placed body)) ∙ sym is

  stored_there : map stored_part (unit_parts m u) ≡ kept_parts ds
  stored_there =
      ap (λ o. parts_if_done o (unit_parts m u)) is
      ∙ sym (ap (λ b. if b then parts_if_done (outcome_of m u) (unit_parts m u) else []) body) ∙ sym fresh

  pub done_there : AllSmall → AllCharged → AllAllowed → AreDone u trace ds
  done_there sized charged allowed =
      let n = sum_by part_cost (unit_parts m u) in
      let most : n ≤ paid (allowance m) (evaluates MOST_LEVELS (allowance m) u.tagged.tree (get m.env)) =
      charged MOST_LEVELS (allowance m) [] u.tagged.tree (get m.env) in
      let cost : paid (allowance m) (evaluates MOST_LEVELS (allowance m) u.tagged.tree (get m.env)) ≡ trace.cost =
      ap (paid (allowance m)) evaluates_there in
      let enough : trace.cost ≤ allowance m =
      (allowed MOST_LEVELS (allowance m) (alone u.tagged.tree) (get m.env) trace evaluates_there).0 in
      let whole : size_of (plain trace.value) ≤ trace.cost =
      (sized MOST_LEVELS (allowance m) (alone u.tagged.tree) (get m.env) trace evaluates_there).0 in
      let small : AreSmall n ds = are_small sized (unit_parts m u) ds stored_there in
      let few : n ≤ 1000000 = omega (arith, most, cost, enough) in
      let count : length ds ≤ n = small.count in
      record {
        few = omega (arith, few, count);
        small =
            All-from_recursion (λ (d : DonePart). size_of (plain d.trace.value) ≤ 1000000) ds
            (larger n 1000000 ds few small.each);
        whole = omega (arith, whole, enough);
        evaluates =
            (allowance m, get m.env, evaluates_there, ap kept_values stored_there ∙ values_are ds);
      }
