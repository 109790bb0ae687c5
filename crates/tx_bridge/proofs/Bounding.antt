-- What a refresh is charged is no more than its bound.
use Rattle.std.proofs.Common.{◌≡◌, ℕ, ◌+◌, ◌≤◌, List, [], ◌∷◌, Option, Some, None, refl, ap, sym, ◌∙◌, arith}
use Rattle.std.proofs.lemmas.List.Sums.{sum_by-cons}
use Rattle.std.specs.Prelude.{Bool, true, false, not, ◌||◌, if◌then◌else◌, drop}
use Rattle.std.specs.List.{AllByRecursion, list_all}
use Rattle.std.specs.FinMap.{get}
use Rattle.tx_exec_form.specs.declared.TheConstants.{MOST_LEVELS}
use Rattle.tx_exec_form.specs.Evaluated.{WideTrace}
use Rattle.tx_parts.specs.Opening.{Sheller}
use Rattle.tx_parts.specs.Shellers.{IsSheller}
use Rattle.tx_parts.specs.LayerCosts.{HoldsMore, holds_nothing, layer_costs_by}
use Rattle.tx_parts.specs.Parts.{Part, part_cost}
use Rattle.tx_walk.specs.Held.{Stores, is_part_held, charge_of as part_charge, charges}
use Rattle.tx_walk.specs.LayerTraces.{TreeTrace, holds_either}
use Rattle.tx_walk.proofs.Trees.{both}
use Rattle.tx_view_form.specs.Outcomes.{Moment, allowance, charge, behind}
use Rattle.tx_bridge.specs.Entries.{Entry, Kept, units_of, outcome_of}
use Rattle.tx_bridge.specs.PartsKept.{KeptParts, has_parts, unit_parts_by}
use Rattle.tx_bridge.specs.Reached.{can_be_used}
use Rattle.tx_bridge.specs.Spares.{UnitSpare, Spares, first_spare, stores_with}
use Rattle.tx_bridge.specs.Charges.{layers_charge, parts_charge_by, whole_charge, unit_charge_by, is_charged, charge_by}
use Rattle.tx_bridge.specs.Charges.{first_layers, charges_by}
use Rattle.tx_bridge.specs.Bound.{is_unused, are_parts_held, is_touched, touched_bound, layers_left, bound_at}
use Rattle.tx_bridge.specs.Bound.{unit_bound, bounds_by}
use Rattle.tx_bridge.specs.UnitLists.{HasPathIfBody}
use Rattle.tx_bridge.proofs.ByParts.{charge_most}
use Rattle.tx_bridge.proofs.HeldLayers.{AllFewer}

-- parts that are held are charged nothing
held_free : (kept : Stores) (ps : List Part) → list_all (is_part_held kept) ps ≡ true → charges kept ps ≡ 0
held_free kept [] h = refl
held_free kept (p ∷ ps) h =
    let tests : (is_part_held kept p ≡ true) × (list_all (is_part_held kept) ps ≡ true) =
    both (is_part_held kept p) (list_all (is_part_held kept) ps) h in
    let sum : charges kept (p ∷ ps) ≡ part_charge kept p + charges kept ps = sum_by-cons (part_charge kept) p ps in
    let one : part_charge kept p ≡ 0 = ap (λ b. if b then 0 else part_cost p) tests.0 in
    let others : charges kept ps ≡ 0 = held_free kept ps tests.1 in
    omega (arith, sum, one, others)

-- what a test chooses, where either choice is no less
chosen : (b : Bool) (n m k : ℕ) → n ≤ m → (b ≡ false → n ≤ k) → n ≤ (if b then m else k)
chosen true n m k most less = most
chosen false n m k most less = less refl

neither : (a b : Bool) → (a || not b) ≡ false → b ≡ true
neither false true h = refl
neither false false h = sym h
neither true b h = cc

module _ (fewer : AllFewer) (sheller : Sheller) (sound : IsSheller sheller) (m : Moment) (e : Entry) (ps : KeptParts)
    (ls : List TreeTrace) (s : UnitSpare) (placed : HasPathIfBody e.unit) where
  layers_fewer : has_parts e.unit ≡ true
      → layer_costs_by (holds_either ls s.layers) sheller MOST_LEVELS (allowance m) e.unit.tagged.tree (get m.env)
      ≤ layers_charge holds_nothing sheller m e.unit
  layers_fewer nested =
      let is : layers_charge holds_nothing sheller m e.unit
      ≡ layer_costs_by holds_nothing sheller MOST_LEVELS (allowance m) e.unit.tagged.tree (get m.env) =
      ap (λ b. if b
      then layer_costs_by holds_nothing sheller MOST_LEVELS (allowance m) e.unit.tagged.tree (get m.env) else 0)
      nested in
      let less : layer_costs_by (holds_either ls s.layers) sheller MOST_LEVELS (allowance m) e.unit.tagged.tree
      (get m.env)
      ≤ layer_costs_by holds_nothing sheller MOST_LEVELS (allowance m) e.unit.tagged.tree (get m.env) =
      fewer holds_nothing (holds_either ls s.layers) sheller (λ t f h. cc) MOST_LEVELS (allowance m) e.unit.tagged.tree
      (get m.env) in
      omega (arith, is, less)

  -- where all parts are held, layers alone are charged
  untouched_most : has_parts e.unit ≡ true → is_touched sheller m e ps s ≡ false
      → parts_charge_by sheller m e.unit ps s.parts ls s.layers ≤ layers_left sheller m e.unit ls s
  untouched_most nested h =
      let parts : charges (stores_with ps s.parts) (unit_parts_by sheller m e.unit) ≡ 0 =
      held_free (stores_with ps s.parts) (unit_parts_by sheller m e.unit)
      (neither (is_unused m e s) (are_parts_held sheller m e.unit ps s) h) in
      let layers : layers_left sheller m e.unit ls s
      ≡ layer_costs_by (holds_either ls s.layers) sheller MOST_LEVELS (allowance m) e.unit.tagged.tree (get m.env) =
      ap (λ b. if b then layer_costs_by (holds_either ls s.layers) sheller MOST_LEVELS (allowance m)
      e.unit.tagged.tree (get m.env) else 0) nested in
      omega (arith, parts, layers)

  touched_most : has_parts e.unit ≡ true
      → parts_charge_by sheller m e.unit ps s.parts ls s.layers ≤ touched_bound sheller m e.unit ps s
  touched_most nested = omega (arith, layers_fewer nested)

  unit_most : (o : Option WideTrace) → o ≡ outcome_of m e.unit
      → charge_by sheller m e ps ls s ≤ bound_at sheller m e ps ls s o
  unit_most None comes =
      let most : unit_charge_by sheller m e.unit ps ls s ≤ charge m (outcome_of m e.unit) =
      charge_most sheller sound m e.unit ps ls s placed in
      let all : charge m (outcome_of m e.unit) ≡ allowance m = ap (charge m) (sym comes) in
      at_most (is_charged m e) (omega (arith, most, all))
    where
      at_most : (b : Bool) → unit_charge_by sheller m e.unit ps ls s ≤ allowance m
          → (if b then unit_charge_by sheller m e.unit ps ls s else 0) ≤ allowance m
      at_most true h = h
      at_most false h = omega arith
  unit_most (Some trace) comes = by (has_parts e.unit) refl
    where
      by : (b : Bool) → has_parts e.unit ≡ b
          → (if b || not (can_be_used m e.trace)
          then if b then parts_charge_by sheller m e.unit ps s.parts ls s.layers else whole_charge m e.unit s else 0)
          ≤ (if b then if is_touched sheller m e ps s then touched_bound sheller m e.unit ps s
          else layers_left sheller m e.unit ls s
          else if is_unused m e s then charge m (Some trace) else 0)
      by true nested =
          chosen (is_touched sheller m e ps s) (parts_charge_by sheller m e.unit ps s.parts ls s.layers)
          (touched_bound sheller m e.unit ps s) (layers_left sheller m e.unit ls s) (touched_most nested)
          (untouched_most nested)
      by false other = whole (can_be_used m e.trace) (can_be_used m s.trace)
        where
          whole : (a b : Bool) → (if not a then if b then 0 else charge m (outcome_of m e.unit) else 0)
              ≤ (if not (a || b) then charge m (Some trace) else 0)
          whole true b = omega arith
          whole false true = omega arith
          whole false false = let same : charge m (outcome_of m e.unit) ≡ charge m (Some trace) =
              ap (charge m) (sym comes) in omega (arith, same)

-- the charge of all units is at most their bound
pub charged_most : AllFewer → (sheller : Sheller) → IsSheller sheller → (m : Moment) (es : Kept) (pss : List KeptParts)
    (lss : List (List TreeTrace)) (ss : Spares) → AllByRecursion HasPathIfBody (units_of es)
    → charges_by sheller m es pss lss ss ≤ bounds_by sheller m es pss lss ss
charged_most fewer sheller sound m [] pss lss ss placed = omega arith
charged_most fewer sheller sound m (e ∷ es) [] lss ss placed = omega arith
charged_most fewer sheller sound m (e ∷ es) (ps ∷ pss) lss ss placed =
    let one : charge_by sheller m e ps (first_layers lss) (first_spare ss)
    ≤ unit_bound sheller m e ps (first_layers lss) (first_spare ss) =
    unit_most fewer sheller sound m e ps (first_layers lss) (first_spare ss) placed.0 (outcome_of m e.unit) refl in
    let others : charges_by sheller (behind m (outcome_of m e.unit)) es pss (drop 1 lss) (drop 1 ss)
    ≤ bounds_by sheller (behind m (outcome_of m e.unit)) es pss (drop 1 lss) (drop 1 ss) =
    charged_most fewer sheller sound (behind m (outcome_of m e.unit)) es pss (drop 1 lss) (drop 1 ss) placed.1 in
    omega (arith, one, others)
