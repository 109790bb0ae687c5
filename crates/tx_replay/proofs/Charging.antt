-- What trees are charged.
use Rattle.std.proofs.Common.{◌≡◌, ℕ, ◌+◌, ◌-◌, ◌≤◌, List, [], ◌∷◌, ◌++◌, refl, ap, ◌∙◌, arith}
use Rattle.std.proofs.lemmas.List.Sums.{sum_by-le-sum_by, sum_by-append}
use Rattle.std.specs.Prelude.{Bool, true, false, if◌then◌else◌, Option, Some, None}
use Rattle.std.specs.List.{sum_by}
use Rattle.std.specs.Option.{option_map_or}
use Rattle.tx_tree.specs.WideTree.{WideTree}
use Rattle.tx_exec_form.specs.Runs.{Before}
use Rattle.tx_exec_form.specs.Evaluated.{WideTrace, paid}
use Rattle.tx_parts.specs.Atop.{env_atop}
use Rattle.tx_parts.specs.Shells.{Layer}
use Rattle.tx_parts.specs.Shellers.{IsSheller}
use Rattle.tx_parts.specs.Composed.{evaluates, SoFar, with_child}
use Rattle.tx_parts.specs.Layered.{evaluates_in}
use Rattle.tx_parts.specs.Parts.{Part, part_cost, parts_by, parts_in, parts_from}
use Rattle.tx_parts.specs.LayerCosts.{holds_nothing, layer_costs_by, layer_costs_in, counts_from}
use Rattle.tx_parts.proofs.Costing.{paid_most, in_most, all_cost, all_cost_in}
use Rattle.tx_replay.specs.Held.{Stores, is_part_held, charge_of, charges}
use Rattle.tx_replay.specs.Seen.{Guide, charged, charged_in}

charge_less : (kept : Stores) (p : Part) → charge_of kept p ≤ part_cost p
charge_less kept p = by (is_part_held kept p)
  where
    by : (b : Bool) → (if b then 0 else part_cost p) ≤ part_cost p
    by true = omega arith
    by false = omega arith

charges_less : (kept : Stores) (ps : List Part) → charges kept ps ≤ sum_by part_cost ps
charges_less kept ps = sum_by-le-sum_by (charge_of kept) part_cost ps (charge_less kept)

module _ (guide : Guide) (sound : IsSheller guide.sheller) (k c : ℕ) (path : List ℕ) (t : WideTree) (e : Before) where
  -- a tree is charged no more than it costs
  pub charged_within : charged guide k c path t e ≤ paid c (evaluates k c t e)
  charged_within =
      let all : sum_by part_cost (parts_by guide.sheller k c path t e)
      + layer_costs_by holds_nothing guide.sheller k c t e ≤
      paid c (evaluates k c t e) = all_cost holds_nothing guide.sheller sound k c path t e in
      omega (arith, charges_less guide.stores (parts_by guide.sheller k c path t e), all)

  -- without steps nothing is charged
  pub none_charged : c ≡ 0 → charged guide k c path t e ≡ 0
  none_charged h = omega (arith, charged_within, paid_most k c t e (evaluates k c t e) refl, h)

  -- in layers
  pub charged_inside : (ls : List Layer) (i : ℕ) → charged_in guide k ls i c path t e ≤
      paid c (evaluates_in k ls i c t e)
  charged_inside ls i =
      let all : sum_by part_cost (parts_in guide.sheller k ls i c path t e)
      + layer_costs_in holds_nothing guide.sheller k ls c t e ≤
      paid c (evaluates_in k ls i c t e) = all_cost_in holds_nothing guide.sheller sound k ls i c path t e in
      omega (arith, charges_less guide.stores (parts_in guide.sheller k ls i c path t e), all)

  pub none_inside : (ls : List Layer) (i : ℕ) → c ≡ 0 → charged_in guide k ls i c path t e ≡ 0
  none_inside ls i h =
      omega (arith, charged_inside ls i, in_most k ls i c t e (evaluates_in k ls i c t e) refl, h)

-- ---- children

-- what the children from number i on are charged, after the traces of the earlier ones
abbrev pub charged_from : Guide → ℕ → ℕ → List ℕ → ℕ → SoFar → List WideTree → Before → ℕ
charged_from g k c path i a ts e =
    charges g.stores (parts_from k (parts_by g.sheller k) c path i a ts e)
    + counts_from k (layer_costs_by holds_nothing g.sheller k) c i a ts e

pub append_none : {X : Type 0} (xs : List X) → xs ++ [] ≡ xs
append_none [] = refl
append_none (x ∷ xs) = ap (λ ys. x ∷ ys) (append_none xs)

module _ (guide : Guide) (k c : ℕ) (path : List ℕ) (i : ℕ) (a : SoFar) (t : WideTree) (ts : List WideTree)
    (e : Before) where
  abbrev parts_here : List Part
  parts_here = parts_by guide.sheller k (c - a.cost) (path ++ i ∷ []) t (env_atop a.writes e)

  abbrev costs_here : ℕ
  costs_here = layer_costs_by holds_nothing guide.sheller k (c - a.cost) t (env_atop a.writes e)

  abbrev pub parts_after : Option WideTrace → List Part
  parts_after o = option_map_or
      (λ trace. parts_from k (parts_by guide.sheller k) c path (i + 1) (with_child i a trace) ts e) o []

  abbrev costs_after : Option WideTrace → ℕ
  costs_after o = option_map_or
      (λ trace. counts_from k (layer_costs_by holds_nothing guide.sheller k) c (i + 1) (with_child i a trace) ts e) o 0

  by_after : (o : Option WideTrace) →
      charges guide.stores (parts_here ++ parts_after o) + (costs_here + costs_after o) ≡
      (charges guide.stores parts_here + costs_here)
      + option_map_or (λ trace. charged_from guide k c path (i + 1) (with_child i a trace) ts e) o 0
  by_after None =
      let both : charges guide.stores (parts_here ++ []) ≡ charges guide.stores parts_here =
      ap (charges guide.stores) (append_none parts_here) in
      omega (arith, both)
  by_after (Some trace) =
      let both : charges guide.stores (parts_here ++ parts_after (Some trace)) ≡
      charges guide.stores parts_here + charges guide.stores (parts_after (Some trace)) =
      sum_by-append (charge_of guide.stores) parts_here (parts_after (Some trace)) in
      omega (arith, both)

  -- a child, and those after it
  pub charged_next : (o : Option WideTrace) → evaluates k (c - a.cost) t (env_atop a.writes e) ≡ o →
      charged_from guide k c path i a (t ∷ ts) e ≡
      charged guide k (c - a.cost) (path ++ i ∷ []) t (env_atop a.writes e)
      + option_map_or (λ trace. charged_from guide k c path (i + 1) (with_child i a trace) ts e) o 0
  charged_next o q =
      ap (λ x. charges guide.stores (parts_here ++ parts_after x) + (costs_here + costs_after x)) q ∙ by_after o
