-- What parts and layers are charged.
use Rattle.std.proofs.Common.{◌≡◌, ℕ, zero, suc, ◌+◌, ◌≤◌, List, ap, refl, ◌∙◌, arith}
use Rattle.std.proofs.lemmas.List.Sums.{sum_by-le-sum_by}
use Rattle.std.specs.Prelude.{Bool, true, false, if◌then◌else◌}
use Rattle.std.specs.List.{sum_by}
use Rattle.tx_tree.specs.WideTree.{WideTree}
use Rattle.tx_exec_form.specs.Runs.{Before}
use Rattle.tx_exec_form.specs.Evaluated.{paid}
use Rattle.tx_parts.specs.Shells.{Layer}
use Rattle.tx_parts.specs.Opening.{no_shells, opens_nothing, shells_by}
use Rattle.tx_parts.specs.Shellers.{IsSheller}
use Rattle.tx_parts.specs.Composed.{evaluates}
use Rattle.tx_parts.specs.Layered.{evaluates_in}
use Rattle.tx_parts.specs.Parts.{Part, part_cost, parts, parts_by, parts_in}
use Rattle.tx_parts.specs.LayerCosts.{Holder, layer_costs_by, layer_costs_in}
use Rattle.tx_parts.proofs.Costing.{paid_most, in_most, parts_cost, all_cost, all_cost_in, closed_costs}
use Rattle.tx_parts.proofs.Openers.{closed_by_nothing}
use Rattle.tx_walk.specs.Held.{Stores, is_part_held, charge_of, charges}
use Rattle.tx_walk.specs.Guides.{Guide, charged, charged_in}

charge_less : (kept : Stores) (p : Part) → charge_of kept p ≤ part_cost p
charge_less kept p = by (is_part_held kept p)
  where
    by : (b : Bool) → (if b then 0 else part_cost p) ≤ part_cost p
    by true = omega arith
    by false = omega arith

charges_less : (kept : Stores) (ps : List Part) → charges kept ps ≤ sum_by part_cost ps
charges_less kept ps = sum_by-le-sum_by (charge_of kept) part_cost ps (charge_less kept)

-- the charges of the parts of a tree are no more than its cost
pub charges_within : (kept : Stores) (k c : ℕ) (path : List ℕ) (t : WideTree) (e : Before) →
    charges kept (parts k c path t e) ≤ paid c (evaluates k c t e)
charges_within kept k c path t e =
    let all : sum_by part_cost (parts k c path t e) ≤ paid c (evaluates k c t e) = parts_cost k c path t e in
    omega (arith, charges_less kept (parts k c path t e), all)

module _ (guide : Guide) (sound : IsSheller guide.sheller) (k c : ℕ) (path : List ℕ) (t : WideTree) (e : Before) where
  -- with what layers cost
  pub charged_within : charged guide k c path t e ≤ paid c (evaluates k c t e)
  charged_within =
      let all : sum_by part_cost (parts_by guide.sheller k c path t e)
      + layer_costs_by guide.holder guide.sheller k c t e ≤
      paid c (evaluates k c t e) = all_cost guide.holder guide.sheller sound k c path t e in
      omega (arith, charges_less guide.stores (parts_by guide.sheller k c path t e), all)

  -- the charge is at most the steps that the tree has
  pub charged_most : charged guide k c path t e ≤ c
  charged_most = omega (arith, charged_within, paid_most k c t e (evaluates k c t e) refl)

  -- without steps nothing is charged
  pub none_charged : c ≡ 0 → charged guide k c path t e ≡ 0
  none_charged h = omega (arith, charged_within, paid_most k c t e (evaluates k c t e) refl, h)

  -- in layers
  pub charged_inside : (ls : List Layer) (i : ℕ) → charged_in guide k ls i c path t e ≤
      paid c (evaluates_in k ls i c t e)
  charged_inside ls i =
      let all : sum_by part_cost (parts_in guide.sheller k ls i c path t e)
      + layer_costs_in guide.holder guide.sheller k ls c t e ≤
      paid c (evaluates_in k ls i c t e) = all_cost_in guide.holder guide.sheller sound k ls i c path t e in
      omega (arith, charges_less guide.stores (parts_in guide.sheller k ls i c path t e), all)

  pub none_inside : (ls : List Layer) (i : ℕ) → c ≡ 0 → charged_in guide k ls i c path t e ≡ 0
  none_inside ls i h =
      omega (arith, charged_inside ls i, in_most k ls i c t e (evaluates_in k ls i c t e) refl, h)

-- without levels nothing is charged
pub low_charged : (guide : Guide) (k c : ℕ) (path : List ℕ) (t : WideTree) (e : Before) → k ≡ 0 →
    charged guide k c path t e ≡ 0
unfolding parts_by layer_costs_by
low_charged guide zero c path t e h = refl
low_charged guide (suc k) c path t e h = absurd (omega (arith, h))

pub low_inside : (guide : Guide) (k : ℕ) (ls : List Layer) (i c : ℕ) (path : List ℕ) (t : WideTree) (e : Before) →
    k ≡ 0 → charged_in guide k ls i c path t e ≡ 0
unfolding parts_in layer_costs_in
low_inside guide zero ls i c path t e h = refl
low_inside guide (suc k) ls i c path t e h = absurd (omega (arith, h))

pub nothing_more : (before : ℕ) {n : ℕ} → n ≡ 0 → before ≡ before + n
nothing_more before h = omega (arith, h)

-- where nothing has a shell the parts alone are charged
pub nothing_opened : (kept : Stores) (held : Holder) (k c : ℕ) (path : List ℕ) (t : WideTree) (e : Before) →
    charged (record { stores = kept; sheller = shells_by opens_nothing; holder = held }) k c path t e ≡
    charges kept (parts k c path t e)
nothing_opened kept held k c path t e =
    let none : layer_costs_by held no_shells k c t e ≡ 0 = closed_costs held k c t e in
    ap (λ s. charged (record { stores = kept; sheller = s; holder = held }) k c path t e) closed_by_nothing
    ∙ omega (arith, none)
