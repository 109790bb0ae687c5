-- Trees that have no shell, by their own openness.
use Rattle.std.proofs.Common.{◌≡◌, ℕ, suc, ◌+◌, List, ap, ◌∙◌}
use Rattle.std.specs.Prelude.{None}
use Rattle.tx_tree.specs.WideTree.{WideTree}
use Rattle.tx_exec_form.specs.Runs.{Before}
use Rattle.tx_parts.specs.Openness.{Openness, openness}
use Rattle.tx_parts.specs.Opening.{ByTree, opening_by, opening}
use Rattle.tx_parts.specs.Parts.{Part, parts_as, parts_opened, parts_by, parts_in}
use Rattle.tx_parts.specs.LayerCosts.{counts_as, costs_opened, layer_costs_by, layer_costs_in}
use Rattle.tx_walk.specs.Held.{charges}
use Rattle.tx_walk.specs.Guides.{Guide, charged}

module _ (guide : Guide) (c : ℕ) (path : List ℕ) (t : WideTree) (e : Before) (o : Openness)
    (unshelled : guide.sheller t e ≡ None) (opens : openness t ≡ o) where
  opening_is : opening guide.sheller t e ≡ ByTree o
  opening_is = ap (λ s. opening_by s t) unshelled ∙ ap ByTree opens

  pub parts_are : (j : ℕ) →
      parts_by guide.sheller (suc j) c path t e ≡ parts_as o j (parts_by guide.sheller j) c path t e
  unfolding parts_by
  parts_are j =
      ap (λ x. parts_opened x j (parts_by guide.sheller j) (parts_in guide.sheller j) c path t e) opening_is

  pub costs_are : (j : ℕ) →
      layer_costs_by guide.holder guide.sheller (suc j) c t e ≡
      counts_as o j (layer_costs_by guide.holder guide.sheller j) c t e
  unfolding layer_costs_by
  costs_are j =
      ap (λ x. costs_opened x j (layer_costs_by guide.holder guide.sheller j)
      (layer_costs_in guide.holder guide.sheller j) c t e) opening_is

  pub charged_are : (j : ℕ) → charged guide (suc j) c path t e ≡
      charges guide.stores (parts_as o j (parts_by guide.sheller j) c path t e)
      + counts_as o j (layer_costs_by guide.holder guide.sheller j) c t e
  charged_are j =
      ap (λ (ps : List Part). charges guide.stores ps
      + layer_costs_by guide.holder guide.sheller (suc j) c t e) (parts_are j)
      ∙ ap (λ n. charges guide.stores (parts_as o j (parts_by guide.sheller j) c path t e) + n) (costs_are j)
