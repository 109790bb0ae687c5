-- What the names of a layer are to be set to.
use Rattle.std.proofs.Common.{◌≡◌, ℕ, zero, suc, ◌+◌, ◌<◌, ◌≤◌, List, [], ◌∷◌, ◌++◌, length, take, get_or}
use Rattle.std.proofs.Common.{ap, sym, subst, ◌∙◌, arith}
use Rattle.std.proofs.lemmas.List.{map-append, take_more}
use Rattle.tx_tree.specs.WideTree.{WideTree, size_of}
use Rattle.tx_tree.specs.Limits.{IsWithinLimits}
use Rattle.tx_env.specs.Pairs.{Name}
use Rattle.tx_origin.specs.Values.{plain}
use Rattle.tx_parts.specs.LayerCosts.{Holder, HoldsMore}
use Rattle.tx_walk.specs.LayerTraces.{DoneSetting, IsHeldWith, AllHeldBy}
use Rattle.tx_walk.specs.Layers.{pair_of_setting, pairs_of_settings, set_sizes, nodes_left, new_nodes}
use Rattle.tx_walk.proofs.Known.{all_more, all_with, nodes_both}

sizes_both : (ps qs : List (Name × WideTree)) → set_sizes (ps ++ qs) ≡ set_sizes ps + set_sizes qs
sizes_both [] qs = omega arith
sizes_both (p ∷ ps) qs = let rest : set_sizes (ps ++ qs) ≡ set_sizes ps + set_sizes qs = sizes_both ps qs in
    omega (arith, rest)

pub sizes_front : (n : ℕ) (ss : List DoneSetting) →
    set_sizes (pairs_of_settings (take n ss)) ≤ set_sizes (pairs_of_settings ss)
sizes_front zero ss = omega arith
sizes_front (suc n) [] = omega arith
sizes_front (suc n) (s ∷ ss) = omega (arith, sizes_front n ss)

module _ (ss : List DoneSetting) (i : ℕ) (s : DoneSetting) (lt : i < length ss)
    (is : s ≡ get_or ss i s) where
  one_more : take (i + 1) ss ≡ take i ss ++ s ∷ []
  one_more = take_more ss i s lt ∙ ap (λ v. take i ss ++ v ∷ []) (sym is)

  pairs_now : pairs_of_settings (take (i + 1) ss) ≡ pairs_of_settings (take i ss) ++ pair_of_setting s ∷ []
  pairs_now = ap pairs_of_settings one_more ∙ map-append pair_of_setting (take i ss) (s ∷ [])

  pub sizes_next : (base cost more : ℕ) → cost ≡ base + set_sizes (pairs_of_settings (take i ss)) →
      more ≡ size_of (plain s.done.trace.value) → cost + more ≡ base + set_sizes (pairs_of_settings (take (i + 1) ss))
  sizes_next base cost more so_far size =
      let all : set_sizes (pairs_of_settings (take (i + 1) ss)) ≡
      set_sizes (pairs_of_settings (take i ss)) + (size_of (plain s.done.trace.value) + 0) =
      ap set_sizes pairs_now ∙ sizes_both (pairs_of_settings (take i ss)) (pair_of_setting s ∷ []) in
      omega (arith, so_far, size, all)

  pub pairs_next : (before after : List (Name × WideTree)) (p : Name × WideTree) →
      before ≡ pairs_of_settings (take i ss) → p ≡ pair_of_setting s → after ≡ before ++ p ∷ [] →
      after ≡ pairs_of_settings (take (i + 1) ss)
  pairs_next before after p so_far is_p pushed =
      pushed ∙ ap (λ ps. ps ++ p ∷ []) so_far
      ∙ ap (λ q. pairs_of_settings (take i ss) ++ q ∷ []) is_p ∙ sym pairs_now

  pub nodes_next : (start before after : ℕ) → before ≡ start + new_nodes (take i ss) →
      after ≡ before + nodes_left s → after ≡ start + new_nodes (take (i + 1) ss)
  nodes_next start before after so_far more =
      let all : new_nodes (take (i + 1) ss) ≡ new_nodes (take i ss) + (nodes_left s + 0) =
      ap new_nodes one_more ∙ nodes_both (take i ss) (s ∷ []) in
      omega (arith, so_far, more, all)

  pub held_next : (held more : Holder) → HoldsMore held more → AllHeldBy held (take i ss) → IsHeldWith more s.done →
      AllHeldBy more (take (i + 1) ss)
  held_next held more both h g =
      subst (AllHeldBy more) (sym one_more) (all_with more (take i ss) s (all_more held more both (take i ss) h) g)

-- ---- what is within the limits

pub few_size : (t : WideTree) (n : ℕ) → n ≡ size_of t → IsWithinLimits t → n ≤ 8000000
few_size t n e h = let few : size_of t ≤ 8000000 = h.size in omega (arith, e, few)
