-- Lists of modifications, undone and made again.
use Rattle.std.proofs.Common.{◌≡◌, List, [], ◌∷◌, ◌++◌, Option, Some, None, Ok, Err, refl, sym, ap, subst, ◌∙◌, ◌+◌}
use Rattle.std.proofs.Common.{append_assoc, arith, length}
use Rattle.std.specs.Prelude.{option_and_then}
use Rattle.std.specs.Option.{option_map_or}
use Rattle.std.proofs.lemmas.List.{append-nil}
use Rattle.tx_tree.specs.Limits.{IsWellFormed, IsWithinLimits}
use Rattle.tx_tree.specs.Paths.{subtree}
use Rattle.tx_tree.specs.WideTree.{WideTree}
use Rattle.tx_mod.specs.declared.mods.Mod.{Mod}
use Rattle.tx_mod.specs.Changes.{Outcome, changed}
use Rattle.tx_mod.specs.Followed.{outcome_tree, changed_by_all}
use Rattle.tx_mod.specs.InTurn.{then_changed, changed_in_turn, inverses_of, cost_of, CanBeUndone}
use Rattle.tx_mod.specs.Inverses.{inverse_at, inverse_of}
use Rattle.tx_mod.specs.Mods.{path_of}
use Rattle.tx_mod.proofs.Back.{gives_back, same_tree, same_path}
use Rattle.tx_mod.proofs.Formed.{stays_well_formed}
use Rattle.tx_mod.proofs.Twice.{made_again}

-- all modifications make a tree, or some cause stops them
pub same_in_turn : (ms : List Mod) (t : WideTree) → outcome_tree (changed_in_turn ms t) ≡ changed_by_all ms t
same_in_turn [] t = refl
same_in_turn (m ∷ ms) t = step (changed m t) (λ u. same_in_turn ms u)
  where
    step : (o : Outcome) → ((u : WideTree) → outcome_tree (changed_in_turn ms u) ≡ changed_by_all ms u)
        → outcome_tree (then_changed (changed_in_turn ms) o) ≡ option_and_then (changed_by_all ms) (outcome_tree o)
    step (Ok u) ih = ih u
    step (Err cause) ih = refl

-- the first modification makes a tree, and the others go on from there
pub record IsBegun (m : Mod) (ms : List Mod) (t u : WideTree) : Type 0 where
  pub next : WideTree
  pub first : changed m t ≡ Ok next
  pub others : changed_in_turn ms next ≡ Ok u

pub begun : (m : Mod) (ms : List Mod) (t u : WideTree) → changed_in_turn (m ∷ ms) t ≡ Ok u → IsBegun m ms t u
begun m ms t u e = step (changed m t) refl e
  where
    step : (o : Outcome) → changed m t ≡ o → then_changed (changed_in_turn ms) o ≡ Ok u → IsBegun m ms t u
    step (Ok v) f g = record { next = v; first = f; others = g }
    step (Err cause) f g = absurd (cc)

pub first_then : (m : Mod) (ms : List Mod) (t v : WideTree) → changed m t ≡ Ok v
    → changed_in_turn (m ∷ ms) t ≡ changed_in_turn ms v
first_then m ms t v e = ap (then_changed (changed_in_turn ms)) e

pub inverses_from : (m : Mod) (ms : List Mod) (t v : WideTree) → changed m t ≡ Ok v
    → inverses_of (m ∷ ms) t ≡ inverses_of ms v ++ inverse_of m t ∷ []
inverses_from m ms t v e = ap (λ o. option_map_or (inverses_of ms) (outcome_tree o) [] ++ inverse_of m t ∷ []) e

-- two lists, one after the other
pub both_in_turn : (ms ns : List Mod) (t v : WideTree) → changed_in_turn ms t ≡ Ok v
    → changed_in_turn (ms ++ ns) t ≡ changed_in_turn ns v
both_in_turn [] ns t v e = ap (changed_in_turn ns) (same_tree t v e)
both_in_turn (m ∷ ms) ns t v e = let b = begun m ms t v e in first_then m (ms ++ ns) t b.next b.first
    ∙ both_in_turn ms ns b.next v b.others

pub both_inverses : (ms ns : List Mod) (t v : WideTree) → changed_in_turn ms t ≡ Ok v
    → inverses_of (ms ++ ns) t ≡ inverses_of ns v ++ inverses_of ms t
both_inverses [] ns t v e = ap (inverses_of ns) (same_tree t v e) ∙ sym (append-nil (inverses_of ns v))
both_inverses (m ∷ ms) ns t v e =
    let b = begun m ms t v e in
    inverses_from m (ms ++ ns) t b.next b.first
    ∙ ap (λ z. z ++ inverse_of m t ∷ []) (both_inverses ms ns b.next v b.others)
    ∙ append_assoc (inverses_of ns v) (inverses_of ms b.next) (inverse_of m t ∷ [])
    ∙ ap (λ z. inverses_of ns v ++ z) (sym (inverses_from m ms t b.next b.first))

pub cost_of_both : (ms ns : List Mod) → cost_of (ms ++ ns) ≡ cost_of ms + cost_of ns
cost_of_both [] ns = omega arith
cost_of_both (m ∷ ms) ns = omega (arith, cost_of_both ms ns)

-- what undoes a modification has its path
pub path_of_inverse : (m : Mod) (t : WideTree) → path_of (inverse_of m t) ≡ path_of m
path_of_inverse m t = by_subtree (subtree t (path_of m))
  where
    by_subtree : (o : Option WideTree) → path_of (option_map_or (inverse_at m) o m) ≡ path_of m
    by_subtree None = refl
    by_subtree (Some s) = same_path m s

pub can_be_undone : (ms : List Mod) (t : WideTree) → CanBeUndone ms t
can_be_undone [] t u sound formed within e =
    let same : t ≡ u = same_tree t u e in
    record {
      formed = subst IsWellFormed same formed;
      within = subst IsWithinLimits same within;
      back = ap (λ z. Ok z) (sym same);
      again = refl;
      cost = refl;
    }
can_be_undone (m ∷ ms) t u sound formed within e =
    let b = begun m ms t u e in
    let v : WideTree = b.next in
    let kept = stays_well_formed m t v sound.0 formed b.first in
    let r = can_be_undone ms v u sound.1 kept.0 kept.1 b.others in
    let n : Mod = inverse_of m t in
    let one : changed n v ≡ Ok t = gives_back m t v sound.0 formed within b.first in
    record {
      formed = r.formed;
      within = r.within;
      back = ap (λ ns. changed_in_turn ns u) (inverses_from m ms t v b.first)
          ∙ both_in_turn (inverses_of ms v) (n ∷ []) u v r.back ∙ first_then n [] v t one;
      again = ap (λ ns. inverses_of ns u) (inverses_from m ms t v b.first)
          ∙ both_inverses (inverses_of ms v) (n ∷ []) u v r.back
          ∙ ap (λ z. z ++ inverses_of (inverses_of ms v) u)
          (inverses_from n [] v t one ∙ ap (λ k. k ∷ []) (made_again m t v b.first))
          ∙ ap (λ z. m ∷ z) r.again;
      cost = ap cost_of (inverses_from m ms t v b.first) ∙ cost_of_both (inverses_of ms v) (n ∷ [])
          ∙ omega (arith, r.cost, ap length (path_of_inverse m t));
    }
