-- Paths carried through a list of modifications.
use Rattle.std.proofs.Common.{◌≡◌, ℕ, List, [], ◌∷◌, ◌++◌, Option, Some, None, Ok, Err, refl, sym, ap, ◌∙◌}
use Rattle.std.specs.Prelude.{option_and_then}
use Rattle.tx_tree.specs.Paths.{subtree}
use Rattle.tx_tree.specs.WideTree.{WideTree}
use Rattle.tx_mod.specs.declared.mods.Mod.{Mod}
use Rattle.tx_mod.specs.Changes.{Outcome, changed}
use Rattle.tx_mod.specs.Moves.{carried_path}
use Rattle.tx_mod.specs.Followed.{outcome_tree, changed_by_all, carried_by_all, Composes, PathStopsAt}
use Rattle.tx_mod.specs.Followed.{CarriesThroughAll}
use Rattle.tx_mod.proofs.Kept.{carries_subtree}

nowhere : (ns : List Mod) (o : Option WideTree) → option_and_then (λ u. option_and_then (carried_by_all ns u) None)
    o ≡ None
nowhere ns None = refl
nowhere ns (Some u) = refl

pub composes : (ms ns : List Mod) (t : WideTree) (q : List ℕ) → Composes ms ns t q
composes [] ns t q = refl
composes (m ∷ ms) ns t q = step (outcome_tree (changed m t)) (carried_path m t q) (λ u r. composes ms ns u r)
  where
    step : (o : Option WideTree) (c : Option (List ℕ)) → ((u : WideTree) (r : List ℕ) → Composes ms ns u r)
        → option_and_then (λ u. option_and_then (carried_by_all (ms ++ ns) u) c) o
        ≡ option_and_then
        (λ u. option_and_then (carried_by_all ns u)
        (option_and_then (λ v. option_and_then (carried_by_all ms v) c) o)) (option_and_then (changed_by_all ms) o)
    step None c ih = refl
    step (Some u) None ih = sym (nowhere ns (changed_by_all ms u))
    step (Some u) (Some r) ih = ih u r

pub stops_at : (ms : List Mod) (m : Mod) (ns : List Mod) (t : WideTree) (q : List ℕ) → PathStopsAt ms m ns t q
stops_at ms m ns t q u r e f g =
    composes ms (m ∷ ns) t q
    ∙ ap (λ o. option_and_then (λ v. option_and_then (carried_by_all (m ∷ ns) v) (carried_by_all ms t q)) o) e
    ∙ ap (option_and_then (carried_by_all (m ∷ ns) u)) f
    ∙ ap (λ c. option_and_then (λ v. option_and_then (carried_by_all ns v) c) (outcome_tree (changed m u))) g
    ∙ nowhere ns (outcome_tree (changed m u))

pub carried_by_one : (m : Mod) (t u : WideTree) (q : List ℕ) → changed m t ≡ Ok u
    → carried_by_all (m ∷ []) t q ≡ carried_path m t q
carried_by_one m t u q e =
    ap (λ o. option_and_then (λ v. option_and_then (carried_by_all [] v) (carried_path m t q)) (outcome_tree o)) e
    ∙ kept (carried_path m t q)
  where
    kept : (c : Option (List ℕ)) → option_and_then (carried_by_all [] u) c ≡ c
    kept None = refl
    kept (Some r) = refl

pub carries_through_all : (ms : List Mod) (t : WideTree) (q : List ℕ) → CarriesThroughAll ms t q
carries_through_all [] t q u x r e f g = let same : t ≡ u = cc in let path : q ≡ r =
    cc in ap (λ z. subtree z r) (sym same) ∙ ap (subtree t) (sym path) ∙ f
carries_through_all (m ∷ ms) t q u x r e f g =
    step (changed m t) (carried_path m t q) refl refl (λ v p. carries_through_all ms v p u x r) e g
  where
    step : (o : Outcome) (c : Option (List ℕ)) → changed m t ≡ o → carried_path m t q ≡ c
        → ((v : WideTree) (p : List ℕ) → changed_by_all ms v ≡ Some u → subtree v p ≡ Some x
        → carried_by_all ms v p ≡ Some r → subtree u r ≡ Some x)
        → option_and_then (changed_by_all ms) (outcome_tree o) ≡ Some u
        → option_and_then (λ v. option_and_then (carried_by_all ms v) c) (outcome_tree o) ≡ Some r
        → subtree u r ≡ Some x
    step (Ok v) (Some p) a b ih h k = ih v p h (carries_subtree m t q v x p a f b) k
    step (Ok v) None a b ih h k = absurd (cc)
    step (Err cause) c a b ih h k = absurd (cc)
