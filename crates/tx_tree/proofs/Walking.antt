-- Ways down a tree.
use Rattle.std.proofs.Common.{◌≡◌, ℕ, ◌+◌, ◌<◌, List, ◌∷◌, length, drop, get_or, Some, None, ap, ◌∙◌}
use Rattle.std.proofs.lemmas.List.{drop_more}
use Rattle.std.specs.Prelude.{slice_get, option_and_then}
use Rattle.std.specs.Option.{option_map_or}
use Rattle.tx_tree.specs.WideTree.{WideTree, children_of, depth_of}
use Rattle.tx_tree.specs.Paths.{subtree, leading}
use Rattle.tx_tree.proofs.Walks.{child_shallower}

-- one step down, and where there is none
pub step_down : (t u : WideTree) (i : ℕ) (path : List ℕ) → slice_get (children_of t) i ≡ Some u
    → subtree t (i ∷ path) ≡ subtree u path
step_down t u i path e = ap (option_and_then (λ v. subtree v path)) e

pub no_step : (t : WideTree) (i : ℕ) (path : List ℕ) → slice_get (children_of t) i ≡ None → subtree t (i ∷ path) ≡ None
no_step t i path e = ap (option_and_then (λ v. subtree v path)) e

pub leading_down : (t u : WideTree) (i : ℕ) (path : List ℕ) → slice_get (children_of t) i ≡ Some u
    → leading t (i ∷ path) ≡ 1 + leading u path
leading_down t u i path e = ap (λ o. option_map_or (λ v. 1 + leading v path) o 0) e

pub no_leading : (t : WideTree) (i : ℕ) (path : List ℕ) → slice_get (children_of t) i ≡ None → leading t (i ∷ path) ≡ 0
no_leading t i path e = ap (λ o. option_map_or (λ v. 1 + leading v path) o 0) e

-- one step of a walk down a path
pub record IsStepDown (t u : WideTree) (path : List ℕ) (i : ℕ) : Type 0 where
  pub rest : subtree t (drop i path) ≡ subtree u (drop (i + 1) path)
  pub count : leading t (drop i path) ≡ 1 + leading u (drop (i + 1) path)
  pub shallower : depth_of u < depth_of t

pub went_down : (t u : WideTree) (path : List ℕ) (i : ℕ) → i < length path
    → slice_get (children_of t) (get_or path i 0) ≡ Some u → IsStepDown t u path i
went_down t u path i lt e =
    record {
      rest = ap (subtree t) (drop_more path i 0 lt) ∙ step_down t u (get_or path i 0) (drop (i + 1) path) e;
      count = ap (leading t) (drop_more path i 0 lt) ∙ leading_down t u (get_or path i 0) (drop (i + 1) path) e;
      shallower = child_shallower t u (get_or path i 0) e;
    }
