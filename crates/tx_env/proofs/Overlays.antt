-- Pairs set in order.
use Rattle.std.proofs.Common.{◌≡◌, ℕ, ◌+◌, ◌<◌, List, [], ◌∷◌, ◌++◌, length, take, get_or, refl, sym, ap}
use Rattle.std.specs.FinMap.{insert}
use Rattle.std.proofs.lemmas.List.{take_more}
use Rattle.tx_tree.specs.WideTree.{WideTree}
use Rattle.tx_env.specs.Environments.{NameMap, overlaid}

overlaid_push : (m : NameMap) (ws : List (List ℕ × WideTree)) (w : List ℕ × WideTree)
    → overlaid m (ws ++ w ∷ []) ≡ insert (overlaid m ws) w.0 w.1
overlaid_push m [] w = refl
overlaid_push m (v ∷ ws) w = overlaid_push (insert m v.0 v.1) ws w

pub overlaid_next : (m : NameMap) (ws : List (List ℕ × WideTree)) (i : ℕ) (w : List ℕ × WideTree) → i < length ws
    → w ≡ get_or ws i w
    → overlaid m (take (i + 1) ws) ≡ insert (overlaid m (take i ws)) w.0 w.1
overlaid_next m ws i w lt is = rw (take_more ws i w lt, ← is) (overlaid_push m (take i ws) w)

pub set_next : (m before after : NameMap) (ws : List (List ℕ × WideTree)) (i : ℕ) (w : List ℕ × WideTree) (x : List ℕ)
    (t : WideTree)
    → i < length ws → w ≡ get_or ws i w → before ≡ overlaid m (take i ws) → after ≡ insert before x t → x ≡ w.0
    → t ≡ w.1
    → after ≡ overlaid m (take (i + 1) ws)
set_next m before after ws i w x t lt is h e n v = rw (e, n, v, h) (sym (overlaid_next m ws i w lt is))

-- two lists that end alike are alike before
pub ends_alike : (xs ys : List NameMap) (x y : NameMap) → xs ++ x ∷ [] ≡ ys ++ y ∷ [] → (xs ≡ ys) × (x ≡ y)
ends_alike [] [] x y e = (refl, cc)
ends_alike [] (v ∷ []) x y e = absurd cc
ends_alike [] (v ∷ w ∷ ys) x y e = absurd cc
ends_alike (v ∷ []) [] x y e = absurd cc
ends_alike (v ∷ w ∷ xs) [] x y e = absurd cc
ends_alike (v ∷ xs) (w ∷ ys) x y e =
    let first : v ≡ w = cc in
    let rest = ends_alike xs ys x y cc in
    (rw first (ap (λ zs. w ∷ zs) rest.0), rest.1)

pub ruleset overlay_rules = (overlaid_next, ends_alike)
