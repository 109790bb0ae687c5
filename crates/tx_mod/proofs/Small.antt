-- Numbers of paths that lead, and offsets of places, are small.
use Rattle.std.proofs.Common.{◌≡◌, ℕ, ◌≤◌, eqb, List, [], ◌∷◌, Option, Some, None, refl, subst, arith}
use Rattle.std.proofs.lemmas.Option.{slice_get_within}
use Rattle.std.specs.Prelude.{slice_get, IsSome, IsSomeAnd}
use Rattle.tx_tree.specs.Limits.{IsWithinLimits}
use Rattle.tx_tree.specs.Paths.{subtree}
use Rattle.tx_tree.specs.Places.{IsOffset, IsPlace}
use Rattle.tx_tree.specs.WideTree.{WideTree, leaf, node, children_of}
use Rattle.tx_tree.proofs.Children.{arity_le}
use Rattle.tx_tree.proofs.Cutting.{cut_within}
use Rattle.tx_mod.specs.Moves.{rest_behind}
use Rattle.tx_mod.specs.Ways.{AreChildNumbers}
use Rattle.tx_mod.proofs.Built.{child_within}
use Rattle.tx_mod.proofs.Cases.{by_test}
use Rattle.tx_mod.proofs.Replacing.{down}
use Rattle.tx_mod.proofs.Whole.{path_within}

number_small : (t c : WideTree) (i : ℕ) → slice_get (children_of t) i ≡ Some c → IsWithinLimits t → i ≤ 65535
number_small (leaf text) c i e w = absurd (cc)
number_small (node l ts) c i e w =
    omega (arith, slice_get_within (children_of (node l ts)) i c e, arity_le l ts, w.arity)

path_small : (path : List ℕ) (t s : WideTree) → subtree t path ≡ Some s → IsWithinLimits t → AreChildNumbers path
path_small [] t s e w = tt
path_small (i ∷ path) t s e w = let d = down t i path s e in
    (number_small t d.child i d.found w, path_small path d.child s d.further (child_within t d.child i d.found w))

-- a path that leads has small numbers
pub leads_small : (t : WideTree) (path : List ℕ) → IsSome (subtree t path) → IsWithinLimits t → AreChildNumbers path
leads_small t path h w = found (subtree t path) refl h
  where
    found : (o : Option WideTree) → subtree t path ≡ o → IsSome o → AreChildNumbers path
    found None e k = absurd (cc)
    found (Some s) e k = path_small path t s e w

pub rest_small : (p q r : List ℕ) → rest_behind p q ≡ Some r → AreChildNumbers q → AreChildNumbers r
rest_small [] q r e h = let same : q ≡ r = cc in subst AreChildNumbers same h
rest_small (i ∷ p) [] r e h = absurd (cc)
rest_small (i ∷ p) (k ∷ q) r e h =
    by_test (λ o. o ≡ Some r → AreChildNumbers r) (eqb i k) (rest_behind p q) None (λ t f. rest_small p q r f h.1)
    (λ t f. absurd (cc)) e

offset_small : (s : WideTree) (o : ℕ) → IsOffset s o → IsWithinLimits s → o ≤ 1048575
offset_small (leaf text) o h w = omega (arith, cut_within text o h, w.text)
offset_small (node l ts) o h w = omega (arith, h)

-- the path of a place leads, and its offset is small
pub place_leads : (t : WideTree) (path : List ℕ) (o : ℕ) → IsPlace t path o → IsSome (subtree t path)
place_leads t path o h = found (subtree t path) h
  where
    found : (u : Option WideTree) → IsSomeAnd u (λ s. IsOffset s o) → IsSome u
    found None k = absurd k
    found (Some s) k = refl

pub place_small : (t : WideTree) (path : List ℕ) (o : ℕ) → IsPlace t path o → IsWithinLimits t → o ≤ 1048575
place_small t path o h w = found (subtree t path) refl h
  where
    found : (u : Option WideTree) → subtree t path ≡ u → IsSomeAnd u (λ s. IsOffset s o) → o ≤ 1048575
    found None e k = absurd k
    found (Some s) e k = offset_small s o k (path_within path t s e w)
