-- Lists that are gone through with the number of each element.
use Rattle.std.proofs.Common.{◌≡◌, ℕ, suc, ◌+◌, ◌<◌, List, [], ◌∷◌, ◌++◌, length, map, take, get_or, sym, ap, arith}
use Rattle.std.proofs.Common.{append_assoc, ◌∙◌}
use Rattle.std.specs.List.{enumerate_from}
use Rattle.std.proofs.lemmas.List.{take_more, map-append, length-take}
use Rattle.tx_tree.specs.WideTree.{WideTree}
use Rattle.tx_units.specs.declared.kinds.Unit.{Unit as DocUnit}
use Rattle.tx_units.specs.Units.{body_unit}

enumerate_more : {X : Type 0} (k : ℕ) (xs : List X) (x : X)
    → enumerate_from k (xs ++ x ∷ []) ≡ enumerate_from k xs ++ (k + length xs, x) ∷ []
enumerate_more k [] x = let same : k ≡ k + 0 = omega arith in ap (λ n. (n, x) ∷ []) same
enumerate_more {X} k (y ∷ xs) x =
    let same : (k + 1) + length xs ≡ k + suc (length xs) = omega arith in
    ap (λ ps. (k, y) ∷ ps) (enumerate_more {X = X} (k + 1) xs x
    ∙ ap (λ n. enumerate_from (k + 1) xs ++ (n, x) ∷ []) same)

module _ {X Y : Type 0} (f : X → Y) where
  -- one element more, of a list of which each gives one
  pub mapped_next : (xs : List X) (i : ℕ) (x : X) (start us vs : List Y) → i < length xs → x ≡ get_or xs i x
      → us ≡ start ++ map f (take i xs) → vs ≡ us ++ f x ∷ [] → vs ≡ start ++ map f (take (i + 1) xs)
  mapped_next xs i x start us vs lt is so more =
      more ∙ ap (λ ws. ws ++ f x ∷ []) so ∙ append_assoc start (map f (take i xs)) (f x ∷ [])
      ∙ ap (λ ws. start ++ ws) (sym (map-append f (take i xs) (x ∷ []))
      ∙ ap (map f) (ap (λ y. take i xs ++ y ∷ []) is ∙ sym (take_more xs i x lt)))

-- one element more, with the paths of children
pub numbered_next : (path : List ℕ) (xs : List WideTree) (i : ℕ) (x : WideTree) (start us vs : List DocUnit)
    → i < length xs → x ≡ get_or xs i x
    → us ≡ start ++ map (λ p. body_unit p.1 (path ++ p.0 ∷ [])) (enumerate_from 0 (take i xs))
    → vs ≡ us ++ body_unit x (path ++ i ∷ []) ∷ []
    → vs ≡ start ++ map (λ p. body_unit p.1 (path ++ p.0 ∷ [])) (enumerate_from 0 (take (i + 1) xs))
numbered_next path xs i x start us vs lt is so more =
    let f : ℕ × WideTree → DocUnit = λ p. body_unit p.1 (path ++ p.0 ∷ []) in
    let many : 0 + length (take i xs) ≡ i = omega (arith, length-take i xs) in
    let step : enumerate_from 0 (take (i + 1) xs) ≡ enumerate_from 0 (take i xs) ++ (i, x) ∷ []
    = ap (enumerate_from 0) (take_more xs i x lt ∙ ap (λ y. take i xs ++ y ∷ []) (sym is))
    ∙ enumerate_more 0 (take i xs) x
    ∙ ap (λ n. enumerate_from 0 (take i xs) ++ (n, x) ∷ []) many in
    more ∙ ap (λ ws. ws ++ f (i, x) ∷ []) so ∙ append_assoc start (map f (enumerate_from 0 (take i xs))) (f (i, x) ∷ [])
    ∙ ap (λ ws. start ++ ws) (sym (map-append f (enumerate_from 0 (take i xs)) ((i, x) ∷ [])) ∙ ap (map f) (sym step))
