-- The paragraphs of a document are in its order.
use Rattle.std.proofs.Common.{◌≡◌, ℕ, ◌+◌, ◌<◌, inl, inr, Bool, true, false, List, [], ◌∷◌, ◌++◌, map, Option, Some, None}
use Rattle.std.proofs.Common.{refl, ap, ◌∙◌, arith}
use Rattle.std.proofs.lemmas.Bool.Decides.{Decides-eqb}
use Rattle.std.specs.Prelude.{◌==◌, if◌then◌else◌}
use Rattle.std.specs.List.{AllByRecursion, enumerate_from}
use Rattle.std.specs.Option.{option_map_or}
use Rattle.tx_tree.specs.Paths.{subtree}
use Rattle.tx_tree.specs.WideTree.{WideTree, children_of}
use Rattle.tx_doc.specs.Bodies.{body_of}
use Rattle.tx_mod.specs.Moves.{rest_behind}
use Rattle.tx_mod.specs.Orders.{IsBefore}
use Rattle.tx_units.specs.Documents.{is_document}
use Rattle.tx_units.specs.Units.{body_unit, units_at, body_units}
use Rattle.tx_unit_traces.specs.UnitLists.{IsApart, AreApart, paths_of}

before_last : (path : List ℕ) (j k : ℕ) → j < k → IsBefore (path ++ j ∷ []) (path ++ k ∷ [])
before_last [] j k lt = inl lt
before_last (i ∷ path) j k lt = inr (refl, before_last path j k lt)

differ : (j k : ℕ) → j < k → (j == k) ≡ false
differ j k lt = by (j == k) refl
  where
    by : (b : Bool) → (j == k) ≡ b → b ≡ false
    by true e = let same : j ≡ k = (Decides-eqb j k).0 e in absurd (omega (arith, lt, same))
    by false e = refl

outside_last : (path : List ℕ) (j k : ℕ) → j < k → rest_behind (path ++ j ∷ []) (path ++ k ∷ []) ≡ None
outside_last [] j k lt = ap (λ b. if b then rest_behind [] [] else None) (differ j k lt)
outside_last (i ∷ path) j k lt =
    ap (λ b. if b then rest_behind (path ++ j ∷ []) (path ++ k ∷ []) else None) ((Decides-eqb i i).1 refl)
    ∙ outside_last path j k lt

module _ (path : List ℕ) where
  all_after : (j k : ℕ) (ts : List WideTree) → j < k → AllByRecursion (IsApart (path ++ j ∷ []))
      (paths_of (map (λ p. body_unit p.1 (path ++ p.0 ∷ [])) (enumerate_from k ts)))
  all_after j k [] lt = tt
  all_after j k (t ∷ ts) lt = (
    record { before = before_last path j k lt; outside = outside_last path j k lt },
    all_after j (k + 1) ts (omega (arith, lt)),
  )

  children_apart : (k : ℕ) (ts : List WideTree)
      → AreApart (paths_of (map (λ p. body_unit p.1 (path ++ p.0 ∷ [])) (enumerate_from k ts)))
  children_apart k [] = tt
  children_apart k (t ∷ ts) = (all_after k (k + 1) ts (omega arith), children_apart (k + 1) ts)

  at_apart : (body : WideTree) → AreApart (paths_of (units_at path body))
  at_apart body = by (is_document body)
    where
      by : (b : Bool) → AreApart (paths_of (if b
          then map (λ p. body_unit p.1 (path ++ p.0 ∷ [])) (enumerate_from 0 (children_of body))
          else body_unit body path ∷ []))
      by true = children_apart 0 (children_of body)
      by false = (tt, tt)

pub body_apart : (t : WideTree) → AreApart (paths_of (body_units t))
body_apart t = by (body_of t)
  where
    at : (path : List ℕ) (o : Option WideTree) → AreApart (paths_of (option_map_or (units_at path) o []))
    at path None = tt
    at path (Some body) = at_apart path body

    by : (o : Option (List ℕ)) → AreApart (paths_of
        (option_map_or (λ path. option_map_or (units_at path) (subtree t path) []) o []))
    by None = tt
    by (Some path) = at path (subtree t path)
