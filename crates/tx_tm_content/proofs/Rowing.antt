-- Trees side by side, with one more.
use Rattle.std.proofs.Common.{ℕ, ◌+◌, ◌≤◌, ◌<◌, List, [], ◌∷◌, ◌++◌, length, refl, length-append, arith}
use Rattle.tx_tree.specs.declared.TheConstants.{MOST_ARITY, MOST_SIZE}
use Rattle.tx_tree.specs.WideTree.{WideTree, size_of}
use Rattle.tx_tree.proofs.Children.{total_size-append}
use Rattle.tx_tm_content.specs.ContentFits.{RowFits}
use Rattle.tx_tm_content.specs.Rows.{IsRow}

pub no_row : IsRow [] 0
no_row = record { sized = refl; few = omega arith; light = omega arith }

pub one_more : (ts : List WideTree) (n : ℕ) (t : WideTree) → IsRow ts n → length ts < MOST_ARITY
    → n + size_of t ≤ MOST_SIZE → IsRow (ts ++ t ∷ []) (n + size_of t)
one_more ts n t h a b =
    record {
      sized = omega (arith, h.sized, total_size-append ts (t ∷ []));
      few = omega (arith, a, length-append ts (t ∷ []));
      light = b;
    }

pub too_many : (ts : List WideTree) (t : WideTree) → MOST_ARITY ≤ length ts → (k : ℕ) → RowFits k (ts ++ t ∷ []) → ⊥
too_many ts t h k f = omega (arith, h, f.few, length-append ts (t ∷ []))

pub too_big : (ts : List WideTree) (n : ℕ) (t : WideTree) → IsRow ts n → MOST_SIZE < n + size_of t → (k : ℕ)
    → RowFits k (ts ++ t ∷ []) → ⊥
too_big ts n t h i k f = omega (arith, h.sized, i, f.light, total_size-append ts (t ∷ []))
