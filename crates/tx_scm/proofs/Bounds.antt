-- How long the text of a tree within the limits can be.
use Rattle.std.proofs.Common.{ℕ, ◌+◌, ◌*◌, ◌≤◌, Bool, true, false, cond, ◌==◌, ◌||◌, List, [], ◌∷◌, ◌++◌, length}
use Rattle.std.proofs.Common.{length-append, arith}
use Rattle.std.specs.List.{flat_map}
use Rattle.tx_tree.specs.WideTree.{WideTree, Forest, leaf, node, nil, cons, size_of, total_size}
use Rattle.tx_tree.specs.Limits.{IsWellFormed, AreWellFormed}
use Rattle.tx_scm.specs.Spelling.{escaped}
use Rattle.tx_scm.specs.Canonical.{scheme_text, scheme_texts}

byte_short : (b : ℕ) → length (escaped b) ≤ 2
byte_short b = either (b == 34 || b == 92) (92 ∷ b ∷ []) (b ∷ []) (omega arith) (omega arith)
  where
    either : (c : Bool) (x y : List ℕ) → length x ≤ 2 → length y ≤ 2 → length (cond c x y) ≤ 2
    either true x y h k = h
    either false x y h k = k

escaped_short : (text : List ℕ) → length (flat_map escaped text) ≤ 2 * length text
escaped_short [] = omega arith
escaped_short (b ∷ text) =
    omega (arith, byte_short b, escaped_short text, length-append (escaped b) (flat_map escaped text))

mutual
  pub text_short : (t : WideTree) → IsWellFormed t → length (scheme_text t) + 1 ≤ 70 * size_of t
  text_short (leaf text) h = omega (arith, escaped_short text, length-append (flat_map escaped text) (34 ∷ []))
  text_short (node label ts) h =
      omega (
        arith,
        h.0.short,
        texts_short ts h.1,
        length-append label (scheme_texts ts ++ 41 ∷ []),
        length-append (scheme_texts ts) (41 ∷ []),
      )

  texts_short : (ts : Forest) → AreWellFormed ts → length (scheme_texts ts) ≤ 70 * total_size ts
  texts_short nil h = omega arith
  texts_short (cons t ts) h =
      omega (arith, text_short t h.0, texts_short ts h.1, length-append (scheme_text t) (scheme_texts ts))
