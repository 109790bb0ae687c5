-- Parts of pieces that are appended in order.
use Rattle.std.proofs.Common.{◌≡◌, ℕ, suc, ◌+◌, List, [], ◌∷◌, ◌++◌, length, take, sym, ap, ◌∙◌}
use Rattle.std.proofs.Common.{Option, length-append, arith}
use Rattle.std.specs.Io.KnownBytes.{append_known}
use Rattle.std.proofs.lemmas.List.{take-append-le}
use Rattle.tx_outside.specs.Known.{AppendsPart}
use Rattle.tx_outside.proofs.Pieces.{append_known-then}

-- a part of a piece is a part of each longer one
pub cut_before : (x y : List ℕ) (old new : Option (List ℕ)) → AppendsPart x old new → AppendsPart (x ++ y) old new
cut_before x y old new h = (
  h.0,
  omega (arith, h.1, length-append x y),
  h.2 ∙ ap (append_known old) (sym (take-append-le h.0 x y (omega (arith, h.1)))),
)

take_past : (x y : List ℕ) (n : ℕ) → take (length x + n) (x ++ y) ≡ x ++ take n y
take_past [] y n = let e : 0 + n ≡ n = omega arith in ap (λ k. take k y) e
take_past (b ∷ x) y n =
    let e : suc (length x) + n ≡ suc (length x + n) = omega arith in
    ap (λ k. take k (b ∷ (x ++ y))) e ∙ ap (λ z. b ∷ z) (take_past x y n)

-- a whole piece, and then a part of another
pub cut_behind : (x y : List ℕ) (old between new : Option (List ℕ)) → between ≡ append_known old x
    → AppendsPart y between new → AppendsPart (x ++ y) old new
cut_behind x y old between new whole h = (
  length x + h.0,
  omega (arith, h.1, length-append x y),
  append_known-then old between new x (take h.0 y) whole h.2 ∙ ap (append_known old) (sym (take_past x y h.0)),
)
