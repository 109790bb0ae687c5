-- The cells of pieces side by side, as pieces are added.
use Rattle.std.proofs.Common.{◌≡◌, ℕ, zero, suc, ◌+◌, ◌-◌, ◌<◌, ◌≤◌, List, [], ◌∷◌, ◌++◌, length, get_or, take, drop}
use Rattle.std.proofs.Common.{ap, ◌∙◌, arith}
use Rattle.std.specs.Prelude.{sum_by}
use Rattle.std.proofs.lemmas.List.{take-take, take_more, drop_more, get_or-drop, length-drop, length-take-le}
use Rattle.std.proofs.lemmas.List.Sums.{sum_by_push, sum_by-take-le}
use Rattle.tx_lines.specs.declared.first_fit.Piece.{Piece}
use Rattle.tx_lines.specs.FirstFit.{cells_of, line_cells}

-- what a piece takes after another: the spaces before it, and its own cells
abbrev beside : Piece → ℕ
beside next = next.before + next.cells

-- one more piece after others
cells_of-push : (xs : List Piece) (y : Piece) → 0 < length xs → cells_of (xs ++ y ∷ []) ≡ cells_of xs + beside y
cells_of-push [] y some = absurd (omega arith)
cells_of-push (x ∷ xs) y some = omega (arith, sum_by_push beside xs y)

-- one more piece on a line
pub cells_of_more : (xs : List Piece) (from to : ℕ) (d : Piece) → from < to → to < length xs
    → line_cells xs from (to + 1) ≡ line_cells xs from to + beside (get_or xs to d)
cells_of_more xs from to d some there =
    let rest : List Piece = drop from xs in
    let at : ℕ = to - from in
    let longer : to + 1 - from ≡ at + 1 = omega arith in
    let within : at < length rest = omega (arith, length-drop from xs) in
    let place : from + at ≡ to = omega arith in
    let last : get_or rest at d ≡ get_or xs to d = get_or-drop from xs at d ∙ ap (λ i. get_or xs i d) place in
    let front : length (take at rest) ≡ at = length-take-le at rest (omega arith) in
    ap (λ n. cells_of (take n rest)) longer ∙ ap cells_of (take_more rest at d within)
    ∙ cells_of-push (take at rest) (get_or rest at d) (omega arith) ∙ ap (λ y. cells_of (take at rest) + beside y) last

-- a front takes no more than a longer front
cells_of-take-le : (xs : List Piece) (n m : ℕ) → n ≤ m → cells_of (take n xs) ≤ cells_of (take m xs)
cells_of-take-le xs zero m h = omega arith
cells_of-take-le xs (suc n) zero h = absurd (omega arith)
cells_of-take-le [] (suc n) (suc m) h = omega arith
cells_of-take-le (x ∷ xs) (suc n) (suc m) h =
    let less : sum_by beside (take n (take m xs)) ≤ sum_by beside (take m xs) = sum_by-take-le beside (take m xs) n in
    let shorter : sum_by beside (take n (take m xs)) ≡ sum_by beside (take n xs) =
    ap (sum_by beside) (take-take n m xs (omega arith)) in
    omega arith

-- the pieces up to an earlier place take no more
pub cells_of_le : (xs : List Piece) (from to end : ℕ) → to ≤ end → line_cells xs from to ≤ line_cells xs from end
cells_of_le xs from to end h = cells_of-take-le (drop from xs) (to - from) (end - from) (omega arith)

-- a piece alone takes its own cells
pub cells_of_one : (xs : List Piece) (from : ℕ) (d : Piece) → from < length xs
    → line_cells xs from (from + 1) ≡ (get_or xs from d).cells
cells_of_one xs from d there =
    let one : from + 1 - from ≡ 1 = omega arith in
    ap (λ n. cells_of (take n (drop from xs))) one ∙ ap (λ ys. cells_of (take 1 ys)) (drop_more xs from d there)
    ∙ omega arith
