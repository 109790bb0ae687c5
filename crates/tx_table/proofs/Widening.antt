-- Columns that grow wider row by row, and cell by cell.
use Rattle.std.proofs.Common.{◌≡◌, ℕ, zero, suc, ◌+◌, ◌<◌, ◌≤◌, List, [], ◌∷◌, ◌++◌, length, get_or, take, drop}
use Rattle.std.proofs.Common.{refl, sym, ap, ap₂, ◌∙◌, arith, add-one}
use Rattle.std.proofs.lemmas.List.{drop_more, drop_all, length-take-le}
use Rattle.std.specs.Prelude.{max}
use Rattle.std.proofs.Math.ListN.{set}
use Rattle.tx_table.specs.Columns.{wider, column_widths}

pub wider_none : (ns : List ℕ) → wider ns [] ≡ ns
wider_none [] = refl
wider_none (n ∷ ns) = refl

pub wider_assoc : (a b c : List ℕ) → wider (wider a b) c ≡ wider a (wider b c)
wider_assoc [] b c = refl
wider_assoc (x ∷ xs) [] c = refl
wider_assoc (x ∷ xs) (y ∷ ys) [] = refl
wider_assoc (x ∷ xs) (y ∷ ys) (z ∷ zs) =
    let most : max (max x y) z ≡ max x (max y z) = omega arith in
    ap₂ (λ (n : ℕ) (ns : List ℕ). n ∷ ns) most (wider_assoc xs ys zs)

-- in a column that is there
pub wider_more : (columns row : List ℕ) (i : ℕ) → i < length row → i < length columns
    → wider columns (take (suc i) row) ≡ set (wider columns (take i row)) i (max (get_or (wider columns (take i row)) i 0) (get_or row i 0))
wider_more [] row i h k = absurd (omega arith)
wider_more (n ∷ ns) [] i h k = absurd (omega arith)
wider_more (n ∷ ns) (m ∷ ms) zero h k = ap (λ l. max n m ∷ l) (wider_none ns)
wider_more (n ∷ ns) (m ∷ ms) (suc i) h k =
    ap (λ l. max n m ∷ l) (wider_more ns ms i (omega arith) (omega arith))

-- in a column that isn't
pub wider_push : (columns row : List ℕ) (i : ℕ) → i < length row → length columns ≤ i
    → wider columns (take (suc i) row) ≡ wider columns (take i row) ++ get_or row i 0 ∷ []
wider_push [] [] i h k = absurd (omega arith)
wider_push [] (m ∷ ms) zero h k = refl
wider_push [] (m ∷ ms) (suc i) h k = ap (λ l. m ∷ l) (wider_push [] ms i (omega arith) (omega arith))
wider_push (n ∷ ns) [] i h k = absurd (omega arith)
wider_push (n ∷ ns) (m ∷ ms) zero h k = absurd (omega arith)
wider_push (n ∷ ns) (m ∷ ms) (suc i) h k =
    ap (λ l. max n m ∷ l) (wider_push ns ms i (omega arith) (omega arith))

pub length-wider : (columns row : List ℕ) → length (wider columns row) ≡ max (length columns) (length row)
length-wider [] row = omega arith
length-wider (n ∷ ns) [] = omega arith
length-wider (n ∷ ns) (m ∷ ms) = omega (arith, length-wider ns ms)

pub widen_set : (old row columns : List ℕ) (i : ℕ) → columns ≡ wider old (take i row) → i < length row
    → i < length columns
    → set columns i (max (get_or columns i 0) (get_or row i 0)) ≡ wider old (take (i + 1) row)
widen_set old row columns i e h k =
    let long = length-wider old (take i row) in
    let front = length-take-le i row (omega arith) in
    let same : length columns ≡ length (wider old (take i row)) = ap length e in
    let there : i < length old = omega arith in
    let more = wider_more old row i h there in
    rw (e, add-one) (sym more)

pub widen_push : (old row columns : List ℕ) (i : ℕ) → columns ≡ wider old (take i row) → i < length row
    → length columns ≤ i
    → columns ++ get_or row i 0 ∷ [] ≡ wider old (take (i + 1) row)
widen_push old row columns i e h k =
    let long = length-wider old (take i row) in
    let same : length columns ≡ length (wider old (take i row)) = ap length e in
    let none : length old ≤ i = omega arith in
    let more = wider_push old row i h none in
    rw (e, add-one) (sym more)

pub widths_more : (rows : List (List ℕ)) (columns : List ℕ) (i : ℕ) (row : List ℕ) → i < length rows
    → row ≡ get_or rows i row
    → wider columns (column_widths (drop i rows)) ≡ column_widths rows
    → wider (wider columns row) (column_widths (drop (i + 1) rows)) ≡ column_widths rows
widths_more rows columns i row h e k =
    let rest : List (List ℕ) = drop (i + 1) rows in
    let same : drop i rows ≡ row ∷ rest = drop_more rows i row h ∙ ap (λ r. r ∷ rest) (sym e) in
    wider_assoc columns row (column_widths rest) ∙ ap (λ l. wider columns (column_widths l)) (sym same) ∙ k

pub widths_end : (rows : List (List ℕ)) (columns : List ℕ) (i : ℕ) → length rows ≤ i
    → wider columns (column_widths (drop i rows)) ≡ column_widths rows → columns ≡ column_widths rows
widths_end rows columns i h k =
    sym (wider_none columns) ∙ ap (λ l. wider columns (column_widths l)) (sym (drop_all i rows h)) ∙ k
