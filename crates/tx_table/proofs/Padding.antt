-- Pads of cells one after the other.
use Rattle.std.proofs.Common.{◌≡◌, ℕ, ◌+◌, ◌-◌, ◌<◌, ◌≤◌, List, [], ◌∷◌, ◌++◌, length, get_or, drop}
use Rattle.std.proofs.Common.{refl, sym, ap, ◌∙◌, arith, append_assoc, ◌⊎◌, inl, inr}
use Rattle.std.specs.Prelude.{min}
use Rattle.std.proofs.lemmas.Bool.{cases_lt}
use Rattle.std.proofs.lemmas.List.{drop_more, drop_all, append-nil}
use Rattle.tx_table.specs.Columns.{row_pads, all_pads}
use Rattle.tx_table.specs.declared.settings.Side.{Side}

no_sides : (pad : Side → ℕ → ℕ) (ns ws : List ℕ) → row_pads pad ns [] ws ≡ []
no_sides pad [] ws = refl
no_sides pad (n ∷ ns) ws = refl

no_widths : (pad : Side → ℕ → ℕ) (ns : List ℕ) (ss : List Side) → row_pads pad ns ss [] ≡ []
no_widths pad [] ss = refl
no_widths pad (n ∷ ns) [] = refl
no_widths pad (n ∷ ns) (s ∷ ss) = refl

no_columns : (pad : Side → ℕ → ℕ) (ss : List Side) (ws : List ℕ) → row_pads pad [] ss ws ≡ []
no_columns pad ss ws = refl

-- one cell more
pub row_more : (pad : Side → ℕ → ℕ) (columns : List ℕ) (sides : List Side) (widths out : List ℕ) (i x : ℕ) (d : Side)
    → i < length columns → i < length sides → i < length widths
    → x ≡ pad (get_or sides i d) (get_or columns i 0 - get_or widths i 0)
    → out ++ row_pads pad (drop i columns) (drop i sides) (drop i widths) ≡ row_pads pad columns sides widths
    → (out ++ x ∷ []) ++ row_pads pad (drop (i + 1) columns) (drop (i + 1) sides) (drop (i + 1) widths)
    ≡ row_pads pad columns sides widths
row_more pad columns sides widths out i x d a b c e h =
    let rest : List ℕ = row_pads pad (drop (i + 1) columns) (drop (i + 1) sides) (drop (i + 1) widths) in
    let now : row_pads pad (drop i columns) (drop i sides) (drop i widths) ≡ x ∷ rest =
    rw (drop_more columns i 0 a, drop_more sides i d b, drop_more widths i 0 c, e) in
    append_assoc out (x ∷ []) rest ∙ ap (λ l. out ++ l) (sym now) ∙ h

by_end : (pad : Side → ℕ → ℕ) (columns : List ℕ) (sides : List Side) (widths : List ℕ) (i : ℕ)
    → (length columns ≤ i) ⊎ ((length sides ≤ i) ⊎ (length widths ≤ i))
    → row_pads pad (drop i columns) (drop i sides) (drop i widths) ≡ []
by_end pad columns sides widths i (inl h) =
    ap (λ l. row_pads pad l (drop i sides) (drop i widths)) (drop_all i columns h)
by_end pad columns sides widths i (inr (inl h)) =
    ap (λ l. row_pads pad (drop i columns) l (drop i widths)) (drop_all i sides h)
    ∙ no_sides pad (drop i columns) (drop i widths)
by_end pad columns sides widths i (inr (inr h)) =
    ap (λ l. row_pads pad (drop i columns) (drop i sides) l) (drop_all i widths h)
    ∙ no_widths pad (drop i columns) (drop i sides)

one_ends : (a b c i : ℕ) → min (min a b) c ≤ i → (a ≤ i) ⊎ ((b ≤ i) ⊎ (c ≤ i))
one_ends a b c i h = elim (cases_lt i a) [
  | inl x ↦ elim (cases_lt i b) [ inl y ↦ inr (inr (omega arith)) | inr y ↦ inr (inl y) ]
  | inr x ↦ inl x
]

-- at the end
pub row_end : (pad : Side → ℕ → ℕ) (columns : List ℕ) (sides : List Side) (widths out : List ℕ) (i : ℕ)
    → min (min (length columns) (length sides)) (length widths) ≤ i
    → out ++ row_pads pad (drop i columns) (drop i sides) (drop i widths) ≡ row_pads pad columns sides widths
    → out ≡ row_pads pad columns sides widths
row_end pad columns sides widths out i m h =
    let nothing = by_end pad columns sides widths i (one_ends (length columns) (length sides) (length widths) i m) in
    sym (append-nil out) ∙ ap (λ l. out ++ l) (sym nothing) ∙ h

-- ---- rows

no_more_widths : (pad : Side → ℕ → ℕ) (ns : List ℕ) (sss : List (List Side)) → all_pads pad ns sss [] ≡ []
no_more_widths pad ns [] = refl
no_more_widths pad ns (ss ∷ sss) = refl

-- one row more
pub rows_more : (pad : Side → ℕ → ℕ) (columns : List ℕ) (sides : List (List Side)) (widths out : List (List ℕ)) (i : ℕ)
    (x : List ℕ) (ss : List Side) (ws : List ℕ) → i < length sides → i < length widths → ss ≡ get_or sides i ss
    → ws ≡ get_or widths i ws → x ≡ row_pads pad columns ss ws
    → out ++ all_pads pad columns (drop i sides) (drop i widths) ≡ all_pads pad columns sides widths
    → (out ++ x ∷ []) ++ all_pads pad columns (drop (i + 1) sides) (drop (i + 1) widths)
    ≡ all_pads pad columns sides widths
rows_more pad columns sides widths out i x ss ws a b p q e h =
    let rest : List (List ℕ) = all_pads pad columns (drop (i + 1) sides) (drop (i + 1) widths) in
    let first : drop i sides ≡ ss ∷ drop (i + 1) sides =
    drop_more sides i ss a ∙ ap (λ l. l ∷ drop (i + 1) sides) (sym p) in
    let second : drop i widths ≡ ws ∷ drop (i + 1) widths =
    drop_more widths i ws b ∙ ap (λ l. l ∷ drop (i + 1) widths) (sym q) in
    let now : all_pads pad columns (drop i sides) (drop i widths) ≡ x ∷ rest = rw (first, second, e) in
    append_assoc out (x ∷ []) rest ∙ ap (λ l. out ++ l) (sym now) ∙ h

both_end : (pad : Side → ℕ → ℕ) (columns : List ℕ) (sides : List (List Side)) (widths : List (List ℕ)) (i : ℕ)
    → (length sides ≤ i) ⊎ (length widths ≤ i) → all_pads pad columns (drop i sides) (drop i widths) ≡ []
both_end pad columns sides widths i (inl h) = ap (λ l. all_pads pad columns l (drop i widths)) (drop_all i sides h)
both_end pad columns sides widths i (inr h) =
    ap (λ l. all_pads pad columns (drop i sides) l) (drop_all i widths h) ∙ no_more_widths pad columns (drop i sides)

either_ends : (a b i : ℕ) → min a b ≤ i → (a ≤ i) ⊎ (b ≤ i)
either_ends a b i h = elim (cases_lt i a) [ inl x ↦ inr (omega arith) | inr x ↦ inl x ]

pub rows_end : (pad : Side → ℕ → ℕ) (columns : List ℕ) (sides : List (List Side)) (widths out : List (List ℕ)) (i : ℕ)
    → min (length sides) (length widths) ≤ i
    → out ++ all_pads pad columns (drop i sides) (drop i widths) ≡ all_pads pad columns sides widths
    → out ≡ all_pads pad columns sides widths
rows_end pad columns sides widths out i m h =
    let nothing = both_end pad columns sides widths i (either_ends (length sides) (length widths) i m) in
    sym (append-nil out) ∙ ap (λ l. out ++ l) (sym nothing) ∙ h
