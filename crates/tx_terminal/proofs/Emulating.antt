-- What an emulator holds is the terminal of the definition.
use Rattle.std.proofs.Common.{◌≡◌, ℕ, suc, ◌+◌, ◌-◌, ◌*◌, ◌<◌, ◌≤◌, List, [], ◌∷◌, ◌++◌, length}
use Rattle.std.proofs.Common.{take, drop, get_or, append_assoc, refl, sym, ap, ◌∙◌, arith}
use Rattle.std.specs.Prelude.{◌==◌, min, set, replicate}
use Rattle.std.proofs.Common.{inl, inr}
use Rattle.std.proofs.lemmas.Bool.{ne_eqb, cases_lt}
use Rattle.std.proofs.lemmas.List.{append-nil, length-append, length-take-le, length-replicate, drop_all, drop_more}
use Rattle.std.proofs.lemmas.List.{set_at, set_split, replicate_more, take_more, take-take, take-append-drop}
use Rattle.std.proofs.lemmas.List.{drop-append-le}
use Rattle.tx_terminal.specs.declared.inks.Ink.{Ink}
use Rattle.tx_terminal.specs.Terminals.{Cell, blank, character_cells, is_rest_of}
use Rattle.tx_terminal.specs.Numbers.{number_after}
use Rattle.tx_terminal.specs.Emulators.{onto, without_last_blanks}

-- ---- numbers

pub one_digit_more : (ds : List ℕ) (n d : ℕ) → number_after n (ds ++ d ∷ []) ≡ number_after n ds * 10 + (d - 48)
one_digit_more [] n d = refl
one_digit_more (x ∷ ds) n d = one_digit_more ds (n * 10 + (x - 48)) d

-- what is above a bound stays above it
pub capped : (ds : List ℕ) (n : ℕ) → min (number_after (min n 65536) ds) 65536 ≡ min (number_after n ds) 65536
capped [] n = omega arith
capped (d ∷ ds) n =
    let few : ℕ = min n 65536 * 10 + (d - 48) in
    let all : ℕ = n * 10 + (d - 48) in
    let same : min few 65536 ≡ min all 65536 = omega arith in
    sym (capped ds few) ∙ ap (λ m. min (number_after m ds) 65536) same ∙ capped ds all

pub number_step : (ds : List ℕ) (i n m : ℕ) → i < length ds → m ≡ min (n * 10 + (get_or ds i 0 - 48)) 65536
    → min (number_after m (drop (i + 1) ds)) 65536 ≡ min (number_after n (drop i ds)) 65536
number_step ds i n m here next =
    let rest : List ℕ = drop (i + 1) ds in
    ap (λ x. min (number_after x rest) 65536) next
    ∙ capped rest (n * 10 + (get_or ds i 0 - 48))
    ∙ ap (λ x. min (number_after n x) 65536) (sym (drop_more ds i 0 here))

-- ---- cells

pub rest_by_length : (glyphs : List ℕ) → (length glyphs == 0) ≡ is_rest_of glyphs
rest_by_length [] = refl
rest_by_length (b ∷ bs) = ne_eqb (length (b ∷ bs)) 0 (λ e. omega (arith, e))

-- a row where a character of cells up to a column is put
abbrev pub put_up_to : List Cell → ℕ → List ℕ → ℕ → Ink → List Cell
put_up_to row c glyphs at ink = take c row ++ (character_cells glyphs (at - c) ink ++ drop at row)

pub put_first : (row : List Cell) (c : ℕ) (glyphs : List ℕ) (ink : Ink) → c < length row
    → set row c (record { glyphs = glyphs; ink = ink }) ≡ put_up_to row c glyphs (c + 1) ink
put_first row c glyphs ink here =
    let cell : Cell = record { glyphs = glyphs; ink = ink } in
    let none : c + 1 - c - 1 ≡ 0 = omega arith in
    let next : c + 1 ≡ suc c = omega arith in
    set_split row c cell here
    ∙ ap (λ x. take c row ++ (cell ∷ drop x row)) (sym next)
    ∙ ap (λ n. take c row ++ ((cell ∷ replicate n (record { glyphs = []; ink = ink })) ++ drop (c + 1) row)) (sym none)

pub put_more : (row now : List Cell) (c : ℕ) (glyphs : List ℕ) (at : ℕ) (ink : Ink) (next : Cell) → c < at
    → at < length row → next ≡ record { glyphs = []; ink = ink } → now ≡ put_up_to row c glyphs at ink
    → set now at next ≡ put_up_to row c glyphs (at + 1) ink
put_more row now c glyphs at ink next below here is_rest so_far =
    let cell : Cell = record { glyphs = glyphs; ink = ink } in
    let other : Cell = record { glyphs = []; ink = ink } in
    let n : ℕ = at - c - 1 in
    let cells : List Cell = cell ∷ replicate n other in
    let front : List Cell = take c row ++ cells in
    let rest : List Cell = drop (at + 1) row in
    let taken : length (take c row) ≡ c = length-take-le c row (omega (arith, below, here)) in
    let those = length-replicate n other in
    let all = length-append (take c row) cells in
    let long : length front ≡ at = omega (arith, taken, those, all, below) in
    let one_more : n + 1 ≡ at + 1 - c - 1 = omega (arith, below) in
    ap (λ x. set now at x) is_rest
    ∙ ap (λ x. set x at other) so_far
    ∙ ap (λ x. set (take c row ++ (cells ++ x)) at other) (drop_more row at blank here)
    ∙ ap (λ x. set x at other) (sym (append_assoc (take c row) cells (get_or row at blank ∷ rest)))
    ∙ set_at front (get_or row at blank) rest other at long
    ∙ append_assoc (take c row) cells (other ∷ rest)
    ∙ ap (λ x. take c row ++ (cell ∷ x)) (sym (append_assoc (replicate n other) (other ∷ []) rest))
    ∙ ap (λ x. take c row ++ (cell ∷ (x ++ rest))) (replicate_more n other)
    ∙ ap (λ x. take c row ++ (cell ∷ (replicate x other ++ rest))) one_more

pub put_all : (row : List Cell) (c : ℕ) (glyphs : List ℕ) (n at : ℕ) (ink : Ink) → at ≡ c + n
    → put_up_to row c glyphs at ink ≡ take c row ++ (character_cells glyphs n ink ++ drop (c + n) row)
put_all row c glyphs n at ink end =
    let some : c + n - c ≡ n = omega arith in
    ap (λ x. put_up_to row c glyphs x ink) end
    ∙ ap (λ x. take c row ++ (character_cells glyphs x ink ++ drop (c + n) row)) some

pub erase_more : (row now : List Cell) (at : ℕ) (next : Cell) → at < length row → next ≡ blank
    → now ≡ replicate at blank ++ drop at row → set now at next ≡ replicate (at + 1) blank ++ drop (at + 1) row
erase_more row now at next here is_blank so_far =
    let rest : List Cell = drop (at + 1) row in
    ap (λ x. set now at x) is_blank
    ∙ ap (λ x. set x at blank) so_far
    ∙ ap (λ x. set (replicate at blank ++ x) at blank) (drop_more row at blank here)
    ∙ set_at (replicate at blank) (get_or row at blank) rest blank at (length-replicate at blank)
    ∙ sym (append_assoc (replicate at blank) (blank ∷ []) rest)
    ∙ ap (λ x. x ++ rest) (replicate_more at blank)

pub erase_all : (row : List Cell) (at : ℕ) → at ≡ length row → replicate at blank ++ drop at row ≡ replicate at blank
erase_all row at end =
    ap (λ x. replicate at blank ++ x) (drop_all at row (omega (arith, end))) ∙ append-nil (replicate at blank)

-- ---- the text of a row

blank_off : (bs : List ℕ) → without_last_blanks (bs ++ 32 ∷ []) ≡ without_last_blanks bs
blank_off [] = refl
blank_off (b ∷ bs) = ap (onto b) (blank_off bs)

onto_some : (b c : ℕ) (bs : List ℕ) → onto b (bs ++ c ∷ []) ≡ b ∷ (bs ++ c ∷ [])
onto_some b c [] = refl
onto_some b c (x ∷ bs) = refl

other_kept : (bs : List ℕ) (b : ℕ) → (b ≡ 32 → ⊥) → without_last_blanks (bs ++ b ∷ []) ≡ bs ++ b ∷ []
other_kept [] b other = rw (ne_eqb b 32 other) refl
other_kept (x ∷ bs) b other = ap (onto x) (other_kept bs b other) ∙ onto_some x b bs

-- the bytes from a place on up to another one, by the last of them
last_apart : (bs : List ℕ) (start end : ℕ) → start < end → end ≤ length bs
    → drop start (take end bs) ≡ drop start (take (end - 1) bs) ++ get_or bs (end - 1) 0 ∷ []
last_apart bs start end some within =
    let next : end ≡ end - 1 + 1 = omega (arith, some) in
    let long : length (take (end - 1) bs) ≡ end - 1 = length-take-le (end - 1) bs (omega (arith, within)) in
    ap (λ n. drop start (take n bs)) next
    ∙ ap (drop start) (take_more bs (end - 1) 0 (omega (arith, some, within)))
    ∙ drop-append-le start (take (end - 1) bs) (get_or bs (end - 1) 0 ∷ []) (omega (arith, long, some))

pub trim_more : (bs : List ℕ) (start end : ℕ) → start < end → end ≤ length bs → get_or bs (end - 1) 0 ≡ 32
    → without_last_blanks (drop start (take (end - 1) bs)) ≡ without_last_blanks (drop start (take end bs))
trim_more bs start end some within is_blank =
    sym (
    ap without_last_blanks (last_apart bs start end some within)
    ∙ ap (λ b. without_last_blanks (drop start (take (end - 1) bs) ++ b ∷ [])) is_blank
    ∙ blank_off (drop start (take (end - 1) bs))
    )

trimmed_kept : (bs : List ℕ) (start end : ℕ) → start ≤ end → end ≤ length bs
    → (start < end → get_or bs (end - 1) 0 ≡ 32 → ⊥)
    → without_last_blanks (drop start (take end bs)) ≡ drop start (take end bs)
trimmed_kept bs start end above within stops =
    elim (cases_lt start end) [
      | inl some ↦
          let apart = last_apart bs start end some within in
          ap without_last_blanks apart
          ∙ other_kept (drop start (take (end - 1) bs)) (get_or bs (end - 1) 0) (stops some)
          ∙ sym apart
      | inr none ↦
          let long : length (take end bs) ≡ end = length-take-le end bs within in
          let nothing : drop start (take end bs) ≡ [] = drop_all start (take end bs) (omega (arith, long, none)) in
          ap without_last_blanks nothing ∙ sym nothing
    ]

pub trimmed : (bs : List ℕ) (start end : ℕ) → start ≤ end → end ≤ length bs
    → (start < end → get_or bs (end - 1) 0 ≡ 32 → ⊥)
    → without_last_blanks (drop start (take end bs)) ≡ without_last_blanks (drop start bs)
    → take end bs ≡ take start bs ++ without_last_blanks (drop start bs)
trimmed bs start end above within stops same =
    sym (take-append-drop start (take end bs))
    ∙ ap (λ x. x ++ drop start (take end bs)) (take-take start end bs above)
    ∙ ap (λ x. take start bs ++ x) (sym (trimmed_kept bs start end above within stops) ∙ same)
