-- The bytes of a row paint it.
use Rattle.std.proofs.Common.{◌≡◌, ℕ, zero, suc, ◌+◌, ◌-◌, ◌*◌, ◌<◌, ◌≤◌, List, [], ◌∷◌, ◌++◌}
use Rattle.std.proofs.Common.{append_assoc, length, take, drop, refl, sym, ap, subst, ◌∙◌, arith}
use Rattle.std.specs.Prelude.{set, get_or, replicate, decimal}
use Rattle.std.specs.List.{AllByRecursion}
use Rattle.std.proofs.lemmas.Bool.{le-leb, lt-ltb}
use Rattle.std.proofs.lemmas.Fmt.{length-decimal-le}
use Rattle.std.proofs.lemmas.List.{append-nil, length-append, length-replicate, get_or-set_same, get_or-append-add}
use Rattle.std.proofs.lemmas.List.{set-set, take_at, drop-replicate}
use Rattle.std.proofs.Math.Seq.{drop-append-add}
use Rattle.tx_terminal.specs.declared.inks.Ink.{Ink}
use Rattle.tx_terminal.specs.Inks.{plain}
use Rattle.tx_terminal.specs.Characters.{Shown, IsShown}
use Rattle.tx_terminal.specs.Terminals.{Terminal, Cell, blank, character_cells, after_bytes, put, cursor_at}
use Rattle.tx_terminal.specs.Terminals.{standing_at, quiet}
use Rattle.tx_terminal.specs.Terminals.Mode.{settled}
use Rattle.tx_terminal.specs.Painting.{IsAsWide, Paints, row_cells, shown_cells, with_row, move_bytes, change_bytes}
use Rattle.tx_terminal.specs.Painting.{text_bytes, clearing, row_bytes, ink_changes, most_row_bytes}
use Rattle.tx_terminal.proofs.Inking.{changed, change_length, last_length}
use Rattle.tx_terminal.proofs.Sequences.{after_both, moved, move_length}
use Rattle.tx_terminal.proofs.Writing.{put_whole, glyphs_length}

-- a terminal where these cells of a row are painted, and the rest of it is blank
abbrev painted : Terminal → ℕ → List Cell → Ink → Terminal
painted t r cells ink =
    record t {
      rows = set t.rows r (cells ++ replicate (t.width - length cells) blank);
      cursor = cursor_at t r (length cells);
      ink = ink;
      mode = settled;
    }

blank_there : (n i : ℕ) → get_or (replicate n blank) i blank ≡ blank
blank_there zero i = refl
blank_there (suc n) zero = refl
blank_there (suc n) (suc i) = blank_there n i

cells_length : (glyphs : List ℕ) (n : ℕ) (ink : Ink) → 1 ≤ n → length (character_cells glyphs n ink) ≡ n
cells_length glyphs n ink some =
    let other : Cell = record { glyphs = []; ink = ink } in
    let rest = length-replicate (n - 1) other in
    omega (arith, rest, some)

-- one character more
put_painted : (t : Terminal) (r : ℕ) (done : List Cell) (ink : Ink) (glyphs : List ℕ) (n : ℕ) → 1 ≤ n
    → r < length t.rows → length done + n ≤ t.width
    → put (standing_at (painted t r done ink) r (length done)) r (length done) glyphs n
    ≡ painted t r (done ++ character_cells glyphs n ink) ink
put_painted t r done ink glyphs n some there room =
    let blanks : List Cell = replicate (t.width - length done) blank in
    let row : List Cell = done ++ blanks in
    let cells : List Cell = character_cells glyphs n ink in
    let c : ℕ = length done in
    let same : c + 0 ≡ c = omega arith in
    let got : get_or (set t.rows r row) r [] ≡ row = get_or-set_same t.rows r row [] there in
    let at_first : get_or row c blank ≡ blank
    = subst (λ i. get_or row i blank ≡ blank) same
    (get_or-append-add done blanks 0 blank ∙ blank_there (t.width - c) 0) in
    let at_next : get_or row (c + n) blank ≡ blank
    = get_or-append-add done blanks n blank ∙ blank_there (t.width - c) n in
    let front : take c row ≡ done = take_at done blanks c refl in
    let left : t.width - c - n ≡ t.width - (c + n) = omega arith in
    let back : drop (c + n) row ≡ replicate (t.width - (c + n)) blank
    = drop-append-add done blanks n ∙ drop-replicate n (t.width - c) blank ∙ ap (λ k. replicate k blank) left in
    let long : length (done ++ cells) ≡ c + n
    = length-append done cells ∙ ap (λ k. c + k) (cells_length glyphs n ink some) in
    let next : List Cell = (done ++ cells) ++ replicate (t.width - length (done ++ cells)) blank in
    let whole : take c row ++ (cells ++ drop (c + n) row) ≡ next
    = rw (front, back, long) (sym (append_assoc done cells (replicate (t.width - (c + n)) blank))) in
    rw (le-leb 1 n some, le-leb (c + n) t.width room, got, at_first, at_next)
    (rw (whole, set-set t.rows r row next, sym long) refl)

inked : (t : Terminal) (r : ℕ) (done : List Cell) (from to : Ink)
    → after_bytes (painted t r done from) (change_bytes from to) ≡ painted t r done to
inked t r done from to = changed (painted t r done from) from to

standing : (t : Terminal) (r : ℕ) (done : List Cell) (ink : Ink) → length done < t.width
    → painted t r done ink ≡ standing_at (painted t r done ink) r (length done)
standing t r done ink room = rw (lt-ltb (length done) t.width room) refl

-- one character, with its ink
one_more : (t : Terminal) (r : ℕ) (done : List Cell) (from : Ink) (s : Shown) → IsShown s → IsAsWide t s
    → r < length t.rows → length done + s.cells ≤ t.width
    → after_bytes (painted t r done from) (change_bytes from s.ink ++ s.glyphs)
    ≡ painted t r (done ++ shown_cells s) s.ink
one_more t r done from s ok wide there room =
    let now : Terminal = painted t r done s.ink in
    rw (after_both (change_bytes from s.ink) s.glyphs (painted t r done from), inked t r done from s.ink)
    (ap (λ x. after_bytes x s.glyphs) (standing t r done s.ink (omega (arith, room, ok.wide)))
    ∙ put_whole now r (length done) s.glyphs ok.one
    ∙ ap (λ n. put (standing_at now r (length done)) r (length done) s.glyphs n) wide
    ∙ put_painted t r done s.ink s.glyphs s.cells ok.wide there room)

text_painted : (t : Terminal) (r : ℕ) (row : List Shown) (done : List Cell) (from : Ink) → AllByRecursion IsShown row
    → AllByRecursion (IsAsWide t) row → r < length t.rows → length done + length (row_cells row) ≤ t.width
    → after_bytes (painted t r done from) (text_bytes from row) ≡ painted t r (done ++ row_cells row) plain
text_painted t r [] done from ok wide there room =
    inked t r done from plain ∙ ap (λ cells. painted t r cells plain) (sym (append-nil done))
text_painted t r (s ∷ ss) done from ok wide there room =
    let cells : List Cell = shown_cells s in
    let count : length cells ≡ s.cells = cells_length s.glyphs s.cells s.ink ok.0.wide in
    let all = length-append cells (row_cells ss) in
    let more = length-append done cells in
    let first = change_bytes from s.ink ++ s.glyphs in
    let rest = text_bytes s.ink ss in
    ap (after_bytes (painted t r done from)) (sym (append_assoc (change_bytes from s.ink) s.glyphs rest))
    ∙ after_both first rest (painted t r done from)
    ∙ ap (λ x. after_bytes x rest) (one_more t r done from s ok.0 wide.0 there (omega (arith, room, all, count)))
    ∙ text_painted t r ss (done ++ cells) s.ink ok.1 wide.1 there (omega (arith, room, all, count, more))
    ∙ ap (λ x. painted t r x plain) (append_assoc done cells (row_cells ss))

cleared : (t : Terminal) (r : ℕ) → 0 < t.width → after_bytes (standing_at t r 0) clearing ≡ painted t r [] plain
cleared t r wide =
    let all : t.width - 0 ≡ t.width = omega arith in rw (lt-ltb 0 t.width wide, all) refl

pub row_painted : (t : Terminal) (r : ℕ) (row : List Shown) → AllByRecursion IsShown row → r < 65536 → r < length t.rows
    → 0 < t.width → length (row_cells row) ≤ t.width → AllByRecursion (IsAsWide t) row
    → after_bytes (quiet t) (row_bytes r row) ≡ with_row t r (row_cells row)
row_painted t r row ok few there wide room as_wide =
    let text = text_bytes plain row in
    after_both (move_bytes r 0) (clearing ++ text) (quiet t)
    ∙ ap (λ x. after_bytes x (clearing ++ text)) (moved t r 0 few (omega arith) there wide)
    ∙ after_both clearing text (standing_at t r 0)
    ∙ ap (λ x. after_bytes x text) (cleared t r wide)
    ∙ text_painted t r row [] plain ok as_wide there (omega (arith, room))

text_length : (row : List Shown) (ink : Ink) → AllByRecursion IsShown row
    → length (text_bytes ink row) ≤ 3 + 4 * length row + 20 * ink_changes ink row
text_length [] ink ok = let last = last_length ink in omega (arith, last)
text_length (s ∷ ss) ink ok =
    let a = length-append (change_bytes ink s.ink) (s.glyphs ++ text_bytes s.ink ss) in
    let b = length-append s.glyphs (text_bytes s.ink ss) in
    let change = change_length ink s.ink in
    let glyphs = glyphs_length s.glyphs ok.0.one in
    let rest = text_length ss s.ink ok.1 in
    omega (arith, a, b, change, glyphs, rest)

pub row_length : (r : ℕ) (row : List Shown) → AllByRecursion IsShown row → r < 65536
    → length (row_bytes r row) ≤ most_row_bytes row
row_length r row ok few =
    let whole = length-append (move_bytes r 0) (clearing ++ text_bytes plain row) in
    let rest = length-append clearing (text_bytes plain row) in
    let move = move_length r 0 few (omega arith) in
    let column : length (decimal (0 + 1)) ≤ 1 = length-decimal-le 1 (0 + 1) (omega arith) (omega arith) (omega arith) in
    let text = text_length row plain ok in
    omega (arith, whole, rest, move, column, text)

pub paints : (r : ℕ) (row : List Shown) → AllByRecursion IsShown row → r < 65536 → Paints (row_bytes r row) r row
paints r row ok few = record {
  few = row_length r row ok few;
  painted = λ t there wide room as_wide. row_painted t r row ok few there wide room as_wide;
}

-- what begins a beginning begins the whole
pub still_begins : (a b c : List ℕ) → take (length a) b ≡ a → take (length b) c ≡ b → take (length a) c ≡ a
still_begins [] b c first second = refl
still_begins (x ∷ a) [] c first second = absurd cc
still_begins (x ∷ a) (y ∷ b) [] first second = absurd cc
still_begins (x ∷ a) (y ∷ b) (z ∷ c) first second =
    let head : z ≡ x = cc in
    let others : take (length a) c ≡ a = still_begins a b c (tail_of first) (tail_of second) in
    cc
  where
    tail_of : {v w : ℕ} {s t : List ℕ} → v ∷ s ≡ w ∷ t → s ≡ t
    tail_of same = cc
