-- The bytes of rows paint them all.
use Rattle.std.proofs.Common.{◌≡◌, ℕ, ◌+◌, ◌<◌, ◌≤◌, List, [], ◌∷◌, ◌++◌, append_assoc, length, take, drop, map}
use Rattle.std.proofs.Common.{sym, ap, ◌∙◌, arith}
use Rattle.std.specs.Prelude.{set}
use Rattle.std.specs.List.{AllByRecursion}
use Rattle.std.proofs.lemmas.List.{length-append, length-set, take_more_set, drop-set-lt, take-append-drop}
use Rattle.tx_terminal.specs.Characters.{Shown, IsShown}
use Rattle.tx_terminal.specs.Terminals.{Terminal, Cell, after_bytes, quiet}
use Rattle.tx_terminal.specs.Terminals.Mode.{settled}
use Rattle.tx_terminal.specs.Painting.{Fits, HasRows, PaintsRows, filled, most_bytes, row_bytes, row_cells, rows_bytes}
use Rattle.tx_terminal.specs.Painting.{with_row, with_rows}
use Rattle.tx_terminal.proofs.Sequences.{after_both}
use Rattle.tx_terminal.proofs.Rows.{row_length, row_painted}

abbrev AreShown : List (List Shown) → Type 0
AreShown rows = AllByRecursion (AllByRecursion IsShown) rows

pub none_painted : (t : Terminal) (r : ℕ) → with_rows t r [] ≡ t.rows
none_painted t r = let same : r + 0 ≡ r = omega arith in rw (same) (take-append-drop r t.rows)

-- the rows after one that is painted
pub one_painted : (t : Terminal) (r : ℕ) (row : List Shown) (rows : List (List Shown)) → r < length t.rows
    → with_rows (with_row t r (row_cells row)) (r + 1) rows ≡ with_rows t r (row ∷ rows)
one_painted t r row rows there =
    let cells : List Cell = filled t.width (row_cells row) in
    let others = map (λ other. filled t.width (row_cells other)) rows in
    let place : r + length (row ∷ rows) ≡ r + 1 + length rows = omega arith in
    let front : take (r + 1) (set t.rows r cells) ≡ take r t.rows ++ cells ∷ [] = take_more_set t.rows r cells there in
    let back : drop (r + 1 + length rows) (set t.rows r cells) ≡ drop (r + 1 + length rows) t.rows
    = drop-set-lt (r + 1 + length rows) t.rows r cells (omega arith) in
    rw (place, front, back)
    (append_assoc (take r t.rows) (cells ∷ []) (others ++ drop (r + 1 + length rows) t.rows))

rows_painted : (rows : List (List Shown)) (r : ℕ) (t : Terminal) → AreShown rows → r + length rows ≤ 65536
    → r + length rows ≤ length t.rows → 0 < t.width → AllByRecursion (Fits t) rows
    → HasRows t r rows (after_bytes (quiet t) (rows_bytes r rows))
rows_painted [] r t ok few there wide fits =
    (t.cursor, t.ink, ap (λ all. record t { rows = all; mode = settled }) (sym (none_painted t r)))
rows_painted (row ∷ rows) r t ok few there wide fits =
    let next : Terminal = with_row t r (row_cells row) in
    let below : r < length t.rows = omega (arith, there) in
    let one : after_bytes (quiet t) (row_bytes r row) ≡ next
    = row_painted t r row ok.0 (omega (arith, few)) below wide fits.0.0 fits.0.1 in
    let long : length next.rows ≡ length t.rows = length-set t.rows r (filled t.width (row_cells row)) in
    let rest : HasRows next (r + 1) rows (after_bytes (quiet next) (rows_bytes (r + 1) rows))
    = rows_painted rows (r + 1) next ok.1 (omega (arith, few)) (omega (arith, there, long)) wide fits.1 in (
      rest.0,
      rest.1,
      after_both (row_bytes r row) (rows_bytes (r + 1) rows) (quiet t)
          ∙ ap (λ u. after_bytes u (rows_bytes (r + 1) rows)) one
          ∙ rest.2
          ∙ ap (λ all. record t { rows = all; cursor = rest.0; ink = rest.1; mode = settled })
          (one_painted t r row rows below),
    )

rows_length : (rows : List (List Shown)) (r : ℕ) → AreShown rows → r + length rows ≤ 65536
    → length (rows_bytes r rows) ≤ most_bytes rows
rows_length [] r ok few = omega arith
rows_length (row ∷ rows) r ok few =
    let first = row_length r row ok.0 (omega (arith, few)) in
    let rest = rows_length rows (r + 1) ok.1 (omega (arith, few)) in
    let all = length-append (row_bytes r row) (rows_bytes (r + 1) rows) in
    omega (arith, first, rest, all)

pub paints_rows : (rows : List (List Shown)) → AreShown rows → length rows < 65536 → PaintsRows (rows_bytes 0 rows) rows
paints_rows rows ok few = record {
  few = rows_length rows 0 ok (omega (arith, few));
  painted = λ t there wide fits. rows_painted rows 0 t ok (omega (arith, few)) (omega (arith, there)) wide fits;
}
