-- The bytes of a painter show its rows and its cursor.
use Rattle.std.proofs.Common.{◌≡◌, ◌≢◌, ℕ, ◌+◌, ◌<◌, ◌≤◌, Bool, true, false, List, [], ◌∷◌, ◌++◌, Some}
use Rattle.std.proofs.Common.{None, append_assoc, length, take, drop, map, ◌-◌, refl, sym, ap, subst, ◌∙◌, arith}
use Rattle.std.specs.Prelude.{set, get_or, slice_get, Option}
use Rattle.std.specs.List.{AllByRecursion}
use Rattle.std.proofs.lemmas.List.{append-nil, length-append, length-drop, length-map, length-set, get_or-take}
use Rattle.std.proofs.lemmas.List.{get_or-map, get_or-set_other, set-get_or, take_at, drop_all, drop_more}
use Rattle.std.proofs.lemmas.Option.{slice_get_within, get_or_from_slice_get}
use Rattle.tx_terminal.specs.Characters.{Shown}
use Rattle.tx_terminal.specs.Terminals.{Terminal, Cell, after_bytes, quiet, standing_at}
use Rattle.tx_terminal.specs.Terminals.Mode.{settled}
use Rattle.tx_terminal.specs.Painting.{Fits, Moves, Paints, ShowsCursor, filled, most_bytes, row_cells, with_row}
use Rattle.tx_terminal.specs.Painting.{with_rows}
use Rattle.tx_terminal.specs.Painter.{AreChanged, HasRoom, HidesWhere, IsPainted, Repaints, Shows}
use Rattle.tx_terminal.specs.Painter.{ShowsAt, WriteRows}
use Rattle.tx_terminal.specs.Painter.AreChanged.{no_rows, same_row, other_row}
use Rattle.tx_terminal.specs.Painter.WriteRows.{nothing, kept, written}
use Rattle.tx_terminal.proofs.Sequences.{after_both}
use Rattle.tx_terminal.proofs.Pages.{none_painted, one_painted}

abbrev line : Terminal → List Shown → List Cell
line t row = filled t.width (row_cells row)

-- the former rows from number r on are there
abbrev AreThere : Terminal → ℕ → List (List Shown) → Type 0
AreThere t r former =
    (k : ℕ) → r ≤ k → k < length former → get_or t.rows k [] ≡ line t (get_or former k [])

there_at_first : (t : Terminal) (former : List (List Shown)) → Shows t former → AreThere t 0 former
there_at_first t former shows k from below =
    sym (get_or-take (length former) t.rows k [] below)
    ∙ ap (λ lines. get_or lines k []) shows
    ∙ get_or-map (line t) former k [] [] below

there_after_one : (t : Terminal) (r : ℕ) (row : List Shown) (former : List (List Shown)) → AreThere t r former
    → AreThere (with_row t r (row_cells row)) (r + 1) former
there_after_one t r row former there k from below =
    let other : k ≢ r = omega arith in
    get_or-set_other t.rows r k (line t row) [] other ∙ there k (omega (arith, from)) below

-- t where rows from number r on are written
record AreWritten (t : Terminal) (r : ℕ) (rows : List (List Shown)) (u : Terminal) : Type 0 where
  shown : u.rows ≡ with_rows t r rows
  ended : u.mode ≡ settled
  as_wide : u.width ≡ t.width
  same_cells : u.cells_of ≡ t.cells_of
  same_cursor : u.cursor_shown ≡ t.cursor_shown

-- a row that is there already
kept_shown : (t : Terminal) (r : ℕ) (row : List Shown) (former rows : List (List Shown)) → AreThere t r former
    → slice_get former r ≡ Some row → r < length t.rows → with_rows t (r + 1) rows ≡ with_rows t r (row ∷ rows)
kept_shown t r row former rows there same below =
    let is : get_or former r [] ≡ row = get_or_from_slice_get former r row [] same in
    let shown : get_or t.rows r [] ≡ line t row
    = there r (omega arith) (slice_get_within former r row same) ∙ ap (line t) is in
    let unchanged : set t.rows r (line t row) ≡ t.rows
    = ap (set t.rows r) (sym shown) ∙ set-get_or t.rows r [] in
    ap (λ lines. take (r + 1) lines ++ (map (line t) rows ++ drop (r + 1 + length rows) lines)) (sym unchanged)
    ∙ one_painted t r row rows below

rows_written : {former : List (List Shown)} {r : ℕ} {rows : List (List Shown)} {bytes : List ℕ}
    → WriteRows former r rows bytes → (t : Terminal) → AreThere t r former → r + length rows ≤ length t.rows
    → 0 < t.width → AllByRecursion (Fits t) rows → AreWritten t r rows (after_bytes (quiet t) bytes)
rows_written (nothing r) t there room wide fits = record {
  shown = sym (none_painted t r);
  ended = refl;
  as_wide = refl;
  same_cells = refl;
  same_cursor = refl;
}
rows_written {former} (kept r row rows bytes same more) t there room wide fits =
    let rest : AreWritten t (r + 1) rows (after_bytes (quiet t) bytes)
    = rows_written more t (λ k from below. there k (omega (arith, from)) below) (omega (arith, room)) wide fits.1 in
    record {
      shown = rest.shown ∙ kept_shown t r row former rows there same (omega (arith, room));
      ended = rest.ended;
      as_wide = rest.as_wide;
      same_cells = rest.same_cells;
      same_cursor = rest.same_cursor;
    }
rows_written {former} (written r row rows first bytes other paints more) t there room wide fits =
    let next : Terminal = with_row t r (row_cells row) in
    let below : r < length t.rows = omega (arith, room) in
    let long : length next.rows ≡ length t.rows = length-set t.rows r (line t row) in
    let one : after_bytes (quiet t) first ≡ next = paints.painted t below wide fits.0.0 fits.0.1 in
    let rest : AreWritten next (r + 1) rows (after_bytes (quiet next) bytes)
    = rows_written more next (there_after_one t r row former there) (omega (arith, room, long)) wide fits.1 in
    let whole : after_bytes (quiet t) (first ++ bytes) ≡ after_bytes (quiet next) bytes
    = after_both first bytes (quiet t) ∙ ap (λ u. after_bytes u bytes) one in
    subst (λ u. AreWritten t r (row ∷ rows) u) (sym whole) (record {
      shown = rest.shown ∙ one_painted t r row rows below;
      ended = rest.ended;
      as_wide = rest.as_wide;
      same_cells = rest.same_cells;
      same_cursor = rest.same_cursor;
    })

-- the rows that are written, and how many bytes they need
changed_rows : {former : List (List Shown)} {r : ℕ} {rows : List (List Shown)} {bytes : List ℕ}
    → WriteRows former r rows bytes
    → (changed : List (List Shown)) × AreChanged former r rows changed × (length bytes ≤ most_bytes changed)
changed_rows (nothing r) = ([], no_rows r, omega arith)
changed_rows (kept r row rows bytes same more) =
    let rest = changed_rows more in (rest.0, same_row r row rows rest.0 same rest.1, rest.2)
changed_rows (written r row rows first bytes other paints more) =
    let rest = changed_rows more in
    let one = paints.few in
    let others = rest.2 in
    let both = length-append first bytes in
    (row ∷ rest.0, other_row r row rows rest.0 other rest.1, omega (arith, one, others, both))

-- whether the cursor is shown where it may be hidden
abbrev shown_where : Bool → Bool → Bool
shown_where true shown = false
shown_where false shown = shown

abbrev begun : Bool → Terminal → Terminal
begun hides t = record t { cursor_shown = shown_where hides t.cursor_shown; mode = settled }

after_hiding : (hides : Bool) (bytes : List ℕ) → HidesWhere hides bytes → (t : Terminal)
    → after_bytes (quiet t) bytes ≡ begun hides t
after_hiding true bytes hiding t = hiding.shows t
after_hiding false bytes none t = ap (after_bytes (quiet t)) none

hiding_length : (hides : Bool) (bytes : List ℕ) → HidesWhere hides bytes → length bytes ≤ 6
hiding_length true bytes hiding = hiding.few
hiding_length false bytes none = let empty : length bytes ≡ 0 = ap length none in omega (arith, empty)

cursor_length : (cursor : Option (ℕ × ℕ)) (bytes : List ℕ) → ShowsAt cursor bytes → length bytes ≤ 20
cursor_length None bytes none = let empty : length bytes ≡ 0 = ap length none in omega (arith, empty)
cursor_length (Some place) bytes shows = shows.0

count_rows : (t : Terminal) (rows : List (List Shown)) → length rows ≤ length t.rows
    → length (with_rows t 0 rows) ≡ length t.rows
count_rows t rows enough =
    let lines : List (List Cell) = map (line t) rows in
    let rest : List (List Cell) = drop (0 + length rows) t.rows in
    let all : length (lines ++ rest) ≡ length lines + length rest = length-append lines rest in
    let first : length lines ≡ length rows = length-map rows (line t) in
    let last : length rest ≡ length t.rows - (0 + length rows) = length-drop (0 + length rows) t.rows in
    omega (arith, all, first, last, enough)

-- the cursor comes last
cursor_placed : (t u : Terminal) (rows : List (List Shown)) (cursor : Option (ℕ × ℕ)) (hides : Bool) (bytes : List ℕ)
    → (cursor ≡ None → hides ≡ true) → HasRoom t rows cursor → AreWritten (begun hides t) 0 rows u
    → ShowsAt cursor bytes → IsPainted t rows cursor (after_bytes u bytes)
cursor_placed t u rows None hides bytes hidden room all none =
    let off : (begun hides t).cursor_shown ≡ false = ap (λ h. shown_where h t.cursor_shown) (hidden refl) in
    subst (λ x. IsPainted t rows None (after_bytes u x)) (sym none) (record {
      shown = all.shown;
      placed = all.same_cursor ∙ off;
      ended = all.ended;
      as_wide = all.as_wide;
      same_cells = all.same_cells;
    })
cursor_placed t u rows (Some place) hides bytes hidden room all shows =
    let calm : u ≡ quiet u = ap (λ m. record u { mode = m }) all.ended in
    let count : length u.rows ≡ length t.rows
    = ap length all.shown ∙ count_rows (begun hides t) rows room.enough in
    let below : place.0 < length u.rows = subst (λ n. place.0 < n) (sym count) room.cell.0 in
    let within : place.1 < u.width = subst (λ n. place.1 < n) (sym all.as_wide) room.cell.1 in
    let last : after_bytes u bytes ≡ record u { cursor = Some place; cursor_shown = true; mode = settled }
    = ap (λ x. after_bytes x bytes) calm ∙ shows.1 u below within in
    subst (IsPainted t rows (Some place)) (sym last) (record {
      shown = all.shown;
      placed = (refl, refl);
      ended = refl;
      as_wide = all.as_wide;
      same_cells = all.same_cells;
    })

pub repaints : (former rows : List (List Shown)) (cursor : Option (ℕ × ℕ)) (hides : Bool) (hide changed last : List ℕ)
    → HidesWhere hides hide → WriteRows former 0 rows changed → ShowsAt cursor last
    → (cursor ≡ None → hides ≡ true) → (take (length rows) former ≢ rows → hides ≡ true)
    → Repaints (hide ++ (changed ++ last)) former rows cursor
repaints former rows cursor hides hide changed last hiding writes shows hidden differs = record {
  changed = (changed_rows writes).0;
  are_changed = (changed_rows writes).1;
  few =
      let whole = length-append hide (changed ++ last) in
      let rest = length-append changed last in
      let first = hiding_length hides hide hiding in
      let middle = (changed_rows writes).2 in
      let end = cursor_length cursor last shows in
      omega (arith, whole, rest, first, middle, end);
  hidden = λ other. (hide, changed ++ last, refl, subst (λ h. HidesWhere h hide) (differs other) hiding);
  painted = λ t there room.
      let first : Terminal = begun hides t in
      let all : AreWritten first 0 rows (after_bytes (quiet first) changed)
      = rows_written writes first (there_at_first t former there) (omega (arith, room.enough)) room.wide room.fits in
      let whole : after_bytes (quiet t) (hide ++ (changed ++ last)) ≡ after_bytes (after_bytes (quiet first) changed) last
      = after_both hide (changed ++ last) (quiet t)
      ∙ ap (λ u. after_bytes u (changed ++ last)) (after_hiding hides hide hiding t)
      ∙ after_both changed last first in
      subst (IsPainted t rows cursor) (sym whole)
      (cursor_placed t (after_bytes (quiet first) changed) rows cursor hides last hidden room all shows);
}

-- what is added in three steps
pub joined : (before first second last : List ℕ) (former rows : List (List Shown)) (cursor : Option (ℕ × ℕ))
    (hides : Bool) → (bytes : List ℕ) × (first ≡ before ++ bytes) × HidesWhere hides bytes
    → (bytes : List ℕ) × (second ≡ first ++ bytes) × WriteRows former 0 rows bytes
    → (cursor ≡ None → hides ≡ true) → (take (length rows) former ≢ rows → hides ≡ true)
    → (bytes : List ℕ) × (last ≡ second ++ bytes) × ShowsAt cursor bytes
    → (bytes : List ℕ) × (last ≡ before ++ bytes) × Repaints bytes former rows cursor
joined before first second last former rows cursor hides hiding changed hidden differs shown =
    let rest : second ++ shown.0 ≡ (before ++ hiding.0) ++ (changed.0 ++ shown.0)
    = ap (λ x. x ++ shown.0) changed.1
    ∙ append_assoc first changed.0 shown.0
    ∙ ap (λ x. x ++ (changed.0 ++ shown.0)) hiding.1 in (
      hiding.0 ++ (changed.0 ++ shown.0),
      shown.1 ∙ rest ∙ append_assoc before hiding.0 (changed.0 ++ shown.0),
      repaints former rows cursor hides hiding.0 changed.0 shown.0 hiding.2 changed.2 shown.2 hidden differs,
    )

-- a move, and the cursor is shown
shown_at : (r c : ℕ) (move show : List ℕ) → Moves move r c → ShowsCursor show true → ShowsAt (Some (r, c)) (move ++ show)
shown_at r c move show moves shows = (
  let both = length-append move show in
      omega (arith, both, moves.few, shows.few),
  λ t below within. after_both move show (quiet t)
      ∙ ap (λ u. after_bytes u show) (moves.moved t below within)
      ∙ shows.shows (standing_at t r c),
)

pub moved_and_shown : (before moved last : List ℕ) (cursor : Option (ℕ × ℕ)) (r c : ℕ) → cursor ≡ Some (r, c)
    → (bytes : List ℕ) × (moved ≡ before ++ bytes) × Moves bytes r c
    → (bytes : List ℕ) × (last ≡ moved ++ bytes) × ShowsCursor bytes true
    → (bytes : List ℕ) × (last ≡ before ++ bytes) × ShowsAt cursor bytes
moved_and_shown before moved last cursor r c is move show = (
  move.0 ++ show.0,
  show.1 ∙ ap (λ x. x ++ show.0) move.1 ∙ append_assoc before move.0 show.0,
  subst (λ place. ShowsAt place (move.0 ++ show.0)) (sym is) (shown_at r c move.0 show.0 move.2 show.2),
)

-- ---- row by row

-- What is written so far: with what writes the rows from number i on, it writes all of them.
abbrev pub IsWrittenTo : (former rows : List (List Shown)) (before now : List ℕ) → ℕ → Type 0
IsWrittenTo former rows before now i =
    (bytes : List ℕ) × (now ≡ before ++ bytes)
    × ((more : List ℕ) → WriteRows former i (drop i rows) more → WriteRows former 0 rows (bytes ++ more))

pub begins : (former rows : List (List Shown)) (before now : List ℕ) (i : ℕ) → IsWrittenTo former rows before now i
    → take (length before) now ≡ before
begins former rows before now i (bytes, is, goes) =
    subst (λ x. take (length before) x ≡ before) (sym is) (take_at before bytes (length before) refl)

-- what is left of rows from one on
cut : (rows : List (List Shown)) (i : ℕ) (row : List Shown) → i < length rows → row ≡ get_or rows i row
    → row ∷ drop (i + 1) rows ≡ drop i rows
cut rows i row below is = ap (λ x. x ∷ drop (i + 1) rows) is ∙ sym (drop_more rows i row below)

pub one_kept : (former rows : List (List Shown)) (before now : List ℕ) (i : ℕ) (row : List Shown) → i < length rows
    → row ≡ get_or rows i row → slice_get former i ≡ Some row → IsWrittenTo former rows before now i
    → IsWrittenTo former rows before now (i + 1)
one_kept former rows before now i row below is same (bytes, added, goes) = (
  bytes,
  added,
  λ more writes.
      goes more
      (subst (λ rest. WriteRows former i rest more) (cut rows i row below is)
      (kept i row (drop (i + 1) rows) more same writes)),
)

pub one_written : (former rows : List (List Shown)) (before now next : List ℕ) (i : ℕ) (row : List Shown)
    → i < length rows → row ≡ get_or rows i row → slice_get former i ≢ Some row
    → (first : List ℕ) × (next ≡ now ++ first) × Paints first i row → IsWrittenTo former rows before now i
    → IsWrittenTo former rows before next (i + 1)
one_written former rows before now next i row below is other (first, more, paints) (bytes, added, goes) = (
  bytes ++ first,
  more ∙ ap (λ x. x ++ first) added ∙ append_assoc before bytes first,
  λ rest writes.
      subst (WriteRows former 0 rows) (sym (append_assoc bytes first rest))
      (goes (first ++ rest)
      (subst (λ lines. WriteRows former i lines (first ++ rest)) (cut rows i row below is)
      (written i row (drop (i + 1) rows) first rest other paints writes))),
)

pub all_written : (former rows : List (List Shown)) (before now : List ℕ) (i : ℕ) → length rows ≤ i
    → IsWrittenTo former rows before now i
    → (bytes : List ℕ) × (now ≡ before ++ bytes) × WriteRows former 0 rows bytes
all_written former rows before now i past (bytes, added, goes) = (
  bytes,
  added,
  subst (WriteRows former 0 rows) (append-nil bytes)
      (goes [] (subst (λ rest. WriteRows former i rest []) (sym (drop_all i rows past)) (nothing i))),
)
