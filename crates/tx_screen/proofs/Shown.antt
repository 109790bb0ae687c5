-- Rows that show lines of a view.
use Rattle.std.proofs.Common.{◌≡◌, ℕ, ◌+◌, ◌-◌, ◌<◌, ◌≤◌, min, List, [], ◌∷◌, ◌++◌, map, length, take, replicate}
use Rattle.std.proofs.Common.{refl, sym, ap, ◌∙◌, arith, length-take, zero, suc, append_assoc, add-one}
use Rattle.std.specs.Prelude.{Option, Some, None, slice_get, slice_range}
use Rattle.std.specs.List.{flat_map}
use Rattle.std.specs.Option.{option_map}
use Rattle.std.proofs.lemmas.List.{append-nil, length-append, length-replicate}
use Rattle.tx_items.specs.declared.drawing.Item.{Item}
use Rattle.tx_items.specs.declared.drawing.Item.TheVariants.{Glyph, Space, Chance, Gap, Break, PageEnd, Down}
use Rattle.tx_layout.specs.declared.layout.Line.{Line}
use Rattle.tx_part_items.specs.ItemsUnder.{item_under}
use Rattle.tx_part_layout.specs.LinesUnder.{line_under}
use Rattle.tx_print.proofs.Ranges.{range_none, range_more, range_past}
use Rattle.tx_terminal.specs.Characters.{Shown}
use Rattle.tx_terminal.specs.Inks.{plain}
use Rattle.tx_page.specs.Clusters.{blanks}
use Rattle.tx_page.specs.Lines.{item_characters, line_characters}
use Rattle.tx_page.specs.Texts.{fitting}
use Rattle.tx_screen.specs.declared.modes.Size.{Size}
use Rattle.tx_screen.specs.Frames.{line_shown, lines_shown, padded}

-- ---- a line whose places are deeper is shown alike

item_alike : (base : List ℕ) (x : Item) → item_characters (item_under base x) ≡ item_characters x
item_alike base (Glyph d) = refl
item_alike base (Space d) = refl
item_alike base (Chance d) = refl
item_alike base (Gap n) = refl
item_alike base Break = refl
item_alike base PageEnd = refl
item_alike base (Down n) = refl

items_alike : (base : List ℕ) (xs : List Item)
    → flat_map item_characters (map (item_under base) xs) ≡ flat_map item_characters xs
items_alike base [] = refl
items_alike base (x ∷ xs) =
    ap (λ ys. ys ++ flat_map item_characters (map (item_under base) xs)) (item_alike base x)
    ∙ ap (λ ys. item_characters x ++ ys) (items_alike base xs)

line_alike : (base : List ℕ) (l : Line) → line_characters (line_under base l) ≡ line_characters l
line_alike base l = ap (λ cs. blanks l.indent plain ++ cs) (items_alike base l.items)

pub found_alike : (size : Size) (found : Option Line) (base : List ℕ) (l : Line) → found ≡ Some (line_under base l)
    → Some (line_shown size l) ≡ option_map (line_shown size) found
found_alike size found base l e =
    sym (ap (option_map (line_shown size)) e ∙ ap (λ cs. Some (fitting size.columns cs)) (line_alike base l))

-- ---- one line more

map_more : {X Y : Type 0} (f : X → Y) (xs : List X) (x : X) → map f (xs ++ x ∷ []) ≡ map f xs ++ f x ∷ []
map_more f [] x = refl
map_more f (y ∷ ys) x = ap (λ l. f y ∷ l) (map_more f ys x)

pub none_shown : (size : Size) (lines : List Line) (from to : ℕ) → [] ≡ lines_shown size lines from (min from to)
none_shown size lines from to = sym (ap (map (line_shown size)) (range_none lines from to))

pub one_more : (size : Size) (lines : List Line) (from at to : ℕ) (row : List Shown) (rows : List (List Shown))
    → from ≤ at → at < to → Some row ≡ option_map (line_shown size) (slice_get lines at)
    → rows ≡ lines_shown size lines from (min at to)
    → rows ++ row ∷ [] ≡ lines_shown size lines from (min (at + 1) to)
one_more size lines from at to row rows le lt found e = by_case (slice_get lines at) refl found
  where
    by_case : (o : Option Line) → slice_get lines at ≡ o → Some row ≡ option_map (line_shown size) o
        → rows ++ row ∷ [] ≡ lines_shown size lines from (min (at + 1) to)
    by_case None is found = cc
    by_case (Some line) is found =
        let same : row ≡ line_shown size line = cc in
        ap (λ xs. xs ++ row ∷ []) e
        ∙ ap (λ x. lines_shown size lines from (min at to) ++ x ∷ []) same
        ∙ sym (map_more (line_shown size) (slice_range lines from (min at to)) line)
        ∙ ap (map (line_shown size)) (sym (range_more lines from at to line le lt is))

pub no_more : (size : Size) (lines : List Line) (from at to : ℕ) (rows : List (List Shown))
    → from ≤ at → at < to → None ≡ option_map (line_shown size) (slice_get lines at)
    → rows ≡ lines_shown size lines from (min at to)
    → rows ≡ lines_shown size lines from (min (at + 1) to)
no_more size lines from at to rows le lt found e = by_case (slice_get lines at) refl found
  where
    by_case : (o : Option Line) → slice_get lines at ≡ o → None ≡ option_map (line_shown size) o
        → rows ≡ lines_shown size lines from (min (at + 1) to)
    by_case None is found = e ∙ ap (map (line_shown size)) (sym (range_past lines from at to le lt is))
    by_case (Some line) is found = cc

-- ---- all rows of a terminal

abbrev no_row : List Shown
no_row = []

replicate_more : (k : ℕ) → replicate (suc k) no_row ≡ replicate k no_row ++ no_row ∷ []
replicate_more zero = refl
replicate_more (suc k) = ap (λ (l : List (List Shown)). no_row ∷ l) (replicate_more k)

-- no empty row yet
pub pad_none : (rows : List (List Shown)) → rows ≡ rows ++ replicate 0 []
pad_none rows = sym (append-nil rows)

-- one empty row more
pub pad_one : (first rows : List (List Shown)) (n : ℕ) → rows ≡ first ++ replicate n []
    → rows ++ [] ∷ [] ≡ first ++ replicate (n + 1) []
pad_one first rows n e =
    ap (λ (l : List (List Shown)). l ++ [] ∷ []) e
    ∙ append_assoc first (replicate n []) ([] ∷ [])
    ∙ ap (λ (l : List (List Shown)). first ++ l) (sym (replicate_more n))
    ∙ ap (λ (k : ℕ). first ++ replicate k no_row) (sym (add-one n))

-- a status line more
pub few_rows : (room : ℕ) (above : List (List Shown)) (status : List Shown) → room < 65535
    → length (padded room (take room above) ++ status ∷ []) < 65536
few_rows room above status few =
    let front = take room above in
    let missing = replicate (room - length front) no_row in
    let outer : length (padded room front ++ status ∷ []) ≡ length (padded room front) + 1 =
    length-append (padded room front) (status ∷ []) in
    let inner : length (padded room front) ≡ length front + length missing = length-append front missing in
    let rest : length missing ≡ room - length front = length-replicate (room - length front) no_row in
    let cut : length front ≡ min room (length above) = length-take room above in
    omega (arith, outer, inner, rest, cut, few)
