-- The sides of a table are the same where its value is under a path.
use Rattle.std.proofs.Common.{◌≡◌, ℕ, ◌+◌, max, Bool, true, false, List, [], ◌∷◌, map, length, Option, Some, None}
use Rattle.std.proofs.Common.{refl, ap, ap₂, sym, ◌∙◌}
use Rattle.std.proofs.lemmas.List.{length-map}
use Rattle.std.specs.Prelude.{if◌then◌else◌, option_and_then, codes}
use Rattle.std.specs.List.{enumerate_from, filter_map}
use Rattle.std.specs.Option.{option_map}
use Rattle.std.specs.Str.{bytes_eq}
use Rattle.tx_origin.specs.Values.{WideValue, WideValues, text, made, none, also, each_of, value_text}
use Rattle.tx_origin.specs.Under.{value_under, values_under}
use Rattle.tx_table.specs.declared.grids.Grid.{Grid}
use Rattle.tx_table.specs.declared.settings.Side.{Side}
use Rattle.tx_table.specs.Settings.{parts_if, span_of, side_in, side_named, is_text, setting_by, setting_from}
use Rattle.tx_table.specs.Settings.{setting_of, row_sides, sides_of, settings_in}
use Rattle.tx_table.specs.Grids.{all_some, some_of, one_of, cell_value, some_parts, row_cells, table_rows}
use Rattle.tx_table.specs.Grids.{column_count, before_last, last_of, grid_with, table_grid, format_grid, grid_of}

abbrev all_some_of : {X : Type 0} → Option X → Option (List X) → Option (List X)
all_some_of None os = None
all_some_of (Some x) os = option_map (λ xs. x ∷ xs) os

all_some_is : {X : Type 0} (o : Option X) (os : List (Option X)) → all_some (o ∷ os) ≡ all_some_of o (all_some os)
all_some_is None os = refl
all_some_is (Some x) os = refl

-- one before others, or none
abbrev filtered : {X : Type 0} → Option X → List X → List X
filtered None xs = xs
filtered (Some x) xs = x ∷ xs

filter_first : {X : Type 0} (f : WideValue → Option X) (v : WideValue) (vs : List WideValue)
    → filter_map f (v ∷ vs) ≡ filtered (f v) (filter_map f vs)
filter_first {X = X} f v vs = pick (f v) refl
  where
    pick : (o : Option X) → f v ≡ o → filter_map f (v ∷ vs) ≡ filtered o (filter_map f vs)
    pick None e = rw e refl
    pick (Some s) e = rw e refl

module _ (base : List ℕ) where
  abbrev Under : WideValue → WideValue
  Under v = value_under base v

  each_under : (vs : WideValues) → each_of (values_under base vs) ≡ map Under (each_of vs)
  each_under none = refl
  each_under (also v vs) = ap (λ us. Under v ∷ us) (each_under vs)

  text_under : (v : WideValue) → value_text (Under v) ≡ value_text v
  text_under (text words at) = refl
  text_under (made label vs at) = refl

  parts_under : (label : List ℕ) (v : WideValue) → parts_if label (Under v) ≡ option_map (map Under) (parts_if label v)
  parts_under label (text words at) = refl
  parts_under label (made l vs at) = pick (bytes_eq l label)
    where
      pick : (b : Bool) → (if b then Some (each_of (values_under base vs)) else None)
          ≡ option_map (map Under) (if b then Some (each_of vs) else None)
      pick true = ap Some (each_under vs)
      pick false = refl

  -- ---- cells

  then_mapped : {X Y : Type 0} (f : X → X) (g : Y → Y) (h : X → Option Y) (o o' : Option X)
      → ((x : X) → h (f x) ≡ option_map g (h x)) → o' ≡ option_map f o
      → option_and_then h o' ≡ option_map g (option_and_then h o)
  then_mapped f g h None o' k e = ap (option_and_then h) e
  then_mapped f g h (Some x) o' k e = ap (option_and_then h) e ∙ k x

  all_mapped : {X : Type 0} (g : X → X) (h : WideValue → Option X) → ((v : WideValue) → h (Under v) ≡ option_map g (h v))
      → (vs : List WideValue) → all_some (map h (map Under vs)) ≡ option_map (map g) (all_some (map h vs))
  all_mapped g h k [] = refl
  all_mapped {X = X} g h k (v ∷ vs) =
      all_some_is (h (Under v)) (map h (map Under vs))
      ∙ ap (λ o. all_some_of o (all_some (map h (map Under vs)))) (k v)
      ∙ pick (h v) (all_some (map h (map Under vs))) (all_some (map h vs)) (all_mapped g h k vs)
      ∙ ap (option_map (map g)) (sym (all_some_is (h v) (map h vs)))
    where
      pick : (o : Option X) (p q : Option (List X)) → p ≡ option_map (map g) q
          → all_some_of (option_map g o) p ≡ option_map (map g) (all_some_of o q)
      pick None p q e = refl
      pick (Some x) p None e = ap (option_map (λ xs. g x ∷ xs)) e
      pick (Some x) p (Some xs) e = ap (option_map (λ ys. g x ∷ ys)) e

  one_mapped : (vs : List WideValue) → one_of (map Under vs) ≡ option_map Under (one_of vs)
  one_mapped [] = refl
  one_mapped (v ∷ []) = refl
  one_mapped (v ∷ (w ∷ vs)) = refl

  some_mapped : (vs : List WideValue) → some_of (map Under vs) ≡ option_map (map Under) (some_of vs)
  some_mapped [] = refl
  some_mapped (v ∷ vs) = refl

  cell_under : (v : WideValue) → cell_value (Under v) ≡ option_map Under (cell_value v)
  cell_under v =
      then_mapped (map Under) Under one_of (parts_if (codes "cell") v) (parts_if (codes "cell") (Under v)) one_mapped
      (parts_under (codes "cell") v)

  some_under : (label : List ℕ) (v : WideValue)
      → some_parts label (Under v) ≡ option_map (map Under) (some_parts label v)
  some_under label v =
      then_mapped (map Under) (map Under) some_of (parts_if label v) (parts_if label (Under v)) some_mapped
      (parts_under label v)

  row_under : (v : WideValue) → row_cells (Under v) ≡ option_map (map Under) (row_cells v)
  row_under v =
      then_mapped (map Under) (map Under) (λ vs. all_some (map cell_value vs)) (some_parts (codes "row") v)
      (some_parts (codes "row") (Under v)) (all_mapped Under cell_value cell_under) (some_under (codes "row") v)

  rows_under : (v : WideValue) → table_rows (Under v) ≡ option_map (map (map Under)) (table_rows v)
  rows_under v =
      then_mapped (map Under) (map (map Under)) (λ vs. all_some (map row_cells vs)) (some_parts (codes "table") v)
      (some_parts (codes "table") (Under v)) (all_mapped (map Under) row_cells row_under) (some_under (codes "table") v)

  -- ---- sides

  side_under : (v : WideValue) → side_in (Under v) ≡ side_in v
  side_under (text words at) = refl
  side_under (made label vs at) = refl

  is_under : (words : List ℕ) (v : WideValue) → is_text words (Under v) ≡ is_text words v
  is_under words (text bytes at) = refl
  is_under words (made label vs at) = refl

  span_under : (n : ℕ) (a b : WideValue) → span_of n (Under a) (Under b) ≡ span_of n a b
  span_under n (text a p) (text b q) = refl
  span_under n (text a p) (made l vs q) = refl
  span_under n (made l vs p) (text b q) = refl
  span_under n (made k us p) (made l vs q) = refl

  from_under : (rows columns : ℕ) (vs : List WideValue)
      → setting_from rows columns (map Under vs) ≡ setting_from rows columns vs
  from_under rows columns [] = refl
  from_under rows columns (a ∷ []) = refl
  from_under rows columns (a ∷ (b ∷ [])) = refl
  from_under rows columns (a ∷ (b ∷ (c ∷ []))) = refl
  from_under rows columns (a ∷ (b ∷ (c ∷ (d ∷ [])))) = refl
  from_under rows columns (a ∷ (b ∷ (c ∷ (d ∷ (name ∷ []))))) = refl
  from_under rows columns (a ∷ (b ∷ (c ∷ (d ∷ (name ∷ (side ∷ [])))))) =
      ap (λ x. if x then setting_by (span_of rows (Under a) (Under b)) (span_of columns (Under c) (Under d))
      (side_in (Under side)) else None) (is_under (codes "cell-halign") name)
      ∙ ap (λ x. if is_text (codes "cell-halign") name then setting_by x (span_of columns (Under c) (Under d))
      (side_in (Under side)) else None) (span_under rows a b)
      ∙ ap (λ x. if is_text (codes "cell-halign") name then setting_by (span_of rows a b) x (side_in (Under side))
      else None) (span_under columns c d)
      ∙ ap (λ x. if is_text (codes "cell-halign") name then setting_by (span_of rows a b) (span_of columns c d) x
      else None) (side_under side)
  from_under rows columns (a ∷ (b ∷ (c ∷ (d ∷ (name ∷ (side ∷ (more ∷ vs))))))) = refl

  setting_under : (rows columns : ℕ) (v : WideValue) → setting_of rows columns (Under v) ≡ setting_of rows columns v
  setting_under rows columns v =
      ap (option_and_then (setting_from rows columns)) (parts_under (codes "cwith") v)
      ∙ pick (parts_if (codes "cwith") v)
    where
      pick : (o : Option (List WideValue)) → option_and_then (setting_from rows columns) (option_map (map Under) o)
          ≡ option_and_then (setting_from rows columns) o
      pick None = refl
      pick (Some vs) = from_under rows columns vs

  settings_under : (rows columns : ℕ) (vs : List WideValue)
      → settings_in rows columns (map Under vs) ≡ settings_in rows columns vs
  settings_under rows columns [] = refl
  settings_under rows columns (v ∷ vs) =
      filter_first (setting_of rows columns) (Under v) (map Under vs)
      ∙ ap (λ o. filtered o (settings_in rows columns (map Under vs))) (setting_under rows columns v)
      ∙ ap (filtered (setting_of rows columns v)) (settings_under rows columns vs)
      ∙ sym (filter_first (setting_of rows columns) v vs)

  count_under : (rows : List (List WideValue)) → column_count (map (map Under) rows) ≡ column_count rows
  count_under [] = refl
  count_under (row ∷ rows) = ap₂ max (length-map row Under) (count_under rows)

  sides_under : (f : ℕ → ℕ → List Side) (k : ℕ) (rows : List (List WideValue))
      → map (λ row. f row.0 (length row.1)) (enumerate_from k (map (map Under) rows))
      ≡ map (λ row. f row.0 (length row.1)) (enumerate_from k rows)
  sides_under f k [] = refl
  sides_under f k (row ∷ rows) =
      ap₂ {C = List (List Side)} (λ n ss. f k n ∷ ss) (length-map row Under) (sides_under f (k + 1) rows)

  abbrev sides_in : Option Grid → Option (List (List Side))
  sides_in o = option_map (λ g. g.sides) o

  with_under : (sets : List WideValue) (rows : List (List WideValue))
      → (grid_with (map Under sets) (map (map Under) rows)).sides ≡ (grid_with sets rows).sides
  with_under sets rows =
      ap₂ (λ n m. sides_of (settings_in n m (map Under sets)) (map (map Under) rows)) (length-map rows (map Under))
      (count_under rows)
      ∙ ap (λ ss. sides_of ss (map (map Under) rows)) (settings_under (length rows) (column_count rows) sets)
      ∙ sides_under (row_sides (settings_in (length rows) (column_count rows) sets)) 0 rows

  table_under : (sets : List WideValue) (v : WideValue)
      → sides_in (table_grid (map Under sets) (Under v)) ≡ sides_in (table_grid sets v)
  table_under sets v =
      ap (λ o. sides_in (option_map (grid_with (map Under sets)) o)) (rows_under v) ∙ pick (table_rows v)
    where
      pick : (o : Option (List (List WideValue)))
          → sides_in (option_map (grid_with (map Under sets)) (option_map (map (map Under)) o))
          ≡ sides_in (option_map (grid_with sets) o)
      pick None = refl
      pick (Some rows) = ap Some (with_under sets rows)

  before_under : (vs : List WideValue) → before_last (map Under vs) ≡ map Under (before_last vs)
  before_under [] = refl
  before_under (v ∷ []) = refl
  before_under (v ∷ (w ∷ vs)) = ap (λ us. Under v ∷ us) (before_under (w ∷ vs))

  last_under : (vs : List WideValue) → last_of (map Under vs) ≡ option_map Under (last_of vs)
  last_under [] = refl
  last_under (v ∷ []) = refl
  last_under (v ∷ (w ∷ vs)) = last_under (w ∷ vs)

  format_under : (v : WideValue) → sides_in (format_grid (Under v)) ≡ sides_in (format_grid v)
  format_under (text words at) = refl
  format_under (made label vs at) = pick (bytes_eq label (codes "tformat"))
    where
      last : (o : Option WideValue)
          → sides_in (option_and_then (table_grid (map Under (before_last (each_of vs)))) (option_map Under o))
          ≡ sides_in (option_and_then (table_grid (before_last (each_of vs))) o)
      last None = refl
      last (Some v) = table_under (before_last (each_of vs)) v

      format : (us : List WideValue) → us ≡ map Under (each_of vs)
          → sides_in (option_and_then (table_grid (before_last us)) (last_of us))
          ≡ sides_in (option_and_then (table_grid (before_last (each_of vs))) (last_of (each_of vs)))
      format us e =
          ap (λ ws. sides_in (option_and_then (table_grid (before_last ws)) (last_of ws))) e
          ∙ ap₂ (λ ws o. sides_in (option_and_then (table_grid ws) o)) (before_under (each_of vs))
          (last_under (each_of vs))
          ∙ last (last_of (each_of vs))

      pick : (b : Bool) → sides_in (if b
          then option_and_then (table_grid (before_last (each_of (values_under base vs))))
          (last_of (each_of (values_under base vs)))
          else table_grid [] (Under (made label vs at)))
          ≡ sides_in (if b then option_and_then (table_grid (before_last (each_of vs))) (last_of (each_of vs))
          else table_grid [] (made label vs at))
      pick true = format (each_of (values_under base vs)) (each_under vs)
      pick false = table_under [] (made label vs at)

  pub grid_under : (v : WideValue) → sides_in (grid_of (Under v)) ≡ sides_in (grid_of v)
  grid_under v =
      ap (λ o. sides_in (option_and_then format_grid o))
      (then_mapped (map Under) Under one_of (parts_if (codes "tabular") v) (parts_if (codes "tabular") (Under v))
      one_mapped (parts_under (codes "tabular") v))
      ∙ pick (option_and_then one_of (parts_if (codes "tabular") v))
    where
      pick : (o : Option WideValue) → sides_in (option_and_then format_grid (option_map Under o))
          ≡ sides_in (option_and_then format_grid o)
      pick None = refl
      pick (Some u) = format_under u
