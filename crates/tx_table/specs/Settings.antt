-- The sides of the cells of a table, as the `cwith`s of its `tformat` set them.
use Rattle.std.specs.Prelude.{ℕ, zero, suc, ◌-◌, nat_le, nat_lt, Bool, false, ◌&&◌}
use Rattle.std.specs.Prelude.{List, [], ◌∷◌, map, length, Option, Some, None, option_and_then, if◌then◌else◌, codes}
use Rattle.std.specs.Prelude.{ℤ, pos, negsuc}
use Rattle.std.specs.List.{fold, filter_map, enumerate_from, range_with_len}
use Rattle.std.specs.Option.{option_map, option_map_or, option_zip}
use Rattle.std.specs.Str.{bytes_eq}
use Rattle.tx_origin.specs.Values.{WideValue, value_parts, value_text, value_label}
use Rattle.tx_prim.specs.Numbers.{integer_of}
use Rattle.tx_table.specs.declared.settings.Side.{Side}
use Rattle.tx_table.specs.declared.settings.Side.TheVariants.{Left, Center, Right}
use Rattle.tx_table.specs.declared.settings.Setting.{Setting}

-- the parts of a node with this label
abbrev pub parts_if : List ℕ → WideValue → Option (List WideValue)
parts_if label v = option_and_then (λ own. if bytes_eq own label then Some (value_parts v) else None) (value_label v)

-- a number from 1, or from -1 counted from the end, of n, counted from 0; None where it is none of these
abbrev pub place_of : ℕ → ℤ → Option ℕ
place_of n (pos zero) = None
place_of n (pos (suc k)) = if nat_lt k n then Some k else None
place_of n (negsuc k) = if nat_lt k n then Some (n - 1 - k) else None

-- the place that a text writes
abbrev pub place_in : ℕ → WideValue → Option ℕ
place_in n v = option_and_then (place_of n) (option_and_then integer_of (value_text v))

-- a first and a last place, in this order
abbrev pub ordered : ℕ × ℕ → Option (ℕ × ℕ)
ordered p = if nat_le p.0 p.1 then Some p else None

-- from which to which place of n two texts lead
abbrev pub span_of : ℕ → WideValue → WideValue → Option (ℕ × ℕ)
span_of n a b = option_and_then ordered (option_zip (place_in n a) (place_in n b))

abbrev pub side_named : List ℕ → Option Side
side_named name =
    if bytes_eq name (codes "l") then Some Left
    else if bytes_eq name (codes "c") then Some Center
    else if bytes_eq name (codes "r") then Some Right
    else None

abbrev pub side_in : WideValue → Option Side
side_in v = option_and_then side_named (value_text v)

abbrev pub is_text : List ℕ → WideValue → Bool
is_text words v = option_map_or (λ bytes. bytes_eq bytes words) (value_text v) false

abbrev pub setting_with : Side → (ℕ × ℕ) × (ℕ × ℕ) → Setting
setting_with side spans =
    record { top = spans.0.0; bottom = spans.0.1; first = spans.1.0; last = spans.1.1; side = side }

-- the side that is set in these rows and columns
abbrev pub setting_by : Option (ℕ × ℕ) → Option (ℕ × ℕ) → Option Side → Option Setting
setting_by rows columns side =
    option_map (λ s. setting_with s.0 s.1) (option_zip side (option_zip rows columns))

-- six parts: the first and the last row, the first and the last column, `cell-halign` and a side
abbrev pub setting_from : ℕ → ℕ → List WideValue → Option Setting
setting_from rows columns (a ∷ (b ∷ (c ∷ (d ∷ (name ∷ (side ∷ [])))))) =
    if is_text (codes "cell-halign") name
    then setting_by (span_of rows a b) (span_of columns c d) (side_in side)
    else None
setting_from rows columns vs = None

-- what a `cwith` sets in a table of so many rows and columns; any other value sets nothing
abbrev pub setting_of : ℕ → ℕ → WideValue → Option Setting
setting_of rows columns v = option_and_then (setting_from rows columns) (parts_if (codes "cwith") v)

abbrev pub is_inside : Setting → ℕ → ℕ → Bool
is_inside s r c = (nat_le s.top r && nat_le r s.bottom) && (nat_le s.first c && nat_le c s.last)

-- a setting replaces the side before it, where the cell is inside the setting
abbrev pub side_over : ℕ → ℕ → Side → Setting → Side
side_over r c side s = if is_inside s r c then s.side else side

-- the side of a cell: that of the last setting inside which it is, or else the left
abbrev pub side_at : List Setting → ℕ → ℕ → Side
side_at settings r c = fold (side_over r c) Left settings

-- the sides of a row of n cells
abbrev pub row_sides : List Setting → ℕ → ℕ → List Side
row_sides settings r n = map (side_at settings r) (range_with_len 0 n)

-- a side for each given cell
abbrev pub sides_of : List Setting → List (List WideValue) → List (List Side)
sides_of settings rows = map (λ row. row_sides settings row.0 (length row.1)) (enumerate_from 0 rows)

-- what these values set
abbrev pub settings_in : ℕ → ℕ → List WideValue → List Setting
settings_in rows columns vs = filter_map (setting_of rows columns) vs
