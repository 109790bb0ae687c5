-- What the code adds to what is shown so far.
use Rattle.std.specs.Prelude.{◌≡◌, ℕ, ◌+◌, map, length, Bool, true, false, List, [], ◌∷◌, ◌++◌, Option, None, option_and_then, ℤ, codes}
use Rattle.tx_prim.specs.Lengths.{length_of}
use Rattle.tx_origin.specs.Values.{WideValue, WideValues, text, made, none, also, vals, value_text}
use Rattle.tx_table.specs.Grids.{grid_of}
use Rattle.tx_items.specs.declared.attributes.Attrs.{Attrs}
use Rattle.tx_items.specs.declared.drawing.Item.{Item}
use Rattle.tx_items.specs.declared.drawing.Paragraph.{Paragraph}
use Rattle.tx_items.specs.declared.drawing.ErrorAt.{ErrorAt}
use Rattle.tx_items.specs.declared.showing.Showing.{Showing}
use Rattle.tx_items.specs.Attributes.{with_named, given_back, attribute_in}
use Rattle.tx_items.specs.Shows.{begun, ItemRun, empty, run_of, beside, whole_run, run_ended, Form, inline, listed}
use Rattle.tx_items.specs.Shows.{Shown, items_in, shown_rows, show_all, show_below, bad}
use Rattle.tx_items.specs.Shows.{tabular_shown}
use Rattle.tx_items.specs.Tables.{ShownRow, missing_gap, gap_before, levels_of}
use Rattle.tx_items.specs.Shows.{AllShown, all_inline, side_by_side, paragraphs_of, one_by_one, behind_bar, or_one}
use Rattle.tx_items.specs.Drawing.{drawn}
use Rattle.tx_items.specs.declared.drawing.Item.TheVariants.{Gap, Down as Lower}
use Rattle.tx_items.specs.declared.showing.Space.{Space}
use Rattle.tx_items.specs.declared.showing.Space.TheVariants.{Across, Down}

-- what is shown so far: the finished paragraphs, and the run that may still grow
pub record State : Type 0 where
  pub attrs : Attrs
  pub run : ItemRun
  pub paragraphs : List Paragraph
  pub errors : List ErrorAt

abbrev pub state_of : Showing → State
state_of s = record {
  attrs = s.attrs;
  run = run_of s.first s.run.items;
  paragraphs = s.paragraphs.items;
  errors = s.errors.items;
}

-- items go after the run; a list is after no run, and its last run may still be open
abbrev pub Adds : Form → State → State → Type 0
Adds (inline r) s u = (u.run ≡ beside s.run r) × (u.paragraphs ≡ s.paragraphs)
Adds (listed ps) s u = s.run ≡ empty → u.paragraphs ++ run_ended u.run ≡ s.paragraphs ++ ps

pub record HasShown (one : Shown) (s u : State) : Type 0 where
  pub after : u.attrs ≡ one.after
  pub errors : u.errors ≡ s.errors ++ one.errors
  pub adds : Adds one.form s u

-- several values are added: each list ends the run before it and its own
pub record ShowsForms (fs : List (Form × Attrs)) (s u : State) : Type 0 where
  pub pars : (rest : List (Form × Attrs))
      → u.paragraphs ++ paragraphs_of u.run rest ≡ s.paragraphs ++ paragraphs_of s.run (fs ++ rest)
  pub side : all_inline fs ≡ true → (u.run ≡ beside s.run (side_by_side fs)) × (u.paragraphs ≡ s.paragraphs)

pub record HasRun (all : AllShown) (s u : State) : Type 0 where
  pub after : u.attrs ≡ all.after
  pub errors : u.errors ≡ s.errors ++ all.errors
  pub goes : ShowsForms all.each s u

-- several values are added after no run, each as paragraphs of its own
pub record HasPars (all : AllShown) (s u : State) : Type 0 where
  pub after : u.attrs ≡ all.after
  pub errors : u.errors ≡ s.errors ++ all.errors
  pub pars : s.run ≡ empty → (u.run ≡ empty) × (u.paragraphs ≡ s.paragraphs ++ one_by_one all.each)

-- the attributes at the first item of what will be the run
abbrev pub attrs_of_first : List Item → Attrs → Attrs → Attrs
attrs_of_first [] first attrs = attrs
attrs_of_first (x ∷ xs) first attrs = first

pub record EndsRun (s u : State) : Type 0 where
  pub attrs : u.attrs ≡ s.attrs
  pub errors : u.errors ≡ s.errors
  pub run : u.run ≡ empty
  pub paragraphs : u.paragraphs ≡ s.paragraphs ++ run_ended s.run

pub record EndsParagraph (s u : State) : Type 0 where
  pub attrs : u.attrs ≡ s.attrs
  pub errors : u.errors ≡ s.errors
  pub run : u.run ≡ empty
  pub paragraphs : u.paragraphs ≡ s.paragraphs ++ whole_run s.run s.attrs ∷ []

-- a bar, or none
abbrev pub bar_of : Bool → Attrs → AllShown
bar_of barred a = record { each = behind_bar barred a []; after = a; errors = [] }

-- the attributes are these, and nothing else is changed
pub record HasAttrs (attrs : Attrs) (s u : State) : Type 0 where
  pub attrs_are : u.attrs ≡ attrs
  pub run : u.run ≡ s.run
  pub paragraphs : u.paragraphs ≡ s.paragraphs
  pub errors : u.errors ≡ s.errors

-- the attributes after pairs of a name and a value
abbrev pub set_by_pairs : Attrs → WideValues → Attrs
set_by_pairs a none = a
set_by_pairs a (also v none) = a
set_by_pairs a (also x (also v vs)) = set_by_pairs (with_named (attribute_in (value_text x)) (value_text v) a) vs

-- those that pairs name are what they were before, those of the first pair last
abbrev pub given_back_by_pairs : WideValues → Attrs → Attrs → Attrs
given_back_by_pairs none before a = a
given_back_by_pairs (also v none) before a = a
given_back_by_pairs (also x (also v vs)) before a =
    given_back (attribute_in (value_text x)) before (given_back_by_pairs vs before a)

-- the paragraphs at the end of a unit that shows as a list, or in a line
abbrev pub finished : Bool → State → List Paragraph
finished false s = s.paragraphs ++ whole_run s.run s.attrs ∷ []
finished true s = or_one s.attrs (s.paragraphs ++ run_ended s.run)

pub record Finishes (is_list : Bool) (s u : State) : Type 0 where
  pub errors : u.errors ≡ s.errors
  pub paragraphs : u.paragraphs ≡ finished is_list s

abbrev pub is_nothing : ItemRun → Bool
is_nothing empty = true
is_nothing (begun a items) = false

-- the paragraphs at the end of a part of a unit that shows as a list, or in a line
abbrev pub part_finished : Bool → State → List Paragraph
part_finished false s = s.paragraphs ++ whole_run s.run s.attrs ∷ []
part_finished true s = s.paragraphs ++ run_ended s.run

pub record FinishesPart (is_list : Bool) (s u : State) : Type 0 where
  pub attrs : u.attrs ≡ s.attrs
  pub errors : u.errors ≡ s.errors
  pub paragraphs : u.paragraphs ≡ part_finished is_list s

-- what a tag that nothing says how to show begins with
abbrev pub tag_front : Attrs → List ℕ → List Item
tag_front a label = drawn a None (codes "<less>") ++ drawn a None label

abbrev pub space_item : Space → ℕ → Item
space_item Across cells = Gap cells
space_item Down cells = Lower cells

-- the length that is the one part
abbrev pub length_alone : WideValues → Option ℤ
length_alone none = None
length_alone (also v none) = option_and_then length_of (value_text v)
length_alone (also v (also w vs)) = None

-- ---- tables

-- several values are shown after no run, each as a cell, and leave no run
pub record HasCells (all : AllShown) (s u : State) (cells : List (List Item)) : Type 0 where
  pub after : u.attrs ≡ all.after
  pub errors : u.errors ≡ s.errors ++ all.errors
  pub long : length cells ≡ length all.each
  pub shown : s.run ≡ empty
      → (u.run ≡ empty) × (u.paragraphs ≡ s.paragraphs) × (cells ≡ map (λ f. items_in f.0) all.each)

abbrev pub all_cells : List (List WideValue) → List WideValue
all_cells [] = []
all_cells (row ∷ rows) = row ++ all_cells rows

-- rows of cells are shown after no run, and leave no run
pub record HasRows (rows : List (List WideValue)) (s u : State) (shown : List ShownRow) : Type 0 where
  pub after : u.attrs ≡ (show_all false s.attrs (vals (all_cells rows))).after
  pub errors : u.errors ≡ s.errors ++ (show_all false s.attrs (vals (all_cells rows))).errors
  pub long : map (λ r. length r.1) shown ≡ map length rows
  pub are : s.run ≡ empty
      → (u.run ≡ empty) × (u.paragraphs ≡ s.paragraphs)
      × (shown ≡ shown_rows (map length rows) s.attrs (show_all false s.attrs (vals (all_cells rows))).each)

-- the rows become paragraphs
pub record AddsParagraphs (ps : List Paragraph) (s u : State) : Type 0 where
  pub attrs : u.attrs ≡ s.attrs
  pub run : u.run ≡ s.run
  pub errors : u.errors ≡ s.errors
  pub paragraphs : u.paragraphs ≡ s.paragraphs ++ ps

-- the cells of columns, with a gap of 2 before each
abbrev pub gaps_and_columns : List ℕ → ℕ
gaps_and_columns [] = 0
gaps_and_columns (n ∷ ns) = 2 + n + gaps_and_columns ns

-- a row by the pads of its cells, from the j-th on
abbrev pub padded_from : ℕ → List ℕ → List ℕ → List ℕ → List (List Item) → List Item
padded_from j columns left right [] = missing_gap columns
padded_from j (n ∷ ns) (l ∷ ls) (r ∷ rs) (x ∷ xs) =
    gap_before j ++ (Gap l ∷ (x ++ Gap r ∷ [])) ++ padded_from (j + 1) ns ls rs xs
padded_from j columns left right (x ∷ xs) = []

-- what a `tabular` shows
abbrev pub table_shown : Attrs → List ℕ → WideValue → Shown
table_shown a label (text words at) = bad a label
table_shown a label (made l vs at) =
    tabular_shown a label (grid_of (made l vs at)) (show_below (levels_of vs) a vs)
