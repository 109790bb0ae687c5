-- What a value shows as: items in a line, or a list of paragraphs.
use Rattle.std.specs.Prelude.{ℕ, ◌/◌, min, Bool, true, false, not, ◌&&◌, List, [], ◌∷◌, ◌++◌, map, length, take, drop}
use Rattle.std.specs.Prelude.{Option, Some, None, option_and_then, ℤ, pos, negsuc, if◌then◌else◌, codes}
use Rattle.std.specs.List.{list_any}
use Rattle.tx_prim.specs.Lengths.{length_of}
use Rattle.tx_origin.specs.Values.{WideValue, WideValues, text, made, none, also, value_text}
use Rattle.tx_table.specs.declared.grids.Grid.{Grid}
use Rattle.tx_table.specs.declared.settings.Side.{Side}
use Rattle.tx_table.specs.Grids.{grid_of}
use Rattle.tx_items.specs.declared.attributes.Attrs.{Attrs}
use Rattle.tx_items.specs.declared.drawing.Item.{Item}
use Rattle.tx_items.specs.declared.drawing.Item.TheVariants.{Gap, Break, PageEnd, Down}
use Rattle.tx_items.specs.declared.drawing.Paragraph.{Paragraph}
use Rattle.tx_items.specs.declared.drawing.ErrorAt.{ErrorAt}
use Rattle.tx_items.specs.Attributes.{with_named, given_back, attribute_in}
use Rattle.tx_items.specs.Drawing.{drawn, paragraph}
use Rattle.tx_items.specs.Tables.{is_cut, ShownRow, table_paragraphs, Level, Every, Final, levels_of}
use Rattle.tx_items.specs.Rules.{Rule, rule_of}
use Rattle.tx_items.specs.Rules as rules

-- ---- runs: items in a line, with the attributes at the first of them

pub data ItemRun : Type 0 where
  empty : ItemRun
  begun : (first : Attrs) → (items : List Item) → ItemRun

abbrev pub run_of : Attrs → List Item → ItemRun
run_of a [] = empty
run_of a (x ∷ xs) = begun a (x ∷ xs)

abbrev pub beside : ItemRun → ItemRun → ItemRun
beside empty r = r
beside (begun a xs) empty = begun a xs
beside (begun a xs) (begun b ys) = begun a (xs ++ ys)

-- a run as a paragraph, before these attributes
abbrev pub whole_run : ItemRun → Attrs → Paragraph
whole_run empty end = paragraph [] end
whole_run (begun a xs) end = paragraph xs a

-- a run with an item is a paragraph
abbrev pub run_ended : ItemRun → List Paragraph
run_ended empty = []
run_ended (begun a xs) = paragraph xs a ∷ []

-- ---- what is shown

pub data Form : Type 0 where
  inline : ItemRun → Form
  listed : List Paragraph → Form

-- what a value shows as, the attributes after it, and its errors
pub record Shown : Type 0 where
  pub form : Form
  pub after : Attrs
  pub errors : List ErrorAt

-- what several values show as, each with the attributes after it, and their errors
pub record AllShown : Type 0 where
  pub each : List (Form × Attrs)
  pub after : Attrs
  pub errors : List ErrorAt

-- one value
abbrev pub one_of : Shown → AllShown
one_of one = record { each = (one.form, one.after) ∷ []; after = one.after; errors = one.errors }

-- values, and others after them
abbrev pub both_shown : AllShown → AllShown → AllShown
both_shown x y = record { each = x.each ++ y.each; after = y.after; errors = x.errors ++ y.errors }

-- no value
abbrev pub nothing_shown : Attrs → AllShown
nothing_shown a = record { each = []; after = a; errors = [] }

abbrev pub is_inline : Form → Bool
is_inline (inline r) = true
is_inline (listed ps) = false

abbrev pub all_inline : List (Form × Attrs) → Bool
all_inline [] = true
all_inline (f ∷ fs) = is_inline f.0 && all_inline fs

abbrev pub side_by_side : List (Form × Attrs) → ItemRun
side_by_side [] = empty
side_by_side ((inline r, a) ∷ fs) = beside r (side_by_side fs)
side_by_side ((listed ps, a) ∷ fs) = side_by_side fs

-- after a run: each run with an item is a paragraph, in its place
abbrev pub paragraphs_of : ItemRun → List (Form × Attrs) → List Paragraph
paragraphs_of r [] = run_ended r
paragraphs_of r ((inline q, a) ∷ fs) = paragraphs_of (beside r q) fs
paragraphs_of r ((listed ps, a) ∷ fs) = run_ended r ++ ps ++ paragraphs_of empty fs

-- in a line where all are
abbrev pub joined_forms : List (Form × Attrs) → Form
joined_forms fs = if all_inline fs then inline (side_by_side fs) else listed (paragraphs_of empty fs)

-- each that is in a line is a paragraph, also without an item
abbrev pub one_by_one : List (Form × Attrs) → List Paragraph
one_by_one [] = []
one_by_one ((inline r, a) ∷ fs) = whole_run r a ∷ one_by_one fs
one_by_one ((listed ps, a) ∷ fs) = ps ++ one_by_one fs

-- items that change no attribute
abbrev pub in_line : Attrs → List Item → Shown
in_line a items = record { form = inline (run_of a items); after = a; errors = [] }

-- ---- errors

abbrev pub made_error : List ℕ → List ℕ → ErrorAt
made_error kind detail = record { kind = kind; detail = detail }

-- text that is made has no place
abbrev pub error_items : Attrs → List ℕ → List ℕ → List Item
error_items a kind [] = drawn a None (codes "<less>!") ++ drawn a None kind ++ drawn a None (codes "<gtr>")
error_items a kind (d ∷ detail) =
    drawn a None (codes "<less>!") ++ drawn a None kind ++ drawn a None (codes " ") ++ drawn a None (d ∷ detail)
    ++ drawn a None (codes "<gtr>")

abbrev pub failed : Attrs → List ℕ → List ℕ → Shown
failed a kind detail =
    record {
      form = inline (run_of a (error_items a kind detail));
      after = a;
      errors = made_error kind detail ∷ [];
    }

-- the parts aren't as the rule of the label wants
abbrev pub bad : Attrs → List ℕ → Shown
bad a label = failed a (codes "bad") label

-- ---- rules, each with its label and its parts

abbrev pub concat_shown : AllShown → Shown
concat_shown all = record { form = joined_forms all.each; after = all.after; errors = all.errors }

abbrev pub document_shown : AllShown → Shown
document_shown all = record { form = listed (one_by_one all.each); after = all.after; errors = all.errors }

-- without an odd number of parts there is no last one after pairs
abbrev pub with_shown : Attrs → List ℕ → Option Shown → Shown
with_shown a label None = bad a label
with_shown a label (Some s) = s

abbrev pub assign_shown : Attrs → List ℕ → WideValues → Shown
assign_shown a label none = bad a label
assign_shown a label (also x none) = bad a label
assign_shown a label (also x (also v none)) =
    record { form = inline empty; after = with_named (attribute_in (value_text x)) (value_text v) a; errors = [] }
assign_shown a label (also x (also v (also w vs))) = bad a label

-- the whole thousands of a length, from 0 to 500
abbrev pub cells_of_length : ℤ → ℕ
cells_of_length (pos n) = min 500 (n / 1000)
cells_of_length (negsuc n) = 0

abbrev pub space_by : (ℕ → Item) → Attrs → List ℕ → Option ℤ → Shown
space_by item a label None = bad a label
space_by item a label (Some length) = in_line a (item (cells_of_length length) ∷ [])

abbrev pub space_shown : (ℕ → Item) → Attrs → List ℕ → WideValues → Shown
space_shown item a label none = bad a label
space_shown item a label (also v none) = space_by item a label (option_and_then length_of (value_text v))
space_shown item a label (also v (also w vs)) = bad a label

abbrev pub error_by : Attrs → List ℕ → Option (List ℕ) → Option (List ℕ) → Shown
error_by a label (Some kind) (Some detail) = failed a kind detail
error_by a label (Some kind) None = bad a label
error_by a label None detail = bad a label

abbrev pub error_shown : Attrs → List ℕ → WideValues → Shown
error_shown a label none = bad a label
error_shown a label (also k none) = bad a label
error_shown a label (also k (also d none)) = error_by a label (value_text k) (value_text d)
error_shown a label (also k (also d (also e vs))) = bad a label

-- text that is made, with the attributes at its place
abbrev pub made_form : Attrs → List Item → Form × Attrs
made_form a items = (inline (run_of a items), a)

-- like a `concat` of `<` and the label, the parts, each after a bar, and `>`
abbrev pub tag_shown : Attrs → List ℕ → AllShown → Shown
tag_shown a label all =
    record {
      form = joined_forms (
          made_form a (drawn a None (codes "<less>") ++ drawn a None label)
          ∷ (all.each ++ made_form all.after (drawn all.after None (codes "<gtr>")) ∷ [])
          );
      after = all.after;
      errors = made_error (codes "undefined-tag") label ∷ all.errors;
    }

abbrev pub behind_bar : Bool → Attrs → List (Form × Attrs) → List (Form × Attrs)
behind_bar false a fs = fs
behind_bar true a fs = made_form a (drawn a None (codes "|")) ∷ fs

-- ---- tables

abbrev pub run_items : ItemRun → List Item
run_items empty = []
run_items (begun a items) = items

-- the items of what shows in a line
abbrev pub items_in : Form → List Item
items_in (inline r) = run_items r
items_in (listed ps) = []

-- it shows in a line, in which nothing ends a line or a page
abbrev pub fits_cell : Form → Bool
fits_cell (inline r) = not (list_any is_cut (run_items r))
fits_cell (listed ps) = false

abbrev pub cells_fit : List (Form × Attrs) → Bool
cells_fit [] = true
cells_fit (f ∷ fs) = fits_cell f.0 && cells_fit fs

-- the attributes after values, before which these are the ones
abbrev pub after_each : Attrs → List (Form × Attrs) → Attrs
after_each a [] = a
after_each a (f ∷ fs) = after_each f.1 fs

-- rows of so many cells each
abbrev pub shown_rows : List ℕ → Attrs → List (Form × Attrs) → List ShownRow
shown_rows [] a fs = []
shown_rows (n ∷ ns) a fs =
    (a, map (λ f. items_in f.0) (take n fs)) ∷ shown_rows ns (after_each a (take n fs)) (drop n fs)

abbrev pub rows_shown : Attrs → List (List Side) → AllShown → Shown
rows_shown a sides cells = record {
  form = listed (table_paragraphs sides (shown_rows (map length sides) a cells.each));
  after = cells.after;
  errors = cells.errors;
}

-- a row is a paragraph; where the value isn't of the asked form, or a cell doesn't fit, nothing of the cells is shown
abbrev pub tabular_shown : Attrs → List ℕ → Option Grid → AllShown → Shown
tabular_shown a label None cells = bad a label
tabular_shown a label (Some grid) cells =
    if cells_fit cells.each then rows_shown a grid.sides cells else bad a label

-- What a rule shows at a label: by the parts, what they show, each after a bar or not, what the last one shows after
-- pairs, and what they show as a table.
abbrev pub rule_shown : Rule → Attrs → List ℕ → WideValues → (Bool → AllShown) → Option Shown → Shown → Shown
rule_shown rules.Concat a label vs all last table = concat_shown (all false)
rule_shown rules.Document a label vs all last table = document_shown (all false)
rule_shown rules.With a label vs all last table = with_shown a label last
rule_shown rules.Assign a label vs all last table = assign_shown a label vs
rule_shown rules.Silent a label vs all last table = in_line a []
rule_shown rules.NextLine a label vs all last table = in_line a (Break ∷ [])
rule_shown rules.NewPage a label vs all last table = in_line a (PageEnd ∷ [])
rule_shown rules.Hspace a label vs all last table = space_shown Gap a label vs
rule_shown rules.Vspace a label vs all last table = space_shown Down a label vs
rule_shown rules.Error a label vs all last table = error_shown a label vs
rule_shown rules.Tabular a label vs all last table = table
rule_shown rules.Other a label vs all last table = tag_shown a label (all true)

-- what an attribute was before, it is again after what is shown
abbrev pub giving_back : Option (List ℕ) → Attrs → Option Shown → Option Shown
giving_back name before None = None
giving_back name before (Some s) = Some (record s { after = given_back (attribute_in name) before s.after })

-- ---- values

unfoldable mutual
  -- what a value shows, where these are the attributes before it
  pub show : Attrs → WideValue → Shown
  show a (text words at) = in_line a (drawn a at words)
  show a (made label vs at) =
      rule_shown (rule_of label) a label vs (λ barred. show_all barred a vs) (show_with a a vs)
      (tabular_shown a label (grid_of (made label vs at)) (show_below (levels_of vs) a vs))

  -- what values show in order, each after a bar or not
  pub show_all : Bool → Attrs → WideValues → AllShown
  show_all barred a none = record { each = []; after = a; errors = [] }
  show_all barred a (also v vs) =
      let s = show a v in
      let rest = show_all barred s.after vs in
      record {
        each = behind_bar barred a ((s.form, s.after) ∷ rest.each);
        after = rest.after;
        errors = s.errors ++ rest.errors;
      }

  -- what the last value shows after pairs of a name and a value, whose attributes are then what they were before
  pub show_with : Attrs → Attrs → WideValues → Option Shown
  show_with before a none = None
  show_with before a (also v none) = Some (show a v)
  show_with before a (also x (also v vs)) =
      giving_back (value_text x) before
      (show_with before (with_named (attribute_in (value_text x)) (value_text v) a) vs)

  -- what the contents of the cells of a table show, in order, where these levels lead from the values down to them
  pub show_below : List Level → Attrs → WideValues → AllShown
  show_below levels a none = nothing_shown a
  show_below [] a (also v none) = one_of (show a v)
  show_below [] a (also x (also v vs)) = nothing_shown a
  show_below (Every ∷ levels) a (also (text words at) vs) = show_below (Every ∷ levels) a vs
  show_below (Every ∷ levels) a (also (made label ws at) vs) =
      both_shown (show_below levels a ws) (show_below (Every ∷ levels) (show_below levels a ws).after vs)
  show_below (Final ∷ levels) a (also (text words at) none) = nothing_shown a
  show_below (Final ∷ levels) a (also (made label ws at) none) = show_below levels a ws
  show_below (Final ∷ levels) a (also x (also v vs)) = show_below (Final ∷ levels) a (also v vs)

-- ---- units

-- an empty list of paragraphs is one empty paragraph
abbrev pub or_one : Attrs → List Paragraph → List Paragraph
or_one end [] = paragraph [] end ∷ []
or_one end (p ∷ ps) = p ∷ ps

-- what is in a line is one paragraph
abbrev pub unit_paragraphs : Form → Attrs → List Paragraph
unit_paragraphs (inline r) end = whole_run r end ∷ []
unit_paragraphs (listed ps) end = or_one end ps

-- the paragraphs of a unit
abbrev pub shown_paragraphs : Attrs → WideValue → List Paragraph
shown_paragraphs a v = unit_paragraphs (show a v).form (show a v).after

-- ---- parts of units

-- it shows in a line, without an item
abbrev pub is_blank : Form → Bool
is_blank (inline empty) = true
is_blank (inline (begun a items)) = false
is_blank (listed ps) = false

-- the paragraphs of a part, where it has these attributes after it as a paragraph without an item
abbrev pub part_paragraphs : Form → Attrs → List Paragraph
part_paragraphs x end = one_by_one ((x, end) ∷ [])
