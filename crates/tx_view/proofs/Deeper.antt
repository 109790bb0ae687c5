-- Items and lines that are deeper by a path: what covers a column is unchanged.
use Rattle.std.proofs.Common.{◌≡◌, ℕ, ◌+◌, ◌<◌, List, [], ◌∷◌, ◌++◌, length, map, take, drop, get_or, refl, sym, ap}
use Rattle.std.proofs.Common.{ap₂, ◌∙◌, subst}
use Rattle.std.specs.Prelude.{Option, Some, None, option_and_then, slice_get, nat_le, nat_lt, Bool, true, false}
use Rattle.std.specs.Prelude.{if◌then◌else◌}
use Rattle.std.specs.Option.{option_map}
use Rattle.std.proofs.lemmas.Option.{get_or_from_slice_get, slice_get-map}
use Rattle.tx_items.specs.declared.drawing.Item.{Item}
use Rattle.tx_items.specs.declared.drawing.Item.TheVariants.{Glyph, Space, Chance, Gap, Break, PageEnd, Down}
use Rattle.tx_layout.specs.declared.layout.Line.{Line}
use Rattle.tx_items.specs.Cells.{item_cells}
use Rattle.tx_origin.specs.RelativePlaces.{BasedPlace}
use Rattle.tx_part_items.specs.ItemsUnder.{item_under}
use Rattle.tx_part_layout.specs.LinesUnder.{line_under}
use Rattle.tx_unit_layout.specs.Stretches.{WideStretch}
use Rattle.tx_view_form.specs.Cells.{items_before, item_number, item_at, drawn_in, drawn_at}
use Rattle.tx_view_form.specs.Positions.{Mark, mark_of, marks_of, items_on, place_by, place_on, start_of}
use Rattle.tx_view.specs.InUnits.{drawn_under}

pub cells_under : (b : List ℕ) (i : Item) → item_cells (item_under b i) ≡ item_cells i
cells_under b (Glyph d) = refl
cells_under b (Space d) = refl
cells_under b (Chance d) = refl
cells_under b (Gap n) = refl
cells_under b Break = refl
cells_under b PageEnd = refl
cells_under b (Down n) = refl

before_under : (b : List ℕ) (from : ℕ) (is : List Item) (c : ℕ)
    → items_before from (map (item_under b) is) c ≡ items_before from is c
before_under b from [] c = refl
before_under b from (i ∷ is) c =
    ap (λ n. if nat_le (from + n) c then 1 + items_before (from + n) (map (item_under b) is) c else 0) (cells_under b i)
    ∙ ap (λ n. if nat_le (from + item_cells i) c then 1 + n else 0) (before_under b (from + item_cells i) is c)

pub number_under : (b : List ℕ) (l : Line) (c : ℕ) → item_number (line_under b l) c ≡ item_number l c
number_under b l c = before_under b l.indent l.items c

by_test : {A B : Type 0} (f : A → B) (o : Option A) (t : Bool)
    → (if t then None else option_map f o) ≡ option_map f (if t then None else o)
by_test f o true = refl
by_test f o false = refl

pub at_under : (b : List ℕ) (l : Line) (c : ℕ) → item_at (line_under b l) c ≡ option_map (item_under b) (item_at l c)
at_under b l c =
    ap (λ o. if nat_lt c l.indent then None else o)
    (ap (slice_get (map (item_under b) l.items)) (number_under b l c)
    ∙ slice_get-map (item_under b) l.items (item_number l c))
    ∙ by_test (item_under b) (slice_get l.items (item_number l c)) (nat_lt c l.indent)

in_under : (b : List ℕ) (i : Item) → drawn_in (item_under b i) ≡ option_map (drawn_under b) (drawn_in i)
in_under b (Glyph d) = refl
in_under b (Space d) = refl
in_under b (Chance d) = refl
in_under b (Gap n) = refl
in_under b Break = refl
in_under b PageEnd = refl
in_under b (Down n) = refl

each_in_under : (b : List ℕ) (o : Option Item)
    → option_and_then drawn_in (option_map (item_under b) o)
    ≡ option_map (drawn_under b) (option_and_then drawn_in o)
each_in_under b None = refl
each_in_under b (Some i) = in_under b i

pub drawn_at_under : (b : List ℕ) (l : Line) (c : ℕ)
    → drawn_at (line_under b l) c ≡ option_map (drawn_under b) (drawn_at l c)
drawn_at_under b l c = ap (option_and_then drawn_in) (at_under b l c) ∙ each_in_under b (item_at l c)

-- ---- places on a line

-- the mark of the item that covers a column
abbrev pub mark_at : List ℕ → Line → ℕ → Option Mark
mark_at b l c = option_and_then mark_of (option_map (item_under b) (item_at l c))

-- the place of this mark, if there is one, and else the one that is nearest to item n of the line
abbrev pub place_at : List ℕ → List Line → List ℕ → List Item → List Line → Option Mark → ℕ → BasedPlace
place_at path above b is below o n =
    place_by o path (marks_of (items_on above ++ take n (map (item_under b) is)))
    (marks_of (drop n (map (item_under b) is) ++ items_on below))

module _ (path : List ℕ) (above below : List Line) (b : List ℕ) (l : Line) (c : ℕ) where
  place_is : place_on path above (line_under b l) below c
      ≡ place_at path above b l.items below (mark_at b l c) (item_number l c)
  place_is =
      ap₂ (λ o n. place_at path above b l.items below (option_and_then mark_of o) n) (at_under b l c)
      (number_under b l c)

  pub place_covered : (o : Option Mark) (m : Mark) → o ≡ mark_at b l c → o ≡ Some m
      → place_on path above (line_under b l) below c ≡ start_of path m
  place_covered o m e f =
      place_is ∙ ap (λ q. place_at path above b l.items below q (item_number l c)) (sym e ∙ f)

  pub place_between : (o : Option Mark) (is : List Item) (n : ℕ) → o ≡ mark_at b l c → o ≡ None → is ≡ l.items
      → n ≡ item_number l c
      → place_on path above (line_under b l) below c ≡ place_at path above b is below None n
  place_between o is n e f same number =
      place_is ∙ ap (λ q. place_at path above b l.items below q (item_number l c)) (sym e ∙ f)
      ∙ ap₂ (λ js k. place_at path above b js below None k) (sym same) (sym number)

-- the stretch and the line at these numbers
pub the_line : (ss : List WideStretch) (k i : ℕ) (w s : WideStretch) (line d : Line) (F : List ℕ → Line → Type 0)
    → slice_get ss k ≡ Some w → slice_get ss k ≡ Some s → slice_get s.lines i ≡ Some line
    → F w.part (get_or w.lines i d) → F s.part line
the_line ss k i w s line d F e f g h =
    let same : w ≡ s = cc in
    subst (F s.part) (get_or_from_slice_get s.lines i line d g)
    (subst (λ (t : WideStretch). F t.part (get_or t.lines i d)) same h)

-- the stretch at this number has so many lines
pub in_stretch : (ss : List WideStretch) (k i : ℕ) (w : WideStretch) → slice_get ss k ≡ Some w
    → ((s : WideStretch) × (slice_get ss k ≡ Some s) × (i < length s.lines)) → i < length w.lines
in_stretch ss k i w e h =
    let same : h.0 ≡ w = cc in
    subst (λ (t : WideStretch). i < length t.lines) same h.2
