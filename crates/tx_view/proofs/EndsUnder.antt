-- Ends of clusters that are given from the path of a unit or of a part.
use Rattle.std.proofs.Common.{◌≡◌, ℕ, ◌+◌, ◌&&◌, ◌==◌, Bool, true, false, cond, List, [], ◌∷◌, ◌++◌, length, map}
use Rattle.std.proofs.Common.{Option, Some, None, refl, sym, ap, ap₂, ◌∙◌, arith, append-nil}
use Rattle.std.specs.Prelude.{option_and_then}
use Rattle.std.specs.Option.{option_map, option_map_or, option_or}
use Rattle.std.specs.Str.{bytes_eq}
use Rattle.std.proofs.lemmas.Bool.Decides.{Decides-eqb}
use Rattle.std.proofs.lemmas.Slice.Eq.{bytes_eq-Decides}
use Rattle.tx_tree.specs.declared.places.Place.{Place}
use Rattle.tx_origin.specs.Under.{origin_under}
use Rattle.tx_text.specs.declared.cutting.Cluster.{Cluster}
use Rattle.tx_items.specs.declared.drawing.Drawn.{Drawn}
use Rattle.tx_items.specs.declared.drawing.Item.{Item}
use Rattle.tx_items.specs.declared.drawing.Item.TheVariants.{Glyph, Space, Chance, Gap, Break, PageEnd, Down}
use Rattle.tx_items.specs.Cells.{item_cells}
use Rattle.tx_layout.specs.declared.layout.Line.{Line}
use Rattle.tx_part_items.specs.ItemsUnder.{item_under}
use Rattle.tx_part_layout.specs.LinesUnder.{line_under}
use Rattle.tx_view_form.specs.Cells.{drawn_in}
use Rattle.tx_view_form.specs.Positions.{Mark, mark_by, mark_of, marks_of, items_on}
use Rattle.tx_moves.specs.Rows.{Extent, lower, extent_on, extent_in, bare_by, bare_in}
use Rattle.tx_view.specs.declared.ends.End.{End}
use Rattle.tx_view.specs.declared.ends.End.TheVariants.{Start, Stop}
use Rattle.tx_view.specs.Ends.{of_end, end_place, has_end, end_cell, end_on_lines, row_on_lines}
use Rattle.tx_view.proofs.Deeper.{cells_under}

-- ---- paths that begin alike

same_after : (front rest more : List ℕ) → bytes_eq (front ++ rest) (front ++ more) ≡ bytes_eq rest more
same_after [] rest more = refl
same_after (x ∷ xs) rest more =
    ap (λ b. b && bytes_eq (xs ++ rest) (xs ++ more)) ((Decides-eqb x x).1 refl) ∙ same_after xs rest more

-- the path doesn't begin so
abbrev pub NoRest : List ℕ → List ℕ → Type 0
NoRest path front = (rest : List ℕ) → path ≡ front ++ rest → ⊥

differs_after : (front path more : List ℕ) → NoRest path front → bytes_eq path (front ++ more) ≡ false
differs_after front path more lacks = by (bytes_eq path (front ++ more)) refl
  where
    by : (b : Bool) → bytes_eq path (front ++ more) ≡ b → b ≡ false
    by false e = refl
    by true e = absurd (lacks more ((bytes_eq-Decides path (front ++ more)).0 e))

-- ---- an end of a cluster

abbrev pub place_after : List ℕ → ℕ → Place
place_after rest offset = record { path = rest; offset = offset }

abbrev test_by : End → List ℕ → Place → Option Mark → Bool
test_by end path at o =
    option_map_or (λ m. bytes_eq at.path (path ++ m.origin) && (at.offset == of_end end m.start m.stop)) o false

-- of a place below the path of a unit
below_path : (end : End) (path rest : List ℕ) (at : Place) (o : Option Mark) → at.path ≡ path ++ rest
    → test_by end path at o ≡ test_by end [] (place_after rest at.offset) o
below_path end path rest at None e = refl
below_path end path rest at (Some m) e =
    ap (λ b. b && (at.offset == of_end end m.start m.stop))
    (ap (λ p. bytes_eq p (path ++ m.origin)) e ∙ same_after path rest m.origin)

not_below_path : (end : End) (path : List ℕ) (at : Place) (o : Option Mark) → NoRest at.path path
    → test_by end path at o ≡ false
not_below_path end path at None lacks = refl
not_below_path end path at (Some m) lacks =
    ap (λ b. b && (at.offset == of_end end m.start m.stop)) (differs_after path at.path m.origin lacks)

-- the mark of an item that is deeper by a path
abbrev deeper : List ℕ → Mark → Mark
deeper b m = record { origin = b ++ m.origin; start = m.start; stop = m.stop }

mark_deeper : (b : List ℕ) (c : Cluster) (at : Option (List ℕ))
    → mark_by c (origin_under b at) ≡ option_map (deeper b) (mark_by c at)
mark_deeper b c None = refl
mark_deeper b c (Some p) = refl

mark_under : (b : List ℕ) (x : Item) → mark_of (item_under b x) ≡ option_map (deeper b) (mark_of x)
mark_under b (Glyph d) = mark_deeper b d.cluster d.look.at
mark_under b (Space d) = mark_deeper b d.cluster d.look.at
mark_under b (Chance d) = mark_deeper b d.cluster d.look.at
mark_under b (Gap n) = refl
mark_under b Break = refl
mark_under b PageEnd = refl
mark_under b (Down n) = refl

-- of a place below the path of a part
below_part : (end : End) (b rest steps : List ℕ) (offset : ℕ) (o : Option Mark) → steps ≡ b ++ rest
    → test_by end [] (place_after steps offset) (option_map (deeper b) o) ≡ test_by end [] (place_after rest offset) o
below_part end b rest steps offset None e = refl
below_part end b rest steps offset (Some m) e =
    ap (λ t. t && (offset == of_end end m.start m.stop))
    (ap (λ p. bytes_eq p (b ++ m.origin)) e ∙ same_after b rest m.origin)

not_below_part : (end : End) (b steps : List ℕ) (offset : ℕ) (o : Option Mark) → NoRest steps b
    → test_by end [] (place_after steps offset) (option_map (deeper b) o) ≡ false
not_below_part end b steps offset None lacks = refl
not_below_part end b steps offset (Some m) lacks =
    ap (λ t. t && (offset == of_end end m.start m.stop)) (differs_after b steps m.origin lacks)

-- ---- an item

marked : (x : Item) (d : Drawn) (o : List ℕ) → drawn_in x ≡ Some d → d.look.at ≡ Some o
    → mark_of x
    ≡ Some (record { origin = o; start = d.cluster.start; stop = d.cluster.start + d.cluster.len })
marked x d o e f = ap (option_and_then (λ c. mark_by c.cluster c.look.at)) e ∙ ap (mark_by d.cluster) f

and_true : (a b : Bool) → b ≡ true → (a && b) ≡ a
and_true true b e = e
and_true false b e = refl

pub end_here : (end : End) (steps : List ℕ) (offset : ℕ) (x : Item) (d : Drawn) (o : List ℕ) → drawn_in x ≡ Some d
    → d.look.at ≡ Some o → (found : ℕ) → found ≡ of_end end d.cluster.start (d.cluster.start + d.cluster.len)
    → found ≡ offset → bytes_eq steps o ≡ has_end end [] (place_after steps offset) x
end_here end steps offset x d o e f found is same =
    sym (ap (test_by end [] (place_after steps offset)) (marked x d o e f)
    ∙ ap (λ n. bytes_eq steps o && (offset == n)) (sym is)
    ∙ and_true (bytes_eq steps o) (offset == found) ((Decides-eqb offset found).1 (sym same)))

-- ---- tests that agree find the same

abbrev found_if : Bool → ℕ → ℕ → Option Extent → Option Extent
found_if b from cells rest = cond b (Some (record { row = 0; from = from; to = from + cells })) rest

on_under : (f g : Item → Bool) (b : List ℕ) → ((x : Item) → f (item_under b x) ≡ g x) → (from : ℕ) (xs : List Item)
    → extent_on f from (map (item_under b) xs) ≡ extent_on g from xs
on_under f g b same from [] = refl
on_under f g b same from (x ∷ xs) =
    ap (λ n. found_if (f (item_under b x)) from n (extent_on f (from + n) (map (item_under b) xs))) (cells_under b x)
    ∙ ap (λ t. found_if t from (item_cells x) (extent_on f (from + item_cells x) (map (item_under b) xs))) (same x)
    ∙ ap (found_if (g x) from (item_cells x)) (on_under f g b same (from + item_cells x) xs)

in_under : (f g : Item → Bool) (b : List ℕ) → ((x : Item) → f (item_under b x) ≡ g x) → (ls : List Line)
    → extent_in f (map (line_under b) ls) ≡ extent_in g ls
in_under f g b same [] = refl
in_under f g b same (l ∷ ls) =
    ap₂ (λ o p. option_or o (option_map (lower 1) p)) (on_under f g b same l.indent l.items)
    (in_under f g b same ls)

never_on : (from : ℕ) (xs : List Item) → extent_on (λ x. false) from xs ≡ None
never_on from [] = refl
never_on from (x ∷ xs) = never_on (from + item_cells x) xs

never_in : (ls : List Line) → extent_in (λ x. false) ls ≡ None
never_in [] = refl
never_in (l ∷ ls) =
    ap₂ (λ o p. option_or o (option_map (lower 1) p)) (never_on l.indent l.items) (never_in ls)

-- ---- lines of a part

pub ends_in_part : (end : End) (b rest steps : List ℕ) (offset : ℕ) (ls : List Line) → steps ≡ b ++ rest
    → end_on_lines end [] (place_after steps offset) (map (line_under b) ls)
    ≡ end_on_lines end [] (place_after rest offset) ls
ends_in_part end b rest steps offset ls e =
    ap (option_map (end_cell end))
    (in_under (has_end end [] (place_after steps offset)) (has_end end [] (place_after rest offset)) b
    (λ x. ap (test_by end [] (place_after steps offset)) (mark_under b x)
    ∙ below_part end b rest steps offset (mark_of x) e) ls)

pub no_ends_in_part : (end : End) (b steps : List ℕ) (offset : ℕ) (ls : List Line) → NoRest steps b
    → end_on_lines end [] (place_after steps offset) (map (line_under b) ls) ≡ None
no_ends_in_part end b steps offset ls lacks =
    ap (option_map (end_cell end))
    (in_under (has_end end [] (place_after steps offset)) (λ x. false) b
    (λ x. ap (test_by end [] (place_after steps offset)) (mark_under b x)
    ∙ not_below_part end b steps offset (mark_of x) lacks) ls
    ∙ never_in ls)

-- ---- lines of a unit

ends_below : (end : End) (path rest : List ℕ) (at : Place) (ls : List Line) → at.path ≡ path ++ rest
    → end_on_lines end path at ls ≡ end_on_lines end [] (place_after rest at.offset) ls
ends_below end path rest at ls e =
    let same : has_end end path at ≡ has_end end [] (place_after rest at.offset) =
    λ i x. below_path end path rest at (mark_of x) e i in
    ap (λ f. option_map (end_cell end) (extent_in f ls)) same

pub none_below : (end : End) (path : List ℕ) (at : Place) (ls : List Line) → NoRest at.path path
    → extent_in (has_end end path at) ls ≡ None
none_below end path at ls lacks =
    let same : has_end end path at ≡ (λ x. false) = λ i x. not_below_path end path at (mark_of x) lacks i in
    ap (λ f. extent_in f ls) same ∙ never_in ls

-- ---- a unit without marks

abbrev bare_if : Bool → Line → Option Extent
bare_if b line = cond b (Some (record { row = 0; from = line.indent; to = line.indent })) None

bare_below : (path rest : List ℕ) (at : Place) (ms : List Mark) (ls : List Line) → at.path ≡ path ++ rest
    → bare_by ms at path ls ≡ bare_by ms (place_after rest at.offset) [] ls
bare_below path rest at (m ∷ ms) ls e = refl
bare_below path rest at [] [] e = refl
bare_below path rest at [] (l ∷ ls) e =
    ap (λ b. bare_if (b && (at.offset == 0)) l)
    (ap₂ bytes_eq e (sym (append-nil path)) ∙ same_after path rest [])

pub none_bare : (path : List ℕ) (at : Place) (ms : List Mark) (ls : List Line) → NoRest at.path path
    → bare_by ms at path ls ≡ None
none_bare path at (m ∷ ms) ls lacks = refl
none_bare path at [] [] lacks = refl
none_bare path at [] (l ∷ ls) lacks =
    ap (λ b. bare_if (b && (at.offset == 0)) l)
    (ap (bytes_eq at.path) (sym (append-nil path)) ∙ differs_after path at.path [] lacks)

-- ---- the row of a place on the lines of a unit

-- the cells of three ways
abbrev pub either_cell : Option (ℕ × ℕ) → Option (ℕ × ℕ) → Option Extent → Option (ℕ × ℕ)
either_cell o p q = option_or o (option_or p (option_map (λ e. (e.row, e.from)) q))

pub row_below : (path rest : List ℕ) (at : Place) (ls : List Line) → at.path ≡ path ++ rest
    → row_on_lines path at ls ≡ row_on_lines [] (place_after rest at.offset) ls
row_below path rest at ls e =
    ap (λ o. either_cell o (end_on_lines Stop path at ls) (bare_in at path ls)) (ends_below Start path rest at ls e)
    ∙ ap (λ o. either_cell (end_on_lines Start [] (place_after rest at.offset) ls) o (bare_in at path ls))
    (ends_below Stop path rest at ls e)
    ∙ ap (either_cell (end_on_lines Start [] (place_after rest at.offset) ls)
    (end_on_lines Stop [] (place_after rest at.offset) ls))
    (bare_below path rest at (marks_of (items_on ls)) ls e)

pub no_row_below : (path : List ℕ) (at : Place) (ls : List Line) → NoRest at.path path
    → row_on_lines path at ls ≡ None
no_row_below path at ls lacks =
    ap (λ o. either_cell (option_map (end_cell Start) o) (end_on_lines Stop path at ls) (bare_in at path ls))
    (none_below Start path at ls lacks)
    ∙ ap (λ o. either_cell None (option_map (end_cell Stop) o) (bare_in at path ls)) (none_below Stop path at ls lacks)
    ∙ ap (either_cell None None) (none_bare path at (marks_of (items_on ls)) ls lacks)
