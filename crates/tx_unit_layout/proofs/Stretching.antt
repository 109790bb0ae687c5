-- The stretches of a unit: their paragraphs and lines are those of the unit, and clusters in them have short places.
use Rattle.std.proofs.Common.{◌≡◌, ℕ, zero, suc, ◌≤◌, List, [], ◌∷◌, ◌++◌, map, refl, ap, ap₂, sym, ◌∙◌, subst}
use Rattle.std.proofs.Common.{append_assoc, append-nil}
use Rattle.std.specs.Prelude.{◌+◌}
use Rattle.std.specs.Prelude.{Option, Some, None, slice_get}
use Rattle.std.specs.List.{flat_map, All, AllByRecursion}
use Rattle.std.proofs.lemmas.List.Elements.{All-from_recursion, recursion_from_All}
use Rattle.tx_tree.specs.declared.TheConstants.{MOST_TEXT}
use Rattle.tx_origin.specs.Under.{origin_under}
use Rattle.tx_items.specs.declared.drawing.Item.{Item}
use Rattle.tx_items.specs.declared.drawing.Item.TheVariants.{Glyph, Space, Chance, Gap, Break, PageEnd, Down}
use Rattle.tx_items.specs.declared.drawing.Drawn.{Drawn}
use Rattle.tx_items.specs.declared.drawing.Paragraph.{Paragraph}
use Rattle.tx_layout.specs.declared.layout.Line.{Line}
use Rattle.tx_view_form.specs.Positions.{Mark, mark_by, IsShort}
use Rattle.tx_part_items.specs.ItemsUnder.{item_under, look_under, paragraph_under}
use Rattle.tx_part_layout.specs.LinesUnder.{line_under}
use Rattle.tx_part_layout.specs.LaidParts.{paragraphs_placed, lines_placed}
use Rattle.tx_part_layout.specs.declared.laid.PlacedPart.{PlacedPart}
use Rattle.tx_unit_layout.specs.Stretches.{WideStretch, part_stretch, own_stretch, stretches}
use Rattle.tx_unit_layout.specs.Stretches.{stretch_paragraphs, stretch_lines}
use Rattle.tx_unit_layout.specs.Views.{unit_view}
use Rattle.tx_unit_layout.specs.declared.shown.Shown.{Shown}

-- ---- no path changes nothing

origin_none : (at : Option (List ℕ)) → origin_under [] at ≡ at
origin_none None = refl
origin_none (Some p) = refl

drawn_none : (d : Drawn) → record d { look = look_under [] d.look } ≡ d
drawn_none d = ap (λ at. record d { look = record d.look { at = at } }) (origin_none d.look.at)

item_none : (i : Item) → item_under [] i ≡ i
item_none (Glyph d) = ap Glyph (drawn_none d)
item_none (Space d) = ap Space (drawn_none d)
item_none (Chance d) = ap Chance (drawn_none d)
item_none (Gap n) = refl
item_none Break = refl
item_none PageEnd = refl
item_none (Down n) = refl

items_none : (is : List Item) → map (item_under []) is ≡ is
items_none [] = refl
items_none (i ∷ is) = ap₂ (λ x xs. x ∷ xs) (item_none i) (items_none is)

pub paragraphs_none : (ps : List Paragraph) → map (paragraph_under []) ps ≡ ps
paragraphs_none [] = refl
paragraphs_none (p ∷ ps) =
    ap₂ (λ is qs. record p { items = is } ∷ qs) (items_none p.items) (paragraphs_none ps)

pub lines_none : (ls : List Line) → map (line_under []) ls ≡ ls
lines_none [] = refl
lines_none (l ∷ ls) = ap₂ (λ is ks. record l { items = is } ∷ ks) (items_none l.items) (lines_none ls)

-- ---- the unit's paragraphs and lines

stretched : {A : Type 0} (f : PlacedPart → List A) (g : WideStretch → List A)
    → ((p : PlacedPart) → g (part_stretch p) ≡ f p) → (ps : List PlacedPart) (own : WideStretch) (rest : List A)
    → g own ≡ rest → flat_map f ps ++ rest ≡ flat_map g (map part_stretch ps ++ own ∷ [])
stretched f g same [] own rest is = sym is ∙ sym (append-nil (g own))
stretched f g same (p ∷ ps) own rest is =
    append_assoc (f p) (flat_map f ps) rest
    ∙ ap₂ (λ xs ys. xs ++ ys) (sym (same p)) (stretched f g same ps own rest is)

pub unit_paragraphs : (x : Shown) → (unit_view x).paragraphs ≡ flat_map stretch_paragraphs (stretches x)
unit_paragraphs x =
    stretched paragraphs_placed stretch_paragraphs (λ p. refl) x.parts (own_stretch x) x.paragraphs.items
    (paragraphs_none x.paragraphs.items)

pub unit_lines : (x : Shown) → (unit_view x).lines ≡ flat_map stretch_lines (stretches x)
unit_lines x =
    stretched lines_placed stretch_lines (λ p. refl) x.parts (own_stretch x) x.lines (lines_none x.lines)

-- ---- short places

drawn_short : (base : List ℕ) (d : Drawn) (at : Option (List ℕ))
    → ((m : Mark) → mark_by d.cluster (origin_under base at) ≡ Some m → m.stop ≤ MOST_TEXT)
    → (m : Mark) → mark_by d.cluster at ≡ Some m → m.stop ≤ MOST_TEXT
drawn_short base d None h m is = cc
drawn_short base d (Some p) h m is =
    let start : ℕ = d.cluster.start in
    let stop : ℕ = d.cluster.start + d.cluster.len in
    let same : record { origin = p; start = start; stop = stop } ≡ m = cc in
    subst (λ (n : Mark). n.stop ≤ MOST_TEXT) same (h (record { origin = base ++ p; start = start; stop = stop }) refl)

pub item_short : (base : List ℕ) (i : Item) → IsShort (item_under base i) → IsShort i
item_short base (Glyph d) h = drawn_short base d d.look.at h
item_short base (Space d) h = drawn_short base d d.look.at h
item_short base (Chance d) h = drawn_short base d d.look.at h
item_short base (Gap n) h = h
item_short base Break h = h
item_short base PageEnd h = h
item_short base (Down n) h = h

items_short : (base : List ℕ) (is : List Item) → AllByRecursion IsShort (map (item_under base) is)
    → AllByRecursion IsShort is
items_short base [] h = tt
items_short base (i ∷ is) h = (item_short base i h.0, items_short base is h.1)

-- the items of a line are short, if they are so under a path
pub line_short : (base : List ℕ) (is : List Item) → All IsShort (map (item_under base) is) → All IsShort is
line_short base is h =
    All-from_recursion IsShort is
    (items_short base is (recursion_from_All IsShort (map (item_under base) is) h))

abbrev LineShort : Line → Type 0
LineShort line = All IsShort line.items

lines_short : (base : List ℕ) (ls : List Line) → AllByRecursion LineShort (map (line_under base) ls)
    → AllByRecursion LineShort ls
lines_short base [] h = tt
lines_short base (l ∷ ls) h = (line_short base l.items h.0, lines_short base ls h.1)

first_list : {A : Type 0} (P : A → Type 0) (xs ys : List A) → AllByRecursion P (xs ++ ys)
    → AllByRecursion P xs × AllByRecursion P ys
first_list P [] ys h = (tt, h)
first_list P (x ∷ xs) ys h = let rest = first_list P xs ys h.1 in ((h.0, rest.0), rest.1)

stretch_short : (ss : List WideStretch) (i : ℕ) (s : WideStretch) → AllByRecursion LineShort (flat_map stretch_lines ss)
    → slice_get ss i ≡ Some s → AllByRecursion LineShort s.lines
stretch_short [] i s h there = cc
stretch_short (t ∷ ss) zero s h there =
    let same : t ≡ s = cc in
    subst (λ (r : WideStretch). AllByRecursion LineShort r.lines) same
    (lines_short t.part t.lines (first_list LineShort (stretch_lines t) (flat_map stretch_lines ss) h).0)
stretch_short (t ∷ ss) (suc i) s h there =
    stretch_short ss i s (first_list LineShort (stretch_lines t) (flat_map stretch_lines ss) h).1 there

-- if clusters on a unit's lines have short places, so have those on the lines of its stretches
pub short_in_stretch : (x : Shown) (i : ℕ) (s : WideStretch) → All (λ line. All IsShort line.items) (unit_view x).lines
    → slice_get (stretches x) i ≡ Some s → All (λ line. All IsShort line.items) s.lines
short_in_stretch x i s h there =
    All-from_recursion LineShort s.lines
    (stretch_short (stretches x) i s
    (recursion_from_All LineShort (flat_map stretch_lines (stretches x))
    (subst (λ ls. All (λ line. All IsShort line.items) ls) (unit_lines x) h)) there)
