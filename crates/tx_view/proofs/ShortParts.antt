-- Clusters of parts have short places wherever the parts are.
use Rattle.std.proofs.Common.{◌≡◌, ℕ, ◌+◌, ◌≤◌, List, [], ◌∷◌, ◌++◌, map, Option, Some, None, refl, ap, sym, subst}
use Rattle.std.proofs.lemmas.List.Elements.{All-from_recursion, recursion_from_All}
use Rattle.std.specs.List.{flat_map, All, AllByRecursion}
use Rattle.tx_tree.specs.declared.TheConstants.{MOST_TEXT}
use Rattle.tx_origin.specs.Under.{origin_under}
use Rattle.tx_items.specs.declared.drawing.Item.{Item}
use Rattle.tx_items.specs.declared.drawing.Item.TheVariants.{Glyph, Space, Chance, Gap, Break, PageEnd, Down}
use Rattle.tx_items.specs.declared.drawing.Drawn.{Drawn}
use Rattle.tx_view_form.specs.Positions.{Mark, mark_by, IsShort}
use Rattle.tx_part_items.specs.ItemsUnder.{item_under}
use Rattle.tx_part_layout.specs.declared.laid.LaidPart.{LaidPart}
use Rattle.tx_part_layout.specs.declared.laid.PlacedPart.{PlacedPart}
use Rattle.tx_unit_layout.specs.Moving.{WidePart, wide_part, put_at, laid_by}
use Rattle.tx_unit_layout.proofs.Stretching.{line_short}

drawn_deeper : (base : List ℕ) (d : Drawn) (at : Option (List ℕ))
    → ((m : Mark) → mark_by d.cluster at ≡ Some m → m.stop ≤ MOST_TEXT)
    → (m : Mark) → mark_by d.cluster (origin_under base at) ≡ Some m → m.stop ≤ MOST_TEXT
drawn_deeper base d None h m is = cc
drawn_deeper base d (Some p) h m is =
    let start : ℕ = d.cluster.start in
    let stop : ℕ = d.cluster.start + d.cluster.len in
    let same : record { origin = base ++ p; start = start; stop = stop } ≡ m = cc in
    subst (λ (n : Mark). n.stop ≤ MOST_TEXT) same (h (record { origin = p; start = start; stop = stop }) refl)

item_deeper : (base : List ℕ) (i : Item) → IsShort i → IsShort (item_under base i)
item_deeper base (Glyph d) h = drawn_deeper base d d.look.at h
item_deeper base (Space d) h = drawn_deeper base d d.look.at h
item_deeper base (Chance d) h = drawn_deeper base d d.look.at h
item_deeper base (Gap n) h = h
item_deeper base Break h = h
item_deeper base PageEnd h = h
item_deeper base (Down n) h = h

each_deeper : (base : List ℕ) (is : List Item) → AllByRecursion IsShort is
    → AllByRecursion IsShort (map (item_under base) is)
each_deeper base [] h = tt
each_deeper base (i ∷ is) h = (item_deeper base i h.0, each_deeper base is h.1)

items_deeper : (base : List ℕ) (is : List Item) → All IsShort is → All IsShort (map (item_under base) is)
items_deeper base is h =
    All-from_recursion IsShort (map (item_under base) is) (each_deeper base is (recursion_from_All IsShort is h))

-- what has items, lines or paragraphs, and which of these a part has
module _ {L : Type 0} (items : L → List Item) (under : List ℕ → L → L)
    (same : (base : List ℕ) (l : L) → items (under base l) ≡ map (item_under base) (items l))
    (of : LaidPart → List L) where
  abbrev OneShort : L → Type 0
  OneShort l = All IsShort (items l)

  abbrev AreShort : List L → Type 0
  AreShort ls = AllByRecursion OneShort ls

  abbrev IsPartShort : PlacedPart → Type 0
  IsPartShort p = AreShort (of p.laid.value)

  abbrev placed : List PlacedPart → List L
  placed ps = flat_map (λ p. map (under p.path) (of p.laid.value)) ps

  halves : (xs ys : List L) → AreShort (xs ++ ys) → AreShort xs × AreShort ys
  halves [] ys h = (tt, h)
  halves (x ∷ xs) ys h = let rest = halves xs ys h.1 in ((h.0, rest.0), rest.1)

  joined : (xs ys : List L) → AreShort xs → AreShort ys → AreShort (xs ++ ys)
  joined [] ys h g = g
  joined (x ∷ xs) ys h g = (h.0, joined xs ys h.1 g)

  bare : (base : List ℕ) (ls : List L) → AreShort (map (under base) ls) → AreShort ls
  bare base [] h = tt
  bare base (l ∷ ls) h =
      (line_short base (items l) (subst (λ is. All IsShort is) (same base l) h.0), bare base ls h.1)

  deeper : (base : List ℕ) (ls : List L) → AreShort ls → AreShort (map (under base) ls)
  deeper base [] h = tt
  deeper base (l ∷ ls) h =
      (subst (λ is. All IsShort is) (sym (same base l)) (items_deeper base (items l) h.0), deeper base ls h.1)

  parts_short : (ps : List PlacedPart) → AreShort (placed ps) → AllByRecursion IsPartShort ps
  parts_short [] h = tt
  parts_short (p ∷ ps) h =
      let both = halves (map (under p.path) (of p.laid.value)) (placed ps) h in
      (bare p.path (of p.laid.value) both.0, parts_short ps both.1)

  short_parts : (ps : List PlacedPart) → AllByRecursion IsPartShort ps → AreShort (placed ps)
  short_parts [] h = tt
  short_parts (p ∷ ps) h =
      joined (map (under p.path) (of p.laid.value)) (placed ps) (deeper p.path (of p.laid.value) h.0)
      (short_parts ps h.1)

  go_short : (gs : List (Option (List ℕ))) (ps qs : List PlacedPart) → map wide_part qs ≡ laid_by gs ps
      → AllByRecursion IsPartShort ps → AllByRecursion IsPartShort qs
  go_short [] ps [] is h = tt
  go_short [] ps (q ∷ qs) is h = cc
  go_short (g ∷ gs) [] [] is h = tt
  go_short (g ∷ gs) [] (q ∷ qs) is h = cc
  go_short (None ∷ gs) (p ∷ ps) qs is h = go_short gs ps qs is h.1
  go_short (Some r ∷ gs) (p ∷ ps) [] is h = tt
  go_short (Some r ∷ gs) (p ∷ ps) (q ∷ qs) is h =
      let first : wide_part q ≡ put_at r p = cc in
      let rest : map wide_part qs ≡ laid_by gs ps = cc in (
        subst (λ (l : LaidPart). AreShort (of l)) (sym (ap (λ (w : WidePart). w.laid) first)) h.0,
        go_short gs ps qs rest h.1,
      )

  pub each_part_short : (ps : List PlacedPart) (rest : List L) → All (λ l. All IsShort (items l)) (placed ps ++ rest)
      → AllByRecursion (λ p. AllByRecursion (λ l. All IsShort (items l)) (of p.laid.value)) ps
  each_part_short ps rest h =
      parts_short ps (halves (placed ps) rest (recursion_from_All OneShort (placed ps ++ rest) h)).0

  pub parts_are_short : (ps : List PlacedPart) (rest : List L) → rest ≡ []
      → AllByRecursion (λ p. AllByRecursion (λ l. All IsShort (items l)) (of p.laid.value)) ps
      → All (λ l. All IsShort (items l)) (placed ps ++ rest)
  parts_are_short ps rest none h =
      All-from_recursion OneShort (placed ps ++ rest)
      (joined (placed ps) rest (short_parts ps h) (subst AreShort (sym none) tt))

  -- they remain short where parts move
  pub stays_short : (gs : List (Option (List ℕ))) (ps qs : List PlacedPart) (rest : List L)
      → map wide_part qs ≡ laid_by gs ps → All (λ l. All IsShort (items l)) (placed ps ++ rest)
      → All (λ l. All IsShort (items l)) (placed qs ++ rest)
  stays_short gs ps qs rest is h =
      let both = halves (placed ps) rest (recursion_from_All OneShort (placed ps ++ rest) h) in
      All-from_recursion OneShort (placed qs ++ rest)
      (joined (placed qs) rest (short_parts qs (go_short gs ps qs is (parts_short ps both.0))) both.1)
