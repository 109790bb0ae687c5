-- What a value shows is narrow.
use Rattle.std.proofs.Common.{ℕ, ◌≤◌, Bool, true, false, cond, List, get_or, map, Option, None, arith}
use Rattle.std.specs.Prelude.{All}
use Rattle.std.proofs.lemmas.List.Elements.{All-map, All-weaker}
use Rattle.tx_text.specs.declared.cutting.Cluster.{Cluster}
use Rattle.tx_text.specs.Clusters.{items_of, clusters_of}
use Rattle.tx_text.proofs.Spreading.{narrow}
use Rattle.tx_origin.specs.Values.{WideValue, WideValues, text, made, none, also}
use Rattle.tx_items.specs.declared.attributes.Attrs.{Attrs}
use Rattle.tx_items.specs.declared.drawing.Drawn.{Drawn}
use Rattle.tx_items.specs.declared.drawing.Item.{Item}
use Rattle.tx_items.specs.declared.drawing.Item.TheVariants.{Glyph, Space, Chance, Gap, Break, PageEnd, Down}
use Rattle.tx_items.specs.Drawing.{is_space, is_chance, look_of, item_of, drawn}
use Rattle.tx_items.specs.Looks.{WideLook}
use Rattle.tx_items.specs.Narrow.{IsNarrow}
use Rattle.tx_items.specs.Shows.{shown_paragraphs}
use Rattle.tx_layout.specs.Rows.{Narrow}
use Rattle.tx_layout.specs.Words.{capped_item}
use Rattle.tx_view_form.proofs.ShownItems.{EachText, EachTexts, shown_holds}

-- ---- on lines

one_capped : (least : ℕ) (i : Item) → 10 ≤ least → IsNarrow i → Narrow least (capped_item least i)
one_capped least (Glyph d) wide h = omega arith
one_capped least (Space d) wide h = omega arith
one_capped least (Chance d) wide h = omega arith
one_capped least (Gap n) wide h = omega arith
one_capped least Break wide h = omega arith
one_capped least PageEnd wide h = omega arith
one_capped least (Down n) wide h = omega arith

pub all_capped : (least : ℕ) (items : List Item) → 10 ≤ least → All IsNarrow items
    → All (Narrow least) (map (capped_item least) items)
all_capped least items wide h =
    All-map (Narrow least) (capped_item least) items
    (All-weaker IsNarrow (λ i. Narrow least (capped_item least i)) (λ i k. one_capped least i wide k) items h)

-- ---- in what a value shows

abbrev AnyText : List ℕ → Option (List ℕ) → Type 0
AnyText words at = Unit {0}

mutual
  any_text : (v : WideValue) → EachText AnyText v
  any_text (text words at) = tt
  any_text (made label vs at) = any_texts vs

  any_texts : (vs : WideValues) → EachTexts AnyText vs
  any_texts none = tt
  any_texts (also v vs) = (any_text v, any_texts vs)

item_narrow : (look : WideLook) (c : Cluster) → c.cells ≤ 2 → IsNarrow (item_of look c)
item_narrow look c h = pick (is_space c.glyphs) (is_chance c.glyphs)
  where
    d : Drawn
    d = record { cluster = c; look = look }

    pick : (b e : Bool) → IsNarrow (cond b (Space d) (cond e (Chance d) (Glyph d)))
    pick true e = h
    pick false true = h
    pick false false = h

drawn_narrow : (a : Attrs) (at : Option (List ℕ)) (words : List ℕ) → All IsNarrow (drawn a at words)
drawn_narrow a at words =
    let cs : List Cluster = clusters_of (items_of words) in
    All-map IsNarrow (item_of (look_of a at)) cs
    (λ k d lt. item_narrow (look_of a at) (get_or cs k d) (narrow (items_of words) k d lt))

pub shown_narrow : (a : Attrs) (v : WideValue) → All (λ p. All IsNarrow p.items) (shown_paragraphs a v)
shown_narrow a v =
    shown_holds AnyText IsNarrow
    (record {
      of_text = λ b words at h. drawn_narrow b at words;
      of_made = λ b words. drawn_narrow b None words;
      of_gap = λ n. tt;
      of_break = tt;
      of_page_end = tt;
      of_down = λ n. tt;
    })
    a v (any_text v)
