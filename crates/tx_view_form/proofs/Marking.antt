-- What holds of each mark of the items that a value shows.
use Rattle.std.proofs.Common.{◌≡◌, ℕ, ◌+◌, ◌-◌, Bool, true, false, cond, List, length, get_or, Option, Some, None}
use Rattle.std.proofs.Common.{ap, subst}
use Rattle.std.specs.Prelude.{All}
use Rattle.std.specs.Option.{option_map_or}
use Rattle.std.proofs.lemmas.List.Elements.{All-map}
use Rattle.unicode_segmentation.specs.Grapheme.{graphemes}
use Rattle.unicode_segmentation.specs.Segments.{with_offsets}
use Rattle.tx_tree.specs.Texts.{IsText, IsCut}
use Rattle.tx_text.specs.Displays.{display_text}
use Rattle.tx_text.specs.Clusters.{items_of, cluster_of, clusters_of}
use Rattle.tx_text.specs.declared.cutting.Cluster.{Cluster}
use Rattle.tx_origin.specs.Values.{WideValue}
use Rattle.tx_items.specs.declared.attributes.Attrs.{Attrs}
use Rattle.tx_items.specs.declared.drawing.Drawn.{Drawn}
use Rattle.tx_items.specs.declared.drawing.Item.{Item}
use Rattle.tx_items.specs.declared.drawing.Item.TheVariants.{Glyph, Space, Chance, Gap, Break, PageEnd, Down}
use Rattle.tx_items.specs.Looks.{WideLook}
use Rattle.tx_items.specs.Drawing.{is_space, is_chance, look_of, item_of, drawn}
use Rattle.tx_items.specs.Shows.{shown_paragraphs}
use Rattle.tx_layout.specs.Words.{capped_item}
use Rattle.tx_view_form.specs.Positions.{Mark, mark_by, mark_of}
use Rattle.tx_view_form.proofs.ClusterCuts.{begins_at_cut, stops_at_cut}
use Rattle.tx_view_form.proofs.ShownItems.{EachText, shown_holds}

pub some_once : {X : Type 0} (x y : X) → Some x ≡ Some y → x ≡ y
some_once x y e = ap (λ o. option_map_or (λ z. z) o x) e

-- Q holds of the item's mark, if it has one
abbrev pub OnMark : (Mark → Type 0) → Item → Type 0
OnMark Q item = (m : Mark) → mark_of item ≡ Some m → Q m

-- where a text has an origin, Q holds of each mark in it from a cut to a cut
abbrev pub InText : (Mark → Type 0) → List ℕ → Option (List ℕ) → Type 0
InText Q words None = Unit {0}
InText Q words (Some p) =
    IsText words × ((start stop : ℕ) → IsCut words start → IsCut words stop
    → Q (record { origin = p; start = start; stop = stop }))

cluster_marked : (Q : Mark → Type 0) (words : List ℕ) (at : Option (List ℕ)) (x : ℕ × List ℕ) → InText Q words at
    → (m : Mark) → mark_by (cluster_of (items_of words) x) at ≡ Some m → Q m
cluster_marked Q words None x h m e = absurd cc
cluster_marked Q words (Some p) x h m e =
    let c : Cluster = cluster_of (items_of words) x in
    subst Q (some_once (record { origin = p; start = c.start; stop = c.start + c.len }) m e)
    (h.1 c.start (c.start + c.len) (begins_at_cut words x.0 h.0)
    (stops_at_cut words x.0 (x.0 + length x.1 - 1) h.0))

item_marked : (Q : Mark → Type 0) (look : WideLook) (c : Cluster) → ((m : Mark) → mark_by c look.at ≡ Some m → Q m)
    → OnMark Q (item_of look c)
item_marked Q look c h = pick (is_space c.glyphs) (is_chance c.glyphs)
  where
    d : Drawn
    d = record { cluster = c; look = look }

    pick : (b e : Bool) → OnMark Q (cond b (Space d) (cond e (Chance d) (Glyph d)))
    pick true e = h
    pick false true = h
    pick false false = h

drawn_marked : (Q : Mark → Type 0) (a : Attrs) (words : List ℕ) (at : Option (List ℕ)) → InText Q words at
    → All (OnMark Q) (drawn a at words)
drawn_marked Q a words at h =
    let look : WideLook = look_of a at in
    let pieces : List (ℕ × List ℕ) = with_offsets 0 (graphemes true (display_text (items_of words))) in
    All-map (OnMark Q) (item_of look) (clusters_of (items_of words))
    (All-map (λ c. OnMark Q (item_of look c)) (cluster_of (items_of words)) pieces
    (λ k d lt. item_marked Q look (cluster_of (items_of words) (get_or pieces k d))
    (cluster_marked Q words at (get_or pieces k d) h)))

pub shown_marked : (Q : Mark → Type 0) (a : Attrs) (v : WideValue) → EachText (InText Q) v
    → All (λ p. All (OnMark Q) p.items) (shown_paragraphs a v)
shown_marked Q a v h =
    shown_holds (InText Q) (OnMark Q)
    (record {
      of_text = λ b words at t. drawn_marked Q b words at t;
      of_made = λ b words. drawn_marked Q b words None tt;
      of_gap = λ n m e. absurd cc;
      of_break = λ m e. absurd cc;
      of_page_end = λ m e. absurd cc;
      of_down = λ n m e. absurd cc;
    }) a v h

-- a line leaves an item its mark
pub capped_marked : (Q : Mark → Type 0) (least : ℕ) (item : Item) → OnMark Q item → OnMark Q (capped_item least item)
capped_marked Q least (Glyph d) h = h
capped_marked Q least (Space d) h = h
capped_marked Q least (Chance d) h = h
capped_marked Q least (Gap n) h = h
capped_marked Q least Break h = h
capped_marked Q least PageEnd h = h
capped_marked Q least (Down n) h = h
