-- The places that a byte of a display text has are those of its item, and clusters lose no character.
use Rattle.std.proofs.Common.{◌≡◌, ℕ, ◌+◌, ◌-◌, ◌<◌, ◌≤◌, true, inl, inr, List, [], ◌∷◌, ◌++◌, map, length, refl, sym}
use Rattle.std.proofs.Common.{ap, ◌∙◌, arith, length-append}
use Rattle.std.specs.List.{concat, flat_map}
use Rattle.std.specs.Str.{IsUtf8}
use Rattle.std.proofs.lemmas.Bool.{cases_lt, cond_below, cond_above}
use Rattle.unicode_segmentation.specs.Grapheme.{graphemes, is_grapheme_break}
use Rattle.unicode_segmentation.specs.Segments.{with_offsets}
use Rattle.unicode_segmentation.proofs.SegmentsLemmas.{concat-segments}
use Rattle.tx_tree.specs.Texts.{Item, item_bytes}
use Rattle.tx_text.specs.Displays.{item_text, display_text}
use Rattle.tx_text.specs.Clusters.{item_start, item_end, HoldsByte, cluster_of, clusters_of}

-- the item of a byte, where the first item begins at a place
record HoldsFrom (from : ℕ) (items : List Item) (n start stop : ℕ) : Type 0 where
  before : List Item
  item : Item
  after : List Item
  are : items ≡ before ++ item ∷ after
  starts : start ≡ from + length (flat_map item_bytes before)
  stops : stop ≡ start + length (item_bytes item)
  not_before : length (display_text before) ≤ n
  not_after : n < length (display_text before) + length (item_text item)

holds_from : (from : ℕ) (items : List Item) (n : ℕ) → n < length (display_text items)
    → HoldsFrom from items n (item_start from items n) (item_end from items n)
holds_from from [] n lt = absurd (omega arith)
holds_from from (item ∷ items) n lt =
    let k : ℕ = length (item_text item) in
    let next : ℕ = from + length (item_bytes item) in
    let long : length (item_text item ++ display_text items) ≡ k + length (display_text items) =
    length-append (item_text item) (display_text items) in
    elim (cases_lt n k) [
      | inl low ↦
          let starts : from ≡ item_start from (item ∷ items) n =
          cond_below n k from (item_start next items (n - k)) low in
          let stops : next ≡ item_end from (item ∷ items) n = cond_below n k next (item_end next items (n - k)) low in
          record {
            before = [];
            item = item;
            after = items;
            are = refl;
            starts = sym starts ∙ omega arith;
            stops = sym stops ∙ ap (λ s. s + length (item_bytes item)) starts;
            not_before = omega arith;
            not_after = omega arith;
          }
      | inr high ↦
          let found = holds_from next items (n - k) (omega arith) in
          let starts : item_start next items (n - k) ≡ item_start from (item ∷ items) n =
          cond_above n k from (item_start next items (n - k)) (item_start next items (n - k)) high refl in
          let stops : item_end next items (n - k) ≡ item_end from (item ∷ items) n =
          cond_above n k next (item_end next items (n - k)) (item_end next items (n - k)) high refl in
          let bytes : length (item_bytes item ++ flat_map item_bytes found.before)
          ≡ length (item_bytes item) + length (flat_map item_bytes found.before) =
          length-append (item_bytes item) (flat_map item_bytes found.before) in
          let texts : length (item_text item ++ display_text found.before) ≡ k + length (display_text found.before) =
          length-append (item_text item) (display_text found.before) in
          let low = found.not_before in
          let top = found.not_after in
          record {
            before = item ∷ found.before;
            item = found.item;
            after = found.after;
            are = ap (λ l. item ∷ l) found.are;
            starts = sym starts ∙ found.starts ∙ omega arith;
            stops = sym stops ∙ found.stops ∙ ap (λ s. s + length (item_bytes found.item)) starts;
            not_before = omega arith;
            not_after = omega arith;
          }
    ]

pub holds : (items : List Item) (n : ℕ) → n < length (display_text items)
    → HoldsByte items n (item_start 0 items n) (item_end 0 items n)
holds items n lt =
    let found = holds_from 0 items n lt in
    let starts = found.starts in
    record {
      before = found.before;
      item = found.item;
      after = found.after;
      are = found.are;
      starts = omega arith;
      stops = found.stops;
      not_before = found.not_before;
      not_after = found.not_after;
    }

glyphs_of : (items : List Item) (at : ℕ) (pieces : List (List ℕ))
    → flat_map (λ cluster. cluster.glyphs) (map (cluster_of items) (with_offsets at pieces)) ≡ concat pieces
unfolding with_offsets
glyphs_of items at [] = refl
glyphs_of items at (piece ∷ pieces) = ap (λ l. piece ++ l) (glyphs_of items (at + length piece) pieces)

-- the characters of all clusters are the display text
pub whole : (items : List Item) → IsUtf8 (display_text items)
    → flat_map (λ cluster. cluster.glyphs) (clusters_of items) ≡ display_text items
whole items utf8 =
    glyphs_of items 0 (graphemes true (display_text items))
    ∙ concat-segments (is_grapheme_break true) (display_text items) utf8
