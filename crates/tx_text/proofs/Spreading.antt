-- The stretches of a display text say where its items begin and end, so clusters by stretches are those by items.
use Rattle.std.proofs.Common.{◌≡◌, ℕ, ◌+◌, ◌-◌, ◌<◌, ◌≤◌, false, true, inl, inr, min, List, [], ◌∷◌, ◌++◌, map, length}
use Rattle.std.proofs.Common.{get_or, replicate, refl, ap, subst, ap₂, ◌∙◌, arith, length-append}
use Rattle.std.specs.Prelude.{chars}
use Rattle.std.specs.List.{All}
use Rattle.std.specs.Str.{IsUtf8}
use Rattle.std.proofs.lemmas.Bool.{cases_lt, cond_below, cond_above}
use Rattle.std.proofs.lemmas.List.{get_or-replicate, get_or_append_left, get_or-append_right, length-replicate}
use Rattle.std.proofs.lemmas.List.Elements.{All-head, All-rest, All-map, All-from_get_or}
use Rattle.unicode_segmentation.specs.Grapheme.{graphemes}
use Rattle.unicode_segmentation.specs.Segments.{with_offsets}
use Rattle.unicode_width.specs.Width.{str_width}
use Rattle.tx_tree.specs.Texts.{Item, item_bytes}
use Rattle.tx_text.specs.Displays.{item_text, display_text}
use Rattle.tx_text.specs.Clusters.{items_of, item_start, item_end, cluster_of, clusters_of}
use Rattle.tx_text.specs.Places.{spread, nowhere, cluster_at}
use Rattle.tx_text.specs.declared.cutting.Stretch.{Stretch}
use Rattle.tx_text.specs.declared.cutting.Cluster.{Cluster}
use Rattle.tx_text.proofs.Pieces.{IsInside, clusters_inside}

spread_at : (from : ℕ) (items : List Item) (n : ℕ) → n < length (display_text items)
    → get_or (spread from items) n nowhere ≡ record { from = item_start from items n; to = item_end from items n }
spread_at from [] n lt = absurd (omega arith)
spread_at from (item ∷ items) n lt =
    let k : ℕ = length (item_text item) in
    let after : ℕ = from + length (item_bytes item) in
    let here : Stretch = record { from = from; to = after } in
    let both : ℕ → ℕ → Stretch = λ f t. record { from = f; to = t } in
    let later : ℕ = n - k in
    let long : length (item_text item ++ display_text items) ≡ k + length (display_text items) =
    length-append (item_text item) (display_text items) in
    elim (cases_lt n k) [
      | inl low ↦
          get_or_append_left (replicate k here) (spread after items) nowhere n
          (omega (arith, length-replicate k here)) ∙ get_or-replicate k n here nowhere low
          ∙ ap₂ both (cond_below n k from (item_start after items later) low)
          (cond_below n k after (item_end after items later) low)
      | inr high ↦
          get_or-append_right (replicate k here) (spread after items) k n nowhere (length-replicate k here) high
          ∙ spread_at after items later (omega arith)
          ∙ ap₂ both (cond_above n k from (item_start after items later) (item_start after items later) high refl)
          (cond_above n k after (item_end after items later) (item_end after items later) high refl)
    ]

same_cluster : (items : List Item) (x : ℕ × List ℕ) → IsInside (length (display_text items)) x
    → cluster_at (spread 0 items) x ≡ cluster_of items x
same_cluster items (n, glyphs) inside =
    let some = inside.some in
    let within = inside.within in
    let made : Stretch → Stretch → Cluster =
    λ f l. record
    { glyphs = glyphs; cells = min 2 (str_width false (chars glyphs)); start = f.from; len = l.to - f.from } in
    ap₂ made (spread_at 0 items n (omega arith)) (spread_at 0 items (n + length glyphs - 1) (omega arith))

same_clusters : (items : List Item) (xs : List (ℕ × List ℕ)) → All (IsInside (length (display_text items))) xs
    → map (cluster_at (spread 0 items)) xs ≡ map (cluster_of items) xs
same_clusters items [] h = refl
same_clusters items (x ∷ xs) h =
    ap₂ (λ c cs. c ∷ cs) (same_cluster items x (All-head (IsInside (length (display_text items))) x xs h))
    (same_clusters items xs (All-rest (IsInside (length (display_text items))) x xs (x ∷ xs) refl h))

-- clusters by stretches are those by items
pub by_places : (items : List Item) → IsUtf8 (display_text items)
    → map (cluster_at (spread 0 items)) (with_offsets 0 (graphemes true (display_text items))) ≡ clusters_of items
by_places items utf8 =
    same_clusters items (with_offsets 0 (graphemes true (display_text items)))
    (clusters_inside (display_text items) (length (display_text items)) utf8 (omega arith))

-- no cluster is wider than 2 cells
pub narrow : (items : List Item) → All (λ cluster. cluster.cells ≤ 2) (clusters_of items)
narrow items =
    let pieces : List (ℕ × List ℕ) = with_offsets 0 (graphemes true (display_text items)) in
    let least : (w : ℕ) → min 2 w ≤ 2 = λ w. omega arith in
    let P : Cluster → Type 0 = λ cluster. cluster.cells ≤ 2 in
    All-map P (cluster_of items) pieces
    (All-from_get_or (λ x. P (cluster_of items x)) pieces (0, [])
    (λ i lt. least (str_width false (chars (get_or pieces i (0, [])).1))))

-- the clusters of a display text that was read from bytes
pub cut_is : (text bytes shown : List ℕ) (places : List Stretch) → bytes ≡ text
    → shown ≡ display_text (items_of bytes) → places ≡ spread 0 (items_of bytes)
    → IsUtf8 shown → map (cluster_at places) (with_offsets 0 (graphemes true shown)) ≡ clusters_of (items_of text)
cut_is text bytes shown places same e f utf8 =
    ap₂ (λ ps t. map (cluster_at ps) (with_offsets 0 (graphemes true t))) f e
    ∙ by_places (items_of bytes) (subst IsUtf8 e utf8)
    ∙ ap (λ b. clusters_of (items_of b)) same
