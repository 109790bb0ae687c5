-- How many clusters texts have: at most four for each byte of any text, and one for each byte of a label.
use Rattle.std.proofs.Common.{◌≡◌, ℕ, zero, suc, ◌+◌, ◌-◌, ◌*◌, ◌<◌, ◌≤◌, Bool, true, false, not, ◌&&◌, ◌||◌, ◌==◌}
use Rattle.std.proofs.Common.{cond, List, [], ◌∷◌, ◌++◌, map, length, Option, Some, None, refl, sym, ap, ◌∙◌, subst}
use Rattle.std.proofs.Common.{inl, inr, arith, length-append, codes, nat_le, leb-true, le-leb, ne_eqb, true≢false, lit<}
use Rattle.std.specs.Char.{encode_utf8}
use Rattle.std.specs.List.{AllByRecursion}
use Rattle.std.proofs.lemmas.Bool.{and_parts, cases_lt}
use Rattle.std.proofs.lemmas.List.{length-map}
use Rattle.std.proofs.lemmas.List.Sums.{sum_by-cons}
use Rattle.std.proofs.lemmas.Str.{length-encode, len_utf8_bounds}
use Rattle.std.specs.Str.{chars, encode_utf8_all, chars_after, continuation_len, lead_bits}
use borrow.Author.Tests.{lt-leb}
use Rattle.unicode_segmentation.specs.Grapheme.{graphemes, is_grapheme_break}
use Rattle.unicode_segmentation.specs.Segments.{Rule, prepend, cut, segments, with_offsets}
use Rattle.tx_tree.specs.Labels.{IsLabel, is_label_byte}
use Rattle.tx_tree.specs.Texts.{Item, byte, symbol}
use Rattle.tx_text.specs.declared.cutting.Cluster.{Cluster}
use Rattle.tx_text.specs.Displays.{symbol_code, symbol_codes, item_text, display_text}
use Rattle.tx_text.specs.Clusters.{items_behind, items_of, cluster_of, clusters_of}
use Rattle.tx_text.specs.Tables.{byte_code, named_code}
use Rattle.tx_text.proofs.Table.{all_below, all_below-at}
use Rattle.tx_items.specs.declared.attributes.Attrs.{Attrs}
use Rattle.tx_items.specs.declared.drawing.Drawn.{Drawn}
use Rattle.tx_items.specs.declared.drawing.Item.TheVariants.{Glyph, Space, Chance}
use Rattle.tx_items.specs.Looks.{WideLook}
use Rattle.tx_items.specs.Drawing.{is_space, is_chance, look_of, item_of, drawn}
use Rattle.tx_view_form.specs.Weights.{item_weight, items_weight}

-- ---- clusters of a display text

few_after : (n c : ℕ) (bs : List ℕ) → length (chars_after n c bs) ≤ 1 + length bs
few_after zero c [] = omega arith
few_after zero c (b ∷ bs) = omega (arith, few_after (continuation_len b) (lead_bits b) bs)
few_after (suc n) c [] = omega arith
few_after (suc n) c (b ∷ bs) = omega (arith, few_after n (c * 64 + (b - 128)) bs)

few_chars : (bs : List ℕ) → length (chars bs) ≤ length bs
unfolding chars
few_chars [] = omega arith
few_chars (b ∷ bs) = omega (arith, few_after (continuation_len b) (lead_bits b) bs)

few_prepended : (part : List ℕ) (pieces : List (List ℕ)) → length (prepend part pieces) ≤ 1 + length pieces
few_prepended part [] = omega arith
few_prepended part (p ∷ ps) = omega arith

few_pieces : (rule : Rule) (before cs after : List ℕ) → length (cut rule before cs after) ≤ length cs
unfolding cut
few_pieces rule before [] after = omega arith
few_pieces rule before (c ∷ cs) after =
    pick (rule (c ∷ before) (cs ++ after)) (cut rule (c ∷ before) cs after) (few_pieces rule (c ∷ before) cs after)
  where
    pick : (t : Bool) (rest : List (List ℕ)) → length rest ≤ length cs
        → length (cond t ((c ∷ []) ∷ rest) (prepend (c ∷ []) rest)) ≤ length (c ∷ cs)
    pick true rest h = omega arith
    pick false rest h = omega (arith, few_prepended (c ∷ []) rest)

few_segments : (rule : Rule) (bs : List ℕ) → length (segments rule bs) ≤ length bs
unfolding segments
few_segments rule bs =
    let pieces : List (List ℕ) = cut rule [] (chars bs) [] in
    let same : length (map encode_utf8_all pieces) ≡ length pieces = length-map pieces encode_utf8_all in
    let few : length pieces ≤ length (chars bs) = few_pieces rule [] (chars bs) [] in
    let short : length (chars bs) ≤ length bs = few_chars bs in
    omega arith

same_many : (at : ℕ) (ps : List (List ℕ)) → length (with_offsets at ps) ≡ length ps
unfolding with_offsets
same_many at [] = refl
same_many at (p ∷ ps) = omega (arith, same_many (at + length p) ps)

few_clusters : (items : List Item) → length (clusters_of items) ≤ length (display_text items)
few_clusters items =
    let pieces : List (List ℕ) = graphemes true (display_text items) in
    let same : length (clusters_of items) ≡ length (with_offsets 0 pieces) =
    length-map (with_offsets 0 pieces) (cluster_of items) in
    let many : length (with_offsets 0 pieces) ≡ length pieces = same_many 0 pieces in
    let few : length pieces ≤ length (display_text items) =
    few_segments (is_grapheme_break true) (display_text items) in
    omega arith

-- ---- the length of a display text

most_encoded : (cs : List ℕ) → length (encode_utf8_all cs) ≤ 4 * length cs
most_encoded [] = omega arith
most_encoded (c ∷ cs) =
    let rest : length (encode_utf8_all cs) ≤ 4 * length cs = most_encoded cs in
    let long : length (encode_utf8 c ++ encode_utf8_all cs) ≡ length (encode_utf8 c) + length (encode_utf8_all cs) =
    length-append (encode_utf8 c) (encode_utf8_all cs) in
    omega (arith, length-encode c, (len_utf8_bounds c).1)

most_codes : (name : List ℕ) (code : Option ℕ) → length (symbol_codes name code) ≤ length name + 2
most_codes name None = omega (arith, length-append name (62 ∷ []))
most_codes name (Some code) = omega arith

-- the bytes that were read of a symbol
abbrev read : Option (List ℕ) → ℕ
read None = 0
read (Some name) = 1 + length name

longer : (item : Item) (items : List Item) (m n : ℕ) → length (item_text item) ≤ m → length (display_text items) ≤ n
    → length (display_text (item ∷ items)) ≤ m + n
longer item items m n h k = omega (arith, length-append (item_text item) (display_text items))

most_behind : (begun : Option (List ℕ)) (bs : List ℕ)
    → length (display_text (items_behind begun bs)) ≤ 4 * (read begun + length bs)
most_behind None [] = omega arith
most_behind (Some name) [] = omega arith
most_behind None (b ∷ bs) = pick (b == 60) (most_behind (Some []) bs) (most_behind None bs)
  where
    pick : (t : Bool) → length (display_text (items_behind (Some []) bs)) ≤ 4 * (read (Some []) + length bs)
        → length (display_text (items_behind None bs)) ≤ 4 * (read None + length bs)
        → length (display_text (cond t (items_behind (Some []) bs) (byte b ∷ items_behind None bs))) ≤
        4 * (read None + length (b ∷ bs))
    pick true h k = omega arith
    pick false h k =
        let own : length (item_text (byte b)) ≤ 4 = most_encoded (byte_code b ∷ []) in
        omega (arith, longer (byte b) (items_behind None bs) 4 (4 * (read None + length bs)) own k)
most_behind (Some name) (b ∷ bs) =
    pick (b == 62) (most_behind None bs) (most_behind (Some (name ++ b ∷ [])) bs)
  where
    pick : (t : Bool) → length (display_text (items_behind None bs)) ≤ 4 * (read None + length bs)
        → length (display_text (items_behind (Some (name ++ b ∷ [])) bs)) ≤
        4 * (read (Some (name ++ b ∷ [])) + length bs)
        → length (display_text
        (cond t (symbol name ∷ items_behind None bs) (items_behind (Some (name ++ b ∷ [])) bs))) ≤
        4 * (read (Some name) + length (b ∷ bs))
    pick true h k =
        let few : length (symbol_codes name (symbol_code name)) ≤ length name + 2 =
        most_codes name (symbol_code name) in
        let own : length (item_text (symbol name)) ≤ 4 * (length name + 2) =
        omega (arith, most_encoded (symbol_codes name (symbol_code name))) in
        omega
        (arith, longer (symbol name) (items_behind None bs) (4 * (length name + 2)) (4 * (read None + length bs)) own h)
    pick false h k = omega (arith, length-append name (b ∷ []))

-- ---- the bytes of a label

-- no byte from 127 on
too_late : (b : ℕ) → 127 ≤ b → is_label_byte b ≡ false
unfolding is_label_byte
too_late b h =
    let off : (n : ℕ) → n < 127 → (b == n) ≡ false = λ n lt. ne_eqb b n (λ e. omega arith) in
    let past : (n : ℕ) → n < 127 → nat_le b n ≡ false = λ n lt. lt-leb b n (omega arith) in
    let from : (n : ℕ) → n < 127 → nat_le n b ≡ true = λ n lt. le-leb n b (omega arith) in
    rw (
      from 97 (lit< tt),
      from 65 (lit< tt),
      from 48 (lit< tt),
      past 122 (lit< tt),
      past 90 (lit< tt),
      past 57 (lit< tt),
      off 45 (lit< tt),
      off 95 (lit< tt),
      off 43 (lit< tt),
      off 42 (lit< tt),
      off 58 (lit< tt),
      off 46 (lit< tt),
      off 63 (lit< tt),
      off 33 (lit< tt),
      off 61 (lit< tt),
      off 126 (lit< tt),
      off 64 (lit< tt),
      off 36 (lit< tt),
      off 37 (lit< tt),
      off 38 (lit< tt),
      off 94 (lit< tt),
    ) refl

-- the byte shows as one byte, and begins no symbol
abbrev is_single : ℕ → Bool
is_single b = nat_le (length (item_text (byte b))) 1 && not (b == 60)

single : (b : ℕ) → is_label_byte b ≡ true → is_single b ≡ true
unfolding is_label_byte byte_code encode_utf8 all_below
single b h =
    elim (cases_lt b 127) [
      | inl low ↦
          ap (λ t. not t || is_single b) (sym h)
          ∙ all_below-at (λ c. not (is_label_byte c) || is_single c) 127 refl b low
      | inr high ↦ absurd (true≢false (sym h ∙ too_late b high))
    ]

off_by_not : (t : Bool) → not t ≡ true → t ≡ false
off_by_not true h = sym h
off_by_not false h = refl

label_text : (bs : List ℕ) → AllByRecursion (λ b. is_label_byte b ≡ true) bs
    → length (display_text (items_of bs)) ≤ length bs
label_text [] h = omega arith
label_text (b ∷ bs) h =
    let parts = and_parts (nat_le (length (item_text (byte b))) 1) (not (b == 60)) (single b h.0) in
    let own : length (item_text (byte b)) ≤ 1 = leb-true (length (item_text (byte b))) 1 parts.0 in
    let rest : length (display_text (items_of bs)) ≤ length bs = label_text bs h.1 in
    let both : length (display_text (byte b ∷ items_of bs)) ≤ 1 + length bs =
    longer (byte b) (items_of bs) 1 (length bs) own rest in
    let P : Bool → Type 0 =
    λ t. length (display_text (cond t (items_behind (Some []) bs) (byte b ∷ items_of bs))) ≤ length (b ∷ bs) in
    subst P (sym (off_by_not (b == 60) parts.1)) (omega arith)

-- ---- what is drawn of a text

one_each : (look : WideLook) (c : Cluster) → item_weight (item_of look c) ≡ 1
one_each look c = pick (is_space c.glyphs) (is_chance c.glyphs)
  where
    d : Drawn
    d = record { cluster = c; look = look }

    pick : (b e : Bool) → item_weight (cond b (Space d) (cond e (Chance d) (Glyph d))) ≡ 1
    pick true e = refl
    pick false true = refl
    pick false false = refl

clusters_weight : (look : WideLook) (cs : List Cluster) → items_weight (map (item_of look) cs) ≡ length cs
clusters_weight look [] = refl
clusters_weight look (c ∷ cs) =
    let rest : items_weight (map (item_of look) cs) ≡ length cs = clusters_weight look cs in
    let own : item_weight (item_of look c) ≡ 1 = one_each look c in
    let whole : items_weight (item_of look c ∷ map (item_of look) cs)
    ≡ item_weight (item_of look c) + items_weight (map (item_of look) cs) =
    sum_by-cons item_weight (item_of look c) (map (item_of look) cs) in
    omega arith

-- the bytes that a text shows as
pub shown_length : List ℕ → ℕ
shown_length words = length (display_text (items_of words))

pub drawn_weight : (a : Attrs) (at : Option (List ℕ)) (words : List ℕ)
    → items_weight (drawn a at words) ≤ shown_length words
unfolding shown_length
drawn_weight a at words =
    let same : items_weight (drawn a at words) ≡ length (clusters_of (items_of words)) =
    clusters_weight (look_of a at) (clusters_of (items_of words)) in
    omega (arith, few_clusters (items_of words))

pub most_shown : (words : List ℕ) → shown_length words ≤ 4 * length words
unfolding shown_length
most_shown words = omega (arith, most_behind None words)

pub label_shown : (label : List ℕ) → IsLabel label → shown_length label ≤ 64
unfolding shown_length
label_shown label h = let short = h.short in omega (arith, label_text label h.each)

-- ---- texts that are made

pub less_mark : shown_length (codes "<less>!") ≡ 2
unfolding shown_length byte_code named_code encode_utf8
less_mark = refl

pub less : shown_length (codes "<less>") ≡ 1
unfolding shown_length byte_code named_code encode_utf8
less = refl

pub gtr : shown_length (codes "<gtr>") ≡ 1
unfolding shown_length byte_code named_code encode_utf8
gtr = refl

pub bar : shown_length (codes "|") ≡ 1
unfolding shown_length byte_code encode_utf8
bar = refl

pub space : shown_length (codes " ") ≡ 1
unfolding shown_length byte_code encode_utf8
space = refl

pub bad_kind : shown_length (codes "bad") ≡ 3
unfolding shown_length byte_code encode_utf8
bad_kind = refl

pub over_kind : shown_length (codes "over") ≡ 4
unfolding shown_length byte_code encode_utf8
over_kind = refl
