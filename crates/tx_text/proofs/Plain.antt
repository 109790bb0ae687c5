-- Plain bytes are a cluster each.
use Rattle.std.proofs.Common.{◌≡◌, ◌≢◌, ℕ, zero, suc, ◌+◌, ◌-◌, ◌<◌, ◌≤◌, Bool, true, false, not, ◌&&◌, ◌||◌, ◌==◌}
use Rattle.std.proofs.Common.{cond, min, List, [], ◌∷◌, ◌++◌, map, length, get_or, slice_index, replicate, Some, None}
use Rattle.std.proofs.Common.{refl, sym, ap, ap₂, ◌∙◌, subst, arith, append_assoc, length-append, append-nil, lit<}
use Rattle.std.specs.Prelude.{encode_utf8, encode_utf8_all}
use Rattle.std.specs.Int.{is_in_range}
use Rattle.std.specs.List.{list_all}
use Rattle.std.specs.Str.{chars, IsUtf8}
use Rattle.std.proofs.Math.Seq.{get_or-append_seam}
use Rattle.std.proofs.lemmas.Bool.{and_parts}
use Rattle.std.proofs.lemmas.Bool.Decides.{nat_tests}
use Rattle.std.proofs.lemmas.Str.{chars-IsAscii, encode_ascii, IsUtf8-from_ascii}
use Rattle.ucd_table.proofs.Facts.{Stepped-below}
use Rattle.ucd_breaks.specs.GraphemeClusterBreak.{grapheme_cluster_break, grapheme_cluster_break_number}
use Rattle.ucd_breaks.specs.declared.GraphemeClusterBreak.{GraphemeClusterBreak}
use Rattle.ucd_breaks.specs.declared.GraphemeClusterBreak.TheVariants.{Other}
use Rattle.ucd_breaks.proofs.GraphemeClusterBreakLemmas.{grapheme_cluster_break_stepped}
use Rattle.ucd_breaks.proofs.GraphemeClusterBreakLemmas.{grapheme_cluster_break_number_injective}
use Rattle.ucd_breaks.proofs.Computing.{ucd_breaks}
use Rattle.unicode_segmentation.specs.Grapheme.{graphemes, is_grapheme_break}
use Rattle.unicode_segmentation.specs.Segments.{prepend, cut, segments, with_offsets}
use Rattle.unicode_segmentation.proofs.GraphemeLemmas.{is_grapheme_break-others}
use Rattle.unicode_width.specs.Width.{str_width}
use Rattle.unicode_width.proofs.Rules.{str_width-printable}
use Rattle.tx_tree.specs.Texts.{byte}
use Rattle.tx_text.specs.Tables.{byte_code}
use Rattle.tx_text.specs.Displays.{item_text, display_text}
use Rattle.tx_text.specs.Clusters.{items_of, items_behind, clusters_of}
use Rattle.tx_text.specs.Places.{spread, cluster_at, is_plain_byte, plain_clusters, nowhere}
use Rattle.tx_text.specs.declared.cutting.Stretch.{Stretch}
use Rattle.tx_text.specs.declared.cutting.Cluster.{Cluster}
use Rattle.tx_text.proofs.Table.{byte_code-ascii, eq_from_test}
use Rattle.tx_text.proofs.Spreading.{by_places}

-- the break class of a plain byte is Other
abbrev is_other : GraphemeClusterBreak → Bool
is_other value = grapheme_cluster_break_number value == grapheme_cluster_break_number Other

plain_other_below : (c : ℕ) → c < 127 → (not (is_in_range 32 126 c) || is_other (grapheme_cluster_break c)) ≡ true
unfolding ucd_breaks
plain_other_below c below =
    Stepped-below grapheme_cluster_break grapheme_cluster_break_stepped
    (λ x value. not (is_in_range 32 126 x) || is_other value) 127 refl c below

pub record IsPlain (b : ℕ) : Type 0 where
  pub low : 32 ≤ b
  pub high : b ≤ 126
  pub no_open : b ≢ 60

plain_fact : (b : ℕ) → is_plain_byte b ≡ true → IsPlain b
plain_fact b h =
    record { low = grind (arith, nat_tests); high = grind (arith, nat_tests); no_open = λ e. grind (arith, nat_tests) }

plain_range : (b : ℕ) → IsPlain b → is_in_range 32 126 b ≡ true
plain_range b h = let l = h.low in let k = h.high in grind (arith, nat_tests)

plain_other : (b : ℕ) → IsPlain b → Other ≡ grapheme_cluster_break b
plain_other b h =
    let top = h.high in
    let test : (not (is_in_range 32 126 b) || is_other (grapheme_cluster_break b)) ≡ true =
    plain_other_below b (omega arith) in
    let other : is_other (grapheme_cluster_break b) ≡ true =
    ap (λ r. not r || is_other (grapheme_cluster_break b)) (sym (plain_range b h)) ∙ test in
    sym (grapheme_cluster_break_number_injective (grapheme_cluster_break b) Other (eq_from_test _ _ other))

-- each byte is plain
abbrev pub ArePlain : List ℕ → Type 0
ArePlain [] = Unit {0}
ArePlain (b ∷ bs) = IsPlain b × ArePlain bs

pub plain_from_test : (bs : List ℕ) → list_all is_plain_byte bs ≡ true → ArePlain bs
plain_from_test [] h = tt
plain_from_test (b ∷ bs) h =
    let parts = and_parts (is_plain_byte b) (list_all is_plain_byte bs) h in
    (plain_fact b parts.0, plain_from_test bs parts.1)

-- 1. they are items
plain_items : (bs : List ℕ) → ArePlain bs → items_behind None bs ≡ map byte bs
plain_items [] h = refl
plain_items (b ∷ bs) h =
    let other : (b == 60) ≡ false = let n = h.0.no_open in grind (arith, nat_tests) in
    ap (λ t. cond t (items_behind (Some []) bs) (byte b ∷ items_behind None bs)) other
    ∙ ap (λ items. byte b ∷ items) (plain_items bs h.1)

-- 2. they show as themselves
plain_shown : (b : ℕ) → IsPlain b → item_text (byte b) ≡ b ∷ []
plain_shown b h =
    let l = h.low in
    let k = h.high in
    let itself : byte_code b ≡ b = byte_code-ascii b (omega arith) (plain_range b h) in
    ap (λ c. encode_utf8_all (c ∷ [])) itself ∙ append-nil (encode_utf8 b) ∙ encode_ascii b (omega arith)

plain_display : (bs : List ℕ) → ArePlain bs → display_text (map byte bs) ≡ bs
plain_display [] h = refl
plain_display (b ∷ bs) h = ap₂ (λ x y. x ++ y) (plain_shown b h.0) (plain_display bs h.1)

-- 3. each is a cluster
abbrev single : ℕ → List ℕ
single b = b ∷ []

plain_break : (before : List ℕ) (b : ℕ) (bs : List ℕ) → IsPlain b → ArePlain bs
    → is_grapheme_break true (b ∷ before) (bs ++ []) ≡ true
unfolding is_grapheme_break
plain_break before b [] p ps = refl
plain_break before b (c ∷ bs) p ps =
    let top = ps.0.high in
    sym
    (is_grapheme_break-others true (b ∷ before) c (bs ++ []) (omega arith) (omega arith) (plain_other b p)
    (plain_other c ps.0))

plain_cut : (before bs : List ℕ) → ArePlain bs → cut (is_grapheme_break true) before bs [] ≡ map single bs
unfolding cut
plain_cut before [] h = refl
plain_cut before (b ∷ bs) h =
    let rest : List (List ℕ) = cut (is_grapheme_break true) (b ∷ before) bs [] in
    ap (λ t. cond t ((b ∷ []) ∷ rest) (prepend (b ∷ []) rest)) (plain_break before b bs h.0 h.1)
    ∙ ap (λ ps. (b ∷ []) ∷ ps) (plain_cut (b ∷ before) bs h.1)

plain_ascii : (bs : List ℕ) → ArePlain bs → (i : ℕ) → slice_index bs i < 128
plain_ascii [] h i = lit< tt
plain_ascii (b ∷ bs) h zero = let k = h.0.high in omega arith
plain_ascii (b ∷ bs) h (suc i) = plain_ascii bs h.1 i

plain_graphemes : (bs : List ℕ) → ArePlain bs → graphemes true bs ≡ map single bs
unfolding segments
plain_graphemes bs h =
    ap (λ cs. map encode_utf8_all (cut (is_grapheme_break true) [] cs [])) (chars-IsAscii bs (plain_ascii bs h))
    ∙ ap (map encode_utf8_all) (plain_cut [] bs h) ∙ spelled bs h
  where
    spelled : (xs : List ℕ) → ArePlain xs → map encode_utf8_all (map single xs) ≡ map single xs
    spelled [] h = refl
    spelled (b ∷ xs) h =
        let k = h.0.high in
        ap₂ (λ x y. x ∷ y) (append-nil (encode_utf8 b) ∙ encode_ascii b (omega arith)) (spelled xs h.1)

-- 4. each is one cell wide, at its own place
plain_width : (b : ℕ) → IsPlain b → str_width false (chars (b ∷ [])) ≡ 1
plain_width b h =
    ap (str_width false) (chars-IsAscii (b ∷ []) (plain_ascii (b ∷ []) (h, tt)))
    ∙ str_width-printable false (b ∷ []) (ap (λ t. t && true) (plain_range b h))

plain_spread : (at b : ℕ) (bs : List ℕ) → IsPlain b
    → spread at (map byte (b ∷ bs)) ≡ record { from = at; to = at + 1 } ∷ spread (at + 1) (map byte bs)
plain_spread at b bs h =
    ap (λ shown. replicate (length shown) (record { from = at; to = at + 1 }) ++ spread (at + 1) (map byte bs))
    (plain_shown b h)

plain_head : (places : List Stretch) (at b : ℕ) → IsPlain b
    → get_or places at nowhere ≡ record { from = at; to = at + 1 }
    → cluster_at places (at, b ∷ []) ≡ record { glyphs = b ∷ []; cells = 1; start = at; len = 1 }
plain_head places at b h there =
    let made : ℕ → Stretch → Stretch → Cluster =
    λ w f l. record { glyphs = b ∷ []; cells = min 2 w; start = f.from; len = l.to - f.from } in
    let stand : Stretch = record { from = at; to = at + 1 } in
    let place : at + 1 - 1 ≡ at = omega arith in
    let one : at + 1 - at ≡ 1 = omega arith in
    let cluster : ℕ → Cluster = λ n. record { glyphs = b ∷ []; cells = 1; start = at; len = n } in
    ap (λ w. made w (get_or places at nowhere) (get_or places (at + 1 - 1) nowhere)) (plain_width b h)
    ∙ ap (λ n. made 1 (get_or places at nowhere) (get_or places n nowhere)) place
    ∙ ap (λ f. made 1 f f) there ∙ ap cluster one

plain_at : (front : List Stretch) (at : ℕ) (bs : List ℕ) → ArePlain bs → length front ≡ at
    → map (cluster_at (front ++ spread at (map byte bs))) (with_offsets at (map single bs)) ≡ plain_clusters at bs
unfolding with_offsets
plain_at front at [] h e = refl
plain_at front at (b ∷ bs) h e =
    let here : Stretch = record { from = at; to = at + 1 } in
    let later : List Stretch = spread (at + 1) (map byte bs) in
    let whole : List Stretch = front ++ here ∷ later in
    let Q : List Stretch → Type 0 =
    λ places. map (cluster_at places) (with_offsets (at + 1) (map single bs)) ≡ plain_clusters (at + 1) bs in
    let longer : length (front ++ here ∷ []) ≡ at + 1 = length-append front (here ∷ []) ∙ ap (λ n. n + 1) e in
    let there : get_or whole at nowhere ≡ here =
    ap (λ n. get_or whole n nowhere) (sym e) ∙ get_or-append_seam front here later nowhere in
    let head : cluster_at whole (at, b ∷ []) ≡ record { glyphs = b ∷ []; cells = 1; start = at; len = 1 } =
    plain_head whole at b h.0 there in
    let tail : Q whole =
    subst Q (append_assoc front (here ∷ []) later) (plain_at (front ++ here ∷ []) (at + 1) bs h.1 longer) in
    ap (λ places. map (cluster_at (front ++ places)) (with_offsets at (map single (b ∷ bs))))
    (plain_spread at b bs h.0) ∙ ap₂ (λ x xs. x ∷ xs) head tail

-- plain bytes are clusters, each at its own place
pub plain_text : (bs : List ℕ) → ArePlain bs → clusters_of (items_of bs) ≡ plain_clusters 0 bs
plain_text bs h =
    let itself : display_text (map byte bs) ≡ bs = plain_display bs h in
    let utf8 : IsUtf8 (display_text (map byte bs)) =
    subst IsUtf8 (sym itself) (IsUtf8-from_ascii bs (plain_ascii bs h)) in
    ap clusters_of (plain_items bs h)
    ∙ sym (by_places (map byte bs) utf8)
    ∙ ap (λ text. map (cluster_at (spread 0 (map byte bs))) (with_offsets 0 (graphemes true text))) itself
    ∙ ap (λ pieces. map (cluster_at (spread 0 (map byte bs))) (with_offsets 0 pieces)) (plain_graphemes bs h)
    ∙ plain_at [] 0 bs h refl

pub plain_by_test : (bs : List ℕ) → list_all is_plain_byte bs ≡ true → clusters_of (items_of bs) ≡ plain_clusters 0 bs
plain_by_test bs h = plain_text bs (plain_from_test bs h)

pub plain_utf8 : (bs : List ℕ) → list_all is_plain_byte bs ≡ true → IsUtf8 (display_text (items_of bs))
plain_utf8 bs h =
    let plain = plain_from_test bs h in
    subst IsUtf8 (sym (ap display_text (plain_items bs plain) ∙ plain_display bs plain))
    (IsUtf8-from_ascii bs (plain_ascii bs plain))
