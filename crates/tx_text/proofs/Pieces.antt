-- The clusters of a display text by their offsets.
use Rattle.std.proofs.Common.{◌≡◌, ℕ, ◌+◌, ◌<◌, ◌≤◌, true, List, [], ◌∷◌, ◌++◌, map, length, sym, ap, ◌∙◌, arith}
use Rattle.std.proofs.Common.{append_assoc, length-append, append-nil}
use Rattle.std.specs.List.{All, concat}
use Rattle.std.specs.Str.{IsUtf8}
use Rattle.std.proofs.lemmas.List.Elements.{All-nil, All-cons}
use Rattle.unicode_segmentation.specs.Grapheme.{graphemes, is_grapheme_break}
use Rattle.unicode_segmentation.specs.Segments.{with_offsets}
use Rattle.unicode_segmentation.proofs.SegmentsLemmas.{AllPieces, segments_nonempty, concat-segments}

-- a piece with its offset is not empty, and ends within so many bytes
pub record IsInside (n : ℕ) (x : ℕ × List ℕ) : Type 0 where
  pub some : 0 < length x.1
  pub within : x.0 + length x.1 ≤ n

offsets_inside : (n at : ℕ) (ps : List (List ℕ)) → AllPieces (λ p. 0 < length p) ps → at + length (concat ps) ≤ n
    → All (IsInside n) (with_offsets at ps)
unfolding with_offsets
offsets_inside n at [] h le = All-nil (IsInside n)
offsets_inside n at (p ∷ ps) h le =
    let long : length (concat (p ∷ ps)) ≡ length p + length (concat ps) = length-append p (concat ps) in
    All-cons (IsInside n) (at, p) (with_offsets (at + length p) ps) (record { some = h.0; within = omega arith })
    (offsets_inside n (at + length p) ps h.1 (omega arith))

pub clusters_inside : (s : List ℕ) (n : ℕ) → IsUtf8 s → length s ≤ n
    → All (IsInside n) (with_offsets 0 (graphemes true s))
clusters_inside s n u le =
    let whole : length (concat (graphemes true s)) ≡ length s =
    ap length (concat-segments (is_grapheme_break true) s u) in
    offsets_inside n 0 (graphemes true s) (segments_nonempty (is_grapheme_break true) s) (omega arith)

-- one cluster more
pub cut_more : {X Y : Type 0} (f : X → Y) (found : List Y) (left later : List X) (whole : List Y) (x : X) (y : Y)
    → left ≡ x ∷ later → y ≡ f x → found ++ map f left ≡ whole → (found ++ y ∷ []) ++ map f later ≡ whole
cut_more f found left later whole x y e is so_far =
    append_assoc found (y ∷ []) (map f later) ∙ ap (λ z. found ++ z ∷ map f later) is
    ∙ ap (λ l. found ++ map f l) (sym e) ∙ so_far

pub cut_all : {X Y : Type 0} (f : X → Y) (found : List Y) (left : List X) (whole : List Y) → left ≡ []
    → found ++ map f left ≡ whole → found ≡ whole
cut_all f found left whole e so_far = sym (append-nil found) ∙ ap (λ l. found ++ map f l) (sym e) ∙ so_far
