-- The layout of units is dropped.
use Rattle.std.proofs.Common.{◌≡◌, ℕ, zero, suc, ◌+◌, ◌<◌, ◌≤◌, List, [], ◌∷◌, ◌++◌, length, take, drop, map, slice_set}
use Rattle.std.proofs.Common.{slice_index_or, Bool, true, false, refl, ap, sym, ◌∙◌, arith}
use Rattle.std.proofs.lemmas.List.{drop_more, drop-drop, drop-set-lt, append_assoc, append-nil, take_more_set}
use Rattle.std.proofs.lemmas.List.{take_all, drop_all}
use Rattle.std.proofs.lemmas.List.Elements.{recursion_from_All, All-from_recursion, All-tail}
use Rattle.std.specs.List.{All, AllByRecursion}
use Rattle.std.specs.Option.{unwrap_or}
use Rattle.std.specs.Prelude.{slice_get}
use Rattle.tx_part_layout.specs.LaidParts.{placed_paragraphs, placed_lines}
use Rattle.tx_part_layout.specs.declared.laid.PlacedPart.{PlacedPart}
use Rattle.tx_view_form.specs.Positions.{IsShort}
use Rattle.tx_unit_layout.specs.declared.shown.Shown.{Shown}
use Rattle.tx_unit_layout.specs.Views.{IsReadable}
use Rattle.tx_view.specs.Laid.{unlaid, without, dropped, dropped_by, without_parts}

abbrev pub AllReadable : List Shown → Type 0
AllReadable xs = All IsReadable xs

abbrev AreReadable : List Shown → Type 0
AreReadable xs = AllByRecursion IsReadable xs

-- ---- one unit after the other

without_first : (fs : List Bool) (i : ℕ) (x : Shown) (xs : List Shown)
    → without (drop i fs) (x ∷ xs) ≡ unlaid (unwrap_or (slice_get fs i) false) x ∷ without (drop 1 (drop i fs)) xs
without_first [] zero x xs = refl
without_first [] (suc i) x xs = refl
without_first (f ∷ fs) zero x xs = refl
without_first (f ∷ fs) (suc i) x xs = without_first fs i x xs

pub without_next : (fs : List Bool) (now : List Shown) (i : ℕ) (d y : Shown) → i < length now
    → y ≡ unlaid (unwrap_or (slice_get fs i) false) (slice_index_or now i d)
    → take (i + 1) (slice_set now i y) ++ without (drop (i + 1) fs) (drop (i + 1) (slice_set now i y))
    ≡ take i now ++ without (drop i fs) (drop i now)
without_next fs now i d y inside is =
    let rest : List Shown = drop (i + 1) now in
    ap (λ xs. xs ++ without (drop (i + 1) fs) (drop (i + 1) (slice_set now i y))) (take_more_set now i y inside)
    ∙ append_assoc (take i now) (y ∷ []) (without (drop (i + 1) fs) (drop (i + 1) (slice_set now i y)))
    ∙ ap (λ xs. take i now ++ y ∷ without (drop (i + 1) fs) xs) (drop-set-lt (i + 1) now i y (omega arith))
    ∙ ap (λ x. take i now ++ x ∷ without (drop (i + 1) fs) rest) is
    ∙ ap (λ gs. take i now ++ unlaid (unwrap_or (slice_get fs i) false) (slice_index_or now i d) ∷ without gs rest)
    (sym (drop-drop 1 i fs))
    ∙ ap (λ xs. take i now ++ xs) (sym (without_first fs i (slice_index_or now i d) rest))
    ∙ ap (λ xs. take i now ++ without (drop i fs) xs) (sym (drop_more now i d inside))

pub without_end : (fs : List Bool) (now : List Shown) (i : ℕ) → length now ≤ i
    → take i now ++ without (drop i fs) (drop i now) ≡ now
without_end fs now i past =
    ap (λ xs. take i now ++ xs) (ap (without (drop i fs)) (drop_all i now past) ∙ nothing (drop i fs))
    ∙ append-nil (take i now) ∙ take_all i now past
  where
    nothing : (gs : List Bool) → without gs [] ≡ []
    nothing [] = refl
    nothing (g ∷ gs) = refl

-- ---- what remains readable

nothing_behind : {A : Type 0} (xs ys : List A) → xs ++ ys ≡ [] → ys ≡ []
nothing_behind [] ys e = e
nothing_behind (x ∷ xs) ys e = cc

all_behind : {A : Type 0} (P : A → Type 0) (xs ys : List A) → All P (xs ++ ys) → All P ys
all_behind P [] ys h = h
all_behind P (x ∷ xs) ys h = all_behind P xs ys (All-tail P x (xs ++ ys) h)

one_dropped : (x : Shown) → IsReadable x → IsReadable (dropped x)
one_dropped x h = record {
  placed = λ none. nothing_behind (placed_lines x.parts) x.lines (h.placed none);
  short = all_behind (λ line. All IsShort line.items) (placed_lines x.parts) x.lines h.short;
  short_items =
      all_behind (λ p. All IsShort p.items) (placed_paragraphs x.parts) x.paragraphs.items h.short_items;
  below = λ a is. tt;
}

one_unlaid : (f : Bool) (x : Shown) → IsReadable x → IsReadable (unlaid f x)
one_unlaid true x h =
    record { placed = h.placed; short = h.short; short_items = h.short_items; below = λ a is. cc }
one_unlaid false x h =
    record { placed = h.placed; short = h.short; short_items = h.short_items; below = h.below }

readable_each : (fs : List Bool) (xs : List Shown) → AreReadable xs → AreReadable (without fs xs)
readable_each [] xs h = h
readable_each (f ∷ fs) [] h = h
readable_each (f ∷ fs) (x ∷ xs) h = (one_unlaid f x h.0, readable_each fs xs h.1)

pub readable_without : (fs : List Bool) (xs : List Shown) → AllReadable xs → AllReadable (without fs xs)
readable_without fs xs h =
    All-from_recursion IsReadable (without fs xs) (readable_each fs xs (recursion_from_All IsReadable xs h))

readable_all : (xs : List Shown) → AreReadable xs → AreReadable (map dropped xs)
readable_all [] h = tt
readable_all (x ∷ xs) h = (one_dropped x h.0, readable_all xs h.1)

pub readable_dropped : (xs : List Shown) → AllReadable xs → AllReadable (map dropped xs)
readable_dropped xs h =
    All-from_recursion IsReadable (map dropped xs) (readable_all xs (recursion_from_All IsReadable xs h))

one_readable : (ps : List PlacedPart) (x : Shown) → IsReadable x → IsReadable (dropped_by ps x)
one_readable [] x h = h
one_readable (p ∷ ps) x h = one_dropped x h

readable_by : (xs : List Shown) → AreReadable xs → AreReadable (without_parts xs)
readable_by [] h = tt
readable_by (x ∷ xs) h = (one_readable x.parts x h.0, readable_by xs h.1)

pub readable_left : (xs : List Shown) → AllReadable xs → AllReadable (without_parts xs)
readable_left xs h =
    All-from_recursion IsReadable (without_parts xs) (readable_by xs (recursion_from_All IsReadable xs h))

-- where parts have no lines, nothing changes
pub all_stay : (xs : List Shown) → without_parts (map dropped xs) ≡ map dropped xs
all_stay [] = refl
all_stay (x ∷ xs) = ap (λ ys. dropped x ∷ ys) (all_stay xs)
