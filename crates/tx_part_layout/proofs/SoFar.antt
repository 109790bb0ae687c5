-- What is laid out so far is right, by one part more, and whether there is a paragraph.
use Rattle.std.proofs.Common.{◌≡◌, ℕ, ◌+◌, ◌≤◌, List, [], ◌∷◌, ◌++◌, length}
use Rattle.std.proofs.Common.{refl, ap, sym, subst, ◌∙◌, arith, length-append}
use Rattle.std.specs.Prelude.{Bool, true, false, not, ◌||◌, ◌==◌}
use Rattle.std.specs.Prelude.{Option, Some}
use Rattle.std.specs.List.{flat_map, filter_map, cons_option, All}
use Rattle.std.proofs.lemmas.List.{append-nil, length-map}
use Rattle.std.proofs.lemmas.List.Concat.{flat_map-append}
use Rattle.std.proofs.lemmas.List.Elements.{All-nil, All-cons, All-append, filter_map-append}
use Rattle.std.proofs.lemmas.List.Sums.{sum_by-append, sum_by-cons}
use Rattle.tx_items.specs.declared.attributes.Attrs.{Attrs}
use Rattle.tx_items.specs.declared.drawing.Paragraph.{Paragraph}
use Rattle.tx_items.specs.Drawing.{paragraph}
use Rattle.tx_items.specs.Shows.{or_one}
use Rattle.tx_part_items.specs.ItemsUnder.{paragraph_under}
use Rattle.tx_part_layout.specs.declared.laid.PlacedPart.{PlacedPart}
use Rattle.tx_part_layout.specs.declared.laying.Laying.{Laying}
use Rattle.tx_part_layout.specs.LaidParts.{IsLaidPart, AreBelow, laid_paragraphs, paragraphs_placed, placed_paragraphs}
use Rattle.tx_part_layout.specs.declared.slots.Slot.{Slot}
use Rattle.tx_part_layout.specs.declared.slots.Slot.TheVariants.{Again, Anew}
use Rattle.tx_part_layout.specs.Laying.{IsRightSoFar, IsAdded, IsSome, lines_in, so_far}
use Rattle.tx_part_layout.specs.Slots.{slot_part, placed_by, AreRising, IsBetween, number_behind}

-- ---- one part more

one_line_count : (q : PlacedPart) → lines_in (q ∷ []) ≡ length q.laid.value.lines
one_line_count q = omega (arith, sum_by-cons (λ (p : PlacedPart). length p.laid.value.lines) q [])

rows_more : (ps : List PlacedPart) (q : PlacedPart) → lines_in (ps ++ q ∷ []) ≡ lines_in ps + length q.laid.value.lines
rows_more ps q =
    omega (arith, one_line_count q, sum_by-append (λ (p : PlacedPart). length p.laid.value.lines) ps (q ∷ []))

below_more : (n : ℕ) (ps : List PlacedPart) (q : PlacedPart) → AreBelow n ps → q.above ≡ n + lines_in ps →
    AreBelow n (ps ++ q ∷ [])
below_more n [] q h e = (omega (arith, e), record {})
below_more n (p ∷ ps) q h e = (
  h.0,
  below_more (n + length p.laid.value.lines) ps q h.1
      (omega (arith, e, sum_by-cons (λ (r : PlacedPart). length r.laid.value.lines) p ps)),
)

is_none : (n : ℕ) → n ≡ 0 → false ≡ not (n == 0)
is_none n e = grind (arith, e)

is_some : (n m : ℕ) → n ≡ m + 1 → true ≡ not (n == 0)
is_some n m e = grind (arith, e)

some_more : (b : Bool) (ps qs : List Paragraph) → IsSome b ps → IsSome (b || not (length qs == 0)) (ps ++ qs)
some_more true ps qs h = (h.0, h.1 ++ qs, ap (λ rs. rs ++ qs) h.2)
some_more false ps [] h =
    subst (λ b. IsSome b (ps ++ [])) (is_none (length {A = Paragraph} []) refl) (append-nil ps ∙ h)
some_more false ps (q ∷ qs) h =
    subst (λ b. IsSome b (ps ++ q ∷ qs)) (is_some (length (q ∷ qs)) (length qs) (omega arith))
    (q, qs, ap (λ rs. rs ++ q ∷ qs) h)

-- ---- reused layouts

unfilled : {X Y : Type 0} (f : X → Option Y) (x : X) (y : Y) → f x ≡ Some y → filter_map f (x ∷ []) ≡ y ∷ []
unfilled f x y e = ap (λ o. cons_option o []) e

pub placed_more : (old : List PlacedPart) (ss ts : List Slot) (s : Slot) (q : PlacedPart) → ts ≡ ss ++ s ∷ []
    → slot_part old s ≡ Some q → placed_by old ts ≡ placed_by old ss ++ q ∷ []
placed_more old ss ts s q e there =
    ap (placed_by old) e ∙ filter_map-append (slot_part old) ss (s ∷ [])
    ∙ ap (λ qs. placed_by old ss ++ qs) (unfilled (slot_part old) s q there)

rising_more : (n j : ℕ) (ss : List Slot) (s : Slot) (m : ℕ) → AreRising n j ss → n ≤ m → j ≤ n → IsBetween n m s
    → AreRising (number_behind n s) j (ss ++ s ∷ [])
rising_more n j [] (Again i above) m h few low b = (omega (arith, low, b.0), omega arith, record {})
rising_more n j [] (Anew p) m h few low b = record {}
rising_more n j (Again k above ∷ ss) (Again i more) m h few low b =
    (h.0, omega (arith, h.1, b.0), rising_more n (k + 1) ss (Again i more) m h.2 few (omega (arith, h.1)) b)
rising_more n j (Again k above ∷ ss) (Anew p) m h few low b =
    (h.0, h.1, rising_more n (k + 1) ss (Anew p) m h.2 few (omega (arith, h.1)) b)
rising_more n j (Anew q ∷ ss) s m h few low b = rising_more n j ss s m h few low b

behind_within : (n m : ℕ) (s : Slot) → n ≤ m → IsBetween n m s → number_behind n s ≤ m
behind_within n m (Again i above) few b = omega (arith, b.1)
behind_within n m (Anew p) few b = few

pub one_right : (width n : ℕ) (old : List PlacedPart) (s : Slot) (q : PlacedPart) (x y z : Laying)
    → IsLaidPart width q.laid.value → IsRightSoFar width old x → IsBetween x.free (length old) s
    → slot_part old s ≡ Some q → IsAdded s q x z → q.above ≡ x.rows → y.slots ≡ z.slots → y.free ≡ z.free
    → y.rows ≡ z.rows → y.some ≡ z.some → y.next ≡ x.next + 1 → y.unit.items ≡ x.unit.items + n → n ≤ 242000000
    → length q.laid.value.lines ≤ 242000000 → IsRightSoFar width old y
one_right width n old s q x y z laid right between there added above slots free rows some next items few few_lines =
    let had = so_far old x in
    let all : y.slots.items ≡ x.slots.items ++ s ∷ [] = ap (λ ss. ss.items) slots ∙ added.slots in
    let parts : so_far old y ≡ had ++ q ∷ [] = placed_more old x.slots.items y.slots.items s q all there in
    let last : y.free ≡ number_behind x.free s = free ∙ added.free in
    let lines : y.rows ≡ x.rows + length q.laid.value.lines = rows ∙ added.rows in
    record {
      rising =
          subst (λ k. AreRising k 0 y.slots.items) (sym last)
          (subst (AreRising (number_behind x.free s) 0) (sym all)
          (rising_more x.free 0 x.slots.items s (length old) right.rising right.within (omega arith) between));
      within = let w = behind_within x.free (length old) s right.within between in omega (arith, last, w);
      each =
          subst (All (λ p. IsLaidPart width p.laid.value)) (sym parts)
          (All-append (λ p. IsLaidPart width p.laid.value) had (q ∷ []) right.each
          (All-cons (λ p. IsLaidPart width p.laid.value) q [] laid (All-nil (λ p. IsLaidPart width p.laid.value))));
      below =
          subst (AreBelow 0) (sym parts)
          (below_more 0 had q right.below (let r = right.rows in omega (arith, above, r)));
      rows =
          let r = right.rows in
          let sum = ap lines_in parts in omega (arith, lines, r, sum, rows_more had q);
      some =
          subst (λ b. IsSome b (flat_map laid_paragraphs (so_far old y))) (sym (some ∙ added.some))
          (subst (λ (ps : List Paragraph). IsSome (x.some || not (length (laid_paragraphs q) == 0)) ps)
          (sym (
          ap (flat_map laid_paragraphs) parts ∙ flat_map-append laid_paragraphs had (q ∷ [])
          ∙ ap (λ ps. flat_map laid_paragraphs had ++ ps) (append-nil (laid_paragraphs q))
          ))
          (some_more x.some (flat_map laid_paragraphs had) (laid_paragraphs q) right.some));
      few = let before = right.few in omega (arith, next, items, few, before);
      few_rows = let before = right.few_rows in omega (arith, next, lines, few_lines, before);
    }

-- at the start
pub nothing_right : (width : ℕ) (old : List PlacedPart) (x : Laying) → x.slots.items ≡ [] → x.free ≡ 0 → x.rows ≡ 0
    → x.some ≡ false → x.unit.items ≡ 0 → IsRightSoFar width old x
nothing_right width old x slots free rows some items =
    let parts : so_far old x ≡ [] = ap (placed_by old) slots in
    record {
      rising = subst (AreRising x.free 0) (sym slots) (record {});
      within = omega (arith, free);
      each =
          subst (All (λ p. IsLaidPart width p.laid.value)) (sym parts)
          (All-nil (λ p. IsLaidPart width p.laid.value));
      below = subst (AreBelow 0) (sym parts) (record {});
      rows = let all = ap lines_in parts in omega (arith, rows, all);
      some =
          subst (λ b. IsSome b (flat_map laid_paragraphs (so_far old x))) (sym some)
          (ap (flat_map laid_paragraphs) parts);
      few = omega (arith, items);
      few_rows = omega (arith, rows);
    }

-- ---- the end of a unit

-- as many paragraphs in their places
placed_length : (ps : List PlacedPart) → length (placed_paragraphs ps) ≡ length (flat_map laid_paragraphs ps)
placed_length [] = refl
placed_length (p ∷ ps) =
    omega (
      arith,
      length-append (paragraphs_placed p) (placed_paragraphs ps),
      length-append (laid_paragraphs p) (flat_map laid_paragraphs ps),
      length-map (laid_paragraphs p) (paragraph_under p.path),
      placed_length ps,
    )

none_or_one : (xs own : List Paragraph) (a : Attrs) → length xs ≡ 0 → own ≡ paragraph [] a ∷ [] →
    xs ++ own ≡ or_one a xs
none_or_one [] own a n e = e
none_or_one (x ∷ xs) own a n e = absurd (omega (arith, n))

some_or_one : (xs own : List Paragraph) (a : Attrs) (n : ℕ) → length xs ≡ n + 1 → own ≡ [] → xs ++ own ≡ or_one a xs
some_or_one [] own a n l e = absurd (omega (arith, l))
some_or_one (x ∷ xs) own a n l e = ap (λ zs. (x ∷ xs) ++ zs) e ∙ append-nil (x ∷ xs)

pub ended_none : (ps : List PlacedPart) (own : List Paragraph) (a : Attrs) (b : Bool) →
    IsSome b (flat_map laid_paragraphs ps) → b ≡ false → own ≡ paragraph [] a ∷ [] →
    placed_paragraphs ps ++ own ≡ or_one a (placed_paragraphs ps)
ended_none ps own a false none e is =
    none_or_one (placed_paragraphs ps) own a (placed_length ps ∙ ap length none) is
ended_none ps own a true some e is = cc

pub ended_some : (ps : List PlacedPart) (own : List Paragraph) (a : Attrs) (b : Bool) →
    IsSome b (flat_map laid_paragraphs ps) → b ≡ true → own ≡ [] →
    placed_paragraphs ps ++ own ≡ or_one a (placed_paragraphs ps)
ended_some ps own a false none e is = cc
ended_some ps own a true some e is =
    let long = ap length some.2 in
    some_or_one (placed_paragraphs ps) own a (length some.1) (omega (arith, placed_length ps, long)) is
