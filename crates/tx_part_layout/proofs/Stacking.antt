-- Reused layouts are taken from the end.
use Rattle.std.proofs.Common.{◌≡◌, ℕ, zero, suc, ◌+◌, ◌≤◌, ◌<◌, List, [], ◌∷◌, ◌++◌, length, reverse, take, drop}
use Rattle.std.proofs.Common.{refl, ap, ap₂, sym, subst, ◌∙◌, arith, append_assoc, length-append}
use Rattle.std.specs.List.{cons_option}
use Rattle.std.specs.Option.{option_map}
use Rattle.std.proofs.lemmas.List.{reverse-append, take-append-drop, length-take-le}
use Rattle.std.specs.Prelude.{Option, Some, slice_get}
use Rattle.tx_part_layout.specs.declared.laid.PlacedPart.{PlacedPart}
use Rattle.tx_part_layout.specs.declared.slots.Slot.{Slot}
use Rattle.tx_part_layout.specs.declared.slots.Slot.TheVariants.{Again, Anew}
use Rattle.tx_part_layout.specs.Slots.{put_below, slot_part, placed_by, AreRising}
use Rattle.tx_part_layout.proofs.SoFar.{placed_more}

-- ---- the last one

pub rising_to : (n j i above : ℕ) (ss : List Slot) → AreRising n j (ss ++ Again i above ∷ []) →
    (j ≤ i) × (i < n) × AreRising i j ss
rising_to n j i above [] h = (h.0, h.1, record {})
rising_to n j i above (Again k more ∷ ss) h =
    let r = rising_to n (k + 1) i above ss h.2 in (omega (arith, h.0, r.0), r.1, (h.0, omega (arith, r.0), r.2))
rising_to n j i above (Anew p ∷ ss) h = rising_to n j i above ss h

pub rising_but : (n j : ℕ) (s : Slot) (ss : List Slot) → AreRising n j (ss ++ s ∷ []) → AreRising n j ss
rising_but n j s [] h = record {}
rising_but n j s (Again k more ∷ ss) h = (h.0, h.1, rising_but n (k + 1) s ss h.2)
rising_but n j s (Anew p ∷ ss) h = rising_but n j s ss h

-- ---- what is after a reused layout

get_front : {X : Type 0} (xs ys : List X) (i : ℕ) → i < length xs → slice_get (xs ++ ys) i ≡ slice_get xs i
get_front [] ys i h = absurd (omega (arith, h))
get_front (x ∷ xs) ys zero h = refl
get_front (x ∷ xs) ys (suc i) h = get_front xs ys i (omega (arith, h))

get_last : {X : Type 0} (xs : List X) (y : X) (ys : List X) (i : ℕ) → i ≡ length xs →
    slice_get (xs ++ y ∷ ys) i ≡ Some y
get_last [] y ys zero e = refl
get_last [] y ys (suc i) e = absurd (omega (arith, e))
get_last (x ∷ xs) y ys zero e = absurd (omega (arith, e))
get_last (x ∷ xs) y ys (suc i) e = get_last xs y ys i (omega (arith, e))

placed_front : (j : ℕ) (xs ys : List PlacedPart) (ss : List Slot) → AreRising (length xs) j ss →
    placed_by (xs ++ ys) ss ≡ placed_by xs ss
placed_front j xs ys [] h = refl
placed_front j xs ys (Again i above ∷ ss) h =
    ap₂ (λ o qs. cons_option (option_map (put_below above) o) qs) (get_front xs ys i h.1)
    (placed_front (i + 1) xs ys ss h.2)
placed_front j xs ys (Anew p ∷ ss) h = ap (λ qs. p.value ∷ qs) (placed_front j xs ys ss h)

-- ---- one step

put_last : (old : List PlacedPart) (ss : List Slot) (s : Slot) (q : PlacedPart) (had all : List PlacedPart)
    (target : List PlacedPart) → slot_part old s ≡ Some q → all ≡ had ++ q ∷ [] →
    placed_by old (ss ++ s ∷ []) ++ reverse had ≡ target → placed_by old ss ++ reverse all ≡ target
put_last old ss s q had all target there more going =
    ap (λ qs. placed_by old ss ++ reverse qs) more
    ∙ ap (λ qs. placed_by old ss ++ qs) (reverse-append had (q ∷ []))
    ∙ sym (append_assoc (placed_by old ss) (q ∷ []) (reverse had))
    ∙ ap (λ qs. qs ++ reverse had) (sym (placed_more old ss (ss ++ s ∷ []) s q refl there))
    ∙ going

-- so many of the former ones are left, and the one after them is the next
pub record IsTaken (old left : List PlacedPart) (i : ℕ) (p : PlacedPart) : Type 0 where
  pub count : length left ≡ i
  pub rest : List PlacedPart
  pub old_is : old ≡ left ++ p ∷ rest

pub again_put : (old left : List PlacedPart) (i above : ℕ) (p q : PlacedPart) (had ss : List Slot)
    (some all target : List PlacedPart) → AreRising (length old) 0 had → had ≡ ss ++ Again i above ∷ [] →
    IsTaken old left i p → q ≡ put_below above p → all ≡ some ++ q ∷ [] →
    placed_by old had ++ reverse some ≡ target →
    AreRising (length left) 0 ss × (placed_by left ss ++ reverse all ≡ target)
again_put old left i above p q had ss some all target rising last taken is more going =
    let r = rising_to (length old) 0 i above ss (subst (AreRising (length old) 0) last rising) in
    let left_rising : AreRising (length left) 0 ss = subst (λ n. AreRising n 0 ss) (sym taken.count) r.2 in
    let whole = taken.old_is in
    let there : slot_part old (Again i above) ≡ Some q =
    ap (λ xs. option_map (put_below above) (slice_get xs i)) whole
    ∙ ap (option_map (put_below above)) (get_last left p taken.rest i (sym taken.count))
    ∙ ap Some (sym is) in (
      left_rising,
      ap (λ ps. ps ++ reverse all)
          (sym (placed_front 0 left (p ∷ taken.rest) ss left_rising) ∙ ap (λ xs. placed_by xs ss) (sym whole))
          ∙ put_last old ss (Again i above) q some all target there more
          (ap (λ ts. placed_by old ts ++ reverse some) (sym last) ∙ going),
    )

pub anew_put : (old : List PlacedPart) (s : Slot) (q : PlacedPart) (had ss : List Slot)
    (some all target : List PlacedPart) → AreRising (length old) 0 had → had ≡ ss ++ s ∷ [] →
    slot_part old s ≡ Some q → all ≡ some ++ q ∷ [] → placed_by old had ++ reverse some ≡ target →
    AreRising (length old) 0 ss × (placed_by old ss ++ reverse all ≡ target)
anew_put old s q had ss some all target rising last there more going = (
  rising_but (length old) 0 s ss (subst (AreRising (length old) 0) last rising),
  put_last old ss s q some all target there more (ap (λ ts. placed_by old ts ++ reverse some) (sym last) ∙ going),
)

-- the first so many, and the last of these
pub taken_is : (old front left : List PlacedPart) (i : ℕ) (p : PlacedPart) → front ≡ take (i + 1) old →
    front ≡ left ++ p ∷ [] → i < length old → IsTaken old left i p
taken_is old front left i p first last few =
    record {
      count =
          omega (
            arith,
            length-append left (p ∷ []),
            ap length last,
            ap length first,
            length-take-le (i + 1) old (omega (arith, few)),
          );
      rest = drop (i + 1) old;
      old_is =
          sym (take-append-drop (i + 1) old) ∙ ap (λ xs. xs ++ drop (i + 1) old) (sym first ∙ last)
          ∙ append_assoc left (p ∷ []) (drop (i + 1) old);
    }

-- one slot is removed, and there is room for the others
pub one_less : {X : Type 0} (ss : List X) (s : X) (n m c d : ℕ) → n + length (ss ++ s ∷ []) ≤ c → m ≡ n + 1 → d ≡ c →
    m + length ss ≤ d
one_less ss s n m c d h e f = omega (arith, h, e, f, length-append ss (s ∷ []))

-- among more
pub rising_within : (n m j : ℕ) (ss : List Slot) → AreRising n j ss → n ≤ m → AreRising m j ss
rising_within n m j [] h few = record {}
rising_within n m j (Again k above ∷ ss) h few =
    (h.0, omega (arith, h.1, few), rising_within n m (k + 1) ss h.2 few)
rising_within n m j (Anew p ∷ ss) h few = rising_within n m j ss h few
