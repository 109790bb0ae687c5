-- How far bytes begin a label.
use Rattle.std.proofs.Common.{◌≡◌, ℕ, zero, suc, ◌+◌, ◌<◌, ◌≤◌, true, false, List, [], ◌∷◌, ◌++◌, length, take, get_or}
use Rattle.std.proofs.Common.{length-append, refl, sym, ap, subst, arith, ⊎_elim}
use Rattle.std.specs.List.{AllByRecursion}
use Rattle.std.proofs.lemmas.List.{take_more, length-take-le}
use Rattle.std.proofs.lemmas.Bool.{cases_lt}
use Rattle.tx_base.specs.Fronts.{IsLongestFront}
use Rattle.tx_tree.specs.Labels.{is_label_byte, IsLabel}

abbrev pub AreLabelBytes : List ℕ → Type 0
AreLabelBytes = AllByRecursion (λ b. is_label_byte b ≡ true)

all_append : (a b : List ℕ) → AreLabelBytes a → AreLabelBytes b → AreLabelBytes (a ++ b)
all_append [] b h k = k
all_append (x ∷ a) b h k = (h.0, all_append a b h.1 k)

pub all_more : (bytes : List ℕ) (i : ℕ) → i < length bytes → AreLabelBytes (take i bytes)
    → is_label_byte (get_or bytes i 0) ≡ true → AreLabelBytes (take (i + 1) bytes)
all_more bytes i lt h k = rw (take_more bytes i 0 lt) (all_append (take i bytes) (get_or bytes i 0 ∷ []) h (k, tt))

-- the byte at i of bytes that all are label bytes is one
all_at : (bytes more : List ℕ) (i m : ℕ) → i < m → m ≤ length bytes → AreLabelBytes (take m bytes ++ more)
    → is_label_byte (get_or bytes i 0) ≡ true
all_at [] more i m lt le h = absurd (omega arith)
all_at (b ∷ bytes) more i zero lt le h = absurd (omega arith)
all_at (b ∷ bytes) more zero (suc m) lt le h = h.0
all_at (b ∷ bytes) more (suc i) (suc m) lt le h = all_at bytes more i m (omega arith) (omega arith) h.1

letter : is_label_byte 97 ≡ true
unfolding is_label_byte
letter = refl

-- label bytes, at most as many as a label has, begin one
begins_label : (bytes : List ℕ) → AreLabelBytes bytes → length bytes ≤ 64 → (more : List ℕ) × IsLabel (bytes ++ more)
begins_label [] h short = (97 ∷ [], record { each = (letter, tt); some = omega arith; short = omega arith })
begins_label (b ∷ bytes) h short = (
  [],
  record {
    each = all_append (b ∷ bytes) [] h tt;
    some = omega arith;
    short = omega (arith, length-append bytes []);
  },
)

-- at the 65th byte, or at a byte of no label, the longest front ends
pub label_stops : (bytes : List ℕ) (i : ℕ) → i < length bytes → AreLabelBytes (take i bytes) → i ≤ 64
    → (i < 64 → is_label_byte (get_or bytes i 0) ≡ false)
    → IsLongestFront IsLabel bytes i × (IsLabel bytes → ⊥)
label_stops bytes i lt h short bad = (
  record {
    front = (omega arith, begins_label (take i bytes) h (omega (arith, length-take-le i bytes (omega arith))));
    longest = λ m f. ⊎_elim (λ (past : i < m). absurd (no_front m past f.0 f.1.0 f.1.1)) (λ (le : m ≤ i). le)
        (cases_lt i m);
  },
  λ l. no_front (length bytes) lt (omega arith) [] (subst IsLabel (sym (whole bytes)) l),
)
  where
    no_front : (m : ℕ) → i < m → m ≤ length bytes → (more : List ℕ) → IsLabel (take m bytes ++ more) → ⊥
    no_front m past le more l =
        ⊎_elim
        (λ (below : i < 64). let good = all_at bytes more i m past le l.each in let not = bad below in cc)
        (λ (above : 64 ≤ i). absurd
        (omega (arith, l.short, length-append (take m bytes) more, length-take-le m bytes le)))
        (cases_lt i 64)

    whole : (x : List ℕ) → take (length x) x ++ [] ≡ x
    whole [] = refl
    whole (b ∷ x) = ap (λ y. b ∷ y) (whole x)

-- the empty byte string begins a label, and is none
pub label_empty : (bytes : List ℕ) → length bytes ≡ 0 → IsLongestFront IsLabel bytes 0 × (IsLabel bytes → ⊥)
label_empty bytes e = (
  record { front = (omega arith, begins_label [] tt (omega arith)); longest = λ m f. omega (arith, f.0) },
  λ l. absurd (omega (arith, l.some)),
)
