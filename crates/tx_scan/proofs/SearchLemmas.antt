-- The first stop from a place, over a block and by its clauses.
use Rattle.std.proofs.Common.{◌≡◌, ℕ, ◌+◌, ◌-◌, ◌<◌, ◌≤◌, Bool, true, false, not, List, ◌++◌, length, drop, get_or, sym}
use Rattle.std.proofs.Common.{ap, ◌∙◌, subst, arith, length-drop}
use Rattle.std.specs.List.{position_or_len}
use Rattle.std.proofs.lemmas.Bool.{eq-eqb, ne_eqb, cond-true, cond-false}
use Rattle.std.proofs.lemmas.List.{get_or-drop}
use Rattle.std.proofs.lemmas.List.Folds.{prefix_len-append}
use Rattle.std.proofs.lemmas.List.Sums.{prefix_len-le-length, fails_before_first, passes_at_first}
use Rattle.std.proofs.lemmas.Simd.{length-chunk, chunk-drop}
use lib.Lanes.{chunk}
use Rattle.tx_scan.specs.Stops.{is_stop, first_stop_from}

-- the first that passes is in the front
in_front : (p : ℕ → Bool) (xs ys : List ℕ) → position_or_len p xs < length xs
    → position_or_len p (xs ++ ys) ≡ position_or_len p xs
in_front p xs ys lt =
    prefix_len-append (λ x. not (p x)) xs ys
    ∙ cond-false _ _ _
    (ne_eqb (position_or_len p xs) (length xs) (λ e. let same : position_or_len p xs ≡ length xs = e in
    omega arith))

-- none in the front passes
past_front : (p : ℕ → Bool) (xs ys : List ℕ) → length xs ≤ position_or_len p xs
    → position_or_len p (xs ++ ys) ≡ length xs + position_or_len p ys
past_front p xs ys le =
    let all : position_or_len p xs ≡ length xs = omega (arith, prefix_len-le-length (λ x. not (p x)) xs) in
    prefix_len-append (λ x. not (p x)) xs ys ∙ cond-true _ _ _ (eq-eqb (position_or_len p xs) (length xs) all)

-- a block that holds a stop
pub first_stop_from-in_block : (set bytes : List ℕ) (at r : ℕ) → at + 32 ≤ length bytes
    → r ≡ position_or_len (is_stop set) (chunk at 32 bytes) → r < 32 → first_stop_from set bytes at ≡ at + r
first_stop_from-in_block set bytes at r room run lt =
    let long = length-chunk at 32 bytes room in
    ap (λ n. at + n) (
    ap (position_or_len (is_stop set)) (chunk-drop at 32 bytes)
    ∙ in_front (is_stop set) (chunk at 32 bytes) (drop (at + 32) bytes) (omega arith)
    ∙ sym run
    )

-- a block that holds none
pub first_stop_from-past_block : (set bytes : List ℕ) (at r : ℕ) → at + 32 ≤ length bytes
    → r ≡ position_or_len (is_stop set) (chunk at 32 bytes) → 32 ≤ r
    → first_stop_from set bytes at ≡ first_stop_from set bytes (at + 32)
first_stop_from-past_block set bytes at r room run le =
    let long = length-chunk at 32 bytes room in
    let past : position_or_len (is_stop set) (drop at bytes) ≡ length (chunk at 32 bytes) + position_or_len
    (is_stop set) (drop (at + 32) bytes) =
    ap (position_or_len (is_stop set)) (chunk-drop at 32 bytes)
    ∙ past_front (is_stop set) (chunk at 32 bytes) (drop (at + 32) bytes) (omega arith) in
    omega arith

-- the first stop lies within the bytes
pub first_stop_from-within : (set bytes : List ℕ) (from r : ℕ) → from ≤ length bytes
    → r ≡ first_stop_from set bytes from → r ≤ length bytes
first_stop_from-within set bytes from r le is =
    omega (arith, prefix_len-le-length (λ x. not (is_stop set x)) (drop from bytes), length-drop from bytes)

-- no stop is before it
pub first_stop_from-before : (set bytes : List ℕ) (from r k : ℕ) → r ≡ first_stop_from set bytes from → from ≤ k → k < r
    → is_stop set (get_or bytes k 0) ≡ false
first_stop_from-before set bytes from r k is le lt =
    let back : from + (k - from) ≡ k = omega arith in
    let at = get_or-drop from bytes (k - from) 0 ∙ ap (λ j. get_or bytes j 0) back in
    subst (λ b. is_stop set b ≡ false) at
    (fails_before_first (is_stop set) (drop from bytes) (k - from) 0 (omega arith))

-- a stop is there, unless it is the end
pub first_stop_from-found : (set bytes : List ℕ) (from r : ℕ) → r ≡ first_stop_from set bytes from → r < length bytes
    → is_stop set (get_or bytes r 0) ≡ true
first_stop_from-found set bytes from r is lt =
    let at = get_or-drop from bytes (position_or_len (is_stop set) (drop from bytes)) 0
    ∙ ap (λ j. get_or bytes j 0) (sym is) in
    subst (λ b. is_stop set b ≡ true) at
    (passes_at_first (is_stop set) (drop from bytes) 0 (omega (arith, length-drop from bytes)))
