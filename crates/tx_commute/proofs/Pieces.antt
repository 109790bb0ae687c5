-- A list with others in place of a part, and one element set in it.
use Rattle.std.proofs.Common.{◌≡◌, ℕ, zero, suc, ◌+◌, ◌-◌, ◌<◌, ◌≤◌, List, [], ◌∷◌, ◌++◌, length, take, drop, set, refl, sym, ap, ◌∙◌}
use Rattle.std.proofs.Common.{length-append, append_assoc, arith}
use Rattle.std.specs.Prelude.{slice_get}
use Rattle.std.proofs.lemmas.List.{length-take-le, take-set-le, drop-set-lt, drop-set-add, set-append_left}
use Rattle.std.proofs.lemmas.List.{set-append_right}
use Rattle.std.proofs.Math.Seq.{take-set-lt}
use Rattle.tx_mod.specs.Mods.{put_in}

-- the list with ys in place of what is from place i to before place m
abbrev pub piece : {X : Type 0} → List X → ℕ → ℕ → List X → List X
piece xs i m ys = take i xs ++ (ys ++ drop m xs)

pub put_in_is : {X : Type 0} (xs ys : List X) (i : ℕ) → put_in xs i ys ≡ piece xs i i ys
put_in_is {X} xs ys i = append_assoc (take i xs) ys (drop i xs)

pub piece_before : {X : Type 0} (xs ys : List X) (i m k : ℕ) (v : X) → k < i → i ≤ m → i ≤ length xs
    → piece (set xs k v) i m ys ≡ set (piece xs i m ys) k v
piece_before {X} xs ys i m k v lt le within =
    let front : length (take i xs) ≡ i = length-take-le {A = X} i xs within in
    ap (λ z. z ++ (ys ++ drop m (set xs k v))) (take-set-lt i xs k v lt)
    ∙ ap (λ z. set (take i xs) k v ++ (ys ++ z)) (drop-set-lt m xs k v (omega arith))
    ∙ sym (set-append_left (take i xs) (ys ++ drop m xs) k v (omega arith))

-- set in what is put in
pub piece_inside : {X : Type 0} (xs ys : List X) (i m n k : ℕ) (v : X) → i ≤ length xs → n ≡ i + k → k < length ys
    → piece xs i m (set ys k v) ≡ set (piece xs i m ys) n v
piece_inside {X} xs ys i m n k v within is lt =
    let front : length (take i xs) ≡ i = length-take-le {A = X} i xs within in
    let e : n - i ≡ k = omega arith in
    sym (set-append_right (take i xs) (ys ++ drop m xs) i n v front (omega arith)
    ∙ ap (λ j. take i xs ++ set (ys ++ drop m xs) j v) e
    ∙ ap (λ z. take i xs ++ z) (set-append_left ys (drop m xs) k v lt))

pub piece_behind : {X : Type 0} (xs ys : List X) (i m k n : ℕ) (v : X) → i ≤ m → m ≤ k → i ≤ length xs
    → n ≡ i + length ys + (k - m) → piece (set xs k v) i m ys ≡ set (piece xs i m ys) n v
piece_behind {X} xs ys i m k n v le le' within is =
    let front : length (take i xs) ≡ i = length-take-le {A = X} i xs within in
    let at : k ≡ m + (k - m) = omega arith in
    let first : (n - i) - length ys ≡ k - m = omega arith in
    ap (λ z. z ++ (ys ++ drop m (set xs k v))) (take-set-le i xs k v (omega arith))
    ∙ ap (λ j. take i xs ++ (ys ++ drop m (set xs j v))) at
    ∙ ap (λ z. take i xs ++ (ys ++ z)) (drop-set-add m xs (k - m) v)
    ∙ sym (set-append_right (take i xs) (ys ++ drop m xs) i n v front (omega arith)
    ∙ ap (λ z. take i xs ++ z) (set-append_right ys (drop m xs) (length ys) (n - i) v refl (omega arith))
    ∙ ap (λ j. take i xs ++ (ys ++ set (drop m xs) j v)) first)

-- set in what is put aside
pub piece_aside : {X : Type 0} (xs ys : List X) (i m k : ℕ) (v : X) → i ≤ k → k < m
    → piece (set xs k v) i m ys ≡ piece xs i m ys
piece_aside {X} xs ys i m k v le lt =
    ap (λ z. z ++ (ys ++ drop m (set xs k v))) (take-set-le i xs k v le)
    ∙ ap (λ z. take i xs ++ (ys ++ z)) (drop-set-lt m xs k v lt)

-- ---- what is where

pub get_left : {X : Type 0} → (xs ys : List X) (k : ℕ) → k < length xs → slice_get (xs ++ ys) k ≡ slice_get xs k
get_left [] ys k lt = absurd (omega arith)
get_left (x ∷ xs) ys zero lt = refl
get_left {X} (x ∷ xs) ys (suc k) lt = get_left {X = X} xs ys k (omega arith)

pub get_right : {X : Type 0} → (xs ys : List X) (n k : ℕ) → n ≡ length xs + k → slice_get (xs ++ ys) n ≡ slice_get ys k
get_right {X} [] ys n k e = ap (slice_get {X = X} ys) (let same : n ≡ k = omega arith in same)
get_right (x ∷ xs) ys zero k e = absurd (omega arith)
get_right {X} (x ∷ xs) ys (suc n) k e = get_right {X = X} xs ys n k (omega arith)

pub get_front : {X : Type 0} → (xs : List X) (i k : ℕ) → k < i → slice_get (take i xs) k ≡ slice_get xs k
get_front xs zero k lt = absurd (omega arith)
get_front [] (suc i) k lt = refl
get_front (x ∷ xs) (suc i) zero lt = refl
get_front {X} (x ∷ xs) (suc i) (suc k) lt = get_front {X = X} xs i k (omega arith)

pub get_back : {X : Type 0} → (xs : List X) (i k n : ℕ) → n ≡ i + k → slice_get (drop i xs) k ≡ slice_get xs n
get_back {X} xs zero k n e = ap (slice_get {X = X} xs) (let same : k ≡ n = omega arith in same)
get_back [] (suc i) k n e = refl
get_back (x ∷ xs) (suc i) k zero e = absurd (omega arith)
get_back {X} (x ∷ xs) (suc i) k (suc n) e = get_back {X = X} xs i k n (omega arith)

pub get_before : {X : Type 0} (xs ys : List X) (i m k : ℕ) → k < i → i ≤ length xs
    → slice_get (piece xs i m ys) k ≡ slice_get xs k
get_before {X} xs ys i m k lt within =
    let front : length (take i xs) ≡ i = length-take-le {A = X} i xs within in
    get_left (take i xs) (ys ++ drop m xs) k (omega arith) ∙ get_front xs i k lt

pub get_inside : {X : Type 0} (xs ys : List X) (i m n k : ℕ) → i ≤ length xs → n ≡ i + k → k < length ys
    → slice_get (piece xs i m ys) n ≡ slice_get ys k
get_inside {X} xs ys i m n k within is lt =
    let front : length (take i xs) ≡ i = length-take-le {A = X} i xs within in
    get_right (take i xs) (ys ++ drop m xs) n k (omega arith) ∙ get_left ys (drop m xs) k lt

pub get_behind : {X : Type 0} (xs ys : List X) (i m n k j : ℕ) → i ≤ length xs → n ≡ i + length ys + k → j ≡ m + k
    → slice_get (piece xs i m ys) n ≡ slice_get xs j
get_behind {X} xs ys i m n k j within is at =
    let front : length (take i xs) ≡ i = length-take-le {A = X} i xs within in
    get_right (take i xs) (ys ++ drop m xs) n (length ys + k) (omega arith)
    ∙ get_right ys (drop m xs) (length ys + k) k refl
    ∙ get_back xs m k j at
