-- Numbers of versions, read digit by digit and piece by piece.
use Rattle.std.proofs.Common.{◌≡◌, ℕ, zero, suc, ◌+◌, ◌-◌, ◌*◌, ◌^◌, ◌<◌, ◌≤◌, true, false, List, [], ◌∷◌, ◌++◌}
use Rattle.std.proofs.Common.{length, take, drop, get_or, Option, Some, None, refl, sym, ap, subst, ◌∙◌, arith}
use Rattle.std.specs.List.{list_all}
use Rattle.std.proofs.lemmas.Bool.{and_parts, leb-true}
use Rattle.std.proofs.Common.{cond, length-take, length-drop, take-append-drop, append_assoc}
use Rattle.std.specs.Prelude.{nat_le, option_map, option_and_then}
use Rattle.std.specs.List.{slice_split, onto_first}
use Rattle.std.proofs.lemmas.List.{at_drop_more, drop_more, take_all, get_or-take}
use Rattle.std.specs.Option.{option_map_or}
use Rattle.std.specs.Ordering.{is_lt, nat_cmp}
use Rattle.std.specs.Cmp.Lexicographic.{slice_cmp}
use Rattle.tx_doc.specs.Versions.{is_point, number_of_digits, numbers_of, version_of, is_old_version}
use Rattle.std.proofs.lemmas.Grind.{pow_more}
use Rattle.tx_tree.specs.PathSpelling.{is_digit}

tens_grow : (i k : ℕ) → 10 ^ i ≤ 10 ^ (k + i)
tens_grow i zero = let same : 0 + i ≡ i = omega arith in rw same (omega arith)
tens_grow i (suc k) =
    let e : 10 ^ ((k + i) + 1) ≡ 10 ^ (k + i) * 10 = pow_more 10 (k + i) in
    let same : suc k + i ≡ (k + i) + 1 = omega arith in
    rw same (omega (arith, e, tens_grow i k))

-- a number of at most eight digits is small
pub few_tens : (i : ℕ) → i < 9 → 10 ^ i ≤ 100000000
few_tens i h = let same : (8 - i) + i ≡ 8 = omega arith in subst (λ n. 10 ^ i ≤ 10 ^ n) same (tens_grow i (8 - i))

pub one_more : (i v d : ℕ) → v < 10 ^ i → d ≤ 9 → v * 10 + d < 10 ^ (i + 1)
one_more i v d h le = omega (arith, pow_more 10 i)

-- the next digit is one, and those after it are
pub next_digit : (digits : List ℕ) (i : ℕ) → i < length digits → list_all is_digit (drop i digits) ≡ true
    → (get_or digits i 0 - 48 ≤ 9) × (list_all is_digit (drop (i + 1) digits) ≡ true)
next_digit digits i lt h =
    let b = get_or digits i 0 in
    let p = and_parts (is_digit b) (list_all is_digit (drop (i + 1) digits))
    (sym (at_drop_more (list_all is_digit) digits i 0 lt) ∙ h) in
    let q = and_parts (nat_le 48 b) (nat_le b 57) p.0 in
    (omega (arith, leb-true b 57 q.1), p.1)

-- ---- pieces between points

no_point : (x : ℕ) → (x ≡ 46 → ⊥) → is_point x ≡ false
no_point x h = grind (arith, h)

-- before the first point, and after it
cut_at : (xs ys : List ℕ) → ((k : ℕ) → k < length xs → get_or xs k 0 ≡ 46 → ⊥)
    → slice_split is_point (xs ++ 46 ∷ ys) ≡ xs ∷ slice_split is_point ys
cut_at [] ys h = refl
cut_at (x ∷ xs) ys h =
    ap (λ b. cond b ([] ∷ slice_split is_point (xs ++ 46 ∷ ys)) (onto_first x (slice_split is_point (xs ++ 46 ∷ ys))))
    (no_point x (h 0 (omega arith)))
    ∙ ap (onto_first x) (cut_at xs ys (λ k lt e. h (suc k) (omega arith) e))

-- without a point
pub uncut : (xs : List ℕ) → ((k : ℕ) → k < length xs → get_or xs k 0 ≡ 46 → ⊥) → slice_split is_point xs ≡ xs ∷ []
uncut [] h = refl
uncut (x ∷ xs) h =
    ap (λ b. cond b ([] ∷ slice_split is_point xs) (onto_first x (slice_split is_point xs)))
    (no_point x (h 0 (omega arith)))
    ∙ ap (onto_first x) (uncut xs (λ k lt e. h (suc k) (omega arith) e))

pub cut : (xs : List ℕ) (i : ℕ) → i < length xs → get_or xs i 0 ≡ 46
    → ((k : ℕ) → k < i → get_or xs k 0 ≡ 46 → ⊥)
    → slice_split is_point xs ≡ take i xs ∷ slice_split is_point (take (length xs - (i + 1)) (drop (i + 1) xs))
cut xs i lt e h =
    let rest : take (length xs - (i + 1)) (drop (i + 1) xs) ≡ drop (i + 1) xs =
    take_all (length xs - (i + 1)) (drop (i + 1) xs) (omega (arith, length-drop (i + 1) xs)) in
    let parts : xs ≡ take i xs ++ 46 ∷ drop (i + 1) xs =
    sym (take-append-drop i xs) ∙ ap (λ zs. take i xs ++ zs) (drop_more xs i 0 lt
    ∙ ap (λ z. z ∷ drop (i + 1) xs) e) in
    rw rest
    (ap (slice_split is_point) parts
    ∙ cut_at (take i xs) (drop (i + 1) xs)
    (λ k less f. let l : k < i = omega (arith, length-take i xs, less) in h k l (sym (get_or-take i xs k 0 l) ∙ f)))

-- ---- numbers of pieces

-- one number more
pub number_more : (ns digits : List ℕ) (rest : List (List ℕ)) (n : ℕ) → number_of_digits digits ≡ Some n
    → option_map (λ ms. ns ++ ms) (numbers_of (digits ∷ rest))
    ≡ option_map (λ ms. (ns ++ n ∷ []) ++ ms) (numbers_of rest)
number_more ns digits rest n e =
    ap (λ o. option_map (λ ms. ns ++ ms) (option_and_then (λ m. option_map (λ ms. m ∷ ms) (numbers_of rest)) o)) e
    ∙ by (numbers_of rest)
  where
    by : (o : Option (List ℕ)) → option_map (λ ms. ns ++ ms) (option_map (λ ms. n ∷ ms) o)
        ≡ option_map (λ ms. (ns ++ n ∷ []) ++ ms) o
    by None = refl
    by (Some ms) = ap Some (sym (append_assoc ns (n ∷ []) ms))

-- a piece without a number
pub no_number : (ns digits : List ℕ) (rest : List (List ℕ)) → number_of_digits digits ≡ None
    → option_map (λ ms. ns ++ ms) (numbers_of (digits ∷ rest)) ≡ None
no_number ns digits rest e =
    ap (λ o. option_map (λ ms. ns ++ ms) (option_and_then (λ m. option_map (λ ms. m ∷ ms) (numbers_of rest)) o)) e

pub old_by : (bytes ns : List ℕ) → version_of bytes ≡ Some ns
    → is_old_version bytes ≡ is_lt (slice_cmp nat_cmp ns (1 ∷ 0 ∷ 2 ∷ []))
old_by bytes ns e = ap (λ o. option_map_or (λ ms. is_lt (slice_cmp nat_cmp ms (1 ∷ 0 ∷ 2 ∷ []))) o false) e
