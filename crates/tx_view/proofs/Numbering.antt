-- The list that holds an element of all, by the sums of their lengths.
use Rattle.std.proofs.Common.{◌≡◌, ℕ, zero, suc, ◌+◌, ◌-◌, ◌<◌, ◌≤◌, List, [], ◌∷◌, length, get_or, true, false, refl}
use Rattle.std.proofs.Common.{sym, subst, ap, ◌∙◌, add-one, arith}
use Rattle.std.specs.Prelude.{nat_lt, if◌then◌else◌, Option, Some, None}
use Rattle.std.specs.Option.{option_map}
use Rattle.tx_view.specs.Units.{sums_from, place_among}

less : (a b : ℕ) → a < b → nat_lt a b ≡ true
less a b h = grind arith

no_less : (a b : ℕ) → b ≤ a → nat_lt a b ≡ false
no_less a b h = grind arith

pub sums_length : (n : ℕ) (ks : List ℕ) → length (sums_from n ks) ≡ length ks + 1
sums_length n [] = refl
sums_length n (k ∷ ks) = omega (arith, sums_length (n + k) ks)

pub sums_head : (n : ℕ) (ks : List ℕ) → get_or (sums_from n ks) 0 0 ≡ n
sums_head n [] = refl
sums_head n (k ∷ ks) = refl

sums_least : (n : ℕ) (ks : List ℕ) (i : ℕ) → i < length (sums_from n ks) → n ≤ get_or (sums_from n ks) i 0
sums_least n [] zero h = omega arith
sums_least n [] (suc i) h = absurd (omega arith)
sums_least n (k ∷ ks) zero h = omega arith
sums_least n (k ∷ ks) (suc i) h = omega (arith, sums_least (n + k) ks i (omega arith))

further : Option (ℕ × ℕ) → Option (ℕ × ℕ)
further o = option_map (λ p. (p.0 + 1, p.1)) o

pub number_at : (n : ℕ) (ks : List ℕ) (k low : ℕ) → low < length ks → get_or (sums_from n ks) low 0 ≤ k
    → k < get_or (sums_from n ks) (suc low) 0 → place_among ks (k - n) ≡ Some (low, k - get_or (sums_from n ks) low 0)
number_at n [] k low h from to = absurd (omega arith)
number_at n (c ∷ cs) k zero h from to =
    let test : nat_lt (k - n) c ≡ true = less (k - n) c (omega (arith, sums_head (n + c) cs)) in
    ap (λ b. if b then Some (0, k - n) else option_map (λ p. (p.0 + 1, p.1)) (place_among cs (k - n - c))) test
number_at n (c ∷ cs) k (suc low) h from to =
    let least : n + c ≤ get_or (sums_from (n + c) cs) low 0 =
    sums_least (n + c) cs low (omega (arith, sums_length (n + c) cs)) in
    let test : nat_lt (k - n) c ≡ false = no_less (k - n) c (omega arith) in
    let same : k - n - c ≡ k - (n + c) = omega arith in
    ap (λ b. if b then Some (0, k - n) else option_map (λ p. (p.0 + 1, p.1)) (place_among cs (k - n - c))) test
    ∙ ap (λ o. option_map (λ p. (p.0 + 1, p.1)) o)
    (ap (place_among cs) same ∙ number_at (n + c) cs k low (omega arith) from to)
    ∙ ap (λ m. Some (m, k - get_or (sums_from (n + c) cs) low 0)) (add-one low)

pub number_past : (n : ℕ) (ks : List ℕ) (k m : ℕ) → m ≡ length ks → get_or (sums_from n ks) m 0 ≤ k
    → place_among ks (k - n) ≡ None
number_past n [] k m e h = refl
number_past n (c ∷ cs) k zero e h = absurd (omega arith)
number_past n (c ∷ cs) k (suc m) e h =
    let least : n + c ≤ get_or (sums_from (n + c) cs) m 0 =
    sums_least (n + c) cs m (omega (arith, sums_length (n + c) cs)) in
    let test : nat_lt (k - n) c ≡ false = no_less (k - n) c (omega arith) in
    let same : k - n - c ≡ k - (n + c) = omega arith in
    ap (λ b. if b then Some (0, k - n) else option_map (λ p. (p.0 + 1, p.1)) (place_among cs (k - n - c))) test
    ∙ ap (λ o. option_map (λ p. (p.0 + 1, p.1)) o)
    (ap (place_among cs) same ∙ number_past (n + c) cs k m (omega arith) h)

-- ---- what a search among the sums finds

pub found_at : (firsts counts : List ℕ) (k low high : ℕ) → firsts ≡ sums_from 0 counts → low < high → high ≤ low + 1
    → high < length firsts → get_or firsts low 0 ≤ k → k < get_or firsts high 0
    → Some (low, k - get_or firsts low 0) ≡ place_among counts k
found_at firsts counts k low high e lt le within from to =
    let next : high ≡ suc low = omega arith in
    let to' : k < get_or firsts (suc low) 0 = subst (λ (m : ℕ). k < get_or firsts m 0) next to in
    let small : low < length counts = omega (arith, sums_length 0 counts, ap length e) in
    let at : place_among counts (k - 0) ≡ Some (low, k - get_or (sums_from 0 counts) low 0) =
    number_at 0 counts k low small (subst (λ (fs : List ℕ). get_or fs low 0 ≤ k) e from)
    (subst (λ (fs : List ℕ). k < get_or fs (suc low) 0) e to') in
    ap (λ fs. Some (low, k - get_or fs low 0)) e ∙ sym at ∙ ap (place_among counts) (omega arith)

pub found_none : (firsts counts : List ℕ) (k last : ℕ) → firsts ≡ sums_from 0 counts → last ≡ length firsts - 1
    → get_or firsts last 0 ≤ k
    → None ≡ place_among counts k
found_none firsts counts k last e so past =
    let at : place_among counts (k - 0) ≡ None =
    number_past 0 counts k last (omega (arith, sums_length 0 counts, ap length e))
    (subst (λ (fs : List ℕ). get_or fs last 0 ≤ k) e past) in
    sym at ∙ ap (place_among counts) (omega arith)

pub apart_first : (firsts : List ℕ) (n k : ℕ) → get_or firsts 0 0 ≡ 0 → k < get_or firsts n 0 → 0 < n
apart_first firsts zero k e h = absurd (omega arith)
apart_first firsts (suc n) k e h = omega arith
