-- Changes that count as made in an earlier scope.
use Rattle.std.proofs.Common.{zero, suc, length, set, get_or, add-one, subst, ◌≡◌, ℕ, ◌+◌, ◌<◌, ◌≤◌, ◌⊎◌, inl, inr}
use Rattle.std.proofs.Common.{true, cond, min, List, [], ◌∷◌, refl, sym, ap, ◌∙◌, arith}
use Rattle.std.specs.Prelude.{nat_le}
use Rattle.std.proofs.lemmas.Bool.{cases_lt}
use Rattle.std.proofs.lemmas.Grind.{common_steps}
use Rattle.tx_env.specs.Pairs.{Pairs, put}
use Rattle.tx_env.specs.Changes.{Change, undone, capped_changes, AreFrom}
use Rattle.tx_env.specs.ScopedView.{changes_of}
use Rattle.tx_env.specs.declared.scoped.Past.{Past}

le_min_by : (k a n : ℕ) → k ≤ n → (a < n) ⊎ (n ≤ a) → nat_le k (min a n) ≡ nat_le k a
le_min_by k a n h (inl l) = ap (nat_le k) (omega (arith, l))
le_min_by k a n h (inr l) =
    let left : nat_le k (min a n) ≡ true = grind (arith, common_steps, h, l) in
    let right : nat_le k a ≡ true = grind (arith, common_steps, h, l) in
    left ∙ sym right

le_min : (k a n : ℕ) → k ≤ n → nat_le k (min a n) ≡ nat_le k a
le_min k a n h = le_min_by k a n h (cases_lt a n)

-- the maps of scopes up to that one are the same
pub capped_undone : (k n : ℕ) (ps : Pairs) (cs : List Change) → k ≤ n
    → undone k ps (capped_changes n cs) ≡ undone k ps cs
capped_undone k n ps [] h = refl
capped_undone k n ps (c ∷ cs) h =
    ap (λ b. cond b (put c.1.0 c.1.1 (undone k ps (capped_changes n cs))) (undone k ps (capped_changes n cs)))
    (le_min k c.0 n h)
    ∙ ap (λ m. cond (nat_le k c.0) (put c.1.0 c.1.1 m) m) (capped_undone k n ps cs h)

pub capped_from : (m n s : ℕ) (ps : Pairs) (cs : List Change) → AreFrom m n ps cs
    → AreFrom (min m s) (s + 1) ps (capped_changes s cs)
capped_from m n s ps [] h = tt
capped_from m n s ps (c ∷ cs) h = (omega (arith, h.0), omega arith, h.2, capped_from c.0 n s ps cs h.3)

-- the first i of the changes are those that were there, with scopes of numbers up to n, and the others are as they were
abbrev pub IsCappedTo : ℕ → ℕ → List Past → List Past → Type 0
IsCappedTo n zero ps qs = ps ≡ qs
IsCappedTo n (suc i) [] [] = Unit {0}
IsCappedTo n (suc i) [] (q ∷ qs) = ⊥
IsCappedTo n (suc i) (p ∷ ps) [] = ⊥
IsCappedTo n (suc i) (p ∷ ps) (q ∷ qs) =
    (p.scope ≡ min q.scope n) × (p.name ≡ q.name) × (p.before ≡ q.before) × IsCappedTo n i ps qs

next : (n i : ℕ) (ps qs : List Past) (p x : Past) → i < length ps → x ≡ get_or ps i x → p.scope ≡ min x.scope n
    → p.name ≡ x.name → p.before ≡ x.before → IsCappedTo n i ps qs → IsCappedTo n (suc i) (set ps i p) qs
next n zero [] qs p x lt is s m b h = absurd (omega arith)
next n zero (y ∷ ps) qs p x lt is s m b h =
    subst (λ zs. IsCappedTo n (suc zero) (p ∷ ps) zs) h (
      s ∙ ap (λ (z : Past). min z.scope n) is,
      m ∙ ap (λ (z : Past). z.name) is,
      b
          ∙ ap (λ (z : Past). z.before) is,
      refl,
    )
next n (suc i) [] qs p x lt is s m b h = absurd (omega arith)
next n (suc i) (y ∷ ps) [] p x lt is s m b h = absurd h
next n (suc i) (y ∷ ps) (q ∷ qs) p x lt is s m b h = (h.0, h.1, h.2, next n i ps qs p x (omega arith) is s m b h.3)

pub capped_next : (n i : ℕ) (ps qs us : List Past) (p x : Past) → i < length ps → x ≡ get_or ps i x
    → p.scope ≡ min x.scope n
    → p.name ≡ x.name → p.before ≡ x.before → us ≡ set ps i p → IsCappedTo n i ps qs → IsCappedTo n (i + 1) us qs
capped_next n i ps qs us p x lt is s m b e h = rw (e, add-one) (next n i ps qs p x lt is s m b h)

pub capped_all : (n i : ℕ) (ps qs : List Past) → length ps ≤ i → IsCappedTo n i ps qs
    → changes_of ps ≡ capped_changes n (changes_of qs)
capped_all n zero [] qs le h = subst (λ zs. [] ≡ capped_changes n (changes_of zs)) h refl
capped_all n zero (p ∷ ps) qs le h = absurd (omega arith)
capped_all n (suc i) [] [] le h = refl
capped_all n (suc i) [] (q ∷ qs) le h = absurd h
capped_all n (suc i) (p ∷ ps) [] le h = absurd h
capped_all n (suc i) (p ∷ ps) (q ∷ qs) le h =
    let scope = h.0 in
    let name = h.1 in
    let before = h.2 in
    rw (scope, name, before)
    (ap (λ cs. (min q.scope n, (q.name, q.before)) ∷ cs) (capped_all n i ps qs (omega arith) h.3))

pub ruleset capped_rules = (capped_next, capped_all)
