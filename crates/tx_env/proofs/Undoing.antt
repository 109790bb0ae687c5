-- Changes taken back.
use Rattle.std.proofs.Common.{◌≡◌, ℕ, ◌+◌, ◌-◌, ◌<◌, ◌≤◌, Bool, true, false, cond, List, [], ◌∷◌, ◌++◌, refl}
use Rattle.std.proofs.Common.{sym, ap, ◌∙◌, subst, arith}
use Rattle.std.specs.Prelude.{nat_le, Option, Some, IsSome, if◌then◌else◌}
use Rattle.std.proofs.lemmas.Grind.{common_steps}
use Rattle.std.specs.Str.{bytes_eq}
use Rattle.std.specs.Cmp.Lexicographic.{bytes_decides}
use Rattle.tx_tree.specs.WideTree.{WideTree}
use Rattle.tx_env.specs.Pairs.{Name, Pairs, listed, find, put}
use Rattle.tx_env.specs.Changes.{Change, undone, AreSame, AreFrom}
use Rattle.tx_env.specs.ScopedView.{changes_of, EndsOutside}
use Rattle.tx_env.specs.declared.scoped.Past.{Past}
use Rattle.std.proofs.lemmas.Bool.{cases_lt}
use Rattle.std.proofs.Common.{◌⊎◌, inl, inr}
use Rattle.tx_env.proofs.Finding.{find_put, listed_put, listed_kept, put_same}

at_least : (k n : ℕ) → k ≤ n → nat_le k n ≡ true
at_least k n h = grind (arith, common_steps, h)

less : (k n : ℕ) → n < k → nat_le k n ≡ false
less k n h = grind (arith, common_steps, h)

-- where no change is in a scope from number k on, nothing is taken back
pub none_undone : (k n : ℕ) (map map' : Pairs) (m : ℕ) (cs : List Change) → AreFrom m n map' cs → n ≤ k
    → undone k map cs ≡ map
none_undone k n map map' m [] h le = refl
none_undone k n map map' m (c ∷ cs) h le =
    rw (less k c.0 (omega (arith, h.1, le))) (none_undone k n map map' c.0 cs h.3 le)

undone_cond : (k : ℕ) (c : Change) (map map' : Pairs) (b : Bool) → map ≡ map'
    → cond b (put c.1.0 c.1.1 map) map ≡ cond b (put c.1.0 c.1.1 map') map'
undone_cond k c map map' b h = ap (λ m. cond b (put c.1.0 c.1.1 m) m) h

-- the last change is taken back first
pub undone_push : (k : ℕ) (map : Pairs) (cs : List Change) (c : Change)
    → undone k map (cs ++ c ∷ []) ≡ undone k (cond (nat_le k c.0) (put c.1.0 c.1.1 map) map) cs
undone_push k map [] c = refl
undone_push k map (d ∷ cs) c = undone_cond k d _ _ (nat_le k d.0) (undone_push k map cs c)

same_cond : (c : Change) (ps qs : Pairs) (b : Bool) → AreSame ps qs
    → AreSame (cond b (put c.1.0 c.1.1 ps) ps) (cond b (put c.1.0 c.1.1 qs) qs)
same_cond c ps qs true h = put_same c.1.0 c.1.1 ps qs h
same_cond c ps qs false h = h

pub undone_same : (k : ℕ) (ps qs : Pairs) (cs : List Change) → AreSame ps qs → AreSame (undone k ps cs) (undone k qs cs)
undone_same k ps qs [] h = h
undone_same k ps qs (c ∷ cs) h = same_cond c _ _ (nat_le k c.0) (undone_same k ps qs cs h)

again : (b : Bool) (t o : Option WideTree) → (b ≡ true → o ≡ t) → (if b then t else o) ≡ o
again true t o h = sym (h refl)
again false t o h = refl

-- what was put is taken back
pub put_undone : (x : Name) (t u : Option WideTree) (ps : Pairs) → u ≡ find x ps → AreSame (put x u (put x t ps)) ps
put_undone x t u ps h =
    λ y. find_put x y u (put x t ps) ∙ ap (λ o. if bytes_eq y x then u else o) (find_put x y t ps)
    ∙ by (bytes_eq y x) y refl
  where
    by : (b : Bool) (y : Name) → b ≡ bytes_eq y x → (if b then u else (if b then t else find y ps)) ≡ find y ps
    by true y e = h ∙ ap (λ z. find z ps) (sym ((bytes_decides y x).0 (sym e)))
    by false y e = refl

-- after a change that is kept, the scopes go back to the same
pub kept_by_change : (map : Pairs) (cs : List Change) (n : ℕ) (x : Name) (t u : Option WideTree) → 0 < n
    → u ≡ find x map
    → (k : ℕ) → k < n → AreSame (undone k (put x t map) (cs ++ (n - 1, (x, u)) ∷ [])) (undone k map cs)
kept_by_change map cs n x t u pos h k lt =
    let test = at_least k (n - 1) (omega (arith, lt)) in
    λ y. ap (find y)
    (undone_push k (put x t map) cs (n - 1, (x, u))
    ∙ ap (λ b. undone k (cond b (put x u (put x t map)) (put x t map)) cs) test)
    ∙ undone_same k _ _ cs (put_undone x t u map h) y

-- ---- the invariant

pub from_more : (m n n' : ℕ) (map : Pairs) (cs : List Change) → AreFrom m n map cs → n ≤ n' → AreFrom m n' map cs
from_more m n n' map [] h le = tt
from_more m n n' map (c ∷ cs) h le = (h.0, omega (arith, h.1, le), h.2, from_more c.0 n n' map cs h.3 le)

pub from_put : (m n : ℕ) (map : Pairs) (cs : List Change) (x : Name) (t : Option WideTree) → AreFrom m n map cs
    → AreFrom m n (put x t map) cs
from_put m n map [] x t h = tt
from_put m n map (c ∷ cs) x t h = (h.0, h.1, listed_kept x c.1.0 t map h.2, from_put c.0 n map cs x t h.3)

pub from_push : (m n : ℕ) (map : Pairs) (cs : List Change) (x : Name) (u : Option WideTree) → m < n
    → AreFrom m n map cs → IsSome (listed x map) → AreFrom m n map (cs ++ (n - 1, (x, u)) ∷ [])
from_push m n map [] x u lt h l = (omega (arith, lt), omega (arith, lt), l, tt)
from_push m n map (c ∷ cs) x u lt h l = (h.0, h.1, h.2, from_push c.0 n map cs x u h.1 h.3 l)

pub from_pop : (m n : ℕ) (map : Pairs) (cs : List Change) (c : Change) → AreFrom m n map (cs ++ c ∷ [])
    → AreFrom m n map cs
from_pop m n map [] c h = tt
from_pop m n map (d ∷ cs) c h = (h.0, h.1, h.2, from_pop d.0 n map cs c h.3)

pub from_last : (m n : ℕ) (map : Pairs) (cs : List Change) (c : Change) → AreFrom m n map (cs ++ c ∷ [])
    → IsSome (listed c.1.0 map) × (c.0 < n)
from_last m n map [] c h = (h.2, h.1)
from_last m n map (d ∷ cs) c h = from_last d.0 n map cs c h.3

-- where the last change is in an earlier scope, all are
pub from_less : (m n k : ℕ) (map : Pairs) (cs : List Change) (c : Change) → AreFrom m n map (cs ++ c ∷ []) → c.0 < k
    → AreFrom m k map (cs ++ c ∷ [])
from_less m n k map [] c h lt = (h.0, lt, h.2, tt)
from_less m n k map (d ∷ cs) c h lt = (h.0, below d.0 n map cs c h.3 lt, h.2, from_less d.0 n k map cs c h.3 lt)
  where
    below : (m n : ℕ) (map : Pairs) (cs : List Change) (c : Change) → AreFrom m n map (cs ++ c ∷ []) → c.0 < k → m < k
    below m n map [] c h lt = omega (arith, h.0, lt)
    below m n map (d ∷ cs) c h lt = omega (arith, h.0, below d.0 n map cs c h.3 lt)

pub changes_push : (ps : List Past) (p : Past)
    → changes_of (ps ++ p ∷ []) ≡ changes_of ps ++ (p.scope, (p.name, p.before)) ∷ []
changes_push [] p = refl
changes_push (q ∷ ps) p = ap (λ cs. (q.scope, (q.name, q.before)) ∷ cs) (changes_push ps p)

put_case_listed : (b : Bool) (t : Option WideTree) (o : Option (Option WideTree)) → b ≡ true
    → IsSome (cond b (Some t) o)
put_case_listed true t o h = refl
put_case_listed false t o h = absurd cc

pub put_listed : (x : Name) (t : Option WideTree) (ps : Pairs) → IsSome (listed x (put x t ps))
put_listed x t ps =
    subst IsSome (sym (listed_put x x t ps))
    (put_case_listed (bytes_eq x x) t (listed x ps) ((bytes_decides x x).1 refl))

-- a change that is kept, as the fields have it
pub from_change : (n : ℕ) (map : Pairs) (ps qs : List Past) (p : Past) (t : Option WideTree)
    → AreFrom 0 n map (changes_of ps) → 0 < n → p.scope ≡ n - 1 → qs ≡ ps ++ p ∷ []
    → AreFrom 0 n (put p.name t map) (changes_of qs)
from_change n map ps qs p t h pos s e =
    rw (e, changes_push ps p, s)
    (from_push 0 n (put p.name t map) (changes_of ps) p.name p.before pos
    (from_put 0 n map (changes_of ps) p.name t h) (put_listed p.name t map))

pub same_change : (n : ℕ) (map : Pairs) (ps qs : List Past) (p : Past) (t : Option WideTree) → 0 < n → p.scope ≡ n - 1
    → p.before ≡ find p.name map → qs ≡ ps ++ p ∷ []
    → (k : ℕ) → k < n → AreSame (undone k (put p.name t map) (changes_of qs)) (undone k map (changes_of ps))
same_change n map ps qs p t pos s b e k lt =
    let split = ap changes_of e ∙ changes_push ps p ∙ ap (λ m. changes_of ps ++ (m, (p.name, p.before)) ∷ []) s in
    λ y. ap (λ cs. find y (undone k (put p.name t map) cs)) split
    ∙ kept_by_change map (changes_of ps) n p.name t p.before pos b k lt y

-- one change taken back while a scope is left
pub undone_pop : (k : ℕ) (map : Pairs) (ps qs : List Past) (p : Past) → qs ≡ ps ++ p ∷ [] → k ≤ p.scope
    → undone k map (changes_of qs) ≡ undone k (put p.name p.before map) (changes_of ps)
undone_pop k map ps qs p e le =
    ap (λ zs. undone k map (changes_of zs)) e ∙ ap (undone k map) (changes_push ps p)
    ∙ undone_push k map (changes_of ps) (p.scope, (p.name, p.before))
    ∙ ap (λ b. undone k (cond b (put p.name p.before map) map) (changes_of ps)) (at_least k p.scope le)

pub popped_listed : (n : ℕ) (map : Pairs) (ps qs : List Past) (p : Past) → qs ≡ ps ++ p ∷ []
    → AreFrom 0 n map (changes_of qs) → IsSome (listed p.name map)
popped_listed n map ps qs p e h =
    (from_last 0 n map (changes_of ps) (p.scope, (p.name, p.before))
    (subst (AreFrom 0 n map) (ap changes_of e ∙ changes_push ps p) h)).0

pub popped_from : (n : ℕ) (map : Pairs) (ps qs : List Past) (p : Past) → qs ≡ ps ++ p ∷ []
    → AreFrom 0 n map (changes_of qs) → AreFrom 0 n (put p.name p.before map) (changes_of ps)
popped_from n map ps qs p e h =
    from_put 0 n map (changes_of ps) p.name p.before
    (from_pop 0 n map (changes_of ps) (p.scope, (p.name, p.before))
    (subst (AreFrom 0 n map) (ap changes_of e ∙ changes_push ps p) h))

smaller_by : (a n : ℕ) → a < n + 1 → (a ≡ n → ⊥) → (a < n) ⊎ (n ≤ a) → a < n
smaller_by a n lt ne (inl l) = l
smaller_by a n lt ne (inr l) = absurd (ne (omega (arith, lt, l)))

smaller : (a n : ℕ) → a < n + 1 → (a ≡ n → ⊥) → a < n
smaller a n lt ne = smaller_by a n lt ne (cases_lt a n)

-- where the last change, if there is one, isn't in the last scope
pub from_left : (n : ℕ) (map : Pairs) (ps : List Past) → AreFrom 0 (n + 1) map (changes_of ps) → EndsOutside n ps
    → AreFrom 0 n map (changes_of ps)
from_left n map ps h other = by ps h other (ends ps)
  where
    Ends : List Past → Type 0
    Ends ps = (ps ≡ []) ⊎ ((qs : List Past) × (p : Past) × (ps ≡ qs ++ p ∷ []))

    more : (x : Past) (ps : List Past) → Ends ps → Ends (x ∷ ps)
    more x ps (inl e) = inr ([], x, ap (λ zs. x ∷ zs) e)
    more x ps (inr (qs, p, e)) = inr (x ∷ qs, p, ap (λ zs. x ∷ zs) e)

    ends : (ps : List Past) → Ends ps
    ends [] = inl refl
    ends (x ∷ ps) = more x ps (ends ps)

    by : (ps : List Past) → AreFrom 0 (n + 1) map (changes_of ps) → EndsOutside n ps → Ends ps
        → AreFrom 0 n map (changes_of ps)
    by ps h other (inl e) = rw e tt
    by ps h other (inr (qs, p, e)) =
        let split = ap changes_of e ∙ changes_push qs p in
        let all = subst (AreFrom 0 (n + 1) map) split h in
        let last = from_last 0 (n + 1) map (changes_of qs) (p.scope, (p.name, p.before)) all in
        let never : p.scope ≡ n → ⊥ = other qs p e in
        let lt : p.scope < n = smaller p.scope n last.1 never in
        subst (AreFrom 0 n map) (sym split)
        (from_less 0 (n + 1) n map (changes_of qs) (p.scope, (p.name, p.before)) all lt)

pub last_of : (n : ℕ) (ps qs us : List Past) (p q : Past) → ps ≡ qs ++ p ∷ [] → ps ≡ us ++ q ∷ [] → p ≡ q
last_of n ps qs us p q e f = ends_once qs us p q (sym e ∙ f)
  where
    ends_once : (qs us : List Past) (p q : Past) → qs ++ p ∷ [] ≡ us ++ q ∷ [] → p ≡ q
    ends_once [] [] p q e = cc
    ends_once [] (u ∷ []) p q e = absurd cc
    ends_once [] (u ∷ v ∷ us) p q e = absurd cc
    ends_once (x ∷ []) [] p q e = absurd cc
    ends_once (x ∷ y ∷ qs) [] p q e = absurd cc
    ends_once (x ∷ qs) (u ∷ us) p q e = ends_once qs us p q cc
