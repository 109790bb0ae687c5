-- The maps to which open scopes go back.
use Rattle.std.proofs.Common.{◌≡◌, ℕ, zero, suc, ◌+◌, ◌-◌, ◌<◌, ◌≤◌, List, [], ◌∷◌, ◌++◌, length, length-append}
use Rattle.std.proofs.Common.{add-one, min, refl, sym, ap, ◌∙◌, subst, arith}
use Rattle.std.specs.Prelude.{Option}
use Rattle.tx_tree.specs.WideTree.{WideTree}
use Rattle.tx_env.specs.Pairs.{Pairs, put, find}
use Rattle.tx_env.specs.Environments.{NameMap}
use Rattle.tx_env.specs.Changes.{Change, undone, map_of, maps_below, capped_changes, AreSame, AreFrom}
use Rattle.tx_env.specs.ScopedView.{changes_of, EndsOutside}
use Rattle.tx_env.specs.declared.scoped.Past.{Past}
use Rattle.tx_env.proofs.Maps.{same_maps, map_put}
use Rattle.tx_env.proofs.Undoing.{none_undone, from_more, from_put, from_change, from_left, same_change, undone_pop}
use Rattle.tx_env.proofs.Undoing.{popped_listed, popped_from}
use Rattle.tx_env.proofs.Capping.{capped_undone, capped_from}

pub count_below : (n : ℕ) (ps : Pairs) (cs : List Change) → length (maps_below n ps cs) ≡ n
count_below zero ps cs = refl
count_below (suc n) ps cs =
    length-append (maps_below n ps cs) (map_of (undone n ps cs) ∷ []) ∙ omega (arith, count_below n ps cs)

both : (xs ys : List NameMap) (m n : NameMap) → xs ≡ ys → m ≡ n → xs ++ m ∷ [] ≡ ys ++ n ∷ []
both xs ys m n e f = ap (λ zs. zs ++ m ∷ []) e ∙ ap (λ z. ys ++ z ∷ []) f

pub below_same : (n : ℕ) (ps qs : Pairs) (cs ds : List Change)
    → ((k : ℕ) → k < n → AreSame (undone k ps cs) (undone k qs ds)) → maps_below n ps cs ≡ maps_below n qs ds
below_same zero ps qs cs ds h = refl
below_same (suc n) ps qs cs ds h =
    both _ _ _ _ (below_same n ps qs cs ds (λ k lt. h k (omega (arith, lt)))) (same_maps _ _ (h n (omega arith)))

below_one : (n : ℕ) (ps : Pairs) (cs : List Change)
    → maps_below (n + 1) ps cs ≡ maps_below n ps cs ++ map_of (undone n ps cs) ∷ []
below_one n ps cs = rw add-one refl

-- a scope that has just been opened goes back to the present map
pub opened : (n : ℕ) (ps : Pairs) (cs : List Change) → AreFrom 0 n ps cs
    → maps_below (n + 1) ps cs ≡ maps_below n ps cs ++ map_of ps ∷ []
opened n ps cs h =
    below_one n ps cs ∙ ap (λ qs. maps_below n ps cs ++ map_of qs ∷ []) (none_undone n n ps ps 0 cs h (omega arith))

pub opened_from : (n : ℕ) (ps : Pairs) (cs : List Change) → AreFrom 0 n ps cs → AreFrom 0 (n + 1) ps cs
opened_from n ps cs h = from_more 0 n (n + 1) ps cs h (omega arith)

-- a change that is kept
pub changed_below : (n : ℕ) (map : Pairs) (ps qs : List Past) (p : Past) (t : Option WideTree) → 0 < n
    → p.scope ≡ n - 1 → p.before ≡ find p.name map → qs ≡ ps ++ p ∷ []
    → maps_below n (put p.name t map) (changes_of qs) ≡ maps_below n map (changes_of ps)
changed_below n map ps qs p t pos s b e = below_same n _ _ _ _ (same_change n map ps qs p t pos s b e)

-- without a scope there is nothing to go back to
pub none_below : (n : ℕ) (ps qs : Pairs) (cs ds : List Change) → n ≡ 0 → maps_below n ps cs ≡ maps_below n qs ds
none_below n ps qs cs ds e = rw e refl

-- a change taken back
popped_to : (n : ℕ) (map : Pairs) (ps qs : List Past) (p : Past) → qs ≡ ps ++ p ∷ [] → n ≤ p.scope + 1
    → maps_below n map (changes_of qs) ≡ maps_below n (put p.name p.before map) (changes_of ps)
popped_to zero map ps qs p e le = refl
popped_to (suc n) map ps qs p e le =
    both _ _ _ _ (popped_to n map ps qs p e (omega (arith, le)))
    (ap map_of (undone_pop n map ps qs p e (omega (arith, le))))

pub popped_below : (n : ℕ) (map : Pairs) (ps qs : List Past) (p : Past) (all : List NameMap) → qs ≡ ps ++ p ∷ []
    → p.scope ≡ n
    → maps_below (n + 1) map (changes_of qs) ≡ all → maps_below (n + 1) (put p.name p.before map) (changes_of ps) ≡ all
popped_below n map ps qs p all e s h = sym (popped_to (n + 1) map ps qs p e (omega (arith, s))) ∙ h

-- a scope is left
pub left_below : (n : ℕ) (map : Pairs) (ps : List Past) (all : List NameMap) → AreFrom 0 (n + 1) map (changes_of ps)
    → EndsOutside n ps
    → maps_below (n + 1) map (changes_of ps) ≡ all → all ≡ maps_below n map (changes_of ps) ++ map_of map ∷ []
left_below n map ps all h ends e = sym e ∙ opened n map (changes_of ps) (from_left n map ps h ends)

-- a scope is closed, and its changes are kept
pub kept_below : (n s : ℕ) (map : Pairs) (cs ds : List Change) → n ≡ s + 1 → ds ≡ capped_changes s cs
    → maps_below (n + 1) map cs ≡ maps_below n map ds ++ map_of (undone n map cs) ∷ []
kept_below n s map cs ds e f =
    below_one n map cs ∙ ap (λ ms. ms ++ map_of (undone n map cs) ∷ [])
    (below_same n map map cs ds
    (λ k lt y. ap (find y) (sym (capped_undone k s map cs (omega (arith, lt, e))) ∙ ap (undone k map) (sym f))))

pub kept_from : (n s : ℕ) (map : Pairs) (cs ds : List Change) → AreFrom 0 (n + 1) map cs → n ≡ s + 1
    → ds ≡ capped_changes s cs
    → AreFrom 0 n map ds
kept_from n s map cs ds h e f =
    let least : min 0 s ≡ 0 = omega arith in
    let capped_all = capped_from 0 (n + 1) s map cs h in
    let from = subst (λ k. AreFrom k (s + 1) map (capped_changes s cs)) least capped_all in
    subst (AreFrom 0 n map) (sym f) (subst (λ m. AreFrom 0 m map (capped_changes s cs)) (sym e) from)

pub closed_below : (n : ℕ) (map : Pairs) (cs ds : List Change) → (n ≡ 0 → ds ≡ [])
    → (0 < n → ds ≡ capped_changes (n - 1) cs)
    → maps_below (n + 1) map cs ≡ maps_below n map ds ++ map_of (undone n map cs) ∷ []
closed_below zero map cs ds none some = below_one zero map cs
closed_below (suc n) map cs ds none some =
    let less : suc n - 1 ≡ n = omega arith in
    kept_below (suc n) n map cs ds (omega arith) (some (omega arith) ∙ ap (λ s. capped_changes s cs) less)

pub closed_scopes : (n : ℕ) (map : Pairs) (cs ds : List Change) (all : List NameMap) → all ≡ maps_below (n + 1) map cs
    → (n ≡ 0 → ds ≡ []) → (0 < n → ds ≡ capped_changes (n - 1) cs)
    → (x : NameMap) × (all ≡ maps_below n map ds ++ x ∷ [])
closed_scopes n map cs ds all e none some = (map_of (undone n map cs), e ∙ closed_below n map cs ds none some)

pub closed_from : (n : ℕ) (map : Pairs) (cs ds : List Change) → AreFrom 0 (n + 1) map cs → (n ≡ 0 → ds ≡ [])
    → (0 < n → ds ≡ capped_changes (n - 1) cs) → AreFrom 0 n map ds
closed_from zero map cs ds h none some = rw (none refl) tt
closed_from (suc n) map cs ds h none some =
    let less : suc n - 1 ≡ n = omega arith in
    kept_from (suc n) n map cs ds h (omega arith) (some (omega arith) ∙ ap (λ s. capped_changes s cs) less)

pub ruleset enter_rules = (count_below, opened, opened_from)

pub ruleset change_rules = (map_put, none_below, changed_below, from_put, from_change)

pub ruleset leave_rules = (count_below, popped_listed, popped_from, popped_below, left_below, from_left)

pub ruleset keep_rules = (count_below, closed_scopes, closed_from)
