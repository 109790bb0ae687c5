-- The cached traces of layers' trees, found by trees and looks.
use Rattle.std.proofs.Common.{◌≡◌, ℕ, zero, suc, ◌+◌, ◌<◌, ◌≤◌, List, [], ◌∷◌, ◌++◌, length, take, drop, get_or, refl}
use Rattle.std.proofs.Common.{ap, sym, subst, ◌∙◌, arith}
use Rattle.std.proofs.lemmas.List.{drop_all, take_all, take_more}
use Rattle.std.specs.Prelude.{Bool, true, false, ◌&&◌, ◌||◌, Option, Some, None, Result, Ok, Err, IfOk, slice_get}
use Rattle.tx_tree.specs.WideTree.{WideTree}
use Rattle.tx_tree.proofs.Walks.{drop_item}
use Rattle.tx_origin.specs.Values.{plain}
use Rattle.tx_exec_form.specs.Maps.{LookMap}
use Rattle.tx_exec_form.specs.Runs.{Before}
use Rattle.tx_exec_form.specs.Evaluated.{WideTrace}
use Rattle.tx_exec_form.specs.Laws.{Supports}
use Rattle.tx_exec.specs.declared.outcome.Trace.{Trace}
use Rattle.tx_exec.specs.Outcomes.{wide_trace}
use Rattle.tx_parts.specs.Shells.{bare}
use Rattle.tx_walk.specs.SameTrees.{is_same}
use Rattle.tx_walk.specs.Held.{agrees}
use Rattle.tx_walk.specs.Walked.{AreOnce}
use Rattle.tx_parts.specs.LayerCosts.{HoldsMore}
use Rattle.tx_walk.specs.LayerTraces.{TreeTrace, IsTreeSetting, serves_for, holds_in, IsHeldWith}
use Rattle.tx_walk.proofs.Trees.{and_true, is_same_of}

-- a tree with its trace
abbrev pub tree_trace : WideTree → Trace → TreeTrace
tree_trace t trace = record { tree = t; trace = wide_trace trace }

-- where the tree is the same the looks decide
pub serves_then : (m : TreeTrace) (t : WideTree) (e : Before) (a r : Bool) → a ≡ is_same m.tree t → a ≡ true →
    r ≡ agrees e m.trace.looks → r ≡ serves_for t e m
serves_then m t e a r h is g = g ∙ ap (λ b. b && agrees e m.trace.looks) (sym is ∙ h)

-- ---- in a list

held_first : (a b : Bool) → a ≡ true → a || b ≡ true
held_first true b h = refl
held_first false b h = cc

held_later : (a b : Bool) → b ≡ true → a || b ≡ true
held_later true b h = refl
held_later false b h = h

pub held_there : (ms : List TreeTrace) (t : WideTree) (e : Before) (i : ℕ) (m : TreeTrace) →
    slice_get ms i ≡ Some m → serves_for t e m ≡ true → holds_in ms t e ≡ true
held_there [] t e i m h g = cc
held_there (x ∷ ms) t e zero m h g =
    let same : m ≡ x = cc in
    held_first (serves_for t e x) (holds_in ms t e) (ap (serves_for t e) (sym same) ∙ g)
held_there (x ∷ ms) t e (suc i) m h g =
    held_later (serves_for t e x) (holds_in ms t e) (held_there ms t e i m h g)

none_first : (a b : Bool) → a ≡ false → a || b ≡ b
none_first false b h = refl
none_first true b h = cc

-- past one that doesn't serve
pub past_one : (ms : List TreeTrace) (t : WideTree) (e : Before) (i : ℕ) (m : TreeTrace) →
    slice_get ms i ≡ Some m → serves_for t e m ≡ false → holds_in ms t e ≡ holds_in (drop i ms) t e →
    holds_in ms t e ≡ holds_in (drop (i + 1) ms) t e
past_one ms t e i m h other so_far =
    so_far ∙ ap (λ xs. holds_in xs t e) (drop_item ms i m h)
    ∙ none_first (serves_for t e m) (holds_in (drop (i + 1) ms) t e) other

pub past_all : (ms : List TreeTrace) (t : WideTree) (e : Before) (i : ℕ) →
    holds_in ms t e ≡ holds_in (drop i ms) t e → length ms ≤ i → holds_in ms t e ≡ false
past_all ms t e i so_far past = so_far ∙ ap (λ xs. holds_in xs t e) (drop_all i ms past)

-- the one of this number has the tree and the looks
pub listed_there : (ms : List TreeTrace) (i : ℕ) (x : TreeTrace) (t : WideTree) (looks : LookMap) →
    slice_get ms i ≡ Some x → x.tree ≡ t → x.trace.looks ≡ looks → (m : TreeTrace) → m.tree ≡ t →
    m.trace.looks ≡ looks → IsHeldWith (holds_in ms) m
listed_there ms i x t looks h is_tree is_looks m m_tree m_looks e fits =
    held_there ms m.tree e i x h
    (and_true (is_same x.tree m.tree) (agrees e x.trace.looks) (is_same_of x.tree m.tree (is_tree ∙ sym m_tree))
    (ap (agrees e) (is_looks ∙ sym m_looks) ∙ fits))

-- ---- with one more

pub more_behind : (ms : List TreeTrace) (m : TreeTrace) → HoldsMore (holds_in ms) (holds_in (ms ++ m ∷ []))
more_behind [] m t e h = cc
more_behind (x ∷ ms) m t e h = by (serves_for t e x) h (more_behind ms m t e)
  where
    by : (a : Bool) → a || holds_in ms t e ≡ true → (holds_in ms t e ≡ true → holds_in (ms ++ m ∷ []) t e ≡ true) →
        a || holds_in (ms ++ m ∷ []) t e ≡ true
    by true g f = refl
    by false g f = f g

pub last_held : (ms : List TreeTrace) (m : TreeTrace) → IsHeldWith (holds_in (ms ++ m ∷ [])) m
last_held [] m e fits =
    held_first (serves_for m.tree e m) false
    (and_true (is_same m.tree m.tree) (agrees e m.trace.looks) (is_same_of m.tree m.tree refl) fits)
last_held (x ∷ ms) m e fits =
    held_later (serves_for m.tree e x) (holds_in (ms ++ m ∷ []) m.tree e) (last_held ms m e fits)

pub more_than : (ms ns : List TreeTrace) (m : TreeTrace) → ns ≡ ms ++ m ∷ [] → HoldsMore (holds_in ms) (holds_in ns)
more_than ms ns m same t e h = ap (λ xs. holds_in xs t e) same ∙ more_behind ms m t e h

pub held_last : (ms ns : List TreeTrace) (m x : TreeTrace) → ns ≡ ms ++ m ∷ [] → m ≡ x → IsHeldWith (holds_in ns) x
held_last ms ns m x same is e fits =
    ap (λ xs. holds_in xs x.tree e) same
    ∙ subst (λ (y : TreeTrace). holds_in (ms ++ m ∷ []) y.tree e ≡ true) is
    (last_held ms m e (ap (λ (y : TreeTrace). agrees e y.trace.looks) is ∙ fits))

-- ---- a tree that is held

pub held_setting : (m : TreeTrace) (tree : WideTree) (trace : Trace) (set : WideTree) → tree ≡ m.tree →
    wide_trace trace ≡ m.trace → AreOnce trace → set ≡ plain m.trace.value → Supports m.trace (bare m.tree) →
    IsTreeSetting tree trace (Some set)
held_setting m tree trace set is_tree is_trace once is_set supports =
    record {
      supports = subst (λ u. Supports (wide_trace trace) (bare u)) (sym is_tree)
          (subst (λ w. Supports w (bare m.tree)) (sym is_trace) supports);
      once = once;
      is_set = is_set ∙ ap (λ (w : WideTrace). plain w.value) (sym is_trace);
    }

-- ---- lists side by side

pub same_more : {X : Type 0} (xs ys : List X) (i : ℕ) (x y : X) → i < length xs → length xs ≡ length ys →
    x ≡ get_or xs i x → y ≡ get_or ys i y → x ≡ y → take i xs ≡ take i ys → take (i + 1) xs ≡ take (i + 1) ys
same_more xs ys i x y low long is_x is_y same so_far =
    take_more xs i x low ∙ ap (λ v. take i xs ++ v ∷ []) (sym is_x) ∙ ap (λ zs. zs ++ x ∷ []) so_far
    ∙ ap (λ v. take i ys ++ v ∷ []) same ∙ ap (λ v. take i ys ++ v ∷ []) is_y
    ∙ sym (take_more ys i y (omega (arith, low, long)))

pub same_all : {X : Type 0} (xs ys : List X) (i : ℕ) → length xs ≤ i → length xs ≡ length ys →
    take i xs ≡ take i ys → xs ≡ ys
same_all xs ys i past long h =
    sym (take_all i xs past) ∙ h ∙ take_all i ys (omega (arith, past, long))

-- what holds of each value holds whenever a result is Ok
pub always_ok : {X Y : Type 0} (r : Result X Y) (P : X → Type 0) → ((x : X) → P x) → IfOk r P
always_ok (Ok x) P f = f x
always_ok (Err y) P f = tt
