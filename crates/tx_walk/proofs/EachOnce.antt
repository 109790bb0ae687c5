-- Traces of layers' trees of which no two have the same tree and the same looks.
use Rattle.std.proofs.Common.{◌≡◌, ◌≢◌, ℕ, ◌+◌, ◌≤◌, Bool, true, false, cond, List, [], ◌∷◌, ◌++◌, length, drop}
use Rattle.std.proofs.Common.{refl, ap, sym, subst, ◌∙◌}
use Rattle.std.proofs.lemmas.List.{drop_all}
use Rattle.std.specs.Prelude.{Option, Some, None, ◌&&◌, ◌||◌, slice_get}
use Rattle.std.specs.List.{IsDistinct, list_all, list_any}
use Rattle.std.specs.Option.{option_map_or}
use Rattle.std.specs.Map.{keys_of}
use Rattle.std.specs.Str.{bytes_eq}
use Rattle.std.specs.Ordering.{nat_cmp, eq_by_cmp}
use Rattle.std.specs.Cmp.Lexicographic.{slice_cmp, nat_list_cmp_total, texts_ties}
use Rattle.std.specs.FinMap.{entries, entries_sorted, from_entries, get, get-entries, get-from_entries}
use Rattle.tx_tree.specs.WideTree.{WideTree}
use Rattle.tx_tree.proofs.Walks.{drop_item}
use Rattle.tx_env.specs.Pairs.{Name}
use Rattle.tx_exec_form.specs.Runs.{Before}
use Rattle.tx_exec_form.specs.Maps.{LookMap}
use Rattle.tx_exec_form.specs.Laws.{Agrees}
use Rattle.tx_walk.specs.SameTrees.{is_same, same}
use Rattle.tx_walk.specs.Held.{agrees}
use Rattle.tx_walk.specs.LayerTraces.{TreeTrace, serves_for, holds_in, has_look, are_among, is_of, Differ, AllDiffer}
use Rattle.tx_walk.specs.LayerTraces.{AreEachOnce}
use Rattle.tx_walk.proofs.Trees.{both, and_true, is_same_of, same_found, same_of}
use Rattle.tx_walk.proofs.Once.{found, rising}
use Rattle.tx_walk.proofs.Agreed.{all_found, found_all, test_same, agrees_is, agrees_of}

abbrev pub Looks : Type 0
Looks = List (Name × Option WideTree)

-- ---- a name among pairs

found_step : (q : Name) (ws : Looks) (i : ℕ) (w : Name × Option WideTree) (b : Bool) → slice_get ws i ≡ Some w
    → b ≡ bytes_eq q w.0 → found q ws ≡ found q (drop i ws)
    → found q ws ≡ cond b (Some w.1) (found q (drop (i + 1) ws))
found_step q ws i w b at is so_far =
    so_far ∙ ap (found q) (drop_item ws i w at)
    ∙ ap (λ c. cond c (Some w.1) (found q (drop (i + 1) ws))) (sym (texts_ties q w.0) ∙ sym is)

abbrev pub look_of : (look : Name × Option WideTree) → Option (Option WideTree) → Bool
look_of look o = option_map_or (λ x. same x look.1) o false

among_pairs : (ws : Looks) (look : Name × Option WideTree)
    → has_look (from_entries ws) look ≡ look_of look (found look.0 ws)
among_pairs ws look = ap (look_of look) (get-from_entries nat_list_cmp_total ws look.0)

-- the name is that of this pair
pub found_look : (ws : Looks) (look w : Name × Option WideTree) (i : ℕ) (b r : Bool) → slice_get ws i ≡ Some w
    → b ≡ bytes_eq look.0 w.0 → b ≡ true → found look.0 ws ≡ found look.0 (drop i ws) → r ≡ same w.1 look.1
    → r ≡ has_look (from_entries ws) look
found_look ws look w i b r at is named so_far g =
    g ∙ sym (ap (look_of look) (found_step look.0 ws i w b at is so_far
    ∙ ap (λ c. cond c (Some w.1) (found look.0 (drop (i + 1) ws))) named))
    ∙ sym (among_pairs ws look)

-- the name is not that of this pair
pub found_further : (ws : Looks) (look w : Name × Option WideTree) (i : ℕ) (b : Bool) → slice_get ws i ≡ Some w
    → b ≡ bytes_eq look.0 w.0 → b ≡ false → found look.0 ws ≡ found look.0 (drop i ws)
    → found look.0 ws ≡ found look.0 (drop (i + 1) ws)
found_further ws look w i b at is other so_far =
    found_step look.0 ws i w b at is so_far ∙ ap (λ c. cond c (Some w.1) (found look.0 (drop (i + 1) ws))) other

-- no pair has the name
pub found_nowhere : (ws : Looks) (look : Name × Option WideTree) (i : ℕ)
    → found look.0 ws ≡ found look.0 (drop i ws) → length ws ≤ i → false ≡ has_look (from_entries ws) look
found_nowhere ws look i so_far past =
    sym (among_pairs ws look ∙ ap (look_of look) (so_far ∙ ap (found look.0) (drop_all i ws past)))

-- ---- looks among looks

has_it : (looks : LookMap) (q : Name) (x : Option WideTree) → has_look looks (q, x) ≡ true → get looks q ≡ Some x
has_it looks q x h = by (get looks q) refl h
  where
    by : (o : Option (Option WideTree)) → get looks q ≡ o → look_of (q, x) o ≡ true → get looks q ≡ Some x
    by (Some y) is h = is ∙ ap Some (same_found y x h)
    by None is h = cc

it_has : (looks : LookMap) (q : Name) (x : Option WideTree) → get looks q ≡ Some x → has_look looks (q, x) ≡ true
it_has looks q x h = ap (look_of (q, x)) h ∙ same_of x x refl

-- what agrees with the others agrees with looks that are among them
agree_among : (e : Before) (looks others : LookMap) → are_among looks others ≡ true → Agrees e others → Agrees e looks
agree_among e looks others h g q x f =
    g q x (has_it others q x (all_found (has_look others) (entries looks) h q x (sym (get-entries looks q) ∙ f)))

all_among : (looks others : LookMap) → looks ≡ others → are_among looks others ≡ true
all_among looks others h =
    found_all (has_look others) (entries looks) (rising (entries looks) (entries_sorted looks))
    (λ q x f. it_has others q x (ap (λ m. get m q) (sym h) ∙ get-entries looks q ∙ f))

-- ---- a trace of this tree

pub is_of_by : (m : TreeTrace) (t : WideTree) (looks : LookMap) (ws : Looks) (a r : Bool)
    → m.trace.looks ≡ from_entries ws → IsDistinct bytes_eq (keys_of ws) → a ≡ is_same m.tree t → a ≡ true
    → r ≡ list_all (has_look looks) ws → r ≡ is_of t looks m
is_of_by m t looks ws a r map once is one g =
    g ∙ test_same (has_look looks) ws once ∙ ap (λ l. are_among l looks) (sym map)
    ∙ ap (λ b. b && are_among m.trace.looks looks) (sym one ∙ is)

pub not_of_by : (m : TreeTrace) (t : WideTree) (looks : LookMap) (a : Bool) → a ≡ is_same m.tree t → a ≡ false
    → false ≡ is_of t looks m
not_of_by m t looks a is other = ap (λ b. b && are_among m.trace.looks looks) (sym other ∙ is)

-- ---- in a list

-- one of them is of the tree, so the tree is held
pub listed_held : (ms : List TreeTrace) (t : WideTree) (looks : LookMap) → list_any (is_of t looks) ms ≡ true
    → (e : Before) → agrees e looks ≡ true → holds_in ms t e ≡ true
listed_held [] t looks h e g = cc
listed_held (m ∷ ms) t looks h e g = by (is_of t looks m) refl h (λ f. listed_held ms t looks f e g)
  where
    held_here : is_of t looks m ≡ true → serves_for t e m ≡ true
    held_here is =
        let parts : (is_same m.tree t ≡ true) × (are_among m.trace.looks looks ≡ true) =
        both (is_same m.tree t) (are_among m.trace.looks looks) is in
        and_true (is_same m.tree t) (agrees e m.trace.looks) parts.0
        (agrees_of e m.trace.looks (agree_among e m.trace.looks looks parts.1 (agrees_is e looks g)))

    or_first : (a b : Bool) → a ≡ true → a || b ≡ true
    or_first true b h = refl
    or_first false b h = cc

    or_later : (a b : Bool) → b ≡ true → a || b ≡ true
    or_later true b h = refl
    or_later false b h = h

    by : (b : Bool) → is_of t looks m ≡ b → b || list_any (is_of t looks) ms ≡ true
        → (list_any (is_of t looks) ms ≡ true → holds_in ms t e ≡ true) → serves_for t e m || holds_in ms t e ≡ true
    by true is h later = or_first (serves_for t e m) (holds_in ms t e) (held_here is)
    by false is h later = or_later (serves_for t e m) (holds_in ms t e) (later h)

-- none of them is of the tree, so they differ from each of its traces with these looks
pub all_differ : (ms : List TreeTrace) (t : WideTree) (looks : LookMap) → list_any (is_of t looks) ms ≡ false
    → (x : TreeTrace) → x.tree ≡ t → x.trace.looks ≡ looks → AllDiffer x ms
all_differ [] t looks h x is_tree is_looks = tt
all_differ (m ∷ ms) t looks h x is_tree is_looks = (
  λ one same. refused (is_of t looks m) (list_any (is_of t looks) ms) h
      (and_true (is_same m.tree t) (are_among m.trace.looks looks) (is_same_of m.tree t (one ∙ is_tree))
      (all_among m.trace.looks looks (same ∙ is_looks))),
  all_differ ms t looks (later (is_of t looks m) (list_any (is_of t looks) ms) h) x is_tree is_looks,
)
  where
    refused : (a b : Bool) → a || b ≡ false → a ≡ true → ⊥
    refused true b h g = cc
    refused false b h g = cc

    later : (a b : Bool) → a || b ≡ false → b ≡ false
    later true b h = cc
    later false b h = h

each_with : (ms : List TreeTrace) (m : TreeTrace) → AreEachOnce ms → AllDiffer m ms → AreEachOnce (ms ++ m ∷ [])
each_with [] m h d = (tt, tt)
each_with (x ∷ xs) m h d = (differ xs h.0, each_with xs m h.1 d.1)
  where
    differ : (ys : List TreeTrace) → AllDiffer x ys → AllDiffer x (ys ++ m ∷ [])
    differ [] e = (λ one same. d.0 (sym one) (sym same), tt)
    differ (y ∷ ys) e = (e.0, differ ys e.1)

-- one more, which differs from all
pub each_once_with : (ms ns : List TreeTrace) (m x : TreeTrace) → AreEachOnce ms → AllDiffer x ms
    → ns ≡ ms ++ m ∷ [] → m ≡ x → AreEachOnce ns
each_once_with ms ns m x h d is same =
    subst AreEachOnce (sym is) (each_with ms m h (subst (λ (y : TreeTrace). AllDiffer y ms) (sym same) d))
