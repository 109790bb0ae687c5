-- Maps from names to labelled trees.
use Rattle.std.proofs.Common.{◌≡◌, Bool, true, false, cond, List, [], ◌∷◌, Option, Some, None, refl, sym, ap, subst}
use Rattle.std.proofs.Common.{◌∙◌}
use Rattle.std.specs.Prelude.{T, ◌&&◌}
use Rattle.std.specs.List.{AllByRecursion}
use Rattle.std.specs.Str.{bytes_eq}
use Rattle.std.specs.Ordering.{nat_cmp, eq_by_cmp, is_lt, is_eq}
use Rattle.std.specs.declared.cmp.Ordering.{Ordering}
use Rattle.std.specs.declared.cmp.Ordering.TheVariants.{Less, Equal, Greater}
use Rattle.std.specs.Cmp.Lexicographic.{slice_cmp, texts_ties, bytes_decides}
use Rattle.std.specs.FinMap.{empty, get, insert, entries, entries_sorted, get-empty, get-entries, find, is_sorted}
use Rattle.std.specs.FinMap.Entries.{below_all}
use Rattle.tx_tree.specs.WideTree.{WideTree}
use Rattle.tx_env.specs.Pairs.{Name}
use Rattle.tx_env.specs.Environments.{NameMap, overlaid}
use Rattle.tx_env.specs.Changes.{with_pair}
use Rattle.tx_env.proofs.Maps.{get_with}
use Rattle.tx_view_form.proofs.Labelled.{IsLabelled}
use Rattle.tx_line_count.proofs.Trees.{IfLabelled}

-- what a name has is labelled
abbrev pub Named : (Name → Option WideTree) → Type 0
Named e = (x : Name) → IfLabelled (e x)

pub none_named : Named (get (empty {X = WideTree} {R = slice_cmp nat_cmp}))
none_named x = subst IfLabelled (sym (get-empty (slice_cmp nat_cmp) x)) tt

pub set_named : (m : NameMap) (x : Name) (t : Option WideTree) → Named (get m) → IfLabelled t
    → Named (get (with_pair x t m))
set_named m x t h k y = subst IfLabelled (sym (get_with x y t m)) (by (bytes_eq y x))
  where
    by : (b : Bool) → IfLabelled (cond b t (get m y))
    by true = k
    by false = h y

-- ---- the pairs of a map

abbrev pub AllNamed : List (Name × WideTree) → Type 0
AllNamed = AllByRecursion (λ p. IsLabelled p.1)

pub overlaid_named : (m : NameMap) (ws : List (Name × WideTree)) → Named (get m) → AllNamed ws
    → Named (get (overlaid m ws))
overlaid_named m [] h k = h
overlaid_named m (w ∷ ws) h k =
    overlaid_named (insert m w.0 w.1) ws (set_named m w.0 (Some w.1) h k.0) k.1

less_alone : (o : Ordering) → T (is_lt o) → is_eq o ≡ false
less_alone Less h = refl
less_alone Equal h = absurd h
less_alone Greater h = refl

first : (a b : Bool) → T (a && b) → T a
first true b h = tt
first false b h = h

second : (a b : Bool) → T (a && b) → T b
second true b h = h
second false b h = absurd h

abbrev found : Name → List (Name × WideTree) → Option WideTree
found q ws = find (slice_cmp nat_cmp) q ws

below : (x : Name) (ws : List (Name × WideTree)) → T (below_all (slice_cmp nat_cmp) x ws) → found x ws ≡ None
below x [] h = refl
below x (w ∷ ws) h =
    ap (λ b. cond b (Some w.1) (found x ws))
    (less_alone (slice_cmp nat_cmp x w.0)
    (first (is_lt (slice_cmp nat_cmp x w.0)) (below_all (slice_cmp nat_cmp) x ws) h))
    ∙ below x ws (second (is_lt (slice_cmp nat_cmp x w.0)) (below_all (slice_cmp nat_cmp) x ws) h)

own_first : (w : Name × WideTree) (ws : List (Name × WideTree)) → found w.0 (w ∷ ws) ≡ Some w.1
own_first w ws =
    ap (λ b. cond b (Some w.1) (found w.0 ws)) (sym (texts_ties w.0 w.0) ∙ (bytes_decides w.0 w.0).1 refl)

-- of a list in order each pair is what its name has
sorted_named : (ws : List (Name × WideTree)) → T (is_sorted (slice_cmp nat_cmp) ws) → Named (λ q. found q ws)
    → AllNamed ws
sorted_named [] s h = tt
sorted_named (w ∷ ws) s h = (
  subst IfLabelled (own_first w ws) (h w.0),
  sorted_named ws (second (below_all (slice_cmp nat_cmp) w.0 ws) (is_sorted (slice_cmp nat_cmp) ws) s) others,
)
  where
    none_here : found w.0 ws ≡ None
    none_here = below w.0 ws (first (below_all (slice_cmp nat_cmp) w.0 ws) (is_sorted (slice_cmp nat_cmp) ws) s)

    by : (q : Name) (b : Bool) → eq_by_cmp (slice_cmp nat_cmp) q w.0 ≡ b
        → IfLabelled (cond b (Some w.1) (found q ws)) → IfLabelled (found q ws)
    by q true e k =
        let same_name : q ≡ w.0 = (bytes_decides q w.0).0 (texts_ties q w.0 ∙ e) in
        subst IfLabelled (sym (ap (λ x. found x ws) same_name ∙ none_here)) tt
    by q false e k = k

    others : Named (λ q. found q ws)
    others q = by q (eq_by_cmp (slice_cmp nat_cmp) q w.0) refl (h q)

pub pairs_named : (m : NameMap) → Named (get m) → AllNamed (entries m)
pairs_named m h =
    sorted_named (entries m) (entries_sorted m) (λ q. subst IfLabelled (get-entries m q) (h q))
