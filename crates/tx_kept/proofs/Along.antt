-- A path that goes through modifications, by the trees before each of them.
use Rattle.std.proofs.Common.{◌≡◌, ℕ, suc, ◌+◌, ◌<◌, ◌≤◌, List, [], ◌∷◌, length, drop, slice_index_or}
use Rattle.std.proofs.Common.{Option, Some, None, Ok, refl, ap, sym, ◌∙◌, subst, arith}
use Rattle.std.proofs.lemmas.List.{drop_more, length-drop, drop_all}
use Rattle.std.specs.Option.{IsSome}
use Rattle.std.specs.Prelude.{IsOk, option_and_then}
use Rattle.tx_tree.specs.WideTree.{WideTree}
use Rattle.tx_tree.specs.Paths.{subtree}
use Rattle.tx_mod.specs.declared.mods.Mod.{Mod}
use Rattle.tx_mod.specs.Changes.{changed}
use Rattle.tx_mod.specs.Moves.{carried_path}
use Rattle.tx_mod.specs.Followed.{CarriesSubtree, changed_by_all, carried_by_all}
use Rattle.tx_kept.specs.Carrying.{trees_before}
use Rattle.tx_kept.proofs.Applying.{First, first_of, all_after, path_after}
use Rattle.tx_kept.proofs.Applying.{trees_after, applies_one, value_of, has_value}

-- Where i modifications are passed, the path leads in the tree that is there.
pub record Along (ms : List Mod) (ts : List WideTree) (t : WideTree) (i : ℕ) (old now : List ℕ) : Type 0 where
  pub tree : WideTree
  pub trees : drop i ts ≡ trees_before (drop i ms) tree
  pub last : WideTree
  pub applies : changed_by_all (drop i ms) tree ≡ Some last
  pub leads : IsSome (subtree tree now)
  pub place : carried_by_all (drop i ms) tree now ≡ carried_by_all ms t old

pub along_starts : (ms : List Mod) (ts : List WideTree) (t : WideTree) (old now : List ℕ) → now ≡ old
    → ((u : WideTree) × (changed_by_all ms t ≡ Some u)) → ts ≡ trees_before ms t → IsSome (subtree t old)
    → Along ms ts t 0 old now
along_starts ms ts t old now same applies trees lead = record {
  tree = t;
  trees = trees;
  last = applies.0;
  applies = applies.1;
  leads = subst (λ q. IsSome (subtree t q)) (sym same) lead;
  place = ap (carried_by_all ms t) same;
}

tail_of : (x : WideTree) (xs : List WideTree) (y : WideTree) (ys : List WideTree) → x ∷ xs ≡ y ∷ ys
    → (x ≡ y) × (xs ≡ ys)
tail_of x xs y ys e = (cc, cc)

module _ (ms : List Mod) (ts : List WideTree) (t : WideTree) (i : ℕ) (old now : List ℕ) (a : Along ms ts t i old now)
    (inside : i < length ms) (m : Mod) (is : m ≡ slice_index_or ms i m) where
  here : drop i ms ≡ m ∷ drop (i + 1) ms
  here = drop_more ms i m inside ∙ ap (λ n. n ∷ drop (i + 1) ms) (sym is)

  step : First m (drop (i + 1) ms) a.tree a.last
  step = first_of m (drop (i + 1) ms) a.tree a.last (ap (λ ns. changed_by_all ns a.tree) (sym here) ∙ a.applies)

  ahead : drop i ts ≡ a.tree ∷ trees_before (drop (i + 1) ms) step.between
  ahead =
      a.trees ∙ ap (λ ns. trees_before ns a.tree) here
      ∙ trees_after m (drop (i + 1) ms) a.tree step.between step.one

  here_tree : (xs : List WideTree) → drop i ts ≡ xs → xs ≡ a.tree ∷ trees_before (drop (i + 1) ms) step.between
      → i < length ts
  here_tree [] e f = absurd (cc)
  here_tree (x ∷ xs) e f =
      let some : length (drop i ts) ≡ suc (length xs) = ap length e in omega (arith, some, length-drop i ts)

  pub tree_within : i < length ts
  tree_within = here_tree (drop i ts) refl ahead

  module _ (x : WideTree) (is_x : x ≡ slice_index_or ts i x) where
    parts : (slice_index_or ts i x ≡ a.tree) × (drop (i + 1) ts ≡ trees_before (drop (i + 1) ms) step.between)
    parts =
        tail_of (slice_index_or ts i x) (drop (i + 1) ts) a.tree (trees_before (drop (i + 1) ms) step.between)
        (sym (drop_more ts i x tree_within) ∙ ahead)

    tree_read : x ≡ a.tree
    tree_read = is_x ∙ parts.0

    pub along_applies : IsOk (changed m x)
    along_applies = subst (λ y. IsOk (changed m y)) (sym tree_read) (applies_one m a.tree step.between step.one)

    pub along_leads : IsSome (subtree x now)
    along_leads = subst (λ y. IsSome (subtree y now)) (sym tree_read) a.leads

    place_read : option_and_then (carried_by_all (drop (i + 1) ms) step.between) (carried_path m x now)
        ≡ carried_by_all ms t old
    place_read =
        ap (λ y. option_and_then (carried_by_all (drop (i + 1) ms) step.between) (carried_path m y now)) tree_read
        ∙ sym (path_after m (drop (i + 1) ms) a.tree step.between now step.one)
        ∙ ap (λ ns. carried_by_all ns a.tree now) (sym here) ∙ a.place

    -- the path leads nowhere
    pub along_ends : carried_path m x now ≡ None → None ≡ carried_by_all ms t old
    along_ends e =
        sym (ap (option_and_then (carried_by_all (drop (i + 1) ms) step.between)) e) ∙ place_read

    -- it leads on
    pub along_next : ((n : Mod) (s : WideTree) (q : List ℕ) → CarriesSubtree n s q) → (next : List ℕ)
        → carried_path m x now ≡ Some next → Along ms ts t (i + 1) old next
    along_next law next e =
        let there = value_of (subtree a.tree now) a.leads in
        let e1 : carried_path m a.tree now ≡ Some next = ap (λ y. carried_path m y now) (sym tree_read) ∙ e in
        record {
          tree = step.between;
          trees = parts.1;
          last = a.last;
          applies = step.others;
          leads =
              has_value (subtree step.between next) there.0
              (law m a.tree now step.between there.0 next step.one there.1 e1);
          place =
              sym (ap (option_and_then (carried_by_all (drop (i + 1) ms) step.between)) e) ∙ place_read;
        }

pub along_whole : (ms : List Mod) (ts : List WideTree) (t : WideTree) (i : ℕ) (old now : List ℕ)
    → Along ms ts t i old now → length ms ≤ i → Some now ≡ carried_by_all ms t old
along_whole ms ts t i old now a all =
    sym (ap (λ ns. carried_by_all ns a.tree now) (drop_all i ms all)) ∙ a.place
