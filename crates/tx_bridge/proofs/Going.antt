-- Paths that are carried through modifications.
use Rattle.std.proofs.Common.{◌≡◌, ℕ, zero, suc, ◌+◌, ◌<◌, ◌≤◌, List, [], ◌∷◌, length, drop, map, slice_index_or}
use Rattle.std.proofs.Common.{Option, Some, None, Ok, Err, refl, ap, sym, ◌∙◌, subst, arith}
use Rattle.std.proofs.lemmas.List.{drop_more}
use Rattle.std.specs.List.{All}
use Rattle.std.specs.Prelude.{IsOk, option_and_then}
use Rattle.tx_tree.specs.WideTree.{WideTree}
use Rattle.tx_mod.specs.declared.mods.Mod.{Mod}
use Rattle.tx_mod.specs.Changes.{Outcome, changed}
use Rattle.tx_mod.specs.Moves.{carried_path}
use Rattle.tx_mod.specs.Mods.{path_of}
use Rattle.tx_mod.specs.Followed.{CarriesSubtree, changed_by_all, carried_by_all, outcome_tree}
use Rattle.tx_mod.specs.InTurn.{cost_of}
use Rattle.tx_bridge.specs.Carrying.{through, Leads, AllLead}

abbrev pub Paths : Type 0
Paths = List (Option (List ℕ))

-- After i modifications, with the tree u and the paths in it.
pub record Going (ms : List Mod) (i : ℕ) (old now : Paths) (t u : WideTree) (before after : ℕ) : Type 0 where
  pub paths : map (through (drop i ms) u) now ≡ map (through ms t) old
  pub applies : (v : WideTree) × (changed_by_all (drop i ms) u ≡ Some v)
  pub lead : AllLead u now
  pub steps : after + cost_of (drop i ms) ≤ before + cost_of ms

all_mapped : {A B : Type 0} (P : A → Type 0) (Q : B → Type 0) (f : A → B) → ((x : A) → P x → Q (f x))
    → (xs : List A) → All P xs → All Q (map f xs)
all_mapped P Q f by [] h k d l = absurd (omega (arith, l))
all_mapped P Q f by (x ∷ xs) h zero d l = by x (h 0 x (omega arith))
all_mapped P Q f by (x ∷ xs) h (suc k) d l =
    all_mapped P Q f by xs (λ j e m. h (suc j) e (omega (arith, m))) k d (omega (arith, l))

lead_step : (m : Mod) (t u : WideTree) → ((q : List ℕ) → CarriesSubtree m t q) → changed m t ≡ Ok u
    → (o : Option (List ℕ)) → Leads t o → Leads u (option_and_then (carried_path m t) o)
lead_step m t u law e None h = tt
lead_step m t u law e (Some q) h = by_path (carried_path m t q) refl
  where
    by_path : (r : Option (List ℕ)) → carried_path m t q ≡ r → Leads u r
    by_path None g = tt
    by_path (Some r) g = (h.0, law q u h.0 r e h.1 g)

through_step : (m : Mod) (ms : List Mod) (t u : WideTree) → changed m t ≡ Ok u → (o : Option (List ℕ))
    → through ms u (option_and_then (carried_path m t) o) ≡ through (m ∷ ms) t o
through_step m ms t u e None = refl
through_step m ms t u e (Some q) =
    sym (ap (λ oc. option_and_then (λ v. option_and_then (carried_by_all ms v) (carried_path m t q))
    (outcome_tree oc)) e)

through_all : (m : Mod) (ms : List Mod) (t u : WideTree) → changed m t ≡ Ok u → (os : Paths)
    → map (through ms u) (map (option_and_then (carried_path m t)) os) ≡ map (through (m ∷ ms) t) os
through_all m ms t u e [] = refl
through_all m ms t u e (o ∷ os) =
    ap (λ q. q ∷ map (through ms u) (map (option_and_then (carried_path m t)) os)) (through_step m ms t u e o)
    ∙ ap (λ qs. through (m ∷ ms) t o ∷ qs) (through_all m ms t u e os)

through_none : (o : Option (List ℕ)) (t : WideTree) → through [] t o ≡ o
through_none None t = refl
through_none (Some q) t = refl

none_all : (t : WideTree) (os : Paths) → map (through [] t) os ≡ os
none_all t [] = refl
none_all t (o ∷ os) =
    ap (λ q. q ∷ map (through [] t) os) (through_none o t) ∙ ap (λ qs. o ∷ qs) (none_all t os)

pub first_applies : (m : Mod) (ms : List Mod) (t u : WideTree) → changed_by_all (m ∷ ms) t ≡ Some u
    → IsOk (changed m t)
first_applies m ms t u e = by_outcome (changed m t) e
  where
    by_outcome : (o : Outcome) → option_and_then (changed_by_all ms) (outcome_tree o) ≡ Some u → IsOk o
    by_outcome (Ok v) f = refl
    by_outcome (Err cause) f = absurd (cc)

pub starts : (ms : List Mod) (old : Paths) (t u : WideTree) (before : ℕ) → u ≡ t
    → ((v : WideTree) × (changed_by_all ms t ≡ Some v)) → AllLead t old → Going ms 0 old old t u before before
starts ms old t u before e applies lead =
    let P : WideTree → Type 0 = λ s. Going ms 0 old old t s before before in
    subst P (sym e) (record { paths = refl; applies = applies; lead = lead; steps = omega arith })

module _ (ms : List Mod) (i : ℕ) (old now : Paths) (t u : WideTree) (before after : ℕ)
    (g : Going ms i old now t u before after) (inside : i < length ms) (d : Mod) where
  here : drop i ms ≡ slice_index_or ms i d ∷ drop (i + 1) ms
  here = drop_more ms i d inside

  pub applies_here : IsOk (changed (slice_index_or ms i d) u)
  applies_here =
      first_applies (slice_index_or ms i d) (drop (i + 1) ms) u g.applies.0
      (ap (λ ns. changed_by_all ns u) (sym here) ∙ g.applies.1)

  -- one modification more
  pub goes_on : (m : Mod) (w : WideTree) (next : Paths) (after1 : ℕ) → m ≡ slice_index_or ms i d
      → ((q : List ℕ) → CarriesSubtree m u q) → changed m u ≡ Ok w
      → next ≡ map (option_and_then (carried_path m u)) now → after1 ≤ after + (length (path_of m) + 3)
      → Going ms (i + 1) old next t w before after1
  goes_on m w next after1 is law e is_next few =
      let split : drop i ms ≡ m ∷ drop (i + 1) ms = here ∙ ap (λ n. n ∷ drop (i + 1) ms) (sym is) in
      record {
        paths =
            ap (map (through (drop (i + 1) ms) w)) is_next ∙ through_all m (drop (i + 1) ms) u w e now
            ∙ ap (λ ns. map (through ns u) now) (sym split) ∙ g.paths;
        applies = (
          g.applies.0,
          sym (ap (λ oc. option_and_then (changed_by_all (drop (i + 1) ms)) (outcome_tree oc)) e)
              ∙ ap (λ ns. changed_by_all ns u) (sym split) ∙ g.applies.1,
        );
        lead =
            let P : Paths → Type 0 = AllLead w in
            subst P (sym is_next)
            (all_mapped (Leads u) (Leads w) (option_and_then (carried_path m u)) (lead_step m u w law e) now g.lead);
        steps =
            let cost : cost_of (drop i ms) ≡ (length (path_of m) + 3) + cost_of (drop (i + 1) ms) = ap cost_of split in
            omega (arith, cost, few, g.steps);
      }

pub gone : (ms : List Mod) (i : ℕ) (old now : Paths) (t u : WideTree) (before after : ℕ)
    → Going ms i old now t u before after → drop i ms ≡ [] → now ≡ map (through ms t) old
gone ms i old now t u before after g e =
    sym (ap (λ ns. map (through ns u) now) e ∙ none_all u now) ∙ g.paths
