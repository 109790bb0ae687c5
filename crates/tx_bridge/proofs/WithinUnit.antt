-- The parts of a unit, inside which all modifications are.
use Rattle.std.proofs.Common.{◌≡◌, ℕ, Bool, true, false, List, [], ◌∷◌, ◌++◌, length, drop}
use Rattle.std.proofs.Common.{Option, Some, None, ◌-◌, take, nat_eq, refl, sym, ap, subst, ◌∙◌, arith}
use Rattle.std.proofs.lemmas.Bool.Decides.{Decides-eqb}
use Rattle.std.proofs.lemmas.List.{append_cancel_left, length-drop}
use Rattle.std.proofs.lemmas.List.{take_all}
use Rattle.std.proofs.lemmas.Map.Keys.{IsDistinct-head, IsDistinct-tail, IsDistinct-cons}
use Rattle.std.proofs.lemmas.Slice.Eq.{bytes_eq-Decides, starts_is}
use Rattle.std.specs.List.{AllByRecursion, IsDistinct, starts_with}
use Rattle.std.specs.Prelude.{option_map}
use Rattle.std.specs.Str.{bytes_eq}
use Rattle.tx_tree.specs.WideTree.{WideTree}
use Rattle.tx_tree.specs.Paths.{subtree}
use Rattle.tx_mod.specs.declared.mods.Mod.{Mod}
use Rattle.tx_mod.specs.Followed.{CarriesSubtree, CarriesThroughAll, changed_by_all, carried_by_all}
use Rattle.tx_mod.specs.Moves.{rest_behind}
use Rattle.tx_mod.proofs.Kept.{subtree_behind}
use Rattle.tx_exec_form.specs.Evaluated.{WideTrace}
use Rattle.tx_exec_form.specs.Laws.{Supports}
use Rattle.tx_parts.specs.Composed.{alone}
use Rattle.tx_parts.specs.Parts.{Stored}
use Rattle.tx_walk.specs.declared.part.Part.{Part as DonePart}
use Rattle.tx_walk.specs.Walked.{IsTidy, paths_of}
use Rattle.tx_bridge.specs.CarryingParts.{part_at, and_part, parts_behind}
use Rattle.tx_bridge.specs.HeldParts.{HoldsPart, kept_parts}
use Rattle.tx_bridge.specs.PartsKept.{KeptParts, part_paths}
use Rattle.tx_bridge.proofs.Inside.{rest_is, rest_own, no_rest, begins_is}
use Rattle.tx_bridge.proofs.Injective.{carried_once}

-- ---- what is cached holds in a tree

abbrev pub SupportsIfDone : WideTree → Option WideTrace → Type 0
SupportsIfDone t None = Unit {0}
SupportsIfDone t (Some trace) = Supports trace (alone t)

pub record Holds (t : WideTree) (k : Stored) : Type 0 where
  pub there : WideTree
  pub leads : subtree t k.path ≡ Some there
  pub supports : SupportsIfDone there k.trace

pub hold_kept : (t : WideTree) (ps : List DonePart) → AllByRecursion (HoldsPart t) ps
    → AllByRecursion (Holds t) (kept_parts ps)
hold_kept t [] h = tt
hold_kept t (p ∷ ps) h =
    (record { there = h.0.there; leads = h.0.leads; supports = h.0.supports }, hold_kept t ps h.1)

pub hold_done : (t : WideTree) (ps : List DonePart) → AllByRecursion (Holds t) (kept_parts ps)
    → AllByRecursion IsTidy ps → AllByRecursion (HoldsPart t) ps
hold_done t [] h once = tt
hold_done t (p ∷ ps) h once = (
  record { there = h.0.there; leads = h.0.leads; supports = h.0.supports; tidy = once.0 },
  hold_done t ps h.1 once.1,
)

pub kept_paths : (ps : List DonePart) → part_paths (kept_parts ps) ≡ paths_of ps
kept_paths [] = refl
kept_paths (p ∷ ps) = ap (λ qs. p.path ∷ qs) (kept_paths ps)

pub clash : false ≡ true → ⊥
clash e = cc

-- ---- one part more

abbrev pub at_path : Stored → List ℕ → Stored
at_path k r = record { path = r; trace = k.trace }

-- what holds without the part, and with it at its place, holds
pub by_place : (Q : KeptParts → Type 0) (p : List ℕ) (place : Option (List ℕ)) (k : Stored) (ks : KeptParts) → Q ks
    → ((r : List ℕ) → place ≡ Some (p ++ r) → Q (at_path k r ∷ ks)) → Q (and_part (part_at p place k) ks)
by_place Q p None k ks none some = none
by_place Q p (Some q) k ks none some = by_rest (rest_behind p q) refl
  where
    by_rest : (o : Option (List ℕ)) → rest_behind p q ≡ o
        → Q (and_part (option_map (λ r. record { path = r; trace = k.trace }) o) ks)
    by_rest None e = none
    by_rest (Some r) e = some r (ap (λ z. Some z) (rest_is p q r e))

-- ---- all modifications

module _ (ms : List Mod) (t v : WideTree) (p : List ℕ) (old new : WideTree)
    (through_all : (q : List ℕ) → CarriesThroughAll ms t q)
    (law : (m : Mod) (s : WideTree) (q : List ℕ) → CarriesSubtree m s q)
    (made : changed_by_all ms t ≡ Some v) (before : subtree t p ≡ Some old) (after : subtree v p ≡ Some new) where
  leads_below : (q : List ℕ) (x : WideTree) → subtree old q ≡ Some x → subtree t (p ++ q) ≡ Some x
  leads_below q x e = subtree_behind p q t old before ∙ e

  holds_behind : (k : Stored) (r : List ℕ) → Holds old k → carried_by_all ms t (p ++ k.path) ≡ Some (p ++ r)
      → Holds new (at_path k r)
  holds_behind k r h e = record {
    there = h.there;
    leads = sym (subtree_behind p r v new after)
        ∙ through_all (p ++ k.path) v h.there (p ++ r) made (leads_below k.path h.there h.leads) e;
    supports = h.supports;
  }

  hold_behind : (ks : KeptParts) → AllByRecursion (Holds old) ks → AllByRecursion (Holds new) (parts_behind ms t p ks)
  hold_behind [] h = tt
  hold_behind (k ∷ ks) h =
      by_place (AllByRecursion (Holds new)) p (carried_by_all ms t (p ++ k.path)) k (parts_behind ms t p ks)
      (hold_behind ks h.1) (λ r e. (holds_behind k r h.0 e, hold_behind ks h.1))

  -- a part that is at a has another path than one that was at another one
  differ : (a r b s : List ℕ) (x y : WideTree) → bytes_eq a b ≡ false → subtree old a ≡ Some x → subtree old b ≡ Some y
      → carried_by_all ms t (p ++ a) ≡ Some (p ++ r) → carried_by_all ms t (p ++ b) ≡ Some (p ++ s)
      → (o : Bool) → bytes_eq r s ≡ o → o ≡ false
  differ a r b s x y apart f g e h false is = refl
  differ a r b s x y apart f g e h true is =
      let same : r ≡ s = (bytes_eq-Decides r s).0 is in
      let one : a ≡ b = append_cancel_left p a b
      (carried_once law ms t v (p ++ a) (p ++ b) (p ++ s) x y made (leads_below a x f) (leads_below b y g)
      (e ∙ ap (λ z. Some (p ++ z)) same) h) in
      absurd (clash (sym apart ∙ (bytes_eq-Decides a b).1 one))

  all_differ : (a r : List ℕ) (x : WideTree) (ks : KeptParts) → subtree old a ≡ Some x
      → carried_by_all ms t (p ++ a) ≡ Some (p ++ r) → AllByRecursion (λ b. bytes_eq a b ≡ false) (part_paths ks)
      → AllByRecursion (Holds old) ks
      → AllByRecursion (λ s. bytes_eq r s ≡ false) (part_paths (parts_behind ms t p ks))
  all_differ a r x [] f e apart h = tt
  all_differ a r x (k ∷ ks) f e apart h =
      by_place (λ js. AllByRecursion (λ s. bytes_eq r s ≡ false) (part_paths js)) p
      (carried_by_all ms t (p ++ k.path)) k (parts_behind ms t p ks) (all_differ a r x ks f e apart.1 h.1)
      (λ s g. (
        differ a r k.path s x h.0.there apart.0 f h.0.leads e g (bytes_eq r s) refl,
        all_differ a r x ks f e apart.1 h.1,
      ))

  distinct_behind : (ks : KeptParts) → AllByRecursion (Holds old) ks → IsDistinct bytes_eq (part_paths ks)
      → IsDistinct bytes_eq (part_paths (parts_behind ms t p ks))
  distinct_behind [] h d = d
  distinct_behind (k ∷ ks) h d =
      let rest : IsDistinct bytes_eq (part_paths (parts_behind ms t p ks)) =
      distinct_behind ks h.1 (IsDistinct-tail bytes_eq k.path (part_paths ks) d) in
      by_place (λ js. IsDistinct bytes_eq (part_paths js)) p (carried_by_all ms t (p ++ k.path)) k
      (parts_behind ms t p ks) rest
      (λ r e. IsDistinct-cons bytes_eq r (part_paths (parts_behind ms t p ks))
      (all_differ k.path r h.0.there ks h.0.leads e (IsDistinct-head bytes_eq k.path (part_paths ks) d) h.1) rest)

-- the parts that are still in the unit at p hold in its tree afterwards, and no two are at one path
pub parts_hold_behind : (ms : List Mod) (t v : WideTree) (p : List ℕ) (old new : WideTree) (ps qs : List DonePart)
    → ((q : List ℕ) → CarriesThroughAll ms t q) → ((m : Mod) (s : WideTree) (q : List ℕ) → CarriesSubtree m s q)
    → changed_by_all ms t ≡ Some v → subtree t p ≡ Some old → subtree v p ≡ Some new
    → AllByRecursion (HoldsPart old) ps → IsDistinct bytes_eq (paths_of ps)
    → kept_parts qs ≡ parts_behind ms t p (kept_parts ps) → AllByRecursion IsTidy qs
    → AllByRecursion (HoldsPart new) qs × IsDistinct bytes_eq (paths_of qs)
parts_hold_behind ms t v p old new ps qs through_all law made before after h d is once = (
  hold_done new qs
      (subst (AllByRecursion (Holds new)) (sym is)
      (hold_behind ms t v p old new through_all law made before after (kept_parts ps) held)) once,
  subst (IsDistinct bytes_eq) (ap part_paths (sym is) ∙ kept_paths qs)
      (distinct_behind ms t v p old new through_all law made before after (kept_parts ps) held
      (subst (IsDistinct bytes_eq) (sym (kept_paths ps)) d)),
)
  where
    held : AllByRecursion (Holds old) (kept_parts ps)
    held = hold_kept old ps h

-- ---- what is left after a front

pub no_rest_of : (q p : List ℕ) → starts_with nat_eq p q ≡ false → rest_behind q p ≡ None
no_rest_of q p e =
    no_rest q p (λ s f. clash (sym e ∙ (starts_is Decides-eqb p q (starts_with nat_eq p q) refl).1 s f))

pub rest_of_is : (q p : List ℕ) → starts_with nat_eq p q ≡ true
    → rest_behind q p ≡ Some (take (length p - length q) (drop (length q) p))
rest_of_is q p e =
    ap (rest_behind q) (begins_is q p e) ∙ rest_own q (drop (length q) p)
    ∙ ap (λ r. Some r)
    (sym (take_all (length p - length q) (drop (length q) p) (omega (arith, length-drop (length q) p))))
