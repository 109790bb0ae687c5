-- What is cached at a path whose place in the document is carried to itself is cached there afterwards.
use Rattle.std.proofs.Common.{◌≡◌, ℕ, Bool, true, false, List, [], ◌∷◌, ◌++◌, Some, refl, sym, ap, subst}
use Rattle.std.proofs.Common.{◌∙◌}
use Rattle.std.proofs.lemmas.List.{append_cancel_left}
use Rattle.std.proofs.lemmas.Slice.Eq.{bytes_eq-Decides}
use Rattle.std.specs.List.{AllByRecursion}
use Rattle.std.specs.Prelude.{if◌then◌else◌, option_map}
use Rattle.std.specs.Str.{bytes_eq}
use Rattle.tx_tree.specs.WideTree.{WideTree}
use Rattle.tx_mod.specs.declared.mods.Mod.{Mod}
use Rattle.tx_mod.specs.Followed.{CarriesSubtree, changed_by_all, carried_by_all}
use Rattle.tx_exec_form.specs.Evaluated.{WideTrace}
use Rattle.tx_parts.specs.Parts.{Stored}
use Rattle.tx_bridge.specs.Carrying.{Leads}
use Rattle.tx_bridge.specs.CarryingParts.{part_at, and_part, parts_behind, StaysKept}
use Rattle.tx_bridge.specs.PartsKept.{KeptParts, kept_at}
use Rattle.tx_bridge.proofs.Inside.{rest_own}
use Rattle.tx_bridge.proofs.Injective.{carried_once}
use Rattle.tx_bridge.proofs.WithinUnit.{at_path, by_place, clash}

abbrev AllLeadBelow : WideTree → List ℕ → KeptParts → Type 0
AllLeadBelow t p ks = AllByRecursion (λ k. Leads t (Some (p ++ k.path))) ks

-- a path at which something is cached leads
found_leads : (t : WideTree) (p : List ℕ) (ks : KeptParts) (q : List ℕ) (trace : WideTrace) → AllLeadBelow t p ks
    → kept_at ks q ≡ Some trace → Leads t (Some (p ++ q))
found_leads t p [] q trace lead is = cc
found_leads t p (k ∷ ks) q trace lead is =
    by (bytes_eq k.path q) refl is (found_leads t p ks q trace lead.1)
  where
    by : (b : Bool) → bytes_eq k.path q ≡ b → (if b then k.trace else kept_at ks q) ≡ Some trace
        → (kept_at ks q ≡ Some trace → Leads t (Some (p ++ q))) → Leads t (Some (p ++ q))
    by true e f later = subst (λ a. Leads t (Some (p ++ a))) ((bytes_eq-Decides k.path q).0 e) lead.0
    by false e f later = later f

-- at its own path the first one is read
first_tells : (r q : List ℕ) (k : Stored) (ks : KeptParts) → bytes_eq r q ≡ true
    → kept_at (at_path k r ∷ ks) q ≡ k.trace
first_tells r q k ks e = ap (λ b. if b then k.trace else kept_at ks q) e

other_tells : (r q : List ℕ) (k : Stored) (ks : KeptParts) → bytes_eq r q ≡ false
    → kept_at (at_path k r ∷ ks) q ≡ kept_at ks q
other_tells r q k ks e = ap (λ b. if b then k.trace else kept_at ks q) e

module _ (law : (m : Mod) (s : WideTree) (q : List ℕ) → CarriesSubtree m s q) (ms : List Mod) (t u : WideTree)
    (p q : List ℕ) (trace : WideTrace) (made : changed_by_all ms t ≡ Some u)
    (stays : carried_by_all ms t (p ++ q) ≡ Some (p ++ q)) (there : Leads t (Some (p ++ q))) where
  -- a part with another path isn't carried to q
  comes_elsewhere : (k : Stored) (r : List ℕ) → Leads t (Some (p ++ k.path)) → bytes_eq k.path q ≡ false
      → carried_by_all ms t (p ++ k.path) ≡ Some (p ++ r) → (b : Bool) → bytes_eq r q ≡ b → b ≡ false
  comes_elsewhere k r lead apart e false is = refl
  comes_elsewhere k r lead apart e true is =
      let same : r ≡ q = (bytes_eq-Decides r q).0 is in
      let one : k.path ≡ q = append_cancel_left p k.path q
      (carried_once law ms t u (p ++ k.path) (p ++ q) (p ++ q) lead.0 there.0 made lead.1 there.1
      (e ∙ ap (λ z. Some (p ++ z)) same) stays) in
      absurd (clash (sym apart ∙ (bytes_eq-Decides k.path q).1 one))

  goes_on : (ks : KeptParts) → AllLeadBelow t p ks → kept_at ks q ≡ Some trace
      → kept_at (parts_behind ms t p ks) q ≡ Some trace
  goes_on [] lead is = is
  goes_on (k ∷ ks) lead is = by (bytes_eq k.path q) refl is (goes_on ks lead.1)
    where
      by : (b : Bool) → bytes_eq k.path q ≡ b → (if b then k.trace else kept_at ks q) ≡ Some trace
          → (kept_at ks q ≡ Some trace → kept_at (parts_behind ms t p ks) q ≡ Some trace)
          → kept_at (and_part (part_at p (carried_by_all ms t (p ++ k.path)) k) (parts_behind ms t p ks)) q ≡ Some trace
      by true e f later =
          ap (λ o. kept_at (and_part (part_at p o k) (parts_behind ms t p ks)) q)
          (ap (λ a. carried_by_all ms t (p ++ a)) ((bytes_eq-Decides k.path q).0 e) ∙ stays)
          ∙ ap (λ o. kept_at (and_part (option_map (at_path k) o) (parts_behind ms t p ks)) q) (rest_own p q)
          ∙ first_tells q q k (parts_behind ms t p ks) ((bytes_eq-Decides q q).1 refl) ∙ f
      by false e f later =
          by_place (λ js. kept_at js q ≡ Some trace) p (carried_by_all ms t (p ++ k.path)) k (parts_behind ms t p ks)
          (later f)
          (λ r g. other_tells r q k (parts_behind ms t p ks) (comes_elsewhere k r lead.0 e g (bytes_eq r q) refl)
          ∙ later f)

pub kept_in_place : ((m : Mod) (s : WideTree) (q : List ℕ) → CarriesSubtree m s q) → (ms : List Mod) (t : WideTree)
    (p : List ℕ) (ks : KeptParts) → StaysKept ms t p ks
kept_in_place law ms t p ks u q trace made lead stays is =
    goes_on law ms t u p q trace made stays (found_leads t p ks q trace lead is) ks lead is
