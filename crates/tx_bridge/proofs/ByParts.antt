-- A unit that is evaluated by its parts.
use Rattle.std.proofs.Common.{arith, ◌-◌}
use Rattle.std.proofs.Common.{◌≡◌, ℕ, ◌+◌, ◌≤◌, List, [], ◌∷◌, map, Option, Some, None, refl, ap, sym, ◌∙◌, subst}
use Rattle.std.proofs.lemmas.Slice.Eq.{bytes_eq-Decides}
use mathlib.Core.Path.{fun_ext}
use Rattle.std.proofs.lemmas.List.Elements.{All-from_recursion}
use Rattle.std.specs.Prelude.{Bool, true, false, ◌&&◌, is_some, if◌then◌else◌, min, IfSome}
use Rattle.std.specs.Option.{option_map}
use Rattle.std.specs.List.{All, AllByRecursion, IsDistinct}
use Rattle.std.specs.FinMap.{get}
use Rattle.std.specs.Str.{bytes_eq}
use Rattle.tx_tree.specs.WideTree.{WideTree}
use Rattle.tx_tree.specs.Paths.{subtree}
use Rattle.tx_env.specs.Environments.{NameMap}
use Rattle.tx_origin.specs.TaggedTrees.{TaggedTree, tagged_of}
use Rattle.tx_exec_form.specs.declared.TheConstants.{MOST_LEVELS}
use Rattle.tx_exec_form.specs.Runs.{Before}
use Rattle.tx_exec_form.specs.Evaluated.{WideTrace, evaluated_in, paid}
use Rattle.tx_exec_form.specs.Laws.{Agrees, Supports}
use Rattle.tx_exec.specs.Outcomes.{wide_trace}
use Rattle.tx_parts.specs.Composed.{alone, evaluates}
use Rattle.tx_parts.specs.Opening.{Sheller, no_shells}
use Rattle.tx_parts.specs.Shellers.{IsSheller}
use Rattle.tx_parts.specs.Parts.{Part, parts, parts_by, part_trace, Stored, stored_part}
use Rattle.tx_parts.specs.LayerCosts.{Holder, layer_costs_by}
use Rattle.tx_parts.specs.Standing.{StandsIn}
use Rattle.tx_walk.specs.declared.part.Part.{Part as DonePart}
use Rattle.tx_walk.specs.Held.{Store, Stores, IsSound}
use Rattle.tx_walk.specs.Guides.{charged}
use Rattle.tx_walk.specs.LayerTraces.{TreeTrace, holds_in, holds_either}
use Rattle.tx_walk.proofs.Charging.{charged_within}
use Rattle.tx_walk.specs.Walked.{IsTidy, kept_in, stores_in, paths_of, Seen, seen, seen_in, seen_parts}
use Rattle.tx_units.specs.declared.kinds.Unit.{Unit as DocUnit}
use Rattle.tx_view_form.specs.declared.TheConstants.{MOST_UNIT_STEPS}
use Rattle.tx_view_form.specs.Outcomes.{Moment, allowance, outcome, charge, behind}
use Rattle.tx_bridge.specs.Entries.{outcome_of}
use Rattle.tx_bridge.specs.PartsKept.{KeptParts, kept_at, has_parts, unit_parts_by, parts_if_done, fresh_parts_by}
use Rattle.tx_bridge.specs.Reached.{can_be_used}
use Rattle.tx_bridge.specs.Spares.{UnitSpare, stores_with}
use Rattle.tx_bridge.specs.Charges.{guide_with, parts_charge_by, whole_charge, unit_charge_by, UnitLayersKnown}
use Rattle.tx_bridge.specs.HeldParts.{HoldsPart, PartsHold, kept_part, kept_parts}
use Rattle.tx_bridge.specs.UnitLists.{HasPathIfBody}
use Rattle.tx_walk.proofs.Kept.{Alike, alike}
use Rattle.tx_bridge.proofs.Used.{AllSupport, AllAllowed, charge_fits}

-- ---- what a walk asks for

one_kept : (t : WideTree) (p : DonePart) (r : Option WideTrace) (below : List ℕ) (u : WideTree) (trace : WideTrace)
    (b : Bool) → bytes_eq p.path below ≡ b → HoldsPart t p → subtree t below ≡ Some u
    → (r ≡ Some trace → Supports trace (alone u))
    → (if b then Some (wide_trace p.trace) else r) ≡ Some trace → Supports trace (alone u)
one_kept t p r below u trace true at h leads later is =
    let path : p.path ≡ below = (bytes_eq-Decides p.path below).0 at in
    let both : Some h.there ≡ Some u = sym h.leads ∙ ap (subtree t) path ∙ leads in
    let tree : h.there ≡ u = cc in
    let same : wide_trace p.trace ≡ trace = cc in
    subst (λ w. Supports w (alone u)) same (subst (λ v. Supports (wide_trace p.trace) (alone v)) tree h.supports)
one_kept t p r below u trace false at h leads later is = later is

each_kept : (t : WideTree) (ps : List DonePart) (below : List ℕ) (u : WideTree) (trace : WideTrace)
    → AllByRecursion (HoldsPart t) ps → subtree t below ≡ Some u → kept_in ps below ≡ Some trace
    → Supports trace (alone u)
each_kept t [] below u trace h leads is = cc
each_kept t (p ∷ ps) below u trace h leads is =
    one_kept t p (kept_in ps below) below u trace (bytes_eq p.path below) refl h.0 leads
    (each_kept t ps below u trace h.1 leads) is

pub sound_of : (t : WideTree) (ps : List DonePart) → AllByRecursion (HoldsPart t) ps → IsSound (kept_in ps) [] t
sound_of t ps h = record { holds = λ below u trace leads is. each_kept t ps below u trace h leads is }

tidy_by : (t : WideTree) (ps : List DonePart) → AllByRecursion (HoldsPart t) ps → AllByRecursion IsTidy ps
tidy_by t [] h = tt
tidy_by t (p ∷ ps) h = (h.0.tidy, tidy_by t ps h.1)

pub tidy_of : (t : WideTree) (ps : List DonePart) → AllByRecursion (HoldsPart t) ps → All IsTidy ps
tidy_of t ps h = All-from_recursion IsTidy ps (tidy_by t ps h)

-- ---- what it is charged

pub same_store : (ps : List DonePart) (path : List ℕ) → kept_in ps path ≡ kept_at (kept_parts ps) path
same_store [] path = refl
same_store (p ∷ ps) path = ap (λ r. if bytes_eq p.path path then Some (wide_trace p.trace) else r) (same_store ps path)

abbrev pub both_stores : Store → Store → Stores
both_stores own spare = record { own = own; spare = spare }

pub same_stores : (ks qs : List DonePart) → stores_in ks qs ≡ stores_with (kept_parts ks) (kept_parts qs)
same_stores ks qs =
    ap (λ s. both_stores s (kept_in qs)) (fun_ext (same_store ks))
    ∙ ap (λ s. both_stores (kept_at (kept_parts ks)) s) (fun_ext (same_store qs))

-- ---- what it returns

abbrev of_seen : Seen → Stored
of_seen s = record { path = s.path; trace = s.trace }

kept_of_seen : (ds : List DonePart) → map of_seen (map seen ds) ≡ kept_parts ds
kept_of_seen [] = refl
kept_of_seen (d ∷ ds) = ap (λ ks. kept_part d ∷ ks) (kept_of_seen ds)

stored_of_seen : (kept : Stores) (ps : List Part) → map of_seen (map (seen_in kept) ps) ≡ map stored_part ps
stored_of_seen kept [] = refl
stored_of_seen kept (p ∷ ps) = ap (λ ks. stored_part p ∷ ks) (stored_of_seen kept ps)

done_of_seen : (kept : Stores) (ps : List Part) (o : Option WideTrace)
    → map of_seen (seen_parts kept ps o) ≡ parts_if_done o ps
done_of_seen kept ps None = refl
done_of_seen kept ps (Some trace) = stored_of_seen kept ps

pub walked_parts : (kept : Stores) (ds : List DonePart) (ps : List Part) (o : Option WideTrace)
    → map seen ds ≡ seen_parts kept ps o → kept_parts ds ≡ parts_if_done o ps
walked_parts kept ds ps o h = sym (kept_of_seen ds) ∙ ap (map of_seen) h ∙ done_of_seen kept ps o

-- ---- what is true of it

none_walked : (ds : List DonePart) → map seen ds ≡ [] → ds ≡ []
none_walked [] h = refl
none_walked (d ∷ ds) h = cc

holds_one : AllSupport → (t : WideTree) (d : DonePart) (p : Part) → StandsIn [] t p → d.path ≡ p.path
    → Some (wide_trace d.trace) ≡ part_trace p → IsTidy d → HoldsPart t d
holds_one support t d p stands path trace tidy = record {
  there = p.tree;
  leads = ap (subtree t) (path ∙ stands.path_is) ∙ stands.leads;
  supports = support p.levels p.steps (alone p.tree) p.before (wide_trace d.trace) (sym trace);
  tidy = tidy;
}

holds_each : AllSupport → (kept : Stores) (t : WideTree) (ds : List DonePart) (ps : List Part)
    → map seen ds ≡ map (seen_in kept) ps → AllByRecursion (StandsIn [] t) ps → AllByRecursion IsTidy ds
    → AllByRecursion (HoldsPart t) ds
holds_each support kept t [] ps h stand tidy = tt
holds_each support kept t (d ∷ ds) [] h stand tidy = cc
holds_each support kept t (d ∷ ds) (p ∷ ps) h stand tidy =
    let a : Alike kept d ds p ps = alike kept d ds p ps h in (
      holds_one support t d p stand.0 (ap (λ (s : Seen). s.path) a.first) (ap (λ (s : Seen). s.trace) a.first) tidy.0,
      holds_each support kept t ds ps a.others stand.1 tidy.1,
    )

-- laws of parts, as the calls state them
abbrev pub AllStandIn : Type 0
AllStandIn = (sheller : Sheller) (k c : ℕ) (path : List ℕ) (t : WideTree) (e : Before)
    → AllByRecursion (StandsIn path t) (parts_by sheller k c path t e)

abbrev AllApart : Type 0
AllApart = (kept : Stores) (sheller : Sheller) (k c : ℕ) (t : WideTree) (e : Before) (done : List DonePart)
    → map seen done ≡ map (seen_in kept) (parts_by sheller k c [] t e) → IsDistinct bytes_eq (paths_of done)

abbrev pub AllSameStored : Type 0
AllSameStored = (sheller : Sheller) → IsSheller sheller → (k c n : ℕ) (path : List ℕ) (t : WideTree) (e d : Before)
    (trace : WideTrace) → evaluates k c t e ≡ Some trace → Agrees d trace.looks → trace.cost ≤ n
    → map stored_part (parts_by sheller k n path t d) ≡ map stored_part (parts_by sheller k c path t e)

-- where a unit has parts, these are asked for where nothing is shelled
unshelled : (b shelled : Bool) → b ≡ true → b && shelled ≡ false → shelled ≡ false
unshelled true shelled nested off = off
unshelled false shelled nested off = cc

module _ (support : AllSupport) (stand : AllStandIn) (apart : AllApart) (same : AllSameStored) (sheller : Sheller)
    (sound : IsSheller sheller) (shelled : Bool) (shut : shelled ≡ false → sheller ≡ no_shells) (kept : Stores) (c : ℕ)
    (e : Before) (u : DocUnit) (nested : has_parts u ≡ true) (ds : List DonePart) (tidy : AllByRecursion IsTidy ds)
  where
    pub walked_hold : (o : Option WideTrace) → o ≡ evaluates MOST_LEVELS c u.tagged.tree e
        → map seen ds ≡ seen_parts kept (parts_by sheller MOST_LEVELS c [] u.tagged.tree e) o
        → PartsHold shelled u o ds
    unfolding IsDistinct
    walked_hold None is h =
        let none : [] ≡ ds = sym (none_walked ds h) in
        subst (PartsHold shelled u None) none (record { hold = tt; distinct = tt; all = λ off. tt })
    walked_hold (Some trace) is h = record {
      hold = holds_each support kept u.tagged.tree ds (parts_by sheller MOST_LEVELS c [] u.tagged.tree e) h
          (stand sheller MOST_LEVELS c [] u.tagged.tree e) tidy;
      distinct = apart kept sheller MOST_LEVELS c u.tagged.tree e ds h;
      all = λ off n d agrees allowed.
          ap (λ b. if b then map stored_part (parts MOST_LEVELS n [] u.tagged.tree d) else []) nested
          ∙ ap (λ (s : Sheller). map stored_part (parts_by s MOST_LEVELS n [] u.tagged.tree d))
          (sym (shut (unshelled (has_parts u) shelled nested off)))
          ∙ same sheller sound MOST_LEVELS c n [] u.tagged.tree e d trace (sym is) agrees allowed
          ∙ sym (walked_parts kept ds (parts_by sheller MOST_LEVELS c [] u.tagged.tree e) (Some trace) h);
    }

-- ---- at a moment

rooted : (o : Option (List ℕ)) → is_some o ≡ true → option_map {U = List ℕ} (λ _. []) o ≡ Some []
rooted None h = cc
rooted (Some p) h = refl

abbrev tagged_at : WideTree → Option (List ℕ) → TaggedTree
tagged_at t at = record { tree = t; at = at }

pub is_alone : (u : DocUnit) → HasPathIfBody u → has_parts u ≡ true → tagged_of u.tagged ≡ alone u.tagged.tree
is_alone u placed nested =
    ap (tagged_at u.tagged.tree) (placed.origin ∙ rooted u.path nested)

module _ (u : DocUnit) (m : Moment) (env : NameMap) (left a : ℕ)
    (view : record { env = env; left = left } ≡ m) (is_a : a ≡ min MOST_UNIT_STEPS left) where
  allowed_is : a ≡ allowance m
  allowed_is = is_a ∙ ap (λ (k : Moment). allowance k) view

  names_are : get env ≡ get m.env
  names_are = ap (λ (k : Moment). get k.env) view

  pub outcome_there : HasPathIfBody u → has_parts u ≡ true
      → evaluates MOST_LEVELS a u.tagged.tree (get env) ≡ outcome_of m u
  unfolding outcome
  outcome_there placed nested =
      ap (λ n. evaluates MOST_LEVELS n u.tagged.tree (get env)) allowed_is
      ∙ ap (evaluates MOST_LEVELS (allowance m) u.tagged.tree) names_are
      ∙ ap (λ t. evaluated_in MOST_LEVELS (allowance m) t (get m.env)) (sym (is_alone u placed nested))

module _ (sheller : Sheller) (u : DocUnit) (m : Moment) (env : NameMap) (left a : ℕ)
    (view : record { env = env; left = left } ≡ m) (is_a : a ≡ min MOST_UNIT_STEPS left) where
  pub parts_there : parts_by sheller MOST_LEVELS a [] u.tagged.tree (get env) ≡ unit_parts_by sheller m u
  parts_there =
      ap (λ n. parts_by sheller MOST_LEVELS n [] u.tagged.tree (get env)) (allowed_is u m env left a view is_a)
      ∙ ap (parts_by sheller MOST_LEVELS (allowance m) [] u.tagged.tree) (names_are u m env left a view is_a)

  pub fresh_there : (kept : Stores) (ds : List DonePart) (o : Option WideTrace) → has_parts u ≡ true
      → o ≡ outcome_of m u
      → map seen ds ≡ seen_parts kept (parts_by sheller MOST_LEVELS a [] u.tagged.tree (get env)) o
      → kept_parts ds ≡ fresh_parts_by sheller m u
  fresh_there kept ds o nested is h =
      walked_parts kept ds (parts_by sheller MOST_LEVELS a [] u.tagged.tree (get env)) o h
      ∙ ap (parts_if_done o) parts_there
      ∙ ap (λ r. parts_if_done r (unit_parts_by sheller m u)) is
      ∙ sym (ap (λ b. if b then parts_if_done (outcome_of m u) (unit_parts_by sheller m u) else []) nested)

  pub charge_there : (ks qs : List DonePart) (ls rs : List TreeTrace)
      → charged (guide_with sheller (stores_in ks qs) (holds_either ls rs)) MOST_LEVELS a [] u.tagged.tree (get env)
      ≡ parts_charge_by sheller m u (kept_parts ks) (kept_parts qs) ls rs
  charge_there ks qs ls rs =
      let held : Holder = holds_either ls rs in
      ap (λ n. charged (guide_with sheller (stores_in ks qs) held) MOST_LEVELS n [] u.tagged.tree (get env))
      (allowed_is u m env left a view is_a)
      ∙ ap (charged (guide_with sheller (stores_in ks qs) held) MOST_LEVELS (allowance m) [] u.tagged.tree)
      (names_are u m env left a view is_a)
      ∙ ap (λ s. charged (guide_with sheller s held) MOST_LEVELS (allowance m) [] u.tagged.tree (get m.env))
      (same_stores ks qs)

  -- what a walk leaves of layers
  pub known_there : (ls : List TreeTrace) (o : Option WideTrace) → has_parts u ≡ true → o ≡ outcome_of m u
      → IfSome o (λ (trace : WideTrace). layer_costs_by (holds_in ls) sheller MOST_LEVELS a u.tagged.tree (get env) ≡ 0)
      → UnitLayersKnown sheller m u ls
  known_there ls o nested is known trace comes =
      ap (λ b. if b
      then layer_costs_by (holds_in ls) sheller MOST_LEVELS (allowance m) u.tagged.tree (get m.env) else 0) nested
      ∙ sym (ap (λ n. layer_costs_by (holds_in ls) sheller MOST_LEVELS n u.tagged.tree (get env))
      (allowed_is u m env left a view is_a)
      ∙ ap (layer_costs_by (holds_in ls) sheller MOST_LEVELS (allowance m) u.tagged.tree)
      (names_are u m env left a view is_a))
      ∙ subst (λ r. IfSome r (λ (t : WideTrace).
      layer_costs_by (holds_in ls) sheller MOST_LEVELS a u.tagged.tree (get env) ≡ 0)) (is ∙ comes) known

-- ---- no more than the unit costs

pub charge_most : (sheller : Sheller) → IsSheller sheller → (m : Moment) (u : DocUnit) (ks : KeptParts)
    (ls : List TreeTrace) (s : UnitSpare) → HasPathIfBody u → unit_charge_by sheller m u ks ls s ≤ charge m (outcome_of
    m u)
unfolding outcome
charge_most sheller sound m u ks ls s placed = by (has_parts u) refl
  where
    unused : (b : Bool) (n : ℕ) → (if b then 0 else n) ≤ n
    unused true n = omega arith
    unused false n = omega arith

    by : (b : Bool) → has_parts u ≡ b → unit_charge_by sheller m u ks ls s ≤ charge m (outcome_of m u)
    by true nested =
        let is : unit_charge_by sheller m u ks ls s ≡ parts_charge_by sheller m u ks s.parts ls s.layers =
        ap (λ b. if b then parts_charge_by sheller m u ks s.parts ls s.layers else whole_charge m u s) nested in
        let most : parts_charge_by sheller m u ks s.parts ls s.layers
        ≤ paid (allowance m) (evaluates MOST_LEVELS (allowance m) u.tagged.tree (get m.env)) =
        charged_within (guide_with sheller (stores_with ks s.parts) (holds_either ls s.layers)) sound MOST_LEVELS
        (allowance m) [] u.tagged.tree (get m.env) in
        let same : paid (allowance m) (evaluates MOST_LEVELS (allowance m) u.tagged.tree (get m.env))
        ≡ charge m (outcome_of m u) =
        ap (λ t. paid (allowance m) (evaluated_in MOST_LEVELS (allowance m) t (get m.env)))
        (sym (is_alone u placed nested)) in
        omega (arith, is, most, same)
    by false other =
        let is : unit_charge_by sheller m u ks ls s ≡ whole_charge m u s =
        ap (λ b. if b then parts_charge_by sheller m u ks s.parts ls s.layers else whole_charge m u s) other in
        let most : whole_charge m u s ≤ charge m (outcome_of m u) =
        unused (can_be_used m s.trace) (charge m (outcome_of m u)) in
        omega (arith, is, most)

pub spent_most : (sheller : Sheller) → IsSheller sheller → AllAllowed → (m after : Moment) (u : DocUnit)
    (ks : KeptParts) (ls : List TreeTrace) (s : UnitSpare) (n : ℕ) → HasPathIfBody u
    → n ≡ unit_charge_by sheller m u ks ls s → after ≡ behind m (outcome_of m u) → n + after.left ≤ m.left
spent_most sheller sound allowed m after u ks ls s n placed is at =
    let most : unit_charge_by sheller m u ks ls s ≤ charge m (outcome_of m u) =
    charge_most sheller sound m u ks ls s placed in
    let enough : charge m (outcome_of m u) ≤ m.left =
    charge_fits allowed m (outcome_of m u) (tagged_of u.tagged) refl in
    let left : after.left ≡ m.left - charge m (outcome_of m u) = ap (λ (k : Moment). k.left) at in
    omega (arith, most, enough, left, is)
