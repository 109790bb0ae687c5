-- A unit that isn't reached, or whose spare fits, is charged for its layers alone. What is charged where nothing is
-- spare.
use Rattle.std.proofs.Common.{◌≡◌, ℕ, ◌+◌, List, [], ◌∷◌, map, Option, Some, refl, ap, sym, subst, ◌∙◌}
use Rattle.std.proofs.Common.{leb-true, arith}
use Rattle.std.proofs.lemmas.Slice.Eq.{bytes_eq-Decides}
use Rattle.std.proofs.lemmas.List.Sums.{sum_by-cons}
use Rattle.std.specs.Prelude.{Bool, true, false, not, ◌&&◌, ◌||◌, if◌then◌else◌, nat_le, drop}
use Rattle.std.specs.List.{AllByRecursion, IsDistinct}
use Rattle.std.specs.FinMap.{get}
use Rattle.std.specs.Str.{bytes_eq}
use Rattle.tx_tree.specs.WideTree.{WideTree}
use Rattle.tx_origin.specs.TaggedTrees.{tagged_of}
use Rattle.tx_exec_form.specs.declared.TheConstants.{MOST_LEVELS}
use Rattle.tx_exec_form.specs.Runs.{Before}
use Rattle.tx_exec_form.specs.Evaluated.{WideTrace}
use Rattle.tx_parts.specs.Composed.{evaluates}
use Rattle.tx_parts.specs.Opening.{Sheller, no_shells}
use Rattle.tx_parts.specs.Shellers.{IsSheller}
use Rattle.tx_parts.specs.LayerCosts.{Holder, layer_costs_by}
use Rattle.tx_parts.specs.Parts.{Part, HasTrace, parts_by, part_cost, Stored, stored_part}
use Rattle.tx_walk.specs.Held.{Store, Stores, agrees, fits as part_fits, serves, charge_of as part_charge}
use Rattle.tx_walk.specs.Held.{only, charges}
use Rattle.tx_walk.specs.LayerTraces.{TreeTrace, holds_either}
use Rattle.tx_walk.proofs.Agreed.{agrees_is}
use Rattle.tx_walk.proofs.Found.{if_true, if_false}
use Rattle.tx_walk.proofs.Trees.{both}
use Rattle.tx_units.specs.declared.kinds.Unit.{Unit as DocUnit}
use Rattle.tx_view_form.specs.Outcomes.{Moment, allowance, charge, behind}
use Rattle.tx_bridge.specs.Entries.{Entry, Kept, outcome_of}
use Rattle.tx_bridge.specs.Reached.{can_be_used, is_kept, are_kept, unit_stays_by}
use Rattle.tx_bridge.specs.PartsKept.{KeptParts, kept_at, has_parts, unit_parts, unit_parts_by, parts_if_done}
use Rattle.tx_bridge.specs.PartsKept.{fresh_parts, fresh_parts_by}
use Rattle.tx_bridge.specs.Spares.{UnitSpare, Spares, nothing_spare, first_spare, stores_with}
use Rattle.tx_bridge.specs.Charges.{layers_charge, parts_charge_by, whole_charge, unit_charge_by, is_charged, charge_by}
use Rattle.tx_bridge.specs.Charges.{first_layers, charges_by}
use Rattle.tx_bridge.specs.Charges.{charge_with, charges_with, unit_charge, charge_alone, charges_from}
use Rattle.tx_bridge.specs.UnitLists.{HasPathIfBody}
use Rattle.tx_bridge.proofs.ByParts.{AllSameStored, both_stores, outcome_there}
use Rattle.tx_bridge.proofs.Remaining.{AllTraced}
use Rattle.tx_bridge.proofs.Staying.{stored_kept}
use Rattle.tx_bridge.proofs.Used.{AllSupport, AllAllowed, AllAgree, fits_is, outcome_holds}

-- laws of shells, as the calls state them
abbrev pub LayersFree : Type 0
LayersFree = (held : Holder) (k c : ℕ) (t : WideTree) (e : Before) → layer_costs_by held no_shells k c t e ≡ 0

abbrev pub AllDistinct : Type 0
AllDistinct = (sheller : Sheller) (k c : ℕ) (path : List ℕ) (t : WideTree) (e : Before)
    → IsDistinct bytes_eq (map (λ p. p.path) (parts_by sheller k c path t e))

-- ---- where nothing is spare

parts_alone : LayersFree → (m : Moment) (u : DocUnit) (ps : KeptParts)
    → parts_charge_by no_shells m u ps [] [] [] ≡ charges (only (kept_at ps)) (unit_parts m u)
parts_alone free m u ps =
    let none : layer_costs_by (holds_either [] []) no_shells MOST_LEVELS (allowance m) u.tagged.tree (get m.env) ≡ 0 =
    free (holds_either [] []) MOST_LEVELS (allowance m) u.tagged.tree (get m.env) in
    omega (arith, none)

unit_alone : LayersFree → (m : Moment) (u : DocUnit) (ps : KeptParts)
    → unit_charge_by no_shells m u ps [] nothing_spare ≡ unit_charge m u ps
unit_alone free m u ps =
    ap (λ n. if has_parts u then n else charge m (outcome_of m u)) (parts_alone free m u ps)

pub nothing_charged : LayersFree → (m : Moment) (es : Kept) (pss : List KeptParts)
    → charges_with m es pss [] ≡ charges_from m es pss
nothing_charged free m [] pss = refl
nothing_charged free m (e ∷ es) [] = refl
nothing_charged free m (e ∷ es) (ps ∷ pss) =
    let next : Moment = behind m (outcome_of m e.unit) in
    ap (λ n. (if is_charged m e then n else 0) + charges_with next es pss []) (unit_alone free m e.unit ps)
    ∙ ap (λ n. charge_alone m e ps + n) (nothing_charged free next es pss)

-- whatever is held of layers
unit_unseen : LayersFree → (m : Moment) (u : DocUnit) (ps : KeptParts) (ls : List TreeTrace) (s : UnitSpare)
    → unit_charge_by no_shells m u ps ls s ≡ unit_charge_by no_shells m u ps [] s
unit_unseen free m u ps ls s =
    ap (λ n. if has_parts u then charges (stores_with ps s.parts) (unit_parts m u) + n else whole_charge m u s)
    (free (holds_either ls s.layers) MOST_LEVELS (allowance m) u.tagged.tree (get m.env)
    ∙ sym (free (holds_either [] s.layers) MOST_LEVELS (allowance m) u.tagged.tree (get m.env)))

pub layers_unseen : LayersFree → (m : Moment) (es : Kept) (pss : List KeptParts) (lss : List (List TreeTrace))
    (ss : Spares) → charges_by no_shells m es pss lss ss ≡ charges_with m es pss ss
layers_unseen free m [] pss lss ss = refl
layers_unseen free m (e ∷ es) [] lss ss = refl
layers_unseen free m (e ∷ es) (ps ∷ pss) lss ss =
    let next : Moment = behind m (outcome_of m e.unit) in
    ap (λ n. (if is_charged m e then n else 0) + charges_by no_shells next es pss (drop 1 lss) (drop 1 ss))
    (unit_unseen free m e.unit ps (first_layers lss) (first_spare ss))
    ∙ ap (λ n. charge_with m e ps (first_spare ss) + n) (layers_unseen free next es pss (drop 1 lss) (drop 1 ss))

-- ---- parts that are held

-- what is cached at the path of each fits
abbrev pub AllServed : Store → List Part → Type 0
AllServed kept ps = AllByRecursion (λ p. serves kept p ≡ true) ps

own_held : (own spare : Store) (p : Part) → serves own p ≡ true → part_charge (both_stores own spare) p ≡ 0
own_held own spare p h = ap (λ b. if b || serves spare p then 0 else part_cost p) h

no_charge : (a b : Bool) (n : ℕ) → b ≡ true → (if a || b then 0 else n) ≡ 0
no_charge true b n h = refl
no_charge false b n h = ap (λ c. if c then 0 else n) h

spare_held : (own spare : Store) (p : Part) → serves spare p ≡ true → part_charge (both_stores own spare) p ≡ 0
spare_held own spare p h = no_charge (serves own p) (serves spare p) (part_cost p) h

all_free : (kept : Stores) (ps : List Part) → AllByRecursion (λ p. part_charge kept p ≡ 0) ps → charges kept ps ≡ 0
all_free kept [] h = refl
all_free kept (p ∷ ps) h =
    let sum : charges kept (p ∷ ps) ≡ part_charge kept p + charges kept ps = sum_by-cons (part_charge kept) p ps in
    let one : part_charge kept p ≡ 0 = h.0 in
    let others : charges kept ps ≡ 0 = all_free kept ps h.1 in
    omega (arith, sum, one, others)

each_by : {P Q : Part → Type 0} (ps : List Part) → ((p : Part) → P p → Q p) → AllByRecursion P ps
    → AllByRecursion Q ps
each_by [] law h = tt
each_by (p ∷ ps) law h = (law p h.0, each_by ps law h.1)

own_free : (own spare : Store) (ps : List Part) → AllServed own ps → charges (both_stores own spare) ps ≡ 0
own_free own spare ps h =
    all_free (both_stores own spare) ps
    (each_by {P = λ p. serves own p ≡ true} {Q = λ p. part_charge (both_stores own spare) p ≡ 0} ps
    (own_held own spare) h)

spare_all_free : (own spare : Store) (ps : List Part) → AllServed spare ps → charges (both_stores own spare) ps ≡ 0
spare_all_free own spare ps h =
    all_free (both_stores own spare) ps
    (each_by {P = λ p. serves spare p ≡ true} {Q = λ p. part_charge (both_stores own spare) p ≡ 0} ps
    (spare_held own spare) h)

-- ---- parts that are cached are served

served_behind : (k : Stored) (ks : KeptParts) (ps : List Part)
    → AllByRecursion (λ y. bytes_eq k.path y ≡ false) (map (λ q. q.path) ps) → AllServed (kept_at ks) ps
    → AllServed (kept_at (k ∷ ks)) ps
served_behind k ks [] other h = tt
served_behind k ks (q ∷ ps) other h = (
  ap (part_fits q.before) (if_false (bytes_eq k.path q.path) k.trace (kept_at ks q.path) other.0) ∙ h.0,
  served_behind k ks ps other.1 h.1,
)

pub kept_served : (ks : KeptParts) (ps : List Part) → IsDistinct bytes_eq (map (λ p. p.path) ps)
    → are_kept ks ps ≡ true → AllServed (kept_at ks) ps
unfolding IsDistinct
kept_served [] [] distinct is = tt
kept_served [] (p ∷ ps) distinct is = cc
kept_served (k ∷ ks) [] distinct is = cc
kept_served (k ∷ ks) (p ∷ ps) distinct is =
    let tests : (is_kept k p ≡ true) × (are_kept ks ps ≡ true) = both (is_kept k p) (are_kept ks ps) is in
    let here : (bytes_eq k.path p.path ≡ true) × (part_fits p.before k.trace ≡ true) =
    both (bytes_eq k.path p.path) (part_fits p.before k.trace) tests.0 in
    let path : p.path ≡ k.path = sym ((bytes_eq-Decides k.path p.path).0 here.0) in (
      ap (part_fits p.before) (if_true (bytes_eq k.path p.path) k.trace (kept_at ks p.path) here.0) ∙ here.1,
      served_behind k ks ps
          (subst (λ q. AllByRecursion (λ y. bytes_eq q y ≡ false) (map (λ r. r.path) ps)) path distinct.0)
          (kept_served ks ps distinct.1 tests.1),
    )

-- ---- a unit that isn't reached

module _ (distinct : AllDistinct) (sheller : Sheller) (m : Moment) (u : DocUnit) where
  parts_distinct : IsDistinct bytes_eq (map (λ p. p.path) (unit_parts_by sheller m u))
  parts_distinct = distinct sheller MOST_LEVELS (allowance m) [] u.tagged.tree (get m.env)

  -- where its parts are cached, or are spare, it is charged for its layers
  own_parts_free : (ks spare : KeptParts) (ls rs : List TreeTrace) → are_kept ks (unit_parts_by sheller m u) ≡ true
      → parts_charge_by sheller m u ks spare ls rs
      ≡ layer_costs_by (holds_either ls rs) sheller MOST_LEVELS (allowance m) u.tagged.tree (get m.env)
  own_parts_free ks spare ls rs is =
      let none : charges (both_stores (kept_at ks) (kept_at spare)) (unit_parts_by sheller m u) ≡ 0 =
      own_free (kept_at ks) (kept_at spare) (unit_parts_by sheller m u)
      (kept_served ks (unit_parts_by sheller m u) parts_distinct is) in
      omega (arith, none)

  spare_parts_free : (ks spare : KeptParts) (ls rs : List TreeTrace)
      → are_kept spare (unit_parts_by sheller m u) ≡ true
      → parts_charge_by sheller m u ks spare ls rs
      ≡ layer_costs_by (holds_either ls rs) sheller MOST_LEVELS (allowance m) u.tagged.tree (get m.env)
  spare_parts_free ks spare ls rs is =
      let none : charges (both_stores (kept_at ks) (kept_at spare)) (unit_parts_by sheller m u) ≡ 0 =
      spare_all_free (kept_at ks) (kept_at spare) (unit_parts_by sheller m u)
      (kept_served spare (unit_parts_by sheller m u) parts_distinct is) in
      omega (arith, none)

pub staying_charged : AllDistinct → (sheller : Sheller) (m : Moment) (e : Entry) (ks : KeptParts)
    (ls : List TreeTrace) (s : UnitSpare) → unit_stays_by sheller m e ks ≡ true
    → charge_by sheller m e ks ls s ≡ layers_charge (holds_either ls s.layers) sheller m e.unit
staying_charged distinct sheller m e ks ls s is = by (has_parts e.unit) refl
  where
    tests : (can_be_used m e.trace ≡ true)
        × ((not (has_parts e.unit) || are_kept ks (unit_parts_by sheller m e.unit)) ≡ true)
    tests = both (can_be_used m e.trace) (not (has_parts e.unit) || are_kept ks (unit_parts_by sheller m e.unit)) is

    by : (b : Bool) → has_parts e.unit ≡ b
        → (if b || not (can_be_used m e.trace)
        then if b then parts_charge_by sheller m e.unit ks s.parts ls s.layers else whole_charge m e.unit s else 0)
        ≡ (if b
        then layer_costs_by (holds_either ls s.layers) sheller MOST_LEVELS (allowance m) e.unit.tagged.tree (get m.env)
        else 0)
    by false n = ap (λ f. if not f then whole_charge m e.unit s else 0) tests.0
    by true n =
        own_parts_free distinct sheller m e.unit ks s.parts ls s.layers
        (ap (λ a. not a || are_kept ks (unit_parts_by sheller m e.unit)) (sym n) ∙ tests.1)

pub layers_free : LayersFree → (held : Holder) (m : Moment) (u : DocUnit) → layers_charge held no_shells m u ≡ 0
layers_free free held m u = by (has_parts u)
  where
    by : (b : Bool)
        → (if b then layer_costs_by held no_shells MOST_LEVELS (allowance m) u.tagged.tree (get m.env) else 0) ≡ 0
    by false = refl
    by true = free held MOST_LEVELS (allowance m) u.tagged.tree (get m.env)

-- ---- a unit whose trace fits, and whose parts a refresh has left

module _ (support : AllSupport) (allowed : AllAllowed) (agree : AllAgree) (same : AllSameStored) (traced : AllTraced)
    (distinct : AllDistinct) (sheller : Sheller) (sound : IsSheller sheller) (m n : Moment) (u : DocUnit)
    (placed : HasPathIfBody u) (trace : WideTrace) (is : outcome_of n u
    ≡ Some trace) (fit : can_be_used m (Some trace) ≡ true)
  where
    tests : (agrees (get m.env) trace.looks ≡ true) × (nat_le trace.cost (allowance m) ≡ true)
    tests = both (agrees (get m.env) trace.looks) (nat_le trace.cost (allowance m)) fit

    comes : has_parts u ≡ true → evaluates MOST_LEVELS (allowance n) u.tagged.tree (get n.env) ≡ Some trace
    comes nested = outcome_there u n n.env n.left (allowance n) refl refl placed nested ∙ is

    -- they are those of the unit at this moment
    parts_are : has_parts u ≡ true → fresh_parts_by sheller n u ≡ map stored_part (unit_parts_by sheller m u)
    parts_are nested =
        ap (λ b. if b then parts_if_done (outcome_of n u) (unit_parts_by sheller n u) else []) nested
        ∙ ap (λ o. parts_if_done o (unit_parts_by sheller n u)) is
        ∙ sym (same sheller sound MOST_LEVELS (allowance n) (allowance m) [] u.tagged.tree (get n.env) (get m.env) trace
        (comes nested) (agrees_is (get m.env) trace.looks tests.0) (leb-true trace.cost (allowance m) tests.1))

    comes_here : Some trace ≡ outcome_of m u
    comes_here =
        fits_is m (Some trace) (tagged_of u.tagged)
        (outcome_holds support allowed n (Some trace) (tagged_of u.tagged) (sym is)) fit

    traced_here : has_parts u ≡ true → AllByRecursion HasTrace (unit_parts_by sheller m u)
    traced_here nested =
        traced sheller sound MOST_LEVELS (allowance m) [] u.tagged.tree (get m.env) trace
        (outcome_there u m m.env m.left (allowance m) refl refl placed nested ∙ sym comes_here)

    parts_kept : has_parts u ≡ true → are_kept (fresh_parts_by sheller n u) (unit_parts_by sheller m u) ≡ true
    parts_kept nested =
        ap (λ ks. are_kept ks (unit_parts_by sheller m u)) (parts_are nested)
        ∙ stored_kept agree (unit_parts_by sheller m u) (traced_here nested)

    unit_stays : (o : Option WideTrace) → o ≡ Some trace
        → unit_stays_by sheller m (record { unit = u; trace = o }) (fresh_parts_by sheller n u) ≡ true
    unit_stays o at =
        ap (λ f. f && (not (has_parts u) || are_kept (fresh_parts_by sheller n u) (unit_parts_by sheller m u)))
        (ap (can_be_used m) at ∙ fit) ∙ by (has_parts u) refl
      where
        by : (b : Bool) → has_parts u ≡ b
            → (not b || are_kept (fresh_parts_by sheller n u) (unit_parts_by sheller m u)) ≡ true
        by false nested = refl
        by true nested = parts_kept nested

    spare_charged : (o : Option WideTrace) (ps : KeptParts) (ls rs : List TreeTrace)
        → charge_by sheller m (record { unit = u; trace = o }) ps ls
        (record { trace = Some trace; parts = fresh_parts_by sheller n u; layers = rs })
        ≡ layers_charge (holds_either ls rs) sheller m u
    spare_charged o ps ls rs = by (has_parts u) refl
      where
        unused : (b : Bool) → (if b then (if can_be_used m (Some trace) then 0 else charge m (outcome_of m u)) else 0)
            ≡ 0
        unused true = ap (λ f. if f then 0 else charge m (outcome_of m u)) fit
        unused false = refl

        by : (b : Bool) → has_parts u ≡ b
            → (if b || not (can_be_used m o)
            then if b then parts_charge_by sheller m u ps (fresh_parts_by sheller n u) ls rs
            else if can_be_used m (Some trace) then 0 else charge m (outcome_of m u) else 0)
            ≡ (if b
            then layer_costs_by (holds_either ls rs) sheller MOST_LEVELS (allowance m) u.tagged.tree (get m.env)
            else 0)
        by false nested = unused (not (can_be_used m o))
        by true nested = spare_parts_free distinct sheller m u ps (fresh_parts_by sheller n u) ls rs (parts_kept nested)

pub fresh_stays : AllSupport → AllAllowed → AllAgree → AllSameStored → AllTraced → AllDistinct → (sheller : Sheller)
    → IsSheller sheller → (m n : Moment) (e : Entry) (trace : WideTrace) → HasPathIfBody e.unit → e.trace ≡ Some trace
    → outcome_of n e.unit ≡ Some trace → can_be_used m (Some trace) ≡ true
    → unit_stays_by sheller m e (fresh_parts_by sheller n e.unit) ≡ true
fresh_stays support allowed agree same traced distinct sheller sound m n e trace placed at is fit =
    unit_stays support allowed agree same traced distinct sheller sound m n e.unit placed trace is fit e.trace at

pub spare_layers : AllSupport → AllAllowed → AllAgree → AllSameStored → AllTraced → AllDistinct → (sheller : Sheller)
    → IsSheller sheller → (m n : Moment) (e : Entry) (ps : KeptParts) (ls rs : List TreeTrace) (trace : WideTrace)
    → HasPathIfBody e.unit → outcome_of n e.unit ≡ Some trace → can_be_used m (Some trace) ≡ true
    → charge_by sheller m e ps ls (record { trace = Some trace; parts = fresh_parts_by sheller n e.unit; layers = rs })
    ≡ layers_charge (holds_either ls rs) sheller m e.unit
spare_layers support allowed agree same traced distinct sheller sound m n e ps ls rs trace placed is fit =
    spare_charged support allowed agree same traced distinct sheller sound m n e.unit placed trace is fit e.trace ps ls
    rs

pub spare_free : AllSupport → AllAllowed → AllAgree → AllSameStored → AllTraced → AllDistinct → LayersFree
    → IsSheller no_shells → (m n : Moment) (e : Entry) (ps : KeptParts) (rs : List TreeTrace) (trace : WideTrace)
    → HasPathIfBody e.unit → outcome_of n e.unit ≡ Some trace → can_be_used m (Some trace) ≡ true
    → charge_with m e ps (record { trace = Some trace; parts = fresh_parts n e.unit; layers = rs }) ≡ 0
spare_free support allowed agree same traced distinct free shut m n e ps rs trace placed is fit =
    spare_layers support allowed agree same traced distinct no_shells shut m n e ps [] rs trace placed is fit
    ∙ layers_free free (holds_either [] rs) m e.unit
