-- What is held of layers is held still where the trace of the unit fits.
use Rattle.std.proofs.Common.{◌≡◌, ℕ, ◌+◌, ◌≤◌, List, [], ◌∷◌, Option, Some, refl, ap, sym, subst, ◌∙◌, leb-true, arith}
use Rattle.std.proofs.lemmas.Option.{same_Some}
use Rattle.std.specs.Prelude.{Bool, true, false, ◌&&◌, ◌||◌, if◌then◌else◌, nat_le}
use Rattle.std.specs.FinMap.{get}
use Rattle.tx_tree.specs.WideTree.{WideTree}
use Rattle.tx_exec_form.specs.declared.TheConstants.{MOST_LEVELS}
use Rattle.tx_exec_form.specs.Runs.{Before}
use Rattle.tx_exec_form.specs.Evaluated.{WideTrace}
use Rattle.tx_exec_form.specs.Laws.{Agrees, Supports}
use Rattle.tx_parts.specs.Shells.{bare}
use Rattle.tx_parts.specs.Composed.{evaluates}
use Rattle.tx_parts.specs.Layered.{evaluates_bare}
use Rattle.tx_parts.specs.Opening.{Sheller}
use Rattle.tx_parts.specs.Shellers.{IsSheller}
use Rattle.tx_parts.specs.LayerCosts.{Holder, HoldsMore, StaysHeld, layer_costs_by}
use Rattle.tx_walk.specs.SameTrees.{is_same}
use Rattle.tx_walk.specs.Held.{agrees}
use Rattle.tx_walk.specs.LayerTraces.{TreeTrace, serves_for, holds_in, holds_either}
use Rattle.tx_walk.proofs.Agreed.{agrees_is, agrees_of}
use Rattle.tx_walk.proofs.Trees.{both, same_is}
use Rattle.tx_units.specs.declared.kinds.Unit.{Unit as DocUnit}
use Rattle.tx_view_form.specs.Outcomes.{Moment, allowance}
use Rattle.tx_bridge.specs.Entries.{Entry, outcome_of}
use Rattle.tx_bridge.specs.Reached.{can_be_used}
use Rattle.tx_bridge.specs.PartsKept.{KeptParts, has_parts, fresh_parts_by}
use Rattle.tx_bridge.specs.Spares.{UnitSpare}
use Rattle.tx_bridge.specs.Charges.{layers_charge, charge_by, AreLayersSound, UnitLayersKnown}
use Rattle.tx_bridge.specs.UnitLists.{HasPathIfBody}
use Rattle.tx_bridge.proofs.ByParts.{AllSameStored, outcome_there}
use Rattle.tx_bridge.proofs.Remaining.{AllTraced}
use Rattle.tx_bridge.proofs.Spared.{AllDistinct, staying_charged, fresh_stays, spare_layers}
use Rattle.tx_bridge.proofs.Used.{AllSupport, AllAllowed, AllAgree}

-- laws of layers' costs, as the calls state them
abbrev pub AllAgain : Type 0
AllAgain = (held : Holder) → StaysHeld held → (sheller : Sheller) → IsSheller sheller → (k c n : ℕ)
    (t : WideTree) (e d : Before) (trace : WideTrace) → evaluates k c t e ≡ Some trace
    → Agrees d trace.looks → trace.cost ≤ n → layer_costs_by held sheller k c t e ≡ 0
    → layer_costs_by held sheller k n t d ≡ 0

abbrev pub AllFewer : Type 0
AllFewer = (held more : Holder) (sheller : Sheller) → HoldsMore held more → (k c : ℕ) (t : WideTree) (e : Before)
    → layer_costs_by more sheller k c t e ≤ layer_costs_by held sheller k c t e

module _ (support : AllSupport) (agree : AllAgree) where
  -- where both are the tree's there, they are the same
  same_trace : (k c : ℕ) (t : WideTree) (e : Before) (trace other : WideTrace) → Supports other (bare t)
      → Agrees e other.looks → evaluates_bare k c t e ≡ Some trace → other ≡ trace
  same_trace k c t e trace other holds looks comes =
      let levels : ℕ = trace.height + other.height in
      let steps : ℕ = trace.cost + other.cost in
      let ours : evaluates_bare levels steps t e ≡ Some other =
      holds levels steps e looks (omega arith) (omega arith) in
      let theirs : evaluates_bare levels steps t e ≡ Some trace =
      support k c (bare t) e trace comes levels steps e (agree k c (bare t) e trace comes) (omega arith)
      (omega arith) in
      same_Some other trace (sym ours ∙ theirs)

  one_stays : (k c : ℕ) (t : WideTree) (e d : Before) (trace : WideTrace) (m : TreeTrace)
      → Supports m.trace (bare m.tree) → serves_for t e m ≡ true → evaluates_bare k c t e ≡ Some trace
      → Agrees d trace.looks → serves_for t d m ≡ true
  one_stays k c t e d trace m holds h comes looks =
      let tests : (is_same m.tree t ≡ true) × (agrees e m.trace.looks ≡ true) =
      both (is_same m.tree t) (agrees e m.trace.looks) h in
      let tree : m.tree ≡ t = same_is m.tree t tests.0 in
      let same : m.trace ≡ trace =
      same_trace k c t e trace m.trace (subst (λ u. Supports m.trace (bare u)) tree holds)
      (agrees_is e m.trace.looks tests.1) comes in
      ap (λ b. b && agrees d m.trace.looks) tests.0
      ∙ agrees_of d m.trace.looks (subst (λ (w : WideTrace). Agrees d w.looks) (sym same) looks)

  any_true : (a b : Bool) → b ≡ true → a || b ≡ true
  any_true true b h = refl
  any_true false b h = h

  pub stays_held : (ls : List TreeTrace) → AreLayersSound ls → StaysHeld (holds_in ls)
  stays_held [] hold k c t e d trace h comes looks = cc
  stays_held (m ∷ ms) hold k c t e d trace h comes looks =
      by (serves_for t e m) refl h (λ g. stays_held ms hold.1 k c t e d trace g comes looks)
    where
      by : (b : Bool) → serves_for t e m ≡ b → b || holds_in ms t e ≡ true
          → (holds_in ms t e ≡ true → holds_in ms t d ≡ true) → serves_for t d m || holds_in ms t d ≡ true
      by true at g rest = ap (λ b. b || holds_in ms t d) (one_stays k c t e d trace m hold.0 at comes looks)
      by false at g rest = any_true (serves_for t d m) (holds_in ms t d) (rest g)

more_either : (ls rs : List TreeTrace) → HoldsMore (holds_in ls) (holds_either ls rs)
more_either ls rs t e h = ap (λ b. b || holds_in rs t e) h

more_second : (ls rs : List TreeTrace) → HoldsMore (holds_in rs) (holds_either ls rs)
more_second ls rs t e h = any_second (holds_in ls t e) (holds_in rs t e) h
  where
    any_second : (a b : Bool) → b ≡ true → a || b ≡ true
    any_second true b g = refl
    any_second false b g = g

-- Where nothing was left to evaluate of the layers of a unit, nothing is where its trace fits, and no less is held.
known_free : AllSupport → AllAgree → AllAgain → AllFewer → (sheller : Sheller) → IsSheller sheller → (m n : Moment)
    (u : DocUnit) (ts : List TreeTrace) (held : Holder) (trace : WideTrace) → HasPathIfBody u
    → outcome_of n u ≡ Some trace → can_be_used m (Some trace) ≡ true → AreLayersSound ts
    → UnitLayersKnown sheller n u ts → HoldsMore (holds_in ts) held → layers_charge held sheller m u ≡ 0
known_free support agree again fewer sheller sound m n u ts held trace placed is fit hold known more =
    by (has_parts u) refl
  where
    tests : (agrees (get m.env) trace.looks ≡ true) × (nat_le trace.cost (allowance m) ≡ true)
    tests = both (agrees (get m.env) trace.looks) (nat_le trace.cost (allowance m)) fit

    by : (b : Bool) → has_parts u ≡ b
        → (if b then layer_costs_by held sheller MOST_LEVELS (allowance m) u.tagged.tree (get m.env) else 0) ≡ 0
    by false nested = refl
    by true nested =
        let before : layer_costs_by (holds_in ts) sheller MOST_LEVELS (allowance n) u.tagged.tree (get n.env) ≡ 0 =
        sym (ap (λ b. if b
        then layer_costs_by (holds_in ts) sheller MOST_LEVELS (allowance n) u.tagged.tree (get n.env) else 0)
        nested) ∙ known trace is in
        let here : layer_costs_by (holds_in ts) sheller MOST_LEVELS (allowance m) u.tagged.tree (get m.env) ≡ 0 =
        again (holds_in ts) (stays_held support agree ts hold) sheller sound MOST_LEVELS (allowance n) (allowance m)
        u.tagged.tree (get n.env) (get m.env) trace
        (outcome_there u n n.env n.left (allowance n) refl refl placed nested ∙ is)
        (agrees_is (get m.env) trace.looks tests.0) (leb-true trace.cost (allowance m) tests.1) before in
        let less : layer_costs_by held sheller MOST_LEVELS (allowance m) u.tagged.tree (get m.env)
        ≤ layer_costs_by (holds_in ts) sheller MOST_LEVELS (allowance m) u.tagged.tree (get m.env) =
        fewer (holds_in ts) held sheller more MOST_LEVELS (allowance m) u.tagged.tree (get m.env) in
        omega (arith, here, less)

-- a unit whose trace fits, whose parts a refresh has left, and whose layers are known, is charged nothing
pub charged_nothing : AllSupport → AllAllowed → AllAgree → AllSameStored → AllTraced → AllDistinct → AllAgain
    → AllFewer → (sheller : Sheller) → IsSheller sheller → (m n : Moment) (e : Entry) (ls : List TreeTrace)
    (s : UnitSpare) (trace : WideTrace) → HasPathIfBody e.unit → e.trace ≡ Some trace
    → outcome_of n e.unit ≡ Some trace → can_be_used m (Some trace) ≡ true → AreLayersSound ls
    → UnitLayersKnown sheller n e.unit ls → charge_by sheller m e (fresh_parts_by sheller n e.unit) ls s ≡ 0
charged_nothing support allowed agree same traced distinct again fewer sheller sound m n e ls s trace placed at is fit
    hold known =
    staying_charged distinct sheller m e (fresh_parts_by sheller n e.unit) ls s
    (fresh_stays support allowed agree same traced distinct sheller sound m n e trace placed at is fit)
    ∙ known_free support agree again fewer sheller sound m n e.unit ls (holds_either ls s.layers) trace placed is fit
    hold known (more_either ls s.layers)

-- a unit of which all this is spare is charged nothing
pub spare_nothing : AllSupport → AllAllowed → AllAgree → AllSameStored → AllTraced → AllDistinct → AllAgain
    → AllFewer → (sheller : Sheller) → IsSheller sheller → (m n : Moment) (e : Entry) (ps : KeptParts)
    (ls rs : List TreeTrace) (trace : WideTrace) → HasPathIfBody e.unit → outcome_of n e.unit ≡ Some trace
    → can_be_used m (Some trace) ≡ true → AreLayersSound rs → UnitLayersKnown sheller n e.unit rs
    → charge_by sheller m e ps ls (record { trace = Some trace; parts = fresh_parts_by sheller n e.unit; layers = rs })
    ≡ 0
spare_nothing support allowed agree same traced distinct again fewer sheller sound m n e ps ls rs trace placed is fit
    hold known =
    spare_layers support allowed agree same traced distinct sheller sound m n e ps ls rs trace placed is fit
    ∙ known_free support agree again fewer sheller sound m n e.unit rs (holds_either ls rs) trace placed is fit hold
    known (more_second ls rs)
