-- What a part evaluates to.
use Rattle.std.proofs.Common.{◌≡◌, ℕ, zero, suc, ◌+◌, ◌-◌, ◌<◌, ◌≤◌, inl, inr, List, [], ◌∷◌, ◌++◌, map, refl, ap, sym}
use Rattle.std.proofs.Common.{subst, ◌∙◌, leb-true, leb-false, arith}
use Rattle.std.proofs.lemmas.List.{map-append}
use Rattle.std.proofs.lemmas.List.Sums.{sum_by-cons}
use Rattle.std.specs.Prelude.{Bool, true, false, not, nat_le, ◌&&◌, ◌||◌, if◌then◌else◌, Option, Some, None, IfSome}
use Rattle.std.specs.Prelude.{Result, Ok, Err, IfOk, OnOk}
use Rattle.std.specs.Option.{option_map}
use Rattle.tx_tree.specs.WideTree.{WideTree}
use Rattle.tx_exec_form.specs.Runs.{Before}
use Rattle.tx_origin.specs.TaggedTrees.{TaggedTree}
use Rattle.tx_exec_form.specs.Evaluated.{WideTrace, evaluated_in, paid}
use Rattle.tx_exec_form.specs.Laws.{Agrees, Supports}
use Rattle.tx_exec_form.proofs.Tracing.{supports, agrees, allowed}
use Rattle.tx_exec.specs.Outcomes.{wide_trace}
use Rattle.tx_parts.specs.Openness.{Shut, openness}
use Rattle.tx_parts.specs.Composed.{alone, evaluates}
use Rattle.tx_parts.specs.Parts.{Part, parts_by}
use Rattle.tx_parts.specs.LayerCosts.{layer_costs_by}
use Rattle.tx_parts.proofs.PartRuns.{none_allowed}
use Rattle.tx_walk.specs.declared.part.Part.{Part as DonePart}
use Rattle.tx_walk.specs.Held.{Store, Stores, fits, charge_of, charges, IsSound, AreSound}
use Rattle.tx_walk.specs.Held as held
use Rattle.tx_walk.specs.Guides.{Guide, charged}
use Rattle.tx_walk.specs.LayerTraces.{TreeTrace, AreKnownBy}
use Rattle.tx_walk.proofs.Known.{known_nothing}
use Rattle.tx_walk.proofs.Unshelled.{parts_are, costs_are, charged_are}
use Rattle.tx_walk.specs.Finding.{IsHeldBy, IsHeldIn, IsUnheld}
use Rattle.tx_walk.proofs.Agreed.{agrees_is}
use Rattle.tx_walk.specs.Walked.{seen, seen_in}
use Rattle.tx_walk.specs.Steps.{trace_under, IsAdded, settled, IsPushed, IsNewPushed}

abbrev cost_of : Option WideTrace → ℕ
cost_of None = 0
cost_of (Some w) = w.cost

append_none : {X : Type 0} (xs : List X) → xs ++ [] ≡ xs
append_none [] = refl
append_none (x ∷ xs) = ap (λ ys. x ∷ ys) (append_none xs)

-- It is done with this trace, or it runs out.
pub data Settles (k c : ℕ) (base : List ℕ) (t : WideTree) (e : Before) (w : WideTrace) (o : Option WideTrace) :
    Type 0 where
  is_done : o ≡ Some (trace_under base w) → evaluates k c t e ≡ Some w → Settles k c base t e w o
  is_over : o ≡ None → evaluates k c t e ≡ None → Settles k c base t e w o

module _ (k c : ℕ) (base : List ℕ) (t : WideTree) (e : Before) (w : WideTrace) (h : Supports w (alone t))
    (g : Agrees e w.looks) where
  by : (a b : Bool) → nat_le w.cost c ≡ a → nat_le w.height k ≡ b →
      Settles k c base t e w (if a && b then Some (trace_under base w) else None)
  by true true p q = is_done refl (h k c e g (leb-true w.cost c p) (leb-true w.height k q))
  by true false p q = is_over refl (none_allowed w k c (alone t) e h g (inr (leb-false w.height k q)))
  by false b p q = is_over refl (none_allowed w k c (alone t) e h g (inl (leb-false w.cost c p)))

  -- a trace of it that fits
  pub settles : Settles k c base t e w (settled k c base w)
  settles = by (nat_le w.cost c) (nat_le w.height k) refl refl

-- what is done with some levels is done with as many as it needs
pub done_lower : (m k c : ℕ) (t : TaggedTree) (e : Before) (w : WideTrace) → evaluated_in m c t e ≡ Some w →
    w.height ≤ k → evaluated_in k c t e ≡ Some w
done_lower m k c t e w h low =
    let bounds : (w.cost ≤ c) × (w.height ≤ m) = allowed m c t e w h in
    supports m c t e w h k c e (agrees m c t e w h) bounds.0 low

-- with fewer levels it runs out
pub over_below : (m k c : ℕ) (t : TaggedTree) (e : Before) (w : WideTrace) → evaluated_in m c t e ≡ Some w →
    k < w.height → evaluated_in k c t e ≡ None
over_below m k c t e w h high =
    none_allowed w k c t e (supports m c t e w h) (agrees m c t e w h) (inr high)

pub cost_within : (m c : ℕ) (t : TaggedTree) (e : Before) (w : WideTrace) → evaluated_in m c t e ≡ Some w → w.cost ≤ c
cost_within m c t e w h = (allowed m c t e w h).0

-- the rest of what was left is counted too
pub rest_counted : (before between after c cost : ℕ) → between ≡ before + cost → cost ≤ c →
    after ≡ between + (c - cost) → after ≡ before + c
rest_counted before between after c cost h few g = omega (arith, h, few, g)

-- what runs out with all levels runs out with fewer
pub over_lower : (m k c : ℕ) (t : TaggedTree) (e : Before) → k ≤ m → evaluated_in m c t e ≡ None →
    evaluated_in k c t e ≡ None
over_lower m k c t e low none = by (evaluated_in k c t e) refl
  where
    by : (o : Option WideTrace) → evaluated_in k c t e ≡ o → o ≡ None
    by None h = refl
    by (Some w) h =
        let bounds : (w.cost ≤ c) × (w.height ≤ k) = allowed k c t e w h in
        let off : Some w ≡ None =
        sym (supports k c t e w h m c e (agrees k c t e w h) bounds.0 (omega (arith, low, bounds.1))) ∙ none in
        cc

pub settled_exact : (k c : ℕ) (base : List ℕ) (t : WideTree) (e : Before) (w : WideTrace) (o : Option WideTrace) →
    Settles k c base t e w o → o ≡ option_map (trace_under base) (evaluates k c t e)
settled_exact k c base t e w o (is_done a b) = a ∙ ap (option_map (trace_under base)) (sym b)
settled_exact k c base t e w o (is_over a b) = a ∙ ap (option_map (trace_under base)) (sym b)

pub new_pushed : (k c : ℕ) (path : List ℕ) (t : WideTree) (e : Before) (old new : List DonePart) (p : DonePart)
    (o : Option WideTrace) → evaluates k c t e ≡ Some (wide_trace p.trace) → p.path ≡ path → p.renewed ≡ true →
    new ≡ old ++ p ∷ [] → IsNewPushed k c path t e old new o
new_pushed k c path t e old new p None comes stands renewed pushed = tt
new_pushed k c path t e old new p (Some trace) comes stands renewed pushed =
    record { part = p; pushed = pushed; stands = stands; renewed = renewed; comes = comes }

-- ---- what is held

found_settles : (kept : Store) (k c : ℕ) (path : List ℕ) (t : WideTree) (e : Before) (p : DonePart) →
    IsSound kept path t → IsHeldBy e path (kept path) p → Settles k c path t e (wide_trace p.trace)
    (settled k c path (wide_trace p.trace))
found_settles kept k c path t e p sound h =
    let support : Supports (wide_trace p.trace) (alone t) =
    sound.holds [] t (wide_trace p.trace) refl (ap kept (append_none path) ∙ h.is) in
    let fit : held.agrees e (wide_trace p.trace).looks ≡ true = sym (ap (fits e) h.is) ∙ h.held in
    settles k c path t e (wide_trace p.trace) support (agrees_is e (wide_trace p.trace).looks fit)

pub held_settles : (kept : Stores) (k c : ℕ) (path : List ℕ) (t : WideTree) (e : Before) (p : DonePart)
    (renewed : Bool) → AreSound kept path t → IsHeldIn e path kept p renewed →
    Settles k c path t e (wide_trace p.trace) (settled k c path (wide_trace p.trace))
held_settles kept k c path t e p false sound h = found_settles kept.own k c path t e p sound.own h
held_settles kept k c path t e p true sound h = found_settles kept.spare k c path t e p sound.spare h.1

pub own_fits : (e : Before) (path : List ℕ) (kept : Stores) (p : DonePart) (renewed : Bool) →
    IsHeldIn e path kept p renewed → renewed ≡ not (fits e (kept.own path))
own_fits e path kept p false h = ap not (sym h.held)
own_fits e path kept p true h = ap not (sym h.0)

one_fits : (e : Before) (path : List ℕ) (kept : Stores) (p : DonePart) (renewed : Bool) →
    IsHeldIn e path kept p renewed → (fits e (kept.own path) || fits e (kept.spare path)) ≡ true
one_fits e path kept p false h = ap (λ b. b || fits e (kept.spare path)) h.held
one_fits e path kept p true h = ap (λ b. b || fits e (kept.spare path)) h.0 ∙ h.1.held

none_fits : (e : Before) (path : List ℕ) (kept : Stores) → IsUnheld e path kept →
    (fits e (kept.own path) || fits e (kept.spare path)) ≡ false
none_fits e path kept h = ap (λ b. b || fits e (kept.spare path)) h.own ∙ h.spare

pub outcome_cost : (k c cost : ℕ) (base : List ℕ) (t : WideTree) (e : Before) (o : Option WideTrace) →
    o ≡ option_map (trace_under base) (evaluates k c t e) → cost + c ≤ 1000000 →
    IfSome o (λ (w : WideTrace). cost + w.cost ≤ 1000000)
outcome_cost k c cost base t e o h few = by o (evaluates k c t e) refl h
  where
    by : (o r : Option WideTrace) → evaluates k c t e ≡ r → o ≡ option_map (trace_under base) r →
        IfSome o (λ (w : WideTrace). cost + w.cost ≤ 1000000)
    by None r q e' = tt
    by (Some u) None q e' = cc
    by (Some u) (Some w) q e' =
        let same : u.cost ≡ w.cost = ap cost_of e' in
        let bounds : (w.cost ≤ c) × (w.height ≤ k) = allowed k c (alone t) e w q in
        omega (arith, same, bounds.0, few)

-- ---- the parts of a tree that isn't open

abbrev pub one_part : ℕ → ℕ → List ℕ → WideTree → Before → Part
one_part k c path t e = record { path = path; tree = t; levels = k; steps = c; before = e }

pub shut_parts : (guide : Guide) (k c : ℕ) (path : List ℕ) (t : WideTree) (e : Before) →
    guide.sheller t e ≡ None → openness t ≡ Shut → 0 < k →
    parts_by guide.sheller k c path t e ≡ one_part k c path t e ∷ []
shut_parts guide zero c path t e unshelled h some = absurd (omega (arith, some))
shut_parts guide (suc k) c path t e unshelled h some = parts_are guide c path t e Shut unshelled h k

pub shut_charged : (guide : Guide) (k c : ℕ) (path : List ℕ) (t : WideTree) (e : Before) →
    guide.sheller t e ≡ None → openness t ≡ Shut → 0 < k →
    charged guide k c path t e ≡ charges guide.stores (one_part k c path t e ∷ []) + 0
shut_charged guide zero c path t e unshelled h some = absurd (omega (arith, some))
shut_charged guide (suc k) c path t e unshelled h some = charged_are guide c path t e Shut unshelled h k

-- it costs nothing of layers
pub shut_known : (guide : Guide) (k c : ℕ) (t : WideTree) (e : Before) → guide.sheller t e ≡ None →
    openness t ≡ Shut → 0 < k → (old new : List TreeTrace) (o : Option WideTrace) → new ≡ old →
    AreKnownBy guide.sheller k c t e old new o
shut_known guide zero c t e unshelled h some old new o same = absurd (omega (arith, some))
shut_known guide (suc k) c t e unshelled h some old new o same =
    known_nothing (λ held. layer_costs_by held guide.sheller (suc k) c t e) old new o same
    (λ held. costs_are (record guide { holder = held }) c [] t e Shut unshelled h k)

plus_none : (n : ℕ) → n + 0 ≡ n
plus_none n = omega arith

charge_held : (held : Bool) (n : ℕ) → held ≡ true → (if held then 0 else n) + 0 ≡ 0
charge_held true n h = refl
charge_held false n h = cc

charge_new : (held : Bool) (n : ℕ) → held ≡ false → (if held then 0 else n) + 0 ≡ n
charge_new false n h = omega arith
charge_new true n h = cc

module _ (guide : Guide) (k c : ℕ) (path : List ℕ) (t : WideTree) (e : Before) (shut : openness t ≡ Shut)
    (some : 0 < k) (unshelled : guide.sheller t e ≡ None) where
  seen_one : (p : DonePart) (w : WideTrace) (fit : Bool) → p.path ≡ path → evaluates k c t e ≡ Some
      (wide_trace p.trace) →
      fits e (guide.stores.own path) ≡ fit → p.renewed ≡ not fit → seen p ≡ seen_in guide.stores (one_part k c path t e)
  seen_one p w fit is_path comes is_fit renewed =
      ap (λ q. record { path = q; trace = Some (wide_trace p.trace); renewed = p.renewed }) is_path
      ∙ ap (λ o. record { path = path; trace = o; renewed = p.renewed }) (sym comes)
      ∙ ap (λ b. record { path = path; trace = evaluates k c t e; renewed = b })
      (renewed ∙ ap not (sym is_fit))

  added : (old new : List DonePart) (p : DonePart) → new ≡ old ++ p ∷ [] →
      seen p ≡ seen_in guide.stores (one_part k c path t e) →
      map seen new ≡ map seen old ++ map (seen_in guide.stores) (parts_by guide.sheller k c path t e)
  added old new p pushed one =
      ap (map seen) pushed ∙ map-append seen old (p ∷ [])
      ∙ ap (λ s. map seen old ++ s ∷ []) one
      ∙ ap (λ ps. map seen old ++ map (seen_in guide.stores) ps) (sym (shut_parts guide k c path t e unshelled shut
      some))

  pub held_added : (old new : List DonePart) (p : DonePart) (o : Option WideTrace) →
      Settles k c path t e (wide_trace p.trace) o → p.path ≡ path → p.renewed ≡ not (fits e (guide.stores.own path)) →
      IsPushed old p new o → IsAdded guide.stores (parts_by guide.sheller k c path t e) old new o
  held_added old new p None s is_path renewed pushed = tt
  held_added old new p (Some trace) (is_done a b) is_path renewed pushed =
      added old new p pushed (seen_one p (wide_trace p.trace) (fits e (guide.stores.own path)) is_path b refl renewed)
  held_added old new p (Some trace) (is_over a b) is_path renewed pushed = cc

  pub new_added : (old new : List DonePart) (o : Option WideTrace) → fits e (guide.stores.own path) ≡ false →
      IsNewPushed k c path t e old new o → IsAdded guide.stores (parts_by guide.sheller k c path t e) old new o
  new_added old new None fit pushed = tt
  new_added old new (Some trace) fit pushed =
      added old new pushed.part pushed.pushed
      (seen_one pushed.part trace false pushed.stands pushed.comes fit pushed.renewed)

  charges_one : charged guide k c path t e ≡
      (if fits e (guide.stores.own path) || fits e (guide.stores.spare path) then 0 else paid c (evaluates k c t e)) + 0
  charges_one =
      let one : charges guide.stores (one_part k c path t e ∷ []) ≡
      (if fits e (guide.stores.own path) || fits e (guide.stores.spare path) then 0 else paid c (evaluates k c t e)) + 0
      =
      sum_by-cons (charge_of guide.stores) (one_part k c path t e) [] in
      shut_charged guide k c path t e unshelled shut some ∙ ap (λ n. n + 0) one
      ∙ plus_none ((if fits e (guide.stores.own path) || fits e (guide.stores.spare path) then 0
      else paid c (evaluates k c t e)) + 0)

  pub held_counted : (before : ℕ) (p : DonePart) (renewed : Bool) → IsHeldIn e path guide.stores p renewed →
      before ≡ before + charged guide k c path t e
  held_counted before p renewed h =
      let none : charged guide k c path t e ≡ 0 =
      charges_one
      ∙ charge_held (fits e (guide.stores.own path) || fits e (guide.stores.spare path)) (paid c (evaluates k c t e))
      (one_fits e path guide.stores p renewed h) in
      omega (arith, none)

  pub new_counted : (before after : ℕ) → IsUnheld e path guide.stores → after ≡ before + paid c (evaluates k c t e) →
      after ≡ before + charged guide k c path t e
  new_counted before after h is =
      let all : charged guide k c path t e ≡ paid c (evaluates k c t e) =
      charges_one
      ∙ charge_new (fits e (guide.stores.own path) || fits e (guide.stores.spare path)) (paid c (evaluates k c t e))
      (none_fits e path guide.stores h) in
      is ∙ ap (λ n. before + n) (sym all)

-- ---- results

-- what holds anyway holds whenever a result is Ok
pub any_ok : {X Y : Type 0} (r : Result X Y) (P : Type 0) → P → OnOk r P
any_ok (Ok x) P p = p
any_ok (Err y) P p = tt

pub on_ok : {X Y : Type 0} (r : Result X Y) (P Q : Type 0) → (P → Q) → OnOk r P → OnOk r Q
on_ok (Ok x) P Q f p = f p
on_ok (Err y) P Q f p = tt

-- what holds whenever it is Ok
pub pushed_ok : {X Y : Type 0} (r : Result X Y) (P : Type 0) (R : X → Type 0) → (P → (x : X) → R x) → OnOk r P →
    IfOk r R
pushed_ok (Ok x) P R f p = f p x
pushed_ok (Err y) P R f p = tt

pub both_ok : {X Y : Type 0} (r : Result X Y) (P Q R : X → Type 0) → ((x : X) → P x → Q x → R x) → IfOk r P →
    IfOk r Q → IfOk r R
both_ok (Ok x) P Q R f p q = f x p q
both_ok (Err y) P Q R f p q = tt

pub settles_as : (k c : ℕ) (base : List ℕ) (t : WideTree) (e : Before) (w : WideTrace) (o : Option WideTrace) →
    o ≡ settled k c base w → Settles k c base t e w (settled k c base w) → Settles k c base t e w o
settles_as k c base t e w o h s = subst (Settles k c base t e w) (sym h) s
