-- What functions of a walk return, by what those that they call return.
use Rattle.std.proofs.Common.{◌≡◌, ℕ, ◌+◌, ◌<◌, ◌≤◌, ◌⊎◌, inl, inr, List, [], ap, sym, subst, ◌∙◌}
use Rattle.std.proofs.Common.{arith}
use Rattle.std.specs.Prelude.{Bool, true, Option, Some, None, Result, Ok, Err}
use Rattle.tx_tree.specs.WideTree.{WideTree}
use Rattle.tx_origin.specs.Values.{WideValue}
use Rattle.tx_exec_form.specs.Runs.{Before, State, Ran, Over}
use Rattle.tx_exec_form.specs.Evaluated.{WideTrace, evaluated_in, paid}
use Rattle.tx_exec_form.proofs.Tracing.{allowed}
use Rattle.tx_parts.specs.Atop.{env_atop}
use Rattle.tx_parts.specs.Composed.{alone, evaluates}
use Rattle.tx_replay.specs.Held.{Stores, charge_of, AreSound, IsHeldIn, IsUnheld}
use Rattle.tx_replay.specs.Seen.{Seen}
use Rattle.tx_replay.specs.Walks.{Stage, Walked, Stopped, as_part, part_walk}
use Rattle.tx_replay.specs.Gives.{Fails, Stops, Walks}
use Rattle.tx_replay.specs.Stages.{Settles}
use Rattle.tx_replay.specs.declared.stop.Stop.{Stop}
use Rattle.tx_replay.specs.declared.stop.Stop.TheVariants as stops
use Rattle.tx_replay.proofs.PartsTold.{part_went, part_over, held_flag, held_free, held_comes, held_over, unheld_flag}
use Rattle.tx_replay.proofs.PartsTold.{unheld_cost}

pub walks_as : {X A : Type 0} (view : X → A) (x : Result X Stop) (r q : Walked A) (s : Stage) → r ≡ q →
    Walks view x q s → Walks view x r s
walks_as view x r q s e h = subst (λ p. Walks view x p s) (sym e) h

-- where it stops, the whole does
pub stops_by : {A B : Type 0} (x : Stop) (r : Walked A) (q : Walked B) (n m : ℕ) → (r ≡ Stopped n → q ≡ Stopped m) →
    Stops x r n → Stops x q m
stops_by stops.Memory r q n m f h = tt
stops_by stops.Over r q n m f h = f h

pub fails_by : {A B : Type 0} (x : Stop) (r : Ran A) (q : Walked B) (m : ℕ) → (r ≡ Over → q ≡ Stopped m) →
    Fails x r → Stops x q m
fails_by stops.Memory r q m f h = tt
fails_by stops.Over r q m f h = f h

-- at an origin of its own
pub at_root : (k c : ℕ) (t : WideTree) (root : List ℕ) (e : Before) (o : Option WideTrace) → root ≡ [] →
    o ≡ evaluated_in k c (record { tree = t; at = Some root }) e → o ≡ evaluates k c t e
at_root k c t root e o is h = h ∙ ap (λ p. evaluated_in k c (record { tree = t; at = Some p }) e) is

-- by an equal trace, from an equal state
pub settled_as : (r : Result WideValue Stop) (base : List ℕ) (k : ℕ) (path : List ℕ) (one trace : WideTrace)
    (renewed : Bool) (before state : State) (done : List Seen) (count : ℕ) (z : Stage) → one ≡ trace →
    before ≡ state →
    Settles r base k path (record { trace = one; renewed = renewed })
    (record { state = before; done = done; count = count }) z →
    Settles r base k path (record { trace = trace; renewed = renewed })
    (record { state = state; done = done; count = count }) z
settled_as r base k path one trace renewed before state done count z same alike h =
    subst (λ (s : State). Settles r base k path (record { trace = trace; renewed = renewed })
    (record { state = s; done = done; count = count }) z) alike
    (subst (λ (w : WideTrace). Settles r base k path (record { trace = w; renewed = renewed })
    (record { state = before; done = done; count = count }) z) same h)

module _ (kept : Stores) (k : ℕ) (path : List ℕ) (t : WideTree) (e : Before) (s : Stage) where
  -- a part that is held
  pub part_held : (r : Result WideValue Stop) (trace : WideTrace) (renewed : Bool) (state : State) (done : List Seen) →
      AreSound kept path t → IsHeldIn (env_atop s.state.own e) path kept trace renewed →
      Settles r kept.base k path (record { trace = trace; renewed = renewed }) s
      (record { state = state; done = done; count = s.count }) →
      Walks (λ v. v) r (part_walk kept k path t e s) (record { state = state; done = done; count = s.count })
  part_held (Ok v) trace renewed state done sound h f =
      let free : charge_of kept (as_part k path t e s.state) ≡ 0 = held_free kept k path t e s trace renewed h in
      let same : s.count ≡ s.count + charge_of kept (as_part k path t e s.state) = omega (arith, free) in
      part_went kept k path t e s trace renewed v state done s.count
      (held_comes kept k path t e s trace renewed sound h f.cost f.height)
      (held_flag kept k path t e s trace renewed h) same f.value f.state f.done
  part_held (Err stops.Memory) trace renewed state done sound h f = tt
  part_held (Err stops.Over) trace renewed state done sound h f =
      let free : charge_of kept (as_part k path t e s.state) ≡ 0 = held_free kept k path t e s trace renewed h in
      let same : s.count ≡ s.count + charge_of kept (as_part k path t e s.state) = omega (arith, free) in
      part_over kept k path t e s s.count (held_over kept k path t e s trace renewed sound h f) same

  module _ (unheld : IsUnheld (env_atop s.state.own e) path kept) where
    -- one that is evaluated, and runs out
    pub new_over : (count : ℕ) → evaluates k s.state.left t (env_atop s.state.own e) ≡ None →
        count ≡ s.count + s.state.left → part_walk kept k path t e s ≡ Stopped count
    new_over count none counts =
        part_over kept k path t e s count none
        (counts ∙ ap (λ o. s.count + paid s.state.left o) (sym none)
        ∙ ap (λ n. s.count + n) (sym (unheld_cost kept k path t e s unheld)))

    -- and one that has this trace
    pub new_done : (r : Result WideValue Stop) (trace : WideTrace) (state : State) (done : List Seen) (count : ℕ) →
        evaluates k s.state.left t (env_atop s.state.own e) ≡ Some trace → count ≡ s.count + trace.cost →
        Settles r kept.base k path (record { trace = trace; renewed = true })
        (record { state = s.state; done = s.done; count = count })
        (record { state = state; done = done; count = count }) →
        Walks (λ v. v) r (part_walk kept k path t e s) (record { state = state; done = done; count = count })
    new_done (Ok v) trace state done count comes counts f =
        part_went kept k path t e s trace true v state done count comes (unheld_flag kept k path t e s unheld)
        (counts ∙ ap (λ o. s.count + paid s.state.left o) (sym comes)
        ∙ ap (λ n. s.count + n) (sym (unheld_cost kept k path t e s unheld))) f.value f.state f.done
    new_done (Err stops.Memory) trace state done count comes counts f = tt
    new_done (Err stops.Over) trace state done count comes counts f = absurd (too_few f)
      where
        most : (trace.cost ≤ s.state.left) × (trace.height ≤ k)
        most = allowed k s.state.left (alone t) (env_atop s.state.own e) trace comes

        too_few : (s.state.left < trace.cost) ⊎ (k < trace.height) → ⊥
        too_few (inl few) = omega (arith, most.0, few)
        too_few (inr high) = omega (arith, most.1, high)
