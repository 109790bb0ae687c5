-- A tree that isn't open, by its trace.
use Rattle.std.proofs.Common.{◌≡◌, ℕ, ◌+◌, ◌<◌, ◌≤◌, ◌⊎◌, List, [], ◌∷◌, ◌++◌, refl, ap, sym, ◌∙◌}
use Rattle.std.specs.Prelude.{Bool, true, false, not, ◌||◌, if◌then◌else◌, Some, None}
use Rattle.tx_tree.specs.WideTree.{WideTree}
use Rattle.tx_origin.specs.Values.{WideValue}
use Rattle.tx_origin.specs.Under.{value_under}
use Rattle.tx_exec_form.specs.Runs.{Before, State}
use Rattle.tx_exec_form.specs.Evaluated.{WideTrace, paid}
use Rattle.tx_exec_form.specs.Laws.{Agrees, Supports}
use Rattle.tx_parts.specs.Atop.{env_atop}
use Rattle.tx_parts.specs.Adding.{after_part}
use Rattle.tx_parts.specs.Composed.{alone, evaluates}
use Rattle.tx_parts.specs.Parts.{Part, part_cost}
use Rattle.tx_parts.proofs.PartRuns.{none_allowed}
use Rattle.tx_replay.specs.Held.{Store, Stores, agrees, fits, serves, is_part_held, charge_of, IsSound, AreSound}
use Rattle.tx_replay.specs.Held.{IsHeldBy, IsHeldIn, IsUnheld}
use Rattle.tx_replay.specs.Seen.{Seen}
use Rattle.tx_replay.specs.Walks.{Stage, Stopped, Went, told, as_part, part_walk}
use Rattle.tx_replay.proofs.Charging.{append_none}
use Rattle.tx_replay.proofs.Agreed.{agrees_is}

module _ (kept : Stores) (k : ℕ) (path : List ℕ) (t : WideTree) (e : Before) (s : Stage) where
  abbrev names : Before
  names = env_atop s.state.own e

  abbrev left : ℕ
  left = s.state.left

  abbrev p : Part
  p = as_part k path t e s.state

  -- ---- by its trace

  abbrev one : WideTrace → Bool → Seen
  one trace renewed = record { path = kept.base ++ path; trace = Some trace; renewed = renewed }

  pub part_went : (trace : WideTrace) (renewed : Bool) (v : WideValue) (state : State) (done : List Seen) (count : ℕ) →
      evaluates k left t names ≡ Some trace → not (serves kept.own p) ≡ renewed →
      count ≡ s.count + charge_of kept p → v ≡ value_under path trace.value → state ≡ after_part k s.state trace →
      done ≡ s.done ++ one trace renewed ∷ [] →
      part_walk kept k path t e s ≡ Went v (record { state = state; done = done; count = count })
  unfolding part_walk
  part_went trace renewed v state done count comes flag counts is_v is_state is_done =
      ap (λ o. told k path s (record { path = kept.base ++ path; trace = o; renewed = not (serves kept.own p) } ∷ [])
      (charge_of kept p) o) comes
      ∙ ap (λ b. told k path s (one trace b ∷ []) (charge_of kept p) (Some trace)) flag
      ∙ ap (λ u. Went u (record {
        state = after_part k s.state trace;
        done = s.done ++ one trace renewed ∷ [];
        count = s.count + charge_of kept p;
      })) (sym is_v)
      ∙ ap (λ z. Went v (record {
        state = z;
        done = s.done ++ one trace renewed ∷ [];
        count = s.count + charge_of kept p;
      })) (sym is_state)
      ∙ ap (λ ps. Went v (record { state = state; done = ps; count = s.count + charge_of kept p })) (sym is_done)
      ∙ ap (λ n. Went v (record { state = state; done = done; count = n })) (sym counts)

  pub part_over : (count : ℕ) → evaluates k left t names ≡ None → count ≡ s.count + charge_of kept p →
      part_walk kept k path t e s ≡ Stopped count
  unfolding part_walk
  part_over count none counts =
      ap (λ o. told k path s (record { path = kept.base ++ path; trace = o; renewed = not (serves kept.own p) } ∷ [])
      (charge_of kept p) o) none ∙ ap Stopped (sym counts)

  -- ---- where it is held

  record Fits (trace : WideTrace) : Type 0 where
    supports : Supports trace (alone t)
    agree : Agrees names trace.looks

  found_fits : (store : Store) (trace : WideTrace) → IsSound store path t → IsHeldBy names (store path) trace →
      Fits trace
  found_fits store trace sound h =
      let fit : agrees names trace.looks ≡ true = sym (ap (fits names) h.is) ∙ h.held in
      record {
        supports = sound.holds [] t trace refl (ap store (append_none path) ∙ h.is);
        agree = agrees_is names trace.looks fit;
      }

  held_fits : (trace : WideTrace) (renewed : Bool) → AreSound kept path t → IsHeldIn names path kept trace renewed →
      Fits trace
  held_fits trace false sound h = found_fits kept.own trace sound.own h
  held_fits trace true sound h = found_fits kept.spare trace sound.spare h.1

  pub held_flag : (trace : WideTrace) (renewed : Bool) → IsHeldIn names path kept trace renewed →
      not (serves kept.own p) ≡ renewed
  held_flag trace false h = ap not h.held
  held_flag trace true h = ap not h.0

  is_held : (trace : WideTrace) (renewed : Bool) → IsHeldIn names path kept trace renewed → is_part_held kept p ≡ true
  is_held trace false h = ap (λ b. b || fits names (kept.spare path)) h.held
  is_held trace true h = ap (λ b. b || fits names (kept.spare path)) h.0 ∙ h.1.held

  pub held_free : (trace : WideTrace) (renewed : Bool) → IsHeldIn names path kept trace renewed →
      charge_of kept p ≡ 0
  held_free trace renewed h = ap (λ b. if b then 0 else part_cost p) (is_held trace renewed h)

  pub held_comes : (trace : WideTrace) (renewed : Bool) → AreSound kept path t →
      IsHeldIn names path kept trace renewed → trace.cost ≤ left → trace.height ≤ k →
      evaluates k left t names ≡ Some trace
  held_comes trace renewed sound h cheap high =
      let f : Fits trace = held_fits trace renewed sound h in
      f.supports k left names f.agree cheap high

  pub held_over : (trace : WideTrace) (renewed : Bool) → AreSound kept path t →
      IsHeldIn names path kept trace renewed → (left < trace.cost) ⊎ (k < trace.height) →
      evaluates k left t names ≡ None
  held_over trace renewed sound h few =
      let f : Fits trace = held_fits trace renewed sound h in
      none_allowed trace k left (alone t) names f.supports f.agree few

  -- ---- where nothing holds it

  pub unheld_flag : IsUnheld names path kept → not (serves kept.own p) ≡ true
  unheld_flag h = ap not h.own

  pub unheld_cost : IsUnheld names path kept → charge_of kept p ≡ paid left (evaluates k left t names)
  unheld_cost h =
      ap (λ b. if b then 0 else part_cost p) (ap (λ b. b || fits names (kept.spare path)) h.own ∙ h.spare)
