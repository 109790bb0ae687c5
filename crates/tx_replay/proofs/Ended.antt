-- How the walk of a unit begins and ends.
use Rattle.std.proofs.Common.{◌≡◌, ℕ, ◌+◌, List, [], ◌∷◌, ◌++◌, map, refl, ap, sym, subst, ◌∙◌}
use Rattle.std.specs.Prelude.{Result, Ok, Err}
use Rattle.std.specs.FinMap.{get}
use Rattle.tx_tree.specs.WideTree.{WideTree}
use Rattle.tx_env.specs.Environments.{NameMap, Environment}
use Rattle.tx_origin.specs.Values.{WideValue}
use Rattle.tx_exec_form.specs.Runs.{Before, State}
use Rattle.tx_exec_form.specs.Evaluated.{start}
use Rattle.std.proofs.lemmas.Result.{IfOk-weaker}
use Rattle.std.specs.Prelude.{IfOk}
use Rattle.tx_exec.specs.Outcomes.{wide_outcome}
use Rattle.tx_exec.specs.States.{before_of}
use Rattle.tx_kept.specs.declared.path_map.Entry.{Entry}
use Rattle.tx_kept.specs.Entries.{IsInOrder}
use Rattle.tx_parts.specs.Composed.{evaluates}
use Rattle.tx_parts.specs.Opening.{no_shells}
use Rattle.tx_parts.specs.Parts.{parts}
use Rattle.tx_replay.specs.Cached.{seen, AllBelow}
use Rattle.tx_replay.specs.Ending.{first_stage, Ends}
use Rattle.tx_replay.specs.Gives.{Walks}
use Rattle.tx_replay.specs.Going.{Going, last_map, names_of}
use Rattle.tx_replay.specs.Held.{Stores, charges}
use Rattle.tx_replay.specs.Seen.{Seen, seen_parts, Guide}
use Rattle.tx_replay.specs.Walks.{walk}
use Rattle.tx_replay.specs.declared.cached.CachedPart.{CachedPart}
use Rattle.tx_replay.specs.declared.stop.Stop.{Stop}
use Rattle.tx_replay.specs.declared.stop.Stop.TheVariants as stops
use Rattle.tx_replay.specs.declared.unit.ByParts.{ByParts}
use Rattle.tx_replay.proofs.Levels.{shut_guide}
use Rattle.tx_replay.proofs.Rising.{parts_rise, returned_rise, returned_below}
use Rattle.tx_replay.proofs.Rooted.{RootDone, RootOver, root_done, root_over}

pub last_pushed : (ms : List NameMap) (m : NameMap) → last_map (ms ++ m ∷ []) ≡ m
last_pushed [] m = refl
last_pushed (n ∷ []) m = refl
last_pushed (n ∷ o ∷ ms) m = last_pushed (o ∷ ms) m

pub last_entered : (ms ns : List NameMap) (m : NameMap) → ns ≡ ms ++ m ∷ [] → last_map ns ≡ m
last_entered ms ns m h = ap last_map h ∙ last_pushed ms m

-- a walk from nothing, by what is known of where it begins
pub from_nothing : (g : Guide) (c n : ℕ) (t : WideTree) (root : List ℕ) (before : Going) (m : NameMap)
    (done : List Seen) (r : Result WideValue Stop) (z y : State) (ds : List Seen) (count : ℕ) → root ≡ [] →
    last_map before.scopes ≡ m → before.state ≡ start 400 c → done ≡ [] → y ≡ z →
    Walks (λ v. v) r (walk g 400 root t (names_of before) (record { state = before.state; done = done; count = n }))
    (record { state = z; done = ds; count = count }) →
    Walks (λ v. v) r (walk g 400 [] t (get m) (first_stage c n)) (record { state = y; done = ds; count = count })
from_nothing g c n t root before m done r z y ds count is_root is_names is_state none is_y h =
    subst (λ x. Walks (λ v. v) r (walk g 400 [] t (get m) (first_stage c n))
    (record { state = x; done = ds; count = count })) (sym is_y)
    (subst (λ d. Walks (λ v. v) r (walk g 400 [] t (get m) (record { state = start 400 c; done = d; count = n }))
    (record { state = z; done = ds; count = count })) none
    (subst (λ x. Walks (λ v. v) r (walk g 400 [] t (get m) (record { state = x; done = done; count = n }))
    (record { state = z; done = ds; count = count })) is_state
    (subst (λ l. Walks (λ v. v) r (walk g 400 [] t (get l) (record { state = before.state; done = done; count = n }))
    (record { state = z; done = ds; count = count })) is_names
    (subst (λ p. Walks (λ v. v) r (walk g 400 p t (get (last_map before.scopes))
    (record { state = before.state; done = done; count = n })) (record { state = z; done = ds; count = count }))
    is_root h))))

module _ (kept : Stores) (c : ℕ) (t : WideTree) (e : Before) (n m : ℕ) where
  -- what the unit evaluates to, its parts, and what is counted
  pub record Comes (w : ByParts) : Type 0 where
    pub exact : wide_outcome w.outcome ≡ evaluates 400 c t e
    pub seen_all : map seen w.parts.items ≡ seen_parts kept (parts 400 c [] t e) (wide_outcome w.outcome)
    pub counted : m ≡ n + charges kept (parts 400 c [] t e)

  pub ended : (walked : Result WideValue Stop) (s : State) (xs : List (Entry CachedPart)) (w : ByParts) →
      Walks (λ v. v) walked (walk (shut_guide kept) 400 [] t e (first_stage c n))
      (record { state = s; done = map seen xs; count = m }) → Ends c walked s xs w → Comes w
  ended (Ok v) s xs w h g =
      let d : RootDone kept c t e n v s (map seen xs) m =
      root_done kept c t e n v (record { state = s; done = map seen xs; count = m }) h in
      record {
        exact = g.0 ∙ d.comes;
        seen_all = ap (map seen) g.1 ∙ d.done ∙ ap (seen_parts kept (parts 400 c [] t e)) (sym g.0);
        counted = d.counted;
      }
  ended (Err stops.Over) s xs w h g =
      let d : RootOver kept c t e n m = root_over kept c t e n m h in
      record {
        exact = g.0 ∙ d.comes;
        seen_all = ap (map seen) g.1 ∙ ap (seen_parts kept (parts 400 c [] t e)) (sym g.0);
        counted = d.counted;
      }
  ended (Err stops.Memory) s xs w h g = absurd g

  pub in_order : (w : ByParts) → Comes w → IsInOrder w.parts.items
  in_order w h =
      returned_rise kept (wide_outcome w.outcome) w.parts.items (parts 400 c [] t e) h.seen_all
      (parts_rise no_shells 400 c [] t e)

  pub all_below : (w : ByParts) → Comes w → AllBelow kept.base w.parts.items
  all_below w h =
      returned_below kept (wide_outcome w.outcome) w.parts.items (parts 400 c [] t e) h.seen_all

-- in an environment that was lent with a scope of its own
module _ (kept : Stores) (c : ℕ) (t : WideTree) (env begun lent : Environment) (n m : ℕ) (same : lent ≡ begun)
    (scopes : begun.scopes ≡ env.scopes ++ env.map ∷ []) where
  pub names_lent : last_map lent.scopes ≡ env.map
  names_lent =
      ap (λ (e : Environment). last_map e.scopes) same ∙ last_entered env.scopes begun.scopes env.map scopes

  pub lent_begun : begun.map ≡ env.map → lent.map ≡ last_map lent.scopes
  lent_begun map_is = ap (λ (e : Environment). e.map) same ∙ map_is ∙ sym names_lent

  pub all_come : {Y : Type 0} (r : Result ByParts Y) (walked : Result WideValue Stop) (s : State)
      (xs : List (Entry CachedPart)) →
      Walks (λ v. v) walked (walk (shut_guide kept) 400 [] t (get (last_map lent.scopes)) (first_stage c n))
      (record { state = s; done = map seen xs; count = m }) → IfOk r (λ w. Ends c walked s xs w) →
      IfOk r (λ w. Comes kept c t (before_of env) n m w)
  all_come r walked s xs h g =
      IfOk-weaker r (λ w. Ends c walked s xs w) (λ w. Comes kept c t (before_of env) n m w)
      (λ w ends. ended kept c t (before_of env) n m walked s xs w
      (subst (λ names. Walks (λ v. v) walked (walk (shut_guide kept) 400 [] t (get names) (first_stage c n))
      (record { state = s; done = map seen xs; count = m })) names_lent h) ends)
      g
