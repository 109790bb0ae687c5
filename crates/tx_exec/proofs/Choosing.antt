-- `if` and `case`: the conditions, and the branch that they pick.
use Rattle.std.proofs.Common.{◌≡◌, ℕ, ◌+◌, ◌*◌, ◌<◌, ◌≤◌, Bool, true, false, List, [], ◌∷◌, length, drop, ap, refl, sym}
use Rattle.std.proofs.Common.{◌∙◌, arith}
use Rattle.std.specs.Prelude.{Option, Some, None, slice_get, codes, nat_le}
use Rattle.std.proofs.lemmas.Grind.{common_steps}
use Rattle.std.proofs.lemmas.Bool.{cases_lt}
use Rattle.std.proofs.Common.{◌⊎◌, inl, inr}
use Rattle.tx_tree.proofs.Walks.{drop_item}
use Rattle.tx_origin.specs.Values.{WideValue}
use Rattle.tx_origin.specs.TaggedTrees.{TaggedTree}
use Rattle.tx_exec_form.specs.Runs.{Before, State, Ran, Over, Done, Run, on_done, give}
use Rattle.tx_exec_form.specs.Frames.{Frame}
use Rattle.tx_exec_form.specs.Rows.{Eval, wrong, decided, value_truth, chosen, if_row, case_row, while_row, turns}
use Rattle.tx_exec_form.specs.declared.TheConstants.{MOST_TURNS}
use Rattle.tx_exec.specs.Gives.{Fails}
use Rattle.tx_exec.specs.PartRuns.{kid_run}
use Rattle.tx_exec.specs.FlowRuns.{truth_run, picked}
use Rattle.tx_exec.specs.declared.picks.Pick.TheVariants as picks
use Rattle.tx_exec.specs.declared.stop.Stop.{Stop}
use Rattle.tx_exec.proofs.WithLoop.{two_front}
use Rattle.tx_exec.proofs.Each.{stop_bind, fails_as}
use Rattle.tx_exec.proofs.Kids.{there, kid_run_is}

at_least : (k n : ℕ) → k ≤ n → nat_le k n ≡ true
at_least k n h = grind (arith, common_steps, h)

less : (k n : ℕ) → n < k → nat_le k n ≡ false
less k n h = grind (arith, common_steps, h)

-- ---- by how many children there are

module _ (k : ℕ) (below : Eval) (f : Frame) (label : List ℕ) (ts : List TaggedTree) where
  pub if_few : length ts < 2 → if_row k below f label ts ≡ wrong k (codes "bad") label
  if_few h = rw (less 2 (length ts) h) refl

  pub if_many : 3 < length ts → if_row k below f label ts ≡ wrong k (codes "bad") label
  if_many h = rw (at_least 2 (length ts) (omega (arith, h)), less (length ts) 3 h) refl

  pub if_chosen : 2 ≤ length ts → length ts ≤ 3 → if_row k below f label ts ≡ chosen k below f label ts
  if_chosen h g = rw (at_least 2 (length ts) h, at_least (length ts) 3 g) refl

  pub case_few : length ts < 2 → case_row k below f label ts ≡ wrong k (codes "bad") label
  case_few h = rw (less 2 (length ts) h) refl

  pub case_chosen : 2 ≤ length ts → case_row k below f label ts ≡ chosen k below f label ts
  case_chosen h = rw (at_least 2 (length ts) h) refl

pub ruleset if_rules = (if_few, if_many, if_chosen)

pub ruleset case_rules = (case_few, case_chosen)

module _ (k : ℕ) (below : Eval) (f : Frame) (label : List ℕ) where
  pub while_two : (ts : List TaggedTree) (c b : TaggedTree) → length ts ≡ 2 → slice_get ts 0 ≡ Some c
      → slice_get ts 1 ≡ Some b → while_row k below f label ts ≡ turns MOST_TURNS k below f label c b []
  while_two [] c b n p q = absurd (omega (arith, n))
  while_two (x ∷ []) c b n p q = absurd (omega (arith, n))
  while_two (x ∷ y ∷ []) c b n p q =
      let first : x ≡ c = cc in
      let second : y ≡ b = cc in
      ap (λ z. turns MOST_TURNS k below f label z y []) first
      ∙ ap (λ z. turns MOST_TURNS k below f label c z []) second
  while_two (x ∷ y ∷ z ∷ ts) c b n p q = absurd (omega (arith, n))

  pub while_not : (ts : List TaggedTree) → (length ts ≡ 2 → ⊥)
      → while_row k below f label ts ≡ wrong k (codes "bad") label
  while_not [] n = refl
  while_not (x ∷ []) n = refl
  while_not (x ∷ y ∷ []) n = absurd (n refl)
  while_not (x ∷ y ∷ z ∷ ts) n = refl

pub ruleset while_rules = (while_two, while_not)

-- ---- the conditions

-- a condition, and what follows from it
pub by_truth : (k : ℕ) (below : Eval) (f : Frame) (label : List ℕ) (c : TaggedTree) (go stop : Run WideValue)
    (e : Before) (s : State)
    → on_done e (λ v. decided k label go stop (value_truth v)) (below c f e s)
    ≡ on_done e (decided k label go stop) (truth_run below f c e s)
unfolding truth_run
by_truth k below f label c go stop e s = by (below c f e s)
  where
    by : (r : Ran WideValue) → on_done e (λ v. decided k label go stop (value_truth v)) r
        ≡ on_done e (decided k label go stop) (on_done e (λ v. give (value_truth v)) r)
    by Over = refl
    by (Done v s) = refl

module _ (k : ℕ) (below : Eval) (f : Frame) (label : List ℕ) (kids : List TaggedTree) (i : ℕ) (c : TaggedTree)
    (e : Before) (s : State) (r : Ran WideValue) (here : slice_get kids (2 * i) ≡ Some c) (lt : 2 * i + 1 < length kids)
    (run : chosen k below f label (drop (2 * i) kids) e s ≡ r) where
  branch : Run WideValue
  branch = kid_run below f kids (2 * i + 1)

  others : Run WideValue
  others = chosen k below f label (drop (2 * (i + 1)) kids)

  opened : r ≡ on_done e (decided k label branch others) (truth_run below f c e s)
  unfolding branch others
  opened =
      let b = there kids (2 * i + 1) lt in
      sym run ∙ ap (λ us. chosen k below f label us e s) (two_front kids i c b.0 here b.1)
      ∙ by_truth k below f label c (below b.0 f) (chosen k below f label (drop (2 * (i + 1)) kids)) e s
      ∙ ap (λ m. on_done e (decided k label m (chosen k below f label (drop (2 * (i + 1)) kids)))
      (truth_run below f c e s))
      (sym (kid_run_is below f kids (2 * i + 1) b.0 b.1))

  pub pick_stop : (x : Stop) → Fails x (truth_run below f c e s) → Fails x r
  pick_stop x h =
      fails_as x r _ opened (stop_bind x e (decided k label branch others) (truth_run below f c e s) h)

  pub pick_bad : (s1 : State) → truth_run below f c e s ≡ Done None s1
      → r ≡ picked k below f label kids picks.Bad e s1
  unfolding picked
  pick_bad s1 h = opened ∙ ap (on_done e (decided k label branch others)) h

  pub pick_true : (s1 : State) → truth_run below f c e s ≡ Done (Some true) s1
      → r ≡ picked k below f label kids (picks.Branch (2 * i + 1)) e s1
  unfolding branch picked
  pick_true s1 h = opened ∙ ap (on_done e (decided k label branch others)) h

  pub pick_false : (s1 : State) → truth_run below f c e s ≡ Done (Some false) s1
      → chosen k below f label (drop (2 * (i + 1)) kids) e s1 ≡ r
  unfolding others
  pick_false s1 h = sym (opened ∙ ap (on_done e (decided k label branch others)) h)

-- after all conditions
module _ (k : ℕ) (below : Eval) (f : Frame) (label : List ℕ) (kids : List TaggedTree) (i n : ℕ) (e : Before) (s : State)
    (r : Ran WideValue) (all : i ≡ n) (run : chosen k below f label (drop (2 * i) kids) e s ≡ r) where
  there_is : chosen k below f label (drop (2 * n) kids) e s ≡ r
  there_is = ap (λ j. chosen k below f label (drop (2 * j) kids) e s) (sym all) ∙ run

  pub pick_last : length kids ≡ 2 * n + 1 → r ≡ picked k below f label kids (picks.Branch (2 * n)) e s
  unfolding picked
  pick_last l =
      let b = there kids (2 * n) (omega (arith, l)) in
      let last : drop (2 * n + 1) kids ≡ [] = grind (arith, common_steps, l) in
      sym there_is
      ∙ ap (λ us. chosen k below f label us e s) (drop_item kids (2 * n) b.0 b.1 ∙ ap (λ us. b.0 ∷ us) last)
      ∙ ap (λ m. m e s) (sym (kid_run_is below f kids (2 * n) b.0 b.1))

  pub pick_nothing : length kids ≡ 2 * n → r ≡ picked k below f label kids picks.Nothing e s
  unfolding picked
  pick_nothing l =
      let end : drop (2 * n) kids ≡ [] = grind (arith, common_steps, l) in
      sym there_is ∙ ap (λ us. chosen k below f label us e s) end

-- what a condition gave, where its value is known
pub found_as : (m : Ran (Option Bool)) (o p : Option Bool) (s : State) → m ≡ Done o s → o ≡ p → m ≡ Done p s
found_as m o p s h q = h ∙ ap (λ a. Done a s) q

pub odd_count : (m n : ℕ) → 2 * n ≤ m → m ≤ 2 * n + 1 → (m ≡ 2 * n → ⊥) → m ≡ 2 * n + 1
odd_count m n a b c = by (cases_lt (2 * n) m)
  where
    by : (2 * n < m) ⊎ (m ≤ 2 * n) → m ≡ 2 * n + 1
    by (inl lt) = omega (arith, lt, b)
    by (inr le) = absurd (c (omega (arith, le, a)))
