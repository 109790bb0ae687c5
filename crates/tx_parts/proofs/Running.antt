-- How runs go: a node's level and step, and results of what was done.
use Rattle.std.proofs.Common.{◌≡◌, ℕ, suc, ◌+◌, ◌-◌, ◌≤◌, min, List, [], length, ap, refl, ◌∙◌, arith}
use Rattle.std.specs.Prelude.{Bool, true, false, nat_le, if◌then◌else◌, Option, Some, None}
use Rattle.std.proofs.lemmas.Grind.{common_steps}
use Rattle.std.specs.FinMap.{empty}
use Rattle.tx_tree.specs.WideTree.{Forest, leaf, node}
use Rattle.tx_origin.specs.Values.{WideValue, text}
use Rattle.tx_origin.specs.TaggedTrees.{TaggedTree, kids_from}
use Rattle.tx_exec_form.specs.Runs.{Before, State, Over, Done, Run, on_done, ◌>>◌, give, pay, need}
use Rattle.tx_exec_form.specs.Frames.{top}
use Rattle.tx_exec_form.specs.Words.{row_of}
use Rattle.tx_exec_form.specs.Rows.{ex, ex_all, row, leaf_run, node_run}
use Rattle.tx_exec_form.specs.Evaluated.{start, evaluated_in}
use Rattle.tx_parts.specs.Composed.{alone}

-- without a level
pub none_there : (c : ℕ) (t : TaggedTree) (e : Before) → evaluated_in 0 c t e ≡ None
unfolding evaluated_in ex
none_there c t e = refl

-- one level is there
level_there : (k : ℕ) → nat_le 1 (suc k) ≡ true
level_there k = grind (arith, common_steps)

-- the state of a part that has set and looked up nothing
abbrev pub fresh : ℕ → ℕ → State
fresh left slack = record { own = empty; looks = empty; left = left; slack = slack }

-- a level and a step, from the start
pub step_start : {A : Type 0} (k c : ℕ) (m : Run A) (e : Before) →
    (need 1 (suc k) >> (pay 1 >> m)) e (start (suc k) c) ≡ (if nat_le 1 c then m e (fresh (c - 1) k) else Over)
unfolding need pay
step_start {A = A} k c m e =
    let level : min (suc k) (suc k - 1) ≡ k = omega arith in
    ap (λ b. on_done {A = Unit {0}} e (λ _. pay 1 >> m)
    (if b then Done tt (fresh c (min (suc k) (suc k - 1))) else Over))
    (level_there k)
    ∙ ap (λ z. (pay 1 >> m) e (fresh c z)) level
    ∙ by_step (nat_le 1 c)
  where
    by_step : (b : Bool) →
        on_done {A = Unit {0}} e (λ _. m) (if b then Done tt (fresh (c - 1) k) else Over) ≡
        (if b then m e (fresh (c - 1) k) else Over)
    by_step true = refl
    by_step false = refl

module _ (k c : ℕ) (label : List ℕ) (ts : Forest) (e : Before) where
  abbrev pub row_alone : Run WideValue
  row_alone = row (row_of label) (suc k) (ex k) (ex_all k) (alone (node label ts)) label (kids_from (Some []) 0 ts) top

  -- a node alone: its row after its level and its step
  pub node_start : ex (suc k) (alone (node label ts)) top e (start (suc k) c) ≡
      (if nat_le 1 c then row_alone e (fresh (c - 1) k) else Over)
  unfolding ex node_run
  node_start = step_start k c row_alone e

-- two payments are one
pub both_paid : {A : Type 0} (m n c : ℕ) (x y : A) →
    (if nat_le m c then (if nat_le n (c - m) then x else y) else y) ≡ (if nat_le (m + n) c then x else y)
both_paid m n c x y = by (nat_le m c) (nat_le n (c - m)) (nat_le (m + n) c) refl refl refl
  where
    by : (a b d : Bool) → a ≡ nat_le m c → b ≡ nat_le n (c - m) → d ≡ nat_le (m + n) c →
        (if a then (if b then x else y) else y) ≡ (if d then x else y)
    by true true true p q r = refl
    by true true false p q r = absurd (grind (arith, common_steps, p, q, r))
    by true false true p q r = absurd (grind (arith, common_steps, p, q, r))
    by true false false p q r = refl
    by false b true p q r = absurd (grind (arith, common_steps, p, r))
    by false b false p q r = refl

-- the steps of a text
pub text_then : {A : Type 0} (j : ℕ) (x : List ℕ) (at : Option (List ℕ)) (e : Before) (left z : ℕ)
    (f : WideValue → Run A) → j ≤ z →
    on_done e f (ex (suc j) (record { tree = leaf x; at = at }) top e (fresh left z)) ≡
    (if nat_le (1 + length x) left then f (text x at) e (fresh (left - (1 + length x)) j) else Over)
unfolding ex leaf_run need pay
text_then {A = A} j x at e left z f low =
    let level : min z (suc j - 1) ≡ j = omega (arith, low) in
    ap (λ b. on_done e f (on_done {A = Unit {0}} e (λ _. pay (1 + length x) >> give (text x at))
    (if b then Done tt (fresh left (min z (suc j - 1))) else Over))) (level_there j)
    ∙ ap (λ i. on_done e f ((pay (1 + length x) >> give (text x at)) e (fresh left i))) level
    ∙ by_steps (nat_le (1 + length x) left)
  where
    by_steps : (b : Bool) →
        on_done e f (on_done {A = Unit {0}} e (λ _. give (text x at))
        (if b then Done tt (fresh (left - (1 + length x)) j) else Over)) ≡
        (if b then f (text x at) e (fresh (left - (1 + length x)) j) else Over)
    by_steps true = refl
    by_steps false = refl
