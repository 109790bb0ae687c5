-- Sizes of values, as functions of the evaluator need them.
use Rattle.std.proofs.Common.{◌≡◌, ℕ, ◌+◌, ◌≤◌, List, [], ◌∷◌, ◌++◌, arith}
use Rattle.std.specs.Prelude.{Result, Ok, Err, IfOk}
use Rattle.tx_tree.specs.WideTree.{size_of, total_size, depth_of, deepest}
use Rattle.tx_origin.specs.Values.{WideValue, vals, plain, plains}
use Rattle.tx_origin.specs.TaggedTrees.{TaggedTree}
use Rattle.tx_exec_form.specs.Runs.{Before, State}
use Rattle.tx_exec_form.specs.Frames.{Frame}
use Rattle.tx_exec_form.specs.Rows.{ex}
use Rattle.tx_exec_form.proofs.Small.{fits, size_push, depth_push}
use Rattle.tx_exec.specs.declared.stop.Stop.{Stop}
use Rattle.tx_exec.specs.Gives.{Gives}

pub next_size : (vs us : List WideValue) (v : WideValue) (a b c : ℕ) → us ≡ vs ++ v ∷ []
    → total_size (plains (vals vs)) + b ≤ a → size_of (plain v) + c ≤ b → total_size (plains (vals us)) + c ≤ a
next_size vs us v a b c e h g = rw e (omega (arith, h, g, size_push vs v))

pub next_depth : (vs us : List WideValue) (v : WideValue) (k : ℕ) → us ≡ vs ++ v ∷ [] → deepest (plains (vals vs)) ≤ k
    → depth_of (plain v) ≤ k → deepest (plains (vals us)) ≤ k
next_depth vs us v k e h g = rw e (omega (arith, h, g, depth_push vs v))

pub gives_size : (x : Result WideValue Stop) (k : ℕ) (t : TaggedTree) (f : Frame) (e : Before) (s s' : State)
    → Gives (λ v. v) x (ex k t f e s) s' → IfOk x (λ v. size_of (plain v) + s'.left ≤ s.left)
gives_size (Ok v) k t f e s s' q = (fits k t f e s s' v q).size
gives_size (Err x) k t f e s s' q = tt

pub gives_depth : (x : Result WideValue Stop) (k : ℕ) (t : TaggedTree) (f : Frame) (e : Before) (s s' : State)
    → Gives (λ v. v) x (ex k t f e s) s' → IfOk x (λ v. depth_of (plain v) ≤ k)
gives_depth (Ok v) k t f e s s' q = omega (arith, (fits k t f e s s' v q).depth)
gives_depth (Err x) k t f e s s' q = tt

pub gives_slack : (x : Result WideValue Stop) (k : ℕ) (t : TaggedTree) (f : Frame) (e : Before) (s s' : State)
    → Gives (λ v. v) x (ex k t f e s) s' → IfOk x (λ v. s'.slack ≤ k)
gives_slack (Ok v) k t f e s s' q = omega (arith, (fits k t f e s s' v q).depth)
gives_slack (Err x) k t f e s s' q = tt

pub ruleset small_rules = (gives_size, gives_depth, gives_slack)
