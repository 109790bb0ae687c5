-- What functions of the evaluator do with parts of a row.
use Rattle.std.specs.Prelude.{ℕ, ◌+◌, ◌≤◌, List, [], ◌∷◌, ◌++◌, Option, Some, None, codes, slice_get}
use Rattle.tx_tree.specs.WideTree.{size_of, depth_of}
use Rattle.tx_origin.specs.Values.{WideValue, made, vals, value_text, plain}
use Rattle.tx_origin.specs.TaggedTrees.{TaggedTree}
use Rattle.tx_env.specs.Pairs.{Name}
use Rattle.tx_exec_form.specs.Runs.{Run, ◌>>=◌, ◌>>◌, give, over, pay}
use Rattle.tx_exec_form.specs.Frames.{Frame}
use Rattle.tx_exec_form.specs.Rows.{Eval, wrong, stored, Sets, sizes, kept, set_all}
use Rattle.tx_exec.specs.declared.withs.Pair.{Pair}

abbrev pub run_in : Eval → Frame → Option TaggedTree → Run WideValue
run_in below f None = over
run_in below f (Some t) = below t f

-- the value of the child of this number
unfoldable pub kid_run : Eval → Frame → List TaggedTree → ℕ → Run WideValue
kid_run below f kids i = run_in below f (slice_get kids i)

-- ---- a name and what is after it

abbrev pub pair_named : Run WideValue → WideValue → Option Name → Run (Option Pair)
pair_named behind name None = give None
pair_named behind name (Some words) = do
  value ← behind
  give (Some (record { name = name; words = words; value = value }))

-- None where the name is a node
unfoldable pub pair_run : Eval → Frame → List TaggedTree → ℕ → Run (Option Pair)
pair_run below f kids i = do
  name ← kid_run below f kids i
  pair_named (kid_run below f kids (i + 1)) name (value_text name)

abbrev pub paired : ℕ → List ℕ → (Pair → Run WideValue) → Option Pair → Run WideValue
paired k label go None = wrong k (codes "bad") label
paired k label go (Some pair) = go pair

abbrev pub stored_pair : List ℕ → Option (List ℕ) → Pair → Run WideValue
stored_pair label at pair = stored label at pair.name pair.words pair.value

unfoldable pub assign_run : ℕ → Eval → Frame → List ℕ → Option (List ℕ) → List TaggedTree → Run WideValue
assign_run k below f label at kids = do
  pair ← pair_run below f kids 0
  paired k label (stored_pair label at) pair

abbrev pub size_in_pair : Option Pair → ℕ
size_in_pair None = 0
size_in_pair (Some pair) = size_of (plain pair.name) + size_of (plain pair.value)

abbrev pub IsShallowPair : ℕ → Option Pair → Type 0
IsShallowPair k None = Unit {0}
IsShallowPair k (Some pair) = (depth_of (plain pair.name) ≤ k) × (depth_of (plain pair.value) ≤ k)

-- ---- the body of a `with`

-- the value of the child of this number while the names are set
unfoldable pub held_run : Eval → Frame → Sets → List TaggedTree → ℕ → Run WideValue
held_run below f ps kids i = do
  old ← kept ps
  set_all ps
  v ← kid_run below f kids i
  set_all old
  give v

abbrev pub node_ended : List ℕ → Option (List ℕ) → List WideValue → WideValue → Run WideValue
node_ended label at vs v = give (made label (vals (vs ++ v ∷ [])) at)

unfoldable pub with_run :
    Eval → Frame → List ℕ → Option (List ℕ) → List WideValue → Sets → List TaggedTree → ℕ → Run WideValue
with_run below f label at vs ps kids i = do
  pay (sizes ps)
  v ← held_run below f ps kids i
  node_ended label at vs v
