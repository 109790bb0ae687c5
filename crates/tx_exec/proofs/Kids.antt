-- How many children there are.
use Rattle.std.proofs.Common.{◌≡◌, ℕ, zero, suc, ◌<◌, ◌≤◌, List, [], ◌∷◌, length, arith, refl, ap}
use Rattle.std.specs.Prelude.{Option, Some, None, slice_get}
use Rattle.tx_tree.specs.WideTree.{WideTree, leaf, node, size_of}
use Rattle.tx_tree.specs.Limits.{IsWithinLimits}
use Rattle.tx_tree.proofs.Children.{arity_le}
use Rattle.tx_origin.specs.TaggedTrees.{TaggedTree, kids_at}
use Rattle.tx_origin.proofs.Kids.{kid_count}
use Rattle.tx_exec_form.specs.Frames.{Frame}
use Rattle.tx_exec_form.specs.Rows.{Eval}
use Rattle.tx_exec.specs.PartRuns.{run_in, kid_run}
use Rattle.tx_origin.proofs.Wholes.{plain_whole}
use Rattle.std.proofs.lemmas.Grind.{common_steps}

pub past_none : {A : Type 0} (xs : List A) (i : ℕ) → slice_get xs i ≡ None → length xs ≤ i
past_none [] i e = omega arith
past_none (x ∷ xs) zero e = absurd cc
past_none (x ∷ xs) (suc i) e = omega (arith, past_none xs i e)

pub few_kids : (at : Option (List ℕ)) (t : WideTree) → IsWithinLimits t → length (kids_at at t) ≤ 65535
few_kids at (leaf words) w = omega arith
few_kids at (node label ts) w = omega (arith, kid_count at (node label ts), arity_le label ts, w.arity)

pub there : (kids : List TaggedTree) (i : ℕ) → i < length kids → (t : TaggedTree) × (slice_get kids i ≡ Some t)
there [] i lt = absurd (omega (arith, lt))
there (t ∷ ts) zero lt = (t, refl)
there (t ∷ ts) (suc i) lt = there ts i (omega (arith, lt))

pub kid_run_is : (below : Eval) (f : Frame) (kids : List TaggedTree) (i : ℕ) (t : TaggedTree)
    → slice_get kids i ≡ Some t
    → kid_run below f kids i ≡ below t f
unfolding kid_run
kid_run_is below f kids i t h = ap (run_in below f) h

pub some_size : (t : WideTree) → 1 ≤ size_of t
some_size (leaf words) = omega arith
some_size (node label ts) = omega arith

pub ruleset kid_rules = (few_kids, common_steps)

pub ruleset whole_rules = (plain_whole, some_size, common_steps)
