-- Which nodes and texts the reader keeps.
use Rattle.std.proofs.Common.{◌≡◌, ℕ, ◌<◌, true, false, List, length, arith}
use Rattle.tx_tree.specs.Limits.{IsWithinLimits}
use Rattle.tx_tree.specs.Texts.{IsText}
use Rattle.tx_tree.specs.TextScan.{is_text}
use Rattle.tx_tree.specs.WideTree.{WideTree, node, forest, count, widest, depth_of, size_of}
use Rattle.tx_tree.proofs.Children.{count-forest}
use Rattle.tx_tree.proofs.Scanning.{text_test, text_tested}
use Rattle.std.proofs.Math.Nat.{le-max_left}
use Rattle.tx_scm.specs.Machine.{the_limits, may_keep}
use Rattle.tx_scm.proofs.Bounded.{IsBelow, keeps_below, below_kept, below_within}

pub kept : (t : WideTree) → IsWithinLimits t → may_keep the_limits t ≡ true
kept t h = keeps_below the_limits t (below_within t h)

not_kept : (t : WideTree) → (IsBelow the_limits t → ⊥) → may_keep the_limits t ≡ false
not_kept t h =
    elim (may_keep the_limits t) as (λ c. may_keep the_limits t ≡ c → c ≡ false) [
      | true ↦ λ e. absurd (h (below_kept the_limits t e))
      | false ↦ λ e. cc
    ] (cc)

pub too_wide : (label : List ℕ) (ts : List WideTree) → 65535 < length ts
    → may_keep the_limits (node label (forest ts)) ≡ false
too_wide label ts h =
    not_kept (node label (forest ts))
    (λ w. absurd (omega (arith, w.arity, count-forest ts, le-max_left (count (forest ts)) (widest (forest ts)))))

pub too_deep : (t : WideTree) → 400 < depth_of t → may_keep the_limits t ≡ false
too_deep t h = not_kept t (λ w. absurd (omega (arith, w.depth)))

pub too_big : (t : WideTree) → 8000000 < size_of t → may_keep the_limits t ≡ false
too_big t h = not_kept t (λ w. absurd (omega (arith, w.size)))

pub text_is : (text : List ℕ) → IsText text → is_text text ≡ true
text_is text h = text_tested text h

pub text_is_none : (text : List ℕ) → (IsText text → ⊥) → is_text text ≡ false
text_is_none text h =
    elim (is_text text) as (λ c. is_text text ≡ c → c ≡ false) [
      | true ↦ λ e. absurd (h (text_test text e))
      | false ↦ λ e. cc
    ] (cc)

pub ruleset node_rules = (kept, too_wide, too_deep, too_big)
