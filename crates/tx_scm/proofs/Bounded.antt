-- Trees within given limits.
use Rattle.std.proofs.Common.{◌≡◌, ℕ, ◌≤◌, true, List, arith}
use Rattle.std.proofs.lemmas.Bool.{le-leb, leb-true, and_from, and_parts}
use Rattle.std.proofs.Math.Nat.{le-max_left, le-max_right}
use Rattle.tx_tree.specs.Limits.{IsWithinLimits}
use Rattle.tx_tree.specs.WideTree.{WideTree, Forest, cons, node, count, depth_of, deepest, arity_of, widest}
use Rattle.tx_tree.specs.WideTree.{text_length_of, longest_text, size_of, total_size}
use Rattle.tx_scm.specs.Machine.{Limits, the_limits, may_keep}

-- the tree passes no limit
pub record IsBelow (limits : Limits) (t : WideTree) : Type 0 where
  pub text : text_length_of t ≤ limits.text
  pub arity : arity_of t ≤ limits.arity
  pub depth : depth_of t ≤ limits.depth
  pub size : size_of t ≤ limits.size

pub record AreBelow (limits : Limits) (ts : Forest) : Type 0 where
  pub text : longest_text ts ≤ limits.text
  pub arity : widest ts ≤ limits.arity
  pub depth : deepest ts ≤ limits.depth
  pub size : total_size ts ≤ limits.size

module _ (limits : Limits) where
  pub below_all : (label : List ℕ) (ts : Forest) → IsBelow limits (node label ts) → AreBelow limits ts
  below_all label ts w =
      record {
        text = w.text;
        arity = omega (arith, w.arity, le-max_right (count ts) (widest ts));
        depth = omega (arith, w.depth);
        size = omega (arith, w.size);
      }

  pub below_first : (t : WideTree) (ts : Forest) → AreBelow limits (cons t ts) → IsBelow limits t
  below_first t ts w =
      record {
        text = omega (arith, w.text, le-max_left (text_length_of t) (longest_text ts));
        arity = omega (arith, w.arity, le-max_left (arity_of t) (widest ts));
        depth = omega (arith, w.depth, le-max_left (depth_of t) (deepest ts));
        size = omega (arith, w.size);
      }

  pub below_others : (t : WideTree) (ts : Forest) → AreBelow limits (cons t ts) → AreBelow limits ts
  below_others t ts w =
      record {
        text = omega (arith, w.text, le-max_right (text_length_of t) (longest_text ts));
        arity = omega (arith, w.arity, le-max_right (arity_of t) (widest ts));
        depth = omega (arith, w.depth, le-max_right (depth_of t) (deepest ts));
        size = omega (arith, w.size);
      }

  pub keeps_below : (t : WideTree) → IsBelow limits t → may_keep limits t ≡ true
  unfolding may_keep
  keeps_below t w =
      and_from _ _ (le-leb _ _ w.text)
      (and_from _ _ (le-leb _ _ w.arity) (and_from _ _ (le-leb _ _ w.depth) (le-leb _ _ w.size)))

  pub below_kept : (t : WideTree) → may_keep limits t ≡ true → IsBelow limits t
  unfolding may_keep
  below_kept t e =
      let text = and_parts _ _ e in
      let arity = and_parts _ _ text.1 in
      let depth = and_parts _ _ arity.1 in
      record {
        text = leb-true _ _ text.0;
        arity = leb-true _ _ arity.0;
        depth = leb-true _ _ depth.0;
        size = leb-true _ _ depth.1;
      }

pub within_below : (t : WideTree) → IsBelow the_limits t → IsWithinLimits t
within_below t w = record { text = w.text; arity = w.arity; depth = w.depth; size = w.size }

pub below_within : (t : WideTree) → IsWithinLimits t → IsBelow the_limits t
below_within t w = record { text = w.text; arity = w.arity; depth = w.depth; size = w.size }
