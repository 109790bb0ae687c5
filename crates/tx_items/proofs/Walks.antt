-- Walks down a value.
use Rattle.std.proofs.Common.{◌≡◌, ◌≢◌, ℕ, zero, suc, ◌-◌, ◌%◌, ◌<◌, ◌≤◌, length, get_or, refl, arith}
use Rattle.std.specs.Prelude.{None}
use Rattle.tx_tree.specs.WideTree.{depth_of, deepest}
use Rattle.tx_origin.specs.Values.{WideValue, WideValues, text, made, none, also, each_of, value_parts, value_text}
use Rattle.tx_origin.specs.Values.{value_label, plain, plains}

-- a value is a text or a node
pub text_or_node : (v : WideValue) → value_text v ≡ None → value_label v ≡ None → ⊥
text_or_node (text words at) e f = cc
text_or_node (made label vs at) e f = cc

get_or_le_deepest : (vs : WideValues) (i : ℕ) (d : WideValue) → i < length (each_of vs)
    → depth_of (plain (get_or (each_of vs) i d)) ≤ deepest (plains vs)
get_or_le_deepest none i d h = absurd (omega arith)
get_or_le_deepest (also u vs) zero d h = omega arith
get_or_le_deepest (also u vs) (suc i) d h = omega (arith, get_or_le_deepest vs i d (omega arith))

-- a part is less deep
pub part_shallower : (p x : WideValue) (i : ℕ) → i < length (value_parts p) → x ≡ get_or (value_parts p) i x
    → depth_of (plain x) < depth_of (plain p)
part_shallower (text words at) x i h e = absurd (omega arith)
part_shallower (made label vs at) x i h e = rw e (omega (arith, get_or_le_deepest vs i x h))

pub last_there : (n : ℕ) → n % 2 ≢ 0 → n - 1 < n
last_there zero h = absurd (h refl)
last_there (suc n) h = omega arith

pub last_shallower : (p x : WideValue) → length (value_parts p) % 2 ≢ 0
    → x ≡ get_or (value_parts p) (length (value_parts p) - 1) x → depth_of (plain x) < depth_of (plain p)
last_shallower p x odd e =
    part_shallower p x (length (value_parts p) - 1) (last_there (length (value_parts p)) odd) e

pub ruleset walks = (text_or_node, part_shallower, last_shallower, last_there)
