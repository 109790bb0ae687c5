-- The parts of a value, and what is known of a node by them.
use Rattle.std.proofs.Common.{◌≡◌, ℕ, ◌+◌, ◌*◌, ◌<◌, ◌≤◌, max, List, [], ◌∷◌, ◌++◌, length, take, get_or, length-append}
use Rattle.std.proofs.Common.{ap, refl, arith}
use Rattle.std.proofs.lemmas.List.{take_more}
use Rattle.std.proofs.lemmas.Option.{slice_get_read, slice_get_past}
use Rattle.tx_tree.specs.Labels.{IsLabel}
use Rattle.tx_tree.specs.Limits.{AreWellFormed, IsWellFormed, IsWithinLimits}
use Rattle.tx_tree.specs.WideTree.{WideTree, Forest, leaf, nil, cons, node, forest, size_of, total_size, depth_of}
use Rattle.tx_tree.specs.WideTree.{deepest, arity_of, nodes_of, total_nodes, count, widest, longest_text}
use Rattle.std.proofs.Math.Nat.{max-le, le-max_left}
use Rattle.tx_tree.proofs.Children.{count-forest}
use Rattle.tx_origin.specs.Values.{WideValue, WideValues, none, also, vals, each_of, plain, plains}

pub each_vals : (vs : List WideValue) → each_of (vals vs) ≡ vs
each_vals [] = refl
each_vals (v ∷ vs) = ap (λ us. v ∷ us) (each_vals vs)

pub vals_each : (vs : WideValues) → vals (each_of vs) ≡ vs
vals_each none = refl
vals_each (also v vs) = ap (λ us. also v us) (vals_each vs)

pub ruleset lookups = (each_vals, slice_get_read, slice_get_past)

pub total_size-append : (us vs : List WideValue)
    → total_size (plains (vals (us ++ vs))) ≡ total_size (plains (vals us)) + total_size (plains (vals vs))
total_size-append [] vs = omega arith
total_size-append (u ∷ us) vs = omega (arith, total_size-append us vs)

pub total_nodes-append : (us vs : List WideValue)
    → total_nodes (plains (vals (us ++ vs))) ≡ total_nodes (plains (vals us)) + total_nodes (plains (vals vs))
total_nodes-append [] vs = omega arith
total_nodes-append (u ∷ us) vs = omega (arith, total_nodes-append us vs)

pub deepest-append : (us vs : List WideValue)
    → deepest (plains (vals (us ++ vs))) ≡ max (deepest (plains (vals us))) (deepest (plains (vals vs)))
deepest-append [] vs = omega arith
deepest-append (u ∷ us) vs = omega (arith, deepest-append us vs)

pub well-append : (us vs : List WideValue) → AreWellFormed (plains (vals us)) → AreWellFormed (plains (vals vs))
    → AreWellFormed (plains (vals (us ++ vs)))
well-append [] vs h k = k
well-append (u ∷ us) vs h k = (h.0, well-append us vs h.1 k)

pub widest-append : (us vs : List WideValue)
    → widest (plains (vals (us ++ vs))) ≡ max (widest (plains (vals us))) (widest (plains (vals vs)))
widest-append [] vs = omega arith
widest-append (u ∷ us) vs = omega (arith, widest-append us vs)

pub longest-append : (us vs : List WideValue)
    → longest_text (plains (vals (us ++ vs))) ≡ max (longest_text (plains (vals us))) (longest_text (plains (vals vs)))
longest-append [] vs = omega arith
longest-append (u ∷ us) vs = omega (arith, longest-append us vs)

pub count-plains : (vs : List WideValue) → count (plains (vals vs)) ≡ length vs
count-plains [] = refl
count-plains (v ∷ vs) = omega (arith, count-plains vs)

mutual
  pub nodes_le_size : (t : WideTree) → nodes_of t ≤ size_of t
  nodes_le_size (leaf words) = omega arith
  nodes_le_size (node label ts) = omega (arith, total_nodes_le ts)

  total_nodes_le : (ts : Forest) → total_nodes ts ≤ total_size ts
  total_nodes_le nil = omega arith
  total_nodes_le (cons t ts) = omega (arith, nodes_le_size t, total_nodes_le ts)

-- what is known of the first parts, when they have been counted
pub record IsCounted (size depth nodes : ℕ) (vs : List WideValue) : Type 0 where
  pub sized : size ≡ 1 + total_size (plains (vals vs))
  pub deep : depth ≡ deepest (plains (vals vs))
  pub noded : nodes ≡ 1 + total_nodes (plains (vals vs))
  pub well_formed : AreWellFormed (plains (vals vs))
  pub shallow : depth ≤ 400
  pub small : size ≤ 1 + length vs * 8000000
  pub few : nodes ≤ size
  pub short : longest_text (plains (vals vs)) ≤ 1048575
  pub narrow : widest (plains (vals vs)) ≤ 65535

pub counted_push : (size depth nodes : ℕ) (vs : List WideValue) (v : WideValue) → IsCounted size depth nodes vs
    → IsWellFormed (plain v) → IsWithinLimits (plain v)
    → IsCounted (size + size_of (plain v)) (max depth (depth_of (plain v))) (nodes + nodes_of (plain v)) (vs ++ v ∷ [])
counted_push size depth nodes vs v h f w =
    record {
      sized = omega (arith, h.sized, total_size-append vs (v ∷ []));
      deep = omega (arith, h.deep, deepest-append vs (v ∷ []));
      noded = omega (arith, h.noded, total_nodes-append vs (v ∷ []));
      well_formed = well-append vs (v ∷ []) h.well_formed (f, tt);
      shallow = omega (arith, h.shallow, w.depth);
      small = omega (arith, h.small, w.size, length-append vs (v ∷ []));
      few = omega (arith, h.few, nodes_le_size (plain v));
      short = omega (arith, h.short, w.text, longest-append vs (v ∷ []));
      narrow = omega (arith, h.narrow, w.arity, widest-append vs (v ∷ []));
    }

pub counted_next : (items : List WideValue) (i : ℕ) (x : WideValue) (size depth nodes size' depth' nodes' : ℕ)
    → IsCounted size depth nodes (take i items) → IsWellFormed (plain x) → IsWithinLimits (plain x)
    → i < length items → x ≡ get_or items i x → size' ≡ size + size_of (plain x)
    → depth' ≡ max depth (depth_of (plain x)) → nodes' ≡ nodes + nodes_of (plain x)
    → IsCounted size' depth' nodes' (take (i + 1) items)
counted_next items i x size depth nodes size' depth' nodes' h f w lt is es ed en =
    rw (take_more items i x lt, ← is, es, ed, en) (counted_push size depth nodes (take i items) x h f w)

-- a node has no more parts than its arity
pub few_parts : (label : List ℕ) (vs : List WideValue) → length vs ≤ arity_of (node label (plains (vals vs)))
few_parts label vs = omega (arith, count-plains vs, le-max_left (count (plains (vals vs))) (widest (plains (vals vs))))

-- ---- trees made of the parts

plains-append : (us : List WideValue) (ts : List WideTree) (v : WideValue) → forest ts ≡ plains (vals us)
    → forest (ts ++ plain v ∷ []) ≡ plains (vals (us ++ v ∷ []))
plains-append [] [] v e = refl
plains-append [] (t ∷ ts) v e = cc
plains-append (u ∷ us) [] v e = cc
plains-append (u ∷ us) (t ∷ ts) v e =
    let first : t ≡ plain u = cc in
    let others : forest ts ≡ plains (vals us) = cc in
    rw first (ap (λ f. cons (plain u) f) (plains-append us ts v others))

pub plains_next : (items : List WideValue) (i : ℕ) (x : WideValue) (ts us : List WideTree) (t : WideTree)
    → i < length items → x ≡ get_or items i x → forest ts ≡ plains (vals (take i items)) → us ≡ ts ++ t ∷ []
    → t ≡ plain x → forest us ≡ plains (vals (take (i + 1) items))
plains_next items i x ts us t lt is h e p =
    rw (take_more items i x lt, ← is, e, p) (plains-append (take i items) ts x h)

pub nodes_next : (items : List WideValue) (i : ℕ) (x : WideValue) (a b c : ℕ) → i < length items
    → x ≡ get_or items i x → b ≡ a + total_nodes (plains (vals (take i items))) → c ≡ b + nodes_of (plain x)
    → c ≡ a + total_nodes (plains (vals (take (i + 1) items)))
nodes_next items i x a b c lt is h e =
    rw (take_more items i x lt, ← is) (omega (arith, h, e, total_nodes-append (take i items) (x ∷ [])))

-- what a node is that has counted all its parts
pub node_kept : (size depth nodes : ℕ) (label : List ℕ) (vs : List WideValue) → IsCounted size depth nodes vs
    → IsLabel label → length vs ≤ 65535 → deepest (plains (vals vs)) < 400 → total_size (plains (vals vs)) < 8000000
    → IsWellFormed (node label (plains (vals vs))) × IsWithinLimits (node label (plains (vals vs)))
node_kept size depth nodes label vs h named wide deep big =
    let narrow : arity_of (node label (plains (vals vs))) ≤ 65535 =
    max-le (omega (arith, count-plains vs, wide)) h.narrow in
    let within : IsWithinLimits (node label (plains (vals vs))) =
    record { text = h.short; arity = narrow; depth = omega (arith, deep); size = omega (arith, big) } in
    ((named, h.well_formed), within)

pub ruleset fault_rules = (count-forest)
