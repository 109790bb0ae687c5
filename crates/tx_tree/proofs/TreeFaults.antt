-- A label and trees within the limits make a node within the limits or have one fault.
use Rattle.std.proofs.Common.{◌≡◌, ℕ, ◌<◌, ◌≤◌, List, [], ◌∷◌, length, refl, sym, ap, ◌∙◌, arith, ◌⊎◌, inl, inr, ⊎_elim}
use Rattle.std.specs.List.{AllByRecursion}
use Rattle.std.proofs.lemmas.Bool.{cases_lt}
use Rattle.tx_tree.specs.declared.faults.TreeFault.{TreeFault}
use Rattle.tx_tree.specs.declared.faults.TreeFault.TheVariants.{TooWide, TooDeep, TooBig, Memory}
use Rattle.tx_tree.specs.WideTree.{WideTree, node, forest, size_of, depth_of, widest, longest_text}
use Rattle.tx_tree.specs.Limits.{IsWithinLimits, IsTreeFault}
use Rattle.tx_tree.proofs.Children.{count-forest}

pub tree_fault_once : (label : List ℕ) (ts : List WideTree) (f g : TreeFault) → IsTreeFault label ts f
    → IsTreeFault label ts g → f ≡ g
tree_fault_once label ts (TooWide m) (TooWide n) h k = ap (λ i. TooWide i) (h.1 ∙ sym k.1)
tree_fault_once label ts (TooWide m) (TooDeep n) h k = absurd (omega (arith, h.0, k.0))
tree_fault_once label ts (TooWide m) (TooBig n) h k = absurd (omega (arith, h.0, k.0))
tree_fault_once label ts (TooWide m) Memory h k = absurd k
tree_fault_once label ts (TooDeep m) (TooWide n) h k = absurd (omega (arith, h.0, k.0))
tree_fault_once label ts (TooDeep m) (TooDeep n) h k = ap (λ i. TooDeep i) (h.2 ∙ sym k.2)
tree_fault_once label ts (TooDeep m) (TooBig n) h k = absurd (omega (arith, h.1, k.1))
tree_fault_once label ts (TooDeep m) Memory h k = absurd k
tree_fault_once label ts (TooBig m) (TooWide n) h k = absurd (omega (arith, h.0, k.0))
tree_fault_once label ts (TooBig m) (TooDeep n) h k = absurd (omega (arith, h.1, k.1))
tree_fault_once label ts (TooBig m) (TooBig n) h k = ap (λ i. TooBig i) (h.3 ∙ sym k.3)
tree_fault_once label ts (TooBig m) Memory h k = absurd k
tree_fault_once label ts Memory g h k = absurd h

pub tree_has_no_fault : (label : List ℕ) (ts : List WideTree) (fault : TreeFault)
    → IsWithinLimits (node label (forest ts)) → IsTreeFault label ts fault → ⊥
tree_has_no_fault label ts (TooWide n) w f = omega (arith, w.arity, f.0, count-forest ts)
tree_has_no_fault label ts (TooDeep n) w f = omega (arith, w.depth, f.1)
tree_has_no_fault label ts (TooBig n) w f = omega (arith, w.size, f.2)
tree_has_no_fault label ts Memory w f = f

-- parts within the limits have short texts and few children
parts_within : (ts : List WideTree) → AllByRecursion IsWithinLimits ts → (longest_text (forest ts) ≤ 1048575)
    × (widest (forest ts) ≤ 65535)
parts_within [] h = (omega arith, omega arith)
parts_within (t ∷ ts) h = let others = parts_within ts h.1 in
    (omega (arith, h.0.text, others.0), omega (arith, h.0.arity, others.1))

pub tree_or_fault : (label : List ℕ) (ts : List WideTree) → AllByRecursion IsWithinLimits ts
    → IsWithinLimits (node label (forest ts)) ⊎ ((fault : TreeFault) × IsTreeFault label ts fault)
tree_or_fault label ts h =
    let parts = parts_within ts h in
    let root = node label (forest ts) in
    ⊎_elim
    (λ (wide : 65535 < length ts). inr (TooWide (length ts), (wide, refl)))
    (λ (narrow : length ts ≤ 65535). ⊎_elim
    (λ (deep : 400 < depth_of root). inr (TooDeep (depth_of root), (narrow, deep, refl)))
    (λ (shallow : depth_of root ≤ 400). ⊎_elim
    (λ (big : 8000000 < size_of root). inr (TooBig (size_of root), (narrow, shallow, big, refl)))
    (λ (small : size_of root ≤ 8000000). inl
    (record { text = parts.0; arity = omega (arith, parts.1, count-forest ts); depth = shallow; size = small }))
    (cases_lt 8000000 (size_of root)))
    (cases_lt 400 (depth_of root)))
    (cases_lt 65535 (length ts))
