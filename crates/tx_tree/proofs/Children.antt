-- A forest is its list of trees, and what is known of a node and its children.
use Rattle.std.proofs.Common.{◌≡◌, ℕ, ◌+◌, ◌*◌, ◌<◌, ◌≤◌, max, List, [], ◌∷◌, ◌++◌, length, take, get_or, length-append}
use Rattle.std.proofs.Common.{ap, refl, sym, ◌∙◌, arith}
use Rattle.std.proofs.lemmas.List.{take_more, take_all, get_or_default}
use Rattle.std.proofs.lemmas.Option.{slice_get_read, slice_get_past}
use Rattle.std.proofs.Math.Nat.{max-le, le-max_left}
use Rattle.tx_tree.specs.Labels.{IsLabel}
use Rattle.tx_tree.specs.Limits.{AreWellFormed, IsWellFormed, IsWithinLimits}
use Rattle.tx_tree.specs.WideTree.{WideTree, Forest, nil, cons, node, forest, trees, children_of, size_of, total_size}
use Rattle.tx_tree.specs.WideTree.{depth_of, deepest, arity_of, widest, count, text_length_of, longest_text}

pub trees_forest : (ts : List WideTree) → trees (forest ts) ≡ ts
trees_forest [] = refl
trees_forest (t ∷ ts) = ap (λ us. t ∷ us) (trees_forest ts)

pub forest_trees : (ts : Forest) → forest (trees ts) ≡ ts
forest_trees nil = refl
forest_trees (cons t ts) = ap (λ us. cons t us) (forest_trees ts)

-- equal nodes have equal children
pub same_children : (l m : List ℕ) (ss ts : List WideTree) → node l (forest ss) ≡ node m (forest ts) → ss ≡ ts
same_children l m ss ts e = let same : forest ss ≡ forest ts =
    cc in sym (trees_forest ss) ∙ ap trees same ∙ trees_forest ts

-- nodes with unequal children are unequal
pub differ_at : (l m : List ℕ) (ss ts : List WideTree) (i : ℕ) (s t : WideTree) → i < length ss → i < length ts
    → s ≡ get_or ss i s → t ≡ get_or ts i t → (s ≡ t → ⊥)
    → node l (forest ss) ≡ node m (forest ts) → ⊥
differ_at l m ss ts i s t lt lt' is is' ne e =
    let same = same_children l m ss ts e in
    ne (is ∙ ap (λ us. get_or us i s) same ∙ get_or_default ts i s t lt' ∙ sym is')

-- equal labels and children make equal nodes
pub same_at : (l m : List ℕ) (ss ts : List WideTree) (n : ℕ) → l ≡ m → length ss ≤ n → length ts ≤ n
    → take n ss ≡ take n ts → node l (forest ss) ≡ node m (forest ts)
same_at l m ss ts n e le le' t = let same : ss ≡ ts = sym (take_all n ss le) ∙ t ∙ take_all n ts le' in cc

pub ruleset lookups = (trees_forest, slice_get_read, slice_get_past)

pub count-forest : (ts : List WideTree) → count (forest ts) ≡ length ts
count-forest [] = refl
count-forest (t ∷ ts) = omega (arith, count-forest ts)

pub count-trees : (ts : Forest) → length (trees ts) ≡ count ts
count-trees nil = refl
count-trees (cons t ts) = omega (arith, count-trees ts)

pub total_size-append : (ss ts : List WideTree) → total_size (forest (ss ++ ts)) ≡ total_size (forest ss) + total_size
    (forest ts)
total_size-append [] ts = omega arith
total_size-append (s ∷ ss) ts = omega (arith, total_size-append ss ts)

pub deepest-append : (ss ts : List WideTree)
    → deepest (forest (ss ++ ts)) ≡ max (deepest (forest ss)) (deepest (forest ts))
deepest-append [] ts = omega arith
deepest-append (s ∷ ss) ts = omega (arith, deepest-append ss ts)

pub widest-append : (ss ts : List WideTree) → widest (forest (ss ++ ts)) ≡ max (widest (forest ss)) (widest (forest ts))
widest-append [] ts = omega arith
widest-append (s ∷ ss) ts = omega (arith, widest-append ss ts)

pub longest_text-append : (ss ts : List WideTree) → longest_text (forest (ss ++ ts)) ≡ max (longest_text (forest ss))
    (longest_text (forest ts))
longest_text-append [] ts = omega arith
longest_text-append (s ∷ ss) ts = omega (arith, longest_text-append ss ts)

pub AreWellFormed-append : (ss ts : List WideTree) → AreWellFormed (forest ss) → AreWellFormed (forest ts)
    → AreWellFormed (forest (ss ++ ts))
AreWellFormed-append [] ts h k = k
AreWellFormed-append (s ∷ ss) ts h k = (h.0, AreWellFormed-append ss ts h.1 k)

-- a child keeps to the limits of its parent
pub arity_le : (label : List ℕ) (children : Forest)
    → length (children_of (node label children)) ≤ arity_of (node label children)
arity_le label children = omega (arith, count-trees children, le-max_left (count children) (widest children))

-- what is known of the first children, when they have been counted
pub record IsCounted (size depth : ℕ) (ts : List WideTree) : Type 0 where
  pub sized : size ≡ 1 + total_size (forest ts)
  pub deep : depth ≡ deepest (forest ts)
  pub well_formed : AreWellFormed (forest ts)
  pub short : longest_text (forest ts) ≤ 1048575
  pub narrow : widest (forest ts) ≤ 65535
  pub shallow : depth ≤ 400
  pub small : size ≤ 1 + length ts * 8000000

pub counted_push : (size depth : ℕ) (ts : List WideTree) (t : WideTree) → IsCounted size depth ts → IsWellFormed t
    → IsWithinLimits t
    → IsCounted (size + size_of t) (max depth (depth_of t)) (ts ++ t ∷ [])
counted_push size depth ts t h f w =
    record {
      sized = omega (arith, h.sized, total_size-append ts (t ∷ []));
      deep = omega (arith, h.deep, deepest-append ts (t ∷ []));
      well_formed = AreWellFormed-append ts (t ∷ []) h.well_formed (f, tt);
      short = omega (arith, h.short, w.text, longest_text-append ts (t ∷ []));
      narrow = omega (arith, h.narrow, w.arity, widest-append ts (t ∷ []));
      shallow = omega (arith, h.shallow, w.depth);
      small = omega (arith, h.small, w.size, length-append ts (t ∷ []));
    }

pub counted_next : (items : List WideTree) (i : ℕ) (x : WideTree) (size depth size' depth' : ℕ)
    → IsCounted size depth (take i items) → IsWellFormed x → IsWithinLimits x
    → i < length items → x ≡ get_or items i x → size' ≡ size + size_of x → depth' ≡ max depth (depth_of x)
    → IsCounted size' depth' (take (i + 1) items)
counted_next items i x size depth size' depth' h f w lt is es ed =
    rw (take_more items i x lt, ← is, es, ed) (counted_push size depth (take i items) x h f w)

-- what is known of a node when all its children have been counted
pub record IsSound (size depth : ℕ) (t : WideTree) : Type 0 where
  pub sized : size ≡ size_of t
  pub deep : depth ≡ depth_of t
  pub well_formed : IsWellFormed t
  pub text : text_length_of t ≤ 1048575
  pub arity : arity_of t ≤ 65535

pub counted_all : (size depth : ℕ) (label : List ℕ) (items : List WideTree) → IsCounted size depth items → IsLabel label
    → length items ≤ 65535
    → IsSound size (depth + 1) (node label (forest items))
counted_all size depth label items h named wide =
    record {
      sized = omega (arith, h.sized);
      deep = omega (arith, h.deep);
      well_formed = (named, h.well_formed);
      text = h.short;
      arity = max-le (omega (arith, count-forest items)) h.narrow;
    }

pub sound_within : (size depth : ℕ) (t : WideTree) → IsSound size depth t → depth ≤ 400 → size ≤ 8000000
    → IsWithinLimits t
sound_within size depth t h d s =
    record { text = h.text; arity = h.arity; depth = omega (arith, h.deep); size = omega (arith, h.sized) }
