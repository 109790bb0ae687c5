-- Parts of a tree are smaller than it, less deep, and no wider.
use Rattle.std.proofs.Common.{◌≡◌, ℕ, zero, suc, ◌+◌, ◌<◌, ◌≤◌, Bool, true, false, cond, List, [], length, get_or, refl}
use Rattle.std.proofs.Common.{ap, subst, arith, ◌∙◌}
use Rattle.std.specs.Prelude.{codes, if◌then◌else◌, Option, Some, None, option_and_then, slice_get}
use Rattle.std.specs.List.{find}
use Rattle.std.specs.Option.{option_map_or}
use Rattle.std.proofs.Math.Nat.{le-max_left, le-max_right}
use Rattle.tx_doc.specs.Bodies.{is_labelled}
use Rattle.tx_tree.specs.Limits.{IsWithinLimits}
use Rattle.tx_tree.specs.WideTree.{WideTree, Forest, leaf, node, nil, cons, trees, children_of, size_of, total_size}
use Rattle.tx_tree.specs.WideTree.{depth_of, deepest, arity_of, widest, count, text_length_of, longest_text}
use Rattle.tx_tree.proofs.Children.{count-forest}
use Rattle.tx_units.specs.Documents.{is_document, section, entries}

-- the rules that rule out a node's faults
pub ruleset fault_rules = (count-forest)

-- s is at least n smaller than t, n less deep, and no wider
pub record IsInside (n : ℕ) (s t : WideTree) : Type 0 where
  pub smaller : size_of s + n ≤ size_of t
  pub shallower : depth_of s + n ≤ depth_of t
  pub no_wider : arity_of s ≤ arity_of t

-- what is known of a tree among others
pub record IsOneOf (s : WideTree) (ts : Forest) : Type 0 where
  pub smaller : size_of s ≤ total_size ts
  pub shallower : depth_of s ≤ deepest ts
  pub no_wider : arity_of s ≤ widest ts
  pub no_longer : text_length_of s ≤ longest_text ts

pub later : (s t : WideTree) (ts : Forest) → IsOneOf s ts → IsOneOf s (cons t ts)
later s t ts h = record {
  smaller = omega (arith, h.smaller);
  shallower = omega (arith, h.shallower);
  no_wider = omega (arith, h.no_wider, le-max_right (arity_of t) (widest ts));
  no_longer = omega (arith, h.no_longer, le-max_right (text_length_of t) (longest_text ts));
}

pub first : (s : WideTree) (ts : Forest) → IsOneOf s (cons s ts)
first s ts = record {
  smaller = omega arith;
  shallower = omega arith;
  no_wider = le-max_left (arity_of s) (widest ts);
  no_longer = le-max_left (text_length_of s) (longest_text ts);
}

got : (ts : Forest) (i : ℕ) (s : WideTree) → slice_get (trees ts) i ≡ Some s → IsOneOf s ts
got nil i s e = absurd cc
got (cons t ts) zero s e = let same : t ≡ s = cc in rw same (first s ts)
got (cons t ts) (suc i) s e = later s t ts (got ts i s e)

item_of : (ts : Forest) (i : ℕ) (s : WideTree) → i < length (trees ts) → s ≡ get_or (trees ts) i s → IsOneOf s ts
item_of nil i s lt e = absurd (omega arith)
item_of (cons t ts) zero s lt e = rw (← e) (first s ts)
item_of (cons t ts) (suc i) s lt e = later s t ts (item_of ts i s (omega arith) e)

-- a child of a node within the limits is within them
pub within_of : (label : List ℕ) (ts : Forest) (s : WideTree) → IsOneOf s ts → IsWithinLimits (node label ts)
    → IsWithinLimits s
within_of label ts s h w = record {
  text = omega (arith, h.no_longer, w.text);
  arity = omega (arith, h.no_wider, w.arity, le-max_right (count ts) (widest ts));
  depth = omega (arith, h.shallower, w.depth);
  size = omega (arith, h.smaller, w.size);
}

below : (label : List ℕ) (ts : Forest) (s : WideTree) → IsOneOf s ts → IsInside 1 s (node label ts)
below label ts s h = record {
  smaller = omega (arith, h.smaller);
  shallower = omega (arith, h.shallower);
  no_wider = omega (arith, h.no_wider, le-max_right (count ts) (widest ts));
}

found : (p : WideTree → Bool) (ts : Forest) (s : WideTree) → find p (trees ts) ≡ Some s → IsOneOf s ts
found p nil s e = absurd cc
found p (cons t ts) s e = by (p t) e (λ f. found p ts s f)
  where
    by : (b : Bool) → cond b (Some t) (find p (trees ts)) ≡ Some s → (find p (trees ts) ≡ Some s → IsOneOf s ts)
        → IsOneOf s (cons t ts)
    by true h others = let same : t ≡ s = cc in rw same (first s ts)
    by false h others = later s t ts (others h)

pub child_inside : (p s : WideTree) (i : ℕ) → slice_get (children_of p) i ≡ Some s → IsInside 1 s p
child_inside (leaf text) s i e = absurd cc
child_inside (node label ts) s i e = below label ts s (got ts i s e)

pub item_inside : (p s : WideTree) (i : ℕ) → i < length (children_of p) → s ≡ get_or (children_of p) i s
    → IsInside 1 s p
item_inside (leaf text) s i lt e = absurd (omega arith)
item_inside (node label ts) s i lt e = below label ts s (item_of ts i s lt e)

found_inside : (p : WideTree → Bool) (t s : WideTree) → find p (children_of t) ≡ Some s → IsInside 1 s t
found_inside p (leaf text) s e = absurd cc
found_inside p (node label ts) s e = below label ts s (found p ts s e)

deeper : (m n : ℕ) (r s t : WideTree) → IsInside m r s → IsInside n s t → IsInside (m + n) r t
deeper m n r s t h k = record {
  smaller = omega (arith, h.smaller, k.smaller);
  shallower = omega (arith, h.shallower, k.shallower);
  no_wider = omega (arith, h.no_wider, k.no_wider);
}

-- a section is a child of a child
pub section_inside : (label : List ℕ) (t s : WideTree) → section label t ≡ Some s → IsInside 2 s t
section_inside label t s e = by (is_document t) refl e
  where
    in_part : (o : Option WideTree) → find (is_labelled label) (children_of t) ≡ o
        → option_and_then (λ part. slice_get (children_of part) 0) o ≡ Some s → IsInside 2 s t
    in_part None f h = absurd cc
    in_part (Some part) f h = deeper 1 1 s part t (child_inside part s 0 h) (found_inside (is_labelled label) t part f)

    by : (b : Bool) → is_document t ≡ b
        → (if b then option_and_then (λ part. slice_get (children_of part) 0) (find (is_labelled label) (children_of t))
        else None) ≡ Some s
        → IsInside 2 s t
    by true d h = in_part (find (is_labelled label) (children_of t)) refl h
    by false d h = absurd cc

-- an entry of the initial environment is a child of a section
pub entry_inside : (t s : WideTree) (i : ℕ) → i < length (entries t) → s ≡ get_or (entries t) i s → IsInside 3 s t
entry_inside t s i lt is = in_section (section (codes "initial") t) refl lt is
  where
    of_section : WideTree → List WideTree
    of_section c = if is_labelled (codes "collection") c then children_of c else []

    in_collection : (c : WideTree) (b : Bool) → section (codes "initial") t ≡ Some c
        → i < length (if b then children_of c else [])
        → s ≡ get_or (if b then children_of c else []) i s → IsInside 3 s t
    in_collection c true f l e = deeper 1 2 s c t (item_inside c s i l e) (section_inside (codes "initial") t c f)
    in_collection c false f l e = absurd (omega arith)

    in_section : (o : Option WideTree) → section (codes "initial") t ≡ o
        → i < length (option_map_or (λ c. if is_labelled (codes "collection") c then children_of c else []) o [])
        → s ≡ get_or (option_map_or (λ c. if is_labelled (codes "collection") c then children_of c else []) o []) i s
        → IsInside 3 s t
    in_section None f l e = absurd (omega arith)
    in_section (Some c) f l e = in_collection c (is_labelled (codes "collection") c) f l e

pub entry_small : (t s : WideTree) (ts : List WideTree) (i : ℕ) → IsWithinLimits t → ts ≡ entries t → i < length ts
    → s ≡ get_or ts i s
    → (size_of s < 8000000) × (depth_of s < 400)
entry_small t s ts i w same lt is =
    let h = entry_inside t s i (subst (λ us. i < length us) same lt) (is ∙ ap (λ us. get_or us i s) same) in
    (omega (arith, h.smaller, w.size), omega (arith, h.shallower, w.depth))
