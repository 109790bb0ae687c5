-- Calls are left out one after the other.
use Rattle.std.proofs.Common.{◌≡◌, ℕ, ◌+◌, ◌-◌, ◌<◌, ◌≤◌, Bool, true, false, List, [], ◌∷◌, length, map, take, drop}
use Rattle.std.proofs.Common.{get_or, Some, None, refl, sym, ap, subst, ◌∙◌, arith, length-drop}
use Rattle.std.specs.Prelude.{◌&&◌, if◌then◌else◌}
use Rattle.std.proofs.lemmas.List.{drop_more, drop_all, take_all}
use Rattle.tx_tree.specs.Labels.{IsLabel}
use Rattle.tx_tree.specs.WideTree.{WideTree, Forest, leaf, node, nil, cons, forest, text_of}
use Rattle.tx_tree.specs.WideTree.{total_nodes, deepest}
use Rattle.tx_doc.specs.Modern.{is_call, is_label, called, without_calls, all_without_calls}
use Rattle.tx_doc.specs.Calls.{node_without, IsNamed, IsCalled}

-- ---- the first child

abbrev pub text_of_called : (l : List ℕ) (ts : Forest) → text_of (called l ts) ≡ None
text_of_called l nil = refl
text_of_called l (cons (node m us) ts) = refl
text_of_called l (cons (leaf text) ts) = by (is_call l && is_label text) (text_of_called text ts)
  where
    by : (b : Bool) → text_of (called text ts) ≡ None
        → text_of (if b then called text ts else node l (cons (leaf text) ts)) ≡ None
    by true e = e
    by false e = refl

stops : (l : List ℕ) (t : WideTree) (ts : Forest) → text_of t ≡ None → called l (cons t ts) ≡ node l (cons t ts)
stops l (leaf text) ts e = absurd cc
stops l (node m us) ts e = refl

-- a node names nothing
pub none_named : (l : List ℕ) (t : WideTree) → text_of t ≡ None → IsNamed l t None
none_named l (leaf text) e = absurd cc
none_named l (node m us) e =
    λ others. stops l (called m (all_without_calls us)) _ (text_of_called m (all_without_calls us))

-- a text names a macro where the tests say so
pub names : (l text : List ℕ) (t : WideTree) → text_of t ≡ Some text → is_call l ≡ true → is_label text ≡ true
    → IsNamed l t (Some text)
names l text (leaf s) e p q =
    let same : s ≡ text = cc in
    let yes' : (is_call l && is_label s) ≡ true = rw (same, p, q) refl in (
      ap leaf same,
      λ others. ap (λ b. if b then called s (forest (map without_calls others))
          else node l (cons (leaf s) (forest (map without_calls others)))) yes'
          ∙ ap (λ s. node_without s others) same,
    )
names l text (node m us) e p q = absurd cc

pub names_nothing : (l text : List ℕ) (t : WideTree) → text_of t ≡ Some text → (is_call l && is_label text) ≡ false
    → IsNamed l t None
names_nothing l text (leaf s) e p =
    let same : s ≡ text = cc in
    let no' : (is_call l && is_label s) ≡ false = rw (same, p) refl in
    λ others. ap (λ b. if b then called s (forest (map without_calls others))
    else node l (cons (leaf s) (forest (map without_calls others)))) no'
names_nothing l text (node m us) e p = absurd cc

-- ---- one child after the other

pub record IsOnWay (label : List ℕ) (children : List WideTree) (name : List ℕ) (i : ℕ) : Type 0 where
  pub made : node_without label children ≡ node_without name (drop i children)
  pub named : IsLabel name
  pub nodes : total_nodes (forest (drop i children)) ≤ total_nodes (forest children)
  pub depth : deepest (forest (drop i children)) ≤ deepest (forest children)
  pub first : i ≡ 0 → name ≡ label

pub on_way_start : (label : List ℕ) (children : List WideTree) → IsLabel label → IsOnWay label children label 0
on_way_start label children h =
    record { made = refl; named = h; nodes = omega arith; depth = omega arith; first = λ e. refl }

left : (children : List WideTree) (i : ℕ) (child : WideTree) → i < length children → child ≡ get_or children i child
    → drop i children ≡ child ∷ drop (i + 1) children
left children i child lt is = drop_more children i child lt ∙ ap (λ t. t ∷ drop (i + 1) children) (sym is)

pub on_way_more : (label : List ℕ) (children : List WideTree) (name next : List ℕ) (i : ℕ) (child : WideTree)
    → IsOnWay label children name i → i < length children → child ≡ get_or children i child
    → IsNamed name child (Some next) → IsLabel next
    → IsOnWay label children next (i + 1)
on_way_more label children name next i child h lt is k l =
    let e = left children i child lt is in
    let nodes : total_nodes (forest (child ∷ drop (i + 1) children)) ≤ total_nodes (forest children) =
    subst (λ ts. total_nodes (forest ts) ≤ total_nodes (forest children)) e h.nodes in
    let depth : deepest (forest (child ∷ drop (i + 1) children)) ≤ deepest (forest children) =
    subst (λ ts. deepest (forest ts) ≤ deepest (forest children)) e h.depth in
    record {
      made = h.made ∙ ap (node_without name) e ∙ k.1 (drop (i + 1) children);
      named = l;
      nodes = omega (arith, nodes);
      depth = omega (arith, depth);
      first = λ z. absurd (omega (arith, z));
    }

-- the slice from a place on
rest_is : (xs : List WideTree) (i : ℕ) → take (length xs - i) (drop i xs) ≡ drop i xs
rest_is xs i = take_all (length xs - i) (drop i xs) (omega (arith, length-drop i xs))

ends : (label : List ℕ) (children : List WideTree) (name : List ℕ) (i : ℕ) → IsOnWay label children name i
    → i ≤ length children
    → node_without name (drop i children) ≡ node name (forest (map without_calls (drop i children)))
    → IsCalled label children name (take (length children - i) (drop i children))
ends label children name i h le e =
    rw rest_is
    (record {
      made = h.made ∙ e;
      named = h.named;
      nodes = h.nodes;
      depth = h.depth;
      same = λ l.
          let z : i ≡ 0 = omega (arith, l, length-drop i children) in
          (h.first z, ap (λ k. drop k children) z);
    })

pub ends_at : (label : List ℕ) (children : List WideTree) (name : List ℕ) (i : ℕ) (child : WideTree)
    → IsOnWay label children name i → i < length children → child ≡ get_or children i child → IsNamed name child None
    → IsCalled label children name (take (length children - i) (drop i children))
ends_at label children name i child h lt is k =
    let e = left children i child lt is in
    ends label children name i h (omega arith)
    (subst (λ ts. node_without name ts ≡ node name (forest (map without_calls ts))) (sym e) (k (drop (i + 1) children)))

pub ends_after_all : (label : List ℕ) (children : List WideTree) (name : List ℕ) (i : ℕ)
    → IsOnWay label children name i → length children ≤ i → i ≤ length children
    → IsCalled label children name (take (length children - length children) (drop (length children) children))
ends_after_all label children name i h past le =
    let n = length children in
    let z : i ≡ n = omega arith in
    let none : drop n children ≡ [] = drop_all n children (omega arith) in
    let k : IsOnWay label children name n = subst (λ j. IsOnWay label children name j) z h in
    ends label children name n k (omega arith)
    (subst (λ ts. node_without name ts ≡ node name (forest (map without_calls ts))) (sym none) refl)
