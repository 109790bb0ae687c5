-- What gives a changed subtree back.
use Rattle.std.proofs.Common.{◌≡◌, ℕ, ◌+◌, ◌-◌, ◌≤◌, true, List, ◌++◌, take, drop, None, refl, sym, ap, subst, ◌∙◌}
use Rattle.std.proofs.Common.{length-take, length-drop, arith}
use Rattle.std.specs.Prelude.{IsOkAnd}
use Rattle.std.proofs.lemmas.List.{take-append-drop, drop-take, take-take, drop-drop}
use Rattle.std.proofs.lemmas.Grind.{common_steps}
use Rattle.tx_tree.specs.Cuts.{is_cut}
use Rattle.tx_tree.specs.Labels.{is_label_byte, IsLabel}
use Rattle.tx_tree.specs.Texts.{IsText}
use Rattle.tx_tree.specs.Limits.{IsWithinLimits}
use Rattle.tx_tree.specs.WideTree.{WideTree, leaf, node, forest, label_of, total_size}
use Rattle.tx_tree.proofs.Children.{trees_forest, count-forest, count-trees}
use Rattle.tx_tree.proofs.Cutting.{text_rest}
use Rattle.tx_mod.specs.Mods.{tuple, taken_out, slice_of, extent}
use Rattle.tx_mod.specs.Changes.{labelled}
use Rattle.tx_mod.specs.Inverses.{removed_part, without_child}
use Rattle.tx_mod.proofs.Measuring.{of_parts, of_both, narrow, size_of_node, depth_of_node}
use Rattle.tx_mod.proofs.Remade.{text_before}

pub extent_small : (t : WideTree) → IsWithinLimits t → extent t ≤ 1048575
extent_small (leaf text) w = w.text
extent_small (node l ts) w = omega (arith, w.arity, count-trees ts)

pub labelled_node : (s : WideTree) (l : List ℕ) → IsOkAnd (labelled s l) IsWithinLimits → label_of s ≡ None → ⊥
labelled_node (leaf text) l h e = h
labelled_node (node m ts) l h e = absurd (cc)

-- the bytes between two cuts
pub text_between : (text bytes : List ℕ) (i n : ℕ) → IsText text → is_cut text i ≡ true → is_cut text (i + n) ≡ true
    → bytes ≡ take n (drop i text) → IsText bytes
text_between text bytes i n h e f is =
    let whole : take (i + n) text ≡ take i text ++ take n (drop i text) = sym (take-append-drop i (take (i + n) text))
    ∙ front ∙ ap (λ x. take i text ++ x) (drop-take i n text) in
    rw is (text_rest (take i text) (take n (drop i text)) (subst IsText whole (text_before text (i + n) h f))
    (text_before text i h e))
  where
    front : take i (take (i + n) text) ++ drop i (take (i + n) text) ≡ take i text ++ drop i (take (i + n) text)
    front = ap (λ x. x ++ drop i (take (i + n) text)) (take-take i (i + n) text (omega arith))

-- a part of the children of a node, under another label
pub part_within : (s : WideTree) (l m : List ℕ) (ts us : List WideTree) (i n : ℕ) → s ≡ node l (forest ts)
    → us ≡ slice_of ts i n → IsWithinLimits s → IsWithinLimits (node m (forest us))
part_within s l m ts us i n e is w =
    let all = narrow s l ts e w in
    let a = of_parts ts i in
    let b = of_parts (drop i ts) n in
    rw is
    (record {
      text = omega (arith, a.long, b.long, all.long);
      arity = omega (arith, a.wide, b.wide, all.wide, a.many, b.many, all.many, count-forest (slice_of ts i n));
      depth = omega (arith, a.depth, b.depth, depth_of_node s l ts e, w.depth);
      size = omega (arith, a.size, b.size, size_of_node s l ts e, w.size);
    })

pub taken_within : (s : WideTree) (l : List ℕ) (ts us : List WideTree) (i n : ℕ) → s ≡ node l (forest ts)
    → us ≡ taken_out ts i n → IsWithinLimits s → IsWithinLimits (node l (forest us))
taken_within s l ts us i n e is w =
    let all = narrow s l ts e w in
    let a = of_parts ts i in
    let b = of_parts ts (i + n) in
    let p = of_both (take i ts) (drop (i + n) ts) in
    rw is
    (record {
      text = omega (arith, a.long, b.long, p.long, all.long);
      arity = omega (
        arith,
        a.wide,
        b.wide,
        p.wide,
        all.wide,
        a.many,
        b.many,
        p.many,
        all.many,
        count-forest (taken_out ts i n),
        length-take i ts,
        length-drop (i + n) ts,
      );
      depth = omega (arith, a.depth, b.depth, p.depth, depth_of_node s l ts e, w.depth);
      size = omega (arith, a.size, b.size, p.size, size_of_taken, size_of_node s l ts e, w.size);
    })
  where
    size_of_taken : total_size (forest (drop (i + n) ts)) ≤ total_size (forest (drop i ts))
    size_of_taken = let q = of_parts (drop i ts) n in let same : drop n (drop i ts) ≡ drop (i + n) ts =
        drop-drop n i ts in omega (arith, q.size, ap (λ x. total_size (forest x)) same)

pub part_is : (s : WideTree) (l : List ℕ) (ts us : List WideTree) (i n : ℕ) → s ≡ node l (forest ts)
    → us ≡ slice_of ts i n → removed_part s i n ≡ node tuple (forest us)
part_is s l ts us i n e is = rw (e, trees_forest ts, is) refl

pub part_of_leaf : (s : WideTree) (text bytes : List ℕ) (i n : ℕ) → s ≡ leaf text → bytes ≡ slice_of text i n
    → removed_part s i n ≡ leaf bytes
part_of_leaf s text bytes i n e is = rw (e, is) refl

pub without_is : (s : WideTree) (l : List ℕ) (ts us : List WideTree) (i : ℕ) → s ≡ node l (forest ts)
    → us ≡ taken_out ts i 1 → without_child s i ≡ node l (forest us)
without_is s l ts us i e is = rw (e, trees_forest ts, is) refl

pub tuple_is_label : IsLabel tuple
unfolding is_label_byte
tuple_is_label = record { each = (refl, (refl, (refl, (refl, (refl, tt))))); some = omega arith; short = omega arith }

pub sub_add : (i n : ℕ) → (i + n) - i ≡ n
sub_add i n = omega arith

pub ruleset extent_rules = (extent_small, labelled_node, common_steps)
