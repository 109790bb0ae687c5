-- A box does what the layers of its macro do round its child.
use Rattle.std.proofs.Common.{◌≡◌, ℕ, zero, suc, List, [], ◌∷◌, ap, refl, subst, ◌∙◌, arith}
use Rattle.std.specs.Prelude.{Bool, true, false, Some, None, if◌then◌else◌, codes}
use Rattle.tx_tree.specs.WideTree.{WideTree, Forest, leaf, node, nil, cons, trees}
use Rattle.tx_origin.specs.TaggedTrees.{kids_from}
use Rattle.tx_exec_form.specs.Runs.{Before}
use Rattle.tx_exec_form.specs.Frames.{Frame, top, call}
use Rattle.tx_exec_form.specs.Rows.{ex, row, node_run, leaf_run, only_child}
use Rattle.tx_parts.specs.Shells.{Shell, IsShell, IsOpener, is_other_tag}
use Rattle.tx_parts.specs.MacroBodies.{IsFree, IsCallOf}
use Rattle.tx_parts.proofs.MacroShells.{call_shell}
use Rattle.tx_walk.proofs.Trees.{same_is}
use Rattle.tx_bridge_tests.specs.Boxes.{value_of_m, box_macro, box_layers, box_shell, is_box, opens_boxes}

-- ---- the layers' trees do the same in each frame

text_free : (f : Frame) (x : List ℕ) → IsFree f (leaf x)
unfolding ex
text_free f x zero = refl
text_free f x (suc k) = refl

value_free : (f : Frame) → IsFree f value_of_m
unfolding ex node_run row only_child leaf_run
value_free f zero = refl
value_free f (suc zero) = refl
value_free f (suc (suc k)) = refl

-- ---- a box

box_is_call : (label : List ℕ) (t : WideTree) (e : Before) → is_other_tag label ≡ true → e label ≡ Some box_macro →
    IsCallOf label (cons t nil) e (codes "x" ∷ []) box_layers (codes "x") 0
box_is_call label t e other is = record {
  other = other;
  macro = is;
  child = t;
  stands = refl;
  found = refl;
  full = ((refl, omega arith), ((refl, omega arith), tt));
  free = ((text_free frame (codes "red"), tt), ((value_free frame, tt), tt));
}
  where
    frame : Frame
    frame = call (codes "x" ∷ []) (kids_from (Some []) 0 (cons t nil)) top

box_by : (label : List ℕ) (ts : Forest) (meaning : WideTree) (shell : Shell) (e : Before) (b : Bool) →
    is_box (trees ts) meaning ≡ b → (if b then Some box_shell else None) ≡ Some shell → is_other_tag label ≡ true →
    e label ≡ Some meaning → IsShell shell (node label ts) e
box_by label ts meaning shell e false q p other is = cc
box_by label nil meaning shell e true q p other is = cc
box_by label (cons t nil) meaning shell e true q p other is =
    let same : box_shell ≡ shell = cc in
    let macro : e label ≡ Some box_macro = is ∙ ap Some (same_is meaning box_macro q) in
    subst (λ s. IsShell s (node label (cons t nil)) e) same
    (call_shell label (cons t nil) e (codes "x" ∷ []) box_layers (codes "x") 0 (box_is_call label t e other macro))
box_by label (cons t (cons u us)) meaning shell e true q p other is = cc

pub boxes_open : IsOpener opens_boxes
boxes_open label ts meaning shell e other h is =
    box_by label ts meaning shell e (is_box (trees ts) meaning) refl h other is
