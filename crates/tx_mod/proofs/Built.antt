-- Trees that are made within the limits.
use Rattle.std.proofs.Common.{◌≡◌, ◌≢◌, ℕ, zero, suc, ◌+◌, ◌-◌, ◌<◌, ◌≤◌, List, [], ◌∷◌, ◌++◌, length, take, drop, set}
use Rattle.std.proofs.Common.{Some, refl, sym, ap, subst, ◌∙◌, append_assoc, arith}
use Rattle.std.specs.Prelude.{slice_get, IsSome}
use Rattle.std.proofs.lemmas.List.{append-nil, take_all, take_rest}
use Rattle.std.proofs.lemmas.Grind.{common_steps}
use Rattle.std.proofs.lemmas.Option.{slice_get_within}
use Rattle.tx_tree.specs.Limits.{IsWithinLimits, IsTreeFault}
use Rattle.tx_tree.specs.Paths.{subtree}
use Rattle.tx_tree.specs.Texts.{IsText, IsTextFault}
use Rattle.tx_tree.specs.declared.texts.TextFault.{TextFault}
use Rattle.tx_tree.specs.declared.texts.TextFault.TheVariants.{TooLong, BadByte, BadSymbol, Memory as TextMemory}
use Rattle.tx_tree.specs.declared.faults.TreeFault.{TreeFault}
use Rattle.tx_tree.specs.declared.faults.TreeFault.TheVariants.{TooWide, TooDeep, TooBig, Memory as TreeMemory}
use Rattle.tx_tree.specs.WideTree.{WideTree, node, forest, children_of, depth_of, arity_of, text_length_of}
use Rattle.tx_tree.proofs.Children.{trees_forest, count-forest}
use Rattle.tx_tree.proofs.TextFaults.{text_has_no_fault}
use Rattle.tx_tree.proofs.TreeFaults.{tree_has_no_fault}
use Rattle.tx_tree.proofs.Walking.{step_down}
use Rattle.tx_mod.specs.Mods.{with_child_at, replaced}
use Rattle.tx_mod.proofs.Lists.{drop_past}
use Rattle.tx_mod.proofs.Replacing.{replaced_down, text_in_replaced, arity_in_replaced, size_of_subtree, depth_with}
use Rattle.tx_mod.proofs.Replacing.{with_same_child, child_of_with}

-- what makes no text of a text is `Memory`
pub sound_text : (bytes : List ℕ) (fault : TextFault) → IsText bytes → length bytes ≤ 1048575
    → (fault ≢ TextMemory → IsTextFault bytes fault) → fault ≡ TextMemory
sound_text bytes (TooLong n) h short f = absurd (text_has_no_fault bytes (TooLong n) h short (f (λ e. cc)))
sound_text bytes (BadByte n) h short f = absurd (text_has_no_fault bytes (BadByte n) h short (f (λ e. cc)))
sound_text bytes (BadSymbol n) h short f = absurd (text_has_no_fault bytes (BadSymbol n) h short (f (λ e. cc)))
sound_text bytes TextMemory h short f = refl

-- what makes no node, where the node is within the limits, is `Memory`
pub sound_node : (label : List ℕ) (ts : List WideTree) (fault : TreeFault) → IsWithinLimits (node label (forest ts))
    → (fault ≢ TreeMemory → IsTreeFault label ts fault) → fault ≡ TreeMemory
sound_node label ts (TooWide n) w f = absurd (tree_has_no_fault label ts (TooWide n) w (f (λ e. cc)))
sound_node label ts (TooDeep n) w f = absurd (tree_has_no_fault label ts (TooDeep n) w (f (λ e. cc)))
sound_node label ts (TooBig n) w f = absurd (tree_has_no_fault label ts (TooBig n) w (f (λ e. cc)))
sound_node label ts TreeMemory w f = refl

pub ruleset sound = (sound_text, sound_node)

-- three lists in order
pub spliced_items : (ts us all first both : List WideTree) (from to : ℕ) → first ≡ take from ts → both ≡ first ++ us
    → all ≡ both ++ take (length ts - to) (drop to ts)
    → all ≡ take from ts ++ us ++ drop to ts
spliced_items ts us all first both from to e f g = rw (g, f, e, take_rest ts to) refl

-- ---- a tree with another child

pub children_seen : (t : WideTree) (l : List ℕ) (ts : List WideTree) → t ≡ node l (forest ts) → children_of t ≡ ts
children_seen t l ts e = ap children_of e ∙ trees_forest ts

set_is : (xs : List WideTree) (i : ℕ) (v : WideTree) → i < length xs → set xs i v ≡ take i xs ++ v ∷ drop (i + 1) xs
set_is [] i v lt = absurd (omega arith)
set_is (x ∷ xs) zero v lt = refl
set_is (x ∷ xs) (suc i) v lt = let rest : set xs i v ≡ take i xs ++ v ∷ drop (i + 1) xs = set_is xs i v (omega arith) in
    ap (λ z. x ∷ z) (rest ∙ ap (λ z. take i xs ++ v ∷ z) (sym (drop_past xs x i)))

pub with_child_seen : (t v : WideTree) (i : ℕ) (l : List ℕ) (ts : List WideTree) → t ≡ node l (forest ts)
    → i < length ts → with_child_at t i v ≡ node l (forest ((take i ts ++ v ∷ []) ++ drop (i + 1) ts))
with_child_seen t v i l ts e lt =
    rw (e, trees_forest ts)
    (ap (λ us. node l (forest us)) (set_is ts i v lt ∙ sym (append_assoc (take i ts) (v ∷ []) (drop (i + 1) ts))))

-- the limits of a node made of the parts
pub with_child_within : (t v : WideTree) (i : ℕ) (l : List ℕ) (ts us : List WideTree) → t ≡ node l (forest ts)
    → i < length ts → us ≡ (take i ts ++ v ∷ []) ++ drop (i + 1) ts
    → IsWithinLimits (with_child_at t i v) → IsWithinLimits (node l (forest us))
with_child_within t v i l ts us e lt is w = rw is (subst IsWithinLimits (with_child_seen t v i l ts e lt) w)

-- ---- the first step of a path

pub leads_down : (t c : WideTree) (path rest : List ℕ) (i : ℕ) → slice_get (children_of t) i ≡ Some c → path ≡ i ∷ rest
    → IsSome (subtree t path) → IsSome (subtree c rest)
leads_down t c path rest i f e h = subst (λ o. IsSome o) (ap (subtree t) e ∙ step_down t c i rest f) h

pub replaced_first : (t c u : WideTree) (path rest : List ℕ) (i : ℕ) → slice_get (children_of t) i ≡ Some c
    → path ≡ i ∷ rest → replaced t path u ≡ with_child_at t i (replaced c rest u)
replaced_first t c u path rest i f e = ap (λ p. replaced t p u) e ∙ replaced_down t c i rest u f

-- a child is within the limits
pub child_within : (t c : WideTree) (i : ℕ) → slice_get (children_of t) i ≡ Some c → IsWithinLimits t → IsWithinLimits c
child_within t c i f w =
    let e : replaced t (i ∷ []) c ≡ with_child_at t i c = replaced_down t c i [] c f in
    let same : with_child_at t i c ≡ t = with_same_child t c i f in
    let path : subtree t (i ∷ []) ≡ Some c = step_down t c i [] f in
    record {
      text = omega (arith, w.text, text_in_replaced (i ∷ []) t c c path, ap text_length_of e, ap text_length_of same);
      arity = omega (arith, w.arity, arity_in_replaced (i ∷ []) t c c path, ap arity_of e, ap arity_of same);
      depth = omega (arith, w.depth, depth_with t c c i f, ap depth_of same);
      size = omega (arith, w.size, size_of_subtree (i ∷ []) t c path);
    }

pub within_down : (t c u : WideTree) (path rest : List ℕ) (i : ℕ) → slice_get (children_of t) i ≡ Some c
    → path ≡ i ∷ rest → IsWithinLimits (replaced t path u) → IsWithinLimits (replaced c rest u)
within_down t c u path rest i f e w =
    child_within (with_child_at t i (replaced c rest u)) (replaced c rest u) i
    (child_of_with t c (replaced c rest u) i f)
    (subst IsWithinLimits (replaced_first t c u path rest i f e) w)

pub ruleset child_rules = (with_child_seen, with_child_within, children_seen, common_steps)

pub ruleset path_rules = (leads_down, within_down, replaced_first, slice_get_within, common_steps)
