-- One level of evaluation, by what the tree is.
use Rattle.std.proofs.Common.{◌≡◌, ℕ, zero, suc, ◌-◌, ◌<◌, List, refl, sym, ap, ◌∙◌, arith}
use Rattle.std.specs.Prelude.{Option, Some, None}
use Rattle.tx_tree.specs.WideTree.{WideTree, leaf, node, text_of, label_of}
use Rattle.tx_origin.specs.TaggedTrees.{TaggedTree, kids_of}
use Rattle.tx_exec_form.specs.Runs.{Before, State, Over}
use Rattle.tx_exec_form.specs.Frames.{Frame}
use Rattle.tx_exec_form.specs.Rows.{Eval, EvalAll, leaf_run, node_run, level, ex, ex_all}
use Rattle.tx_tree.proofs.Walks.{leaf_or_node}
use Rattle.std.proofs.lemmas.Grind.{common_steps}

pub ex_none : (k : ℕ) (t : TaggedTree) (f : Frame) (e : Before) (s : State) → k ≡ 0 → ex k t f e s ≡ Over
unfolding ex
ex_none zero t f e s h = refl
ex_none (suc k) t f e s h = absurd (omega (arith, h))

level_leaf : (k : ℕ) (below : Eval) (below_all : EvalAll) (t : TaggedTree) (f : Frame) (p : WideTree) (x : List ℕ)
    → text_of p ≡ Some x → level k below below_all t f p ≡ leaf_run k x t.at
level_leaf k below below_all t f (leaf y) x h = let same : y ≡ x = cc in ap (λ z. leaf_run k z t.at) same
level_leaf k below below_all t f (node l ts) x h = absurd cc

level_node : (k : ℕ) (below : Eval) (below_all : EvalAll) (t : TaggedTree) (f : Frame) (p : WideTree) (l : List ℕ)
    → label_of p ≡ Some l
    → level k below below_all t f p ≡ node_run k below below_all t l (kids_of (record { tree = p; at = t.at })) f
level_node k below below_all t f (leaf y) l h = absurd cc
level_node k below below_all t f (node m ts) l h =
    let same : m ≡ l = cc in
    ap (λ z. node_run k below below_all t z (kids_of (record { tree = node m ts; at = t.at })) f) same

pub ex_leaf : (k : ℕ) (t : TaggedTree) (f : Frame) (x : List ℕ) (e : Before) (s : State) → 0 < k
    → text_of t.tree ≡ Some x → ex k t f e s ≡ leaf_run k x t.at e s
unfolding ex
ex_leaf zero t f x e s lt h = absurd (omega (arith, lt))
ex_leaf (suc k) t f x e s lt h = ap (λ m. m e s) (level_leaf (suc k) (ex k) (ex_all k) t f t.tree x h)

pub ex_node : (k : ℕ) (t : TaggedTree) (f : Frame) (l : List ℕ) (e : Before) (s : State) → 0 < k
    → label_of t.tree ≡ Some l → ex k t f e s ≡ node_run k (ex (k - 1)) (ex_all (k - 1)) t l (kids_of t) f e s
unfolding ex
ex_node zero t f l e s lt h = absurd (omega (arith, lt))
ex_node (suc k) t f l e s lt h =
    let same : suc k - 1 ≡ k = omega arith in
    ap (λ m. m e s) (level_node (suc k) (ex k) (ex_all k) t f t.tree l h)
    ∙ ap (λ n. node_run (suc k) (ex n) (ex_all n) t l (kids_of t) f e s) (sym same)

pub ruleset level_rules = (ex_none, ex_leaf, ex_node, leaf_or_node, common_steps)
