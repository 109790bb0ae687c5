-- Rows by how many children there are.
use Rattle.std.proofs.Common.{◌≡◌, ℕ, ◌-◌, ◌<◌, List, [], ◌∷◌, length, drop, refl, sym, ap, ◌∙◌, arith}
use Rattle.std.specs.Prelude.{Option, Some, None, slice_get, codes}
use Rattle.tx_tree.specs.WideTree.{WideTree, depth_of, size_of, text_of, leaf, node}
use Rattle.tx_origin.specs.Values.{whole}
use Rattle.tx_origin.specs.TaggedTrees.{TaggedTree}
use Rattle.tx_exec_form.specs.Runs.{◌>>=◌, ◌>>◌, need, pay, give}
use Rattle.tx_exec_form.specs.Frames.{Frame}
use Rattle.tx_exec_form.specs.Rows.{Eval, EvalAll, wrong, assign, taken, quote, macro, unary_row, only_child, arg}
use Rattle.tx_exec_form.specs.Rows.{arg_named}
use Rattle.tx_exec_form.specs.Rows.{arg_of}
use Rattle.tx_exec_form.specs.declared.rows.Unary.{Unary}
use Rattle.tx_exec_form.specs.declared.rows.Taking.{Taking}
use Rattle.tx_origin.proofs.Wholes.{plain_whole}
use Rattle.std.proofs.lemmas.Grind.{common_steps}

pub not_two : (k : ℕ) (below : Eval) (f : Frame) (label : List ℕ) (at : Option (List ℕ)) (ts : List TaggedTree)
    → (length ts ≡ 2 → ⊥) → assign k below f label at ts ≡ wrong k (codes "bad") label
not_two k below f label at [] n = refl
not_two k below f label at (y ∷ []) n = refl
not_two k below f label at (y ∷ z ∷ []) n = absurd (n refl)
not_two k below f label at (y ∷ z ∷ w ∷ ts) n = refl

pub ruleset assign_rules = (not_two)

pub quote_one : (k : ℕ) (label : List ℕ) (ts : List TaggedTree) (x : TaggedTree) → length ts ≡ 1
    → slice_get ts 0 ≡ Some x → quote k label ts ≡ taken k (whole x.at x.tree)
quote_one k label [] x n a = absurd (omega (arith, n))
quote_one k label (y ∷ []) x n a = let first : y ≡ x = cc in ap (λ z. taken k (whole z.at z.tree)) first
quote_one k label (y ∷ z ∷ ts) x n a = absurd (omega (arith, n))

pub quote_not : (k : ℕ) (label : List ℕ) (ts : List TaggedTree) → (length ts ≡ 1 → ⊥)
    → quote k label ts ≡ wrong k (codes "bad") label
quote_not k label [] n = refl
quote_not k label (y ∷ []) n = absurd (n refl)
quote_not k label (y ∷ z ∷ ts) n = refl

pub ruleset quote_rules = (quote_one, quote_not)

pub macro_none : (k : ℕ) (label : List ℕ) (t : TaggedTree) (ts : List TaggedTree) → length ts ≡ 0
    → macro k label t ts ≡ wrong k (codes "bad") label
macro_none k label t [] n = refl
macro_none k label t (x ∷ ts) n = absurd (omega (arith, n))

pub macro_some : (k : ℕ) (label : List ℕ) (t : TaggedTree) (ts : List TaggedTree) → 0 < length ts
    → macro k label t ts ≡ (need (depth_of t.tree) k >> (pay (size_of t.tree - 1) >> give (whole t.at t.tree)))
macro_some k label t [] n = absurd (omega (arith, n))
macro_some k label t (x ∷ ts) n = refl

pub ruleset macro_rules = (macro_none, macro_some, plain_whole, common_steps)

pub only_one : (unary : Unary) (k : ℕ) (below : Eval) (f : Frame) (label : List ℕ) (ts : List TaggedTree)
    (x : TaggedTree) → length ts ≡ 1 → slice_get ts 0 ≡ Some x
    → unary_row unary k below f label ts ≡ only_child unary k below f label x
only_one unary k below f label [] x n a = absurd (omega (arith, n))
only_one unary k below f label (y ∷ []) x n a = let first : y ≡ x = cc in ap (only_child unary k below f label) first
only_one unary k below f label (y ∷ z ∷ ts) x n a = absurd (omega (arith, n))

pub only_not : (unary : Unary) (k : ℕ) (below : Eval) (f : Frame) (label : List ℕ) (ts : List TaggedTree)
    → (length ts ≡ 1 → ⊥) → unary_row unary k below f label ts ≡ wrong k (codes "bad") label
only_not unary k below f label [] n = refl
only_not unary k below f label (y ∷ []) n = absurd (n refl)
only_not unary k below f label (y ∷ z ∷ ts) n = refl

pub ruleset only_rules = (only_one, only_not)

module _ (taking : Taking) (k : ℕ) (below : Eval) (below_all : EvalAll) (f : Frame) (label : List ℕ) where
  by_leaf : (t : WideTree) (ts : List TaggedTree) (n : List ℕ) → text_of t ≡ Some n
      → arg_named taking k below below_all f label ts t ≡ arg_of taking k below below_all f label n ts
  by_leaf (leaf m) ts n h = let e : m ≡ n = cc in ap (λ z. arg_of taking k below below_all f label z ts) e
  by_leaf (node m us) ts n h = absurd cc

  by_node : (t : WideTree) (ts : List TaggedTree) → text_of t ≡ None
      → arg_named taking k below below_all f label ts t ≡ wrong k (codes "bad") label
  by_node (leaf m) ts h = absurd cc
  by_node (node m us) ts h = refl

  pub arg_named_by : (ts : List TaggedTree) (x : TaggedTree) (n : List ℕ) → slice_get ts 0 ≡ Some x
      → text_of x.tree ≡ Some n
      → arg taking k below below_all f label ts ≡ arg_of taking k below below_all f label n (drop 1 ts)
  arg_named_by [] x n a b = absurd cc
  arg_named_by (y ∷ ts) x n a b = let same : y ≡ x = cc in by_leaf y.tree ts n (ap (λ z. text_of z.tree) same ∙ b)

  pub arg_node : (ts : List TaggedTree) (x : TaggedTree) → slice_get ts 0 ≡ Some x → text_of x.tree ≡ None
      → arg taking k below below_all f label ts ≡ wrong k (codes "bad") label
  arg_node [] x a b = absurd cc
  arg_node (y ∷ ts) x a b = let same : y ≡ x = cc in by_node y.tree ts (ap (λ z. text_of z.tree) same ∙ b)

  pub arg_none : (ts : List TaggedTree) → length ts ≡ 0
      → arg taking k below below_all f label ts ≡ wrong k (codes "bad") label
  arg_none [] l = refl
  arg_none (y ∷ ts) l = absurd (omega (arith, l))

pub ruleset arg_rules = (arg_named_by, arg_node, arg_none)
