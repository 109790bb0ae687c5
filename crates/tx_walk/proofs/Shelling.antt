-- Which shell a tree has.
use Rattle.std.proofs.Common.{◌≡◌, ℕ, List, ap, refl, sym, ◌∙◌}
use Rattle.std.specs.Prelude.{Bool, true, false, if◌then◌else◌, Option, Some, None, option_and_then}
use Rattle.tx_tree.specs.WideTree.{WideTree, leaf, node, label_of}
use Rattle.tx_env.specs.Pairs.{Name}
use Rattle.tx_exec_form.specs.Runs.{Before}
use Rattle.tx_parts.specs.Shells.{Shell, Opener, is_other_tag}
use Rattle.tx_parts.specs.Opening.{shells_by}

module _ (opener : Opener) (t : WideTree) (e : Before) (l : List ℕ) where
  -- a label without a tree
  pub unset_none : (x : Name) → label_of t ≡ Some l → x ≡ l → e x ≡ None → shells_by opener t e ≡ None
  unset_none x is same unset = by t is
    where
      nothing : Option Shell
      nothing = None

      by_test : (b : Bool) (u : WideTree) → (if b then option_and_then (opener u) None else None) ≡ nothing
      by_test true u = refl
      by_test false u = refl

      by : (u : WideTree) → label_of u ≡ Some l → shells_by opener u e ≡ None
      by (leaf words) g = cc
      by (node m ts) g =
          let alike : m ≡ l = cc in
          let gone : e m ≡ None = ap e (alike ∙ sym same) ∙ unset in
          ap (λ o. if is_other_tag m then option_and_then (opener (node m ts)) o else None) gone
          ∙ by_test (is_other_tag m) (node m ts)

  -- a label of the table
  pub other_none : label_of t ≡ Some l → is_other_tag l ≡ false → shells_by opener t e ≡ None
  other_none is shut = by t is
    where
      by : (u : WideTree) → label_of u ≡ Some l → shells_by opener u e ≡ None
      by (leaf words) g = cc
      by (node m ts) g =
          let alike : m ≡ l = cc in
          ap (λ b. if b then option_and_then (opener (node m ts)) (e m) else None) (ap is_other_tag alike ∙ shut)

  pub shell_there : (x : Name) (meaning : WideTree) → label_of t ≡ Some l → x ≡ l → e x ≡ Some meaning →
      is_other_tag l ≡ true → shells_by opener t e ≡ opener t meaning
  shell_there x meaning is same set other = by t is
    where
      by : (u : WideTree) → label_of u ≡ Some l → shells_by opener u e ≡ opener u meaning
      by (leaf words) g = cc
      by (node m ts) g =
          let alike : m ≡ l = cc in
          ap (λ b. if b then option_and_then (opener (node m ts)) (e m) else None) (ap is_other_tag alike ∙ other)
          ∙ ap (option_and_then (opener (node m ts))) (ap e (alike ∙ sym same) ∙ set)
