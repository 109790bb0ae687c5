-- The trace of a tree is composed of those of its parts.
use Rattle.std.proofs.Common.{◌≡◌, ℕ, suc, subst, refl, sym}
use Rattle.std.proofs.lemmas.Slice.Eq.{bytes_eq-Decides}
use Rattle.std.specs.Prelude.{Bool, true, false, if◌then◌else◌, List, Option, Some, None, codes}
use Rattle.std.specs.Str.{bytes_eq}
use Rattle.tx_tree.specs.WideTree.{WideTree, Forest, leaf, node, nil, cons, trees}
use Rattle.tx_exec_form.specs.Runs.{Before}
use Rattle.tx_parts.specs.Openness.{Settings, settings_in, document_openness, with_openness, Shut, openness}
use Rattle.tx_parts.specs.Composed.{evaluates, composed_as}
use Rattle.tx_parts.proofs.Children.{document_is}
use Rattle.tx_parts.proofs.Settings.{with_is}

module _ (k c : ℕ) (e : Before) where
  by_document : (ts : Forest) → evaluates (suc k) c (node (codes "document") ts) e ≡
      composed_as (document_openness (trees ts)) k (evaluates k) c (node (codes "document") ts) e
  by_document nil = refl
  by_document (cons t ts) = document_is k c (cons t ts) e

  by_with : (ts : Forest) (o : Option (Settings × WideTree)) → settings_in (trees ts) ≡ o →
      evaluates (suc k) c (node (codes "with") ts) e ≡
      composed_as (with_openness o) k (evaluates k) c (node (codes "with") ts) e
  by_with ts None h = refl
  by_with ts (Some p) h = with_is k c ts p e h

  by_label : (label : List ℕ) (ts : Forest) (a b : Bool) → bytes_eq label (codes "document") ≡ a →
      bytes_eq label (codes "with") ≡ b → evaluates (suc k) c (node label ts) e ≡
      composed_as
      (if a then document_openness (trees ts) else if b then with_openness (settings_in (trees ts)) else Shut)
      k (evaluates k) c (node label ts) e
  by_label label ts true b p q =
      subst (λ l. evaluates (suc k) c (node l ts) e ≡
      composed_as (document_openness (trees ts)) k (evaluates k) c (node l ts) e)
      (sym ((bytes_eq-Decides label (codes "document")).0 p)) (by_document ts)
  by_label label ts false true p q =
      subst (λ l. evaluates (suc k) c (node l ts) e ≡
      composed_as (with_openness (settings_in (trees ts))) k (evaluates k) c (node l ts) e)
      (sym ((bytes_eq-Decides label (codes "with")).0 q)) (by_with ts (settings_in (trees ts)) refl)
  by_label label ts false false p q = refl

-- the trace of a tree is composed of those of its inner trees
pub inner_are : (k c : ℕ) (t : WideTree) (e : Before) →
    evaluates (suc k) c t e ≡ composed_as (openness t) k (evaluates k) c t e
inner_are k c (leaf words) e = refl
inner_are k c (node label ts) e =
    by_label k c e label ts (bytes_eq label (codes "document")) (bytes_eq label (codes "with")) refl refl
