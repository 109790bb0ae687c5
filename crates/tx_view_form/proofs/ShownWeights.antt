-- A well formed value weighs at most 242 for each unit of its size. A unit whose evaluation ran out of steps or levels
-- weighs at most 49.
use Rattle.std.proofs.Common.{◌≡◌, ◌+◌, ◌*◌, ◌≤◌, [], codes, refl, ap, arith}
use Rattle.tx_tree.specs.WideTree.{WideTree, Forest, leaf, node, nil, cons, size_of}
use Rattle.tx_tree.specs.Limits.{IsWellFormed, AreWellFormed}
use Rattle.tx_origin.specs.Values.{WideValue, plain}
use Rattle.tx_items.specs.declared.attributes.Attrs.{Attrs}
use Rattle.tx_items.specs.Rules.{rule_of}
use Rattle.tx_items.specs.Shows.{run_of, inline, error_items, show, shown_paragraphs}
use Rattle.tx_view_form.specs.Outcomes.{over_value}
use Rattle.tx_view_form.specs.Weights.{weight_of}
use Rattle.tx_view_form.proofs.ClusterCounts.{shown_length, most_shown, over_kind}
use Rattle.tx_view_form.proofs.FormWeights.{run_weight, form_weight, unit_weight}
use Rattle.tx_view_form.proofs.Labelled.{IsLabelled, AreLabelled, failed_weight, labelled_weight}

mutual
  pub labelled : (t : WideTree) → IsWellFormed t → IsLabelled t
  labelled (leaf words) h = tt
  labelled (node label ts) h = (h.0, all_labelled ts h.1)

  all_labelled : (ts : Forest) → AreWellFormed ts → AreLabelled ts
  all_labelled nil h = tt
  all_labelled (cons t ts) h = (labelled t h.0, all_labelled ts h.1)

pub value_weight : (a : Attrs) (v : WideValue) → IsWellFormed (plain v)
    → weight_of (shown_paragraphs a v) ≤ 242 * size_of (plain v)
value_weight a v h = labelled_weight a v (labelled (plain v) h)

-- ---- a unit that runs out

over_form : (a : Attrs) → (show a over_value).form ≡ inline (run_of a (error_items a (codes "over") []))
unfolding show rule_of
over_form a = refl

pub over_weight : (a : Attrs) → weight_of (shown_paragraphs a over_value) ≤ 49
over_weight a =
    let same : form_weight (show a over_value).form ≡ run_weight (run_of a (error_items a (codes "over") [])) =
    ap form_weight (over_form a) in
    let empty : shown_length [] ≤ 4 * 0 = most_shown [] in
    let unit : weight_of (shown_paragraphs a over_value) ≤ 1 + form_weight (show a over_value).form =
    unit_weight (show a over_value).form (show a over_value).after in
    omega (arith, failed_weight a (codes "over") [], over_kind)
