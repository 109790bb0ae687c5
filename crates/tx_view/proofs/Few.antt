-- How many lines and errors a unit has.
use Rattle.std.proofs.Common.{◌≡◌, ℕ, ◌+◌, ◌*◌, ◌≤◌, ◌⊎◌, inl, inr, refl, ap, ◌∙◌, arith}
use Rattle.tx_tree.specs.WideTree.{size_of}
use Rattle.tx_origin.specs.Values.{WideValue, plain}
use Rattle.tx_items.specs.declared.attributes.Attrs.{Attrs}
use Rattle.tx_items.specs.Shows.{shown_paragraphs}
use Rattle.tx_view_form.specs.Outcomes.{Moment, over_value}
use Rattle.tx_view_form.specs.Weights.{weight_of}
use Rattle.tx_bridge.specs.Moments.{IsPaid}

pub few_lines : (a : Attrs) (v : WideValue) (before after : Moment) (n : ℕ) → IsPaid before after v
    → weight_of (shown_paragraphs a v) ≤ 242 * size_of (plain v) → weight_of (shown_paragraphs a over_value) ≤ 49
    → n ≤ weight_of (shown_paragraphs a v) → n + 242 * after.left ≤ 242 * before.left + 49
few_lines a v before after n p w o h = by p.paid
  where
    by : (v ≡ over_value) ⊎ (size_of (plain v) + after.left ≤ before.left)
        → n + 242 * after.left ≤ 242 * before.left + 49
    by (inl e) = omega (arith, ap (λ u. weight_of (shown_paragraphs a u)) e, o, h, p.falls)
    by (inr paid) = omega (arith, paid, w, h)

pub few_errors : (v : WideValue) (before after : Moment) (m : ℕ) → IsPaid before after v → m ≤ size_of (plain v)
    → m + after.left ≤ before.left + 7
few_errors v before after m p h = by p.paid
  where
    seven : size_of (plain over_value) ≡ 7
    seven = refl

    by : (v ≡ over_value) ⊎ (size_of (plain v) + after.left ≤ before.left) → m + after.left ≤ before.left + 7
    by (inl e) = omega (arith, ap (λ u. size_of (plain u)) e ∙ seven, h, p.falls)
    by (inr paid) = omega (arith, paid, h)
