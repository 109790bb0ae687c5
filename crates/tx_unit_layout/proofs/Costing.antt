-- How many items a unit has, and one without a path.
use Rattle.std.proofs.Common.{◌≡◌, ℕ, ◌≤◌, List, ap, length, arith}
use Rattle.std.specs.Prelude.{Option, Some, None}
use Rattle.std.specs.List.{flat_map}
use Rattle.std.proofs.lemmas.List.Concat.{length-flat_map}
use Rattle.tx_origin.specs.Values.{WideValue}
use Rattle.tx_items.specs.declared.attributes.Attrs.{Attrs}
use Rattle.tx_items.specs.declared.drawing.Paragraph.{Paragraph}
use Rattle.tx_items.specs.Shows.{shown_paragraphs}
use Rattle.tx_view_form.specs.Views.{paragraphs_at}
use Rattle.tx_view_form.specs.Weights.{weight_of}
use Rattle.tx_part_layout.specs.LaidParts.{items_in}

pub items_nowhere : (a : Attrs) (v : WideValue) (path : Option (List ℕ)) → path ≡ None
    → items_in (paragraphs_at path a v) ≡ 0
items_nowhere a v path e = ap (λ p. items_in (paragraphs_at p a v)) e

-- at most as many as it weighs
pub items_most : (ps : List Paragraph) (path : Option (List ℕ)) (a : Attrs) (v : WideValue)
    → ps ≡ paragraphs_at path a v
    → length (flat_map (λ p. p.items) (shown_paragraphs a v)) ≤ weight_of (shown_paragraphs a v)
    → items_in ps ≤ weight_of (shown_paragraphs a v)
items_most ps None a v e h = omega (arith, ap items_in e)
items_most ps (Some path) a v e h =
    omega (arith, ap items_in e, h, length-flat_map (λ (p : Paragraph). p.items) (shown_paragraphs a v))
