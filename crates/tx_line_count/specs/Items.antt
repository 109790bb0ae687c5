-- The items of a view.
use Rattle.std.specs.Prelude.{List}
use Rattle.std.specs.List.{flat_map}
use Rattle.tx_items.specs.declared.drawing.Item.{Item}
use Rattle.tx_view_form.specs.Views.{UnitView}

-- those of all paragraphs of all units, in order
abbrev pub items_of : List UnitView → List Item
items_of xs = flat_map (λ x. flat_map (λ p. p.items) x.paragraphs) xs
