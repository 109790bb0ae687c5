-- The errors of a view.
use Rattle.std.specs.Prelude.{ℕ, List, Option, map}
use Rattle.std.specs.List.{flat_map}
use Rattle.tx_items.specs.declared.drawing.ErrorAt.{ErrorAt}
use Rattle.tx_view_form.specs.Views.{UnitView}

-- the errors of all units in order, each with the path of its unit, or without one
abbrev pub errors_of : List UnitView → List (Option (List ℕ) × ErrorAt)
errors_of xs = flat_map (λ x. map (λ e. (x.path, e)) x.errors) xs
