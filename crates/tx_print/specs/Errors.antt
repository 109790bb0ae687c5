-- How the errors of a view are printed.
use Rattle.std.specs.Prelude.{ℕ, List, [], ◌∷◌, ◌++◌, length, decimal, codes, Option, Some, None}
use Rattle.std.specs.List.{flat_map}
use Rattle.tx_tree.specs.PathSpelling.{path_text}
use Rattle.tx_items.specs.declared.drawing.ErrorAt.{ErrorAt}
use Rattle.tx_view_form.specs.Views.{WideView}
use Rattle.tx_view_form.specs.Errors.{errors_of}
use Rattle.tx_print.specs.Lines.{line, shown}

-- the path of a unit, or a dash for one without a path
abbrev pub unit_text : Option (List ℕ) → List ℕ
unit_text (Some path) = path_text path
unit_text None = codes "-"

-- a space and the detail, or nothing where there is no detail
abbrev pub detail_text : List ℕ → List ℕ
detail_text [] = []
detail_text (b ∷ bs) = 32 ∷ shown (b ∷ bs)

abbrev pub error_text : Option (List ℕ) × ErrorAt → List ℕ
error_text e = line (unit_text e.0 ++ 32 ∷ shown e.1.kind ++ detail_text e.1.detail)

-- how many errors there are, and each of them
abbrev pub errors_text : WideView → List ℕ
errors_text v =
    line (codes "errors " ++ decimal (length (errors_of v.units))) ++ flat_map error_text (errors_of v.units)
