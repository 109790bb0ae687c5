-- How the places at the cells of a view are printed.
use Rattle.std.specs.Prelude.{ℕ, List, ◌∷◌, ◌++◌, length, decimal, codes, Option, Some, None}
use Rattle.tx_tree.specs.PathSpelling.{place_text}
use Rattle.tx_origin.specs.RelativePlaces.{BasedPlace}
use Rattle.tx_view_form.specs.Views.{WideView, lines_of}
use Rattle.tx_view_form.specs.Positions.{position_in, whole_path}
use Rattle.tx_print.specs.Lines.{line}

-- past the last row or column: how many rows there are, and the width of the page
abbrev pub no_cell : WideView → ℕ → List ℕ
no_cell v width = line (codes "no cell " ++ decimal (length (lines_of v.units)) ++ 32 ∷ decimal width)

abbrev pub place_or : List ℕ → Option BasedPlace → List ℕ
place_or otherwise (Some p) = line (place_text (whole_path p) p.offset)
place_or otherwise None = otherwise

-- the place at a row and a column
abbrev pub place_reply : WideView → ℕ → ℕ → ℕ → List ℕ
place_reply v width r c = place_or (no_cell v width) (position_in v.units width r c)
