-- How the pages of a view are printed.
use Rattle.std.specs.Prelude.{ℕ, ◌+◌, ◌-◌, ◌==◌, List, [], ◌∷◌, ◌++◌, length, decimal, codes, slice_get, slice_range}
use Rattle.std.specs.Prelude.{Option, Some, None, if◌then◌else◌}
use Rattle.std.specs.List.{flat_map}
use Rattle.tx_layout.specs.declared.layout.Line.{Line}
use Rattle.tx_lines.specs.declared.cut.Cut.{Cut}
use Rattle.tx_view_form.specs.Views.{WideView, lines_of}
use Rattle.tx_print.specs.Lines.{line, line_text}

-- the page of this number that has these of all lines
abbrev pub page_text : List Line → ℕ → Cut → List ℕ
page_text lines number cut =
    line (codes "page " ++ decimal number) ++ flat_map line_text (slice_range lines cut.from cut.to)

-- pages, of which the first has this number
abbrev pub pages_text : List Line → ℕ → List Cut → List ℕ
pages_text lines number [] = []
pages_text lines number (cut ∷ cuts) = page_text lines number cut ++ pages_text lines (number + 1) cuts

-- how many pages and rows there are
abbrev pub counts_text : WideView → List ℕ
counts_text v =
    line (codes "pages " ++ decimal (length v.pages) ++ codes " rows " ++ decimal (length (lines_of v.units)))

-- all pages, counted from 1
abbrev pub show_text : WideView → List ℕ
show_text v = counts_text v ++ pages_text (lines_of v.units) 1 v.pages

abbrev pub page_numbered : List Cut → ℕ → Option Cut
page_numbered cuts number = if number == 0 then None else slice_get cuts (number - 1)

-- the page of this number, or how many there are
abbrev pub page_or : WideView → ℕ → Option Cut → List ℕ
page_or v number (Some cut) = page_text (lines_of v.units) number cut
page_or v number None = line (codes "no page " ++ decimal (length v.pages))

abbrev pub page_reply : WideView → ℕ → List ℕ
page_reply v number = page_or v number (page_numbered v.pages number)
