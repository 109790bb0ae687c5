-- Indents, widths and the side of a paragraph's lines.
use Rattle.std.specs.Prelude.{ℕ, ◌+◌, ◌-◌, ◌/◌, ◌≤◌, min, Bool, nat_le, List, ℤ, pos, negsuc, if◌then◌else◌, codes}
use Rattle.std.specs.Str.{bytes_eq}
use Rattle.tx_lines.specs.FirstFit.{IsWidth}
use Rattle.tx_items.specs.declared.drawing.Paragraph.{Paragraph}
use Rattle.tx_layout.specs.declared.measures.Side.{Side}
use Rattle.tx_layout.specs.declared.measures.Side.TheVariants.{Left, Center, Right, Justify}
use Rattle.tx_layout.specs.declared.measures.Frame.{Frame}

-- the whole thousands of a length, where one below 0 counts as 0
abbrev pub whole_cells : ℤ → ℕ
whole_cells (pos n) = n / 1000
whole_cells (negsuc n) = 0

-- cells and the whole thousands of a length, rounded down, but not below 0
abbrev pub moved_by : ℕ → ℤ → ℕ
moved_by cells (pos n) = cells + n / 1000
moved_by cells (negsuc n) = cells - (n / 1000 + 1)

-- margins that leave less than 10 cells of a page's width count as 0
abbrev pub has_room : Paragraph → ℕ → Bool
has_room p width = nat_le (whole_cells p.left + whole_cells p.right + 10) width

abbrev pub left_margin : Paragraph → ℕ → ℕ
left_margin p width = if has_room p width then whole_cells p.left else 0

abbrev pub right_margin : Paragraph → ℕ → ℕ
right_margin p width = if has_room p width then whole_cells p.right else 0

-- the first line's indent leaves 10 cells
abbrev pub first_indent : Paragraph → ℕ → ℕ
first_indent p width = min (moved_by (left_margin p width) p.first) (width - right_margin p width - 10)

abbrev pub side_of : List ℕ → Side
side_of mode =
    if bytes_eq mode (codes "center") then Center
    else if bytes_eq mode (codes "right") then Right
    else if bytes_eq mode (codes "justify") then Justify
    else Left

abbrev pub line_frame : Paragraph → ℕ → Frame
line_frame p width =
    record {
      first_indent = first_indent p width;
      later_indent = left_margin p width;
      first_width = width - first_indent p width - right_margin p width;
      later_width = width - left_margin p width - right_margin p width;
      side = side_of p.mode;
    }

-- the narrower of the two widths
abbrev pub least_width : Frame → ℕ
least_width frame = min frame.first_width frame.later_width

-- both widths are those of lines, and indents are on a page
pub record IsFrame (frame : Frame) : Type 0 where
  pub first : IsWidth frame.first_width
  pub later : IsWidth frame.later_width
  pub first_fits : frame.first_indent ≤ 500
  pub later_fits : frame.later_indent ≤ 500
