-- In which ink a text is shown on a terminal, by its look.
use Rattle.std.specs.Prelude.{ℕ, List, Option, Some, None, false, ◌||◌, codes, if◌then◌else◌}
use Rattle.std.specs.Str.{bytes_eq}
use Rattle.tx_items.specs.Looks.{WideLook}
use Rattle.tx_terminal.specs.declared.inks.Color.{Color}
use Rattle.tx_terminal.specs.declared.inks.Color.TheVariants.{Red, Green, Yellow, Blue, Magenta, Cyan, White}
use Rattle.tx_terminal.specs.declared.inks.Ink.{Ink}

-- The color of a name. None is the terminal's own: `black`, which is the color where none is set, and all other words.
abbrev pub color_named : List ℕ → Option Color
color_named name =
    if bytes_eq name (codes "red") then Some Red
    else if bytes_eq name (codes "green") then Some Green
    else if bytes_eq name (codes "yellow") then Some Yellow
    else if bytes_eq name (codes "blue") then Some Blue
    else if bytes_eq name (codes "magenta") then Some Magenta
    else if bytes_eq name (codes "cyan") then Some Cyan
    else if bytes_eq name (codes "white") then Some White
    else None

-- bold by `font-series`, italic by `font-shape`, and the color
abbrev pub ink_of : WideLook → Ink
ink_of look =
    record {
      bold = bytes_eq look.series (codes "bold");
      italic = bytes_eq look.shape (codes "italic") || bytes_eq look.shape (codes "slanted");
      reverse = false;
      color = color_named look.color;
    }
