-- Labels by the rule that shows them.
use Rattle.std.specs.Prelude.{ℕ, List, if◌then◌else◌, codes}
use Rattle.std.specs.Str.{bytes_eq}

pub data Rule : Type 0 where
  -- the parts side by side
  Concat : Rule
  -- the parts as paragraphs
  Document : Rule
  -- the last part, with the attributes that the others set
  With : Rule
  -- an attribute is set
  Assign : Rule
  -- nothing
  Silent : Rule
  -- the line ends
  NextLine : Rule
  -- the page ends
  NewPage : Rule
  -- free cells
  Hspace : Rule
  -- empty lines
  Vspace : Rule
  -- an error
  Error : Rule
  -- a table
  Tabular : Rule
  -- nothing says how to show it
  Other : Rule

unfoldable pub rule_of : List ℕ → Rule
rule_of label =
    if bytes_eq label (codes "concat") then Concat
    else if bytes_eq label (codes "document") then Document
    else if bytes_eq label (codes "with") then With
    else if bytes_eq label (codes "assign") then Assign
    else if bytes_eq label (codes "macro") then Silent
    else if bytes_eq label (codes "xmacro") then Silent
    else if bytes_eq label (codes "next-line") then NextLine
    else if bytes_eq label (codes "new-page") then NewPage
    else if bytes_eq label (codes "hspace") then Hspace
    else if bytes_eq label (codes "vspace") then Vspace
    else if bytes_eq label (codes "error") then Error
    else if bytes_eq label (codes "tabular") then Tabular
    else Other
