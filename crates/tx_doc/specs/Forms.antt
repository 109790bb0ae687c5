-- Which syntax a file is in.
use Rattle.std.specs.Prelude.{ℕ, nat_eq, ◌||◌, if◌then◌else◌, List, codes}
use Rattle.std.specs.List.{ends_with}
use Rattle.tx_doc.specs.declared.forms.Form.{Form}
use Rattle.tx_doc.specs.declared.forms.Form.TheVariants.{Tm, Scheme}

-- the Scheme syntax where the name ends in .scm or .stm, and else TM
abbrev pub form_of : List ℕ → Form
form_of name = if ends_with nat_eq name (codes ".scm") || ends_with nat_eq name (codes ".stm") then Scheme else Tm
