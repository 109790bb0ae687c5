-- Which row of the table of evaluation a label has.
use Rattle.std.specs.Prelude.{ℕ, Bool, ◌||◌, ◌&&◌, nat_lt, nat_le, if◌then◌else◌, List, length, codes}
use Rattle.std.specs.List.{list_all}
use Rattle.std.specs.Str.{bytes_eq}
use Rattle.tx_tree.specs.declared.TheConstants.{MOST_LABEL}
use Rattle.tx_tree.specs.Labels.{is_label_byte}
use Rattle.tx_exec_form.specs.declared.rows.Row.{Row}
use Rattle.tx_exec_form.specs.declared.rows.Row.TheVariants as rows

abbrev pub is_same_row : List ℕ → Bool
is_same_row l =
    bytes_eq l (codes "concat") || bytes_eq l (codes "document") || bytes_eq l (codes "tuple")
    || bytes_eq l (codes "error") || bytes_eq l (codes "next-line") || bytes_eq l (codes "new-page")
    || bytes_eq l (codes "hspace") || bytes_eq l (codes "vspace")

abbrev pub is_refused : List ℕ → Bool
is_refused l =
    bytes_eq l (codes "extern") || bytes_eq l (codes "include") || bytes_eq l (codes "use-module")
    || bytes_eq l (codes "action")

-- the rows that name variables or keep trees, and that of any other tag
abbrev pub name_row_of : List ℕ → Row
name_row_of l =
    if bytes_eq l (codes "assign") then rows.Assign else
    if bytes_eq l (codes "with") then rows.With else
    if bytes_eq l (codes "value") then rows.Value else
    if bytes_eq l (codes "provides") then rows.Provides else
    if bytes_eq l (codes "macro") then rows.Macro else
    if bytes_eq l (codes "xmacro") then rows.XMacro else
    if bytes_eq l (codes "quote") then rows.Quote else
    if bytes_eq l (codes "eval") then rows.Eval else
    rows.Tag

abbrev pub row_of : List ℕ → Row
row_of l =
    if is_same_row l then rows.Same else
    if is_refused l then rows.Refused else
    if bytes_eq l (codes "raw-data") then rows.RawData else
    if bytes_eq l (codes "drd-props") then rows.DrdProps else
    if bytes_eq l (codes "arg") then rows.Arg else
    if bytes_eq l (codes "quote-arg") then rows.QuoteArg else
    if bytes_eq l (codes "map-args") then rows.MapArgs else
    if bytes_eq l (codes "if") then rows.If else
    if bytes_eq l (codes "case") then rows.Case else
    if bytes_eq l (codes "while") then rows.While else
    name_row_of l

-- a test of whether these bytes are a label
abbrev pub is_label : List ℕ → Bool
is_label l = nat_lt 0 (length l) && nat_le (length l) MOST_LABEL && list_all is_label_byte l
