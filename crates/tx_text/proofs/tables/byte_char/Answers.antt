use Rattle.std.proofs.Common.{rules, sym, ap, ◌∙◌}
use Rattle.tx_text.specs.Tables.{byte_code}
use Rattle.tx_text.proofs.Table.{first_code, middle_code, ascii_code, late_code, byte_code-215, byte_code-223}
use Rattle.tx_text.proofs.Table.{byte_code-247, byte_code-255}
use Rattle.tx_text.proofs.tables.byte_char.Goals as goal

pub returns-in-215 : goal.returns-in-215
returns-in-215 c = byte_code-215 ∙ ap byte_code (sym c.in-215.is)

pub returns-in-223 : goal.returns-in-223
returns-in-223 c = byte_code-223 ∙ ap byte_code (sym c.in-223.is)

pub returns-in-247 : goal.returns-in-247
returns-in-247 c = byte_code-247 ∙ ap byte_code (sym c.in-247.is)

pub returns-in-255 : goal.returns-in-255
returns-in-255 c = byte_code-255 ∙ ap byte_code (sym c.in-255.is)

pub returns-in-0-to-31 : goal.returns-in-0-to-31
returns-in-0-to-31 c = search (rules, first_code)

pub returns-in-32-to-126 : goal.returns-in-32-to-126
returns-in-32-to-126 c = search (rules, ascii_code)

pub returns-in-127-to-191 : goal.returns-in-127-to-191
returns-in-127-to-191 c = search (rules, middle_code)

pub returns-in_default : goal.returns-in_default
returns-in_default c = search (rules, late_code)
