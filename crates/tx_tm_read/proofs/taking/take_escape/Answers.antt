use Rattle.std.proofs.Common.{◌∙◌, sym, ap, Some}
use Rattle.tx_tm_read.proofs.Growths.{escape_is_text}
use Rattle.tx_tm_read.proofs.taking.take_escape.Goals as goal

pub put_text-requires-in-Some-Byte : goal.put_text-requires-in-Some-Byte
put_text-requires-in-Some-Byte g c =
    escape_is_text c.args.byte c.in-Some-Byte.meant (sym c.escape_of.ensures ∙ c.in-Some-Byte.is
    ∙ ap Some c.in-Some-Byte.field-0-is)
