use Rattle.std.proofs.Common.{◌∙◌, sym, subst}
use Rattle.tx_tree.specs.Texts.{IsText}
use Rattle.tx_tm_read.proofs.Growths.{nonempty, symbol_is_text}
use Rattle.tx_tm_read.proofs.taking.name_over.Goals as goal

pub put_text-requires : goal.put_text-requires
put_text-requires g c =
    let some = nonempty c.args.name (sym c.is_empty.ensures ∙ c.if-is_empty.false) in
    subst IsText (sym (c.deref.ensures.value ∙ c.in-Ok.ensures.bytes))
    (symbol_is_text c.args.name c.in-Ok.ensures.name some)
