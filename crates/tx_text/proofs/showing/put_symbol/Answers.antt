use Rattle.std.proofs.Common.{◌+◌, ◌∷◌, [], ◌++◌, length, drop, sym, ap, ◌∙◌, arith, length-append}
use Rattle.tx_text.proofs.Own.{own_text, symbol_put}
use Rattle.tx_text.proofs.showing.put_symbol.Goals as goal

pub returns-in-None-clause-count : goal.returns-in-None-clause-count
returns-in-None-clause-count c =
    let name = c.args.name.now in
    omega (
      arith,
      ap length (own_text name c.requires.name (sym c.symbol_char.ensures ∙ c.in-None.is)),
      length-append
          name (62 ∷ []),
    )

pub returns-in-None-clause-put : goal.returns-in-None-clause-put
returns-in-None-clause-put c =
    let name = c.args.name.now in
    let xs = c.args.into.now in
    let short = c.requires.name.short in
    let room = c.requires.room in
    rw c.copy_from_slice.ensures.after
    (symbol_put xs name (omega arith)
    ∙ ap (λ t. t ++ drop (length name + 1 + 1) xs)
    (sym (own_text name c.requires.name (sym c.symbol_char.ensures ∙ c.in-None.is))))
