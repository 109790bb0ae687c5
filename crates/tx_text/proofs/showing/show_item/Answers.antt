use Rattle.std.proofs.Common.{◌+◌, ◌++◌, drop, length, refl, sym, ap, ◌∙◌, arith}
use Rattle.tx_text.proofs.AtCut.{symbol_here, byte_here, byte_shows, text_there, long_there, cut_behind}
use Rattle.tx_text.proofs.AtCut.{items_behind_it}
use Rattle.tx_text.proofs.showing.show_item.Goals as goal

pub put_symbol-count-requires-clause-name : goal.put_symbol-count-requires-clause-name
put_symbol-count-requires-clause-name c =
    (symbol_here _ _ _ _ c.bytes-bytes.ensures.bytes c.requires.cut c.if-at-bytes.false c.if-bytes-at-eq60.true
    c.name_of-name.ensures).is_name

pub returns-then-bytes-at-eq60-clause-shown : goal.returns-then-bytes-at-eq60-clause-shown
returns-then-bytes-at-eq60-clause-shown c =
    let s = symbol_here _ _ _ _ c.bytes-bytes.ensures.bytes c.requires.cut c.if-at-bytes.false c.if-bytes-at-eq60.true
    c.name_of-name.ensures in
    c.put_symbol-count.ensures.put
    ∙ ap (λ t. t ++ drop c.put_symbol-count.result c.args.into.now) (sym (text_there _ _ _ s.there))

pub returns-then-bytes-at-eq60-clause-count : goal.returns-then-bytes-at-eq60-clause-count
returns-then-bytes-at-eq60-clause-count c =
    let s = symbol_here _ _ _ _ c.bytes-bytes.ensures.bytes c.requires.cut c.if-at-bytes.false c.if-bytes-at-eq60.true
    c.name_of-name.ensures in
    c.put_symbol-count.ensures.count ∙ ap length (sym (text_there _ _ _ s.there))

pub returns-then-bytes-at-eq60-clause-next : goal.returns-then-bytes-at-eq60-clause-next
returns-then-bytes-at-eq60-clause-next c =
    let s = symbol_here _ _ _ _ c.bytes-bytes.ensures.bytes c.requires.cut c.if-at-bytes.false c.if-bytes-at-eq60.true
    c.name_of-name.ensures in
    omega (arith, s.long, long_there _ _ _ s.there)

pub returns-then-bytes-at-eq60-clause-next_cut : goal.returns-then-bytes-at-eq60-clause-next_cut
returns-then-bytes-at-eq60-clause-next_cut c =
    let s = symbol_here _ _ _ _ c.bytes-bytes.ensures.bytes c.requires.cut c.if-at-bytes.false c.if-bytes-at-eq60.true
    c.name_of-name.ensures in
    cut_behind _ _ _ _ s.there (omega (arith, s.long))

pub returns-then-bytes-at-eq60-clause-rest : goal.returns-then-bytes-at-eq60-clause-rest
returns-then-bytes-at-eq60-clause-rest c =
    let s = symbol_here _ _ _ _ c.bytes-bytes.ensures.bytes c.requires.cut c.if-at-bytes.false c.if-bytes-at-eq60.true
    c.name_of-name.ensures in
    items_behind_it _ _ _ _ s.there (omega (arith, s.long))

pub returns-else-bytes-at-eq60-clause-shown : goal.returns-else-bytes-at-eq60-clause-shown
returns-else-bytes-at-eq60-clause-shown c =
    let s = byte_here _ _ _ c.bytes-bytes.ensures.bytes c.requires.cut c.if-at-bytes.false c.if-bytes-at-eq60.false in
    c.put_char-count.ensures.put
    ∙ ap (λ t. t ++ drop c.put_char-count.result c.args.into.now) (byte_shows _ _ _ _ s c.byte_char.ensures)

pub returns-else-bytes-at-eq60-clause-count : goal.returns-else-bytes-at-eq60-clause-count
returns-else-bytes-at-eq60-clause-count c =
    let s = byte_here _ _ _ c.bytes-bytes.ensures.bytes c.requires.cut c.if-at-bytes.false c.if-bytes-at-eq60.false in
    c.put_char-count.ensures.count ∙ ap length (byte_shows _ _ _ _ s c.byte_char.ensures)

pub returns-else-bytes-at-eq60-clause-next : goal.returns-else-bytes-at-eq60-clause-next
returns-else-bytes-at-eq60-clause-next c =
    let s = byte_here _ _ _ c.bytes-bytes.ensures.bytes c.requires.cut c.if-at-bytes.false c.if-bytes-at-eq60.false in
    ap (λ n. c.args.at + n) (sym (long_there _ _ _ s))

pub returns-else-bytes-at-eq60-clause-next_cut : goal.returns-else-bytes-at-eq60-clause-next_cut
returns-else-bytes-at-eq60-clause-next_cut c =
    (byte_here _ _ _ c.bytes-bytes.ensures.bytes c.requires.cut c.if-at-bytes.false c.if-bytes-at-eq60.false).next

pub returns-else-bytes-at-eq60-clause-rest : goal.returns-else-bytes-at-eq60-clause-rest
returns-else-bytes-at-eq60-clause-rest c =
    let s = byte_here _ _ _ c.bytes-bytes.ensures.bytes c.requires.cut c.if-at-bytes.false c.if-bytes-at-eq60.false in
    items_behind_it _ _ _ _ s refl
