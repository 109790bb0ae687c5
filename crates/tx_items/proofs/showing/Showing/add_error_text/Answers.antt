use Rattle.std.proofs.lemmas.Result.{on_ok_weaker}
use Rattle.tx_items.proofs.Texts.{error_short, error_long}
use Rattle.tx_items.proofs.showing.Showing.add_error_text.Goals as goal

pub returns-then-is_empty : goal.returns-then-is_empty
returns-then-is_empty c =
    let test = rw c.bytes.ensures.bytes at c.if-is_empty.ensures in
    on_ok_weaker c.add_word-then-is_empty.result
    (error_short c.args.kind.now c.args.detail.now _ _ _ _ test c.in_ok-add_word.ensures c.in_ok-add_made.ensures)
    c.add_word-then-is_empty.ensures

pub returns : goal.returns
returns c =
    let test = rw c.bytes.ensures.bytes at c.if-is_empty.ensures in
    on_ok_weaker c.add_word-3.result
    (error_long c.args.kind.now c.args.detail.now _ _ _ _ _ _ test c.in_ok-add_word.ensures c.in_ok-add_made.ensures
    c.in_ok-add_word-2.ensures c.in_ok-add_made-2.ensures) c.add_word-3.ensures
