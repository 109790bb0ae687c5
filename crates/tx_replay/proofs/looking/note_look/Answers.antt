use Rattle.std.proofs.Common.{sym, ◌∙◌}
use Rattle.std.proofs.lemmas.Result.{on_ok_weaker}
use Rattle.tx_replay.proofs.Joining.{noted_again, noted_anew}
use Rattle.tx_replay.proofs.looking.note_look.Goals as goal

pub returns-then-lists : goal.returns-then-lists
returns-then-lists c =
    noted_again c.args.looks.now c.args.name.now c.args.found.now (sym c.lists.ensures ∙ c.if-lists.true)

pub returns : goal.returns
returns c =
    on_ok_weaker c.put.result
    (λ e. noted_anew c.args.looks.now c.put.new.self c.args.name.now c.in_ok-copy.field-0 c.args.found.now
    c.in_ok-share_tree.field-0 (sym c.lists.ensures ∙ c.if-lists.false) e c.in_ok-copy.ensures
    c.in_ok-share_tree.ensures)
    c.put.ensures.ok
