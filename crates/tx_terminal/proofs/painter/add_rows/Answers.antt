use Rattle.std.proofs.Common.{◌≡◌, ◌≢◌, ◌∙◌, None, false, length, rules, take, true}
use Rattle.std.proofs.lemmas.Bool.{false_from_ne_true, not_from_false}
use Rattle.std.proofs.lemmas.Result.{on_ok_weaker}
use Rattle.tx_terminal.proofs.Repainting.{joined}
use Rattle.tx_terminal.proofs.painter.add_rows.Goals as goal
use Rattle.tx_terminal.proofs.painter.add_rows.Goals.{then-is_none, else-is_none}

pub returns-clause-added : goal.returns-clause-added
returns-clause-added c =
    let former = c.args.former.now in
    let rows = c.args.rows.now in
    let hides = c.if-is_none.add_hiding in
    let hidden : c.args.cursor ≡ None → hides ≡ true
    = λ none. elim c.if-is_none.branch [
      | then-is_none w ↦ w.add_hiding-is ∙ w.if-is_none.true
      | else-is_none w ↦
          let yes : c.is_none.result ≡ true = search (rules, c.is_none.ensures, none) in
          let no : c.is_none.result ≡ false = w.if-is_none.false in
          cc
    ] in
    let differs : take (length rows) former ≢ rows → hides ≡ true
    = λ other. elim c.if-is_none.branch [
      | then-is_none w ↦ w.add_hiding-is ∙ w.if-is_none.true
      | else-is_none w ↦
          let differ : w.are_former.result ≡ false
          = false_from_ne_true w.are_former.result (λ same. other (w.are_former.ensures.0 same)) in
          w.add_hiding-is ∙ not_from_false w.are_former.result differ
    ] in
    on_ok_weaker c.add_cursor.result
    (λ shown. joined c.args.out.now.items c.add_hiding.new.out.items c.add_changed.new.out.items
    c.add_cursor.new.out.items former rows c.args.cursor hides c.in_ok-add_hiding.ensures.added
    c.in_ok-add_changed.ensures.added hidden differs shown)
    c.add_cursor.ensures.added
