use Rattle.std.proofs.Common.{length, ◌∙◌, arith}
use Rattle.std.specs.Str.{chars}
use Rattle.std.proofs.lemmas.Iterator.{YieldsList-from_chars}
use Rattle.std.proofs.lemmas.Iterator.Consumers.{YieldsList-turn, YieldsList-end}
use Rattle.std.proofs.lemmas.List.{length_push}
use Rattle.tx_page.specs.Texts.{text_characters}
use Rattle.tx_page.proofs.Fitting.{goes_on, stops, ends}
use Rattle.tx_page.proofs.texts.text_row.Goals.{in-None, in-Some+then-cells-left}
use Rattle.tx_page.proofs.texts.text_row.Goals as goal

pub loop-code-preserved : goal.loop-code-preserved
loop-code-preserved c =
    let text = c.args.text.now in
    let whole = text_characters text c.args.width c.args.ink in
    let count = length c.loop-code.yielded in
    let next = YieldsList-turn (YieldsList-from_chars text c.utf8.text cc) c.loop-code.yielded _
    c.loop-code.yielded_by _ _ c.in-Some.code c.in-Some.is c.next.ensures.steps in
    goes_on c.args.ink (chars text) c.loop-code.row.items c.push.new.self.items whole c.loop-code.left count _
    c.in-Some.code c.from-cells.result c.code_character.result c.in_ok-push.ensures.items c.code_character.ensures
    (c.from-cells.ensures ∙ c.code_cells.ensures) c.if-cells-left.false next
    (length_push c.loop-code.yielded c.in-Some.code) c.loop-code.invariant

pub returns : goal.returns
returns c =
    let text = c.args.text.now in
    let whole = text_characters text c.args.width c.args.ink in
    let count = length c.loop-code.yielded in
    let row = c.loop-code.row.items in
    c.new.ensures
    ∙ elim c.match-next.branch [
      | in-None w ↦
          let end = YieldsList-end (YieldsList-from_chars text c.utf8.text cc) c.loop-code.yielded _
          c.loop-code.yielded_by _ _ w.in-None.is c.next.ensures.steps in
          ends c.args.ink (chars text) row whole c.loop-code.left count (omega (arith, end.1)) c.loop-code.invariant
      | in-Some+then-cells-left w ↦
          let next = YieldsList-turn (YieldsList-from_chars text c.utf8.text cc) c.loop-code.yielded _
          c.loop-code.yielded_by _ _ w.in-Some.code w.in-Some.is c.next.ensures.steps in
          stops c.args.ink (chars text) row whole c.loop-code.left count w.in-Some.code w.from-cells.result
          (w.from-cells.ensures ∙ w.code_cells.ensures) w.if-cells-left.true next c.loop-code.invariant
    ]
