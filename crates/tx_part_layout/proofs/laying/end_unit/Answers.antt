use Rattle.std.proofs.Common.{◌≡◌, [], ◌∷◌, ◌++◌, ◌∙◌, ap}
use Rattle.tx_items.specs.Drawing.{paragraph}
use Rattle.tx_view_form.specs.Views.{no_lines}
use Rattle.tx_part_layout.specs.Laying.{so_far}
use Rattle.tx_part_layout.proofs.Lining.{own_lines_are, lines_are}
use Rattle.tx_part_layout.proofs.SoFar.{ended_none, ended_some}
use Rattle.tx_part_layout.proofs.laying.end_unit.Goals as goal

pub returns-then-some-clause-paragraphs : goal.returns-then-some-clause-paragraphs
returns-then-some-clause-paragraphs g c = λ old right.
    let x = c.args.laying.now in
    ended_some (so_far old x) x.unit.paragraphs.items x.attrs x.some right.some c.if-some.true c.requires.nothing

pub returns-then-some-clause-lines : goal.returns-then-some-clause-lines
returns-then-some-clause-lines g c =
    let x = c.args.laying.now in
    lines_are c.args.width [] x.unit.paragraphs.items [] x.unit.lines no_lines c.requires.nothing c.requires.no_line

pub returns-clause-paragraphs : goal.returns-clause-paragraphs
returns-clause-paragraphs g c = λ old right.
    let x = c.args.laying.now in
    let one : c.push.new.self.items ≡ c.in_ok-paragraph.paragraph ∷ [] =
    c.in_ok-push.ensures.items ∙ ap (λ ps. ps ++ c.in_ok-paragraph.paragraph ∷ []) c.requires.nothing in
    let own : c.push.new.self.items ≡ paragraph [] x.attrs ∷ [] = one ∙ ap (λ p. p ∷ []) c.in_ok-paragraph.ensures in
    ended_none (so_far old x) c.push.new.self.items x.attrs x.some right.some c.if-some.false own

pub returns-clause-lines : goal.returns-clause-lines
returns-clause-lines g c =
    lines_are c.args.width (c.in_ok-paragraph.paragraph ∷ []) c.push.new.self.items c.in_ok-own.own.items c.new.result
    (own_lines_are c.in_ok-paragraph.paragraph c.in_ok-own.own.items c.in_ok-own.ensures.shape)
    (c.in_ok-push.ensures.items ∙ ap (λ ps. ps ++ c.in_ok-paragraph.paragraph ∷ []) c.requires.nothing)
    c.new.ensures
