use Rattle.std.proofs.Common.{◌≡◌, min, arith, ap, ◌∙◌, rules, sym}
use Rattle.tx_view_form.specs.Views.{lines_of}
use Rattle.tx_screen.specs.Frames.{lines_shown}
use Rattle.tx_screen.proofs.Shown.{none_shown, one_more, no_more}
use Rattle.tx_screen.proofs.frames.shown_rows.Goals.{in-Some+in_ok-push, in_default}
use Rattle.tx_screen.proofs.frames.shown_rows.Goals as goal

pub loop-number-init : goal.loop-number-init
loop-number-init c =
    let none = none_shown c.args.size (lines_of c.args.view.now.shown.units) c.args.from c.args.to in
    search (rules, none)

pub loop-number-preserved : goal.loop-number-preserved
loop-number-preserved c =
    let lines = lines_of c.args.view.now.shown.units in
    let rows = c.loop-number.rows.items in
    elim c.match-branch-2.branch [
      | in-Some+in_ok-push w ↦
          let more =
          one_more c.args.size lines c.args.from c.loop-number.number c.args.to w.in-Some.row rows c.loop-number.auto.number
          c.loop-number-test.true (sym w.in-Some.is ∙ c.in_ok-row.ensures) c.loop-number.invariant in
          ap (λ v. v.items) w.rows-is ∙ w.in_ok-push.ensures.items ∙ more
      | in_default w ↦
          let more =
          no_more c.args.size lines c.args.from c.loop-number.number c.args.to rows c.loop-number.auto.number
          c.loop-number-test.true (sym w.in_default.is ∙ c.in_ok-row.ensures) c.loop-number.invariant in
          ap (λ v. v.items) w.rows-is ∙ more
    ]

pub returns : goal.returns
returns c =
    let all : min c.loop-number.number c.args.to ≡ c.args.to = omega (arith, c.loop-number-test.false) in
    c.loop-number.invariant ∙ ap (lines_shown c.args.size (lines_of c.args.view.now.shown.units) c.args.from) all
