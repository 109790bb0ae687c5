use Rattle.std.proofs.Common.{ℕ, ◌+◌, List, []}
use Rattle.std.specs.Borrow.{Bor}
use Rattle.tx_units.proofs.Spelled.{text_at, texts_next, made_next, made_all}
use Rattle.tx_units.proofs.base.spelled_units.Goals as goal

abbrev read : Bor (List ℕ) → List ℕ
read text = text.now

abbrev no_text : Bor (List ℕ)
no_text = record { ref_ptr = (0, 0); now = [] }

pub spelled_unit-requires : goal.spelled_unit-requires
spelled_unit-requires g c =
    text_at read c.args.texts.now c.loop-text.text-index no_text
    c.loop-text-test.true c.requires

pub loop-text-preserved : goal.loop-text-preserved
loop-text-preserved g c =
    let unit = c.in_ok-spelled_unit.field-0 in
    record {
      spelled = texts_next read c.args.texts.now c.loop-text.text-index no_text
          c.loop-text.units.items c.push.new.self.items unit c.loop-text-test.true c.loop-text.invariant.spelled
          c.in_ok-spelled_unit.ensures.ok c.in_ok-push.ensures.items;
      made = λ us all.
          made_next read c.args.texts.now c.loop-text.text-index no_text us c.args.steps.now c.loop-text.steps
          c.spelled_unit.new.steps
          c.loop-text-test.true all (c.loop-text.invariant.made us all) c.spelled_unit.ensures.made;
    }

pub returns-in_err-spelled_unit-clause-made : goal.returns-in_err-spelled_unit-clause-made
returns-in_err-spelled_unit-clause-made g c = λ us all.
    made_all (c.loop-text.text-index + 1) us c.args.steps.now c.spelled_unit.new.steps
    (made_next read c.args.texts.now c.loop-text.text-index no_text us c.args.steps.now c.loop-text.steps
    c.spelled_unit.new.steps
    c.loop-text-test.true all (c.loop-text.invariant.made us all) c.spelled_unit.ensures.made)

pub returns-in_err-push-clause-made : goal.returns-in_err-push-clause-made
returns-in_err-push-clause-made g c = λ us all.
    made_all (c.loop-text.text-index + 1) us c.args.steps.now c.spelled_unit.new.steps
    (made_next read c.args.texts.now c.loop-text.text-index no_text us c.args.steps.now c.loop-text.steps
    c.spelled_unit.new.steps
    c.loop-text-test.true all (c.loop-text.invariant.made us all) c.spelled_unit.ensures.made)

pub returns-clause-made : goal.returns-clause-made
returns-clause-made g c =
    λ us all. made_all c.loop-text.text-index us c.args.steps.now c.loop-text.steps (c.loop-text.invariant.made us all)
