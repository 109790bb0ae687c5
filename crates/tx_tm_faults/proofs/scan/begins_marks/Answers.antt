use Rattle.std.proofs.Common.{not, reverse, sym, ap, ◌∙◌}
use Rattle.std.specs.Prelude.{option_copied}
use Rattle.tx_tm_form.specs.Fronts.{begins}
use Rattle.tx_tm_faults.proofs.Innermost.{begins_none, in_block, in_argument}
use Rattle.tx_tm_faults.proofs.scan.begins_marks.Goals as goal

pub returns-in-None : goal.returns-in-None
returns-in-None c =
    begins_none c.args.bytes.now c.args.label.now (reverse c.args.marks.now)
    (sym c.innermost.ensures ∙ ap option_copied c.in-None.is)

pub returns-then-is_none : goal.returns-then-is_none
returns-then-is_none c =
    c.begins.ensures
    ∙ ap (λ x. begins x c.label.result.now) c.bytes.ensures
    ∙ ap (begins c.args.label.now) c.label.ensures
    ∙ in_block c.args.bytes.now c.args.label.now (reverse c.args.marks.now) c.in-Some.mark.now
    (sym c.innermost.ensures ∙ ap option_copied c.in-Some.is) (c.is_none.ensures ∙ ap not c.if-is_none.true)

pub returns-else-is_none : goal.returns-else-is_none
returns-else-is_none c =
    c.if-is_none.false
    ∙ in_argument c.args.bytes.now c.args.label.now (reverse c.args.marks.now) c.in-Some.mark.now
    (sym c.innermost.ensures ∙ ap option_copied c.in-Some.is) (c.is_none.ensures ∙ ap not c.if-is_none.false)
