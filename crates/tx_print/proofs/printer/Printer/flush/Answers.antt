use Rattle.std.proofs.Common.{List, ℕ, refl, sym, subst, ◌∙◌}
use Rattle.std.proofs.lemmas.List.{append-nil}
use Rattle.tx_outside.specs.Known.{AppendsPart}
use Rattle.tx_print.proofs.Adding.{adds_broken}
use Rattle.tx_print.proofs.printer.Printer.flush.Goals as goal

pub returns-in-Err-Failed-clause-adds : goal.returns-in-Err-Failed-clause-adds
returns-in-Err-Failed-clause-adds g c =
    let before = (g.O.Sink.seen c.args.out.now).written in
    let after = (g.O.Sink.seen c.write_all.new.out).written in
    let part = subst (λ (t : List ℕ). AppendsPart t before after)
    (c.as_slice.ensures.value ∙ sym (append-nil c.args.self.now.waiting.items)) c.in-Err-Failed.ensures.failed_part in
    adds_broken _ _ _ c.if-self.false refl part c.in-Err-Failed.ensures.failed_rose
    c.write_all.ensures.goes_on
