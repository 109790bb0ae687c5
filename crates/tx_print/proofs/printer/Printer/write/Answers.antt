use Rattle.std.proofs.Common.{List, ℕ, refl, sym, ap, subst, ◌∙◌, ◌++◌}
use Rattle.std.specs.Io.KnownBytes.{append_known}
use Rattle.tx_outside.specs.Known.{AppendsPart}
use Rattle.tx_print.proofs.Adding.{adds_broken, adds_written}
use Rattle.tx_print.proofs.printer.Printer.write.Goals as goal

pub returns-in-Ok : goal.returns-in-Ok
returns-in-Ok g c =
    let none = c.requires c.if-self.false in
    let before = (g.O.Sink.seen c.args.out.now).written in
    let is = c.in-Ok.ensures.written ∙ ap (λ t. append_known before (t ++ c.args.piece.now)) (sym none) in
    adds_written _ _ _ c.if-self.false c.if-self.false none is
    c.write_all.ensures.goes_on

pub returns-in-Err-Failed : goal.returns-in-Err-Failed
returns-in-Err-Failed g c =
    let none = c.requires c.if-self.false in
    let before = (g.O.Sink.seen c.args.out.now).written in
    let after = (g.O.Sink.seen c.write_all.new.out).written in
    let part = subst (λ (t : List ℕ). AppendsPart (t ++ c.args.piece.now) before after) (sym none)
    c.in-Err-Failed.ensures.failed_part in
    adds_broken _ _ _ c.if-self.false refl part c.in-Err-Failed.ensures.failed_rose
    c.write_all.ensures.goes_on
