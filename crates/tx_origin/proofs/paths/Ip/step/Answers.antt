use Rattle.std.proofs.Common.{◌∙◌, ap, sym, length}
use Rattle.std.specs.Prelude.{slice_get}
use Rattle.tx_origin.specs.Paths.{numbers_of}
use Rattle.tx_origin.proofs.Numbers.{number_here}
use Rattle.tx_origin.proofs.paths.Ip.step.Goals as goal

pub returns-then-len-i : goal.returns-then-len-i
returns-then-len-i c =
    let here = ap length (sym c.deref.ensures) ∙ sym c.len.ensures ∙ c.if-len-i.true in
    let last = number_here c.in-Below.above.value c.in-Below.number c.args.i here in
    sym last ∙ ap (λ link. slice_get (numbers_of link) c.args.i) (sym c.in-Below.is)
    ∙ ap (λ ns. slice_get ns c.args.i) c.path.view_is ∙ c.loop-path.invariant
