use Rattle.std.proofs.Common.{reverse, sym, ap, ◌∙◌}
use Rattle.std.specs.Prelude.{option_copied}
use Rattle.tx_tm_faults.proofs.Innermost.{mismatch_none, mismatch_some}
use Rattle.tx_tm_faults.proofs.scan.mismatch.Goals as goal

pub returns-in-None : goal.returns-in-None
returns-in-None c =
    λ bytes. mismatch_none bytes (reverse c.args.marks.now) c.args.place
    (sym c.innermost.ensures ∙ ap option_copied c.in-None.is)

pub returns-in-Some : goal.returns-in-Some
returns-in-Some c =
    λ bytes. mismatch_some bytes (reverse c.args.marks.now) c.args.place c.in-Some.mark.now
    (sym c.innermost.ensures ∙ ap option_copied c.in-Some.is)
