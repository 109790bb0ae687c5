use Rattle.std.proofs.Common.{◌∙◌, sym}
use Rattle.tx_words.proofs.Differing.{taken_at, free_at}
use Rattle.tx_words.proofs.reading.is_free.Goals as goal

pub returns-then-eq : goal.returns-then-eq
returns-then-eq c = (
  λ e. absurd cc,
  λ free. absurd (taken_at c.args.name.now _ c.args.files.now c.loop-other.other-index _ c.loop-other-test.true
      (sym c.eq.ensures ∙ c.if-eq.true) c.loop-other.invariant free),
)

pub loop-other-preserved : goal.loop-other-preserved
loop-other-preserved c =
    free_at c.args.name.now _ c.args.files.now c.loop-other.other-index _ c.loop-other-test.true
    (sym c.eq.ensures ∙ c.if-eq.false) c.loop-other.invariant
