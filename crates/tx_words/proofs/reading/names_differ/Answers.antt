use Rattle.std.proofs.Common.{◌∙◌, sym}
use Rattle.tx_words.proofs.Differing.{shared_at, own_at}
use Rattle.tx_words.proofs.reading.names_differ.Goals as goal

pub returns-then-not-is_free : goal.returns-then-not-is_free
returns-then-not-is_free c = (
  λ e. absurd cc,
  λ differ. absurd (shared_at _ c.args.files.now c.loop-i.i _ c.loop-i-test.true
      (λ free. let e = sym c.if-not-is_free.true ∙ c.is_free.ensures.1 free in absurd cc) c.loop-i.invariant differ),
)

pub loop-i-preserved : goal.loop-i-preserved
loop-i-preserved c =
    own_at _ c.args.files.now c.loop-i.i _ c.loop-i-test.true
    (c.is_free.ensures.0 c.if-not-is_free.false) c.loop-i.invariant
