use Rattle.std.proofs.Common.{sym, ◌∙◌, length, refl}
use Rattle.std.proofs.lemmas.Option.{slice_get_read}
use Rattle.tx_part_layout.proofs.Reusing.{past_other, found_there}
use Rattle.tx_part_layout.proofs.finding.number_at.Goals as goal

pub returns-then-stands_at : goal.returns-then-stands_at
returns-then-stands_at c = (
  c.loop-i-test.true,
  found_there c.args.old.now c.args.path.now c.loop-i.i c.index-old-i.result
      (slice_get_read c.args.old.now (length c.args.old.now) c.loop-i.i c.index-old-i.result refl c.loop-i-test.true
      c.index-old-i.is)
      (sym c.stands_at.ensures ∙ c.if-stands_at.true) c.loop-i.invariant,
)

pub loop-i-preserved : goal.loop-i-preserved
loop-i-preserved c =
    past_other c.args.old.now c.args.path.now c.loop-i.i c.index-old-i.result _
    (slice_get_read c.args.old.now (length c.args.old.now) c.loop-i.i c.index-old-i.result refl c.loop-i-test.true
    c.index-old-i.is)
    (sym c.stands_at.ensures ∙ c.if-stands_at.false) c.loop-i.invariant
