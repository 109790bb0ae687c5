use Rattle.std.proofs.Common.{refl, sym, ◌∙◌, length}
use Rattle.std.proofs.lemmas.Option.{slice_get_read}
use Rattle.tx_walk.specs.Walked.{kept_in}
use Rattle.tx_walk.proofs.Found.{past_other, found_there, past_all}
use Rattle.tx_walk.proofs.prior.searched_number.Goals as goal

pub loop-i-preserved : goal.loop-i-preserved
loop-i-preserved c =
    past_other c.args.kept.now c.args.path.now c.loop-i.i c.index-kept-i.result
    (kept_in c.args.kept.now c.args.path.now)
    (slice_get_read c.args.kept.now (length c.args.kept.now) c.loop-i.i c.index-kept-i.result refl c.loop-i-test.true
    c.index-kept-i.is)
    (sym c.stands_at.ensures ∙ c.if-stands_at.false) c.loop-i.invariant

pub returns-then-stands_at : goal.returns-then-stands_at
returns-then-stands_at c =
    found_there c.args.kept.now c.args.path.now c.loop-i.i c.index-kept-i.result
    (slice_get_read c.args.kept.now (length c.args.kept.now) c.loop-i.i c.index-kept-i.result refl c.loop-i-test.true
    c.index-kept-i.is)
    (sym c.stands_at.ensures ∙ c.if-stands_at.true) c.loop-i.invariant

pub returns : goal.returns
returns c = past_all c.args.kept.now c.args.path.now c.loop-i.i c.loop-i.invariant c.loop-i-test.false
