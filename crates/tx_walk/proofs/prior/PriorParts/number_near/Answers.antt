use Rattle.std.proofs.Common.{refl, sym, ◌∙◌, length, ltb-true}
use Rattle.std.proofs.lemmas.Option.{slice_get_read}
use Rattle.tx_walk.proofs.Found.{found_in}
use Rattle.tx_walk.proofs.prior.PriorParts.number_near.Goals as goal

pub returns-then-stands_at : goal.returns-then-stands_at
returns-then-stands_at c =
    found_in c.args.self.now c.all.result.now c.args.path.now c.args.hint c.in-Some.part.now c.all.ensures
    c.requires.distinct
    (slice_get_read c.all.result.now (length c.all.result.now) c.args.hint c.in-Some.part.now refl
    (ltb-true c.args.hint (length c.all.result.now) (sym c.in-Some.ensures.lookup.0)) c.in-Some.ensures.lookup.1)
    (sym c.stands_at.ensures ∙ c.if-stands_at.true)
