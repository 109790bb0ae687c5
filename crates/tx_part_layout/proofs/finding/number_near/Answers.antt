use Rattle.std.proofs.Common.{sym, ◌∙◌, length, ltb-true, refl}
use Rattle.std.proofs.lemmas.Option.{slice_get_read}
use Rattle.tx_part_layout.proofs.Reusing.{found_near}
use Rattle.tx_part_layout.proofs.finding.number_near.Goals as goal

pub returns-then-stands_at : goal.returns-then-stands_at
returns-then-stands_at c =
    let few = ltb-true c.args.hint (length c.args.old.now) (sym c.in-Some.ensures.lookup.0) in (
      few,
      found_near c.args.old.now c.args.path.now c.args.hint c.in-Some.placed.now c.requires.distinct
          (slice_get_read c.args.old.now (length c.args.old.now) c.args.hint c.in-Some.placed.now refl few
          c.in-Some.ensures.lookup.1)
          (sym c.stands_at.ensures ∙ c.if-stands_at.true),
    )
