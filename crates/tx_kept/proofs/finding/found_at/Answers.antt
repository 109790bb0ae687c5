use Rattle.std.proofs.Common.{◌≡◌, Some, refl, sym, length, ltb-true}
use Rattle.std.specs.Prelude.{slice_get}
use Rattle.std.proofs.lemmas.Option.{slice_get_read}
use Rattle.std.proofs.Common.{◌∙◌}
use Rattle.tx_kept.proofs.Found.{found_there, missed_there}
use Rattle.tx_kept.proofs.finding.found_at.Goals as goal

pub returns-then-stands_at : goal.returns-then-stands_at
returns-then-stands_at g c =
    let found = c.in_ok-entry.ensures.lookup in
    found_there c.args.entries.now c.args.path.now c.args.number c.in_ok-entry.entry.now
    (slice_get_read c.args.entries.now (length c.args.entries.now) c.args.number c.in_ok-entry.entry.now refl
    (ltb-true c.args.number (length c.args.entries.now) (sym found.0)) found.1)
    (sym c.stands_at.ensures ∙ c.if-stands_at.true)

pub returns-else-stands_at : goal.returns-else-stands_at
returns-else-stands_at g c =
    let found = c.in_ok-entry.ensures.lookup in
    missed_there c.args.entries.now c.args.path.now c.args.number c.in_ok-entry.entry.now
    (slice_get_read c.args.entries.now (length c.args.entries.now) c.args.number c.in_ok-entry.entry.now refl
    (ltb-true c.args.number (length c.args.entries.now) (sym found.0)) found.1)
    (sym c.stands_at.ensures ∙ c.if-stands_at.false)
