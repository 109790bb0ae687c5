use Rattle.std.proofs.Common.{◌<◌, ◌≤◌, length, refl, ap, sym, ◌∙◌, ltb-true, ltb-false, arith}
use Rattle.std.proofs.lemmas.Option.{slice_get_read, slice_get_within}
use Rattle.std.specs.Prelude.{slice_get}
use Rattle.tx_replay.proofs.AtPaths.{found_at, none_at}
use Rattle.tx_replay.proofs.finding.trace_near.Goals as goal

pub returns-in_err-i : goal.returns-in_err-i
returns-in_err-i c =
    rw c.from_residual.ensures (none_at c.args.cached.now c.args.path.now c.in_err-i.ensures)

pub returns-in_err-entry : goal.returns-in_err-entry
returns-in_err-entry c =
    let few : c.in_ok-i.i < length c.entries.result.now =
    slice_get_within c.entries.result.now c.in_ok-i.i c.in_ok-i.ensures.entry
    (ap (λ xs. slice_get xs c.in_ok-i.i) c.entries.ensures.entries ∙ c.in_ok-i.ensures.there) in
    let many : length c.entries.result.now ≤ c.in_ok-i.i =
    ltb-false c.in_ok-i.i (length c.entries.result.now) (sym c.in_err-entry.ensures.lookup.0) in
    absurd (omega (arith, few, many))

pub returns : goal.returns
returns c =
    found_at c.args.cached.now c.entries.result.now c.args.path.now c.in_ok-i.i c.in_ok-entry.entry.now
    c.entries.ensures.order c.entries.ensures.entries c.in_ok-i.ensures
    (slice_get_read c.entries.result.now (length c.entries.result.now) c.in_ok-i.i c.in_ok-entry.entry.now refl
    (ltb-true c.in_ok-i.i (length c.entries.result.now) (sym c.in_ok-entry.ensures.lookup.0))
    c.in_ok-entry.ensures.lookup.1)
