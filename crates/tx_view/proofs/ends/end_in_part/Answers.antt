use Rattle.std.proofs.Common.{List, ℕ, sym, ◌∙◌}
use Rattle.std.specs.Prelude.{option_copied}
use Rattle.tx_unit_layout.specs.Stretches.{part_or_root}
use Rattle.tx_view.proofs.EndsUnder.{ends_in_part, no_ends_in_part}
use Rattle.tx_view.proofs.ends.end_in_part.Goals as goal

pub returns-in-None : goal.returns-in-None
returns-in-None c =
    let b : List ℕ = part_or_root (option_copied c.args.part) in
    sym (no_ends_in_part c.args.end b c.args.steps.now c.args.offset c.args.lines.now c.in-None.ensures)

pub returns-in-Some : goal.returns-in-Some
returns-in-Some c =
    let b : List ℕ = part_or_root (option_copied c.args.part) in
    c.end_on_lines.ensures
    ∙ sym (ends_in_part c.args.end b c.in-Some.rest.now c.args.steps.now c.args.offset c.args.lines.now
    c.in-Some.ensures)
