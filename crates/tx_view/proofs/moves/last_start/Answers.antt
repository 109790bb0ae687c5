use Rattle.std.proofs.Common.{List, ℕ, refl, ap}
use Rattle.std.specs.Prelude.{None, Some, option_copied}
use Rattle.tx_unit_layout.specs.Stretches.{part_or_root}
use Rattle.tx_view.proofs.StopAlone.{last_is}
use Rattle.tx_view.proofs.moves.last_start.Goals as goal

pub returns-in-None : goal.returns-in-None
returns-in-None c =
    let b : List ℕ = part_or_root (option_copied c.args.part) in
    last_is c.args.path.now b c.args.line.now c.args.goal c.all.result.now c.item_number-number.result
    c.last_mark.result None None c.all.ensures c.item_number-number.ensures.number c.last_mark.ensures c.in-None.is
    refl

pub returns-in-Some : goal.returns-in-Some
returns-in-Some c =
    let b : List ℕ = part_or_root (option_copied c.args.part) in
    last_is c.args.path.now b c.args.line.now c.args.goal c.all.result.now c.item_number-number.result
    c.last_mark.result (Some c.in-Some.mark) (Some c.start_of.result) c.all.ensures
    c.item_number-number.ensures.number c.last_mark.ensures c.in-Some.is (ap (λ p. Some p) c.start_of.ensures)
