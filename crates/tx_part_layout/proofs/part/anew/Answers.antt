use Rattle.std.proofs.Common.{◌∙◌, ap, sym, if◌then◌else◌}
use Rattle.tx_part_layout.specs.LaidParts.{items_in}
use Rattle.tx_part_layout.proofs.SlotOf.{new_is}
use Rattle.tx_part_layout.proofs.part.anew.Goals as goal

pub returns-clause-slot : goal.returns-clause-slot
returns-clause-slot g c = λ old not_so free.
    let laid = c.in_ok-laid.ensures in
    new_is c.args.width old c.args.part.now c.args.attrs.now c.args.frames.now c.args.above free c.in_ok-slot.slot
    c.in_ok-laid.items c.in_ok-laid.laid.value (c.in_ok-slot.ensures old) laid.laid laid.value laid.before
    laid.paragraphs
    (laid.items
    ∙ ap (λ b. if b then 0 else items_in c.in_ok-laid.laid.value.paragraphs.items) (sym not_so))
    laid.few
