use Rattle.tx_part_items.proofs.ByParts.{each_shown, paragraphs_shown, errors_shown, after_shown}
use Rattle.tx_part_items.proofs.laws.parts_shown_law.Goals as goal

pub returns : goal.returns
returns c =
    record { each = each_shown; paragraphs = paragraphs_shown; errors = errors_shown; after = after_shown }
