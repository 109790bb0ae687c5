use Rattle.tx_part_items.proofs.Deeper.{show_deeper, paragraphs_deeper, placed_paragraphs}
use Rattle.tx_part_items.proofs.laws.items_under_law.Goals as goal

pub returns : goal.returns
returns c = record { shown = show_deeper; paragraphs = paragraphs_deeper; part = placed_paragraphs }
