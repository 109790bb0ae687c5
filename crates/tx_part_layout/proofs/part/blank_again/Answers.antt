use Rattle.std.proofs.Common.{◌∙◌, refl, rules}
use Rattle.tx_part_layout.specs.Laying.{given_back_by}
use Rattle.tx_part_layout.proofs.Blanks.{blank_laid, blank_again}
use Rattle.tx_part_layout.proofs.part.blank_again.Goals as goal

pub returns-clause-laid : goal.returns-clause-laid
returns-clause-laid g c =
    blank_laid c.args.width c.args.laid.now _ (given_back_by c.args.frames.now c.args.laid.now.after) c.requires.laid
    c.requires.blank c.in_ok-share.ensures c.in_ok-copy.ensures c.in_ok-copy-2.ensures refl
    (c.in_ok-same_errors.ensures ∙ c.deref-2.ensures.value) c.in_ok-paragraphs.ensures (search rules)

pub returns-clause-paragraphs : goal.returns-clause-paragraphs
returns-clause-paragraphs g c =
    blank_again c.args.width c.args.laid.now c.args.frames.now c.in_ok-paragraphs.paragraphs.items c.requires.laid
    c.requires.blank c.in_ok-paragraphs.ensures
