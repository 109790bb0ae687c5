use Rattle.std.proofs.Common.{◌∙◌, ap}
use Rattle.tx_tree.specs.PathSpelling.{numbers_text}
use Rattle.tx_print.proofs.Adding.{adds_also}
use Rattle.tx_print.proofs.Wording.{empty_length, root_words, some_length, steps_words}
use Rattle.tx_print.proofs.pieces.push_path.Goals as goal

pub returns-then-is_empty : goal.returns-then-is_empty
returns-then-is_empty g c =
    adds_also (root_words c.args.path.now (empty_length _ _ _ c.is_empty.ensures c.steps.ensures c.if-is_empty.true))
    c.push.ensures

pub returns-else-is_empty : goal.returns-else-is_empty
returns-else-is_empty g c =
    adds_also (ap numbers_text c.steps-else-is_empty.ensures
    ∙ steps_words c.args.path.now (some_length _ _ _ c.is_empty.ensures c.steps.ensures c.if-is_empty.false))
    c.push_steps.ensures
