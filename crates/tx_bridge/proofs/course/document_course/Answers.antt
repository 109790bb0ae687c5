use Rattle.std.proofs.Common.{◌∙◌}
use Rattle.tx_bridge.proofs.course.document_course.Goals as goal

pub returns-clause-trees : goal.returns-clause-trees
returns-clause-trees g c =
    c.in_ok-add_strays.ensures.trees c.args.before.now
    (record {
      last = c.requires.applies.0;
      made = c.requires.applies.1;
      trees = c.deref-4.ensures.value ∙ c.in_ok-trees.ensures.trees;
    }) c.requires.aside
    (c.in_ok-moves.ensures.trees c.args.before.now
    (record {
      last = c.requires.applies.0;
      made = c.requires.applies.1;
      trees = c.deref-2.ensures.value ∙ c.in_ok-trees.ensures.trees;
    }) c.requires.stand)
