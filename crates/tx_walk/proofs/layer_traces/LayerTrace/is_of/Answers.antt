use Rattle.std.proofs.Common.{ap, sym, ◌∙◌}
use Rattle.std.specs.FinMap.{from_entries}
use Rattle.tx_walk.specs.SameTrees.{is_same}
use Rattle.tx_walk.specs.LayerTraces.{TreeTrace}
use Rattle.tx_walk.proofs.EachOnce.{is_of_by}
use Rattle.tx_walk.proofs.layer_traces.LayerTrace.is_of.Goals as goal

pub returns-then-same_trees : goal.returns-then-same_trees
returns-then-same_trees c =
    is_of_by c.args.self.now c.args.tree.now (from_entries c.args.looks.now) c.self.inside.trace.looks
    c.same_trees.result c.are_among.result (sym (ap (λ (m : TreeTrace). m.trace.looks) c.self.view_is))
    c.self.invariant.once.0
    (c.same_trees.ensures ∙ ap (λ (m : TreeTrace). is_same m.tree c.args.tree.now) c.self.view_is)
    c.if-same_trees.true c.are_among.ensures
