use Rattle.std.proofs.Common.{sym, ap, ◌∙◌}
use Rattle.std.specs.FinMap.{get}
use Rattle.tx_exec.specs.States.{before_of}
use Rattle.tx_walk.specs.SameTrees.{same, is_same}
use Rattle.tx_walk.specs.Held.{agrees}
use Rattle.tx_walk.specs.LayerTraces.{TreeTrace}
use Rattle.tx_walk.proofs.Agreed.{test_same}
use Rattle.tx_walk.proofs.Listing.{serves_then}
use Rattle.tx_walk.proofs.layer_traces.LayerTrace.serves.Goals as goal

pub returns-then-same_trees : goal.returns-then-same_trees
returns-then-same_trees c =
    serves_then c.args.self.now c.args.t.now (before_of c.args.env.now) c.same_trees.result c.looks_agree.result
    (c.same_trees.ensures ∙ ap (λ (m : TreeTrace). is_same m.tree c.args.t.now) c.self.view_is) c.if-same_trees.true
    (c.looks_agree.ensures
    ∙ test_same (λ look. same (get c.args.env.now.map look.0) look.1) c.self.inside.trace.looks c.self.invariant.once.0
    ∙ ap (λ (m : TreeTrace). agrees (before_of c.args.env.now) m.trace.looks) c.self.view_is)
