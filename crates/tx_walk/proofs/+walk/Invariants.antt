use Rattle.std.proofs.Common.{◌≡◌, ◌+◌, ◌-◌, ◌*◌}
use Rattle.std.specs.List.{All}
use Rattle.tx_tree.specs.WideTree.{children_of}
use Rattle.tx_walk.specs.Guides.{guide_of}
use Rattle.tx_walk.specs.Spending.{RisesAlike}
use Rattle.tx_walk.specs.Steps.{IsReady, stage_of}
use Rattle.tx_walk.proofs.Going.{Going}
use Rattle.tx_walk.proofs.+walk.Given as goal

abbrev pub decreases-walking::walk_tree : goal.decreases-walking::walk_tree
decreases-walking::walk_tree g l = 16 * l.levels

abbrev pub decreases-walking::unshelled : goal.decreases-walking::unshelled
decreases-walking::unshelled g l = 16 * l.levels - 1

abbrev pub decreases-walking::document : goal.decreases-walking::document
decreases-walking::document g l = 16 * l.levels - 2

abbrev pub decreases-walking::children : goal.decreases-walking::children
decreases-walking::children g l = 16 * l.levels + 2

abbrev pub decreases-walking::one_child : goal.decreases-walking::one_child
decreases-walking::one_child g l = 16 * l.levels + 1

abbrev pub decreases-walking::scope : goal.decreases-walking::scope
decreases-walking::scope g l = 16 * l.levels - 2

abbrev pub decreases-walking::scope_with : goal.decreases-walking::scope_with
decreases-walking::scope_with g l = 16 * l.levels - 3

abbrev pub decreases-walking::inside : goal.decreases-walking::inside
decreases-walking::inside g l = 16 * l.levels + 2

abbrev pub decreases-walking::set_inside : goal.decreases-walking::set_inside
decreases-walking::set_inside g l = 16 * l.levels + 1

abbrev pub decreases-layering::shelled : goal.decreases-layering::shelled
decreases-layering::shelled g l = 16 * l.levels - 1

abbrev pub decreases-layering::in_layers : goal.decreases-layering::in_layers
decreases-layering::in_layers g l = 16 * l.levels

abbrev pub decreases-layering::in_child : goal.decreases-layering::in_child
decreases-layering::in_child g l = 16 * l.levels - 1

abbrev pub decreases-layering::in_layer : goal.decreases-layering::in_layer
decreases-layering::in_layer g l = 16 * l.levels - 1

abbrev pub decreases-layering::through_layer : goal.decreases-layering::through_layer
decreases-layering::through_layer g l = 16 * l.levels - 2

abbrev pub decreases-layering::behind_values : goal.decreases-layering::behind_values
decreases-layering::behind_values g l = 16 * l.levels - 3

abbrev pub decreases-layering::inside_layer : goal.decreases-layering::inside_layer
decreases-layering::inside_layer g l = 16 * l.levels + 2

abbrev pub decreases-layering::set_layer : goal.decreases-layering::set_layer
decreases-layering::set_layer g l = 16 * l.levels + 1

abbrev pub invariant-walking::children-loop-i : goal.invariant-walking::children-loop-i
invariant-walking::children-loop-i g l = record {
  going : Going (guide_of (g.O.Opener.opens l.opener) l.kept) l.levels l.left l.path (children_of l.t)
      (stage_of l.fn.joined l.fn.env l.fn.done.items l.fn.steps l.fn.progress.layers.items) l.i
      (stage_of l.joined l.env l.done.items l.steps l.progress.layers.items);
  done_ready : All IsReady l.done.items;
  scopes : l.env.scopes ≡ l.fn.env.scopes;
  spent : RisesAlike l.fn.steps l.fn.progress.spent l.steps l.progress.spent;
}
