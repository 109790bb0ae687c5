use Rattle.std.proofs.Common.{◌≡◌}
use Rattle.tx_walk.specs.Layers.{stage_in}
use Rattle.tx_walk.specs.Prior.{holder_of}
use Rattle.tx_walk.specs.Shells.{wide_layer}
use Rattle.tx_walk.specs.Spending.{RisesAlike}
use Rattle.tx_walk.proofs.LayerSteps.{LayerGoing}
use Rattle.tx_walk.proofs.layers.LayerSoFar.add_layer.Given as goal

abbrev pub invariant-loop-i : goal.invariant-loop-i
invariant-loop-i g l = record {
  going : LayerGoing (holder_of l.kept) l.levels l.left (wide_layer l.layer)
      (stage_in l.fn.self l.fn.env l.fn.steps) l.i
      (stage_in l.self l.env l.steps);
  scopes : l.env.scopes ≡ l.fn.env.scopes;
  layers : l.progress.layers ≡ l.fn.progress.layers;
  spent : RisesAlike l.fn.steps l.fn.progress.spent l.steps l.progress.spent;
}
