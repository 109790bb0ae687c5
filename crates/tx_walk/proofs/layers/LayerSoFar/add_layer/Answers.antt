use Rattle.std.proofs.lemmas.Option.{slice_get_read}
use Rattle.std.proofs.Common.{rules, refl, length, ◌∙◌, arith}
use Rattle.tx_walk.specs.Layers.{stage_in}
use Rattle.tx_walk.specs.Prior.{holder_of}
use Rattle.tx_walk.specs.Shells.{wide_layer}
use Rattle.tx_walk.proofs.Spending.{stays, rise_both}
use Rattle.tx_walk.proofs.LayerSteps.{layer_begins, setting_next, setting_over, layer_ends}
use Rattle.tx_walk.proofs.layers.LayerSoFar.add_layer.Goals as goal

pub loop-i-init : goal.loop-i-init
loop-i-init g c = record {
  going = layer_begins (holder_of c.args.kept.now) c.args.levels c.args.left (wide_layer c.args.layer.now)
      (stage_in c.args.self.now c.args.env.now c.args.steps.now) c.requires.joined c.requires.settings;
  scopes = refl;
  spent = stays c.args.steps.now c.args.progress.now.spent;
  layers = refl;
}

pub add_setting-requires-clause-cost : goal.add_setting-requires-clause-cost
add_setting-requires-clause-cost g c = c.loop-i.invariant.going.cost

pub returns-then-not-went-clause-comes : goal.returns-then-not-went-clause-comes
returns-then-not-went-clause-comes g c =
    setting_over (holder_of c.args.kept.now) c.args.levels c.args.left (wide_layer c.args.layer.now)
    (stage_in c.args.self.now c.args.env.now c.args.steps.now) c.loop-i.i
    (stage_in c.loop-i.self c.loop-i.env c.loop-i.steps) c.loop-i.invariant.going c.index.result.now
    c.index-in-loop-i.result.now (slice_get_read c.args.layer.now.names.items (length c.args.layer.now.names.items)
    c.loop-i.i c.index.result.now
    refl (omega (arith, c.loop-i-test.true, c.loop-i.auto.i-end)) c.index.ensures) (slice_get_read
    c.args.layer.now.values.items (length c.args.layer.now.values.items) c.loop-i.i
    c.index-in-loop-i.result.now refl
    (omega (arith, c.loop-i-test.true, c.loop-i.auto.i-end, c.requires.full.0)) c.index-in-loop-i.ensures)
    (stage_in c.add_setting.new.self c.add_setting.new.env c.add_setting.new.steps)
    (rw c.if-not-went.true at c.in_ok-went.ensures.comes)

pub loop-i-preserved : goal.loop-i-preserved
loop-i-preserved g c = record {
  going = setting_next (holder_of c.args.kept.now) c.args.levels c.args.left (wide_layer c.args.layer.now)
      (stage_in c.args.self.now c.args.env.now c.args.steps.now) c.loop-i.i
      (stage_in c.loop-i.self c.loop-i.env c.loop-i.steps) c.loop-i.invariant.going c.index.result.now
      c.index-in-loop-i.result.now (slice_get_read c.args.layer.now.names.items (length c.args.layer.now.names.items)
      c.loop-i.i c.index.result.now
      refl (omega (arith, c.loop-i-test.true, c.loop-i.auto.i-end)) c.index.ensures) (slice_get_read
      c.args.layer.now.values.items (length c.args.layer.now.values.items) c.loop-i.i
      c.index-in-loop-i.result.now refl
      (omega (arith, c.loop-i-test.true, c.loop-i.auto.i-end, c.requires.full.0)) c.index-in-loop-i.ensures)
      (stage_in c.add_setting.new.self c.add_setting.new.env c.add_setting.new.steps)
      (rw c.if-not-went.false at c.in_ok-went.ensures.comes);
  scopes = c.in_ok-went.ensures.scopes ∙ c.loop-i.invariant.scopes;
  layers = c.in_ok-went.ensures.layers ∙ c.loop-i.invariant.layers;
  spent = rise_both c.args.steps.now c.args.progress.now.spent c.loop-i.steps c.loop-i.progress.spent
      c.add_setting.new.steps c.add_setting.new.progress.spent c.loop-i.invariant.spent c.in_ok-went.ensures.spent;
}

pub returns-clause-comes : goal.returns-clause-comes
returns-clause-comes g c =
    layer_ends (holder_of c.args.kept.now) c.args.levels c.args.left (wide_layer c.args.layer.now)
    (stage_in c.args.self.now c.args.env.now c.args.steps.now) c.loop-i.i
    (stage_in c.loop-i.self c.loop-i.env c.loop-i.steps) c.loop-i.invariant.going (search rules) c.requires.full.0
