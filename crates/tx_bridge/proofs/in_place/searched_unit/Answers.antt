use Rattle.std.proofs.Common.{◌∙◌, sym, arith, slice_index_or}
use Rattle.std.proofs.lemmas.Option.{slice_get-get_or}
use Rattle.tx_bridge.specs.InPlace.{is_changed}
use Rattle.tx_bridge.proofs.Slotting.{miss_more, miss_all}
use Rattle.tx_bridge.proofs.in_place.searched_unit.Goals as goal

pub returns-then-is_changed : goal.returns-then-is_changed
returns-then-is_changed c = (
  slice_index_or c.args.bridges.now c.loop-i.i c.index-bridges-i.result,
  slice_get-get_or c.args.bridges.now c.loop-i.i c.index-bridges-i.result (omega arith),
  sym c.is_changed.ensures ∙ c.if-is_changed.true,
)

pub loop-i-preserved : goal.loop-i-preserved
loop-i-preserved c =
    miss_more (λ b. is_changed c.args.mods.now b.unit) c.args.bridges.now c.loop-i.i c.index-bridges-i.result
    c.loop-i.invariant (omega arith) (sym c.is_changed.ensures ∙ c.if-is_changed.false)

pub returns : goal.returns
returns c =
    miss_all (λ b. is_changed c.args.mods.now b.unit) c.args.bridges.now c.loop-i.i c.loop-i.invariant (omega arith)
