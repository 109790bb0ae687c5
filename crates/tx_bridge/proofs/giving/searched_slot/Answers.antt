use Rattle.std.proofs.Common.{◌∙◌, sym, arith, slice_index_or}
use Rattle.std.proofs.lemmas.Option.{slice_get-get_or}
use Rattle.tx_bridge.specs.Carrying.{is_path}
use Rattle.tx_bridge.proofs.Slotting.{slot_found, miss_more, miss_all}
use Rattle.tx_bridge.proofs.giving.searched_slot.Goals as goal

pub returns-then-has_path-clause-slot : goal.returns-then-has_path-clause-slot
returns-then-has_path-clause-slot c =
    slot_found c.args.path.now c.args.new.now c.loop-i.i
    (slice_index_or c.args.new.now c.loop-i.i c.index-new-i.result) c.requires.apart
    (slice_get-get_or c.args.new.now c.loop-i.i c.index-new-i.result (omega arith))
    (sym c.has_path.ensures ∙ c.if-has_path.true)

pub loop-i-preserved : goal.loop-i-preserved
loop-i-preserved c =
    miss_more (λ b. is_path c.args.path.now b.unit.path) c.args.new.now c.loop-i.i c.index-new-i.result
    c.loop-i.invariant (omega arith) (sym c.has_path.ensures ∙ c.if-has_path.false)

pub returns-clause-slot : goal.returns-clause-slot
returns-clause-slot c =
    miss_all (λ b. is_path c.args.path.now b.unit.path) c.args.new.now c.loop-i.i c.loop-i.invariant (omega arith)
