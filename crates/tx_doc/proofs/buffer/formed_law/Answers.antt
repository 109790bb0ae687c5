use Rattle.std.proofs.Common.{arith, subst}
use Rattle.std.proofs.lemmas.List.{take_all}
use Rattle.tx_doc.specs.Buffers.{AreFormed}
use Rattle.tx_tree.specs.Limits.{IsWellFormed, IsWithinLimits}
use Rattle.tx_doc.proofs.Each.{each_more}
use Rattle.tx_doc.proofs.buffer.formed_law.Goals as goal

pub loop-buffer-preserved : goal.loop-buffer-preserved
loop-buffer-preserved c =
    each_more (λ buffer. IsWellFormed buffer.tree × IsWithinLimits buffer.tree) c.args.buffers.now
    c.loop-buffer.buffer-index c.buffer-item.result (omega arith) c.buffer-item.is
    c.loop-buffer.invariant (c.size-size.ensures.well_formed, c.size-size.ensures.within)

pub returns : goal.returns
returns c =
    subst AreFormed (take_all c.loop-buffer.buffer-index c.args.buffers.now (omega arith)) c.loop-buffer.invariant
