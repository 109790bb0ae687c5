use Rattle.std.proofs.Common.{take}
use Rattle.tx_doc.specs.Buffers.{AreFormed}
use Rattle.tx_doc.proofs.buffer.formed_law.Given as goal

abbrev pub invariant-loop-buffer : goal.invariant-loop-buffer
invariant-loop-buffer l = AreFormed (take l.buffer-index l.buffers)
