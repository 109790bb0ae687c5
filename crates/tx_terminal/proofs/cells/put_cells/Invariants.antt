use Rattle.std.proofs.Common.{◌≡◌}
use Rattle.tx_terminal.proofs.Emulating.{put_up_to}
use Rattle.tx_terminal.proofs.cells.put_cells.Given as goal

-- The character is put up to this cell.
abbrev pub invariant-loop-at : goal.invariant-loop-at
invariant-loop-at l = l.row ≡ put_up_to l.fn.row l.column l.fn.glyphs l.at l.ink
