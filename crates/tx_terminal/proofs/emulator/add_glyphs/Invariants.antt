use Rattle.std.proofs.Common.{◌≡◌, ◌++◌, take, drop, length}
use Rattle.tx_terminal.specs.Emulators.{glyphs_of}
use Rattle.tx_terminal.proofs.emulator.add_glyphs.Given as goal

-- What is added so far and what is left are all.
abbrev pub invariant-loop-content : goal.invariant-loop-content
invariant-loop-content l = record {
  added : l.out.items ++ glyphs_of (drop l.content-index l.row) ≡ l.fn.out.items ++ glyphs_of l.row;
  grows : take (length l.fn.out.items) l.out.items ≡ l.fn.out.items;
}
