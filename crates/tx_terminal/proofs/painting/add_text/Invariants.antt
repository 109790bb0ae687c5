use Rattle.std.proofs.Common.{◌≡◌, ◌++◌, drop, take, length}
use Rattle.std.specs.List.{AllByRecursion}
use Rattle.tx_terminal.specs.Inks.{plain}
use Rattle.tx_terminal.specs.Characters.{IsShown}
use Rattle.tx_terminal.specs.Painting.{text_bytes}
use Rattle.tx_terminal.proofs.painting.add_text.Given as goal

-- What is written so far and what is left are all, and all are valid where those left are.
abbrev pub invariant-loop-character : goal.invariant-loop-character
invariant-loop-character l = record {
  added : l.out.items ++ text_bytes l.ink (drop l.character-index l.row) ≡ l.fn.out.items ++ text_bytes plain l.row;
  valid : AllByRecursion IsShown (drop l.character-index l.row) → AllByRecursion IsShown l.row;
  grows : take (length l.fn.out.items) l.out.items ≡ l.fn.out.items;
}
