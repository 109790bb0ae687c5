use Rattle.std.proofs.Common.{◌≡◌, ℕ, ◌+◌, ◌++◌, List, length, take}
use Rattle.tx_layout.specs.declared.layout.Line.{Line}
use Rattle.tx_layout.specs.Told.{HasTold, lines_told}
use Rattle.tx_layout.proofs.paging.Paginator.add_each.Given as goal

abbrev pub invariant-loop-line : goal.invariant-loop-line
invariant-loop-line l = record {
  told : (before : List Line) (height : ℕ) → HasTold before height l.fn.self
      → HasTold (before ++ take l.line-index l.lines) height l.self;
  number : lines_told l.self ≡ lines_told l.fn.self + l.line-index;
  ended : take (length l.fn.self.ended.items) l.self.ended.items ≡ l.fn.self.ended.items;
  height : l.self.height ≡ l.fn.self.height;
}
