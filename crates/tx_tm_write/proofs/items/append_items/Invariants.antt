use Rattle.std.proofs.Common.{◌≡◌, ◌++◌, length, take, drop}
use Rattle.tx_tm_write.specs.Canonical.{items_text}
use Rattle.tx_tm_write.proofs.items.append_items.Given as goal

abbrev pub invariant-loop-i : goal.invariant-loop-i
invariant-loop-i l =
    record {
      text : l.out.items ++ items_text l.held l.behind (drop l.i l.text) ≡ l.fn.out.items ++ items_text l.before
          l.behind l.text;
      grows : take (length l.fn.out.items) l.out.items ≡ l.fn.out.items;
    }
