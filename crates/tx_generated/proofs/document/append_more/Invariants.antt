use Rattle.std.proofs.Common.{◌≡◌, ◌+◌, ◌-◌, ◌*◌, ◌++◌}
use Rattle.std.specs.Prelude.{codes, flat_map}
use Rattle.std.specs.List.{range_with_len}
use Rattle.tx_generated.specs.Document.{word}
use Rattle.tx_generated.proofs.document.append_more.Given as goal

abbrev pub invariant-loop-j : goal.invariant-loop-j
invariant-loop-j l =
    l.out.items
    ≡ l.fn.out.items ++ flat_map (λ j. codes " " ++ word (l.a + j * l.step)) (range_with_len 1 (l.j - 1))
