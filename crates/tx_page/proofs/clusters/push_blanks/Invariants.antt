use Rattle.std.proofs.Common.{◌≡◌, ◌++◌}
use Rattle.tx_page.specs.Clusters.{blanks}
use Rattle.tx_page.proofs.clusters.push_blanks.Given as goal

abbrev pub invariant-loop : goal.invariant-loop
invariant-loop l = l.row.items ≡ l.fn.row.items ++ blanks l.counter l.ink
