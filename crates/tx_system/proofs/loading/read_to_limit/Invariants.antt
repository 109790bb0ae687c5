use Rattle.std.proofs.Common.{◌≤◌, length}
use Rattle.std.specs.Io.KnownBytes.{Consumes}
use Rattle.tx_system.proofs.loading.read_to_limit.Given as goal

abbrev pub invariant-loop : goal.invariant-loop
invariant-loop g l = record {
  held : Consumes (g.F.Read.remaining l.fn.file) (g.F.Read.remaining l.file) l.out.items;
  within : length l.out.items ≤ 16777216;
}
