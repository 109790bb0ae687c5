use Rattle.std.proofs.Common.{◌≡◌, drop, find}
use Rattle.std.specs.Str.{bytes_eq}
use Rattle.tx_prim.specs.Names.{name_of}
use Rattle.tx_prim.proofs.names.find_named.Given as goal

abbrev pub invariant-loop-which : goal.invariant-loop-which
invariant-loop-which l =
    find (λ p. bytes_eq (name_of p) l.name) l.all ≡ find (λ p. bytes_eq (name_of p) l.name) (drop l.which-index l.all)
