use Rattle.std.proofs.Common.{◌≡◌, ◌++◌, map}
use Rattle.tx_commute.proofs.leaving.undoing.Given as goal

abbrev pub invariant-loop-k : goal.invariant-loop-k
invariant-loop-k l =
    map (λ k. k.undoes) l.fn.known.items ≡ l.mods.items ++ map (λ k. k.undoes) l.k-iterator.rest.items
