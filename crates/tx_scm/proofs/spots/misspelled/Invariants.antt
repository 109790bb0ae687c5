use Rattle.std.proofs.Common.{◌≡◌, ◌≤◌, Some, take}
use Rattle.tx_scm.specs.declared.spots.Spot.TheVariants.{Between}
use Rattle.tx_scm.specs.Spots.{depth_in, spots}
use Rattle.tx_scm.proofs.spots.misspelled.Given as goal

abbrev pub invariant-loop-i : goal.invariant-loop-i
invariant-loop-i l =
    record {
      same : spots (Some (Between 0)) (take l.i l.bytes) ≡ Some l.spot;
      depth : depth_in l.spot ≤ l.i;
    }
