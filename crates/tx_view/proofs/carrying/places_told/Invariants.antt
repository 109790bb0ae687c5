use Rattle.std.proofs.Common.{◌≡◌, take}
use Rattle.tx_bridge.specs.MovedParts.{moves_of}
use Rattle.tx_view.proofs.carrying.places_told.Given as goal

abbrev pub invariant-loop-part : goal.invariant-loop-part
invariant-loop-part l = l.places.items ≡ moves_of (take l.part-index l.moved)
