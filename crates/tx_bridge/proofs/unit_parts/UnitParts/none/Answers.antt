use Rattle.std.proofs.Common.{ap, sym, ◌∙◌}
use Rattle.tx_bridge.specs.HeldParts.{unmarked}
use Rattle.tx_bridge.proofs.unit_parts.UnitParts.none.Goals as goal

pub invariant_of-result : goal.invariant_of-result
invariant_of-result c e = ap unmarked c.new.ensures.items ∙ sym c.new.ensures.items
