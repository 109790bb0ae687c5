use Rattle.std.proofs.Common.{◌≡◌, ◌++◌, length, take, drop, arith}
use Rattle.std.proofs.lemmas.Grind.{common_steps}
use Rattle.tx_bridge.proofs.Marked.{unmark_kept}
use Rattle.tx_bridge.proofs.unit_parts.UnitParts.unmark.Goals as goal

pub invariant_of-self : goal.invariant_of-self
invariant_of-self c e =
    let whole : take c.self.inside.all.len (c.unmark_all.new.parts
    ++ drop (length c.unmark_all.new.parts) c.self.inside.all.items) ≡ c.unmark_all.new.parts =
    grind (arith, common_steps) in
    unmark_kept _ c.unmark_all.new.parts c.deref_mut.result.now whole c.unmark_all.ensures
