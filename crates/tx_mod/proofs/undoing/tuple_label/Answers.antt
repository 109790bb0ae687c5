use Rattle.tx_mod.proofs.Undone.{tuple_is_label}
use Rattle.tx_mod.proofs.undoing.tuple_label.Goals as goal

pub unreachable-requires : goal.unreachable-requires
unreachable-requires c = let f = rw c.in-Err-BadLabel.field-0-is at c.in-Err-BadLabel.ensures.refused in
    (f (λ e. cc)).1 tuple_is_label
