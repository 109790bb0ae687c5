-- What is known of the two rings of a history.
use Rattle.std.specs.Prelude.{◌≡◌, ◌+◌, ◌≤◌, length}
use Rattle.tx_history.specs.declared.history.History.TheInside.{Inside}

module _ {E : Type 0} where
  pub record AreRings (h : Inside E) : Type 0 where
    pub past : h.past.capacity ≡ h.depth
    pub future : h.future.capacity ≡ h.depth
    pub some : 1 ≤ h.depth
    pub room : length h.past.items + length h.future.items ≤ h.depth
