-- Faults of a reader, with places counted from another start.
use Rattle.std.specs.Prelude.{ℕ, ◌+◌, ◌≤◌}
use Rattle.tx_tree.specs.declared.faults.ReadFault.{ReadFault}
use Rattle.tx_tree.specs.declared.faults.ReadFault.TheVariants.{Unclosed, Stray, BadEscape}
use Rattle.tx_tree.specs.declared.faults.ReadFault.TheVariants.{BadLabel, BadText, Mismatch, After}

-- the fault of bytes that begin at this place
abbrev pub moved_fault : ℕ → ReadFault → ReadFault
moved_fault at (Unclosed n) = Unclosed (at + n)
moved_fault at (Stray n) = Stray (at + n)
moved_fault at (BadEscape n) = BadEscape (at + n)
moved_fault at (BadLabel n) = BadLabel (at + n)
moved_fault at (BadText n) = BadText (at + n)
moved_fault at (Mismatch m n) = Mismatch (at + m) (at + n)
moved_fault at (After n) = After (at + n)
moved_fault at fault = fault

-- each of its places is at most this one
abbrev pub HasPlacesWithin : ℕ → ReadFault → Type 0
HasPlacesWithin most (Unclosed n) = n ≤ most
HasPlacesWithin most (Stray n) = n ≤ most
HasPlacesWithin most (BadEscape n) = n ≤ most
HasPlacesWithin most (BadLabel n) = n ≤ most
HasPlacesWithin most (BadText n) = n ≤ most
HasPlacesWithin most (Mismatch m n) = (m ≤ most) × (n ≤ most)
HasPlacesWithin most (After n) = n ≤ most
HasPlacesWithin most fault = Unit {0}
