-- What holds of the modifications and the place of a key.
use Rattle.std.specs.Prelude.{◌≡◌, Bool, true, false, Ok, IfErr, IsOk, IsTrue}
use Rattle.tx_tree.specs.declared.places.Place.{Place}
use Rattle.tx_tree.specs.Places.{IsPlace}
use Rattle.tx_tree.specs.WideTree.{WideTree}
use Rattle.tx_mod.specs.declared.faults.ModFault.{ModFault}
use Rattle.tx_mod.specs.declared.faults.ModFault.TheVariants.{TooLong, TooWide, TooDeep, TooBig}
use Rattle.tx_mod.specs.InTurn.{changed_in_turn, moved_in_turn}
use Rattle.tx_edit.specs.declared.moves.Move.{Move}
use Rattle.tx_edit.specs.declared.moves.Move.TheVariants.{Edit, Go}

-- the changed tree would pass a limit
abbrev pub is_limit : ModFault → Bool
is_limit (TooLong n) = true
is_limit (TooWide n) = true
is_limit (TooDeep n) = true
is_limit (TooBig n) = true
is_limit _ = false

-- the modifications apply one after the other, unless a limit refuses one of them
abbrev pub Applies : WideTree → Move → Type 0
Applies t (Edit mods to) = IfErr (changed_in_turn mods t) (λ cause. IsTrue (is_limit cause))
Applies t (Go to) = ⊥

-- where they apply, the place is the one to which they move the cursor
abbrev pub IsMoved : WideTree → Place → Move → Type 0
IsMoved t at (Edit mods to) = IsOk (changed_in_turn mods t) → to ≡ moved_in_turn mods t at
IsMoved t at (Go to) = ⊥

-- where they apply, it is a place of the changed tree
abbrev pub StandsAfter : WideTree → Move → Type 0
StandsAfter t (Edit mods to) = (u : WideTree) → changed_in_turn mods t ≡ Ok u → IsPlace u to.path to.offset
StandsAfter t (Go to) = ⊥
