-- What comes of taking one earlier edit back, and no other.
use Rattle.std.specs.Prelude.{◌==◌, ◌+◌, ◌-◌, ℕ, zero, suc, if◌then◌else◌, List, [], ◌∷◌, length, map}
use Rattle.std.specs.Prelude.{reverse, take, drop, Option, Some, None, Result, Ok, Err}
use Rattle.tx_tree.specs.WideTree.{WideTree}
use Rattle.tx_mod.specs.declared.mods.Mod.{Mod}
use Rattle.tx_commute.specs.Leaving.{LeftOut, without, entangled, refused, left_out}
use Rattle.tx_doc.specs.Buffers.{tree_of}
use Rattle.tx_state.specs.declared.edits.Edit.{Edit}
use Rattle.tx_state.specs.declared.faults.LeaveFault.{LeaveFault}
use Rattle.tx_state.specs.declared.faults.LeaveFault.TheVariants.{Nothing, Entangled, Refused}
use Rattle.tx_state.specs.States.{State, KeptEdit}

-- the modifications of an edit, where it is one of this buffer
abbrev pub mods_in : ℕ → KeptEdit → List Mod
mods_in buffer kept = if kept.buffer == buffer then kept.mods else []

-- The edit is left out, before the later ones, of which the last one is first.
abbrev pub left_before : KeptEdit → List KeptEdit → LeftOut
left_before kept later =
    left_out (tree_of kept.moment.buffers kept.buffer) kept.mods (reverse (map (mods_in kept.buffer) later))

-- The edit that takes one back after which n others came, or why there is none. The number k of a later edit counts
-- from the first one on, from 0; the fault counts from the last one back, from 1.
abbrev pub taking_back : (buffer n : ℕ) → LeftOut → Result Edit LeaveFault
taking_back buffer n (without out mods) = Ok (record { buffer = buffer; mods = mods; cursor = None })
taking_back buffer n (entangled k) = Err (Entangled (n - k))
taking_back buffer n (refused k cause) = Err (Refused cause)

-- the first of these edits is left out, after which n others came
abbrev pub first_left : (n : ℕ) → (later edits : List KeptEdit) → Result Edit LeaveFault
first_left n later [] = Err Nothing
first_left n later (kept ∷ others) = taking_back kept.buffer n (left_before kept later)

-- the edit that takes the n-th last edit back, or why there is none
abbrev pub leaving : ℕ → State → Result Edit LeaveFault
leaving zero state = Err Nothing
leaving (suc n) state = first_left n (take n state.past) (drop n state.past)

-- the tree that the later edits, as they are without the edit, make of the tree before it
abbrev pub tree_left : LeftOut → Option WideTree
tree_left (without out mods) = Some out
tree_left (entangled k) = None
tree_left (refused k cause) = None

abbrev pub first_tree : (later edits : List KeptEdit) → Option WideTree
first_tree later [] = None
first_tree later (kept ∷ others) = tree_left (left_before kept later)

-- the tree that the later edits make without the n-th last edit
abbrev pub tree_without : ℕ → State → Option WideTree
tree_without zero state = None
tree_without (suc n) state = first_tree (take n state.past) (drop n state.past)

-- how many modifications edits have
abbrev pub mods_among : List KeptEdit → ℕ
mods_among [] = 0
mods_among (kept ∷ others) = length kept.mods + mods_among others
