-- Walks back through entries. Only private clauses cite this.
use Rattle.std.specs.Prelude.{◌≡◌, ◌==◌, ℕ, if◌then◌else◌, List, [], ◌∷◌, reverse, unwrap_or, IsOk, Ok}
use Rattle.std.specs.List.{AllByRecursion}
use Rattle.tx_tree.specs.WideTree.{WideTree}
use Rattle.tx_mod.specs.declared.mods.Mod.{Mod}
use Rattle.tx_mod.specs.Followed.{outcome_tree as made_of}
use Rattle.tx_mod.specs.InTurn.{changed_in_turn, inverses_of, AreSoundMods}
use Rattle.tx_commute.specs.Leaving.{LeftOut, without, left_out, lists_in_turn}
use Rattle.tx_state.specs.declared.edits.Entry.{Entry}
use Rattle.tx_state.specs.declared.backward.Backward.{Backward}

-- the tree of the buffer before the edit that the entry takes back, which may be one of another buffer
abbrev pub tree_before : ℕ → Entry → WideTree → WideTree
tree_before buffer entry t =
    if entry.buffer == buffer then unwrap_or (made_of (changed_in_turn entry.mods t)) t else t

-- what that edit does to the buffer
abbrev pub edit_before : ℕ → Entry → WideTree → List Mod
edit_before buffer entry t = if entry.buffer == buffer then inverses_of entry.mods t else []

abbrev pub AppliesIn : ℕ → Entry → WideTree → Type 0
AppliesIn buffer entry t = entry.buffer ≡ buffer → IsOk (changed_in_turn entry.mods t)

-- the tree of the buffer after going back by the entries in order
abbrev pub tree_back : ℕ → List Entry → WideTree → WideTree
tree_back buffer [] t = t
tree_back buffer (entry ∷ entries) t = tree_back buffer entries (tree_before buffer entry t)

abbrev pub edits_back : ℕ → List Entry → WideTree → List (List Mod)
edits_back buffer [] t = []
edits_back buffer (entry ∷ entries) t =
    edit_before buffer entry t ∷ edits_back buffer entries (tree_before buffer entry t)

abbrev pub AllApplyIn : ℕ → List Entry → WideTree → Type 0
AllApplyIn buffer [] t = Unit {0}
AllApplyIn buffer (entry ∷ entries) t =
    AppliesIn buffer entry t × AllApplyIn buffer entries (tree_before buffer entry t)

-- sound edits, the first one first, which lead from the tree to the tree t
pub record AreLeading (lists : List (List Mod)) (from t : WideTree) : Type 0 where
  pub leads : lists_in_turn lists from ≡ Ok t
  pub sound : AllByRecursion AreSoundMods lists

-- what the walk found: the tree before all edits, and these, the first one first
pub record IsBackward (buffer : ℕ) (entries : List Entry) (t : WideTree) (b : Backward) : Type 0 where
  pub tree : b.tree ≡ tree_back buffer entries t
  pub edits : b.edits.items ≡ reverse (edits_back buffer entries t)
  pub leading : AreLeading b.edits.items b.tree t

-- the first list is left out, before the others
abbrev pub first_out : List (List Mod) → WideTree → LeftOut
first_out [] t = without t []
first_out (edit ∷ later) t = left_out t edit later

-- what comes of leaving the edit out that the last of the entries takes back
abbrev pub left_along : ℕ → List Entry → WideTree → LeftOut
left_along buffer entries t = first_out (reverse (edits_back buffer entries t)) (tree_back buffer entries t)

-- the modifications that come of it, where they apply to the present tree, make the tree that is without the edit
abbrev pub MakesWithout : LeftOut → WideTree → Type 0
MakesWithout left present =
    (out u : WideTree) (mods : List Mod) → left ≡ without out mods → changed_in_turn mods present ≡ Ok u → u ≡ out
