-- What changes on the way to what is ready. Only private clauses cite this.
use Rattle.std.specs.Prelude.{◌≡◌, List, Option, IfSome, Ok}
use Rattle.tx_mod.specs.InTurn.{changed_in_turn, inverses_of, AreUndone}
use Rattle.tx_doc.specs.Buffers.{tree_of}
use Rattle.tx_doc.specs.declared.buffer.Buffer.{Buffer}
use Rattle.tx_state.specs.declared.edits.Entry.{Entry}
use Rattle.tx_state.specs.declared.edits.Prepared.{Prepared}
use Rattle.tx_tree.specs.Places.{IsPlace}
use Rattle.tx_tree.specs.WideTree.{WideTree}
use Rattle.tx_tree.specs.declared.places.Place.{Place}

-- the place is one of the tree, if there is one
abbrev pub IsPlaceIn : WideTree → Option Place → Type 0
IsPlaceIn t at = IfSome at (λ p. IsPlace t p.path p.offset)

-- what is ready is what the entry makes of its buffer's tree
pub record IsAlong (buffers : List Buffer) (entry : Entry) (p : Prepared) : Type 0 where
  pub buffer : p.buffer ≡ entry.buffer
  pub tree : changed_in_turn entry.mods (tree_of buffers entry.buffer) ≡ Ok p.tree
  pub mods : p.mods ≡ entry.mods
  pub back : p.back ≡ inverses_of entry.mods (tree_of buffers entry.buffer)
  pub undone : AreUndone entry.mods (tree_of buffers entry.buffer) p.tree
  pub cursor : p.cursor ≡ entry.cursor
