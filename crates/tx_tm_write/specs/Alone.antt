-- Bytes that spell one tree.
use Rattle.std.specs.Prelude.{◌≡◌, ℕ, List}
use Rattle.tx_tree.specs.WideTree.{WideTree}
use Rattle.tx_tm_form.specs.Forms.{Spells}

-- the bytes spell this tree and no other wide tree
pub record SpellsAlone (bytes : List ℕ) (t : WideTree) : Type 0 where
  pub spelled : Spells bytes t
  pub alone : (u : WideTree) → Spells bytes u → u ≡ t
