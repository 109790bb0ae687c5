-- What is true of shells that trees are said to have.
use Rattle.std.specs.Prelude.{◌≡◌, ℕ, Some}
use Rattle.tx_tree.specs.WideTree.{WideTree}
use Rattle.tx_exec_form.specs.Runs.{Before}
use Rattle.tx_exec_form.specs.Evaluated.{WideTrace}
use Rattle.tx_exec_form.specs.Laws.{Agrees}
use Rattle.tx_parts.specs.Shells.{Shell, IsShell}
use Rattle.tx_parts.specs.Opening.{Sheller}
use Rattle.tx_parts.specs.Composed.{evaluates}

-- Each is the tree's shell. It is the same in each environment that agrees with the looks of the tree's trace.
pub record IsSheller (sheller : Sheller) : Type 0 where
  pub shells : (t : WideTree) (e : Before) (shell : Shell) → sheller t e ≡ Some shell → IsShell shell t e
  pub again : (k c : ℕ) (t : WideTree) (e d : Before) (trace : WideTrace) → evaluates k c t e ≡ Some trace →
      Agrees d trace.looks → sheller t d ≡ sheller t e
