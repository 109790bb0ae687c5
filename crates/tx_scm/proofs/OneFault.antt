-- Bytes have one fault at most in the Scheme syntax.
use Rattle.std.proofs.Common.{◌≡◌, ℕ, List, take, get_or, sym, ◌∙◌}
use Rattle.tx_tree.specs.declared.faults.ReadFault.{ReadFault}
use Rattle.tx_tree.specs.Limits.{IsWithinLimits}
use Rattle.tx_tree.specs.WideTree.{WideTree}
use Rattle.tx_tree.proofs.OneFault.{row_once, one_fault, no_fault}
use Rattle.tx_scm.specs.Spelling.{Spells}
use Rattle.tx_scm.specs.Faults.{IsStop, IsKind, IsSchemeFault}
use Rattle.tx_scm.proofs.Complete.{spelled_once}

stop_once : (x : List ℕ) (b n : ℕ) (f g : ReadFault) → IsStop x b n f → IsStop x b n g → f ≡ g
stop_once x b n f g =
    row_once _ _ _ _ _ _ same (row_once _ _ _ _ _ _ same (row_once _ _ _ _ _ _ same (row_once _ _ _ _ _ _ same same)))
  where
    same : {h : ReadFault} → f ≡ h → g ≡ h → f ≡ g
    same e k = e ∙ sym k

kind_once : (bytes : List ℕ) (n : ℕ) (f g : ReadFault) → IsKind bytes n f → IsKind bytes n g → f ≡ g
kind_once bytes n f g = stop_once (take n bytes) (get_or bytes n 0) n f g

pub once : (bytes : List ℕ) (f g : ReadFault) → IsSchemeFault bytes f → IsSchemeFault bytes g → f ≡ g
once = one_fault Spells IsKind spelled_once kind_once

pub none : (bytes : List ℕ) (f : ReadFault) (t : WideTree) → IsSchemeFault bytes f → Spells bytes t → IsWithinLimits t
    → ⊥
none = no_fault Spells IsKind spelled_once
