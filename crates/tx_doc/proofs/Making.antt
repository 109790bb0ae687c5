-- A node within the limits is made unless memory runs out.
use Rattle.std.proofs.Common.{◌≡◌, ◌≢◌, ℕ, List, refl}
use Rattle.tx_tree.specs.Limits.{IsWithinLimits, IsTreeFault}
use Rattle.tx_tree.specs.WideTree.{WideTree, node, forest}
use Rattle.tx_tree.specs.declared.faults.TreeFault.{TreeFault}
use Rattle.tx_tree.specs.declared.faults.TreeFault.TheVariants.{TooWide, TooDeep, TooBig, Memory}
use Rattle.tx_tree.proofs.TreeFaults.{tree_has_no_fault}

pub out_of_memory : (label : List ℕ) (ts : List WideTree) (fault : TreeFault) → IsWithinLimits (node label (forest ts))
    → (fault ≢ Memory → IsTreeFault label ts fault)
    → fault ≡ Memory
out_of_memory label ts (TooWide n) w f = absurd (tree_has_no_fault label ts (TooWide n) w (f (λ e. cc)))
out_of_memory label ts (TooDeep n) w f = absurd (tree_has_no_fault label ts (TooDeep n) w (f (λ e. cc)))
out_of_memory label ts (TooBig n) w f = absurd (tree_has_no_fault label ts (TooBig n) w (f (λ e. cc)))
out_of_memory label ts Memory w f = refl
