-- From the machine to what is spelled.
use Rattle.std.proofs.Common.{◌≡◌, ℕ, List, [], Some, None}
use Rattle.tx_tree.specs.Limits.{IsWithinLimits}
use Rattle.tx_tree.specs.WideTree.{WideTree}
use Rattle.tx_scm.specs.Spelling.{Spells}
use Rattle.tx_scm.specs.Machine.{the_limits, between, reads}
use Rattle.tx_scm.proofs.Bounded.{below_within}
use Rattle.tx_scm.proofs.Complete.{complete}
use Rattle.tx_scm.proofs.Sound.{sound}

pub found : (bytes : List ℕ) (t : WideTree) → Some t ≡ reads (between []) bytes → Spells bytes t × IsWithinLimits t
unfolding reads
found bytes t e = sound bytes t (cc)

pub none : (bytes : List ℕ) → None ≡ reads (between []) bytes → (t : WideTree) → IsWithinLimits t → Spells bytes t → ⊥
unfolding reads
none bytes e t w h = let c = complete the_limits t bytes (below_within t w) h in cc
