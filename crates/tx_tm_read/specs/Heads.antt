-- Beginnings of short tags at the front.
use Rattle.std.specs.Prelude.{◌≡◌, ◌<◌, ◌≤◌, ℕ, List, length, take}
use Rattle.tx_tree.specs.Labels.{IsLabel}
use Rattle.tx_tm_form.specs.declared.places.TagForm.TheVariants.{Short}
use Rattle.tx_tm_form.specs.Tokens.{written, head}
use Rattle.tx_tm_read.specs.declared.heads.Head.{Head}

-- the bytes begin with this beginning of a short tag
pub record StandsInFront (bytes : List ℕ) (h : Head) : Type 0 where
  pub label : IsLabel h.label
  pub some : 0 < h.taken
  pub within : h.taken ≤ length bytes
  pub there : take h.taken bytes ≡ written (head Short h.label h.more)
