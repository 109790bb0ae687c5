-- Parts whose traces fit in another environment.
use Rattle.std.specs.Prelude.{◌≡◌, List, [], ◌∷◌, Some}
use Rattle.tx_exec_form.specs.Evaluated.{WideTrace}
use Rattle.tx_exec_form.specs.Laws.{Agrees}
use Rattle.tx_parts.specs.Parts.{Part, part_trace}

-- The same part in two environments of the whole, whatever steps it has: its trace in the one agrees with what is
-- before it in the other, and is its trace there.
pub record Fits (p q : Part) : Type 0 where
  pub path : q.path ≡ p.path
  pub tree : q.tree ≡ p.tree
  pub trace : WideTrace
  pub comes : part_trace p ≡ Some trace
  pub agrees : Agrees q.before trace.looks
  pub again : part_trace q ≡ Some trace

-- part by part
abbrev pub AllFit : List Part → List Part → Type 0
AllFit [] [] = Unit {0}
AllFit [] (q ∷ qs) = ⊥
AllFit (p ∷ ps) [] = ⊥
AllFit (p ∷ ps) (q ∷ qs) = Fits p q × AllFit ps qs
