-- Lines of keys.
use Rattle.std.proofs.Common.{◌≡◌, inr, ℕ, List, [], ◌∷◌, sym, subst, refl}
use Rattle.std.specs.Prelude.{codes}
use Rattle.tx_state.specs.States.{State}
use Rattle.tx_keys.specs.declared.sequences.Key.{Key}
use Rattle.tx_screen.specs.Keys.{AreLinesOf, InDocument, KeyLines}

-- a line that is such a one
pub around : (s : State) (P : List ℕ → Type 0) (line : List ℕ) (lines : List (List ℕ)) → P line
    → InDocument s (λ it. it ≡ line) lines → InDocument s P lines
around s P line [] p h = tt
around s P line (one ∷ []) p h = (h.0, subst P (sym h.1) p)
around s P line (there ∷ one ∷ []) p h = h
around s P line (there ∷ one ∷ back ∷ []) p h = (h.0, subst P (sym h.1) p, h.2)
around s P line (there ∷ one ∷ back ∷ other ∷ lines) p h = h

-- after `work`
pub looked : (s t : State) (key : Key) (first others : List (List ℕ)) → first ≡ codes "work" ∷ [] → KeyLines t key others
    → (KeyLines t key others → KeyLines s key others) → AreLinesOf s key (codes "work" ∷ others)
looked s t key first others e h free = inr (others, refl, free h)
