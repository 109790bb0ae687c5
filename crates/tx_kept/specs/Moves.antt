-- Which entries an edit moves, as it is known before any is moved.
use Rattle.std.specs.Prelude.{◌≡◌, ◌⊎◌, ℕ, Bool, true, false, ◌+◌, ◌==◌, if◌then◌else◌}
use Rattle.std.specs.Prelude.{List, [], ◌∷◌, ◌++◌, reverse, Option, Some, None, option_map}
use Rattle.std.specs.List.{cons_option}
use Rattle.tx_kept.specs.declared.path_map.Entry.{Entry}
use Rattle.tx_kept.specs.declared.carrying.Move.{Move}

-- The entries, of which the first has number k, after these moves in rising order of numbers. An entry without a move
-- is unchanged.
abbrev pub moved : {X : Type 0} → ℕ → List Move → List (Entry X) → List (Entry X)
moved k ms [] = []
moved k [] (x ∷ xs) = x ∷ xs
moved k (m ∷ ms) (x ∷ xs) =
    if m.at == k
    then cons_option (option_map (λ q. record { path = q; value = x.value }) m.to) (moved (k + 1) ms xs)
    else x ∷ moved (k + 1) (m ∷ ms) xs

-- the moves that are left: the next one, and a stack with the last one at the bottom
abbrev pub due : Option Move → List Move → List Move
due None stack = []
due (Some m) stack = m ∷ reverse stack

-- the entry, if it is kept
abbrev pub if_stays : {X : Type 0} → Bool → X → List X
if_stays true x = x ∷ []
if_stays false x = []

-- the move of the entry of this number to where its path is carried is added, or none is added since the path is
-- unchanged
abbrev pub IsNoted : ℕ → List ℕ → Option (List ℕ) → List Move → List Move → Type 0
IsNoted at path to old new =
    ((to ≡ Some path) × (new ≡ old)) ⊎ (new ≡ old ++ record { at = at; to = to } ∷ [])
