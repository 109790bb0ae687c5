-- A walk down to a leaf. Only private clauses cite this.
use Rattle.std.specs.Prelude.{◌≡◌, ℕ, Bool, true, false, List, ◌++◌, Option, Some, None}

-- where there is a way, it is after the path, and else the path is as before
abbrev pub WalkGoesOn : Option (List ℕ) → Bool → List ℕ → List ℕ → Type 0
WalkGoesOn way true before after = (path : List ℕ) × (way ≡ Some path) × (after ≡ before ++ path)
WalkGoesOn way false before after = (way ≡ None) × (after ≡ before)
