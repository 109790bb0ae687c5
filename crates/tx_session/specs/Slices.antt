-- Lists of slices.
use Rattle.std.specs.Prelude.{ℕ, List, map}
use Rattle.std.specs.Borrow.{Bor}

-- what the slices hold
abbrev pub held : List (Bor (List ℕ)) → List (List ℕ)
held slices = map (λ slice. slice.now) slices
