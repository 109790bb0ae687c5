-- Contents that may be known or not, and what a call does to them.
use Rattle.std.specs.Prelude.{◌≡◌, ℕ, ◌<◌, List, length, take, Option, is_some}
use Rattle.std.specs.Prelude.{Some, None, ⊤}
use Rattle.std.specs.Io.KnownBytes.{append_known}

-- the contents are known after the call exactly where they were before it
abbrev pub StaysKnown : {A : Type 0} → Option A → Option A → Type 0
StaysKnown old new = is_some new ≡ is_some old

-- the relation holds of the contents before and after, or both are unknown
abbrev pub WhereKnown : {A : Type 0} → (A → A → Type 0) → Option A → Option A → Type 0
WhereKnown R None None = ⊤
WhereKnown R None (Some y) = ⊥
WhereKnown R (Some x) None = ⊥
WhereKnown R (Some x) (Some y) = R x y

-- the known bytes have grown by the first bytes of the piece, and not by the whole piece
abbrev pub AppendsPart : List ℕ → Option (List ℕ) → Option (List ℕ) → Type 0
AppendsPart piece old new = (n : ℕ) × (n < length piece) × (new ≡ append_known old (take n piece))
