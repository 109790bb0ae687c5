-- What a load and a save do with the bytes of files, where a file says which bytes it has.
use Rattle.std.specs.Prelude.{◌≡◌, ℕ, List, Option, IfSome}
use Rattle.std.specs.Io.KnownBytes.{Appends, IsAtEnd}

-- The bytes are all that was left in some file, which was read to its end. remaining says what is left in a file.
pub record AreAllOf {F : Type 0} (remaining : F → Option (List ℕ)) (bytes : List ℕ) : Type 0 where
  pub before : F
  pub after : F
  pub all : IfSome (remaining before) (λ held. bytes ≡ held)
  pub ended : IsAtEnd (remaining after)

-- Some file was given just these bytes. contents says what a file holds.
pub record AreGivenTo {F : Type 0} (contents : F → Option (List ℕ)) (bytes : List ℕ) : Type 0 where
  pub before : F
  pub after : F
  pub appended : Appends (contents before) (contents after) bytes
