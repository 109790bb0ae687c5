-- The names of buffers.
use Rattle.std.specs.Prelude.{ℕ, ◌==◌, List, [], ◌∷◌}
use Rattle.std.specs.List.{after_last, before_last}

-- up to the last dot, or whole where there is no dot or only one at the start
abbrev pub without_extension : List ℕ → List ℕ → List ℕ
without_extension base [] = base
without_extension base (b ∷ stem) = b ∷ stem

-- the part of a path after its last slash
abbrev pub base_name : List ℕ → List ℕ
base_name path = after_last (λ b. b == 47) path

-- the name of the buffer that is read from a path
abbrev pub buffer_name : List ℕ → List ℕ
buffer_name path = without_extension (base_name path) (before_last (λ b. b == 46) (base_name path))

-- a file's word, and the name of the buffer that is read from it
pub record Named : Type 0 where
  pub word : List ℕ
  pub name : List ℕ

abbrev pub named_file : List ℕ → Named
named_file word = record { word = word; name = buffer_name word }
