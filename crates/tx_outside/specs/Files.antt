-- Files as a list of names and bytes.
use Rattle.std.specs.Prelude.{◌≡◌, ◌≢◌, ◌<◌, ℕ, List, [], ◌∷◌, Option, Some}
use Rattle.std.specs.Prelude.{None, IsSomeAnd, length, take, slice_index_or}
use Rattle.std.specs.Map.{lookup}
use Rattle.std.specs.Str.{bytes_eq}
use Rattle.tx_outside.specs.declared.file_store.TheConstants.{MOST_FILE}

-- each file's name and bytes
abbrev pub Files : Type 0
Files = List (List ℕ × List ℕ)

-- the bytes of the file of that name, if there is one
abbrev pub file_of : Files → List ℕ → Option (List ℕ)
file_of files name = lookup (bytes_eq name) files

-- there is no file of that name
abbrev pub IsAbsent : List ℕ → Files → Type 0
IsAbsent name files = file_of files name ≡ None

-- the file of that name has more bytes than a file has at most
abbrev pub IsTooLong : List ℕ → Files → Type 0
IsTooLong name files = IsSomeAnd (file_of files name) (λ bytes. MOST_FILE < length bytes)

-- no two files have one name
abbrev pub NamesDiffer : Files → Type 0
NamesDiffer [] = Unit {0}
NamesDiffer (file ∷ files) = IsAbsent file.0 files × NamesDiffer files

-- each file of another name is as before
abbrev pub OthersKept : List ℕ → Files → Files → Type 0
OthersKept name old new = (other : List ℕ) → other ≢ name → file_of new other ≡ file_of old other

-- the file of that name has these bytes, replaced or added, and all else is as before
pub record WithFile (name bytes : List ℕ) (old new : Files) : Type 0 where
  pub file : file_of new name ≡ Some bytes
  pub others : OthersKept name old new

-- the first file of that name is at that place
pub record StandsAt (name : List ℕ) (files : Files) (place : ℕ) : Type 0 where
  pub within : place < length files
  pub before : IsAbsent name (take place files)
  pub there : (file : List ℕ × List ℕ) → (slice_index_or files place file).0 ≡ name
