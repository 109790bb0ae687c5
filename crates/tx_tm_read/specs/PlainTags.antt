-- Short tags at the front whose arguments are words alone.
use Rattle.std.specs.Prelude.{◌≡◌, ℕ, ◌<◌, ◌≤◌, List, [], ◌∷◌, ◌++◌, length, take}
use Rattle.tx_tree.specs.WideTree.{WideTree, leaf}
use Rattle.tx_tm_words.specs.Runs.{AreWords}

-- arguments that are words, each with the bar after it, and their trees
pub data AreArguments : List ℕ → List WideTree → Type 0 where
  no_argument : AreArguments [] []
  argument_more : (x y : List ℕ) (ts : List WideTree) → AreArguments x ts → AreWords y
      → AreArguments (x ++ (y ++ 124 ∷ [])) (ts ++ leaf y ∷ [])

-- so many bytes at the front are all arguments of a short tag, and these are their trees
pub record HasArguments (bytes : List ℕ) (ts : List WideTree) (n : ℕ) : Type 0 where
  pub some : 0 < n
  pub within : n ≤ length bytes
  pub others : List ℕ
  pub last : List ℕ
  pub before : List WideTree
  pub are : AreArguments others before
  pub words : AreWords last
  pub there : take n bytes ≡ others ++ (last ++ 62 ∷ [])
  pub trees : ts ≡ before ++ leaf last ∷ []
