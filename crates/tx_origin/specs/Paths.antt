-- An inverse path as a list of numbers from the root.
use Rattle.std.specs.Prelude.{ℕ, List, [], ◌∷◌, ◌++◌}
use Rattle.tx_origin.specs.declared.paths.Link.{Link}
use Rattle.tx_origin.specs.declared.paths.Link.TheVariants.{Root, Below}

abbrev pub numbers_of : Link → List ℕ
numbers_of Root = []
numbers_of (Below above number) = above.value ++ number ∷ []
