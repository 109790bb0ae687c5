-- Words that are no options.
use Rattle.std.specs.Prelude.{◌==◌, ℕ, Bool, true, not, List, [], ◌∷◌}

-- the word doesn't begin with a hyphen
abbrev pub is_plain_word : List ℕ → Bool
is_plain_word [] = true
is_plain_word (b ∷ word) = not (b == 45)
