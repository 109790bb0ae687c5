-- The items of a text, each with its bytes: a byte, or a symbol from < to >.
use Rattle.std.specs.Prelude.{ℕ, ◌==◌, if◌then◌else◌, List, [], ◌∷◌, ◌++◌}
use Rattle.std.specs.List.{flat_map}

abbrev mutual
  pub text_items : List ℕ → List (List ℕ)
  text_items [] = []
  text_items (b ∷ bytes) = if b == 60 then symbol_items (b ∷ []) bytes else (b ∷ []) ∷ text_items bytes

  -- after the beginning of a symbol
  pub symbol_items : List ℕ → List ℕ → List (List ℕ)
  symbol_items symbol [] = symbol ∷ []
  symbol_items symbol (b ∷ bytes) =
      if b == 62 then (symbol ++ b ∷ []) ∷ text_items bytes else symbol_items (symbol ++ b ∷ []) bytes

abbrev pub joined_lists : {A : Type 0} → List (List A) → List A
joined_lists lists = flat_map (λ l. l) lists
