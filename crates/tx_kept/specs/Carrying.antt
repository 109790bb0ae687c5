-- What an edit leaves of entries by paths.
use Rattle.std.specs.Prelude.{◌≡◌, ℕ, Bool, true, ◌&&◌, is_none, List, [], ◌∷◌, filter_map, Option, option_map}
use Rattle.std.specs.Option.{option_map_or}
use Rattle.tx_tree.specs.WideTree.{WideTree}
use Rattle.tx_mod.specs.declared.mods.Mod.{Mod}
use Rattle.tx_mod.specs.Changes.{changed}
use Rattle.tx_mod.specs.Followed.{carried_by_all, outcome_tree}
use Rattle.tx_mod.specs.Mods.{path_of}
use Rattle.tx_mod.specs.Moves.{rest_behind}
use Rattle.tx_kept.specs.declared.path_map.Entry.{Entry}

-- the tree before each modification
abbrev pub trees_before : List Mod → WideTree → List WideTree
trees_before [] t = []
trees_before (m ∷ ms) t = t ∷ option_map_or (trees_before ms) (outcome_tree (changed m t)) []

-- the entry at the path to which its own is carried
abbrev pub carried_entry : {X : Type 0} → List Mod → WideTree → Entry X → Option (Entry X)
carried_entry ms t x = option_map (λ q. record { path = q; value = x.value }) (carried_by_all ms t x.path)

-- each entry moves to where its path is carried, and is dropped where that is nowhere
abbrev pub carry : {X : Type 0} → List Mod → WideTree → List (Entry X) → List (Entry X)
carry ms t xs = filter_map (carried_entry ms t) xs

-- ---- paths that no modification touches

-- neither path begins the other
abbrev pub is_beside : List ℕ → List ℕ → Bool
is_beside p q = is_none (rest_behind p q) && is_none (rest_behind q p)

abbrev pub is_beside_all : List Mod → List ℕ → Bool
is_beside_all [] q = true
is_beside_all (m ∷ ms) q = is_beside (path_of m) q && is_beside_all ms q
