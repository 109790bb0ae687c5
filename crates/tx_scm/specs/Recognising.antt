-- What comes after a given tree at the front of bytes.
use Rattle.std.specs.Prelude.{◌≡◌, ℕ, ◌==◌, if◌then◌else◌, ◌≤◌, List, [], ◌∷◌, length, drop, Option, Some, None}
use Rattle.tx_tree.specs.WideTree.{WideTree, Forest, leaf, node, nil, cons}
use Rattle.tx_scm.specs.Spelling.{is_white, string_of}

-- what comes after white
abbrev pub behind_white : List ℕ → List ℕ
behind_white [] = []
behind_white (b ∷ bytes) = if is_white b then behind_white bytes else b ∷ bytes

-- what comes after these bytes, if they come first
abbrev pub behind_bytes : List ℕ → List ℕ → Option (List ℕ)
behind_bytes [] bytes = Some bytes
behind_bytes (a ∷ wanted) [] = None
behind_bytes (a ∷ wanted) (b ∷ bytes) = if a == b then behind_bytes wanted bytes else None

abbrev pub and_then : Option (List ℕ) → (List ℕ → Option (List ℕ)) → Option (List ℕ)
and_then None f = None
and_then (Some bytes) f = f bytes

abbrev mutual
  pub behind_tree : WideTree → List ℕ → Option (List ℕ)
  behind_tree (leaf text) bytes = behind_bytes (string_of text) bytes
  behind_tree (node label ts) bytes =
      and_then (behind_bytes (40 ∷ []) bytes) (λ x.
      and_then (behind_bytes label (behind_white x)) (λ y.
      and_then (behind_trees ts y) (λ z.
      behind_bytes (41 ∷ []) (behind_white z))))

  pub behind_trees : Forest → List ℕ → Option (List ℕ)
  behind_trees nil bytes = Some bytes
  behind_trees (cons t ts) bytes = and_then (behind_tree t (behind_white bytes)) (λ x. behind_trees ts x)

-- the place, if one was found, is within the bytes, and the rest is what comes after it
abbrev pub EndsWith : List ℕ → Option ℕ → Option (List ℕ) → Type 0
EndsWith bytes None rest = rest ≡ None
EndsWith bytes (Some end) rest = (end ≤ length bytes) × (rest ≡ Some (drop end bytes))
