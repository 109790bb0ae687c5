-- Entries at other names than these.
use Rattle.std.specs.Prelude.{Bool, List, [], ◌∷◌, if◌then◌else◌}
use Rattle.std.specs.List.{list_any}
use Rattle.std.specs.Str.{bytes_eq}
use Rattle.tx_tree.specs.WideTree.{WideTree}
use Rattle.tx_env.specs.Pairs.{Name}

abbrev pub is_among : List (Name × WideTree) → Name → Bool
is_among ps x = list_any (λ p. bytes_eq p.0 x) ps

abbrev pub outside : {X : Type 0} → List (Name × WideTree) → List (Name × X) → List (Name × X)
outside ps [] = []
outside ps (w ∷ ws) = if is_among ps w.0 then outside ps ws else w ∷ outside ps ws
