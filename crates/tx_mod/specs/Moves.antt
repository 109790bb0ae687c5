-- Where places and paths are after a modification.
use Rattle.std.specs.Prelude.{ℕ, ◌+◌, ◌-◌, ◌==◌, nat_le, nat_lt, if◌then◌else◌, List, []}
use Rattle.std.specs.Prelude.{◌∷◌, ◌++◌, Option, Some, None, is_some, option_map, slice_get}
use Rattle.std.specs.Option.{option_map_or}
use Rattle.tx_tree.specs.declared.places.Place.{Place}
use Rattle.tx_tree.specs.Paths.{subtree}
use Rattle.tx_tree.specs.WideTree.{WideTree, leaf, node, children_of}
use Rattle.tx_mod.specs.declared.mods.Mod.{Mod}
use Rattle.tx_mod.specs.declared.mods.Mod.TheVariants.{Assign, Insert, Remove, Split, Join}
use Rattle.tx_mod.specs.declared.mods.Mod.TheVariants.{AssignNode, InsertNode, RemoveNode}
use Rattle.tx_mod.specs.Mods.{path_of, extent}

-- what is after p in q, where q begins with p
abbrev pub rest_behind : List ℕ → List ℕ → Option (List ℕ)
rest_behind [] q = Some q
rest_behind (i ∷ p) [] = None
rest_behind (i ∷ p) (k ∷ q) = if i == k then rest_behind p q else None

abbrev pub place : List ℕ → ℕ → Place
place path o = record { path = path; offset = o }

-- the place, as seen from above p
abbrev pub place_from_above : List ℕ → Place → Place
place_from_above p at = place (p ++ at.path) at.offset

-- child i of the tree, or the tree itself where it has none
abbrev pub child_or_self : WideTree → ℕ → WideTree
child_or_self s i = option_map_or (λ c. c) (slice_get (children_of s) i) s

-- The tables below say where a place or a path of the subtree is. Both are seen from the path of the modification.

-- n more from i on
abbrev pub shifted : ℕ → ℕ → ℕ → ℕ
shifted i n k = if nat_le i k then k + n else k

abbrev pub moved_by_insert : WideTree → ℕ → ℕ → List ℕ → ℕ → Place
moved_by_insert (leaf text) i n r o = place r (shifted i n o)
moved_by_insert (node l ts) i n [] o = place [] o
moved_by_insert (node l ts) i n (k ∷ u) o = place (shifted i n k ∷ u) o

abbrev pub moved_by_remove : WideTree → ℕ → ℕ → List ℕ → ℕ → Place
moved_by_remove (leaf text) i n r o = place r (if nat_le (i + n) o then o - n else (if nat_le i o then i else o))
moved_by_remove (node l ts) i n [] o = place [] o
moved_by_remove (node l ts) i n (k ∷ u) o =
    if nat_le (i + n) k then place ((k - n) ∷ u) o else (if nat_le i k then place [] 0 else place (k ∷ u) o)

-- a place of child i, which becomes two before and from j
abbrev pub moved_in_split : WideTree → ℕ → ℕ → List ℕ → ℕ → Place
moved_in_split (leaf text) i j u o = if nat_le j o then place ((i + 1) ∷ u) (o - j) else place (i ∷ u) o
moved_in_split (node l ts) i j [] o = if o == 1 then place ((i + 1) ∷ []) 1 else place (i ∷ []) o
moved_in_split (node l ts) i j (k ∷ w) o = if nat_le j k then place ((i + 1) ∷ (k - j) ∷ w) o else place (i ∷ k ∷ w) o

abbrev pub moved_by_split : WideTree → ℕ → ℕ → List ℕ → ℕ → Place
moved_by_split s i j [] o = place [] o
moved_by_split s i j (k ∷ u) o =
    if nat_lt i k
    then place ((k + 1) ∷ u) o
    else (if k == i then moved_in_split (child_or_self s i) i j u o else place (k ∷ u) o)

-- a place of child i + 1, which becomes the end of child i, after n bytes or children
abbrev pub moved_in_join : WideTree → ℕ → ℕ → List ℕ → ℕ → Place
moved_in_join (leaf text) i n u o = place (i ∷ u) (o + n)
moved_in_join (node l ts) i n [] o = place (i ∷ []) o
moved_in_join (node l ts) i n (k ∷ w) o = place (i ∷ (k + n) ∷ w) o

abbrev pub moved_by_join : WideTree → ℕ → List ℕ → ℕ → Place
moved_by_join s i [] o = place [] o
moved_by_join s i (k ∷ u) o =
    if nat_lt (i + 1) k
    then place ((k - 1) ∷ u) o
    else (if k == i + 1
    then moved_in_join (child_or_self s (i + 1)) i (extent (child_or_self s i)) u o
    else place (k ∷ u) o)

abbrev pub moved_by_unwrap : ℕ → List ℕ → ℕ → Place
moved_by_unwrap i [] o = place [] 0
moved_by_unwrap i (k ∷ u) o = if k == i then place u o else place [] 0

abbrev pub moved_at : Mod → WideTree → List ℕ → ℕ → Place
moved_at (Assign p x) s r o = place [] 0
moved_at (Insert p i x) s r o = moved_by_insert s i (extent x) r o
moved_at (Remove p i n) s r o = moved_by_remove s i n r o
moved_at (Split p i j) s r o = moved_by_split s i j r o
moved_at (Join p i) s r o = moved_by_join s i r o
moved_at (AssignNode p l) s r o = place r o
moved_at (InsertNode p i x) s r o = place (i ∷ r) o
moved_at (RemoveNode p i) s r o = moved_by_unwrap i r o

-- where a place of the tree t is afterwards
abbrev pub moved_place : Mod → WideTree → Place → Place
moved_place m t at =
    option_map_or (λ s.
    option_map_or (λ r. place_from_above (path_of m) (moved_at m s r at.offset)) (rest_behind (path_of m) at.path) at)
    (subtree t (path_of m)) at

-- the path, unless it is that of the changed subtree itself
abbrev pub some_path : List ℕ → Option (List ℕ)
some_path [] = None
some_path (k ∷ u) = Some (k ∷ u)

abbrev pub carried_by_remove : ℕ → ℕ → List ℕ → Option (List ℕ)
carried_by_remove i n [] = None
carried_by_remove i n (k ∷ u) =
    if nat_le (i + n) k then Some ((k - n) ∷ u) else (if nat_le i k then None else Some (k ∷ u))

abbrev pub carried_in_split : ℕ → ℕ → List ℕ → Option (List ℕ)
carried_in_split i j [] = None
carried_in_split i j (k ∷ w) = if nat_le j k then Some ((i + 1) ∷ (k - j) ∷ w) else Some (i ∷ k ∷ w)

abbrev pub carried_by_split : ℕ → ℕ → List ℕ → Option (List ℕ)
carried_by_split i j [] = None
carried_by_split i j (k ∷ u) =
    if nat_lt i k then Some ((k + 1) ∷ u) else (if k == i then carried_in_split i j u else Some (k ∷ u))

abbrev pub carried_in_join : ℕ → ℕ → List ℕ → Option (List ℕ)
carried_in_join i n [] = None
carried_in_join i n (k ∷ w) = Some (i ∷ (k + n) ∷ w)

-- n is the extent of child i
abbrev pub carried_by_join : ℕ → ℕ → List ℕ → Option (List ℕ)
carried_by_join i n [] = None
carried_by_join i n (k ∷ u) =
    if nat_lt (i + 1) k
    then Some ((k - 1) ∷ u)
    else (if k == i + 1
    then carried_in_join i n u
    else (if k == i then option_map (λ w. i ∷ w) (some_path u) else Some (k ∷ u)))

abbrev pub carried_by_unwrap : ℕ → List ℕ → Option (List ℕ)
carried_by_unwrap i [] = None
carried_by_unwrap i (k ∷ u) = if k == i then Some u else None

abbrev pub carried_by_insert : ℕ → ℕ → List ℕ → Option (List ℕ)
carried_by_insert i n [] = None
carried_by_insert i n (k ∷ u) = Some (shifted i n k ∷ u)

abbrev pub carried_at : Mod → WideTree → List ℕ → Option (List ℕ)
carried_at (Assign p x) s r = None
carried_at (Insert p i x) s r = carried_by_insert i (extent x) r
carried_at (Remove p i n) s r = carried_by_remove i n r
carried_at (Split p i j) s r = carried_by_split i j r
carried_at (Join p i) s r = carried_by_join i (extent (child_or_self s i)) r
carried_at (AssignNode p l) s r = some_path r
carried_at (InsertNode p i x) s r = Some (i ∷ r)
carried_at (RemoveNode p i) s r = carried_by_unwrap i r

-- where the unchanged subtree of t at q is afterwards
abbrev pub carried_path : Mod → WideTree → List ℕ → Option (List ℕ)
carried_path m t q =
    option_map_or (λ s.
    option_map_or (λ r. option_map (λ v. path_of m ++ v) (carried_at m s r))
    (rest_behind (path_of m) q) (if is_some (rest_behind q (path_of m)) then None else Some q))
    (subtree t (path_of m)) None
