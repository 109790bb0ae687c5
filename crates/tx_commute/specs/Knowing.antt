-- Modifications with their inverses, which are taken past each other without a tree.
use Rattle.std.specs.Prelude.{◌≡◌, ℕ, List, Option, Some, None, option_map, is_some, if◌then◌else◌}
use Rattle.std.specs.Option.{option_map_or}
use Rattle.std.specs.Str.{bytes_eq}
use Rattle.tx_tree.specs.WideTree.{WideTree}
use Rattle.tx_mod.specs.declared.mods.Mod.{Mod}
use Rattle.tx_commute.specs.declared.known.Known.{Known}
use Rattle.tx_mod.specs.declared.mods.Mod.TheVariants.{Assign, Insert, Remove, Split, Join}
use Rattle.tx_mod.specs.declared.mods.Mod.TheVariants.{AssignNode, InsertNode, RemoveNode}
use Rattle.std.specs.Prelude.{◌++◌, ◌∷◌, ◌+◌, ◌-◌, nat_le}
use Rattle.tx_mod.specs.Mods.{path_of, extent}
use Rattle.tx_mod.specs.Inverses.{inverse_of}
use Rattle.tx_mod.specs.Moves.{rest_behind, some_path, carried_by_insert, carried_by_remove, carried_by_split}
use Rattle.tx_mod.specs.Moves.{carried_by_join, carried_by_unwrap}
use Rattle.tx_commute.specs.Free.{freely}
use Rattle.tx_commute.specs.Pasts.{at_path, or_else, by_table}

-- it is known of this tree
abbrev pub IsKnown : Known → WideTree → Type 0
IsKnown k t = k.undoes ≡ inverse_of k.does t

-- the place at which a split cuts its child
abbrev pub cut_of : Mod → ℕ
cut_of (Assign p x) = 0
cut_of (Insert p i x) = 0
cut_of (Remove p i n) = 0
cut_of (Split p i j) = j
cut_of (Join p i) = 0
cut_of (AssignNode p l) = 0
cut_of (InsertNode p i x) = 0
cut_of (RemoveNode p i) = 0

-- the place of an insertion or a removal
abbrev pub place_of : Mod → ℕ
place_of (Assign p x) = 0
place_of (Insert p i x) = i
place_of (Remove p i n) = i
place_of (Split p i j) = 0
place_of (Join p i) = 0
place_of (AssignNode p l) = 0
place_of (InsertNode p i x) = 0
place_of (RemoveNode p i) = 0

-- an insertion or a removal at another place
abbrev pub at_place : Mod → ℕ → Mod
at_place (Assign p x) k = Assign p x
at_place (Insert p i x) k = Insert p k x
at_place (Remove p i n) k = Remove p k n
at_place (Split p i j) k = Split p i j
at_place (Join p i) k = Join p i
at_place (AssignNode p l) k = AssignNode p l
at_place (InsertNode p i x) k = InsertNode p i x
at_place (RemoveNode p i) k = RemoveNode p i

-- where a path is carried by a modification that is undone by the other one
abbrev pub carried_at_by : Mod → Mod → List ℕ → Option (List ℕ)
carried_at_by (Assign p x) undo r = None
carried_at_by (Insert p i x) undo r = carried_by_insert i (extent x) r
carried_at_by (Remove p i n) undo r = carried_by_remove i n r
carried_at_by (Split p i j) undo r = carried_by_split i j r
carried_at_by (Join p i) undo r = carried_by_join i (cut_of undo) r
carried_at_by (AssignNode p l) undo r = some_path r
carried_at_by (InsertNode p i x) undo r = Some (i ∷ r)
carried_at_by (RemoveNode p i) undo r = carried_by_unwrap i r

abbrev pub carried_by : Mod → Mod → List ℕ → Option (List ℕ)
carried_by m undo q =
    option_map_or (λ r. option_map (λ v. path_of m ++ v) (carried_at_by m undo r))
    (rest_behind (path_of m) q) (if is_some (rest_behind q (path_of m)) then None else Some q)

abbrev pub known_at : Known → List ℕ → Known
known_at k q = record { does = at_path k.does q; undoes = at_path k.undoes q }

abbrev pub known_by : Known → Mod → Known
known_by k m = record { does = m; undoes = at_place k.undoes (place_of m) }

-- both at another place
abbrev pub known_put : Known → ℕ → Known
known_put k i = record { does = at_place k.does i; undoes = at_place k.undoes i }

-- the places to which the table moves what comes later and an insertion of n at the same path
abbrev pub insert_places : ℕ → ℕ → Mod → Option (ℕ × ℕ)
insert_places i n (Assign q y) = None
insert_places i n (Insert q j y) =
    if nat_le j i then Some (j, i + extent y) else (if nat_le (i + n) j then Some (j - n, i) else None)
insert_places i n (Remove q j m) =
    if nat_le (j + m) i then Some (j, i - m) else (if nat_le (i + n) j then Some (j - n, i) else None)
insert_places i n (Split q j k) = None
insert_places i n (Join q j) = None
insert_places i n (AssignNode q l) = None
insert_places i n (InsertNode q j y) = None
insert_places i n (RemoveNode q j) = None

-- the places to which the table moves what comes later and a removal of n at the same path
abbrev pub remove_places : ℕ → ℕ → Mod → Option (ℕ × ℕ)
remove_places i n (Assign q y) = None
remove_places i n (Insert q j y) = if nat_le j i then Some (j, i + extent y) else Some (j + n, i)
remove_places i n (Remove q j m) =
    if nat_le (j + m) i then Some (j, i - m) else (if nat_le i j then Some (j + n, i) else None)
remove_places i n (Split q j k) = None
remove_places i n (Join q j) = None
remove_places i n (AssignNode q l) = None
remove_places i n (InsertNode q j y) = None
remove_places i n (RemoveNode q j) = None

abbrev pub places : Mod → Mod → Option (ℕ × ℕ)
places (Assign p x) b = None
places (Insert p i x) b = insert_places i (extent x) b
places (Remove p i n) b = remove_places i n b
places (Split p i j) b = None
places (Join p i) b = None
places (AssignNode p l) b = None
places (InsertNode p i x) b = None
places (RemoveNode p i) b = None

-- what is left of two modifications: the later one, then the earlier one
abbrev pub KnownPair : Type 0
KnownPair = Known × Known

abbrev pub past_known : Known → Known → Option KnownPair
past_known a b =
    or_else (option_map (λ p. (b, known_at a p)) (carried_by b.does b.undoes (path_of a.does)))
    (or_else (option_map (λ q. (known_at b q, a)) (carried_by a.undoes a.does (path_of b.does)))
    (if bytes_eq (path_of a.does) (path_of b.does)
    then option_map (λ p. (known_put b p.0, known_put a p.1)) (places a.does b.does)
    else None))

-- both are known, of t and of what the first makes of it
pub record AreKnown (t : WideTree) (b a : Known) : Type 0 where
  pub first : IsKnown b t
  pub second : (m : WideTree) → freely b.does t ≡ Some m → IsKnown a m
