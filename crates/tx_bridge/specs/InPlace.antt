-- An edit inside one paragraph: each unit keeps its number and its path, and one has another tree.
use Rattle.std.specs.Prelude.{◌≡◌, ℕ, zero, suc, ◌+◌, nat_eq, nat_lt, Bool, true, false, not, ◌&&◌, ◌||◌, ◌==◌}
use Rattle.std.specs.Prelude.{if◌then◌else◌, List, [], ◌∷◌, length, Option, Some, None, slice_get}
use Rattle.std.specs.Option.{option_map_or}
use Rattle.std.specs.List.{list_all, starts_with}
use Rattle.tx_mod.specs.Mods.{path_of}
use Rattle.tx_mod.specs.declared.mods.Mod.{Mod}
use Rattle.tx_mod.specs.declared.mods.Mod.TheVariants.{Assign, Insert, Remove, Split, Join}
use Rattle.tx_mod.specs.declared.mods.Mod.TheVariants.{AssignNode, InsertNode, RemoveNode}
use Rattle.tx_units.specs.declared.kinds.Unit.{Unit as DocUnit}

-- the modification puts the subtree at its path into a node
abbrev pub wraps : Mod → Bool
wraps (Assign p x) = false
wraps (Insert p i x) = false
wraps (Remove p i n) = false
wraps (Split p i j) = false
wraps (Join p i) = false
wraps (AssignNode p l) = false
wraps (InsertNode p i x) = true
wraps (RemoveNode p i) = false

-- the path begins with the front
abbrev pub begins_path : List ℕ → List ℕ → Bool
begins_path front path = starts_with nat_eq path front

-- Whether a modification inside the subtree at the path carries that subtree nowhere. One that puts this very subtree
-- into a node doesn't.
abbrev pub leaves_nowhere : List ℕ → Mod → Bool
leaves_nowhere path m = not (wraps m) || nat_lt (length path) (length (path_of m))

-- there is a first modification, and, if it is inside the subtree at the path, it carries that nowhere
abbrev pub is_gone : List ℕ → List Mod → Bool
is_gone path ms = option_map_or (leaves_nowhere path) (slice_get ms 0) false

-- all modifications are inside the subtree at the path
abbrev pub are_within : List ℕ → List Mod → Bool
are_within path ms = list_all (λ m. begins_path path (path_of m)) ms

-- the unit has a path, all modifications are inside its tree, and there is a first one, which carries it nowhere
abbrev pub is_changed : List Mod → DocUnit → Bool
is_changed ms u = option_map_or (λ path. is_gone path ms && are_within path ms) u.path false

-- The edit is one of the document, buffer 0. All modifications are inside the paragraph of number i, and there is a
-- first one, which carries it nowhere.
pub record IsOneChanged (i buffer : ℕ) (ms : List Mod) (us : List DocUnit) : Type 0 where
  pub document : buffer ≡ 0
  pub unit : DocUnit
  pub there : slice_get us i ≡ Some unit
  pub changed : is_changed ms unit ≡ true

-- there is no such paragraph, as none is where another buffer is edited
abbrev pub NoneChanged : ℕ → List Mod → List DocUnit → Type 0
NoneChanged buffer ms us = buffer ≡ 0 → (i : ℕ) (u : DocUnit) → slice_get us i ≡ Some u → is_changed ms u ≡ false

-- the numbers of n units, from number k on, where number i has none
abbrev pub numbers_but : ℕ → ℕ → ℕ → List (Option ℕ)
numbers_but i k zero = []
numbers_but i k (suc n) = (if k == i then None else Some k) ∷ numbers_but i (k + 1) n
