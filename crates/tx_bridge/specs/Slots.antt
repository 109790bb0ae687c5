-- Which new unit an old one is. Private clauses cite these.
use Rattle.std.specs.Prelude.{◌≡◌, ℕ, ◌+◌, ◌-◌, ◌<◌, ◌^◌, Bool, true, false, ◌&&◌, ◌==◌, if◌then◌else◌}
use Rattle.std.specs.Prelude.{List, [], ◌∷◌, length, Option, Some, None, slice_get, map}
use Rattle.std.specs.Option.{option_map_or}
use Rattle.tx_tree.specs.WideTree.{WideTree}
use Rattle.tx_mod.specs.declared.mods.Mod.{Mod}
use Rattle.tx_exec.specs.declared.outcome.Outcome.TheVariants.{Over}
use Rattle.tx_units.specs.declared.kinds.Unit.{Unit as DocUnit}
use Rattle.tx_bridge.specs.declared.bridge.Bridge.{Bridge}
use Rattle.tx_bridge.specs.Carrying.{is_path, same_unit, through}
use Rattle.tx_bridge.specs.UnitLists.{HasPathIfBody}
use Rattle.tx_bridge.specs.InPlace.{is_changed}

-- whether the old unit u of number i, which is at the place now, is the new unit v of number j
abbrev pub stays : Option (List ℕ) → ℕ → DocUnit → ℕ → DocUnit → Bool
stays place i u j v = option_map_or (λ p. is_path p place) v.path (i == j && same_unit u v)

-- the new units from number j on, after the old unit of number i has given what is cached of it
abbrev pub given_from : Option (List ℕ) → ℕ → Bridge → ℕ → List Bridge → List Bridge
given_from place i b j [] = []
given_from place i b j (w ∷ ws) =
    (if stays place i b.unit j w.unit
    then record {
      unit = w.unit;
      kept = b.kept;
      parts = b.parts;
      layers = b.layers;
      shelled = b.shelled;
      reached = w.reached;
      source = Some i;
    }
    else w)
    ∷ given_from place i b (j + 1) ws

-- the new units after each old unit, from number i on, has given what is cached of it
abbrev pub given_all : ℕ → List (Option (List ℕ)) → List Bridge → List Bridge → List Bridge
given_all i [] bs new = new
given_all i (place ∷ places) [] new = new
given_all i (place ∷ places) (b ∷ bs) new = given_all (i + 1) places bs (given_from place i b 0 new)

-- the unit with nothing cached
abbrev pub fresh_bridge : DocUnit → Bridge
fresh_bridge u = record {
  unit = u;
  kept = Over;
  parts = [];
  layers = [];
  shelled = false;
  reached = false;
  source = None;
}

abbrev pub paths_in : List Bridge → List (Option (List ℕ))
paths_in bs = map (λ b. b.unit.path) bs

abbrev pub bodies_of : List Bridge → List DocUnit
bodies_of bs = map (λ b. b.unit) bs

-- the new units, after all old ones have given what is cached of them through the modifications
abbrev pub given : List Mod → WideTree → List Bridge → List DocUnit → List Bridge
given ms t old us = given_all 0 (map (through ms t) (paths_in old)) old (map fresh_bridge us)

-- no two units have one path
abbrev pub HaveOwnPaths : List Bridge → Type 0
HaveOwnPaths bs = (j k : ℕ) (v w : Bridge) (p : List ℕ) → slice_get bs j ≡ Some v → slice_get bs k ≡ Some w
    → v.unit.path ≡ Some p → w.unit.path ≡ Some p → j ≡ k

abbrev pub AllPlaced : List Bridge → Type 0
AllPlaced bs = (k : ℕ) (b : Bridge) → slice_get bs k ≡ Some b → HasPathIfBody b.unit

abbrev pub is_at : ℕ → Option ℕ → Bool
is_at k None = false
is_at k (Some j) = k == j

-- the slot is the number of the new unit that the old one is, if there is one
abbrev pub IsSlot : Option (List ℕ) → ℕ → DocUnit → List Bridge → Option ℕ → Type 0
IsSlot place i u new slot = (k : ℕ) (w : Bridge) → slice_get new k ≡ Some w → stays place i u k w.unit ≡ is_at k slot

-- the slot is the number of the new unit with the path, if there is one
abbrev pub IsPathSlot : List ℕ → List Bridge → Option ℕ → Type 0
IsPathSlot p new slot = (k : ℕ) (w : Bridge) → slice_get new k ≡ Some w → is_path p w.unit.path ≡ is_at k slot

-- the last number of a path
abbrev pub last_number : List ℕ → Option ℕ
last_number p = slice_get p (length p - 1)

-- the last number of the path of the unit of number k, if it has one, is how far it is after number `first`
abbrev pub IsInOrder : ℕ → ℕ → DocUnit → Type 0
IsInOrder first k u = (p : List ℕ) → u.path ≡ Some p → (n : ℕ) × (last_number p ≡ Some n) × (k ≡ first + n)

-- each unit is in order
abbrev pub AreInOrder : ℕ → List Bridge → Type 0
AreInOrder first bs = (k : ℕ) (w : Bridge) → slice_get bs k ≡ Some w → IsInOrder first k w.unit

pub record HasOrder (first : ℕ) (bs : List Bridge) : Type 0 where
  pub small : first < 2 ^ 63
  pub order : AreInOrder first bs

-- an old unit without a path has no place afterwards
abbrev pub AreMoved : List (Option (List ℕ)) → List Bridge → Type 0
AreMoved places bs = (i : ℕ) (q : Option (List ℕ)) (b : Bridge) → slice_get places i ≡ Some q
    → slice_get bs i ≡ Some b → b.unit.path ≡ None → q ≡ None

-- no unit is such that all modifications are inside its tree, and carry it nowhere
abbrev pub AllUnchanged : List Mod → List Bridge → Type 0
AllUnchanged ms bs = (k : ℕ) (b : Bridge) → slice_get bs k ≡ Some b → is_changed ms b.unit ≡ false

-- the unit of number i is
abbrev pub IsChangedAt : List Mod → List Bridge → ℕ → Type 0
IsChangedAt ms bs i = (b : Bridge) × (slice_get bs i ≡ Some b) × (is_changed ms b.unit ≡ true)
