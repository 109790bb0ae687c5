-- What is cached is carried with its unit through an edit.
use Rattle.std.specs.Prelude.{◌≡◌, ℕ, zero, suc, ◌+◌, Bool, true, false, ◌&&◌, ◌==◌, if◌then◌else◌, List, [], ◌∷◌, map}
use Rattle.std.specs.Prelude.{Option, Some, None, is_some, option_and_then, slice_get}
use Rattle.std.specs.Option.{option_map_or}
use Rattle.std.specs.List.{All, AllByRecursion}
use Rattle.std.specs.Str.{bytes_eq}
use Rattle.tx_tree.specs.WideTree.{WideTree}
use Rattle.tx_tree.specs.Paths.{subtree}
use Rattle.tx_mod.specs.declared.mods.Mod.{Mod}
use Rattle.tx_mod.specs.Followed.{carried_by_all}
use Rattle.tx_exec_form.specs.Evaluated.{WideTrace}
use Rattle.tx_units.specs.declared.kinds.Unit.{Unit as DocUnit}
use Rattle.tx_units.specs.declared.kinds.UnitKind.{UnitKind}
use Rattle.tx_units.specs.declared.kinds.UnitKind.TheVariants.{Base, Style, Absent, Initial, Body}
use Rattle.tx_walk.specs.SameTrees.{is_same}
use Rattle.tx_walk.specs.LayerTraces.{TreeTrace}
use Rattle.tx_bridge.specs.Entries.{Kept, units_of, traces_of}

-- ---- paths

-- where the subtree at the path, if there is one, is after the modifications
abbrev pub through : List Mod → WideTree → Option (List ℕ) → Option (List ℕ)
through ms t path = option_and_then (carried_by_all ms t) path

-- where each unit is after the modifications; nowhere for a unit without a path, or whose tree isn't carried
abbrev pub unit_places_after : List Mod → WideTree → List DocUnit → List (Option (List ℕ))
unit_places_after ms t us = map (λ u. through ms t u.path) us

abbrev pub is_path : List ℕ → Option (List ℕ) → Bool
is_path p None = false
is_path p (Some q) = bytes_eq q p

-- the number of the place that is the path, where these are counted from i on; `found` where none of them is
abbrev pub number_at : List ℕ → ℕ → List (Option (List ℕ)) → Option ℕ → Option ℕ
number_at p i [] found = found
number_at p i (q ∷ places) found = number_at p (i + 1) places (if is_path p q then Some i else found)

-- ---- units without a path

abbrev pub same_kind : UnitKind → UnitKind → Bool
same_kind Base Base = true
same_kind (Style m) (Style n) = m == n
same_kind Absent Absent = true
same_kind Initial Initial = true
same_kind Body Body = true
same_kind j k = false

abbrev pub same_unit : DocUnit → DocUnit → Bool
same_unit u v = same_kind u.kind v.kind && is_same u.tagged.tree v.tagged.tree

-- the number j, where the old unit of this number has the same kind and tree
abbrev pub same_number : List DocUnit → ℕ → DocUnit → Option ℕ
same_number us j v = option_and_then (λ u. if same_unit u v then Some j else None) (slice_get us j)

-- ---- all units

-- The number of the old unit that the new unit v of number j is. `places` says where each old one is now. It is the one
-- at the path of v, or, where v has no path, the one of its number.
abbrev pub source : List (Option (List ℕ)) → List DocUnit → ℕ → DocUnit → Option ℕ
source places us j v = option_map_or (λ p. number_at p 0 places None) v.path (same_number us j v)

-- the numbers of the old units that these new units are, from number j on
abbrev pub sources_from : List (Option (List ℕ)) → List DocUnit → ℕ → List DocUnit → List (Option ℕ)
sources_from places us j [] = []
sources_from places us j (v ∷ vs) = source places us j v ∷ sources_from places us (j + 1) vs

abbrev pub sources : List Mod → WideTree → List DocUnit → List DocUnit → List (Option ℕ)
sources ms t us vs = sources_from (unit_places_after ms t us) us 0 vs

-- what was cached of the layers of the old unit of this number, and nothing where there is none
abbrev pub layers_now : List (List TreeTrace) → Option ℕ → List TreeTrace
layers_now lss s = option_map_or (λ i. option_map_or (λ ls. ls) (slice_get lss i) []) s []

-- what a new unit has, where it is the old one of this number, and old ones have these
abbrev pub had : {A : Type 0} → List (Option A) → Option ℕ → Option A
had xs s = option_and_then (λ i. option_and_then (λ x. x) (slice_get xs i)) s

-- each new unit with what was cached of the old one that it is
abbrev pub taken_from : List (Option WideTrace) → List (Option ℕ) → List DocUnit → Kept
taken_from traces [] vs = []
taken_from traces (s ∷ ss) [] = []
taken_from traces (s ∷ ss) (v ∷ vs) = record { unit = v; trace = had traces s } ∷ taken_from traces ss vs

abbrev pub carried : List Mod → WideTree → Kept → List DocUnit → Kept
carried ms t old vs = taken_from (traces_of old) (sources ms t (units_of old) vs) vs

-- the modifications of the document: those of another buffer move no unit
abbrev pub mods_of : ℕ → List Mod → List Mod
mods_of zero ms = ms
mods_of (suc buffer) ms = []

-- ---- what a call asks

-- the path, if there is one, leads in the tree
abbrev pub Leads : WideTree → Option (List ℕ) → Type 0
Leads t None = Unit {0}
Leads t (Some p) = (x : WideTree) × (subtree t p ≡ Some x)

abbrev pub AllLead : WideTree → List (Option (List ℕ)) → Type 0
AllLead t ps = All (Leads t) ps

-- the tree has the unit's tree at its path
abbrev pub Stands : WideTree → DocUnit → Type 0
Stands t u = (p : List ℕ) → u.path ≡ Some p → subtree t p ≡ Some u.tagged.tree

abbrev pub AllStand : WideTree → List DocUnit → Type 0
AllStand t us = AllByRecursion (Stands t) us

-- the tree u has the tree x at the path that the unit of number i has, if it has one
abbrev pub StandsNow : ℕ → WideTree → WideTree → List DocUnit → Type 0
StandsNow i x u us = (v : DocUnit) (p : List ℕ) → slice_get us i ≡ Some v → v.path ≡ Some p → subtree u p ≡ Some x

-- where both have one path, they have one tree
abbrev pub HaveOneTree : DocUnit → DocUnit → Type 0
HaveOneTree u v = (p : List ℕ) → u.path ≡ Some p → v.path ≡ Some p → u.tagged.tree ≡ v.tagged.tree

abbrev pub AreSameBodies : List DocUnit → List DocUnit → Type 0
AreSameBodies us vs = AllByRecursion (λ u. AllByRecursion (HaveOneTree u) vs) us

-- ---- what a call says

-- each new unit that is an old one has its tree, and a path exactly where that has one
abbrev pub HaveSameTrees : List DocUnit → List DocUnit → List (Option ℕ) → Type 0
HaveSameTrees us vs ss = (i j : ℕ) (u v : DocUnit) → slice_get us i ≡ Some u → slice_get vs j ≡ Some v
    → slice_get ss j ≡ Some (Some i) → (v.tagged.tree ≡ u.tagged.tree) × (is_some v.path ≡ is_some u.path)
