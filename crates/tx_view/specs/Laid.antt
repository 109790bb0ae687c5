-- Units that are laid out, with what is cached of them. Private clauses cite these.
use Rattle.std.specs.Prelude.{◌≡◌, ℕ, ◌≤◌, ◌<◌, ◌+◌, ◌*◌, ◌^◌, ◌==◌, Bool, true, false, if◌then◌else◌, List, []}
use Rattle.std.specs.Prelude.{◌∷◌, ◌++◌, map, length, Option, Some, None, is_some, option_and_then, slice_get, ◌⊎◌}
use Rattle.std.specs.Global.{Vec}
use Rattle.std.specs.List.{All, AllByRecursion, filter, filter_map, list_all}
use Rattle.std.specs.Option.{option_map, option_map_or}
use Rattle.tx_tree.specs.WideTree.{WideTree}
use Rattle.tx_env.specs.Environments.{NameMap}
use Rattle.tx_mod.specs.declared.mods.Mod.{Mod}
use Rattle.tx_units.specs.declared.kinds.Unit.{Unit as DocUnit}
use Rattle.tx_units.specs.Units.{units_with}
use Rattle.tx_items.specs.declared.attributes.Attrs.{Attrs}
use Rattle.tx_view_form.specs.Outcomes.{Moment, behind, env_behind, unit_value}
use Rattle.tx_view_form.specs.Positions.{IsShort}
use Rattle.tx_view_form.specs.Started.{attributes_of}
use Rattle.tx_bridge.specs.Bridged.{Bridged}
use Rattle.tx_bridge.specs.Carrying.{HaveSameTrees}
use Rattle.tx_bridge.specs.Entries.{Entry, Kept, outcome_of}
use Rattle.tx_bridge.specs.CarryingParts.{carried_below}
use Rattle.tx_bridge.specs.InPlace.{numbers_but, IsOneChanged}
use Rattle.tx_bridge.specs.Names.{Sources}
use Rattle.tx_bridge.specs.PartMoves.{Move, NoneAbove}
use Rattle.tx_bridge.specs.Strays.{kept_strays, is_beside, path_at}
use Rattle.tx_bridge.specs.PartsKept.{KeptParts}
use Rattle.tx_part_layout.specs.LaidParts.{is_before}
use Rattle.tx_part_layout.specs.declared.laid.PlacedPart.{PlacedPart}
use Rattle.tx_part_layout.specs.LaidParts.{laid_paths}
use Rattle.tx_unit_layout.specs.LaidAts.{LaidAt, laid_at}
use Rattle.tx_unit_layout.specs.LaidUnits.{IsLaidOut, IsLaid, WasLaid}
use Rattle.tx_unit_layout.specs.Moving.{WidePart, wide_part, put_at, laid_by, PartPlaces, put_along}
use Rattle.tx_unit_layout.specs.Views.{unit_view}
use Rattle.tx_unit_layout.specs.declared.shown.Shown.{Shown}
use Rattle.tx_view.specs.Costs.{items_at}
use Rattle.tx_view.specs.Exchanged.{exchanged, left_but}
use Rattle.tx_view.specs.LaidMoves.{laid_moves, laid_arrived, all_laid_now}
use Rattle.tx_view.specs.Stores.{ViewStores, HasUnitOf}
use Rattle.tx_layout.specs.Paging.{Unmarked}
use Rattle.tx_view.specs.declared.carrying.Former.{Former}
use Rattle.tx_view.specs.declared.carrying.Target.{Target}
use Rattle.tx_view.specs.declared.carrying.Target.TheVariants.{InPlace, Onto}

abbrev pub laid_in : List Shown → List (Option Attrs)
laid_in xs = map (λ x. x.laid) xs

abbrev pub laid_parts_in : List Shown → List (List LaidAt)
laid_parts_in xs = map (λ x. map laid_at x.parts) xs

-- where the parts that are in no unit have no lines
abbrev pub view_stores_in : Bridged → List Shown → ViewStores
view_stores_in b xs = record {
  kept = b.kept;
  parts = b.parts;
  laid = laid_in xs;
  laid_parts = laid_parts_in xs;
  strays = kept_strays b.strays;
  laid_strays = [];
}

-- where these are their lines
abbrev pub all_stores_in : Bridged → List Shown → List PlacedPart → ViewStores
all_stores_in b xs ps = record (view_stores_in b xs) { laid_strays = map laid_at ps }

-- each unit is laid out by what is cached of it
abbrev pub AreLaid : ℕ → Kept → List KeptParts → List Shown → Type 0
AreLaid width [] [] [] = Unit {0}
AreLaid width [] [] (x ∷ xs) = ⊥
AreLaid width [] (ks ∷ pss) xs = ⊥
AreLaid width (e ∷ es) [] xs = ⊥
AreLaid width (e ∷ es) (ks ∷ pss) [] = ⊥
AreLaid width (e ∷ es) (ks ∷ pss) (x ∷ xs) = IsLaid width e ks ks x × AreLaid width es pss xs

-- each unit was laid out by what was cached of it before the parts with flags were evaluated anew
abbrev pub WereLaid : ℕ → Kept → List KeptParts → List (List Bool) → List Shown → Type 0
WereLaid width [] [] [] [] = Unit {0}
WereLaid width [] [] [] (x ∷ xs) = ⊥
WereLaid width [] [] (fs ∷ fss) xs = ⊥
WereLaid width [] (ks ∷ pss) fss xs = ⊥
WereLaid width (e ∷ es) [] fss xs = ⊥
WereLaid width (e ∷ es) (ks ∷ pss) [] xs = ⊥
WereLaid width (e ∷ es) (ks ∷ pss) (fs ∷ fss) [] = ⊥
WereLaid width (e ∷ es) (ks ∷ pss) (fs ∷ fss) (x ∷ xs) = WasLaid width e ks fs x × WereLaid width es pss fss xs

-- this is cached of unit i and of its parts, which have these flags
pub record IsUnit (b : Bridged) (i : ℕ) (e : Entry) (ks : KeptParts) (fs : List Bool) : Type 0 where
  pub entry : slice_get b.kept i ≡ Some e
  pub parts : slice_get b.parts i ≡ Some ks
  pub flags : slice_get b.part_flags i ≡ Some fs

-- ---- what laying out takes

-- the items of a unit with these flags, if it isn't laid out for the attributes before it, at this moment
abbrev pub items_unlaid : Moment → DocUnit → List Bool → Shown → ℕ
items_unlaid m u fs x = if is_before x.laid (attributes_of m.env) then 0 else items_at m u fs (map laid_at x.parts)

-- the items of all such units, from a moment on
abbrev pub items_unlaid_from : Moment → List DocUnit → List (List Bool) → List Shown → ℕ
items_unlaid_from m [] fss xs = 0
items_unlaid_from m (u ∷ us) [] xs = 0
items_unlaid_from m (u ∷ us) (fs ∷ fss) [] = 0
items_unlaid_from m (u ∷ us) (fs ∷ fss) (x ∷ xs) =
    items_unlaid m u fs x + items_unlaid_from (behind m (outcome_of m u)) us fss xs

-- units with a flag aren't laid out any more
abbrev pub unlaid : Bool → Shown → Shown
unlaid f x = record x { laid = if f then None else x.laid }

abbrev pub without : List Bool → List Shown → List Shown
without [] xs = xs
without (f ∷ fs) [] = []
without (f ∷ fs) (x ∷ xs) = unlaid f x ∷ without fs xs

-- One unit more is laid out, at the moment before it. `before` and `after` are the moment there and the one after it, x
-- and y what was shown and what is shown, and `items` is how many items were laid out.
pub record IsNext (width : ℕ) (e : Entry) (ks : KeptParts) (fs : List Bool) (before after : Moment) (x y : Shown)
    (items : ℕ) : Type 0 where
  pub behind_is : after ≡ behind before (outcome_of before e.unit)
  pub laid_out : IsLaidOut width (attributes_of before.env) (unit_value e.trace) e.unit.path y
  pub attributes : y.laid ≡ Some (attributes_of before.env)
  pub was_laid : WasLaid width e ks fs y
  pub lines : length (unit_view y).lines + 242 * after.left ≤ 242 * before.left + 49
  pub errors : length y.errors.items + after.left ≤ before.left + 7
  pub items_is : items ≡ items_unlaid before e.unit fs x
  pub most : items + 243 * after.left ≤ 243 * before.left + 49

-- ---- what is left when out of memory

-- nothing is laid out, of the unit or of its parts
abbrev pub dropped : Shown → Shown
dropped x = record x { laid = None; parts = [] }

-- where parts of the unit had lines, the layout of the unit and of its parts is dropped
abbrev pub dropped_by : List PlacedPart → Shown → Shown
dropped_by [] x = x
dropped_by (p ∷ ps) x = dropped x

abbrev pub without_parts : List Shown → List Shown
without_parts xs = map (λ x. dropped_by x.parts x) xs

-- a unit is laid out as before, by the trace of before, or not at all
abbrev pub StayLaid : ViewStores → ViewStores → Type 0
StayLaid old new = (i : ℕ) → HasUnitOf new old i ⊎ (slice_get new.laid i ≡ Some None)

-- a unit is laid out as before, or for these attributes
abbrev pub ArePartlyLaid : List (Option Attrs) → List (Option Attrs) → List (Option Attrs) → Type 0
ArePartlyLaid old fresh new =
    (i : ℕ) → (slice_get new i ≡ slice_get old i) ⊎ (slice_get new i ≡ slice_get fresh i)

-- ---- what is carried with units through an edit

-- nothing is shown of a unit with this path but these lines of parts
pub record IsBlank (path : Option (List ℕ)) (ps : List WidePart) (x : Shown) : Type 0 where
  pub path_is : x.path ≡ path
  pub laid : x.laid ≡ None
  pub errors : x.errors.items ≡ []
  pub paragraphs : x.paragraphs.items ≡ []
  pub lines : x.lines ≡ []
  pub parts : map wide_part x.parts ≡ ps

-- nothing is shown of the units
abbrev pub AreBlank : List DocUnit → List Shown → Type 0
AreBlank [] [] = Unit {0}
AreBlank [] (x ∷ xs) = ⊥
AreBlank (u ∷ us) [] = ⊥
AreBlank (u ∷ us) (x ∷ xs) = IsBlank u.path [] x × AreBlank us xs

-- the lines of the parts of each unit, and last of those that are in none
abbrev pub PlacedLists : Type 0
PlacedLists = List (List PlacedPart)

abbrev pub placed_in : List Shown → List PlacedPart → PlacedLists
placed_in xs ps = map (λ x. x.parts) xs ++ ps ∷ []

-- the lines of a part that has moved, as they are put where it is now
abbrev pub wide_moved : PlacedLists → Move → Option WidePart
wide_moved old m =
    option_map (put_at m.kept.path) (option_and_then (λ ps. slice_get ps m.number) (slice_get old m.from))

-- each of the parts has lines
abbrev pub all_wide : PlacedLists → List Move → Bool
all_wide old moves = list_all (λ m. is_some (wide_moved old m)) moves

-- the moves with which lines are carried: all, or none if one of the parts has no lines
abbrev pub going : PlacedLists → List Move → List Move
going old moves = if all_wide old moves then moves else []

abbrev pub wide_in_unit : PlacedLists → ℕ → Move → Option WidePart
wide_in_unit old j m = if m.to == j then wide_moved old m else None

-- the lines of the parts that have moved to the unit of number j, as they are put there
abbrev pub wide_arrived : PlacedLists → List Move → ℕ → List WidePart
wide_arrived old moves j = filter_map (wide_in_unit old j) moves

-- nothing is shown of the units, from number j on, but the lines of the parts that have moved to them
abbrev pub AreArrived : PlacedLists → List Move → ℕ → List DocUnit → List Shown → Type 0
AreArrived old moves j [] [] = Unit {0}
AreArrived old moves j [] (x ∷ xs) = ⊥
AreArrived old moves j (u ∷ us) [] = ⊥
AreArrived old moves j (u ∷ us) (x ∷ xs) =
    IsBlank u.path (wide_arrived old moves j) x × AreArrived old moves (j + 1) us xs

-- Nothing is shown of all the units but such lines, and after the last one these are the lines of the parts that have
-- moved to none.
abbrev pub HaveArrived : PlacedLists → List Move → List DocUnit → List Shown → List PlacedPart → Type 0
HaveArrived old moves us xs ps =
    AreArrived old moves 0 us xs × (map wide_part ps ≡ wide_arrived old moves (length us))

-- the places of the clusters of a part are short
abbrev pub HasShortPlaces : PlacedPart → Type 0
HasShortPlaces p =
    AllByRecursion (λ line. All IsShort line.items) p.laid.value.lines
    × AllByRecursion (λ q. All IsShort q.items) p.laid.value.paragraphs.items

-- y has what x has, and the lines of one part more
pub record HasMore (x y : Shown) (w : WidePart) : Type 0 where
  pub parts : map wide_part y.parts ≡ map wide_part x.parts ++ w ∷ []
  pub others : y ≡ record x { parts = y.parts }

-- what is shown of the other unit, if there is one, but for its path
abbrev pub taking_shown : Shown → Option Shown → Shown
taking_shown x None = x
taking_shown x (Some y) = record y { path = x.path }

abbrev pub source_shown : List Shown → Option ℕ → Option Shown
source_shown old s = option_and_then (λ i. slice_get old i) s

-- for each new unit, what was shown of the old one that it is
abbrev pub moved : List (Option ℕ) → List Shown → List Shown → List Shown
moved [] old xs = xs
moved (s ∷ ss) old [] = []
moved (s ∷ ss) old (x ∷ xs) = taking_shown x (source_shown old s) ∷ moved ss old xs

-- The lines of the parts of the unit at the path, where the modifications of the tree t are all inside it: each part's
-- lines are moved to where the part is afterwards.
abbrev pub parts_left : List Mod → WideTree → Option (List ℕ) → List PlacedPart → List WidePart
parts_left ms t path ps =
    option_map_or (λ p. laid_by (map (carried_below ms t p) (laid_paths ps)) ps) path []

-- where parts of the unit that changes are then, as a target has it
abbrev pub ToldPlaces : Type 0
ToldPlaces = Vec (ℕ × Option (List ℕ))

-- its layout is dropped, and the lines of its parts are put where they are afterwards
abbrev pub left_with : PartPlaces → Shown → Shown
left_with places x = record x { laid = None; parts = put_along 0 places x.parts }

-- where the flag is set it is left in this way; else what was shown of it is unchanged
abbrev pub IsLeftBy : PartPlaces → Bool → Shown → Shown → Type 0
IsLeftBy places true y x = x ≡ left_with places y
IsLeftBy places false y x = x ≡ y

-- what is shown of all units from number k on, where number i is left in this way
abbrev pub StayBut : PartPlaces → ℕ → ℕ → List Shown → List Shown → Type 0
StayBut places i k [] [] = Unit {0}
StayBut places i k [] (x ∷ xs) = ⊥
StayBut places i k (y ∷ ys) [] = ⊥
StayBut places i k (y ∷ ys) (x ∷ xs) = IsLeftBy places (k == i) y x × StayBut places i (k + 1) ys xs

-- the lines that are left of parts that are in no unit, where the unit of number i of these changes alone
abbrev pub placed_beside : ℕ → List DocUnit → List PlacedPart → List PlacedPart
placed_beside i us ps = filter (λ p. is_beside (path_at i us) p.path) ps

-- Where what is shown is unchanged in place, so are the parts left of the unit that has changed. Else it moves to blank
-- ones, which had got the lines of parts that have moved. The parts that are in no unit had the lines `before`, and
-- have `after`.
abbrev pub IsLeft : List Mod → WideTree → List DocUnit → List Move → List DocUnit → Target → List Shown
    → List PlacedPart → List PlacedPart → Type 0
IsLeft ms t us moves vs (InPlace i silent places) xs before after =
    ((x : Shown) → slice_get xs i ≡ Some x
    → map wide_part (put_along 0 places.items x.parts) ≡ parts_left ms t x.path x.parts)
    × (after ≡ placed_beside i us before)
IsLeft ms t us moves vs (Onto blanks) xs before after =
    HaveArrived (placed_in xs before) (going (placed_in xs before) moves) vs blanks.items after

-- What is shown is unchanged in place where each unit keeps its number and its path, but for one that has changed.
abbrev pub IsTarget : List DocUnit → List DocUnit → List (Option ℕ) → Target → Type 0
IsTarget us vs ss (InPlace i silent places) =
    (ss ≡ numbers_but i 0 (length vs)) × (map (λ v. v.path) vs ≡ map (λ u. u.path) us)
IsTarget us vs ss (Onto blanks) = Unit {0}

-- none of the parts that are laid out at these paths is in a unit
abbrev pub AreLaidOutside : List DocUnit → List LaidAt → Type 0
AreLaidOutside us ls = AllByRecursion (λ l. NoneAbove l.path us) ls

-- Where the unit of number i alone changes, and has the tree x then, the layout that is left of parts, and of strays,
-- is what is carried by its path.
unfoldable pub LaidGoes : ℕ → List Mod → WideTree → WideTree → List DocUnit → Type 0
LaidGoes i ms t x us = (lss : List (List LaidAt)) (ls : List LaidAt) → length lss ≡ length us → AreLaidOutside us ls
    → (left_but ms t i us lss
    ≡ all_laid_now lss (laid_moves 0 ms t us lss ls (units_with i x us)) 0 (Sources 0 ms t us (units_with i x us)))
    × (filter (λ l. is_beside (path_at i us) l.path) ls
    ≡ laid_arrived (laid_moves 0 ms t us lss ls (units_with i x us)) (length (units_with i x us)))

-- The units vs are us, of which that of number i alone has another tree, and what is laid out goes then by its path.
pub record AreUnitsBut (i : ℕ) (ms : List Mod) (t : WideTree) (us vs : List DocUnit) : Type 0 where
  pub tree : WideTree
  pub are : vs ≡ units_with i tree us
  pub laid : LaidGoes i ms t tree us

-- It is unchanged in place where one paragraph is found to change alone. Each new unit has the tree of the old one that
-- it is.
abbrev pub IsWay : ℕ → List Mod → WideTree → List DocUnit → List DocUnit → List (Option ℕ) → Target → Type 0
IsWay buffer ms t us vs ss (InPlace i silent places) =
    (exchanged buffer ms t us ≡ Some i) × IsOneChanged i buffer ms us × HaveSameTrees us vs ss
    × AreUnitsBut i ms t us vs
IsWay buffer ms t us vs ss (Onto blanks) = (exchanged buffer ms t us ≡ None) × HaveSameTrees us vs ss

abbrev pub IsFew : Target → Type 0
IsFew (InPlace i silent places) = Unit {0}
IsFew (Onto blanks) = length blanks.items < 2 ^ 32

-- what was shown has moved there
abbrev pub HasGone : Target → List (Option ℕ) → List Shown → List Shown → Type 0
HasGone (InPlace i silent places) ss old xs = StayBut places.items i 0 old xs
HasGone (Onto blanks) ss old xs = xs ≡ moved ss old blanks.items

-- where `silent`, the cached trace of the unit that has changed set no name
abbrev pub SetNoName : Kept → Target → Type 0
SetNoName kept (InPlace i silent places) =
    silent ≡ true → (e : Entry) → slice_get kept i ≡ Some e → (env : NameMap) → env_behind env e.trace ≡ env
SetNoName kept (Onto blanks) = Unit {0}

-- it says for which attributes unit i was laid out, and where it says so, no line of it was the last of its page
pub record WasShown (old : List Shown) (i : ℕ) (f : Former) : Type 0 where
  pub number : f.unit ≡ i
  pub shown : Shown
  pub there : slice_get old i ≡ Some shown
  pub laid : shown.laid ≡ Some f.attrs
  pub unmarked : f.unmarked ≡ true → All Unmarked (unit_view shown).lines

-- The view was fresh, and this unit alone has changed, whose cached trace set no name.
pub record IsFormer (to : Target) (fresh : Bool) (old : List Shown) (f : Former) : Type 0 where
  pub places : ToldPlaces
  pub target : to ≡ InPlace f.unit true places
  pub was_fresh : fresh ≡ true
  pub was : WasShown old f.unit f
