-- Where the layout of parts is carried through an edit: with its unit, where that is a new one, and else by its path.
-- This doesn't depend on the cached traces. All parts that are cached are laid out, or none is.
use Rattle.std.specs.Prelude.{◌≡◌, ℕ, zero, suc, ◌+◌, ◌==◌, if◌then◌else◌, List, [], ◌∷◌, ◌++◌, length, map}
use Rattle.std.specs.Prelude.{Option, Some, None, slice_get, ◌⊎◌}
use Rattle.std.specs.List.{AllByRecursion, cons_option, filter_map}
use Rattle.std.specs.Option.{option_map, option_map_or}
use Rattle.tx_tree.specs.WideTree.{WideTree}
use Rattle.tx_mod.specs.declared.mods.Mod.{Mod}
use Rattle.tx_mod.specs.Followed.{carried_by_all}
use Rattle.tx_units.specs.declared.kinds.Unit.{Unit as DocUnit}
use Rattle.tx_bridge.specs.Carrying.{through}
use Rattle.tx_bridge.specs.PartMoves.{is_vacant, is_outside, unit_above}
use Rattle.tx_bridge.specs.PartsKept.{KeptParts, part_paths}
use Rattle.tx_unit_layout.specs.LaidAts.{LaidAt}
use Rattle.tx_view.specs.Exchanged.{laid_to}

-- This is the layout of a part of the new unit `to` then, or of a stray, where `to` is the number after the last
-- unit's.
pub record LaidMove : Type 0 where
  pub to : ℕ
  pub laid : LaidAt

abbrev pub laid_move : LaidAt → ℕ × List ℕ → LaidMove
laid_move l x = record { to = x.0; laid = laid_to x.1 l }

-- ---- all moves, where the modifications change the tree t, and vs are the new units

-- the move of the layout of a part at q, if the part is carried anywhere
abbrev pub laid_move_from : List Mod → WideTree → List DocUnit → List ℕ → LaidAt → Option LaidMove
laid_move_from ms t vs q l = option_map (λ place. laid_move l (unit_above 0 vs place)) (carried_by_all ms t q)

-- the moves of the layout of each part below p
abbrev pub laid_moves_below : List Mod → WideTree → List DocUnit → List ℕ → List LaidAt → List LaidMove
laid_moves_below ms t vs p [] = []
laid_moves_below ms t vs p (l ∷ ls) =
    cons_option (laid_move_from ms t vs (p ++ l.path) l) (laid_moves_below ms t vs p ls)

-- the moves of the layout of the parts of the old unit, if no new one is where it is carried
abbrev pub laid_unit_moves : List Mod → WideTree → List DocUnit → DocUnit → List LaidAt → List LaidMove
laid_unit_moves ms t vs u ls =
    if is_vacant (through ms t u.path) vs then option_map_or (λ p. laid_moves_below ms t vs p ls) u.path [] else []

abbrev pub laid_moves_from : List Mod → WideTree → List DocUnit → List DocUnit → List (List LaidAt) → List LaidMove
laid_moves_from ms t vs [] lss = []
laid_moves_from ms t vs (u ∷ us) [] = []
laid_moves_from ms t vs (u ∷ us) (ls ∷ lss) = laid_unit_moves ms t vs u ls ++ laid_moves_from ms t vs us lss

-- the moves of the layout of strays that are in no new unit, where no modification is in the document
abbrev pub laid_moves_aside : List DocUnit → List LaidAt → List LaidMove
laid_moves_aside vs [] = []
laid_moves_aside vs (l ∷ ls) =
    cons_option (if is_outside vs l.path then Some (laid_move l (length vs, l.path)) else None) (laid_moves_aside vs ls)

-- The moves of the layout of the parts of the old units us, and of strays: as parts move that are cached at these
-- paths.
abbrev pub laid_moves : ℕ → List Mod → WideTree → List DocUnit → List (List LaidAt) → List LaidAt → List DocUnit
    → List LaidMove
laid_moves zero ms t us lss ls vs = laid_moves_from ms t vs us lss ++ laid_moves_below ms t vs [] ls
laid_moves (suc buffer) ms t us lss ls vs = laid_moves_aside vs ls

-- ---- what new units have

abbrev pub laid_in_unit : ℕ → LaidMove → Option LaidAt
laid_in_unit j m = if m.to == j then Some m.laid else None

-- what has moved to the new unit j, or to the strays, where j is the number after the last
abbrev pub laid_arrived : List LaidMove → ℕ → List LaidAt
laid_arrived moves j = filter_map (laid_in_unit j) moves

-- what the new unit j has: all of the old one that it is, or what has moved to it
abbrev pub laid_now : List (List LaidAt) → List LaidMove → ℕ → Option ℕ → List LaidAt
laid_now lss moves j s =
    option_map_or (λ i. option_map_or (λ ls. ls) (slice_get lss i) []) s (laid_arrived moves j)

-- what each new unit has, from number j on
abbrev pub all_laid_now : List (List LaidAt) → List LaidMove → ℕ → List (Option ℕ) → List (List LaidAt)
all_laid_now lss moves j [] = []
all_laid_now lss moves j (s ∷ ss) = laid_now lss moves j s ∷ all_laid_now lss moves (j + 1) ss

-- ---- what is true of a view at every moment

abbrev pub laid_at_paths : List LaidAt → List (List ℕ)
laid_at_paths ls = map (λ l. l.path) ls

-- the layout is of just the parts that are cached, in their order
pub record AreAllPartsLaid (pss : List KeptParts) (lss : List (List LaidAt)) (ks : KeptParts) (ls : List LaidAt)
    : Type 0 where
  pub units : map part_paths pss ≡ map laid_at_paths lss
  pub strays : part_paths ks ≡ laid_at_paths ls

-- no part is laid out
pub record AreNoPartsLaid (lss : List (List LaidAt)) (ls : List LaidAt) : Type 0 where
  pub units : AllByRecursion (λ ls. ls ≡ []) lss
  pub strays : ls ≡ []

-- one of both
abbrev pub AreAllOrNoneLaid : List KeptParts → List (List LaidAt) → KeptParts → List LaidAt → Type 0
AreAllOrNoneLaid pss lss ks ls = AreAllPartsLaid pss lss ks ls ⊎ AreNoPartsLaid lss ls
