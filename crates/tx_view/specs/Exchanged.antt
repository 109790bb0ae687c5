-- A paragraph inside which an edit is, and which is found to change alone, and what is left of parts through an edit.
-- That it isn't found says nothing.
use Rattle.std.specs.Prelude.{◌≡◌, ℕ, zero, suc, ◌+◌, Bool, true, false, if◌then◌else◌, List, [], ◌∷◌}
use Rattle.std.specs.Prelude.{length, Option, Some, None, option_and_then}
use Rattle.std.specs.List.{filter, filter_map}
use Rattle.std.specs.Option.{option_map, option_map_or}
use Rattle.tx_tree.specs.Paths.{subtree}
use Rattle.tx_tree.specs.WideTree.{WideTree}
use Rattle.tx_mod.specs.declared.mods.Mod.{Mod}
use Rattle.tx_units.specs.declared.kinds.Unit.{Unit as DocUnit}
use Rattle.tx_units.specs.Inside.{leaves_others}
use Rattle.tx_mod.specs.Followed.{changed_by_all}
use Rattle.tx_bridge.specs.CarryingParts.{carried_below}
use Rattle.tx_bridge.specs.InPlace.{is_changed, IsOneChanged}
use Rattle.tx_bridge.specs.Strays.{is_beside, path_at}
use Rattle.tx_bridge.specs.PartsKept.{KeptParts}
use Rattle.tx_bridge.specs.Names.{CarryParts, CarryStrays, CarryWithin, PartMoves}
use Rattle.tx_unit_layout.specs.LaidAts.{LaidAt}

-- the tree that is now in t where the unit's paragraph was is found to leave all other units
abbrev pub stays_alone : WideTree → DocUnit → Bool
stays_alone t u =
    option_map_or (λ p. option_map_or (leaves_others p u.tagged.tree) (subtree t p) false) u.path false

-- the number, from i on, of the unit inside whose paragraph all modifications are, if this is found of it
abbrev pub exchanged_from : List Mod → WideTree → ℕ → List DocUnit → Option ℕ
exchanged_from ms t i [] = None
exchanged_from ms t i (u ∷ us) =
    if is_changed ms u then (if stays_alone t u then Some i else None) else exchanged_from ms t (i + 1) us

-- modifications of another buffer are inside no unit
abbrev pub exchanged_in : ℕ → List Mod → WideTree → List DocUnit → Option ℕ
exchanged_in zero ms t us = exchanged_from ms t 0 us
exchanged_in (suc buffer) ms t us = None

-- the exchanged unit, in the tree that the modifications make of t
abbrev pub exchanged : ℕ → List Mod → WideTree → List DocUnit → Option ℕ
exchanged buffer ms t us = option_and_then (λ u. exchanged_in buffer ms u us) (changed_by_all ms t)

-- What is left of the cache of the parts of the units us, where the new ones are vs, and are these old ones. Private
-- clauses say it by the way that an edit takes (`Carry` says it once for both). Where one paragraph is found to change
-- alone, it is the cache of its parts that are still in it, and of all other units. Else it is the cache of all parts
-- that don't move, and parts of another old unit move to the new ones that hold them.
abbrev pub parts_after : ℕ → List Mod → WideTree → List DocUnit → List KeptParts → KeptParts → List DocUnit
    → List (Option ℕ) → List KeptParts
parts_after buffer ms t us pss strays vs ss =
    option_map_or (λ i. CarryWithin i ms t us pss) (exchanged buffer ms t us)
    (CarryParts pss (PartMoves buffer ms t us pss strays vs) ss)

-- What is cached then of parts that are in no unit, of which this was cached, by the way that an edit takes. Where one
-- paragraph is found to change alone, it is the cache of those that its path isn't below. Else it is the cache of all
-- that are in no new unit.
abbrev pub strays_after : ℕ → List Mod → WideTree → List DocUnit → List KeptParts → KeptParts → List DocUnit → KeptParts
strays_after buffer ms t us pss strays vs =
    option_map_or (λ i. filter (λ k. is_beside (path_at i us) k.path) strays) (exchanged buffer ms t us)
    (CarryStrays (PartMoves buffer ms t us pss strays vs) (length vs))

-- ---- the layout of parts by the way that an edit takes (`LaidMoves.antt` says it once for all ways)

-- the layout of a part of the unit at p moves to where the part is afterwards
abbrev pub laid_behind : List Mod → WideTree → List ℕ → LaidAt → Option LaidAt
laid_behind ms t p l = option_map (λ q. record l { path = q }) (carried_below ms t p l.path)

-- the layout of all parts of the unit at this path, where the modifications of the tree t are all inside it
abbrev pub left_at : List Mod → WideTree → Option (List ℕ) → List LaidAt → List LaidAt
left_at ms t path ls = option_map_or (λ p. filter_map (laid_behind ms t p) ls) path []

-- the layout left of the parts of the unit of number i, and all of the others
abbrev pub left_but : List Mod → WideTree → ℕ → List DocUnit → List (List LaidAt) → List (List LaidAt)
left_but ms t i [] lss = []
left_but ms t i (u ∷ us) [] = []
left_but ms t zero (u ∷ us) (ls ∷ lss) = left_at ms t u.path ls ∷ lss
left_but ms t (suc i) (u ∷ us) (ls ∷ lss) = ls ∷ left_but ms t i us lss

-- this layout at another path
abbrev pub laid_to : List ℕ → LaidAt → LaidAt
laid_to path l = record l { path = path }

-- ---- an edit of one paragraph

-- the tree x is in t where the unit's paragraph was, and is found to leave all other units
pub record IsNow (u : DocUnit) (t x : WideTree) : Type 0 where
  pub path : List ℕ
  pub has_path : u.path ≡ Some path
  pub there : subtree t path ≡ Some x
  pub leaves : leaves_others path u.tagged.tree x ≡ true

-- the modifications of the document are all inside the paragraph of unit i, which is x in the tree t that they make
pub record IsExchanged (i buffer : ℕ) (ms : List Mod) (t x : WideTree) (us : List DocUnit) : Type 0 where
  pub one : IsOneChanged i buffer ms us
  pub is_now : IsNow one.unit t x
