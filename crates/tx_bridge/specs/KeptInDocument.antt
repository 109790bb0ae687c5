-- What is cached at a path of the document.
use Rattle.std.specs.Prelude.{◌≡◌, ℕ, List, [], ◌∷◌, length, Option, Some}
use Rattle.std.specs.Option.{option_map_or}
use Rattle.tx_tree.specs.WideTree.{WideTree}
use Rattle.tx_mod.specs.declared.mods.Mod.{Mod}
use Rattle.tx_mod.specs.Followed.{carried_by_all}
use Rattle.tx_exec_form.specs.Evaluated.{WideTrace}
use Rattle.tx_units.specs.declared.kinds.Unit.{Unit as DocUnit}
use Rattle.tx_bridge.specs.Names.{CarryParts, CarryStrays}
use Rattle.tx_bridge.specs.PartMoves.{Move, rest_in}
use Rattle.tx_bridge.specs.PartsKept.{KeptParts, kept_at}

-- What is cached of the part there of the first unit at the path or above it. Where there is no such unit, it is what
-- is cached of the stray there.
abbrev pub kept_in_document : List DocUnit → List KeptParts → KeptParts → List ℕ → Option WideTrace
kept_in_document [] pss ks path = kept_at ks path
kept_in_document (u ∷ us) [] ks path = kept_at ks path
kept_in_document (u ∷ us) (ps ∷ pss) ks path =
    option_map_or (kept_at ps) (rest_in u path) (kept_in_document us pss ks path)

-- What is cached at the path after a carry by which parts and strays have so moved. The new units vs were these old
-- ones.
abbrev pub kept_behind : List KeptParts → List Move → List (Option ℕ) → List DocUnit → List ℕ → Option WideTrace
kept_behind pss moves sources vs path =
    kept_in_document vs (CarryParts pss moves sources) (CarryStrays moves (length vs)) path

-- The modifications of the document lead to the path from one at which this trace was cached.
pub record CameAlong (ms : List Mod) (t : WideTree) (us : List DocUnit) (pss : List KeptParts) (ks : KeptParts)
    (path : List ℕ) (trace : WideTrace) : Type 0 where
  pub from : List ℕ
  pub carried : carried_by_all ms t from ≡ Some path
  pub kept : kept_in_document us pss ks from ≡ Some trace
