-- What is cached of the parts of units.
use Rattle.std.specs.Prelude.{ℕ, Bool, not, is_some, if◌then◌else◌, List, [], ◌∷◌, map}
use Rattle.std.specs.Prelude.{◌≡◌, false, Option, Some, None, slice_get}
use Rattle.std.specs.FinMap.{get}
use Rattle.std.specs.Str.{bytes_eq}
use Rattle.tx_exec_form.specs.declared.TheConstants.{MOST_LEVELS}
use Rattle.tx_exec_form.specs.Evaluated.{WideTrace}
use Rattle.tx_parts.specs.Opening.{Sheller, no_shells}
use Rattle.tx_parts.specs.Parts.{Part, parts_by, Stored, stored_part}
use Rattle.tx_walk.specs.Held.{Store, serves}
use Rattle.tx_units.specs.declared.kinds.Unit.{Unit as DocUnit}
use Rattle.tx_view_form.specs.Outcomes.{Moment, allowance, behind}
use Rattle.tx_bridge.specs.Entries.{Kept, outcome_of}

-- ---- what is cached of the parts of a unit

abbrev pub KeptParts : Type 0
KeptParts = List Stored

abbrev pub part_paths : KeptParts → List (List ℕ)
part_paths ks = map (λ k. k.path) ks

-- what is cached at a path, by the first part that has it
abbrev pub kept_at : KeptParts → Store
kept_at [] path = None
kept_at (p ∷ ps) path = if bytes_eq p.path path then p.trace else kept_at ps path

-- ---- units that are evaluated by their parts

-- A paragraph of the body has parts: one where its tree isn't open, which is the tree itself.
abbrev pub has_parts : DocUnit → Bool
has_parts u = is_some u.path

-- the parts of the unit's tree, where it is evaluated at this moment, and trees have these shells
abbrev pub unit_parts_by : Sheller → Moment → DocUnit → List Part
unit_parts_by sheller m u = parts_by sheller MOST_LEVELS (allowance m) [] u.tagged.tree (get m.env)

-- where nothing has a shell
abbrev pub unit_parts : Moment → DocUnit → List Part
unit_parts m u = unit_parts_by no_shells m u

-- ---- what evaluating from nothing leaves

-- the parts with their traces, and none where the unit runs out of steps or levels
abbrev pub parts_if_done : Option WideTrace → List Part → KeptParts
parts_if_done None ps = []
parts_if_done (Some trace) ps = map stored_part ps

-- what is to be cached of the parts of the unit, which is evaluated at this moment
abbrev pub fresh_parts_by : Sheller → Moment → DocUnit → KeptParts
fresh_parts_by sheller m u =
    if has_parts u then parts_if_done (outcome_of m u) (unit_parts_by sheller m u) else []

-- what is to be cached of the parts of each unit, the first at this moment and each other one after those before it
abbrev pub fresh_parts_by_from : Sheller → Moment → List DocUnit → List KeptParts
fresh_parts_by_from sheller m [] = []
fresh_parts_by_from sheller m (u ∷ us) =
    fresh_parts_by sheller m u ∷ fresh_parts_by_from sheller (behind m (outcome_of m u)) us

-- where nothing has a shell
abbrev pub fresh_parts : Moment → DocUnit → KeptParts
fresh_parts m u = fresh_parts_by no_shells m u

abbrev pub fresh_parts_from : Moment → List DocUnit → List KeptParts
fresh_parts_from m us = fresh_parts_by_from no_shells m us

-- ---- which parts are evaluated anew

-- for each part, whether nothing that fits is cached at its path, and nothing where the unit runs out of steps or
-- levels
abbrev pub flags_if_done : Option WideTrace → Store → List Part → List Bool
flags_if_done None kept ps = []
flags_if_done (Some trace) kept ps = map (λ p. not (serves kept p)) ps

-- the flags of the parts of the unit, which is evaluated at this moment, where these are cached
abbrev pub part_flags_by : Sheller → Moment → DocUnit → KeptParts → List Bool
part_flags_by sheller m u ks =
    if has_parts u then flags_if_done (outcome_of m u) (kept_at ks) (unit_parts_by sheller m u) else []

-- the flags of the parts of each unit, the first at this moment and each other one after those before it
abbrev pub part_flags_by_from : Sheller → Moment → Kept → List KeptParts → List (List Bool)
part_flags_by_from sheller m [] pss = []
part_flags_by_from sheller m (e ∷ es) [] = []
part_flags_by_from sheller m (e ∷ es) (ks ∷ pss) =
    part_flags_by sheller m e.unit ks ∷ part_flags_by_from sheller (behind m (outcome_of m e.unit)) es pss

-- where nothing has a shell
abbrev pub part_flags : Moment → DocUnit → KeptParts → List Bool
part_flags m u ks = part_flags_by no_shells m u ks

abbrev pub part_flags_from : Moment → Kept → List KeptParts → List (List Bool)
part_flags_from m es pss = part_flags_by_from no_shells m es pss

-- What is cached now of a part whose flag is false is what was cached at its path.
abbrev pub PartsStay : List KeptParts → List KeptParts → List (List Bool) → Type 0
PartsStay olds news flags = (i k : ℕ) (old new : KeptParts) (fs : List Bool) (s : Stored) → slice_get olds i ≡ Some old
    → slice_get news i ≡ Some new → slice_get flags i ≡ Some fs → slice_get new k ≡ Some s
    → slice_get fs k ≡ Some false → kept_at old s.path ≡ s.trace
