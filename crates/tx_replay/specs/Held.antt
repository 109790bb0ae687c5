-- The cached traces of parts, which parts they hold, and what the others are charged.
use Rattle.std.specs.Prelude.{ℕ, Bool, true, false, ◌||◌, ◌≡◌, ◌++◌, if◌then◌else◌, List, Option, Some, None}
use Rattle.std.specs.List.{list_all, sum_by}
use Rattle.std.specs.FinMap.{entries}
use Rattle.tx_tree.specs.WideTree.{WideTree}
use Rattle.tx_tree.specs.Paths.{subtree}
use Rattle.tx_exec_form.specs.Maps.{LookMap}
use Rattle.tx_exec_form.specs.Runs.{Before}
use Rattle.tx_exec_form.specs.Evaluated.{WideTrace}
use Rattle.tx_exec_form.specs.Laws.{Supports}
use Rattle.tx_parts.specs.Composed.{alone}
use Rattle.tx_parts.specs.Parts.{Part, part_cost}
use Rattle.tx_replay.specs.SameTrees.{same}

-- what is cached at a path in the unit: a trace, or nothing
abbrev pub Store : Type 0
Store = List ℕ → Option WideTrace

-- each name has what was found where it was looked up
abbrev pub agrees : Before → LookMap → Bool
agrees e looks = list_all (λ look. same (e look.0) look.1) (entries looks)

-- the cached trace fits where names have this
abbrev pub fits : Before → Option WideTrace → Bool
fits e None = false
fits e (Some trace) = agrees e trace.looks

-- the cached trace at the part's path fits what names have before it
abbrev pub serves : Store → Part → Bool
serves kept p = fits p.before (kept p.path)

-- The path of a unit in the document, its cache, and a spare, which is looked up where the cached trace doesn't fit.
pub record Stores : Type 0 where
  pub base : List ℕ
  pub own : Store
  pub spare : Store

-- a part is held where the cached trace at its path fits, or the spare's
abbrev pub is_part_held : Stores → Part → Bool
is_part_held kept p = serves kept.own p || serves kept.spare p

-- what a part costs, unless it is held
abbrev pub charge_of : Stores → Part → ℕ
charge_of kept p = if is_part_held kept p then 0 else part_cost p

-- the costs of the parts that aren't held
abbrev pub charges : Stores → List Part → ℕ
charges kept ps = sum_by (charge_of kept) ps

-- Each cached trace at a path in the tree supports the tree there. The path of the whole tree is this.
pub record IsSound (kept : Store) (path : List ℕ) (t : WideTree) : Type 0 where
  pub holds : (below : List ℕ) (u : WideTree) (trace : WideTrace) → subtree t below ≡ Some u →
      kept (path ++ below) ≡ Some trace → Supports trace (alone u)

-- the cache is sound, and the spare is
pub record AreSound (kept : Stores) (path : List ℕ) (t : WideTree) : Type 0 where
  pub own : IsSound kept.own path t
  pub spare : IsSound kept.spare path t

-- ---- what is found

-- what was found at the path is this trace, and it fits
pub record IsHeldBy (e : Before) (found : Option WideTrace) (trace : WideTrace) : Type 0 where
  pub is : found ≡ Some trace
  pub held : fits e found ≡ true

-- it holds the part at the path: it is the cached trace there, or, where that doesn't fit, the spare's
abbrev pub IsHeldIn : Before → List ℕ → Stores → WideTrace → Bool → Type 0
IsHeldIn e path kept trace false = IsHeldBy e (kept.own path) trace
IsHeldIn e path kept trace true = (fits e (kept.own path) ≡ false) × IsHeldBy e (kept.spare path) trace

-- nothing holds the part at the path
pub record IsUnheld (e : Before) (path : List ℕ) (kept : Stores) : Type 0 where
  pub own : fits e (kept.own path) ≡ false
  pub spare : fits e (kept.spare path) ≡ false
