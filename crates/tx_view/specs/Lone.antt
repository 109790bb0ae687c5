-- One unit that alone has changed since all were laid out.
use Rattle.std.specs.Prelude.{◌≡◌, ℕ, ◌+◌, ◌<◌, Bool, true, false, List, [], ◌∷◌, length, Option, None, Some, All}
use Rattle.std.specs.Prelude.{slice_get, slice_set}
use Rattle.std.specs.FinMap.{empty}
use Rattle.std.specs.Option.{unwrap_or}
use Rattle.tx_env.specs.Environments.{NameMap}
use Rattle.tx_exec_form.specs.Evaluated.{WideTrace}
use Rattle.tx_items.specs.declared.attributes.Attrs.{Attrs}
use Rattle.tx_layout.specs.Paging.{Unmarked, PagesFrom}
use Rattle.tx_view_form.specs.Outcomes.{env_behind}
use Rattle.tx_view_form.specs.Started.{attributes_of}
use Rattle.tx_view_form.specs.Views.{UnitView, lines_of}
use Rattle.tx_bridge.specs.Entries.{Kept, traces_of}
use Rattle.tx_view.specs.Laid.{laid_in}
use Rattle.tx_view.specs.Units.{unit_views, sums_from, row_counts, error_counts}
use Rattle.tx_view.specs.declared.lone.Lone.{Lone}
use Rattle.tx_view.specs.declared.paging.Pagination.{Pagination}
use Rattle.tx_unit_layout.specs.Views.{unit_view}
use Rattle.tx_unit_layout.specs.declared.shown.Shown.{Shown}

-- the attributes before each unit, where names have this before the first and these are the units' traces
abbrev pub attributes_along : NameMap → List (Option WideTrace) → List (Option Attrs)
attributes_along env [] = []
attributes_along env (t ∷ ts) = Some (attributes_of env) ∷ attributes_along (env_behind env t) ts

-- All units are laid out for the attributes after the cached traces of those before them, but for number i, which has
-- no cached trace and no layout. Before it they are a.
pub record IsLone (kept : Kept) (xs : List Shown) (i : ℕ) (a : Attrs) : Type 0 where
  pub nothing_kept : slice_get (traces_of kept) i ≡ Some None
  pub nothing_laid : slice_get (laid_in xs) i ≡ Some None
  pub attributes : slice_set (laid_in xs) i (Some a) ≡ attributes_along empty (traces_of kept)

-- None of n units but number i was evaluated anew, and what was cached of the others is unchanged.
pub record IsAlone (i n : ℕ) (old new : Kept) (flags : List Bool) : Type 0 where
  pub no_flag : (k : ℕ) → k < n → (k ≡ i → ⊥) → unwrap_or (slice_get flags k) false ≡ false
  pub stays : (k : ℕ) → k < n → (k ≡ i → ⊥) → slice_get new k ≡ slice_get old k

-- ---- pages

-- these are the pages of units on pages of this height, and how many rows and errors come before each
pub record IsPaged (height : ℕ) (xs : List UnitView) (p : Pagination) : Type 0 where
  pub pages : PagesFrom (lines_of xs) height 0 p.pages.items
  pub rows : p.rows.items ≡ sums_from 0 (row_counts xs)
  pub errors : p.errors.items ≡ sums_from 0 (error_counts xs)

-- These were the pages while the lone unit was as it was last laid out, and where it says so, no line of it was the
-- last of its page.
pub record WerePages (height : ℕ) (xs : List UnitView) (l : Lone) : Type 0 where
  pub there : l.unit < length xs
  pub former : UnitView
  pub paged : IsPaged height (slice_set xs l.unit former) l.paged
  pub unmarked : l.unmarked ≡ true → All Unmarked former.lines

-- the pages are unchanged, whatever their height
abbrev pub KeepPages : Lone → List Shown → List Shown → Type 0
KeepPages l xs ys = (height : ℕ) → WerePages height (unit_views xs) l → IsPaged height (unit_views ys) l.paged

-- the next of these sums after number i is larger by n
pub record IsGap (sums : List ℕ) (i n : ℕ) : Type 0 where
  pub before : ℕ
  pub first : slice_get sums i ≡ Some before
  pub second : slice_get sums (i + 1) ≡ Some (before + n)

-- this has as many lines and errors as the lone unit had, and neither had or has a line that is the last of its page
pub record AreAlike (l : Lone) (y : Shown) : Type 0 where
  pub lines : IsGap l.paged.rows.items l.unit (length (unit_view y).lines)
  pub errors : IsGap l.paged.errors.items l.unit (length y.errors.items)
  pub unmarked : l.unmarked ≡ true
  pub still_unmarked : All Unmarked (unit_view y).lines
