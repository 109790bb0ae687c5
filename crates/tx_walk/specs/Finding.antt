-- What is found in the cache.
use Rattle.std.specs.Prelude.{◌≡◌, ℕ, Bool, true, false, List, Option, Some, slice_get}
use Rattle.std.specs.List.{All, IsDistinct}
use Rattle.std.specs.List.Sorted.{IsSortedBy}
use Rattle.std.specs.declared.cmp.Ordering.{Ordering}
use Rattle.std.specs.Ordering.{nat_cmp, is_lt}
use Rattle.std.specs.Cmp.Lexicographic.{slice_cmp}
use Rattle.std.specs.Str.{bytes_eq}
use Rattle.tx_exec_form.specs.Runs.{Before}
use Rattle.tx_exec_form.specs.Evaluated.{WideTrace}
use Rattle.tx_exec.specs.Outcomes.{wide_trace}
use Rattle.tx_walk.specs.declared.part.Part.{Part as DonePart}
use Rattle.tx_walk.specs.Held.{Stores, fits}
use Rattle.tx_walk.specs.Walked.{kept_in, paths_of, IsTidy}

-- how the part's path compares with this one
abbrev pub side : List ℕ → DonePart → Ordering
side path p = slice_cmp nat_cmp p.path path

-- no part's path comes before the path of the part before it
abbrev pub AreSortedByPath : List DonePart → Type 0
AreSortedByPath ps = IsSortedBy (λ p q. is_lt (side q.path p)) ps

-- parts that are looked up: they have different paths, and each is tidy
pub record AreFindable (ps : List DonePart) : Type 0 where
  pub distinct : IsDistinct bytes_eq (paths_of ps)
  pub tidy : All IsTidy ps

-- the part of this number is the cached one at the path
pub record IsKeptAt (kept : List DonePart) (path : List ℕ) (i : ℕ) : Type 0 where
  pub part : DonePart
  pub there : slice_get kept i ≡ Some part
  pub stands : part.path ≡ path
  pub is : kept_in kept path ≡ Some (wide_trace part.trace)

-- what was found at the path is this part's trace, and it fits
pub record IsHeldBy (e : Before) (path : List ℕ) (found : Option WideTrace) (p : DonePart) : Type 0 where
  pub stands : p.path ≡ path
  pub is : found ≡ Some (wide_trace p.trace)
  pub held : fits e found ≡ true
  pub tidy : IsTidy p

-- the part holds the one at the path: it is the cached one there, or, where that doesn't fit, the spare's
abbrev pub IsHeldIn : Before → List ℕ → Stores → DonePart → Bool → Type 0
IsHeldIn e path kept p false = IsHeldBy e path (kept.own path) p
IsHeldIn e path kept p true = (fits e (kept.own path) ≡ false) × IsHeldBy e path (kept.spare path) p

-- nothing holds the part at the path
pub record IsUnheld (e : Before) (path : List ℕ) (kept : Stores) : Type 0 where
  pub own : fits e (kept.own path) ≡ false
  pub spare : fits e (kept.spare path) ≡ false
