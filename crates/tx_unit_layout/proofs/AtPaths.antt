-- What is cached at the path of a part, where no two parts have one path.
use Rattle.std.proofs.Common.{◌≡◌, ℕ, zero, suc, List, [], ◌∷◌, Some, refl, ◌∙◌, subst}
use Rattle.std.proofs.lemmas.Slice.Eq.{bytes_eq-Decides}
use Rattle.std.specs.Prelude.{Bool, false, slice_get}
use Rattle.std.specs.List.{AllByRecursion, IsDistinct}
use Rattle.std.specs.Str.{bytes_eq}
use Rattle.tx_parts.specs.Parts.{Stored}
use Rattle.tx_walk.specs.declared.part.Part.{Part as DonePart}
use Rattle.tx_walk.specs.Walked.{paths_of}
use Rattle.tx_walk.proofs.Found.{if_true, if_false}
use Rattle.tx_bridge.specs.HeldParts.{kept_part, kept_parts}
use Rattle.tx_bridge.specs.PartsKept.{kept_at}
use Rattle.tx_unit_layout.specs.LaidUnits.{Stays}

not_at : (path : List ℕ) (ds : List DonePart) (k : ℕ) (s : Stored)
    → AllByRecursion (λ y. bytes_eq path y ≡ false) (paths_of ds) → slice_get (kept_parts ds) k ≡ Some s
    → bytes_eq path s.path ≡ false
not_at path [] k s others h = cc
not_at path (d ∷ ds) zero s others h =
    let same : kept_part d ≡ s = cc in
    subst (λ (r : Stored). bytes_eq path r.path ≡ false) same others.0
not_at path (d ∷ ds) (suc k) s others h = not_at path ds k s others.1 h

-- at the path of each part its trace is cached
kept_there : (ds : List DonePart) (k : ℕ) (s : Stored) → IsDistinct bytes_eq (paths_of ds)
    → slice_get (kept_parts ds) k ≡ Some s → kept_at (kept_parts ds) s.path ≡ s.trace
unfolding IsDistinct
kept_there [] k s distinct h = cc
kept_there (d ∷ ds) zero s distinct h =
    let same : kept_part d ≡ s = cc in
    subst (λ (r : Stored). kept_at (kept_parts (d ∷ ds)) r.path ≡ r.trace) same
    (if_true (bytes_eq d.path d.path) (kept_part d).trace (kept_at (kept_parts ds) d.path)
    ((bytes_eq-Decides d.path d.path).1 refl))
kept_there (d ∷ ds) (suc k) s distinct h =
    if_false (bytes_eq d.path s.path) (kept_part d).trace (kept_at (kept_parts ds) s.path)
    (not_at d.path ds k s distinct.0 h)
    ∙ kept_there ds k s distinct.1 h

-- what is cached is unchanged, whatever the flags
pub all_stay : (ds : List DonePart) (fs : List Bool) → IsDistinct bytes_eq (paths_of ds)
    → Stays (kept_parts ds) (kept_parts ds) fs
all_stay ds fs distinct = λ k s h flag. kept_there ds k s distinct h
