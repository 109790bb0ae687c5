-- Which unit each one was before the last edit, by the way in which that is known.
use Rattle.std.proofs.Common.{◌≡◌, ℕ, zero, suc, ◌+◌, List, [], ◌∷◌, length, ◌≤◌, Option, Some, None, refl, ap, sym}
use Rattle.std.proofs.Common.{◌∙◌, arith}
use Rattle.std.proofs.lemmas.List.{length-map}
use Rattle.std.proofs.lemmas.Option.{same_Some}
use Rattle.std.specs.Prelude.{slice_get, ◌==◌, if◌then◌else◌, option_and_then}
use Rattle.tx_bridge.specs.declared.bridge.Bridge.{Bridge}
use Rattle.tx_bridge.specs.declared.bridge.Way.{Way}
use Rattle.tx_bridge.specs.declared.bridge.Way.TheVariants.{Listed, InPlace}
use Rattle.tx_bridge.specs.Sound.{sources_in, source_by, sources_by}
use Rattle.tx_bridge.specs.InPlace.{numbers_but}

many_sources : (bs cs : List Bridge) → sources_in bs ≡ sources_in cs → length bs ≡ length cs
many_sources bs cs e =
    sym (length-map bs (λ (b : Bridge). b.source)) ∙ ap length e ∙ length-map cs (λ (b : Bridge). b.source)

pub sources_stay : (way : Way) (bs cs : List Bridge) → sources_in bs ≡ sources_in cs
    → sources_by way bs ≡ sources_by way cs
sources_stay Listed bs cs e = e
sources_stay (InPlace i) bs cs e = ap (numbers_but i 0) (many_sources bs cs e)

-- ---- that of one unit

listed_at : (bs : List Bridge) (n : ℕ) (b : Bridge) → slice_get bs n ≡ Some b
    → slice_get (sources_in bs) n ≡ Some b.source
listed_at [] n b e = cc
listed_at (x ∷ bs) zero b e = ap (λ (y : Bridge). Some y.source) (same_Some x b e)
listed_at (x ∷ bs) (suc n) b e = listed_at bs n b e

number_at : (i k m n : ℕ) (bs : List Bridge) (b : Bridge) → m ≡ k + n → slice_get bs n ≡ Some b
    → slice_get (numbers_but i k (length bs)) n ≡ Some (if m == i then None else Some m)
number_at i k m n [] b is e = cc
number_at i k m zero (x ∷ bs) b is e =
    let same : k ≡ m = omega (arith, is) in ap (λ j. Some (if j == i then None else Some j)) same
number_at i k m (suc n) (x ∷ bs) b is e = number_at i (k + 1) m n bs b (omega (arith, is)) e

source_at : (way : Way) (bs : List Bridge) (n : ℕ) (b : Bridge) → slice_get bs n ≡ Some b
    → slice_get (sources_by way bs) n ≡ Some (source_by way n b)
source_at Listed bs n b e = listed_at bs n b e
source_at (InPlace i) bs n b e = number_at i 0 n n bs b (omega arith) e

none_listed : (bs : List Bridge) (n : ℕ) → length bs ≤ n → slice_get (sources_in bs) n ≡ None
none_listed [] n past = refl
none_listed (x ∷ bs) zero past = absurd (omega (arith, past))
none_listed (x ∷ bs) (suc n) past = none_listed bs n (omega (arith, past))

none_numbered : (i k n : ℕ) (bs : List Bridge) → length bs ≤ n → slice_get (numbers_but i k (length bs)) n ≡ None
none_numbered i k n [] past = refl
none_numbered i k zero (x ∷ bs) past = absurd (omega (arith, past))
none_numbered i k (suc n) (x ∷ bs) past = none_numbered i (k + 1) n bs (omega (arith, past))

no_source : (way : Way) (bs : List Bridge) (n : ℕ) → length bs ≤ n → slice_get (sources_by way bs) n ≡ None
no_source Listed bs n past = none_listed bs n past
no_source (InPlace i) bs n past = none_numbered i 0 n bs past

-- what is read of the list that contracts see
pub source_read : (way : Way) (bs items : List Bridge) (ss : List (Option ℕ)) (n : ℕ) (b : Bridge) → bs ≡ items
    → sources_by way items ≡ ss → slice_get bs n ≡ Some b
    → source_by way n b ≡ option_and_then (λ s. s) (slice_get ss n)
source_read way bs items ss n b is seen e =
    ap (option_and_then (λ s. s))
    (sym (source_at way items n b (ap (λ cs. slice_get cs n) (sym is) ∙ e)) ∙ ap (λ os. slice_get os n) seen)

pub none_read : (way : Way) (bs items : List Bridge) (ss : List (Option ℕ)) (n : ℕ) → bs ≡ items
    → sources_by way items ≡ ss → length bs ≤ n → None ≡ option_and_then (λ s. s) (slice_get ss n)
none_read way bs items ss n is seen past =
    let many : length bs ≡ length items = ap length is in
    ap (option_and_then (λ s. s))
    (sym (no_source way items n (omega (arith, past, many))) ∙ ap (λ os. slice_get os n) seen)
