-- The first units of the cache, one more.
use Rattle.std.proofs.Common.{◌≡◌, ℕ, zero, suc, ◌+◌, List, [], ◌∷◌, ◌++◌, Some, None, take, refl, ap, sym, arith}
use Rattle.std.proofs.Common.{◌∙◌}
use Rattle.std.specs.Prelude.{slice_get}
use Rattle.std.specs.Option.{option_map}
use Rattle.tx_units.specs.declared.kinds.Unit.{Unit as DocUnit}
use Rattle.tx_bridge.specs.Entries.{Entry, Kept, units_of}

taken : (es : Kept) (i : ℕ) (u : DocUnit) → option_map (λ (e : Entry). e.unit) (slice_get es i) ≡ Some u
    → take (suc i) (units_of es) ≡ take i (units_of es) ++ u ∷ []
taken [] i u e = absurd cc
taken (x ∷ es) zero u e = let same : x.unit ≡ u = cc in ap (λ v. v ∷ []) same
taken (x ∷ es) (suc i) u e = ap (λ us. x.unit ∷ us) (taken es i u e)

no_more : (es : Kept) (i : ℕ) → slice_get es i ≡ None → take (suc i) (units_of es) ≡ take i (units_of es)
no_more [] zero e = refl
no_more [] (suc i) e = refl
no_more (x ∷ es) zero e = absurd cc
no_more (x ∷ es) (suc i) e = ap (λ us. x.unit ∷ us) (no_more es i e)

-- a unit more is shared
pub first_next : (es : Kept) (i : ℕ) (u v : DocUnit) (us vs : List DocUnit) → us ≡ take i (units_of es)
    → option_map (λ (e : Entry). e.unit) (slice_get es i) ≡ Some u → v ≡ u → vs ≡ us ++ v ∷ []
    → vs ≡ take (i + 1) (units_of es)
first_next es i u v us vs h there same more =
    let next : suc i ≡ i + 1 = omega arith in
    more ∙ ap (λ w. us ++ w ∷ []) same ∙ ap (λ ws. ws ++ u ∷ []) h ∙ sym (taken es i u there)
    ∙ ap (λ n. take n (units_of es)) next

-- there is none any more
pub first_all : (es : Kept) (i : ℕ) (us : List DocUnit) → us ≡ take i (units_of es) → slice_get es i ≡ None
    → us ≡ take (i + 1) (units_of es)
first_all es i us h none =
    let next : suc i ≡ i + 1 = omega arith in
    h ∙ sym (no_more es i none) ∙ ap (λ n. take n (units_of es)) next
