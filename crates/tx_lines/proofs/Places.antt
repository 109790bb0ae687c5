-- Lists by their places, and cuts that follow one another.
use Rattle.std.proofs.Common.{◌≡◌, ℕ, zero, suc, ◌<◌, ◌≤◌, List, [], ◌∷◌, ◌++◌, length, drop, Some, refl, sym, ap, ◌∙◌}
use Rattle.std.proofs.Common.{◌⊎◌, inl, inr, arith}
use Rattle.std.specs.Prelude.{slice_get, slice_range}
use Rattle.std.specs.List.{flat_map}
use Rattle.std.proofs.lemmas.List.{drop_all}
use Rattle.std.proofs.lemmas.List.Folds.{drop_split}
use Rattle.tx_lines.specs.declared.cut.Cut.{Cut}
use Rattle.tx_lines.specs.Cuts.{Partitions}

-- an element of a list with one more at the end
pub slice_get-push : {X : Type 0} → (xs : List X) (y : X) (k : ℕ) (x : X) → slice_get (xs ++ y ∷ []) k ≡ Some x
    → (slice_get xs k ≡ Some x) ⊎ ((k ≡ length xs) × (y ≡ x))
slice_get-push [] y zero x e = inr (refl, cc)
slice_get-push [] y (suc k) x e = cc
slice_get-push (z ∷ xs) y zero x e = inl e
slice_get-push (z ∷ xs) y (suc k) x e =
    elim (slice_get-push xs y k x e) [ inl at ↦ inl at | inr last ↦ inr (ap suc last.0, last.1) ]

-- cuts with the same ends
pub same_cut : (x y : Cut) → x.from ≡ y.from → x.to ≡ y.to → x ≡ y
same_cut x y e f =
    let at : ℕ → ℕ → Cut = λ from to. record { from = from; to = to } in
    ap (λ from. at from x.to) e ∙ ap (at y.from) f

-- cuts lead forward
pub forward : (cuts : List Cut) (from to : ℕ) → Partitions cuts from to → from ≤ to
forward [] from to h = omega arith
forward (cut ∷ rest) from to h = let on : cut.to ≤ to = forward rest cut.to to h.2 in omega arith

-- one more cut
pub Partitions-push : (cuts : List Cut) (last : Cut) (from : ℕ) → Partitions cuts from last.from → last.from < last.to
    → Partitions (cuts ++ last ∷ []) from last.to
Partitions-push [] last from h more = (sym h, omega arith, refl)
Partitions-push (cut ∷ rest) last from h more = (h.0, h.1, Partitions-push rest last cut.to h.2 more)

-- each cut begins where the one before it ends
pub meets : (cuts : List Cut) (from to k : ℕ) (cut next : Cut) → Partitions cuts from to → slice_get cuts k ≡ Some cut
    → slice_get cuts (suc k) ≡ Some next → (cut.to ≡ next.from) × (next.from < to)
meets [] from to k cut next h e f = cc
meets (x ∷ []) from to zero cut next h e f = cc
meets (x ∷ []) from to (suc k) cut next h e f = cc
meets (x ∷ (y ∷ rest)) from to zero cut next h e f =
    let here : x ≡ cut = cc in
    let there : y ≡ next = cc in
    let on : y.to ≤ to = forward rest y.to to h.2.2 in
    let begins : y.from ≡ next.from = ap (λ c. c.from) there in
    (ap (λ c. c.to) (sym here) ∙ sym h.2.0 ∙ begins, omega arith)
meets (x ∷ (y ∷ rest)) from to (suc k) cut next h e f = meets (y ∷ rest) x.to to k cut next h.2 e f

-- the parts at the cuts, in order, are the list from the first cut on
pub parts_of_cuts : {X : Type 0} → (xs : List X) (cuts : List Cut) (from : ℕ) → Partitions cuts from (length xs)
    → flat_map (λ cut. slice_range xs cut.from cut.to) cuts ≡ drop from xs
parts_of_cuts xs [] from h = sym (drop_all from xs (omega arith))
parts_of_cuts xs (cut ∷ rest) from h =
    ap (λ i. slice_range xs i cut.to ++ flat_map (λ (c : Cut). slice_range xs c.from c.to) rest) h.0
    ∙ ap (λ ys. slice_range xs from cut.to ++ ys) (parts_of_cuts xs rest cut.to h.2)
    ∙ sym (drop_split xs from cut.to (omega arith))
