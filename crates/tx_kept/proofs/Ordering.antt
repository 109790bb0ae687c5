-- The order of entries when one of them gets another value.
use Rattle.std.proofs.Common.{◌≡◌, ℕ, zero, suc, List, [], ◌∷◌, Some, None, slice_index_or, refl, sym, ap, subst, ◌∙◌}
use Rattle.std.proofs.Common.{◌<◌, length, arith}
use Rattle.std.specs.Prelude.{slice_set, slice_get}
use Rattle.std.proofs.lemmas.List.{set-set, set-get_or, length-set, get_or-set_same}
use Rattle.std.proofs.lemmas.Option.{slice_get_read}
use Rattle.std.specs.Option.{option_map_or}
use Rattle.tx_mod.specs.Orders.{IsBefore}
use Rattle.tx_kept.specs.declared.path_map.Entry.{Entry}
use Rattle.tx_kept.specs.Entries.{AllAfter, IsInOrder, with_value}

module _ {X : Type 0} where
  after_set : (p : List ℕ) (xs : List (Entry X)) (i : ℕ) (x y : Entry X) → slice_get xs i ≡ Some x → y.path ≡ x.path
      → AllAfter p xs → AllAfter p (slice_set xs i y)
  after_set p [] i x y e same h = absurd (cc)
  after_set p (z ∷ xs) zero x y e same h =
      let is : z ≡ x = cc in
      (subst (λ q. IsBefore p q) (ap (λ (w : Entry X). w.path) is ∙ sym same) h.0, h.1)
  after_set p (z ∷ xs) (suc i) x y e same h = (h.0, after_set p xs i x y e same h.1)

  -- another entry at the same path
  pub order_set : (xs : List (Entry X)) (i : ℕ) (x y : Entry X) → slice_get xs i ≡ Some x → y.path ≡ x.path
      → IsInOrder xs → IsInOrder (slice_set xs i y)
  order_set [] i x y e same h = absurd (cc)
  order_set (z ∷ xs) zero x y e same h =
      let is : z ≡ x = cc in
      (subst (λ q. AllAfter q xs) (ap (λ (w : Entry X). w.path) is ∙ sym same) h.0, h.1)
  order_set (z ∷ xs) (suc i) x y e same h = (after_set z.path xs i x y e same h.0, order_set xs i x y e same h.1)

  pub set_is : (xs ys : List (Entry X)) (i : ℕ) (x : Entry X) (v w : X) → ys ≡ xs → slice_get xs i ≡ Some x → w ≡ v
      → slice_set xs i (record { path = x.path; value = w }) ≡ with_value ys i v
  set_is xs ys i x v w same e val =
      ap (λ u. slice_set xs i (record { path = x.path; value = u })) val
      ∙ sym (ap (λ o. option_map_or (λ z. slice_set xs i (record { path = z.path; value = v })) o xs) e)
      ∙ sym (ap (λ l. with_value l i v) same)

  -- the old value is put back
  pub set_back : (xs : List (Entry X)) (i : ℕ) (x y : Entry X) (v : X) → i < length xs → x ≡ slice_index_or xs i x
      → y.path ≡ x.path → v ≡ x.value → with_value (slice_set xs i y) i v ≡ xs
  set_back xs i x y v lt is same val =
      let l : List (Entry X) = slice_set xs i y in
      let there : slice_get l i ≡ Some y =
      slice_get_read l (length l) i y refl (subst (λ n. i < n) (sym (length-set xs i y)) lt)
      (sym (get_or-set_same xs i y y lt)) in
      let back : record { path = y.path; value = v } ≡ x = again y.path v same val in
      ap (λ o. option_map_or (λ z. slice_set l i (record { path = z.path; value = v })) o l) there
      ∙ set-set xs i y (record { path = y.path; value = v })
      ∙ ap (slice_set xs i) (back ∙ is) ∙ set-get_or xs i x
    where
      again : (p : List ℕ) (u : X) → p ≡ x.path → u ≡ x.value → record { path = p; value = u } ≡ x
      again p u e f =
          ap (λ q. record { path = q; value = u }) e ∙ ap (λ w. record { path = x.path; value = w }) f
