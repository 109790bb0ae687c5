-- Where units are in order, a number of a place says which one is above it.
use Rattle.std.proofs.Common.{◌≡◌, ℕ, zero, suc, ◌+◌, ◌-◌, ◌<◌, ◌≤◌, List, [], ◌∷◌, ◌++◌, length, Option, Some, None}
use Rattle.std.proofs.Common.{refl}
use Rattle.std.proofs.Common.{ap, sym, subst, ◌∙◌, arith, slice_index_or, ◌⊎◌, inl, inr, Bool, true, false, eqb, ◌^◌}
use Rattle.std.proofs.lemmas.Bool.{eqb-true, eqb-false}
use Rattle.std.proofs.lemmas.List.{length-append}
use Rattle.std.proofs.lemmas.Option.{same_Some, slice_get_within, slice_get-get_or}
use Rattle.std.specs.Prelude.{slice_get, is_some}
use Rattle.tx_units.specs.declared.kinds.Unit.{Unit as DocUnit}
use Rattle.tx_bridge.specs.Courses.{AreAligned}
use Rattle.tx_bridge.specs.PartMoves.{NoneAbove, rest_in}
use Rattle.tx_bridge.specs.Slots.{IsInOrder}
use Rattle.tx_bridge.proofs.Above.{IsIn, rest_in_is, off_rest}

-- ---- units that are looked at one by one

-- the first i units are aligned
pub record AlignedTo (first depth : ℕ) (us : List DocUnit) (i : ℕ) : Type 0 where
  pub order : (k : ℕ) (u : DocUnit) → k < i → slice_get us k ≡ Some u → IsInOrder first k u
  pub depths : (k : ℕ) (u : DocUnit) (p : List ℕ) → k < i → slice_get us k ≡ Some u → u.path ≡ Some p
      → length p ≡ depth

module _ (first depth : ℕ) (us : List DocUnit) (i : ℕ) (h : AlignedTo first depth us i) where
  same_unit : (k : ℕ) (u d : DocUnit) → i < length us → slice_get us k ≡ Some u → k ≡ i
      → slice_index_or us i d ≡ u
  same_unit k u d inside at is =
      same_Some (slice_index_or us i d) u (sym (slice_get-get_or us i d inside) ∙ ap (slice_get us) (sym is) ∙ at)

  pub aligned_more : (d : DocUnit) → i < length us → d ≡ slice_index_or us i d → IsInOrder first i d
      → ((p : List ℕ) → d.path ≡ Some p → length p ≡ depth) → AlignedTo first depth us (i + 1)
  aligned_more d inside is one far = record {
    order = λ k u less at. order_by k u at less (by_place k less);
    depths = λ k u p less at has. depth_by k u p at has less (by_place k less);
  }
    where
      by_place : (k : ℕ) → k < i + 1 → (k < i) ⊎ (k ≡ i)
      by_place k less = by (eqb k i) refl
        where
          by : (b : Bool) → eqb k i ≡ b → (k < i) ⊎ (k ≡ i)
          by true e = inr (eqb-true k i e)
          by false e = inl (omega (arith, less, eqb-false k i e))

      order_by : (k : ℕ) (u : DocUnit) → slice_get us k ≡ Some u → k < i + 1 → (k < i) ⊎ (k ≡ i)
          → IsInOrder first k u
      order_by k u at less (inl few) = h.order k u few at
      order_by k u at less (inr same) =
          let unit : d ≡ u = is ∙ same_unit k u d inside at same in
          subst (IsInOrder first k) unit (subst (λ n. IsInOrder first n d) (sym same) one)

      depth_by : (k : ℕ) (u : DocUnit) (p : List ℕ) → slice_get us k ≡ Some u → u.path ≡ Some p → k < i + 1
          → (k < i) ⊎ (k ≡ i) → length p ≡ depth
      depth_by k u p at has less (inl few) = h.depths k u p few at has
      depth_by k u p at has less (inr same) =
          let unit : d ≡ u = is ∙ same_unit k u d inside at same in
          far p (ap (λ (w : DocUnit). w.path) unit ∙ has)

  pub aligned_all : first < 2 ^ 63 → length us ≤ i → AreAligned first depth us
  aligned_all small past = record {
    small = small;
    order = λ k u at. h.order k u (omega (arith, past, slice_get_within us k u at)) at;
    depths = λ k u p at has. h.depths k u p (omega (arith, past, slice_get_within us k u at)) at has;
  }

-- ---- what the place says

get_front : (xs ys : List ℕ) (k : ℕ) → k < length xs → slice_get (xs ++ ys) k ≡ slice_get xs k
get_front [] ys k less = absurd (omega (arith, less))
get_front (x ∷ xs) ys zero less = refl
get_front (x ∷ xs) ys (suc k) less = get_front xs ys k (omega (arith, less))

module _ (first depth : ℕ) (us : List DocUnit) (place : List ℕ) (h : AreAligned first depth us) where
  -- the number of a unit at the place or above it
  record IsTold (k : ℕ) : Type 0 where
    number : ℕ
    there : slice_get place (depth - 1) ≡ Some number
    is : k ≡ first + number
    deep : 0 < depth
    far : depth ≤ length place

  told : (k : ℕ) (u : DocUnit) (r : List ℕ) → slice_get us k ≡ Some u → rest_in u place ≡ Some r → IsTold k
  told k u r at e =
      let x : IsIn u place r = rest_in_is u place r e in
      let n = h.order k u at x.path x.has in
      let many : length x.path ≡ depth = h.depths k u x.path at x.has in
      let inside : length x.path - 1 < length x.path = slice_get_within x.path (length x.path - 1) n.0 n.1 in
      let whole : length place ≡ length x.path + length r = ap length x.whole ∙ length-append x.path r in
      record {
        number = n.0;
        there =
            ap (λ d. slice_get place (d - 1)) (sym many)
            ∙ ap (λ q. slice_get q (length x.path - 1)) x.whole ∙ get_front x.path r (length x.path - 1) inside ∙ n.1;
        is = n.2;
        deep = omega (arith, many, inside);
        far = omega (arith, many, whole);
      }

  pub none_near : ((0 < depth) → depth ≤ length place → ⊥) → NoneAbove place us
  none_near off k u at = off_rest u place (λ r e. let t = told k u r at e in off t.deep t.far)

  pub none_at : (n d : ℕ) → depth - 1 < length place → n ≡ slice_index_or place (depth - 1) d
      → ((u : DocUnit) → slice_get us (first + n) ≡ Some u → rest_in u place ≡ None) → NoneAbove place us
  none_at n d inside read none k u at =
      off_rest u place
      (λ r e.
      let t = told k u r at e in
      let same : t.number ≡ n =
      same_Some t.number n (sym t.there ∙ slice_get-get_or place (depth - 1) d inside ∙ ap (λ m. Some m) (sym read)) in
      let off : None ≡ Some r =
      sym (none u (ap (slice_get us) (sym (t.is ∙ ap (λ m. first + m) same)) ∙ at)) ∙ e in
      cc)

pub none_some : (o : Option (List ℕ)) → is_some o ≡ false → o ≡ None
none_some None e = refl
none_some (Some r) e = cc
