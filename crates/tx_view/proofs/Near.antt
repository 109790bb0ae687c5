-- The stops beside a place are the same among those near it as among all.
use Rattle.std.proofs.Common.{◌≡◌, ℕ, zero, suc, ◌+◌, ◌<◌, ◌⊎◌, inl, inr, List, [], ◌∷◌, ◌++◌, length, slice_get}
use Rattle.std.proofs.Common.{Option}
use Rattle.std.proofs.Common.{Some, None, refl, sym, ap, ◌∙◌, arith, append_assoc, append-nil, eq-or-lt_of_le}
use Rattle.std.specs.Option.{option_map}
use Rattle.tx_tree.specs.declared.places.Place.{Place}
use Rattle.tx_tree.specs.SamePlaces.{same_place, stop_number}
use Rattle.tx_view.specs.Near.{AreNear}
use Rattle.tx_view.proofs.Parts.{number_below}
use Rattle.tx_view.proofs.UnitRows.{get_left}

-- the stop before the one of this number, and the first where there is no number
abbrev pub stop_before : List Place → Option ℕ → Option Place
stop_before ps None = slice_get ps 0
stop_before ps (Some zero) = None
stop_before ps (Some (suc k)) = slice_get ps k

-- the stop after the one of this number, and the first where there is no number
abbrev pub stop_behind : List Place → Option ℕ → Option Place
stop_behind ps None = slice_get ps 0
stop_behind ps (Some k) = slice_get ps (k + 1)

-- ---- elements of lists in two parts

get_behind : {X : Type 0} (xs ys : List X) (k : ℕ) → slice_get (xs ++ ys) (length xs + k) ≡ slice_get ys k
get_behind [] ys k = ap (slice_get ys) (omega arith)
get_behind (x ∷ xs) ys k =
    let more : length (x ∷ xs) + k ≡ suc (length xs + k) = omega arith in
    ap (slice_get (x ∷ (xs ++ ys))) more ∙ get_behind xs ys k

first_of : {X : Type 0} (xs ys : List X) → (xs ≡ [] → ys ≡ []) → slice_get xs 0 ≡ slice_get (xs ++ ys) 0
first_of [] ys h = ap (λ zs. slice_get zs 0) (sym (h refl))
first_of (x ∷ xs) ys h = refl

module _ (all near : List Place) (at : Place) (h : AreNear all near at) where
  get_all : (k : ℕ) → slice_get all (length h.before + k) ≡ slice_get (near ++ h.behind) k
  get_all k =
      ap (λ ps. slice_get ps (length h.before + k)) (h.parts ∙ append_assoc h.before near h.behind)
      ∙ get_behind h.before (near ++ h.behind) k

  -- where the place is no stop, the first stops are the same
  same_first : stop_number near at ≡ None → slice_get near 0 ≡ slice_get all 0
  same_first e =
      first_of near h.behind (h.not_empty e)
      ∙ ap (λ ps. slice_get ps 0) (ap (λ ps. ps ++ near ++ h.behind) (sym (h.from_start e)) ∙ sym h.parts)

  number_of_all : (n : Option ℕ) → stop_number near at ≡ n
      → stop_number all at ≡ option_map (λ k. length h.before + k) n
  number_of_all n e = h.found ∙ ap (option_map (λ k. length h.before + k)) e

  before_by : (n : Option ℕ) → stop_number near at ≡ n → stop_before near n ≡ stop_before all (stop_number all at)
  before_by None e = same_first e ∙ ap (stop_before all) (sym (number_of_all None e))
  before_by (Some zero) e =
      let none : length h.before + 0 ≡ 0 = omega (arith, ap length (h.first e)) in
      ap (stop_before all) (ap Some (sym none) ∙ sym (number_of_all (Some 0) e))
  before_by (Some (suc k)) e =
      let more : length h.before + suc k ≡ suc (length h.before + k) = omega arith in
      sym (get_left near h.behind k (omega (arith, number_below (same_place at) near (suc k) e))) ∙ sym (get_all k)
      ∙ ap (stop_before all) (ap Some (sym more) ∙ sym (number_of_all (Some (suc k)) e))

  pub same_before : stop_before near (stop_number near at) ≡ stop_before all (stop_number all at)
  same_before = before_by (stop_number near at) refl

  next_near : (k : ℕ) → stop_number near at ≡ Some k → (k + 1 ≡ length near) ⊎ (k + 1 < length near)
      → slice_get near (k + 1) ≡ slice_get (near ++ h.behind) (k + 1)
  next_near k e (inl last) =
      ap (λ ps. slice_get ps (k + 1)) (sym (append-nil near) ∙ ap (λ ps. near ++ ps) (sym (h.last k e last)))
  next_near k e (inr lt) = sym (get_left near h.behind (k + 1) lt)

  behind_by : (n : Option ℕ) → stop_number near at ≡ n → stop_behind near n ≡ stop_behind all (stop_number all at)
  behind_by None e = same_first e ∙ ap (stop_behind all) (sym (number_of_all None e))
  behind_by (Some k) e =
      let more : length h.before + (k + 1) ≡ length h.before + k + 1 = omega arith in
      let le : (k + 1 ≡ length near) ⊎ (k + 1 < length near) =
      eq-or-lt_of_le (omega (arith, number_below (same_place at) near k e)) in
      next_near k e le ∙ sym (get_all (k + 1)) ∙ ap (slice_get all) more
      ∙ ap (stop_behind all) (sym (number_of_all (Some k) e))

  pub same_behind : stop_behind near (stop_number near at) ≡ stop_behind all (stop_number all at)
  same_behind = behind_by (stop_number near at) refl
