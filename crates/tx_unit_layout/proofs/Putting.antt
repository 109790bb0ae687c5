-- Parts that are put to their new places.
use Rattle.std.proofs.Common.{◌≡◌, ℕ, ◌+◌, ◌<◌, ◌≤◌, List, [], ◌∷◌, ◌++◌, length, drop, take, map, get_or, refl}
use Rattle.std.proofs.Common.{Option, Some, None, sym, ap, ◌∙◌, arith, slice_set, option_map}
use Rattle.std.proofs.lemmas.List.{append_assoc, append-nil, drop_more, drop_all, take-set-le, drop-set-lt}
use Rattle.std.proofs.lemmas.List.{get_or-set_same}
use Rattle.std.specs.List.{cons_option}
use Rattle.std.specs.Prelude.{Bool, true, false, ◌==◌, if◌then◌else◌}
use Rattle.tx_bridge.specs.MovedParts.{places_by}
use Rattle.tx_part_layout.specs.LaidParts.{laid_paths, put_to}
use Rattle.tx_part_layout.specs.declared.laid.PlacedPart.{PlacedPart}
use Rattle.tx_unit_layout.specs.Moving.{PartPlaces, put_along, wide_part, laid_by}

put_none : (i : ℕ) (ms : PartPlaces) → put_along i ms [] ≡ []
put_none i [] = refl
put_none i (m ∷ ms) = refl

-- ---- going over the list

next_of : (ps : List PlacedPart) (i : ℕ) → i < length ps → (p : PlacedPart) × (drop i ps ≡ p ∷ drop (i + 1) ps)
next_of [] i inside = absurd (omega (arith, inside))
next_of (p ∷ ps) i inside = (get_or (p ∷ ps) i p, drop_more (p ∷ ps) i p inside)

module _ (old : List PlacedPart) (at i : ℕ) (ms later : PartPlaces) (inside : i < length old) where
  -- the part moves down
  pub down_same : (new : List PlacedPart)
      → ((d : PlacedPart) → take (at + 1) new ≡ take at old ++ get_or old i d ∷ [])
      → drop (i + 1) new ≡ drop (i + 1) old
      → ((p : PlacedPart) (ps : List PlacedPart) → put_along i ms (p ∷ ps) ≡ p ∷ put_along (i + 1) ms ps)
      → take (at + 1) new ++ put_along (i + 1) ms (drop (i + 1) new) ≡ take at old ++ put_along i ms (drop i old)
  down_same new front back stays =
      let d : PlacedPart = (next_of old i inside).0 in
      let rest : List PlacedPart = put_along (i + 1) ms (drop (i + 1) old) in
      ap (λ ps. take (at + 1) new ++ put_along (i + 1) ms ps) back
      ∙ ap (λ ps. ps ++ rest) (front d)
      ∙ append_assoc (take at old) (get_or old i d ∷ []) rest
      ∙ ap (λ ps. take at old ++ ps)
      (sym (stays (get_or old i d) (drop (i + 1) old)) ∙ ap (put_along i ms) (sym (drop_more old i d inside)))

  -- it is dropped
  pub gone_same : ((p : PlacedPart) (ps : List PlacedPart) → put_along i ms (p ∷ ps) ≡ put_along (i + 1) later ps)
      → take at old ++ put_along (i + 1) later (drop (i + 1) old) ≡ take at old ++ put_along i ms (drop i old)
  gone_same goes =
      let next = next_of old i inside in
      ap (λ ps. take at old ++ ps)
      (sym (goes next.0 (drop (i + 1) old)) ∙ ap (put_along i ms) (sym next.1))

  -- it moves down, at another path
  pub moved_same : (mid new : List PlacedPart) (path : List ℕ) → at ≤ i
      → ((d : PlacedPart) → mid ≡ slice_set old i (put_to path (get_or old i d)))
      → ((d : PlacedPart) → take (at + 1) new ≡ take at mid ++ get_or mid i d ∷ [])
      → drop (i + 1) new ≡ drop (i + 1) mid
      → ((p : PlacedPart) (ps : List PlacedPart) → put_along i ms (p ∷ ps) ≡ put_to path p ∷ put_along (i + 1) later ps)
      → take (at + 1) new ++ put_along (i + 1) later (drop (i + 1) new) ≡ take at old ++ put_along i ms (drop i old)
  moved_same mid new path order is front back puts =
      let d : PlacedPart = (next_of old i inside).0 in
      let p : PlacedPart = get_or old i d in
      let rest : List PlacedPart = put_along (i + 1) later (drop (i + 1) old) in
      let behind : drop (i + 1) new ≡ drop (i + 1) old =
      back ∙ ap (drop (i + 1)) (is d) ∙ drop-set-lt (i + 1) old i (put_to path p) (omega arith) in
      let before : take at mid ≡ take at old =
      ap (take at) (is d) ∙ take-set-le at old i (put_to path p) order in
      let here : get_or mid i d ≡ put_to path p =
      ap (λ ps. get_or ps i d) (is d) ∙ get_or-set_same old i (put_to path p) d inside in
      ap (λ ps. take (at + 1) new ++ put_along (i + 1) later ps) behind
      ∙ ap (λ ps. ps ++ rest) (front d)
      ∙ ap (λ ps. ps ++ get_or mid i d ∷ [] ++ rest) before
      ∙ ap (λ q. take at old ++ q ∷ [] ++ rest) here
      ∙ append_assoc (take at old) (put_to path p ∷ []) rest
      ∙ ap (λ ps. take at old ++ ps)
      (sym (puts p (drop (i + 1) old)) ∙ ap (put_along i ms) (sym (drop_more old i d inside)))

-- After i parts of ps, of which `at` are left, and k of the places.
pub record PutSoFar (ps now : List PlacedPart) (ms left : PartPlaces) (i at k : ℕ) : Type 0 where
  pub same : take at now ++ put_along i (drop k left) (drop i now) ≡ put_along 0 ms ps
  pub order : at ≤ i
  pub long : length now ≡ length ps

pub all_are_put : (ps now : List PlacedPart) (ms left : PartPlaces) (i at k : ℕ)
    → PutSoFar ps now ms left i at k → length now ≤ i → take at now ≡ put_along 0 ms ps
all_are_put ps now ms left i at k h past =
    sym (append-nil (take at now))
    ∙ ap (λ qs. take at now ++ qs)
    (sym (ap (put_along i (drop k left)) (drop_all i now past) ∙ put_none i (drop k left)))
    ∙ h.same

-- ---- wherever in memory the layouts are

none_put : (i : ℕ) (ps : List PlacedPart) → map wide_part ps ≡ laid_by (places_by i [] (laid_paths ps)) ps
none_put i [] = refl
none_put i (p ∷ ps) = ap (λ ws. wide_part p ∷ ws) (none_put (i + 1) ps)

-- the layouts of the parts are at their new places
pub wide_put : (i : ℕ) (ms : PartPlaces) (ps : List PlacedPart)
    → map wide_part (put_along i ms ps) ≡ laid_by (places_by i ms (laid_paths ps)) ps
wide_put i [] ps = none_put i ps
wide_put i (m ∷ ms) [] = refl
wide_put i (m ∷ ms) (p ∷ ps) = by (m.0 == i) m.1 (wide_put (i + 1) ms ps) (wide_put (i + 1) (m ∷ ms) ps)
  where
    by : (b : Bool) (o : Option (List ℕ))
        → map wide_part (put_along (i + 1) ms ps) ≡ laid_by (places_by (i + 1) ms (laid_paths ps)) ps
        → map wide_part (put_along (i + 1) (m ∷ ms) ps) ≡ laid_by (places_by (i + 1) (m ∷ ms) (laid_paths ps)) ps
        → map wide_part (if b then cons_option (option_map (λ path. put_to path p) o) (put_along (i + 1) ms ps)
        else p ∷ put_along (i + 1) (m ∷ ms) ps)
        ≡ laid_by (if b then o ∷ places_by (i + 1) ms (laid_paths ps)
        else Some p.path ∷ places_by (i + 1) (m ∷ ms) (laid_paths ps)) (p ∷ ps)
    by true None later other = later
    by true (Some path) later other = ap (λ ws. wide_part (put_to path p) ∷ ws) later
    by false o later other = ap (λ ws. wide_part p ∷ ws) other
