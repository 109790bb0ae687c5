-- Parts move to new units one after the other.
use Rattle.std.proofs.Common.{◌≡◌, ℕ, zero, suc, ◌+◌, ◌<◌, ◌≤◌, List, [], ◌∷◌, ◌++◌, length, refl, sym, ap, ◌∙◌}
use Rattle.std.proofs.Common.{arith, slice_index_or, slice_set, Some, None}
use Rattle.std.proofs.lemmas.Bool.Decides.{Decides-eqb}
use Rattle.std.proofs.lemmas.List.{append_assoc, append-nil}
use Rattle.std.proofs.lemmas.List.Elements.{filter_map-append}
use Rattle.std.specs.List.{cons_option}
use Rattle.std.specs.Prelude.{Bool, true, false, ◌==◌, if◌then◌else◌}
use Rattle.tx_walk.specs.declared.part.Part.{Part as DonePart}
use Rattle.tx_bridge.specs.declared.bridge.Bridge.{Bridge}
use Rattle.tx_bridge.specs.declared.course.PartMove.{PartMove}
use Rattle.tx_bridge.specs.Courses.{part_in_unit, arrived_parts, joined_by, with_arrived}

-- ---- all of two lists

-- the entry with these parts
abbrev pub with_parts : Bridge → List DonePart → Bridge
with_parts b ps = record {
  unit = b.unit;
  kept = b.kept;
  parts = ps;
  layers = b.layers;
  shelled = b.shelled;
  reached = b.reached;
  source = b.source;
}

joined_twice : (xs ys : List DonePart) (b : Bridge) → joined_by ys (joined_by xs b) ≡ joined_by (xs ++ ys) b
joined_twice xs ys b = ap (with_parts b) (append_assoc b.parts xs ys)

pub arrived_twice : (ms ns : List PartMove) (j : ℕ) (bs : List Bridge)
    → with_arrived ns j (with_arrived ms j bs) ≡ with_arrived (ms ++ ns) j bs
arrived_twice ms ns j [] = refl
arrived_twice ms ns j (b ∷ bs) =
    ap (λ x. x ∷ with_arrived ns (j + 1) (with_arrived ms (j + 1) bs))
    (joined_twice (arrived_parts ms j) (arrived_parts ns j) b
    ∙ ap (λ ps. joined_by ps b) (sym (filter_map-append (part_in_unit j) ms ns)))
    ∙ ap (λ xs. joined_by (arrived_parts (ms ++ ns) j) b ∷ xs) (arrived_twice ms ns (j + 1) bs)

joined_none : (b : Bridge) → joined_by [] b ≡ b
joined_none b = ap (with_parts b) (append-nil b.parts)

pub arrived_none : (j : ℕ) (bs : List Bridge) → with_arrived [] j bs ≡ bs
arrived_none j [] = refl
arrived_none j (b ∷ bs) =
    ap (λ x. x ∷ with_arrived [] (j + 1) bs) (joined_none b) ∙ ap (λ xs. b ∷ xs) (arrived_none (j + 1) bs)

-- ---- one part

-- what it adds to the unit of number j
abbrev added : Bool → PartMove → Bridge → Bridge
added true m b = joined_by (m.part ∷ []) b
added false m b = b

one_part : (c : Bool) (m : PartMove) (b : Bridge)
    → joined_by (cons_option (if c then Some m.part else None) []) b ≡ added c m b
one_part true m b = refl
one_part false m b = joined_none b

other : (n j : ℕ) → (n ≡ j → ⊥) → n == j ≡ false
other n j h = by (n == j) refl
  where
    by : (c : Bool) → n == j ≡ c → c ≡ false
    by true e = absurd (h ((Decides-eqb n j).0 e))
    by false e = refl

-- it moves to none of these, whose numbers begin with j
none_comes : (m : PartMove) (j : ℕ) (bs : List Bridge) → m.to < j → with_arrived (m ∷ []) j bs ≡ bs
none_comes m j [] l = refl
none_comes m j (b ∷ bs) l =
    ap (λ x. x ∷ with_arrived (m ∷ []) (j + 1) bs)
    (one_part (m.to == j) m b ∙ ap (λ c. added c m b) (other m.to j (λ e. absurd (omega (arith, e, l)))))
    ∙ ap (λ xs. b ∷ xs) (none_comes m (j + 1) bs (omega (arith, l)))

pub never_comes : (m : PartMove) (j : ℕ) (bs : List Bridge) → j + length bs ≤ m.to → with_arrived (m ∷ []) j bs ≡ bs
never_comes m j [] past = refl
never_comes m j (b ∷ bs) past =
    ap (λ x. x ∷ with_arrived (m ∷ []) (j + 1) bs)
    (one_part (m.to == j) m b ∙ ap (λ c. added c m b) (other m.to j (λ e. absurd (omega (arith, e, past)))))
    ∙ ap (λ xs. b ∷ xs) (never_comes m (j + 1) bs (omega (arith, past)))

pub one_comes : (m : PartMove) (k j : ℕ) (bs : List Bridge) (d y : Bridge) → m.to ≡ j + k → k < length bs
    → y ≡ joined_by (m.part ∷ []) (slice_index_or bs k d) → slice_set bs k y ≡ with_arrived (m ∷ []) j bs
one_comes m k j [] d y is inside e = absurd (omega (arith, inside))
one_comes m zero j (b ∷ bs) d y is inside e =
    let here : m.to ≡ j = omega (arith, is) in
    ap (λ x. x ∷ bs)
    (e ∙ ap (λ c. added c m b) (sym ((Decides-eqb m.to j).1 here)) ∙ sym (one_part (m.to == j) m b))
    ∙ ap (λ xs. joined_by (arrived_parts (m ∷ []) j) b ∷ xs)
    (sym (none_comes m (j + 1) bs (omega (arith, here))))
one_comes m (suc k) j (b ∷ bs) d y is inside e =
    ap (λ xs. b ∷ xs) (one_comes m k (j + 1) bs d y (omega (arith, is)) (omega (arith, inside)) e)
    ∙ ap (λ x. x ∷ with_arrived (m ∷ []) (j + 1) bs)
    (ap (λ c. added c m b) (sym (other m.to j (λ f. absurd (omega (arith, f, is))))) ∙ sym (one_part (m.to == j) m b))
