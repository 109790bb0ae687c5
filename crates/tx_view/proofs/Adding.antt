-- The lines of parts that have moved are put into their new units, part by part.
use Rattle.std.proofs.Common.{◌≡◌, ℕ, zero, suc, ◌+◌, ◌<◌, ◌≤◌, Bool, true, false, List, [], ◌∷◌, ◌++◌, length, map}
use Rattle.std.proofs.Common.{slice_index_or, slice_set, Option, Some, None, refl, ap, sym, subst, ◌∙◌, arith}
use Rattle.std.proofs.lemmas.List.{append-nil, take_more, map-append, take_all, drop_all, length-map}
use Rattle.std.proofs.lemmas.List.Elements.{filter_map-append}
use Rattle.std.proofs.lemmas.Option.{slice_get-map}
use Rattle.std.proofs.lemmas.List.Folds.{list_all-map, list_all_more, list_all_at}
use Rattle.std.specs.List.{cons_option, list_all}
use Rattle.std.specs.Prelude.{◌==◌, ◌&&◌, if◌then◌else◌, is_some, get_or, take, drop, MatchOption}
use Rattle.std.specs.Prelude.{slice_get, option_map}
use Rattle.tx_units.specs.declared.kinds.Unit.{Unit as DocUnit}
use Rattle.tx_bridge.specs.declared.course.PartMove.{PartMove}
use Rattle.tx_bridge.specs.PartMoves.{Move, seen_move}
use Rattle.tx_part_layout.specs.declared.laid.PlacedPart.{PlacedPart}
use Rattle.tx_unit_layout.specs.Moving.{WidePart, wide_part}
use Rattle.tx_unit_layout.specs.declared.shown.Shown.{Shown}
use Rattle.tx_view.specs.Laid.{PlacedLists, IsBlank, AreBlank, AreArrived, HaveArrived, HasMore, placed_in, wide_moved}
use Rattle.tx_view.specs.Laid.{wide_in_unit, wide_arrived, all_wide, going}
use Rattle.tx_view.proofs.Blank.{arrived_many}
use Rattle.tx_view.proofs.Numbers.{not_equal, are_equal, at_seam, at_front}

-- nothing has arrived yet
pub blank_arrived : (old : PlacedLists) (j : ℕ) (us : List DocUnit) (xs : List Shown) → AreBlank us xs
    → AreArrived old [] j us xs
blank_arrived old j [] [] h = tt
blank_arrived old j [] (x ∷ xs) h = absurd h
blank_arrived old j (u ∷ us) [] h = absurd h
blank_arrived old j (u ∷ us) (x ∷ xs) h = (h.0, blank_arrived old (j + 1) us xs h.1)

-- one more move
wide_more : (old : PlacedLists) (j : ℕ) (moves : List Move) (m : Move)
    → wide_arrived old (moves ++ m ∷ []) j
    ≡ wide_arrived old moves j ++ cons_option (wide_in_unit old j m) []
wide_more old j moves m = filter_map-append (wide_in_unit old j) moves (m ∷ [])

wide_same : (old : PlacedLists) (j : ℕ) (moves : List Move) (m : Move) → wide_in_unit old j m ≡ None
    → wide_arrived old (moves ++ m ∷ []) j ≡ wide_arrived old moves j
wide_same old j moves m none =
    wide_more old j moves m
    ∙ ap (λ o. wide_arrived old moves j ++ cons_option o []) none
    ∙ append-nil (wide_arrived old moves j)

still_blank : (old : PlacedLists) (j : ℕ) (moves : List Move) (m : Move) (path : Option (List ℕ)) (x : Shown)
    → wide_in_unit old j m ≡ None → IsBlank path (wide_arrived old moves j) x
    → IsBlank path (wide_arrived old (moves ++ m ∷ []) j) x
still_blank old j moves m path x none h =
    subst (λ (ps : List WidePart). IsBlank path ps x) (sym (wide_same old j moves m none)) h

-- which adds nothing to these units
pub none_more : (old : PlacedLists) (j : ℕ) (moves : List Move) (m : Move) (us : List DocUnit) (xs : List Shown)
    → ((n : ℕ) → n < length xs → wide_in_unit old (j + n) m ≡ None) → AreArrived old moves j us xs
    → AreArrived old (moves ++ m ∷ []) j us xs
none_more old j moves m [] [] none h = tt
none_more old j moves m [] (x ∷ xs) none h = absurd h
none_more old j moves m (u ∷ us) [] none h = absurd h
none_more old j moves m (u ∷ us) (x ∷ xs) none h = (
  still_blank old j moves m u.path x (ap (λ n. wide_in_unit old n m) (omega arith) ∙ none 0 (omega arith)) h.0,
  none_more old (j + 1) moves m us xs
      (λ n l. ap (λ k. wide_in_unit old k m) (omega arith) ∙ none (suc n) (omega (arith, l))) h.1,
)

-- the part has no lines
pub no_part : (old : PlacedLists) (j : ℕ) (m : Move) → wide_moved old m ≡ None → wide_in_unit old j m ≡ None
no_part old j m none = by (m.to == j)
  where
    by : (b : Bool) → (if b then wide_moved old m else None) ≡ None
    by true = none
    by false = refl

-- it has moved to another unit
pub not_there : (old : PlacedLists) (j : ℕ) (m : Move) → (m.to ≡ j → ⊥) → wide_in_unit old j m ≡ None
not_there old j m off = ap (λ b. if b then wide_moved old m else None) (not_equal m.to j off)

-- it has moved to this one
here_more : (old : PlacedLists) (j : ℕ) (moves : List Move) (m : Move) (w : WidePart) → m.to ≡ j
    → wide_moved old m ≡ Some w
    → wide_arrived old (moves ++ m ∷ []) j ≡ wide_arrived old moves j ++ w ∷ []
here_more old j moves m w here is =
    wide_more old j moves m
    ∙ ap (λ b. wide_arrived old moves j ++ cons_option (if b then wide_moved old m else None) [])
    (are_equal m.to j here)
    ∙ ap (λ o. wide_arrived old moves j ++ cons_option o []) is

more_blank : (path : Option (List ℕ)) (ps qs : List WidePart) (x y : Shown) (w : WidePart) → HasMore x y w
    → qs ≡ ps ++ w ∷ [] → IsBlank path ps x → IsBlank path qs y
more_blank path ps qs x y w more is h = record {
  path_is = ap (λ (z : Shown). z.path) more.others ∙ h.path_is;
  laid = ap (λ (z : Shown). z.laid) more.others ∙ h.laid;
  errors = ap (λ (z : Shown). z.errors.items) more.others ∙ h.errors;
  paragraphs = ap (λ (z : Shown). z.paragraphs.items) more.others ∙ h.paragraphs;
  lines = ap (λ (z : Shown). z.lines) more.others ∙ h.lines;
  parts = more.parts ∙ ap (λ zs. zs ++ w ∷ []) h.parts ∙ sym is;
}

pub one_more : (old : PlacedLists) (j n : ℕ) (moves : List Move) (m : Move) (w : WidePart) (us : List DocUnit)
    (xs : List Shown) (d y : Shown) → m.to ≡ j + n → n < length xs → wide_moved old m ≡ Some w
    → HasMore (slice_index_or xs n d) y w → AreArrived old moves j us xs
    → AreArrived old (moves ++ m ∷ []) j us (slice_set xs n y)
one_more old j n moves m w us [] d y to inside is more h = absurd (omega (arith, inside))
one_more old j n moves m w [] (x ∷ xs) d y to inside is more h = absurd h
one_more old j zero moves m w (u ∷ us) (x ∷ xs) d y to inside is more h = (
  more_blank u.path (wide_arrived old moves j) (wide_arrived old (moves ++ m ∷ []) j) x y w
      more (here_more old j moves m w (omega (arith, to)) is) h.0,
  none_more old (j + 1) moves m us xs (λ n l. not_there old (j + 1 + n) m (λ e. omega (arith, e, to))) h.1,
)
one_more old j (suc n) moves m w (u ∷ us) (x ∷ xs) d y to inside is more h = (
  still_blank old j moves m u.path x (not_there old j m (λ e. omega (arith, e, to))) h.0,
  one_more old (j + 1) n moves m w us xs d y (omega (arith, to)) (omega (arith, inside)) is more h.1,
)

-- ---- units and strays together

pub none_arrived : (old : PlacedLists) (us : List DocUnit) (xs : List Shown) (ps : List PlacedPart)
    → AreBlank us xs → ps ≡ [] → HaveArrived old [] us xs ps
none_arrived old us xs ps blank none = (blank_arrived old 0 us xs blank, ap (map wide_part) none)

abbrev arrives : PlacedLists → List Move → Move → List DocUnit → List Shown → List PlacedPart → Type 0
arrives old moves m us xs ps = HaveArrived old (moves ++ m ∷ []) us xs ps

-- one more move adds nothing
pub still_arrived : (old : PlacedLists) (moves : List Move) (m : Move) (us : List DocUnit) (xs : List Shown)
    (ps : List PlacedPart) → ((j : ℕ) → j ≤ length xs → wide_in_unit old j m ≡ None) → HaveArrived old moves us xs ps
    → arrives old moves m us xs ps
still_arrived old moves m us xs ps none h = (
  none_more old 0 moves m us xs (λ n l. none (0 + n) (omega (arith, l))) h.0,
  h.1 ∙ sym (wide_same old (length us) moves m (none (length us) (omega (arith, arrived_many old moves 0 us xs h.0)))),
)

-- it adds to the unit of number n
pub unit_more : (old : PlacedLists) (n : ℕ) (moves : List Move) (m : Move) (w : WidePart) (us : List DocUnit)
    (xs : List Shown) (d y : Shown) (ps : List PlacedPart) → m.to ≡ n → n < length xs → wide_moved old m ≡ Some w
    → HasMore (slice_index_or xs n d) y w → HaveArrived old moves us xs ps
    → arrives old moves m us (slice_set xs n y) ps
unit_more old n moves m w us xs d y ps to inside is more h = (
  one_more old 0 n moves m w us xs d y (omega (arith, to)) inside is more h.0,
  h.1 ∙ sym (wide_same old (length us) moves m
      (not_there old (length us) m (λ e. omega (arith, e, to, inside, arrived_many old moves 0 us xs h.0)))),
)

-- it adds to the strays
pub stray_more : (old : PlacedLists) (moves : List Move) (m : Move) (w : WidePart) (us : List DocUnit)
    (xs : List Shown) (ps qs : List PlacedPart) → m.to ≡ length xs → wide_moved old m ≡ Some w
    → map wide_part qs ≡ map wide_part ps ++ w ∷ [] → HaveArrived old moves us xs ps → arrives old moves m us xs qs
stray_more old moves m w us xs ps qs to is more h = (
  none_more old 0 moves m us xs (λ n l. not_there old (0 + n) m (λ e. omega (arith, e, to, l))) h.0,
  more ∙ ap (λ ws. ws ++ w ∷ []) h.1
      ∙ sym (here_more old (length us) moves m w (omega (arith, to, arrived_many old moves 0 us xs h.0)) is),
)

-- ---- the parts of a unit, or strays

pub placed_last : (xs : List Shown) (ps : List PlacedPart) (i : ℕ) → i ≡ length xs
    → slice_get (placed_in xs ps) i ≡ Some ps
placed_last xs ps i e =
    ap (slice_get (placed_in xs ps)) (e ∙ sym (length-map xs (λ (x : Shown). x.parts)))
    ∙ at_seam (map (λ (x : Shown). x.parts) xs) ps

pub placed_unit : (xs : List Shown) (ps : List PlacedPart) (i : ℕ) → (i ≡ length xs → ⊥)
    → slice_get (placed_in xs ps) i ≡ option_map (λ (x : Shown). x.parts) (slice_get xs i)
placed_unit xs ps i off =
    at_front (map (λ (x : Shown). x.parts) xs) ps i
    (λ e. off (e ∙ length-map xs (λ (x : Shown). x.parts))) ∙ slice_get-map (λ (x : Shown). x.parts) xs i

-- ---- whether each part has lines

abbrev pub is_laid : PlacedLists → PartMove → Bool
is_laid old m = is_some (wide_moved old (seen_move m))

pub all_wide_by : (old : PlacedLists) (ms : List PartMove) → all_wide old (map seen_move ms) ≡ list_all (is_laid old) ms
all_wide_by old ms = list_all-map (λ m. is_some (wide_moved old m)) seen_move ms

pub one_laid : (old : PlacedLists) (ms : List PartMove) (i : ℕ) (m : PartMove) → i < length ms → m ≡ get_or ms i m
    → is_laid old m ≡ true → list_all (is_laid old) (take i ms) ≡ true
    → list_all (is_laid old) (take (i + 1) ms) ≡ true
one_laid old ms i m inside is here before =
    list_all_more (is_laid old) ms i m inside
    ∙ ap (λ b. b && is_laid old (get_or ms i m)) before ∙ ap (is_laid old) (sym is) ∙ here

pub not_laid : (old : PlacedLists) (ms : List PartMove) (i : ℕ) (m : PartMove) → i < length ms → m ≡ get_or ms i m
    → is_laid old m ≡ false → all_wide old (map seen_move ms) ≡ false
not_laid old ms i m inside is off =
    all_wide_by old ms ∙ list_all_at (is_laid old) ms i m inside (ap (is_laid old) (sym is) ∙ off)

pub none_laid : {B : Type 0} (P : B → Type 0) (r : Option B) (o : Option WidePart) → MatchOption r (o ≡ None) P
    → is_some r ≡ false → is_some o ≡ false
none_laid P None o h e = ap is_some h
none_laid P (Some b) o h e = cc

-- one move more of those that the program has
pub seen_more : (ms : List PartMove) (i : ℕ) (m : PartMove) → i < length ms → m ≡ get_or ms i m
    → map seen_move (take (i + 1) ms) ≡ map seen_move (take i ms) ++ seen_move m ∷ []
seen_more ms i m inside is =
    ap (map seen_move) (take_more ms i m inside) ∙ map-append seen_move (take i ms) (get_or ms i m ∷ [])
    ∙ ap (λ n. map seen_move (take i ms) ++ seen_move n ∷ []) (sym is)

-- where each part has lines, all move, and else none
pub all_go : (old : PlacedLists) (moves : List Move) (b : Bool) → b ≡ all_wide old moves → b ≡ true
    → going old moves ≡ moves
all_go old moves b is on = ap (λ c. if c then moves else []) (sym is ∙ on)

pub none_goes : (old : PlacedLists) (moves : List Move) (b : Bool) → b ≡ all_wide old moves → b ≡ false
    → going old moves ≡ []
none_goes old moves b is off = ap (λ c. if c then moves else []) (sym is ∙ off)

-- ---- a list whose elements were written in place

pub written : {A : Type 0} (len : ℕ) (now was : List A) → len ≡ length was → length now ≡ length was
    → take len (now ++ drop (length now) was) ≡ now
written len now was is same =
    ap (λ xs. take len (now ++ xs)) (drop_all (length now) was (omega (arith, same)))
    ∙ ap (take len) (append-nil now) ∙ take_all len now (omega (arith, is, same))
