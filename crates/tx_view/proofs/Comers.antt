-- The lines of parts that have moved to other units, as they are there.
use Rattle.std.proofs.Common.{◌≡◌, ℕ, zero, suc, ◌+◌, Bool, true, false, List, [], ◌∷◌, ◌++◌, length, map, Option}
use Rattle.std.proofs.Common.{Some, None, refl, ap, sym, subst, ◌∙◌, arith, ◌⊎◌, inl, inr}
use Rattle.std.proofs.lemmas.Bool.{and_parts}
use Rattle.std.proofs.lemmas.Bool.Decides.{Decides-eqb}
use Rattle.std.proofs.lemmas.List.Elements.{All-from_recursion, recursion_from_All}
use Rattle.std.proofs.lemmas.Option.{same_Some, slice_get-map, slice_get_within}
use Rattle.std.specs.List.{All, AllByRecursion, IsDistinct, cons_option, filter_map}
use Rattle.std.specs.Option.{option_map, option_map_or}
use Rattle.std.specs.Prelude.{slice_get, option_and_then, is_some, if◌then◌else◌, ◌==◌, ◌&&◌}
use Rattle.std.specs.Str.{bytes_eq}
use Rattle.tx_tree.specs.WideTree.{WideTree}
use Rattle.tx_mod.specs.declared.mods.Mod.{Mod}
use Rattle.tx_mod.specs.Followed.{carried_by_all}
use Rattle.tx_mod.specs.Moves.{rest_behind}
use Rattle.tx_exec_form.specs.Evaluated.{WideTrace}
use Rattle.tx_parts.specs.Parts.{Stored}
use Rattle.tx_units.specs.declared.kinds.Unit.{Unit as DocUnit}
use Rattle.tx_items.specs.declared.drawing.Paragraph.{Paragraph}
use Rattle.tx_layout.specs.declared.layout.Line.{Line}
use Rattle.tx_view_form.specs.Positions.{IsShort}
use Rattle.tx_part_items.specs.ItemsUnder.{paragraph_under}
use Rattle.tx_part_layout.specs.declared.laid.LaidPart.{LaidPart}
use Rattle.tx_part_layout.specs.declared.laid.PlacedPart.{PlacedPart}
use Rattle.tx_part_layout.specs.LaidParts.{IsLaidPart}
use Rattle.tx_part_layout.specs.LinesUnder.{line_under}
use Rattle.tx_bridge.specs.Carrying.{through}
use Rattle.tx_bridge.specs.Entries.{Kept}
use Rattle.tx_bridge.specs.Names.{PartMoves}
use Rattle.tx_bridge.specs.PartMoves.{Move, is_vacant, is_outside, rest_in, unit_above, move_to, moves_below}
use Rattle.tx_bridge.specs.PartMoves.{unit_moves, moves_from, moves_aside, arrived}
use Rattle.tx_bridge.specs.PartsKept.{KeptParts}
use Rattle.tx_unit_layout.specs.LaidAts.{LaidAt, laid_at}
use Rattle.tx_unit_layout.specs.LaidUnits.{IsLaidOfKept, AreOf, AreLaidParts}
use Rattle.tx_unit_layout.specs.Moving.{WidePart, wide_part, put_at}
use Rattle.tx_unit_layout.specs.Views.{IsReadable}
use Rattle.tx_unit_layout.specs.declared.shown.Shown.{Shown}
use Rattle.tx_view.specs.Exchanged.{laid_to}
use Rattle.tx_view.specs.Laid.{PlacedLists, AreLaid, HasShortPlaces, laid_parts_in, placed_in, wide_moved, all_wide}
use Rattle.tx_view.specs.Laid.{going, wide_arrived}
use Rattle.tx_view.proofs.Numbers.{AreFrom, from_first, at_seam}
use Rattle.tx_view.proofs.OfParts.{AreDistinct, no_parts, none_wide, paths_laid, at_wide}
use Rattle.tx_view.proofs.ShortParts.{each_part_short}
use Rattle.tx_view.proofs.LaidByNumber.{moved_by_number, all_by_number, in_unit_by_number, arrived_by_number, laid_with}

-- ---- what is known of a move

-- the part that has moved was cached there, and its new unit has a path
pub record IsMoveOf (pss : List KeptParts) (vs : List DocUnit) (m : Move) : Type 0 where
  pub kept : KeptParts
  pub was : Stored
  pub unit : slice_get pss m.from ≡ Some kept
  pub part : slice_get kept m.number ≡ Some was
  pub trace : m.kept.trace ≡ was.trace
  pub placed : (v : DocUnit) → slice_get vs m.to ≡ Some v → is_some v.path ≡ true

-- the unit of that number has a path
record IsThere (vs : List DocUnit) (n : ℕ) : Type 0 where
  unit : DocUnit
  there : slice_get vs n ≡ Some unit
  placed : is_some unit.path ≡ true

rest_placed : (v : DocUnit) (place r : List ℕ) → rest_in v place ≡ Some r → is_some v.path ≡ true
rest_placed v place r e = by v.path e
  where
    by : (o : Option (List ℕ)) → option_and_then (λ p. rest_behind p place) o ≡ Some r → is_some o ≡ true
    by None f = cc
    by (Some p) f = refl

-- the number of the unit above a place, or the one after the last
above_at : (j : ℕ) (vs : List DocUnit) (place : List ℕ)
    → (k : ℕ) × ((unit_above j vs place).0 ≡ j + k) × ((k ≡ length vs) ⊎ IsThere vs k)
above_at j [] place = (0, omega arith, inl refl)
above_at j (v ∷ vs) place = by (rest_in v place) refl (above_at (j + 1) vs place)
  where
    later : (k : ℕ) → (k ≡ length vs) ⊎ IsThere vs k → (suc k ≡ suc (length vs)) ⊎ IsThere (v ∷ vs) (suc k)
    later k (inl e) = inl (ap suc e)
    later k (inr t) = inr (record { unit = t.unit; there = t.there; placed = t.placed })

    by : (o : Option (List ℕ)) → rest_in v place ≡ o
        → (k : ℕ) × ((unit_above (j + 1) vs place).0 ≡ j + 1 + k) × ((k ≡ length vs) ⊎ IsThere vs k)
        → (k : ℕ) × ((option_map_or (λ r. (j, r)) o (unit_above (j + 1) vs place)).0 ≡ j + k)
        × ((k ≡ suc (length vs)) ⊎ IsThere (v ∷ vs) k)
    by (Some r) is f =
        (0, omega arith, inr (record { unit = v; there = refl; placed = rest_placed v place r is }))
    by None is f = (suc f.0, omega (arith, f.1), later f.0 f.2)

placed_there : (vs : List DocUnit) (place : List ℕ) (v : DocUnit) → slice_get vs (unit_above 0 vs place).0 ≡ Some v
    → is_some v.path ≡ true
placed_there vs place v at = by (above_at 0 vs place)
  where
    by : (k : ℕ) × ((unit_above 0 vs place).0 ≡ 0 + k) × ((k ≡ length vs) ⊎ IsThere vs k) → is_some v.path ≡ true
    by (k, number, inl past) =
        absurd (omega (arith, number, past, slice_get_within vs (unit_above 0 vs place).0 v at))
    by (k, number, inr t) =
        let here : (unit_above 0 vs place).0 ≡ k = omega (arith, number) in
        let same : t.unit ≡ v = same_Some t.unit v (sym t.there ∙ ap (slice_get vs) (sym here) ∙ at) in
        ap (λ (u : DocUnit). is_some u.path) (sym same) ∙ t.placed

abbrev pub AreMovesOf : List KeptParts → List DocUnit → List Move → Type 0
AreMovesOf pss vs moves = AllByRecursion (IsMoveOf pss vs) moves

both_are : (pss : List KeptParts) (vs : List DocUnit) (ms ns : List Move) → AreMovesOf pss vs ms
    → AreMovesOf pss vs ns → AreMovesOf pss vs (ms ++ ns)
both_are pss vs [] ns h g = g
both_are pss vs (m ∷ ms) ns h g = (h.0, both_are pss vs ms ns h.1 g)

below_are : (ms : List Mod) (t : WideTree) (pss : List KeptParts) (vs : List DocUnit) (i : ℕ) (p : List ℕ)
    (all : KeptParts) (k : ℕ) (ks : KeptParts) → slice_get pss i ≡ Some all → AreFrom all k ks
    → AreMovesOf pss vs (moves_below ms t vs i p k ks)
below_are ms t pss vs i p all k [] at from = tt
below_are ms t pss vs i p all k (s ∷ ks) at from =
    by_place (carried_by_all ms t (p ++ s.path))
    (below_are ms t pss vs i p all (k + 1) ks at (λ n m e. from (suc n) m (omega (arith, e))))
  where
    by_place : (o : Option (List ℕ)) → AreMovesOf pss vs (moves_below ms t vs i p (k + 1) ks)
        → AreMovesOf pss vs (cons_option (option_map (λ place. move_to i k s (unit_above 0 vs place)) o)
        (moves_below ms t vs i p (k + 1) ks))
    by_place None rest = rest
    by_place (Some place) rest = (
      record {
        kept = all;
        was = s;
        unit = at;
        part = from 0 k (omega arith);
        trace = refl;
        placed = placed_there vs place;
      },
      rest,
    )

unit_are : (ms : List Mod) (t : WideTree) (pss : List KeptParts) (vs : List DocUnit) (i : ℕ) (u : DocUnit)
    (ks : KeptParts) → slice_get pss i ≡ Some ks → AreMovesOf pss vs (unit_moves ms t vs i u ks)
unit_are ms t pss vs i u ks at = by (is_vacant (through ms t u.path) vs) u.path
  where
    by : (b : Bool) (o : Option (List ℕ))
        → AreMovesOf pss vs (if b then option_map_or (λ p. moves_below ms t vs i p 0 ks) o [] else [])
    by true (Some p) = below_are ms t pss vs i p ks 0 ks at (from_first ks)
    by true None = tt
    by false o = tt

-- the moves of parts of units, where strays come last in the cache
from_are : (ms : List Mod) (t : WideTree) (pss : List KeptParts) (strays : KeptParts) (vs : List DocUnit) (i : ℕ)
    (us : List DocUnit) (qss : List KeptParts) → AreFrom pss i (qss ++ strays ∷ [])
    → AreMovesOf pss vs (moves_from ms t vs i us qss)
from_are ms t pss strays vs i [] qss from = tt
from_are ms t pss strays vs i (u ∷ us) [] from = tt
from_are ms t pss strays vs i (u ∷ us) (ks ∷ qss) from =
    both_are pss vs (unit_moves ms t vs i u ks) (moves_from ms t vs (i + 1) us qss)
    (unit_are ms t pss vs i u ks (from 0 i (omega arith)))
    (from_are ms t pss strays vs (i + 1) us qss (λ n m e. from (suc n) m (omega (arith, e))))

-- the moves of strays that don't change their place
aside_are : (pss : List KeptParts) (vs : List DocUnit) (i : ℕ) (all : KeptParts) (k : ℕ) (ks : KeptParts)
    → slice_get pss i ≡ Some all → AreFrom all k ks → AreMovesOf pss vs (moves_aside vs i k ks)
aside_are pss vs i all k [] at from = tt
aside_are pss vs i all k (s ∷ ks) at from =
    by (is_outside vs s.path)
    (aside_are pss vs i all (k + 1) ks at (λ n m e. from (suc n) m (omega (arith, e))))
  where
    by : (b : Bool) → AreMovesOf pss vs (moves_aside vs i (k + 1) ks)
        → AreMovesOf pss vs (cons_option (if b then Some (move_to i k s (length vs, s.path)) else None)
        (moves_aside vs i (k + 1) ks))
    by false rest = rest
    by true rest = (
      record {
        kept = all;
        was = s;
        unit = at;
        part = from 0 k (omega arith);
        trace = refl;
        placed = λ v there. absurd (omega (arith, slice_get_within vs (length vs) v there));
      },
      rest,
    )

-- what is cached of the parts of each unit, and last of strays
abbrev pub all_kept : List KeptParts → KeptParts → List KeptParts
all_kept pss strays = pss ++ strays ∷ []

strays_there : (pss : List KeptParts) (strays : KeptParts) (n : ℕ) → n ≡ length pss
    → slice_get (all_kept pss strays) n ≡ Some strays
strays_there pss strays n many = ap (slice_get (all_kept pss strays)) many ∙ at_seam pss strays

pub moves_are : (buffer : ℕ) (ms : List Mod) (t : WideTree) (us : List DocUnit) (pss : List KeptParts)
    (strays : KeptParts) (vs : List DocUnit) → length us ≡ length pss
    → AreMovesOf (all_kept pss strays) vs (PartMoves buffer ms t us pss strays vs)
unfolding PartMoves
moves_are zero ms t us pss strays vs many =
    both_are (all_kept pss strays) vs (moves_from ms t vs 0 us pss) (moves_below ms t vs (length us) [] 0 strays)
    (from_are ms t (all_kept pss strays) strays vs 0 us pss (from_first (all_kept pss strays)))
    (below_are ms t (all_kept pss strays) vs (length us) [] strays 0 strays
    (strays_there pss strays (length us) many) (from_first strays))
moves_are (suc buffer) ms t us pss strays vs many =
    aside_are (all_kept pss strays) vs (length us) strays 0 strays (strays_there pss strays (length us) many)
    (from_first strays)

pub going_are : (pss : List KeptParts) (vs : List DocUnit) (old : PlacedLists) (moves : List Move)
    → AreMovesOf pss vs moves → AreMovesOf pss vs (going old moves)
going_are pss vs old moves h = by (all_wide old moves)
  where
    by : (b : Bool) → AreMovesOf pss vs (if b then moves else [])
    by true = h
    by false = tt

-- ---- the lines of the parts

at_number : {A : Type 0} (P : A → Type 0) (xs : List A) (i : ℕ) (x : A) → AllByRecursion P xs
    → slice_get xs i ≡ Some x → P x
at_number P [] i x h at = cc
at_number P (y ∷ xs) zero x h at = subst P (same_Some y x at) h.0
at_number P (y ∷ xs) (suc i) x h at = at_number P xs i x h.1 at

abbrev pub AllParts : (LaidPart → Type 0) → PlacedLists → Type 0
AllParts P old = AllByRecursion (λ ps. AllByRecursion (λ p. P p.laid.value) ps) old

-- where it comes from
record ComesFrom (old : PlacedLists) (m : Move) (w : WidePart) : Type 0 where
  parts : List PlacedPart
  part : PlacedPart
  there : slice_get old m.from ≡ Some parts
  at : slice_get parts m.number ≡ Some part
  is : w ≡ put_at m.kept.path part

mapped : {A B : Type 0} (f : A → B) (o : Option A) (b : B) → option_map f o ≡ Some b
    → (a : A) × (o ≡ Some a) × (f a ≡ b)
mapped f None b e = cc
mapped f (Some a) b e = (a, refl, same_Some (f a) b e)

followed : {A B : Type 0} (f : A → Option B) (o : Option A) (b : B) → option_and_then f o ≡ Some b
    → (a : A) × (o ≡ Some a) × (f a ≡ Some b)
followed f None b e = cc
followed f (Some a) b e = (a, refl, e)

comes_from : (old : PlacedLists) (m : Move) (w : WidePart) → wide_moved old m ≡ Some w → ComesFrom old m w
comes_from old m w e =
    let part =
    mapped (put_at m.kept.path)
    (option_and_then (λ (ps : List PlacedPart). slice_get ps m.number) (slice_get old m.from)) w e in
    let parts = followed (λ (ps : List PlacedPart). slice_get ps m.number) (slice_get old m.from) part.0 part.1 in
    record { parts = parts.0; part = part.0; there = parts.1; at = parts.2; is = sym part.2 }

-- what holds of the lines of all parts holds of its lines
holds_moved : (P : LaidPart → Type 0) (old : PlacedLists) (m : Move) (w : WidePart) → AllParts P old
    → wide_moved old m ≡ Some w → P w.laid
holds_moved P old m w h e =
    let f : ComesFrom old m w = comes_from old m w e in
    let all : AllByRecursion (λ (p : PlacedPart). P p.laid.value) f.parts =
    at_number (λ (ps : List PlacedPart). AllByRecursion (λ p. P p.laid.value) ps) old m.from f.parts h f.there in
    subst P (ap (λ (v : WidePart). v.laid) (sym f.is))
    (at_number (λ (p : PlacedPart). P p.laid.value) f.parts m.number f.part all f.at)

pub all_come : (P : LaidPart → Type 0) (old : PlacedLists) (j : ℕ) (moves : List Move) (qs : List PlacedPart)
    → AllParts P old → map wide_part qs ≡ wide_arrived old moves j
    → AllByRecursion (λ q. P q.laid.value) qs
all_come P old j [] [] h e = tt
all_come P old j [] (q ∷ qs) h e = cc
all_come P old j (m ∷ moves) qs h e =
    by (m.to == j) (wide_moved old m) refl qs e (λ rs f. all_come P old j moves rs h f)
  where
    by : (b : Bool) (o : Option WidePart) → wide_moved old m ≡ o → (rs : List PlacedPart)
        → map wide_part rs ≡ cons_option (if b then o else None) (wide_arrived old moves j)
        → ((ss : List PlacedPart) → map wide_part ss ≡ wide_arrived old moves j
        → AllByRecursion (λ q. P q.laid.value) ss)
        → AllByRecursion (λ q. P q.laid.value) rs
    by false o is rs f rest = rest rs f
    by true None is rs f rest = rest rs f
    by true (Some w) is [] f rest = tt
    by true (Some w) is (r ∷ rs) f rest =
        let first : wide_part r ≡ w = cc in
        let later : map wide_part rs ≡ wide_arrived old moves j = cc in
        (subst P (ap (λ (v : WidePart). v.laid) (sym first)) (holds_moved P old m w h is), rest rs later)

-- ---- its lines are those of its cached trace

record IsOfWide (k : Stored) (w : WidePart) : Type 0 where
  path : w.path ≡ k.path
  trace : WideTrace
  kept : k.trace ≡ Some trace
  value : w.laid.value ≡ trace.value

of_number : (ks : KeptParts) (ps : List PlacedPart) (i : ℕ) (k : Stored) (p : PlacedPart) → AreOf ks ps
    → slice_get ks i ≡ Some k → slice_get ps i ≡ Some p → IsLaidOfKept k p
of_number [] [] i k p of at there = cc
of_number [] (q ∷ ps) i k p of at there = absurd of
of_number (l ∷ ks) [] i k p of at there = absurd of
of_number (l ∷ ks) (q ∷ ps) zero k p of at there =
    subst (λ (r : PlacedPart). IsLaidOfKept k r) (same_Some q p there)
    (subst (λ (s : Stored). IsLaidOfKept s q) (same_Some l k at) of.0)
of_number (l ∷ ks) (q ∷ ps) (suc i) k p of at there = of_number ks ps i k p of.1 at there

-- the lines of parts are those of their cached traces, unit by unit
abbrev pub AreAllLaid : ℕ → List KeptParts → PlacedLists → Type 0
AreAllLaid width [] [] = Unit {0}
AreAllLaid width [] (ps ∷ pss) = ⊥
AreAllLaid width (ks ∷ kss) [] = ⊥
AreAllLaid width (ks ∷ kss) (ps ∷ pss) = AreLaidParts width ks ps × AreAllLaid width kss pss

laid_of : (width : ℕ) (kss : List KeptParts) (pss : PlacedLists) (i : ℕ) (ks : KeptParts)
    (ps : List PlacedPart) → AreAllLaid width kss pss → slice_get kss i ≡ Some ks → slice_get pss i ≡ Some ps
    → AreLaidParts width ks ps
laid_of width [] pss i ks ps laid kept at = cc
laid_of width (ls ∷ kss) [] i ks ps laid kept at = absurd laid
laid_of width (ls ∷ kss) (qs ∷ pss) zero ks ps laid kept at =
    subst (λ (rs : List PlacedPart). AreLaidParts width ks rs) (same_Some qs ps at)
    (subst (λ (js : KeptParts). AreLaidParts width js qs) (same_Some ls ks kept) laid.0)
laid_of width (ls ∷ kss) (qs ∷ pss) (suc i) ks ps laid kept at = laid_of width kss pss i ks ps laid.1 kept at

-- units, and strays after them
pub all_laid_with : (width : ℕ) (es : Kept) (pss : List KeptParts) (xs : List Shown) (ks : KeptParts)
    (ps : List PlacedPart) → AreLaid width es pss xs → AreLaidParts width ks ps
    → AreAllLaid width (all_kept pss ks) (placed_in xs ps)
all_laid_with width [] [] [] ks ps laid strays = (strays, tt)
all_laid_with width [] [] (x ∷ xs) ks ps laid strays = absurd laid
all_laid_with width [] (js ∷ pss) xs ks ps laid strays = absurd laid
all_laid_with width (e ∷ es) [] xs ks ps laid strays = absurd laid
all_laid_with width (e ∷ es) (js ∷ pss) [] ks ps laid strays = absurd laid
all_laid_with width (e ∷ es) (js ∷ pss) (x ∷ xs) ks ps laid strays =
    (laid.0.parts, all_laid_with width es pss xs ks ps laid.1 strays)

of_move : (width : ℕ) (pss : List KeptParts) (old : PlacedLists) (vs : List DocUnit) (m : Move)
    (w : WidePart) → AreAllLaid width pss old → IsMoveOf pss vs m → wide_moved old m ≡ Some w → IsOfWide m.kept w
of_move width pss old vs m w laid move e =
    let f : ComesFrom old m w = comes_from old m w e in
    by f.parts f.part f.at f.is (laid_of width pss old m.from move.kept f.parts laid move.unit f.there).of_kept
  where
    by : (ps : List PlacedPart) (p : PlacedPart) → slice_get ps m.number ≡ Some p → w ≡ put_at m.kept.path p
        → (ps ≡ []) ⊎ AreOf move.kept ps → IsOfWide m.kept w
    by ps p at is (inl none) =
        absurd (let off : slice_get [] m.number ≡ Some p = ap (λ qs. slice_get qs m.number) (sym none) ∙ at in cc)
    by ps p at is (inr of) =
        let o : IsLaidOfKept move.was p = of_number move.kept ps m.number move.was p of move.part at in
        record {
          path = ap (λ (v : WidePart). v.path) is;
          trace = o.trace;
          kept = move.trace ∙ o.kept;
          value = ap (λ (v : WidePart). v.laid.value) is ∙ o.value;
        }

arrived_of : (width : ℕ) (pss : List KeptParts) (old : PlacedLists) (vs : List DocUnit) (j : ℕ)
    (moves : List Move) (qs : List PlacedPart) → AreAllLaid width pss old → AreMovesOf pss vs moves
    → all_wide old moves ≡ true → map wide_part qs ≡ wide_arrived old moves j → AreOf (arrived moves j) qs
arrived_of width pss old vs j [] [] laid are wide e = tt
arrived_of width pss old vs j [] (q ∷ qs) laid are wide e = cc
arrived_of width pss old vs j (m ∷ moves) qs laid are wide e =
    let both = and_parts (is_some (wide_moved old m)) (all_wide old moves) wide in
    by (m.to == j) (wide_moved old m) refl both.0 qs e
    (λ rs f. arrived_of width pss old vs j moves rs laid are.1 both.1 f)
  where
    by : (b : Bool) (o : Option WidePart) → wide_moved old m ≡ o → is_some o ≡ true → (rs : List PlacedPart)
        → map wide_part rs ≡ cons_option (if b then o else None) (wide_arrived old moves j)
        → ((ss : List PlacedPart) → map wide_part ss ≡ wide_arrived old moves j
        → AreOf (arrived moves j) ss)
        → AreOf (cons_option (if b then Some m.kept else None) (arrived moves j)) rs
    by false o is some rs f rest = rest rs f
    by true None is some rs f rest = cc
    by true (Some w) is some [] f rest = cc
    by true (Some w) is some (r ∷ rs) f rest =
        let first : wide_part r ≡ w = cc in
        let later : map wide_part rs ≡ wide_arrived old moves j = cc in
        let o : IsOfWide m.kept w = of_move width pss old vs m w laid are.0 is in (
          record {
            path = ap (λ (v : WidePart). v.path) first ∙ o.path;
            trace = o.trace;
            kept = o.kept;
            value = ap (λ (v : WidePart). v.laid.value) first ∙ o.value;
          },
          rest rs later,
        )

each_laid : (width : ℕ) (kss : List KeptParts) (pss : PlacedLists) → AreAllLaid width kss pss
    → AllParts (IsLaidPart width) pss
each_laid width [] [] h = tt
each_laid width [] (ps ∷ pss) h = absurd h
each_laid width (ks ∷ kss) [] h = absurd h
each_laid width (ks ∷ kss) (ps ∷ pss) h =
    (recursion_from_All (λ (p : PlacedPart). IsLaidPart width p.laid.value) ps h.0.each, each_laid width kss pss h.1)

pub arrived_laid : (width : ℕ) (pss : List KeptParts) (old : PlacedLists) (vs : List DocUnit) (j : ℕ)
    (moves : List Move) (qs : List PlacedPart) → AreAllLaid width pss old → AreMovesOf pss vs moves
    → map wide_part qs ≡ wide_arrived old (going old moves) j → AreDistinct (arrived moves j)
    → AreLaidParts width (arrived moves j) qs
arrived_laid width pss old vs j moves qs laid are e apart = by (all_wide old moves) refl e
  where
    by : (b : Bool) → all_wide old moves ≡ b
        → map wide_part qs ≡ wide_arrived old (if b then moves else []) j
        → AreLaidParts width (arrived moves j) qs
    by true wide f =
        let of : AreOf (arrived moves j) qs = arrived_of width pss old vs j moves qs laid are wide f in
        record {
          each =
              All-from_recursion (λ (p : PlacedPart). IsLaidPart width p.laid.value) qs
              (all_come (IsLaidPart width) old j moves qs (each_laid width pss old laid) f);
          distinct = subst (IsDistinct bytes_eq) (paths_laid (arrived moves j) qs of) apart;
          of_kept = inr of;
        }
    by false wide f =
        subst (AreLaidParts width (arrived moves j)) (sym (none_wide qs f)) (no_parts width (arrived moves j))

-- ---- where its layout is listed, and for which attributes

-- the places of all of them
abbrev pub ats_of : PlacedLists → List (List LaidAt)
ats_of old = map (λ ps. map laid_at ps) old

pub ats_with : (xs : List Shown) (ps : List PlacedPart)
    → ats_of (placed_in xs ps) ≡ laid_with (laid_parts_in xs) (map laid_at ps)
ats_with [] ps = refl
ats_with (x ∷ xs) ps = ap (λ lss. map laid_at x.parts ∷ lss) (ats_with xs ps)

at_by : (old : PlacedLists) (m : Move)
    → moved_by_number (ats_of old) m ≡ option_map at_wide (wide_moved old m)
at_by old m =
    ap (λ o. option_map (laid_to m.kept.path) (option_and_then (λ (ls : List LaidAt). slice_get ls m.number) o))
    (slice_get-map (λ (ps : List PlacedPart). map laid_at ps) old m.from)
    ∙ by (slice_get old m.from)
  where
    by_part : (o : Option PlacedPart) → option_map (laid_to m.kept.path) (option_map laid_at o)
        ≡ option_map at_wide (option_map (put_at m.kept.path) o)
    by_part None = refl
    by_part (Some p) = refl

    by : (o : Option (List PlacedPart)) → option_map (laid_to m.kept.path)
        (option_and_then (λ (ls : List LaidAt). slice_get ls m.number)
        (option_map (λ (ps : List PlacedPart). map laid_at ps) o))
        ≡ option_map at_wide
        (option_map (put_at m.kept.path) (option_and_then (λ (ps : List PlacedPart). slice_get ps m.number) o))
    by None = refl
    by (Some ps) =
        ap (option_map (laid_to m.kept.path)) (slice_get-map laid_at ps m.number) ∙ by_part (slice_get ps m.number)

some_by : (o : Option WidePart) → is_some (option_map at_wide o) ≡ is_some o
some_by None = refl
some_by (Some w) = refl

all_by : (old : PlacedLists) (moves : List Move) → all_by_number (ats_of old) moves ≡ all_wide old moves
all_by old [] = refl
all_by old (m ∷ moves) =
    ap (λ b. b && all_by_number (ats_of old) moves) (ap is_some (at_by old m) ∙ some_by (wide_moved old m))
    ∙ ap (λ b. is_some (wide_moved old m) && b) (all_by old moves)

places_by : (old : PlacedLists) (j : ℕ) (moves : List Move)
    → map at_wide (wide_arrived old moves j) ≡ filter_map (in_unit_by_number (ats_of old) j) moves
places_by old j [] = refl
places_by old j (m ∷ moves) =
    by (m.to == j) (wide_moved old m)
    ∙ ap (λ o. cons_option (if m.to == j then o else None) (map at_wide (wide_arrived old moves j)))
    (sym (at_by old m))
    ∙ ap (λ ls. cons_option (in_unit_by_number (ats_of old) j m) ls) (places_by old j moves)
  where
    by : (b : Bool) (o : Option WidePart)
        → map at_wide (cons_option (if b then o else None) (wide_arrived old moves j))
        ≡ cons_option (if b then option_map at_wide o else None) (map at_wide (wide_arrived old moves j))
    by false o = refl
    by true None = refl
    by true (Some w) = refl

pub arrived_ats : (old : PlacedLists) (j : ℕ) (moves : List Move)
    → map at_wide (wide_arrived old (going old moves) j) ≡ arrived_by_number (ats_of old) moves j
arrived_ats old j moves =
    by (all_wide old moves)
    ∙ ap (λ b. if b then filter_map (in_unit_by_number (ats_of old) j) moves else []) (sym (all_by old moves))
  where
    by : (b : Bool) → map at_wide (wide_arrived old (if b then moves else []) j)
        ≡ (if b then filter_map (in_unit_by_number (ats_of old) j) moves else [])
    by true = places_by old j moves
    by false = refl

-- ---- no part moves to a unit without a path

pub none_comes : (pss : List KeptParts) (vs : List DocUnit) (old : PlacedLists) (j : ℕ) (v : DocUnit)
    (moves : List Move) → AreMovesOf pss vs moves → slice_get vs j ≡ Some v → v.path ≡ None
    → wide_arrived old moves j ≡ []
none_comes pss vs old j v [] are at none = refl
none_comes pss vs old j v (m ∷ moves) are at none =
    by (m.to == j) refl (none_comes pss vs old j v moves are.1 at none)
  where
    by : (b : Bool) → (m.to == j) ≡ b → wide_arrived old moves j ≡ []
        → cons_option (if b then wide_moved old m else None) (wide_arrived old moves j) ≡ []
    by false is rest = rest
    by true is rest =
        absurd (
        let placed : is_some v.path ≡ true =
        are.0.placed v (ap (slice_get vs) ((Decides-eqb m.to j).0 is) ∙ at) in
        let off : true ≡ false = sym placed ∙ ap is_some none in
        cc
        )

-- ---- the places of its clusters are short

abbrev pub HasShortLines : LaidPart → Type 0
HasShortLines l = AllByRecursion (λ line. All IsShort line.items) l.lines

abbrev pub HasShortItems : LaidPart → Type 0
HasShortItems l = AllByRecursion (λ p. All IsShort p.items) l.paragraphs.items

pub short_lines : (ys : List Shown) (ps : List PlacedPart) → AllByRecursion IsReadable ys
    → AllByRecursion HasShortPlaces ps → AllParts HasShortLines (placed_in ys ps)
short_lines [] ps h strays = (each_short ps strays, tt)
  where
    each_short : (qs : List PlacedPart) → AllByRecursion HasShortPlaces qs
        → AllByRecursion (λ p. HasShortLines p.laid.value) qs
    each_short [] k = tt
    each_short (q ∷ qs) k = (k.0.0, each_short qs k.1)
short_lines (y ∷ ys) ps h strays = (
  each_part_short (λ (l : Line). l.items) line_under (λ b l. refl) (λ l. l.lines) y.parts y.lines h.0.short,
  short_lines ys ps h.1 strays,
)

pub short_items : (ys : List Shown) (ps : List PlacedPart) → AllByRecursion IsReadable ys
    → AllByRecursion HasShortPlaces ps → AllParts HasShortItems (placed_in ys ps)
short_items [] ps h strays = (each_short ps strays, tt)
  where
    each_short : (qs : List PlacedPart) → AllByRecursion HasShortPlaces qs
        → AllByRecursion (λ p. HasShortItems p.laid.value) qs
    each_short [] k = tt
    each_short (q ∷ qs) k = (k.0.1, each_short qs k.1)
short_items (y ∷ ys) ps h strays = (
  each_part_short (λ (p : Paragraph). p.items) paragraph_under (λ b p. refl) (λ l. l.paragraphs.items) y.parts
      y.paragraphs.items h.0.short_items,
  short_items ys ps h.1 strays,
)

-- so they are of strays
pub short_places : (ps : List PlacedPart) → AllByRecursion (λ p. HasShortLines p.laid.value) ps
    → AllByRecursion (λ p. HasShortItems p.laid.value) ps → AllByRecursion HasShortPlaces ps
short_places [] lines items = tt
short_places (p ∷ ps) lines items = ((lines.0, items.0), short_places ps lines.1 items.1)
