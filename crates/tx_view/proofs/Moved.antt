-- What is shown of units has moved with them.
use Rattle.std.proofs.Common.{◌≡◌, ℕ, zero, suc, ◌+◌, ◌<◌, ◌≤◌, List, [], ◌∷◌, ◌++◌, length, take, drop, map, slice_set}
use Rattle.std.proofs.Common.{slice_index_or, true, false, Option, Some, None, refl, ap, sym}
use Rattle.std.proofs.Common.{subst, ◌∙◌, arith}
use Rattle.std.proofs.lemmas.List.{drop_more, drop-drop, drop-set-lt, append_assoc, append-nil, take_more_set, take_all}
use Rattle.std.proofs.lemmas.List.{drop_all, length-map}
use Rattle.std.proofs.lemmas.List.Elements.{recursion_from_All, All-from_recursion}
use Rattle.std.proofs.lemmas.Option.{slice_get-map, slice_get_within, same_Some}
use Rattle.std.specs.List.{All, AllByRecursion}
use Rattle.std.specs.Option.{option_map, option_map_or}
use Rattle.std.specs.Prelude.{slice_get, option_and_then, is_some, Bool, if◌then◌else◌}
use Rattle.tx_tree.specs.WideTree.{WideTree}
use Rattle.tx_mod.specs.declared.mods.Mod.{Mod}
use Rattle.tx_origin.specs.Values.{WideValue}
use Rattle.tx_exec_form.specs.Evaluated.{WideTrace}
use Rattle.tx_units.specs.declared.kinds.Unit.{Unit as DocUnit}
use Rattle.tx_items.specs.declared.attributes.Attrs.{Attrs}
use Rattle.tx_items.specs.declared.drawing.Paragraph.{Paragraph}
use Rattle.tx_layout.specs.declared.layout.Line.{Line}
use Rattle.tx_view_form.specs.Outcomes.{unit_value}
use Rattle.tx_view_form.specs.Views.{paragraphs_at}
use Rattle.tx_bridge.specs.Entries.{Entry, Kept, units_of, traces_of}
use Rattle.tx_bridge.specs.Carrying.{unit_places_after, sources_from, had, taken_from, mods_of, HaveSameTrees}
use Rattle.tx_bridge.specs.Carrying.{source, number_at, same_number, same_unit, is_path}
use Rattle.tx_bridge.specs.HeldParts.{AllPartsHold}
use Rattle.tx_bridge.specs.Names.{Sources, CarryTraces as CarryKept, CarryParts, CarryStrays, PartMoves}
use Rattle.tx_bridge.specs.PartMoves.{Move, parts_now, all_parts_now}
use Rattle.tx_bridge.specs.PartsKept.{KeptParts}
use Rattle.tx_part_items.specs.ItemsUnder.{paragraph_under}
use Rattle.tx_part_layout.specs.LaidParts.{placed_lines}
use Rattle.tx_part_layout.specs.LinesUnder.{line_under}
use Rattle.tx_part_layout.specs.declared.laid.PlacedPart.{PlacedPart}
use Rattle.tx_unit_layout.specs.LaidAts.{LaidAt, laid_at}
use Rattle.tx_unit_layout.specs.LaidUnits.{IsLaid, IsLaidOut, AreLaidParts}
use Rattle.tx_unit_layout.specs.Moving.{WidePart}
use Rattle.tx_unit_layout.specs.Views.{IsReadable}
use Rattle.tx_unit_layout.specs.declared.shown.Shown.{Shown}
use Rattle.tx_view.specs.Laid.{PlacedLists, AreLaid, IsBlank, AreArrived, HaveArrived, HasShortPlaces, laid_in}
use Rattle.tx_view.specs.Laid.{laid_parts_in, placed_in, wide_arrived, taking_shown, source_shown, moved, going}
use Rattle.tx_view.proofs.Comers.{AreMovesOf, AreAllLaid, AllParts, HasShortLines, HasShortItems, all_kept, moves_are}
use Rattle.tx_view.proofs.Comers.{going_are, all_come, all_laid_with, arrived_laid, ats_with, arrived_ats, none_comes}
use Rattle.tx_view.proofs.Comers.{short_lines, short_items, short_places}
use Rattle.tx_view.proofs.Numbers.{AreFrom, from_first, some_there, at_front}
use Rattle.tx_view.proofs.OfParts.{AreDistinct, all_distinct, arrived_is_laid, same_ats, none_wide, at_wide, wide_ats}
use Rattle.tx_view.proofs.ShortParts.{parts_are_short}
use Rattle.tx_view.proofs.LaidByNumber.{arrived_by_number, now_by_number, laid_with, all_now_by_number}

-- ---- one new unit after the other

moved_first : (ss : List (Option ℕ)) (old : List Shown) (j : ℕ) (x : Shown) (xs : List Shown)
    → moved (drop j ss) old (x ∷ xs)
    ≡ taking_shown x (source_shown old (option_and_then (λ s. s) (slice_get ss j))) ∷ moved (drop 1 (drop j ss)) old xs
moved_first [] old zero x xs = refl
moved_first [] old (suc j) x xs = refl
moved_first (s ∷ ss) old zero x xs = refl
moved_first (s ∷ ss) old (suc j) x xs = moved_first ss old j x xs

-- an old unit that no new one before number j is
abbrev pub IsLeft : List (Option ℕ) → ℕ → ℕ → Type 0
IsLeft ss j k = (h : ℕ) → h < j → slice_get ss h ≡ Some (Some k) → ⊥

-- no two new units are one old one
abbrev pub AreOnce : List (Option ℕ) → Type 0
AreOnce ss = (i j k : ℕ) → slice_get ss j ≡ Some (Some i) → slice_get ss k ≡ Some (Some i) → j ≡ k

-- After j new units. What is given and what is left to give are all, and what is left is as it was.
pub record Giving (ss : List (Option ℕ)) (was old before now : List Shown) (j : ℕ) : Type 0 where
  pub given : take j now ++ moved (drop j ss) was (drop j now) ≡ moved ss was before
  pub left : (k : ℕ) → IsLeft ss j k → slice_get old k ≡ slice_get was k

pub giving_begins : (ss : List (Option ℕ)) (was before : List Shown) → Giving ss was was before before 0
giving_begins ss was before = record { given = refl; left = λ k h. refl }

-- the old unit that the new one is was taken by none before
here_left : (ss : List (Option ℕ)) (was old before now : List Shown) (j : ℕ) (s : Option ℕ) → AreOnce ss
    → Giving ss was old before now j → s ≡ option_and_then (λ t. t) (slice_get ss j)
    → source_shown old s ≡ source_shown was s
here_left ss was old before now j None once g is = refl
here_left ss was old before now j (Some i) once g is = by (slice_get ss j) refl
  where
    by : (o : Option (Option ℕ)) → slice_get ss j ≡ o → slice_get old i ≡ slice_get was i
    by None e = absurd (let off : Some i ≡ None = is ∙ ap (option_and_then (λ t. t)) e in cc)
    by (Some t) e =
        let at : slice_get ss j ≡ Some (Some i) = e ∙ ap Some (sym (is ∙ ap (option_and_then (λ t. t)) e)) in
        g.left i (λ h less there. omega (arith, less, once i h j there at))

pub gives_next : (ss : List (Option ℕ)) (was old before now : List Shown) (j : ℕ) (s : Option ℕ) (d y : Shown)
    (rest : List Shown) → AreOnce ss → Giving ss was old before now j → j < length now
    → s ≡ option_and_then (λ t. t) (slice_get ss j) → y ≡ taking_shown (slice_index_or now j d) (source_shown old s)
    → ((k : ℕ) → (s ≡ Some k → ⊥) → slice_get rest k ≡ slice_get old k)
    → Giving ss was rest before (slice_set now j y) (j + 1)
gives_next ss was old before now j s d y rest once g inside is made others =
    let x : Shown = slice_index_or now j d in
    let later : List Shown = drop (j + 1) now in
    let all : y ≡ taking_shown x (source_shown was (option_and_then (λ t. t) (slice_get ss j))) =
    made ∙ ap (taking_shown x) (here_left ss was old before now j s once g is)
    ∙ ap (λ t. taking_shown x (source_shown was t)) is in
    record {
      given =
          ap (λ xs. xs ++ moved (drop (j + 1) ss) was (drop (j + 1) (slice_set now j y))) (take_more_set now j y inside)
          ∙ append_assoc (take j now) (y ∷ []) (moved (drop (j + 1) ss) was (drop (j + 1) (slice_set now j y)))
          ∙ ap (λ xs. take j now ++ y ∷ moved (drop (j + 1) ss) was xs) (drop-set-lt (j + 1) now j y (omega arith))
          ∙ ap (λ z. take j now ++ z ∷ moved (drop (j + 1) ss) was later) all
          ∙ ap (λ ts. take j now
          ++ taking_shown x (source_shown was (option_and_then (λ t. t) (slice_get ss j))) ∷ moved ts was later)
          (sym (drop-drop 1 j ss))
          ∙ ap (λ xs. take j now ++ xs) (sym (moved_first ss was j x later))
          ∙ ap (λ xs. take j now ++ moved (drop j ss) was xs) (sym (drop_more now j d inside)) ∙ g.given;
      left = λ k h.
          others k (λ e. h j (omega arith) (there k (sym is ∙ e)))
          ∙ g.left k (λ i less. h i (omega (arith, less)));
    }
  where
    there : (k : ℕ) → option_and_then (λ t. t) (slice_get ss j) ≡ Some k → slice_get ss j ≡ Some (Some k)
    there k e = by (slice_get ss j) e
      where
        by : (o : Option (Option ℕ)) → option_and_then (λ t. t) o ≡ Some k → o ≡ Some (Some k)
        by None f = cc
        by (Some t) f = ap Some f

pub giving_ends : (ss : List (Option ℕ)) (was old before now : List Shown) (j : ℕ) → Giving ss was old before now j
    → length now ≤ j → now ≡ moved ss was before
giving_ends ss was old before now j g past =
    sym (ap (λ xs. take j now ++ xs) (ap (moved (drop j ss) was) (drop_all j now past) ∙ nothing (drop j ss))
    ∙ append-nil (take j now) ∙ take_all j now past) ∙ g.given
  where
    nothing : (ts : List (Option ℕ)) → moved ts was [] ≡ []
    nothing [] = refl
    nothing (t ∷ ts) = refl

-- ---- a unit has the tree of the old one that it is

-- a unit has the tree of the old unit that it is, and a path where that has one
abbrev pub Same : List DocUnit → Option ℕ → DocUnit → Type 0
Same us s v = (i : ℕ) (u : DocUnit) → s ≡ Some i → slice_get us i ≡ Some u
    → (v.tagged.tree ≡ u.tagged.tree) × (is_some v.path ≡ is_some u.path)

abbrev pub AllSame : List DocUnit → List (Option ℕ) → List DocUnit → Type 0
AllSame us [] vs = Unit {0}
AllSame us (s ∷ ss) [] = Unit {0}
AllSame us (s ∷ ss) (v ∷ vs) = Same us s v × AllSame us ss vs

pub all_same : (us vs : List DocUnit) (ss : List (Option ℕ)) → HaveSameTrees us vs ss → AllSame us ss vs
all_same us vs [] h = tt
all_same us [] (s ∷ ss) h = tt
all_same us (v ∷ vs) (s ∷ ss) h =
    (λ i u is at. h i 0 u v at refl (ap Some is), all_same us vs ss (λ i j. h i (suc j)))

-- the old unit that a new one is is one of them
abbrev pub IsWithin : ℕ → Option ℕ → Type 0
IsWithin n s = (i : ℕ) → s ≡ Some i → i < n

abbrev pub AreWithin : ℕ → List (Option ℕ) → Type 0
AreWithin n ss = AllByRecursion (IsWithin n) ss

number_within : (p : List ℕ) (i : ℕ) (places : List (Option (List ℕ))) (found : Option ℕ)
    → ((k : ℕ) → found ≡ Some k → k < i) → IsWithin (i + length places) (number_at p i places found)
number_within p i [] found before k e = omega (arith, before k e)
number_within p i (q ∷ places) found before k e =
    omega (arith, number_within p (i + 1) places (if is_path p q then Some i else found) (by (is_path p q)) k e)
  where
    by : (b : Bool) (k : ℕ) → (if b then Some i else found) ≡ Some k → k < i + 1
    by true k f = omega (arith, same_Some i k f)
    by false k f = omega (arith, before k f)

same_within : (us : List DocUnit) (j : ℕ) (v : DocUnit) → IsWithin (length us) (same_number us j v)
same_within us j v k e = by (slice_get us j) refl e
  where
    by_test : (u : DocUnit) → slice_get us j ≡ Some u → (b : Bool) → (if b then Some j else None) ≡ Some k
        → k < length us
    by_test u at true f = omega (arith, same_Some j k f, slice_get_within us j u at)
    by_test u at false f = cc

    by : (o : Option DocUnit) → slice_get us j ≡ o
        → option_and_then (λ u. if same_unit u v then Some j else None) o ≡ Some k → k < length us
    by None at f = cc
    by (Some u) at f = by_test u at (same_unit u v) f

one_within : (places : List (Option (List ℕ))) (us : List DocUnit) (j : ℕ) (v : DocUnit) → length places ≡ length us
    → IsWithin (length us) (source places us j v)
one_within places us j v many = by v.path
  where
    by : (o : Option (List ℕ))
        → IsWithin (length us) (option_map_or (λ p. number_at p 0 places None) o (same_number us j v))
    by None = same_within us j v
    by (Some p) = λ k e. omega (arith, many, number_within p 0 places None (λ n f. cc) k e)

pub all_within : (places : List (Option (List ℕ))) (us : List DocUnit) (j : ℕ) (vs : List DocUnit)
    → length places ≡ length us → AreWithin (length us) (sources_from places us j vs)
all_within places us j [] many = tt
all_within places us j (v ∷ vs) many = (one_within places us j v many, all_within places us (j + 1) vs many)

pub sources_many : (places : List (Option (List ℕ))) (us : List DocUnit) (j : ℕ) (vs : List DocUnit)
    → length (sources_from places us j vs) ≡ length vs
sources_many places us j [] = refl
sources_many places us j (v ∷ vs) = ap suc (sources_many places us (j + 1) vs)

-- ---- what is shown of the new units

other_path : (p q : Option (List ℕ)) (a : Attrs) (v : WideValue) → is_some p ≡ is_some q
    → paragraphs_at p a v ≡ paragraphs_at q a v
other_path None None a v e = refl
other_path None (Some q) a v e = cc
other_path (Some p) None a v e = cc
other_path (Some p) (Some q) a v e = refl

out_there : (width : ℕ) (a : Attrs) (v : WideValue) (p q r : Option (List ℕ)) (y : Shown) → is_some p ≡ is_some q
    → r ≡ q → IsLaidOut width a v p y → IsLaidOut width a v q (record y { path = r })
out_there width a v p q r y e is h = record {
  shown = record {
    path_is = is;
    errors = h.shown.errors;
    paragraphs = h.shown.paragraphs ∙ other_path p q a v e;
    lines = h.shown.lines;
  };
  few_lines = h.few_lines;
  few_errors = h.few_errors;
}

abbrev entry : DocUnit → Option WideTrace → Entry
entry v o = record { unit = v; trace = o }

-- what units and strays had, with what was cached of them, and which parts have moved
pub record HadMoved (width : ℕ) (kss : List KeptParts) (placed : PlacedLists) (all : List DocUnit)
    (moves : List Move) : Type 0 where
  pub laid : AreAllLaid width kss placed
  pub told : AreMovesOf kss all moves

one_moved : (width : ℕ) (old : Kept) (pss : List KeptParts) (olds : List Shown) (kss : List KeptParts)
    (placed : PlacedLists) (all : List DocUnit) (moves : List Move) (j : ℕ) (s : Option ℕ) (v : DocUnit)
    (x : Shown) → AreLaid width old pss olds → HadMoved width kss placed all moves
    → IsBlank v.path (wide_arrived placed (going placed moves) j) x → Same (units_of old) s v
    → IsWithin (length olds) s → AreDistinct (parts_now pss moves j s)
    → IsLaid width (entry v (had (traces_of old) s)) (parts_now pss moves j s) (parts_now pss moves j s)
    (taking_shown x (source_shown olds s))
one_moved width old pss olds kss placed all moves j None v x laid move blank same within apart =
    arrived_is_laid width (entry v None) (parts_now pss moves j None) (wide_arrived placed (going placed moves) j) x
    blank (arrived_laid width kss placed all j moves x.parts move.laid move.told blank.parts apart)
one_moved width old pss olds kss placed all moves j (Some i) v x laid move blank same within apart =
    by old pss olds i laid (within i refl) (λ u. same i u refl)
  where
    by : (es : Kept) (qss : List KeptParts) (ys : List Shown) (k : ℕ) → AreLaid width es qss ys → k < length ys
        → ((u : DocUnit) → slice_get (units_of es) k ≡ Some u
        → (v.tagged.tree ≡ u.tagged.tree) × (is_some v.path ≡ is_some u.path))
        → IsLaid width (entry v (option_and_then (λ o. o) (slice_get (traces_of es) k)))
        (option_map_or (λ ks. ks) (slice_get qss k) []) (option_map_or (λ ks. ks) (slice_get qss k) [])
        (taking_shown x (slice_get ys k))
    by [] [] [] k h inside alike = absurd (omega (arith, inside))
    by [] [] (y ∷ ys) k h inside alike = absurd h
    by [] (ks ∷ qss) ys k h inside alike = absurd h
    by (e ∷ es) [] ys k h inside alike = absurd h
    by (e ∷ es) (ks ∷ qss) [] k h inside alike = absurd h
    by (e ∷ es) (ks ∷ qss) (y ∷ ys) zero h inside alike =
        let both = alike e.unit refl in
        record {
          path = blank.path_is;
          laid = λ a is.
              out_there width a (unit_value e.trace) e.unit.path v.path x.path y (sym both.1) blank.path_is
              (h.0.laid a is);
          by_parts = λ a is. h.0.by_parts a is ∙ same_ats a ks e.trace e.unit v both.0 both.1;
          of_kept = h.0.of_kept;
          same = λ a is. refl;
          parts = h.0.parts;
        }
    by (e ∷ es) (ks ∷ qss) (y ∷ ys) (suc k) h inside alike = by es qss ys k h.1 (omega (arith, inside)) alike

pub all_moved : (width : ℕ) (old : Kept) (pss : List KeptParts) (olds : List Shown) (kss : List KeptParts)
    (placed : PlacedLists) (all : List DocUnit) (moves : List Move) (j : ℕ) (ss : List (Option ℕ))
    (vs : List DocUnit) (xs : List Shown) → AreLaid width old pss olds → HadMoved width kss placed all moves
    → AreArrived placed (going placed moves) j vs xs
    → AllSame (units_of old) ss vs → AreWithin (length olds) ss → length ss ≡ length vs
    → AllByRecursion AreDistinct (all_parts_now pss moves j ss)
    → AreLaid width (taken_from (traces_of old) ss vs) (all_parts_now pss moves j ss) (moved ss olds xs)
all_moved width old pss olds kss placed all moves j [] [] [] laid move blank same within many apart = tt
all_moved width old pss olds kss placed all moves j [] [] (x ∷ xs) laid move blank same within many apart =
    absurd blank
all_moved width old pss olds kss placed all moves j [] (v ∷ vs) xs laid move blank same within many apart =
    absurd (omega (arith, many))
all_moved width old pss olds kss placed all moves j (s ∷ ss) [] xs laid move blank same within many apart =
    absurd (omega (arith, many))
all_moved width old pss olds kss placed all moves j (s ∷ ss) (v ∷ vs) [] laid move blank same within many apart =
    absurd blank
all_moved width old pss olds kss placed all moves j (s ∷ ss) (v ∷ vs) (x ∷ xs) laid move blank same within many
    apart = (
      one_moved width old pss olds kss placed all moves j s v x laid move blank.0 same.0 within.0 apart.0,
      all_moved width old pss olds kss placed all moves (j + 1) ss vs xs laid move blank.1 same.1 within.1
          (omega (arith, many))
          apart.1,
    )

attributes_one : (olds : List Shown) (s : Option ℕ) (x : Shown) → x.laid ≡ None
    → (taking_shown x (source_shown olds s)).laid ≡ had (laid_in olds) s
attributes_one olds None x none = none
attributes_one olds (Some i) x none =
    by (slice_get olds i)
    ∙ ap (option_and_then (λ a. a)) (sym (slice_get-map (λ (y : Shown). y.laid) olds i))
  where
    by : (o : Option Shown) → (taking_shown x o).laid ≡ option_and_then (λ a. a) (option_map (λ y. y.laid) o)
    by None = none
    by (Some y) = refl

pub attributes_moved : (olds : List Shown) (placed : PlacedLists) (moves : List Move) (j : ℕ)
    (ss : List (Option ℕ)) (vs : List DocUnit) (xs : List Shown) → AreArrived placed moves j vs xs
    → length ss ≡ length vs
    → laid_in (moved ss olds xs) ≡ map (had (laid_in olds)) ss
attributes_moved olds placed moves j [] [] [] blank many = refl
attributes_moved olds placed moves j [] [] (x ∷ xs) blank many = absurd blank
attributes_moved olds placed moves j [] (v ∷ vs) xs blank many = absurd (omega (arith, many))
attributes_moved olds placed moves j (s ∷ ss) [] xs blank many = absurd (omega (arith, many))
attributes_moved olds placed moves j (s ∷ ss) (v ∷ vs) [] blank many = absurd blank
attributes_moved olds placed moves j (s ∷ ss) (v ∷ vs) (x ∷ xs) blank many =
    ap (λ a. a ∷ laid_in (moved ss olds xs)) (attributes_one olds s x blank.0.laid)
    ∙ ap (λ bs. had (laid_in olds) s ∷ bs)
    (attributes_moved olds placed moves (j + 1) ss vs xs blank.1 (omega (arith, many)))

ats_one : (olds : List Shown) (strays : List PlacedPart) (moves : List Move) (j : ℕ) (s : Option ℕ)
    (path : Option (List ℕ)) (x : Shown)
    → IsBlank path (wide_arrived (placed_in olds strays) (going (placed_in olds strays) moves) j) x
    → IsWithin (length olds) s → map laid_at (taking_shown x (source_shown olds s)).parts
    ≡ now_by_number (laid_with (laid_parts_in olds) (map laid_at strays)) moves j s
ats_one olds strays moves j None path x blank within =
    sym (wide_ats x.parts) ∙ ap (map at_wide) blank.parts ∙ arrived_ats (placed_in olds strays) j moves
    ∙ ap (λ lss. arrived_by_number lss moves j) (ats_with olds strays)
ats_one olds strays moves j (Some i) path x blank within =
    let past : i ≡ length (laid_parts_in olds) → ⊥ =
    λ e. omega (arith, e, within i refl, length-map olds (λ (y : Shown). map laid_at y.parts)) in
    by (slice_get olds i) (some_there olds i (within i refl))
    ∙ ap (λ o. option_map_or (λ ls. ls) o [])
    (sym (slice_get-map (λ (y : Shown). map laid_at y.parts) olds i)
    ∙ sym (at_front (laid_parts_in olds) (map laid_at strays) i past))
  where
    by : (o : Option Shown) → is_some o ≡ true → map laid_at (taking_shown x o).parts
        ≡ option_map_or (λ ls. ls) (option_map (λ (y : Shown). map laid_at y.parts) o) []
    by None some = cc
    by (Some y) some = refl

pub ats_moved : (olds : List Shown) (strays : List PlacedPart) (moves : List Move) (j : ℕ) (ss : List (Option ℕ))
    (vs : List DocUnit) (xs : List Shown)
    → AreArrived (placed_in olds strays) (going (placed_in olds strays) moves) j vs xs → AreWithin (length olds) ss
    → length ss ≡ length vs → laid_parts_in (moved ss olds xs)
    ≡ all_now_by_number (laid_with (laid_parts_in olds) (map laid_at strays)) moves j ss
ats_moved olds strays moves j [] [] [] blank within many = refl
ats_moved olds strays moves j [] [] (x ∷ xs) blank within many = absurd blank
ats_moved olds strays moves j [] (v ∷ vs) xs blank within many = absurd (omega (arith, many))
ats_moved olds strays moves j (s ∷ ss) [] xs blank within many = absurd (omega (arith, many))
ats_moved olds strays moves j (s ∷ ss) (v ∷ vs) [] blank within many = absurd blank
ats_moved olds strays moves j (s ∷ ss) (v ∷ vs) (x ∷ xs) blank within many =
    ap (λ ls. ls ∷ laid_parts_in (moved ss olds xs)) (ats_one olds strays moves j s v.path x blank.0 within.0)
    ∙ ap (λ lss. now_by_number (laid_with (laid_parts_in olds) (map laid_at strays)) moves j s ∷ lss)
    (ats_moved olds strays moves (j + 1) ss vs xs blank.1 within.1 (omega (arith, many)))

-- a unit without lines but those of parts that have moved to it
arrived_reads : (path : Option (List ℕ)) (ps : List WidePart) (x : Shown) → IsBlank path ps x
    → (path ≡ None → x.parts ≡ []) → AllByRecursion (λ p. HasShortLines p.laid.value) x.parts
    → AllByRecursion (λ p. HasShortItems p.laid.value) x.parts → IsReadable x
arrived_reads path ps x blank bare lines items = record {
  placed = λ e.
      ap (λ qs. placed_lines qs ++ x.lines) (bare (sym blank.path_is ∙ e)) ∙ blank.lines;
  short = parts_are_short (λ (l : Line). l.items) line_under (λ b l. refl) (λ l. l.lines) x.parts x.lines blank.lines
      lines;
  short_items = parts_are_short (λ (p : Paragraph). p.items) paragraph_under (λ b p. refl) (λ l. l.paragraphs.items)
      x.parts x.paragraphs.items blank.paragraphs items;
  below = λ a is. absurd (let none : None ≡ Some a = sym blank.laid ∙ is in cc);
}

pub blank_reads : (path : Option (List ℕ)) (x : Shown) → IsBlank path [] x → IsReadable x
blank_reads path x blank =
    let none : x.parts ≡ [] = none_wide x.parts blank.parts in
    arrived_reads path [] x blank (λ e. none)
    (subst (λ (ps : List PlacedPart). AllByRecursion (λ p. HasShortLines p.laid.value) ps) (sym none) tt)
    (subst (λ (ps : List PlacedPart). AllByRecursion (λ p. HasShortItems p.laid.value) ps) (sym none) tt)

none_where : (p q : Option (List ℕ)) → is_some p ≡ is_some q → q ≡ None → p ≡ None
none_where None q e f = refl
none_where (Some p) q e f = let off : true ≡ false = e ∙ ap is_some f in cc

-- the lines of parts have short places, and this is known of their moves
pub record CanMove (kss : List KeptParts) (placed : PlacedLists) (all : List DocUnit) (moves : List Move)
    : Type 0 where
  pub told : AreMovesOf kss all moves
  pub lines : AllParts HasShortLines placed
  pub items : AllParts HasShortItems placed

one_reads : (width : ℕ) (old : Kept) (pss : List KeptParts) (olds : List Shown) (kss : List KeptParts)
    (placed : PlacedLists) (all : List DocUnit) (moves : List Move) (j : ℕ) (s : Option ℕ) (v : DocUnit)
    (x : Shown) → AreLaid width old pss olds → AllByRecursion IsReadable olds → CanMove kss placed all moves
    → slice_get all j ≡ Some v → IsBlank v.path (wide_arrived placed moves j) x → Same (units_of old) s v
    → IsReadable (taking_shown x (source_shown olds s))
one_reads width old pss olds kss placed all moves j s v x laid reads can at blank same = by_source s same
  where
    alone : IsReadable x
    alone =
        arrived_reads v.path (wide_arrived placed moves j) x blank
        (λ e. none_wide x.parts (blank.parts ∙ none_comes kss all placed j v moves can.told at e))
        (all_come HasShortLines placed j moves x.parts can.lines blank.parts)
        (all_come HasShortItems placed j moves x.parts can.items blank.parts)

    by : (es : Kept) (qss : List KeptParts) (ys : List Shown) (k : ℕ) → AreLaid width es qss ys
        → AllByRecursion IsReadable ys
        → ((u : DocUnit) → slice_get (units_of es) k ≡ Some u → is_some u.path ≡ is_some v.path)
        → IsReadable (taking_shown x (slice_get ys k))
    by [] [] [] k h r alike = alone
    by [] [] (y ∷ ys) k h r alike = absurd h
    by [] (ks ∷ qss) ys k h r alike = absurd h
    by (e ∷ es) [] ys k h r alike = absurd h
    by (e ∷ es) (ks ∷ qss) [] k h r alike = absurd h
    by (e ∷ es) (ks ∷ qss) (y ∷ ys) zero h r alike = record {
      placed = λ none.
          r.0.placed (h.0.path ∙ none_where e.unit.path v.path (alike e.unit refl) (sym blank.path_is ∙ none));
      short = r.0.short;
      short_items = r.0.short_items;
      below = r.0.below;
    }
    by (e ∷ es) (ks ∷ qss) (y ∷ ys) (suc k) h r alike = by es qss ys k h.1 r.1 alike

    by_source : (o : Option ℕ) → Same (units_of old) o v → IsReadable (taking_shown x (source_shown olds o))
    by_source None alike = alone
    by_source (Some i) alike = by old pss olds i laid reads (λ u there. sym (alike i u refl there).1)

each_reads : (width : ℕ) (old : Kept) (pss : List KeptParts) (olds : List Shown) (kss : List KeptParts)
    (placed : PlacedLists) (all : List DocUnit) (moves : List Move) (j : ℕ) (ss : List (Option ℕ))
    (vs : List DocUnit) (xs : List Shown) → AreLaid width old pss olds → AllByRecursion IsReadable olds
    → CanMove kss placed all moves → AreFrom all j vs → AreArrived placed moves j vs xs
    → AllSame (units_of old) ss vs → length ss ≡ length vs
    → AllByRecursion IsReadable (moved ss olds xs)
each_reads width old pss olds kss placed all moves j [] [] [] laid reads can from blank same many = tt
each_reads width old pss olds kss placed all moves j [] [] (x ∷ xs) laid reads can from blank same many = absurd blank
each_reads width old pss olds kss placed all moves j [] (v ∷ vs) xs laid reads can from blank same many =
    absurd (omega (arith, many))
each_reads width old pss olds kss placed all moves j (s ∷ ss) [] xs laid reads can from blank same many =
    absurd (omega (arith, many))
each_reads width old pss olds kss placed all moves j (s ∷ ss) (v ∷ vs) [] laid reads can from blank same many =
    absurd blank
each_reads width old pss olds kss placed all moves j (s ∷ ss) (v ∷ vs) (x ∷ xs) laid reads can from blank same many = (
  one_reads width old pss olds kss placed all moves j s v x laid reads can (from 0 j (omega arith)) blank.0 same.0,
  each_reads width old pss olds kss placed all moves (j + 1) ss vs xs laid reads can
      (λ n m e. from (suc n) m (omega (arith, e))) blank.1 same.1 (omega (arith, many)),
)

pub all_read : (width : ℕ) (old : Kept) (pss : List KeptParts) (olds : List Shown) (kss : List KeptParts)
    (placed : PlacedLists) (moves : List Move) (ss : List (Option ℕ)) (vs : List DocUnit) (xs : List Shown)
    → AreLaid width old pss olds → AllByRecursion IsReadable olds → CanMove kss placed vs moves
    → AreArrived placed moves 0 vs xs → AllSame (units_of old) ss vs → length ss ≡ length vs
    → All IsReadable (moved ss olds xs)
all_read width old pss olds kss placed moves ss vs xs laid reads can blank same many =
    All-from_recursion IsReadable (moved ss olds xs)
    (each_reads width old pss olds kss placed vs moves 0 ss vs xs laid reads can (from_first vs) blank same many)

-- ---- an edit of a buffer

pub record IsCarried (width : ℕ) (new : Kept) (pss : List KeptParts) (ks : KeptParts) (laid : List (Option Attrs))
    (lss : List (List LaidAt)) (ls : List LaidAt) (xs : List Shown) (ps : List PlacedPart) : Type 0 where
  pub laid_out : AreLaid width new pss xs
  pub readable : All IsReadable xs
  pub attributes : laid_in xs ≡ laid
  pub laid_parts : laid_parts_in xs ≡ lss
  pub strays : AreLaidParts width ks ps
  pub short : AllByRecursion HasShortPlaces ps
  pub laid_strays : map laid_at ps ≡ ls

pub as_many : (width : ℕ) (es : Kept) (pss : List KeptParts) (ys : List Shown) → AreLaid width es pss ys
    → length ys ≡ length (units_of es)
as_many width [] [] [] h = refl
as_many width [] [] (y ∷ ys) h = absurd h
as_many width [] (ks ∷ pss) ys h = absurd h
as_many width (e ∷ es) [] ys h = absurd h
as_many width (e ∷ es) (ks ∷ pss) [] h = absurd h
as_many width (e ∷ es) (ks ∷ pss) (y ∷ ys) h = ap suc (as_many width es pss ys h.1)

many_parts : (width : ℕ) (es : Kept) (pss : List KeptParts) (ys : List Shown) → AreLaid width es pss ys
    → length (units_of es) ≡ length pss
many_parts width [] [] [] h = refl
many_parts width [] [] (y ∷ ys) h = absurd h
many_parts width [] (ks ∷ pss) ys h = absurd h
many_parts width (e ∷ es) [] ys h = absurd h
many_parts width (e ∷ es) (ks ∷ pss) [] h = absurd h
many_parts width (e ∷ es) (ks ∷ pss) (y ∷ ys) h = ap suc (many_parts width es pss ys h.1)

pub places_many : (ms : List Mod) (t : WideTree) (us : List DocUnit) → length (unit_places_after ms t us) ≡ length us
places_many ms t [] = refl
places_many ms t (u ∷ us) = ap suc (places_many ms t us)

-- what was cached of units and strays, and their lines
pub record WasKept (width : ℕ) (old : Kept) (pss : List KeptParts) (ks : KeptParts) (olds : List Shown)
    (ps : List PlacedPart) : Type 0 where
  pub laid : AreLaid width old pss olds
  pub readable : All IsReadable olds
  pub strays : AreLaidParts width ks ps
  pub short : AllByRecursion HasShortPlaces ps

pub carried_on : (width buffer : ℕ) (ms : List Mod) (t : WideTree) (old new : Kept) (pss qss : List KeptParts)
    (ks js : KeptParts) (olds blanks xs : List Shown) (before after : List PlacedPart) (ss : List (Option ℕ))
    (vs : List DocUnit) → WasKept width old pss ks olds before → AllPartsHold new qss → AreDistinct js
    → HaveArrived (placed_in olds before)
    (going (placed_in olds before) (PartMoves buffer ms t (units_of old) pss ks vs)) vs blanks after
    → HaveSameTrees (units_of old) vs ss → new ≡ CarryKept buffer ms t old vs
    → qss ≡ CarryParts pss (PartMoves buffer ms t (units_of old) pss ks vs) ss
    → js ≡ CarryStrays (PartMoves buffer ms t (units_of old) pss ks vs) (length vs)
    → ss ≡ Sources buffer ms t (units_of old) vs → xs ≡ moved ss olds blanks
    → IsCarried width new qss js (map (had (laid_in olds)) (Sources buffer ms t (units_of old) vs))
    (all_now_by_number (laid_with (laid_parts_in olds) (map laid_at before))
    (PartMoves buffer ms t (units_of old) pss ks vs) 0 (Sources buffer ms t (units_of old) vs))
    (arrived_by_number (laid_with (laid_parts_in olds) (map laid_at before))
    (PartMoves buffer ms t (units_of old) pss ks vs) (length vs)) xs after
unfolding CarryKept CarryParts CarryStrays Sources
carried_on width buffer ms t old new pss qss ks js olds blanks xs before after ss vs was hold distinct blank trees
    is_new is_parts is_strays is_ss is_xs =
    let us : List DocUnit = units_of old in
    let moves : List Move = PartMoves buffer ms t us pss ks vs in
    let kss : List KeptParts = all_kept pss ks in
    let placed : PlacedLists = placed_in olds before in
    let places = unit_places_after (mods_of buffer ms) t us in
    let firsts : List (Option ℕ) = sources_from places us 0 vs in
    let same : AllSame us firsts vs =
    all_same us vs firsts (subst (λ (ts : List (Option ℕ)). HaveSameTrees us vs ts) is_ss trees) in
    let many : length firsts ≡ length vs = sources_many places us 0 vs in
    let within : AreWithin (length olds) firsts =
    subst (λ n. AreWithin n firsts) (sym (as_many width old pss olds was.laid))
    (all_within places us 0 vs (places_many (mods_of buffer ms) t us)) in
    let are : xs ≡ moved firsts olds blanks = is_xs ∙ ap (λ ts. moved ts olds blanks) is_ss in
    let parts : qss ≡ all_parts_now pss moves 0 firsts = is_parts ∙ ap (all_parts_now pss moves 0) is_ss in
    let apart : AllByRecursion AreDistinct (all_parts_now pss moves 0 firsts) =
    subst (AllByRecursion AreDistinct) parts (all_distinct new qss hold) in
    let told : AreMovesOf kss vs moves = moves_are buffer ms t us pss ks vs (many_parts width old pss olds was.laid) in
    let all : AreAllLaid width kss placed = all_laid_with width old pss olds ks before was.laid was.strays in
    let reads : AllByRecursion IsReadable olds = recursion_from_All IsReadable olds was.readable in
    let lines : AllParts HasShortLines placed = short_lines olds before reads was.short in
    let items : AllParts HasShortItems placed = short_items olds before reads was.short in
    record {
      laid_out =
          subst (λ (es : Kept). AreLaid width es qss xs) (sym is_new)
          (subst (λ (is : List KeptParts). AreLaid width (taken_from (traces_of old) firsts vs) is xs) (sym parts)
          (subst (AreLaid width (taken_from (traces_of old) firsts vs) (all_parts_now pss moves 0 firsts)) (sym are)
          (all_moved width old pss olds kss placed vs moves 0 firsts vs blanks was.laid
          (record { laid = all; told = told }) blank.0 same within many apart)));
      readable =
          subst (All IsReadable) (sym are)
          (all_read width old pss olds kss placed (going placed moves) firsts vs blanks was.laid reads
          (record { told = going_are kss vs placed moves told; lines = lines; items = items }) blank.0 same many);
      attributes = ap laid_in are ∙ attributes_moved olds placed (going placed moves) 0 firsts vs blanks blank.0 many;
      laid_parts = ap laid_parts_in are ∙ ats_moved olds before moves 0 firsts vs blanks blank.0 within many;
      strays =
          subst (λ (is : KeptParts). AreLaidParts width is after) (sym is_strays)
          (arrived_laid width kss placed vs (length vs) moves after all told blank.1 (subst AreDistinct is_strays
          distinct));
      short =
          short_places after (all_come HasShortLines placed (length vs) (going placed moves) after lines blank.1)
          (all_come HasShortItems placed (length vs) (going placed moves) after items blank.1);
      laid_strays =
          sym (wide_ats after) ∙ ap (map at_wide) blank.1 ∙ arrived_ats placed (length vs) moves
          ∙ ap (λ lss. arrived_by_number lss moves (length vs)) (ats_with olds before);
    }
