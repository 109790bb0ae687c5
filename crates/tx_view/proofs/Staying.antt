-- What is shown is unchanged in place, but for one unit that has changed.
use Rattle.std.proofs.Common.{◌≡◌, ℕ, zero, suc, ◌+◌, ◌<◌, List, [], ◌∷◌, ◌++◌, length, map, slice_set}
use Rattle.std.proofs.Common.{slice_index_or, Bool, true, false, Option, Some, None, refl, ap, sym, subst, ◌∙◌, arith}
use Rattle.std.proofs.lemmas.List.Elements.{recursion_from_All, All-from_recursion}
use Rattle.std.specs.List.{AllByRecursion, filter}
use Rattle.std.specs.Option.{option_map_or}
use Rattle.std.specs.Prelude.{slice_get, option_and_then, is_some, ◌==◌, if◌then◌else◌}
use Rattle.tx_bridge.proofs.Taking.{heads}
use Rattle.tx_tree.specs.WideTree.{WideTree}
use Rattle.tx_mod.specs.declared.mods.Mod.{Mod}
use Rattle.tx_exec_form.specs.Evaluated.{WideTrace}
use Rattle.tx_units.specs.declared.kinds.Unit.{Unit as DocUnit}
use Rattle.tx_items.specs.declared.attributes.Attrs.{Attrs}
use Rattle.tx_items.specs.declared.drawing.Paragraph.{Paragraph}
use Rattle.tx_layout.specs.declared.layout.Line.{Line}
use Rattle.tx_view_form.specs.Outcomes.{unit_value}
use Rattle.tx_part_items.specs.ItemsUnder.{paragraph_under}
use Rattle.tx_part_layout.specs.LaidParts.{laid_paths, placed_lines}
use Rattle.tx_part_layout.specs.LinesUnder.{line_under}
use Rattle.tx_part_layout.specs.declared.laid.PlacedPart.{PlacedPart}
use Rattle.tx_bridge.specs.Carrying.{had, taken_from, HaveSameTrees}
use Rattle.tx_bridge.specs.CarryingParts.{carried_below, parts_within, parts_but}
use Rattle.tx_bridge.specs.Entries.{Entry, Kept, units_of, traces_of}
use Rattle.tx_bridge.specs.HeldParts.{AllPartsHold}
use Rattle.tx_bridge.specs.InPlace.{numbers_but}
use Rattle.tx_bridge.specs.Names.{Sources, CarryTraces as CarryKept, CarryParts, CarryStrays, CarryWithin, PartMoves}
use Rattle.tx_bridge.specs.PartMoves.{Move}
use Rattle.tx_bridge.specs.Strays.{is_beside, path_at}
use Rattle.tx_bridge.specs.PartsKept.{KeptParts}
use Rattle.tx_unit_layout.specs.LaidAts.{LaidAt, laid_at, laid_ats}
use Rattle.tx_unit_layout.specs.LaidUnits.{IsLaid, IsLaidOut, AreOf, AreLaidParts}
use Rattle.tx_unit_layout.specs.Moving.{wide_part, laid_by, PartPlaces, put_along}
use Rattle.tx_unit_layout.specs.Views.{unit_view, IsReadable}
use Rattle.tx_unit_layout.specs.declared.shown.Shown.{Shown}
use Rattle.tx_view.specs.declared.carrying.Target.{Target}
use Rattle.tx_view.specs.declared.carrying.Target.TheVariants.{InPlace, Onto}
use Rattle.tx_view.specs.Exchanged.{left_at, left_but, parts_after, strays_after}
use Rattle.tx_view.specs.Laid.{AreLaid, laid_in, laid_parts_in, parts_left, left_with, IsLeftBy, StayBut}
use Rattle.tx_view.specs.Laid.{IsTarget, IsWay, HasGone, IsLeft, HasShortPlaces}
use Rattle.tx_view.proofs.Aside.{ats_aside, laid_aside, short_aside}
use Rattle.tx_view.proofs.Moved.{IsCarried, WasKept, carried_on, Same, AllSame, all_same}
use Rattle.tx_view.proofs.Numbers.{not_equal, are_equal, AreFrom, from_first}
use Rattle.tx_view.proofs.OfParts.{AreDistinct, all_distinct, left_laid, left_ats, none_wide, same_ats}
use Rattle.tx_view.proofs.ShortParts.{stays_short}
use Rattle.tx_view.proofs.LaidByNumber.{arrived_by_number, laid_with, all_now_by_number, parts_by_way, strays_by_way}

-- ---- one entry is reset

same_stays : (ps : PartPlaces) (c : Bool) (y : Shown) → c ≡ false → IsLeftBy ps c y y
same_stays ps c y e = subst (λ b. IsLeftBy ps b y y) (sym e) refl

-- number i is none of these
pub stay_all : (ps : PartPlaces) (i k : ℕ) (ys : List Shown) → ((n : ℕ) → n < length ys → k + n ≡ i → ⊥)
    → StayBut ps i k ys ys
stay_all ps i k [] h = tt
stay_all ps i k (y ∷ ys) h = (
  same_stays ps (k == i) y (not_equal k i (λ e. h 0 (omega arith) (omega (arith, e)))),
  stay_all ps i (k + 1) ys (λ n l e. h (suc n) (omega (arith, l)) (omega (arith, e))),
)

pub stay_but : (ps : PartPlaces) (i k j : ℕ) (ys : List Shown) (d x : Shown) → i ≡ k + j → j < length ys
    → x ≡ left_with ps (slice_index_or ys j d) → StayBut ps i k ys (slice_set ys j x)
stay_but ps i k j [] d x e l is = absurd (omega (arith, l))
stay_but ps i k zero (y ∷ ys) d x e l is = (
  subst (λ b. IsLeftBy ps b y x) (sym (are_equal k i (omega (arith, e)))) is,
  stay_all ps i (k + 1) ys (λ n less f. omega (arith, e, f)),
)
stay_but ps i k (suc j) (y ∷ ys) d x e l is = (
  same_stays ps (k == i) y (not_equal k i (λ f. omega (arith, e, f))),
  stay_but ps i (k + 1) j ys d x (omega (arith, e)) (omega (arith, l)) is,
)

-- ---- what is unchanged of what is shown

pub stays_same : (ps : PartPlaces) (y x : Shown) (c : Bool) → c ≡ false → IsLeftBy ps c y x → x ≡ y
stays_same ps y x true e h = cc
stays_same ps y x false e h = h

pub stays_left : (ps : PartPlaces) (y x : Shown) (c : Bool) → c ≡ true → IsLeftBy ps c y x → x ≡ left_with ps y
stays_left ps y x true e h = h
stays_left ps y x false e h = cc

-- number i is none of these
pub stay_behind : (ps : PartPlaces) (i k : ℕ) (ys xs : List Shown) → i < k → StayBut ps i k ys xs → xs ≡ ys
stay_behind ps i k [] [] less h = refl
stay_behind ps i k [] (x ∷ xs) less h = absurd h
stay_behind ps i k (y ∷ ys) [] less h = absurd h
stay_behind ps i k (y ∷ ys) (x ∷ xs) less h =
    ap (λ z. z ∷ xs) (stays_same ps y x (k == i) (not_equal k i (λ e. omega (arith, e, less))) h.0)
    ∙ ap (λ zs. y ∷ zs) (stay_behind ps i (k + 1) ys xs (omega (arith, less)) h.1)

-- ---- what is cached and shown of the new units

pub had_here : {A : Type 0} (all : List (Option A)) (k : ℕ) (x : Option A) (c : Bool) → slice_get all k ≡ Some x
    → had all (if c then None else Some k) ≡ (if c then None else x)
had_here all k x true e = refl
had_here all k x false e = ap (option_and_then (λ o. o)) e

abbrev entry : DocUnit → Option WideTrace → Entry
entry v o = record { unit = v; trace = o }

-- so its parts are left
abbrev pub AreLeft : List Mod → WideTree → PartPlaces → Shown → Type 0
AreLeft ms t ps y = map wide_part (put_along 0 ps y.parts) ≡ parts_left ms t y.path y.parts

-- the unit inside which the modifications are
one_left : (width : ℕ) (ms : List Mod) (t : WideTree) (ps : PartPlaces) (e : Entry) (ks : KeptParts)
    (v : DocUnit) (o : Option WideTrace) (y x : Shown) → IsLaid width e ks ks y → x ≡ left_with ps y
    → v.path ≡ e.unit.path → AreLeft ms t ps y → AreDistinct (parts_within ms t e.unit ks)
    → IsLaid width (entry v o) (parts_within ms t e.unit ks) (parts_within ms t e.unit ks) x
one_left width ms t ps e ks v o y x laid left path are apart = record {
  path = ap (λ (z : Shown). z.path) left ∙ laid.path ∙ sym path;
  laid = λ a there. absurd (off a there);
  by_parts = λ a there. absurd (off a there);
  of_kept = λ a there. absurd (off a there);
  same = λ a there. refl;
  parts =
      subst (λ (z : Shown). AreLaidParts width (parts_within ms t e.unit ks) z.parts) (sym left)
      (left_laid width ms t e ks y (put_along 0 ps y.parts) laid are apart);
}
  where
    off : (a : Attrs) → x.laid ≡ Some a → ⊥
    off a there = let none : None ≡ Some a = sym (ap (λ (z : Shown). z.laid) left) ∙ there in cc

-- another unit
one_stays : (width : ℕ) (e : Entry) (ks : KeptParts) (v : DocUnit) (o : Option WideTrace) (y x : Shown)
    → IsLaid width e ks ks y → x ≡ y → v.path ≡ e.unit.path → v.tagged.tree ≡ e.unit.tagged.tree → o ≡ e.trace
    → IsLaid width (entry v o) ks ks x
one_stays width e ks v o y x laid same path tree is = record {
  path = ap (λ (z : Shown). z.path) same ∙ laid.path ∙ sym path;
  laid = λ a there.
      let out : IsLaidOut width a (unit_value e.trace) e.unit.path y =
      laid.laid a (ap (λ (z : Shown). z.laid) (sym same) ∙ there) in
      subst (λ r. IsLaidOut width a (unit_value r) v.path x) (sym is)
      (subst (λ p. IsLaidOut width a (unit_value e.trace) p x) (sym path)
      (subst (IsLaidOut width a (unit_value e.trace) e.unit.path) (sym same) out));
  by_parts = λ a there.
      ap (λ (z : Shown). map laid_at z.parts) same ∙ laid.by_parts a (ap (λ (z : Shown). z.laid) (sym same) ∙ there)
      ∙ same_ats a ks e.trace e.unit v tree (ap is_some path) ∙ ap (λ r. laid_ats a (entry v r) ks) (sym is);
  of_kept = λ a there.
      subst (λ (z : Shown). AreOf ks z.parts) (sym same)
      (laid.of_kept a (ap (λ (z : Shown). z.laid) (sym same) ∙ there));
  same = λ a there. refl;
  parts = subst (λ (z : Shown). AreLaidParts width ks z.parts) (sym same) laid.parts;
}

abbrev paths_of : List DocUnit → List (Option (List ℕ))
paths_of us = map (λ u. u.path) us

-- number k, which isn't i, is the old one of its number
tree_stays : (all : List DocUnit) (i k : ℕ) (u v : DocUnit) → (k ≡ i → ⊥) → slice_get all k ≡ Some u
    → Same all (if k == i then None else Some k) v → v.tagged.tree ≡ u.tagged.tree
tree_stays all i k u v off at same =
    (same k u (ap (λ b. if b then None else Some k) (not_equal k i off)) at).0

trace_stays : (traces : List (Option WideTrace)) (i k : ℕ) (o : Option WideTrace) → (k ≡ i → ⊥)
    → slice_get traces k ≡ Some o → had traces (if k == i then None else Some k) ≡ o
trace_stays traces i k o off at =
    had_here traces k o (k == i) at ∙ ap (λ b. if b then None else o) (not_equal k i off)

-- units after number i
stay_past : (width i k : ℕ) (ps : PartPlaces) (traces : List (Option WideTrace)) (all : List DocUnit) (es : Kept)
    (pss : List KeptParts) (vs : List DocUnit) (ys xs : List Shown) → i < k → AreFrom traces k (traces_of es)
    → AreFrom all k (units_of es) → AreLaid width es pss ys → StayBut ps i k ys xs
    → AllSame all (numbers_but i k (length vs)) vs → paths_of vs ≡ paths_of (units_of es)
    → AreLaid width (taken_from traces (numbers_but i k (length vs)) vs) pss xs
stay_past width i k ps traces all [] [] [] [] [] less from units laid stay same paths = tt
stay_past width i k ps traces all [] [] [] [] (x ∷ xs) less from units laid stay same paths = absurd stay
stay_past width i k ps traces all [] [] [] (y ∷ ys) xs less from units laid stay same paths = absurd laid
stay_past width i k ps traces all [] [] (v ∷ vs) ys xs less from units laid stay same paths = cc
stay_past width i k ps traces all [] (ks ∷ pss) vs ys xs less from units laid stay same paths = absurd laid
stay_past width i k ps traces all (e ∷ es) [] vs ys xs less from units laid stay same paths = absurd laid
stay_past width i k ps traces all (e ∷ es) (ks ∷ pss) vs [] xs less from units laid stay same paths = absurd laid
stay_past width i k ps traces all (e ∷ es) (ks ∷ pss) [] (y ∷ ys) xs less from units laid stay same paths = cc
stay_past width i k ps traces all (e ∷ es) (ks ∷ pss) (v ∷ vs) (y ∷ ys) [] less from units laid stay same paths =
    absurd stay
stay_past width i k ps traces all (e ∷ es) (ks ∷ pss) (v ∷ vs) (y ∷ ys) (x ∷ xs) less from units laid stay same paths =
    let both : (v.path ≡ e.unit.path) × (paths_of vs ≡ paths_of (units_of es)) =
    heads v.path e.unit.path (paths_of vs) (paths_of (units_of es)) paths in
    let off : k ≡ i → ⊥ = λ f. omega (arith, f, less) in (
      one_stays width e ks v (had traces (if k == i then None else Some k)) y x laid.0
          (stays_same ps y x (k == i) (not_equal k i off) stay.0) both.0
          (tree_stays all i k e.unit v off (units 0 k (omega arith)) same.0)
          (trace_stays traces i k e.trace off (from 0 k (omega arith))),
      stay_past width i (k + 1) ps traces all es pss vs ys xs (omega (arith, less))
          (λ n m f. from (suc n) m (omega (arith, f))) (λ n m f. units (suc n) m (omega (arith, f))) laid.1 stay.1
          same.1 both.1,
    )

-- units from the j-th before number i on
stay_laid : (width i k j : ℕ) (ms : List Mod) (t : WideTree) (ps : PartPlaces)
    (ts : List (Option WideTrace)) (all : List DocUnit) (es : Kept) (pss : List KeptParts) (vs : List DocUnit)
    (ys xs : List Shown) → i ≡ k + j
    → AreFrom ts k (traces_of es) → AreFrom all k (units_of es) → AreLaid width es pss ys → StayBut ps i k ys xs
    → AllSame all (numbers_but i k (length vs)) vs → paths_of vs ≡ paths_of (units_of es)
    → ((y : Shown) → slice_get ys j ≡ Some y → AreLeft ms t ps y)
    → AllByRecursion AreDistinct (parts_but ms t j (units_of es) pss)
    → AreLaid width (taken_from ts (numbers_but i k (length vs)) vs) (parts_but ms t j (units_of es) pss) xs
stay_laid width i k j ms t ps ts all [] [] [] [] [] is from units laid stay same at left far = tt
stay_laid width i k j ms t ps ts all [] [] [] [] (x ∷ xs) is from units laid stay same at left far = absurd stay
stay_laid width i k j ms t ps ts all [] [] [] (y ∷ ys) xs is from units laid stay same at left far = absurd laid
stay_laid width i k j ms t ps ts all [] [] (v ∷ vs) ys xs is from units laid stay same at left far = cc
stay_laid width i k j ms t ps ts all [] (ks ∷ pss) vs ys xs is from units laid stay same at left far = absurd laid
stay_laid width i k j ms t ps ts all (e ∷ es) [] vs ys xs is from units laid stay same at left far = absurd laid
stay_laid width i k j ms t ps ts all (e ∷ es) (ks ∷ pss) vs [] xs is from units laid stay same at left far = absurd laid
stay_laid width i k j ms t ps ts all (e ∷ es) (ks ∷ pss) [] (y ∷ ys) xs is from units laid stay same at left far = cc
stay_laid width i k j ms t ps ts all (e ∷ es) (ks ∷ pss) (v ∷ vs) (y ∷ ys) [] is from units laid stay same at left far =
    absurd stay
stay_laid width i k zero ms t ps ts all (e ∷ es) (ks ∷ pss) (v ∷ vs) (y ∷ ys) (x ∷ xs) is from units laid stay same
    at left far =
    let both : (v.path ≡ e.unit.path) × (paths_of vs ≡ paths_of (units_of es)) =
    heads v.path e.unit.path (paths_of vs) (paths_of (units_of es)) at in (
      one_left width ms t ps e ks v (had ts (if k == i then None else Some k)) y x laid.0
          (stays_left ps y x (k == i) (are_equal k i (omega (arith, is))) stay.0) both.0 (left y refl) far.0,
      stay_past width i (k + 1) ps ts all es pss vs ys xs (omega (arith, is))
          (λ n m f. from (suc n) m (omega (arith, f))) (λ n m f. units (suc n) m (omega (arith, f))) laid.1 stay.1
          same.1 both.1,
    )
stay_laid width i k (suc j) ms t ps ts all (e ∷ es) (ks ∷ pss) (v ∷ vs) (y ∷ ys) (x ∷ xs) is from units laid stay same
    at left far =
    let both : (v.path ≡ e.unit.path) × (paths_of vs ≡ paths_of (units_of es)) =
    heads v.path e.unit.path (paths_of vs) (paths_of (units_of es)) at in
    let off : k ≡ i → ⊥ = λ f. omega (arith, f, is) in (
      one_stays width e ks v (had ts (if k == i then None else Some k)) y x laid.0
          (stays_same ps y x (k == i) (not_equal k i off) stay.0) both.0
          (tree_stays all i k e.unit v off (units 0 k (omega arith)) same.0)
          (trace_stays ts i k e.trace off (from 0 k (omega arith))),
      stay_laid width i (k + 1) j ms t ps ts all es pss vs ys xs (omega (arith, is))
          (λ n m f. from (suc n) m (omega (arith, f))) (λ n m f. units (suc n) m (omega (arith, f))) laid.1 stay.1
          same.1 both.1 left far.1,
    )

-- that unit remains readable
left_reads : (ms : List Mod) (t : WideTree) (ps : PartPlaces) (y : Shown) → IsReadable y → AreLeft ms t ps y
    → IsReadable (left_with ps y)
left_reads ms t ps y reads left =
    let qs : List PlacedPart = put_along 0 ps y.parts in
    let stand : List (Option (List ℕ)) =
    option_map_or (λ p. map (carried_below ms t p) (laid_paths y.parts)) y.path [] in
    let are : map wide_part qs ≡ laid_by stand y.parts = left ∙ by y.path in
    record {
      placed = λ none. bare none (reads.placed none);
      short = stays_short (λ (l : Line). l.items) line_under (λ b l. refl) (λ l. l.lines) stand y.parts qs y.lines are
          reads.short;
      short_items = stays_short (λ (p : Paragraph). p.items) paragraph_under (λ b p. refl) (λ l. l.paragraphs.items)
          stand y.parts qs y.paragraphs.items are reads.short_items;
      below = λ a is. absurd (let off : None ≡ Some a = is in cc);
    }
  where
    by : (o : Option (List ℕ)) → parts_left ms t o y.parts
        ≡ laid_by (option_map_or (λ p. map (carried_below ms t p) (laid_paths y.parts)) o []) y.parts
    by None = refl
    by (Some p) = refl

    second : (ls own : List Line) → ls ++ own ≡ [] → own ≡ []
    second [] own e = e
    second (l ∷ ls) own e = cc

    bare : y.path ≡ None → (unit_view y).lines ≡ [] → (unit_view (left_with ps y)).lines ≡ []
    bare none lines =
        ap (λ qs. placed_lines qs ++ y.lines)
        (none_wide (put_along 0 ps y.parts) (left ∙ ap (λ o. parts_left ms t o y.parts) none))
        ∙ second (placed_lines y.parts) y.lines lines

one_reads : (ps : PartPlaces) (y x : Shown) (c : Bool) → IsReadable y → IsLeftBy ps c y x
    → (c ≡ true → IsReadable (left_with ps y)) → IsReadable x
one_reads ps y x true reads same left = subst IsReadable (sym same) (left refl)
one_reads ps y x false reads same left = subst IsReadable (sym same) reads

-- number i is none of these
past_reads : (ps : PartPlaces) (i k : ℕ) (ys xs : List Shown) → i < k → AllByRecursion IsReadable ys
    → StayBut ps i k ys xs → AllByRecursion IsReadable xs
past_reads ps i k ys xs less reads stay =
    subst (AllByRecursion IsReadable) (sym (stay_behind ps i k ys xs less stay)) reads

stay_reads : (ms : List Mod) (t : WideTree) (ps : PartPlaces) (i k j : ℕ) (ys xs : List Shown) → i ≡ k + j
    → AllByRecursion IsReadable ys → StayBut ps i k ys xs
    → ((y : Shown) → slice_get ys j ≡ Some y → AreLeft ms t ps y) → AllByRecursion IsReadable xs
stay_reads ms t ps i k j [] [] is reads stay left = tt
stay_reads ms t ps i k j [] (x ∷ xs) is reads stay left = absurd stay
stay_reads ms t ps i k j (y ∷ ys) [] is reads stay left = absurd stay
stay_reads ms t ps i k zero (y ∷ ys) (x ∷ xs) is reads stay left = (
  one_reads ps y x (k == i) reads.0 stay.0 (λ c. left_reads ms t ps y reads.0 (left y refl)),
  past_reads ps i (k + 1) ys xs (omega (arith, is)) reads.1 stay.1,
)
stay_reads ms t ps i k (suc j) (y ∷ ys) (x ∷ xs) is reads stay left = (
  subst IsReadable (sym (stays_same ps y x (k == i) (not_equal k i (λ f. omega (arith, f, is))) stay.0)) reads.0,
  stay_reads ms t ps i (k + 1) j ys xs (omega (arith, is)) reads.1 stay.1 left,
)

one_attributes : (ps : PartPlaces) (y x : Shown) (c : Bool) → IsLeftBy ps c y x
    → x.laid ≡ (if c then None else y.laid)
one_attributes ps y x true same = ap (λ (z : Shown). z.laid) same
one_attributes ps y x false same = ap (λ (z : Shown). z.laid) same

stay_attributes : (ps : PartPlaces) (i k : ℕ) (all : List (Option Attrs)) (ys xs : List Shown)
    → AreFrom all k (laid_in ys) → StayBut ps i k ys xs → laid_in xs ≡ map (had all) (numbers_but i k (length ys))
stay_attributes ps i k all [] [] from stay = refl
stay_attributes ps i k all [] (x ∷ xs) from stay = absurd stay
stay_attributes ps i k all (y ∷ ys) [] from stay = absurd stay
stay_attributes ps i k all (y ∷ ys) (x ∷ xs) from stay =
    ap (λ a. a ∷ laid_in xs)
    (one_attributes ps y x (k == i) stay.0 ∙ sym (had_here all k y.laid (k == i) (from 0 k (omega arith))))
    ∙ ap (λ as_laid. had all (if k == i then None else Some k) ∷ as_laid)
    (stay_attributes ps i (k + 1) all ys xs (λ n m f. from (suc n) m (omega (arith, f))) stay.1)

-- the parts that are laid out afterwards are those that are left
stay_ats : (width i k j : ℕ) (ms : List Mod) (t : WideTree) (ps : PartPlaces) (es : Kept) (pss : List KeptParts)
    (ys xs : List Shown) → i ≡ k + j → AreLaid width es pss ys → StayBut ps i k ys xs
    → ((y : Shown) → slice_get ys j ≡ Some y → AreLeft ms t ps y)
    → laid_parts_in xs ≡ left_but ms t j (units_of es) (laid_parts_in ys)
stay_ats width i k j ms t ps [] [] [] [] is laid stay left = refl
stay_ats width i k j ms t ps [] [] [] (x ∷ xs) is laid stay left = absurd stay
stay_ats width i k j ms t ps [] [] (y ∷ ys) xs is laid stay left = absurd laid
stay_ats width i k j ms t ps [] (ks ∷ pss) ys xs is laid stay left = absurd laid
stay_ats width i k j ms t ps (e ∷ es) [] ys xs is laid stay left = absurd laid
stay_ats width i k j ms t ps (e ∷ es) (ks ∷ pss) [] xs is laid stay left = absurd laid
stay_ats width i k j ms t ps (e ∷ es) (ks ∷ pss) (y ∷ ys) [] is laid stay left = absurd stay
stay_ats width i k zero ms t ps (e ∷ es) (ks ∷ pss) (y ∷ ys) (x ∷ xs) is laid stay left =
    ap (λ (z : Shown). map laid_at z.parts ∷ laid_parts_in xs)
    (stays_left ps y x (k == i) (are_equal k i (omega (arith, is))) stay.0)
    ∙ ap (λ ls. ls ∷ laid_parts_in xs) (left_ats ms t e.unit.path y (put_along 0 ps y.parts) laid.0.path (left y refl))
    ∙ ap (λ zs. left_at ms t e.unit.path (map laid_at y.parts) ∷ laid_parts_in zs)
    (stay_behind ps i (k + 1) ys xs (omega (arith, is)) stay.1)
stay_ats width i k (suc j) ms t ps (e ∷ es) (ks ∷ pss) (y ∷ ys) (x ∷ xs) is laid stay left =
    ap (λ (z : Shown). map laid_at z.parts ∷ laid_parts_in xs)
    (stays_same ps y x (k == i) (not_equal k i (λ f. omega (arith, f, is))) stay.0)
    ∙ ap (λ lss. map laid_at y.parts ∷ lss)
    (stay_ats width i (k + 1) j ms t ps es pss ys xs (omega (arith, is)) laid.1 stay.1 left)

-- ---- an edit of a buffer

pub laid_many : (width : ℕ) (es : Kept) (pss : List KeptParts) (ys : List Shown) (vs : List DocUnit)
    → AreLaid width es pss ys → paths_of vs ≡ paths_of (units_of es) → length ys ≡ length vs
laid_many width [] [] [] [] h e = refl
laid_many width [] [] [] (v ∷ vs) h e = cc
laid_many width [] [] (y ∷ ys) vs h e = absurd h
laid_many width [] (ks ∷ pss) ys vs h e = absurd h
laid_many width (x ∷ es) [] ys vs h e = absurd h
laid_many width (x ∷ es) (ks ∷ pss) [] vs h e = absurd h
laid_many width (x ∷ es) (ks ∷ pss) (y ∷ ys) [] h e = cc
laid_many width (x ∷ es) (ks ∷ pss) (y ∷ ys) (v ∷ vs) h e =
    ap suc (laid_many width es pss ys vs h.1
    (heads v.path x.unit.path (paths_of vs) (paths_of (units_of es)) e).1)

-- what is left is known of the units that are shown, or else of the hidden ones
pub left_of : (ms : List Mod) (t : WideTree) (us : List DocUnit) (moves : List Move) (vs : List DocUnit) (to : Target)
    (fresh : Bool) (xs ys shown hidden : List Shown) (before after : List PlacedPart) → xs ≡ shown → ys ≡ hidden
    → IsLeft ms t us moves vs to (if fresh then xs else ys) before after
    → IsLeft ms t us moves vs to (if fresh then shown else hidden) before after
left_of ms t us moves vs to fresh xs ys shown hidden before after is_shown is_hidden left =
    subst (λ (zs : List Shown). IsLeft ms t us moves vs to (if fresh then zs else hidden) before after) is_shown
    (subst (λ (zs : List Shown). IsLeft ms t us moves vs to (if fresh then xs else zs) before after) is_hidden left)

pub carried_by : (width buffer : ℕ) (ms : List Mod) (t : WideTree) (old new : Kept) (pss qss : List KeptParts)
    (ks js : KeptParts) (olds xs : List Shown) (before after : List PlacedPart) (to : Target) (ss : List (Option ℕ))
    (vs : List DocUnit) → WasKept width old pss ks olds before → AllPartsHold new qss → AreDistinct js
    → new ≡ CarryKept buffer ms t old vs → qss ≡ parts_after buffer ms t (units_of old) pss ks vs ss
    → js ≡ strays_after buffer ms t (units_of old) pss ks vs → ss ≡ Sources buffer ms t (units_of old) vs
    → IsTarget (units_of old) vs ss to → IsWay buffer ms t (units_of old) vs ss to
    → IsLeft ms t (units_of old) (PartMoves buffer ms t (units_of old) pss ks vs) vs to olds before after
    → HasGone to ss olds xs
    → IsCarried width new qss js (map (had (laid_in olds)) (Sources buffer ms t (units_of old) vs))
    (parts_by_way buffer ms t (units_of old) pss ks (laid_parts_in olds) (map laid_at before) vs
    (Sources buffer ms t (units_of old) vs))
    (strays_by_way buffer ms t (units_of old) pss ks (laid_parts_in olds) (map laid_at before) vs) xs after
unfolding CarryKept CarryWithin Sources
carried_by width buffer ms t old new pss qss ks js olds xs before after (InPlace i silent ps) ss vs was hold distinct
    is_new is_parts is_strays is_ss to way left moves =
    let us : List DocUnit = units_of old in
    let told : List Move = PartMoves buffer ms t us pss ks vs in
    let lss : List (List LaidAt) = laid_with (laid_parts_in olds) (map laid_at before) in
    let is : Sources buffer ms t us vs ≡ numbers_but i 0 (length vs) = sym is_ss ∙ to.0 in
    let kept : new ≡ taken_from (traces_of old) (numbers_but i 0 (length vs)) vs =
    is_new ∙ ap (λ ns. taken_from (traces_of old) ns vs) is in
    let parts : qss ≡ parts_but ms t i us pss =
    is_parts ∙ ap (λ o. option_map_or (λ k. CarryWithin k ms t us pss) o (CarryParts pss told ss)) way.0 in
    let beside : js ≡ filter (λ k. is_beside (path_at i us) k.path) ks =
    is_strays
    ∙ ap (λ o. option_map_or (λ n. filter (λ k. is_beside (path_at n us) k.path) ks) o (CarryStrays told (length vs)))
    way.0 in
    let many : length olds ≡ length vs = laid_many width old pss olds vs was.laid to.1 in
    let same : AllSame us (numbers_but i 0 (length vs)) vs =
    all_same us vs (numbers_but i 0 (length vs))
    (subst (λ (ns : List (Option ℕ)). HaveSameTrees us vs ns) to.0 way.2) in
    let apart : AllByRecursion AreDistinct (parts_but ms t i us pss) =
    subst (AllByRecursion AreDistinct) parts (all_distinct new qss hold) in
    let entries : Kept = taken_from (traces_of old) (numbers_but i 0 (length vs)) vs in
    let stay : AreLaid width entries (parts_but ms t i us pss) xs =
    stay_laid width i 0 i ms t ps.items (traces_of old) us old pss vs olds xs (omega arith) (from_first (traces_of old))
    (from_first us) was.laid moves same to.1 left.0 apart in
    record {
      laid_out =
          subst (λ (es : Kept). AreLaid width es qss xs) (sym kept)
          (subst (λ (is : List KeptParts). AreLaid width entries is xs) (sym parts) stay);
      readable =
          All-from_recursion IsReadable xs
          (stay_reads ms t ps.items i 0 i olds xs (omega arith) (recursion_from_All IsReadable olds was.readable) moves
          left.0);
      attributes =
          stay_attributes ps.items i 0 (laid_in olds) olds xs (from_first (laid_in olds)) moves
          ∙ ap (λ n. map (had (laid_in olds)) (numbers_but i 0 n)) many ∙ ap (map (had (laid_in olds))) (sym is);
      laid_parts =
          stay_ats width i 0 i ms t ps.items old pss olds xs (omega arith) was.laid moves left.0
          ∙ ap (λ o. option_map_or (λ k. left_but ms t k us (laid_parts_in olds)) o
          (all_now_by_number lss told 0 (Sources buffer ms t us vs))) (sym way.0);
      strays =
          subst (λ (is : KeptParts). AreLaidParts width is after) (sym beside)
          (subst (λ (qs : List PlacedPart). AreLaidParts width (filter (λ k. is_beside (path_at i us) k.path) ks) qs)
          (sym left.1)
          (laid_aside (is_beside (path_at i us)) width ks before was.strays (subst AreDistinct beside distinct)));
      short =
          subst (AllByRecursion HasShortPlaces) (sym left.1) (short_aside (is_beside (path_at i us)) before was.short);
      laid_strays =
          ap (map laid_at) left.1 ∙ ats_aside (is_beside (path_at i us)) before
          ∙ ap (λ o. option_map_or (λ n. filter (λ l. is_beside (path_at n us) l.path) (map laid_at before)) o
          (arrived_by_number lss told (length vs))) (sym way.0);
    }
carried_by width buffer ms t old new pss qss ks js olds xs before after (Onto blanks) ss vs was hold distinct is_new
    is_parts is_strays is_ss to way left moves =
    let us : List DocUnit = units_of old in
    let told : List Move = PartMoves buffer ms t us pss ks vs in
    let lss : List (List LaidAt) = laid_with (laid_parts_in olds) (map laid_at before) in
    let on = carried_on width buffer ms t old new pss qss ks js olds blanks.items xs before after ss vs was hold
    distinct left way.1 is_new
    (is_parts ∙ ap (λ o. option_map_or (λ k. CarryWithin k ms t us pss) o (CarryParts pss told ss)) way.0)
    (is_strays
    ∙ ap (λ o. option_map_or (λ n. filter (λ k. is_beside (path_at n us) k.path) ks) o (CarryStrays told (length vs)))
    way.0) is_ss moves in
    record {
      laid_out = on.laid_out;
      readable = on.readable;
      attributes = on.attributes;
      laid_parts =
          on.laid_parts
          ∙ ap (λ o. option_map_or (λ k. left_but ms t k us (laid_parts_in olds)) o
          (all_now_by_number lss told 0 (Sources buffer ms t us vs))) (sym way.0);
      strays = on.strays;
      short = on.short;
      laid_strays =
          on.laid_strays
          ∙ ap (λ o. option_map_or (λ n. filter (λ l. is_beside (path_at n us) l.path) (map laid_at before)) o
          (arrived_by_number lss told (length vs))) (sym way.0);
    }
