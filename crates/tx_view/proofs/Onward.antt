-- Units laid out up to some number.
use Rattle.std.proofs.Common.{◌≡◌, ℕ, zero, suc, ◌+◌, ◌*◌, ◌<◌, ◌≤◌, ◌^◌, List, [], ◌∷◌, ◌++◌, length, take, drop, map}
use Rattle.std.proofs.Common.{slice_index_or, slice_set, Bool, Option, Some}
use Rattle.std.proofs.Common.{refl, ap, sym, subst, ◌∙◌, arith, length-append}
use Rattle.std.proofs.lemmas.List.{drop_more, drop-set-lt, append_assoc, append-nil, take_more_set, take_all}
use Rattle.std.proofs.lemmas.List.{drop_all, map_push, length-take-le}
use Rattle.std.proofs.lemmas.List.Concat.{flat_map-append}
use Rattle.std.proofs.lemmas.List.Elements.{All-set}
use Rattle.std.proofs.lemmas.Option.{same_Some}
use Rattle.std.specs.List.{All, flat_map}
use Rattle.std.specs.Option.{option_map}
use Rattle.std.specs.Prelude.{slice_get, if◌then◌else◌}
use Rattle.tx_unit_layout.proofs.Costing.{items_most}
use Rattle.tx_view.proofs.Leaving.{laid_as_many}
use Rattle.tx_bridge.proofs.Taking.{heads}
use Rattle.tx_tree.proofs.Walks.{drop_item}
use Rattle.tx_tree.specs.WideTree.{size_of}
use Rattle.tx_origin.specs.Values.{WideValue, plain}
use Rattle.tx_exec_form.specs.Evaluated.{WideTrace}
use Rattle.tx_units.specs.declared.kinds.Unit.{Unit as DocUnit}
use Rattle.tx_items.specs.declared.attributes.Attrs.{Attrs}
use Rattle.tx_items.specs.declared.drawing.Paragraph.{Paragraph}
use Rattle.tx_items.specs.Shows.{shown_paragraphs}
use Rattle.tx_view_form.specs.Outcomes.{Moment, beginning, behind, unit_value, over_value}
use Rattle.tx_view_form.specs.Started.{attributes_of}
use Rattle.tx_view_form.specs.Views.{UnitView, IsShown, AreShown, lines_of, paragraphs_at}
use Rattle.tx_view_form.specs.Errors.{errors_of}
use Rattle.tx_view_form.specs.Weights.{weight_of}
use Rattle.tx_bridge.specs.Bridged.{Bridged}
use Rattle.tx_bridge.specs.Entries.{Entry, Kept, units_of, fresh_from, outcome_of}
use Rattle.tx_bridge.specs.Moments.{IsPaid}
use Rattle.tx_bridge.specs.PartsKept.{KeptParts, fresh_parts, fresh_parts_from}
use Rattle.tx_part_layout.specs.LaidParts.{is_before, items_in}
use Rattle.tx_unit_layout.specs.declared.shown.Shown.{Shown}
use Rattle.tx_unit_layout.specs.LaidAts.{LaidAt, laid_at, unit_items_anew}
use Rattle.tx_unit_layout.specs.LaidUnits.{IsLaidOut, WasLaid}
use Rattle.tx_unit_layout.specs.Views.{unit_view, IsReadable}
use Rattle.tx_view.specs.Costs.{entry_at}
use Rattle.tx_view.specs.Laid.{IsNext, IsUnit, WereLaid, laid_in, items_unlaid, items_unlaid_from}
use Rattle.tx_view.specs.Stores.{attributes_from}
use Rattle.tx_view.specs.Units.{unit_views}
use Rattle.tx_view.proofs.Few.{few_lines, few_errors}
use Rattle.tx_view.proofs.UnitRows.{placed_errors, as_many_errors}

-- ---- how many units there are

-- there are as many units as are cached, with parts and flags
pub record AreMany (kept : Kept) (pss : List KeptParts) (fss : List (List Bool)) (xs : List Shown) : Type 0 where
  pub shown : length xs ≡ length kept
  pub parts : length pss ≡ length kept
  pub flags : length fss ≡ length kept

pub are_many : (width : ℕ) (kept : Kept) (pss : List KeptParts) (fss : List (List Bool)) (xs : List Shown)
    → WereLaid width kept pss fss xs → AreMany kept pss fss xs
are_many width [] [] [] [] h = record { shown = refl; parts = refl; flags = refl }
are_many width [] [] [] (x ∷ xs) h = absurd h
are_many width [] [] (fs ∷ fss) xs h = absurd h
are_many width [] (ks ∷ pss) fss xs h = absurd h
are_many width (e ∷ es) [] fss xs h = absurd h
are_many width (e ∷ es) (ks ∷ pss) [] xs h = absurd h
are_many width (e ∷ es) (ks ∷ pss) (fs ∷ fss) [] h = absurd h
are_many width (e ∷ es) (ks ∷ pss) (fs ∷ fss) (x ∷ xs) h =
    let m = are_many width es pss fss xs h.1 in
    record { shown = ap suc m.shown; parts = ap suc m.parts; flags = ap suc m.flags }

pub laid_many : (width : ℕ) (kept : Kept) (pss : List KeptParts) (fss : List (List Bool)) (xs : List Shown)
    → WereLaid width kept pss fss xs → length xs ≡ length kept
laid_many width kept pss fss xs h = (are_many width kept pss fss xs h).shown

-- ---- what is shown of one unit

pub was_by : {width : ℕ} {e f : Entry} {ks ls : KeptParts} {fs gs : List Bool} {x : Shown} → e ≡ f → ks ≡ ls → fs ≡ gs
    → WasLaid width e ks fs x → WasLaid width f ls gs x
was_by {width} {e} {f} {ks} {ls} {fs} {gs} {x} p q r h =
    subst (λ (k : Entry). WasLaid width k ls gs x) p
    (subst (λ (l : KeptParts). WasLaid width e l gs x) q (subst (λ (g : List Bool). WasLaid width e ks g x) r h))

pub was_laid_at : (width : ℕ) (kept : Kept) (pss : List KeptParts) (fss : List (List Bool)) (xs : List Shown) (i : ℕ)
    (e : Entry) (ks : KeptParts) (fs : List Bool) (d : Shown) → WereLaid width kept pss fss xs
    → slice_get kept i ≡ Some e → slice_get pss i ≡ Some ks → slice_get fss i ≡ Some fs
    → WasLaid width e ks fs (slice_index_or xs i d)
was_laid_at width [] pss fss xs i e ks fs d h at parts flags = cc
was_laid_at width (k ∷ es) [] fss xs i e ks fs d h at parts flags = absurd h
was_laid_at width (k ∷ es) (l ∷ pss) [] xs i e ks fs d h at parts flags = absurd h
was_laid_at width (k ∷ es) (l ∷ pss) (g ∷ fss) [] i e ks fs d h at parts flags = absurd h
was_laid_at width (k ∷ es) (l ∷ pss) (g ∷ fss) (x ∷ xs) zero e ks fs d h at parts flags =
    was_by (same_Some k e at) (same_Some l ks parts) (same_Some g fs flags) h.0
was_laid_at width (k ∷ es) (l ∷ pss) (g ∷ fss) (x ∷ xs) (suc i) e ks fs d h at parts flags =
    was_laid_at width es pss fss xs i e ks fs d h.1 at parts flags

pub laid_set : (width : ℕ) (kept : Kept) (pss : List KeptParts) (fss : List (List Bool)) (xs : List Shown) (i : ℕ)
    (e : Entry) (ks : KeptParts) (fs : List Bool) (y : Shown) → WereLaid width kept pss fss xs
    → slice_get kept i ≡ Some e → slice_get pss i ≡ Some ks → slice_get fss i ≡ Some fs → WasLaid width e ks fs y
    → WereLaid width kept pss fss (slice_set xs i y)
laid_set width [] pss fss xs i e ks fs y h at parts flags is = cc
laid_set width (k ∷ es) [] fss xs i e ks fs y h at parts flags is = absurd h
laid_set width (k ∷ es) (l ∷ pss) [] xs i e ks fs y h at parts flags is = absurd h
laid_set width (k ∷ es) (l ∷ pss) (g ∷ fss) [] i e ks fs y h at parts flags is = absurd h
laid_set width (k ∷ es) (l ∷ pss) (g ∷ fss) (x ∷ xs) zero e ks fs y h at parts flags is =
    (was_by (sym (same_Some k e at)) (sym (same_Some l ks parts)) (sym (same_Some g fs flags)) is, h.1)
laid_set width (k ∷ es) (l ∷ pss) (g ∷ fss) (x ∷ xs) (suc i) e ks fs y h at parts flags is =
    (h.0, laid_set width es pss fss xs i e ks fs y h.1 at parts flags is)

-- ---- what is cached of one unit

-- the entry with this cached trace
pub entry_with : (kept : Kept) (i : ℕ) (o : Option WideTrace)
    → option_map (λ (e : Entry). e.trace) (slice_get kept i) ≡ Some o
    → (e : Entry) × (slice_get kept i ≡ Some e) × (e.trace ≡ o)
entry_with [] i o h = cc
entry_with (e ∷ es) zero o h = (e, refl, same_Some e.trace o h)
entry_with (e ∷ es) (suc i) o h = entry_with es i o h

pub entry_found : (kept : Kept) (i : ℕ) (u : DocUnit) (o : Option WideTrace)
    → option_map (λ (e : Entry). e.unit) (slice_get kept i) ≡ Some u
    → option_map (λ (e : Entry). e.trace) (slice_get kept i) ≡ Some o
    → slice_get kept i ≡ Some (record { unit = u; trace = o })
entry_found [] i u o h k = cc
entry_found (e ∷ es) zero u o h k =
    ap (λ v. Some (record { unit = v; trace = e.trace })) (same_Some e.unit u h)
    ∙ ap (λ t. Some (record { unit = u; trace = t })) (same_Some e.trace o k)
entry_found (e ∷ es) (suc i) u o h k = entry_found es i u o h k

pub there : {A : Type 0} (xs : List A) (i : ℕ) → i < length xs → (x : A) × (slice_get xs i ≡ Some x)
there [] i h = absurd (omega (arith, h))
there (x ∷ xs) zero h = (x, refl)
there (x ∷ xs) (suc i) h = there xs i (omega (arith, h))

pub entry_there : (kept : Kept) (i : ℕ) → i < length kept → (e : Entry) × (slice_get kept i ≡ Some e)
entry_there kept i h = there kept i h

-- something is cached of unit i, and of its parts
pub record HasUnit (b : Bridged) (i : ℕ) : Type 0 where
  pub entry : Entry
  pub parts : KeptParts
  pub flags : List Bool
  pub is : IsUnit b i entry parts flags

pub unit_there : (width : ℕ) (b : Bridged) (xs : List Shown) (i : ℕ)
    → WereLaid width b.kept b.parts b.part_flags xs → i < length b.kept → HasUnit b i
unit_there width b xs i h inside =
    let many = are_many width b.kept b.parts b.part_flags xs h in
    let e = there b.kept i inside in
    let ks = there b.parts i (omega (arith, many.parts, inside)) in
    let fs = there b.part_flags i (omega (arith, many.flags, inside)) in
    record {
      entry = e.0;
      parts = ks.0;
      flags = fs.0;
      is = record { entry = e.1; parts = ks.1; flags = fs.1 };
    }

-- another entry there is the same one
pub same_entry : {b : Bridged} {i : ℕ} (u : HasUnit b i) (e : Entry) → slice_get b.kept i ≡ Some e
    → IsUnit b i e u.parts u.flags
same_entry u e at = record { entry = at; parts = u.is.parts; flags = u.is.flags }

-- nothing else is
pub record IsSameUnit (e f : Entry) (ks ls : KeptParts) (fs gs : List Bool) : Type 0 where
  pub entry : e ≡ f
  pub parts : ks ≡ ls
  pub flags : fs ≡ gs

pub unit_once : (b : Bridged) (i : ℕ) (e f : Entry) (ks ls : KeptParts) (fs gs : List Bool) → IsUnit b i e ks fs
    → IsUnit b i f ls gs → IsSameUnit e f ks ls fs gs
unit_once b i e f ks ls fs gs h k = record {
  entry = same_Some e f (sym h.entry ∙ k.entry);
  parts = same_Some ks ls (sym h.parts ∙ k.parts);
  flags = same_Some fs gs (sym h.flags ∙ k.flags);
}

pub unit_found : (b : Bridged) (i : ℕ) (u : DocUnit) (o : Option WideTrace) (ks : KeptParts) (fs : List Bool)
    → option_map (λ (e : Entry). e.unit) (slice_get b.kept i) ≡ Some u
    → option_map (λ (e : Entry). e.trace) (slice_get b.kept i) ≡ Some o → slice_get b.parts i ≡ Some ks
    → slice_get b.part_flags i ≡ Some fs → IsUnit b i (record { unit = u; trace = o }) ks fs
unit_found b i u o ks fs unit trace parts flags =
    record { entry = entry_found b.kept i u o unit trace; parts = parts; flags = flags }

pub was_laid_here : {b : Bridged} {i : ℕ} {e : Entry} {ks : KeptParts} {fs : List Bool} → IsUnit b i e ks fs
    → (width : ℕ) (xs : List Shown) (d : Shown) → WereLaid width b.kept b.parts b.part_flags xs
    → WasLaid width e ks fs (slice_index_or xs i d)
was_laid_here {b} {i} {e} {ks} {fs} at width xs d laid =
    was_laid_at width b.kept b.parts b.part_flags xs i e ks fs d laid at.entry at.parts at.flags

pub laid_set_here : {b : Bridged} {i : ℕ} {e : Entry} {ks : KeptParts} {fs : List Bool} → IsUnit b i e ks fs
    → (width : ℕ) (xs : List Shown) (y : Shown) → WereLaid width b.kept b.parts b.part_flags xs
    → WasLaid width e ks fs y → WereLaid width b.kept b.parts b.part_flags (slice_set xs i y)
laid_set_here {b} {i} {e} {ks} {fs} at width xs y laid was =
    laid_set width b.kept b.parts b.part_flags xs i e ks fs y laid at.entry at.parts at.flags was

-- ---- one unit more

-- what laying out takes, by what is known to be the same
pub taking_by : (laid : Option Attrs) (a b : Attrs) (e d : Entry) (ks ls : KeptParts) (fs : List Bool)
    (ats : List LaidAt) → a ≡ b → e ≡ d → ks ≡ ls
    → (if is_before laid a then 0 else unit_items_anew a e ks fs ats)
    ≡ (if is_before laid b then 0 else unit_items_anew b d ls fs ats)
taking_by laid a b e d ks ls fs ats p q r =
    ap (λ c. if is_before laid c then 0 else unit_items_anew c e ks fs ats) p
    ∙ ap (λ k. if is_before laid b then 0 else unit_items_anew b k ks fs ats) q
    ∙ ap (λ l. if is_before laid b then 0 else unit_items_anew b d l fs ats) r

pub entry_is : (m : Moment) (e : Entry) → e.trace ≡ outcome_of m e.unit → e ≡ entry_at m e.unit
entry_is m e trace = ap (λ (t : Option WideTrace). record { unit = e.unit; trace = t }) trace

-- the premises are what the calls ensure, in their order
pub next_is : ((a : Attrs) → weight_of (shown_paragraphs a over_value) ≤ 49)
    → ((ps : List Paragraph) → length (flat_map (λ p. p.items) ps) ≤ weight_of ps) → (width : ℕ) (e : Entry)
    (ks : KeptParts) (fs : List Bool) (m after : Moment) (x y : Shown) (a : Attrs) (n : ℕ)
    → ((b : Attrs) → weight_of (shown_paragraphs b (unit_value e.trace)) ≤ 242 * size_of (plain (unit_value e.trace)))
    → e.trace ≡ outcome_of m e.unit → ks ≡ fresh_parts m e.unit → a ≡ attributes_of m.env
    → after ≡ behind m e.trace → IsPaid m after (unit_value e.trace) → WasLaid width e ks fs y → y.laid ≡ Some a
    → n ≡ (if is_before x.laid a then 0 else unit_items_anew a e ks fs (map laid_at x.parts))
    → n ≤ items_in (paragraphs_at e.unit.path a (unit_value e.trace))
    → IsNext width e ks fs m after x y n
next_is over law width e ks fs m after x y a n weight trace parts is_a is_after paid was is_laid is_n within =
    let b : Attrs = attributes_of m.env in
    let v : WideValue = unit_value e.trace in
    let laid_for : y.laid ≡ Some b = is_laid ∙ ap Some is_a in
    let here : IsLaidOut width b v e.unit.path y = was.laid.laid b laid_for in
    let few : items_in (paragraphs_at e.unit.path a v) ≤ weight_of (shown_paragraphs a v) =
    items_most (paragraphs_at e.unit.path a v) e.unit.path a v refl (law (shown_paragraphs a v)) in
    record {
      behind_is = is_after ∙ ap (behind m) trace;
      laid_out = here;
      attributes = laid_for;
      was_laid = was;
      lines = few_lines b v m after (length (unit_view y).lines) paid (weight b) (over b) here.few_lines;
      errors = few_errors v m after (length y.errors.items) paid here.few_errors;
      items_is =
          is_n
          ∙ taking_by x.laid a b e (entry_at m e.unit) ks (fresh_parts m e.unit) fs (map laid_at x.parts) is_a
          (entry_is m e trace) parts;
      most =
          omega (
            arith,
            few_lines a v m after n paid (weight a) (over a) (omega (arith, few, within)),
            paid.falls,
          );
    }

-- it holds of what is cached, since nothing else is cached there
pub next_by : {width : ℕ} {e f : Entry} {ks ls : KeptParts} {fs gs : List Bool} {m after : Moment} {x y : Shown} {n : ℕ}
    → IsSameUnit e f ks ls fs gs → IsNext width f ls gs m after x y n → IsNext width e ks fs m after x y n
next_by {width} {e} {f} {ks} {ls} {fs} {gs} {m} {after} {x} {y} {n} same h =
    subst (λ (k : Entry). IsNext width k ks fs m after x y n) (sym same.entry)
    (subst (λ (l : KeptParts). IsNext width f l fs m after x y n) (sym same.parts)
    (subst (λ (g : List Bool). IsNext width f ls g m after x y n) (sym same.flags) h))

at_seam : {A : Type 0} (xs ys : List A) (y : A) (i : ℕ) → length xs ≡ i → slice_get (xs ++ y ∷ ys) i ≡ Some y
at_seam [] ys y zero e = refl
at_seam [] ys y (suc i) e = absurd (omega (arith, e))
at_seam (x ∷ xs) ys y zero e = absurd (omega (arith, e))
at_seam (x ∷ xs) ys y (suc i) e = at_seam xs ys y i (omega (arith, e))

-- ---- up to unit i

-- At the moment before unit i. What was done, and what is left from here, are all.
pub record Onward (width : ℕ) (b : Bridged) (old now : List Shown) (i : ℕ) (m : Moment)
    (items before after : ℕ) : Type 0 where
  pub fresh : drop i b.kept ≡ fresh_from m (units_of (drop i b.kept))
  pub parts_fresh : drop i b.parts ≡ fresh_parts_from m (units_of (drop i b.kept))
  pub shown : (others : List UnitView) → AreShown width m (units_of (drop i b.kept)) others
      → AreShown width beginning (units_of b.kept) (unit_views (take i now) ++ others)
  pub attributes : laid_in (take i now) ++ attributes_from m (units_of (drop i b.kept))
      ≡ attributes_from beginning (units_of b.kept)
  pub steps : after + items_unlaid_from m (units_of (drop i b.kept)) (drop i b.part_flags) (drop i now)
      ≡ before + items_unlaid_from beginning (units_of b.kept) b.part_flags old
  pub items_is : items + items_unlaid_from m (units_of (drop i b.kept)) (drop i b.part_flags) (drop i now)
      ≡ items_unlaid_from beginning (units_of b.kept) b.part_flags old
  pub within : i ≤ length b.kept
  pub laid : WereLaid width b.kept b.parts b.part_flags now
  pub readable : All IsReadable now
  pub lines : length (lines_of (unit_views (take i now))) + 242 * m.left ≤ 242 * 16000000 + 49 * i
  pub errors : length (errors_of (unit_views (take i now))) + m.left ≤ 16000000 + 7 * i
  pub most : items + 243 * m.left ≤ 243 * 16000000 + 49 * i

pub begun : (width : ℕ) (b : Bridged) (old : List Shown) (m : Moment) (steps : ℕ) → m ≡ beginning
    → b.kept ≡ fresh_from beginning (units_of b.kept) → b.parts ≡ fresh_parts_from beginning (units_of b.kept)
    → WereLaid width b.kept b.parts b.part_flags old → All IsReadable old
    → Onward width b old old 0 m 0 steps steps
begun width b old m steps start fresh parts laid readable =
    subst (λ (k : Moment). Onward width b old old 0 k 0 steps steps) (sym start) (record {
      fresh = fresh;
      parts_fresh = parts;
      shown = λ others h. h;
      attributes = refl;
      steps = refl;
      items_is = omega arith;
      within = omega arith;
      laid = laid;
      readable = readable;
      lines = omega arith;
      errors = omega arith;
      most = omega arith;
    })

module _ (width : ℕ) (b : Bridged) (old now : List Shown) (i : ℕ) (m : Moment)
    (items before after : ℕ) (p : Onward width b old now i m items before after) (inside : i < length now)
    (d : Shown) (e : Entry) (ks : KeptParts) (fs : List Bool) (at : IsUnit b i e ks fs) where
  abbrev x : Shown
  x = slice_index_or now i d

  abbrev left : List Shown
  left = drop (i + 1) now

  abbrev rest : Kept
  rest = drop (i + 1) b.kept

  abbrev rest_parts : List KeptParts
  rest_parts = drop (i + 1) b.parts

  abbrev rest_flags : List (List Bool)
  rest_flags = drop (i + 1) b.part_flags

  abbrev behind_it : Moment
  behind_it = behind m (outcome_of m e.unit)

  here : drop i now ≡ x ∷ left
  here = drop_more now i d inside

  head : drop i b.kept ≡ e ∷ rest
  head = drop_item b.kept i e at.entry

  head_parts : drop i b.parts ≡ ks ∷ rest_parts
  head_parts = drop_item b.parts i ks at.parts

  head_flags : drop i b.part_flags ≡ fs ∷ rest_flags
  head_flags = drop_item b.part_flags i fs at.flags

  both_fresh : e ∷ rest ≡ entry_at m e.unit ∷ fresh_from behind_it (units_of rest)
  both_fresh = sym head ∙ p.fresh ∙ ap (λ es. fresh_from m (units_of es)) head

  both_parts : ks ∷ rest_parts ≡ fresh_parts m e.unit ∷ fresh_parts_from behind_it (units_of rest)
  both_parts = sym head_parts ∙ p.parts_fresh ∙ ap (λ es. fresh_parts_from m (units_of es)) head

  pub trace_is : e.trace ≡ outcome_of m e.unit
  trace_is =
      ap (λ k. k.trace)
      (heads e (entry_at m e.unit) rest (fresh_from behind_it (units_of rest)) both_fresh).0

  pub parts_are : ks ≡ fresh_parts m e.unit
  parts_are =
      (heads ks (fresh_parts m e.unit) rest_parts (fresh_parts_from behind_it (units_of rest)) both_parts).0

  rest_fresh : rest ≡ fresh_from behind_it (units_of rest)
  rest_fresh = (heads e (entry_at m e.unit) rest (fresh_from behind_it (units_of rest)) both_fresh).1

  rest_parts_fresh : rest_parts ≡ fresh_parts_from behind_it (units_of rest)
  rest_parts_fresh =
      (heads ks (fresh_parts m e.unit) rest_parts (fresh_parts_from behind_it (units_of rest)) both_parts).1

  -- the attributes for which it is to be laid out
  pub right_here : slice_get (attributes_from beginning (units_of b.kept)) i ≡ Some (Some (attributes_of m.env))
  right_here =
      ap (λ l. slice_get l i) (sym p.attributes
      ∙ ap (λ es. laid_in (take i now) ++ attributes_from m (units_of es)) head)
      ∙ at_seam (laid_in (take i now)) (attributes_from behind_it (units_of rest)) (Some (attributes_of m.env)) i
      (laid_as_many (take i now) ∙ length-take-le i now (omega (arith, inside)))

  pub laid_here : WasLaid width e ks fs (slice_index_or now i d)
  laid_here = was_laid_here at width now d p.laid

  module _ (y : Shown) (more after1 : ℕ) (m1 : Moment)
      (n : IsNext width e ks fs m m1 (slice_index_or now i d) y more)
      (is_after : after1 ≡ after + items_unlaid m e.unit fs (slice_index_or now i d))
      (can_read : IsReadable y) where
    abbrev new : List Shown
    new = slice_set now i y

    taken : take (i + 1) new ≡ take i now ++ y ∷ []
    taken = take_more_set now i y inside

    dropped : drop (i + 1) new ≡ left
    dropped = drop-set-lt (i + 1) now i y (omega arith)

    fresh_next : rest ≡ fresh_from m1 (units_of rest)
    fresh_next = rest_fresh ∙ ap (λ k. fresh_from k (units_of rest)) (sym n.behind_is)

    parts_next : rest_parts ≡ fresh_parts_from m1 (units_of rest)
    parts_next = rest_parts_fresh ∙ ap (λ k. fresh_parts_from k (units_of rest)) (sym n.behind_is)

    views_next : (others : List UnitView)
        → unit_views (take i now) ++ unit_view y ∷ others ≡ unit_views (take (i + 1) new) ++ others
    views_next others =
        sym (ap (λ xs. xs ++ others) (ap unit_views taken ∙ map_push unit_view (take i now) y)
        ∙ append_assoc (unit_views (take i now)) (unit_view y ∷ []) others)

    shown_next : (others : List UnitView) → AreShown width m1 (units_of rest) others
        → AreShown width beginning (units_of b.kept) (unit_views (take (i + 1) new) ++ others)
    shown_next others later =
        let one : IsShown width (attributes_of m.env) (unit_value (outcome_of m e.unit)) e.unit.path (unit_view y) =
        subst (λ (o : Option WideTrace).
        IsShown width (attributes_of m.env) (unit_value o) e.unit.path (unit_view y)) trace_is n.laid_out.shown in
        let after_it : AreShown width behind_it (units_of rest) others =
        subst (λ (k : Moment). AreShown width k (units_of rest) others) n.behind_is later in
        let both : AreShown width m (units_of (e ∷ rest)) (unit_view y ∷ others) = (one, after_it) in
        subst (λ (vs : List UnitView). AreShown width beginning (units_of b.kept) vs) (views_next others)
        (p.shown (unit_view y ∷ others)
        (subst (λ (es : Kept). AreShown width m (units_of es) (unit_view y ∷ others)) (sym head) both))

    attributes_next : laid_in (take (i + 1) new) ++ attributes_from m1 (units_of rest)
        ≡ attributes_from beginning (units_of b.kept)
    attributes_next =
        ap (λ xs. laid_in xs ++ attributes_from m1 (units_of rest)) taken
        ∙ ap (λ bs. bs ++ attributes_from m1 (units_of rest)) (map_push (λ (z : Shown). z.laid) (take i now) y)
        ∙ append_assoc (laid_in (take i now)) (y.laid ∷ []) (attributes_from m1 (units_of rest))
        ∙ ap (λ a. laid_in (take i now) ++ a ∷ attributes_from m1 (units_of rest)) n.attributes
        ∙ ap (λ k. laid_in (take i now) ++ Some (attributes_of m.env) ∷ attributes_from k (units_of rest)) n.behind_is
        ∙ ap (λ es. laid_in (take i now) ++ attributes_from m (units_of es)) (sym head) ∙ p.attributes

    unlaid_next : items_unlaid_from m (units_of (drop i b.kept)) (drop i b.part_flags) (drop i now)
        ≡ items_unlaid m e.unit fs x + items_unlaid_from m1 (units_of rest) rest_flags (drop (i + 1) new)
    unlaid_next =
        ap (λ es. items_unlaid_from m (units_of es) (drop i b.part_flags) (drop i now)) head
        ∙ ap (λ fss. items_unlaid_from m (units_of (e ∷ rest)) fss (drop i now)) head_flags
        ∙ ap (λ xs. items_unlaid_from m (units_of (e ∷ rest)) (fs ∷ rest_flags) xs) here
        ∙ ap (λ k. items_unlaid m e.unit fs x + items_unlaid_from k (units_of rest) rest_flags left) (sym n.behind_is)
        ∙ ap (λ xs. items_unlaid m e.unit fs x + items_unlaid_from m1 (units_of rest) rest_flags xs) (sym dropped)

    more_of : {A : Type 0} (g : UnitView → List A)
        → length (flat_map g (unit_views (take (i + 1) new)))
        ≡ length (flat_map g (unit_views (take i now))) + length (g (unit_view y))
    more_of g =
        ap (λ xs. length (flat_map g xs)) (ap unit_views taken ∙ map_push unit_view (take i now) y)
        ∙ ap length (flat_map-append g (unit_views (take i now)) (unit_view y ∷ [])
        ∙ ap (λ ys. flat_map g (unit_views (take i now)) ++ ys) (append-nil (g (unit_view y))))
        ∙ length-append (flat_map g (unit_views (take i now))) (g (unit_view y))

    pub next : Onward width b old (slice_set now i y) (i + 1) m1 (items + more) before after1
    next = record {
      fresh = fresh_next;
      parts_fresh = parts_next;
      shown = shown_next;
      attributes = attributes_next;
      steps = omega (arith, unlaid_next, is_after, p.steps);
      items_is = omega (arith, unlaid_next, n.items_is, p.items_is);
      within = omega (arith, inside, laid_many width b.kept b.parts b.part_flags now p.laid);
      laid = laid_set_here at width now y p.laid n.was_laid;
      readable = All-set IsReadable now i y can_read p.readable;
      lines = omega (arith, more_of (λ (z : UnitView). z.lines), n.lines, p.lines);
      errors = omega (arith, more_of placed_errors, as_many_errors (unit_view y), n.errors, p.errors);
      most = omega (arith, n.most, p.most);
    }

-- by what the calls ensure of whatever is cached of unit i
module _ {width : ℕ} {b : Bridged} {old now : List Shown} {i : ℕ} {m : Moment} {items before after : ℕ}
    (p : Onward width b old now i m items before after) (inside : i < length now) (d : Shown) where
  pub inside_kept : i < length b.kept
  inside_kept = omega (arith, inside, laid_many width b.kept b.parts b.part_flags now p.laid)

  pub unit_here : HasUnit b i
  unit_here = unit_there width b now i p.laid inside_kept

  pub right_there : slice_get (attributes_from beginning (units_of b.kept)) i ≡ Some (Some (attributes_of m.env))
  right_there =
      right_here width b old now i m items before after p inside d unit_here.entry unit_here.parts unit_here.flags
      unit_here.is

  pub next_all : {y : Shown} {more after1 : ℕ} {m1 : Moment}
      → ((e : Entry) (ks : KeptParts) (fs : List Bool) → IsUnit b i e ks fs
      → IsNext width e ks fs m m1 (slice_index_or now i d) y more)
      → ((e : Entry) (ks : KeptParts) (fs : List Bool) → IsUnit b i e ks fs
      → after1 ≡ after + items_unlaid m e.unit fs (slice_index_or now i d)) → IsReadable y
      → Onward width b old (slice_set now i y) (i + 1) m1 (items + more) before after1
  next_all {y} {more} {after1} {m1} nexts counted can_read =
      let u : HasUnit b i = unit_here in
      next width b old now i m items before after p inside d u.entry u.parts u.flags u.is y more after1 m1
      (nexts u.entry u.parts u.flags u.is) (counted u.entry u.parts u.flags u.is) can_read

-- all units are laid out
pub record Ended (width : ℕ) (b : Bridged) (old now : List Shown) (items before after : ℕ) : Type 0 where
  pub shown : AreShown width beginning (units_of b.kept) (unit_views now)
  pub attributes : laid_in now ≡ attributes_from beginning (units_of b.kept)
  pub lines : length (lines_of (unit_views now)) < 2 ^ 32
  pub errors : length (errors_of (unit_views now)) < 2 ^ 32
  pub steps : after ≡ before + items_unlaid_from beginning (units_of b.kept) b.part_flags old
  pub items_is : items ≡ items_unlaid_from beginning (units_of b.kept) b.part_flags old
  pub most : items < 2 ^ 40

pub ended : (width : ℕ) (b : Bridged) (old now : List Shown) (i : ℕ) (m : Moment)
    (items before after : ℕ) → Onward width b old now i m items before after → length now ≤ i
    → length b.kept < 2 ^ 23 → Ended width b old now items before after
ended width b old now i m items before after p past few =
    let many : length now ≡ length b.kept = laid_many width b.kept b.parts b.part_flags now p.laid in
    let whole : take i now ≡ now = take_all i now past in
    let none : drop i b.kept ≡ [] = drop_all i b.kept (omega (arith, past, many)) in
    let no_items : items_unlaid_from m (units_of (drop i b.kept)) (drop i b.part_flags) (drop i now) ≡ 0 =
    ap (λ es. items_unlaid_from m (units_of es) (drop i b.part_flags) (drop i now)) none in
    record {
      shown =
          subst (λ (vs : List UnitView). AreShown width beginning (units_of b.kept) vs)
          (append-nil (unit_views (take i now)) ∙ ap unit_views whole)
          (p.shown [] (subst (λ (es : Kept). AreShown width m (units_of es) []) (sym none) tt));
      attributes =
          sym (append-nil (laid_in now)) ∙ ap (λ xs. laid_in xs ++ []) (sym whole)
          ∙ ap (λ es. laid_in (take i now) ++ attributes_from m (units_of es)) (sym none) ∙ p.attributes;
      lines = omega (arith, ap (λ xs. length (lines_of (unit_views xs))) whole, p.lines, p.within, few);
      errors = omega (arith, ap (λ xs. length (errors_of (unit_views xs))) whole, p.errors, p.within, few);
      steps = omega (arith, no_items, p.steps);
      items_is = omega (arith, no_items, p.items_is);
      most = omega (arith, p.most, p.within, few);
    }
