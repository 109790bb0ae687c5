-- One unit alone is evaluated and laid out anew.
use Rattle.std.proofs.Common.{◌≡◌, ℕ, zero, suc, ◌<◌, ◌≤◌, List, [], ◌∷◌, length, map, slice_set, slice_index_or}
use Rattle.std.proofs.Common.{Bool, true, false, Option, Some, None, refl, ap, sym, subst, ◌∙◌, arith}
use Rattle.std.proofs.lemmas.Option.{same_Some}
use Rattle.std.proofs.lemmas.Bool.Decides.{Decides-int_eq}
use Rattle.std.proofs.lemmas.Slice.Eq.{bytes_eq-Decides}
use Rattle.std.specs.FinMap.{empty, get}
use Rattle.std.specs.Ordering.{int_eq}
use Rattle.std.specs.Str.{bytes_eq}
use Rattle.std.specs.Option.{unwrap_or}
use Rattle.std.specs.Prelude.{slice_get, if◌then◌else◌, ◌&&◌}
use Rattle.tx_view.proofs.Leaving.{from_along}
use Rattle.tx_bridge.proofs.Taking.{heads}
use Rattle.tx_env.specs.Environments.{NameMap}
use Rattle.tx_tree.specs.WideTree.{size_of}
use Rattle.tx_origin.specs.Values.{plain}
use Rattle.tx_origin.specs.TaggedTrees.{tagged_of}
use Rattle.tx_exec_form.specs.declared.TheConstants.{MOST_LEVELS}
use Rattle.tx_exec_form.specs.Evaluated.{WideTrace}
use Rattle.tx_units.specs.declared.kinds.Unit.{Unit as DocUnit}
use Rattle.tx_items.specs.declared.attributes.Attrs.{Attrs}
use Rattle.tx_view_form.specs.Outcomes.{Moment, beginning, behind, allowance, outcome, env_behind, unit_value}
use Rattle.tx_view_form.specs.Outcomes.{over_value}
use Rattle.tx_view_form.specs.Started.{attributes_of}
use Rattle.tx_view_form.specs.Views.{IsShown, AreShown}
use Rattle.tx_bridge.specs.Bridged.{Bridged}
use Rattle.tx_bridge.specs.Entries.{Entry, Kept, units_of, traces_of, fresh_from, outcome_of}
use Rattle.tx_bridge.specs.PartsKept.{KeptParts, fresh_parts, fresh_parts_from}
use Rattle.tx_bridge.proofs.Paying.{AllSmall}
use Rattle.tx_bridge.proofs.Used.{AllAllowed}
use Rattle.tx_unit_layout.specs.declared.shown.Shown.{Shown}
use Rattle.tx_unit_layout.specs.LaidAts.{laid_at, unit_items_anew}
use Rattle.tx_unit_layout.specs.LaidUnits.{IsLaidOut}
use Rattle.tx_view.specs.Costs.{entry_at, items_at}
use Rattle.tx_view.specs.Laid.{IsUnit, WereLaid, laid_in, items_unlaid_from, unlaid, without}
use Rattle.tx_view.specs.Lone.{attributes_along, IsLone, IsAlone}
use Rattle.tx_bridge.specs.Settled.{IsSilent}
use Rattle.tx_view.specs.Stores.{attributes_from}
use Rattle.tx_part_layout.specs.LaidParts.{same_attrs, is_before}
use Rattle.tx_view.specs.Units.{unit_views}
use Rattle.tx_unit_layout.specs.Views.{unit_view}
use Rattle.tx_view.proofs.Onward.{taking_by}

-- ---- attributes

same_all : (es ds : Kept) → length es ≡ length ds → ((k : ℕ) → k < length es → slice_get es k ≡ slice_get ds k)
    → es ≡ ds
same_all [] [] many h = refl
same_all [] (d ∷ ds) many h = absurd (omega (arith, many))
same_all (e ∷ es) [] many h = absurd (omega (arith, many))
same_all (e ∷ es) (d ∷ ds) many h =
    ap (λ x. x ∷ es) (same_Some e d (h 0 (omega arith)))
    ∙ ap (λ ys. d ∷ ys) (same_all es ds (omega (arith, many)) (λ k less. h (suc k) (omega (arith, less))))

along_same : (i : ℕ) (old new : Kept) (env : NameMap) → length old ≡ length new
    → ((k : ℕ) → k < length old → (k ≡ i → ⊥) → slice_get new k ≡ slice_get old k)
    → ((t : Option WideTrace) → slice_get (traces_of old) i ≡ Some t → IsSilent t)
    → ((t : Option WideTrace) → slice_get (traces_of new) i ≡ Some t → IsSilent t)
    → attributes_along env (traces_of new) ≡ attributes_along env (traces_of old)
along_same i [] [] env many same was is = refl
along_same i [] (e ∷ new) env many same was is = absurd (omega (arith, many))
along_same i (d ∷ old) [] env many same was is = absurd (omega (arith, many))
along_same zero (d ∷ old) (e ∷ new) env many same was is =
    ap (λ n. Some (attributes_of env) ∷ attributes_along n (traces_of new))
    (is e.trace refl env ∙ sym (was d.trace refl env))
    ∙ ap (λ es. Some (attributes_of env) ∷ attributes_along (env_behind env d.trace) (traces_of es))
    (same_all new old (omega (arith, many))
    (λ k less. same (suc k) (omega (arith, less, many)) (λ f. omega (arith, f))))
along_same (suc i) (d ∷ old) (e ∷ new) env many same was is =
    ap (λ (x : Entry). Some (attributes_of env) ∷ attributes_along (env_behind env x.trace) (traces_of new))
    (same_Some e d (same 0 (omega arith) (λ f. omega (arith, f))))
    ∙ ap (λ as_laid. Some (attributes_of env) ∷ as_laid)
    (along_same i old new (env_behind env d.trace) (omega (arith, many))
    (λ k less other. same (suc k) (omega (arith, less)) (λ f. other (omega (arith, f)))) was is)

none_silent : (o : Option (Option WideTrace)) (t : Option WideTrace) → o ≡ Some None → o ≡ Some t → IsSilent t
none_silent o t e f env = ap (env_behind env) (sym (same_Some None t (sym e ∙ f)))

-- where the unit that alone was evaluated anew sets no name, the attributes before all are those for which they were
-- laid out
pub still_along : (i n : ℕ) (old new : Kept) (flags : List Bool) (xs : List Shown) (a : Attrs) (t : WideTrace)
    → IsLone old xs i a → IsAlone i n old new flags → n ≡ length old → units_of new ≡ units_of old
    → length old ≡ length new → new ≡ fresh_from beginning (units_of new)
    → slice_get (traces_of new) i ≡ Some (Some t) → IsSilent (Some t)
    → slice_set (laid_in xs) i (Some a) ≡ attributes_from beginning (units_of new)
still_along i n old new flags xs a t lone alone is_n same many fresh at quiet =
    lone.attributes
    ∙ sym (along_same i old new empty many (λ k less other. alone.stays k (omega (arith, less, is_n)) other)
    (λ o there. none_silent (slice_get (traces_of old) i) o lone.nothing_kept there)
    (λ o there. subst IsSilent (same_Some (Some t) o (sym at ∙ there)) quiet))
    ∙ ap (λ es. attributes_along empty (traces_of es)) fresh ∙ sym (from_along beginning (units_of new))

-- ---- what is laid out

flag_off : (f : Bool) (x : Shown) → x.laid ≡ None → unlaid f x ≡ x
flag_off true x none = ap (λ l. record x { laid = l }) (sym none)
flag_off false x none = refl

without_none : (fs : List Bool) (xs : List Shown)
    → ((k : ℕ) → k < length xs → unwrap_or (slice_get fs k) false ≡ false) → without fs xs ≡ xs
without_none [] xs off = refl
without_none (f ∷ fs) [] off = refl
without_none (f ∷ fs) (x ∷ xs) off =
    ap (λ g. unlaid g x ∷ without fs xs) (off 0 (omega arith))
    ∙ ap (λ ys. x ∷ ys) (without_none fs xs (λ k less. off (suc k) (omega (arith, less))))

pub without_alone : (i : ℕ) (fs : List Bool) (xs : List Shown)
    → ((k : ℕ) → k < length xs → (k ≡ i → ⊥) → unwrap_or (slice_get fs k) false ≡ false)
    → slice_get (laid_in xs) i ≡ Some None → without fs xs ≡ xs
without_alone i [] xs off none = refl
without_alone i (f ∷ fs) [] off none = refl
without_alone zero (f ∷ fs) (x ∷ xs) off none =
    ap (λ y. y ∷ without fs xs) (flag_off f x (same_Some x.laid None none))
    ∙ ap (λ ys. x ∷ ys)
    (without_none fs xs (λ k less. off (suc k) (omega (arith, less)) (λ e. omega (arith, e))))
without_alone (suc i) (f ∷ fs) (x ∷ xs) off none =
    ap (λ g. unlaid g x ∷ without fs xs) (off 0 (omega arith) (λ e. omega (arith, e)))
    ∙ ap (λ ys. x ∷ ys)
    (without_alone i fs xs (λ k less other. off (suc k) (omega (arith, less)) (λ e. other (omega (arith, e)))) none)

-- units that are laid out for the attributes before them are shown
pub shown_from : (width : ℕ) (m : Moment) (kept : Kept) (pss : List KeptParts) (fss : List (List Bool))
    (xs : List Shown) → WereLaid width kept pss fss xs → kept ≡ fresh_from m (units_of kept)
    → laid_in xs ≡ attributes_from m (units_of kept) → AreShown width m (units_of kept) (unit_views xs)
shown_from width m [] [] [] [] laid fresh is = tt
shown_from width m [] [] [] (x ∷ xs) laid fresh is = absurd laid
shown_from width m [] [] (fs ∷ fss) xs laid fresh is = absurd laid
shown_from width m [] (ks ∷ pss) fss xs laid fresh is = absurd laid
shown_from width m (e ∷ es) [] fss xs laid fresh is = absurd laid
shown_from width m (e ∷ es) (ks ∷ pss) [] xs laid fresh is = absurd laid
shown_from width m (e ∷ es) (ks ∷ pss) (fs ∷ fss) [] laid fresh is = absurd laid
shown_from width m (e ∷ es) (ks ∷ pss) (fs ∷ fss) (x ∷ xs) laid fresh is =
    let next : Moment = behind m (outcome_of m e.unit) in
    let one = heads e (entry_at m e.unit) es (fresh_from next (units_of es)) fresh in
    let two = heads x.laid (Some (attributes_of m.env)) (laid_in xs) (attributes_from next (units_of es)) is in
    let out : IsLaidOut width (attributes_of m.env) (unit_value e.trace) e.unit.path x =
    laid.0.laid.laid (attributes_of m.env) two.0 in
    let trace : e.trace ≡ outcome_of m e.unit = ap (λ (k : Entry). k.trace) one.0 in (
      subst (λ (o : Option WideTrace). IsShown width (attributes_of m.env) (unit_value o) e.unit.path
          (unit_view x)) trace
          out.shown,
      shown_from width next es pss fss xs laid.1 one.1 two.1,
    )

-- what is left to do then
pub record IsReady (kept : Kept) (xs : List Shown) (i : ℕ) (a : Attrs) : Type 0 where
  pub nothing_laid : slice_get (laid_in xs) i ≡ Some None
  pub attributes : slice_set (laid_in xs) i (Some a) ≡ attributes_from beginning (units_of kept)

pub ready_is : (i : ℕ) (old new : Kept) (flags : List Bool) (olds xs : List Shown) (a : Attrs)
    (t : (t : WideTrace) × (slice_get (traces_of new) i ≡ Some (Some t)) × IsSilent (Some t)) → IsLone old olds i a
    → IsAlone i (length olds) old new flags → length olds ≡ length old → units_of new ≡ units_of old
    → length old ≡ length new → new ≡ fresh_from beginning (units_of old) → xs ≡ without flags olds
    → IsReady new xs i a
ready_is i old new flags olds xs a t lone alone many same as_many fresh is =
    subst (λ (ys : List Shown). IsReady new ys i a)
    (sym (is ∙ without_alone i flags olds alone.no_flag lone.nothing_laid)) (record {
      nothing_laid = lone.nothing_laid;
      attributes =
          still_along i (length olds) old new flags olds a t.0 lone alone many same as_many
          (fresh ∙ ap (fresh_from beginning) (sym same)) t.1 t.2;
    })

-- ---- what it takes

texts_same : (xs : List ℕ) → bytes_eq xs xs ≡ true
texts_same xs = (bytes_eq-Decides xs xs).1 refl

attrs_same : (a : Attrs) → same_attrs a a ≡ true
attrs_same a =
    ap (λ b. b && int_eq a.right a.right && int_eq a.first a.first && bytes_eq a.series a.series
    && bytes_eq a.shape a.shape && bytes_eq a.color a.color && bytes_eq a.mode a.mode)
    ((Decides-int_eq a.left a.left).1 refl)
    ∙ ap (λ b. b && int_eq a.first a.first && bytes_eq a.series a.series
    && bytes_eq a.shape a.shape && bytes_eq a.color a.color && bytes_eq a.mode a.mode)
    ((Decides-int_eq a.right a.right).1 refl)
    ∙ ap (λ b. b && bytes_eq a.series a.series && bytes_eq a.shape a.shape && bytes_eq a.color a.color
    && bytes_eq a.mode a.mode) ((Decides-int_eq a.first a.first).1 refl)
    ∙ ap (λ b. b && bytes_eq a.shape a.shape && bytes_eq a.color a.color && bytes_eq a.mode a.mode)
    (texts_same a.series)
    ∙ ap (λ b. b && bytes_eq a.color a.color && bytes_eq a.mode a.mode) (texts_same a.shape)
    ∙ ap (λ b. b && bytes_eq a.mode a.mode) (texts_same a.color) ∙ texts_same a.mode

laid_for_itself : (laid : Option Attrs) (a : Attrs) (n : ℕ) → laid ≡ Some a
    → (if is_before laid a then 0 else n) ≡ 0
laid_for_itself laid a n is =
    ap (λ (o : Option Attrs). if is_before o a then 0 else n) is ∙ ap (λ b. if b then 0 else n) (attrs_same a)

pub all_laid : (m : Moment) (us : List DocUnit) (fss : List (List Bool)) (xs : List Shown)
    → laid_in xs ≡ attributes_from m us → items_unlaid_from m us fss xs ≡ 0
all_laid m [] fss xs is = refl
all_laid m (u ∷ us) [] xs is = refl
all_laid m (u ∷ us) (fs ∷ fss) [] is = refl
all_laid m (u ∷ us) (fs ∷ fss) (x ∷ xs) is =
    let next : Moment = behind m (outcome_of m u) in
    let two = heads x.laid (Some (attributes_of m.env)) (laid_in xs) (attributes_from next us) is in
    omega (
      arith,
      laid_for_itself x.laid (attributes_of m.env) (items_at m u fs (map laid_at x.parts)) two.0,
      all_laid next us fss xs two.1,
    )

not_laid : (laid : Option Attrs) (a : Attrs) (n : ℕ) → laid ≡ None → (if is_before laid a then 0 else n) ≡ n
not_laid laid a n none = ap (λ (o : Option Attrs). if is_before o a then 0 else n) none

-- What the one unit takes that isn't laid out, before which the attributes are a. These are its parts with their flags.
one_laid : (m : Moment) (kept : Kept) (pss : List KeptParts) (fss : List (List Bool)) (i : ℕ) (e : Entry)
    (ks : KeptParts) (fs : List Bool) (xs : List Shown) (d : Shown) (a : Attrs) → kept ≡ fresh_from m (units_of kept)
    → pss ≡ fresh_parts_from m (units_of kept) → slice_get kept i ≡ Some e → slice_get pss i ≡ Some ks
    → slice_get fss i ≡ Some fs → slice_get (laid_in xs) i ≡ Some None
    → slice_set (laid_in xs) i (Some a) ≡ attributes_from m (units_of kept)
    → items_unlaid_from m (units_of kept) fss xs ≡ unit_items_anew a e ks fs (map laid_at (slice_index_or xs i d).parts)
one_laid m [] pss fss i e ks fs xs d a fresh anew at parts flags none is = cc
one_laid m (k ∷ es) [] fss i e ks fs xs d a fresh anew at parts flags none is = cc
one_laid m (k ∷ es) (l ∷ pss) [] i e ks fs xs d a fresh anew at parts flags none is = cc
one_laid m (k ∷ es) (l ∷ pss) (g ∷ fss) i e ks fs [] d a fresh anew at parts flags none is = cc
one_laid m (k ∷ es) (l ∷ pss) (g ∷ fss) zero e ks fs (x ∷ xs) d a fresh anew at parts flags none is =
    let next : Moment = behind m (outcome_of m k.unit) in
    let one = heads k (entry_at m k.unit) es (fresh_from next (units_of es)) fresh in
    let two = heads (Some a) (Some (attributes_of m.env)) (laid_in xs) (attributes_from next (units_of es)) is in
    let three = heads l (fresh_parts m k.unit) pss (fresh_parts_from next (units_of es)) anew in
    let here : (if is_before x.laid (attributes_of m.env) then 0 else items_at m k.unit g (map laid_at x.parts))
    ≡ items_at m k.unit g (map laid_at x.parts) =
    not_laid x.laid (attributes_of m.env) (items_at m k.unit g (map laid_at x.parts)) (same_Some x.laid None none) in
    let items : items_at m k.unit g (map laid_at x.parts) ≡ unit_items_anew a e ks fs (map laid_at x.parts) =
    sym (taking_by None a (attributes_of m.env) e (entry_at m k.unit) ks (fresh_parts m k.unit) g (map laid_at x.parts)
    (same_Some a (attributes_of m.env) two.0) (sym (same_Some k e at) ∙ one.0) (sym (same_Some l ks parts) ∙ three.0))
    ∙ ap (λ f. unit_items_anew a e ks f (map laid_at x.parts)) (same_Some g fs flags) in
    omega (arith, here, items, all_laid next (units_of es) fss xs two.1)
one_laid m (k ∷ es) (l ∷ pss) (g ∷ fss) (suc i) e ks fs (x ∷ xs) d a fresh anew at parts flags none is =
    let next : Moment = behind m (outcome_of m k.unit) in
    let one = heads k (entry_at m k.unit) es (fresh_from next (units_of es)) fresh in
    let two = heads x.laid (Some (attributes_of m.env)) (slice_set (laid_in xs) i (Some a))
    (attributes_from next (units_of es)) is in
    let three = heads l (fresh_parts m k.unit) pss (fresh_parts_from next (units_of es)) anew in
    omega (
      arith,
      laid_for_itself x.laid (attributes_of m.env) (items_at m k.unit g (map laid_at x.parts)) two.0,
      one_laid next es pss fss i e ks fs xs d a one.1 three.1 at parts flags none two.1,
    )

-- the items to lay out, of the unit that is cached at this number
pub takes_alone : {b : Bridged} {i : ℕ} {e : Entry} {ks : KeptParts} {fs : List Bool} → IsUnit b i e ks fs
    → (xs : List Shown) (d : Shown) (a : Attrs) → b.kept ≡ fresh_from beginning (units_of b.kept)
    → b.parts ≡ fresh_parts_from beginning (units_of b.kept) → slice_get (laid_in xs) i ≡ Some None
    → slice_set (laid_in xs) i (Some a) ≡ attributes_from beginning (units_of b.kept)
    → items_unlaid_from beginning (units_of b.kept) b.part_flags xs
    ≡ unit_items_anew a e ks fs (map laid_at (slice_index_or xs i d).parts)
takes_alone {b} {i} {e} {ks} {fs} at xs d a fresh anew none is =
    one_laid beginning b.kept b.parts b.part_flags i e ks fs xs d a fresh anew at.entry at.parts at.flags none is

-- ---- an outcome is small

-- at some moment the unit evaluates to what is cached of it
at_moment : (m : Moment) (kept : Kept) (pss : List KeptParts) (i : ℕ) (e : Entry) (ks : KeptParts)
    → kept ≡ fresh_from m (units_of kept) → pss ≡ fresh_parts_from m (units_of kept) → slice_get kept i ≡ Some e
    → slice_get pss i ≡ Some ks → (n : Moment) × (e.trace ≡ outcome_of n e.unit) × (ks ≡ fresh_parts n e.unit)
at_moment m [] pss i e ks fresh anew at parts = cc
at_moment m (k ∷ es) [] i e ks fresh anew at parts = cc
at_moment m (k ∷ es) (l ∷ pss) zero e ks fresh anew at parts =
    let next : Moment = behind m (outcome_of m k.unit) in
    let one = heads k (entry_at m k.unit) es (fresh_from next (units_of es)) fresh in
    let two = heads l (fresh_parts m k.unit) pss (fresh_parts_from next (units_of es)) anew in (
      m,
      subst (λ (x : Entry). x.trace ≡ outcome_of m x.unit) (same_Some k e at) (ap (λ (x : Entry). x.trace) one.0),
      sym (same_Some l ks parts) ∙ two.0 ∙ ap (λ (x : Entry). fresh_parts m x.unit) (same_Some k e at),
    )
at_moment m (k ∷ es) (l ∷ pss) (suc i) e ks fresh anew at parts =
    let next : Moment = behind m (outcome_of m k.unit) in
    let one = heads k (entry_at m k.unit) es (fresh_from next (units_of es)) fresh in
    let two = heads l (fresh_parts m k.unit) pss (fresh_parts_from next (units_of es)) anew in
    at_moment next es pss i e ks one.1 two.1 at parts

pub comes_to : {b : Bridged} {i : ℕ} {e : Entry} {ks : KeptParts} {fs : List Bool} → IsUnit b i e ks fs
    → b.kept ≡ fresh_from beginning (units_of b.kept) → b.parts ≡ fresh_parts_from beginning (units_of b.kept)
    → (n : Moment) × (e.trace ≡ outcome_of n e.unit) × (ks ≡ fresh_parts n e.unit)
comes_to {b} {i} {e} {ks} {fs} at fresh anew =
    at_moment beginning b.kept b.parts i e ks fresh anew at.entry at.parts

pub small_value : AllSmall → AllAllowed → (m : Moment) (u : DocUnit) (o : Option WideTrace) → o ≡ outcome_of m u
    → size_of (plain (unit_value o)) ≤ 1000000
unfolding outcome
small_value small allowed m u None e =
    let seven : size_of (plain over_value) ≡ 7 = refl in omega (arith, seven)
small_value small allowed m u (Some trace) e =
    let fits = (small MOST_LEVELS (allowance m) (tagged_of u.tagged) (get m.env) trace (sym e)).0 in
    let most = (allowed MOST_LEVELS (allowance m) (tagged_of u.tagged) (get m.env) trace (sym e)).0 in
    omega (arith, fits, most)
