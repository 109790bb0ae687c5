-- An edit of one unit that sets no name leaves the attributes before all units.
use Rattle.std.proofs.Common.{◌≡◌, ℕ, zero, suc, ◌+◌, ◌<◌, List, [], ◌∷◌, length, slice_set, slice_index_or}
use Rattle.std.proofs.Common.{Bool, true, false, Option, Some, None, refl, ap, sym, subst, ◌∙◌, arith}
use Rattle.std.proofs.lemmas.Option.{same_Some, slice_get_within, slice_get-get_or, slice_get-map}
use Rattle.std.specs.FinMap.{empty}
use Rattle.std.specs.List.{All}
use Rattle.std.specs.Option.{option_map}
use Rattle.std.specs.Prelude.{slice_get, ◌==◌, if◌then◌else◌, IfSome}
use Rattle.tx_tree.specs.WideTree.{WideTree}
use Rattle.tx_env.specs.Environments.{NameMap}
use Rattle.tx_exec_form.specs.Evaluated.{WideTrace}
use Rattle.tx_mod.specs.declared.mods.Mod.{Mod}
use Rattle.tx_units.specs.declared.kinds.Unit.{Unit as DocUnit}
use Rattle.tx_units.specs.Units.{units}
use Rattle.tx_items.specs.declared.attributes.Attrs.{Attrs}
use Rattle.tx_layout.specs.Paging.{Unmarked}
use Rattle.tx_view_form.specs.Outcomes.{Moment, beginning, behind, env_behind}
use Rattle.tx_view_form.specs.Started.{attributes_of}
use Rattle.tx_bridge.specs.Entries.{Entry, Kept, units_of, traces_of, fresh_from, outcome_of}
use Rattle.tx_bridge.specs.Carrying.{had, taken_from}
use Rattle.tx_bridge.specs.InPlace.{numbers_but}
use Rattle.tx_bridge.specs.Names.{Sources, CarryTraces as CarryKept}
use Rattle.tx_bridge.specs.PartsKept.{KeptParts}
use Rattle.tx_view.specs.declared.carrying.Former.{Former}
use Rattle.tx_view.specs.declared.carrying.Target.{Target}
use Rattle.tx_view.specs.declared.carrying.Target.TheVariants.{InPlace}
use Rattle.tx_unit_layout.specs.Moving.{PartPlaces}
use Rattle.tx_unit_layout.specs.declared.shown.Shown.{Shown}
use Rattle.tx_view.specs.declared.view.View.TheInside.{Inside}
use Rattle.tx_view.specs.Laid.{AreLaid, laid_in, StayBut, WasShown, IsTarget, HasGone, SetNoName, IsFormer}
use Rattle.tx_view.specs.Laid.{ToldPlaces}
use Rattle.tx_view.specs.Lone.{attributes_along, IsLone}
use Rattle.tx_bridge.specs.Settled.{IsSilent}
use Rattle.tx_view.specs.Names.{Fresh}
use Rattle.tx_view.specs.Stores.{attributes_from}
use Rattle.tx_view.specs.Units.{unit_views}
use Rattle.tx_unit_layout.specs.Views.{unit_view}
use Rattle.tx_view.specs.WholeViews.{IsKept, all_of}
use Rattle.tx_view.proofs.Numbers.{not_equal, are_equal, AreFrom, from_first}
use Rattle.tx_view.proofs.Staying.{had_here, laid_many, stays_same}
use Rattle.tx_view.proofs.Staying.{stays_left, stay_behind}

-- for which attributes a unit was laid out
pub laid_there : (xs : List Shown) (i : ℕ) (x : Shown) (a : Attrs) → slice_get xs i ≡ Some x → x.laid ≡ Some a
    → slice_get (laid_in xs) i ≡ Some (Some a)
laid_there xs i x a at is =
    slice_get-map (λ (y : Shown). y.laid) xs i ∙ ap (option_map (λ (y : Shown). y.laid)) at ∙ ap Some is

-- for these it was laid out, and what of its lines is said
pub was_shown : (xs : List Shown) (i : ℕ) (d : Shown) (o : Option Attrs) (a : Attrs) (b : Bool) → i < length xs
    → o ≡ (slice_index_or xs i d).laid → o ≡ Some a
    → (b ≡ true → All Unmarked (unit_view (slice_index_or xs i d)).lines)
    → WasShown xs i (record { unit = i; attrs = a; unmarked = b })
was_shown xs i d o a b inside is some unmarked = record {
  number = refl;
  shown = slice_index_or xs i d;
  there = slice_get-get_or xs i d inside;
  laid = sym is ∙ some;
  unmarked = unmarked;
}

-- the unit that has changed alone, where the view was fresh
pub former_told : (to : Target) (fresh silent : Bool) (old : List Shown) (i : ℕ) (ps : ToldPlaces)
    (was told : Option Former) → to ≡ InPlace i silent ps → IfSome was (λ f. WasShown old i f)
    → IfSome told (λ f. (silent ≡ true) × (fresh ≡ true) × (was ≡ Some f)) → IfSome told (λ f. IsFormer to fresh old f)
former_told to fresh silent old i ps was None is shown h = tt
former_told to fresh silent old i ps was (Some f) is shown h =
    let w : WasShown old i f = subst (λ (o : Option Former). IfSome o (λ g. WasShown old i g)) h.2 shown in
    record {
      places = ps;
      target = is ∙ ap (λ b. InPlace i b ps) h.0 ∙ ap (λ k. InPlace k true ps) (sym w.number);
      was_fresh = h.1;
      was = subst (λ k. WasShown old k f) (sym w.number) w;
    }

-- ---- what is unchanged of what is shown

put_back : (ps : PartPlaces) (i k j : ℕ) (a : Attrs) (ys xs : List Shown) → i ≡ k + j → StayBut ps i k ys xs
    → slice_get (laid_in ys) j ≡ Some (Some a) → slice_set (laid_in xs) j (Some a) ≡ laid_in ys
put_back ps i k j a [] xs e h at = cc
put_back ps i k j a (y ∷ ys) [] e h at = absurd h
put_back ps i k zero a (y ∷ ys) (x ∷ xs) e h at =
    ap (λ b. b ∷ laid_in xs) (sym (same_Some y.laid (Some a) at))
    ∙ ap (λ zs. y.laid ∷ laid_in zs) (stay_behind ps i (k + 1) ys xs (omega (arith, e)) h.1)
put_back ps i k (suc j) a (y ∷ ys) (x ∷ xs) e h at =
    ap (λ (z : Shown). z.laid ∷ slice_set (laid_in xs) j (Some a))
    (stays_same ps y x (k == i) (not_equal k i (λ f. omega (arith, e, f))) h.0)
    ∙ ap (λ bs. y.laid ∷ bs) (put_back ps i (k + 1) j a ys xs (omega (arith, e)) h.1 at)

unlaid_there : (ps : PartPlaces) (i k j : ℕ) (o : Option Attrs) (ys xs : List Shown) → i ≡ k + j
    → StayBut ps i k ys xs → slice_get (laid_in ys) j ≡ Some o → slice_get (laid_in xs) j ≡ Some None
unlaid_there ps i k j o [] xs e h at = cc
unlaid_there ps i k j o (y ∷ ys) [] e h at = absurd h
unlaid_there ps i k zero o (y ∷ ys) (x ∷ xs) e h at =
    ap (λ (z : Shown). Some z.laid) (stays_left ps y x (k == i) (are_equal k i (omega (arith, e))) h.0)
unlaid_there ps i k (suc j) o (y ∷ ys) (x ∷ xs) e h at =
    unlaid_there ps i (k + 1) j o ys xs (omega (arith, e)) h.1 at

-- what units show is unchanged until they are laid out anew, but for that of the unit that has changed
pub views_but : (ps : PartPlaces) (i k j : ℕ) (d : Shown) (ys xs : List Shown) → i ≡ k + j → StayBut ps i k ys xs
    → slice_get ys j ≡ Some d → slice_set (unit_views xs) j (unit_view d) ≡ unit_views ys
views_but ps i k j d [] xs e h at = cc
views_but ps i k j d (y ∷ ys) [] e h at = absurd h
views_but ps i k zero d (y ∷ ys) (x ∷ xs) e h at =
    ap (λ z. unit_view z ∷ unit_views xs) (sym (same_Some y d at))
    ∙ ap (λ zs. unit_view y ∷ unit_views zs) (stay_behind ps i (k + 1) ys xs (omega (arith, e)) h.1)
views_but ps i k (suc j) d (y ∷ ys) (x ∷ xs) e h at =
    ap (λ z. unit_view z ∷ slice_set (unit_views xs) j (unit_view d))
    (stays_same ps y x (k == i) (not_equal k i (λ f. omega (arith, e, f))) h.0)
    ∙ ap (λ us. unit_view y ∷ us) (views_but ps i (k + 1) j d ys xs (omega (arith, e)) h.1 at)

as_many_stay : (ps : PartPlaces) (i k : ℕ) (ys xs : List Shown) → StayBut ps i k ys xs → length xs ≡ length ys
as_many_stay ps i k [] [] h = refl
as_many_stay ps i k [] (x ∷ xs) h = absurd h
as_many_stay ps i k (y ∷ ys) [] h = absurd h
as_many_stay ps i k (y ∷ ys) (x ∷ xs) h = ap suc (as_many_stay ps i (k + 1) ys xs h.1)

as_many_views : (xs : List Shown) → length (unit_views xs) ≡ length xs
as_many_views [] = refl
as_many_views (x ∷ xs) = ap suc (as_many_views xs)

-- there is a view of that unit
pub view_there : (ps : PartPlaces) (i : ℕ) (d : Shown) (ys xs : List Shown) → StayBut ps i 0 ys xs
    → slice_get ys i ≡ Some d → i < length (unit_views xs)
view_there ps i d ys xs h at =
    omega (arith, slice_get_within ys i d at, as_many_stay ps i 0 ys xs h, as_many_views xs)

-- ---- what is cached

abbrev taken : ℕ → ℕ → List (Option WideTrace) → List DocUnit → List (Option WideTrace)
taken i k all vs = traces_of (taken_from all (numbers_but i k (length vs)) vs)

had_but : (all : List (Option WideTrace)) (k : ℕ) (t : Option WideTrace) (c : Bool) → c ≡ false
    → slice_get all k ≡ Some t → had all (if c then None else Some k) ≡ t
had_but all k t true e at = cc
had_but all k t false e at = had_here all k t false at

had_none : (all : List (Option WideTrace)) (k : ℕ) (c : Bool) → c ≡ true → had all (if c then None else Some k) ≡ None
had_none all k true e = refl
had_none all k false e = cc

kept_behind : (i k : ℕ) (all ts : List (Option WideTrace)) (vs : List DocUnit) → i < k → AreFrom all k ts
    → length ts ≡ length vs → taken i k all vs ≡ ts
kept_behind i k all [] [] less from many = refl
kept_behind i k all [] (v ∷ vs) less from many = absurd (omega (arith, many))
kept_behind i k all (t ∷ ts) [] less from many = absurd (omega (arith, many))
kept_behind i k all (t ∷ ts) (v ∷ vs) less from many =
    ap (λ o. o ∷ taken i (k + 1) all vs)
    (had_but all k t (k == i) (not_equal k i (λ e. omega (arith, e, less))) (from 0 k (omega arith)))
    ∙ ap (λ os. t ∷ os)
    (kept_behind i (k + 1) all ts vs (omega (arith, less)) (λ n m f. from (suc n) m (omega (arith, f)))
    (omega (arith, many)))

along_but : (i k j : ℕ) (all ts : List (Option WideTrace)) (vs : List DocUnit) (env : NameMap) → i ≡ k + j
    → AreFrom all k ts → length ts ≡ length vs
    → ((t : Option WideTrace) → slice_get ts j ≡ Some t → IsSilent t)
    → attributes_along env (taken i k all vs) ≡ attributes_along env ts
along_but i k j all [] [] env e from many silent = refl
along_but i k j all [] (v ∷ vs) env e from many silent = absurd (omega (arith, many))
along_but i k j all (t ∷ ts) [] env e from many silent = absurd (omega (arith, many))
along_but i k zero all (t ∷ ts) (v ∷ vs) env e from many silent =
    ap (λ o. Some (attributes_of env) ∷ attributes_along (env_behind env o) (taken i (k + 1) all vs))
    (had_none all k (k == i) (are_equal k i (omega (arith, e))))
    ∙ ap (λ os. Some (attributes_of env) ∷ attributes_along env os)
    (kept_behind i (k + 1) all ts vs (omega (arith, e)) (λ n m f. from (suc n) m (omega (arith, f)))
    (omega (arith, many)))
    ∙ ap (λ n. Some (attributes_of env) ∷ attributes_along n ts) (sym (silent t refl env))
along_but i k (suc j) all (t ∷ ts) (v ∷ vs) env e from many silent =
    ap (λ o. Some (attributes_of env) ∷ attributes_along (env_behind env o) (taken i (k + 1) all vs))
    (had_but all k t (k == i) (not_equal k i (λ f. omega (arith, e, f))) (from 0 k (omega arith)))
    ∙ ap (λ as_laid. Some (attributes_of env) ∷ as_laid)
    (along_but i (k + 1) j all ts vs (env_behind env t) (omega (arith, e))
    (λ n m f. from (suc n) m (omega (arith, f))) (omega (arith, many)) silent)

nothing_there : (i k j : ℕ) (all : List (Option WideTrace)) (vs : List DocUnit) → i ≡ k + j → j < length vs
    → slice_get (taken i k all vs) j ≡ Some None
nothing_there i k j all [] e inside = absurd (omega (arith, inside))
nothing_there i k zero all (v ∷ vs) e inside = ap Some (had_none all k (k == i) (are_equal k i (omega (arith, e))))
nothing_there i k (suc j) all (v ∷ vs) e inside =
    nothing_there i (k + 1) j all vs (omega (arith, e)) (omega (arith, inside))

-- ---- an edit

pub from_along : (m : Moment) (us : List DocUnit)
    → attributes_from m us ≡ attributes_along m.env (traces_of (fresh_from m us))
from_along m [] = refl
from_along m (u ∷ us) =
    ap (λ as_laid. Some (attributes_of m.env) ∷ as_laid) (from_along (behind m (outcome_of m u)) us)

-- a fresh view is laid out for the attributes along the cached traces
pub fresh_along : (v : Inside) → IsKept v → v.fresh ≡ true
    → laid_in (all_of v) ≡ attributes_along empty (traces_of v.bridges.kept)
unfolding Fresh
fresh_along v h on =
    ap (λ s. s.laid) (h.kept on) ∙ from_along beginning (units v.buffers.items)
    ∙ ap (λ es. attributes_along empty (traces_of es)) (sym (ap (λ s. s.kept) (h.kept on)))

pub trace_at : (kept : Kept) (i : ℕ) (t : Option WideTrace) → slice_get (traces_of kept) i ≡ Some t
    → (e : Entry) × (slice_get kept i ≡ Some e) × (e.trace ≡ t)
trace_at [] i t h = cc
trace_at (e ∷ es) zero t h = (e, refl, same_Some e.trace t h)
trace_at (e ∷ es) (suc i) t h = trace_at es i t h

as_many : (es : Kept) → length (traces_of es) ≡ length es
as_many [] = refl
as_many (e ∷ es) = ap suc (as_many es)

pub laid_as_many : (xs : List Shown) → length (laid_in xs) ≡ length xs
laid_as_many [] = refl
laid_as_many (x ∷ xs) = ap suc (laid_as_many xs)

-- there is such a unit
pub laid_within : (xs : List Shown) (i : ℕ) (o : Option Attrs) → slice_get (laid_in xs) i ≡ Some o → i < length xs
laid_within xs i o at = omega (arith, slice_get_within (laid_in xs) i o at, laid_as_many xs)

pub left_alone : (width buffer : ℕ) (ms : List Mod) (t : WideTree) (old new : Kept) (pss : List KeptParts)
    (olds xs : List Shown) (to : Target) (ss : List (Option ℕ)) (vs : List DocUnit) (i : ℕ) (a : Attrs)
    (ps : ToldPlaces) → AreLaid width old pss olds → new ≡ CarryKept buffer ms t old vs
    → ss ≡ Sources buffer ms t (units_of old) vs → IsTarget (units_of old) vs ss to → HasGone to ss olds xs
    → SetNoName old to → to ≡ InPlace i true ps → laid_in olds ≡ attributes_along empty (traces_of old)
    → slice_get (laid_in olds) i ≡ Some (Some a) → IsLone new xs i a
unfolding CarryKept Sources
left_alone width buffer ms t old new pss olds xs to ss vs i a ps laid is_new is_ss target moved silent is along at =
    let here : IsTarget (units_of old) vs ss (InPlace i true ps) =
    subst (λ (o : Target). IsTarget (units_of old) vs ss o) is target in
    let stay : StayBut ps.items i 0 olds xs = subst (λ (o : Target). HasGone o ss olds xs) is moved in
    let quiet = subst (λ (o : Target). SetNoName old o) is silent in
    let kept : traces_of new ≡ taken i 0 (traces_of old) vs =
    ap traces_of (is_new ∙ ap (λ ns. taken_from (traces_of old) ns vs) (sym is_ss ∙ here.0)) in
    let many : length olds ≡ length vs = laid_many width old pss olds vs laid here.1 in
    let inside : i < length olds = laid_within olds i (Some a) at in
    record {
      nothing_kept =
          ap (λ ts. slice_get ts i) kept
          ∙ nothing_there i 0 i (traces_of old) vs (omega arith) (omega (arith, inside, many));
      nothing_laid = unlaid_there ps.items i 0 i (Some a) olds xs (omega arith) stay at;
      attributes =
          put_back ps.items i 0 i a olds xs (omega arith) stay at ∙ along
          ∙ sym (along_but i 0 i (traces_of old) (traces_of old) vs empty (omega arith) (from_first (traces_of old))
          (as_many old ∙ sym (kept_many width old pss olds laid) ∙ many)
          (λ o there. let e = trace_at old i o there in subst IsSilent e.2 (quiet refl e.0 e.1)))
          ∙ ap (attributes_along empty) (sym kept);
    }
  where
    kept_many : (w : ℕ) (es : Kept) (qss : List KeptParts) (ys : List Shown) → AreLaid w es qss ys
        → length ys ≡ length es
    kept_many w [] [] [] h = refl
    kept_many w [] [] (y ∷ ys) h = absurd h
    kept_many w [] (ks ∷ qss) ys h = absurd h
    kept_many w (e ∷ es) [] ys h = absurd h
    kept_many w (e ∷ es) (ks ∷ qss) [] h = absurd h
    kept_many w (e ∷ es) (ks ∷ qss) (y ∷ ys) h = ap suc (kept_many w es qss ys h.1)
