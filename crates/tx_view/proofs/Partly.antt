-- What a refresh leaves that ran out of memory.
use Rattle.std.proofs.Common.{◌≡◌, ℕ, zero, suc, ◌+◌, ◌≤◌, ◌⊎◌, inl, inr, List, [], ◌∷◌, ◌++◌, length, take}
use Rattle.std.proofs.Common.{drop, map, Bool, true, false, Option, Some, None, refl, ap, sym, subst, ◌∙◌, arith}
use Rattle.std.proofs.Common.{slice_set, slice_index_or, append-nil}
use Rattle.std.proofs.lemmas.List.{take_all, drop_all, set-get_or}
use Rattle.std.proofs.lemmas.Option.{slice_get_past}
use Rattle.std.specs.List.{AllByRecursion}
use Rattle.std.specs.Prelude.{slice_get}
use Rattle.tx_tree.specs.WideTree.{WideTree}
use Rattle.tx_units.specs.declared.kinds.Unit.{Unit as DocUnit}
use Rattle.tx_items.specs.declared.attributes.Attrs.{Attrs}
use Rattle.tx_view_form.specs.Outcomes.{beginning}
use Rattle.tx_bridge.specs.Bridged.{Bridged}
use Rattle.tx_bridge.specs.Entries.{Kept, units_of, fresh_from}
use Rattle.tx_bridge.specs.PartsKept.{KeptParts, fresh_parts_from}
use Rattle.tx_bridge.specs.Strays.{Stray, StandAside, kept_strays}
use Rattle.tx_part_layout.specs.declared.laid.PlacedPart.{PlacedPart}
use Rattle.tx_unit_layout.specs.LaidAts.{LaidAt, laid_at}
use Rattle.tx_unit_layout.specs.declared.shown.Shown.{Shown}
use Rattle.tx_view.specs.Laid.{laid_in, laid_parts_in, without, dropped, dropped_by, without_parts, view_stores_in}
use Rattle.tx_view.specs.Laid.{StayLaid, ArePartlyLaid}
use Rattle.tx_view.specs.Stores.{ViewStores, HasUnitOf, IsPartlyFresh, fresh_stores, attributes_from}
use Rattle.tx_view.proofs.Keeping.{Stay}

-- ---- what was laid out is dropped

-- nothing is laid out
none_laid : (xs : List Shown) (i : ℕ)
    → (slice_get (laid_in (map dropped xs)) i ≡ Some None) ⊎ (length xs ≤ i)
none_laid [] i = inr (omega arith)
none_laid (x ∷ xs) zero = inl refl
none_laid (x ∷ xs) (suc i) = by (none_laid xs i)
  where
    by : (slice_get (laid_in (map dropped xs)) i ≡ Some None) ⊎ (length xs ≤ i)
        → (slice_get (laid_in (map dropped xs)) i ≡ Some None) ⊎ (suc (length xs) ≤ suc i)
    by (inl e) = inl e
    by (inr le) = inr (omega (arith, le))

-- no part of these is laid out
abbrev pub NoParts : List Shown → Type 0
NoParts xs = AllByRecursion (λ (ls : List LaidAt). ls ≡ []) (laid_parts_in xs)

no_parts : (xs : List Shown) → NoParts (map dropped xs)
no_parts [] = tt
no_parts (x ∷ xs) = (refl, no_parts xs)

parts_left : (ps : List PlacedPart) (x : Shown) → x.parts ≡ ps → map laid_at (dropped_by ps x).parts ≡ []
parts_left [] x none = ap (map laid_at) none
parts_left (p ∷ ps) x some = refl

pub none_left : (xs : List Shown) → NoParts (without_parts xs)
none_left [] = tt
none_left (x ∷ xs) = (parts_left x.parts x refl, none_left xs)

-- a unit is laid out as it was, or not at all
one_left : (ps : List PlacedPart) (x : Shown) → ((dropped_by ps x).laid ≡ x.laid) ⊎ ((dropped_by ps x).laid ≡ None)
one_left [] x = inl refl
one_left (p ∷ ps) x = inr refl

units_left : (xs : List Shown) (i : ℕ)
    → (slice_get (laid_in (without_parts xs)) i ≡ slice_get (laid_in xs) i)
    ⊎ (slice_get (laid_in (without_parts xs)) i ≡ Some None)
units_left [] i = inl refl
units_left (x ∷ xs) zero = by (one_left x.parts x)
  where
    by : ((dropped_by x.parts x).laid ≡ x.laid) ⊎ ((dropped_by x.parts x).laid ≡ None)
        → (Some (dropped_by x.parts x).laid ≡ Some x.laid) ⊎ (Some (dropped_by x.parts x).laid ≡ Some None)
    by (inl e) = inl (ap Some e)
    by (inr e) = inr (ap Some e)
units_left (x ∷ xs) (suc i) = units_left xs i

many_laid : (xs : List Shown) → length (laid_in xs) ≡ length xs
many_laid [] = refl
many_laid (x ∷ xs) = ap suc (many_laid xs)

many_dropped : (xs : List Shown) → length (map dropped xs) ≡ length xs
many_dropped [] = refl
many_dropped (x ∷ xs) = ap suc (many_dropped xs)

many_units : (es : Kept) → length (units_of es) ≡ length es
many_units [] = refl
many_units (e ∷ es) = ap suc (many_units es)

same_past : {A : Type 0} (xs ys : List A) (i : ℕ) → length xs ≤ i → length ys ≤ i → slice_get xs i ≡ slice_get ys i
same_past xs ys i le le' = slice_get_past xs i le ∙ sym (slice_get_past ys i le')

-- past the last unit nothing is cached before or afterwards
past_all : (old new : Bridged) (xs ys : List Shown) (i : ℕ) → length xs ≡ length old.kept
    → length ys ≡ length xs → units_of new.kept ≡ units_of old.kept → length xs ≤ i
    → HasUnitOf (view_stores_in new ys) (view_stores_in old xs) i
past_all old new xs ys i many as_many same le = record {
  kept =
      same_past new.kept old.kept i
      (omega (arith, many, le, ap length same, many_units new.kept, many_units old.kept)) (omega (arith, many, le));
  laid =
      same_past (laid_in ys) (laid_in xs) i (omega (arith, as_many, le, many_laid ys))
      (omega (arith, le, many_laid xs));
}

pub dropped_all : (old new : Bridged) (xs ys : List Shown) (n : ℕ) → length xs ≡ length old.kept
    → units_of new.kept ≡ units_of old.kept
    → new.kept ≡ take n (fresh_from beginning (units_of old.kept)) ++ drop n old.kept
    → new.parts ≡ take n (fresh_parts_from beginning (units_of old.kept)) ++ drop n old.parts
    → new.strays ≡ old.strays → ys ≡ map dropped xs
    → IsPartlyFresh (view_stores_in old xs) (fresh_stores (units_of old.kept)) (view_stores_in new ys)
dropped_all old new xs ys n many same kept parts strays is = record {
  done = n;
  kept = kept;
  parts = parts;
  laid = λ i. by i (none_laid xs i);
  laid_parts = subst NoParts (sym is) (no_parts xs);
  strays = inl (ap kept_strays strays);
  laid_strays = refl;
}
  where
    by : (i : ℕ) → (slice_get (laid_in (map dropped xs)) i ≡ Some None) ⊎ (length xs ≤ i)
        → HasUnitOf (view_stores_in new ys) (view_stores_in old xs) i
        ⊎ ((slice_get (laid_in ys) i ≡ Some None)
        ⊎ HasUnitOf (view_stores_in new ys) (fresh_stores (units_of old.kept)) i)
    by i (inl e) = inr (inl (ap (λ zs. slice_get (laid_in zs) i) is ∙ e))
    by i (inr le) = inl (past_all old new xs ys i many (ap length is ∙ many_dropped xs) same le)

-- ---- the layout of the units with a flag is dropped

flag_laid : (fs : List Bool) (xs : List Shown) (i : ℕ) → length fs ≡ length xs
    → (slice_get (laid_in (without fs xs)) i ≡ Some None)
    ⊎ ((slice_get (laid_in (without fs xs)) i ≡ slice_get (laid_in xs) i) × (slice_get fs i ≡ Some false)
    ⊎ (length xs ≤ i))
flag_laid [] [] i many = inr (inr (omega arith))
flag_laid [] (x ∷ xs) i many = absurd (omega (arith, many))
flag_laid (f ∷ fs) [] i many = absurd (omega (arith, many))
flag_laid (true ∷ fs) (x ∷ xs) zero many = inl refl
flag_laid (false ∷ fs) (x ∷ xs) zero many = inr (inl (refl, refl))
flag_laid (f ∷ fs) (x ∷ xs) (suc i) many = by (flag_laid fs xs i (omega (arith, many)))
  where
    by : (slice_get (laid_in (without fs xs)) i ≡ Some None)
        ⊎ ((slice_get (laid_in (without fs xs)) i ≡ slice_get (laid_in xs) i) × (slice_get fs i ≡ Some false)
        ⊎ (length xs ≤ i))
        → (slice_get (laid_in (without fs xs)) i ≡ Some None)
        ⊎ ((slice_get (laid_in (without fs xs)) i ≡ slice_get (laid_in xs) i) × (slice_get fs i ≡ Some false)
        ⊎ (suc (length xs) ≤ suc i))
    by (inl e) = inl e
    by (inr (inl p)) = inr (inl p)
    by (inr (inr le)) = inr (inr (omega (arith, le)))

many_without : (fs : List Bool) (xs : List Shown) → length (without fs xs) ≡ length xs
many_without [] xs = refl
many_without (f ∷ fs) [] = refl
many_without (f ∷ fs) (x ∷ xs) = ap suc (many_without fs xs)

pub left_laid : (old new : Bridged) (xs ys : List Shown) → length xs ≡ length old.kept
    → units_of new.kept ≡ units_of old.kept → length new.reached ≡ length new.kept
    → Stay new.reached old.kept new.kept → ys ≡ without new.reached xs
    → StayLaid (view_stores_in old xs) (view_stores_in new ys)
left_laid old new xs ys many same flags stay is i =
    by (flag_laid new.reached xs i
    (omega (arith, many, flags, ap length same, many_units new.kept, many_units old.kept)))
  where
    by : (slice_get (laid_in (without new.reached xs)) i ≡ Some None)
        ⊎ ((slice_get (laid_in (without new.reached xs)) i ≡ slice_get (laid_in xs) i)
        × (slice_get new.reached i ≡ Some false) ⊎ (length xs ≤ i))
        → HasUnitOf (view_stores_in new ys) (view_stores_in old xs) i ⊎ (slice_get (laid_in ys) i ≡ Some None)
    by (inl e) = inr (ap (λ zs. slice_get (laid_in zs) i) is ∙ e)
    by (inr (inl p)) =
        inl (record { kept = stay i p.1; laid = ap (λ zs. slice_get (laid_in zs) i) is ∙ p.0 })
    by (inr (inr le)) = inl (past_all old new xs ys i many (ap length is ∙ many_without new.reached xs) same le)

-- ---- some are laid out

pub laid_none : (old fresh new : List (Option Attrs)) → new ≡ old → ArePartlyLaid old fresh new
laid_none old fresh new e i = inl (ap (λ l. slice_get l i) e)

pub laid_fresh : (old fresh new : List (Option Attrs)) → new ≡ fresh → ArePartlyLaid old fresh new
laid_fresh old fresh new e i = inr (ap (λ l. slice_get l i) e)

pub laid_then : (old fresh mid new : List (Option Attrs)) → ArePartlyLaid old fresh mid → ArePartlyLaid mid fresh new
    → ArePartlyLaid old fresh new
laid_then old fresh mid new h k i = by (h i) (k i)
  where
    by : (slice_get mid i ≡ slice_get old i) ⊎ (slice_get mid i ≡ slice_get fresh i)
        → (slice_get new i ≡ slice_get mid i) ⊎ (slice_get new i ≡ slice_get fresh i)
        → (slice_get new i ≡ slice_get old i) ⊎ (slice_get new i ≡ slice_get fresh i)
    by p (inr e) = inr e
    by (inl e) (inl f) = inl (f ∙ e)
    by (inr e) (inl f) = inr (f ∙ e)

set_here : (xs : List Shown) (i : ℕ) (y : Shown) (j : ℕ)
    → (slice_get (laid_in (slice_set xs i y)) j ≡ slice_get (laid_in xs) j)
    ⊎ ((j ≡ i) × (slice_get (laid_in (slice_set xs i y)) j ≡ Some y.laid))
set_here [] i y j = inl refl
set_here (x ∷ xs) zero y zero = inr (refl, refl)
set_here (x ∷ xs) zero y (suc j) = inl refl
set_here (x ∷ xs) (suc i) y zero = inl refl
set_here (x ∷ xs) (suc i) y (suc j) = by (set_here xs i y j)
  where
    by : (slice_get (laid_in (slice_set xs i y)) j ≡ slice_get (laid_in xs) j)
        ⊎ ((j ≡ i) × (slice_get (laid_in (slice_set xs i y)) j ≡ Some y.laid))
        → (slice_get (laid_in (slice_set xs i y)) j ≡ slice_get (laid_in xs) j)
        ⊎ ((suc j ≡ suc i) × (slice_get (laid_in (slice_set xs i y)) j ≡ Some y.laid))
    by (inl e) = inl e
    by (inr p) = inr (ap suc p.0, p.1)

-- one more is laid out for the attributes before it
pub laid_more : (old fresh : List (Option Attrs)) (xs : List Shown) (i : ℕ) (y : Shown) (a : Attrs)
    → ArePartlyLaid old fresh (laid_in xs) → slice_get fresh i ≡ Some (Some a) → y.laid ≡ Some a
    → ArePartlyLaid old fresh (laid_in (slice_set xs i y))
laid_more old fresh xs i y a h right is j = by (set_here xs i y j) (h j)
  where
    by : (slice_get (laid_in (slice_set xs i y)) j ≡ slice_get (laid_in xs) j)
        ⊎ ((j ≡ i) × (slice_get (laid_in (slice_set xs i y)) j ≡ Some y.laid))
        → (slice_get (laid_in xs) j ≡ slice_get old j) ⊎ (slice_get (laid_in xs) j ≡ slice_get fresh j)
        → (slice_get (laid_in (slice_set xs i y)) j ≡ slice_get old j)
        ⊎ (slice_get (laid_in (slice_set xs i y)) j ≡ slice_get fresh j)
    by (inl e) (inl f) = inl (e ∙ f)
    by (inl e) (inr f) = inr (e ∙ f)
    by (inr p) f = inr (p.1 ∙ ap Some is ∙ sym right ∙ ap (slice_get fresh) (sym p.0))

-- or it is unchanged
pub laid_again : (old fresh : List (Option Attrs)) (xs : List Shown) (i : ℕ) (y d : Shown)
    → ArePartlyLaid old fresh (laid_in xs) → y ≡ slice_index_or xs i d
    → ArePartlyLaid old fresh (laid_in (slice_set xs i y))
laid_again old fresh xs i y d h is =
    subst (λ (zs : List Shown). ArePartlyLaid old fresh (laid_in zs))
    (sym (ap (slice_set xs i) is ∙ set-get_or xs i d)) h

-- ---- all units are evaluated

all_taken : {A : Type 0} (xs ys : List A) (n : ℕ) → length xs ≤ n → length ys ≤ n → xs ≡ take n xs ++ drop n ys
all_taken xs ys n le le' =
    sym (append-nil xs) ∙ ap (λ zs. zs ++ []) (sym (take_all n xs le))
    ∙ ap (λ zs. take n xs ++ zs) (sym (drop_all n ys le'))

pub evaluated : (old new : Bridged) (xs mid ys : List Shown)
    → new.kept ≡ fresh_from beginning (units_of old.kept)
    → new.parts ≡ fresh_parts_from beginning (units_of old.kept) → units_of new.kept ≡ units_of old.kept
    → StayLaid (view_stores_in old xs) (view_stores_in new mid) → new.strays ≡ []
    → ArePartlyLaid (laid_in mid) (attributes_from beginning (units_of new.kept)) (laid_in ys)
    → IsPartlyFresh (view_stores_in old xs) (fresh_stores (units_of old.kept)) (view_stores_in new (without_parts ys))
evaluated old new xs mid ys kept parts same stay strays laid =
    let us : List DocUnit = units_of old.kept in
    let fs : Kept = fresh_from beginning us in
    let ps : List KeptParts = fresh_parts_from beginning us in
    let n : ℕ = length fs + length old.kept + length ps + length old.parts in
    record {
      done = n;
      kept = kept ∙ all_taken fs old.kept n (omega arith) (omega arith);
      parts = parts ∙ all_taken ps old.parts n (omega arith) (omega arith);
      laid = λ i. by i (units_left ys i) (stay i) (laid i);
      laid_parts = none_left ys;
      strays = inr (ap kept_strays strays);
      laid_strays = refl;
    }
  where
    by : (i : ℕ)
        → (slice_get (laid_in (without_parts ys)) i ≡ slice_get (laid_in ys) i)
        ⊎ (slice_get (laid_in (without_parts ys)) i ≡ Some None)
        → HasUnitOf (view_stores_in new mid) (view_stores_in old xs) i ⊎ (slice_get (laid_in mid) i ≡ Some None)
        → (slice_get (laid_in ys) i ≡ slice_get (laid_in mid) i)
        ⊎ (slice_get (laid_in ys) i ≡ slice_get (attributes_from beginning (units_of new.kept)) i)
        → HasUnitOf (view_stores_in new (without_parts ys)) (view_stores_in old xs) i
        ⊎ ((slice_get (laid_in (without_parts ys)) i ≡ Some None)
        ⊎ HasUnitOf (view_stores_in new (without_parts ys)) (fresh_stores (units_of old.kept)) i)
    by i (inr none) p q = inr (inl none)
    by i (inl g) (inl h) (inl e) = inl (record { kept = h.kept; laid = g ∙ e ∙ h.laid })
    by i (inl g) (inr none) (inl e) = inr (inl (g ∙ e ∙ none))
    by i (inl g) p (inr e) =
        inr (inr (record {
          kept = ap (λ es. slice_get es i) kept;
          laid = g ∙ e ∙ ap (λ us. slice_get (attributes_from beginning us) i) same;
        }))

-- all is as making it from nothing leaves it, but for the lines of parts
pub all_fresh : (old : ViewStores) (new : Bridged) (us : List DocUnit) (xs : List Shown)
    → view_stores_in new xs ≡ fresh_stores us
    → IsPartlyFresh old (fresh_stores us) (view_stores_in new (without_parts xs))
all_fresh old new us xs e =
    let fresh : ViewStores = fresh_stores us in
    let n : ℕ = length fresh.kept + length old.kept + length fresh.parts + length old.parts in
    record {
      done = n;
      kept = ap (λ s. s.kept) e ∙ all_taken fresh.kept old.kept n (omega arith) (omega arith);
      parts = ap (λ s. s.parts) e ∙ all_taken fresh.parts old.parts n (omega arith) (omega arith);
      laid = λ i. by i (units_left xs i);
      laid_parts = none_left xs;
      strays = inr (ap (λ s. s.strays) e);
      laid_strays = refl;
    }
  where
    by : (i : ℕ)
        → (slice_get (laid_in (without_parts xs)) i ≡ slice_get (laid_in xs) i)
        ⊎ (slice_get (laid_in (without_parts xs)) i ≡ Some None)
        → HasUnitOf (view_stores_in new (without_parts xs)) old i
        ⊎ ((slice_get (laid_in (without_parts xs)) i ≡ Some None)
        ⊎ HasUnitOf (view_stores_in new (without_parts xs)) (fresh_stores us) i)
    by i (inr none) = inr (inl none)
    by i (inl g) =
        inr (inr (record {
          kept = ap (λ s. slice_get s.kept i) e;
          laid = g ∙ ap (λ s. slice_get s.laid i) e;
        }))

-- ---- strays are where they were

pub stay_aside : (t : WideTree) (old new : List Stray) → (new ≡ old) ⊎ (new ≡ []) → StandAside t old
    → StandAside t new
stay_aside t old new (inl same) stand = subst (StandAside t) (sym same) stand
stay_aside t old new (inr none) stand = subst (StandAside t) (sym none) tt
