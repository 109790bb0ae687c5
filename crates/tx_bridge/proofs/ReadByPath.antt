-- What is cached, read by paths of the document, and what moves bring.
use Rattle.std.proofs.Common.{◌≡◌, ℕ, zero, suc, ◌+◌, Bool, true, false, List, [], ◌∷◌, ◌++◌, length}
use Rattle.std.proofs.Common.{Option, Some, None, refl, sym, ap, subst, ◌∙◌, arith, ◌⊎◌, inl, inr}
use Rattle.std.proofs.lemmas.Bool.Decides.{Decides-eqb}
use Rattle.std.proofs.lemmas.Map.Keys.{IsDistinct-head, IsDistinct-tail}
use Rattle.std.proofs.lemmas.Option.{same_Some}
use Rattle.std.proofs.lemmas.Slice.Eq.{bytes_eq-Decides}
use Rattle.std.specs.List.{AllByRecursion, IsDistinct, cons_option}
use Rattle.std.specs.Option.{option_map, option_map_or}
use Rattle.std.specs.Prelude.{◌==◌, if◌then◌else◌, slice_get}
use Rattle.std.specs.Str.{bytes_eq}
use Rattle.tx_tree.specs.WideTree.{WideTree}
use Rattle.tx_tree.specs.Paths.{subtree}
use Rattle.tx_mod.specs.declared.mods.Mod.{Mod}
use Rattle.tx_mod.specs.Followed.{carried_by_all}
use Rattle.tx_exec_form.specs.Evaluated.{WideTrace}
use Rattle.tx_parts.specs.Parts.{Stored}
use Rattle.tx_units.specs.declared.kinds.Unit.{Unit as DocUnit}
use Rattle.tx_units.specs.Places.{AreApart, NoneBegins}
use Rattle.tx_bridge.specs.Carrying.{through}
use Rattle.tx_bridge.specs.Carrying.{Leads}
use Rattle.tx_bridge.specs.HeldParts.{StoredHolds}
use Rattle.tx_bridge.specs.KeptInDocument.{kept_in_document}
use Rattle.tx_bridge.specs.PartMoves.{Move, NoneAbove, is_vacant, rest_in, unit_above, move_to, moves_below}
use Rattle.tx_bridge.specs.PartMoves.{unit_moves, moves_from, arrived}
use Rattle.tx_bridge.specs.PartsKept.{KeptParts, kept_at, part_paths}
use Rattle.tx_bridge.proofs.Above.{IsIn, rest_in_is}
use Rattle.tx_bridge.proofs.CarriedInPlace.{apart_one}
use Rattle.tx_bridge.proofs.Inside.{fronts_meet}

-- ---- one of a list

abbrev pub AnyOf : {A : Type 0} → (A → Type 0) → List A → Type 0
AnyOf P [] = ⊥
AnyOf P (x ∷ xs) = P x ⊎ AnyOf P xs

pub any_left : {A : Type 0} (P : A → Type 0) (xs ys : List A) → AnyOf P xs → AnyOf P (xs ++ ys)
any_left P [] ys h = absurd h
any_left P (x ∷ xs) ys (inl h) = inl h
any_left P (x ∷ xs) ys (inr h) = inr (any_left P xs ys h)

pub any_right : {A : Type 0} (P : A → Type 0) (xs ys : List A) → AnyOf P ys → AnyOf P (xs ++ ys)
any_right P [] ys h = h
any_right P (x ∷ xs) ys h = inr (any_right P xs ys h)

pub any_of_both : {A : Type 0} (P : A → Type 0) (xs ys : List A) → AnyOf P (xs ++ ys) → AnyOf P xs ⊎ AnyOf P ys
any_of_both P [] ys h = inr h
any_of_both P (x ∷ xs) ys (inl h) = inl (inl h)
any_of_both {A} P (x ∷ xs) ys (inr h) = by (any_of_both P xs ys h)
  where
    by : AnyOf P xs ⊎ AnyOf P ys → AnyOf P (x ∷ xs) ⊎ AnyOf P ys
    by (inl g) = inl (inr g)
    by (inr g) = inr g

pub all_onto : {A : Type 0} (P : A → Type 0) (xs ys : List A) → AllByRecursion P xs → AllByRecursion P ys
    → AllByRecursion P (xs ++ ys)
all_onto P [] ys h g = g
all_onto P (x ∷ xs) ys h g = (h.0, all_onto P xs ys h.1 g)

-- ---- what is cached at a path

-- this trace is cached at this path
pub record KeepsTrace (q : List ℕ) (trace : WideTrace) (k : Stored) : Type 0 where
  pub path : k.path ≡ q
  pub is : k.trace ≡ Some trace

-- a trace is cached
pub record IsTraced (k : Stored) : Type 0 where
  pub trace : WideTrace
  pub is : k.trace ≡ Some trace

pub found_in : (ks : KeptParts) (q : List ℕ) (trace : WideTrace) → kept_at ks q ≡ Some trace
    → AnyOf (KeepsTrace q trace) ks
found_in [] q trace e = cc
found_in (k ∷ ks) q trace e = by (bytes_eq k.path q) refl (λ f. found_in ks q trace f) e
  where
    by : (b : Bool) → bytes_eq k.path q ≡ b → (kept_at ks q ≡ Some trace → AnyOf (KeepsTrace q trace) ks)
        → (if b then k.trace else kept_at ks q) ≡ Some trace → AnyOf (KeepsTrace q trace) (k ∷ ks)
    by true h later f = inl (record { path = (bytes_eq-Decides k.path q).0 h; is = f })
    by false h later f = inr (later f)

never_again : (ks : KeptParts) (a q : List ℕ) (trace : WideTrace)
    → AllByRecursion (λ b. bytes_eq a b ≡ false) (part_paths ks) → AnyOf (KeepsTrace q trace) ks → a ≡ q → ⊥
never_again [] a q trace apart h same = absurd h
never_again (k ∷ ks) a q trace apart (inl h) same =
    let off : false ≡ true = sym apart.0 ∙ (bytes_eq-Decides a k.path).1 (same ∙ sym h.path) in cc
never_again (k ∷ ks) a q trace apart (inr h) same = never_again ks a q trace apart.1 h same

-- where no two have one path, it is what is read
pub told_by : (ks : KeptParts) (q : List ℕ) (trace : WideTrace) → IsDistinct bytes_eq (part_paths ks)
    → AnyOf (KeepsTrace q trace) ks → kept_at ks q ≡ Some trace
told_by [] q trace d h = absurd h
told_by (k ∷ ks) q trace d (inl h) =
    ap (λ (b : Bool). if b then k.trace else kept_at ks q) ((bytes_eq-Decides k.path q).1 h.path) ∙ h.is
told_by (k ∷ ks) q trace d (inr h) =
    by (bytes_eq k.path q) refl (told_by ks q trace (IsDistinct-tail bytes_eq k.path (part_paths ks) d) h)
  where
    by : (b : Bool) → bytes_eq k.path q ≡ b → kept_at ks q ≡ Some trace
        → (if b then k.trace else kept_at ks q) ≡ Some trace
    by true e later =
        absurd (never_again ks k.path q trace (IsDistinct-head bytes_eq k.path (part_paths ks) d) h
        ((bytes_eq-Decides k.path q).0 e))
    by false e later = later

-- some trace is cached at a path that one of them has
pub record IsSomeTrace (o : Option WideTrace) : Type 0 where
  pub trace : WideTrace
  pub is : o ≡ Some trace

pub some_kept : (ks : KeptParts) (q : List ℕ) (trace : WideTrace) → AllByRecursion IsTraced ks
    → AnyOf (KeepsTrace q trace) ks → IsSomeTrace (kept_at ks q)
some_kept [] q trace all h = absurd h
some_kept (k ∷ ks) q trace all (inl h) = record {
  trace = trace;
  is = ap (λ (b : Bool). if b then k.trace else kept_at ks q) ((bytes_eq-Decides k.path q).1 h.path) ∙ h.is;
}
some_kept (k ∷ ks) q trace all (inr h) = by (bytes_eq k.path q) (some_kept ks q trace all.1 h)
  where
    by : (b : Bool) → IsSomeTrace (kept_at ks q) → IsSomeTrace (if b then k.trace else kept_at ks q)
    by true later = record { trace = all.0.trace; is = all.0.is }
    by false later = later

pub leads_there : (t : WideTree) (ks : KeptParts) (q : List ℕ) (trace : WideTrace) → AllByRecursion (StoredHolds t) ks
    → AnyOf (KeepsTrace q trace) ks → Leads t (Some q)
leads_there t [] q trace all h = absurd h
leads_there t (k ∷ ks) q trace all (inl h) = (all.0.there, ap (subtree t) (sym h.path) ∙ all.0.leads)
leads_there t (k ∷ ks) q trace all (inr h) = leads_there t ks q trace all.1 h

pub all_traced : (t : WideTree) (ks : KeptParts) → AllByRecursion (StoredHolds t) ks → AllByRecursion IsTraced ks
all_traced t [] h = tt
all_traced t (k ∷ ks) h = (record { trace = h.0.trace; is = h.0.is }, all_traced t ks h.1)

-- ---- what is cached at a path of the document

-- it is what is cached of a unit's part
pub record ReadIn (us : List DocUnit) (pss : List KeptParts) (q : List ℕ) (o : Option WideTrace) : Type 0 where
  pub number : ℕ
  pub unit : DocUnit
  pub parts : KeptParts
  pub rest : List ℕ
  pub there : slice_get us number ≡ Some unit
  pub has : slice_get pss number ≡ Some parts
  pub inside : rest_in unit q ≡ Some rest
  pub tells : o ≡ kept_at parts rest

-- it is what is cached of a stray
pub record ReadAside (us : List DocUnit) (ks : KeptParts) (q : List ℕ) (o : Option WideTrace) : Type 0 where
  pub outside : NoneAbove q us
  pub tells : o ≡ kept_at ks q

pub read : (us : List DocUnit) (pss : List KeptParts) (ks : KeptParts) (q : List ℕ) → length pss ≡ length us
    → ReadIn us pss q (kept_in_document us pss ks q) ⊎ ReadAside us ks q (kept_in_document us pss ks q)
read [] pss ks q many = inr (record { outside = λ k u e. cc; tells = refl })
read (u ∷ us) [] ks q many = absurd (omega (arith, many))
read (u ∷ us) (ps ∷ pss) ks q many = by (rest_in u q) refl (read us pss ks q (omega (arith, many)))
  where
    by : (o : Option (List ℕ)) → rest_in u q ≡ o
        → ReadIn us pss q (kept_in_document us pss ks q) ⊎ ReadAside us ks q (kept_in_document us pss ks q)
        → ReadIn (u ∷ us) (ps ∷ pss) q (option_map_or (kept_at ps) o (kept_in_document us pss ks q))
        ⊎ ReadAside (u ∷ us) ks q (option_map_or (kept_at ps) o (kept_in_document us pss ks q))
    by (Some r) e later = inl (record {
      number = 0;
      unit = u;
      parts = ps;
      rest = r;
      there = refl;
      has = refl;
      inside = e;
      tells = refl;
    })
    by None e (inl h) = inl (record {
      number = suc h.number;
      unit = h.unit;
      parts = h.parts;
      rest = h.rest;
      there = h.there;
      has = h.has;
      inside = h.inside;
      tells = h.tells;
    })
    by None e (inr h) = inr (record { outside = none; tells = h.tells })
      where
        none : NoneAbove q (u ∷ us)
        none zero v f = ap (λ (w : DocUnit). rest_in w q) (sym (same_Some u v f)) ∙ e
        none (suc k) v f = h.outside k v f

-- at most one of two units that are apart has the place
never_both : (o r : Option (List ℕ)) (u v : DocUnit) (q a b : List ℕ) → AreApart o r → u.path ≡ o → v.path ≡ r
    → rest_in u q ≡ Some a → rest_in v q ≡ Some b → ⊥
never_both o r u v q a b apart is_o is_r e f =
    let x : IsIn u q a = rest_in_is u q a e in
    let y : IsIn v q b = rest_in_is v q b f in
    fronts_meet x.path y.path a b (sym x.whole ∙ y.whole)
    (λ more is. (apart x.path more).0 (sym is_o ∙ x.has) (sym is_r ∙ y.has ∙ ap (λ p. Some p) is))
    (λ more is. (apart y.path more).1 (sym is_r ∙ y.has) (sym is_o ∙ x.has ∙ ap (λ p. Some p) is))

pub read_in : (us : List DocUnit) (pss : List KeptParts) (ks : KeptParts) (q : List ℕ) (k : ℕ) (u : DocUnit)
    (ps : KeptParts) (rest : List ℕ) → NoneBegins us → slice_get us k ≡ Some u → slice_get pss k ≡ Some ps
    → rest_in u q ≡ Some rest → kept_in_document us pss ks q ≡ kept_at ps rest
read_in [] pss ks q k u ps rest apart there has inside = cc
read_in (w ∷ us) [] ks q k u ps rest apart there has inside = cc
read_in (w ∷ us) (qs ∷ pss) ks q zero u ps rest apart there has inside =
    ap (λ o. option_map_or (kept_at qs) o (kept_in_document us pss ks q))
    (ap (λ (v : DocUnit). rest_in v q) (same_Some w u there) ∙ inside)
    ∙ ap (λ xs. kept_at xs rest) (same_Some qs ps has)
read_in (w ∷ us) (qs ∷ pss) ks q (suc k) u ps rest apart there has inside =
    by (rest_in w q) refl (read_in us pss ks q k u ps rest apart.1 there has inside)
  where
    by : (o : Option (List ℕ)) → rest_in w q ≡ o → kept_in_document us pss ks q ≡ kept_at ps rest
        → option_map_or (kept_at qs) o (kept_in_document us pss ks q) ≡ kept_at ps rest
    by None e later = later
    by (Some a) e later =
        absurd (never_both w.path u.path w u q a rest (apart_one w.path us k u apart.0 there) refl refl e inside)

pub read_aside : (us : List DocUnit) (pss : List KeptParts) (ks : KeptParts) (q : List ℕ) → NoneAbove q us
    → kept_in_document us pss ks q ≡ kept_at ks q
read_aside [] pss ks q out = refl
read_aside (u ∷ us) [] ks q out = refl
read_aside (u ∷ us) (ps ∷ pss) ks q out =
    ap (λ o. option_map_or (kept_at ps) o (kept_in_document us pss ks q)) (out 0 u refl)
    ∙ read_aside us pss ks q (λ k v e. out (suc k) v e)

-- ---- moves

-- it moves this trace to that path in the unit of this number
pub record Brings (j : ℕ) (q : List ℕ) (trace : WideTrace) (m : Move) : Type 0 where
  pub to : m.to ≡ j
  pub kept : KeepsTrace q trace m.kept

pub arrived_from : (ns : List Move) (j : ℕ) (q : List ℕ) (trace : WideTrace) → AnyOf (KeepsTrace q trace) (arrived ns j)
    → AnyOf (Brings j q trace) ns
arrived_from [] j q trace h = absurd h
arrived_from (m ∷ ns) j q trace h = by (m.to == j) refl (λ g. arrived_from ns j q trace g) h
  where
    by : (b : Bool) → m.to == j ≡ b
        → (AnyOf (KeepsTrace q trace) (arrived ns j) → AnyOf (Brings j q trace) ns)
        → AnyOf (KeepsTrace q trace) (cons_option (if b then Some m.kept else None) (arrived ns j))
        → AnyOf (Brings j q trace) (m ∷ ns)
    by true e later (inl g) = inl (record { to = (Decides-eqb m.to j).0 e; kept = g })
    by true e later (inr g) = inr (later g)
    by false e later g = inr (later g)

pub arrived_to : (ns : List Move) (j : ℕ) (q : List ℕ) (trace : WideTrace) → AnyOf (Brings j q trace) ns
    → AnyOf (KeepsTrace q trace) (arrived ns j)
arrived_to [] j q trace h = absurd h
arrived_to (m ∷ ns) j q trace (inl h) =
    subst (λ (b : Bool). AnyOf (KeepsTrace q trace) (cons_option (if b then Some m.kept else None) (arrived ns j)))
    (sym ((Decides-eqb m.to j).1 h.to)) (inl h.kept)
arrived_to (m ∷ ns) j q trace (inr h) = by (m.to == j) (arrived_to ns j q trace h)
  where
    by : (b : Bool) → AnyOf (KeepsTrace q trace) (arrived ns j)
        → AnyOf (KeepsTrace q trace) (cons_option (if b then Some m.kept else None) (arrived ns j))
    by true g = inr g
    by false g = g

pub arrived_traced : (ns : List Move) (j : ℕ) → AllByRecursion (λ m. IsTraced m.kept) ns
    → AllByRecursion IsTraced (arrived ns j)
arrived_traced [] j h = tt
arrived_traced (m ∷ ns) j h = by (m.to == j) (arrived_traced ns j h.1)
  where
    by : (b : Bool) → AllByRecursion IsTraced (arrived ns j)
        → AllByRecursion IsTraced (cons_option (if b then Some m.kept else None) (arrived ns j))
    by true g = (h.0, g)
    by false g = g

module _ (ms : List Mod) (t : WideTree) (vs : List DocUnit) where
  -- ---- of the parts of one unit

  -- it is from a part of the unit at p, of whose parts this is cached
  pub record BroughtBelow (p : List ℕ) (ks : KeptParts) (j : ℕ) (q : List ℕ) (trace : WideTrace) : Type 0 where
    pub path : List ℕ
    pub place : List ℕ
    pub any : AnyOf (KeepsTrace path trace) ks
    pub carried : carried_by_all ms t (p ++ path) ≡ Some place
    pub above : unit_above 0 vs place ≡ (j, q)

  pairs : (x : ℕ × List ℕ) (j : ℕ) (q : List ℕ) → x.0 ≡ j → x.1 ≡ q → x ≡ (j, q)
  pairs x j q e f = ap (λ (n : ℕ). (n, x.1)) e ∙ ap (λ (a : List ℕ). (j, a)) f

  pub below_from : (i : ℕ) (p : List ℕ) (k : ℕ) (ks : KeptParts) (j : ℕ) (q : List ℕ) (trace : WideTrace)
      → AnyOf (Brings j q trace) (moves_below ms t vs i p k ks) → BroughtBelow p ks j q trace
  below_from i p k [] j q trace h = absurd h
  below_from i p k (s ∷ ks) j q trace h =
      by (carried_by_all ms t (p ++ s.path)) refl (λ g. below_from i p (k + 1) ks j q trace g) h
    where
      one_more : BroughtBelow p ks j q trace → BroughtBelow p (s ∷ ks) j q trace
      one_more c = record {
        path = c.path;
        place = c.place;
        any = inr c.any;
        carried = c.carried;
        above = c.above;
      }

      by : (o : Option (List ℕ)) → carried_by_all ms t (p ++ s.path) ≡ o
          → (AnyOf (Brings j q trace) (moves_below ms t vs i p (k + 1) ks) → BroughtBelow p ks j q trace)
          → AnyOf (Brings j q trace)
          (cons_option (option_map (λ place. move_to i k s (unit_above 0 vs place)) o)
          (moves_below ms t vs i p (k + 1) ks))
          → BroughtBelow p (s ∷ ks) j q trace
      by None e later g = one_more (later g)
      by (Some place) e later (inl g) = record {
        path = s.path;
        place = place;
        any = inl (record { path = refl; is = g.kept.is });
        carried = e;
        above = pairs (unit_above 0 vs place) j q g.to g.kept.path;
      }
      by (Some place) e later (inr g) = one_more (later g)

  pub below_to : (i : ℕ) (p : List ℕ) (k : ℕ) (ks : KeptParts) (j : ℕ) (q : List ℕ) (trace : WideTrace)
      (path place : List ℕ) → AnyOf (KeepsTrace path trace) ks → carried_by_all ms t (p ++ path) ≡ Some place
      → unit_above 0 vs place ≡ (j, q) → AnyOf (Brings j q trace) (moves_below ms t vs i p k ks)
  below_to i p k [] j q trace path place h e above = absurd h
  below_to i p k (s ∷ ks) j q trace path place (inl h) e above =
      subst (λ o. AnyOf (Brings j q trace)
      (cons_option (option_map (λ a. move_to i k s (unit_above 0 vs a)) o) (moves_below ms t vs i p (k + 1) ks)))
      (sym e ∙ ap (λ a. carried_by_all ms t (p ++ a)) (sym h.path))
      (inl (record {
        to = ap (λ (y : ℕ × List ℕ). y.0) above;
        kept = record { path = ap (λ (y : ℕ × List ℕ). y.1) above; is = h.is };
      }))
  below_to i p k (s ∷ ks) j q trace path place (inr h) e above =
      by (carried_by_all ms t (p ++ s.path)) (below_to i p (k + 1) ks j q trace path place h e above)
    where
      by : (o : Option (List ℕ)) → AnyOf (Brings j q trace) (moves_below ms t vs i p (k + 1) ks)
          → AnyOf (Brings j q trace)
          (cons_option (option_map (λ a. move_to i k s (unit_above 0 vs a)) o) (moves_below ms t vs i p (k + 1) ks))
      by None g = g
      by (Some a) g = inr g

  pub below_traced : (i : ℕ) (p : List ℕ) (k : ℕ) (ks : KeptParts) → AllByRecursion IsTraced ks
      → AllByRecursion (λ m. IsTraced m.kept) (moves_below ms t vs i p k ks)
  below_traced i p k [] h = tt
  below_traced i p k (s ∷ ks) h = by (carried_by_all ms t (p ++ s.path)) (below_traced i p (k + 1) ks h.1)
    where
      by : (o : Option (List ℕ)) → AllByRecursion (λ m. IsTraced m.kept) (moves_below ms t vs i p (k + 1) ks)
          → AllByRecursion (λ m. IsTraced m.kept)
          (cons_option (option_map (λ a. move_to i k s (unit_above 0 vs a)) o) (moves_below ms t vs i p (k + 1) ks))
      by None g = g
      by (Some a) g = (record { trace = h.0.trace; is = h.0.is }, g)

  -- ---- of all units

  pub record BroughtFrom (us : List DocUnit) (pss : List KeptParts) (j : ℕ) (q : List ℕ) (trace : WideTrace)
      : Type 0 where
    pub number : ℕ
    pub unit : DocUnit
    pub parts : KeptParts
    pub base : List ℕ
    pub there : slice_get us number ≡ Some unit
    pub has : slice_get pss number ≡ Some parts
    pub at : unit.path ≡ Some base
    pub below : BroughtBelow base parts j q trace

  unit_from : (i : ℕ) (o : Option (List ℕ)) (b : Bool) (ks : KeptParts) (j : ℕ) (q : List ℕ) (trace : WideTrace)
      → AnyOf (Brings j q trace) (if b then option_map_or (λ p. moves_below ms t vs i p 0 ks) o [] else [])
      → (p : List ℕ) × (o ≡ Some p) × BroughtBelow p ks j q trace
  unit_from i o false ks j q trace h = absurd h
  unit_from i None true ks j q trace h = absurd h
  unit_from i (Some p) true ks j q trace h = (p, refl, below_from i p 0 ks j q trace h)

  pub units_from : (i : ℕ) (us : List DocUnit) (pss : List KeptParts) (j : ℕ) (q : List ℕ) (trace : WideTrace)
      → AnyOf (Brings j q trace) (moves_from ms t vs i us pss) → BroughtFrom us pss j q trace
  units_from i [] pss j q trace h = absurd h
  units_from i (u ∷ us) [] j q trace h = absurd h
  units_from i (u ∷ us) (ks ∷ pss) j q trace h =
      by (λ g. units_from (i + 1) us pss j q trace g)
      (any_of_both (Brings j q trace) (unit_moves ms t vs i u ks) (moves_from ms t vs (i + 1) us pss) h)
    where
      by : (AnyOf (Brings j q trace) (moves_from ms t vs (i + 1) us pss) → BroughtFrom us pss j q trace)
          → AnyOf (Brings j q trace) (unit_moves ms t vs i u ks)
          ⊎ AnyOf (Brings j q trace) (moves_from ms t vs (i + 1) us pss) → BroughtFrom (u ∷ us) (ks ∷ pss) j q trace
      by later (inl g) =
          let c = unit_from i u.path (is_vacant (through ms t u.path) vs) ks j q trace g in
          record { number = 0; unit = u; parts = ks; base = c.0; there = refl; has = refl; at = c.1; below = c.2 }
      by later (inr g) = let c = later g in record {
        number = suc c.number;
        unit = c.unit;
        parts = c.parts;
        base = c.base;
        there = c.there;
        has = c.has;
        at = c.at;
        below = c.below;
      }

  pub units_to : (i n : ℕ) (us : List DocUnit) (pss : List KeptParts) (j : ℕ) (q : List ℕ) (trace : WideTrace)
      (u : DocUnit) (ks : KeptParts) (p path place : List ℕ) → slice_get us n ≡ Some u → slice_get pss n ≡ Some ks
      → u.path ≡ Some p → is_vacant (through ms t u.path) vs ≡ true → AnyOf (KeepsTrace path trace) ks
      → carried_by_all ms t (p ++ path) ≡ Some place → unit_above 0 vs place ≡ (j, q)
      → AnyOf (Brings j q trace) (moves_from ms t vs i us pss)
  units_to i n [] pss j q trace u ks p path place there has at vacant any e above = cc
  units_to i n (w ∷ us) [] j q trace u ks p path place there has at vacant any e above = cc
  units_to i zero (w ∷ us) (qs ∷ pss) j q trace u ks p path place there has at vacant any e above =
      any_left (Brings j q trace) (unit_moves ms t vs i w qs) (moves_from ms t vs (i + 1) us pss)
      (subst (λ (v : DocUnit). AnyOf (Brings j q trace) (unit_moves ms t vs i v qs)) (sym (same_Some w u there))
      (subst (λ (ps : KeptParts). AnyOf (Brings j q trace) (unit_moves ms t vs i u ps)) (sym (same_Some qs ks has))
      (subst (λ (b : Bool). AnyOf (Brings j q trace)
      (if b then option_map_or (λ a. moves_below ms t vs i a 0 ks) u.path [] else [])) (sym vacant)
      (subst (λ o. AnyOf (Brings j q trace) (option_map_or (λ a. moves_below ms t vs i a 0 ks) o [])) (sym at)
      (below_to i p 0 ks j q trace path place any e above)))))
  units_to i (suc n) (w ∷ us) (qs ∷ pss) j q trace u ks p path place there has at vacant any e above =
      any_right (Brings j q trace) (unit_moves ms t vs i w qs) (moves_from ms t vs (i + 1) us pss)
      (units_to (i + 1) n us pss j q trace u ks p path place there has at vacant any e above)

  unit_traced : (i : ℕ) (o : Option (List ℕ)) (b : Bool) (ks : KeptParts) → AllByRecursion IsTraced ks
      → AllByRecursion (λ m. IsTraced m.kept)
      (if b then option_map_or (λ p. moves_below ms t vs i p 0 ks) o [] else [])
  unit_traced i o false ks h = tt
  unit_traced i None true ks h = tt
  unit_traced i (Some p) true ks h = below_traced i p 0 ks h

  pub units_traced : (i : ℕ) (us : List DocUnit) (pss : List KeptParts)
      → ((k : ℕ) (ks : KeptParts) → slice_get pss k ≡ Some ks → AllByRecursion IsTraced ks)
      → AllByRecursion (λ m. IsTraced m.kept) (moves_from ms t vs i us pss)
  units_traced i [] pss h = tt
  units_traced i (u ∷ us) [] h = tt
  units_traced i (u ∷ us) (ks ∷ pss) h =
      all_onto (λ m. IsTraced m.kept) (unit_moves ms t vs i u ks) (moves_from ms t vs (i + 1) us pss)
      (unit_traced i u.path (is_vacant (through ms t u.path) vs) ks (h 0 ks refl))
      (units_traced (i + 1) us pss (λ k qs e. h (suc k) qs e))
