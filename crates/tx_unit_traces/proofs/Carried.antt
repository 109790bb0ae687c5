-- Whose trace a new unit takes.
use Rattle.std.proofs.Common.{◌≡◌, ◌⊎◌, inl, inr, ℕ, zero, suc, ◌+◌, Bool, true, false, List, [], ◌∷◌, Option, Some, None}
use Rattle.std.proofs.Common.{refl, sym, ap, subst, ◌∙◌, arith, ◌↔◌}
use Rattle.std.proofs.lemmas.Slice.Eq.{bytes_eq-Decides}
use Rattle.std.specs.Prelude.{slice_get, is_some, option_and_then, ◌&&◌, if◌then◌else◌}
use Rattle.std.specs.List.{AllByRecursion, Contains, cons_option}
use Rattle.std.specs.Option.{option_map, option_map_or}
use Rattle.std.specs.Str.{bytes_eq}
use Rattle.tx_tree.specs.WideTree.{WideTree}
use Rattle.tx_prim.specs.Same.{is_same}
use Rattle.tx_mod.specs.declared.mods.Mod.{Mod}
use Rattle.tx_mod.specs.Followed.{changed_by_all, carried_by_all, CarriesThroughAll}
use Rattle.tx_mod.specs.Orders.{IsBefore}
use Rattle.tx_kept.proofs.Found.{not_before_itself}
use Rattle.tx_kept.specs.declared.path_map.Entry.{Entry}
use Rattle.tx_kept.specs.Carrying.{carry}
use Rattle.tx_exec_form.specs.Evaluated.{WideTrace}
use Rattle.tx_units.specs.declared.kinds.Unit.{Unit as DocUnit}
use Rattle.tx_origin.specs.declared.tagged.Tagged.{Tagged}
use Rattle.tx_units.specs.declared.kinds.UnitKind.{UnitKind}
use Rattle.tx_units.specs.declared.kinds.UnitKind.TheVariants.{Base, Style, Absent, Initial, Body}
use Rattle.tx_unit_traces.specs.declared.cached_unit.CachedUnit.{CachedUnit}
use Rattle.tx_unit_traces.specs.UnitLists.{HasPathIfBody, AreUnits, Stands, AllStand, is_body, IsApart, AreApart}
use Rattle.tx_unit_traces.specs.UnitLists.{paths_of, paragraphs_of}
use Rattle.tx_unit_traces.specs.Units.{units_of}
use Rattle.tx_unit_traces.specs.Carrying.{Whole, whole_of, trace_at, same_kind, same_unit, trace_if_same, trace_for}
use Rattle.tx_unit_traces.specs.Carrying.{taken_from, IsFromIfCached}

-- ---- paragraphs

-- the trace at the path is that of one of these units, of which P is true
pub record Found (ms : List Mod) (t : WideTree) (P : CachedUnit → Type 0) (us : List CachedUnit) (p : List ℕ)
    (trace : Option WideTrace) : Type 0 where
  pub unit : CachedUnit
  pub among : Contains us unit
  pub holds : P unit
  pub path : option_and_then (carried_by_all ms t) unit.unit.path ≡ Some p
  pub is : trace ≡ unit.trace

abbrev pub FoundOrNone : List Mod → WideTree → (CachedUnit → Type 0) → List CachedUnit → List ℕ → Option WideTrace → Type 0
FoundOrNone ms t P us p trace = (trace ≡ None) ⊎ Found ms t P us p trace

module _ (ms : List Mod) (t : WideTree) (P : CachedUnit → Type 0) (p : List ℕ) where
  later : (u : CachedUnit) (us : List CachedUnit) (trace : Option WideTrace) → FoundOrNone ms t P us p trace
      → FoundOrNone ms t P (u ∷ us) p trace
  later u us trace (inl e) = inl e
  later u us trace (inr f) = inr (record {
    unit = f.unit;
    among = (suc f.among.0, omega (arith, f.among.1), f.among.2);
    holds = f.holds;
    path = f.path;
    is = f.is;
  })

  pub found_in : (us : List CachedUnit) → AllByRecursion P us
      → FoundOrNone ms t P us p (trace_at (carry ms t (whole_of us)) p)
  found_in [] h = inl refl
  found_in (u ∷ us) h = by u.unit.path refl (found_in us h.1)
    where
      entry : List ℕ → Entry (Option WideTrace)
      entry q = record { path = q; value = u.trace }

      rest : Option WideTrace
      rest = trace_at (carry ms t (whole_of us)) p

      at : (r : List ℕ) (b : Bool) → bytes_eq r p ≡ b
          → option_and_then (carried_by_all ms t) u.unit.path ≡ Some r → FoundOrNone ms t P us p rest
          → FoundOrNone ms t P (u ∷ us) p (if b then u.trace else rest)
      at r true e is ih = inr (record {
        unit = u;
        among = (0, omega arith, refl);
        holds = h.0;
        path = is ∙ ap Some ((bytes_eq-Decides r p).0 e);
        is = refl;
      })
      at r false e is ih = later u us rest ih

      by_place : (q : List ℕ) (o : Option (List ℕ)) → carried_by_all ms t q ≡ o → u.unit.path ≡ Some q
          → FoundOrNone ms t P us p rest → FoundOrNone ms t P (u ∷ us) p
          (trace_at (cons_option (option_map (λ r. record { path = r; value = u.trace }) o) (carry ms t (whole_of us))) p)
      by_place q None f e ih = later u us rest ih
      by_place q (Some r) f e ih =
          at r (bytes_eq r p) refl (ap (option_and_then (carried_by_all ms t)) e ∙ f) ih

      by : (o : Option (List ℕ)) → u.unit.path ≡ o → FoundOrNone ms t P us p rest → FoundOrNone ms t P (u ∷ us) p
          (trace_at (carry ms t (cons_option (option_map (λ r. record { path = r; value = u.trace }) o) (whole_of us))) p)
      by None e ih = later u us rest ih
      by (Some q) e ih = by_place q (carried_by_all ms t q) refl e ih

-- ---- units with one tree and one origin

one_tagged : (a b : Tagged) → a.tree ≡ b.tree → a.at ≡ b.at → a ≡ b
one_tagged a b tree at =
    ap (λ t. record { tree = t; at = a.at }) tree ∙ ap (λ o. record { tree = b.tree; at = o }) at

same_path : (u v : DocUnit) (q p : List ℕ) → HasPathIfBody u → HasPathIfBody v → u.path ≡ Some q → v.path ≡ Some p
    → v.tagged.tree ≡ u.tagged.tree → v.tagged ≡ u.tagged
same_path u v q p placed_u placed_v e f tree =
    let at : v.tagged.at ≡ u.tagged.at =
    placed_v.origin ∙ ap (option_map (λ _. [])) f ∙ sym (placed_u.origin ∙ ap (option_map (λ _. [])) e) in
    one_tagged v.tagged u.tagged tree at

kind_is : (j k : UnitKind) → same_kind j k ≡ true → is_body j ≡ is_body k
kind_is Base Base h = refl
kind_is Base (Style n) h = refl
kind_is Base Absent h = refl
kind_is Base Initial h = refl
kind_is Base Body h = cc
kind_is (Style m) Base h = refl
kind_is (Style m) (Style n) h = refl
kind_is (Style m) Absent h = refl
kind_is (Style m) Initial h = refl
kind_is (Style m) Body h = cc
kind_is Absent Base h = refl
kind_is Absent (Style n) h = refl
kind_is Absent Absent h = refl
kind_is Absent Initial h = refl
kind_is Absent Body h = cc
kind_is Initial Base h = refl
kind_is Initial (Style n) h = refl
kind_is Initial Absent h = refl
kind_is Initial Initial h = refl
kind_is Initial Body h = cc
kind_is Body Base h = cc
kind_is Body (Style n) h = cc
kind_is Body Absent h = cc
kind_is Body Initial h = cc
kind_is Body Body h = refl

both : (a b : Bool) → a && b ≡ true → (a ≡ true) × (b ≡ true)
both true b h = (refl, h)
both false b h = cc

no_path : (o : Option (List ℕ)) → is_some o ≡ false → o ≡ None
no_path None e = refl
no_path (Some p) e = cc

-- the unit that is the same as v, which has no path, has v's tree and origin
same_number : ((s t : WideTree) → (is_same s t ≡ true) ↔ (s ≡ t)) → (u v : DocUnit) → HasPathIfBody u → HasPathIfBody v
    → v.path ≡ None → same_unit u v ≡ true → (v.tagged ≡ u.tagged) × (u.path ≡ None)
same_number same u v placed_u placed_v none h =
    let tests = both (same_kind u.kind v.kind) (is_same u.tagged.tree v.tagged.tree) h in
    let tree : u.tagged.tree ≡ v.tagged.tree = (same u.tagged.tree v.tagged.tree).0 tests.1 in
    let out : u.path ≡ None =
    no_path u.path
    (placed_u.path ∙ kind_is u.kind v.kind tests.0 ∙ sym placed_v.path ∙ ap is_some none) in
    let at : v.tagged.at ≡ u.tagged.at =
    placed_v.origin ∙ ap (option_map (λ _. [])) none ∙ sym (placed_u.origin ∙ ap (option_map (λ _. [])) out) in
    (one_tagged v.tagged u.tagged (sym tree) at, out)

all_units : (Q : DocUnit → Type 0) (us : List CachedUnit) → AllByRecursion Q (units_of us)
    → AllByRecursion (λ u. Q u.unit) us
all_units Q [] h = tt
all_units Q (u ∷ us) h = (h.0, all_units Q us h.1)

all_two : {X : Type 0} (Q R : X → Type 0) (us : List X) → AllByRecursion Q us → AllByRecursion R us
    → AllByRecursion (λ u. Q u × R u) us
all_two Q R [] h g = tt
all_two Q R (u ∷ us) h g = ((h.0, g.0), all_two Q R us h.1 g.1)

all_there : (Q : CachedUnit → Type 0) (us : List CachedUnit) (j : ℕ) (u : CachedUnit) → AllByRecursion Q us
    → slice_get us j ≡ Some u → Q u × Contains us u
all_there Q [] j u h e = absurd (cc)
all_there Q (w ∷ us) zero u h e = let is : w ≡ u = cc in (subst Q is h.0, (0, omega arith, is))
all_there Q (w ∷ us) (suc j) u h e =
    let rest = all_there Q us j u h.1 e in (rest.0, (suc rest.1.0, omega (arith, rest.1.1), rest.1.2))

module _ (same : (s t : WideTree) → (is_same s t ≡ true) ↔ (s ≡ t)) (ms : List Mod) (t : WideTree)
    (old : List CachedUnit) (placed : AllByRecursion (λ u. HasPathIfBody u.unit) old) (v : DocUnit)
    (placed_v : HasPathIfBody v) where
  by_number : (j : ℕ) → v.path ≡ None
      → IsFromIfCached ms t old (record { unit = v; trace = option_and_then (trace_if_same v) (slice_get old j) })
  by_number j none = by (slice_get old j) refl
    where
      test : (u : CachedUnit) (b : Bool) → same_unit u.unit v ≡ b → slice_get old j ≡ Some u
          → IsFromIfCached ms t old (record { unit = v; trace = if b then u.trace else None })
      test u true e there =
          let at = all_there (λ w. HasPathIfBody w.unit) old j u placed there in
          let is = same_number same u.unit v at.0 placed_v none e in
          inr (record {
            source = u;
            among = at.1;
            trace = refl;
            tagged = is.0;
            path = none ∙ sym (ap (option_and_then (carried_by_all ms t)) is.1);
          })
      test u false e there = inl refl

      by : (o : Option CachedUnit) → slice_get old j ≡ o
          → IsFromIfCached ms t old (record { unit = v; trace = option_and_then (trace_if_same v) o })
      by None e = inl refl
      by (Some u) e = test u (same_unit u.unit v) refl e

  -- where the units to whose paths the edit leads have their trees
  by_path : (P : CachedUnit → Type 0) → AllByRecursion P old → (p : List ℕ) → v.path ≡ Some p
      → ((u : CachedUnit) (q : List ℕ) → P u → u.unit.path ≡ Some q → carried_by_all ms t q ≡ Some p
      → v.tagged.tree ≡ u.unit.tagged.tree)
      → IsFromIfCached ms t old (record { unit = v; trace = trace_at (carry ms t (whole_of old)) p })
  by_path P all p at tree =
      by (trace_at (carry ms t (whole_of old)) p)
      (found_in ms t (λ u. HasPathIfBody u.unit × P u) p old (all_two (λ u. HasPathIfBody u.unit) P old placed all))
    where
      from : (trace : Option WideTrace) (u : CachedUnit) → Contains old u → HasPathIfBody u.unit → P u
          → trace ≡ u.trace → (o : Option (List ℕ)) → u.unit.path ≡ o → option_and_then (carried_by_all ms t) o ≡ Some p
          → IsFromIfCached ms t old (record { unit = v; trace = trace })
      from trace u among placed_u holds is None e f = absurd (cc)
      from trace u among placed_u holds is (Some q) e f = inr (record {
        source = u;
        among = among;
        trace = is;
        tagged = same_path u.unit v q p placed_u placed_v e at (tree u q holds e f);
        path = at ∙ sym (ap (option_and_then (carried_by_all ms t)) e ∙ f);
      })

      by : (trace : Option WideTrace) → FoundOrNone ms t (λ u. HasPathIfBody u.unit × P u) old p trace
          → IsFromIfCached ms t old (record { unit = v; trace = trace })
      by trace (inl e) = inl e
      by trace (inr f) = from trace f.unit f.among f.holds.0 f.holds.1 f.is f.unit.unit.path refl f.path

  by_either : (P : CachedUnit → Type 0) → AllByRecursion P old → (j : ℕ)
      → ((p : List ℕ) → v.path ≡ Some p → (u : CachedUnit) (q : List ℕ) → P u → u.unit.path ≡ Some q
      → carried_by_all ms t q ≡ Some p → v.tagged.tree ≡ u.unit.tagged.tree)
      → IsFromIfCached ms t old (record { unit = v; trace = trace_for (carry ms t (whole_of old)) old j v })
  by_either P all j tree = by v.path refl
    where
      by : (o : Option (List ℕ)) → v.path ≡ o → IsFromIfCached ms t old (record {
        unit = v;
        trace = option_map_or (trace_at (carry ms t (whole_of old))) o
            (option_and_then (trace_if_same v) (slice_get old j));
      })
      by None e = by_number j e
      by (Some p) e = by_path P all p e (tree p e)

-- ---- paragraphs are alone at their paths

-- where both have one path, they have one tree
abbrev HaveOneTree : DocUnit → DocUnit → Type 0
HaveOneTree u v = (p : List ℕ) → u.path ≡ Some p → v.path ≡ Some p → u.tagged.tree ≡ v.tagged.tree

abbrev pub AgreesWithAll : List DocUnit → DocUnit → Type 0
AgreesWithAll us v = AllByRecursion (λ u. HaveOneTree u v) us

all_then : {X : Type 0} (Q R : X → Type 0) → ((x : X) → Q x → R x) → (xs : List X) → AllByRecursion Q xs
    → AllByRecursion R xs
all_then Q R f [] h = tt
all_then Q R f (x ∷ xs) h = (f x h.0, all_then Q R f xs h.1)

pub all_filtered : (R : DocUnit → Type 0) (us : List DocUnit) → AllByRecursion R us → AllByRecursion R (paragraphs_of us)
all_filtered R [] h = tt
all_filtered R (u ∷ us) h = by (is_some u.path) (all_filtered R us h.1)
  where
    by : (b : Bool) → AllByRecursion R (paragraphs_of us)
        → AllByRecursion R (if b then u ∷ paragraphs_of us else paragraphs_of us)
    by true rest = (h.0, rest)
    by false rest = rest

pub all_unfiltered : (R : DocUnit → Type 0) → ((u : DocUnit) → u.path ≡ None → R u) → (us : List DocUnit)
    → AllByRecursion R (paragraphs_of us) → AllByRecursion R us
all_unfiltered R f [] h = tt
all_unfiltered R f (u ∷ us) h = by u.path refl h (all_unfiltered R f us)
  where
    by : (o : Option (List ℕ)) → u.path ≡ o
        → AllByRecursion R (if is_some o then u ∷ paragraphs_of us else paragraphs_of us)
        → (AllByRecursion R (paragraphs_of us) → AllByRecursion R us) → AllByRecursion R (u ∷ us)
    by None e g ih = (f u e, ih g)
    by (Some p) e g ih = (g.0, ih g.1)

-- no unit has a path that all are after
none_there : (q : List ℕ) (us : List DocUnit) → AllByRecursion (IsApart q) (paths_of us)
    → AllByRecursion (λ u. u.path ≡ Some q → ⊥) us
none_there q [] h = tt
none_there q (u ∷ us) h = by u.path refl h (none_there q us)
  where
    by : (o : Option (List ℕ)) → u.path ≡ o → AllByRecursion (IsApart q) (cons_option o (paths_of us))
        → (AllByRecursion (IsApart q) (paths_of us) → AllByRecursion (λ w. w.path ≡ Some q → ⊥) us)
        → AllByRecursion (λ w. w.path ≡ Some q → ⊥) (u ∷ us)
    by None e g ih = ((λ f. let off : None ≡ Some q = sym e ∙ f in absurd (cc)), ih g)
    by (Some p) e g ih = (
      (λ f. let is : Some p ≡ Some q = sym e ∙ f in
          let one : p ≡ q = cc in
          not_before_itself q (subst (IsBefore q) one g.0.before)),
      ih g.1,
    )

others_agree : (u : DocUnit) (us : List DocUnit) (o : Option (List ℕ)) → u.path ≡ o
    → AreApart (cons_option o (paths_of us))
    → (AllByRecursion (λ w. HaveOneTree w u) us × AllByRecursion (HaveOneTree u) us) × AreApart (paths_of us)
others_agree u us None e h = ((no_tree us, no_other us), h)
  where
    no_tree : (vs : List DocUnit) → AllByRecursion (λ w. HaveOneTree w u) vs
    no_tree [] = tt
    no_tree (v ∷ vs) = ((λ p f g. let off : None ≡ Some p = sym e ∙ g in absurd (cc)), no_tree vs)

    no_other : (vs : List DocUnit) → AllByRecursion (HaveOneTree u) vs
    no_other [] = tt
    no_other (v ∷ vs) = ((λ p f g. let off : None ≡ Some p = sym e ∙ f in absurd (cc)), no_other vs)
others_agree u us (Some q) e h = (
  (
    all_then (λ w. w.path ≡ Some q → ⊥) (λ w. HaveOneTree w u)
        (λ w off p f g. absurd (off (f ∙ sym g ∙ e))) us (none_there q us h.0),
    all_then (λ w. w.path ≡ Some q → ⊥) (HaveOneTree u)
        (λ w off p f g. absurd (off (g ∙ sym f ∙ e))) us (none_there q us h.0),
  ),
  h.1,
)

-- a paragraph is the one of all units that has its path
own_agree : (us : List DocUnit) → AreApart (paths_of us) → AllByRecursion (AgreesWithAll us) (paragraphs_of us)
own_agree [] h = tt
own_agree (u ∷ us) h =
    let parts = others_agree u us u.path refl h in
    by (is_some u.path) parts.0.0
    (all_then (λ w. HaveOneTree u w × AgreesWithAll us w) (AgreesWithAll (u ∷ us)) (λ w g. g) (paragraphs_of us)
    (all_two (HaveOneTree u) (AgreesWithAll us) (paragraphs_of us) (all_filtered (HaveOneTree u) us parts.0.1)
    (own_agree us parts.1)))
  where
    by : (b : Bool) → AgreesWithAll us u → AllByRecursion (AgreesWithAll (u ∷ us)) (paragraphs_of us)
        → AllByRecursion (AgreesWithAll (u ∷ us)) (if b then u ∷ paragraphs_of us else paragraphs_of us)
    by true first rest = (((λ p f g. refl), first), rest)
    by false first rest = rest

pub paragraphs_agree : (us vs : List DocUnit) → AreApart (paths_of us) → paragraphs_of vs ≡ paragraphs_of us
    → AllByRecursion (AgreesWithAll us) vs
paragraphs_agree us vs h e =
    all_unfiltered (AgreesWithAll us) (λ v none. never v none us) vs
    (subst (AllByRecursion (AgreesWithAll us)) (sym e) (own_agree us h))
  where
    never : (v : DocUnit) → v.path ≡ None → (ws : List DocUnit) → AgreesWithAll ws v
    never v none [] = tt
    never v none (w ∷ ws) = ((λ p f g. let off : None ≡ Some p = sym none ∙ g in absurd (cc)), never v none ws)

-- ---- all units

module _ (same : (s t : WideTree) → (is_same s t ≡ true) ↔ (s ≡ t)) (t : WideTree) (old : List CachedUnit)
    (are : AreUnits (units_of old)) where
  placed_old : AllByRecursion (λ u. HasPathIfBody u.unit) old
  placed_old = all_units HasPathIfBody old are.placed

  module _ (ms : List Mod) (u : WideTree) (law : (q : List ℕ) → CarriesThroughAll ms t q)
      (made : changed_by_all ms t ≡ Some u) (stand : AllStand t (units_of old)) where
    some_once : (x y : WideTree) → Some x ≡ Some y → x ≡ y
    some_once x y e = cc

    pub all_carried : (j : ℕ) (vs : List DocUnit) → AllByRecursion HasPathIfBody vs → AllStand u vs
        → AllByRecursion (IsFromIfCached ms t old) (taken_from (carry ms t (whole_of old)) old j vs)
    all_carried j [] placed stand_now = tt
    all_carried j (v ∷ vs) placed stand_now = (
      by_either same ms t old placed_old v placed.0 (λ w. Stands t w.unit) (all_units (Stands t) old stand) j
          (λ p at w q stands is led. some_once v.tagged.tree w.unit.tagged.tree
          (sym (stand_now.0 p at) ∙ law q u w.unit.tagged.tree p made (stands q is) led)),
      all_carried (j + 1) vs placed.1 stand_now.1,
    )

  pub all_kept : (j : ℕ) (vs : List DocUnit) → AllByRecursion HasPathIfBody vs
      → AllByRecursion (AgreesWithAll (units_of old)) vs
      → AllByRecursion (IsFromIfCached [] t old) (taken_from (carry [] t (whole_of old)) old j vs)
  all_kept j [] placed agree = tt
  all_kept j (v ∷ vs) placed agree = (
    by_either same [] t old placed_old v placed.0 (λ w. HaveOneTree w.unit v)
        (all_units (λ w. HaveOneTree w v) old agree.0) j
        (λ p at w q one is led. sym (one p (is ∙ led) at)),
    all_kept (j + 1) vs placed.1 agree.1,
  )

pub units_taken : (whole : Whole) (old : List CachedUnit) (j : ℕ) (vs : List DocUnit)
    → units_of (taken_from whole old j vs) ≡ vs
units_taken whole old j [] = refl
units_taken whole old j (v ∷ vs) = ap (λ us. v ∷ us) (units_taken whole old (j + 1) vs)
