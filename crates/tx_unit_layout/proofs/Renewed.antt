-- What is laid out of a unit anew, and what is then cached of it.
use Rattle.std.proofs.Common.{◌≡◌, ◌⊎◌, inl, inr, ℕ, zero, suc, List, [], ◌∷◌, map, refl, ap, sym, ◌∙◌, subst}
use Rattle.std.specs.Prelude.{Bool, true, false, if◌then◌else◌, ◌&&◌, is_some, Option, Some, None}
use Rattle.std.specs.Prelude.{Result, Ok, Err, OnOk}
use Rattle.std.specs.List.{All, AllByRecursion, IsDistinct}
use Rattle.std.specs.Str.{bytes_eq}
use Rattle.std.proofs.lemmas.List.Elements.{All-nil, All-from_recursion}
use Rattle.std.proofs.lemmas.Slice.Eq.{bytes_eq-Decides}
use Rattle.tx_origin.specs.Values.{WideValue}
use Rattle.tx_exec_form.specs.Evaluated.{WideTrace}
use Rattle.tx_exec.specs.Outcomes.{wide_trace}
use Rattle.tx_parts.specs.Parts.{Stored}
use Rattle.tx_walk.specs.declared.part.Part.{Part as DonePart}
use Rattle.tx_units.specs.declared.kinds.Unit.{Unit as DocUnit}
use Rattle.tx_walk.specs.Walked.{paths_of}
use Rattle.tx_items.specs.declared.attributes.Attrs.{Attrs}
use Rattle.tx_view_form.specs.Outcomes.{Moment, unit_value}
use Rattle.tx_part_layout.specs.declared.laid.PlacedPart.{PlacedPart}
use Rattle.tx_part_layout.specs.LaidParts.{IsLaidPart, IsOfValue, laid_paths}
use Rattle.tx_bridge.specs.Entries.{Entry, outcome_of}
use Rattle.tx_bridge.specs.HeldParts.{kept_part, kept_parts, flags_of_parts}
use Rattle.tx_bridge.specs.PartsKept.{KeptParts, kept_at, has_parts, parts_if_done, unit_parts, fresh_parts}
use Rattle.tx_unit_layout.specs.LaidAts.{laid_at, laid_ats, shown_at, shown_parts_of, is_by_parts}
use Rattle.tx_unit_layout.specs.LaidUnits.{IsLaidOut, AreOf, AreLaidParts, Stays, WasLaid}
use Rattle.tx_unit_layout.specs.declared.shown.Shown.{Shown}
use Rattle.tx_walk.proofs.Found.{if_true, if_false}
use Rattle.tx_unit_layout.proofs.AtPaths.{all_stay}
use Rattle.tx_unit_layout.proofs.Heads.{first_same, others_same}

-- ---- what was laid out before

-- the layout of a part is of the value that is cached at its path
record IsOfKept (ks : KeptParts) (p : PlacedPart) : Type 0 where
  trace : WideTrace
  kept : kept_at ks p.path ≡ Some trace
  value : p.laid.value.value ≡ trace.value

behind_first : (k : Stored) (ks : KeptParts) (ps : List PlacedPart)
    → AllByRecursion (λ y. bytes_eq k.path y ≡ false) (laid_paths ps) → AllByRecursion (IsOfKept ks) ps
    → AllByRecursion (IsOfKept (k ∷ ks)) ps
behind_first k ks [] others h = tt
behind_first k ks (p ∷ ps) others h = (
  record {
    trace = h.0.trace;
    kept = if_false (bytes_eq k.path p.path) k.trace (kept_at ks p.path) others.0 ∙ h.0.kept;
    value = h.0.value;
  },
  behind_first k ks ps others.1 h.1,
)

each_kept : (ks : KeptParts) (ps : List PlacedPart) → AreOf ks ps → IsDistinct bytes_eq (laid_paths ps)
    → AllByRecursion (IsOfKept ks) ps
unfolding IsDistinct
each_kept [] [] of distinct = tt
each_kept [] (p ∷ ps) of distinct = absurd of
each_kept (k ∷ ks) [] of distinct = tt
each_kept (k ∷ ks) (p ∷ ps) of distinct = (
  record {
    trace = of.0.trace;
    kept =
        if_true (bytes_eq k.path p.path) k.trace (kept_at ks p.path)
        ((bytes_eq-Decides k.path p.path).1 (sym of.0.path))
        ∙ of.0.kept;
    value = of.0.value;
  },
  behind_first k ks ps
      (subst (λ (q : List ℕ). AllByRecursion (λ y. bytes_eq q y ≡ false) (laid_paths ps)) of.0.path distinct.0)
      (each_kept ks ps of.1 distinct.1),
)

either_kept : (ks : KeptParts) (ps : List PlacedPart) → (ps ≡ []) ⊎ AreOf ks ps → IsDistinct bytes_eq (laid_paths ps)
    → AllByRecursion (IsOfKept ks) ps
either_kept ks ps (inl none) distinct = subst (AllByRecursion (IsOfKept ks)) (sym none) tt
either_kept ks ps (inr of) distinct = each_kept ks ps of distinct

of_value : (held : KeptParts) (p : PlacedPart) (d : DonePart) → IsOfKept held p
    → (d.renewed ≡ false → kept_at held d.path ≡ Some (wide_trace d.trace)) → IsOfValue p d
of_value held p d h stays = λ path down.
    let both : Some h.trace ≡ Some (wide_trace d.trace) = sym h.kept ∙ ap (kept_at held) path ∙ stays down in
    let same : h.trace ≡ wide_trace d.trace = cc in
    h.value ∙ ap (λ (t : WideTrace). t.value) same

each_of_value : (held : KeptParts) (ps : List PlacedPart) (d : DonePart) → AllByRecursion (IsOfKept held) ps
    → (d.renewed ≡ false → kept_at held d.path ≡ Some (wide_trace d.trace)) → AllByRecursion (λ p. IsOfValue p d) ps
each_of_value held [] d h stays = tt
each_of_value held (p ∷ ps) d h stays = (of_value held p d h.0 stays, each_of_value held ps d h.1 stays)

of_values : (held : KeptParts) (ps : List PlacedPart) (ds : List DonePart) → AllByRecursion (IsOfKept held) ps
    → Stays held (kept_parts ds) (flags_of_parts ds) → AllByRecursion (λ d. All (λ p. IsOfValue p d) ps) ds
of_values held ps [] h stays = tt
of_values held ps (d ∷ ds) h stays = (
  All-from_recursion (λ p. IsOfValue p d) ps
      (each_of_value held ps d h (λ down. stays zero (kept_part d) refl (ap (λ b. Some b) down))),
  of_values held ps ds h (λ k s. stays (suc k) s),
)

-- the layouts of parts whose flags are down are of their values
pub all_of_value : (width : ℕ) (held : KeptParts) (ps : List PlacedPart) (ds : List DonePart)
    → AreLaidParts width held ps → Stays held (kept_parts ds) (flags_of_parts ds)
    → All (λ d. All (λ p. IsOfValue p d) ps) ds
all_of_value width held ps ds laid stays =
    All-from_recursion (λ d. All (λ p. IsOfValue p d) ps) ds
    (of_values held ps ds (either_kept held ps laid.of_kept laid.distinct) stays)

-- ---- what is cached of the parts

abbrev pub values_of : List PlacedPart → List WideValue
values_of ps = map (λ p. p.laid.value.value) ps

pub are_of : (ps : List PlacedPart) (ds : List DonePart) → laid_paths ps ≡ paths_of ds
    → values_of ps ≡ map (λ d. d.trace.value) ds → AreOf (kept_parts ds) ps
are_of [] [] paths values = tt
are_of [] (d ∷ ds) paths values = cc
are_of (p ∷ ps) [] paths values = cc
are_of (p ∷ ps) (d ∷ ds) paths values = (
  record {
    path = first_same p.path d.path _ _ paths;
    trace = wide_trace d.trace;
    kept = refl;
    value = first_same p.laid.value.value d.trace.value _ _ values;
  },
  are_of ps ds (others_same p.path d.path _ _ paths) (others_same p.laid.value.value d.trace.value _ _ values),
)

-- the layouts of the parts are of what is cached of them
pub laid_parts : (width : ℕ) (ps : List PlacedPart) (ds : List DonePart) → All (λ p. IsLaidPart width p.laid.value) ps
    → IsDistinct bytes_eq (paths_of ds) → laid_paths ps ≡ paths_of ds
    → values_of ps ≡ map (λ d. d.trace.value) ds → AreLaidParts width (kept_parts ds) ps
laid_parts width ps ds each distinct paths values = record {
  each = each;
  distinct = subst (IsDistinct bytes_eq) (sym paths) distinct;
  of_kept = inr (are_of ps ds paths values);
}

pub no_parts : (width : ℕ) (ks : KeptParts) (ps : List PlacedPart) → ps ≡ [] → AreLaidParts width ks ps
unfolding IsDistinct
no_parts width ks ps is = subst (AreLaidParts width ks) (sym is) (record {
  each = All-nil (λ p. IsLaidPart width p.laid.value);
  distinct = tt;
  of_kept = inl refl;
})

-- ---- the unit

same_attrs : (a b : Attrs) (o : Option Attrs) → o ≡ Some a → o ≡ Some b → a ≡ b
same_attrs a b o h g = let both : Some a ≡ Some b = sym h ∙ g in cc

module _ (width : ℕ) (e : Entry) (ds : List DonePart) (a : Attrs) (x : Shown)
    (distinct : IsDistinct bytes_eq (paths_of ds)) (path : x.path ≡ e.unit.path) (laid : x.laid ≡ Some a)
    (out : IsLaidOut width a (unit_value e.trace) e.unit.path x) where
  pub now_laid : map laid_at x.parts ≡ laid_ats a e (kept_parts ds) → AreOf (kept_parts ds) x.parts
      → AreLaidParts width (kept_parts ds) x.parts → WasLaid width e (kept_parts ds) (flags_of_parts ds) x
  now_laid by_parts of parts = record {
    held = kept_parts ds;
    stays = all_stay ds (flags_of_parts ds) distinct;
    laid = record {
      path = path;
      laid = λ b is.
          subst (λ (c : Attrs). IsLaidOut width c (unit_value e.trace) e.unit.path x)
          (same_attrs a b x.laid laid is) out;
      by_parts = λ b is.
          by_parts ∙ ap (λ c. laid_ats c e (kept_parts ds)) (same_attrs a b x.laid laid is);
      of_kept = λ b is. of;
      same = λ b is. refl;
      parts = parts;
    };
  }

  whole_laid : is_by_parts e ≡ false → kept_parts ds ≡ [] → x.parts ≡ []
      → WasLaid width e (kept_parts ds) (flags_of_parts ds) x
  whole_laid whole nothing none =
      now_laid
      (ap (map laid_at) none
      ∙ sym (ap (λ b. if b then map shown_at (shown_parts_of a e (kept_parts ds)) else []) whole))
      (subst (AreOf (kept_parts ds)) (sym none) (subst (λ (ks : KeptParts). AreOf ks []) (sym nothing) tt))
      (no_parts width (kept_parts ds) x.parts none)

-- a unit with this path and this value that a call lays out whole
pub laid_whole : {X E : Type 0} (r : Result X E) (width : ℕ) (e : Entry) (ds : List DonePart) (a : Attrs)
    (v : WideValue) (path : Option (List ℕ)) (x : Shown) → IsDistinct bytes_eq (paths_of ds) → is_by_parts e ≡ false
    → kept_parts ds ≡ [] → path ≡ e.unit.path → v ≡ unit_value e.trace → OnOk r (IsLaidOut width a v path x)
    → OnOk r (x.laid ≡ Some a) → OnOk r (x.parts ≡ []) → OnOk r (WasLaid width e (kept_parts ds) (flags_of_parts ds) x)
laid_whole (Ok n) width e ds a v path x distinct whole nothing at value out laid none =
    let there : IsLaidOut width a (unit_value e.trace) e.unit.path x =
    subst (λ (p : Option (List ℕ)). IsLaidOut width a (unit_value e.trace) p x) at
    (subst (λ (w : WideValue). IsLaidOut width a w path x) value out) in
    whole_laid width e ds a x distinct (there.shown.path_is) laid there whole nothing none
laid_whole (Err f) width e ds a v path x distinct whole nothing at value out laid none = tt

-- ---- units that are laid out whole

pub over_whole : (b : Bool) (o : Option WideTrace) → o ≡ None → b && is_some o ≡ false
over_whole true o h = ap (λ (t : Option WideTrace). is_some t) h
over_whole false o h = refl

-- nothing is cached of their parts
pub no_parts_kept : (m : Moment) (u : DocUnit) (o : Option WideTrace) (ks : KeptParts)
    → has_parts u && is_some o ≡ false → o ≡ outcome_of m u → ks ≡ fresh_parts m u → ks ≡ []
no_parts_kept m u o ks whole is kept =
    kept ∙ by (has_parts u) (outcome_of m u) (ap (λ r. has_parts u && is_some r) (sym is) ∙ whole)
  where
    by : (b : Bool) (r : Option WideTrace) → b && is_some r ≡ false
        → (if b then parts_if_done r (unit_parts m u) else []) ≡ []
    by true None h = refl
    by true (Some trace) h = cc
    by false r h = refl

pub plain_whole : (b : Bool) (o : Option WideTrace) → b ≡ false → b && is_some o ≡ false
plain_whole b o h = ap (λ c. c && is_some o) h
