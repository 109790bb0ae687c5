-- The lines of the parts of a unit, where the unit is unchanged, and where modifications are inside it.
use Rattle.std.proofs.Common.{◌≡◌, ℕ, true, List, [], ◌∷◌, ◌++◌, map, Option, Some, None, refl, ap, sym}
use Rattle.std.proofs.Common.{subst, ◌∙◌, ◌⊎◌, inl, inr, zero, suc}
use Rattle.std.proofs.lemmas.Option.{same_Some}
use Rattle.std.proofs.lemmas.List.Elements.{All-nil, All-from_recursion, recursion_from_All}
use Rattle.std.specs.List.{AllByRecursion, IsDistinct, All, filter_map, cons_option}
use Rattle.std.specs.Option.{option_map, option_map_or}
use Rattle.std.specs.Prelude.{is_some, slice_get, false, ◌&&◌}
use Rattle.std.specs.Str.{bytes_eq}
use Rattle.tx_tree.specs.WideTree.{WideTree}
use Rattle.tx_mod.specs.declared.mods.Mod.{Mod}
use Rattle.tx_mod.specs.Followed.{carried_by_all}
use Rattle.tx_exec_form.specs.Evaluated.{WideTrace}
use Rattle.tx_units.specs.declared.kinds.Unit.{Unit as DocUnit}
use Rattle.tx_walk.specs.declared.part.Part.{Part as DonePart}
use Rattle.tx_items.specs.declared.attributes.Attrs.{Attrs}
use Rattle.tx_part_layout.specs.declared.laid.PlacedPart.{PlacedPart}
use Rattle.tx_part_layout.specs.LaidParts.{IsLaidPart, laid_paths}
use Rattle.tx_bridge.specs.CarryingParts.{carried_below, part_at, and_part, parts_behind, parts_within}
use Rattle.tx_bridge.specs.Entries.{Entry, Kept, units_of}
use Rattle.tx_bridge.specs.InPlace.{is_changed, is_gone, are_within, IsOneChanged}
use Rattle.tx_bridge.specs.HeldParts.{AllPartsHold}
use Rattle.tx_bridge.specs.MovedParts.{moves_of, places_by, AreMovedParts}
use Rattle.tx_bridge.proofs.ChangedParts.{AreMovedAt}
use Rattle.tx_bridge.specs.PartsKept.{KeptParts}
use Rattle.tx_unit_layout.specs.LaidAts.{LaidAt, laid_at, laid_ats}
use Rattle.tx_unit_layout.specs.LaidUnits.{IsLaid, AreOf, AreLaidParts}
use Rattle.tx_unit_layout.specs.Moving.{WidePart, wide_part, put_at, laid_by, PartPlaces, put_along}
use Rattle.tx_unit_layout.proofs.Putting.{wide_put}
use Rattle.tx_unit_layout.specs.declared.shown.Shown.{Shown}
use Rattle.tx_view.specs.Exchanged.{left_at}
use Rattle.tx_view.specs.Laid.{AreLaid, IsBlank, parts_left}

-- ---- nothing is laid out

nothing_twice : IsDistinct bytes_eq []
unfolding IsDistinct
nothing_twice = tt

pub no_parts : (width : ℕ) (ks : KeptParts) → AreLaidParts width ks []
no_parts width ks = record {
  each = All-nil (λ (p : PlacedPart). IsLaidPart width p.laid.value);
  distinct = nothing_twice;
  of_kept = inl refl;
}

pub none_wide : (qs : List PlacedPart) → map wide_part qs ≡ [] → qs ≡ []
none_wide [] e = refl
none_wide (q ∷ qs) e = cc

-- but the lines of these parts
pub arrived_is_laid : (width : ℕ) (e : Entry) (ks : KeptParts) (ps : List WidePart) (x : Shown)
    → IsBlank e.unit.path ps x → AreLaidParts width ks x.parts → IsLaid width e ks ks x
arrived_is_laid width e ks ps x blank parts = record {
  path = blank.path_is;
  laid = λ a is. absurd (off a is);
  by_parts = λ a is. absurd (off a is);
  of_kept = λ a is. absurd (off a is);
  same = λ a is. refl;
  parts = parts;
}
  where
    off : (a : Attrs) → x.laid ≡ Some a → ⊥
    off a is = let none : None ≡ Some a = sym blank.laid ∙ is in cc

pub blank_is_laid : (width : ℕ) (e : Entry) (ks : KeptParts) (x : Shown) → IsBlank e.unit.path [] x
    → IsLaid width e ks ks x
blank_is_laid width e ks x blank =
    arrived_is_laid width e ks [] x blank
    (subst (AreLaidParts width ks) (sym (none_wide x.parts blank.parts)) (no_parts width ks))

-- ---- a unit with the same tree

pub same_ats : (a : Attrs) (ks : KeptParts) (o : Option WideTrace) (u v : DocUnit) → v.tagged.tree ≡ u.tagged.tree
    → is_some v.path ≡ is_some u.path
    → laid_ats a (record { unit = u; trace = o }) ks ≡ laid_ats a (record { unit = v; trace = o }) ks
same_ats a ks o u v tree placed =
    ap (λ t. laid_ats a (record { unit = record u { tagged = record u.tagged { tree = t } }; trace = o }) ks) (sym tree)
    ∙ by u.path v.path placed
  where
    by : (p q : Option (List ℕ)) → is_some q ≡ is_some p
        → laid_ats a (record { unit = record v { path = p }; trace = o }) ks
        ≡ laid_ats a (record { unit = record v { path = q }; trace = o }) ks
    by None None e = refl
    by None (Some q) e = cc
    by (Some p) None e = cc
    by (Some p) (Some q) e = refl

-- ---- parts that move

abbrev pub at_wide : WidePart → LaidAt
at_wide w = record { path = w.path; before = w.laid.before }

pub wide_ats : (qs : List PlacedPart) → map at_wide (map wide_part qs) ≡ map laid_at qs
wide_ats [] = refl
wide_ats (q ∷ qs) = ap (λ ls. laid_at q ∷ ls) (wide_ats qs)

-- the parts that are cached, by where they are in the unit afterwards
module _ (g : List ℕ → Option (List ℕ)) where
  abbrev kept_by : KeptParts → KeptParts
  kept_by [] = []
  kept_by (k ∷ ks) = and_part (option_map (λ r. record { path = r; trace = k.trace }) (g k.path)) (kept_by ks)

  abbrev put_entry : LaidAt → Option LaidAt
  put_entry l = option_map (λ q. record l { path = q }) (g l.path)

  ats_by : (ps : List PlacedPart)
      → map at_wide (laid_by (map g (laid_paths ps)) ps) ≡ filter_map put_entry (map laid_at ps)
  ats_by [] = refl
  ats_by (p ∷ ps) = by (g p.path) (ats_by ps)
    where
      by : (o : Option (List ℕ))
          → map at_wide (laid_by (map g (laid_paths ps)) ps) ≡ filter_map put_entry (map laid_at ps)
          → map at_wide (laid_by (o ∷ map g (laid_paths ps)) (p ∷ ps))
          ≡ cons_option (option_map (λ q. record (laid_at p) { path = q }) o) (filter_map put_entry (map laid_at ps))
      by None e = e
      by (Some q) e = ap (λ ls. record (laid_at p) { path = q } ∷ ls) e

  -- the lines of parts are of those that are cached
  abbrev AreOfKept : ℕ → KeptParts → List PlacedPart → Type 0
  AreOfKept width ks qs = AllByRecursion (λ p. IsLaidPart width p.laid.value) qs × AreOf ks qs

  of_by : (width : ℕ) (ks : KeptParts) (ps qs : List PlacedPart) → AreOfKept width ks ps
      → map wide_part qs ≡ laid_by (map g (laid_paths ps)) ps → AreOfKept width (kept_by ks) qs
  of_by width [] [] qs h is = subst (AreOfKept width []) (sym (none_wide qs is)) h
  of_by width [] (p ∷ ps) qs h is = absurd h.1
  of_by width (k ∷ ks) [] qs h is = absurd h.1
  of_by width (k ∷ ks) (p ∷ ps) qs h is =
      subst (λ o. AreOfKept width (and_part (option_map (λ r. record { path = r; trace = k.trace }) o) (kept_by ks)) qs)
      (ap g h.1.0.path)
      (by (g p.path) qs is (λ rs e. of_by width ks ps rs (h.0.1, h.1.1) e))
    where
      by : (o : Option (List ℕ)) (rs : List PlacedPart)
          → map wide_part rs ≡ laid_by (o ∷ map g (laid_paths ps)) (p ∷ ps)
          → ((ss : List PlacedPart) → map wide_part ss ≡ laid_by (map g (laid_paths ps)) ps
          → AreOfKept width (kept_by ks) ss)
          → AreOfKept width (and_part (option_map (λ r. record { path = r; trace = k.trace }) o) (kept_by ks)) rs
      by None rs e rest = rest rs e
      by (Some q) [] e rest = cc
      by (Some q) (r ∷ rs) e rest =
          let same : wide_part r ≡ put_at q p = cc in
          let more : map wide_part rs ≡ laid_by (map g (laid_paths ps)) ps = cc in
          let later = rest rs more in (
            (subst (IsLaidPart width) (sym (ap (λ (w : WidePart). w.laid) same)) h.0.0, later.0),
            (
              record {
                path = ap (λ (w : WidePart). w.path) same;
                trace = h.1.0.trace;
                kept = h.1.0.kept;
                value = ap (λ (w : WidePart). w.laid.value) same ∙ h.1.0.value;
              },
              later.1,
            ),
          )

-- ---- modifications inside the unit

behind_is : (ms : List Mod) (t : WideTree) (p : List ℕ) (ks : KeptParts)
    → parts_behind ms t p ks ≡ kept_by (carried_below ms t p) ks
behind_is ms t p [] = refl
behind_is ms t p (k ∷ ks) =
    ap (and_part (part_at p (carried_by_all ms t (p ++ k.path)) k)) (behind_is ms t p ks)

pub paths_laid : (ks : KeptParts) (ps : List PlacedPart) → AreOf ks ps → map (λ k. k.path) ks ≡ laid_paths ps
paths_laid [] [] h = refl
paths_laid [] (p ∷ ps) h = absurd h
paths_laid (k ∷ ks) [] h = absurd h
paths_laid (k ∷ ks) (p ∷ ps) h =
    ap (λ q. q ∷ map (λ k. k.path) ks) (sym h.0.path) ∙ ap (λ qs. p.path ∷ qs) (paths_laid ks ps h.1)

-- no two have one path
abbrev pub AreDistinct : KeptParts → Type 0
AreDistinct ks = IsDistinct bytes_eq (map (λ k. k.path) ks)

pub all_distinct : (es : Kept) (pss : List KeptParts) → AllPartsHold es pss → AllByRecursion AreDistinct pss
all_distinct [] [] h = tt
all_distinct [] (ks ∷ pss) h = absurd h
all_distinct (e ∷ es) [] h = absurd h
all_distinct (e ∷ es) (ks ∷ pss) h = (h.0.distinct, all_distinct es pss h.1)

left_some : (width : ℕ) (ms : List Mod) (t : WideTree) (p : List ℕ) (ks : KeptParts) (ps qs : List PlacedPart)
    → All (λ r. IsLaidPart width r.laid.value) ps → AreOf ks ps
    → map wide_part qs ≡ laid_by (map (carried_below ms t p) (laid_paths ps)) ps → AreDistinct (parts_behind ms t p ks)
    → AreLaidParts width (parts_behind ms t p ks) qs
left_some width ms t p ks ps qs each of is apart =
    let h = of_by (carried_below ms t p) width ks ps qs
    (recursion_from_All (λ (r : PlacedPart). IsLaidPart width r.laid.value) ps each, of) is in
    let behind : AreOf (parts_behind ms t p ks) qs =
    subst (λ (js : KeptParts). AreOf js qs) (sym (behind_is ms t p ks)) h.1 in
    record {
      each = All-from_recursion (λ (r : PlacedPart). IsLaidPart width r.laid.value) qs h.0;
      distinct = subst (IsDistinct bytes_eq) (paths_laid (parts_behind ms t p ks) qs behind) apart;
      of_kept = inr behind;
    }

-- what is left of the unit that the modifications are inside
pub left_laid : (width : ℕ) (ms : List Mod) (t : WideTree) (e : Entry) (ks : KeptParts) (y : Shown)
    (qs : List PlacedPart) → IsLaid width e ks ks y → map wide_part qs ≡ parts_left ms t y.path y.parts
    → AreDistinct (parts_within ms t e.unit ks) → AreLaidParts width (parts_within ms t e.unit ks) qs
left_laid width ms t e ks y qs laid is apart =
    by e.unit.path (is ∙ ap (λ o. parts_left ms t o y.parts) laid.path) apart laid.parts.of_kept
  where
    by : (o : Option (List ℕ)) → map wide_part qs ≡ parts_left ms t o y.parts
        → AreDistinct (option_map_or (λ p. parts_behind ms t p ks) o []) → (y.parts ≡ []) ⊎ AreOf ks y.parts
        → AreLaidParts width (option_map_or (λ p. parts_behind ms t p ks) o []) qs
    by None same d of = subst (AreLaidParts width []) (sym (none_wide qs same)) (no_parts width [])
    by (Some p) same d (inl none) =
        subst (AreLaidParts width (parts_behind ms t p ks))
        (sym (none_wide qs (same ∙ ap (λ ps. laid_by (map (carried_below ms t p) (laid_paths ps)) ps) none)))
        (no_parts width (parts_behind ms t p ks))
    by (Some p) same d (inr of) = left_some width ms t p ks y.parts qs laid.parts.each of same d

pub left_ats : (ms : List Mod) (t : WideTree) (path : Option (List ℕ)) (y : Shown) (qs : List PlacedPart)
    → y.path ≡ path → map wide_part qs ≡ parts_left ms t y.path y.parts
    → map laid_at qs ≡ left_at ms t path (map laid_at y.parts)
left_ats ms t path y qs is left =
    sym (wide_ats qs) ∙ ap (map at_wide) (left ∙ ap (λ o. parts_left ms t o y.parts) is) ∙ by path
  where
    by : (o : Option (List ℕ)) → map at_wide (parts_left ms t o y.parts) ≡ left_at ms t o (map laid_at y.parts)
    by None = refl
    by (Some p) = ats_by (carried_below ms t p) y.parts

-- ---- what the calls return

-- the entry of a unit, and what is cached of its parts
pub record IsFound (width : ℕ) (es : Kept) (pss : List KeptParts) (i : ℕ) (x : Shown) : Type 0 where
  pub entry : Entry
  pub parts : KeptParts
  pub unit : slice_get (units_of es) i ≡ Some entry.unit
  pub kept : slice_get pss i ≡ Some parts
  pub laid : IsLaid width entry parts parts x

pub found : (width : ℕ) (es : Kept) (pss : List KeptParts) (ys : List Shown) (i : ℕ) (x : Shown)
    → AreLaid width es pss ys → slice_get ys i ≡ Some x → IsFound width es pss i x
found width [] [] [] i x h at = cc
found width [] [] (y ∷ ys) i x h at = absurd h
found width [] (ks ∷ pss) ys i x h at = absurd h
found width (e ∷ es) [] ys i x h at = absurd h
found width (e ∷ es) (ks ∷ pss) [] i x h at = absurd h
found width (e ∷ es) (ks ∷ pss) (y ∷ ys) zero x h at = record {
  entry = e;
  parts = ks;
  unit = refl;
  kept = refl;
  laid = subst (IsLaid width e ks ks) (same_Some y x at) h.0;
}
found width (e ∷ es) (ks ∷ pss) (y ∷ ys) (suc i) x h at =
    let f = found width es pss ys i x h.1 at in
    record { entry = f.entry; parts = f.parts; unit = f.unit; kept = f.kept; laid = f.laid }

-- the parts are put where those that are cached are afterwards
pub left_there : (width i buffer : ℕ) (ms : List Mod) (t : WideTree) (es : Kept) (pss : List KeptParts)
    (ys : List Shown) (os : List (ℕ × Option DonePart)) (x : Shown) (places : PartPlaces) → AreLaid width es pss ys
    → IsOneChanged i buffer ms (units_of es) → AreMovedAt i ms t es pss os → slice_get ys i ≡ Some x
    → places ≡ moves_of os → map wide_part (put_along 0 places x.parts) ≡ parts_left ms t x.path x.parts
left_there width i buffer ms t es pss ys os x places laid one moved at told_by =
    let f : IsFound width es pss i x = found width es pss ys i x laid at in
    let same : one.unit ≡ f.entry.unit = same_Some one.unit f.entry.unit (sym one.there ∙ f.unit) in
    let told : AreMovedParts ms t f.entry.unit f.parts os = moved f.entry.unit f.parts f.unit f.kept in
    ap (λ ns. map wide_part (put_along 0 ns x.parts)) told_by ∙ wide_put 0 (moves_of os) x.parts
    ∙ by f.entry.unit.path (ap (is_changed ms) (sym same) ∙ one.changed) f.parts told.places f.laid.parts.of_kept
    ∙ ap (λ o. parts_left ms t o x.parts) (sym f.laid.path)
  where
    by : (o : Option (List ℕ)) → option_map_or (λ path. is_gone path ms && are_within path ms) o false ≡ true
        → (ks : KeptParts) → ((p : List ℕ) → o ≡ Some p
        → places_by 0 (moves_of os) (map (λ k. k.path) ks) ≡ map (carried_below ms t p) (map (λ k. k.path) ks))
        → (x.parts ≡ []) ⊎ AreOf ks x.parts
        → laid_by (places_by 0 (moves_of os) (laid_paths x.parts)) x.parts ≡ parts_left ms t o x.parts
    by None changed ks places of = cc
    by (Some p) changed ks places (inl none) =
        ap (λ ps. laid_by (places_by 0 (moves_of os) (laid_paths ps)) ps) none
        ∙ ap (λ ps. laid_by (map (carried_below ms t p) (laid_paths ps)) ps) (sym none)
    by (Some p) changed ks places (inr of) =
        let paths = paths_laid ks x.parts of in
        ap (λ gs. laid_by gs x.parts)
        (ap (places_by 0 (moves_of os)) (sym paths) ∙ places p refl ∙ ap (map (carried_below ms t p)) paths)
