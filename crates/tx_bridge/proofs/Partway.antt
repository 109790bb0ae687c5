-- A refresh at some unit, before which all units are up to date.
use Rattle.std.proofs.Common.{◌≡◌, ℕ, zero, suc, ◌+◌, ◌<◌, ◌≤◌, List, [], ◌∷◌, ◌++◌, length, take, drop, slice_set, map}
use Rattle.std.proofs.Common.{slice_index_or, refl, ap, sym, subst, ◌∙◌, arith, ◌⊎◌, inl, inr}
use Rattle.std.proofs.lemmas.List.{drop_more, drop-drop, drop-set-lt, append_assoc, take_more_set, take_at}
use Rattle.std.proofs.lemmas.List.{take-append-drop, set-get_or, map-append, append-nil, length-map, drop_all}
use Rattle.std.proofs.lemmas.List.Elements.{All-set}
use Rattle.std.proofs.lemmas.Option.{same_Some}
use Rattle.std.proofs.lemmas.Grind.{common_steps}
use Rattle.std.specs.List.{All}
use Rattle.std.specs.Prelude.{Bool, true, false, not, Option, Some, Result, Ok, Err, IfOk, OnOk, OnErr, slice_get}
use Rattle.tx_env.specs.Environments.{NameMap}
use Rattle.tx_exec_form.specs.Evaluated.{WideTrace}
use Rattle.tx_exec.specs.Outcomes.{wide_outcome}
use Rattle.tx_view_form.specs.declared.TheConstants.{MOST_VIEW_STEPS}
use Rattle.tx_view_form.specs.Outcomes.{Moment, behind, env_behind}
use Rattle.tx_units.specs.declared.kinds.Unit.{Unit as DocUnit}
use Rattle.tx_bridge.specs.declared.bridge.Bridge.{Bridge}
use Rattle.tx_bridge.specs.Entries.{Entry, units_of, fresh_from, outcome_of, behind_all}
use Rattle.tx_parts.specs.Opening.{Sheller}
use Rattle.tx_bridge.specs.Reached.{unit_stays_by, reached_by_from}
use Rattle.tx_bridge.specs.PartsKept.{KeptParts, fresh_parts_by, fresh_parts_by_from, part_flags_by}
use Rattle.tx_bridge.specs.PartsKept.{part_flags_by_from}
use Rattle.tx_bridge.specs.Spares.{Spares, first_spare}
use Rattle.tx_walk.specs.LayerTraces.{TreeTrace}
use Rattle.tx_bridge.specs.Charges.{charge_by, charges_by, UnitLayersKnown, AllLayersKnown}
use Rattle.tx_bridge.specs.HeldParts.{kept_parts, flags_of_parts}
use Rattle.tx_bridge.specs.Settled.{AgreesWith, AreSettled}
use Rattle.tx_bridge.specs.Sound.{IsSoundBridge, kept_unit, entries_of, stored_parts_in, part_flags_in, layers_in}
use Rattle.tx_bridge.specs.Sound.{flags_of}
use Rattle.tx_bridge.specs.Sound.{sources_in}

abbrev pub units_in : List Bridge → List DocUnit
units_in bs = units_of (entries_of bs)

-- unflagged units are as they were
abbrev pub Stays : List Bridge → List Bridge → Type 0
Stays old now = (k : ℕ) → slice_get (flags_of now) k ≡ Some false
    → slice_get (entries_of now) k ≡ slice_get (entries_of old) k

-- the parts of unflagged units are as they were
abbrev pub SameParts : List Bridge → List Bridge → Type 0
SameParts old now = (k : ℕ) → slice_get (flags_of now) k ≡ Some false
    → slice_get (stored_parts_in now) k ≡ slice_get (stored_parts_in old) k

-- After i units, at the moment m, with these charges, of a refresh from the moment `start` with these spares. What is
-- done, and what is left from here, are all. Where the flag is set, what is left agrees with what names have.
pub record Partway (sheller : Sheller) (old now : List Bridge) (spares : Spares) (start : Moment) (i : ℕ) (m : Moment)
    (flag : Bool) (before after spent : ℕ) : Type 0 where
  pub paid : after ≡ before + spent
  pub room : spent + m.left ≤ MOST_VIEW_STEPS
  pub settled : flag ≡ true → AreSettled m.env (entries_of (drop i old))
  pub last : behind_all m (units_in (drop i old)) ≡ behind_all start (units_in old)
  pub fresh : entries_of (take i now) ++ fresh_from m (units_in (drop i old)) ≡ fresh_from start (units_in old)
  pub parts : stored_parts_in (take i now) ++ fresh_parts_by_from sheller m (units_in (drop i old))
      ≡ fresh_parts_by_from sheller start (units_in old)
  pub marks : part_flags_in (take i now)
      ++ part_flags_by_from sheller m (entries_of (drop i old)) (stored_parts_in (drop i old))
      ≡ part_flags_by_from sheller start (entries_of old) (stored_parts_in old)
  pub rest : drop i now ≡ drop i old
  pub flags : flags_of (take i now) ++ reached_by_from sheller m (entries_of (drop i old)) (stored_parts_in (drop i
      old))
      ≡ reached_by_from sheller start (entries_of old) (stored_parts_in old)
  pub steps : after + charges_by sheller m (entries_of (drop i old)) (stored_parts_in (drop i old)) (layers_in (drop i
      old))
      (drop i spares)
      ≡ before + charges_by sheller start (entries_of old) (stored_parts_in old) (layers_in old) spares
  pub known : (lss : List (List TreeTrace)) → AllLayersKnown sheller m (units_in (drop i old)) lss
      → AllLayersKnown sheller start (units_in old) (layers_in (take i now) ++ lss)
  pub front : (us : List DocUnit) (lss : List (List TreeTrace)) → AllLayersKnown sheller m us lss
      → AllLayersKnown sheller start (units_in (take i old) ++ us) (layers_in (take i now) ++ lss)
  pub sound : All IsSoundBridge now
  pub units : units_in now ≡ units_in old
  pub sources : sources_in now ≡ sources_in old
  pub stays : Stays old now
  pub same : SameParts old now

pub begun : (sheller : Sheller) (old : List Bridge) (spares : Spares) (start : Moment) (flag : Bool) (before : ℕ)
    → All IsSoundBridge old → (flag ≡ true → AreSettled start.env (entries_of old)) → start.left ≤ MOST_VIEW_STEPS
    → Partway sheller old old spares start 0 start flag before before 0
begun sheller old spares start flag before sound settled left = record {
  paid = omega arith;
  room = omega (arith, left);
  settled = settled;
  last = refl;
  fresh = refl;
  parts = refl;
  marks = refl;
  rest = refl;
  flags = refl;
  steps = refl;
  known = λ lss h. h;
  front = λ us lss h. h;
  sound = sound;
  units = refl;
  sources = refl;
  stays = λ k e. refl;
  same = λ k e. refl;
}

-- what an element that is set says of itself
set_stays : {A : Type 0} (f : Bridge → A) (was : ℕ → Option A) (now : List Bridge) (i : ℕ) (y : Bridge)
    → ((k : ℕ) → slice_get (flags_of now) k ≡ Some false → slice_get (map f now) k ≡ was k)
    → (y.reached ≡ false → Some (f y) ≡ was i) → (k : ℕ)
    → slice_get (flags_of (slice_set now i y)) k ≡ Some false
    → slice_get (map f (slice_set now i y)) k ≡ was k
set_stays f was [] i y s h k e = s k e
set_stays f was (x ∷ xs) zero y s h zero e = h (same_Some y.reached false e)
set_stays f was (x ∷ xs) zero y s h (suc k) e = s (suc k) e
set_stays f was (x ∷ xs) (suc i) y s h zero e = s zero e
set_stays f was (x ∷ xs) (suc i) y s h (suc k) e = set_stays f (λ n. was (suc n)) xs i y (λ n. s (suc n)) h k e

set_units : (now : List Bridge) (i : ℕ) (d y : Bridge) → i < length now → y.unit ≡ (slice_index_or now i d).unit
    → units_in (slice_set now i y) ≡ units_in now
set_units [] i d y inside e = absurd (omega (arith, inside))
set_units (x ∷ xs) zero d y inside e = ap (λ u. u ∷ units_in xs) e
set_units (x ∷ xs) (suc i) d y inside e = ap (λ us. x.unit ∷ us) (set_units xs i d y (omega (arith, inside)) e)

set_sources : (now : List Bridge) (i : ℕ) (d y : Bridge) → i < length now
    → y.source ≡ (slice_index_or now i d).source → sources_in (slice_set now i y) ≡ sources_in now
set_sources [] i d y inside e = absurd (omega (arith, inside))
set_sources (x ∷ xs) zero d y inside e = ap (λ s. s ∷ sources_in xs) e
set_sources (x ∷ xs) (suc i) d y inside e =
    ap (λ ss. x.source ∷ ss) (set_sources xs i d y (omega (arith, inside)) e)

get_dropped : {A : Type 0} (f : Bridge → A) (xs : List Bridge) (i : ℕ) (b : Bridge) (rest : List Bridge)
    → drop i xs ≡ b ∷ rest → slice_get (map f xs) i ≡ Some (f b)
get_dropped f [] zero b rest e = cc
get_dropped f [] (suc i) b rest e = cc
get_dropped f (x ∷ xs) zero b rest e = let same : x ≡ b = cc in ap (λ y. Some (f y)) same
get_dropped f (x ∷ xs) (suc i) b rest e = get_dropped f xs i b rest e

taken_suc : (xs : List Bridge) (i : ℕ) (b : Bridge) (rest : List Bridge) → drop i xs ≡ b ∷ rest
    → take (suc i) xs ≡ take i xs ++ b ∷ []
taken_suc [] zero b rest e = cc
taken_suc [] (suc i) b rest e = cc
taken_suc (x ∷ xs) zero b rest e = let same : x ≡ b = cc in ap (λ y. y ∷ []) same
taken_suc (x ∷ xs) (suc i) b rest e = ap (λ ys. x ∷ ys) (taken_suc xs i b rest e)

taken_to : (xs : List Bridge) (i : ℕ) (b : Bridge) (rest : List Bridge) → drop i xs ≡ b ∷ rest
    → take (i + 1) xs ≡ take i xs ++ b ∷ []
taken_to xs i b rest e =
    let next : i + 1 ≡ suc i = omega arith in
    ap (λ n. take n xs) next ∙ taken_suc xs i b rest e

units_append : (xs ys : List Bridge) → units_in (xs ++ ys) ≡ units_in xs ++ units_in ys
units_append [] ys = refl
units_append (x ∷ xs) ys = ap (λ us. x.unit ∷ us) (units_append xs ys)

-- the unit is brought to its outcome at the moment
pub record IsBrought (sheller : Sheller) (b y : Bridge) (m : Moment) : Type 0 where
  pub unit : y.unit ≡ b.unit
  pub fresh : wide_outcome y.kept ≡ outcome_of m b.unit
  pub parts : kept_parts y.parts ≡ fresh_parts_by sheller m b.unit

abbrev entry_with : DocUnit → Option WideTrace → Entry
entry_with u o = record { unit = u; trace = o }

entry_is : (u v : DocUnit) (o r : Option WideTrace) → u ≡ v → o ≡ r → entry_with u o ≡ entry_with v r
entry_is u v o r e f = ap (λ x. entry_with x o) e ∙ ap (entry_with v) f

abbrev parts_of : Bridge → KeptParts
parts_of b = kept_parts b.parts

brought_entry : (sheller : Sheller) (b y : Bridge) (m : Moment) → IsBrought sheller b y m
    → kept_unit y ≡ entry_with b.unit (outcome_of m b.unit)
brought_entry sheller b y m h = entry_is y.unit b.unit (wide_outcome y.kept) (outcome_of m b.unit) h.unit h.fresh

module _ (sheller : Sheller) (old now : List Bridge) (spares : Spares) (start : Moment) (i : ℕ) (m : Moment)
    (flag : Bool) (before after spent : ℕ) (p : Partway sheller old now spares start i m flag before after spent)
    (inside : i < length now) (d : Bridge) where
  b : Bridge
  b = slice_index_or now i d

  here : drop i now ≡ b ∷ drop (i + 1) now
  unfolding b
  here = drop_more now i d inside

  others : drop (i + 1) old ≡ drop (i + 1) now
  others = sym (drop-drop 1 i old) ∙ ap (drop 1) (sym p.rest ∙ here)

  ahead : drop i old ≡ b ∷ drop (i + 1) old
  ahead = sym p.rest ∙ here ∙ ap (λ bs. b ∷ bs) (sym others)

  pub next_is : drop i old ≡ slice_index_or now i d ∷ drop (i + 1) old
  unfolding b
  next_is = ahead

  settled_here : flag ≡ true → AreSettled m.env (kept_unit b ∷ entries_of (drop (i + 1) old))
  settled_here e = subst (λ bs. AreSettled m.env (entries_of bs)) ahead (p.settled e)

  -- where all agree, the next looks agree
  pub agrees_next : flag ≡ true → AgreesWith m.env (wide_outcome (slice_index_or now i d).kept)
  unfolding b
  agrees_next e = (settled_here e).0

  more_taken : (y : Bridge) → take (i + 1) (slice_set now i y) ≡ take i now ++ y ∷ []
  more_taken y = take_more_set now i y inside

  pub stays_next : (y : Bridge) → y.unit ≡ (slice_index_or now i d).unit
      → (y.reached ≡ false → wide_outcome y.kept ≡ wide_outcome (slice_index_or now i d).kept)
      → Stays old (slice_set now i y)
  unfolding b
  stays_next y unit kept =
      set_stays kept_unit (λ k. slice_get (entries_of old) k) now i y p.stays
      (λ flag. ap Some (entry_is y.unit b.unit (wide_outcome y.kept) (wide_outcome b.kept) unit (kept flag))
      ∙ sym (get_dropped kept_unit old i b (drop (i + 1) old) ahead))

  same_next : (y : Bridge)
      → (y.reached ≡ false → kept_parts y.parts ≡ kept_parts (slice_index_or now i d).parts)
      → SameParts old (slice_set now i y)
  unfolding b
  same_next y same =
      set_stays parts_of (λ k. slice_get (stored_parts_in old) k) now i y p.same
      (λ flag. ap Some (same flag) ∙ sym (get_dropped parts_of old i b (drop (i + 1) old) ahead))

  pub units_next : (y : Bridge) → y.unit ≡ (slice_index_or now i d).unit
      → units_in (slice_set now i y) ≡ units_in old
  units_next y unit = set_units now i d y inside unit ∙ p.units

  pub sources_next : (y : Bridge) → y.source ≡ (slice_index_or now i d).source
      → sources_in (slice_set now i y) ≡ sources_in old
  sources_next y source = set_sources now i d y inside source ∙ p.sources

  -- what is done and what is left
  pub front_next : (y : Bridge) → IsBrought sheller (slice_index_or now i d) y m
      → entries_of (take (i + 1) (slice_set now i y))
      ++ fresh_from (behind m (outcome_of m (slice_index_or now i d).unit)) (units_in (drop (i + 1) old))
      ≡ fresh_from start (units_in old)
  unfolding b
  front_next y brought =
      ap (λ bs. entries_of bs ++ fresh_from (behind m (outcome_of m b.unit)) (units_in (drop (i + 1) old)))
      (more_taken y)
      ∙ ap (λ es. es ++ fresh_from (behind m (outcome_of m b.unit)) (units_in (drop (i + 1) old)))
      (map-append kept_unit (take i now) (y ∷ []))
      ∙ append_assoc (entries_of (take i now)) (kept_unit y ∷ [])
      (fresh_from (behind m (outcome_of m b.unit)) (units_in (drop (i + 1) old)))
      ∙ ap (λ e. entries_of (take i now)
      ++ e ∷ fresh_from (behind m (outcome_of m b.unit)) (units_in (drop (i + 1) old)))
      (brought_entry sheller b y m brought)
      ∙ ap (λ bs. entries_of (take i now) ++ fresh_from m (units_in bs)) (sym ahead)
      ∙ p.fresh

  pub parts_next : (y : Bridge) → IsBrought sheller (slice_index_or now i d) y m
      → stored_parts_in (take (i + 1) (slice_set now i y))
      ++ fresh_parts_by_from sheller (behind m (outcome_of m (slice_index_or now i d).unit)) (units_in (drop
      (i + 1) old))
      ≡ fresh_parts_by_from sheller start (units_in old)
  unfolding b
  parts_next y brought =
      ap (λ bs. stored_parts_in bs ++ fresh_parts_by_from sheller (behind m (outcome_of m b.unit)) (units_in (drop
      (i + 1) old)))
      (more_taken y)
      ∙ ap (λ ks. ks ++ fresh_parts_by_from sheller (behind m (outcome_of m b.unit)) (units_in (drop (i + 1) old)))
      (map-append (λ (w : Bridge). kept_parts w.parts) (take i now) (y ∷ []))
      ∙ append_assoc (stored_parts_in (take i now)) (kept_parts y.parts ∷ [])
      (fresh_parts_by_from sheller (behind m (outcome_of m b.unit)) (units_in (drop (i + 1) old)))
      ∙ ap (λ k. stored_parts_in (take i now)
      ++ k ∷ fresh_parts_by_from sheller (behind m (outcome_of m b.unit)) (units_in (drop (i + 1) old)))
      brought.parts
      ∙ ap (λ bs. stored_parts_in (take i now) ++ fresh_parts_by_from sheller m (units_in bs)) (sym ahead)
      ∙ p.parts

  pub marks_next : (y : Bridge) → flags_of_parts y.parts
      ≡ part_flags_by sheller m (slice_index_or now i d).unit (kept_parts (slice_index_or now i d).parts)
      → part_flags_in (take (i + 1) (slice_set now i y))
      ++ part_flags_by_from sheller (behind m (outcome_of m (slice_index_or now i d).unit)) (entries_of (drop
      (i + 1) old))
      (stored_parts_in (drop (i + 1) old))
      ≡ part_flags_by_from sheller start (entries_of old) (stored_parts_in old)
  unfolding b
  marks_next y mark =
      let rest : List (List Bool) =
      part_flags_by_from sheller (behind m (outcome_of m b.unit)) (entries_of (drop (i + 1) old)) (stored_parts_in (drop
      (i + 1) old)) in
      ap (λ bs. part_flags_in bs ++ rest) (more_taken y)
      ∙ ap (λ fs. fs ++ rest) (map-append (λ (w : Bridge). flags_of_parts w.parts) (take i now) (y ∷ []))
      ∙ append_assoc (part_flags_in (take i now)) (flags_of_parts y.parts ∷ []) rest
      ∙ ap (λ f. part_flags_in (take i now) ++ f ∷ rest) mark
      ∙ ap (λ bs. part_flags_in (take i now) ++ part_flags_by_from sheller m (entries_of bs) (stored_parts_in bs)) (sym
      ahead)
      ∙ p.marks

  pub rest_next : (y : Bridge) → drop (i + 1) (slice_set now i y) ≡ drop (i + 1) old
  rest_next y = drop-set-lt (i + 1) now i y (omega arith) ∙ sym others

  -- the layers of the units up to this one
  pub front_known : (y : Bridge) (us : List DocUnit) (lss : List (List TreeTrace))
      → UnitLayersKnown sheller m (slice_index_or now i d).unit y.layers
      → AllLayersKnown sheller (behind m (outcome_of m (slice_index_or now i d).unit)) us lss
      → AllLayersKnown sheller start (units_in (take (i + 1) old) ++ us)
      (layers_in (take (i + 1) (slice_set now i y)) ++ lss)
  unfolding b
  front_known y us lss known left =
      subst (λ vs. AllLayersKnown sheller start vs (layers_in (take (i + 1) (slice_set now i y)) ++ lss))
      (sym (ap (λ bs. units_in bs ++ us) (taken_to old i b (drop (i + 1) old) ahead)
      ∙ ap (λ vs. vs ++ us) (units_append (take i old) (b ∷ []))
      ∙ append_assoc (units_in (take i old)) (b.unit ∷ []) us))
      (subst (AllLayersKnown sheller start (units_in (take i old) ++ b.unit ∷ us))
      (sym (ap (λ bs. layers_in bs ++ lss) (more_taken y)
      ∙ ap (λ rs. rs ++ lss) (map-append (λ (w : Bridge). w.layers) (take i now) (y ∷ []))
      ∙ append_assoc (layers_in (take i now)) (y.layers ∷ []) lss))
      (p.front (b.unit ∷ us) (y.layers ∷ lss) (known, left)))

  known_next : (y : Bridge) (lss : List (List TreeTrace))
      → UnitLayersKnown sheller m (slice_index_or now i d).unit y.layers
      → AllLayersKnown sheller (behind m (outcome_of m (slice_index_or now i d).unit)) (units_in (drop (i + 1) old)) lss
      → AllLayersKnown sheller start (units_in old) (layers_in (take (i + 1) (slice_set now i y)) ++ lss)
  unfolding b
  known_next y lss known left =
      subst (AllLayersKnown sheller start (units_in old))
      (sym (ap (λ bs. layers_in bs ++ lss) (more_taken y)
      ∙ ap (λ rs. rs ++ lss) (map-append (λ (w : Bridge). w.layers) (take i now) (y ∷ []))
      ∙ append_assoc (layers_in (take i now)) (y.layers ∷ []) lss))
      (p.known (y.layers ∷ lss)
      (subst (λ bs. AllLayersKnown sheller m (units_in bs) (y.layers ∷ lss)) (sym ahead) (known, left)))

  pub next : (y : Bridge) (m1 : Moment) (flag1 : Bool) (after1 charge : ℕ)
      → IsBrought sheller (slice_index_or now i d) y m
      → flags_of_parts y.parts
      ≡ part_flags_by sheller m (slice_index_or now i d).unit (kept_parts (slice_index_or now i d).parts)
      → y.reached ≡ not (unit_stays_by sheller m (kept_unit (slice_index_or now i d))
      (kept_parts (slice_index_or now i d).parts))
      → m1 ≡ behind m (outcome_of m (slice_index_or now i d).unit)
      → charge ≡ charge_by sheller m (kept_unit (slice_index_or now i d)) (kept_parts (slice_index_or now i d).parts)
      (slice_index_or now i d).layers (first_spare (drop i spares))
      → UnitLayersKnown sheller m (slice_index_or now i d).unit y.layers
      → after1 ≡ after + charge → charge + m1.left ≤ m.left
      → IsSoundBridge y
      → (y.reached ≡ false → wide_outcome y.kept ≡ wide_outcome (slice_index_or now i d).kept)
      → (y.reached ≡ false → kept_parts y.parts ≡ kept_parts (slice_index_or now i d).parts)
      → y.source ≡ (slice_index_or now i d).source
      → (flag1 ≡ true
      → (flag ≡ true) × (m1.env ≡ env_behind m.env (wide_outcome (slice_index_or now i d).kept)))
      → Partway sheller old (slice_set now i y) spares start (i + 1) m1 flag1 before after1 (spent + charge)
  unfolding b
  next y m1 flag1 after1 charge brought mark is_r is_m is_charge known is_after most sound kept same source goes =
      record {
        paid = let was : after ≡ before + spent = p.paid in omega (arith, was, is_after);
        room = let had : spent + m.left ≤ MOST_VIEW_STEPS = p.room in omega (arith, had, most);
        settled =
            λ e. subst (λ (env : NameMap). AreSettled env (entries_of (drop (i + 1) old))) (sym (goes e).1)
            (settled_here (goes e).0).1;
        last =
            ap (λ n. behind_all n (units_in (drop (i + 1) old))) is_m
            ∙ ap (λ bs. behind_all m (units_in bs)) (sym ahead) ∙ p.last;
        fresh =
            ap (λ n. entries_of (take (i + 1) (slice_set now i y)) ++ fresh_from n (units_in (drop (i + 1) old))) is_m
            ∙ front_next y brought;
        parts =
            ap (λ n. stored_parts_in (take (i + 1) (slice_set now i y)) ++ fresh_parts_by_from sheller n (units_in (drop
            (i + 1) old)))
            is_m
            ∙ parts_next y brought;
        marks =
            ap (λ n. part_flags_in (take (i + 1) (slice_set now i y))
            ++ part_flags_by_from sheller n (entries_of (drop (i + 1) old)) (stored_parts_in (drop (i + 1) old))) is_m
            ∙ marks_next y mark;
        rest = rest_next y;
        flags =
            ap (λ bs. flags_of bs ++ reached_by_from sheller m1 (entries_of (drop (i + 1) old)) (stored_parts_in (drop
            (i + 1) old))) (more_taken y)
            ∙ ap (λ fs. fs ++ reached_by_from sheller m1 (entries_of (drop (i + 1) old)) (stored_parts_in (drop (i
            + 1) old)))
            (map-append (λ (w : Bridge). w.reached) (take i now) (y ∷ []))
            ∙ append_assoc (flags_of (take i now)) (y.reached ∷ []) (reached_by_from sheller m1 (entries_of (drop
            (i + 1) old)) (stored_parts_in (drop (i + 1) old)))
            ∙ ap (λ n. flags_of (take i now) ++ y.reached ∷ reached_by_from sheller n (entries_of (drop (i + 1) old))
            (stored_parts_in (drop (i + 1) old))) is_m
            ∙ ap (λ r. flags_of (take i now)
            ++ r ∷ reached_by_from sheller (behind m (outcome_of m b.unit)) (entries_of (drop (i
            + 1) old)) (stored_parts_in
            (drop (i + 1) old))) is_r
            ∙ ap (λ bs. flags_of (take i now) ++ reached_by_from sheller m (entries_of bs) (stored_parts_in bs)) (sym
            ahead)
            ∙ p.flags;
        steps =
            let rest : List Bridge = drop (i + 1) old in
            let more : charges_by sheller m (entries_of (drop i old)) (stored_parts_in (drop i old)) (layers_in (drop i
            old))
            (drop i spares)
            ≡ charge_by sheller m (kept_unit b) (kept_parts b.parts) b.layers (first_spare (drop i spares))
            + charges_by sheller (behind m (outcome_of m b.unit)) (entries_of rest) (stored_parts_in rest) (layers_in
            rest)
            (drop 1 (drop i spares)) =
            ap (λ bs. charges_by sheller m (entries_of bs) (stored_parts_in bs) (layers_in bs) (drop i spares)) ahead in
            let moved : charges_by sheller m1 (entries_of rest) (stored_parts_in rest) (layers_in rest) (drop (i
            + 1) spares)
            ≡ charges_by sheller (behind m (outcome_of m b.unit)) (entries_of rest) (stored_parts_in rest) (layers_in
            rest)
            (drop 1 (drop i spares)) =
            ap (λ n. charges_by sheller n (entries_of rest) (stored_parts_in rest) (layers_in rest) (drop (i
            + 1) spares)) is_m
            ∙ ap (charges_by sheller (behind m (outcome_of m b.unit)) (entries_of rest) (stored_parts_in rest)
            (layers_in rest))
            (sym (drop-drop 1 i spares)) in
            let was : after + charges_by sheller m (entries_of (drop i old)) (stored_parts_in (drop i old))
            (layers_in (drop i old)) (drop i spares)
            ≡ before + charges_by sheller start (entries_of old) (stored_parts_in old) (layers_in old) spares = p.steps
            in
            omega (arith, more, moved, was, is_charge, is_after);
        known = λ lss left. known_next y lss known
            (subst (λ n. AllLayersKnown sheller n (units_in (drop (i + 1) old)) lss) is_m left);
        front = λ us lss left. front_known y us lss known (subst (λ n. AllLayersKnown sheller n us lss) is_m left);
        sound = All-set IsSoundBridge now i y sound p.sound;
        units = units_next y brought.unit;
        sources = sources_next y source;
        stays = stays_next y brought.unit kept;
        same = same_next y same;
      }

-- the first units are brought there, and the others as they were
abbrev pub Stops : Sheller → Moment → List Bridge → List Bridge → Type 0
Stops sheller start old now =
    (n : ℕ) × (entries_of now ≡ take n (fresh_from start (units_in old)) ++ drop n (entries_of old))
    × (stored_parts_in now ≡ take n (fresh_parts_by_from sheller start (units_in old)) ++ drop n (stored_parts_in old))
    × (drop n (layers_in now) ≡ drop n (layers_in old))
    × AllLayersKnown sheller start (units_of (take n (entries_of old))) (take n (layers_in now))

map_take : (n : ℕ) (bs : List Bridge) → length (entries_of (take n bs)) ≡ length (take n bs)
map_take n bs = length-map (take n bs) kept_unit

drop_entries : (n : ℕ) (bs : List Bridge) → entries_of (drop n bs) ≡ drop n (entries_of bs)
drop_entries zero bs = refl
drop_entries (suc n) [] = refl
drop_entries (suc n) (b ∷ bs) = drop_entries n bs

-- stopped after i units
stopped : (start : Moment) (old now : List Bridge) (i : ℕ) (m : Moment)
    → entries_of (take i now) ++ fresh_from m (units_in (drop i old)) ≡ fresh_from start (units_in old)
    → drop i now ≡ drop i old → i ≤ length now
    → entries_of now ≡ take i (fresh_from start (units_in old)) ++ drop i (entries_of old)
stopped start old now i m fresh rest inside =
    let many : length (take i now) ≡ i = grind (arith, common_steps, inside) in
    ap entries_of (sym (take-append-drop i now))
    ∙ map-append kept_unit (take i now) (drop i now)
    ∙ ap (λ es. es ++ entries_of (drop i now))
    (sym (take_at (entries_of (take i now)) (fresh_from m (units_in (drop i old))) i (map_take i now ∙ many))
    ∙ ap (take i) fresh)
    ∙ ap (λ bs. take i (fresh_from start (units_in old)) ++ entries_of bs) rest
    ∙ ap (λ es. take i (fresh_from start (units_in old)) ++ es) (drop_entries i old)

drop_parts : (n : ℕ) (bs : List Bridge) → stored_parts_in (drop n bs) ≡ drop n (stored_parts_in bs)
drop_parts zero bs = refl
drop_parts (suc n) [] = refl
drop_parts (suc n) (b ∷ bs) = drop_parts n bs

drop_layers : (n : ℕ) (bs : List Bridge) → layers_in (drop n bs) ≡ drop n (layers_in bs)
drop_layers zero bs = refl
drop_layers (suc n) [] = refl
drop_layers (suc n) (b ∷ bs) = drop_layers n bs

layers_stopped : (old now : List Bridge) (i : ℕ) → drop i now ≡ drop i old
    → drop i (layers_in now) ≡ drop i (layers_in old)
layers_stopped old now i rest = sym (drop_layers i now) ∙ ap layers_in rest ∙ drop_layers i old

parts_stopped : (sheller : Sheller) (start : Moment) (old now : List Bridge) (i : ℕ) (m : Moment)
    → stored_parts_in (take i now) ++ fresh_parts_by_from sheller m (units_in (drop i old))
    ≡ fresh_parts_by_from sheller start (units_in old)
    → drop i now ≡ drop i old → i ≤ length now
    → stored_parts_in now ≡ take i (fresh_parts_by_from sheller start (units_in old)) ++ drop i (stored_parts_in old)
parts_stopped sheller start old now i m fresh rest inside =
    let many : length (take i now) ≡ i = grind (arith, common_steps, inside) in
    let one : Bridge → KeptParts = λ w. kept_parts w.parts in
    ap stored_parts_in (sym (take-append-drop i now))
    ∙ map-append one (take i now) (drop i now)
    ∙ ap (λ ks. ks ++ stored_parts_in (drop i now))
    (sym (take_at (stored_parts_in (take i now)) (fresh_parts_by_from sheller m (units_in (drop i old))) i
    (length-map (take i now) one ∙ many))
    ∙ ap (take i) fresh)
    ∙ ap (λ bs. take i (fresh_parts_by_from sheller start (units_in old)) ++ stored_parts_in bs) rest
    ∙ ap (λ ks. take i (fresh_parts_by_from sheller start (units_in old)) ++ ks) (drop_parts i old)

take_entries : (n : ℕ) (bs : List Bridge) → entries_of (take n bs) ≡ take n (entries_of bs)
take_entries zero bs = refl
take_entries (suc n) [] = refl
take_entries (suc n) (b ∷ bs) = ap (λ es. kept_unit b ∷ es) (take_entries n bs)

take_layers : (n : ℕ) (bs : List Bridge) → layers_in (take n bs) ≡ take n (layers_in bs)
take_layers zero bs = refl
take_layers (suc n) [] = refl
take_layers (suc n) (b ∷ bs) = ap (λ ls. b.layers ∷ ls) (take_layers n bs)

-- what is known of the layers of the first n units
front_stopped : (sheller : Sheller) (start : Moment) (old now : List Bridge) (n : ℕ)
    → AllLayersKnown sheller start (units_in (take n old) ++ []) (layers_in (take n now) ++ [])
    → AllLayersKnown sheller start (units_of (take n (entries_of old))) (take n (layers_in now))
front_stopped sheller start old now n h =
    subst (λ us. AllLayersKnown sheller start us (take n (layers_in now)))
    (append-nil (units_in (take n old)) ∙ ap units_of (take_entries n old))
    (subst (AllLayersKnown sheller start (units_in (take n old) ++ []))
    (append-nil (layers_in (take n now)) ∙ take_layers n now) h)

-- the refresh of unit i failed, before or after its evaluation
pub stops : (sheller : Sheller) (old now : List Bridge) (spares : Spares) (start : Moment) (i : ℕ) (m : Moment)
    (flag : Bool)
    (before after spent : ℕ) → Partway sheller old now spares start i m flag before after spent → i < length now
    → (d y : Bridge) → y.unit ≡ (slice_index_or now i d).unit
    → (y ≡ slice_index_or now i d) ⊎ (wide_outcome y.kept ≡ outcome_of m (slice_index_or now i d).unit)
    × (kept_parts y.parts ≡ fresh_parts_by sheller m (slice_index_or now i d).unit)
    × UnitLayersKnown sheller m (slice_index_or now i d).unit y.layers → Stops sheller start old (slice_set now i y)
stops sheller old now spares start i m flag before after spent p inside d y unit (inl same) = (
  i,
  ap entries_of (ap (slice_set now i) same ∙ set-get_or now i d)
      ∙ stopped start old now i m p.fresh p.rest (omega arith),
  ap stored_parts_in (ap (slice_set now i) same ∙ set-get_or now i d)
      ∙ parts_stopped sheller start old now i m p.parts p.rest (omega arith),
  ap (λ bs. drop i (layers_in bs)) (ap (slice_set now i) same ∙ set-get_or now i d) ∙ layers_stopped old now i p.rest,
  subst (λ bs. AllLayersKnown sheller start (units_of (take i (entries_of old))) (take i (layers_in bs)))
      (sym (ap (slice_set now i) same ∙ set-get_or now i d))
      (front_stopped sheller start old now i (p.front [] [] tt)),
)
stops sheller old now spares start i m flag before after spent p inside d y unit (inr fresh) =
    let many : i + 1 ≤ length (slice_set now i y) = grind (arith, common_steps, inside) in (
      i + 1,
      stopped start old (slice_set now i y) (i + 1) (behind m (outcome_of m (slice_index_or now i d).unit))
          (front_next sheller old now spares start i m flag before after spent p inside d y
          (record { unit = unit; fresh = fresh.0; parts = fresh.1 }))
          (rest_next sheller old now spares start i m flag before after spent p inside d y) many,
      parts_stopped sheller start old (slice_set now i y) (i + 1) (behind m (outcome_of m
          (slice_index_or now i d).unit))
          (parts_next sheller old now spares start i m flag before after spent p inside d y
          (record { unit = unit; fresh = fresh.0; parts = fresh.1 }))
          (rest_next sheller old now spares start i m flag before after spent p inside d y) many,
      layers_stopped old (slice_set now i y) (i + 1)
          (rest_next sheller old now spares start i m flag before after spent p inside d y),
      front_stopped sheller start old (slice_set now i y) (i + 1)
          (front_known sheller old now spares start i m flag before after spent p inside d y [] [] fresh.2 tt),
    )

-- after all units
pub ended : (sheller : Sheller) (old now : List Bridge) (spares : Spares) (start : Moment) (i : ℕ) (m : Moment)
    (flag : Bool)
    (before after spent : ℕ) → Partway sheller old now spares start i m flag before after spent → length now ≤ i
    → (entries_of now ≡ fresh_from start (units_in old)) × (flags_of now ≡ reached_by_from sheller start
    (entries_of old) (stored_parts_in old))
    × (spent ≡ charges_by sheller start (entries_of old) (stored_parts_in old) (layers_in old) spares)
    × (stored_parts_in now ≡ fresh_parts_by_from sheller start (units_in old))
    × (part_flags_in now ≡ part_flags_by_from sheller start (entries_of old) (stored_parts_in old))
    × AllLayersKnown sheller start (units_in old) (layers_in now) × (m ≡ behind_all start (units_in old))
ended sheller old now spares start i m flag before after spent p past =
    let whole : take i now ≡ now = grind (arith, common_steps, past) in
    let none : drop i old ≡ [] = sym p.rest ∙ drop_all i now past in
    let left : charges_by sheller m (entries_of (drop i old)) (stored_parts_in (drop i old)) (layers_in (drop i old))
    (drop i spares) ≡ 0 =
    ap (λ bs. charges_by sheller m (entries_of bs) (stored_parts_in bs) (layers_in bs) (drop i spares)) none in
    let sum : after + charges_by sheller m (entries_of (drop i old)) (stored_parts_in (drop i old)) (layers_in (drop i
    old))
    (drop i spares)
    ≡ before + charges_by sheller start (entries_of old) (stored_parts_in old) (layers_in old) spares = p.steps in
    let paid : after ≡ before + spent = p.paid in (
      sym (append-nil (entries_of now)) ∙ ap (λ bs. entries_of bs ++ []) (sym whole)
          ∙ ap (λ bs. entries_of (take i now) ++ fresh_from m (units_in bs)) (sym none) ∙ p.fresh,
      sym (append-nil (flags_of now)) ∙ ap (λ bs. flags_of bs ++ []) (sym whole)
          ∙ ap (λ bs. flags_of (take i now) ++ reached_by_from sheller m (entries_of bs) (stored_parts_in bs)) (sym
          none)
          ∙ p.flags,
      omega (arith, left, sum, paid),
      sym (append-nil (stored_parts_in now)) ∙ ap (λ bs. stored_parts_in bs ++ []) (sym whole)
          ∙ ap (λ bs. stored_parts_in (take i now) ++ fresh_parts_by_from sheller m (units_in bs)) (sym none) ∙ p.parts,
      sym (append-nil (part_flags_in now)) ∙ ap (λ bs. part_flags_in bs ++ []) (sym whole)
          ∙ ap (λ bs. part_flags_in (take i now) ++ part_flags_by_from sheller m (entries_of bs) (stored_parts_in bs))
          (sym none)
          ∙ p.marks,
      subst (AllLayersKnown sheller start (units_in old))
          (ap (λ bs. layers_in bs ++ []) whole ∙ append-nil (layers_in now))
          (p.known [] (subst (λ bs. AllLayersKnown sheller m (units_in bs) []) (sym none) tt)),
      sym (ap (λ bs. behind_all m (units_in bs)) none) ∙ p.last,
    )

pub any_err : {A E P : Type 0} (r : Result A E) → P → OnErr r P
any_err (Ok a) h = tt
any_err (Err e) h = h

pub IfOk-with : {A E P : Type 0} (r : Result A E) (Q R : A → Type 0) → (P → (a : A) → Q a → R a) → OnOk r P
    → IfOk r Q → IfOk r R
IfOk-with (Ok a) Q R f h q = f h a q
IfOk-with (Err e) Q R f h q = tt

pub OnErr-weaker : {A E P Q : Type 0} (r : Result A E) → (P → Q) → OnErr r P → OnErr r Q
OnErr-weaker (Ok a) f h = tt
OnErr-weaker (Err e) f h = f h
