-- What was given is what the new units take.
use Rattle.std.proofs.Common.{◌≡◌, ℕ, zero, suc, ◌+◌, ◌<◌, List, [], ◌∷◌, length, map, Option, Some, None, refl, ap}
use Rattle.std.proofs.Common.{sym, ◌∙◌, subst, arith}
use Rattle.std.proofs.lemmas.Bool.Decides.{Decides-eqb}
use Rattle.std.proofs.lemmas.Option.{slice_get-map}
use Rattle.std.specs.Prelude.{Bool, true, false, ◌&&◌, ◌==◌, slice_get, if◌then◌else◌, option_and_then}
use Rattle.std.specs.Option.{option_map, option_map_or}
use Rattle.std.specs.List.{All, AllByRecursion}
use Rattle.tx_tree.specs.WideTree.{WideTree}
use Rattle.tx_mod.specs.declared.mods.Mod.{Mod}
use Rattle.tx_exec_form.specs.Evaluated.{WideTrace}
use Rattle.tx_exec.specs.Outcomes.{wide_outcome}
use Rattle.tx_units.specs.declared.kinds.Unit.{Unit as DocUnit}
use Rattle.tx_bridge.specs.declared.bridge.Bridge.{Bridge}
use Rattle.tx_bridge.specs.Entries.{Entry, Kept, units_of, traces_of}
use Rattle.tx_bridge.specs.Sound.{IsSoundBridge, entries_of, sources_in}
use Rattle.tx_bridge.specs.PartsKept.{KeptParts}
use Rattle.tx_bridge.specs.HeldParts.{kept_parts}
use Rattle.tx_bridge.specs.UnitLists.{AreUnits}
use Rattle.tx_bridge.specs.Carrying.{is_path, same_unit, through, unit_places_after, number_at, same_number, source}
use Rattle.tx_bridge.specs.Carrying.{sources_from, sources, had, taken_from}
use Rattle.tx_bridge.specs.Carrying.{carried, mods_of}
use Rattle.tx_bridge.specs.Slots.{stays, given_from, given_all, fresh_bridge, paths_in}
use Rattle.tx_bridge.specs.Slots.{bodies_of, given}
use Rattle.tx_bridge.proofs.Arrived.{with_given, units_bodies, all_given_units}
use Rattle.tx_bridge.proofs.Arrived.{moved_all, sound_placed, fresh_apart, fresh_placed}
use Rattle.tx_bridge.proofs.Single.{NoneTwice, none_twice}

-- What the new unit v of number j has, once the old units from number i on have given; f says what an old one gives.
abbrev pub got : {A : Type 0} → (ℕ → Bridge → A) → ℕ → List (Option (List ℕ)) → List Bridge → ℕ → DocUnit → A → A
got f i [] bs j v o = o
got f i (q ∷ qs) [] j v o = o
got f i (q ∷ qs) (b ∷ bs) j v o = got f (i + 1) qs bs j v (if stays q i b.unit j v then f i b else o)

-- what each new unit has then; g says what it has before
abbrev pub all_got : {A : Type 0} → (ℕ → Bridge → A) → (Bridge → A) → ℕ → List (Option (List ℕ)) → List Bridge → ℕ
    → List Bridge → List A
all_got f g i qs bs j [] = []
all_got f g i qs bs j (w ∷ ws) = got f i qs bs j w.unit (g w) ∷ all_got f g i qs bs (j + 1) ws

-- ---- one old unit after the other, or one new unit after the other

module _ {A : Type 0} (f : ℕ → Bridge → A) (g : Bridge → A)
    (gives : (i : ℕ) (b w : Bridge) → g (with_given i b w) ≡ f i b) where
  one_got : (n : ℕ) (qs : List (Option (List ℕ))) (bs : List Bridge) (j i : ℕ) (b w : Bridge) (s : Bool)
      → got f n qs bs j (if s then with_given i b w else w).unit (g (if s then with_given i b w else w))
      ≡ got f n qs bs j w.unit (if s then f i b else g w)
  one_got n qs bs j i b w true = ap (got f n qs bs j w.unit) (gives i b w)
  one_got n qs bs j i b w false = refl

  got_next : (i : ℕ) (q : Option (List ℕ)) (qs : List (Option (List ℕ))) (b : Bridge) (bs : List Bridge) (j : ℕ)
      (ws : List Bridge) → all_got f g (i + 1) qs bs j (given_from q i b j ws) ≡ all_got f g i (q ∷ qs) (b ∷ bs) j ws
  got_next i q qs b bs j [] = refl
  got_next i q qs b bs j (w ∷ ws) =
      ap (λ x. x ∷ all_got f g (i + 1) qs bs (j + 1) (given_from q i b (j + 1) ws))
      (one_got (i + 1) qs bs j i b w (stays q i b.unit j w.unit))
      ∙ ap (λ xs. got f i (q ∷ qs) (b ∷ bs) j w.unit (g w) ∷ xs) (got_next i q qs b bs (j + 1) ws)

  got_none : (i : ℕ) (bs : List Bridge) (j : ℕ) (ws : List Bridge) → map g ws ≡ all_got f g i [] bs j ws
  got_none i bs j [] = refl
  got_none i bs j (w ∷ ws) = ap (λ xs. g w ∷ xs) (got_none i bs (j + 1) ws)

  got_past : (i : ℕ) (q : Option (List ℕ)) (qs : List (Option (List ℕ))) (j : ℕ) (ws : List Bridge)
      → map g ws ≡ all_got f g i (q ∷ qs) [] j ws
  got_past i q qs j [] = refl
  got_past i q qs j (w ∷ ws) = ap (λ xs. g w ∷ xs) (got_past i q qs (j + 1) ws)

  pub given_got : (i : ℕ) (qs : List (Option (List ℕ))) (bs ws : List Bridge)
      → map g (given_all i qs bs ws) ≡ all_got f g i qs bs 0 ws
  given_got i [] bs ws = got_none i bs 0 ws
  given_got i (q ∷ qs) [] ws = got_past i q qs 0 ws
  given_got i (q ∷ qs) (b ∷ bs) ws = given_got (i + 1) qs bs (given_from q i b 0 ws) ∙ got_next i q qs b bs 0 ws

-- what an old unit gives: its number
abbrev pub number_given : ℕ → Bridge → Option ℕ
number_given i b = Some i

abbrev pub source_in : Bridge → Option ℕ
source_in b = b.source

abbrev trace_in : Bridge → Option WideTrace
trace_in b = wide_outcome b.kept

-- ---- by path

got_path : (i : ℕ) (qs : List (Option (List ℕ))) (bs : List Bridge) (j : ℕ) (v : DocUnit) (p : List ℕ)
    (o : Option ℕ) → length qs ≡ length bs → v.path ≡ Some p → got number_given i qs bs j v o ≡ number_at p i qs o
got_path i [] bs j v p o same e = refl
got_path i (q ∷ qs) [] j v p o same e = absurd (omega (arith, same))
got_path i (q ∷ qs) (b ∷ bs) j v p o same e =
    ap (λ r. got number_given (i + 1) qs bs j v
    (if option_map_or (λ x. is_path x q) r (i == j && same_unit b.unit v) then Some i else o)) e
    ∙ got_path (i + 1) qs bs j v p (if is_path p q then Some i else o) (omega (arith, same)) e

-- ---- by number

abbrev by_number : ℕ → Option DocUnit → DocUnit → Option ℕ
by_number j o v = option_and_then (λ u. if same_unit u v then Some j else None) o

off_number : (i j : ℕ) (s : Bool) → j < i → i == j && s ≡ false
off_number i j s less = by (i == j) refl
  where
    by : (b : Bool) → i == j ≡ b → b && s ≡ false
    by true e = absurd (omega (arith, less, (Decides-eqb i j).0 e))
    by false e = refl

at_number : (i j : ℕ) (s : Bool) → i ≡ j → i == j && s ≡ s
at_number i j s e = ap (λ b. b && s) ((Decides-eqb i j).1 e)

before_number : (i j : ℕ) (s : Bool) → i < j → i == j && s ≡ false
before_number i j s less = by (i == j) refl
  where
    by : (b : Bool) → i == j ≡ b → b && s ≡ false
    by true e = absurd (omega (arith, less, (Decides-eqb i j).0 e))
    by false e = refl

-- one old unit of a number other than the new one's
skipped : (i : ℕ) (q : Option (List ℕ)) (qs : List (Option (List ℕ))) (b : Bridge) (bs : List Bridge) (j : ℕ)
    (v : DocUnit) (o : Option ℕ) → v.path ≡ None → i == j && same_unit b.unit v ≡ false
    → got number_given i (q ∷ qs) (b ∷ bs) j v o ≡ got number_given (i + 1) qs bs j v o
skipped i q qs b bs j v o e off =
    ap (λ r. got number_given (i + 1) qs bs j v
    (if option_map_or (λ x. is_path x q) r (i == j && same_unit b.unit v) then Some i else o)) e
    ∙ ap (λ s. got number_given (i + 1) qs bs j v (if s then Some i else o)) off

got_behind : (i : ℕ) (qs : List (Option (List ℕ))) (bs : List Bridge) (j : ℕ) (v : DocUnit) (o : Option ℕ)
    → v.path ≡ None → j < i → got number_given i qs bs j v o ≡ o
got_behind i [] bs j v o e less = refl
got_behind i (q ∷ qs) [] j v o e less = refl
got_behind i (q ∷ qs) (b ∷ bs) j v o e less =
    skipped i q qs b bs j v o e (off_number i j (same_unit b.unit v) less)
    ∙ got_behind (i + 1) qs bs j v o e (omega (arith, less))

got_number : (k i : ℕ) (qs : List (Option (List ℕ))) (bs : List Bridge) (j : ℕ) (v : DocUnit) → v.path ≡ None
    → length qs ≡ length bs → j ≡ i + k
    → got number_given i qs bs j v None ≡ by_number j (slice_get (bodies_of bs) k) v
got_number k i [] [] j v e same is = refl
got_number k i [] (b ∷ bs) j v e same is = absurd (omega (arith, same))
got_number k i (q ∷ qs) [] j v e same is = absurd (omega (arith, same))
got_number zero i (q ∷ qs) (b ∷ bs) j v e same is =
    let here : i ≡ j = omega (arith, is) in
    ap (λ r. got number_given (i + 1) qs bs j v
    (if option_map_or (λ x. is_path x q) r (i == j && same_unit b.unit v) then Some i else None)) e
    ∙ ap (λ s. got number_given (i + 1) qs bs j v (if s then Some i else None))
    (at_number i j (same_unit b.unit v) here)
    ∙ got_behind (i + 1) qs bs j v (if same_unit b.unit v then Some i else None) e (omega (arith, is))
    ∙ ap (λ n. if same_unit b.unit v then Some n else None) here
got_number (suc k) i (q ∷ qs) (b ∷ bs) j v e same is =
    skipped i q qs b bs j v None e (before_number i j (same_unit b.unit v) (omega (arith, is)))
    ∙ got_number k (i + 1) qs bs j v e (omega (arith, same)) (omega (arith, is))

-- ---- the numbers of all new units

got_source : (qs : List (Option (List ℕ))) (bs : List Bridge) (j : ℕ) (v : DocUnit) → length qs ≡ length bs
    → got number_given 0 qs bs j v None ≡ source qs (bodies_of bs) j v
got_source qs bs j v same = by v.path refl
  where
    by : (o : Option (List ℕ)) → v.path ≡ o
        → got number_given 0 qs bs j v None
        ≡ option_map_or (λ p. number_at p 0 qs None) o (same_number (bodies_of bs) j v)
    by (Some p) e = got_path 0 qs bs j v p None same e
    by None e = got_number j 0 qs bs j v e same (omega arith)

-- ---- new units of which nothing is cached but parts

-- these are the units, of each of which no trace is cached, and which was none before
abbrev pub AreBare : List DocUnit → List Bridge → Type 0
AreBare [] [] = Unit {0}
AreBare [] (w ∷ ws) = ⊥
AreBare (u ∷ us) [] = ⊥
AreBare (u ∷ us) (w ∷ ws) = ((w.unit ≡ u) × (trace_in w ≡ None) × (w.source ≡ None)) × AreBare us ws

pub fresh_bare : (us : List DocUnit) → AreBare us (map fresh_bridge us)
fresh_bare [] = tt
fresh_bare (u ∷ us) = ((refl, refl, refl), fresh_bare us)

pub bare_bodies : (us : List DocUnit) (ws : List Bridge) → AreBare us ws → bodies_of ws ≡ us
bare_bodies [] [] h = refl
bare_bodies [] (w ∷ ws) h = absurd h
bare_bodies (u ∷ us) [] h = absurd h
bare_bodies (u ∷ us) (w ∷ ws) h =
    ap (λ v. v ∷ bodies_of ws) h.0.0 ∙ ap (λ vs. u ∷ vs) (bare_bodies us ws h.1)

all_sources : (qs : List (Option (List ℕ))) (bs : List Bridge) (j : ℕ) (us : List DocUnit) (ws : List Bridge)
    → AreBare us ws → length qs ≡ length bs
    → all_got number_given source_in 0 qs bs j ws ≡ sources_from qs (bodies_of bs) j us
all_sources qs bs j [] [] h same = refl
all_sources qs bs j [] (w ∷ ws) h same = absurd h
all_sources qs bs j (u ∷ us) [] h same = absurd h
all_sources qs bs j (u ∷ us) (w ∷ ws) h same =
    ap (λ s. s ∷ all_got number_given source_in 0 qs bs (j + 1) ws)
    (ap (λ v. got number_given 0 qs bs j v w.source) h.0.0 ∙ ap (got number_given 0 qs bs j u) h.0.2
    ∙ got_source qs bs j u same)
    ∙ ap (λ ss. source qs (bodies_of bs) j u ∷ ss) (all_sources qs bs (j + 1) us ws h.1 same)

-- ---- what they have, by the number

abbrev pub parts_in_one : Bridge → KeptParts
parts_in_one b = kept_parts b.parts

abbrev traces_in : List Bridge → List (Option WideTrace)
traces_in bs = map trace_in bs

-- `find` says what the old unit of a number gives, and what a new one has without one
module _ {A : Type 0} (g : Bridge → A) (find : Option ℕ → A) where
  -- `find` says what each of these gives, from number i on
  abbrev pub AreFrom : ℕ → List Bridge → Type 0
  AreFrom i bs = (n k : ℕ) (b : Bridge) → n ≡ i + k → slice_get bs k ≡ Some b → find (Some n) ≡ g b

  abbrev pub gives : ℕ → Bridge → A
  gives i b = g b

  one_found : (i : ℕ) (b : Bridge) (o : Option ℕ) (s : Bool) → find (Some i) ≡ g b
      → (if s then g b else find o) ≡ find (if s then Some i else o)
  one_found i b o true at = sym at
  one_found i b o false at = refl

  pub got_found : (i : ℕ) (qs : List (Option (List ℕ))) (bs : List Bridge) (j : ℕ) (v : DocUnit) (o : Option ℕ)
      → AreFrom i bs → got gives i qs bs j v (find o) ≡ find (got number_given i qs bs j v o)
  got_found i [] bs j v o h = refl
  got_found i (q ∷ qs) [] j v o h = refl
  got_found i (q ∷ qs) (b ∷ bs) j v o h =
      ap (got gives (i + 1) qs bs j v) (one_found i b o (stays q i b.unit j v) (h i 0 b (omega arith) refl))
      ∙ got_found (i + 1) qs bs j v (if stays q i b.unit j v then Some i else o)
      (λ n k c e at. h n (suc k) c (omega (arith, e)) at)

  all_found : (qs : List (Option (List ℕ))) (bs : List Bridge) (j : ℕ) (us : List DocUnit) (ws : List Bridge)
      → AreBare us ws → AllByRecursion (λ w. g w ≡ find None) ws → AreFrom 0 bs
      → all_got gives g 0 qs bs j ws ≡ map find (all_got number_given source_in 0 qs bs j ws)
  all_found qs bs j [] [] bare none h = refl
  all_found qs bs j [] (w ∷ ws) bare none h = absurd bare
  all_found qs bs j (u ∷ us) [] bare none h = absurd bare
  all_found qs bs j (u ∷ us) (w ∷ ws) bare none h =
      ap (λ o. o ∷ all_got gives g 0 qs bs (j + 1) ws)
      (ap (got gives 0 qs bs j w.unit) none.0 ∙ got_found 0 qs bs j w.unit None h
      ∙ ap (λ s. find (got number_given 0 qs bs j w.unit s)) (sym bare.0.2))
      ∙ ap (λ os. find (got number_given 0 qs bs j w.unit w.source) ∷ os)
      (all_found qs bs (j + 1) us ws bare.1 none.1 h)

-- what is given to these
abbrev pub given_to : List Bridge → List Mod → WideTree → List Bridge → List Bridge
given_to ws ms t old = given_all 0 (map (through ms t) (paths_in old)) old ws

trace_found : (bs : List Bridge) (n k : ℕ) (b : Bridge) → n ≡ 0 + k → slice_get bs k ≡ Some b
    → had (traces_in bs) (Some n) ≡ wide_outcome b.kept
trace_found bs n k b e at =
    let same : n ≡ k = omega (arith, e) in
    ap (λ i. had (traces_in bs) (Some i)) same
    ∙ ap (option_and_then (λ x. x)) (slice_get-map trace_in bs k ∙ ap (option_map trace_in) at)

abbrev with_trace : DocUnit → Option WideTrace → Entry
with_trace u o = record { unit = u; trace = o }

pub heads : {A : Type 0} (x y : A) (xs ys : List A) → x ∷ xs ≡ y ∷ ys → (x ≡ y) × (xs ≡ ys)
heads x y xs ys e = (cc, cc)

entries_taken : (traces : List (Option WideTrace)) (ws : List Bridge) (ss : List (Option ℕ)) (vs : List DocUnit)
    → bodies_of ws ≡ vs → traces_in ws ≡ map (had traces) ss → entries_of ws ≡ taken_from traces ss vs
entries_taken traces [] [] [] e f = refl
entries_taken traces [] [] (v ∷ vs) e f = cc
entries_taken traces [] (s ∷ ss) vs e f = cc
entries_taken traces (w ∷ ws) [] vs e f = cc
entries_taken traces (w ∷ ws) (s ∷ ss) [] e f = cc
entries_taken traces (w ∷ ws) (s ∷ ss) (v ∷ vs) e f =
    let is_v : (w.unit ≡ v) × (bodies_of ws ≡ vs) = heads w.unit v (bodies_of ws) vs e in
    let is_s : (trace_in w ≡ had traces s) × (traces_in ws ≡ map (had traces) ss) =
    heads (trace_in w) (had traces s) (traces_in ws) (map (had traces) ss) f in
    ap (λ u. with_trace u (trace_in w) ∷ entries_of ws) is_v.0 ∙ ap (λ o. with_trace v o ∷ entries_of ws) is_s.0
    ∙ ap (λ es. with_trace v (had traces s) ∷ es) (entries_taken traces ws ss vs is_v.1 is_s.1)

no_traces : (us : List DocUnit) (ws : List Bridge) → AreBare us ws → AllByRecursion (λ w. trace_in w ≡ None) ws
no_traces [] [] h = tt
no_traces [] (w ∷ ws) h = absurd h
no_traces (u ∷ us) [] h = absurd h
no_traces (u ∷ us) (w ∷ ws) h = (h.0.1, no_traces us ws h.1)

-- ---- where the old ones are

pub places_same : (ms : List Mod) (t : WideTree) (bs : List Bridge)
    → map (through ms t) (paths_in bs) ≡ unit_places_after ms t (bodies_of bs)
places_same ms t [] = refl
places_same ms t (b ∷ bs) = ap (λ qs. through ms t b.unit.path ∷ qs) (places_same ms t bs)

pub places_many : (ms : List Mod) (t : WideTree) (bs : List Bridge)
    → length (map (through ms t) (paths_in bs)) ≡ length bs
places_many ms t [] = refl
places_many ms t (b ∷ bs) = ap suc (places_many ms t bs)

module _ (ms : List Mod) (t : WideTree) (old : List Bridge) (us : List DocUnit) (ws : List Bridge)
    (bare : AreBare us ws) where
  pub given_from_places : sources_in (given_to ws ms t old)
      ≡ sources_from (map (through ms t) (paths_in old)) (bodies_of old) 0 us
  given_from_places =
      given_got number_given source_in (λ i b w. refl) 0 (map (through ms t) (paths_in old)) old ws
      ∙ all_sources (map (through ms t) (paths_in old)) old 0 us ws bare (places_many ms t old)

  pub given_sources : sources_in (given_to ws ms t old) ≡ sources ms t (bodies_of old) us
  given_sources = given_from_places ∙ ap (λ qs. sources_from qs (bodies_of old) 0 us) (places_same ms t old)

  given_traces : traces_in (given_to ws ms t old) ≡ map (had (traces_in old)) (sources ms t (bodies_of old) us)
  given_traces =
      given_got (λ i b. trace_in b) trace_in (λ i b w. refl) 0 (map (through ms t) (paths_in old)) old ws
      ∙ all_found trace_in (had (traces_in old)) (map (through ms t) (paths_in old)) old 0 us ws bare
      (no_traces us ws bare) (trace_found old)
      ∙ ap (map (had (traces_in old)))
      (sym (given_got number_given source_in (λ i b w. refl) 0 (map (through ms t) (paths_in old)) old ws)
      ∙ given_sources)

  pub given_units_are : bodies_of (given_to ws ms t old) ≡ us
  given_units_are =
      all_given_units 0 (map (through ms t) (paths_in old)) old ws ∙ bare_bodies us ws bare

  pub given_carried : entries_of (given_to ws ms t old)
      ≡ taken_from (traces_in old) (sources ms t (bodies_of old) us) us
  given_carried =
      entries_taken (traces_in old) (given_to ws ms t old) (sources ms t (bodies_of old) us) us given_units_are
      given_traces

entries_traces : (bs : List Bridge) → traces_of (entries_of bs) ≡ traces_in bs
entries_traces [] = refl
entries_traces (b ∷ bs) = ap (λ os. trace_in b ∷ os) (entries_traces bs)

-- ---- an edit

-- what a list of entries is once all is given
pub record IsCarried (buffer : ℕ) (ms : List Mod) (t : WideTree) (kept : Kept) (us : List DocUnit)
    (result : List Bridge) : Type 0 where
  pub entries : entries_of result ≡ carried (mods_of buffer ms) t kept us
  pub sources : sources_in result ≡ sources (mods_of buffer ms) t (units_of kept) us
  pub once : NoneTwice (sources_in result)
  pub units : units_of (entries_of result) ≡ us

pub given_to_is : (buffer : ℕ) (ms : List Mod) (t : WideTree) (kept : Kept) (us : List DocUnit)
    (old ws result : List Bridge) → AreBare us ws → entries_of old ≡ kept → All IsSoundBridge old → AreUnits us
    → result ≡ given_to ws (mods_of buffer ms) t old → IsCarried buffer ms t kept us result
given_to_is buffer ms t kept us old ws result bare was sound are is_given =
    let bodies : units_of kept ≡ bodies_of old = sym (ap units_of was) ∙ units_bodies old in
    let traces : traces_of kept ≡ traces_in old = sym (ap traces_of was) ∙ entries_traces old in
    record {
      entries =
          ap entries_of is_given ∙ given_carried (mods_of buffer ms) t old us ws bare
          ∙ ap (λ os. taken_from os (sources (mods_of buffer ms) t (bodies_of old) us) us) (sym traces)
          ∙ ap (λ vs. taken_from (traces_of kept) (sources (mods_of buffer ms) t vs us) us) (sym bodies);
      sources =
          ap sources_in is_given ∙ given_sources (mods_of buffer ms) t old us ws bare
          ∙ ap (λ vs. sources (mods_of buffer ms) t vs us) (sym bodies);
      once =
          subst NoneTwice (sym (ap sources_in is_given ∙ given_from_places (mods_of buffer ms) t old us ws bare))
          (none_twice (map (through (mods_of buffer ms) t) (paths_in old)) old us (moved_all (mods_of buffer ms) t old)
          (sound_placed old sound) (fresh_apart us are.apart) (fresh_placed us are.placed));
      units =
          ap (λ cs. units_of (entries_of cs)) is_given
          ∙ units_bodies (given_to ws (mods_of buffer ms) t old)
          ∙ given_units_are (mods_of buffer ms) t old us ws bare;
    }

pub given_is : (buffer : ℕ) (ms : List Mod) (t : WideTree) (kept : Kept) (us : List DocUnit)
    (old result : List Bridge) → entries_of old ≡ kept → All IsSoundBridge old → AreUnits us
    → result ≡ given (mods_of buffer ms) t old us → IsCarried buffer ms t kept us result
given_is buffer ms t kept us old result was sound are is_given =
    given_to_is buffer ms t kept us old (map fresh_bridge us) result (fresh_bare us) was sound are is_given
