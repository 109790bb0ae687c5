-- New units to which parts have moved, and to which old ones then give what is cached of them.
use Rattle.std.proofs.Common.{◌≡◌, ℕ, zero, suc, ◌+◌, ◌<◌, Bool, List, [], ◌∷◌, ◌++◌, length, map, Option, Some, None}
use Rattle.std.proofs.Common.{refl, ap, sym}
use Rattle.std.proofs.Common.{◌∙◌, subst, arith}
use Rattle.std.proofs.lemmas.List.{append-nil}
use Rattle.std.proofs.lemmas.List.Elements.{All-from_recursion, recursion_from_All}
use Rattle.std.proofs.lemmas.Option.{slice_get-map, slice_get_within}
use Rattle.std.specs.List.{All, AllByRecursion, IsDistinct}
use Rattle.std.specs.Option.{option_map, option_map_or}
use Rattle.std.specs.Prelude.{false, slice_get, IfOk, Ok, Err, Result}
use Rattle.std.specs.Str.{bytes_eq}
use Rattle.tx_tree.specs.WideTree.{WideTree}
use Rattle.tx_mod.specs.declared.mods.Mod.{Mod}
use Rattle.tx_mod.specs.Followed.{CarriesSubtree, CarriesThroughAll, changed_by_all}
use Rattle.tx_units.specs.declared.kinds.Unit.{Unit as DocUnit}
use Rattle.tx_units.specs.Places.{NoneBegins}
use Rattle.tx_bridge.specs.declared.bridge.Bridge.{Bridge}
use Rattle.tx_bridge.specs.declared.course.Course.{Course}
use Rattle.tx_bridge.specs.declared.course.PartMove.{PartMove}
use Rattle.tx_walk.specs.LayerTraces.{TreeTrace}
use Rattle.tx_bridge.specs.Carrying.{through, unit_places_after, layers_now, mods_of, AllStand, Stands}
use Rattle.tx_bridge.specs.Carrying.{AreSameBodies}
use Rattle.tx_bridge.specs.Courses.{MayFollow, HasTree, strays_left, arrived_parts, joined_by, with_arrived}
use Rattle.tx_bridge.specs.Courses.{given_with}
use Rattle.tx_bridge.specs.Entries.{Kept, units_of}
use Rattle.tx_bridge.specs.HeldParts.{kept_parts}
use Rattle.tx_bridge.specs.Names.{PartMoves, CarryParts, CarryLayers, CarryStrays, IsCourse}
use Rattle.tx_bridge.specs.PartMoves.{Move, AreMoves, part_moves, seen_move, arrived, parts_now, all_parts_now}
use Rattle.tx_bridge.specs.PartsKept.{KeptParts, part_paths}
use Rattle.tx_bridge.specs.Slots.{HaveOwnPaths, AreMoved, AllPlaced, bodies_of, fresh_bridge, given_all, paths_in}
use Rattle.tx_bridge.specs.Sound.{IsSoundBridge, AreRight, entries_of, stored_parts_in, layers_in, sources_in}
use Rattle.tx_bridge.specs.Strays.{Stray, kept_strays, HoldsStray, AreStrays, StandAside, strays_in, AreTidy}
use Rattle.tx_bridge.specs.declared.strays.Stray.{Stray as DoneStray}
use Rattle.tx_bridge.specs.UnitLists.{AreUnits, HasPathIfBody}
use Rattle.tx_bridge.proofs.Arrived.{units_bodies, moved_all, carried_sound}
use Rattle.tx_bridge.proofs.Comers.{AllHoldParts, AllOutside, HoldAside, arrived_hold, kept_arrived, left_distinct}
use Rattle.tx_bridge.proofs.Comers.{left_outside}
use Rattle.tx_bridge.proofs.Outside.{kept_left, tidy_left, hold_left, stand_left, hold_aside, are_left, aside_none}
use Rattle.tx_bridge.proofs.Outside.{aside_distinct, aside_outside}
use Rattle.tx_walk.specs.declared.part.Part.{Part as DonePart}
use Rattle.tx_bridge.proofs.Above.{one_above, in_rest}
use Rattle.tx_bridge.proofs.PartsSame.{no_parts}
use Rattle.tx_bridge.proofs.Taking.{AreBare, fresh_bare, bare_bodies, got, all_got, given_got, got_found, number_given}
use Rattle.tx_bridge.proofs.Taking.{source_in, parts_in_one, places_same, places_many}
use Rattle.tx_bridge.proofs.WithinUnit.{hold_kept, kept_paths}

-- ---- the new units

arrived_bare : (ms : List PartMove) (j : ℕ) (us : List DocUnit) (ws : List Bridge) → AreBare us ws
    → AreBare us (with_arrived ms j ws)
arrived_bare ms j [] [] h = tt
arrived_bare ms j [] (w ∷ ws) h = absurd h
arrived_bare ms j (u ∷ us) [] h = absurd h
arrived_bare ms j (u ∷ us) (w ∷ ws) h = (h.0, arrived_bare ms (j + 1) us ws h.1)

-- the new units with the parts that have moved to them
abbrev pub coming : List PartMove → List DocUnit → List Bridge
coming ms us = with_arrived ms 0 (map fresh_bridge us)

pub coming_bare : (ms : List PartMove) (us : List DocUnit) → AreBare us (coming ms us)
coming_bare ms us = arrived_bare ms 0 us (map fresh_bridge us) (fresh_bare us)

unit_at : (us : List DocUnit) (ws : List Bridge) (k : ℕ) (w : Bridge) → AreBare us ws → slice_get ws k ≡ Some w
    → slice_get us k ≡ Some w.unit
unit_at [] [] k w h e = cc
unit_at [] (x ∷ ws) k w h e = absurd h
unit_at (u ∷ us) [] k w h e = absurd h
unit_at (u ∷ us) (x ∷ ws) zero w h e =
    let same : x ≡ w = cc in
    ap (λ v. Some v) (sym h.0.0) ∙ ap (λ (b : Bridge). Some b.unit) same
unit_at (u ∷ us) (x ∷ ws) (suc k) w h e = unit_at us ws k w h.1 e

pub coming_apart : (ms : List PartMove) (us : List DocUnit) → NoneBegins us → HaveOwnPaths (coming ms us)
coming_apart ms us apart j k v w p at_j at_k is_v is_w =
    let whole : p ++ [] ≡ p = append-nil p in
    one_above us j k v.unit w.unit (p ++ []) [] [] apart (unit_at us (coming ms us) j v (coming_bare ms us) at_j)
    (unit_at us (coming ms us) k w (coming_bare ms us) at_k) (in_rest v.unit p [] is_v) (in_rest w.unit p [] is_w)

each_placed : (us : List DocUnit) (k : ℕ) (u : DocUnit) → AllByRecursion HasPathIfBody us → slice_get us k ≡ Some u
    → HasPathIfBody u
each_placed [] k u h e = cc
each_placed (v ∷ us) zero u h e = let same : v ≡ u = cc in subst HasPathIfBody same h.0
each_placed (v ∷ us) (suc k) u h e = each_placed us k u h.1 e

pub coming_placed : (ms : List PartMove) (us : List DocUnit) → AllByRecursion HasPathIfBody us
    → AllPlaced (coming ms us)
coming_placed ms us placed k b at =
    each_placed us k b.unit placed (unit_at us (coming ms us) k b (coming_bare ms us) at)

-- ---- where old ones are

module _ (ms : List Mod) (t : WideTree) (old bs : List Bridge) (places read : List (Option (List ℕ)))
    (is_places : places ≡ map (through ms t) (paths_in old)) (is_read : read ≡ places) (is_bs : bs ≡ old) where
  pub moved_as : AreMoved read bs
  moved_as =
      subst (λ qs. AreMoved qs bs) (sym (is_read ∙ is_places))
      (subst (λ cs. AreMoved (map (through ms t) (paths_in old)) cs) (sym is_bs) (moved_all ms t old))

  pub as_many : length read ≡ length bs
  as_many = ap length (is_read ∙ is_places) ∙ places_many ms t old ∙ ap length (sym is_bs)

  pub as_given : (moves : List PartMove) (us : List DocUnit) (new result : List Bridge) → new ≡ coming moves us
      → result ≡ given_all 0 read bs new → result ≡ given_with moves ms t old us
  as_given moves us new result is_new is =
      is ∙ ap (λ qs. given_all 0 qs bs new) (is_read ∙ is_places)
      ∙ ap (λ cs. given_all 0 (map (through ms t) (paths_in old)) cs new) is_bs
      ∙ ap (given_all 0 (map (through ms t) (paths_in old)) old) is_new

-- the places that a course has
pub course_places : (ms : List Mod) (t : WideTree) (kept : Kept) (old : List Bridge) (places : List (Option (List ℕ)))
    → entries_of old ≡ kept → places ≡ unit_places_after ms t (units_of kept)
    → places ≡ map (through ms t) (paths_in old)
course_places ms t kept old places was is =
    is ∙ ap (unit_places_after ms t) (sym (ap units_of was) ∙ units_bodies old) ∙ sym (places_same ms t old)

-- ---- what is cached of parts

kept_of_one : Bridge → KeptParts
kept_of_one b = kept_parts b.parts

parts_found : (bs : List Bridge) (moves : List Move) (j n k : ℕ) (b : Bridge) → n ≡ 0 + k → slice_get bs k ≡ Some b
    → parts_now (stored_parts_in bs) moves j (Some n) ≡ kept_parts b.parts
parts_found bs moves j n k b e at =
    let same : n ≡ k = omega (arith, e) in
    ap (λ i. parts_now (stored_parts_in bs) moves j (Some i)) same
    ∙ ap (λ o. option_map_or (λ ks. ks) o []) (slice_get-map parts_in_one bs k ∙ ap (option_map parts_in_one) at)

all_parts : (ps : List PartMove) (qs : List (Option (List ℕ))) (bs : List Bridge) (j : ℕ) (us : List DocUnit)
    → all_got (λ i b. kept_parts b.parts) parts_in_one 0 qs bs j (with_arrived ps j (map fresh_bridge us))
    ≡ all_parts_now (stored_parts_in bs) (map seen_move ps) j
    (all_got number_given source_in 0 qs bs j (with_arrived ps j (map fresh_bridge us)))
all_parts ps qs bs j [] = refl
all_parts ps qs bs j (u ∷ us) =
    ap (λ x. x ∷ all_got (λ i b. kept_parts b.parts) parts_in_one 0 qs bs (j + 1)
    (with_arrived ps (j + 1) (map fresh_bridge us)))
    (ap (got (λ i b. kept_parts b.parts) 0 qs bs j u) (kept_arrived ps j)
    ∙ got_found parts_in_one (parts_now (stored_parts_in bs) (map seen_move ps) j) 0 qs bs j u None
    (parts_found bs (map seen_move ps) j))
    ∙ ap (λ xs. parts_now (stored_parts_in bs) (map seen_move ps) j (got number_given 0 qs bs j u None) ∷ xs)
    (all_parts ps qs bs (j + 1) us)

pub given_parts : (ps : List PartMove) (ms : List Mod) (t : WideTree) (old : List Bridge) (us : List DocUnit)
    → stored_parts_in (given_with ps ms t old us)
    ≡ all_parts_now (stored_parts_in old) (map seen_move ps) 0 (sources_in (given_with ps ms t old us))
given_parts ps ms t old us =
    given_got (λ i b. kept_parts b.parts) parts_in_one (λ i b w. refl) 0 (map (through ms t) (paths_in old)) old
    (coming ps us)
    ∙ all_parts ps (map (through ms t) (paths_in old)) old 0 us
    ∙ ap (all_parts_now (stored_parts_in old) (map seen_move ps) 0)
    (sym (given_got number_given source_in (λ i b w. refl) 0 (map (through ms t) (paths_in old)) old (coming ps us)))

-- ---- what is cached of layers

layers_found : (bs : List Bridge) (n k : ℕ) (b : Bridge) → n ≡ 0 + k → slice_get bs k ≡ Some b
    → layers_now (layers_in bs) (Some n) ≡ b.layers
layers_found bs n k b e at =
    let same : n ≡ k = omega (arith, e) in
    ap (λ i. layers_now (layers_in bs) (Some i)) same
    ∙ ap (λ o. option_map_or (λ ls. ls) o []) (slice_get-map (λ (w : Bridge). w.layers) bs k
    ∙ ap (option_map (λ (w : Bridge). w.layers)) at)

all_layers : (ps : List PartMove) (qs : List (Option (List ℕ))) (bs : List Bridge) (j : ℕ) (us : List DocUnit)
    → all_got (λ i b. b.layers) (λ b. b.layers) 0 qs bs j (with_arrived ps j (map fresh_bridge us))
    ≡ map (layers_now (layers_in bs))
    (all_got number_given source_in 0 qs bs j (with_arrived ps j (map fresh_bridge us)))
all_layers ps qs bs j [] = refl
all_layers ps qs bs j (u ∷ us) =
    ap (λ x. x ∷ all_got (λ i b. b.layers) (λ b. b.layers) 0 qs bs (j + 1)
    (with_arrived ps (j + 1) (map fresh_bridge us)))
    (got_found (λ (b : Bridge). b.layers) (layers_now (layers_in bs)) 0 qs bs j u None (layers_found bs))
    ∙ ap (λ xs. layers_now (layers_in bs) (got number_given 0 qs bs j u None) ∷ xs) (all_layers ps qs bs (j + 1) us)

given_layers : (ps : List PartMove) (ms : List Mod) (t : WideTree) (old : List Bridge) (us : List DocUnit)
    → layers_in (given_with ps ms t old us)
    ≡ map (layers_now (layers_in old)) (sources_in (given_with ps ms t old us))
given_layers ps ms t old us =
    given_got (λ i b. b.layers) (λ b. b.layers) (λ i b w. refl) 0 (map (through ms t) (paths_in old)) old
    (coming ps us)
    ∙ all_layers ps (map (through ms t) (paths_in old)) old 0 us
    ∙ ap (map (layers_now (layers_in old)))
    (sym (given_got number_given source_in (λ i b w. refl) 0 (map (through ms t) (paths_in old)) old (coming ps us)))

pub received_layers : (ps : List PartMove) (ms : List Mod) (t : WideTree) (lss : List (List TreeTrace))
    (us : List DocUnit) (old result : List Bridge) → layers_in old ≡ lss
    → result ≡ given_with ps ms t old us → layers_in result ≡ CarryLayers lss (sources_in result)
unfolding CarryLayers
received_layers ps ms t lss us old result had is =
    ap layers_in is ∙ given_layers ps ms t old us
    ∙ ap (λ bs. map (layers_now (layers_in old)) (sources_in bs)) (sym is)
    ∙ ap (λ ks. map (layers_now ks) (sources_in result)) had

-- ---- what has moved holds

held_parts : (ms : List Mod) (t : WideTree) (vs : List DocUnit) (bs : List Bridge) → AllByRecursion IsSoundBridge bs
    → AllHoldParts ms t vs (bodies_of bs) (stored_parts_in bs)
held_parts ms t vs [] h = tt
held_parts ms t vs (b ∷ bs) h = (
  (
    hold_kept b.unit.tagged.tree b.parts h.0.parts.hold,
    subst (IsDistinct bytes_eq) (sym (kept_paths b.parts)) h.0.parts.distinct,
  ),
  held_parts ms t vs bs h.1,
)

-- the unit is sound with the parts that arrive at number j
Fits : List PartMove → ℕ → DocUnit → Type 0
Fits ps j u = IsSoundBridge (joined_by (arrived_parts ps j) (fresh_bridge u))

coming_each : (ps : List PartMove) (j : ℕ) (us : List DocUnit)
    → ((k n : ℕ) (u : DocUnit) → n ≡ j + k → slice_get us k ≡ Some u → Fits ps n u)
    → AllByRecursion IsSoundBridge (with_arrived ps j (map fresh_bridge us))
unfolding Fits
coming_each ps j [] h = tt
coming_each ps j (u ∷ us) h = (
  h 0 j u (omega arith) refl,
  coming_each ps (j + 1) us (λ k n v e at. h (suc k) n v (omega (arith, e)) at),
)

none_comes : (ps : List PartMove) (us : List DocUnit) → AllByRecursion HasPathIfBody us
    → ((n : ℕ) → n < length us → arrived_parts ps n ≡ [])
    → (k n : ℕ) (u : DocUnit) → n ≡ 0 + k → slice_get us k ≡ Some u → Fits ps n u
unfolding Fits
none_comes ps us placed none k n u e at =
    subst (λ qs. IsSoundBridge (joined_by qs (fresh_bridge u))) (sym (none n (omega (
      arith,
      e,
      slice_get_within us k u
          at,
    ))))
    (record { holds = tt; once = tt; placed = each_placed us k u placed at; parts = no_parts false u })

no_parts_kept : (ps : List DonePart) → kept_parts ps ≡ [] → ps ≡ []
no_parts_kept [] e = refl
no_parts_kept (p ∷ ps) e = cc

stands_at : (w : WideTree) (vs : List DocUnit) (k : ℕ) (v : DocUnit) → AllStand w vs → slice_get vs k ≡ Some v
    → Stands w v
stands_at w [] k v h e = cc
stands_at w (u ∷ vs) zero v h e = let same : u ≡ v = cc in subst (Stands w) same h.0
stands_at w (u ∷ vs) (suc k) v h e = stands_at w vs k v h.1 e

some_come : (ms : List Mod) (t w : WideTree) (old : List Bridge) (us : List DocUnit) (ks : KeptParts)
    (ps : List PartMove)
    → ((q : List ℕ) → CarriesThroughAll ms t q) → ((m : Mod) (s : WideTree) (q : List ℕ) → CarriesSubtree m s q)
    → changed_by_all ms t ≡ Some w → AllStand t (bodies_of old) → NoneBegins (bodies_of old)
    → AllByRecursion IsSoundBridge old → HoldAside t (bodies_of old) ks
    → AreMoves (part_moves 0 ms t (bodies_of old) (stored_parts_in old) ks us) ps
    → AllStand w us → AllByRecursion HasPathIfBody us
    → (k n : ℕ) (u : DocUnit) → n ≡ 0 + k → slice_get us k ≡ Some u → Fits ps n u
unfolding Fits
some_come ms t w old us ks ps through_all law made stand apart sound aside moves now placed k n u e at =
    let here : slice_get us n ≡ Some u = let same : n ≡ k = omega (arith, e) in ap (slice_get us) same ∙ at in
    let hold =
    arrived_hold ms t w (bodies_of old) us (stored_parts_in old) ks through_all law made stand apart
    (held_parts ms t us old sound) aside ps moves.all moves.tidy n u here (stands_at w us k u now at) in
    record {
      holds = tt;
      once = tt;
      placed = each_placed us k u placed at;
      parts = record { hold = hold.0; distinct = hold.1; all = λ off. tt };
    }

coming_fits : (buffer : ℕ) (ms : List Mod) (t : WideTree) (old : List Bridge) (us : List DocUnit) (ks : KeptParts)
    (ps : List PartMove) → ((u : WideTree) × (changed_by_all ms t ≡ Some u))
    → ((q : List ℕ) → CarriesThroughAll ms t q) → ((m : Mod) (s : WideTree) (q : List ℕ) → CarriesSubtree m s q)
    → All IsSoundBridge old → NoneBegins (bodies_of old) → AllByRecursion HasPathIfBody us
    → (buffer ≡ 0 → AllStand t (bodies_of old))
    → (buffer ≡ 0 → (u : WideTree) → changed_by_all ms t ≡ Some u → AllStand u us)
    → (buffer ≡ 0 → HoldAside t (bodies_of old) ks)
    → AreMoves (part_moves buffer ms t (bodies_of old) (stored_parts_in old) ks us) ps
    → (k n : ℕ) (u : DocUnit) → n ≡ 0 + k → slice_get us k ≡ Some u → Fits ps n u
coming_fits zero ms t old us ks ps made through_all law sound apart placed stand_old stand_new aside moves =
    some_come ms t made.0 old us ks ps through_all law made.1 (stand_old refl) apart
    (recursion_from_All IsSoundBridge old sound) (aside refl) moves (stand_new refl made.0 made.1) placed
coming_fits (suc buffer) ms t old us ks ps made through_all law sound apart placed stand_old stand_new aside moves =
    none_comes ps us placed
    (λ n less. no_parts_kept (arrived_parts ps n)
    (kept_arrived ps n ∙ ap (λ xs. arrived xs n) moves.all ∙ aside_none us (length (bodies_of old)) 0 n ks less))

-- ---- what the calls ask for, and what they ensure

module _ (buffer : ℕ) (ms : List Mod) (t : WideTree) (kept : Kept) (pss : List KeptParts) (ss : List Stray)
    (us : List DocUnit) (old : List Bridge) (flag : Bool) (was : List DoneStray) (c : Course)
    (is_kept : entries_of old ≡ kept) (is_parts : stored_parts_in old ≡ pss) (is_strays : strays_in was ≡ ss)
    (right : AreRight flag old was) (applies : (u : WideTree) × (changed_by_all ms t ≡ Some u))
    (through_all : (q : List ℕ) → CarriesThroughAll ms t q)
    (law : (m : Mod) (s : WideTree) (q : List ℕ) → CarriesSubtree m s q)
    (stand_old : buffer ≡ 0 → AllStand t (units_of kept)) (stand_aside : buffer ≡ 0 → StandAside t ss)
    (course : IsCourse buffer ms t (units_of kept) pss ss us c) where
  bodies : units_of kept ≡ bodies_of old
  bodies = sym (ap units_of is_kept) ∙ units_bodies old

  apart_old : NoneBegins (bodies_of old)
  apart_old = (subst AreUnits (units_bodies old) right.units).apart

  bodies_stand : buffer ≡ 0 → AllStand t (bodies_of old)
  bodies_stand e = subst (AllStand t) bodies (stand_old e)

  strays_hold : AreStrays (bodies_of old) ss
  strays_hold =
      subst (AreStrays (bodies_of old)) is_strays
      (subst (λ vs. AreStrays vs (strays_in was)) (units_bodies old) right.strays)

  aside : buffer ≡ 0 → HoldAside t (bodies_of old) (kept_strays ss)
  aside e = hold_aside t (bodies_of old) ss strays_hold (stand_aside e)

  moves : AreMoves (part_moves buffer ms t (bodies_of old) (stored_parts_in old) (kept_strays ss) us) c.moves.items
  unfolding PartMoves
  moves =
      subst (λ qs. AreMoves (part_moves buffer ms t (bodies_of old) qs (kept_strays ss) us) c.moves.items)
      (sym is_parts)
      (subst (λ vs. AreMoves (part_moves buffer ms t vs pss (kept_strays ss) us) c.moves.items) bodies course.moves)

  pub received_sound : (result : List Bridge) → AreUnits us
      → (buffer ≡ 0 → (u : WideTree) → changed_by_all ms t ≡ Some u → AllStand u us)
      → ((buffer ≡ 0 → ⊥) → AreSameBodies (units_of kept) us)
      → result ≡ given_with c.moves.items (mods_of buffer ms) t old us → All IsSoundBridge result
  received_sound result are stand_new same is =
      subst (All IsSoundBridge) (sym is)
      (carried_sound buffer ms t old (coming c.moves.items us) us applies through_all right.sound
      (bare_bodies us (coming c.moves.items us) (coming_bare c.moves.items us))
      (All-from_recursion IsSoundBridge (coming c.moves.items us)
      (coming_each c.moves.items 0 us
      (coming_fits buffer ms t old us (kept_strays ss) c.moves.items applies through_all law right.sound apart_old
      are.placed bodies_stand stand_new aside moves)))
      bodies_stand stand_new (λ e. subst (λ vs. AreSameBodies vs us) bodies (same e)))

  -- the strays afterwards

  left_hold : AllByRecursion HoldsStray (strays_in (strays_left c.moves.items (length us)))
  left_hold = hold_left (MayFollow buffer ms t ss) (length us) c.moves.items course.trees

  left_kept : kept_strays (strays_in (strays_left c.moves.items (length us)))
      ≡ arrived (part_moves buffer ms t (bodies_of old) (stored_parts_in old) (kept_strays ss) us) (length us)
  left_kept = kept_left c.moves.items (length us) ∙ ap (λ xs. arrived xs (length us)) moves.all

  abbrev now_left : ℕ → KeptParts
  now_left b = arrived (part_moves b ms t (bodies_of old) (stored_parts_in old) (kept_strays ss) us) (length us)

  abbrev AreApartNow : ℕ → Type 0
  AreApartNow b = IsDistinct bytes_eq (part_paths (now_left b)) × AllOutside us (now_left b)

  apart_now : (b : ℕ) → buffer ≡ b → AreApartNow b
  apart_now zero e =
      let hold = held_parts ms t us old (recursion_from_All IsSoundBridge old right.sound) in (
        left_distinct ms t applies.0 (bodies_of old) us (stored_parts_in old) (kept_strays ss) through_all law applies.1
            (bodies_stand e) apart_old hold (aside e),
        left_outside ms t applies.0 (bodies_of old) us (stored_parts_in old) (kept_strays ss) through_all law applies.1
            (bodies_stand e) apart_old hold (aside e),
      )
  apart_now (suc b) e = (
    aside_distinct us (length (bodies_of old)) (kept_strays ss) strays_hold.distinct,
    aside_outside us (length (bodies_of old)) (kept_strays ss),
  )

  left_are : AreStrays us (strays_in (strays_left c.moves.items (length us)))
  left_are =
      let both : AreApartNow buffer = apart_now buffer refl in
      are_left us c.moves.items (now_left buffer) left_kept left_hold both.0 both.1

  module _ (left : List DoneStray) (is : left ≡ strays_left c.moves.items (length us)) where
    pub received_strays : (vs : List DocUnit) → vs ≡ us → AreStrays vs (strays_in left)
    received_strays vs same =
        subst (λ ws. AreStrays ws (strays_in left)) (sym same)
        (subst (λ xs. AreStrays us (strays_in xs)) (sym is) left_are)

    pub received_tidy : AreTidy left
    received_tidy = subst AreTidy (sym is) (tidy_left (length us) c.moves.items course.moves.tidy)

    pub received_kept : kept_strays (strays_in left)
        ≡ CarryStrays (PartMoves buffer ms t (units_of kept) pss (kept_strays ss) us) (length us)
    unfolding CarryStrays
    received_kept =
        ap (λ xs. kept_strays (strays_in xs)) is ∙ kept_left c.moves.items (length us)
        ∙ ap (λ xs. arrived xs (length us)) course.moves.all

    pub received_stand : (u : WideTree) → MayFollow buffer ms t ss u → StandAside u (strays_in left)
    received_stand u after =
        subst (λ xs. StandAside u (strays_in xs)) (sym is)
        (stand_left (MayFollow buffer ms t ss) (length us) c.moves.items course.trees u after)

-- the document after an edit
pub behind_document : (buffer : ℕ) (ms : List Mod) (t : WideTree) (ss : List Stray) (u : WideTree) → buffer ≡ 0
    → changed_by_all ms t ≡ Some u → MayFollow buffer ms t ss u
behind_document zero ms t ss u e made = made
behind_document (suc buffer) ms t ss u e made = absurd (omega (arith, e))

pub behind_other : (buffer : ℕ) (ms : List Mod) (t : WideTree) (ss : List Stray) (u : WideTree) → (buffer ≡ 0 → ⊥)
    → StandAside u ss → MayFollow buffer ms t ss u
behind_other zero ms t ss u e stand = absurd (e refl)
behind_other (suc buffer) ms t ss u e stand = stand

pub received_parts : (buffer : ℕ) (ms : List Mod) (t : WideTree) (kept : Kept) (pss : List KeptParts)
    (ss : List Stray) (us : List DocUnit) (old result : List Bridge) (c : Course) → stored_parts_in old ≡ pss
    → IsCourse buffer ms t (units_of kept) pss ss us c
    → result ≡ given_with c.moves.items (mods_of buffer ms) t old us
    → stored_parts_in result
    ≡ CarryParts pss (PartMoves buffer ms t (units_of kept) pss (kept_strays ss) us) (sources_in result)
unfolding CarryParts
received_parts buffer ms t kept pss ss us old result c had course is =
    ap stored_parts_in is ∙ given_parts c.moves.items (mods_of buffer ms) t old us
    ∙ ap (λ bs. all_parts_now (stored_parts_in old) (map seen_move c.moves.items) 0 (sources_in bs)) (sym is)
    ∙ ap (λ ms2. all_parts_now (stored_parts_in old) ms2 0 (sources_in result)) course.moves.all
    ∙ ap (λ qs. all_parts_now qs (PartMoves buffer ms t (units_of kept) pss (kept_strays ss) us) 0
    (sources_in result)) had

-- ---- the course

pub bodies_kept : (kept : Kept) (old read : List Bridge) → entries_of old ≡ kept → read ≡ old
    → bodies_of read ≡ units_of kept
bodies_kept kept old read was is = ap bodies_of is ∙ sym (units_bodies old) ∙ ap units_of was

pub all_ok : {X Y : Type 0} (r : Result X Y) (P Q R S : X → Type 0) → ((x : X) → P x → Q x → R x → S x)
    → IfOk r P → IfOk r Q → IfOk r R → IfOk r S
all_ok (Ok x) P Q R S f p q h = f x p q h
all_ok (Err y) P Q R S f p q h = tt

pub is_course : (buffer : ℕ) (ms : List Mod) (t : WideTree) (kept : Kept) (pss : List KeptParts) (ss : List Stray)
    (vs : List DocUnit) (old read : List Bridge) (aside : List DoneStray) (c : Course) → entries_of old ≡ kept
    → stored_parts_in old ≡ pss → read ≡ old → strays_in aside ≡ ss
    → c.places.items ≡ map (through (mods_of buffer ms) t) (paths_in read)
    → AreMoves (part_moves buffer ms t (bodies_of read) (stored_parts_in read) (kept_strays (strays_in aside)) vs)
    c.moves.items
    → All (HasTree (MayFollow buffer ms t (strays_in aside)) (length vs)) c.moves.items
    → IsCourse buffer ms t (units_of kept) pss ss vs c
unfolding PartMoves
is_course buffer ms t kept pss ss vs old read aside c was had is seen places moves trees = record {
  places =
      places ∙ places_same (mods_of buffer ms) t read
      ∙ ap (unit_places_after (mods_of buffer ms) t) (bodies_kept kept old read was is);
  moves =
      subst (λ xs. AreMoves (part_moves buffer ms t (units_of kept) pss (kept_strays xs) vs) c.moves.items) seen
      (subst (λ qs. AreMoves (part_moves buffer ms t (units_of kept) qs (kept_strays (strays_in aside)) vs)
      c.moves.items) (ap stored_parts_in is ∙ had)
      (subst (λ us. AreMoves (part_moves buffer ms t us (stored_parts_in read) (kept_strays (strays_in aside)) vs)
      c.moves.items) (bodies_kept kept old read was is) moves));
  trees = subst (λ xs. All (HasTree (MayFollow buffer ms t xs) (length vs)) c.moves.items) seen trees;
}
