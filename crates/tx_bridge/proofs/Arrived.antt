-- What was carried supports the trees of the new units.
use Rattle.std.proofs.Common.{◌≡◌, ℕ, zero, suc, ◌+◌, List, [], ◌∷◌, map, Option, Some, None, refl, ap, sym}
use Rattle.std.proofs.Common.{◌∙◌, subst, arith}
use Rattle.std.proofs.lemmas.List.{append-nil}
use Rattle.std.proofs.lemmas.Option.{slice_get-map}
use Rattle.std.proofs.lemmas.List.Elements.{recursion_from_All, All-from_recursion}
use Rattle.std.specs.List.{All, AllByRecursion, IsDistinct}
use Rattle.std.specs.Str.{bytes_eq}
use Rattle.std.specs.Prelude.{Bool, true, false, ◌&&◌, ◌==◌, is_some, slice_get, if◌then◌else◌}
use Rattle.std.specs.Option.{option_map, option_map_or}
use Rattle.tx_tree.specs.WideTree.{WideTree}
use Rattle.tx_tree.specs.Paths.{subtree}
use Rattle.tx_mod.specs.declared.mods.Mod.{Mod}
use Rattle.tx_mod.specs.Followed.{CarriesThroughAll, changed_by_all}
use Rattle.tx_origin.specs.TaggedTrees.{TaggedTree, tagged_of}
use Rattle.tx_exec.specs.Outcomes.{wide_outcome, wide_trace}
use Rattle.tx_units.specs.declared.kinds.Unit.{Unit as DocUnit}
use Rattle.tx_bridge.specs.declared.bridge.Bridge.{Bridge}
use Rattle.tx_walk.specs.SameTrees.{is_same}
use Rattle.tx_bridge.specs.UnitLists.{HasPathIfBody}
use Rattle.tx_units.specs.Places.{NoneBegins}
use Rattle.tx_units.specs.Places.{AreApart as PathsApart}
use Rattle.tx_bridge.specs.Entries.{Entry, Kept, units_of, nothing_kept}
use Rattle.tx_bridge.specs.Sound.{IsSoundBridge, TraceHolds, AllHold, kept_unit, entries_of, stored_parts_in}
use Rattle.tx_bridge.specs.Sound.{sources_in}
use Rattle.tx_bridge.specs.PartsKept.{KeptParts}
use Rattle.tx_bridge.specs.HeldParts.{HoldsPart, StoredHolds, AllPartsHold, kept_parts}
use Rattle.tx_walk.specs.declared.part.Part.{Part as DonePart}
use Rattle.tx_bridge.specs.Carrying.{is_path, same_kind, same_unit, through, mods_of, Leads, AllLead, Stands}
use Rattle.tx_bridge.specs.Carrying.{AllStand, AreSameBodies}
use Rattle.tx_bridge.specs.Slots.{HaveOwnPaths, AreMoved, AllPlaced, stays, given_from, given_all}
use Rattle.tx_bridge.specs.Slots.{fresh_bridge, paths_in, bodies_of}
use Rattle.tx_bridge.proofs.PartsSame.{no_parts, parts_same}
use Rattle.tx_walk.proofs.Trees.{both, same_is}
use Rattle.tx_bridge.proofs.WithinUnit.{kept_paths}
use Rattle.tx_bridge.proofs.Slotting.{path_is, paths_alike, some_once}

-- the new unit w, after the old one of number i has given what is cached of it
abbrev pub with_given : ℕ → Bridge → Bridge → Bridge
with_given i b w = record {
  unit = w.unit;
  kept = b.kept;
  parts = b.parts;
  layers = b.layers;
  shelled = b.shelled;
  reached = w.reached;
  source = Some i;
}

-- ---- where old units are

pub lead_one : (t : WideTree) (u : DocUnit) → Stands t u → Leads t u.path
lead_one t u stands = by_path u.path refl
  where
    by_path : (o : Option (List ℕ)) → u.path ≡ o → Leads t o
    by_path None e = tt
    by_path (Some p) e = (u.tagged.tree, stands p e)

pub lead_all : (t : WideTree) (bs : List Bridge) → AllStand t (bodies_of bs) → AllLead t (paths_in bs)
lead_all t [] h k d l = absurd (omega (arith, l))
lead_all t (b ∷ bs) h zero d l = lead_one t b.unit h.0
lead_all t (b ∷ bs) h (suc k) d l = lead_all t bs h.1 k d (omega (arith, l))

pub moved_all : (ms : List Mod) (t : WideTree) (bs : List Bridge) → AreMoved (map (through ms t) (paths_in bs)) bs
moved_all ms t [] i q b e f none = cc
moved_all ms t (x ∷ bs) zero q b e f none =
    let first : through ms t x.unit.path ≡ q = cc in
    let same : x ≡ b = cc in
    sym first ∙ ap (λ (y : Bridge). through ms t y.unit.path) same ∙ ap (through ms t) none
moved_all ms t (x ∷ bs) (suc i) q b e f none = moved_all ms t bs i q b e f none

-- the tree has the old unit's tree where the unit is afterwards
abbrev pub Arrives : WideTree → Option (List ℕ) → DocUnit → Type 0
Arrives u place x = (p : List ℕ) → place ≡ Some p → subtree u p ≡ Some x.tagged.tree

pub arrives_at : (ms : List Mod) (t u : WideTree) (x : DocUnit) → changed_by_all ms t ≡ Some u
    → ((q : List ℕ) → CarriesThroughAll ms t q) → Stands t x → (o : Option (List ℕ)) → x.path ≡ o
    → Arrives u (through ms t o) x
arrives_at ms t u x made law stands None e p f = cc
arrives_at ms t u x made law stands (Some q) e p f = law q u x.tagged.tree p made (stands q e) f

-- ---- units with one tree

roots : (o r : Option (List ℕ)) → is_some o ≡ is_some r
    → option_map {U = List ℕ} (λ _. []) o ≡ option_map (λ _. []) r
roots None None e = refl
roots None (Some p) e = cc
roots (Some p) None e = cc
roots (Some p) (Some q) e = refl

tagged_at : WideTree → Option (List ℕ) → TaggedTree
tagged_at t at = record { tree = t; at = at }

tagged_is : (u v : DocUnit) → HasPathIfBody u → HasPathIfBody v → u.tagged.tree ≡ v.tagged.tree
    → is_some u.path ≡ is_some v.path
    → tagged_of u.tagged ≡ tagged_of v.tagged
unfolding tagged_at
tagged_is u v placed there trees paths =
    ap (λ t. tagged_at t u.tagged.at) trees
    ∙ ap (tagged_at v.tagged.tree) (placed.origin ∙ roots u.path v.path paths ∙ sym there.origin)

-- where the old unit is at the new one's path, they have one tree
abbrev pub SameAt : Option (List ℕ) → DocUnit → DocUnit → Type 0
SameAt place u v = (p : List ℕ) → place ≡ Some p → v.path ≡ Some p → u.tagged.tree ≡ v.tagged.tree

pub some_path : (place o : Option (List ℕ)) (p : List ℕ) → (o ≡ None → place ≡ None) → place ≡ Some p → is_some o ≡ true
some_path place None p h e = let off : Some p ≡ None = sym e ∙ h refl in cc
some_path place (Some q) p h e = refl

stays_tagged : (place : Option (List ℕ)) (i : ℕ) (u : DocUnit) (j : ℕ) (v : DocUnit) → HasPathIfBody u → HasPathIfBody v
    → (u.path ≡ None → place ≡ None) → SameAt place u v → (o : Option (List ℕ)) → v.path ≡ o
    → option_map_or (λ p. is_path p place) o (i == j && same_unit u v) ≡ true
    → tagged_of u.tagged ≡ tagged_of v.tagged
stays_tagged place i u j v placed there moved same (Some p) e h =
    let at : place ≡ Some p = path_is p place h in
    tagged_is u v placed there (same p at e) (some_path place u.path p moved at ∙ sym (ap is_some e))
stays_tagged place i u j v placed there moved same None e h =
    let unit : same_unit u v ≡ true = (both (i == j) (same_unit u v) h).1 in
    tagged_is u v placed there
    (same_is u.tagged.tree v.tagged.tree
    (both (same_kind u.kind v.kind) (is_same u.tagged.tree v.tagged.tree) unit).1)
    (paths_alike u v placed there unit)

-- ---- giving preserves what is true of what is cached

one_sound : (s : Bool) (i : ℕ) (b w : Bridge) → (s ≡ true → tagged_of b.unit.tagged ≡ tagged_of w.unit.tagged)
    → IsSoundBridge b → IsSoundBridge w → IsSoundBridge (if s then with_given i b w else w)
one_sound true i b w same sound_b sound_w = record {
  holds = subst (TraceHolds (wide_outcome b.kept)) (same refl) sound_b.holds;
  once = sound_b.once;
  placed = sound_w.placed;
  parts =
      parts_same b.shelled b.unit w.unit (wide_outcome b.kept) b.parts (same refl) sound_b.placed sound_w.placed
      sound_b.parts;
}
one_sound false i b w same sound_b sound_w = sound_w

one_unit : (s : Bool) (i : ℕ) (b w : Bridge) → (if s then with_given i b w else w).unit ≡ w.unit
one_unit true i b w = refl
one_unit false i b w = refl

units_given : (place : Option (List ℕ)) (i : ℕ) (b : Bridge) (o : ℕ) (ws : List Bridge)
    → bodies_of (given_from place i b o ws) ≡ bodies_of ws
units_given place i b o [] = refl
units_given place i b o (w ∷ ws) =
    ap (λ x. x ∷ bodies_of (given_from place i b (o + 1) ws)) (one_unit (stays place i b.unit o w.unit) i b w)
    ∙ ap (λ us. w.unit ∷ us) (units_given place i b (o + 1) ws)

given_sound : (place : Option (List ℕ)) (i : ℕ) (b : Bridge) (o : ℕ) (ws : List Bridge) → IsSoundBridge b
    → (b.unit.path ≡ None → place ≡ None) → AllByRecursion (SameAt place b.unit) (bodies_of ws)
    → AllByRecursion IsSoundBridge ws → AllByRecursion IsSoundBridge (given_from place i b o ws)
given_sound place i b o [] sound moved same h = tt
given_sound place i b o (w ∷ ws) sound moved same h = (
  one_sound (stays place i b.unit o w.unit) i b w
      (λ s. stays_tagged place i b.unit o w.unit sound.placed h.0.placed moved same.0 w.unit.path refl s) sound h.0,
  given_sound place i b (o + 1) ws sound moved same.1 h.1,
)

-- what is asked of each old unit and its place
abbrev Matches : Option (List ℕ) → Bridge → List DocUnit → Type 0
Matches place b us = (b.unit.path ≡ None → place ≡ None) × AllByRecursion (SameAt place b.unit) us

abbrev AllMatch : List (Option (List ℕ)) → List Bridge → List DocUnit → Type 0
AllMatch [] bs us = Unit {0}
AllMatch (place ∷ places) [] us = Unit {0}
AllMatch (place ∷ places) (b ∷ bs) us = Matches place b us × AllMatch places bs us

all_given_sound : (i : ℕ) (places : List (Option (List ℕ))) (bs new : List Bridge) → AllMatch places bs (bodies_of new)
    → AllByRecursion IsSoundBridge bs → AllByRecursion IsSoundBridge new
    → AllByRecursion IsSoundBridge (given_all i places bs new)
all_given_sound i [] bs new match sound h = h
all_given_sound i (place ∷ places) [] new match sound h = h
all_given_sound i (place ∷ places) (b ∷ bs) new match sound h =
    all_given_sound (i + 1) places bs (given_from place i b 0 new)
    (subst (AllMatch places bs) (sym (units_given place i b 0 new)) match.1) sound.1
    (given_sound place i b 0 new sound.0 match.0.0 match.0.1 h)

-- ---- an edit of the document, and one of another buffer

pub still : (t : WideTree) (o : Option (List ℕ)) → through [] t o ≡ o
still t None = refl
still t (Some p) = refl

match_document : (ms : List Mod) (t u : WideTree) (bs : List Bridge) (us : List DocUnit) → changed_by_all ms t ≡ Some u
    → ((q : List ℕ) → CarriesThroughAll ms t q) → AllStand t (bodies_of bs) → AllStand u us
    → AllMatch (map (through ms t) (paths_in bs)) bs us
match_document ms t u [] us made law old new = tt
match_document ms t u (b ∷ bs) us made law old new = (
  (
    (λ none. ap (through ms t) none),
    same_at (through ms t b.unit.path) us (arrives_at ms t u b.unit made law old.0 b.unit.path refl) new,
  ),
  match_document ms t u bs us made law old.1 new,
)
  where
    same_at : (place : Option (List ℕ)) (vs : List DocUnit) → Arrives u place b.unit → AllStand u vs
        → AllByRecursion (SameAt place b.unit) vs
    same_at place [] arrives stand = tt
    same_at place (v ∷ vs) arrives stand = (
      (λ p e f. some_once (subtree u p) b.unit.tagged.tree v.tagged.tree (arrives p e) (stand.0 p f)),
      same_at place vs arrives stand.1,
    )

match_other : (t : WideTree) (bs : List Bridge) (us : List DocUnit) → AreSameBodies (bodies_of bs) us
    → AllMatch (map (through [] t) (paths_in bs)) bs us
match_other t [] us h = tt
match_other t (b ∷ bs) us h = (
  (
    (λ none. ap (through [] t) none),
    subst (λ place. AllByRecursion (SameAt place b.unit) us) (sym (still t b.unit.path)) h.0,
  ),
  match_other t bs us h.1,
)

fresh_units : (us : List DocUnit) → bodies_of (map fresh_bridge us) ≡ us
fresh_units [] = refl
fresh_units (u ∷ us) = ap (λ vs. u ∷ vs) (fresh_units us)

fresh_sound : (us : List DocUnit) → AllByRecursion HasPathIfBody us → AllByRecursion IsSoundBridge (map fresh_bridge us)
fresh_sound [] h = tt
fresh_sound (u ∷ us) h = (record { holds = tt; once = tt; placed = h.0; parts = no_parts false u }, fresh_sound us h.1)

pub all_given_units : (i : ℕ) (places : List (Option (List ℕ))) (bs new : List Bridge)
    → bodies_of (given_all i places bs new) ≡ bodies_of new
all_given_units i [] bs new = refl
all_given_units i (place ∷ places) [] new = refl
all_given_units i (place ∷ places) (b ∷ bs) new =
    all_given_units (i + 1) places bs (given_from place i b 0 new) ∙ units_given place i b 0 new

-- units with nothing cached are sound
pub start_sound : (us : List DocUnit) → AllByRecursion HasPathIfBody us → All IsSoundBridge (map fresh_bridge us)
start_sound us h = All-from_recursion IsSoundBridge (map fresh_bridge us) (fresh_sound us h)

sound_by : (places : List (Option (List ℕ))) (old new : List Bridge) (us : List DocUnit) → bodies_of new ≡ us
    → All IsSoundBridge new → AllMatch places old us → All IsSoundBridge old
    → All IsSoundBridge (given_all 0 places old new)
sound_by places old new us are fresh match sound =
    All-from_recursion IsSoundBridge (given_all 0 places old new)
    (all_given_sound 0 places old new (subst (AllMatch places old) (sym are) match)
    (recursion_from_All IsSoundBridge old sound) (recursion_from_All IsSoundBridge new fresh))

pub carried_sound : (buffer : ℕ) (ms : List Mod) (t : WideTree) (old new : List Bridge) (us : List DocUnit)
    → ((u : WideTree) × (changed_by_all ms t ≡ Some u)) → ((q : List ℕ) → CarriesThroughAll ms t q)
    → All IsSoundBridge old
    → bodies_of new ≡ us → All IsSoundBridge new → (buffer ≡ 0 → AllStand t (bodies_of old))
    → (buffer ≡ 0 → (u : WideTree) → changed_by_all ms t ≡ Some u → AllStand u us)
    → ((buffer ≡ 0 → ⊥) → AreSameBodies (bodies_of old) us)
    → All IsSoundBridge (given_all 0 (map (through (mods_of buffer ms) t) (paths_in old)) old new)
carried_sound zero ms t old new us made law sound are fresh stand_old stand_new same =
    sound_by (map (through ms t) (paths_in old)) old new us are fresh
    (match_document ms t made.0 old us made.1 law (stand_old refl) (stand_new refl made.0 made.1)) sound
carried_sound (suc buffer) ms t old new us made law sound are fresh stand_old stand_new same =
    sound_by (map (through [] t) (paths_in old)) old new us are fresh
    (match_other t old us (same (λ q. omega (arith, q)))) sound

-- ---- the modifications that count

pub of_document : (buffer : ℕ) (ms : List Mod) → buffer ≡ 0 → mods_of buffer ms ≡ ms
of_document buffer ms e = ap (λ b. mods_of b ms) e

of_other : (buffer : ℕ) (ms : List Mod) → (buffer ≡ 0 → ⊥) → mods_of buffer ms ≡ []
of_other zero ms h = absurd (h refl)
of_other (suc b) ms h = refl

still_all : (t : WideTree) (places : List (Option (List ℕ))) → places ≡ map (through [] t) places
still_all t [] = refl
still_all t (q ∷ qs) = ap (λ p. p ∷ qs) (sym (still t q)) ∙ ap (λ ps. through [] t q ∷ ps) (still_all t qs)

pub by_document : (buffer : ℕ) (ms : List Mod) (t : WideTree) (qs rs : List (Option (List ℕ))) → buffer ≡ 0
    → rs ≡ map (through ms t) qs → rs ≡ map (through (mods_of buffer ms) t) qs
by_document buffer ms t qs rs e h = h ∙ ap (λ ns. map (through ns t) qs) (sym (of_document buffer ms e))

pub by_other : (buffer : ℕ) (ms : List Mod) (t : WideTree) (qs : List (Option (List ℕ))) → (buffer ≡ 0 → ⊥)
    → qs ≡ map (through (mods_of buffer ms) t) qs
by_other buffer ms t qs h = still_all t qs ∙ ap (λ ns. map (through ns t) qs) (sym (of_other buffer ms h))

-- ---- what giving asks for

apart_at : (o : Option (List ℕ)) (us : List DocUnit) (k : ℕ) (w : Bridge)
    → AllByRecursion (λ v. PathsApart o v.path) us → slice_get (map fresh_bridge us) k ≡ Some w
    → PathsApart o w.unit.path
apart_at o [] k w h e = cc
apart_at o (u ∷ us) zero w h e =
    let same : fresh_bridge u ≡ w = cc in subst (λ (b : Bridge). PathsApart o b.unit.path) same h.0
apart_at o (u ∷ us) (suc k) w h e = apart_at o us k w h.1 e

one_path : (o r : Option (List ℕ)) (p : List ℕ) → PathsApart o r → o ≡ Some p → r ≡ Some p → ⊥
one_path o r p h e f = (h p []).0 e (f ∙ ap Some (sym (append-nil p)))

pub fresh_apart : (us : List DocUnit) → NoneBegins us → HaveOwnPaths (map fresh_bridge us)
fresh_apart [] h j k v w p e f is_v is_w = cc
fresh_apart (u ∷ us) h zero zero v w p e f is_v is_w = refl
fresh_apart (u ∷ us) h zero (suc k) v w p e f is_v is_w =
    let same : fresh_bridge u ≡ v = cc in
    absurd (one_path u.path w.unit.path p (apart_at u.path us k w h.0 f)
    (ap (λ (b : Bridge). b.unit.path) same ∙ is_v) is_w)
fresh_apart (u ∷ us) h (suc j) zero v w p e f is_v is_w =
    let same : fresh_bridge u ≡ w = cc in
    absurd (one_path u.path v.unit.path p (apart_at u.path us j v h.0 e)
    (ap (λ (b : Bridge). b.unit.path) same ∙ is_w) is_v)
fresh_apart (u ∷ us) h (suc j) (suc k) v w p e f is_v is_w = ap suc (fresh_apart us h.1 j k v w p e f is_v is_w)

pub fresh_placed : (us : List DocUnit) → AllByRecursion HasPathIfBody us → AllPlaced (map fresh_bridge us)
fresh_placed [] h k b e = cc
fresh_placed (u ∷ us) h zero b e =
    let same : fresh_bridge u ≡ b = cc in subst (λ (x : Bridge). HasPathIfBody x.unit) same h.0
fresh_placed (u ∷ us) h (suc k) b e = fresh_placed us h.1 k b e

placed_each : (bs : List Bridge) → AllByRecursion IsSoundBridge bs → AllPlaced bs
placed_each [] h k b e = cc
placed_each (x ∷ bs) h zero b e =
    let same : x ≡ b = cc in subst (λ (y : Bridge). HasPathIfBody y.unit) same h.0.placed
placed_each (x ∷ bs) h (suc k) b e = placed_each bs h.1 k b e

pub sound_placed : (bs : List Bridge) → All IsSoundBridge bs → AllPlaced bs
sound_placed bs h = placed_each bs (recursion_from_All IsSoundBridge bs h)

pub units_bodies : (bs : List Bridge) → units_of (entries_of bs) ≡ bodies_of bs
units_bodies [] = refl
units_bodies (b ∷ bs) = ap (λ us. b.unit ∷ us) (units_bodies bs)

-- ---- nothing cached, and what is cached

start_entries : (us : List DocUnit) → entries_of (map fresh_bridge us) ≡ nothing_kept us
start_entries [] = refl
start_entries (u ∷ us) = ap (λ es. record { unit = u; trace = None } ∷ es) (start_entries us)

start_parts : (us : List DocUnit) → stored_parts_in (map fresh_bridge us) ≡ map (λ u. []) us
start_parts [] = refl
start_parts (u ∷ us) = ap (λ ks. [] ∷ ks) (start_parts us)

start_sources : (us : List DocUnit) → sources_in (map fresh_bridge us) ≡ map (λ u. None) us
start_sources [] = refl
start_sources (u ∷ us) = ap (λ ss. None ∷ ss) (start_sources us)

pub started : (bs : List Bridge) (us : List DocUnit) → bs ≡ map fresh_bridge us → AllByRecursion HasPathIfBody us
    → (All IsSoundBridge bs) × (entries_of bs ≡ nothing_kept us) × (units_of (entries_of bs) ≡ us)
    × (sources_in bs ≡ map (λ u. None) us) × (stored_parts_in bs ≡ map (λ u. []) us)
started bs us is placed = (
  subst (All IsSoundBridge) (sym is) (start_sound us placed),
  ap entries_of is ∙ start_entries us,
  ap (λ cs. units_of (entries_of cs)) is ∙ units_bodies (map fresh_bridge us) ∙ fresh_units us,
  ap sources_in is ∙ start_sources us,
  ap stored_parts_in is ∙ start_parts us,
)

holds_each : (bs : List Bridge) → AllByRecursion IsSoundBridge bs
    → AllByRecursion (λ (e : Entry). TraceHolds e.trace (tagged_of e.unit.tagged)) (entries_of bs)
holds_each [] h = tt
holds_each (b ∷ bs) h = (h.0.holds, holds_each bs h.1)

pub hold_all : (bs : List Bridge) (kept : Kept) → entries_of bs ≡ kept → All IsSoundBridge bs → AllHold kept
hold_all bs kept is sound =
    subst AllHold is
    (All-from_recursion (λ (e : Entry). TraceHolds e.trace (tagged_of e.unit.tagged)) (entries_of bs)
    (holds_each bs (recursion_from_All IsSoundBridge bs sound)))

stored_hold : (t : WideTree) (ps : List DonePart) → AllByRecursion (HoldsPart t) ps
    → AllByRecursion (StoredHolds t) (kept_parts ps)
stored_hold t [] h = tt
stored_hold t (p ∷ ps) h = (
  record {
    trace = wide_trace p.trace;
    is = refl;
    there = h.0.there;
    leads = h.0.leads;
    supports = h.0.supports;
  },
  stored_hold t ps h.1,
)

parts_hold_each : (bs : List Bridge) → AllByRecursion IsSoundBridge bs
    → AllPartsHold (entries_of bs) (stored_parts_in bs)
parts_hold_each [] h = tt
parts_hold_each (b ∷ bs) h = (
  record {
    hold = stored_hold b.unit.tagged.tree b.parts h.0.parts.hold;
    distinct = subst (IsDistinct bytes_eq) (sym (kept_paths b.parts)) h.0.parts.distinct;
  },
  parts_hold_each bs h.1,
)

pub parts_hold_all : (bs : List Bridge) (kept : Kept) (pss : List KeptParts) → entries_of bs ≡ kept
    → stored_parts_in bs ≡ pss → All IsSoundBridge bs → AllPartsHold kept pss
parts_hold_all bs kept pss is has sound =
    subst (AllPartsHold kept) has
    (subst (λ es. AllPartsHold es (stored_parts_in bs)) is (parts_hold_each bs (recursion_from_All IsSoundBridge bs
    sound)))

-- the entry of a number
pub entry_at : (bs : List Bridge) (kept : Kept) (i : ℕ) (b : Bridge) → entries_of bs ≡ kept → slice_get bs i ≡ Some b
    → slice_get kept i ≡ Some (kept_unit b)
entry_at bs kept i b is e =
    sym (ap (λ es. slice_get es i) is) ∙ slice_get-map kept_unit bs i ∙ ap (option_map kept_unit) e
