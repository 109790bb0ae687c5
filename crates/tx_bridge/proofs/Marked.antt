-- The flags of parts.
use Rattle.std.proofs.Common.{◌≡◌, ℕ, zero, suc, ◌+◌, ◌<◌, ◌≤◌, List, [], ◌∷◌, length, map, Option, Some, None}
use Rattle.std.proofs.Common.{slice_index_or, slice_set, refl, ap, sym, subst, ◌∙◌, arith}
use mathlib.Core.Path.{fun_ext}
use Rattle.std.proofs.lemmas.Slice.Eq.{bytes_eq-Decides}
use Rattle.std.specs.Prelude.{Bool, true, false, not, if◌then◌else◌}
use Rattle.std.specs.List.{AllByRecursion, IsDistinct}
use Rattle.std.specs.Str.{bytes_eq}
use Rattle.tx_tree.specs.WideTree.{WideTree}
use Rattle.tx_exec_form.specs.Evaluated.{WideTrace}
use Rattle.tx_exec.specs.Outcomes.{wide_trace, wide_outcome}
use Rattle.tx_parts.specs.Composed.{alone}
use Rattle.tx_parts.specs.Parts.{Part, part_trace, Stored, stored_part}
use Rattle.tx_walk.specs.declared.part.Part.{Part as DonePart}
use Rattle.tx_walk.specs.Held.{Store, Stores, fits as part_fits, serves}
use Rattle.tx_walk.specs.Walked.{stores_in, paths_of, Seen, seen, seen_in, seen_parts}
use Rattle.tx_walk.proofs.Agreed.{agrees_of}
use Rattle.tx_walk.proofs.Found.{if_true, if_false}
use Rattle.tx_units.specs.declared.kinds.Unit.{Unit as DocUnit}
use Rattle.tx_view_form.specs.Outcomes.{Moment}
use Rattle.tx_bridge.specs.declared.bridge.Bridge.{Bridge}
use Rattle.tx_bridge.specs.Entries.{outcome_of}
use Rattle.tx_bridge.specs.Reached.{can_be_used}
use Rattle.tx_bridge.specs.PartsKept.{KeptParts, kept_at, has_parts, unit_parts, parts_if_done, flags_if_done}
use Rattle.tx_bridge.specs.PartsKept.{unit_parts_by, part_flags, part_flags_by}
use Rattle.tx_parts.specs.Opening.{Sheller}
use Rattle.tx_bridge.specs.HeldParts.{HoldsPart, PartsHold, AreItsParts, kept_part, kept_parts, flags_of_parts}
use Rattle.tx_bridge.specs.HeldParts.{unmarked_part, unmarked}
use Rattle.tx_bridge.specs.Sound.{IsSoundBridge}
use Rattle.tx_bridge.proofs.ByParts.{same_store}
use Rattle.tx_bridge.proofs.Used.{AllAgree, parts_fit}
use Rattle.tx_bridge.proofs.Taking.{heads}

-- ---- parts without flags

pub unmarked_kept : (ps : List DonePart) → kept_parts (unmarked ps) ≡ kept_parts ps
unmarked_kept [] = refl
unmarked_kept (p ∷ ps) = ap (λ ks. kept_part p ∷ ks) (unmarked_kept ps)

pub unmarked_twice : (ps : List DonePart) → unmarked (unmarked ps) ≡ unmarked ps
unmarked_twice [] = refl
unmarked_twice (p ∷ ps) = ap (λ qs. unmarked_part p ∷ qs) (unmarked_twice ps)

-- the first i of them
abbrev pub unmarked_first : ℕ → List DonePart → List DonePart
unmarked_first zero ps = ps
unmarked_first (suc i) [] = []
unmarked_first (suc i) (p ∷ ps) = unmarked_part p ∷ unmarked_first i ps

first_many : (i : ℕ) (ps : List DonePart) → length (unmarked_first i ps) ≡ length ps
first_many zero ps = refl
first_many (suc i) [] = refl
first_many (suc i) (p ∷ ps) = ap (λ n. suc n) (first_many i ps)

unmark_one : (ps : List DonePart) (i : ℕ) (d : DonePart) → i < length (unmarked_first i ps)
    → slice_set (unmarked_first i ps) i (unmarked_part (slice_index_or (unmarked_first i ps) i d))
    ≡ unmarked_first (suc i) ps
unmark_one [] zero d h = absurd (omega (arith, h))
unmark_one [] (suc i) d h = absurd (omega (arith, h))
unmark_one (p ∷ ps) zero d h = refl
unmark_one (p ∷ ps) (suc i) d h = ap (λ qs. unmarked_part p ∷ qs) (unmark_one ps i d (omega (arith, h)))

pub unmark_next : (old now : List DonePart) (i : ℕ) (d y : DonePart) → i < length old → now ≡ unmarked_first i old
    → y ≡ unmarked_part (slice_index_or now i d) → slice_set now i y ≡ unmarked_first (i + 1) old
unmark_next old now i d y h is at =
    ap (slice_set now i) at
    ∙ ap (λ ps. slice_set ps i (unmarked_part (slice_index_or ps i d))) is
    ∙ unmark_one old i d (subst (λ n. i < n) (sym (first_many i old)) h)
    ∙ ap (λ n. unmarked_first n old) (let next : suc i ≡ i + 1 = omega arith in next)

unmark_all : (ps : List DonePart) (i : ℕ) → length (unmarked_first i ps) ≤ i → unmarked_first i ps ≡ unmarked ps
unmark_all [] zero h = refl
unmark_all [] (suc i) h = refl
unmark_all (p ∷ ps) zero h = absurd (omega (arith, h))
unmark_all (p ∷ ps) (suc i) h = ap (λ qs. unmarked_part p ∷ qs) (unmark_all ps i (omega (arith, h)))

pub unmark_kept : (whole ps qs : List DonePart) → whole ≡ ps → ps ≡ unmarked qs → unmarked whole ≡ whole
unmark_kept whole ps qs is at =
    ap unmarked (is ∙ at) ∙ unmarked_twice qs ∙ sym (is ∙ at)

pub unmark_ends : (old now : List DonePart) (i : ℕ) → length old ≤ i → now ≡ unmarked_first i old → now ≡ unmarked old
unmark_ends old now i h is = is ∙ unmark_all old i (subst (λ n. n ≤ i) (sym (first_many i old)) h)

unmarked_paths : (ps : List DonePart) → paths_of (unmarked ps) ≡ paths_of ps
unmarked_paths [] = refl
unmarked_paths (p ∷ ps) = ap (λ xs. p.path ∷ xs) (unmarked_paths ps)

unmarked_hold : (t : WideTree) (ps : List DonePart) → AllByRecursion (HoldsPart t) ps
    → AllByRecursion (HoldsPart t) (unmarked ps)
unmarked_hold t [] h = tt
unmarked_hold t (p ∷ ps) h = (
  record {
    there = h.0.there;
    leads = h.0.leads;
    supports = h.0.supports;
    tidy = record { once = h.0.tidy.once; placed = h.0.tidy.placed };
  },
  unmarked_hold t ps h.1,
)

unmarked_sound : (shelled : Bool) (u : DocUnit) (o : Option WideTrace) (ps : List DonePart) → PartsHold shelled u o ps
    → PartsHold shelled u o (unmarked ps)
unmarked_sound shelled u o ps h = record {
  hold = unmarked_hold u.tagged.tree ps h.hold;
  distinct = subst (IsDistinct bytes_eq) (sym (unmarked_paths ps)) h.distinct;
  all = λ off. subst (λ ks. AreItsParts u ks o) (sym (unmarked_kept ps)) (h.all off);
}

-- what is left of a unit that isn't reached is sound
pub left_sound : (b c : Bridge) → IsSoundBridge b
    → c ≡ record {
      unit = b.unit;
      kept = b.kept;
      parts = unmarked b.parts;
      layers = b.layers;
      shelled = b.shelled;
      reached = false;
      source = b.source;
    }
    → IsSoundBridge c
left_sound b c h is =
    subst IsSoundBridge (sym is)
    (record {
      holds = h.holds;
      once = h.once;
      placed = h.placed;
      parts = unmarked_sound b.shelled b.unit (wide_outcome b.kept) b.parts h.parts;
    })

-- ---- the flags that a walk leaves

flags_of_seen : (ds : List DonePart) → map (λ (s : Seen). s.renewed) (map seen ds) ≡ flags_of_parts ds
flags_of_seen [] = refl
flags_of_seen (d ∷ ds) = ap (λ fs. d.renewed ∷ fs) (flags_of_seen ds)

flags_seen_in : (kept : Stores) (ps : List Part)
    → map (λ (s : Seen). s.renewed) (map (seen_in kept) ps) ≡ map (λ p. not (serves kept.own p)) ps
flags_seen_in kept [] = refl
flags_seen_in kept (p ∷ ps) = ap (λ fs. not (serves kept.own p) ∷ fs) (flags_seen_in kept ps)

done_flags : (kept : Stores) (ps : List Part) (o : Option WideTrace)
    → map (λ (s : Seen). s.renewed) (seen_parts kept ps o) ≡ flags_if_done o kept.own ps
done_flags kept ps None = refl
done_flags kept ps (Some trace) = flags_seen_in kept ps

-- the flags of the unit's parts, of which these were cached
pub walked_flags : (sheller : Sheller) (m : Moment) (u : DocUnit) (ks qs ds : List DonePart) (ps : List Part)
    (o : Option WideTrace) → has_parts u ≡ true → ps ≡ unit_parts_by sheller m u → o ≡ outcome_of m u
    → map seen ds ≡ seen_parts (stores_in ks qs) ps o
    → flags_of_parts ds ≡ part_flags_by sheller m u (kept_parts ks)
walked_flags sheller m u ks qs ds ps o nested are is h =
    sym (flags_of_seen ds) ∙ ap (map (λ (s : Seen). s.renewed)) h ∙ done_flags (stores_in ks qs) ps o
    ∙ ap (λ (store : Store). flags_if_done o store ps) (fun_ext (same_store ks))
    ∙ ap (flags_if_done o (kept_at (kept_parts ks))) are
    ∙ ap (λ r. flags_if_done r (kept_at (kept_parts ks)) (unit_parts_by sheller m u)) is
    ∙ sym (ap (λ b. if b then flags_if_done (outcome_of m u) (kept_at (kept_parts ks)) (unit_parts_by sheller m u)
    else []) nested)

pub bare_flags : (sheller : Sheller) (m : Moment) (u : DocUnit) (ks : KeptParts) (ds : List DonePart)
    → has_parts u ≡ false → ds ≡ [] → flags_of_parts ds ≡ part_flags_by sheller m u ks
bare_flags sheller m u ks ds nested none =
    ap flags_of_parts none
    ∙ sym (ap (λ b. if b then flags_if_done (outcome_of m u) (kept_at ks) (unit_parts_by sheller m u) else []) nested)

-- ---- of a unit that isn't reached each part is held

-- at the path of each part its trace is cached
abbrev pub AreKept : Store → List DonePart → Type 0
AreKept kept ds = AllByRecursion (λ d. kept d.path ≡ Some (wide_trace d.trace)) ds

kept_behind : (p : DonePart) (kept : Store) (ds : List DonePart)
    → AllByRecursion (λ y. bytes_eq p.path y ≡ false) (paths_of ds) → AreKept kept ds
    → AreKept (λ path. if bytes_eq p.path path then Some (wide_trace p.trace) else kept path) ds
kept_behind p kept [] other h = tt
kept_behind p kept (d ∷ ds) other h = (
  if_false (bytes_eq p.path d.path) (Some (wide_trace p.trace)) (kept d.path) other.0 ∙ h.0,
  kept_behind p kept ds other.1 h.1,
)

pub each_kept : (ds : List DonePart) → IsDistinct bytes_eq (paths_of ds) → AreKept (kept_at (kept_parts ds)) ds
unfolding IsDistinct
each_kept [] distinct = tt
each_kept (d ∷ ds) distinct = (
  if_true (bytes_eq d.path d.path) (Some (wide_trace d.trace)) (kept_at (kept_parts ds) d.path)
      ((bytes_eq-Decides d.path d.path).1 refl),
  kept_behind d (kept_at (kept_parts ds)) ds distinct.0 (each_kept ds distinct.1),
)

one_held : AllAgree → (kept : Store) (d : DonePart) (p : Part) → kept d.path ≡ Some (wide_trace d.trace)
    → kept_part d ≡ stored_part p → not (serves kept p) ≡ false
one_held agree kept d p is same =
    let path : d.path ≡ p.path = ap (λ (k : Stored). k.path) same in
    let trace : Some (wide_trace d.trace) ≡ part_trace p = ap (λ (k : Stored). k.trace) same in
    let there : kept p.path ≡ Some (wide_trace d.trace) = ap kept (sym path) ∙ is in
    ap (λ o. not (part_fits p.before o)) there
    ∙ ap not (agrees_of p.before (wide_trace d.trace).looks
    (agree p.levels p.steps (alone p.tree) p.before (wide_trace d.trace) (sym trace)))

all_held : AllAgree → (kept : Store) (ds : List DonePart) (ps : List Part) → AreKept kept ds
    → kept_parts ds ≡ map stored_part ps → flags_of_parts (unmarked ds) ≡ map (λ p. not (serves kept p)) ps
all_held agree kept [] [] is same = refl
all_held agree kept [] (p ∷ ps) is same = cc
all_held agree kept (d ∷ ds) [] is same = cc
all_held agree kept (d ∷ ds) (p ∷ ps) is same =
    let parts : (kept_part d ≡ stored_part p) × (kept_parts ds ≡ map stored_part ps) =
    heads (kept_part d) (stored_part p) (kept_parts ds) (map stored_part ps) same in
    ap (λ fs. false ∷ fs) (all_held agree kept ds ps is.1 parts.1)
    ∙ ap (λ f. f ∷ map (λ q. not (serves kept q)) ps) (sym (one_held agree kept d p is.0 parts.0))

none_kept : (ds : List DonePart) → kept_parts ds ≡ [] → flags_of_parts (unmarked ds) ≡ []
none_kept [] h = refl
none_kept (d ∷ ds) h = cc

flags_of_done : AllAgree → (m : Moment) (u : DocUnit) (ds : List DonePart) (b : Bool) (o : Option WideTrace)
    → IsDistinct bytes_eq (paths_of ds)
    → kept_parts ds ≡ (if b then parts_if_done o (unit_parts m u) else [])
    → flags_of_parts (unmarked ds)
    ≡ (if b then flags_if_done o (kept_at (kept_parts ds)) (unit_parts m u) else [])
flags_of_done agree m u ds false o distinct h = none_kept ds h
flags_of_done agree m u ds true None distinct h = none_kept ds h
flags_of_done agree m u ds true (Some trace) distinct h =
    all_held agree (kept_at (kept_parts ds)) ds (unit_parts m u) (each_kept ds distinct) h

-- so none of them is evaluated
pub left_flags : AllAgree → (m : Moment) (u : DocUnit) (o : Option WideTrace) (ds qs : List DonePart)
    → can_be_used m o ≡ true → o ≡ outcome_of m u → IsDistinct bytes_eq (paths_of ds) → AreItsParts u (kept_parts ds) o
    → qs ≡ unmarked ds → flags_of_parts qs ≡ part_flags m u (kept_parts ds)
left_flags agree m u o ds qs fit is distinct its are =
    ap flags_of_parts are
    ∙ flags_of_done agree m u ds (has_parts u) (outcome_of m u) distinct (parts_fit m o u (kept_parts ds) fit is its)
