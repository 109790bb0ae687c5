-- What is cached of the parts of the unit that changes.
use Rattle.std.proofs.Common.{◌≡◌, ℕ, zero, suc, List, [], ◌∷◌, Option, Some, None, refl, ap}
use Rattle.std.proofs.Common.{sym, ◌∙◌, subst}
use Rattle.std.proofs.lemmas.List.Elements.{recursion_from_All}
use Rattle.std.proofs.lemmas.Option.{same_Some}
use Rattle.std.specs.List.{All, AllByRecursion, IsDistinct}
use Rattle.std.specs.Option.{option_map_or}
use Rattle.std.specs.Prelude.{true, false, ◌&&◌, slice_get}
use Rattle.tx_tree.specs.WideTree.{WideTree}
use Rattle.tx_tree.specs.Paths.{subtree}
use Rattle.tx_mod.specs.declared.mods.Mod.{Mod}
use Rattle.tx_mod.specs.Followed.{CarriesSubtree, CarriesThroughAll, changed_by_all}
use Rattle.tx_units.specs.declared.kinds.Unit.{Unit as DocUnit}
use Rattle.tx_walk.specs.declared.part.Part.{Part as DonePart}
use Rattle.tx_walk.specs.Walked.{IsTidy}
use Rattle.tx_bridge.specs.declared.bridge.Bridge.{Bridge}
use Rattle.tx_bridge.specs.Entries.{Kept, units_of}
use Rattle.tx_bridge.specs.PartsKept.{KeptParts}
use Rattle.tx_bridge.specs.InPlace.{is_gone, are_within, IsOneChanged}
use Rattle.tx_bridge.specs.Sound.{IsSoundBridge, entries_of, stored_parts_in, changed_in}
use Rattle.tx_bridge.specs.Carrying.{AllStand, StandsNow}
use Rattle.tx_bridge.specs.Slots.{bodies_of}
use Rattle.tx_bridge.specs.HeldParts.{HoldsPart, kept_parts}
use Rattle.tx_bridge.specs.CarryingParts.{parts_behind, parts_within, parts_but}
use Rattle.tx_bridge.specs.MovedParts.{AreMovedParts}
use Rattle.tx_bridge.specs.Others.{stored_of, done_parts_of, put_from}
use Rattle.tx_bridge.proofs.Slotting.{some_once}
use Rattle.tx_bridge.proofs.Arrived.{units_bodies}
use Rattle.tx_bridge.proofs.Single.{body_at as unit_at}
use Rattle.tx_bridge.proofs.Changing.{AllHoldIn, changed_parts}
use Rattle.tx_bridge.proofs.OtherParts.{kept_put, tidy_all, held_tidy}
use Rattle.tx_bridge.proofs.WithinUnit.{clash, parts_hold_behind}
use Rattle.tx_walk.proofs.Trees.{both}

-- where the unit's tree is
old_stands : (t : WideTree) (i : ℕ) (us : List DocUnit) → AllStand t us → (u : DocUnit) → slice_get us i ≡ Some u
    → (p : List ℕ) → u.path ≡ Some p → subtree t p ≡ Some u.tagged.tree
old_stands t i [] h u e p has = cc
old_stands t zero (x ∷ us) h u e p has =
    let same : x ≡ u = same_Some x u e in
    h.0 p (ap (λ (w : DocUnit). w.path) same ∙ has) ∙ ap (λ (w : DocUnit). Some w.tagged.tree) same
old_stands t (suc i) (x ∷ us) h u e p has = old_stands t i us h.1 u e p has

sound_at : (bs : List Bridge) → AllByRecursion IsSoundBridge bs → (i : ℕ) (b : Bridge) → slice_get bs i ≡ Some b
    → IsSoundBridge b
sound_at [] h i b e = cc
sound_at (x ∷ bs) h zero b e = subst IsSoundBridge (same_Some x b e) h.0
sound_at (x ∷ bs) h (suc i) b e = sound_at bs h.1 i b e

body_at : (bs : List Bridge) (i : ℕ) (b : Bridge) → slice_get bs i ≡ Some b → slice_get (bodies_of bs) i ≡ Some b.unit
body_at [] i b e = cc
body_at (x ∷ bs) zero b e = ap Some (ap (λ (w : Bridge). w.unit) (same_Some x b e))
body_at (x ∷ bs) (suc i) b e = body_at bs i b e

-- what calls require and return

bodies_are : (bs : List Bridge) (kept : Kept) → entries_of bs ≡ kept → units_of kept ≡ bodies_of bs
bodies_are bs kept was = sym (ap units_of was) ∙ units_bodies bs

pub bodies_read : (bs read : List Bridge) (kept : Kept) → read ≡ bs → entries_of bs ≡ kept
    → units_of kept ≡ bodies_of read
bodies_read bs read kept is was = bodies_are bs kept was ∙ ap bodies_of (sym is)

pub bodies_stand : (t : WideTree) (bs read : List Bridge) (kept : Kept) → read ≡ bs → entries_of bs ≡ kept
    → AllStand t (units_of kept) → AllStand t (bodies_of read)
bodies_stand t bs read kept is was h =
    subst (AllStand t) (bodies_read bs read kept is was) h

-- the unit of this number is in the tree, and its parts hold
pub stands_for : (t : WideTree) (bs : List Bridge) → AllStand t (bodies_of bs) → All IsSoundBridge bs
    → (i : ℕ) (b : Bridge)
    → slice_get bs i ≡ Some b → (p : List ℕ) → b.unit.path ≡ Some p → (ps : List DonePart) → ps ≡ b.parts
    → (x : WideTree) × (subtree t p ≡ Some x) × AllByRecursion (HoldsPart x) ps
stands_for t bs stand sound i b at p has ps is =
    let s : IsSoundBridge b = sound_at bs (recursion_from_All IsSoundBridge bs sound) i b at in (
      b.unit.tagged.tree,
      old_stands t i (bodies_of bs) stand b.unit (body_at bs i b at) p has,
      subst (AllByRecursion (HoldsPart b.unit.tagged.tree)) (sym is) s.parts.hold,
    )

-- what is true of the parts of the unit at p is true of those of the entry of this number
pub moved_there : (ms : List Mod) (t : WideTree) (bs : List Bridge) (i : ℕ) (b : Bridge) → slice_get bs i ≡ Some b
    → (p : List ℕ) → b.unit.path ≡ Some p → (ps : List DonePart) → ps ≡ b.parts → (os : List (ℕ × Option DonePart))
    → ((u : DocUnit) → u.path ≡ Some p → AreMovedParts ms t u (kept_parts ps) os) → (c : Bridge)
    → slice_get bs i ≡ Some c → AreMovedParts ms t c.unit (kept_parts c.parts) os
moved_there ms t bs i b at p has ps is os moved c there =
    let same : b ≡ c = some_once (slice_get bs i) b c at there in
    subst (λ (w : Bridge). AreMovedParts ms t w.unit (kept_parts w.parts) os) same
    (subst (λ xs. AreMovedParts ms t b.unit (kept_parts xs) os) is (moved b.unit has))

none_kept : (ps : List DonePart) → kept_parts ps ≡ [] → ps ≡ []
none_kept [] h = refl
none_kept (p ∷ ps) h = cc

module _ (through : (ms : List Mod) (t : WideTree) (q : List ℕ) → CarriesThroughAll ms t q)
    (carries : (m : Mod) (t : WideTree) (q : List ℕ) → CarriesSubtree m t q) (i : ℕ) (ms : List Mod)
    (before v t : WideTree) (made : changed_by_all ms before ≡ Some v) (bs : List Bridge) (sound : All IsSoundBridge bs)
    (old : AllStand before (bodies_of bs)) (new : StandsNow i t v (bodies_of bs)) where
  hold_at : (b : Bridge) → slice_get bs i ≡ Some b → (ps : List DonePart) → AllByRecursion IsTidy ps
      → (o : Option (List ℕ)) → b.unit.path ≡ o
      → kept_parts ps ≡ option_map_or (λ p. parts_behind ms before p (kept_parts b.parts)) o [] → AllHoldIn t ps
  unfolding IsDistinct
  hold_at b at ps once None e is = subst (AllHoldIn t) (sym (none_kept ps is)) (tt, tt)
  hold_at b at ps once (Some p) e is =
      let s : IsSoundBridge b = sound_at bs (recursion_from_All IsSoundBridge bs sound) i b at in
      parts_hold_behind ms before v p b.unit.tagged.tree t b.parts ps (through ms before) carries made
      (old_stands before i (bodies_of bs) old b.unit (body_at bs i b at) p e)
      (new b.unit p (body_at bs i b at) e) s.parts.hold s.parts.distinct is once

  pub hold_changed : (b : Bridge) → slice_get bs i ≡ Some b → (ps : List DonePart) → AllByRecursion IsTidy ps
      → kept_parts ps ≡ parts_within ms before b.unit (kept_parts b.parts) → AllHoldIn t ps
  hold_changed b at ps once is = hold_at b at ps once b.unit.path refl is

-- ---- others are put in places of the unit's parts

-- all modifications are inside the tree of the unit of this number, which has a path
pub within_for : (ms : List Mod) (bs : List Bridge) (i : ℕ) (b : Bridge) → slice_get bs i ≡ Some b
    → IsOneChanged i 0 ms (bodies_of bs) → (p : List ℕ) → b.unit.path ≡ Some p → are_within p ms ≡ true
within_for ms bs i b at one p has =
    let same : one.unit ≡ b.unit =
    some_once (slice_get (bodies_of bs) i) one.unit b.unit one.there (body_at bs i b at) in
    (both (is_gone p ms) (are_within p ms)
    (sym (ap (λ o. option_map_or (λ q. is_gone q ms && are_within q ms) o false)
    (ap (λ (u : DocUnit). u.path) same ∙ has)) ∙ one.changed)).1

pub never_bare : (ms : List Mod) (bs : List Bridge) (i : ℕ) (b : Bridge) → slice_get bs i ≡ Some b
    → IsOneChanged i 0 ms (bodies_of bs) → b.unit.path ≡ None → ⊥
never_bare ms bs i b at one none =
    let same : one.unit ≡ b.unit =
    some_once (slice_get (bodies_of bs) i) one.unit b.unit one.there (body_at bs i b at) in
    clash (ap (λ o. option_map_or (λ q. is_gone q ms && are_within q ms) o false)
    (sym (ap (λ (u : DocUnit). u.path) same ∙ none)) ∙ one.changed)

pub parts_there : (bs : List Bridge) (i : ℕ) (b : Bridge) → slice_get bs i ≡ Some b → done_parts_of i bs ≡ b.parts
parts_there bs i b at = ap (λ o. option_map_or (λ (w : Bridge). w.parts) o []) at

-- ---- what the calls ask for, and what they ensure

unit_of_entry : (bs : List Bridge) (kept : Kept) → entries_of bs ≡ kept → (i : ℕ) (b : Bridge) → slice_get bs i ≡ Some b
    → slice_get (units_of kept) i ≡ Some b.unit
unit_of_entry bs kept was i b at = ap (λ us. slice_get us i) (bodies_are bs kept was) ∙ body_at bs i b at

parts_at : (bs : List Bridge) (i : ℕ) (b : Bridge) → slice_get bs i ≡ Some b
    → slice_get (stored_parts_in bs) i ≡ Some (kept_parts b.parts)
parts_at [] i b e = cc
parts_at (x ∷ bs) zero b e = ap Some (ap (λ (w : Bridge). kept_parts w.parts) (same_Some x b e))
parts_at (x ∷ bs) (suc i) b e = parts_at bs i b e

-- these are the parts of the unit of this number that aren't found to keep their places
abbrev pub AreMovedAt : ℕ → List Mod → WideTree → Kept → List KeptParts → List (ℕ × Option DonePart) → Type 0
AreMovedAt i ms t kept pss os = (u : DocUnit) (ks : KeptParts) → slice_get (units_of kept) i ≡ Some u
    → slice_get pss i ≡ Some ks → AreMovedParts ms t u ks os

module _ (i : ℕ) (ms : List Mod) (before : WideTree) (os : List (ℕ × Option DonePart)) (bs : List Bridge) (kept : Kept)
    (pss : List KeptParts) (was : entries_of bs ≡ kept) (had : stored_parts_in bs ≡ pss) where
  -- what is true of the entry of this number is true of what contracts see of it
  pub moved_told : (read : List Bridge) → read ≡ bs
      → ((b : Bridge) → slice_get read i ≡ Some b → AreMovedParts ms before b.unit (kept_parts b.parts) os)
      → AreMovedAt i ms before kept pss os
  moved_told read is told u ks at there =
      let x : (b : Bridge) × (slice_get bs i ≡ Some b) × (b.unit ≡ u) =
      unit_at bs i u (ap (λ us. slice_get us i) (sym (bodies_are bs kept was)) ∙ at) in
      let same : kept_parts x.0.parts ≡ ks =
      same_Some (kept_parts x.0.parts) ks
      (sym (parts_at bs i x.0 x.1) ∙ ap (λ qs. slice_get qs i) had ∙ there) in
      subst (λ v. AreMovedParts ms before v ks os) x.2
      (subst (λ qs. AreMovedParts ms before x.0.unit qs os) same (told x.0 (ap (λ cs. slice_get cs i) is ∙ x.1)))

  module _ (moved : AreMovedAt i ms before kept pss os) where
    moved_of : (b : Bridge) → slice_get bs i ≡ Some b → AreMovedParts ms before b.unit (kept_parts b.parts) os
    moved_of b at =
        moved b.unit (kept_parts b.parts) (unit_of_entry bs kept was i b at)
        (ap (λ qs. slice_get qs i) (sym had) ∙ parts_at bs i b at)

    -- what is cached of the unit's parts, where the others are put
    kept_moved : (b : Bridge) → slice_get bs i ≡ Some b
        → kept_parts (put_from 0 os (done_parts_of i bs)) ≡ parts_within ms before b.unit (kept_parts b.parts)
    kept_moved b at =
        kept_put 0 os (done_parts_of i bs)
        ∙ ap (λ ps. put_from 0 (stored_of os) (kept_parts ps)) (parts_there bs i b at) ∙ (moved_of b at).kept

    pub parts_moved : (t : WideTree) → stored_parts_in (changed_in i t (put_from 0 os (done_parts_of i bs)) bs)
        ≡ parts_but ms before i (units_of kept) pss
    parts_moved t =
        changed_parts i ms before t (put_from 0 os (done_parts_of i bs)) bs kept_moved
        ∙ ap (λ us. parts_but ms before i us (stored_parts_in bs)) (sym (bodies_are bs kept was))
        ∙ ap (parts_but ms before i (units_of kept)) had

    pub moved_hold : ((ms : List Mod) (t : WideTree) (q : List ℕ) → CarriesThroughAll ms t q)
        → ((m : Mod) (t : WideTree) (q : List ℕ) → CarriesSubtree m t q) → (t : WideTree)
        → ((u : WideTree) × (changed_by_all ms before ≡ Some u)) → All IsSoundBridge bs
        → IsOneChanged i 0 ms (units_of kept)
        → AllStand before (units_of kept)
        → ((u : WideTree) → changed_by_all ms before ≡ Some u → StandsNow i t u (units_of kept))
        → AllHoldIn t (put_from 0 os (done_parts_of i bs))
    moved_hold through carries t made sound one old new =
        let bodies : units_of kept ≡ bodies_of bs = bodies_are bs kept was in
        let x : (b : Bridge) × (slice_get bs i ≡ Some b) × (b.unit ≡ one.unit) =
        unit_at bs i one.unit (ap (λ us. slice_get us i) (sym bodies) ∙ one.there) in
        let s : IsSoundBridge x.0 = sound_at bs (recursion_from_All IsSoundBridge bs sound) i x.0 x.1 in
        let tidy : All IsTidy (done_parts_of i bs) =
        subst (All IsTidy) (sym (parts_there bs i x.0 x.1))
        (held_tidy x.0.unit.tagged.tree x.0.parts s.parts.hold) in
        hold_changed through carries i ms before made.0 t made.1 bs sound (subst (AllStand before) bodies old)
        (subst (StandsNow i t made.0) bodies (new made.0 made.1)) x.0 x.1 (put_from 0 os (done_parts_of i bs))
        (recursion_from_All IsTidy (put_from 0 os (done_parts_of i bs))
        (tidy_all os (done_parts_of i bs) (moved_of x.0 x.1).tidy tidy)) (kept_moved x.0 x.1)

pub now_is : (i : ℕ) (t : WideTree) (os : List (ℕ × Option DonePart)) (bs written new : List Bridge) → written ≡ bs
    → new ≡ changed_in i t (put_from 0 os (done_parts_of i written)) written
    → new ≡ changed_in i t (put_from 0 os (done_parts_of i bs)) bs
now_is i t os bs written new was h = h ∙ ap (λ xs. changed_in i t (put_from 0 os (done_parts_of i xs)) xs) was
