-- Through an edit a unit that is carried keeps its tree.
use Rattle.std.proofs.Common.{◌≡◌, ℕ, zero, suc, List, [], ◌∷◌, Some, refl, ap, sym, ◌∙◌, subst, arith}
use Rattle.std.proofs.Common.{◌⊎◌, inl, inr}
use Rattle.std.proofs.lemmas.Option.{slice_get-map}
use Rattle.std.specs.Prelude.{true, is_some, slice_get}
use Rattle.std.specs.Option.{option_map}
use Rattle.std.specs.List.{All, AllByRecursion}
use Rattle.tx_tree.specs.WideTree.{WideTree}
use Rattle.tx_tree.specs.Paths.{subtree}
use Rattle.tx_mod.specs.declared.mods.Mod.{Mod}
use Rattle.tx_mod.specs.Followed.{CarriesThroughAll, changed_by_all}
use Rattle.tx_units.specs.declared.kinds.Unit.{Unit as DocUnit}
use Rattle.tx_walk.specs.SameTrees.{is_same}
use Rattle.tx_walk.proofs.Trees.{both, same_is}
use Rattle.tx_bridge.specs.declared.bridge.Bridge.{Bridge}
use Rattle.tx_bridge.specs.UnitLists.{HasPathIfBody, AreUnits}
use Rattle.tx_bridge.specs.Entries.{Kept, units_of}
use Rattle.tx_bridge.specs.Sound.{IsSoundBridge, entries_of, sources_in}
use Rattle.tx_bridge.specs.Carrying.{same_kind, same_unit, through, unit_places_after, sources, mods_of, Stands}
use Rattle.tx_bridge.specs.Carrying.{AllStand, HaveOneTree, AreSameBodies, HaveSameTrees}
use Rattle.tx_bridge.specs.Slots.{bodies_of}
use Rattle.tx_bridge.proofs.Slotting.{some_once, paths_alike}
use Rattle.tx_bridge.proofs.Arrived.{arrives_at, SameAt, some_path, still, sound_placed, units_bodies}
use Rattle.tx_bridge.proofs.Single.{ByPath, ByNumber, source_says, HasSource, source_at, body_at}
use Rattle.tx_bridge.proofs.Taking.{IsCarried, AreBare, given_to, given_to_is}

-- what holds of all holds of each
all_at : {A : Type 0} (P : A → Type 0) (xs : List A) (k : ℕ) (x : A) → AllByRecursion P xs → slice_get xs k ≡ Some x
    → P x
all_at P [] k x h e = cc
all_at P (y ∷ xs) zero x h e = let same : y ≡ x = cc in subst P same h.0
all_at P (y ∷ xs) (suc k) x h e = all_at P xs k x h.1 e

abbrev EachPlaced : List DocUnit → Type 0
EachPlaced us = (k : ℕ) (u : DocUnit) → slice_get us k ≡ Some u → HasPathIfBody u

-- where an old unit is at the path of a new one, they have one tree
abbrev EachSameAt : List Mod → WideTree → List DocUnit → List DocUnit → Type 0
EachSameAt ms t us vs = (i j : ℕ) (u v : DocUnit) → slice_get us i ≡ Some u → slice_get vs j ≡ Some v
    → SameAt (through ms t u.path) u v

module _ (ms : List Mod) (t : WideTree) (us vs : List DocUnit) (one : EachSameAt ms t us vs) (placed : EachPlaced us)
    (there : EachPlaced vs) where
  place_at : (i : ℕ) (u : DocUnit) (p : List ℕ) → slice_get us i ≡ Some u
      → slice_get (unit_places_after ms t us) i ≡ Some (Some p) → through ms t u.path ≡ Some p
  place_at i u p at e =
      some_once (slice_get (unit_places_after ms t us) i) (through ms t u.path) (Some p)
      (slice_get-map (λ (w : DocUnit). through ms t w.path) us i
      ∙ ap (option_map (λ (w : DocUnit). through ms t w.path)) at) e

  by_way : (i j : ℕ) (u v : DocUnit) → slice_get us i ≡ Some u → slice_get vs j ≡ Some v
      → ByPath (unit_places_after ms t us) v i ⊎ ByNumber us j v i
      → (v.tagged.tree ≡ u.tagged.tree) × (is_some v.path ≡ is_some u.path)
  by_way i j u v at_i at_j (inl x) =
      let at : through ms t u.path ≡ Some x.path = place_at i u x.path at_i x.place in (
        sym (one i j u v at_i at_j x.path at x.has),
        ap is_some x.has
            ∙ sym (some_path (through ms t u.path) u.path x.path (λ none. ap (through ms t) none) at),
      )
  by_way i j u v at_i at_j (inr y) =
      let old : y.old ≡ u = some_once (slice_get us i) y.old u (ap (slice_get us) y.number ∙ y.there) at_i in
      let same : same_unit u v ≡ true = ap (λ w. same_unit w v) (sym old) ∙ y.alike in (
        sym (same_is u.tagged.tree v.tagged.tree
            (both (same_kind u.kind v.kind) (is_same u.tagged.tree v.tagged.tree) same).1),
        sym (paths_alike u v (placed i u at_i) (there j v at_j) same),
      )

  trees_same : HaveSameTrees us vs (sources ms t us vs)
  trees_same i j u v at_i at_j from =
      let h : HasSource (unit_places_after ms t us) us vs j j i =
      source_at (unit_places_after ms t us) us vs 0 j j i (omega arith) from in
      let same : h.unit ≡ v = some_once (slice_get vs j) h.unit v h.there at_j in
      by_way i j u v at_i at_j
      (subst (λ w. ByPath (unit_places_after ms t us) w i ⊎ ByNumber us j w i) same
      (source_says (unit_places_after ms t us) us j h.unit i h.from))

-- ---- an edit of the document, and one of another buffer

same_in_document : (ms : List Mod) (t w : WideTree) (us vs : List DocUnit) → changed_by_all ms t ≡ Some w
    → ((q : List ℕ) → CarriesThroughAll ms t q) → AllStand t us → AllStand w vs → EachSameAt ms t us vs
same_in_document ms t w us vs made law old new i j u v at_i at_j p e f =
    some_once (subtree w p) u.tagged.tree v.tagged.tree
    (arrives_at ms t w u made law (all_at (Stands t) us i u old at_i) u.path refl p e)
    (all_at (Stands w) vs j v new at_j p f)

same_in_other : (t : WideTree) (us vs : List DocUnit) → AreSameBodies us vs → EachSameAt [] t us vs
same_in_other t us vs same i j u v at_i at_j p e f =
    all_at (HaveOneTree u) vs j v (all_at (λ w. AllByRecursion (HaveOneTree w) vs) us i u same at_i) at_j p
    (sym (still t u.path) ∙ e) f

each_same : (buffer : ℕ) (ms : List Mod) (t : WideTree) (us vs : List DocUnit)
    → ((u : WideTree) × (changed_by_all ms t ≡ Some u)) → ((q : List ℕ) → CarriesThroughAll ms t q)
    → (buffer ≡ 0 → AllStand t us) → (buffer ≡ 0 → (u : WideTree) → changed_by_all ms t ≡ Some u → AllStand u vs)
    → ((buffer ≡ 0 → ⊥) → AreSameBodies us vs) → EachSameAt (mods_of buffer ms) t us vs
each_same zero ms t us vs made law old new same =
    same_in_document ms t made.0 us vs made.1 law (old refl) (new refl made.0 made.1)
each_same (suc buffer) ms t us vs made law old new same =
    same_in_other t us vs (same (λ q. omega (arith, q)))

each_placed : (old : List Bridge) (us : List DocUnit) → us ≡ bodies_of old → All IsSoundBridge old → EachPlaced us
each_placed old us is sound k u at =
    let x : (b : Bridge) × (slice_get old k ≡ Some b) × (b.unit ≡ u) =
    body_at old k u (ap (λ ws. slice_get ws k) (sym is) ∙ at) in
    subst HasPathIfBody x.2 (sound_placed old sound k x.0 x.1)

-- the premises are what the calls ensure, in their order
pub carry_trees : (buffer : ℕ) (ms : List Mod) (t : WideTree) (kept : Kept) (us : List DocUnit)
    (old ws result : List Bridge) → AreBare us ws → entries_of old ≡ kept → All IsSoundBridge old
    → ((u : WideTree) × (changed_by_all ms t ≡ Some u)) → ((q : List ℕ) → CarriesThroughAll ms t q) → AreUnits us
    → (buffer ≡ 0 → AllStand t (units_of kept))
    → (buffer ≡ 0 → (u : WideTree) → changed_by_all ms t ≡ Some u → AllStand u us)
    → ((buffer ≡ 0 → ⊥) → AreSameBodies (units_of kept) us)
    → result ≡ given_to ws (mods_of buffer ms) t old → HaveSameTrees (units_of kept) us (sources_in result)
carry_trees buffer ms t kept us old ws result bare was sound applies law are stand_old stand_new same is_given =
    let carried : IsCarried buffer ms t kept us result =
    given_to_is buffer ms t kept us old ws result bare was sound are is_given in
    subst (HaveSameTrees (units_of kept) us) (sym carried.sources)
    (trees_same (mods_of buffer ms) t (units_of kept) us
    (each_same buffer ms t (units_of kept) us applies law stand_old stand_new same)
    (each_placed old (units_of kept) (sym (ap units_of was) ∙ units_bodies old) sound)
    (λ k u at. all_at HasPathIfBody us k u are.placed at))
