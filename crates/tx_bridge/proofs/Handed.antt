-- What is cached of old units is given to the new ones that they are.
use Rattle.std.proofs.Common.{◌≡◌, ℕ, zero, suc, ◌+◌, ◌<◌, ◌≤◌, List, [], ◌∷◌, length, drop, slice_set, slice_index_or}
use Rattle.std.proofs.Common.{Option, Some, None, refl, ap, sym, ◌∙◌, subst, arith}
use Rattle.std.proofs.lemmas.List.{drop_more, drop-drop, drop-set-lt, drop_all}
use Rattle.std.proofs.lemmas.Bool.{false_from_ne_true}
use Rattle.std.proofs.lemmas.Option.{slice_get_read, slice_get-get_or}
use Rattle.std.proofs.lemmas.Bool.Decides.{Decides-eqb}
use Rattle.std.specs.Prelude.{Bool, true, false, ◌==◌, slice_get, if◌then◌else◌, IfSome}
use Rattle.tx_units.specs.declared.kinds.Unit.{Unit as DocUnit}
use Rattle.tx_bridge.specs.declared.bridge.Bridge.{Bridge}
use Rattle.tx_bridge.specs.UnitLists.{HasPathIfBody}
use Rattle.tx_bridge.specs.Slots.{stays, IsSlot, HaveOwnPaths, AllPlaced, AreMoved, given_from, given_all}
use Rattle.tx_bridge.specs.Slots.{IsInOrder, AreInOrder, HasOrder}
use Rattle.tx_walk.proofs.Trees.{alike}

one_more : (k j : ℕ) → (suc k == suc j) ≡ (k == j)
one_more k j =
    alike (suc k == suc j) (k == j) (λ h. (Decides-eqb k j).1 (omega (arith, (Decides-eqb (suc k) (suc j)).0 h)))
    (λ h. (Decides-eqb (suc k) (suc j)).1 (omega (arith, (Decides-eqb k j).0 h)))

more_none : (k : ℕ) → (suc k == 0) ≡ false
more_none k = false_from_ne_true (suc k == 0) (λ h. absurd (omega (arith, (Decides-eqb (suc k) 0).0 h)))

none_more : (k : ℕ) → (0 == suc k) ≡ false
none_more k = false_from_ne_true (0 == suc k) (λ h. absurd (omega (arith, (Decides-eqb 0 (suc k)).0 h)))

module _ (place : Option (List ℕ)) (i : ℕ) (b : Bridge) where
  abbrev with_kept : Bridge → Bridge
  with_kept w = record {
    unit = w.unit;
    kept = b.kept;
    parts = b.parts;
    layers = b.layers;
    shelled = b.shelled;
    reached = w.reached;
    source = Some i;
  }

  given_none : (o : ℕ) (ws : List Bridge)
      → ((k n : ℕ) (w : Bridge) → slice_get ws k ≡ Some w → n ≡ o + k → stays place i b.unit n w.unit ≡ false)
      → given_from place i b o ws ≡ ws
  given_none o [] h = refl
  given_none o (w ∷ ws) h =
      ap (λ s. (if s then with_kept w else w) ∷ given_from place i b (o + 1) ws) (h 0 o w refl (omega arith))
      ∙ ap (λ us. w ∷ us) (given_none (o + 1) ws (λ k n v e f. h (suc k) n v e (omega (arith, f))))

  given_some : (o : ℕ) (ws : List Bridge) (j : ℕ) (v : Bridge) → slice_get ws j ≡ Some v
      → ((k n : ℕ) (w : Bridge) → slice_get ws k ≡ Some w → n ≡ o + k → stays place i b.unit n w.unit ≡ (k == j))
      → given_from place i b o ws ≡ slice_set ws j (with_kept v)
  given_some o [] j v at h = cc
  given_some o (w ∷ ws) zero v at h =
      let w_is : w ≡ v = cc in
      ap (λ s. (if s then with_kept w else w) ∷ given_from place i b (o + 1) ws) (h 0 o w refl (omega arith))
      ∙ ap (λ us. with_kept w ∷ us)
      (given_none (o + 1) ws (λ k n u e f. h (suc k) n u e (omega (arith, f)) ∙ more_none k))
      ∙ ap (λ u. with_kept u ∷ ws) w_is
  given_some o (w ∷ ws) (suc j) v at h =
      ap (λ s. (if s then with_kept w else w) ∷ given_from place i b (o + 1) ws)
      (h 0 o w refl (omega arith) ∙ none_more j)
      ∙ ap (λ us. w ∷ us)
      (given_some (o + 1) ws j v at (λ k n u e f. h (suc k) n u e (omega (arith, f)) ∙ one_more k j))

  pub gives_none : (new : List Bridge) → IsSlot place i b.unit new None → new ≡ given_from place i b 0 new
  gives_none new h =
      sym (given_none 0 new
      (λ k n w e f. let q : n ≡ k = omega (arith, f) in ap (λ m. stays place i b.unit m w.unit) q ∙ h k w e))

  pub gives_some : (new : List Bridge) (j : ℕ) (v : Bridge) → slice_get new j ≡ Some v
      → IsSlot place i b.unit new (Some j)
      → slice_set new j (with_kept v) ≡ given_from place i b 0 new
  gives_some new j v at h =
      sym (given_some 0 new j v at
      (λ k n w e f. let q : n ≡ k = omega (arith, f) in ap (λ m. stays place i b.unit m w.unit) q ∙ h k w e))

  -- where the element is read and taken to this
  pub gives_read : (new : List Bridge) (j : ℕ) (d y : Bridge) → j < length new → y ≡ with_kept (slice_index_or new j d)
      → IsSlot place i b.unit new (Some j) → slice_set new j y ≡ given_from place i b 0 new
  gives_read new j d y inside is h =
      ap (slice_set new j) is ∙ gives_some new j (slice_index_or new j d) (slice_get-get_or new j d inside) h

  -- the unit of a new entry is unchanged
  unit_kept : (s : Bool) (w v : Bridge) → Some (if s then with_kept w else w) ≡ Some v → v.unit ≡ w.unit
  unit_kept true w v e = let same : with_kept w ≡ v = cc in ap (λ (x : Bridge). x.unit) (sym same)
  unit_kept false w v e = let same : w ≡ v = cc in ap (λ (x : Bridge). x.unit) (sym same)

  given_units : (o : ℕ) (ws : List Bridge) (k : ℕ) (v : Bridge) → slice_get (given_from place i b o ws) k ≡ Some v
      → (w : Bridge) × (slice_get ws k ≡ Some w) × (v.unit ≡ w.unit)
  given_units o [] k v e = cc
  given_units o (w ∷ ws) zero v e = (w, refl, unit_kept (stays place i b.unit o w.unit) w v e)
  given_units o (w ∷ ws) (suc k) v e = given_units (o + 1) ws k v e

  pub given_apart : (new : List Bridge) → HaveOwnPaths new → HaveOwnPaths (given_from place i b 0 new)
  given_apart new apart j k v w p at_j at_k is_v is_w =
      let x : (u : Bridge) × (slice_get new j ≡ Some u) × (v.unit ≡ u.unit) = given_units 0 new j v at_j in
      let y : (u : Bridge) × (slice_get new k ≡ Some u) × (w.unit ≡ u.unit) = given_units 0 new k w at_k in
      apart j k x.0 y.0 p x.1 y.1 (ap (λ (u : DocUnit). u.path) (sym x.2) ∙ is_v)
      (ap (λ (u : DocUnit). u.path) (sym y.2) ∙ is_w)

  pub given_placed : (new : List Bridge) → AllPlaced new → AllPlaced (given_from place i b 0 new)
  given_placed new placed k v at =
      let x : (u : Bridge) × (slice_get new k ≡ Some u) × (v.unit ≡ u.unit) = given_units 0 new k v at in
      subst HasPathIfBody (sym x.2) (placed k x.0 x.1)

  given_order : (new : List Bridge) (first : ℕ) → AreInOrder first new → AreInOrder first (given_from place i b 0 new)
  given_order new first order k v at =
      let x : (u : Bridge) × (slice_get new k ≡ Some u) × (v.unit ≡ u.unit) = given_units 0 new k v at in
      subst (IsInOrder first k) (sym x.2) (order k x.0 x.1)

-- after i old units
pub record Giving (places : List (Option (List ℕ))) (old now start new : List Bridge) (i : ℕ) : Type 0 where
  pub given : given_all i (drop i places) (drop i now) new ≡ given_all 0 places old start
  pub rest : drop i now ≡ drop i old
  pub apart : HaveOwnPaths new
  pub placed : AllPlaced new
  pub order : (first : ℕ) → AreInOrder first start → AreInOrder first new

pub item_dropped : (xs : List Bridge) (i : ℕ) (b : Bridge) (rest : List Bridge) → drop i xs ≡ b ∷ rest
    → slice_get xs i ≡ Some b
item_dropped [] zero b rest e = cc
item_dropped [] (suc i) b rest e = cc
item_dropped (x ∷ xs) zero b rest e = let same : x ≡ b = cc in ap Some same
item_dropped (x ∷ xs) (suc i) b rest e = item_dropped xs i b rest e

module _ (places : List (Option (List ℕ))) (old now start new : List Bridge) (i : ℕ)
    (g : Giving places old now start new i) where
  pub give_next : i < length now → i < length places → (d : Bridge) (e : Option (List ℕ)) (y : Bridge)
      (next : List Bridge) → next ≡ given_from (slice_index_or places i e) i (slice_index_or now i d) 0 new
      → Giving places old (slice_set now i y) start next (i + 1)
  give_next inside within d e y next is_next =
      let ahead : drop i now ≡ slice_index_or now i d ∷ drop (i + 1) now = drop_more now i d inside in
      let moves : drop i places ≡ slice_index_or places i e ∷ drop (i + 1) places = drop_more places i e within in
      let others : drop (i + 1) (slice_set now i y) ≡ drop (i + 1) now = drop-set-lt (i + 1) now i y (omega arith) in
      record {
        given =
            ap (λ bs. given_all (i + 1) (drop (i + 1) places) bs next) others
            ∙ ap (given_all (i + 1) (drop (i + 1) places) (drop (i + 1) now)) is_next
            ∙ ap (λ qs. given_all i qs (slice_index_or now i d ∷ drop (i + 1) now) new) (sym moves)
            ∙ ap (λ bs. given_all i (drop i places) bs new) (sym ahead)
            ∙ g.given;
        rest = others ∙ sym (sym (drop-drop 1 i old) ∙ ap (drop 1) (sym g.rest ∙ ahead));
        apart =
            subst HaveOwnPaths (sym is_next)
            (given_apart (slice_index_or places i e) i (slice_index_or now i d) new g.apart);
        placed =
            subst AllPlaced (sym is_next)
            (given_placed (slice_index_or places i e) i (slice_index_or now i d) new g.placed);
        order =
            λ first h. subst (AreInOrder first) (sym is_next)
            (given_order (slice_index_or places i e) i (slice_index_or now i d) new first (g.order first h));
      }

  pub order_now : (order : Option ℕ) → IfSome order (λ first. HasOrder first start)
      → IfSome order (λ first. HasOrder first new)
  order_now None h = h
  order_now (Some first) h = record { small = h.small; order = g.order first h.order }

  pub give_end : length places ≤ i → new ≡ given_all 0 places old start
  give_end past = sym (ap (λ qs. given_all i qs (drop i now) new) (drop_all i places past)) ∙ g.given

  old_here : i < length now → (d : Bridge) → slice_get old i ≡ Some (slice_index_or now i d)
  old_here inside d =
      item_dropped old i (slice_index_or now i d) (drop (i + 1) now) (sym g.rest ∙ drop_more now i d inside)

  pub moved_here : AreMoved places old → i < length now → i < length places → (d : Bridge) (q : Option (List ℕ))
      → q ≡ slice_index_or places i q → (slice_index_or now i d).unit.path ≡ None → q ≡ None
  moved_here law inside within d q is none =
      law i q (slice_index_or now i d) (slice_get_read places (length places) i q refl within is) (old_here inside d)
      none

  pub placed_here : AllPlaced old → i < length now → (d : Bridge) → HasPathIfBody (slice_index_or now i d).unit
  placed_here all inside d = all i (slice_index_or now i d) (old_here inside d)
