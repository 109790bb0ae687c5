-- Which new unit an old one is.
use Rattle.std.proofs.Common.{◌≡◌, ℕ, ◌+◌, ◌-◌, ◌<◌, ◌≤◌, List, [], ◌∷◌, length, slice_index_or}
use Rattle.std.proofs.Common.{Option, Some, None, refl, ap, sym, ◌∙◌, subst, arith, inl, inr}
use Rattle.std.proofs.lemmas.Bool.{false_from_ne_true, cases_Bool}
use Rattle.std.proofs.lemmas.Option.{slice_get-get_or, slice_get_within}
use Rattle.std.proofs.lemmas.Bool.Decides.{Decides-eqb}
use Rattle.std.proofs.lemmas.Slice.Eq.{bytes_eq-Decides}
use Rattle.std.specs.Prelude.{Bool, true, false, ◌&&◌, ◌==◌, is_some, slice_get}
use Rattle.std.specs.Option.{option_map_or}
use Rattle.std.specs.Str.{bytes_eq}
use Rattle.tx_units.specs.declared.kinds.Unit.{Unit as DocUnit}
use Rattle.tx_units.specs.declared.kinds.UnitKind.{UnitKind}
use Rattle.tx_units.specs.declared.kinds.UnitKind.TheVariants.{Base, Style, Absent, Initial, Body}
use Rattle.tx_bridge.specs.declared.bridge.Bridge.{Bridge}
use Rattle.tx_walk.specs.SameTrees.{is_same}
use Rattle.tx_bridge.specs.UnitLists.{is_body_unit, HasPathIfBody}
use Rattle.tx_bridge.specs.Carrying.{is_path, same_kind, same_unit}
use Rattle.tx_bridge.specs.Slots.{stays, IsSlot, IsPathSlot, HaveOwnPaths, AllPlaced}
use Rattle.tx_bridge.specs.Slots.{last_number, IsInOrder, AreInOrder}
use Rattle.tx_walk.proofs.Trees.{both, and_true, alike}

pub some_once : {A : Type 0} (o : Option A) (x y : A) → o ≡ Some x → o ≡ Some y → x ≡ y
some_once o x y e f = cc

pub path_is : (p : List ℕ) (o : Option (List ℕ)) → is_path p o ≡ true → o ≡ Some p
path_is p None h = cc
path_is p (Some q) h = ap Some ((bytes_eq-Decides q p).0 h)

-- ---- kinds and paths

kinds_body : (j k : UnitKind) → same_kind j k ≡ true → is_body_unit j ≡ is_body_unit k
kinds_body Base Base h = refl
kinds_body Base (Style n) h = cc
kinds_body Base Absent h = cc
kinds_body Base Initial h = cc
kinds_body Base Body h = cc
kinds_body (Style m) Base h = cc
kinds_body (Style m) (Style n) h = refl
kinds_body (Style m) Absent h = cc
kinds_body (Style m) Initial h = cc
kinds_body (Style m) Body h = cc
kinds_body Absent Base h = cc
kinds_body Absent (Style n) h = cc
kinds_body Absent Absent h = refl
kinds_body Absent Initial h = cc
kinds_body Absent Body h = cc
kinds_body Initial Base h = cc
kinds_body Initial (Style n) h = cc
kinds_body Initial Absent h = cc
kinds_body Initial Initial h = refl
kinds_body Initial Body h = cc
kinds_body Body Base h = cc
kinds_body Body (Style n) h = cc
kinds_body Body Absent h = cc
kinds_body Body Initial h = cc
kinds_body Body Body h = refl

no_path : (o : Option (List ℕ)) → is_some o ≡ false → o ≡ None
no_path None h = refl
no_path (Some p) h = cc

-- the same unit has a path where the other one has
pub paths_alike : (u v : DocUnit) → HasPathIfBody u → HasPathIfBody v → same_unit u v ≡ true
    → is_some u.path ≡ is_some v.path
paths_alike u v placed there same =
    placed.path
    ∙ kinds_body u.kind v.kind (both (same_kind u.kind v.kind) (is_same u.tagged.tree v.tagged.tree) same).0
    ∙ sym there.path

pub none_alike : (u v : DocUnit) → HasPathIfBody u → HasPathIfBody v → same_unit u v ≡ true → u.path ≡ None
    → v.path ≡ None
none_alike u v placed there same none =
    no_path v.path (sym (paths_alike u v placed there same) ∙ ap is_some none)

pub back_alike : (u v : DocUnit) → HasPathIfBody u → HasPathIfBody v → same_unit u v ≡ true → v.path ≡ None
    → u.path ≡ None
back_alike u v placed there same none = no_path u.path (paths_alike u v placed there same ∙ ap is_some none)

-- ---- slots

pub slot_found : (p : List ℕ) (new : List Bridge) (j : ℕ) (v : Bridge) → HaveOwnPaths new → slice_get new j ≡ Some v
    → is_path p v.unit.path ≡ true → IsPathSlot p new (Some j)
slot_found p new j v apart at has k w e =
    alike (is_path p w.unit.path) (k == j)
    (λ h. (Decides-eqb k j).1 (apart k j w v p e at (path_is p w.unit.path h) (path_is p v.unit.path has)))
    (λ h.
    let same : v ≡ w = some_once (slice_get new k) v w (ap (slice_get new) ((Decides-eqb k j).0 h) ∙ at) e in
    ap (λ (b : Bridge). is_path p b.unit.path) (sym same) ∙ has)

-- no unit below number i is such
abbrev pub Misses : (Bridge → Bool) → List Bridge → ℕ → Type 0
Misses test new i = (k : ℕ) (w : Bridge) → k < i → slice_get new k ≡ Some w → test w ≡ false

pub miss_more : (test : Bridge → Bool) (new : List Bridge) (i : ℕ) (d : Bridge) → Misses test new i → i < length new
    → test (slice_index_or new i d) ≡ false → Misses test new (i + 1)
miss_more test new i d h inside here k w l e =
    elim (cases_Bool (k == i)) [
      | inl at ↦
          let k_is : k ≡ i = (Decides-eqb k i).0 at in
          let w_is : slice_index_or new i d ≡ w =
          some_once (slice_get new i) (slice_index_or new i d) w (slice_get-get_or new i d inside)
          (ap (slice_get new) (sym k_is) ∙ e) in
          ap test (sym w_is) ∙ here
      | inr off ↦
          let other : k ≡ i → ⊥ = λ q. let there : k == i ≡ true = (Decides-eqb k i).1 q in cc in
          h k w (omega (arith, other, l)) e
    ]

pub miss_all : (test : Bridge → Bool) (new : List Bridge) (i : ℕ) → Misses test new i → length new ≤ i → (k : ℕ)
    (w : Bridge) → slice_get new k ≡ Some w → test w ≡ false
miss_all test new i h past k w e =
    let inside : k < length new = slice_get_within new k w e in h k w (omega (arith, inside, past)) e

abbrev stays_at : Option (List ℕ) → Option (List ℕ) → ℕ → DocUnit → ℕ → DocUnit → Bool
stays_at own place i u k v = option_map_or (λ p. is_path p place) own (i == k && same_unit u v)

-- where v has no path, it is the unit of the same number
stays_same : (o : Option (List ℕ)) (i : ℕ) (u : DocUnit) (k : ℕ) (v : DocUnit) → stays_at o None i u k v ≡ true
    → (i ≡ k) × (same_unit u v ≡ true)
stays_same (Some p) i u k v h = cc
stays_same None i u k v h =
    ((Decides-eqb i k).0 (both (i == k) (same_unit u v) h).0, (both (i == k) (same_unit u v) h).1)

pub slot_same : (new : List Bridge) (i : ℕ) (u : DocUnit) (v : Bridge) → u.path ≡ None → HasPathIfBody u → AllPlaced new
    → slice_get new i ≡ Some v → same_unit u v.unit ≡ true → IsSlot None i u new (Some i)
slot_same new i u v none placed all at same k w e =
    alike (stays None i u k w.unit) (k == i)
    (λ h. (Decides-eqb k i).1 (sym (stays_same w.unit.path i u k w.unit h).0))
    (λ h.
    let k_is : k ≡ i = (Decides-eqb k i).0 h in
    let w_is : w ≡ v = some_once (slice_get new k) w v e (ap (slice_get new) k_is ∙ at) in
    let v_none : v.unit.path ≡ None = none_alike u v.unit placed (all i v at) same none in
    ap (λ n. stays None i u n w.unit) k_is ∙ ap (λ (b : Bridge). stays None i u i b.unit) w_is
    ∙ ap (λ o. stays_at o None i u i v.unit) v_none
    ∙ and_true (i == i) (same_unit u v.unit) ((Decides-eqb i i).1 refl) same)

pub slot_other : (new : List Bridge) (i : ℕ) (u : DocUnit) (v : Bridge) → slice_get new i ≡ Some v
    → same_unit u v.unit ≡ false → IsSlot None i u new None
slot_other new i u v at other k w e =
    false_from_ne_true (stays None i u k w.unit)
    (λ h.
    let s : (i ≡ k) × (same_unit u w.unit ≡ true) = stays_same w.unit.path i u k w.unit h in
    let w_is : w ≡ v = some_once (slice_get new k) w v e (ap (slice_get new) (sym s.0) ∙ at) in
    let there : same_unit u v.unit ≡ true = ap (λ (b : Bridge). same_unit u b.unit) (sym w_is) ∙ s.1 in
    cc)

pub slot_past : (new : List Bridge) (i : ℕ) (u : DocUnit) → slice_get new i ≡ None → IsSlot None i u new None
slot_past new i u past k w e =
    false_from_ne_true (stays None i u k w.unit)
    (λ h.
    let there : slice_get new i ≡ Some w = ap (slice_get new) (stays_same w.unit.path i u k w.unit h).0 ∙ e in
    cc)

-- a unit with a path is none without one
apart_kinds : (u v : DocUnit) → HasPathIfBody u → HasPathIfBody v → (u.path ≡ None → ⊥) → v.path ≡ None
    → same_unit u v ≡ false
apart_kinds u v placed there some none =
    false_from_ne_true (same_unit u v) (λ h. absurd (some (back_alike u v placed there h none)))

and_false : (a b : Bool) → b ≡ false → a && b ≡ false
and_false true b h = h
and_false false b h = refl

by_its_path : (p : List ℕ) (o : Option (List ℕ)) (i : ℕ) (u : DocUnit) (k : ℕ) (v : DocUnit)
    → (o ≡ None → same_unit u v ≡ false) → stays_at o (Some p) i u k v ≡ is_path p o
by_its_path p (Some q) i u k v other =
    alike (bytes_eq p q) (bytes_eq q p) (λ h. (bytes_eq-Decides q p).1 (sym ((bytes_eq-Decides p q).0 h)))
    (λ h. (bytes_eq-Decides p q).1 (sym ((bytes_eq-Decides q p).0 h)))
by_its_path p None i u k v other = and_false (i == k) (same_unit u v) (other refl)

slot_by_path : (p : List ℕ) (i : ℕ) (u : DocUnit) (new : List Bridge) (slot : Option ℕ)
    → (u.path ≡ None → Some p ≡ None) → HasPathIfBody u → AllPlaced new → IsPathSlot p new slot
    → IsSlot (Some p) i u new slot
slot_by_path p i u new slot some placed all h k w e =
    by_its_path p w.unit.path i u k w.unit
    (apart_kinds u w.unit placed (all k w e) (λ none. let off : Some p ≡ None = some none in cc)) ∙ h k w e

pub slot_by_place : (place : Option (List ℕ)) (p : List ℕ) (i : ℕ) (u : DocUnit) (new : List Bridge) (slot : Option ℕ)
    → place ≡ Some p → (u.path ≡ None → place ≡ None) → HasPathIfBody u → AllPlaced new → IsPathSlot p new slot
    → IsSlot place i u new slot
slot_by_place place p i u new slot is some placed all h =
    let P : Option (List ℕ) → Type 0 = λ q. IsSlot q i u new slot in
    subst P (sym is) (slot_by_path p i u new slot (λ none. sym is ∙ some none) placed all h)

gone : (o : Option (List ℕ)) (i : ℕ) (u : DocUnit) (k : ℕ) (v : DocUnit) → (o ≡ None → same_unit u v ≡ false)
    → stays_at o None i u k v ≡ false
gone (Some p) i u k v other = refl
gone None i u k v other = and_false (i == k) (same_unit u v) (other refl)

pub slot_gone : (i : ℕ) (u : DocUnit) (new : List Bridge) → is_some u.path ≡ true → HasPathIfBody u → AllPlaced new
    → IsSlot None i u new None
slot_gone i u new some placed all k w e =
    gone w.unit.path i u k w.unit
    (apart_kinds u w.unit placed (all k w e) (λ none. let off : is_some u.path ≡ false = ap is_some none in cc))

pub slot_gone_at : (place : Option (List ℕ)) → place ≡ None → (i : ℕ) (u : DocUnit) (new : List Bridge)
    → is_some u.path ≡ true → HasPathIfBody u → AllPlaced new → IsSlot place i u new None
slot_gone_at place none i u new some placed all =
    let P : Option (List ℕ) → Type 0 = λ q. IsSlot q i u new None in
    subst P (sym none) (slot_gone i u new some placed all)

-- ---- units in order

-- the units below number i are in order
abbrev pub InOrderTo : ℕ → List Bridge → ℕ → Type 0
InOrderTo first new i = (k : ℕ) (w : Bridge) → k < i → slice_get new k ≡ Some w → IsInOrder first k w.unit

pub order_more : (first : ℕ) (new : List Bridge) (i : ℕ) (d : Bridge) → InOrderTo first new i → i < length new
    → IsInOrder first i (slice_index_or new i d).unit → InOrderTo first new (i + 1)
order_more first new i d h inside here k w l e =
    elim (cases_Bool (k == i)) [
      | inl at ↦
          let k_is : k ≡ i = (Decides-eqb k i).0 at in
          let w_is : slice_index_or new i d ≡ w =
          some_once (slice_get new i) (slice_index_or new i d) w (slice_get-get_or new i d inside)
          (ap (slice_get new) (sym k_is) ∙ e) in
          subst (λ (b : Bridge). IsInOrder first k b.unit) w_is
          (subst (λ n. IsInOrder first n (slice_index_or new i d).unit) (sym k_is) here)
      | inr off ↦
          let other : k ≡ i → ⊥ = λ q. let there : k == i ≡ true = (Decides-eqb k i).1 q in cc in
          h k w (omega (arith, other, l)) e
    ]

pub order_all : (first : ℕ) (new : List Bridge) (i : ℕ) → InOrderTo first new i → length new ≤ i
    → AreInOrder first new
order_all first new i h past k w e =
    let inside : k < length new = slice_get_within new k w e in h k w (omega (arith, inside, past)) e

-- where the unit that is the path's last number after number `first` doesn't have the path, no unit has it
pub ordered_none : (p : List ℕ) (new : List Bridge) (first : ℕ) → AreInOrder first new
    → ((n : ℕ) (w : Bridge) → last_number p ≡ Some n → slice_get new (first + n) ≡ Some w
    → is_path p w.unit.path ≡ false) → IsPathSlot p new None
ordered_none p new first order h k w e =
    false_from_ne_true (is_path p w.unit.path)
    (λ t.
    let o : (n : ℕ) × (last_number p ≡ Some n) × (k ≡ first + n) = order k w e p (path_is p w.unit.path t) in
    let off : is_path p w.unit.path ≡ false = h o.0 w o.1 (ap (slice_get new) (sym o.2) ∙ e) in
    cc)

pub none_last : (p : List ℕ) (new : List Bridge) (first : ℕ) → AreInOrder first new → last_number p ≡ None
    → IsPathSlot p new None
none_last p new first order none =
    ordered_none p new first order (λ n w e at. let off : Some n ≡ None = sym e ∙ none in cc)

pub none_there : (p : List ℕ) (new : List Bridge) (first n : ℕ) → AreInOrder first new → last_number p ≡ Some n
    → length new ≤ first + n → IsPathSlot p new None
none_there p new first n order last past =
    ordered_none p new first order
    (λ m w e at.
    let same : m ≡ n = some_once (last_number p) m n e last in
    let inside : first + m < length new = slice_get_within new (first + m) w at in
    absurd (omega (arith, same, inside, past)))

pub other_there : (p : List ℕ) (new : List Bridge) (first n : ℕ) (v : Bridge) → AreInOrder first new
    → last_number p ≡ Some n → slice_get new (first + n) ≡ Some v → is_path p v.unit.path ≡ false
    → IsPathSlot p new None
other_there p new first n v order last there other =
    ordered_none p new first order
    (λ m w e at.
    let same : m ≡ n = some_once (last_number p) m n e last in
    let one : w ≡ v =
    some_once (slice_get new (first + n)) w v (sym (ap (λ j. slice_get new (first + j)) same) ∙ at) there in
    ap (λ (b : Bridge). is_path p b.unit.path) one ∙ other)

pub last_there : (p : List ℕ) (d n : ℕ) → 0 < length p → n ≡ slice_index_or p (length p - 1) d
    → Some n ≡ last_number p
last_there p d n some is = ap Some is ∙ sym (slice_get-get_or p (length p - 1) d (omega (arith, some)))

pub last_none : (p : List ℕ) → length p ≡ 0 → None ≡ last_number p
last_none [] e = refl
last_none (x ∷ p) e = absurd (omega (arith, e))
