-- One unit has another tree, and nothing is cached of it: this is what carrying gives.
use Rattle.std.proofs.Common.{◌≡◌, ℕ, zero, suc, ◌+◌, ◌<◌, List, [], ◌∷◌, length, slice_set, slice_index_or}
use Rattle.std.proofs.Common.{Some, refl, ap, sym, ◌∙◌, subst, arith}
use Rattle.std.proofs.lemmas.Bool.Decides.{Decides-eqb}
use Rattle.std.proofs.lemmas.List.{length-map}
use Rattle.std.proofs.lemmas.List.Elements.{recursion_from_All, All-from_recursion}
use Rattle.std.proofs.lemmas.Option.{slice_get_within}
use Rattle.std.specs.List.{All, AllByRecursion, IsDistinct}
use Rattle.std.specs.Str.{bytes_eq}
use Rattle.std.specs.Prelude.{Bool, true, false, ◌==◌, slice_get, Option, None, MatchOption}
use Rattle.std.specs.FinMap.{empty}
use Rattle.tx_tree.specs.WideTree.{WideTree}
use Rattle.tx_env.specs.Environments.{NameMap}
use Rattle.tx_mod.specs.declared.mods.Mod.{Mod}
use Rattle.tx_mod.specs.Followed.{changed_by_all}
use Rattle.tx_exec.specs.Outcomes.{wide_outcome}
use Rattle.tx_units.specs.declared.kinds.Unit.{Unit as DocUnit}
use Rattle.tx_units.specs.Units.{unit_with, units_with}
use Rattle.tx_view_form.specs.Outcomes.{env_behind}
use Rattle.tx_bridge.specs.declared.bridge.Bridge.{Bridge}
use Rattle.tx_bridge.specs.UnitLists.{AreUnits}
use Rattle.tx_bridge.specs.Entries.{Kept, units_of}
use Rattle.tx_bridge.specs.Settled.{AreSettled, IsSilent}
use Rattle.tx_bridge.specs.Sound.{IsSoundBridge, AreRight, kept_unit, entries_of, stored_parts_in, layers_in}
use Rattle.tx_bridge.specs.Sound.{sources_in}
use Rattle.tx_bridge.specs.Sound.{changed_bridge, changed_in}
use Rattle.tx_walk.specs.declared.part.Part.{Part as DonePart}
use Rattle.tx_walk.specs.Walked.{paths_of}
use Rattle.tx_bridge.specs.HeldParts.{HoldsPart, kept_parts}
use Rattle.tx_bridge.specs.CarryingParts.{parts_within, parts_but}
use Rattle.tx_bridge.specs.Carrying.{carried, sources, mods_of}
use Rattle.tx_bridge.specs.Slots.{bodies_of, given, AllUnchanged, IsChangedAt}
use Rattle.tx_bridge.specs.InPlace.{is_changed, IsOneChanged, NoneChanged, numbers_but}
use Rattle.tx_bridge.specs.Strays.{AreStrays, AreTidy, strays_in}
use Rattle.tx_bridge.specs.declared.strays.Stray.{Stray as DoneStray}
use Rattle.tx_bridge.proofs.Arrived.{units_bodies}
use Rattle.tx_bridge.proofs.Putting.{differs}
use Rattle.tx_bridge.proofs.Settling.{body_there, settled_one, settled, settled_given, settled_sources, has_path}
use Rattle.tx_bridge.proofs.Settling.{are_alike_with, many_with, are_units_with}
use Rattle.tx_bridge.proofs.Single.{NoneTwice, body_at}
use Rattle.tx_bridge.proofs.Taking.{IsCarried, given_is}

-- the list where that element was set
pub set_changed : (bs : List Bridge) (i : ℕ) (t : WideTree) (ps : List DonePart) (d y : Bridge) → i < length bs
    → y ≡ changed_bridge t ps (slice_index_or bs i d) → slice_set bs i y ≡ changed_in i t ps bs
set_changed [] i t ps d y inside is = absurd (omega (arith, inside))
set_changed (b ∷ bs) zero t ps d y inside is = ap (λ c. c ∷ bs) is
set_changed (b ∷ bs) (suc i) t ps d y inside is =
    ap (λ cs. b ∷ cs) (set_changed bs i t ps d y (omega (arith, inside)) is)

-- ---- units, and what is cached of them

many_changed : (i : ℕ) (t : WideTree) (ps : List DonePart) (bs : List Bridge)
    → length (changed_in i t ps bs) ≡ length bs
many_changed i t ps [] = refl
many_changed zero t ps (b ∷ bs) = refl
many_changed (suc i) t ps (b ∷ bs) = ap suc (many_changed i t ps bs)

-- the layers are unchanged
pub layers_changed : (i : ℕ) (t : WideTree) (ps : List DonePart) (bs : List Bridge)
    → layers_in (changed_in i t ps bs) ≡ layers_in bs
layers_changed i t ps [] = refl
layers_changed zero t ps (b ∷ bs) = refl
layers_changed (suc i) t ps (b ∷ bs) = ap (λ lss. b.layers ∷ lss) (layers_changed i t ps bs)

units_changed : (i : ℕ) (t : WideTree) (ps : List DonePart) (bs : List Bridge)
    → units_of (entries_of (changed_in i t ps bs)) ≡ units_with i t (units_of (entries_of bs))
units_changed i t ps [] = refl
units_changed zero t ps (b ∷ bs) = refl
units_changed (suc i) t ps (b ∷ bs) = ap (λ us. b.unit ∷ us) (units_changed i t ps bs)

other_entry : (c : Bool) (k : ℕ) (b : Bridge) → c ≡ false → kept_unit (settled_one c k b b.unit) ≡ kept_unit b
other_entry true k b e = cc
other_entry false k b e = refl

new_entry : (c : Bool) (k : ℕ) (t : WideTree) (ps : List DonePart) (b : Bridge) → c ≡ true
    → kept_unit (settled_one c k b (unit_with t b.unit)) ≡ kept_unit (changed_bridge t ps b)
new_entry true k t ps b e = refl
new_entry false k t ps b e = cc

-- those after it are as they were
settled_others : (j k : ℕ) (bs : List Bridge) → j < k → entries_of (settled j k bs (bodies_of bs)) ≡ entries_of bs
settled_others j k [] l = refl
settled_others j k (b ∷ bs) l =
    ap (λ e. e ∷ entries_of (settled j (k + 1) bs (bodies_of bs)))
    (other_entry (k == j) k b (differs k j (λ e. absurd (omega (arith, e, l)))))
    ∙ ap (λ es. kept_unit b ∷ es) (settled_others j (k + 1) bs (omega (arith, l)))

settled_changed : (i j k : ℕ) (t : WideTree) (ps : List DonePart) (bs : List Bridge) → j ≡ k + i
    → entries_of (settled j k bs (units_with i t (bodies_of bs))) ≡ entries_of (changed_in i t ps bs)
settled_changed i j k t ps [] is = refl
settled_changed zero j k t ps (b ∷ bs) is =
    let same : k ≡ j = omega (arith, is) in
    ap (λ e. e ∷ entries_of (settled j (k + 1) bs (bodies_of bs)))
    (new_entry (k == j) k t ps b ((Decides-eqb k j).1 same))
    ∙ ap (λ es. kept_unit (changed_bridge t ps b) ∷ es) (settled_others j (k + 1) bs (omega (arith, is)))
settled_changed (suc i) j k t ps (b ∷ bs) is =
    ap (λ e. e ∷ entries_of (settled j (k + 1) bs (units_with i t (bodies_of bs))))
    (other_entry (k == j) k b (differs k j (λ e. absurd (omega (arith, e, is)))))
    ∙ ap (λ es. kept_unit b ∷ es) (settled_changed i j (k + 1) t ps bs (omega (arith, is)))

-- ---- what is true of each, and of all

-- the parts hold in the tree, and no two have one path
abbrev pub AllHoldIn : WideTree → List DonePart → Type 0
AllHoldIn t ps = AllByRecursion (HoldsPart t) ps × IsDistinct bytes_eq (paths_of ps)

changed_sound : (i : ℕ) (t : WideTree) (ps : List DonePart) (bs : List Bridge) → AllHoldIn t ps
    → AllByRecursion IsSoundBridge bs → AllByRecursion IsSoundBridge (changed_in i t ps bs)
changed_sound i t ps [] hold h = tt
changed_sound zero t ps (b ∷ bs) hold h = (
  record {
    holds = tt;
    once = tt;
    placed = record { path = h.0.placed.path; origin = h.0.placed.origin };
    parts = record { hold = hold.0; distinct = hold.1; all = λ off. tt };
  },
  h.1,
)
changed_sound (suc i) t ps (b ∷ bs) hold h = (h.0, changed_sound i t ps bs hold h.1)

-- what was cached of the unit of this number sets no name
abbrev pub IsSilentAt : List Bridge → ℕ → Type 0
IsSilentAt bs i = (b : Bridge) → slice_get bs i ≡ Some b → IsSilent (wide_outcome b.kept)

changed_settled : (i : ℕ) (t : WideTree) (ps : List DonePart) (bs : List Bridge) (env : NameMap) → IsSilentAt bs i
    → AreSettled env (entries_of bs) → AreSettled env (entries_of (changed_in i t ps bs))
changed_settled i t ps [] env silent h = tt
changed_settled zero t ps (b ∷ bs) env silent h =
    (tt, subst (λ (e : NameMap). AreSettled e (entries_of bs)) (silent b refl env) h.1)
changed_settled (suc i) t ps (b ∷ bs) env silent h =
    (h.0, changed_settled i t ps bs (env_behind env (wide_outcome b.kept)) silent h.1)

pub changed_right : (i : ℕ) (t : WideTree) (ps : List DonePart) (old now : List Bridge) (flag after : Bool)
    (was are : List DoneStray) → now ≡ changed_in i t ps old → AllHoldIn t ps → AreRight flag old was
    → (after ≡ true → (flag ≡ true) × IsSilentAt old i)
    → (AreStrays (units_of (entries_of old)) (strays_in was)
    → AreStrays (units_with i t (units_of (entries_of old))) (strays_in are)) → (AreTidy was → AreTidy are)
    → AreRight after now are
changed_right i t ps old now flag after was are is hold right h stray tidy =
    subst (λ bs. AreRight after bs are) (sym is)
    (record {
      sound =
          All-from_recursion IsSoundBridge (changed_in i t ps old)
          (changed_sound i t ps old hold (recursion_from_All IsSoundBridge old right.sound));
      units =
          subst AreUnits
          (sym (units_changed i t ps old ∙ ap (units_with i t) (units_bodies old)))
          (are_units_with i t (bodies_of old) (subst AreUnits (units_bodies old) right.units));
      settled = λ e. changed_settled i t ps old empty (h e).1 (right.settled (h e).0);
      strays =
          subst (λ us. AreStrays us (strays_in are)) (sym (units_changed i t ps old)) (stray right.strays);
      tidy = tidy right.tidy;
    })

-- the cached parts
pub changed_parts : (i : ℕ) (ms : List Mod) (before t : WideTree) (ps : List DonePart) (bs : List Bridge)
    → ((b : Bridge) → slice_get bs i ≡ Some b → kept_parts ps ≡ parts_within ms before b.unit (kept_parts b.parts))
    → stored_parts_in (changed_in i t ps bs) ≡ parts_but ms before i (bodies_of bs) (stored_parts_in bs)
changed_parts i ms before t ps [] h = refl
changed_parts zero ms before t ps (b ∷ bs) h = ap (λ ks. ks ∷ stored_parts_in bs) (h b refl)
changed_parts (suc i) ms before t ps (b ∷ bs) h =
    ap (λ pss. kept_parts b.parts ∷ pss) (changed_parts i ms before t ps bs h)

-- ---- an edit inside one paragraph

-- what `result` is to be, where the unit of number i has the tree t afterwards
pub record IsInPlace (i : ℕ) (ms : List Mod) (before t : WideTree) (kept : Kept) (us : List DocUnit)
    (result : List Bridge) : Type 0 where
  pub entries : entries_of result ≡ carried (mods_of 0 ms) before kept (units_with i t us)
  pub sources : numbers_but i 0 (length result) ≡ sources (mods_of 0 ms) before (units_of kept) (units_with i t us)
  pub once : NoneTwice (numbers_but i 0 (length result))
  pub numbers : numbers_but i 0 (length result) ≡ numbers_but i 0 (length us)
  pub units : units_of (entries_of result) ≡ units_with i t us

module _ (i : ℕ) (ms : List Mod) (before t : WideTree) (ps : List DonePart) (old : List Bridge)
    (applies : (u : WideTree) × (changed_by_all ms before ≡ Some u)) (sound : All IsSoundBridge old) where
  by_bodies : AreUnits (bodies_of old) → IsOneChanged i 0 ms (bodies_of old)
      → IsInPlace i ms before t (entries_of old) (bodies_of old) (changed_in i t ps old)
  by_bodies are one =
      let us : List DocUnit = units_with i t (bodies_of old) in
      let new : AreUnits us = are_units_with i t (bodies_of old) are in
      let many : length (bodies_of old) ≡ length us = many_with i t (bodies_of old) in
      let as_many : length old ≡ length (bodies_of old) = sym (length-map old (λ (b : Bridge). b.unit)) in
      let is_given : settled i 0 old us ≡ given (mods_of 0 ms) before old us =
      settled_given i 0 ms before old us applies new sound one many
      (are_alike_with i t (bodies_of old) (has_path i 0 ms (bodies_of old) one)) in
      let all : IsCarried 0 ms before (entries_of old) us (settled i 0 old us) =
      given_is 0 ms before (entries_of old) us old (settled i 0 old us) refl sound new is_given in
      let numbers : numbers_but i 0 (length (changed_in i t ps old)) ≡ sources_in (settled i 0 old us) =
      ap (numbers_but i 0) (many_changed i t ps old ∙ as_many ∙ many)
      ∙ sym (settled_sources i 0 old us (as_many ∙ many)) in
      record {
        entries = sym (settled_changed i i 0 t ps old (omega arith)) ∙ all.entries;
        sources = numbers ∙ all.sources;
        once = subst NoneTwice (sym numbers) all.once;
        numbers = ap (numbers_but i 0) (many_changed i t ps old ∙ as_many);
        units = units_changed i t ps old ∙ ap (units_with i t) (units_bodies old);
      }

  by_units : AreUnits (units_of (entries_of old)) → IsOneChanged i 0 ms (units_of (entries_of old))
      → IsInPlace i ms before t (entries_of old) (units_of (entries_of old)) (changed_in i t ps old)
  by_units =
      let P : List DocUnit → Type 0 = λ us. AreUnits us → IsOneChanged i 0 ms us
      → IsInPlace i ms before t (entries_of old) us (changed_in i t ps old) in
      subst P (sym (units_bodies old)) by_bodies

  -- the premises are what the calls ask for, and what they ensure
  pub in_place : (kept : Kept) (now : List Bridge) → entries_of old ≡ kept → AreUnits (units_of kept)
      → IsOneChanged i 0 ms (units_of kept) → now ≡ changed_in i t ps old
      → IsInPlace i ms before t kept (units_of kept) now
  in_place kept now was are one is =
      let P : Kept → Type 0 = λ es. AreUnits (units_of es) → IsOneChanged i 0 ms (units_of es)
      → IsInPlace i ms before t es (units_of es) (changed_in i t ps old) in
      subst (IsInPlace i ms before t kept (units_of kept)) (sym is) (subst P was by_units are one)

-- the unit that the modifications change, if there is one
pub one_of : (buffer : ℕ) (ms : List Mod) (bs : List Bridge) (r : Option ℕ) → buffer ≡ 0
    → MatchOption r (AllUnchanged ms bs) (IsChangedAt ms bs)
    → MatchOption r (NoneChanged buffer ms (bodies_of bs)) (λ i. IsOneChanged i buffer ms (bodies_of bs))
one_of buffer ms bs None document h = λ e i u at.
    let x : (b : Bridge) × (slice_get bs i ≡ Some b) × (b.unit ≡ u) = body_at bs i u at in
    ap (is_changed ms) (sym x.2) ∙ h i x.0 x.1
one_of buffer ms bs (Some i) document h =
    record { document = document; unit = h.0.unit; there = body_there bs i h.0 h.1; changed = h.2 }

-- the number is one of a unit
pub is_within : (i : ℕ) (ms : List Mod) (old : List Bridge) (kept : Kept) → entries_of old ≡ kept
    → IsOneChanged i 0 ms (units_of kept) → i < length old
is_within i ms old kept was one =
    let many : length (units_of kept) ≡ length old =
    ap (λ (es : Kept). length (units_of es)) (sym was) ∙ ap length (units_bodies old)
    ∙ length-map old (λ (b : Bridge). b.unit) in
    omega (arith, many, slice_get_within (units_of kept) i one.unit one.there)
