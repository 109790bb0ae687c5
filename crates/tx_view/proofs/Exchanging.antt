-- The units after an edit that changes one paragraph alone.
use Rattle.std.proofs.Common.{◌≡◌, ℕ, zero, suc, ◌+◌, ◌≤◌, ◌<◌, Bool, true, false, List, [], ◌∷◌, length, map}
use Rattle.std.proofs.Common.{slice_index_or, Option, Some, None, refl, sym, ap, subst, ◌∙◌, arith}
use Rattle.std.proofs.lemmas.Bool.{and_parts}
use Rattle.std.specs.Option.{option_map, option_map_or}
use Rattle.std.proofs.lemmas.Bool.Decides.{Decides-eqb}
use Rattle.std.proofs.lemmas.Option.{same_Some, slice_get-map}
use Rattle.std.specs.Prelude.{◌&&◌, ◌==◌, is_some, slice_get, if◌then◌else◌}
use Rattle.tx_tree.specs.WideTree.{WideTree}
use Rattle.tx_mod.specs.declared.mods.Mod.{Mod}
use Rattle.tx_mod.specs.Followed.{changed_by_all}
use Rattle.tx_doc.specs.Buffers.{tree_of, document_of, with_tree}
use Rattle.tx_doc.specs.declared.buffer.Buffer.{Buffer}
use Rattle.tx_units.specs.declared.kinds.Unit.{Unit as DocUnit}
use Rattle.tx_units.specs.Inside.{ChangesOne}
use Rattle.tx_units.specs.Units.{units, units_with}
use Rattle.tx_bridge.specs.Carrying.{HaveSameTrees}
use Rattle.tx_bridge.specs.Entries.{Entry, Kept, units_of}
use Rattle.tx_bridge.specs.InPlace.{IsOneChanged, NoneChanged, is_changed, is_gone, are_within, numbers_but}
use Rattle.tx_bridge.specs.Names.{CarryTraces, Sources}
use Rattle.tx_bridge.specs.UnitLists.{AreUnits}
use Rattle.tx_view.specs.Exchanged.{IsNow, IsExchanged, stays_alone, exchanged_from, exchanged_in}
use Rattle.tx_view.specs.Laid.{IsTarget, ToldPlaces}
use Rattle.tx_view.specs.declared.carrying.Target.TheVariants.{InPlace}
use Rattle.tx_view.proofs.Blank.{tree_at}
use Rattle.tx_view.proofs.Changing.{stays_beside}

some_same : {A : Type 0} (x y : A) → Some x ≡ Some y → x ≡ y
some_same x y e = cc

-- the unit that is looked at is the one that changes
pub exchanged_at : (i buffer : ℕ) (ms : List Mod) (t x y : WideTree) (kept : Kept) (u : DocUnit)
    → IsOneChanged i buffer ms (units_of kept) → option_map (λ e. e.unit) (slice_get kept i) ≡ Some u → IsNow u t x
    → y ≡ x → IsExchanged i buffer ms t y (units_of kept)
exchanged_at i buffer ms t x y kept u one at now same =
    let there : one.unit ≡ u =
    some_same one.unit u (sym one.there ∙ slice_get-map (λ (e : Entry). e.unit) kept i ∙ at) in
    record { one = one; is_now = subst (λ z. IsNow one.unit t z) (sym same) (subst (λ v. IsNow v t x) (sym there) now) }

-- ---- which one it is

none_from : (ms : List Mod) (t : WideTree) (k : ℕ) (us : List DocUnit)
    → ((i : ℕ) (u : DocUnit) → slice_get us i ≡ Some u → is_changed ms u ≡ false) → exchanged_from ms t k us ≡ None
none_from ms t k [] h = refl
none_from ms t k (u ∷ us) h =
    ap (λ b. if b then (if stays_alone t u then Some k else None) else exchanged_from ms t (k + 1) us) (h 0 u refl)
    ∙ none_from ms t (k + 1) us (λ i v e. h (suc i) v e)

pub none_exchanged : (buffer : ℕ) (ms : List Mod) (t : WideTree) (us : List DocUnit) → NoneChanged buffer ms us
    → exchanged_in buffer ms t us ≡ None
none_exchanged zero ms t us h = none_from ms t 0 us (h refl)
none_exchanged (suc buffer) ms t us h = refl

behind_one : (b : Bool) (here later found : Option ℕ) → (b ≡ true → ⊥) → later ≡ found
    → (if b then here else later) ≡ found
behind_one true here later found off is = absurd (off refl)
behind_one false here later found off is = is

-- the unit of number i is the only one
one_from : (ms : List Mod) (t : WideTree) (i k : ℕ) (us : List DocUnit) (u : DocUnit) → slice_get us i ≡ Some u
    → is_changed ms u ≡ true
    → ((j : ℕ) (v : DocUnit) → slice_get us j ≡ Some v → is_changed ms v ≡ true → j ≡ i) → (n : ℕ) → n ≡ k + i
    → exchanged_from ms t k us ≡ (if stays_alone t u then Some n else None)
one_from ms t i k [] u at h once n is = cc
one_from ms t zero k (v ∷ us) u at h once n is =
    let same : v ≡ u = some_same v u at in
    let number : k ≡ n = omega (arith, is) in
    ap (λ b. if b then (if stays_alone t v then Some k else None) else exchanged_from ms t (k + 1) us)
    (ap (is_changed ms) same ∙ h)
    ∙ ap (λ w. if stays_alone t w then Some k else None) same
    ∙ ap (λ j. if stays_alone t u then Some j else None) number
one_from ms t (suc i) k (v ∷ us) u at h once n is =
    behind_one (is_changed ms v) (if stays_alone t v then Some k else None) (exchanged_from ms t (k + 1) us)
    (if stays_alone t u then Some n else None) (λ e. absurd (omega (arith, once 0 v refl e)))
    (one_from ms t i (k + 1) us u at h (λ j w f g. omega (arith, once (suc j) w f g)) n (omega (arith, is)))

-- the law that modifications change one unit, as the call states it
abbrev pub ChangedOnce : Type 0
ChangedOnce = (ms : List Mod) (us : List DocUnit) → AreUnits us → (j k : ℕ) (u v : DocUnit)
    → slice_get us j ≡ Some u → slice_get us k ≡ Some v → is_changed ms u ≡ true → is_changed ms v ≡ true → j ≡ k

one_in : ChangedOnce → (i buffer : ℕ) (ms : List Mod) (t : WideTree) (us : List DocUnit) → AreUnits us
    → (one : IsOneChanged i buffer ms us)
    → exchanged_in buffer ms t us ≡ (if stays_alone t one.unit then Some i else None)
one_in law i zero ms t us are one =
    one_from ms t i 0 us one.unit one.there one.changed
    (λ j v at e. law ms us are j i v one.unit at one.there e one.changed) i (omega arith)
one_in law i (suc buffer) ms t us are one = absurd (omega (arith, one.document))

-- the unit that is looked at
unit_there : (i buffer : ℕ) (ms : List Mod) (kept : Kept) (u : DocUnit) (one : IsOneChanged i buffer ms (units_of kept))
    → option_map (λ e. e.unit) (slice_get kept i) ≡ Some u → one.unit ≡ u
unit_there i buffer ms kept u one at =
    some_same one.unit u (sym one.there ∙ slice_get-map (λ (e : Entry). e.unit) kept i ∙ at)

pub number_is : ChangedOnce → (i buffer : ℕ) (ms : List Mod) (t : WideTree) (kept : Kept) (u : DocUnit) (b : Bool)
    → AreUnits (units_of kept) → IsOneChanged i buffer ms (units_of kept)
    → option_map (λ e. e.unit) (slice_get kept i) ≡ Some u → stays_alone t u ≡ b
    → exchanged_in buffer ms t (units_of kept) ≡ (if b then Some i else None)
number_is law i buffer ms t kept u b are one at alone =
    one_in law i buffer ms t (units_of kept) are one
    ∙ ap (λ c. if c then Some i else None) (ap (stays_alone t) (unit_there i buffer ms kept u one at) ∙ alone)

pub unit_missing : (i buffer : ℕ) (ms : List Mod) (kept : Kept) → IsOneChanged i buffer ms (units_of kept)
    → slice_get kept i ≡ None → ⊥
unit_missing i buffer ms kept one none =
    let off : Some one.unit ≡ None =
    sym one.there ∙ slice_get-map (λ (e : Entry). e.unit) kept i ∙ ap (option_map (λ (e : Entry). e.unit)) none in
    cc

-- ---- the units afterwards

-- they are those of before, of which one has another tree
pub exchanged_units : (bs : List Buffer) (buffer i : ℕ) (ms : List Mod) (t x : WideTree) (us : List DocUnit)
    → ChangesOne bs i t x → 1 ≤ length bs → IsExchanged i buffer ms t x us → us ≡ units bs
    → changed_by_all ms (tree_of bs buffer) ≡ Some t → units (with_tree bs buffer t) ≡ units_with i x us
exchanged_units bs buffer i ms t x us law some h of made =
    let own = h.is_now in
    let split = and_parts (is_gone own.path ms) (are_within own.path ms)
    (sym (ap (λ o. option_map_or (λ path. is_gone path ms && are_within path ms) o false) own.has_path)
    ∙ h.one.changed) in
    let made_of : changed_by_all ms (document_of bs) ≡ Some t =
    subst (λ k. changed_by_all ms (tree_of bs k) ≡ Some t) h.one.document made in
    ap (λ k. units (with_tree bs k t)) h.one.document
    ∙ law some h.one.unit own.path (ap (λ vs. slice_get vs i) (sym of) ∙ h.one.there) own.has_path own.leaves
    (stays_beside ms (document_of bs) t own.path split.0 split.1 made_of) own.there
    ∙ ap (units_with i x) (sym of)

-- ---- what is unchanged of them

paths_with : (i : ℕ) (x : WideTree) (us : List DocUnit) → map (λ u. u.path) (units_with i x us) ≡ map (λ u. u.path) us
paths_with i x [] = refl
paths_with zero x (u ∷ us) = refl
paths_with (suc i) x (u ∷ us) = ap (λ ps. u.path ∷ ps) (paths_with i x us)

many_with : (i : ℕ) (x : WideTree) (us : List DocUnit) → length (units_with i x us) ≡ length us
many_with i x [] = refl
many_with zero x (u ∷ us) = refl
many_with (suc i) x (u ∷ us) = ap suc (many_with i x us)

-- what is shown can be unchanged in place
pub target_with : (i : ℕ) (silent : Bool) (ps : ToldPlaces) (x : WideTree) (us vs : List DocUnit)
    (ss : List (Option ℕ)) → vs ≡ units_with i x us → ss ≡ numbers_but i 0 (length us)
    → IsTarget us vs ss (InPlace i silent ps)
target_with i silent ps x us vs ss is numbers = (
  numbers ∙ ap (numbers_but i 0) (sym (ap length is ∙ many_with i x us)),
  ap (map (λ u. u.path)) is ∙ paths_with i x us,
)

-- the others have their trees
others_same : (i j k m : ℕ) (x : WideTree) (us : List DocUnit) (u v : DocUnit) (n : ℕ) → i ≡ k + j
    → slice_get us m ≡ Some u → slice_get (units_with j x us) m ≡ Some v
    → slice_get (numbers_but i k n) m ≡ Some (Some (k + m)) → v ≡ u
others_same i j k m x [] u v n is at there number = cc
others_same i j k m x (w ∷ us) u v zero is at there number = cc
others_same i zero k zero x (w ∷ us) u v (suc n) is at there number =
    let here : k == i ≡ true = (Decides-eqb k i).1 (omega (arith, is)) in
    absurd (none_here (k == i) here (same_Some (if k == i then None else Some k) (Some (k + 0)) number))
  where
    none_here : (b : Bool) → b ≡ true → (if b then None else Some k) ≡ Some (k + 0) → ⊥
    none_here true e f = cc
    none_here false e f = cc
others_same i (suc j) k zero x (w ∷ us) u v (suc n) is at there number =
    sym (some_same w v there) ∙ some_same w u at
others_same i zero k (suc m) x (w ∷ us) u v (suc n) is at there number = some_same v u (sym there ∙ at)
others_same i (suc j) k (suc m) x (w ∷ us) u v (suc n) is at there number =
    others_same i j (k + 1) m x us u v n (omega (arith, is)) at there
    (number ∙ ap (λ l. Some (Some l)) (let e : k + suc m ≡ k + 1 + m = omega arith in e))

-- where number k + m is an old one, it is that of its number
own_number : (i k n m l : ℕ) → slice_get (numbers_but i k n) m ≡ Some (Some l) → l ≡ k + m
own_number i k zero m l e = cc
own_number i k (suc n) zero l e = by (k == i) (same_Some (if k == i then None else Some k) (Some l) e)
  where
    by : (b : Bool) → (if b then None else Some k) ≡ Some l → l ≡ k + 0
    by true f = cc
    by false f = omega (arith, same_Some k l f)
own_number i k (suc n) (suc m) l e = omega (arith, own_number i (k + 1) n m l e)

pub same_with : (i n : ℕ) (x : WideTree) (us vs : List DocUnit) (ss : List (Option ℕ)) → vs ≡ units_with i x us
    → ss ≡ numbers_but i 0 n → HaveSameTrees us vs ss
same_with i n x us vs ss is numbers l m u v at there number =
    let own : slice_get (numbers_but i 0 n) m ≡ Some (Some l) = ap (λ ts. slice_get ts m) (sym numbers) ∙ number in
    let same : l ≡ m = omega (arith, own_number i 0 n m l own) in
    let e : v ≡ u =
    others_same i i 0 m x us u v n (omega arith) (ap (slice_get us) (sym same) ∙ at)
    (ap (λ ws. slice_get ws m) (sym is) ∙ there)
    (own ∙ ap (λ k. Some (Some k)) (let now : l ≡ 0 + m = omega (arith, same) in now)) in
    (ap (λ (w : DocUnit). w.tagged.tree) e, ap (λ (w : DocUnit). is_some w.path) e)

-- what is cached, and what is shown, is as it would be after any edit
pub record IsInPlace (buffer i : ℕ) (silent : Bool) (ps : ToldPlaces) (ms : List Mod) (t : WideTree)
    (kept new : Kept) (ss : List (Option ℕ)) (vs : List DocUnit) : Type 0 where
  pub target : IsTarget (units_of kept) vs ss (InPlace i silent ps)
  pub same_trees : HaveSameTrees (units_of kept) vs ss
  pub kept_is : new ≡ CarryTraces buffer ms t kept vs
  pub sources : ss ≡ Sources buffer ms t (units_of kept) vs
  pub units_are : units_of new ≡ vs

in_place : (buffer i : ℕ) (silent : Bool) (ps : ToldPlaces) (ms : List Mod) (t before x : WideTree)
    (kept new : Kept) (ss : List (Option ℕ)) (vs : List DocUnit) → buffer ≡ 0 → t ≡ before
    → vs ≡ units_with i x (units_of kept) → new ≡ CarryTraces 0 ms before kept (units_with i x (units_of kept))
    → ss ≡ Sources 0 ms before (units_of kept) (units_with i x (units_of kept))
    → ss ≡ numbers_but i 0 (length (units_of kept)) → units_of new ≡ units_with i x (units_of kept)
    → IsInPlace buffer i silent ps ms t kept new ss vs
in_place buffer i silent ps ms t before x kept new ss vs first at now carried sources numbers own =
    let us : List DocUnit = units_of kept in
    record {
      target = target_with i silent ps x us vs ss now numbers;
      same_trees = same_with i (length us) x us vs ss now numbers;
      kept_is =
          carried ∙ ap (λ ws. CarryTraces 0 ms before kept ws) (sym now) ∙ ap (λ w. CarryTraces 0 ms w kept vs) (sym at)
          ∙ ap (λ k. CarryTraces k ms t kept vs) (sym first);
      sources =
          sources ∙ ap (λ ws. Sources 0 ms before us ws) (sym now) ∙ ap (λ w. Sources 0 ms w us vs) (sym at)
          ∙ ap (λ k. Sources k ms t us vs) (sym first);
      units_are = own ∙ sym now;
    }

-- it is in place where `carry_in_place` was called for the unit that is exchanged
pub carried_at : (bs after : List Buffer) (buffer i : ℕ) (silent : Bool) (ps : ToldPlaces) (ms : List Mod)
    (d : Buffer) (t x : WideTree) (kept new : Kept) (ss : List (Option ℕ)) → ChangesOne bs i t x → 1 ≤ length bs
    → buffer < length bs → IsExchanged i buffer ms t x (units_of kept) → units_of kept ≡ units bs
    → after ≡ with_tree bs buffer t → changed_by_all ms (tree_of bs buffer) ≡ Some t
    → new ≡ CarryTraces 0 ms (slice_index_or bs buffer d).tree kept (units_with i x (units_of kept))
    → ss ≡ Sources 0 ms (slice_index_or bs buffer d).tree (units_of kept) (units_with i x (units_of kept))
    → ss ≡ numbers_but i 0 (length (units_of kept)) → units_of new ≡ units_with i x (units_of kept)
    → IsInPlace buffer i silent ps ms (tree_of bs buffer) kept new ss (units after)
carried_at bs after buffer i silent ps ms d t x kept new ss law some within h of is_after made carried sources numbers
    own =
    in_place buffer i silent ps ms (tree_of bs buffer) (slice_index_or bs buffer d).tree x kept new ss (units after)
    h.one.document (tree_at bs buffer d within)
    (ap units is_after ∙ exchanged_units bs buffer i ms t x (units_of kept) law some h of made) carried sources numbers
    own
