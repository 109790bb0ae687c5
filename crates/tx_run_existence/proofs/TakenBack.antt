-- The edit that takes an earlier one back is sound, and makes the tree without that one.
use Rattle.std.proofs.Common.{◌≡◌, ◌≢◌, ◌==◌, ℕ, zero, suc, ◌<◌, Bool, true, false, List, [], ◌∷◌, ◌++◌, length, map}
use Rattle.std.proofs.Common.{take}
use Rattle.std.proofs.Common.{drop, reverse, Some, None, Result, Ok, Err, refl, sym, ap, subst, ◌∙◌, arith}
use Rattle.std.specs.Prelude.{if◌then◌else◌, IfOk}
use Rattle.std.specs.List.{AllByRecursion}
use Rattle.std.specs.Option.{option_map_or}
use Rattle.std.proofs.lemmas.Bool.{eqb-true, eqb-false}
use Rattle.std.proofs.lemmas.List.{reverse-append}
use Rattle.tx_tree.specs.WideTree.{WideTree, leaf}
use Rattle.tx_mod.specs.declared.mods.Mod.{Mod}
use Rattle.tx_mod.specs.Changes.{Outcome}
use Rattle.tx_mod.specs.InTurn.{then_changed, changed_in_turn, AreSoundMods}
use Rattle.tx_mod.proofs.Lists.{get_of_set_other}
use Rattle.tx_commute.specs.Leaving.{LeftOut, without, entangled, refused, lists_in_turn}
use Rattle.tx_doc.specs.Buffers.{tree_of, with_tree}
use Rattle.tx_doc.specs.declared.buffer.Buffer.{Buffer}
use Rattle.tx_state.specs.declared.edits.Edit.{Edit}
use Rattle.tx_state.specs.declared.faults.LeaveFault.{LeaveFault}
use Rattle.tx_state.specs.declared.faults.LeaveFault.TheVariants.{Memory}
use Rattle.tx_state.specs.States.{State, KeptEdit}
use Rattle.tx_state.specs.Edits.{edited, with_outcome}
use Rattle.tx_state.specs.Leaving.{mods_in, left_before, taking_back, first_left, leaving, tree_left, first_tree}
use Rattle.tx_state.specs.Leaving.{tree_without}
use Rattle.tx_state.proofs.Trees.{buffer_at, put_at, tree_put}
use Rattle.tx_run_existence.proofs.LeftOut.{lists_begun, leaves_soundly}
use Rattle.tx_run_existence.proofs.States.{AreWell, IsEdited, LeadsBack, IsSound, tree_well, edited_long}

-- ---- one edit, as one of any buffer

tree_other : (bs : List Buffer) (k b : ℕ) (u : WideTree) → k < length bs → (b ≡ k → ⊥)
    → tree_of (with_tree bs k u) b ≡ tree_of bs b
tree_other bs k b u lt other =
    let found = buffer_at bs k lt in
    ap (λ cs. tree_of cs b) (put_at bs k found.0 u found.1)
    ∙ ap (λ o. option_map_or (λ c. c.tree) o (leaf []))
    (get_of_set_other bs k b (record { name = found.0.name; tree = u }) other)

made_is : (before after : List Buffer) (k : ℕ) (mods : List Mod) (h : IsEdited before after k mods)
    → tree_of after k ≡ h.made
made_is before after k mods h = ap (λ cs. tree_of cs k) h.put ∙ tree_put before k h.made h.within

changes_in : (b : ℕ) (e : KeptEdit) (bs : List Buffer) → IsEdited e.moment.buffers bs e.buffer e.mods
    → changed_in_turn (mods_in b e) (tree_of e.moment.buffers b) ≡ Ok (tree_of bs b)
changes_in b e bs h = by_test (e.buffer == b) refl
  where
    old : List Buffer
    old = e.moment.buffers

    by_test : (q : Bool) → (e.buffer == b) ≡ q
        → changed_in_turn (if q then e.mods else []) (tree_of old b) ≡ Ok (tree_of bs b)
    by_test true t =
        let own : changed_in_turn e.mods (tree_of old e.buffer) ≡ Ok (tree_of bs e.buffer) =
        h.changes ∙ ap (λ w. Ok w) (sym (made_is old bs e.buffer e.mods h)) in
        subst (λ k. changed_in_turn e.mods (tree_of old k) ≡ Ok (tree_of bs k)) (eqb-true e.buffer b t) own
    by_test false f =
        let other : b ≡ e.buffer → ⊥ = λ same. eqb-false e.buffer b f (sym same) in
        let kept : tree_of bs b ≡ tree_of old b =
        ap (λ cs. tree_of cs b) h.put ∙ tree_other old e.buffer b h.made h.within other in
        ap (λ w. Ok w) (sym kept)

sound_in : (b : ℕ) (e : KeptEdit) → AreSoundMods e.mods → AreSoundMods (mods_in b e)
sound_in b e h = by_test (e.buffer == b)
  where
    by_test : (q : Bool) → AreSoundMods (if q then e.mods else [])
    by_test true = h
    by_test false = tt

-- ---- the edits after one

then_list : (xs : List (List Mod)) (m : List Mod) (t u v : WideTree) → lists_in_turn xs t ≡ Ok u
    → changed_in_turn m u ≡ Ok v → lists_in_turn (xs ++ m ∷ []) t ≡ Ok v
then_list [] m t u v e f =
    let same : t ≡ u = cc in
    ap (then_changed (lists_in_turn [])) (ap (changed_in_turn m) same ∙ f)
then_list (x ∷ xs) m t u v e f =
    let s = lists_begun x xs t u e in
    ap (then_changed (lists_in_turn (xs ++ m ∷ []))) s.first ∙ then_list xs m s.next u v s.others f

sound_then : (xs : List (List Mod)) (m : List Mod) → AllByRecursion AreSoundMods xs → AreSoundMods m
    → AllByRecursion AreSoundMods (xs ++ m ∷ [])
sound_then [] m h k = (k, tt)
sound_then (x ∷ xs) m h k = (h.0, sound_then xs m h.1 k)

abbrev later_in : ℕ → List KeptEdit → List (List Mod)
later_in b later = reverse (map (mods_in b) later)

later_more : (b : ℕ) (e : KeptEdit) (later : List KeptEdit)
    → later_in b (e ∷ later) ≡ later_in b later ++ mods_in b e ∷ []
later_more b e later = reverse-append (mods_in b e ∷ []) (map (mods_in b) later)

-- the later edits lead on from where this one led
record IsAfter (bs : List Buffer) (later : List KeptEdit) (kept : KeptEdit) : Type 0 where
  after : List Buffer
  well : AreWell kept.moment.buffers
  edit : IsEdited kept.moment.buffers after kept.buffer kept.mods
  leads : (b : ℕ) → lists_in_turn (later_in b later) (tree_of after b) ≡ Ok (tree_of bs b)
  sound : (b : ℕ) → AllByRecursion AreSoundMods (later_in b later)
  long : length bs ≡ length after

edits_after : (n : ℕ) (bs : List Buffer) (past : List KeptEdit) (kept : KeptEdit) (others : List KeptEdit)
    → LeadsBack bs past → drop n past ≡ kept ∷ others → IsAfter bs (take n past) kept
edits_after zero bs [] kept others h e = absurd (cc)
edits_after (suc n) bs [] kept others h e = absurd (cc)
edits_after zero bs (x ∷ past) kept others h e =
    let same : x ≡ kept = cc in
    record {
      after = bs;
      well = subst (λ y. AreWell y.moment.buffers) same h.0;
      edit = subst (λ y. IsEdited y.moment.buffers bs y.buffer y.mods) same h.1;
      leads = λ b. refl;
      sound = λ b. tt;
      long = refl;
    }
edits_after (suc n) bs (x ∷ past) kept others h e =
    let old : List Buffer = x.moment.buffers in
    let ih = edits_after n old past kept others h.2 e in
    record {
      after = ih.after;
      well = ih.well;
      edit = ih.edit;
      leads = λ b. ap (λ ls. lists_in_turn ls (tree_of ih.after b)) (later_more b x (take n past))
          ∙ then_list (later_in b (take n past)) (mods_in b x) (tree_of ih.after b) (tree_of old b) (tree_of bs b)
          (ih.leads b) (changes_in b x bs h.1);
      sound = λ b. subst (AllByRecursion AreSoundMods) (sym (later_more b x (take n past)))
          (sound_then (later_in b (take n past)) (mods_in b x) (ih.sound b) (sound_in b x h.1.sound));
      long = edited_long old bs x.buffer x.mods h.1 ∙ ih.long;
    }

-- ---- the edit that takes one back

pub record IsTakingBack (n : ℕ) (state : State) (edit : Edit) : Type 0 where
  pub within : edit.buffer < length state.buffers
  pub sound : AreSoundMods edit.mods
  pub leaves : IfOk (edited edit state) (λ made. tree_without n state ≡ Some (tree_of made.buffers edit.buffer))

abbrev edit_with : ℕ → List Mod → Edit
edit_with b mods = record { buffer = b; mods = mods; cursor = None }

same_edit : (a b : Edit) → ◌≡◌ {A = Result Edit LeaveFault} (Ok a) (Ok b) → a ≡ b
same_edit a b e = cc

leaves_by : (n : ℕ) (state : State) (b : ℕ) (mods : List Mod) (out : WideTree) → b < length state.buffers
    → tree_without n state ≡ Some out
    → ((w : WideTree) → changed_in_turn mods (tree_of state.buffers b) ≡ Ok w → w ≡ out)
    → IfOk (edited (edit_with b mods) state) (λ made. tree_without n state ≡ Some (tree_of made.buffers b))
leaves_by n state b mods out lt tree back = by_outcome (changed_in_turn mods (tree_of state.buffers b)) refl
  where
    by_outcome : (o : Outcome) → changed_in_turn mods (tree_of state.buffers b) ≡ o
        → IfOk (with_outcome (edit_with b mods) state o)
        (λ made. tree_without n state ≡ Some (tree_of made.buffers b))
    by_outcome (Err cause) f = tt
    by_outcome (Ok u) f = tree ∙ ap (λ w. Some w) (sym (tree_put state.buffers b u lt ∙ back u f))

pub taking_back_is : (n : ℕ) (state : State) (edit : Edit) → IsSound state → leaving n state ≡ Ok edit
    → IsTakingBack n state edit
taking_back_is zero state edit h e = absurd (cc)
taking_back_is (suc n) state edit h e = by_edits (drop n state.past) refl e
  where
    later : List KeptEdit
    later = take n state.past

    by_left : (kept : KeptEdit) (others : List KeptEdit) → drop n state.past ≡ kept ∷ others
        → (w : LeftOut) → left_before kept later ≡ w → taking_back kept.buffer n w ≡ Ok edit
        → IsTakingBack (suc n) state edit
    by_left kept others f (entangled k) g e' = absurd (cc)
    by_left kept others f (refused k cause) g e' = absurd (cc)
    by_left kept others f (without out mods) g e' =
        let b : ℕ = kept.buffer in
        let old : List Buffer = kept.moment.buffers in
        let w = edits_after n state.buffers state.past kept others h.past f in
        let edits = w.edit in
        let lt : b < length old = edits.within in
        let long : length w.after ≡ length old = edited_long old w.after b kept.mods edits in
        let sizes : length state.buffers ≡ length w.after = w.long in
        let within : b < length state.buffers = omega arith in
        let first : changed_in_turn kept.mods (tree_of old b) ≡ Ok (tree_of w.after b) =
        edits.changes ∙ ap (λ t. Ok t) (sym (made_is old w.after b kept.mods edits)) in
        let leads : lists_in_turn (kept.mods ∷ later_in b later) (tree_of old b) ≡ Ok (tree_of state.buffers b) =
        ap (then_changed (lists_in_turn (later_in b later))) first ∙ w.leads b in
        let s = leaves_soundly (tree_of old b) (tree_of state.buffers b) out kept.mods mods (later_in b later)
        edits.sound (w.sound b) (tree_well old b lt w.well) leads g in
        let tree : tree_without (suc n) state ≡ Some out = ap (first_tree later) f ∙ ap tree_left g in
        subst (IsTakingBack (suc n) state) (same_edit (edit_with b mods) edit e')
        (record { within = within; sound = s.sound; leaves = leaves_by (suc n) state b mods out within tree s.back })

    by_edits : (edits : List KeptEdit) → drop n state.past ≡ edits → first_left n later edits ≡ Ok edit
        → IsTakingBack (suc n) state edit
    by_edits [] f g = absurd (cc)
    by_edits (kept ∷ others) f g = by_left kept others f (left_before kept later) refl g

-- ---- why there is none

abbrev pub IsLeaveCause : Result Edit LeaveFault → Type 0
IsLeaveCause (Ok edit) = Unit {0}
IsLeaveCause (Err fault) = fault ≢ Memory

left_cause : (b n : ℕ) (w : LeftOut) → IsLeaveCause (taking_back b n w)
left_cause b n (without out mods) = tt
left_cause b n (entangled k) = λ e. cc
left_cause b n (refused k cause) = λ e. cc

first_cause : (n : ℕ) (later edits : List KeptEdit) → IsLeaveCause (first_left n later edits)
first_cause n later [] = λ e. cc
first_cause n later (kept ∷ others) = left_cause kept.buffer n (left_before kept later)

pub leave_cause : (n : ℕ) (state : State) → IsLeaveCause (leaving n state)
leave_cause zero state = λ e. cc
leave_cause (suc n) state = first_cause n (take n state.past) (drop n state.past)
