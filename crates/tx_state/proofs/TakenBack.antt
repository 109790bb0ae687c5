-- The edit that takes one earlier edit of a state in hand back.
use Rattle.std.proofs.Common.{◌≡◌, ℕ, zero, suc, ◌<◌, ◌≤◌, ◌+◌, ◌*◌, ◌-◌, List, [], ◌∷◌, length, take, drop}
use Rattle.std.proofs.Common.{reverse, Some, None, Result, Ok, Err, refl, sym, ap, ◌∙◌, subst, arith}
use Rattle.std.specs.Prelude.{slice_get}
use Rattle.std.proofs.lemmas.Option.{slice_get_within}
use Rattle.std.proofs.lemmas.List.{length-reverse}
use Rattle.tx_tree.specs.WideTree.{WideTree}
use Rattle.tx_mod.specs.declared.mods.Mod.{Mod}
use Rattle.tx_mod.specs.declared.faults.ModFault.{ModFault}
use Rattle.tx_mod.specs.Changes.{Outcome}
use Rattle.tx_mod.specs.InTurn.{changed_in_turn}
use Rattle.tx_commute.specs.declared.leaving.Left.{Left}
use Rattle.tx_commute.specs.declared.leaving.Left.TheVariants.{Mods, Entangled, Refused}
use Rattle.tx_commute.specs.Leaving.{Course, passed, stuck, past_limit, through, go_on, leave_from, LeftOut}
use Rattle.tx_commute.specs.Leaving.{without, entangled, refused, IsLeft, total}
use Rattle.tx_history.specs.Lists.{kth_newest}
use Rattle.tx_doc.specs.Buffers.{tree_of}
use Rattle.tx_doc.specs.declared.buffer.Buffer.{Buffer}
use Rattle.tx_state.specs.declared.edits.Edit.{Edit}
use Rattle.tx_state.specs.declared.edits.Entry.{Entry}
use Rattle.tx_state.specs.declared.faults.LeaveFault.TheVariants as faults
use Rattle.tx_state.specs.declared.state.EditorState.TheInside.{Inside}
use Rattle.tx_state.specs.States.{State, KeptEdit}
use Rattle.tx_state.specs.Edits.{edited, edited_to, with_outcome, cursor_after}
use Rattle.tx_state.specs.Entries.{led_to, kept_edits, undoes}
use Rattle.tx_state.specs.Kept.{stored_state, IsKept}
use Rattle.tx_state.specs.Leaving.{left_before, taking_back, first_left, leaving, tree_left, first_tree, tree_without}
use Rattle.tx_state.specs.Leaving.{mods_among}
use Rattle.tx_state.specs.Backward.{edits_back, AllApplyIn, first_out, left_along, MakesWithout}
use Rattle.tx_state.proofs.Trees.{tree_put}
use Rattle.tx_state.proofs.Moments.{lead_of_take}
use Rattle.tx_state.proofs.GoingBack.{all_apply, nth_is, nth_left, back_among, number_back, few_taken}

-- what is known where an entry is the n-th newest one
pub record IsLeavable (s : Inside) (n : ℕ) (e : Entry) (whole : LeftOut) : Type 0 where
  pub some : 1 ≤ n
  pub many : n ≤ length s.history.past
  pub within : e.buffer < length s.buffers.items
  pub apply : AllApplyIn e.buffer (take n (reverse s.history.past)) (tree_of s.buffers.items e.buffer)
  pub edit : leaving n (stored_state s) ≡ taking_back e.buffer (n - 1) whole
  pub tree : tree_without n (stored_state s) ≡ tree_left whole
  pub cost : total (edits_back e.buffer (take n (reverse s.history.past)) (tree_of s.buffers.items e.buffer))
      ≤ mods_among (take n (stored_state s).past)

abbrev pub whole_of : Inside → ℕ → Entry → LeftOut
whole_of s n e = left_along e.buffer (take n (reverse s.history.past)) (tree_of s.buffers.items e.buffer)

pub leavable : (s : Inside) (n : ℕ) (e : Entry) → IsKept s → kth_newest n s.history.past ≡ Some e
    → IsLeavable s n e (whole_of s n e)
leavable s zero e kept at = absurd (cc)
leavable s (suc i) e kept at =
    let bs : List Buffer = s.buffers.items in
    let es : List Entry = reverse s.history.past in
    let ks : List KeptEdit = kept_edits undoes bs es in
    let n = nth_is bs es i e kept.past at in
    let whole : left_along e.buffer (take (suc i) es) (tree_of bs e.buffer) ≡ left_before n.kept (take i ks) =
    nth_left bs es i e n kept.past in
    let less : suc i - 1 ≡ i = omega arith in
    record {
      some = omega arith;
      many = omega (arith, slice_get_within es i e at, length-reverse s.history.past);
      within = n.within;
      apply = all_apply bs e.buffer (take (suc i) es) (lead_of_take (suc i) bs es kept.past);
      edit =
          ap (first_left i (take i ks)) n.found ∙ ap (taking_back n.kept.buffer i) (sym whole)
          ∙ ap (λ b. taking_back b i (left_along e.buffer (take (suc i) es) (tree_of bs e.buffer))) n.buffer
          ∙ ap (λ k. taking_back e.buffer k (left_along e.buffer (take (suc i) es) (tree_of bs e.buffer))) (sym less);
      tree = ap (first_tree (take i ks)) n.found ∙ ap tree_left (sym whole);
      cost = back_among bs es e.buffer (suc i) kept.past;
    }

-- ---- what the result is

pub takes_back : (b k : ℕ) (whole : LeftOut) (left : Left) (mods : List Mod) → IsLeft whole left → left ≡ Mods mods
    → taking_back b k whole ≡ Ok (record { buffer = b; mods = mods; cursor = None })
takes_back b k (without out ms) left mods h e =
    let same : ms ≡ mods = cc in ap (λ l. Ok (record { buffer = b; mods = l; cursor = None })) same
takes_back b k (entangled j) left mods h e = absurd (cc)
takes_back b k (refused j cause) left mods h e = absurd (cc)

pub is_entangled : (b k j : ℕ) (whole : LeftOut) (left : Left) → IsLeft whole left → left ≡ Entangled j
    → (whole ≡ entangled j) × (taking_back b k whole ≡ Err (faults.Entangled (k - j)))
is_entangled b k j (without out ms) left h e = absurd (cc)
is_entangled b k j (entangled i) left h e =
    let same : i ≡ j = cc in (ap entangled same, ap (λ m. Err (faults.Entangled (k - m))) same)
is_entangled b k j (refused i cause) left h e = absurd (cc)

pub is_refused : (b k j : ℕ) (cause : ModFault) (whole : LeftOut) (left : Left) → IsLeft whole left
    → left ≡ Refused j cause → taking_back b k whole ≡ Err (faults.Refused cause)
is_refused b k j cause (without out ms) left h e = absurd (cc)
is_refused b k j cause (entangled i) left h e = absurd (cc)
is_refused b k j cause (refused i why) left h e =
    let same : why ≡ cause = cc in ap (λ c. Err (faults.Refused c)) same

-- ---- which later edit is entangled

entangled_from : (later : List (List Mod)) (k j : ℕ) (t : WideTree) (ls : List Mod)
    → leave_from later k t ls ≡ entangled j → j < k + length later
entangled_from [] k j t ls e = absurd (cc)
entangled_from (bs ∷ rest) k j t ls e =
    by_course (λ u left f. entangled_from rest (k + 1) j u left f) (through bs t ls) e
  where
    by_course : ((u : WideTree) (left : List Mod) → leave_from rest (k + 1) u left ≡ entangled j
        → j < k + 1 + length rest) → (c : Course) → go_on (leave_from rest (k + 1)) k c ≡ entangled j
        → j < k + length (bs ∷ rest)
    by_course further (passed u left) f = omega (arith, further u left f)
    by_course further stuck f = let same : k ≡ j = cc in omega (arith, same)
    by_course further (past_limit cause) f = absurd (cc)

entangled_before : (lists : List (List Mod)) (j : ℕ) (t : WideTree) → first_out lists t ≡ entangled j
    → j + 1 < length lists
entangled_before [] j t e = absurd (cc)
entangled_before (edit ∷ later) j t e = omega (arith, entangled_from later 0 j t (reverse edit) e)

pub entangled_within : (s : Inside) (n j : ℕ) (e : Entry) → n ≤ length s.history.past → whole_of s n e ≡ entangled j
    → j + 1 < n
entangled_within s n j e many h =
    let es : List Entry = reverse s.history.past in
    let lists : List (List Mod) = edits_back e.buffer (take n es) (tree_of s.buffers.items e.buffer) in
    omega (
      arith,
      entangled_before (reverse lists) j _ h,
      length-reverse lists,
      number_back e.buffer (take n es) (tree_of s.buffers.items e.buffer),
      few_taken n es,
    )

-- ---- the tree that the edit makes

pub left_tree_made : (st next : State) (n : ℕ) (edit : Edit) (whole : LeftOut) (left : Left) (mods : List Mod)
    → edit.buffer < length st.buffers → edit.mods ≡ mods → tree_without n st ≡ tree_left whole
    → MakesWithout whole (tree_of st.buffers edit.buffer) → IsLeft whole left → left ≡ Mods mods
    → edited edit st ≡ Ok next → tree_without n st ≡ Some (tree_of next.buffers edit.buffer)
left_tree_made st next n edit (entangled j) left mods lt m tree makes h e done = absurd (cc)
left_tree_made st next n edit (refused j cause) left mods lt m tree makes h e done = absurd (cc)
left_tree_made st next n edit (without out ms) left mods lt m tree makes h e done =
    by_outcome (changed_in_turn edit.mods (tree_of st.buffers edit.buffer)) refl done
  where
    by_outcome : (o : Outcome) → changed_in_turn edit.mods (tree_of st.buffers edit.buffer) ≡ o
        → with_outcome edit st o ≡ Ok next → tree_without n st ≡ Some (tree_of next.buffers edit.buffer)
    by_outcome (Err cause) f g = absurd (cc)
    by_outcome (Ok u) f g =
        let made : edited_to edit.buffer edit.mods u (cursor_after edit st) st ≡ next = same_made _ next g in
        let there : tree_of next.buffers edit.buffer ≡ u =
        ap (λ x. tree_of x.buffers edit.buffer) (sym made) ∙ tree_put st.buffers edit.buffer u lt in
        let same : ms ≡ edit.mods = same_mods ms mods (sym h ∙ e) ∙ sym m in
        let is : u ≡ out = makes out u edit.mods (ap (without out) same) f in
        tree ∙ ap Some (sym (there ∙ is))
      where
        same_made : (a b : State) → ◌≡◌ {A = Result State ModFault} (Ok a) (Ok b) → a ≡ b
        same_made a b k = cc

        same_mods : (a b : List Mod) → Mods a ≡ Mods b → a ≡ b
        same_mods a b k = cc

-- ---- no such edit

none_left : (bs : List Buffer) (es : List Entry) (i : ℕ) → slice_get es i ≡ None → drop i (kept_edits undoes bs es) ≡ []
none_left bs [] zero e = refl
none_left bs [] (suc i) e = refl
none_left bs (f ∷ es) zero e = absurd (cc)
none_left bs (f ∷ es) (suc i) e = none_left (led_to bs f) es i e

pub no_entry : (s : Inside) (n : ℕ) → kth_newest n s.history.past ≡ None
    → leaving n (stored_state s) ≡ Err faults.Nothing
no_entry s zero e = refl
no_entry s (suc i) e =
    ap (first_left i (take i (stored_state s).past)) (none_left s.buffers.items (reverse s.history.past) i e)

-- ---- the steps

pub leave_steps : (s : Inside) (n : ℕ) (e : Entry) (st : State) (t : WideTree) (old new : ℕ) (whole : LeftOut)
    → IsLeavable s n e whole → stored_state s ≡ st → t ≡ tree_of s.buffers.items e.buffer
    → new ≤ old + 1609 * total (edits_back e.buffer (take n (reverse s.history.past)) t)
    → new ≤ old + 1609 * mods_among (take n st.past)
leave_steps s n e st t old new whole l is same h =
    let there : new ≤ old + 1609 * total (edits_back e.buffer (take n (reverse s.history.past))
    (tree_of s.buffers.items e.buffer)) =
    subst (λ w. new ≤ old + 1609 * total (edits_back e.buffer (take n (reverse s.history.past)) w)) same h in
    omega (arith, there, l.cost, ap (λ x. mods_among (take n x.past)) is)
