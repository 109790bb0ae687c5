-- A walk back through entries finds the edits that they take back.
use Rattle.std.proofs.Common.{◌≡◌, ℕ, zero, suc, ◌<◌, ◌≤◌, ◌+◌, ◌*◌, ◌-◌, Bool, true, false, List, [], ◌∷◌, ◌++◌}
use Rattle.std.proofs.Common.{length, take, drop, reverse, map, Option, Some, None, Result, Ok, Err, refl, sym, ap}
use Rattle.std.proofs.Common.{◌∙◌, subst, arith, append_assoc}
use Rattle.std.specs.Prelude.{◌==◌, if◌then◌else◌, unwrap_or, slice_get, IsOk, IfOk}
use Rattle.std.specs.Option.{option_map_or}
use Rattle.std.proofs.lemmas.Bool.{eqb-true, eqb-false}
use Rattle.std.proofs.lemmas.List.{reverse-append, append-nil, length-reverse}
use Rattle.tx_tree.specs.WideTree.{WideTree, leaf}
use Rattle.tx_tree.specs.Limits.{IsWellFormed, IsWithinLimits}
use Rattle.tx_tree.specs.Paths.{subtree}
use Rattle.tx_tree.proofs.ShortPaths.{path_short}
use Rattle.tx_mod.specs.declared.mods.Mod.{Mod}
use Rattle.tx_mod.specs.Changes.{Outcome, changed}
use Rattle.tx_mod.specs.Followed.{outcome_tree as made_of}
use Rattle.tx_mod.specs.InTurn.{then_changed, changed_in_turn, inverses_of, cost_of, AreSoundMods}
use Rattle.tx_mod.specs.Inverses.{inverse_of}
use Rattle.tx_mod.specs.Mods.{path_of}
use Rattle.tx_mod.proofs.Back.{same_tree}
use Rattle.tx_mod.proofs.Formed.{change_limited}
use Rattle.tx_mod.proofs.InTurn.{begun, inverses_from}
use Rattle.tx_mod.proofs.Lists.{get_of_set_other}
use Rattle.tx_mod.proofs.Whole.{no_change}
use Rattle.tx_commute.specs.Leaving.{without, left_out, lists_in_turn, total, LeaveLaw}
use Rattle.tx_history.specs.Lists.{kth_newest}
use Rattle.tx_doc.specs.declared.buffer.Buffer.{Buffer}
use Rattle.tx_doc.specs.Buffers.{tree_of, with_tree}
use Rattle.tx_state.specs.declared.edits.Entry.{Entry}
use Rattle.tx_state.specs.declared.backward.Backward.{Backward}
use Rattle.tx_state.specs.States.{KeptEdit}
use Rattle.tx_state.specs.Entries.{led_to, kept_edits, undoes, EntryLeads, EntriesLead}
use Rattle.tx_state.specs.Backward.{tree_before, edit_before, AppliesIn, tree_back, edits_back, AllApplyIn, AreLeading}
use Rattle.tx_state.specs.Backward.{IsBackward, first_out, left_along, MakesWithout}
use Rattle.tx_state.specs.Leaving.{mods_in, left_before, mods_among}
use Rattle.tx_state.specs.Ready.{cost_both_ways}
use Rattle.tx_state.proofs.Trees.{buffer_at, put_at, tree_put, length_put}
use Rattle.tx_state.proofs.Moments.{kept_edit, edits_of_take, lead_of_take}

-- ---- one entry

-- the tree of another buffer is unchanged
tree_kept : (bs : List Buffer) (k j : ℕ) (u : WideTree) → k < length bs → (j ≡ k → ⊥)
    → tree_of (with_tree bs k u) j ≡ tree_of bs j
tree_kept bs k j u lt other =
    let found = buffer_at bs k lt in
    ap (λ cs. tree_of cs j) (put_at bs k found.0 u found.1)
    ∙ ap (λ o. option_map_or (λ b. b.tree) o (leaf []))
    (get_of_set_other bs k j (record { name = found.0.name; tree = u }) other)

before_is : (bs : List Buffer) (b : ℕ) (e : Entry) → EntryLeads bs e
    → tree_before b e (tree_of bs b) ≡ tree_of (led_to bs e) b
before_is bs b e leads = by_test (e.buffer == b) refl
  where
    made_in : ℕ → WideTree
    made_in k = unwrap_or (made_of (changed_in_turn e.mods (tree_of bs k))) (tree_of bs k)

    by_test : (q : Bool) → (e.buffer == b) ≡ q
        → (if q then made_in b else tree_of bs b) ≡ tree_of (led_to bs e) b
    by_test true t =
        let same : e.buffer ≡ b = eqb-true e.buffer b t in
        subst (λ k. made_in k ≡ tree_of (led_to bs e) k) same
        (sym (tree_put bs e.buffer (made_in e.buffer) leads.buffer))
    by_test false f =
        let other : b ≡ e.buffer → ⊥ = λ same. eqb-false e.buffer b f (sym same) in
        sym (tree_kept bs e.buffer b (made_in e.buffer) leads.buffer other)

edit_is : (bs : List Buffer) (b : ℕ) (e : Entry)
    → edit_before b e (tree_of bs b) ≡ mods_in b (kept_edit undoes bs e)
edit_is bs b e = by_test (e.buffer == b) refl
  where
    by_test : (q : Bool) → (e.buffer == b) ≡ q
        → (if q then inverses_of e.mods (tree_of bs b) else []) ≡ (if q then undoes bs e else [])
    by_test true t = ap (λ k. inverses_of e.mods (tree_of bs k)) (sym (eqb-true e.buffer b t))
    by_test false f = refl

applies_in : (bs : List Buffer) (b : ℕ) (e : Entry) → EntryLeads bs e → AppliesIn b e (tree_of bs b)
applies_in bs b e leads = λ same.
    subst (λ k. IsOk (changed_in_turn e.mods (tree_of bs k))) same (subst IsOk (sym leads.applies.1) refl)

-- ---- all entries

pub all_apply : (bs : List Buffer) (b : ℕ) (es : List Entry) → EntriesLead bs es → AllApplyIn b es (tree_of bs b)
all_apply bs b [] h = tt
all_apply bs b (e ∷ es) h = (
  applies_in bs b e h.0,
  subst (AllApplyIn b es) (sym (before_is bs b e h.0)) (all_apply (led_to bs e) b es h.1),
)

-- the buffers after entries
abbrev pub led_along : List Buffer → List Entry → List Buffer
led_along bs [] = bs
led_along bs (e ∷ es) = led_along (led_to bs e) es

back_is : (bs : List Buffer) (b : ℕ) (es : List Entry) → EntriesLead bs es
    → tree_back b es (tree_of bs b) ≡ tree_of (led_along bs es) b
back_is bs b [] h = refl
back_is bs b (e ∷ es) h = ap (tree_back b es) (before_is bs b e h.0) ∙ back_is (led_to bs e) b es h.1

edits_are : (bs : List Buffer) (b : ℕ) (es : List Entry) → EntriesLead bs es
    → edits_back b es (tree_of bs b) ≡ map (mods_in b) (kept_edits undoes bs es)
edits_are bs b [] h = refl
edits_are bs b (e ∷ es) h =
    ap (λ ms. ms ∷ edits_back b es (tree_before b e (tree_of bs b))) (edit_is bs b e)
    ∙ ap (λ ls. mods_in b (kept_edit undoes bs e) ∷ ls)
    (ap (edits_back b es) (before_is bs b e h.0) ∙ edits_are (led_to bs e) b es h.1)

-- ---- the entry at a place

pub record IsNth (bs : List Buffer) (es : List Entry) (i : ℕ) (e : Entry) : Type 0 where
  pub kept : KeptEdit
  pub others : List KeptEdit
  pub found : drop i (kept_edits undoes bs es) ≡ kept ∷ others
  pub buffer : kept.buffer ≡ e.buffer
  pub moment : kept.moment.buffers ≡ led_along bs (take (suc i) es)
  pub within : e.buffer < length bs

pub nth_is : (bs : List Buffer) (es : List Entry) (i : ℕ) (e : Entry) → EntriesLead bs es → slice_get es i ≡ Some e
    → IsNth bs es i e
nth_is bs [] i e h at = absurd (cc)
nth_is bs (f ∷ es) zero e h at =
    let same : f ≡ e = cc in
    record {
      kept = kept_edit undoes bs f;
      others = kept_edits undoes (led_to bs f) es;
      found = refl;
      buffer = ap (λ x. x.buffer) same;
      moment = refl;
      within = subst (λ x. x.buffer < length bs) same h.0.buffer;
    }
nth_is bs (f ∷ es) (suc i) e h at =
    let n = nth_is (led_to bs f) es i e h.1 at in
    let long : length (led_to bs f) ≡ length bs =
    length_put bs f.buffer (unwrap_or (made_of (changed_in_turn f.mods (tree_of bs f.buffer))) (tree_of bs f.buffer))
    h.0.buffer in
    record {
      kept = n.kept;
      others = n.others;
      found = n.found;
      buffer = n.buffer;
      moment = n.moment;
      within = subst (λ k. e.buffer < k) long n.within;
    }

take_next : {X : Type 0} (xs : List X) (i : ℕ) (x : X) (rest : List X) → drop i xs ≡ x ∷ rest
    → take (suc i) xs ≡ take i xs ++ x ∷ []
take_next [] zero x rest e = absurd (cc)
take_next [] (suc i) x rest e = absurd (cc)
take_next (y ∷ xs) zero x rest e = let same : y ≡ x = cc in ap (λ z. z ∷ []) same
take_next {X} (y ∷ xs) (suc i) x rest e = ap (λ z. y ∷ z) (take_next {X = X} xs i x rest e)

map_end : {X Y : Type 0} (f : X → Y) (xs : List X) (x : X) → map f (xs ++ x ∷ []) ≡ map f xs ++ f x ∷ []
map_end f [] x = refl
map_end {X} {Y} f (y ∷ xs) x = ap (λ z. f y ∷ z) (map_end {X = X} {Y = Y} f xs x)

own_mods : (b : ℕ) (kept : KeptEdit) → kept.buffer ≡ b → mods_in b kept ≡ kept.mods
own_mods b kept same = by_test (kept.buffer == b) refl
  where
    by_test : (q : Bool) → (kept.buffer == b) ≡ q → (if q then kept.mods else []) ≡ kept.mods
    by_test true t = refl
    by_test false f = absurd (eqb-false kept.buffer b f same)

-- what the walk back says of the edit there
pub nth_left : (bs : List Buffer) (es : List Entry) (i : ℕ) (e : Entry) (n : IsNth bs es i e) → EntriesLead bs es
    → left_along e.buffer (take (suc i) es) (tree_of bs e.buffer)
    ≡ left_before n.kept (take i (kept_edits undoes bs es))
nth_left bs es i e n all =
    let b : ℕ = n.kept.buffer in
    let ks : List KeptEdit = kept_edits undoes bs es in
    let before : List KeptEdit = take i ks in
    let firsts : List Entry = take (suc i) es in
    let lead : EntriesLead bs firsts = lead_of_take (suc i) bs es all in
    let tree : tree_back b firsts (tree_of bs b) ≡ tree_of n.kept.moment.buffers b =
    back_is bs b firsts lead ∙ ap (λ cs. tree_of cs b) (sym n.moment) in
    let lists : reverse (edits_back b firsts (tree_of bs b)) ≡ n.kept.mods ∷ reverse (map (mods_in b) before) =
    ap reverse
    (edits_are bs b firsts lead
    ∙ ap (map (mods_in b)) (edits_of_take undoes (suc i) bs es ∙ take_next ks i n.kept n.others n.found)
    ∙ map_end (mods_in b) before n.kept)
    ∙ reverse-append (map (mods_in b) before) (mods_in b n.kept ∷ [])
    ∙ ap (λ ms. ms ∷ reverse (map (mods_in b) before)) (own_mods b n.kept refl) in
    ap (λ k. left_along k firsts (tree_of bs k)) (sym n.buffer)
    ∙ ap (λ ls. first_out ls (tree_back b firsts (tree_of bs b))) lists
    ∙ ap (λ t. left_out t n.kept.mods (reverse (map (mods_in b) before))) tree

-- ---- how many modifications

total_both : (ls ms : List (List Mod)) → total (ls ++ ms) ≡ total ls + total ms
total_both [] ms = omega arith
total_both (l ∷ ls) ms = omega (arith, total_both ls ms)

pub total_turned : (ls : List (List Mod)) → total (reverse ls) ≡ total ls
total_turned [] = refl
total_turned (l ∷ ls) =
    let turned : reverse (l ∷ ls) ≡ reverse ls ++ l ∷ [] = reverse-append (l ∷ []) ls in
    ap total turned ∙ total_both (reverse ls) (l ∷ []) ∙ omega (arith, total_turned ls)

own_fewer : (b : ℕ) (kept : KeptEdit) → length (mods_in b kept) ≤ length kept.mods
own_fewer b kept = by_test (kept.buffer == b)
  where
    by_test : (q : Bool) → length (if q then kept.mods else []) ≤ length kept.mods
    by_test true = omega arith
    by_test false = omega arith

total_among : (b : ℕ) (ks : List KeptEdit) → total (map (mods_in b) ks) ≤ mods_among ks
total_among b [] = omega arith
total_among b (k ∷ ks) = omega (arith, own_fewer b k, total_among b ks)

pub back_among : (bs : List Buffer) (es : List Entry) (b n : ℕ) → EntriesLead bs es
    → total (edits_back b (take n es) (tree_of bs b)) ≤ mods_among (take n (kept_edits undoes bs es))
back_among bs es b n all =
    let lists : edits_back b (take n es) (tree_of bs b) ≡ map (mods_in b) (take n (kept_edits undoes bs es)) =
    edits_are bs b (take n es) (lead_of_take n bs es all) ∙ ap (map (mods_in b)) (edits_of_take undoes n bs es) in
    subst (λ ls. total ls ≤ mods_among (take n (kept_edits undoes bs es))) (sym lists)
    (total_among b (take n (kept_edits undoes bs es)))

pub number_back : (b : ℕ) (es : List Entry) (t : WideTree) → length (edits_back b es t) ≡ length es
number_back b [] t = refl
number_back b (e ∷ es) t = ap suc (number_back b es (tree_before b e t))

-- ---- the steps of one entry

-- the path of a modification that applies leads
short_path : (m : Mod) (t : WideTree) → IsOk (changed m t) → IsWithinLimits t → length (path_of m) ≤ 399
short_path m t h w = by_subtree (subtree t (path_of m)) refl
  where
    by_subtree : (o : Option WideTree) → subtree t (path_of m) ≡ o → length (path_of m) ≤ 399
    by_subtree None e = absurd (no_change m t (path_of m) refl e h)
    by_subtree (Some s) e = omega (arith, path_short t s (path_of m) e, w.depth)

in_turn_cost : (ms : List Mod) (t u : WideTree) → IsWithinLimits t → changed_in_turn ms t ≡ Ok u
    → cost_of ms ≤ 402 * length ms
in_turn_cost [] t u w e = omega arith
in_turn_cost (m ∷ ms) t u w e =
    let b = begun m ms t u e in
    let short = short_path m t (subst IsOk (sym b.first) refl) w in
    omega (arith, short, in_turn_cost ms b.next u (change_limited m t b.next b.first) b.others)

same_number : (ms : List Mod) (t u : WideTree) → changed_in_turn ms t ≡ Ok u
    → length (inverses_of ms t) ≡ length ms
same_number [] t u e = refl
same_number (m ∷ ms) t u e =
    let b = begun m ms t u e in
    ap length (inverses_from m ms t b.next b.first)
    ∙ one_longer (inverse_of m t) (inverses_of ms b.next) ∙ ap suc (same_number ms b.next u b.others)
  where
    one_longer : (x : Mod) (xs : List Mod) → length (xs ++ x ∷ []) ≡ suc (length xs)
    one_longer x [] = refl
    one_longer x (y ∷ xs) = ap suc (one_longer x xs)

-- a change and its inverse, by the number of modifications
pub step_cost : (ms : List Mod) (t : WideTree) → IsWithinLimits t → IsOk (changed_in_turn ms t)
    → 2 * cost_of ms ≤ 804 * length (inverses_of ms t)
step_cost ms t w h = by_outcome (changed_in_turn ms t) refl h
  where
    by_outcome : (o : Outcome) → changed_in_turn ms t ≡ o → IsOk o → 2 * cost_of ms ≤ 804 * length (inverses_of ms t)
    by_outcome (Ok u) e k = omega (arith, in_turn_cost ms t u w e, same_number ms t u e)
    by_outcome (Err cause) e k = absurd (cc)

pub step_counted : (b : ℕ) (e : Entry) (t : WideTree) (old new : ℕ) → e.buffer ≡ b → IsWithinLimits t
    → AppliesIn b e t → new ≤ old + cost_both_ways e.mods → new ≤ old + 804 * length (edit_before b e t)
step_counted b e t old new same w applies h = by_test (e.buffer == b) refl
  where
    by_test : (q : Bool) → (e.buffer == b) ≡ q
        → new ≤ old + 804 * length (if q then inverses_of e.mods t else [])
    by_test true f = omega (arith, h, step_cost e.mods t w (applies same))
    by_test false f = absurd (eqb-false e.buffer b f same)

-- ---- the walk

-- the walk is at the tree t, after the first i entries, with these edits
pub record IsWalking (b : ℕ) (es : List Entry) (i : ℕ) (start t : WideTree) (found : List (List Mod)) : Type 0 where
  pub apply : AllApplyIn b (drop i es) t
  pub tree : tree_back b es start ≡ tree_back b (drop i es) t
  pub edits : reverse (edits_back b es start) ≡ reverse (edits_back b (drop i es) t) ++ reverse found
  pub leading : AreLeading (reverse found) t start

pub walk_starts : (b : ℕ) (es : List Entry) (start t : WideTree) (edits : List (List Mod)) → AllApplyIn b es start
    → t ≡ start → edits ≡ [] → IsWalking b es 0 start t edits
walk_starts b es start t edits apply same none =
    subst (IsWalking b es 0 start t) (sym none)
    (subst (λ w. IsWalking b es 0 start w []) (sym same)
    (record {
      apply = apply;
      tree = refl;
      edits = sym (append-nil (reverse (edits_back b es start)));
      leading = record { leads = refl; sound = tt };
    }))

-- the entry that comes next
pub next_entry : (es : List Entry) (n i : ℕ) (e : Entry) → slice_get es i ≡ Some e → i < n
    → drop i (take n es) ≡ e ∷ drop (i + 1) (take n es)
next_entry [] n i e at lt = absurd (cc)
next_entry (f ∷ es) zero i e at lt = absurd (omega arith)
next_entry (f ∷ es) (suc n) zero e at lt = let same : f ≡ e = cc in ap (λ x. x ∷ take n es) same
next_entry (f ∷ es) (suc n) (suc i) e at lt =
    let less : i < n = omega arith in
    let on : suc i + 1 ≡ suc (i + 1) = omega arith in
    next_entry es n i e at less ∙ ap (λ k. e ∷ drop k (f ∷ take n es)) (sym on)

pub walk_applies : (b : ℕ) (es : List Entry) (i : ℕ) (start t : WideTree) (edits : List (List Mod)) (e : Entry)
    → IsWalking b es i start t edits → drop i es ≡ e ∷ drop (i + 1) es → AppliesIn b e t
walk_applies b es i start t edits e h first =
    let all : AllApplyIn b (e ∷ drop (i + 1) es) t = subst (λ xs. AllApplyIn b xs t) first h.apply in
    all.0

pub walk_less : (b : ℕ) (es : List Entry) (i : ℕ) (t u : WideTree) (e : Entry) → drop i es ≡ e ∷ drop (i + 1) es
    → u ≡ tree_before b e t
    → total (edits_back b (drop i es) t) ≡ length (edit_before b e t) + total (edits_back b (drop (i + 1) es) u)
walk_less b es i t u e first before =
    ap (λ xs. total (edits_back b xs t)) first
    ∙ ap (λ w. length (edit_before b e t) + total (edits_back b (drop (i + 1) es) w)) (sym before)

-- what one more entry of the walk gives
pub record IsStep (b : ℕ) (e : Entry) (t u : WideTree) (ms : List Mod) : Type 0 where
  pub before : u ≡ tree_before b e t
  pub edit : ms ≡ edit_before b e t
  pub leads : changed_in_turn ms u ≡ Ok t
  pub sound : AreSoundMods ms

pub walk_goes : (b : ℕ) (es : List Entry) (i : ℕ) (start t u : WideTree) (edits next : List (List Mod)) (e : Entry)
    (ms : List Mod) → IsWalking b es i start t edits → drop i es ≡ e ∷ drop (i + 1) es → IsStep b e t u ms
    → next ≡ edits ++ ms ∷ [] → IsWalking b es (i + 1) start u next
walk_goes b es i start t u edits next e ms h first s is =
    let rest : List Entry = drop (i + 1) es in
    let all : AllApplyIn b (e ∷ rest) t = subst (λ xs. AllApplyIn b xs t) first h.apply in
    let turned : reverse next ≡ ms ∷ reverse edits = ap reverse is ∙ reverse-append edits (ms ∷ []) in
    let later : List (List Mod) = edits_back b rest u in
    let goes : edits_back b (drop i es) t ≡ ms ∷ later =
    ap (λ xs. edits_back b xs t) first ∙ ap (λ l. l ∷ edits_back b rest (tree_before b e t)) (sym s.edit)
    ∙ ap (λ w. ms ∷ edits_back b rest w) (sym s.before) in
    record {
      apply = subst (AllApplyIn b rest) (sym s.before) all.1;
      tree = h.tree ∙ ap (λ xs. tree_back b xs t) first ∙ ap (tree_back b rest) (sym s.before);
      edits =
          h.edits ∙ ap (λ ls. reverse ls ++ reverse edits) goes
          ∙ ap (λ ls. ls ++ reverse edits) (reverse-append (ms ∷ []) later)
          ∙ append_assoc (reverse later) (ms ∷ []) (reverse edits)
          ∙ ap (λ ls. reverse later ++ ls) (sym turned);
      leading =
          subst (λ ls. AreLeading ls u start) (sym turned)
          (record {
            leads = ap (then_changed (lists_in_turn (reverse edits))) s.leads ∙ h.leading.leads;
            sound = (s.sound, h.leading.sound);
          });
    }

pub walk_ends : (b : ℕ) (es : List Entry) (i : ℕ) (start t : WideTree) (edits : List (List Mod)) (r : Backward)
    → IsWalking b es i start t edits → drop i es ≡ [] → r.tree ≡ t → r.edits.items ≡ reverse edits
    → IsBackward b es start r
walk_ends b es i start t edits r h end tree is =
    record {
      tree = tree ∙ sym (h.tree ∙ ap (λ xs. tree_back b xs t) end);
      edits = is ∙ sym (h.edits ∙ ap (λ xs. reverse (edits_back b xs t) ++ reverse edits) end);
      leading =
          subst (λ w. AreLeading r.edits.items w start) (sym tree)
          (subst (λ ls. AreLeading ls t start) (sym is) h.leading);
    }

-- the entry that the history names
pub at_place : (past : List Entry) (k n : ℕ) (e : Entry) → kth_newest n past ≡ Some e → n ≡ k + 1
    → slice_get (reverse past) k ≡ Some e
at_place past k n e h same = let on : suc k ≡ n = omega (arith, same) in ap (λ m. kth_newest m past) on ∙ h

-- ---- what the walk found

pub few_taken : {X : Type 0} (n : ℕ) (xs : List X) → length (take n xs) ≤ n
few_taken zero xs = omega arith
few_taken (suc n) [] = omega arith
few_taken {X} (suc n) (x ∷ xs) = omega (arith, few_taken {X = X} n xs)

pub few_back : (b n : ℕ) (es : List Entry) (t : WideTree) (ls : List (List Mod))
    → ls ≡ reverse (edits_back b (take n es) t) → length ls ≤ n
few_back b n es t ls e =
    omega (
      arith,
      ap length e,
      length-reverse (edits_back b (take n es) t),
      number_back b (take n es) t,
      few_taken n es,
    )

pub total_first : (b : ℕ) (es : List Entry) (t : WideTree) (ls later : List (List Mod)) (edit : List Mod)
    → ls ≡ reverse (edits_back b es t) → ls ≡ edit ∷ later
    → length edit + total later ≡ total (edits_back b es t)
total_first b es t ls later edit e first = sym (ap total first) ∙ ap total e ∙ total_turned (edits_back b es t)

pub if_ok : {X Y : Type 0} {P : Type 0} (r : Result X Y) → P → IfOk r (λ _. P)
if_ok (Ok x) p = p
if_ok (Err y) p = tt

pub makes_without : LeaveLaw → (b : ℕ) (es : List Entry) (t : WideTree) (r : Backward) → IsBackward b es t r
    → IsWellFormed r.tree → MakesWithout (left_along b es t) t
makes_without law b es t r h formed = λ out u mods e f.
    by_lists r.edits.items h.leading out u mods
    (ap (λ ls. first_out ls r.tree) h.edits ∙ ap (first_out (reverse (edits_back b es t))) h.tree ∙ e) f
  where
    by_lists : (ls : List (List Mod)) → AreLeading ls r.tree t → (out u : WideTree) (mods : List Mod)
        → first_out ls r.tree ≡ without out mods → changed_in_turn mods t ≡ Ok u → u ≡ out
    by_lists [] l out u mods e f =
        let none : mods ≡ [] = cc in
        let same : r.tree ≡ out = cc in
        let there : changed_in_turn [] t ≡ Ok u = subst (λ ms. changed_in_turn ms t ≡ Ok u) none f in
        sym (same_tree t u there) ∙ sym (same_tree r.tree t l.leads) ∙ same
    by_lists (edit ∷ later) l out u mods e f =
        (law r.tree t out edit mods later l.sound.0 l.sound.1 formed l.leads e).back u f
