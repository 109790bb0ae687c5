-- An edit that is taken past the modifications of lists, one after the other.
use Rattle.std.proofs.Common.{◌≡◌, ℕ, ◌+◌, List, [], ◌∷◌, ◌++◌, length, reverse, map, Option, Some, None, Ok, Err, refl, sym, ap}
use Rattle.std.proofs.Common.{subst, ◌∙◌, ◌<◌, ◌≤◌, ◌*◌, take, drop, slice_index_or, append_assoc, arith}
use Rattle.std.specs.Prelude.{IsOk, option_and_then}
use Rattle.std.specs.Option.{option_map_or}
use Rattle.std.proofs.lemmas.List.{drop_more, take_more, map-append, reverse-append}
use Rattle.tx_tree.specs.Limits.{IsWellFormed}
use Rattle.tx_tree.specs.WideTree.{WideTree}
use Rattle.tx_mod.specs.declared.mods.Mod.{Mod}
use Rattle.tx_mod.specs.declared.faults.ModFault.{ModFault}
use Rattle.tx_mod.specs.Changes.{Outcome, changed}
use Rattle.tx_mod.specs.Inverses.{inverse_of}
use Rattle.tx_mod.specs.InTurn.{then_changed, changed_in_turn, AreSoundMods}
use Rattle.tx_mod.specs.Sound.{IsSoundMod}
use Rattle.tx_mod.proofs.InTurn.{begun, both_in_turn}
use Rattle.tx_commute.specs.declared.known.Known.{Known}
use Rattle.tx_commute.specs.declared.leaving.Left.TheVariants.{Mods, Entangled, Refused}
use Rattle.tx_commute.specs.declared.midway.Midway.{Midway}
use Rattle.tx_commute.specs.declared.midway.Passed.{Passed}
use Rattle.tx_commute.specs.declared.midway.Passed.TheVariants.{All, Stuck, Limit}
use Rattle.tx_commute.specs.Free.{freely}
use Rattle.tx_commute.specs.Knowing.{IsKnown}
use Rattle.tx_commute.specs.Leaving.{made_of_all, PastAll, past_all, Course, passed, stuck, past_limit, on_tree, through}
use Rattle.tx_commute.specs.Leaving.{go_on, leave_from, left_out, LeftOut, lists_in_turn, mods_of, AreAllKnown, IsLeft}
use Rattle.tx_commute.specs.Leaving.{undo_all, total, IsLimit}
use Rattle.tx_commute.specs.Midways.{IsMidway, IsPassed, course}
use Rattle.tx_commute.proofs.PastMany.{same_tree_of, undone_known}
use Rattle.tx_commute.proofs.Routes.{free_changed}

pub element_first : {X : Type 0} (xs : List X) (i : ℕ) (d x : X) → i < length xs → x ≡ slice_index_or xs i d
    → drop i xs ≡ x ∷ drop (i + 1) xs
element_first xs i d x inside is = drop_more xs i d inside ∙ ap (λ y. y ∷ drop (i + 1) xs) (sym is)

-- ---- the course of a list from that of its first modification

abbrev pub from_first : List Mod → Course → Course
from_first bs (passed u ls) = through bs u ls
from_first bs stuck = stuck
from_first bs (past_limit cause) = past_limit cause

pub first_course : (b : Mod) (bs : List Mod) (t : WideTree) (ls : List Mod)
    → through (b ∷ bs) t ls ≡ from_first bs (through (b ∷ []) t ls)
first_course b bs t ls = by_past (past_all t ls b)
  where
    by_change : (r : PastAll) (o : Outcome)
        → on_tree (λ y. through bs y r.1) o ≡ from_first bs (on_tree (λ y. through [] y r.1) o)
    by_change r (Ok y) = refl
    by_change r (Err cause) = refl

    by_past : (o : Option PastAll)
        → option_map_or (λ r. on_tree (λ y. through bs y r.1) (changed r.0 t)) o stuck
        ≡ from_first bs (option_map_or (λ r. on_tree (λ y. through [] y r.1) (changed r.0 t)) o stuck)
    by_past None = refl
    by_past (Some r) = by_change r (changed r.0 t)

pub first_applies : (b : Mod) (bs : List Mod) (u : WideTree) → IsOk (changed_in_turn (b ∷ bs) u) → IsOk (changed b u)
first_applies b bs u h = step (changed b u) h
  where
    step : (o : Outcome) → IsOk (then_changed (changed_in_turn bs) o) → IsOk o
    step (Ok v) h = refl
    step (Err cause) h = absurd (cc)

pub list_applies : (bs : List Mod) (rest : List (List Mod)) (u : WideTree) → IsOk (lists_in_turn (bs ∷ rest) u)
    → IsOk (changed_in_turn bs u)
list_applies bs rest u h = step (changed_in_turn bs u) h
  where
    step : (o : Outcome) → IsOk (then_changed (lists_in_turn rest) o) → IsOk o
    step (Ok v) h = refl
    step (Err cause) h = absurd (cc)

-- ---- an edit, from its first modification on

-- what is known of the modifications so far, the first one first, which make u of t
pub record IsSoFar (ks : List Known) (t u : WideTree) : Type 0 where
  pub leads : made_of_all (mods_of (reverse ks)) t ≡ Some u
  pub sound : AreSoundMods (mods_of (reverse ks))
  pub known : AreAllKnown (reverse ks) t

pub one_further : (ks : List Known) (k : Known) (m : Mod) (t u v : WideTree) → IsSoFar ks t u → k.does ≡ m
    → k.undoes ≡ inverse_of m u → IsSoundMod m → changed m u ≡ Ok v → IsSoFar (ks ++ k ∷ []) t v
one_further ks k m t u v h does undoes sound made =
    let turned : reverse (ks ++ k ∷ []) ≡ k ∷ reverse ks = reverse-append ks (k ∷ []) in
    let known : IsKnown k u = undoes ∙ ap (λ n. inverse_of n u) (sym does) in
    record {
      leads =
          ap (λ xs. made_of_all (mods_of xs) t) turned ∙ ap (option_and_then (freely k.does)) h.leads
          ∙ ap (λ n. freely n u) does ∙ free_changed m u v made;
      sound = subst (λ xs. AreSoundMods (mods_of xs)) (sym turned) (subst IsSoundMod (sym does) sound, h.sound);
      known =
          subst (λ xs. AreAllKnown xs t) (sym turned)
          (λ w e. subst (IsKnown k) (same_tree_of u w (sym h.leads ∙ e)) known, h.known);
    }

pub mods_reversed : (ks : List Known) → mods_of (reverse ks) ≡ reverse (mods_of ks)
mods_reversed [] = refl
mods_reversed (k ∷ ks) =
    ap mods_of (reverse-append (k ∷ []) ks) ∙ map-append (λ x. x.does) (reverse ks) (k ∷ [])
    ∙ ap (λ ms. ms ++ k.does ∷ []) (mods_reversed ks) ∙ sym (reverse-append (k.does ∷ []) (mods_of ks))

-- the first i modifications of the edit make u of t
pub record IsBegun (edit : List Mod) (i : ℕ) (t : WideTree) (ks : List Known) (u : WideTree) : Type 0 where
  pub so_far : IsSoFar ks t u
  pub mods : mods_of ks ≡ take i edit
  pub turn : changed_in_turn edit t ≡ changed_in_turn (drop i edit) u

pub edit_starts : (edit : List Mod) (t u : WideTree) (ks : List Known) → ks ≡ [] → u ≡ t → IsBegun edit 0 t ks u
edit_starts edit t u ks none same =
    subst (λ xs. IsBegun edit 0 t xs u) (sym none)
    (subst (λ w. IsBegun edit 0 t [] w) (sym same)
    (record { so_far = record { leads = refl; sound = tt; known = tt }; mods = refl; turn = refl }))

pub edit_applies : (edit : List Mod) (i : ℕ) (t u : WideTree) (ks : List Known) (d m : Mod) → IsBegun edit i t ks u
    → i < length edit → m ≡ slice_index_or edit i d → IsOk (changed_in_turn edit t) → IsOk (changed m u)
edit_applies edit i t u ks d m h inside is ok =
    first_applies m (drop (i + 1) edit) u
    (subst IsOk (h.turn ∙ ap (λ ms. changed_in_turn ms u) (element_first edit i d m inside is)) ok)

pub edit_goes : (edit : List Mod) (i : ℕ) (t u v : WideTree) (ks next : List Known) (k : Known) (d m : Mod)
    → IsBegun edit i t ks u → i < length edit → m ≡ slice_index_or edit i d → k.does ≡ m → k.undoes ≡ inverse_of m u
    → IsSoundMod m → changed m u ≡ Ok v → next ≡ ks ++ k ∷ [] → IsBegun edit (i + 1) t next v
edit_goes edit i t u v ks next k d m h inside is does undoes sound made e =
    subst (λ xs. IsBegun edit (i + 1) t xs v) (sym e)
    (record {
      so_far = one_further ks k m t u v h.so_far does undoes sound made;
      mods =
          map-append (λ x. x.does) ks (k ∷ []) ∙ ap (λ ms. ms ++ k.does ∷ []) h.mods
          ∙ ap (λ n. take i edit ++ n ∷ []) (does ∙ is) ∙ sym (take_more edit i d inside);
      turn =
          h.turn ∙ ap (λ ms. changed_in_turn ms u) (element_first edit i d m inside is)
          ∙ ap (then_changed (changed_in_turn (drop (i + 1) edit))) made;
    })

pub edit_ends : (edit : List Mod) (i : ℕ) (t u : WideTree) (ks : List Known) (p : Midway) → IsBegun edit i t ks u
    → p.known.items ≡ reverse ks → p.out ≡ t → p.present ≡ u → IsWellFormed t → IsMidway p
edit_ends edit i t u ks p h known out present formed =
    record {
      leads =
          ap (λ xs. made_of_all (mods_of xs) p.out) known ∙ ap (made_of_all (mods_of (reverse ks))) out
          ∙ h.so_far.leads ∙ ap (λ w. Some w) (sym present);
      sound = subst (λ xs. AreSoundMods (mods_of xs)) (sym known) h.so_far.sound;
      known = subst (λ xs. AreAllKnown xs p.out) (sym known) (subst (AreAllKnown (reverse ks)) (sym out) h.so_far.known);
      formed = subst IsWellFormed (sym out) formed;
    }

pub edit_mods : (edit : List Mod) (i : ℕ) (t u : WideTree) (ks all : List Known) → IsBegun edit i t ks u
    → take i edit ≡ edit → all ≡ reverse ks → mods_of all ≡ reverse edit
edit_mods edit i t u ks all h whole e = ap mods_of e ∙ mods_reversed ks ∙ ap reverse (h.mods ∙ whole)

pub edit_made : (edit : List Mod) (i : ℕ) (t u : WideTree) (ks : List Known) → IsBegun edit i t ks u → drop i edit ≡ []
    → changed_in_turn edit t ≡ Ok u
edit_made edit i t u ks h end = h.turn ∙ ap (λ ms. changed_in_turn ms u) end

-- ---- past the modifications of a list

-- past the first i modifications of the list, from p to q
pub record IsFurther (mods : List Mod) (i : ℕ) (p q : Midway) : Type 0 where
  pub midway : IsMidway q
  pub course : course mods p ≡ course (drop i mods) q
  pub turn : changed_in_turn mods p.present ≡ changed_in_turn (drop i mods) q.present

pub list_starts : (mods : List Mod) (p : Midway) → IsMidway p → IsFurther mods 0 p p
list_starts mods p h = record { midway = h; course = refl; turn = refl }

pub list_first : (mods : List Mod) (i : ℕ) (p q : Midway) (d b : Mod) → IsFurther mods i p q → i < length mods
    → b ≡ slice_index_or mods i d → IsOk (changed_in_turn mods p.present) → IsOk (changed b q.present)
list_first mods i p q d b h inside is ok =
    first_applies b (drop (i + 1) mods) q.present
    (subst IsOk (h.turn ∙ ap (λ ms. changed_in_turn ms q.present) (element_first mods i d b inside is)) ok)

-- the course of the list, from that of its next modification
from_next : (mods : List Mod) (i : ℕ) (p q : Midway) (d b : Mod) → IsFurther mods i p q → i < length mods
    → b ≡ slice_index_or mods i d → course mods p ≡ from_first (drop (i + 1) mods) (course (b ∷ []) q)
from_next mods i p q d b h inside is =
    h.course ∙ ap (λ ms. course ms q) (element_first mods i d b inside is)
    ∙ first_course b (drop (i + 1) mods) q.out (mods_of q.known.items)

pub list_goes : (mods : List Mod) (i : ℕ) (p q next : Midway) (d b : Mod) (r : Passed) → IsFurther mods i p q
    → i < length mods → b ≡ slice_index_or mods i d → IsPassed (b ∷ []) q r → r ≡ All next
    → IsFurther mods (i + 1) p next
list_goes mods i p q next d b r h inside is done e =
    let k : IsPassed (b ∷ []) q (All next) = subst (IsPassed (b ∷ []) q) e done in
    record {
      midway = k.2;
      course = from_next mods i p q d b h inside is ∙ ap (from_first (drop (i + 1) mods)) k.0;
      turn =
          h.turn ∙ ap (λ ms. changed_in_turn ms q.present) (element_first mods i d b inside is)
          ∙ both_in_turn (b ∷ []) (drop (i + 1) mods) q.present next.present k.1;
    }

pub list_stuck : (mods : List Mod) (i : ℕ) (p q : Midway) (d b : Mod) (r : Passed) → IsFurther mods i p q
    → i < length mods → b ≡ slice_index_or mods i d → IsPassed (b ∷ []) q r → r ≡ Stuck → IsPassed mods p Stuck
list_stuck mods i p q d b r h inside is done e =
    let k : IsPassed (b ∷ []) q Stuck = subst (IsPassed (b ∷ []) q) e done in
    from_next mods i p q d b h inside is ∙ ap (from_first (drop (i + 1) mods)) k

pub list_limit : (mods : List Mod) (i : ℕ) (p q : Midway) (d b : Mod) (r : Passed) (cause : ModFault)
    → IsFurther mods i p q → i < length mods → b ≡ slice_index_or mods i d → IsPassed (b ∷ []) q r → r ≡ Limit cause
    → IsPassed mods p (Limit cause)
list_limit mods i p q d b r cause h inside is done e =
    let k : IsPassed (b ∷ []) q (Limit cause) = subst (IsPassed (b ∷ []) q) e done in
    (from_next mods i p q d b h inside is ∙ ap (from_first (drop (i + 1) mods)) k.0, k.1)

pub list_ends : (mods : List Mod) (i : ℕ) (p q : Midway) → IsFurther mods i p q → drop i mods ≡ []
    → IsPassed mods p (All q)
list_ends mods i p q h end =
    (h.course ∙ ap (λ ms. course ms q) end, h.turn ∙ ap (λ ms. changed_in_turn ms q.present) end, h.midway)

-- ---- past the lists

-- past the first k lists
pub record ArePassed (later : List (List Mod)) (k : ℕ) (whole : LeftOut) (q : Midway) : Type 0 where
  pub midway : IsMidway q
  pub left : whole ≡ leave_from (drop k later) k q.out (mods_of q.known.items)
  pub turn : IsOk (lists_in_turn (drop k later) q.present)

pub lists_start : (t : WideTree) (edit : List Mod) (later : List (List Mod)) (q : Midway) → IsMidway q
    → mods_of q.known.items ≡ reverse edit → q.out ≡ t → changed_in_turn edit t ≡ Ok q.present
    → IsOk (lists_in_turn (edit ∷ later) t) → ArePassed later 0 (left_out t edit later) q
lists_start t edit later q h mods out made ok =
    record {
      midway = h;
      left = ap (leave_from later 0 t) (sym mods) ∙ ap (λ w. leave_from later 0 w (mods_of q.known.items)) (sym out);
      turn = subst IsOk (ap (then_changed (lists_in_turn later)) made) ok;
    }

pub lists_first : (later : List (List Mod)) (k : ℕ) (whole : LeftOut) (q : Midway) (d bs : List Mod)
    → ArePassed later k whole q → k < length later → bs ≡ slice_index_or later k d → IsOk (changed_in_turn bs q.present)
lists_first later k whole q d bs h inside is =
    list_applies bs (drop (k + 1) later) q.present
    (subst (λ ls. IsOk (lists_in_turn ls q.present)) (element_first later k d bs inside is) h.turn)

-- the result of the lists, from the course of the next one
next_left : (later : List (List Mod)) (k : ℕ) (whole : LeftOut) (q : Midway) (d bs : List Mod) (c : Course)
    → ArePassed later k whole q → k < length later → bs ≡ slice_index_or later k d → course bs q ≡ c
    → whole ≡ go_on (leave_from (drop (k + 1) later) (k + 1)) k c
next_left later k whole q d bs c h inside is e =
    h.left ∙ ap (λ ls. leave_from ls k q.out (mods_of q.known.items)) (element_first later k d bs inside is)
    ∙ ap (go_on (leave_from (drop (k + 1) later) (k + 1)) k) e

pub lists_go : (later : List (List Mod)) (k : ℕ) (whole : LeftOut) (q next : Midway) (d bs : List Mod) (r : Passed)
    → ArePassed later k whole q → k < length later → bs ≡ slice_index_or later k d → IsPassed bs q r → r ≡ All next
    → ArePassed later (k + 1) whole next
lists_go later k whole q next d bs r h inside is done e =
    let p : IsPassed bs q (All next) = subst (IsPassed bs q) e done in
    record {
      midway = p.2;
      left = next_left later k whole q d bs (passed next.out (mods_of next.known.items)) h inside is p.0;
      turn =
          subst IsOk (ap (then_changed (lists_in_turn (drop (k + 1) later))) p.1)
          (subst (λ ls. IsOk (lists_in_turn ls q.present)) (element_first later k d bs inside is) h.turn);
    }

pub lists_stuck : (later : List (List Mod)) (k n : ℕ) (whole : LeftOut) (q : Midway) (d bs : List Mod) (r : Passed)
    → ArePassed later k whole q → k < length later → bs ≡ slice_index_or later k d → IsPassed bs q r → r ≡ Stuck → n ≡ k
    → IsLeft whole (Entangled n)
lists_stuck later k n whole q d bs r h inside is done e same =
    let p : IsPassed bs q Stuck = subst (IsPassed bs q) e done in
    subst (λ w. IsLeft w (Entangled n)) (sym (next_left later k whole q d bs stuck h inside is p)) (ap Entangled same)

pub lists_limit : (later : List (List Mod)) (k n : ℕ) (whole : LeftOut) (q : Midway) (d bs : List Mod) (r : Passed)
    (cause : ModFault) → ArePassed later k whole q → k < length later → bs ≡ slice_index_or later k d → IsPassed bs q r
    → r ≡ Limit cause → n ≡ k → IsLeft whole (Refused n cause) × IsLimit cause
lists_limit later k n whole q d bs r cause h inside is done e same =
    let p : IsPassed bs q (Limit cause) = subst (IsPassed bs q) e done in (
      subst (λ w. IsLeft w (Refused n cause))
          (sym (next_left later k whole q d bs (past_limit cause) h inside is p.0)) (ap (λ i. Refused i cause) same),
      p.1,
    )

pub lists_end : (later : List (List Mod)) (k : ℕ) (whole : LeftOut) (q : Midway) (mods : List Mod)
    → ArePassed later k whole q → drop k later ≡ [] → mods ≡ map (λ x. x.undoes) q.known.items → IsLeft whole (Mods mods)
lists_end later k whole q mods h end are =
    subst (λ w. IsLeft w (Mods mods))
    (sym (h.left ∙ ap (λ ls. leave_from ls k q.out (mods_of q.known.items)) end))
    (ap Mods (are ∙ sym (undone_known q.known.items q.out q.present h.midway.known h.midway.leads)))

pub less_left : (later : List (List Mod)) (k : ℕ) (d bs : List Mod) → k < length later → bs ≡ slice_index_or later k d
    → total (drop k later) ≡ length bs + total (drop (k + 1) later)
less_left later k d bs inside is = ap total (element_first later k d bs inside is)

-- ---- the inverses, in order

pub one_more_undone : (whole xs next : List Mod) (k : Known) (ks rest : List Known)
    → whole ≡ xs ++ map (λ x. x.undoes) ks → ks ≡ k ∷ rest → next ≡ xs ++ k.undoes ∷ []
    → whole ≡ next ++ map (λ x. x.undoes) rest
one_more_undone whole xs next k ks rest e first is =
    e ∙ ap (λ z. xs ++ map (λ x. x.undoes) z) first
    ∙ sym (append_assoc xs (k.undoes ∷ []) (map (λ x. x.undoes) rest))
    ∙ ap (λ z. z ++ map (λ x. x.undoes) rest) (sym is)
