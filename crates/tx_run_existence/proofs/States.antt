-- States in which each edit of the history leads from one moment to the next.
use Rattle.std.proofs.Common.{◌≡◌, ℕ, zero, suc, ◌<◌, List, [], ◌∷◌, length, take, set, Option, Some, Result, Ok, Err}
use Rattle.std.proofs.Common.{refl, sym, ap, subst, ◌∙◌, arith}
use Rattle.std.specs.List.{AllByRecursion}
use Rattle.tx_tree.specs.Limits.{IsWellFormed}
use Rattle.tx_tree.specs.WideTree.{WideTree}
use Rattle.tx_tree.specs.declared.places.Place.{Place}
use Rattle.tx_mod.specs.declared.faults.ModFault.{ModFault}
use Rattle.tx_mod.specs.declared.mods.Mod.{Mod}
use Rattle.tx_mod.specs.Changes.{Outcome}
use Rattle.tx_mod.specs.InTurn.{changed_in_turn, AreSoundMods}
use Rattle.tx_mod.proofs.Formed.{stays_well_formed}
use Rattle.tx_mod.proofs.InTurn.{begun}
use Rattle.tx_doc.specs.Buffers.{tree_of, with_tree}
use Rattle.tx_doc.specs.declared.buffer.Buffer.{Buffer}
use Rattle.tx_state.specs.declared.TheConstants.{MOST_UNDO}
use Rattle.tx_state.specs.declared.edits.Edit.{Edit}
use Rattle.tx_state.specs.States.{State, KeptEdit, present, opening_state}
use Rattle.tx_state.specs.Edits.{edited, edited_to, with_outcome, cursor_after, turned, at_moment, back_to, on_to}
use Rattle.tx_state.specs.Edits.{undone_state, redone_state}
use Rattle.tx_state.proofs.Trees.{buffer_at, put_at, length_put}

-- each tree is well formed
abbrev pub AreWell : List Buffer → Type 0
AreWell = AllByRecursion (λ b. IsWellFormed b.tree)

-- sound modifications of a buffer lead from one list of buffers to another
pub record IsEdited (before after : List Buffer) (k : ℕ) (mods : List Mod) : Type 0 where
  pub within : k < length before
  pub sound : AreSoundMods mods
  pub made : WideTree
  pub changes : changed_in_turn mods (tree_of before k) ≡ Ok made
  pub put : after ≡ with_tree before k made

-- each edit leads from its moment to the one after it, which is the first of all or that of the edit before it
abbrev pub LeadsBack : List Buffer → List KeptEdit → Type 0
LeadsBack bs [] = Unit {0}
LeadsBack bs (e ∷ es) =
    AreWell e.moment.buffers × IsEdited e.moment.buffers bs e.buffer e.mods × LeadsBack e.moment.buffers es

-- each edit leads to its moment from the one before it
abbrev pub LeadsOn : List Buffer → List KeptEdit → Type 0
LeadsOn bs [] = Unit {0}
LeadsOn bs (e ∷ es) =
    AreWell e.moment.buffers × IsEdited bs e.moment.buffers e.buffer e.mods × LeadsOn e.moment.buffers es

pub record IsSound (state : State) : Type 0 where
  pub well : AreWell state.buffers
  pub some : 0 < length state.buffers
  pub selected : state.selected < length state.buffers
  pub past : LeadsBack state.buffers state.past
  pub future : LeadsOn state.buffers state.future

-- ---- trees

pub tree_well : (bs : List Buffer) (k : ℕ) → k < length bs → AreWell bs → IsWellFormed (tree_of bs k)
tree_well [] k lt h = absurd (omega arith)
tree_well (b ∷ bs) zero lt h = h.0
tree_well (b ∷ bs) (suc k) lt h = tree_well bs k (omega arith) h.1

set_well : (bs : List Buffer) (k : ℕ) (b : Buffer) → AreWell bs → IsWellFormed b.tree → AreWell (set bs k b)
set_well [] k b h w = tt
set_well (a ∷ bs) zero b h w = (w, h.1)
set_well (a ∷ bs) (suc k) b h w = (h.0, set_well bs k b h.1 w)

put_well : (bs : List Buffer) (k : ℕ) (u : WideTree) → k < length bs → AreWell bs → IsWellFormed u
    → AreWell (with_tree bs k u)
put_well bs k u lt h w =
    let found = buffer_at bs k lt in
    subst AreWell (sym (put_at bs k found.0 u found.1))
    (set_well bs k (record { name = found.0.name; tree = u }) h w)

changed_well : (ms : List Mod) (t u : WideTree) → AreSoundMods ms → IsWellFormed t → changed_in_turn ms t ≡ Ok u
    → IsWellFormed u
changed_well [] t u h w e = let same : t ≡ u = cc in subst IsWellFormed same w
changed_well (m ∷ ms) t u h w e =
    let b = begun m ms t u e in
    changed_well ms b.next u h.1 (stays_well_formed m t b.next h.0 w b.first).0 b.others

pub edited_long : (before after : List Buffer) (k : ℕ) (mods : List Mod) → IsEdited before after k mods
    → length after ≡ length before
edited_long before after k mods h = ap length h.put ∙ length_put before k h.made h.within

-- ---- edits

back_taken : (n : ℕ) (bs : List Buffer) (es : List KeptEdit) → LeadsBack bs es → LeadsBack bs (take n es)
back_taken zero bs es h = tt
back_taken (suc n) bs [] h = tt
back_taken (suc n) bs (e ∷ es) h = (h.0, h.1, back_taken n e.moment.buffers es h.2)

same_made : (a b : State) → ◌≡◌ {A = Result State ModFault} (Ok a) (Ok b) → a ≡ b
same_made a b e = cc

same_some : (a b : State) → ◌≡◌ {A = Option State} (Some a) (Some b) → a ≡ b
same_some a b e = cc

pub edited_sound : (e : Edit) (state next : State) → IsSound state → e.buffer < length state.buffers
    → AreSoundMods e.mods → edited e state ≡ Ok next → IsSound next
edited_sound e state next h lt s done =
    by_outcome (changed_in_turn e.mods (tree_of state.buffers e.buffer)) refl done
  where
    by_outcome : (o : Outcome) → changed_in_turn e.mods (tree_of state.buffers e.buffer) ≡ o
        → with_outcome e state o ≡ Ok next → IsSound next
    by_outcome (Err cause) f g = absurd (cc)
    by_outcome (Ok u) f g =
        let k : ℕ = e.buffer in
        let bs : List Buffer = state.buffers in
        let long : length bs ≡ length (with_tree bs k u) = sym (length_put bs k u lt) in
        let this : KeptEdit = record { moment = present state; buffer = k; mods = e.mods } in
        let leads : IsEdited bs (with_tree bs k u) k e.mods =
        record { within = lt; sound = s; made = u; changes = f; put = refl } in
        let is : edited_to k e.mods u (cursor_after e state) state ≡ next = same_made _ next g in
        subst IsSound is (record {
          well = put_well bs k u lt h.well (changed_well e.mods (tree_of bs k) u s (tree_well bs k lt h.well) f);
          some = subst (λ n. 0 < n) long h.some;
          selected = subst (λ n. state.selected < n) long h.selected;
          past = back_taken MOST_UNDO (with_tree bs k u) (this ∷ state.past) (h.well, leads, h.past);
          future = tt;
        })

pub undone_sound : (state next : State) → IsSound state → undone_state state ≡ Some next → IsSound next
undone_sound state next h done = by_past state.past h.past done
  where
    by_past : (past : List KeptEdit) → LeadsBack state.buffers past → back_to state past ≡ Some next → IsSound next
    by_past [] k g = absurd (cc)
    by_past (kept ∷ past) k g =
        let long = edited_long kept.moment.buffers state.buffers kept.buffer kept.mods k.1 in
        let is : at_moment state kept past (turned state kept ∷ state.future) ≡ next = same_some _ next g in
        subst IsSound is (record {
          well = k.0;
          some = subst (λ n. 0 < n) long h.some;
          selected = subst (λ n. state.selected < n) long h.selected;
          past = k.2;
          future = (h.well, k.1, h.future);
        })

pub redone_sound : (state next : State) → IsSound state → redone_state state ≡ Some next → IsSound next
redone_sound state next h done = by_future state.future h.future done
  where
    by_future : (future : List KeptEdit) → LeadsOn state.buffers future → on_to state future ≡ Some next
        → IsSound next
    by_future [] k g = absurd (cc)
    by_future (kept ∷ future) k g =
        let long = sym (edited_long state.buffers kept.moment.buffers kept.buffer kept.mods k.1) in
        let is : at_moment state kept (turned state kept ∷ state.past) future ≡ next = same_some _ next g in
        subst IsSound is (record {
          well = k.0;
          some = subst (λ n. 0 < n) long h.some;
          selected = subst (λ n. state.selected < n) long h.selected;
          past = (h.well, k.1, h.past);
          future = k.2;
        })

-- ---- the cursor, the selected buffer, and the first state

pub moved_sound : (state : State) (cursor : Place) → IsSound state → IsSound (record state { cursor = cursor })
moved_sound state cursor h =
    record { well = h.well; some = h.some; selected = h.selected; past = h.past; future = h.future }

pub selected_sound : (state : State) (k : ℕ) → k < length state.buffers → IsSound state
    → IsSound (record state { selected = k })
selected_sound state k lt h =
    record { well = h.well; some = h.some; selected = lt; past = h.past; future = h.future }

pub opening_sound : (bs : List Buffer) → AreWell bs → 0 < length bs → IsSound (opening_state bs)
opening_sound bs h some = record { well = h; some = some; selected = some; past = tt; future = tt }
