-- The modifications that come of leaving an edit out are sound, and give the tree without it.
use Rattle.std.proofs.Common.{◌≡◌, ℕ, ◌+◌, List, [], ◌∷◌, ◌++◌, reverse, Option, Some, None, Ok, Err, refl, sym, ap}
use Rattle.std.proofs.Common.{subst}
use Rattle.std.proofs.Common.{◌∙◌}
use Rattle.std.specs.Prelude.{option_and_then}
use Rattle.std.specs.List.{AllByRecursion}
use Rattle.std.specs.Option.{option_map_or}
use Rattle.std.proofs.lemmas.List.{append-nil}
use Rattle.tx_tree.specs.Limits.{IsWellFormed}
use Rattle.tx_tree.specs.WideTree.{WideTree}
use Rattle.tx_mod.specs.declared.mods.Mod.{Mod}
use Rattle.tx_mod.specs.Changes.{Outcome, changed}
use Rattle.tx_mod.specs.InTurn.{then_changed, changed_in_turn, AreSoundMods}
use Rattle.tx_mod.proofs.Formed.{stays_well_formed}
use Rattle.tx_mod.proofs.InTurn.{begun}
use Rattle.tx_commute.specs.Free.{freely}
use Rattle.tx_commute.specs.Leaving.{made_of_all, PastAll, past_all, Course, passed, stuck, past_limit, on_tree}
use Rattle.tx_commute.specs.Leaving.{through}
use Rattle.tx_commute.specs.Leaving.{undo_all, without, go_on, leave_from, left_out, lists_in_turn, AllTogether}
use Rattle.tx_commute.proofs.Knowing.{same_free}
use Rattle.tx_commute.proofs.LeftOut.{undone_all, turned}
use Rattle.tx_commute.proofs.PastMany.{all_together}
use Rattle.tx_commute.proofs.Routes.{free_changed}
use Rattle.tx_run_existence.proofs.Inverses.{undone_sound}

-- what is left of the edit leads from the tree t, which is without it, to the tree u
record IsRest (t u : WideTree) (ls : List Mod) : Type 0 where
  leads : made_of_all ls t ≡ Some u
  sound : AreSoundMods ls
  formed : IsWellFormed t

-- ---- past one list

past_list : (bs : List Mod) (t u v out : WideTree) (ls left : List Mod) → AreSoundMods bs → IsRest t u ls
    → changed_in_turn bs u ≡ Ok v → through bs t ls ≡ passed out left → IsRest out v left
past_list [] t u v out ls left h p e f =
    let same : u ≡ v = cc in
    let tree : t ≡ out = cc in
    let list : ls ≡ left = cc in
    record {
      leads = ap (λ z. made_of_all z out) (sym list) ∙ ap (made_of_all ls) (sym tree) ∙ p.leads ∙ ap (λ z. Some z) same;
      sound = subst AreSoundMods list p.sound;
      formed = subst IsWellFormed tree p.formed;
    }
past_list (b ∷ bs) t u v out ls left h p e f =
    let s = begun b bs u v e in
    by_past (past_all t ls b) refl s.next s.others (free_changed b u s.next s.first) f
    (λ x y ls'. past_list bs x y v out ls' left h.1)
  where
    by_change : (r : PastAll) → past_all t ls b ≡ Some r → (x : WideTree) → freely b u ≡ Some x
        → changed_in_turn bs x ≡ Ok v → (o : Outcome) → changed r.0 t ≡ o
        → on_tree (λ y. through bs y r.1) o ≡ passed out left
        → ((y x' : WideTree) (ls' : List Mod) → IsRest y x' ls' → changed_in_turn bs x' ≡ Ok v
        → through bs y ls' ≡ passed out left → IsRest out v left)
        → IsRest out v left
    by_change r g x k l (Err cause) m n ih = absurd (cc)
    by_change r g x k l (Ok y) m n ih =
        let c = all_together ls t u x b r.0 r.1 p.sound h.0 p.leads k g in
        let a : AllTogether t r.0 r.1 x = c.0 in
        let same : a.middle ≡ y = same_free r.0 t a.middle y a.first (free_changed r.0 t y m) in
        ih y x r.1
        (record {
          leads = ap (made_of_all r.1) (sym same) ∙ a.second;
          sound = c.2;
          formed = (stays_well_formed r.0 t y c.1 p.formed m).0;
        }) l n

    by_past : (o : Option PastAll) → past_all t ls b ≡ o → (x : WideTree) → changed_in_turn bs x ≡ Ok v
        → freely b u ≡ Some x
        → option_map_or (λ r. on_tree (λ y. through bs y r.1) (changed r.0 t)) o stuck ≡ passed out left
        → ((y x' : WideTree) (ls' : List Mod) → IsRest y x' ls' → changed_in_turn bs x' ≡ Ok v
        → through bs y ls' ≡ passed out left → IsRest out v left)
        → IsRest out v left
    by_past None g x l k f' ih = absurd (cc)
    by_past (Some r) g x l k f' ih = by_change r g x k l (changed r.0 t) refl f' ih

-- ---- past all lists

-- the first list makes a tree, and the others go on from there
pub record AreBegun (bs : List Mod) (rest : List (List Mod)) (u v : WideTree) : Type 0 where
  pub next : WideTree
  pub first : changed_in_turn bs u ≡ Ok next
  pub others : lists_in_turn rest next ≡ Ok v

pub lists_begun : (bs : List Mod) (rest : List (List Mod)) (u v : WideTree) → lists_in_turn (bs ∷ rest) u ≡ Ok v
    → AreBegun bs rest u v
lists_begun bs rest u v e = step (changed_in_turn bs u) refl e
  where
    step : (o : Outcome) → changed_in_turn bs u ≡ o → then_changed (lists_in_turn rest) o ≡ Ok v → AreBegun bs rest u v
    step (Ok w) f g = record { next = w; first = f; others = g }
    step (Err cause) f g = absurd (cc)

-- the modifications are sound, and where they apply to the present tree they make the tree without the edit
pub record IsSoundly (present out : WideTree) (mods : List Mod) : Type 0 where
  pub sound : AreSoundMods mods
  pub back : (w : WideTree) → changed_in_turn mods present ≡ Ok w → w ≡ out

past_lists : (later : List (List Mod)) (k : ℕ) (t u present out : WideTree) (ls mods : List Mod)
    → AllByRecursion AreSoundMods later → IsRest t u ls → lists_in_turn later u ≡ Ok present
    → leave_from later k t ls ≡ without out mods → IsSoundly present out mods
past_lists [] k t u present out ls mods h p e f =
    let tree : t ≡ out = cc in
    let list : undo_all ls t ≡ mods = cc in
    let same : u ≡ present = cc in
    let leads : made_of_all ls t ≡ Some present = p.leads ∙ ap (λ z. Some z) same in
    record {
      sound = subst AreSoundMods list (undone_sound ls t present p.sound p.formed leads);
      back = λ w g.
          undone_all ls t present w p.sound p.formed leads (ap (λ z. changed_in_turn z present) list ∙ g) ∙ tree;
    }
past_lists (bs ∷ rest) k t u present out ls mods h p e f =
    let b = lists_begun bs rest u present e in
    by_course b (through bs t ls) refl f
    (λ x left q. past_lists rest (k + 1) x b.next present out left mods h.1 q b.others)
  where
    by_course : (b : AreBegun bs rest u present) (c : Course) → through bs t ls ≡ c
        → go_on (leave_from rest (k + 1)) k c ≡ without out mods
        → ((x : WideTree) (left : List Mod) → IsRest x b.next left → leave_from rest (k + 1) x left ≡ without out mods
        → IsSoundly present out mods)
        → IsSoundly present out mods
    by_course b (passed x left) g f' ih = ih x left (past_list bs t u b.next x ls left h.0 p b.first g) f'
    by_course b stuck g f' ih = absurd (cc)
    by_course b (past_limit cause) g f' ih = absurd (cc)

-- ---- the edit, with the last one first

turned_leads : (ms ls : List Mod) (t u v : WideTree) → AreSoundMods ms → IsRest t u ls → changed_in_turn ms u ≡ Ok v
    → IsRest t v (reverse ms ++ ls)
turned_leads [] ls t u v h p e =
    let same : u ≡ v = cc in subst (λ z. IsRest t z ls) same p
turned_leads (m ∷ ms) ls t u v h p e =
    let b = begun m ms u v e in
    subst (IsRest t v) (sym (turned m ms ls))
    (turned_leads ms (m ∷ ls) t b.next v h.1
    (record {
      leads = ap (option_and_then (freely m)) p.leads ∙ free_changed m u b.next b.first;
      sound = (h.0, p.sound);
      formed = p.formed;
    }) b.others)

pub leaves_soundly : (t present out : WideTree) (edit mods : List Mod) (later : List (List Mod)) → AreSoundMods edit
    → AllByRecursion AreSoundMods later → IsWellFormed t → lists_in_turn (edit ∷ later) t ≡ Ok present
    → left_out t edit later ≡ without out mods → IsSoundly present out mods
leaves_soundly t present out edit mods later h h' k e g =
    let b = lists_begun edit later t present e in
    past_lists later 0 t b.next present out (reverse edit) mods h'
    (subst (IsRest t b.next) (append-nil (reverse edit))
    (turned_leads edit [] t t b.next h (record { leads = refl; sound = tt; formed = k }) b.first)) b.others g
