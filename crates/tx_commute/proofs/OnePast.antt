-- An edit that is taken past one later modification.
use Rattle.std.proofs.Common.{◌≡◌, ℕ, ◌≤◌, Bool, true, false, List, [], ◌∷◌, length, Option, Some, None, Ok, Err, refl, sym, ap}
use Rattle.std.proofs.Common.{subst, ◌∙◌, arith}
use Rattle.std.specs.Prelude.{nat_le, IsOk}
use Rattle.std.specs.Option.{option_map_or}
use Rattle.tx_tree.specs.declared.TheConstants.{MOST_TEXT, MOST_ARITY, MOST_DEPTH, MOST_SIZE}
use Rattle.tx_tree.specs.Limits.{IsWellFormed, IsWithinLimits}
use Rattle.tx_tree.specs.Paths.{subtree}
use Rattle.tx_tree.specs.WideTree.{WideTree, size_of, depth_of, arity_of, text_length_of}
use Rattle.tx_tree.proofs.ShortPaths.{path_short}
use Rattle.tx_mod.specs.declared.mods.Mod.{Mod}
use Rattle.tx_mod.specs.declared.faults.ModFault.{ModFault}
use Rattle.tx_mod.specs.declared.faults.ModFault.TheVariants.{TooLong, TooWide, TooDeep, TooBig}
use Rattle.tx_mod.specs.Mods.{path_of, replaced}
use Rattle.tx_mod.specs.Changes.{Outcome, asking, limited, changed}
use Rattle.tx_mod.specs.Inverses.{inverse_of}
use Rattle.tx_mod.specs.InTurn.{changed_in_turn, AreSoundMods}
use Rattle.tx_mod.specs.Sound.{IsSoundMod}
use Rattle.tx_mod.proofs.Formed.{stays_well_formed}
use Rattle.tx_mod.proofs.InTurn.{first_then}
use Rattle.tx_mod.proofs.Whole.{changed_is}
use Rattle.tx_commute.specs.declared.known.Known.{Known}
use Rattle.tx_commute.specs.declared.midway.Midway.{Midway}
use Rattle.tx_commute.specs.declared.midway.Passed.{Passed}
use Rattle.tx_commute.specs.declared.midway.Passed.TheVariants.{All, Stuck, Limit}
use Rattle.tx_commute.specs.Free.{freely}
use Rattle.tx_commute.specs.Knowing.{IsKnown}
use Rattle.tx_commute.specs.Leaving.{made_of_all, PastAll, past_all, passed, stuck, past_limit, on_tree, through, IsLimit}
use Rattle.tx_commute.specs.Leaving.{KnownPast, past_all_known, mods_of, AreAllKnown, AllTogether}
use Rattle.tx_commute.specs.Midways.{IsMidway, IsPassed, IsPut}
use Rattle.tx_commute.proofs.Knowing.{same_free}
use Rattle.tx_commute.proofs.PastMany.{AgreeAll, all_known, all_together}
use Rattle.tx_commute.proofs.Routes.{free_of, free_changed}

-- ---- limits

ask_limit : (b : Bool) (c cause : ModFault) (o : Outcome) → IsLimit c → (o ≡ Err cause → IsLimit cause)
    → asking b c o ≡ Err cause → IsLimit cause
ask_limit true c cause o h f e = f e
ask_limit false c cause o h f e = let same : c ≡ cause = cc in subst IsLimit same h

limit_of : (u : WideTree) (cause : ModFault) → limited u ≡ Err cause → IsLimit cause
limit_of u cause e =
    ask_limit (nat_le (text_length_of u) MOST_TEXT) (TooLong (text_length_of u)) cause _ tt
    (ask_limit (nat_le (arity_of u) MOST_ARITY) (TooWide (arity_of u)) cause _ tt
    (ask_limit (nat_le (depth_of u) MOST_DEPTH) (TooDeep (depth_of u)) cause _ tt
    (ask_limit (nat_le (size_of u) MOST_SIZE) (TooBig (size_of u)) cause (Ok u) tt (λ f. absurd (cc))))) e

-- what applies, limits aside, is refused by a limit alone
free_limit : (m : Mod) (t v : WideTree) (cause : ModFault) → freely m t ≡ Some v → changed m t ≡ Err cause → IsLimit cause
free_limit m t v cause e f =
    let d = free_of m t v e in
    limit_of (replaced t (path_of m) d.new) cause
    (sym (changed_is m t d.old d.new d.found d.at) ∙ f)

-- the path leads
path_cost : (m : Mod) (t v : WideTree) → freely m t ≡ Some v → IsWithinLimits t → length (path_of m) ≤ 399
path_cost m t v e w = let d = free_of m t v e in omega (arith, path_short t d.old (path_of m) d.found, w.depth)

pub ok_cost : (m : Mod) (t : WideTree) → IsOk (changed m t) → IsWithinLimits t → length (path_of m) ≤ 399
ok_cost m t h w = step (changed m t) refl h
  where
    step : (o : Outcome) → changed m t ≡ o → IsOk o → length (path_of m) ≤ 399
    step (Ok v) e k = path_cost m t v (free_changed m t v e) w
    step (Err cause) e k = absurd (cc)

-- ---- one later modification

agreed_none : (t : WideTree) (o : Option PastAll) → AgreeAll t None o → o ≡ None
agreed_none t None h = refl
agreed_none t (Some r) h = absurd h

agreed_some : (t : WideTree) (n : KnownPast) (o : Option PastAll) → AgreeAll t (Some n) o
    → (o ≡ Some (n.0.does, mods_of n.1)) × ((m : WideTree) → freely n.0.does t ≡ Some m → AreAllKnown n.1 m)
agreed_some t n None h = absurd h
agreed_some t n (Some r) h =
    (sym (ap (λ m. Some (m, mods_of n.1)) h.0 ∙ ap (λ ls. Some (r.0, ls)) h.1), h.3)

-- a later modification, which makes w of the present tree, and its inverse
pub record IsLater (p : Midway) (b : Mod) (later : Known) (w : WideTree) : Type 0 where
  pub does : later.does ≡ b
  pub undoes : later.undoes ≡ inverse_of b p.present
  pub sound : IsSoundMod b
  pub made : changed b p.present ≡ Ok w

agree : (p : Midway) (b : Mod) (later : Known) (w : WideTree) → IsMidway p → IsLater p b later w
    → AgreeAll p.out (past_all_known p.known.items later) (past_all p.out (mods_of p.known.items) b)
agree p b later w h l =
    subst (λ m. AgreeAll p.out (past_all_known p.known.items later) (past_all p.out (mods_of p.known.items) m)) l.does
    (all_known p.known.items p.out p.present w later h.sound (subst IsSoundMod (sym l.does) l.sound) h.known h.leads
    (ap (λ m. freely m p.present) l.does ∙ free_changed b p.present w l.made)
    (l.undoes ∙ ap (λ m. inverse_of m p.present) (sym l.does)))

pub stuck_at : (p : Midway) (b : Mod) (later : Known) (w : WideTree) → IsMidway p → IsLater p b later w
    → past_all_known p.known.items later ≡ None → through (b ∷ []) p.out (mods_of p.known.items) ≡ stuck
stuck_at p b later w h l e =
    let ls : List Mod = mods_of p.known.items in
    ap (λ o. option_map_or (λ r. on_tree (λ y. through [] y r.1) (changed r.0 p.out)) o stuck)
    (agreed_none p.out (past_all p.out ls b)
    (subst (λ o. AgreeAll p.out o (past_all p.out ls b)) e (agree p b later w h l)))

-- the later modification, without the edit, and what is left of the edit
record IsMoved (p : Midway) (b : Mod) (w : WideTree) (k : Known) (left : List Known) : Type 0 where
  middle : WideTree
  first : freely k.does p.out ≡ Some middle
  leads : made_of_all (mods_of left) middle ≡ Some w
  past : past_all p.out (mods_of p.known.items) b ≡ Some (k.does, mods_of left)
  sound : IsSoundMod k.does
  all_sound : AreSoundMods (mods_of left)
  known : AreAllKnown left middle

moved : (p : Midway) (b : Mod) (later : Known) (w : WideTree) (k : Known) (left : List Known) → IsMidway p
    → IsLater p b later w → past_all_known p.known.items later ≡ Some (k, left) → IsMoved p b w k left
moved p b later w k left h l e =
    let ls : List Mod = mods_of p.known.items in
    let a = agreed_some p.out (k, left) (past_all p.out ls b)
    (subst (λ o. AgreeAll p.out o (past_all p.out ls b)) e (agree p b later w h l)) in
    let c = all_together ls p.out p.present w b k.does (mods_of left) h.sound l.sound h.leads
    (free_changed b p.present w l.made) a.0 in
    let both : AllTogether p.out k.does (mods_of left) w = c.0 in
    record {
      middle = both.middle;
      first = both.first;
      leads = both.second;
      past = a.0;
      sound = c.1;
      all_sound = c.2;
      known = a.1 both.middle both.first;
    }

pub moved_cost : (p : Midway) (b : Mod) (later : Known) (w : WideTree) (k : Known) (left : List Known) → IsMidway p
    → IsLater p b later w → past_all_known p.known.items later ≡ Some (k, left) → IsWithinLimits p.out
    → length (path_of k.does) ≤ 399
moved_cost p b later w k left h l e i =
    let m = moved p b later w k left h l e in path_cost k.does p.out m.middle m.first i

over_limit : (p : Midway) (b : Mod) (later : Known) (w : WideTree) (k : Known) (left : List Known) (cause : ModFault)
    → IsMidway p → IsLater p b later w → past_all_known p.known.items later ≡ Some (k, left)
    → changed k.does p.out ≡ Err cause → IsPassed (b ∷ []) p (Limit cause)
over_limit p b later w k left cause h l e f =
    let m = moved p b later w k left h l e in
    (
      ap (λ o. option_map_or (λ r. on_tree (λ y. through [] y r.1) (changed r.0 p.out)) o stuck) m.past
      ∙ ap (on_tree (λ y. passed y (mods_of left))) f,
      free_limit k.does p.out m.middle cause m.first f,
    )

goes_past : (p q : Midway) (b : Mod) (later k : Known) → IsMidway p → IsLater p b later q.present
    → past_all_known p.known.items later ≡ Some (k, q.known.items) → changed k.does p.out ≡ Ok q.out
    → IsPassed (b ∷ []) p (All q)
goes_past p q b later k h l e f =
    let left : List Known = q.known.items in
    let m = moved p b later q.present k left h l e in
    let same : m.middle ≡ q.out = same_free k.does p.out m.middle q.out m.first (free_changed k.does p.out q.out f) in
    (
      ap (λ o. option_map_or (λ r. on_tree (λ y. through [] y r.1) (changed r.0 p.out)) o stuck) m.past
      ∙ ap (on_tree (λ y. passed y (mods_of left))) f,
      first_then b [] p.present q.present l.made,
      record {
        leads = ap (made_of_all (mods_of left)) (sym same) ∙ m.leads;
        sound = m.all_sound;
        known = subst (AreAllKnown left) same m.known;
        formed = (stays_well_formed k.does p.out q.out m.sound h.formed f).0;
      },
    )

pub put_past : (p : Midway) (b : Mod) (later : Known) (w : WideTree) (k : Known) (left : List Known) (r : Passed)
    → IsMidway p → IsLater p b later w → past_all_known p.known.items later ≡ Some (k, left)
    → IsPut k.does p.out left w r → IsPassed (b ∷ []) p r
put_past p b later w k left (All q) h l e g =
    goes_past p q b later k h
    (record { does = l.does; undoes = l.undoes; sound = l.sound; made = l.made ∙ ap (λ z. Ok z) (sym g.2) })
    (e ∙ ap (λ ks. Some (k, ks)) (sym g.1)) g.0
put_past p b later w k left Stuck h l e g = absurd g
put_past p b later w k left (Limit cause) h l e g = over_limit p b later w k left cause h l e g
