-- What undoes a modification of a well formed tree is sound.
use Rattle.std.proofs.Common.{◌≡◌, ℕ, zero, suc, ◌+◌, List, [], ◌∷◌, ◌++◌, take, drop, Ok, Some, true, sym, ap, subst}
use Rattle.std.proofs.Common.{◌∙◌}
use Rattle.std.proofs.Common.{length, arith}
use Rattle.std.specs.Option.{option_map_or}
use Rattle.std.proofs.lemmas.List.{take-append-drop, take-take, drop-take}
use Rattle.tx_tree.specs.Cuts.{is_cut}
use Rattle.tx_tree.specs.Limits.{IsWellFormed, AreWellFormed}
use Rattle.tx_tree.specs.Texts.{IsText}
use Rattle.tx_tree.specs.WideTree.{WideTree, Forest, leaf, node, forest, trees}
use Rattle.tx_tree.proofs.Children.{forest_trees, AreWellFormed-append}
use Rattle.tx_tree.proofs.Cutting.{cut_test, cut_text, text_rest}
use Rattle.tx_mod.specs.declared.faults.ModFault.TheVariants.{BadPlace, CutsSymbol}
use Rattle.tx_mod.specs.declared.mods.Mod.{Mod}
use Rattle.tx_mod.specs.declared.mods.Mod.TheVariants.{Assign, Insert, Remove, Split, Join, AssignNode, InsertNode}
use Rattle.tx_mod.specs.declared.mods.Mod.TheVariants.{RemoveNode}
use Rattle.tx_mod.specs.Changes.{changed_at, removed, labelled}
use Rattle.tx_mod.specs.InTurn.{AreSoundMods}
use Rattle.tx_mod.specs.Inverses.{inverse_at, inverse_of, removed_part, without_child}
use Rattle.tx_mod.specs.Mods.{path_of, slice_of}
use Rattle.tx_mod.specs.Sound.{IsSoundMod}
use Rattle.tx_mod.proofs.Back.{ok_asked, well_formed_at}
use Rattle.tx_mod.proofs.Undone.{tuple_is_label}
use Rattle.tx_commute.specs.Free.{freely}
use Rattle.tx_commute.specs.Leaving.{made_of_all, undo_all}
use Rattle.tx_commute.proofs.LeftOut.{formed_freely}
use Rattle.tx_commute.proofs.PastMany.{made_by, same_tree_of}
use Rattle.tx_commute.proofs.Routes.{free_of}
use Rattle.tx_commute.proofs.Undoing.{inverse_is_at}

-- ---- parts of well formed trees

slice_text : (text : List ℕ) (i n : ℕ) → IsText text → is_cut text i ≡ true → is_cut text (i + n) ≡ true
    → IsText (slice_of text i n)
slice_text text i n h from to =
    let front : IsText (take i text) = cut_text text i (cut_test text i h from) in
    let all : IsText (take (i + n) text) = cut_text text (i + n) (cut_test text (i + n) h to) in
    let first : take i (take (i + n) text) ≡ take i text = take-take i (i + n) text (omega arith) in
    let parts : take i text ++ slice_of text i n ≡ take (i + n) text =
    ap (λ xs. xs ++ slice_of text i n) (sym first)
    ∙ ap (λ xs. take i (take (i + n) text) ++ xs) (sym (drop-take i n text))
    ∙ take-append-drop i (take (i + n) text) in
    text_rest (take i text) (slice_of text i n) (subst IsText (sym parts) all) front

abbrev AreFormedTrees : List WideTree → Type 0
AreFormedTrees ts = AreWellFormed (forest ts)

all_of : (ts : Forest) → AreWellFormed ts → AreFormedTrees (trees ts)
all_of ts h = subst AreWellFormed (sym (forest_trees ts)) h

formed_take : (n : ℕ) (ts : List WideTree) → AreFormedTrees ts → AreFormedTrees (take n ts)
formed_take zero ts h = tt
formed_take (suc n) [] h = tt
formed_take (suc n) (t ∷ ts) h = (h.0, formed_take n ts h.1)

formed_drop : (n : ℕ) (ts : List WideTree) → AreFormedTrees ts → AreFormedTrees (drop n ts)
formed_drop zero ts h = h
formed_drop (suc n) [] h = tt
formed_drop (suc n) (t ∷ ts) h = formed_drop n ts h.1

removed_formed : (s v : WideTree) (i n : ℕ) → IsWellFormed s → removed s i n ≡ Ok v
    → IsWellFormed (removed_part s i n)
removed_formed (leaf text) v i n h e =
    let a = ok_asked _ (BadPlace (length text)) _ v e in
    let b = ok_asked (is_cut text i) (CutsSymbol i) _ v a.1 in
    let c = ok_asked (is_cut text (i + n)) (CutsSymbol (i + n)) _ v b.1 in
    slice_text text i n h b.0 c.0
removed_formed (node l ts) v i n h e =
    (tuple_is_label, formed_take n (drop i (trees ts)) (formed_drop i (trees ts) (all_of ts h.1)))

label_sound : (s v : WideTree) (p l : List ℕ) → IsWellFormed s → labelled s l ≡ Ok v
    → IsSoundMod (inverse_at (AssignNode p l) s)
label_sound (leaf text) v p l h e = absurd (cc)
label_sound (node m ts) v p l h e = h.0

without_formed : (s : WideTree) (i : ℕ) → IsWellFormed s → IsWellFormed (without_child s i)
without_formed (leaf text) i h = h
without_formed (node l ts) i h =
    let all = all_of ts h.1 in (
      h.0,
      AreWellFormed-append (take i (trees ts)) (drop (i + 1) (trees ts)) (formed_take i (trees ts) all)
          (formed_drop (i + 1) (trees ts) all),
    )

-- ---- inverses

at_sound : (m : Mod) (s v : WideTree) → IsWellFormed s → changed_at m s ≡ Ok v → IsSoundMod (inverse_at m s)
at_sound (Assign p x) s v h e = h
at_sound (Insert p i x) s v h e = tt
at_sound (Remove p i n) s v h e = removed_formed s v i n h e
at_sound (Split p i j) s v h e = tt
at_sound (Join p i) s v h e = tt
at_sound (AssignNode p l) s v h e = label_sound s v p l h e
at_sound (InsertNode p i x) s v h e = tt
at_sound (RemoveNode p i) s v h e = without_formed s i h

inverse_sound : (m : Mod) (t u : WideTree) → IsWellFormed t → freely m t ≡ Some u → IsSoundMod (inverse_of m t)
inverse_sound m t u h e =
    let d = free_of m t u e in
    subst IsSoundMod (sym (inverse_is_at m t d.old d.found))
    (at_sound m d.old d.new (well_formed_at (path_of m) t d.old d.found h) d.at)

all_formed : (ls : List Mod) (t u : WideTree) → AreSoundMods ls → IsWellFormed t → made_of_all ls t ≡ Some u
    → IsWellFormed u
all_formed [] t u h k e = subst IsWellFormed (same_tree_of t u e) k
all_formed (a ∷ ls) t u h k e =
    let d = made_by a ls t u e in
    formed_freely a d.before u h.0 (all_formed ls t d.before h.1 k d.made) d.last

pub undone_sound : (ls : List Mod) (t u : WideTree) → AreSoundMods ls → IsWellFormed t → made_of_all ls t ≡ Some u
    → AreSoundMods (undo_all ls t)
undone_sound [] t u h k e = tt
undone_sound (a ∷ ls) t u h k e =
    let d = made_by a ls t u e in
    let first : option_map_or (inverse_of a) (made_of_all ls t) a ≡ inverse_of a d.before =
    ap (λ o. option_map_or (inverse_of a) o a) d.made in (
      subst IsSoundMod (sym first) (inverse_sound a d.before u (all_formed ls t d.before h.1 k d.made) d.last),
      undone_sound ls t d.before h.1 k d.made,
    )
