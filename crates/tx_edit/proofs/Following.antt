-- What holds of the modifications and of the place of a key.
use Rattle.std.proofs.Common.{◌≡◌, ℕ, zero, suc, ◌+◌, ◌-◌, ◌<◌, ◌≤◌, Bool, true, false, ◌==◌, List, [], ◌∷◌, ◌++◌}
use Rattle.std.proofs.Common.{length, take, drop, Option, Some, None, Result, Ok, Err, is_ok, refl, sym, ap, ap₂, subst}
use Rattle.std.proofs.Common.{◌∙◌, append-nil, append_assoc, add-one, zero-add, arith}
use Rattle.std.specs.Prelude.{if◌then◌else◌, IsOk, IsSomeAnd, slice_get, nat_le, nat_lt}
use Rattle.std.specs.Option.{option_map_or}
use Rattle.std.proofs.lemmas.Bool.{le-leb, eq-eqb, eqb-true}
use Rattle.std.proofs.lemmas.Option.{slice_get_within}
use Rattle.tx_tree.specs.declared.places.Place.{Place}
use Rattle.tx_tree.specs.Cuts.{is_cut}
use Rattle.tx_tree.specs.Limits.{IsWellFormed}
use Rattle.tx_tree.specs.Paths.{subtree}
use Rattle.tx_tree.specs.Places.{IsOffset, IsPlace}
use Rattle.tx_tree.specs.Texts.{IsText, IsCut}
use Rattle.tx_tree.specs.WideTree.{WideTree, Forest, leaf, node, forest, trees, children_of}
use Rattle.tx_tree.proofs.Cutting.{cut_tested, cut_within}
use Rattle.tx_mod.specs.declared.faults.ModFault.TheVariants.{BadPlace, CutsSymbol}
use Rattle.tx_mod.specs.declared.mods.Mod.{Mod}
use Rattle.tx_mod.specs.declared.mods.Mod.TheVariants.{Insert, Remove, Split, Join}
use Rattle.tx_mod.specs.Changes.{Outcome, inserted, removed, split_child, split, joined, in_place_of_two, joined_at}
use Rattle.tx_mod.specs.Changes.{changed_at, changed}
use Rattle.tx_mod.specs.InTurn.{changed_in_turn, moved_in_turn, AreSoundMods}
use Rattle.tx_mod.specs.Mods.{path_of, put_in, taken_out, extent, is_clean, tree_up_to, tree_from, replaced}
use Rattle.tx_mod.specs.Moves.{place, place_from_above, child_or_self, moved_in_split, moved_by_split, moved_in_join}
use Rattle.tx_mod.specs.Moves.{moved_by_join, moved_at, moved_place}
use Rattle.tx_mod.specs.Sound.{IsSoundMod}
use Rattle.tx_mod.proofs.Cases.{by_test}
use Rattle.tx_mod.proofs.InTurn.{begun}
use Rattle.tx_mod.proofs.Kept.{split_left}
use Rattle.tx_mod.proofs.Remade.{asked_ok}
use Rattle.tx_mod.proofs.Replacing.{subtree_of_replaced}
use Rattle.tx_mod.proofs.Shapes.{child_is}
use Rattle.tx_edit.specs.declared.faults.EditFault.{EditFault}
use Rattle.tx_edit.specs.declared.faults.EditFault.TheVariants.{NoText, AtStart, NotInParagraph}
use Rattle.tx_edit.specs.declared.moves.Move.{Move}
use Rattle.tx_edit.specs.declared.moves.Move.TheVariants.{Edit}
use Rattle.tx_edit.specs.Followed.{Applies, IsMoved, StandsAfter}
use Rattle.tx_edit.specs.Keys.{text_at, is_document_at, is_concat_at, parent_of, typed, cut_before, without_item}
use Rattle.tx_edit.specs.Keys.{joined_behind, joined_to_former, joined_in, erased_in, erased, split_text, split_both}
use Rattle.tx_edit.specs.Keys.{split_in_concat, split_in, entered}
use Rattle.tx_edit.proofs.Backwards.{before_end, is_before}
use Rattle.tx_edit.proofs.Parents.{path_is, child_at, text_found}
use Rattle.tx_edit.proofs.Turns.{IsLimited, tree_made, one_applies, moved_once, moved_first, moved_below}
use Rattle.tx_edit.proofs.Turns.{stays_in_turn}

-- the modifications apply unless a limit refuses one, and the place is the moved cursor, a place of the changed tree
pub record Follows (t : WideTree) (at : Place) (m : Move) : Type 0 where
  pub applies : Applies t m
  pub moved : IsMoved t at m
  pub place : StandsAfter t m

follows : (mods : List Mod) (t : WideTree) (at to : Place) → AreSoundMods mods → IsWellFormed t
    → IsPlace t at.path at.offset → IsLimited (changed_in_turn mods t)
    → (IsOk (changed_in_turn mods t) → to ≡ moved_in_turn mods t at) → Follows t at (Edit mods to)
follows mods t at to sound formed h limited moved =
    record {
      applies = limited;
      moved = moved;
      place = λ u e. subst (λ (z : Place). IsPlace u z.path z.offset) (sym (moved (ap is_ok e)))
          (stays_in_turn mods t u at sound formed e h);
    }

-- one modification, whose path the cursor's begins with
follows_one : (m : Mod) (t s v : WideTree) (at to : Place) (r : List ℕ) → IsSoundMod m → IsWellFormed t
    → IsPlace t at.path at.offset → subtree t (path_of m) ≡ Some s → changed_at m s ≡ Ok v
    → at.path ≡ path_of m ++ r → to ≡ place_from_above (path_of m) (moved_at m s r at.offset)
    → Follows t at (Edit (m ∷ []) to)
follows_one m t s v at to r sound formed h found made e is =
    follows (m ∷ []) t at to (sound, tt) formed h (one_applies m [] t s v found made (λ w f g. tt))
    (λ _. is ∙ sym (moved_below m t s at r found e) ∙ sym (moved_once m t at))

-- a place of a leaf is a cut of its text
leaf_cut : (t : WideTree) (path text : List ℕ) (o : ℕ) → subtree t path ≡ Some (leaf text) → IsPlace t path o
    → IsCut text o
leaf_cut t path text o found h = subst (λ z. IsSomeAnd z (λ s. IsOffset s o)) found h

-- ---- typing

pub typing : (t : WideTree) (at : Place) (old more : List ℕ) → IsWellFormed t → IsText more
    → IsPlace t at.path at.offset → subtree t at.path ≡ Some (leaf old)
    → Follows t at (Edit (Insert at.path at.offset (leaf more) ∷ []) (place at.path (at.offset + length more)))
typing t at old more formed h there found =
    let o : ℕ = at.offset in
    let cut : IsCut old o = leaf_cut t at.path old o found there in
    let made : inserted (leaf old) o (leaf more) ≡ Ok (leaf (put_in old o more)) =
    asked_ok (nat_le o (length old)) (BadPlace (length old)) _ (le-leb o (length old) (cut_within old o cut))
    ∙ asked_ok (is_cut old o) (CutsSymbol o) _ (cut_tested old o cut) in
    follows_one (Insert at.path o (leaf more)) t (leaf old) (leaf (put_in old o more)) at
    (place at.path (o + length more)) [] h formed there found made (sym (append-nil at.path))
    (ap₂ place (sym (append-nil at.path)) (sym (ap (λ b. if b then o + length more else o) (le-leb o o (omega arith)))))

-- ---- backspace

erasing : (t : WideTree) (at : Place) (text : List ℕ) → IsWellFormed t → IsPlace t at.path at.offset
    → subtree t at.path ≡ Some (leaf text)
    → Follows t at (without_item at.path (cut_before text at.offset) at.offset)
erasing t at text formed there found =
    let o : ℕ = at.offset in
    let start : ℕ = cut_before text o in
    let cut : IsCut text o = leaf_cut t at.path text o found there in
    let le : start ≤ o = before_end text o in
    let whole : start + (o - start) ≡ o = omega arith in
    let made : removed (leaf text) start (o - start) ≡ Ok (leaf (taken_out text start (o - start))) =
    asked_ok (nat_le (start + (o - start)) (length text)) (BadPlace (length text)) _
    (le-leb (start + (o - start)) (length text) (omega (arith, cut_within text o cut)))
    ∙ asked_ok (is_cut text start) (CutsSymbol start) _ (is_before text o)
    ∙ asked_ok (is_cut text (start + (o - start))) (CutsSymbol (start + (o - start))) _
    (ap (is_cut text) whole ∙ cut_tested text o cut) in
    let back : o - (o - start) ≡ start = omega arith in
    let test : nat_le (start + (o - start)) o ≡ true = le-leb (start + (o - start)) o (omega arith) in
    follows_one (Remove at.path start (o - start)) t (leaf text) (leaf (taken_out text start (o - start))) at
    (place at.path start) [] tt formed there found made (sym (append-nil at.path))
    (ap₂ place (sym (append-nil at.path))
    (sym (ap (λ b. if b then o - (o - start) else (if nat_le start o then start else o)) test ∙ back)))

-- a tree with a child is a node
record IsNode (s : WideTree) : Type 0 where
  label : List ℕ
  children : Forest
  is : s ≡ node label children

node_with : (s c : WideTree) (i : ℕ) → slice_get (children_of s) i ≡ Some c → IsNode s
node_with (leaf text) c i e = absurd (cc)
node_with (node l ts) c i e = record { label = l; children = ts; is = refl }

-- a modification makes a tree by its table
record Makes (o : Outcome) : Type 0 where
  tree : WideTree
  is : o ≡ Ok tree

two_joined : (s : WideTree) (i : ℕ) (a b : List ℕ) → slice_get (children_of s) i ≡ Some (leaf a)
    → slice_get (children_of s) (i + 1) ≡ Some (leaf b) → Makes (joined_at s i)
two_joined (leaf text) i a b e f = absurd (cc)
two_joined (node l ts) i a b e f =
    let none : Outcome = Err (BadPlace (length (trees ts))) in
    record {
      tree = node l (forest (take i (trees ts) ++ leaf (a ++ b) ∷ drop (i + 2) (trees ts)));
      is = ap (λ o. option_map_or
          (λ x. option_map_or (λ y. in_place_of_two l (trees ts) i (joined x y)) (slice_get (trees ts) (i + 1)) none)
          o none) e
          ∙ ap (λ o. option_map_or (λ y. in_place_of_two l (trees ts) i (joined (leaf a) y)) o none) f;
    }

lt_self : (n : ℕ) → nat_lt n n ≡ false
lt_self n = grind arith

join_moves : (s : WideTree) (i : ℕ) (a b : List ℕ) → slice_get (children_of s) i ≡ Some (leaf a)
    → slice_get (children_of s) (i + 1) ≡ Some (leaf b)
    → moved_by_join s i ((i + 1) ∷ []) 0 ≡ place (i ∷ []) (length a)
join_moves s i a b e f =
    let k : ℕ = i + 1 in
    let n : ℕ = extent (child_or_self s i) in
    ap (λ z. if z then place ((k - 1) ∷ []) 0
    else (if k == i + 1 then moved_in_join (child_or_self s (i + 1)) i n [] 0 else place (k ∷ []) 0)) (lt_self k)
    ∙ ap (λ z. if z then moved_in_join (child_or_self s (i + 1)) i n [] 0 else place (k ∷ []) 0) (eq-eqb k k refl)
    ∙ ap (λ z. moved_in_join z i n [] 0) (child_is s (leaf b) k f)
    ∙ ap (place (i ∷ [])) (ap (λ z. 0 + extent z) (child_is s (leaf a) i e) ∙ zero-add (length a))

joining : (t : WideTree) (at : Place) (p a b : List ℕ) (i : ℕ) → IsWellFormed t → IsPlace t at.path at.offset
    → at.offset ≡ 0 → at.path ≡ p ++ (i + 1) ∷ []
    → subtree t at.path ≡ Some (leaf b) → subtree t (p ++ i ∷ []) ≡ Some (leaf a) → Follows t at (joined_behind p i a)
joining t at p a b i formed there start is found former =
    let first = child_at p t (leaf a) i former in
    let second = child_at p t (leaf b) (i + 1) (ap (subtree t) (sym is) ∙ found) in
    let s : WideTree = first.parent in
    let same : second.parent ≡ s = cc in
    let f : slice_get (children_of s) (i + 1) ≡ Some (leaf b) =
    subst (λ z. slice_get (children_of z) (i + 1) ≡ Some (leaf b)) same second.child in
    let made = two_joined s i a b first.child f in
    follows_one (Join p i) t s made.tree at (place (p ++ i ∷ []) (length a)) ((i + 1) ∷ [])
    tt formed there first.found made.is is
    (ap (place_from_above p) (sym (ap (moved_by_join s i ((i + 1) ∷ [])) start ∙ join_moves s i a b first.child f)))

-- ---- enter

child_split : (s c : WideTree) (i j : ℕ) → slice_get (children_of s) i ≡ Some c → j ≤ extent c → is_clean c j ≡ true
    → Makes (split s i j)
child_split (leaf text) c i j e le clean = absurd (cc)
child_split (node l ts) c i j e le clean =
    record {
      tree = node l (forest (take i (trees ts) ++ tree_up_to c j ∷ tree_from c j ∷ drop (i + 1) (trees ts)));
      is = ap (λ o. option_map_or (split_child l (trees ts) i j) o (Err (BadPlace (length (trees ts))))) e
          ∙ asked_ok (nat_le j (extent c)) (BadPlace (extent c)) _ (le-leb j (extent c) le)
          ∙ asked_ok (is_clean c j) (CutsSymbol j) _ clean;
    }

-- a place of the child that is split
split_moves : (s c : WideTree) (i j : ℕ) (u : List ℕ) (o : ℕ) → slice_get (children_of s) i ≡ Some c
    → moved_by_split s i j (i ∷ u) o ≡ moved_in_split c i j u o
split_moves s c i j u o e =
    ap (λ z. if z then place ((i + 1) ∷ u) o
    else (if i == i then moved_in_split (child_or_self s i) i j u o else place (i ∷ u) o)) (lt_self i)
    ∙ ap (λ z. if z then moved_in_split (child_or_self s i) i j u o else place (i ∷ u) o) (eq-eqb i i refl)
    ∙ ap (λ z. moved_in_split z i j u o) (child_is s c i e)

text_moves : (text : List ℕ) (i o : ℕ) → moved_in_split (leaf text) i o [] o ≡ place ((i + 1) ∷ []) 0
text_moves text i o =
    let none : o - o ≡ 0 = omega arith in
    ap (λ z. if z then place ((i + 1) ∷ []) (o - o) else place (i ∷ []) o) (le-leb o o (omega arith))
    ∙ ap (place ((i + 1) ∷ [])) none

node_moves : (c : WideTree) (i k : ℕ) → IsNode c → moved_in_split c i k (k ∷ []) 0 ≡ place ((i + 1) ∷ 0 ∷ []) 0
node_moves c i k n =
    let none : k - k ≡ 0 = omega arith in
    ap (λ z. moved_in_split z i k (k ∷ []) 0) n.is
    ∙ ap (λ z. if z then place ((i + 1) ∷ (k - k) ∷ []) 0 else place (i ∷ k ∷ []) 0) (le-leb k k (omega arith))
    ∙ ap (λ z. place ((i + 1) ∷ z ∷ []) 0) none

splitting : (t : WideTree) (at : Place) (p text : List ℕ) (i : ℕ) → IsWellFormed t → IsPlace t at.path at.offset
    → at.path ≡ p ++ i ∷ [] → subtree t at.path ≡ Some (leaf text)
    → Follows t at (split_text p i at.offset)
splitting t at p text i formed there is found =
    let o : ℕ = at.offset in
    let c = child_at p t (leaf text) i (ap (subtree t) (sym is) ∙ found) in
    let cut : IsCut text o = leaf_cut t at.path text o found there in
    let made = child_split c.parent (leaf text) i o c.child (cut_within text o cut) (cut_tested text o cut) in
    follows_one (Split p i o) t c.parent made.tree at (place (p ++ (i + 1) ∷ []) 0) (i ∷ [])
    tt formed there c.found made.is is
    (ap (place_from_above p) (sym (split_moves c.parent (leaf text) i o [] o c.child ∙ text_moves text i o)))

-- after the first of two splits: the node that was split is a child, and can be split between the two
record IsSplitOnce (w : WideTree) (p : List ℕ) (i j : ℕ) : Type 0 where
  parent : WideTree
  child : WideTree
  found : subtree w p ≡ Some parent
  at : slice_get (children_of parent) i ≡ Some child
  inner : IsNode child
  made : Makes (split parent i (j + 1))

split_once : (t s c v w : WideTree) (p : List ℕ) (i j o : ℕ) → subtree t (p ++ i ∷ []) ≡ Some s
    → slice_get (children_of s) j ≡ Some c → split s j o ≡ Ok v → w ≡ replaced t (p ++ i ∷ []) v
    → IsSplitOnce w p i j
split_once t s c v w p i j o found e made is =
    let there : subtree w (p ++ i ∷ []) ≡ Some v = ap (λ z. subtree z (p ++ i ∷ [])) is
    ∙ subtree_of_replaced (p ++ i ∷ []) t s v found in
    let d = child_at p w v i there in
    let front : slice_get (children_of v) j ≡ Some (tree_up_to c o) = split_left s v c j o made e in
    let inner : IsNode v = node_with v (tree_up_to c o) j front in
    let within : j < length (children_of v) = slice_get_within (children_of v) j (tree_up_to c o) front in
    record {
      parent = d.parent;
      child = v;
      found = d.found;
      at = d.child;
      inner = inner;
      made = child_split d.parent v i (j + 1) d.child (fits inner within) (clean inner);
    }
  where
    fits : IsNode v → j < length (children_of v) → j + 1 ≤ extent v
    fits n lt = let lt' : j < length (children_of (node n.label n.children)) =
        subst (λ z. j < length (children_of z)) n.is lt in subst (λ z. j + 1 ≤ extent z) (sym n.is) (omega arith)

    clean : IsNode v → is_clean v (j + 1) ≡ true
    clean n = ap (λ z. is_clean z (j + 1)) n.is

-- the tree of a list of modifications that apply
record IsTurned (mods : List Mod) (t : WideTree) : Type 0 where
  tree : WideTree
  is : changed_in_turn mods t ≡ Ok tree

turned : (mods : List Mod) (t : WideTree) → IsOk (changed_in_turn mods t) → IsTurned mods t
turned mods t h = from (changed_in_turn mods t) refl h
  where
    from : (o : Outcome) → changed_in_turn mods t ≡ o → IsOk o → IsTurned mods t
    from (Ok u) e k = record { tree = u; is = e }
    from (Err cause) e k = absurd (cc)

-- where the second of two splits moves the place after the first
second_moves : (w : WideTree) (p : List ℕ) (i j : ℕ) → IsSplitOnce w p i j
    → moved_place (Split p i (j + 1)) w (place ((p ++ i ∷ []) ++ (j + 1) ∷ []) 0) ≡ place (p ++ (i + 1) ∷ 0 ∷ []) 0
second_moves w p i j d =
    moved_below (Split p i (j + 1)) w d.parent (place ((p ++ i ∷ []) ++ (j + 1) ∷ []) 0) (i ∷ (j + 1) ∷ []) d.found
    (append_assoc p (i ∷ []) ((j + 1) ∷ []))
    ∙ ap (place_from_above p)
    (split_moves d.parent d.child i (j + 1) ((j + 1) ∷ []) 0 d.at ∙ node_moves d.child i (j + 1) d.inner)

splitting_both : (t : WideTree) (at : Place) (p text : List ℕ) (i j : ℕ) → IsWellFormed t
    → IsPlace t at.path at.offset → at.path ≡ (p ++ i ∷ []) ++ j ∷ [] → subtree t at.path ≡ Some (leaf text)
    → Follows t at (split_both p i j at.offset)
splitting_both t at p text i j formed there is found =
    let o : ℕ = at.offset in
    let q : List ℕ = p ++ i ∷ [] in
    let c = child_at q t (leaf text) j (ap (subtree t) (sym is) ∙ found) in
    let cut : IsCut text o = leaf_cut t at.path text o found there in
    let made = child_split c.parent (leaf text) j o c.child (cut_within text o cut) (cut_tested text o cut) in
    let m : Mod = Split q j o in
    let n : Mod = Split p i (j + 1) in
    let mid : Place = place (q ++ (j + 1) ∷ []) 0 in
    let to : Place = place (p ++ (i + 1) ∷ 0 ∷ []) 0 in
    let once : (w : WideTree) → changed m t ≡ Ok w → IsSplitOnce w p i j =
    λ w e. split_once t c.parent (leaf text) made.tree w p i j o c.found c.child made.is
    (tree_made m t c.parent made.tree w c.found made.is e) in
    let first : moved_place m t at ≡ mid =
    moved_below m t c.parent at (j ∷ []) c.found is
    ∙ ap (place_from_above q) (split_moves c.parent (leaf text) j o [] o c.child ∙ text_moves text j o) in
    follows (m ∷ n ∷ []) t at to (tt, (tt, tt)) formed there
    (one_applies m (n ∷ []) t c.parent made.tree c.found made.is
    (λ w e f. let d = once w e in one_applies n [] w d.parent d.made.tree d.found d.made.is (λ x g k. tt)))
    (λ ok.
    let r = turned (m ∷ n ∷ []) t ok in
    let b = begun m (n ∷ []) t r.tree r.is in
    let w : WideTree = b.next in
    let steps : moved_in_turn (m ∷ n ∷ []) t at ≡ moved_in_turn (n ∷ []) w (moved_place m t at) =
    moved_first m (n ∷ []) t w at b.first in
    let behind : moved_in_turn (n ∷ []) w (moved_place m t at) ≡ moved_in_turn (n ∷ []) w mid =
    ap (moved_in_turn (n ∷ []) w) first in
    let last : moved_place n w mid ≡ to = second_moves w p i j (once w b.first) in
    sym (steps ∙ behind ∙ moved_once n w mid ∙ last))

-- ---- by the definitions

same_move : (a b : Move) → ◌≡◌ {A = Result Move EditFault} (Ok a) (Ok b) → a ≡ b
same_move a b e = cc

-- a result by cases of a value that may be there
by_option : {X : Type 0} (P : Move → Type 0) (f : X → Result Move EditFault) (cause : EditFault) (o : Option X)
    (m : Move) → option_map_or f o (Err cause) ≡ Ok m
    → ((x : X) → o ≡ Some x → f x ≡ Ok m → P m) → P m
by_option P f cause None m e g = absurd (cc)
by_option P f cause (Some x) m e g = g x refl e

-- a result by a test
by_if : (P : Move → Type 0) (b : Bool) (x : Result Move EditFault) (cause : EditFault) (m : Move)
    → (if b then x else Err cause) ≡ Ok m → (b ≡ true → x ≡ Ok m → P m) → P m
by_if P true x cause m e g = g refl e
by_if P false x cause m e g = absurd (cc)

former_follows : (t : WideTree) (at : Place) (p text : List ℕ) (k : ℕ) (m : Move) → IsWellFormed t
    → IsPlace t at.path at.offset → at.offset ≡ 0 → at.path ≡ p ++ k ∷ []
    → subtree t at.path ≡ Some (leaf text) → joined_to_former t p k ≡ Ok m → Follows t at m
former_follows t at p text zero m formed there start is found e = absurd (cc)
former_follows t at p text (suc i) m formed there start is found e =
    by_option (Follows t at) (λ former. Ok (joined_behind p i former)) AtStart (text_at t (p ++ i ∷ [])) m e
    (λ former f g. subst (Follows t at) (same_move (joined_behind p i former) m g)
    (joining t at p former text i formed there start (is ∙ ap (λ z. p ++ z ∷ []) (sym (add-one i))) found
    (text_found t (p ++ i ∷ []) former f)))

pub joined_follows : (t : WideTree) (at : Place) (text : List ℕ) (m : Move) → IsWellFormed t
    → IsPlace t at.path at.offset → at.offset ≡ 0 → subtree t at.path ≡ Some (leaf text)
    → joined_in t (parent_of at.path) ≡ Ok m → Follows t at m
joined_follows t at text m formed there start found e = from (parent_of at.path) refl e
  where
    from : (o : Option (List ℕ × ℕ)) → parent_of at.path ≡ o → joined_in t o ≡ Ok m → Follows t at m
    from None f g = absurd (cc)
    from (Some last) f g =
        by_if (Follows t at) (is_document_at t last.0) (joined_to_former t last.0 last.1) AtStart m g
        (λ b h. former_follows t at last.0 text last.1 m formed there start (path_is at.path last f) found h)

concat_follows : (t : WideTree) (at : Place) (q text : List ℕ) (j : ℕ) (m : Move) → IsWellFormed t
    → IsPlace t at.path at.offset → at.path ≡ q ++ j ∷ [] → subtree t at.path ≡ Some (leaf text)
    → split_in_concat t j at.offset (parent_of q) ≡ Ok m → Follows t at m
concat_follows t at q text j m formed there is found e = from (parent_of q) refl e
  where
    from : (o : Option (List ℕ × ℕ)) → parent_of q ≡ o → split_in_concat t j at.offset o ≡ Ok m → Follows t at m
    from None f g = absurd (cc)
    from (Some last) f g =
        by_if (Follows t at) (is_document_at t last.0) (Ok (split_both last.0 last.1 j at.offset)) NotInParagraph m g
        (λ b h. subst (Follows t at) (same_move (split_both last.0 last.1 j at.offset) m h)
        (splitting_both t at last.0 text last.1 j formed there (is ∙ ap (λ z. z ++ j ∷ []) (path_is q last f)) found))

pub split_follows : (t : WideTree) (at : Place) (text : List ℕ) (m : Move) → IsWellFormed t
    → IsPlace t at.path at.offset → subtree t at.path ≡ Some (leaf text)
    → split_in t at.offset (parent_of at.path) ≡ Ok m → Follows t at m
split_follows t at text m formed there found e = from (parent_of at.path) refl e
  where
    from : (o : Option (List ℕ × ℕ)) → parent_of at.path ≡ o → split_in t at.offset o ≡ Ok m → Follows t at m
    from None f g = absurd (cc)
    from (Some last) f g =
        let is : at.path ≡ last.0 ++ last.1 ∷ [] = path_is at.path last f in
        by_test (λ r. r ≡ Ok m → Follows t at m) (is_document_at t last.0) (Ok (split_text last.0 last.1 at.offset))
        (if is_concat_at t last.0 then
        split_in_concat t last.1 at.offset (parent_of last.0) else Err NotInParagraph)
        (λ b h. subst (Follows t at) (same_move (split_text last.0 last.1 at.offset) m h)
        (splitting t at last.0 text last.1 formed there is found))
        (λ b h. by_if (Follows t at) (is_concat_at t last.0) (split_in_concat t last.1 at.offset (parent_of last.0))
        NotInParagraph m h
        (λ _ k. concat_follows t at last.0 text last.1 m formed there is found k)) g

-- what holds of each move that a definition returns
pub typed_follows : (t : WideTree) (at : Place) (text : List ℕ) (m : Move) → IsWellFormed t → IsText text
    → IsPlace t at.path at.offset → typed t at text ≡ Ok m → Follows t at m
typed_follows t at text m formed h there e =
    let made : Move = Edit (Insert at.path at.offset (leaf text) ∷ []) (place at.path (at.offset + length text)) in
    by_option (Follows t at) (λ _. Ok made) NoText (text_at t at.path) m e
    (λ old f g. subst (Follows t at) (same_move made m g)
    (typing t at old text formed h there (text_found t at.path old f)))

pub erased_follows : (t : WideTree) (at : Place) (m : Move) → IsWellFormed t → IsPlace t at.path at.offset
    → erased t at ≡ Ok m → Follows t at m
erased_follows t at m formed there e =
    by_option (Follows t at) (erased_in t at.path at.offset) NoText (text_at t at.path) m e
    (λ text f g. let found : subtree t at.path ≡ Some (leaf text) = text_found t at.path text f in
    let made : Move = without_item at.path (cut_before text at.offset) at.offset in
    by_test (λ r. r ≡ Ok m → Follows t at m) (at.offset == 0) (joined_in t (parent_of at.path)) (Ok made)
    (λ b h. joined_follows t at text m formed there (eqb-true at.offset 0 b) found h)
    (λ _ h. subst (Follows t at) (same_move made m h) (erasing t at text formed there found)) g)

pub entered_follows : (t : WideTree) (at : Place) (m : Move) → IsWellFormed t → IsPlace t at.path at.offset
    → entered t at ≡ Ok m → Follows t at m
entered_follows t at m formed there e =
    by_option (Follows t at) (λ _. split_in t at.offset (parent_of at.path)) NoText (text_at t at.path) m e
    (λ text f g. split_follows t at text m formed there (text_found t at.path text f) g)

-- ---- two splits, as the code makes them

pub made_twice : (t : WideTree) (whole p end : List ℕ) (i j o : ℕ) (m : Move) → parent_of whole ≡ Some (p, i)
    → is_document_at t p ≡ true → end ≡ (p ++ (i + 1) ∷ []) ++ 0 ∷ []
    → m ≡ Edit (Split whole j o ∷ Split p i (j + 1) ∷ []) (place end 0) → split_in_concat t j o (parent_of whole) ≡ Ok m
made_twice t whole p end i j o m e document ends is =
    let path : whole ≡ p ++ i ∷ [] = path_is whole (p, i) e in
    let to : end ≡ p ++ (i + 1) ∷ 0 ∷ [] = ends ∙ append_assoc p ((i + 1) ∷ []) (0 ∷ []) in
    ap (split_in_concat t j o) e ∙ ap (λ b. if b then Ok (split_both p i j o) else Err NotInParagraph) document
    ∙ ap Ok (sym (is ∙ ap₂ (λ w z. Edit (Split w j o ∷ Split p i (j + 1) ∷ []) (place z 0)) path to))
