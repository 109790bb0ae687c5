-- The table of insertions and removals at the same path.
use Rattle.std.proofs.Common.{◌≡◌, ℕ, ◌+◌, ◌-◌, ◌<◌, ◌≤◌, Bool, true, false, leb, List, [], ◌∷◌, ◌++◌, length, take, drop}
use Rattle.std.proofs.Common.{Option, Some, None, Ok, Err, refl, sym, ap, subst, ◌∙◌, arith}
use Rattle.std.specs.Prelude.{if◌then◌else◌}
use Rattle.std.specs.Str.{bytes_eq}
use Rattle.std.proofs.lemmas.Bool.{leb-true, leb-false, le-leb, and_parts, and_from}
use Rattle.tx_tree.specs.Cuts.{is_cut}
use Rattle.tx_tree.specs.Limits.{IsWellFormed}
use Rattle.tx_tree.specs.Texts.{IsText}
use Rattle.tx_tree.specs.TextScan.{is_text}
use Rattle.tx_tree.specs.WideTree.{WideTree, Forest, leaf, node, forest, trees}
use Rattle.tx_tree.proofs.Children.{trees_forest, forest_trees}
use Rattle.tx_tree.proofs.Cutting.{text_rest}
use Rattle.tx_tree.proofs.Scanning.{no_bytes, text_test, text_tested}
use Rattle.tx_mod.specs.declared.faults.ModFault.TheVariants.{NotNode, BadPlace, CutsSymbol}
use Rattle.tx_mod.specs.declared.mods.Mod.{Mod}
use Rattle.tx_mod.specs.declared.mods.Mod.TheVariants.{Assign, Insert, Remove, Split, Join, AssignNode, InsertNode}
use Rattle.tx_mod.specs.declared.mods.Mod.TheVariants.{RemoveNode}
use Rattle.tx_mod.specs.Mods.{path_of, tuple, put_in, taken_out, extent}
use Rattle.tx_mod.specs.Changes.{Outcome, asking, inserted, removed, changed_at}
use Rattle.tx_mod.specs.Inverses.{inverse_at}
use Rattle.tx_mod.specs.Sound.{IsSoundMod}
use Rattle.tx_mod.proofs.Back.{ok_asked, same_tree}
use Rattle.tx_mod.proofs.Cases.{by_test}
use Rattle.tx_mod.proofs.Undone.{sub_add}
use Rattle.tx_mod.proofs.Remade.{asked_ok, texts_together}
use Rattle.tx_commute.specs.Pasts.{Pair, insert_past, remove_past, by_table}
use Rattle.tx_commute.proofs.Pieces.{piece, put_in_is}
use Rattle.tx_commute.proofs.Made.{insert_made, remove_made}
use Rattle.tx_commute.specs.Knowing.{place_of, at_place}
use Rattle.tx_commute.proofs.Orders.{Cutting, Fits, before_it, behind_it, between, between_front, between_back}

-- ---- modifications that put a piece in

-- of a tree that is made of a list, m makes the tree of that list with ys in place of what is from i to before k, and
-- undo is its inverse, by its place and what was there
pub record Edit {X : Type 0} (C : List X → Type 0) (made : List X → WideTree) (m : Mod) (i k : ℕ) (ys : List X)
    (undo : ℕ → List X → Mod) : Type 0 where
  pub into : (t : List X) (v : WideTree) → changed_at m (made t) ≡ Ok v → Fits C t i k ys × (v ≡ made (piece t i k ys))
  pub out : (t : List X) → Fits C t i k ys → changed_at m (made t) ≡ Ok (made (piece t i k ys))
  pub undone : (t : List X) → inverse_at m (made t) ≡ undo i (between t i k)
  pub moved : (j l : ℕ) (zs : List X) → at_place (undo j zs) l ≡ undo l zs
  pub place : place_of m ≡ i

-- b' applies to s, and a' to what it makes, which gives w; their inverses are those of b in v and of a in s, elsewhere
pub record Both (s v : WideTree) (a b b' a' : Mod) (w : WideTree) : Type 0 where
  pub middle : WideTree
  pub first : changed_at b' s ≡ Ok middle
  pub second : changed_at a' middle ≡ Ok w
  pub back_first : inverse_at b' s ≡ at_place (inverse_at b v) (place_of b')
  pub back_second : inverse_at a' middle ≡ at_place (inverse_at a s) (place_of a')

-- the inverse of an edit in one list is that of another in another list, elsewhere
undone_same : {X : Type 0} (C : List X → Type 0) (made : List X → WideTree) (m n : Mod) (i k j l : ℕ) (ys : List X)
    (undo : ℕ → List X → Mod) (t u : List X) → Edit C made m i k ys undo → Edit C made n j l ys undo
    → between u j l ≡ between t i k → inverse_at n (made u) ≡ at_place (inverse_at m (made t)) (place_of n)
undone_same {X} C made m n i k j l ys undo t u A B same =
    B.undone u ∙ ap (undo j) same ∙ sym (A.moved i j (between t i k)) ∙ ap (λ z. at_place z j) (sym (A.undone t))
    ∙ ap (at_place (inverse_at m (made t))) (sym B.place)

edits_before : {X : Type 0} (C : List X → Type 0) → Cutting C → (made : List X → WideTree) (a b a' : Mod)
    (xs ys : List X) (ua ub : ℕ → List X → Mod) (i k j l i' k' : ℕ) → Edit C made a i k xs ua
    → Edit C made b j l ys ub → Edit C made a' i' k' xs ua
    → l ≤ i → i' + l ≡ i + j + length ys → k' + l ≡ k + j + length ys
    → (t : List X) (v w : WideTree) → changed_at a (made t) ≡ Ok v → changed_at b v ≡ Ok w
    → Both (made t) v a b b a' w
edits_before {X} C c made a b a' xs ys ua ub i k j l i' k' A B A' le is is' t v w e f =
    let g = A.into t v e in
    let h = B.into (piece t i k xs) w (ap (changed_at b) (sym g.1) ∙ f) in
    let o = before_it C c t ys xs j l i k i' k' g.0 h.0 le is is' in
    record {
      middle = made (piece t j l ys);
      first = B.out t o.first;
      second = A'.out (piece t j l ys) o.second ∙ ap (λ z. Ok (made z)) (sym o.same) ∙ ap (λ z. Ok z) (sym h.1);
      back_first = undone_same C made b b j l j l ys ub (piece t i k xs) t B B
          (sym (between_front t xs i k j l h.0.order le (omega (arith, g.0.order, g.0.within))))
          ∙ ap (λ z. at_place (inverse_at b z) (place_of b)) (sym g.1);
      back_second = undone_same C made a a' i k i' k' xs ua t (piece t j l ys) A A'
          (between_back t ys j l i k i' k' le (omega (arith, o.first.order, o.first.within)) is
          (omega (arith, g.0.order, is, is')));
    }

edits_behind : {X : Type 0} (C : List X → Type 0) → Cutting C → (made : List X → WideTree) (a b b' : Mod)
    (xs ys : List X) (ua ub : ℕ → List X → Mod) (i k j l j' l' : ℕ) → Edit C made a i k xs ua
    → Edit C made b j l ys ub → Edit C made b' j' l' ys ub
    → i + length xs ≤ j → j + k ≡ j' + i + length xs → l + k ≡ l' + i + length xs
    → (t : List X) (v w : WideTree) → changed_at a (made t) ≡ Ok v → changed_at b v ≡ Ok w
    → Both (made t) v a b b' a w
edits_behind {X} C c made a b b' xs ys ua ub i k j l j' l' A B B' le is is' t v w e f =
    let g = A.into t v e in
    let h = B.into (piece t i k xs) w (ap (changed_at b) (sym g.1) ∙ f) in
    let o = behind_it C c t xs ys i k j' l' j l g.0 h.0 le is is' in
    record {
      middle = made (piece t j' l' ys);
      first = B'.out t o.first;
      second = A.out (piece t j' l' ys) o.second ∙ ap (λ z. Ok (made z)) (sym o.same) ∙ ap (λ z. Ok z) (sym h.1);
      back_first = undone_same C made b b' j l j' l' ys ub (piece t i k xs) t B B'
          (sym (between_back t xs i k j' l' j l (omega (arith, le, is)) (omega (arith, g.0.order, g.0.within)) is
          (omega (arith, h.0.order, is, is'))))
          ∙ ap (λ z. at_place (inverse_at b z) (place_of b')) (sym g.1);
      back_second = undone_same C made a a i k i k xs ua t (piece t j' l' ys) A A
          (between_front t ys j' l' i k g.0.order (omega (arith, le, is))
          (omega (arith, o.first.order, o.first.within)));
    }

-- ---- the rows

-- what a row returns makes w of s, at the same paths
abbrev pub Row : Mod → Mod → WideTree → WideTree → WideTree → Option Pair → Type 0
Row x y s v w o =
    (b' a' : Mod) → o ≡ Some (b', a') → Both s v x y b' a' w × (path_of b' ≡ path_of y) × (path_of a' ≡ path_of x)

row_none : (x y : Mod) (s v w : WideTree) → Row x y s v w None
row_none x y s v w b' a' e = absurd (cc)

row_some : (x y : Mod) (s v w : WideTree) (b a : Mod) → path_of b ≡ path_of y → path_of a ≡ path_of x
    → Both s v x y b a w → Row x y s v w (Some (b, a))
row_some x y s v w b a g g' h b' a' e =
    let pair : ◌≡◌ {A = Pair} (b, a) (b', a') = cc in
    let first : b ≡ b' = ap (λ z. z.0) pair in
    let second : a ≡ a' = ap (λ z. z.1) pair in (
      subst (λ z. Both s v x y z a' w) first (subst (λ z. Both s v x y b z w) second h),
      ap path_of (sym first) ∙ g,
      ap path_of (sym second) ∙ g',
    )

insert_insert : {X : Type 0} (C : List X → Type 0) → Cutting C → (made : List X → WideTree) (ua ub : ℕ → List X → Mod) (p q : List ℕ)
    (x y : WideTree) (xs ys : List X) → ((k : ℕ) → Edit C made (Insert p k x) k k xs ua)
    → ((k : ℕ) → Edit C made (Insert q k y) k k ys ub) → length xs ≡ extent x → length ys ≡ extent y
    → (i j : ℕ) (t : List X) (v w : WideTree) → changed_at (Insert p i x) (made t) ≡ Ok v
    → changed_at (Insert q j y) v ≡ Ok w → Row (Insert p i x) (Insert q j y) (made t) v w (insert_past p i x (Insert q j y))
insert_insert {X} C c made ua ub p q x y xs ys A B long long' i j t v w e f =
    by_test (Row (Insert p i x) (Insert q j y) (made t) v w) (leb j i) (Some (Insert q j y, Insert p (i + extent y) x)) _
    (λ t'. let le : j ≤ i = leb-true j i t' in
    row_some (Insert p i x) (Insert q j y) (made t) v w (Insert q j y) (Insert p (i + extent y) x) refl refl
    (edits_before C c made (Insert p i x) (Insert q j y) (Insert p (i + extent y) x) xs ys ua ub i i j j (i + extent y)
    (i + extent y) (A i) (B j) (A (i + extent y)) le (omega arith) (omega arith) t v w e f))
    (λ t'. by_test (Row (Insert p i x) (Insert q j y) (made t) v w) (leb (i + extent x) j) (Some (Insert q (j - extent x) y, Insert p i x)) None
    (λ t''. let le : i + extent x ≤ j = leb-true (i + extent x) j t'' in
    row_some (Insert p i x) (Insert q j y) (made t) v w (Insert q (j - extent x) y) (Insert p i x) refl refl
    (edits_behind C c made (Insert p i x) (Insert q j y) (Insert q (j - extent x) y) xs ys ua ub i i j j (j - extent x)
    (j - extent x) (A i) (B j) (B (j - extent x)) (omega arith) (omega arith) (omega arith) t v w e f))
    (λ t''. row_none (Insert p i x) (Insert q j y) (made t) v w))

insert_remove : {X : Type 0} (C : List X → Type 0) → Cutting C → (made : List X → WideTree) (ua ub : ℕ → List X → Mod) (p q : List ℕ)
    (x : WideTree) (xs : List X) (m : ℕ) → ((k : ℕ) → Edit C made (Insert p k x) k k xs ua)
    → ((k : ℕ) → Edit C made (Remove q k m) k (k + m) [] ub) → length xs ≡ extent x
    → (i j : ℕ) (t : List X) (v w : WideTree) → changed_at (Insert p i x) (made t) ≡ Ok v
    → changed_at (Remove q j m) v ≡ Ok w → Row (Insert p i x) (Remove q j m) (made t) v w (insert_past p i x (Remove q j m))
insert_remove {X} C c made ua ub p q x xs m A B long i j t v w e f =
    by_test (Row (Insert p i x) (Remove q j m) (made t) v w) (leb (j + m) i) (Some (Remove q j m, Insert p (i - m) x)) _
    (λ t'. let le : j + m ≤ i = leb-true (j + m) i t' in
    row_some (Insert p i x) (Remove q j m) (made t) v w (Remove q j m) (Insert p (i - m) x) refl refl
    (edits_before C c made (Insert p i x) (Remove q j m) (Insert p (i - m) x) xs [] ua ub i i j (j + m) (i - m)
    (i - m) (A i) (B j) (A (i - m)) le (omega arith) (omega arith) t v w e f))
    (λ t'. by_test (Row (Insert p i x) (Remove q j m) (made t) v w) (leb (i + extent x) j) (Some (Remove q (j - extent x) m, Insert p i x)) None
    (λ t''. let le : i + extent x ≤ j = leb-true (i + extent x) j t'' in
    row_some (Insert p i x) (Remove q j m) (made t) v w (Remove q (j - extent x) m) (Insert p i x) refl refl
    (edits_behind C c made (Insert p i x) (Remove q j m) (Remove q (j - extent x) m) xs [] ua ub i i j (j + m) (j - extent x)
    ((j - extent x) + m) (A i) (B j) (B (j - extent x)) (omega arith) (omega arith) (omega arith) t v w e f))
    (λ t''. row_none (Insert p i x) (Remove q j m) (made t) v w))

remove_insert : {X : Type 0} (C : List X → Type 0) → Cutting C → (made : List X → WideTree) (ua ub : ℕ → List X → Mod) (p q : List ℕ)
    (y : WideTree) (ys : List X) (n : ℕ) → ((k : ℕ) → Edit C made (Remove p k n) k (k + n) [] ua)
    → ((k : ℕ) → Edit C made (Insert q k y) k k ys ub) → length ys ≡ extent y
    → (i j : ℕ) (t : List X) (v w : WideTree) → changed_at (Remove p i n) (made t) ≡ Ok v
    → changed_at (Insert q j y) v ≡ Ok w → Row (Remove p i n) (Insert q j y) (made t) v w (remove_past p i n (Insert q j y))
remove_insert {X} C c made ua ub p q y ys n A B long i j t v w e f =
    by_test (Row (Remove p i n) (Insert q j y) (made t) v w) (leb j i) (Some (Insert q j y, Remove p (i + extent y) n)) _
    (λ t'. let le : j ≤ i = leb-true j i t' in
    row_some (Remove p i n) (Insert q j y) (made t) v w (Insert q j y) (Remove p (i + extent y) n) refl refl
    (edits_before C c made (Remove p i n) (Insert q j y) (Remove p (i + extent y) n) [] ys ua ub i (i + n) j j (i + extent y)
    ((i + extent y) + n) (A i) (B j) (A (i + extent y)) le (omega arith) (omega arith) t v w e f))
    (λ t'. let lt : i < j = leb-false j i t' in
    row_some (Remove p i n) (Insert q j y) (made t) v w (Insert q (j + n) y) (Remove p i n) refl refl
    (edits_behind C c made (Remove p i n) (Insert q j y) (Insert q (j + n) y) [] ys ua ub i (i + n) j j (j + n) (j + n)
    (A i) (B j) (B (j + n)) (omega arith) (omega arith) (omega arith) t v w e f))

remove_remove : {X : Type 0} (C : List X → Type 0) → Cutting C → (made : List X → WideTree) (ua ub : ℕ → List X → Mod) (p q : List ℕ) (n m : ℕ)
    → ((k : ℕ) → Edit C made (Remove p k n) k (k + n) [] ua) → ((k : ℕ) → Edit C made (Remove q k m) k (k + m) [] ub)
    → (i j : ℕ) (t : List X) (v w : WideTree) → changed_at (Remove p i n) (made t) ≡ Ok v
    → changed_at (Remove q j m) v ≡ Ok w → Row (Remove p i n) (Remove q j m) (made t) v w (remove_past p i n (Remove q j m))
remove_remove {X} C c made ua ub p q n m A B i j t v w e f =
    by_test (Row (Remove p i n) (Remove q j m) (made t) v w) (leb (j + m) i) (Some (Remove q j m, Remove p (i - m) n)) _
    (λ t'. let le : j + m ≤ i = leb-true (j + m) i t' in
    row_some (Remove p i n) (Remove q j m) (made t) v w (Remove q j m) (Remove p (i - m) n) refl refl
    (edits_before C c made (Remove p i n) (Remove q j m) (Remove p (i - m) n) [] [] ua ub i (i + n) j (j + m) (i - m)
    ((i - m) + n) (A i) (B j) (A (i - m)) le (omega arith) (omega arith) t v w e f))
    (λ t'. by_test (Row (Remove p i n) (Remove q j m) (made t) v w) (leb i j) (Some (Remove q (j + n) m, Remove p i n)) None
    (λ t''. let le : i ≤ j = leb-true i j t'' in
    row_some (Remove p i n) (Remove q j m) (made t) v w (Remove q (j + n) m) (Remove p i n) refl refl
    (edits_behind C c made (Remove p i n) (Remove q j m) (Remove q (j + n) m) [] [] ua ub i (i + n) j (j + m) (j + n)
    ((j + n) + m) (A i) (B j) (B (j + n)) (omega arith) (omega arith) (omega arith) t v w e f))
    (λ t''. row_none (Remove p i n) (Remove q j m) (made t) v w))

-- ---- texts

text_cutting : Cutting IsText
text_cutting = record { joins = texts_together; rests = text_rest }

cut_is_text : (t : List ℕ) (k : ℕ) → is_cut t k ≡ true → IsText (take k t)
unfolding is_cut
cut_is_text t k e = text_test (take k t) (and_parts (leb k (length t)) (is_text (take k t)) e).1

text_is_cut : (t : List ℕ) (k : ℕ) → k ≤ length t → IsText (take k t) → is_cut t k ≡ true
unfolding is_cut
text_is_cut t k le h = and_from _ _ (le-leb k (length t) le) (text_tested (take k t) h)

leaf_insert : (p xs : List ℕ) → IsText xs → (i : ℕ) → Edit IsText leaf (Insert p i (leaf xs)) i i xs (λ k zs. Remove p k (length xs))
leaf_insert p xs h i =
    record {
      into = λ t v e. into t v (ok_asked (leb i (length t)) (BadPlace (length t)) _ v e);
      out = λ t f.
          asked_ok (leb i (length t)) (BadPlace (length t)) _ (le-leb i (length t) f.within)
          ∙ asked_ok (is_cut t i) (CutsSymbol i) _ (text_is_cut t i f.within f.starts)
          ∙ ap (λ z. Ok (leaf z)) (put_in_is t xs i);
      undone = λ t. refl;
      moved = λ j l zs. refl;
      place = refl;
    }
  where
    into : (t : List ℕ) (v : WideTree)
        → (leb i (length t) ≡ true) × (asking (is_cut t i) (CutsSymbol i) (Ok (leaf (put_in t i xs))) ≡ Ok v)
        → Fits IsText t i i xs × (v ≡ leaf (piece t i i xs))
    into t v a =
        let b = ok_asked (is_cut t i) (CutsSymbol i) _ v a.1 in
        let cut : IsText (take i t) = cut_is_text t i b.0 in (
          record { order = omega arith; within = leb-true i (length t) a.0; starts = cut; ends = cut; new = h },
          sym (same_tree (leaf (put_in t i xs)) v b.1) ∙ ap leaf (put_in_is t xs i),
        )

leaf_remove : (p : List ℕ) (n i : ℕ) → Edit IsText leaf (Remove p i n) i (i + n) [] (λ k zs. Insert p k (leaf zs))
leaf_remove p n i =
    record {
      into = λ t v e. into t v (ok_asked (leb (i + n) (length t)) (BadPlace (length t)) _ v e);
      out = λ t f.
          asked_ok (leb (i + n) (length t)) (BadPlace (length t)) _ (le-leb (i + n) (length t) f.within)
          ∙ asked_ok (is_cut t i) (CutsSymbol i) _ (text_is_cut t i (shorter t f.within) f.starts)
          ∙ asked_ok (is_cut t (i + n)) (CutsSymbol (i + n)) _ (text_is_cut t (i + n) f.within f.ends);
      undone = λ t. ap (λ w. Mod.Insert p i (leaf (take w (drop i t)))) (sym (sub_add i n));
      moved = λ j l zs. refl;
      place = refl;
    }
  where
    shorter : (t : List ℕ) → i + n ≤ length t → i ≤ length t
    shorter t le = omega arith

    into : (t : List ℕ) (v : WideTree)
        → (leb (i + n) (length t) ≡ true)
        × (asking (is_cut t i) (CutsSymbol i) (asking (is_cut t (i + n)) (CutsSymbol (i + n)) (Ok (leaf (taken_out t i n))))
        ≡ Ok v)
        → Fits IsText t i (i + n) [] × (v ≡ leaf (piece t i (i + n) []))
    into t v a =
        let b = ok_asked (is_cut t i) (CutsSymbol i) _ v a.1 in
        let c = ok_asked (is_cut t (i + n)) (CutsSymbol (i + n)) _ v b.1 in (
          record {
            order = omega arith;
            within = leb-true (i + n) (length t) a.0;
            starts = cut_is_text t i b.0;
            ends = cut_is_text t (i + n) c.0;
            new = no_bytes;
          },
          sym (same_tree (leaf (taken_out t i n)) v c.1),
        )

-- ---- children

abbrev Any : List WideTree → Type 0
Any ts = Unit {0}

any_cutting : Cutting Any
any_cutting = record { joins = λ a b h k. tt; rests = λ a b h k. tt }

abbrev of_list : List ℕ → List WideTree → WideTree
of_list l ts = node l (forest ts)

node_insert : (l p m : List ℕ) (us : Forest) → bytes_eq m tuple ≡ true → (i : ℕ)
    → Edit Any (of_list l) (Insert p i (node m us)) i i (trees us) (λ k zs. Remove p k (length (trees us)))
node_insert l p m us named i =
    record {
      into = λ t v e. into t v e (ok_asked (bytes_eq m tuple) NotNode _ v e);
      out = λ t f. insert_made l m t us i named f.within;
      undone = λ t. refl;
      moved = λ j l zs. refl;
      place = refl;
    }
  where
    into : (t : List WideTree) (v : WideTree) → inserted (node l (forest t)) i (node m us) ≡ Ok v
        → (bytes_eq m tuple ≡ true)
        × (asking (leb i (length (trees (forest t)))) (BadPlace (length (trees (forest t))))
        (Ok (node l (forest (put_in (trees (forest t)) i (trees us))))) ≡ Ok v)
        → Fits Any t i i (trees us) × (v ≡ of_list l (piece t i i (trees us)))
    into t v e a =
        let b = ok_asked (leb i (length (trees (forest t)))) (BadPlace (length (trees (forest t)))) _ v a.1 in
        let same : length (trees (forest t)) ≡ length t = ap length (trees_forest t) in
        let at : i ≤ length (trees (forest t)) = leb-true i (length (trees (forest t))) b.0 in
        let le : i ≤ length t = omega (arith, at, same) in (
          record { order = omega arith; within = le; starts = tt; ends = tt; new = tt },
          same_tree v (node l (forest (piece t i i (trees us)))) (sym e ∙ insert_made l m t us i named le),
        )

node_remove : (l p : List ℕ) (n i : ℕ) → Edit Any (of_list l) (Remove p i n) i (i + n) []
    (λ k zs. Insert p k (node tuple (forest zs)))
node_remove l p n i =
    record {
      into = λ t v e. into t v e (ok_asked (leb (i + n) (length (trees (forest t)))) (BadPlace (length (trees (forest t)))) _ v e);
      out = λ t f. remove_made l t i n f.within;
      undone = λ t.
          ap (λ us. Mod.Insert p i (node tuple (forest (take n (drop i us))))) (trees_forest t)
          ∙ ap (λ w. Mod.Insert p i (node tuple (forest (take w (drop i t))))) (sym (sub_add i n));
      moved = λ j l zs. refl;
      place = refl;
    }
  where
    into : (t : List WideTree) (v : WideTree) → removed (node l (forest t)) i n ≡ Ok v
        → (leb (i + n) (length (trees (forest t))) ≡ true)
        × (◌≡◌ {A = Outcome} (Ok (node l (forest (taken_out (trees (forest t)) i n)))) (Ok v))
        → Fits Any t i (i + n) [] × (v ≡ of_list l (piece t i (i + n) []))
    into t v e a =
        let same : length (trees (forest t)) ≡ length t = ap length (trees_forest t) in
        let at : i + n ≤ length (trees (forest t)) = leb-true (i + n) (length (trees (forest t))) a.0 in
        let le : i + n ≤ length t = omega (arith, at, same) in (
          record { order = omega arith; within = le; starts = tt; ends = tt; new = tt },
          same_tree v (node l (forest (piece t i (i + n) []))) (sym e ∙ remove_made l t i n le),
        )

-- ---- all of the table

-- a node of its list of children
listed : (x y : Mod) (l : List ℕ) (ts : Forest) (v w : WideTree) (o : Option Pair)
    → Row x y (of_list l (trees ts)) v w o → Row x y (node l ts) v w o
listed x y l ts v w o h = subst (λ z. Row x y z v w o) (ap (node l) (forest_trees ts)) h

as_list : (m : Mod) (l : List ℕ) (ts : Forest) (v : WideTree) → changed_at m (node l ts) ≡ Ok v
    → changed_at m (of_list l (trees ts)) ≡ Ok v
as_list m l ts v e = ap (changed_at m) (ap (node l) (forest_trees ts)) ∙ e

-- what is put into a text is a text, and what is put among children is a node
no_node : (q m : List ℕ) (us : Forest) (z : List ℕ) (j : ℕ) (v w : WideTree) → v ≡ leaf z
    → changed_at (Insert q j (node m us)) v ≡ Ok w → ⊥
no_node q m us z j v w is f =
    let g : changed_at (Insert q j (node m us)) (leaf z) ≡ Ok w =
    ap (changed_at (Insert q j (node m us))) (sym is) ∙ f in absurd (cc)

no_leaf : (q ys l : List ℕ) (ts : Forest) (j : ℕ) (v w : WideTree) → v ≡ node l ts
    → changed_at (Insert q j (leaf ys)) v ≡ Ok w → ⊥
no_leaf q ys l ts j v w is f =
    let g : changed_at (Insert q j (leaf ys)) (node l ts) ≡ Ok w =
    ap (changed_at (Insert q j (leaf ys))) (sym is) ∙ f in absurd (cc)

tuple_named : (m q : List ℕ) (us : Forest) (l : List ℕ) (ts : Forest) (i : ℕ) (v : WideTree)
    → inserted (node l ts) i (node m us) ≡ Ok v → bytes_eq m tuple ≡ true
tuple_named m q us l ts i v e = (ok_asked (bytes_eq m tuple) NotNode _ v e).0

insert_insert_row : (p q : List ℕ) (x y s v w : WideTree) (i j : ℕ) → IsWellFormed x → IsWellFormed y
    → changed_at (Insert p i x) s ≡ Ok v → changed_at (Insert q j y) v ≡ Ok w
    → Row (Insert p i x) (Insert q j y) s v w (insert_past p i x (Insert q j y))
insert_insert_row p q (leaf xs) (leaf ys) (leaf t) v w i j h h' e f =
    insert_insert IsText text_cutting leaf _ _ p q (leaf xs) (leaf ys) xs ys (leaf_insert p xs h) (leaf_insert q ys h') refl refl
    i j t v w e f
insert_insert_row p q (leaf xs) (node m us) (leaf t) v w i j h h' e f =
    let A = leaf_insert p xs h i in
    let g = A.into t v e in absurd (no_node q m us (piece t i i xs) j v w g.1 f)
insert_insert_row p q (node m us) y (leaf t) v w i j h h' e f = absurd (cc)
insert_insert_row p q (leaf xs) y (node l ts) v w i j h h' e f = absurd (cc)
insert_insert_row p q (node m us) (leaf ys) (node l ts) v w i j h h' e f =
    let A = node_insert l p m us (tuple_named m p us l ts i v e) i in
    let g = A.into (trees ts) v (as_list (Insert p i (node m us)) l ts v e) in
    absurd (no_leaf q ys l (forest (piece (trees ts) i i (trees us))) j v w g.1 f)
insert_insert_row p q (node m us) (node n zs) (node l ts) v w i j h h' e f =
    let named : bytes_eq m tuple ≡ true = tuple_named m p us l ts i v e in
    let A = node_insert l p m us named i in
    let e' = as_list (Insert p i (node m us)) l ts v e in
    let g = A.into (trees ts) v e' in
    let named' : bytes_eq n tuple ≡ true =
    tuple_named n q zs l (forest (piece (trees ts) i i (trees us))) j w (ap (λ z. inserted z j (node n zs)) (sym g.1) ∙ f) in
    listed _ _ l ts v w _
    (insert_insert Any any_cutting (of_list l) _ _ p q (node m us) (node n zs) (trees us) (trees zs) (node_insert l p m us named)
    (node_insert l q n zs named') refl refl i j (trees ts) v w e' f)

insert_remove_row : (p q : List ℕ) (x s v w : WideTree) (i j m : ℕ) → IsWellFormed x
    → changed_at (Insert p i x) s ≡ Ok v → changed_at (Remove q j m) v ≡ Ok w
    → Row (Insert p i x) (Remove q j m) s v w (insert_past p i x (Remove q j m))
insert_remove_row p q (leaf xs) (leaf t) v w i j m h e f =
    insert_remove IsText text_cutting leaf _ _ p q (leaf xs) xs m (leaf_insert p xs h) (leaf_remove q m) refl i j t v w e f
insert_remove_row p q (node k us) (leaf t) v w i j m h e f = absurd (cc)
insert_remove_row p q (leaf xs) (node l ts) v w i j m h e f = absurd (cc)
insert_remove_row p q (node k us) (node l ts) v w i j m h e f =
    listed _ _ l ts v w _
    (insert_remove Any any_cutting (of_list l) _ _ p q (node k us) (trees us) m
    (node_insert l p k us (tuple_named k p us l ts i v e)) (node_remove l q m) refl i j (trees ts) v w
    (as_list (Insert p i (node k us)) l ts v e) f)

remove_insert_row : (p q : List ℕ) (y s v w : WideTree) (i j n : ℕ) → IsWellFormed y
    → changed_at (Remove p i n) s ≡ Ok v → changed_at (Insert q j y) v ≡ Ok w
    → Row (Remove p i n) (Insert q j y) s v w (remove_past p i n (Insert q j y))
remove_insert_row p q (leaf ys) (leaf t) v w i j n h e f =
    remove_insert IsText text_cutting leaf _ _ p q (leaf ys) ys n (leaf_remove p n) (leaf_insert q ys h) refl i j t v w e f
remove_insert_row p q (node m us) (leaf t) v w i j n h e f =
    let A = leaf_remove p n i in
    let g = A.into t v e in absurd (no_node q m us (piece t i (i + n) []) j v w g.1 f)
remove_insert_row p q (leaf ys) (node l ts) v w i j n h e f =
    let A = node_remove l p n i in
    let g = A.into (trees ts) v (as_list (Remove p i n) l ts v e) in
    absurd (no_leaf q ys l (forest (piece (trees ts) i (i + n) [])) j v w g.1 f)
remove_insert_row p q (node m us) (node l ts) v w i j n h e f =
    let A = node_remove l p n i in
    let e' = as_list (Remove p i n) l ts v e in
    let g = A.into (trees ts) v e' in
    let named : bytes_eq m tuple ≡ true =
    tuple_named m q us l (forest (piece (trees ts) i (i + n) [])) j w (ap (λ z. inserted z j (node m us)) (sym g.1) ∙ f) in
    listed _ _ l ts v w _
    (remove_insert Any any_cutting (of_list l) _ _ p q (node m us) (trees us) n (node_remove l p n) (node_insert l q m us named)
    refl i j (trees ts) v w e' f)

remove_remove_row : (p q : List ℕ) (s v w : WideTree) (i j n m : ℕ) → changed_at (Remove p i n) s ≡ Ok v
    → changed_at (Remove q j m) v ≡ Ok w → Row (Remove p i n) (Remove q j m) s v w (remove_past p i n (Remove q j m))
remove_remove_row p q (leaf t) v w i j n m e f =
    remove_remove IsText text_cutting leaf _ _ p q n m (leaf_remove p n) (leaf_remove q m) i j t v w e f
remove_remove_row p q (node l ts) v w i j n m e f =
    listed _ _ l ts v w _
    (remove_remove Any any_cutting (of_list l) _ _ p q n m (node_remove l p n) (node_remove l q m) i j (trees ts) v w
    (as_list (Remove p i n) l ts v e) f)

insert_rows : (p : List ℕ) (i : ℕ) (x : WideTree) (b : Mod) (s v w : WideTree) → IsWellFormed x → IsSoundMod b
    → changed_at (Insert p i x) s ≡ Ok v → changed_at b v ≡ Ok w → Row (Insert p i x) b s v w (insert_past p i x b)
insert_rows p i x (Assign q y) s v w h h' e f = row_none (Insert p i x) (Assign q y) s v w
insert_rows p i x (Insert q j y) s v w h h' e f = insert_insert_row p q x y s v w i j h h' e f
insert_rows p i x (Remove q j m) s v w h h' e f = insert_remove_row p q x s v w i j m h e f
insert_rows p i x (Split q j k) s v w h h' e f = row_none (Insert p i x) (Split q j k) s v w
insert_rows p i x (Join q j) s v w h h' e f = row_none (Insert p i x) (Join q j) s v w
insert_rows p i x (AssignNode q l) s v w h h' e f = row_none (Insert p i x) (AssignNode q l) s v w
insert_rows p i x (InsertNode q j y) s v w h h' e f = row_none (Insert p i x) (InsertNode q j y) s v w
insert_rows p i x (RemoveNode q j) s v w h h' e f = row_none (Insert p i x) (RemoveNode q j) s v w

remove_rows : (p : List ℕ) (i n : ℕ) (b : Mod) (s v w : WideTree) → IsSoundMod b
    → changed_at (Remove p i n) s ≡ Ok v → changed_at b v ≡ Ok w → Row (Remove p i n) b s v w (remove_past p i n b)
remove_rows p i n (Assign q y) s v w h e f = row_none (Remove p i n) (Assign q y) s v w
remove_rows p i n (Insert q j y) s v w h e f = remove_insert_row p q y s v w i j n h e f
remove_rows p i n (Remove q j m) s v w h e f = remove_remove_row p q s v w i j n m e f
remove_rows p i n (Split q j k) s v w h e f = row_none (Remove p i n) (Split q j k) s v w
remove_rows p i n (Join q j) s v w h e f = row_none (Remove p i n) (Join q j) s v w
remove_rows p i n (AssignNode q l) s v w h e f = row_none (Remove p i n) (AssignNode q l) s v w
remove_rows p i n (InsertNode q j y) s v w h e f = row_none (Remove p i n) (InsertNode q j y) s v w
remove_rows p i n (RemoveNode q j) s v w h e f = row_none (Remove p i n) (RemoveNode q j) s v w

pub table_rows : (a b : Mod) (s v w : WideTree) → IsSoundMod a → IsSoundMod b → changed_at a s ≡ Ok v
    → changed_at b v ≡ Ok w → Row a b s v w (by_table a b)
table_rows (Assign p x) b s v w h h' e f = row_none (Assign p x) b s v w
table_rows (Insert p i x) b s v w h h' e f = insert_rows p i x b s v w h h' e f
table_rows (Remove p i n) b s v w h h' e f = remove_rows p i n b s v w h' e f
table_rows (Split p i j) b s v w h h' e f = row_none (Split p i j) b s v w
table_rows (Join p i) b s v w h h' e f = row_none (Join p i) b s v w
table_rows (AssignNode p l) b s v w h h' e f = row_none (AssignNode p l) b s v w
table_rows (InsertNode p i x) b s v w h h' e f = row_none (InsertNode p i x) b s v w
table_rows (RemoveNode p i) b s v w h h' e f = row_none (RemoveNode p i) b s v w
