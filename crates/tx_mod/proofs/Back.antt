-- What undoes a modification gives the tree back.
use Rattle.std.proofs.Common.{◌≡◌, ℕ, zero, suc, ◌+◌, ◌<◌, ◌≤◌, Bool, true, false, leb, List, [], ◌∷◌, ◌++◌, length}
use Rattle.std.proofs.Common.{take, drop, Option, Some, None, Ok, Err, refl, sym, ap, subst, ◌∙◌, length-append}
use Rattle.std.proofs.Common.{append_assoc, arith}
use Rattle.std.specs.Prelude.{slice_get, IsOk, is_ok, unwrap_or}
use Rattle.std.specs.Option.{option_map_or}
use Rattle.std.specs.Str.{bytes_eq}
use Rattle.std.proofs.lemmas.Bool.{le-leb, leb-true}
use Rattle.std.proofs.lemmas.List.{take-append-drop, take_at, drop_at, length-take-le, drop-drop}
use Rattle.std.proofs.lemmas.Slice.Eq.{bytes_eq-Decides}
use Rattle.std.proofs.lemmas.Option.{slice_get_within}
use Rattle.tx_tree.specs.Cuts.{is_cut}
use Rattle.tx_tree.specs.Texts.{IsText}
use Rattle.tx_tree.specs.Limits.{IsWellFormed, AreWellFormed}
use Rattle.tx_tree.specs.Paths.{subtree, leading}
use Rattle.tx_tree.specs.WideTree.{WideTree, Forest, leaf, node, nil, cons, forest, trees, children_of, label_of}
use Rattle.tx_tree.proofs.Children.{trees_forest, forest_trees}
use Rattle.tx_tree.proofs.Cutting.{text_cut, cut_tested}
use Rattle.tx_tree.proofs.Walks.{drop_item}
use Rattle.tx_mod.specs.declared.faults.ModFault.{ModFault}
use Rattle.tx_mod.specs.declared.faults.ModFault.TheVariants.{NoPath, NotNode, BadPlace, CutsSymbol, Differ}
use Rattle.tx_mod.specs.declared.mods.Mod.{Mod}
use Rattle.tx_mod.specs.declared.mods.Mod.TheVariants.{Assign, Insert, Remove, Split, Join, AssignNode, InsertNode}
use Rattle.tx_mod.specs.declared.mods.Mod.TheVariants.{RemoveNode}
use Rattle.tx_mod.specs.Mods.{path_of, tuple, put_in, taken_out, slice_of, extent, is_clean, tree_up_to, tree_from}
use Rattle.tx_mod.specs.Mods.{replaced}
use Rattle.tx_mod.specs.Changes.{Outcome, asking, inserted, removed, split, split_child, joined, joined_at}
use Rattle.tx_mod.specs.Changes.{in_place_of_two, labelled, wrapped, unwrapped, changed_at, limited, put_back, changed}
use Rattle.tx_mod.specs.Inverses.{removed_part, without_child, inverse_at}
use Rattle.tx_mod.specs.Sound.{IsSoundMod, GivesBack}
use Rattle.tx_mod.proofs.Lists.{list_at}
use Rattle.tx_mod.proofs.Measuring.{join_is, split_is, unwrap_is}
use Rattle.tx_mod.proofs.Remade.{texts_together, text_before, text_behind, asked_ok}
use Rattle.tx_mod.proofs.Replacing.{down, subtree_of_replaced, replaced_again, replaced_by_same}
use Rattle.tx_mod.proofs.Whole.{changed_is, limited_ok, limited_within}

-- ---- lists

-- put in and taken out again
pub put_taken : {X : Type 0} (xs ys : List X) (i : ℕ) → i ≤ length xs → taken_out (put_in xs i ys) i (length ys) ≡ xs
put_taken {X} xs ys i le =
    let front : length (take i xs) ≡ i = length-take-le {A = X} i xs le in
    let one : take i (put_in xs i ys) ≡ take i xs = ap (take i) (append_assoc (take i xs) ys (drop i xs))
    ∙ take_at (take i xs) (ys ++ drop i xs) i front in
    let two : drop (i + length ys) (put_in xs i ys) ≡ drop i xs =
    drop_at (take i xs ++ ys) (drop i xs) (i + length ys)
    (length-append (take i xs) ys ∙ ap (λ n. n + length ys) front) in
    ap (λ z. z ++ drop (i + length ys) (put_in xs i ys)) one ∙ ap (λ z. take i xs ++ z) two ∙ take-append-drop i xs

-- taken out and put in again
pub taken_put : {X : Type 0} (xs : List X) (i n : ℕ) → i + n ≤ length xs
    → put_in (taken_out xs i n) i (slice_of xs i n) ≡ xs
taken_put {X} xs i n le =
    let front : length (take i xs) ≡ i = length-take-le {A = X} i xs (omega arith) in
    let one : take i (taken_out xs i n) ≡ take i xs = take_at (take i xs) (drop (i + n) xs) i front in
    let two : drop i (taken_out xs i n) ≡ drop (i + n) xs = drop_at (take i xs) (drop (i + n) xs) i front in
    let rest : slice_of xs i n ++ drop (i + n) xs ≡ drop i xs = ap (λ z. slice_of xs i n ++ z) (sym (drop-drop n i xs))
    ∙ take-append-drop n (drop i xs) in
    ap (λ z. z ++ slice_of xs i n ++ drop i (taken_out xs i n)) one ∙ ap (λ z. take i xs ++ slice_of xs i n ++ z) two
    ∙ append_assoc (take i xs) (slice_of xs i n) (drop (i + n) xs)
    ∙ ap (λ z. take i xs ++ z) rest ∙ take-append-drop i xs

pub get_at : {X : Type 0} → (xs : List X) (x : X) (ys : List X) (n : ℕ) → length xs ≡ n
    → slice_get (xs ++ x ∷ ys) n ≡ Some x
get_at [] x ys zero e = refl
get_at [] x ys (suc n) e = absurd (omega arith)
get_at (z ∷ xs) x ys zero e = absurd (omega arith)
get_at {X} (z ∷ xs) x ys (suc n) e = get_at {X = X} xs x ys n (omega arith)

-- ---- cuts

pub cut_between : (a b : List ℕ) (n : ℕ) → IsText a → IsText b → length a ≡ n → is_cut (a ++ b) n ≡ true
cut_between a b n h k e =
    cut_tested (a ++ b) n
    (text_cut (a ++ b) n (texts_together a b h k) (omega (arith, length-append a b))
    (subst IsText (sym (take_at a b n e)) h))

-- ---- outcomes

pub ok_asked : (b : Bool) (cause : ModFault) (o : Outcome) (v : WideTree) → asking b cause o ≡ Ok v
    → (b ≡ true) × (o ≡ Ok v)
ok_asked true cause o v e = (refl, e)
ok_asked false cause o v e = absurd (cc)

pub ok_got : (f : WideTree → Outcome) (cause : ModFault) (o : Option WideTree) (v : WideTree)
    → option_map_or f o (Err cause) ≡ Ok v → (c : WideTree) × (o ≡ Some c) × (f c ≡ Ok v)
ok_got f cause None v e = absurd (cc)
ok_got f cause (Some c) v e = (c, refl, e)

pub same_tree : (a b : WideTree) → ◌≡◌ {A = Outcome} (Ok a) (Ok b) → a ≡ b
same_tree a b e = cc

eq_self : (l : List ℕ) → bytes_eq l l ≡ true
eq_self l = (bytes_eq-Decides l l).1 refl

-- ---- insertion and removal

insert_back : (s x v : WideTree) (i : ℕ) → IsWellFormed s → IsWellFormed x → inserted s i x ≡ Ok v
    → removed v i (extent x) ≡ Ok s
insert_back (leaf text) (leaf more) v i h k e =
    let a = ok_asked (leb i (length text)) (BadPlace (length text)) _ v e in
    let b = ok_asked (is_cut text i) (CutsSymbol i) _ v a.1 in
    let le : i ≤ length text = leb-true i (length text) a.0 in
    let w : List ℕ = put_in text i more in
    let front : length (take i text) ≡ i = length-take-le i text le in
    let t1 : IsText (take i text) = text_before text i h b.0 in
    let t2 : IsText (drop i text) = text_behind text i h b.0 in
    let cut1 : is_cut w i ≡ true = subst (λ z. is_cut z i ≡ true) (sym (append_assoc (take i text) more (drop i text)))
    (cut_between (take i text) (more ++ drop i text) i t1 (texts_together more (drop i text) k t2) front) in
    let cut2 : is_cut w (i + length more) ≡ true =
    cut_between (take i text ++ more) (drop i text) (i + length more) (texts_together (take i text) more t1 k) t2
    (length-append (take i text) more ∙ ap (λ n. n + length more) front) in
    let fits : i + length more ≤ length w =
    omega (arith, length-append (take i text ++ more) (drop i text), length-append (take i text) more, front) in
    ap (λ z. removed z i (length more)) (sym (same_tree (leaf w) v b.1))
    ∙ asked_ok (leb (i + length more) (length w)) (BadPlace (length w)) _ (le-leb (i + length more) (length w) fits)
    ∙ asked_ok (is_cut w i) (CutsSymbol i) _ cut1
    ∙ asked_ok (is_cut w (i + length more)) (CutsSymbol (i + length more)) _ cut2
    ∙ ap (λ z. Ok (leaf z)) (put_taken text more i le)
insert_back (leaf text) (node m us) v i h k e = absurd (cc)
insert_back (node l ts) (leaf more) v i h k e = absurd (cc)
insert_back (node l ts) (node m us) v i h k e =
    let a = ok_asked (bytes_eq m tuple) NotNode _ v e in
    let b = ok_asked (leb i (length (trees ts))) (BadPlace (length (trees ts))) _ v a.1 in
    let le : i ≤ length (trees ts) = leb-true i (length (trees ts)) b.0 in
    let ws : List WideTree = put_in (trees ts) i (trees us) in
    let n : ℕ = length (trees us) in
    let fits : i + n ≤ length ws =
    omega (
      arith,
      length-append (take i (trees ts) ++ trees us) (drop i (trees ts)),
      length-append (take i (trees ts)) (trees us),
      length-take-le i (trees ts) le,
    ) in
    ap (λ z. removed z i n) (sym (same_tree (node l (forest ws)) v b.1))
    ∙ ap (λ zs. asking (leb (i + n) (length zs)) (BadPlace (length zs)) (Ok (node l (forest (taken_out zs i n)))))
    (trees_forest ws)
    ∙ asked_ok (leb (i + n) (length ws)) (BadPlace (length ws)) _ (le-leb (i + n) (length ws) fits)
    ∙ ap (λ zs. Ok (node l (forest zs))) (put_taken (trees ts) (trees us) i le)
    ∙ ap (λ f. Ok (node l f)) (forest_trees ts)

remove_back : (s v : WideTree) (i n : ℕ) → IsWellFormed s → removed s i n ≡ Ok v
    → inserted v i (removed_part s i n) ≡ Ok s
remove_back (leaf text) v i n h e =
    let a = ok_asked (leb (i + n) (length text)) (BadPlace (length text)) _ v e in
    let b = ok_asked (is_cut text i) (CutsSymbol i) _ v a.1 in
    let c = ok_asked (is_cut text (i + n)) (CutsSymbol (i + n)) _ v b.1 in
    let le : i + n ≤ length text = leb-true (i + n) (length text) a.0 in
    let w : List ℕ = taken_out text i n in
    let front : length (take i text) ≡ i = length-take-le i text (omega arith) in
    let cut : is_cut w i ≡ true = cut_between (take i text) (drop (i + n) text) i (text_before text i h b.0)
    (text_behind text (i + n) h c.0) front in
    let fits : i ≤ length w = omega (arith, length-append (take i text) (drop (i + n) text), front) in
    ap (λ z. inserted z i (leaf (slice_of text i n))) (sym (same_tree (leaf w) v c.1))
    ∙ asked_ok (leb i (length w)) (BadPlace (length w)) _ (le-leb i (length w) fits)
    ∙ asked_ok (is_cut w i) (CutsSymbol i) _ cut
    ∙ ap (λ z. Ok (leaf z)) (taken_put text i n le)
remove_back (node l ts) v i n h e =
    let a = ok_asked (leb (i + n) (length (trees ts))) (BadPlace (length (trees ts))) _ v e in
    let le : i + n ≤ length (trees ts) = leb-true (i + n) (length (trees ts)) a.0 in
    let ws : List WideTree = taken_out (trees ts) i n in
    let us : List WideTree = slice_of (trees ts) i n in
    let fits : i ≤ length ws =
    omega (
      arith,
      length-append (take i (trees ts)) (drop (i + n) (trees ts)),
      length-take-le i (trees ts) (omega arith),
    ) in
    ap (λ z. inserted z i (node tuple (forest us))) (sym (same_tree (node l (forest ws)) v a.1))
    ∙ ap (λ zs.
    asking (bytes_eq tuple tuple) NotNode
    (asking (leb i (length zs)) (BadPlace (length zs)) (Ok (node l (forest (put_in zs i (trees (forest us))))))))
    (trees_forest ws)
    ∙ ap (λ zs.
    asking (bytes_eq tuple tuple) NotNode
    (asking (leb i (length ws)) (BadPlace (length ws)) (Ok (node l (forest (put_in ws i zs)))))) (trees_forest us)
    ∙ asked_ok (bytes_eq tuple tuple) NotNode _ (eq_self tuple)
    ∙ asked_ok (leb i (length ws)) (BadPlace (length ws)) _ (le-leb i (length ws) fits)
    ∙ ap (λ zs. Ok (node l (forest zs))) (taken_put (trees ts) i n le)
    ∙ ap (λ f. Ok (node l f)) (forest_trees ts)

-- ---- splitting and joining

rejoined : (c : WideTree) (j : ℕ) → joined (tree_up_to c j) (tree_from c j) ≡ Ok c
rejoined (leaf text) j = ap (λ z. Ok (leaf z)) (take-append-drop j text)
rejoined (node l ts) j =
    asked_ok (bytes_eq l l) Differ _ (eq_self l)
    ∙ ap (λ zs. Ok (node l (forest (zs ++ trees (forest (drop j (trees ts))))))) (trees_forest (take j (trees ts)))
    ∙ ap (λ zs. Ok (node l (forest (take j (trees ts) ++ zs)))) (trees_forest (drop j (trees ts)))
    ∙ ap (λ zs. Ok (node l (forest zs))) (take-append-drop j (trees ts))
    ∙ ap (λ f. Ok (node l f)) (forest_trees ts)

split_back : (s v : WideTree) (i j : ℕ) → split s i j ≡ Ok v → joined_at v i ≡ Ok s
split_back (leaf text) v i j e = absurd (cc)
split_back (node l ts) v i j e =
    let T : List WideTree = trees ts in
    let g = ok_got (split_child l T i j) (BadPlace (length T)) (slice_get T i) v e in
    let c : WideTree = g.0 in
    let a = ok_asked (leb j (extent c)) (BadPlace (extent c)) _ v g.2 in
    let b = ok_asked (is_clean c j) (CutsSymbol j) _ v a.1 in
    let rest : List WideTree = drop (i + 1) T in
    let ws : List WideTree = take i T ++ tree_up_to c j ∷ tree_from c j ∷ rest in
    let within : i < length T = slice_get_within T i c g.1 in
    let front : length (take i T) ≡ i = length-take-le i T (omega arith) in
    let first : slice_get ws i ≡ Some (tree_up_to c j) =
    get_at (take i T) (tree_up_to c j) (tree_from c j ∷ rest) i front in
    let regrouped : ws ≡ (take i T ++ tree_up_to c j ∷ []) ++ tree_from c j ∷ rest =
    sym (append_assoc (take i T) (tree_up_to c j ∷ []) (tree_from c j ∷ rest)) in
    let second : slice_get ws (i + 1) ≡ Some (tree_from c j) =
    ap (λ zs. slice_get zs (i + 1)) regrouped
    ∙ get_at (take i T ++ tree_up_to c j ∷ []) (tree_from c j) rest (i + 1)
    (omega (arith, length-append (take i T) (tree_up_to c j ∷ []), front)) in
    let one : take i ws ≡ take i T = take_at (take i T) (tree_up_to c j ∷ tree_from c j ∷ rest) i front in
    let two : drop (i + 2) ws ≡ rest =
    ap (drop (i + 2)) (sym (append_assoc (take i T) (tree_up_to c j ∷ tree_from c j ∷ []) rest))
    ∙ drop_at (take i T ++ tree_up_to c j ∷ tree_from c j ∷ []) rest (i + 2)
    (omega (arith, length-append (take i T) (tree_up_to c j ∷ tree_from c j ∷ []), front)) in
    join_is v l ws i (tree_up_to c j) (tree_from c j) (sym (same_tree (node l (forest ws)) v b.1)) first second
    ∙ ap (in_place_of_two l ws i) (rejoined c j)
    ∙ ap (λ zs. Ok (node l (forest (zs ++ c ∷ drop (i + 2) ws)))) one
    ∙ ap (λ zs. Ok (node l (forest (take i T ++ c ∷ zs)))) two
    ∙ ap (λ zs. Ok (node l (forest zs))) (sym (list_at T i c g.1))
    ∙ ap (λ f. Ok (node l f)) (forest_trees ts)

-- what is joined, split again
record IsResplit (a b c : WideTree) : Type 0 where
  there : extent a ≤ extent c
  clean : is_clean c (extent a) ≡ true
  front : tree_up_to c (extent a) ≡ a
  back : tree_from c (extent a) ≡ b

resplit : (a b c : WideTree) → IsWellFormed a → IsWellFormed b → joined a b ≡ Ok c → IsResplit a b c
resplit (leaf x) (leaf y) c h k e =
    rw (← same_tree (leaf (x ++ y)) c e)
    (record {
      there = omega (arith, length-append x y);
      clean = cut_between x y (length x) h k refl;
      front = ap leaf (take_at x y (length x) refl);
      back = ap leaf (drop_at x y (length x) refl);
    })
resplit (leaf x) (node m us) c h k e = absurd (cc)
resplit (node l ts) (leaf y) c h k e = absurd (cc)
resplit (node l ts) (node m us) c h k e =
    let z : List WideTree = trees ts ++ trees us in
    let a = ok_asked (bytes_eq l m) Differ _ c e in
    let named : l ≡ m = (bytes_eq-Decides l m).0 a.0 in
    rw (← same_tree (node l (forest z)) c a.1)
    (record {
      there = omega (arith, ap length (trees_forest z), length-append (trees ts) (trees us));
      clean = refl;
      front = ap (λ zs. node l (forest (take (length (trees ts)) zs))) (trees_forest z)
          ∙ ap (λ zs. node l (forest zs)) (take_at (trees ts) (trees us) (length (trees ts)) refl)
          ∙ ap (node l) (forest_trees ts);
      back = ap (λ zs. node l (forest (drop (length (trees ts)) zs))) (trees_forest z)
          ∙ ap (λ zs. node l (forest zs)) (drop_at (trees ts) (trees us) (length (trees ts)) refl)
          ∙ ap (node l) (forest_trees us)
          ∙ ap (λ n. node n us) named;
    })

pub child_well_formed : (us : Forest) (i : ℕ) (c : WideTree) → AreWellFormed us → slice_get (trees us) i ≡ Some c
    → IsWellFormed c
child_well_formed nil i c h e = absurd (cc)
child_well_formed (cons u us) zero c h e = let same : u ≡ c = cc in subst IsWellFormed same h.0
child_well_formed (cons u us) (suc i) c h e = child_well_formed us i c h.1 e

pub ok_two : (l : List ℕ) (ts : List WideTree) (i : ℕ) (o : Outcome) (v : WideTree) → in_place_of_two l ts i o ≡ Ok v
    → (c : WideTree) × (o ≡ Ok c) × (node l (forest (take i ts ++ c ∷ drop (i + 2) ts)) ≡ v)
ok_two l ts i (Ok c) v e = (c, refl, same_tree _ v e)
ok_two l ts i (Err cause) v e = absurd (cc)

join_back : (s v : WideTree) (i : ℕ) → IsWellFormed s → joined_at s i ≡ Ok v
    → split v i (option_map_or extent (slice_get (children_of s) i) 0) ≡ Ok s
join_back (leaf text) v i h e = absurd (cc)
join_back (node l ts) v i h e =
    let T : List WideTree = trees ts in
    let bad : ModFault = BadPlace (length T) in
    let g = ok_got (λ a. option_map_or (λ b. in_place_of_two l T i (joined a b)) (slice_get T (i + 1)) (Err bad)) bad
    (slice_get T i) v e in
    let a : WideTree = g.0 in
    let k = ok_got (λ b. in_place_of_two l T i (joined a b)) bad (slice_get T (i + 1)) v g.2 in
    let b : WideTree = k.0 in
    let t = ok_two l T i (joined a b) v k.2 in
    let c : WideTree = t.0 in
    let r = resplit a b c (child_well_formed ts i a h.1 g.1) (child_well_formed ts (i + 1) b h.1 k.1) t.1 in
    let j : ℕ = extent a in
    let rest : List WideTree = drop (i + 2) T in
    let ws : List WideTree = take i T ++ c ∷ rest in
    let within : i < length T = slice_get_within T i a g.1 in
    let front : length (take i T) ≡ i = length-take-le i T (omega arith) in
    let found : slice_get ws i ≡ Some c = get_at (take i T) c rest i front in
    let one : take i ws ≡ take i T = take_at (take i T) (c ∷ rest) i front in
    let two : drop (i + 1) ws ≡ rest =
    ap (drop (i + 1)) (sym (append_assoc (take i T) (c ∷ []) rest))
    ∙ drop_at (take i T ++ c ∷ []) rest (i + 1) (omega (arith, length-append (take i T) (c ∷ []), front)) in
    let next : (i + 1) + 1 ≡ i + 2 = omega arith in
    let tail : drop (i + 1) T ≡ b ∷ rest = drop_item T (i + 1) b k.1 ∙ ap (λ n. b ∷ drop n T) next in
    ap (λ o. split v i (option_map_or extent o 0)) g.1
    ∙ split_is v l ws i j c (sym t.2) found
    ∙ asked_ok (leb j (extent c)) (BadPlace (extent c)) _ (le-leb j (extent c) r.there)
    ∙ asked_ok (is_clean c j) (CutsSymbol j) _ r.clean
    ∙ ap (λ z. Ok (node l (forest (take i ws ++ z ∷ tree_from c j ∷ drop (i + 1) ws)))) r.front
    ∙ ap (λ z. Ok (node l (forest (take i ws ++ a ∷ z ∷ drop (i + 1) ws)))) r.back
    ∙ ap (λ zs. Ok (node l (forest (zs ++ a ∷ b ∷ drop (i + 1) ws)))) one
    ∙ ap (λ zs. Ok (node l (forest (take i T ++ a ∷ b ∷ zs)))) two
    ∙ ap (λ zs. Ok (node l (forest (take i T ++ a ∷ zs)))) (sym tail)
    ∙ ap (λ zs. Ok (node l (forest zs))) (sym (list_at T i a g.1))
    ∙ ap (λ f. Ok (node l f)) (forest_trees ts)

-- ---- labels, wrapping and unwrapping

label_back : (s v : WideTree) (l : List ℕ) → labelled s l ≡ Ok v → labelled v (unwrap_or (label_of s) []) ≡ Ok s
label_back (leaf text) v l e = absurd (cc)
label_back (node m ts) v l e = ap (λ z. labelled z m) (sym (same_tree (node l ts) v e))

wrap_back : (s x v : WideTree) (i : ℕ) → wrapped s i x ≡ Ok v → unwrapped v i ≡ Ok s
wrap_back s (leaf text) v i e = absurd (cc)
wrap_back s (node l ts) v i e =
    let T : List WideTree = trees ts in
    let a = ok_asked (leb i (length T)) (BadPlace (length T)) _ v e in
    let front : length (take i T) ≡ i = length-take-le i T (leb-true i (length T) a.0) in
    let found : slice_get (put_in T i (s ∷ [])) i ≡ Some s =
    ap (λ zs. slice_get zs i) (append_assoc (take i T) (s ∷ []) (drop i T))
    ∙ get_at (take i T) s (drop i T) i front in
    unwrap_is v l (put_in T i (s ∷ [])) i s (sym (same_tree _ v a.1)) found

unwrap_back : (s v : WideTree) (i : ℕ) → unwrapped s i ≡ Ok v → wrapped v i (without_child s i) ≡ Ok s
unwrap_back (leaf text) v i e = absurd (cc)
unwrap_back (node l ts) v i e =
    let T : List WideTree = trees ts in
    let g = ok_got (λ c. Ok c) (BadPlace (length T)) (slice_get T i) v e in
    let found : slice_get T i ≡ Some v = g.1 ∙ ap (λ z. Some z) (same_tree g.0 v g.2) in
    let within : i < length T = slice_get_within T i v found in
    let ws : List WideTree = taken_out T i 1 in
    let fits : i ≤ length ws =
    omega (arith, length-append (take i T) (drop (i + 1) T), length-take-le i T (omega arith)) in
    let part : slice_of T i 1 ≡ v ∷ [] = ap (take 1) (drop_item T i v found) in
    ap (λ zs. asking (leb i (length zs)) (BadPlace (length zs)) (Ok (node l (forest (put_in zs i (v ∷ []))))))
    (trees_forest ws)
    ∙ asked_ok (leb i (length ws)) (BadPlace (length ws)) _ (le-leb i (length ws) fits)
    ∙ ap (λ zs. Ok (node l (forest (put_in ws i zs)))) (sym part)
    ∙ ap (λ zs. Ok (node l (forest zs))) (taken_put T i 1 (omega arith))
    ∙ ap (λ f. Ok (node l f)) (forest_trees ts)

-- ---- all kinds

pub back_at : (m : Mod) (s v : WideTree) → IsSoundMod m → IsWellFormed s → changed_at m s ≡ Ok v
    → changed_at (inverse_at m s) v ≡ Ok s
back_at (Assign p x) s v h k e = refl
back_at (Insert p i x) s v h k e = insert_back s x v i k h e
back_at (Remove p i n) s v h k e = remove_back s v i n k e
back_at (Split p i j) s v h k e = split_back s v i j e
back_at (Join p i) s v h k e = join_back s v i k e
back_at (AssignNode p l) s v h k e = label_back s v l e
back_at (InsertNode p i x) s v h k e = wrap_back s x v i e
back_at (RemoveNode p i) s v h k e = unwrap_back s v i e

pub same_path : (m : Mod) (s : WideTree) → path_of (inverse_at m s) ≡ path_of m
same_path (Assign p x) s = refl
same_path (Insert p i x) s = refl
same_path (Remove p i n) s = refl
same_path (Split p i j) s = refl
same_path (Join p i) s = refl
same_path (AssignNode p l) s = refl
same_path (InsertNode p i x) s = refl
same_path (RemoveNode p i) s = refl

pub well_formed_at : (path : List ℕ) (t s : WideTree) → subtree t path ≡ Some s → IsWellFormed t → IsWellFormed s
well_formed_at [] t s e h = let same : t ≡ s = cc in subst IsWellFormed same h
well_formed_at (i ∷ path) t s e h = let d = down t i path s e in
    well_formed_at path d.child s d.further (child_of t d.child h d.found)
  where
    child_of : (x c : WideTree) → IsWellFormed x → slice_get (children_of x) i ≡ Some c → IsWellFormed c
    child_of (leaf text) c k f = absurd (cc)
    child_of (node l us) c k f = child_well_formed us i c k.1 f

-- the changed tree, and what it is made of
pub record IsMadeOf (m : Mod) (t u : WideTree) : Type 0 where
  pub old : WideTree
  pub new : WideTree
  pub found : subtree t (path_of m) ≡ Some old
  pub at : changed_at m old ≡ Ok new
  pub is : u ≡ replaced t (path_of m) new

pub made_of : (m : Mod) (t u : WideTree) → changed m t ≡ Ok u → IsMadeOf m t u
made_of m t u e = from_subtree (subtree t (path_of m)) refl e
  where
    limited_is : (x : WideTree) → limited x ≡ Ok u → u ≡ x
    limited_is x f = let ok : IsOk (limited x) =
        ap is_ok f in sym (same_tree x u (sym (limited_ok x (limited_within x ok)) ∙ f))

    from_outcome : (s : WideTree) (o : Outcome) → subtree t (path_of m) ≡ Some s → changed_at m s ≡ o
        → put_back t (path_of m) o ≡ Ok u → IsMadeOf m t u
    from_outcome s (Ok v) f g h =
        record { old = s; new = v; found = f; at = g; is = limited_is (replaced t (path_of m) v) h }
    from_outcome s (Err cause) f g h = absurd (cc)

    from_subtree : (o : Option WideTree) → subtree t (path_of m) ≡ o
        → option_map_or (λ s. put_back t (path_of m) (changed_at m s)) o (Err (NoPath (leading t (path_of m)))) ≡ Ok u
        → IsMadeOf m t u
    from_subtree None f h = absurd (cc)
    from_subtree (Some s) f h = from_outcome s (changed_at m s) f refl h

pub gives_back : (m : Mod) (t : WideTree) → GivesBack m t
gives_back m t u sound formed within e =
    let d = made_of m t u e in
    let s : WideTree = d.old in
    let n : Mod = inverse_at m s in
    let p : path_of n ≡ path_of m = same_path m s in
    let found : subtree u (path_of n) ≡ Some d.new = ap (subtree u) p ∙ ap (λ x. subtree x (path_of m)) d.is
    ∙ subtree_of_replaced (path_of m) t s d.new d.found in
    let again : replaced u (path_of n) s ≡ t =
    ap (λ q. replaced u q s) p ∙ ap (λ x. replaced x (path_of m) s) d.is
    ∙ replaced_again (path_of m) t s d.new s d.found ∙ replaced_by_same (path_of m) t s d.found in
    ap (λ o. changed (option_map_or (inverse_at m) o m) u) d.found
    ∙ changed_is n u d.new s found (back_at m s d.new sound (well_formed_at (path_of m) t s d.found formed) d.at)
    ∙ ap limited again
    ∙ limited_ok t within
