-- What is known of a subtree where a modification makes something of it.
use Rattle.std.proofs.Common.{◌≡◌, ℕ, zero, suc, ◌+◌, ◌≤◌, max, Bool, true, false, leb, List, [], ◌∷◌, ◌++◌, length}
use Rattle.std.proofs.Common.{take, drop, get_or, Option, Some, None, Ok, Err, refl, sym, ap, subst, ◌∙◌, arith}
use Rattle.std.specs.Prelude.{slice_get, IsOkAnd, IfOk, Result}
use Rattle.std.specs.List.{flat_map}
use Rattle.std.specs.Option.{option_map_or}
use Rattle.std.specs.Str.{bytes_eq}
use Rattle.std.proofs.lemmas.Bool.{leb-true}
use Rattle.std.proofs.lemmas.List.{take-append-drop, append-nil, take_all, drop_all}
use Rattle.std.proofs.lemmas.List.Concat.{flat_map-append}
use Rattle.tx_tree.specs.Cuts.{is_cut}
use Rattle.tx_tree.specs.Texts.{item_bytes, IsText}
use Rattle.tx_tree.specs.Limits.{IsWithinLimits}
use Rattle.tx_tree.specs.WideTree.{WideTree, leaf, node, forest, size_of, depth_of, arity_of, text_length_of}
use Rattle.tx_tree.proofs.Children.{trees_forest}
use Rattle.tx_tree.proofs.Cutting.{cut_test, cut_text, text_rest}
use Rattle.tx_tree.proofs.PlaceFaults.{items_append}
use Rattle.tx_mod.specs.declared.faults.ModFault.{ModFault}
use Rattle.tx_mod.specs.declared.faults.ModFault.TheVariants.{NotNode, BadPlace, CutsSymbol, Differ}
use Rattle.tx_mod.specs.Mods.{tuple, put_in, taken_out, extent, is_clean, tree_up_to, tree_from}
use Rattle.tx_mod.specs.Changes.{Outcome, asking, inserted, removed, split, split_child, joined, joined_at}
use Rattle.tx_mod.specs.Changes.{in_place_of_two, labelled, wrapped, unwrapped}
use Rattle.tx_mod.proofs.Measuring.{some_size, halves, of_both}

-- ---- texts

-- two texts are one
pub texts_together : (a b : List ℕ) → IsText a → IsText b → IsText (a ++ b)
texts_together a b h k = (
  h.0 ++ k.0,
  items_append h.0 k.0 h.1 k.1,
  ap (λ x. x ++ b) h.2 ∙ ap (λ y. flat_map item_bytes h.0 ++ y) k.2
      ∙ sym (flat_map-append item_bytes h.0 k.0),
)

-- a text before a cut, and from there on
pub text_before : (text : List ℕ) (i : ℕ) → IsText text → is_cut text i ≡ true → IsText (take i text)
text_before text i h e = cut_text text i (cut_test text i h e)

pub text_behind : (text : List ℕ) (i : ℕ) → IsText text → is_cut text i ≡ true → IsText (drop i text)
text_behind text i h e =
    text_rest (take i text) (drop i text) (subst IsText (sym (take-append-drop i text)) h) (text_before text i h e)

pub text_put_in : (text more bytes : List ℕ) (i : ℕ) → IsText text → IsText more → is_cut text i ≡ true
    → bytes ≡ put_in text i more → IsText bytes
text_put_in text more bytes i h k e is =
    subst IsText (sym is)
    (texts_together (take i text ++ more) (drop i text)
    (texts_together (take i text) more (text_before text i h e) k) (text_behind text i h e))

pub text_taken_out : (text bytes : List ℕ) (i n : ℕ) → IsText text → is_cut text i ≡ true → is_cut text (i + n) ≡ true
    → bytes ≡ taken_out text i n → IsText bytes
text_taken_out text bytes i n h e f is =
    subst IsText (sym is)
    (texts_together (take i text) (drop (i + n) text) (text_before text i h e) (text_behind text (i + n) h f))

-- ---- what was asked

pub asked : (P : WideTree → Type 0) (b : Bool) (cause : ModFault) (o : Outcome) → IsOkAnd (asking b cause o) P
    → (b ≡ true) × IsOkAnd o P
asked P true cause o h = (refl, h)
asked P false cause o h = absurd h

pub asked_ok : (b : Bool) (cause : ModFault) (o : Outcome) → b ≡ true → asking b cause o ≡ o
asked_ok b cause o e = ap (λ c. asking c cause o) e

-- the outcome is this tree, which is within the limits
pub record IsTree (o : Outcome) (v : WideTree) : Type 0 where
  pub is : o ≡ Ok v
  pub within : IsWithinLimits v

-- insertion into a leaf
pub leaf_inserted : (s x : WideTree) (text more : List ℕ) (i : ℕ) → s ≡ leaf text → x ≡ leaf more
    → IsOkAnd (inserted s i x) IsWithinLimits
    → (is_cut text i ≡ true) × IsTree (inserted s i x) (leaf (put_in text i more))
leaf_inserted s x text more i e f h =
    let tree : WideTree = leaf (put_in text i more) in
    let is : inserted s i x ≡ asking (leb i (length text)) (BadPlace (length text))
    (asking (is_cut text i) (CutsSymbol i) (Ok tree)) = rw (e, f) refl in
    let a = asked IsWithinLimits (leb i (length text)) (BadPlace (length text))
    (asking (is_cut text i) (CutsSymbol i) (Ok tree)) (subst (λ o. IsOkAnd o IsWithinLimits) is h) in
    let b = asked IsWithinLimits (is_cut text i) (CutsSymbol i) (Ok tree) a.1 in (
      b.0,
      record {
        is = is
            ∙ asked_ok (leb i (length text)) (BadPlace (length text)) (asking (is_cut text i) (CutsSymbol i) (Ok tree))
            a.0
            ∙ asked_ok (is_cut text i) (CutsSymbol i) (Ok tree) b.0;
        within = b.1;
      },
    )

-- insertion into a node
pub node_inserted : (s x : WideTree) (l m : List ℕ) (ts us : List WideTree) (i : ℕ) → s ≡ node l (forest ts)
    → x ≡ node m (forest us) → IsOkAnd (inserted s i x) IsWithinLimits
    → (i ≤ length ts) × IsTree (inserted s i x) (node l (forest (put_in ts i us)))
node_inserted s x l m ts us i e f h =
    let tree : WideTree = node l (forest (put_in ts i us)) in
    let is : inserted s i x ≡ asking (bytes_eq m tuple) NotNode
    (asking (leb i (length ts)) (BadPlace (length ts)) (Ok tree)) =
    rw (e, f, trees_forest ts, trees_forest us) refl in
    let a = asked IsWithinLimits (bytes_eq m tuple) NotNode
    (asking (leb i (length ts)) (BadPlace (length ts)) (Ok tree)) (subst (λ o. IsOkAnd o IsWithinLimits) is h) in
    let b = asked IsWithinLimits (leb i (length ts)) (BadPlace (length ts)) (Ok tree) a.1 in (
      leb-true i (length ts) b.0,
      record {
        is = is
            ∙ asked_ok (bytes_eq m tuple) NotNode (asking (leb i (length ts)) (BadPlace (length ts)) (Ok tree)) a.0
            ∙ asked_ok (leb i (length ts)) (BadPlace (length ts)) (Ok tree) b.0;
        within = b.1;
      },
    )

-- removal from a leaf
pub leaf_removed : (s : WideTree) (text : List ℕ) (i n : ℕ) → s ≡ leaf text → IsOkAnd (removed s i n) IsWithinLimits
    → (is_cut text i ≡ true) × (is_cut text (i + n) ≡ true) × IsTree (removed s i n) (leaf (taken_out text i n))
leaf_removed s text i n e h =
    let tree : WideTree = leaf (taken_out text i n) in
    let inner : Outcome = asking (is_cut text (i + n)) (CutsSymbol (i + n)) (Ok tree) in
    let middle : Outcome = asking (is_cut text i) (CutsSymbol i) inner in
    let is : removed s i n ≡ asking (leb (i + n) (length text)) (BadPlace (length text)) middle = rw e refl in
    let a = asked IsWithinLimits (leb (i + n) (length text)) (BadPlace (length text)) middle
    (subst (λ o. IsOkAnd o IsWithinLimits) is h) in
    let b = asked IsWithinLimits (is_cut text i) (CutsSymbol i) inner a.1 in
    let d = asked IsWithinLimits (is_cut text (i + n)) (CutsSymbol (i + n)) (Ok tree) b.1 in (
      b.0,
      d.0,
      record {
        is = is ∙ asked_ok (leb (i + n) (length text)) (BadPlace (length text)) middle a.0
            ∙ asked_ok (is_cut text i) (CutsSymbol i) inner b.0
            ∙ asked_ok (is_cut text (i + n)) (CutsSymbol (i + n)) (Ok tree) d.0;
        within = d.1;
      },
    )

pub node_removed : (s : WideTree) (l : List ℕ) (ts : List WideTree) (i n : ℕ) → s ≡ node l (forest ts)
    → IsOkAnd (removed s i n) IsWithinLimits
    → (i + n ≤ length ts) × IsTree (removed s i n) (node l (forest (taken_out ts i n)))
node_removed s l ts i n e h =
    let tree : WideTree = node l (forest (taken_out ts i n)) in
    let is : removed s i n ≡ asking (leb (i + n) (length ts)) (BadPlace (length ts)) (Ok tree) =
    rw (e, trees_forest ts) refl in
    let a = asked IsWithinLimits (leb (i + n) (length ts)) (BadPlace (length ts)) (Ok tree)
    (subst (λ o. IsOkAnd o IsWithinLimits) is h) in (
      leb-true (i + n) (length ts) a.0,
      record { is = is ∙ asked_ok (leb (i + n) (length ts)) (BadPlace (length ts)) (Ok tree) a.0; within = a.1 },
    )

-- an element that is there
pub got : (P : WideTree → Type 0) (f : WideTree → Outcome) (cause : ModFault) (o : Option WideTree)
    → IsOkAnd (option_map_or f o (Err cause)) P → (c : WideTree) × (o ≡ Some c) × IsOkAnd (f c) P
got P f cause None h = absurd h
got P f cause (Some c) h = (c, refl, h)

-- a split child
pub record IsSplit (s : WideTree) (l : List ℕ) (ts : List WideTree) (i j : ℕ) : Type 0 where
  pub child : WideTree
  pub found : slice_get ts i ≡ Some child
  pub there : j ≤ extent child
  pub clean : is_clean child j ≡ true
  pub tree : IsTree (split s i j)
      (node l (forest (take i ts ++ tree_up_to child j ∷ tree_from child j ∷ drop (i + 1) ts)))

pub node_split : (s : WideTree) (l : List ℕ) (ts : List WideTree) (i j : ℕ) → s ≡ node l (forest ts)
    → IsOkAnd (split s i j) IsWithinLimits → IsSplit s l ts i j
node_split s l ts i j e h =
    let is : split s i j ≡ option_map_or (split_child l ts i j) (slice_get ts i) (Err (BadPlace (length ts))) =
    rw (e, trees_forest ts) refl in
    let g = got IsWithinLimits (split_child l ts i j) (BadPlace (length ts)) (slice_get ts i)
    (subst (λ o. IsOkAnd o IsWithinLimits) is h) in
    let c : WideTree = g.0 in
    let tree : WideTree = node l (forest (take i ts ++ tree_up_to c j ∷ tree_from c j ∷ drop (i + 1) ts)) in
    let a = asked IsWithinLimits (leb j (extent c)) (BadPlace (extent c))
    (asking (is_clean c j) (CutsSymbol j) (Ok tree)) g.2 in
    let b = asked IsWithinLimits (is_clean c j) (CutsSymbol j) (Ok tree) a.1 in
    record {
      child = c;
      found = g.1;
      there = leb-true j (extent c) a.0;
      clean = b.0;
      tree = record {
        is = is ∙ ap (λ o. option_map_or (split_child l ts i j) o (Err (BadPlace (length ts)))) g.1
            ∙ asked_ok (leb j (extent c)) (BadPlace (extent c)) (asking (is_clean c j) (CutsSymbol j) (Ok tree)) a.0
            ∙ asked_ok (is_clean c j) (CutsSymbol j) (Ok tree) b.0;
        within = b.1;
      };
    }

-- two joined children
pub record IsJoined (s : WideTree) (l : List ℕ) (ts : List WideTree) (i : ℕ) : Type 0 where
  pub first : WideTree
  pub second : WideTree
  pub third : WideTree
  pub found : slice_get ts i ≡ Some first
  pub next : slice_get ts (i + 1) ≡ Some second
  pub made : joined first second ≡ Ok third
  pub tree : IsTree (joined_at s i) (node l (forest (take i ts ++ third ∷ drop (i + 2) ts)))

two_in_place : (P : WideTree → Type 0) (l : List ℕ) (ts : List WideTree) (i : ℕ) (o : Outcome)
    → IsOkAnd (in_place_of_two l ts i o) P
    → (c : WideTree) × (o ≡ Ok c) × P (node l (forest (take i ts ++ c ∷ drop (i + 2) ts)))
two_in_place P l ts i (Ok c) h = (c, refl, h)
two_in_place P l ts i (Err cause) h = absurd h

pub node_joined : (s : WideTree) (l : List ℕ) (ts : List WideTree) (i : ℕ) → s ≡ node l (forest ts)
    → IsOkAnd (joined_at s i) IsWithinLimits → IsJoined s l ts i
node_joined s l ts i e h =
    let bad : ModFault = BadPlace (length ts) in
    let inner : WideTree → Outcome = λ a.
    option_map_or (λ b. in_place_of_two l ts i (joined a b)) (slice_get ts (i + 1)) (Err bad) in
    let is : joined_at s i ≡ option_map_or inner (slice_get ts i) (Err bad) = rw (e, trees_forest ts) refl in
    let g = got IsWithinLimits inner bad (slice_get ts i) (subst (λ o. IsOkAnd o IsWithinLimits) is h) in
    let k = got IsWithinLimits (λ b. in_place_of_two l ts i (joined g.0 b)) bad (slice_get ts (i + 1)) g.2 in
    let t = two_in_place IsWithinLimits l ts i (joined g.0 k.0) k.2 in
    record {
      first = g.0;
      second = k.0;
      third = t.0;
      found = g.1;
      next = k.1;
      made = t.1;
      tree = record {
        is = is ∙ ap (λ o. option_map_or inner o (Err bad)) g.1
            ∙ ap (λ o. option_map_or (λ b. in_place_of_two l ts i (joined g.0 b)) o (Err bad)) k.1
            ∙ ap (in_place_of_two l ts i) t.1;
        within = t.2;
      };
    }

pub node_wrapped : (s x : WideTree) (l : List ℕ) (ts : List WideTree) (i : ℕ) → x ≡ node l (forest ts)
    → IsOkAnd (wrapped s i x) IsWithinLimits
    → (i ≤ length ts) × IsTree (wrapped s i x) (node l (forest (put_in ts i (s ∷ []))))
node_wrapped s x l ts i e h =
    let tree : WideTree = node l (forest (put_in ts i (s ∷ []))) in
    let is : wrapped s i x ≡ asking (leb i (length ts)) (BadPlace (length ts)) (Ok tree) =
    rw (e, trees_forest ts) refl in
    let a = asked IsWithinLimits (leb i (length ts)) (BadPlace (length ts)) (Ok tree)
    (subst (λ o. IsOkAnd o IsWithinLimits) is h) in (
      leb-true i (length ts) a.0,
      record { is = is ∙ asked_ok (leb i (length ts)) (BadPlace (length ts)) (Ok tree) a.0; within = a.1 },
    )

pub node_unwrapped : (s : WideTree) (l : List ℕ) (ts : List WideTree) (i : ℕ) → s ≡ node l (forest ts)
    → IsOkAnd (unwrapped s i) IsWithinLimits
    → (c : WideTree) × (slice_get ts i ≡ Some c) × IsTree (unwrapped s i) c
node_unwrapped s l ts i e h =
    let is : unwrapped s i ≡ option_map_or (λ c. Ok c) (slice_get ts i) (Err (BadPlace (length ts))) =
    rw (e, trees_forest ts) refl in
    let g = got IsWithinLimits (λ c. Ok c) (BadPlace (length ts)) (slice_get ts i)
    (subst (λ o. IsOkAnd o IsWithinLimits) is h) in (
      g.0,
      g.1,
      record {
        is = is ∙ ap (λ o. option_map_or (λ c. Ok c) o (Err (BadPlace (length ts)))) g.1;
        within =
            g.2;
      },
    )

-- ---- halves

pub narrower : (a b c : WideTree) → size_of a + size_of b ≡ size_of c + 1 → max (depth_of a) (depth_of b) ≡ depth_of c
    → max (arity_of a) (arity_of b) ≤ arity_of c
    → max (text_length_of a) (text_length_of b) ≤ text_length_of c → IsWithinLimits c
    → IsWithinLimits a × IsWithinLimits b
narrower a b c size depth wide long w = (
  record {
    text = omega (arith, w.text);
    arity = omega (arith, w.arity);
    depth = omega (arith, w.depth);
    size = omega (arith, w.size, some_size a, some_size b);
  },
  record {
    text = omega (arith, w.text);
    arity = omega (arith, w.arity);
    depth = omega (arith, w.depth);
    size = omega (arith, w.size, some_size a, some_size b);
  },
)

pub halves_within : (c : WideTree) (j : ℕ) → j ≤ extent c → IsWithinLimits c
    → IsWithinLimits (tree_up_to c j) × IsWithinLimits (tree_from c j)
halves_within c j le w = let h = halves c j le in
    narrower (tree_up_to c j) (tree_from c j) c h.size h.depth h.wide h.long w

-- the parts of a node before and from a place
pub node_before : (t : WideTree) (l : List ℕ) (ts us : List WideTree) (j : ℕ) → t ≡ node l (forest ts)
    → us ≡ take j ts ++ [] ++ drop (length ts) ts → tree_up_to t j ≡ node l (forest us)
node_before t l ts us j e is =
    rw (e, trees_forest ts, is, drop_all (length ts) ts (omega arith))
    (ap (λ x. node l (forest x)) (sym (append-nil (take j ts ++ []) ∙ append-nil (take j ts))))

pub node_behind : (t : WideTree) (l : List ℕ) (ts us : List WideTree) (j : ℕ) → t ≡ node l (forest ts)
    → us ≡ take 0 ts ++ [] ++ drop j ts → tree_from t j ≡ node l (forest us)
node_behind t l ts us j e is = rw (e, trees_forest ts, is) refl

pub leaf_before : (t : WideTree) (text : List ℕ) (j : ℕ) → t ≡ leaf text → is_clean t j ≡ true
    → (is_cut text j ≡ true) × (tree_up_to t j ≡ leaf (take j text))
leaf_before t text j e h = (subst (λ x. is_clean x j ≡ true) e h, ap (λ x. tree_up_to x j) e)

pub leaf_behind : (t : WideTree) (text bytes : List ℕ) (j : ℕ) → t ≡ leaf text
    → bytes ≡ take 0 text ++ [] ++ drop j text → tree_from t j ≡ leaf bytes
leaf_behind t text bytes j e is = rw (e, is) refl

-- ---- pairs

pub leaves_joined : (s x : WideTree) (a b : List ℕ) → s ≡ leaf a → x ≡ leaf b → joined s x ≡ Ok (leaf (a ++ b))
leaves_joined s x a b e f = rw (e, f) refl

pub pair_joined : (s x : WideTree) (l m : List ℕ) (ts us : List WideTree) → s ≡ node l (forest ts)
    → x ≡ node m (forest us) → IsOkAnd (joined s x) IsWithinLimits
    → IsTree (joined s x) (node l (forest (ts ++ us)))
pair_joined s x l m ts us e f h =
    let tree : WideTree = node l (forest (ts ++ us)) in
    let is : joined s x ≡ asking (bytes_eq l m) Differ (Ok tree) = rw (e, f, trees_forest ts, trees_forest us) refl in
    let a = asked IsWithinLimits (bytes_eq l m) Differ (Ok tree) (subst (λ o. IsOkAnd o IsWithinLimits) is h) in
    record { is = is ∙ asked_ok (bytes_eq l m) Differ (Ok tree) a.0; within = a.1 }

pub whole_and : {X : Type 0} (xs ys : List X) → take (length xs) xs ++ ys ++ drop (length xs) xs ≡ xs ++ ys
whole_and {X} xs ys =
    rw (take_all {A = X} (length xs) xs (omega arith), drop_all (length xs) xs (omega arith)) (append-nil (xs ++ ys))

-- a joined child is within the limits, since the whole is
pub third_within : (l : List ℕ) (ts : List WideTree) (i : ℕ) (c : WideTree)
    → IsWithinLimits (node l (forest (take i ts ++ c ∷ drop (i + 2) ts))) → IsWithinLimits c
third_within l ts i c w =
    let p = of_both (take i ts) (c ∷ drop (i + 2) ts) in
    record {
      text = omega (arith, w.text, p.long);
      arity = omega (arith, w.arity, p.wide);
      depth = omega (arith, w.depth, p.depth);
      size = omega (arith, w.size, p.size);
    }

pub node_labelled : (s : WideTree) (l m : List ℕ) (ts : List WideTree) → s ≡ node m (forest ts)
    → labelled s l ≡ Ok (node l (forest ts))
node_labelled s l m ts e = rw e refl

-- ---- from what is made to what is promised

pub made_ok : {E : Type 0} (o : Outcome) (v w : WideTree) (r : Result WideTree E) → o ≡ Ok v → w ≡ v
    → IfOk r (λ t. t ≡ w) → IfOk r (λ u. o ≡ Ok u)
made_ok o v w (Ok u) e f h = e ∙ ap (λ x. Ok x) (sym (h ∙ f))
made_ok o v w (Err x) e f h = h

pub same_ok : {E : Type 0} (v w : WideTree) (r : Result WideTree E) → v ≡ w → IfOk r (λ t. t ≡ w) → IfOk r (λ u. u ≡ v)
same_ok v w (Ok u) e h = h ∙ sym e
same_ok v w (Err x) e h = h

pub node_is : (l : List ℕ) (us vs : List WideTree) → us ≡ vs → node l (forest us) ≡ node l (forest vs)
node_is l us vs e = ap (λ x. node l (forest x)) e

pub items_within : (l : List ℕ) (us vs : List WideTree) → us ≡ vs → IsWithinLimits (node l (forest vs))
    → IsWithinLimits (node l (forest us))
items_within l us vs e w = subst IsWithinLimits (sym (node_is l us vs e)) w

pub nil_between : (a b us : List WideTree) → us ≡ a ++ [] ++ b → us ≡ a ++ b
nil_between a b us e = e ∙ ap (λ x. x ++ b) (append-nil a)

pub nil_between_bytes : (a b us : List ℕ) → us ≡ a ++ [] ++ b → us ≡ a ++ b
nil_between_bytes a b us e = e ∙ ap (λ x. x ++ b) (append-nil a)

pub found_same : (ts : List WideTree) (i : ℕ) (c d : WideTree) → slice_get ts i ≡ Some c → d ≡ get_or ts i d → d ≡ c
found_same [] i c d e f = absurd (cc)
found_same (t ∷ ts) zero c d e f = let same : t ≡ c = cc in f ∙ same
found_same (t ∷ ts) (suc i) c d e f = found_same ts i c d e f
