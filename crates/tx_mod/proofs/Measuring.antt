-- The measure of what a modification makes of a subtree.
use Rattle.std.proofs.Common.{◌≡◌, ℕ, ◌+◌, ◌<◌, ◌≤◌, max, Bool, true, false, leb, List, [], ◌∷◌, ◌++◌, length, take}
use Rattle.std.proofs.Common.{drop, get_or, Option, Some, None, Ok, Err, refl, sym, ap, subst, ◌∙◌, length-append}
use Rattle.std.proofs.Common.{length-take, length-drop, arith}
use Rattle.std.specs.Prelude.{slice_get}
use Rattle.std.specs.Option.{option_map_or}
use Rattle.std.specs.Str.{bytes_eq}
use Rattle.std.proofs.lemmas.List.{take-append-drop}
use Rattle.std.proofs.lemmas.Option.{slice_get_past, slice_get_read}
use Rattle.std.proofs.lemmas.Slice.Eq.{bytes_eq-Decides}
use Rattle.std.proofs.lemmas.Bool.{le-leb}
use Rattle.std.proofs.lemmas.Grind.{common_steps}
use Rattle.tx_tree.specs.Limits.{IsWithinLimits}
use Rattle.tx_tree.specs.WideTree.{WideTree, Forest, leaf, node, nil, cons, forest, trees, size_of, total_size}
use Rattle.tx_tree.specs.WideTree.{depth_of, deepest, arity_of, widest, count, text_length_of, longest_text}
use Rattle.tx_tree.proofs.Children.{trees_forest, forest_trees, total_size-append, deepest-append, widest-append}
use Rattle.tx_tree.proofs.Children.{longest_text-append, count-forest}
use Rattle.tx_tree.proofs.Walks.{drop_item}
use Rattle.tx_mod.specs.declared.faults.ModFault.{ModFault}
use Rattle.tx_mod.specs.declared.faults.ModFault.TheVariants.{NotNode, BadPlace, CutsSymbol, Differ}
use Rattle.tx_mod.specs.declared.measures.Measure.{Measure}
use Rattle.tx_mod.specs.Mods.{tuple, put_in, taken_out, extent, is_clean, tree_up_to, tree_from}
use Rattle.tx_mod.specs.Changes.{Outcome, asking, inserted, removed, split, split_child, joined, joined_at}
use Rattle.tx_mod.specs.Changes.{in_place_of_two, wrapped, unwrapped}
use Rattle.tx_mod.specs.Measures.{IsPeak, HasMeasure}
use Rattle.tx_mod.proofs.Lists.{list_at}

pub some_size : (t : WideTree) → 1 ≤ size_of t
some_size (leaf text) = omega arith
some_size (node l ts) = omega arith

pub some_depth : (t : WideTree) → 1 ≤ depth_of t
some_depth (leaf text) = omega arith
some_depth (node l ts) = omega arith

-- ---- the four numbers of a list of trees

pub record IsSummed (ts : List WideTree) (size depth wide long : ℕ) : Type 0 where
  pub size_is : total_size (forest ts) ≡ size
  pub depth_is : deepest (forest ts) ≡ depth
  pub wide_is : widest (forest ts) ≡ wide
  pub long_is : longest_text (forest ts) ≤ long

-- the numbers of two lists together
pub record IsOfBoth (xs ys zs : List WideTree) : Type 0 where
  pub size : total_size (forest zs) ≡ total_size (forest xs) + total_size (forest ys)
  pub depth : deepest (forest zs) ≡ max (deepest (forest xs)) (deepest (forest ys))
  pub wide : widest (forest zs) ≡ max (widest (forest xs)) (widest (forest ys))
  pub long : longest_text (forest zs) ≡ max (longest_text (forest xs)) (longest_text (forest ys))
  pub many : length zs ≡ length xs + length ys

pub of_both : (xs ys : List WideTree) → IsOfBoth xs ys (xs ++ ys)
of_both xs ys =
    record {
      size = total_size-append xs ys;
      depth = deepest-append xs ys;
      wide = widest-append xs ys;
      long = longest_text-append xs ys;
      many = length-append xs ys;
    }

pub of_parts : (ts : List WideTree) (i : ℕ) → IsOfBoth (take i ts) (drop i ts) ts
of_parts ts i = subst (IsOfBoth (take i ts) (drop i ts)) (take-append-drop i ts) (of_both (take i ts) (drop i ts))

pub of_put_in : (ts us : List WideTree) (i : ℕ) → IsOfBoth ts us (put_in ts i us)
of_put_in ts us i =
    let a = of_both (take i ts ++ us) (drop i ts) in
    let b = of_both (take i ts) us in
    let p = of_parts ts i in
    record {
      size = omega (arith, a.size, b.size, p.size);
      depth = omega (arith, a.depth, b.depth, p.depth);
      wide = omega (arith, a.wide, b.wide, p.wide);
      long = omega (arith, a.long, b.long, p.long);
      many = omega (arith, a.many, b.many, p.many);
    }

-- a list round one of its trees
pub of_round : (ts : List WideTree) (i : ℕ) (c : WideTree) → slice_get ts i ≡ Some c
    → IsOfBoth (take i ts) (c ∷ drop (i + 1) ts) ts
of_round ts i c e =
    subst (IsOfBoth (take i ts) (c ∷ drop (i + 1) ts)) (sym (list_at ts i c e))
    (of_both (take i ts) (c ∷ drop (i + 1) ts))

-- ---- limits of nodes

pub record IsNarrow (ts : List WideTree) : Type 0 where
  pub many : length ts ≤ 65535
  pub wide : widest (forest ts) ≤ 65535
  pub long : longest_text (forest ts) ≤ 1048575

pub narrow : (s : WideTree) (l : List ℕ) (ts : List WideTree) → s ≡ node l (forest ts) → IsWithinLimits s → IsNarrow ts
narrow s l ts e w =
    let arity = ap arity_of e in
    let text = ap text_length_of e in
    record {
      many = omega (arith, w.arity, arity, count-forest ts);
      wide = omega (arith, w.arity, arity);
      long = omega (arith, w.text, text);
    }

pub size_of_node : (s : WideTree) (l : List ℕ) (ts : List WideTree) → s ≡ node l (forest ts)
    → size_of s ≡ 1 + total_size (forest ts)
size_of_node s l ts e = ap size_of e

pub depth_of_node : (s : WideTree) (l : List ℕ) (ts : List WideTree) → s ≡ node l (forest ts)
    → depth_of s ≡ 1 + deepest (forest ts)
depth_of_node s l ts e = ap depth_of e

peak_within : (most n peak : ℕ) → peak ≤ most → n ≡ 0 → IsPeak most n peak
peak_within most n peak h e = record { within = λ _. h; past = λ lt. absurd (omega arith) }

peak_max : (most n wide : ℕ) → wide ≤ most → IsPeak most n (max n wide)
peak_max most n wide h = record { within = λ le. omega arith; past = λ lt. omega arith }

-- a node whose number of children may pass the limit, and nothing else of it
pub made_node : (outcome : Outcome) (a : Measure) (l : List ℕ) (ts : List WideTree) → outcome ≡ Ok (node l (forest ts))
    → a.text ≡ 0 → a.arity ≡ length ts
    → widest (forest ts) ≤ 65535 → longest_text (forest ts) ≤ 1048575 → a.depth ≡ 1 + deepest (forest ts)
    → a.size ≡ 1 + total_size (forest ts) → HasMeasure outcome a
made_node outcome a l ts is text arity wide long depth size =
    record {
      tree = node l (forest ts);
      is = is;
      text = peak_within 1048575 a.text (longest_text (forest ts)) long text;
      arity = subst (λ n. IsPeak 65535 n (max (count (forest ts)) (widest (forest ts)))) (count-forest ts ∙ sym arity)
          (peak_max 65535 (count (forest ts)) (widest (forest ts)) wide);
      depth = depth;
      size = size;
    }

-- ---- insertion

labels_eq : (l m : List ℕ) → l ≡ m → bytes_eq l m ≡ true
labels_eq l m e = (bytes_eq-Decides l m).1 e

pub nodes_inserted : (s x : WideTree) (l m : List ℕ) (ts us : List WideTree) (i : ℕ) → s ≡ node l (forest ts)
    → x ≡ node m (forest us) → m ≡ tuple
    → inserted s i x ≡ asking (leb i (length ts)) (BadPlace (length ts)) (Ok (node l (forest (put_in ts i us))))
nodes_inserted s x l m ts us i e f named =
    rw (e, f, trees_forest ts, trees_forest us)
    (ap (λ b. asking b NotNode
    (asking (leb i (length ts)) (BadPlace (length ts)) (Ok (node l (forest (put_in ts i us))))))
    (labels_eq m tuple named))

pub insert_made : (s x : WideTree) (l m : List ℕ) (ts us : List WideTree) (i : ℕ) (a : Measure) → s ≡ node l (forest ts)
    → x ≡ node m (forest us) → m ≡ tuple → i ≤ length ts
    → IsWithinLimits s → IsWithinLimits x → a.text ≡ 0 → a.arity ≡ length ts + length us
    → a.depth ≡ max (depth_of s) (depth_of x) → a.size + 1 ≡ size_of s + size_of x
    → HasMeasure (inserted s i x) a
insert_made s x l m ts us i a e f named le w v text arity depth size =
    let p = of_put_in ts us i in
    let n = narrow s l ts e w in
    let k = narrow x m us f v in
    let is : inserted s i x ≡ Ok (node l (forest (put_in ts i us))) =
    nodes_inserted s x l m ts us i e f named
    ∙ ap (λ b. asking b (BadPlace (length ts)) (Ok (node l (forest (put_in ts i us))))) (le-leb i (length ts) le) in
    made_node (inserted s i x) a l (put_in ts i us) is text (omega (arith, arity, p.many))
    (omega (arith, p.wide, n.wide, k.wide)) (omega (arith, p.long, n.long, k.long))
    (omega (arith, depth, depth_of_node s l ts e, depth_of_node x m us f, p.depth))
    (omega (arith, size, size_of_node s l ts e, size_of_node x m us f, p.size))

pub insert_past : (s x : WideTree) (l m : List ℕ) (ts us : List WideTree) (i : ℕ) → s ≡ node l (forest ts)
    → x ≡ node m (forest us) → m ≡ tuple → length ts < i
    → inserted s i x ≡ Err (BadPlace (length ts))
insert_past s x l m ts us i e f named lt =
    let no : leb i (length ts) ≡ false = grind arith in
    nodes_inserted s x l m ts us i e f named
    ∙ ap (λ b. asking b (BadPlace (length ts)) (Ok (node l (forest (put_in ts i us))))) no

-- ---- removal

pub remove_made : (s : WideTree) (l : List ℕ) (ts : List WideTree) (i n : ℕ) (a : Measure) → s ≡ node l (forest ts)
    → i + n ≤ length ts → IsWithinLimits s → a.text ≡ 0 → a.arity ≡ 0
    → a.depth ≡ 1 + max (deepest (forest (take i ts))) (deepest (forest (drop (i + n) ts)))
    → a.size ≡ 1 + total_size (forest (take i ts)) + total_size (forest (drop (i + n) ts))
    → HasMeasure (removed s i n) a
remove_made s l ts i n a e le w text arity depth size =
    let m = narrow s l ts e w in
    let p = of_both (take i ts) (drop (i + n) ts) in
    let front = of_parts ts i in
    let back = of_parts ts (i + n) in
    let is : removed s i n ≡ Ok (node l (forest (taken_out ts i n))) =
    rw (e, trees_forest ts)
    (ap (λ b. asking b (BadPlace (length ts)) (Ok (node l (forest (taken_out ts i n)))))
    (le-leb (i + n) (length ts) le)) in
    record {
      tree = node l (forest (taken_out ts i n));
      is = is;
      text = peak_within 1048575 a.text (longest_text (forest (taken_out ts i n)))
          (omega (arith, p.long, front.long, back.long, m.long)) text;
      arity = peak_within 65535 a.arity (max (count (forest (taken_out ts i n))) (widest (forest (taken_out ts i n))))
          (omega (
            arith,
            p.wide,
            front.wide,
            back.wide,
            m.wide,
            m.many,
            count-forest (taken_out ts i n),
            p.many,
            front.many,
            back.many,
            length-drop (i + n) ts,
            length-take i ts,
          )) arity;
      depth = omega (arith, depth, p.depth);
      size = omega (arith, size, p.size);
    }

pub remove_past : (s : WideTree) (l : List ℕ) (ts : List WideTree) (i n : ℕ) → s ≡ node l (forest ts)
    → length ts < i + n → removed s i n ≡ Err (BadPlace (length ts))
remove_past s l ts i n e lt =
    let no : leb (i + n) (length ts) ≡ false = grind arith in
    rw (e, trees_forest ts) (ap (λ b. asking b (BadPlace (length ts)) (Ok (node l (forest (taken_out ts i n))))) no)

-- ---- splitting

-- the two halves of a child
pub record AreHalves (c : WideTree) (j : ℕ) : Type 0 where
  pub size : size_of (tree_up_to c j) + size_of (tree_from c j) ≡ size_of c + 1
  pub depth : max (depth_of (tree_up_to c j)) (depth_of (tree_from c j)) ≡ depth_of c
  pub wide : max (arity_of (tree_up_to c j)) (arity_of (tree_from c j)) ≤ arity_of c
  pub long : max (text_length_of (tree_up_to c j)) (text_length_of (tree_from c j)) ≤ text_length_of c

pub halves : (c : WideTree) (j : ℕ) → j ≤ extent c → AreHalves c j
halves (leaf text) j le =
    record {
      size = omega (arith, length-take j text, length-drop j text);
      depth = omega arith;
      wide = omega arith;
      long = omega (arith, length-take j text, length-drop j text);
    }
halves (node l ts) j le =
    let p = of_parts (trees ts) j in
    let same = forest_trees_of ts in
    record {
      size = omega (arith, p.size, ap total_size same);
      depth = omega (arith, p.depth, ap deepest same);
      wide = omega (
        arith,
        p.wide,
        p.many,
        ap widest same,
        ap count same,
        count-forest (take j (trees ts)),
        count-forest (drop j (trees ts)),
        count-forest (trees ts),
      );
      long = omega (arith, p.long, ap longest_text same);
    }
  where
    forest_trees_of : (us : Forest) → forest (trees us) ≡ us
    forest_trees_of nil = refl
    forest_trees_of (cons u us) = ap (λ x. cons u x) (forest_trees_of us)

-- what a split evaluates to
pub split_is : (s : WideTree) (l : List ℕ) (ts : List WideTree) (i j : ℕ) (c : WideTree) → s ≡ node l (forest ts)
    → slice_get ts i ≡ Some c → split s i j ≡ split_child l ts i j c
split_is s l ts i j c e f =
    rw (e, trees_forest ts) (ap (λ o. option_map_or (split_child l ts i j) o (Err (BadPlace (length ts)))) f)

pub split_past : (s : WideTree) (l : List ℕ) (ts : List WideTree) (i j : ℕ) → s ≡ node l (forest ts) → length ts ≤ i
    → split s i j ≡ Err (BadPlace (length ts))
split_past s l ts i j e le =
    rw (e, trees_forest ts)
    (ap (λ o. option_map_or (split_child l ts i j) o (Err (BadPlace (length ts)))) (slice_get_past ts i le))

pub split_past_child : (s : WideTree) (l : List ℕ) (ts : List WideTree) (i j : ℕ) (c : WideTree)
    → s ≡ node l (forest ts) → slice_get ts i ≡ Some c → extent c < j
    → split s i j ≡ Err (BadPlace (extent c))
split_past_child s l ts i j c e f lt =
    let no : leb j (extent c) ≡ false = grind arith in
    split_is s l ts i j c e f
    ∙ ap (λ b. asking b (BadPlace (extent c))
    (asking (is_clean c j) (CutsSymbol j)
    (Ok (node l (forest (take i ts ++ tree_up_to c j ∷ tree_from c j ∷ drop (i + 1) ts)))))) no

pub split_clean : (s : WideTree) (l : List ℕ) (ts : List WideTree) (i j : ℕ) (c : WideTree) (b : Bool)
    → s ≡ node l (forest ts) → slice_get ts i ≡ Some c → j ≤ extent c → is_clean c j ≡ b
    → split s i j ≡ asking b (CutsSymbol j)
    (Ok (node l (forest (take i ts ++ tree_up_to c j ∷ tree_from c j ∷ drop (i + 1) ts))))
split_clean s l ts i j c b e f le clean =
    split_is s l ts i j c e f
    ∙ ap (λ d. asking d (BadPlace (extent c))
    (asking (is_clean c j) (CutsSymbol j)
    (Ok (node l (forest (take i ts ++ tree_up_to c j ∷ tree_from c j ∷ drop (i + 1) ts)))))) (le-leb j (extent c) le)
    ∙ ap (λ d. asking d (CutsSymbol j)
    (Ok (node l (forest (take i ts ++ tree_up_to c j ∷ tree_from c j ∷ drop (i + 1) ts)))))
    clean

pub split_made : (s : WideTree) (l : List ℕ) (ts : List WideTree) (i j : ℕ) (c : WideTree) (a : Measure)
    → s ≡ node l (forest ts) → slice_get ts i ≡ Some c → j ≤ extent c → is_clean c j ≡ true
    → IsWithinLimits s → a.text ≡ 0 → a.arity ≡ length ts + 1 → a.depth ≡ depth_of s → a.size ≡ size_of s + 1
    → HasMeasure (split s i j) a
split_made s l ts i j c a e f le clean w text arity depth size =
    let n = narrow s l ts e w in
    let r = of_round ts i c f in
    let h = halves c j le in
    let us : List WideTree = tree_up_to c j ∷ tree_from c j ∷ drop (i + 1) ts in
    let p = of_both (take i ts) us in
    made_node (split s i j) a l (take i ts ++ us) (split_clean s l ts i j c true e f le clean) text
    (omega (arith, arity, p.many, r.many)) (omega (arith, p.wide, r.wide, n.wide, h.wide))
    (omega (arith, p.long, r.long, n.long, h.long))
    (omega (arith, depth, depth_of_node s l ts e, p.depth, r.depth, h.depth))
    (omega (arith, size, size_of_node s l ts e, p.size, r.size, h.size))

-- ---- joining

pub nodes_joined : (s x : WideTree) (l m : List ℕ) (ts us : List WideTree) → s ≡ node l (forest ts)
    → x ≡ node m (forest us) → l ≡ m → joined s x ≡ Ok (node l (forest (ts ++ us)))
nodes_joined s x l m ts us e f named =
    rw (e, f, trees_forest ts, trees_forest us)
    (ap (λ b. asking b Differ (Ok (node l (forest (ts ++ us))))) (labels_eq l m named))

pub pair_made : (s x : WideTree) (l m : List ℕ) (ts us : List WideTree) (a : Measure) → s ≡ node l (forest ts)
    → x ≡ node m (forest us) → l ≡ m → IsWithinLimits s → IsWithinLimits x → a.text ≡ 0
    → a.arity ≡ length ts + length us → a.depth ≡ max (depth_of s) (depth_of x) → a.size + 1 ≡ size_of s + size_of x
    → HasMeasure (joined s x) a
pair_made s x l m ts us a e f named w v text arity depth size =
    let p = of_both ts us in
    let n = narrow s l ts e w in
    let k = narrow x m us f v in
    made_node (joined s x) a l (ts ++ us) (nodes_joined s x l m ts us e f named) text (omega (arith, arity, p.many))
    (omega (arith, p.wide, n.wide, k.wide)) (omega (arith, p.long, n.long, k.long))
    (omega (arith, depth, depth_of_node s l ts e, depth_of_node x m us f, p.depth))
    (omega (arith, size, size_of_node s l ts e, size_of_node x m us f, p.size))

-- ---- wrapping

pub wrap_past : (s x : WideTree) (l : List ℕ) (ts : List WideTree) (i : ℕ) → x ≡ node l (forest ts) → length ts < i
    → wrapped s i x ≡ Err (BadPlace (length ts))
wrap_past s x l ts i e lt =
    let no : leb i (length ts) ≡ false = grind arith in
    rw (e, trees_forest ts) (ap (λ b. asking b (BadPlace (length ts)) (Ok (node l (forest (put_in ts i (s ∷ [])))))) no)

pub wrap_made : (s x : WideTree) (l : List ℕ) (ts : List WideTree) (i : ℕ) (a : Measure) → x ≡ node l (forest ts)
    → i ≤ length ts → IsWithinLimits s → IsWithinLimits x → a.text ≡ 0
    → a.arity ≡ length ts + 1 → a.depth ≡ max (depth_of x) (depth_of s + 1) → a.size ≡ size_of s + size_of x
    → HasMeasure (wrapped s i x) a
wrap_made s x l ts i a e le w v text arity depth size =
    let p = of_put_in ts (s ∷ []) i in
    let n = narrow x l ts e v in
    let is : wrapped s i x ≡ Ok (node l (forest (put_in ts i (s ∷ [])))) =
    rw (e, trees_forest ts)
    (ap (λ b. asking b (BadPlace (length ts)) (Ok (node l (forest (put_in ts i (s ∷ []))))))
    (le-leb i (length ts) le)) in
    made_node (wrapped s i x) a l (put_in ts i (s ∷ [])) is text (omega (arith, arity, p.many))
    (omega (arith, p.wide, n.wide, w.arity)) (omega (arith, p.long, n.long, w.text))
    (omega (arith, depth, depth_of_node x l ts e, p.depth)) (omega (arith, size, size_of_node x l ts e, p.size))

-- ---- joining of two children

pub join_is : (s : WideTree) (l : List ℕ) (ts : List WideTree) (i : ℕ) (a b : WideTree) → s ≡ node l (forest ts)
    → slice_get ts i ≡ Some a → slice_get ts (i + 1) ≡ Some b
    → joined_at s i ≡ in_place_of_two l ts i (joined a b)
join_is s l ts i a b e f g =
    rw (e, trees_forest ts)
    (ap (λ o. option_map_or
    (λ x. option_map_or (λ y. in_place_of_two l ts i (joined x y)) (slice_get ts (i + 1))
    (Err (BadPlace (length ts)))) o (Err (BadPlace (length ts)))) f
    ∙ ap (λ o. option_map_or (λ y. in_place_of_two l ts i (joined a y)) o (Err (BadPlace (length ts)))) g)

pub join_past : (s : WideTree) (l : List ℕ) (ts : List WideTree) (i : ℕ) → s ≡ node l (forest ts) → length ts ≤ i + 1
    → joined_at s i ≡ Err (BadPlace (length ts))
join_past s l ts i e le = rw (e, trees_forest ts) (past (slice_get ts i) ∙ refl)
  where
    past : (o : Option WideTree)
        → option_map_or
        (λ x. option_map_or (λ y. in_place_of_two l ts i (joined x y)) (slice_get ts (i + 1))
        (Err (BadPlace (length ts)))) o (Err (BadPlace (length ts))) ≡ Err (BadPlace (length ts))
    past None = refl
    past (Some x) =
        ap (λ o. option_map_or (λ y. in_place_of_two l ts i (joined x y)) o (Err (BadPlace (length ts))))
        (slice_get_past ts (i + 1) le)

pub join_refused : (s : WideTree) (l : List ℕ) (ts : List WideTree) (i : ℕ) (a b : WideTree) (cause : ModFault)
    → s ≡ node l (forest ts) → slice_get ts i ≡ Some a → slice_get ts (i + 1) ≡ Some b
    → joined a b ≡ Err cause → joined_at s i ≡ Err cause
join_refused s l ts i a b cause e f g h = join_is s l ts i a b e f g ∙ ap (in_place_of_two l ts i) h

-- the numbers of two trees that are joined
pub record IsJoint (a b c : WideTree) : Type 0 where
  pub size : size_of c + 1 ≡ size_of a + size_of b
  pub depth : depth_of c ≡ max (depth_of a) (depth_of b)

pub joint : (a b c : WideTree) → joined a b ≡ Ok c → IsJoint a b c
joint (leaf x) (leaf y) c e = let same : leaf (x ++ y) ≡ c =
    cc in rw (← same) (record { size = omega (arith, length-append x y); depth = omega arith })
joint (leaf x) (node m us) c e = absurd (cc)
joint (node l ts) (leaf y) c e = absurd (cc)
joint (node l ts) (node m us) c e =
    let same : node l (forest (trees ts ++ trees us)) ≡ c = ok_of (bytes_eq l m) e in
    let p = of_both (trees ts) (trees us) in
    rw (← same)
    (record {
      size = omega (arith, p.size, ap total_size (forest_trees ts), ap total_size (forest_trees us));
      depth = omega (arith, p.depth, ap deepest (forest_trees ts), ap deepest (forest_trees us));
    })
  where
    ok_of : (t : Bool) → asking t Differ (Ok (node l (forest (trees ts ++ trees us)))) ≡ Ok c
        → node l (forest (trees ts ++ trees us)) ≡ c
    ok_of true f = cc
    ok_of false f = absurd (cc)

peak_other : (most n peak x : ℕ) → IsPeak most n peak → x ≤ most → IsPeak most n (max x peak)
peak_other most n peak x h le = record { within = λ w. omega (arith, h.within w); past = λ p. omega (arith, h.past p) }

pub join_made : (s : WideTree) (l : List ℕ) (ts : List WideTree) (i : ℕ) (a b : WideTree) (pair whole : Measure)
    → s ≡ node l (forest ts) → slice_get ts i ≡ Some a → slice_get ts (i + 1) ≡ Some b
    → HasMeasure (joined a b) pair → IsWithinLimits s → whole.text ≡ pair.text → whole.arity ≡ pair.arity
    → whole.depth ≡ depth_of s → whole.size + 1 ≡ size_of s → HasMeasure (joined_at s i) whole
join_made s l ts i a b pair whole e f g h w text arity depth size =
    let n = narrow s l ts e w in
    let c : WideTree = h.tree in
    let j = joint a b c h.is in
    let r = of_round ts i a f in
    let back : List WideTree = drop (i + 2) ts in
    let tail : drop (i + 1) ts ≡ b ∷ back = drop_item ts (i + 1) b g
    ∙ ap (λ k. b ∷ drop k ts) (let two : (i + 1) + 1 ≡ i + 2 = omega arith in two) in
    let after : List WideTree = drop (i + 1) ts in
    let tail_size : total_size (forest after) ≡ size_of b + total_size (forest back) =
    ap (λ us. total_size (forest us)) tail in
    let tail_depth : deepest (forest after) ≡ max (depth_of b) (deepest (forest back)) =
    ap (λ us. deepest (forest us)) tail in
    let tail_wide : widest (forest after) ≡ max (arity_of b) (widest (forest back)) =
    ap (λ us. widest (forest us)) tail in
    let tail_long : longest_text (forest after) ≡ max (text_length_of b) (longest_text (forest back)) =
    ap (λ us. longest_text (forest us)) tail in
    let tail_many : length after ≡ length (b ∷ back) = ap (λ us. length us) tail in
    let us : List WideTree = take i ts ++ c ∷ back in
    let p = of_both (take i ts) (c ∷ back) in
    let long : longest_text (forest us) ≡ max (max (longest_text (forest (take i ts))) (longest_text (forest back)))
    (text_length_of c) = omega (arith, p.long) in
    let wide : arity_of (node l (forest us)) ≡ max
    (max (count (forest us)) (max (widest (forest (take i ts))) (widest (forest back)))) (arity_of c) =
    omega (arith, p.wide) in
    record {
      tree = node l (forest us);
      is = join_is s l ts i a b e f g ∙ ap (in_place_of_two l ts i) h.is;
      text = rw (text, long)
          (peak_other 1048575 pair.text (text_length_of c)
          (max (longest_text (forest (take i ts))) (longest_text (forest back))) h.text
          (omega (arith, r.long, tail_long, n.long)));
      arity = rw (arity, wide)
          (peak_other 65535 pair.arity (arity_of c)
          (max (count (forest us)) (max (widest (forest (take i ts))) (widest (forest back)))) h.arity
          (omega (arith, r.wide, tail_wide, n.wide, n.many, count-forest us, p.many, r.many, tail_many)));
      depth = omega (arith, depth, depth_of_node s l ts e, r.depth, tail_depth, p.depth, j.depth);
      size = omega (arith, size, size_of_node s l ts e, r.size, tail_size, p.size, j.size);
    }

-- ---- one child alone

pub unwrap_past : (s : WideTree) (l : List ℕ) (ts : List WideTree) (i : ℕ) → s ≡ node l (forest ts) → length ts ≤ i
    → unwrapped s i ≡ Err (BadPlace (length ts))
unwrap_past s l ts i e le =
    rw (e, trees_forest ts)
    (ap (λ o. option_map_or (λ c. Ok c) o (Err (BadPlace (length ts)))) (slice_get_past ts i le))

pub unwrap_is : (s : WideTree) (l : List ℕ) (ts : List WideTree) (i : ℕ) (c : WideTree) → s ≡ node l (forest ts)
    → slice_get ts i ≡ Some c → unwrapped s i ≡ Ok c
unwrap_is s l ts i c e f =
    rw (e, trees_forest ts) (ap (λ o. option_map_or (λ x. Ok x) o (Err (BadPlace (length ts)))) f)

pub extent_of_node : (s : WideTree) (l : List ℕ) (ts : List WideTree) → s ≡ node l (forest ts) → length ts ≡ extent s
extent_of_node s l ts e = rw (e, trees_forest ts) refl

pub child_found : (ts : List WideTree) (i : ℕ) (c : WideTree) → i < length ts → c ≡ get_or ts i c
    → slice_get ts i ≡ Some c
child_found ts i c lt e = slice_get_read ts (length ts) i c refl lt e

pub ruleset insert_rules = (some_size, insert_past, insert_made, common_steps)

pub ruleset remove_rules = (remove_past, remove_made, narrow, common_steps)

pub ruleset split_rules = (split_past, split_past_child, split_clean, split_made, common_steps)

pub ruleset pair_rules = (some_size, pair_made, common_steps)

pub ruleset join_rules = (some_size, join_past, join_refused, join_made, common_steps)

pub ruleset wrap_rules = (wrap_past, wrap_made, common_steps)

pub ruleset unwrap_rules = (unwrap_past, unwrap_is, common_steps)
