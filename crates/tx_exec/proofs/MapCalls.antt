-- The words, the numbers and the call of `map-args`.
use Rattle.std.proofs.Common.{◌≡◌, ℕ, ◌+◌, ◌-◌, ◌<◌, ◌≤◌, Bool, true, false, List, [], ◌∷◌, ◌++◌, length, drop, get_or}
use Rattle.std.proofs.Common.{map, refl, sym, ap, ◌∙◌, arith}
use Rattle.std.proofs.lemmas.Int.{ints}
use Rattle.std.proofs.lemmas.Grind.{common_steps}
use Rattle.std.proofs.lemmas.List.FromFn.{map-range_with_len_more}
use Rattle.std.specs.Prelude.{ℤ, pos, negsuc, ◌<ℤ◌, ◌&&◌, nat_le, if◌then◌else◌, Option, Some, None, slice_get, codes}
use Rattle.std.specs.List.{range_with_len}
use Rattle.tx_tree.specs.WideTree.{WideTree, leaf, node, forest, text_of, size_of, total_size}
use Rattle.tx_origin.specs.TaggedTrees.{TaggedTree}
use Rattle.tx_exec_form.specs.Frames.{Frame}
use Rattle.tx_exec_form.specs.Words.{is_label}
use Rattle.tx_exec_form.specs.Numbers.{from_number, to_number, numbers_between}
use Rattle.tx_exec_form.specs.Rows.{Eval, wrong, map_args, map_named, map_args_run, map_numbered, mapped}
use Rattle.tx_exec_form.specs.Rows.{evaluated_made}
use Rattle.tx_exec_form.specs.Rows.{item_call, call_over}
use Rattle.tx_exec.specs.CallRuns.{label_in}

-- ---- the words

label_none : (b : Bool) (a : List ℕ) → (if b then Some a else None) ≡ None → b ≡ false
label_none true a h = absurd cc
label_none false a h = refl

label_some : (b : Bool) (a l : List ℕ) → (if b then Some a else None) ≡ Some l → b ≡ true
label_some true a l h = refl
label_some false a l h = absurd cc

label_same : (b : Bool) (a l : List ℕ) → (if b then Some a else None) ≡ Some l → a ≡ l
label_same true a l h = cc
label_same false a l h = absurd cc

if_first : {X : Type 0} (p q : Bool) (x y : X) → p ≡ false → (if p && q then x else y) ≡ y
if_first true q x y h = absurd cc
if_first false q x y h = refl

if_second : {X : Type 0} (p q : Bool) (x y : X) → q ≡ false → (if p && q then x else y) ≡ y
if_second true true x y h = absurd cc
if_second true false x y h = refl
if_second false q x y h = refl

if_both : {X : Type 0} (p q : Bool) (x y : X) → p ≡ true → q ≡ true → (if p && q then x else y) ≡ x
if_both true true x y h g = refl
if_both true false x y h g = absurd cc
if_both false q x y h g = absurd cc

module _ (k : ℕ) (below : Eval) (f : Frame) (label : List ℕ) where
  pub no_name : (ns : List TaggedTree) (foo root name : WideTree) → text_of name ≡ None
      → map_named k below f label ns foo root name ≡ wrong k (codes "bad") label
  no_name ns (leaf a) (leaf b) (leaf x) h = absurd cc
  no_name ns (leaf a) (leaf b) (node l ts) h = refl
  no_name ns (leaf a) (node l ts) name h = refl
  no_name ns (node l ts) root name h = refl

  pub no_foo : (ns : List TaggedTree) (foo root name : WideTree) → label_in foo ≡ None
      → map_named k below f label ns foo root name ≡ wrong k (codes "bad") label
  no_foo ns (leaf a) (leaf b) (leaf x) h =
      if_first (is_label a) (is_label b) (map_args_run k below f label a b x ns) (wrong k (codes "bad") label)
      (label_none (is_label a) a h)
  no_foo ns (leaf a) (leaf b) (node l ts) h = refl
  no_foo ns (leaf a) (node l ts) name h = refl
  no_foo ns (node l ts) root name h = refl

  pub no_root : (ns : List TaggedTree) (foo root name : WideTree) → label_in root ≡ None
      → map_named k below f label ns foo root name ≡ wrong k (codes "bad") label
  no_root ns (leaf a) (leaf b) (leaf x) h =
      if_second (is_label a) (is_label b) (map_args_run k below f label a b x ns) (wrong k (codes "bad") label)
      (label_none (is_label b) b h)
  no_root ns (leaf a) (leaf b) (node l ts) h = refl
  no_root ns (leaf a) (node l ts) name h = refl
  no_root ns (node l ts) root name h = refl

  pub all_words : (ns : List TaggedTree) (foo root name : WideTree) (a b x : List ℕ) → label_in foo ≡ Some a
      → label_in root ≡ Some b → text_of name ≡ Some x
      → map_named k below f label ns foo root name ≡ map_args_run k below f label a b x ns
  all_words ns (leaf c) (leaf d) (leaf y) a b x p q h =
      let both = if_both (is_label c) (is_label d) (map_args_run k below f label c d y ns) (wrong k (codes "bad") label)
      (label_some (is_label c) c a p) (label_some (is_label d) d b q) in
      let same : y ≡ x = cc in
      both ∙ ap (λ z. map_args_run k below f label z d y ns) (label_same (is_label c) c a p)
      ∙ ap (λ z. map_args_run k below f label a z y ns) (label_same (is_label d) d b q)
      ∙ ap (λ z. map_args_run k below f label a b z ns) same
  all_words ns (leaf c) (leaf d) (node l ts) a b x p q h = absurd cc
  all_words ns (leaf c) (node l ts) name a b x p q h = absurd cc
  all_words ns (node l ts) root name a b x p q h = absurd cc

  pub too_few : (ts : List TaggedTree) → length ts < 3 → map_args k below f label ts ≡ wrong k (codes "bad") label
  too_few [] h = refl
  too_few (a ∷ []) h = refl
  too_few (a ∷ b ∷ []) h = refl
  too_few (a ∷ b ∷ c ∷ ts) h = absurd (omega (arith, h))

  pub too_many : (ts : List TaggedTree) → 5 < length ts → map_args k below f label ts ≡ wrong k (codes "bad") label
  too_many [] h = refl
  too_many (a ∷ []) h = refl
  too_many (a ∷ b ∷ []) h = refl
  too_many (a ∷ b ∷ c ∷ []) h = absurd (omega (arith, h))
  too_many (a ∷ b ∷ c ∷ d ∷ []) h = absurd (omega (arith, h))
  too_many (a ∷ b ∷ c ∷ d ∷ e ∷ []) h = absurd (omega (arith, h))
  too_many (a ∷ b ∷ c ∷ d ∷ e ∷ g ∷ ts) h = refl

  three_same : (u v w a b c : TaggedTree) (ns : List TaggedTree) → u ≡ a → v ≡ b → w ≡ c
      → map_named k below f label ns u.tree v.tree w.tree ≡ map_named k below f label ns a.tree b.tree c.tree
  three_same u v w a b c ns p q r = ap (λ z. map_named k below f label ns z.tree v.tree w.tree) p
      ∙ ap (λ z. map_named k below f label ns a.tree z.tree w.tree) q
      ∙ ap (λ z. map_named k below f label ns a.tree b.tree z.tree) r

  pub three_kids : (ts : List TaggedTree) (a b c : TaggedTree) → 3 ≤ length ts → length ts ≤ 5 → slice_get ts 0 ≡ Some a
      → slice_get ts 1 ≡ Some b → slice_get ts 2 ≡ Some c
      → map_args k below f label ts ≡ map_named k below f label (drop 3 ts) a.tree b.tree c.tree
  three_kids [] a b c h g p q r = absurd (omega (arith, h))
  three_kids (u ∷ []) a b c h g p q r = absurd (omega (arith, h))
  three_kids (u ∷ v ∷ []) a b c h g p q r = absurd (omega (arith, h))
  three_kids (u ∷ v ∷ w ∷ []) a b c h g p q r = let d : u ≡ a = cc in let e : v ≡ b = cc in let i : w ≡ c =
      cc in three_same u v w a b c [] d e i
  three_kids (u ∷ v ∷ w ∷ x ∷ []) a b c h g p q r = let d : u ≡ a = cc in let e : v ≡ b = cc in let i : w ≡ c =
      cc in three_same u v w a b c (x ∷ []) d e i
  three_kids (u ∷ v ∷ w ∷ x ∷ y ∷ []) a b c h g p q r = let d : u ≡ a = cc in let e : v ≡ b = cc in let i : w ≡ c =
      cc in three_same u v w a b c (x ∷ y ∷ []) d e i
  three_kids (u ∷ v ∷ w ∷ x ∷ y ∷ z ∷ ts) a b c h g p q r = absurd (omega (arith, g))

  -- ---- what the numbers evaluate to

  pub numbers_bad : (foo root x : List ℕ) (count : ℕ) (o : Option (List ℤ)) → o ≡ None
      → map_numbered k below f label foo root x count o ≡ wrong k (codes "bad") label
  numbers_bad foo root x count o h = ap (map_numbered k below f label foo root x count) h

  pub numbers_past : (foo root x : List ℕ) (count : ℕ) (o : Option (List ℤ)) (ns : List ℤ) → o ≡ Some ns
      → numbers_between count (from_number ns) (to_number count ns) ≡ None
      → map_numbered k below f label foo root x count o ≡ wrong k (codes "no-part") x
  numbers_past foo root x count o ns h g = ap (map_numbered k below f label foo root x count) h
      ∙ ap (mapped k below f foo root x) g

  pub numbers_call : (foo root x : List ℕ) (count : ℕ) (o : Option (List ℤ)) (ns : List ℤ) (is : List ℕ) → o ≡ Some ns
      → numbers_between count (from_number ns) (to_number count ns) ≡ Some is
      → map_numbered k below f label foo root x count o ≡ evaluated_made below f (call_over foo root x is)
  numbers_call foo root x count o ns is h g = ap (map_numbered k below f label foo root x count) h
      ∙ ap (mapped k below f foo root x) g

pub ruleset word_rules = (no_name, no_foo, no_root, all_words)

pub ruleset three_rules = (too_few, too_many, three_kids)

pub ruleset made_rules = (numbers_bad, numbers_past, numbers_call)

-- ---- the numbers

pub first_none : (ns : List ℤ) → length ns ≡ 0 → from_number ns ≡ pos 0
first_none [] h = refl
first_none (n ∷ ns) h = absurd (omega (arith, h))

pub first_some : (ns : List ℤ) (d : ℤ) → 0 < length ns → from_number ns ≡ get_or ns 0 d
first_some [] d h = absurd (omega (arith, h))
first_some (n ∷ ns) d h = refl

pub ruleset first_rules = (first_none, first_some)

pub second_none : (count : ℕ) (ns : List ℤ) → length ns < 2 → to_number count ns ≡ pos count
second_none count [] h = refl
second_none count (n ∷ []) h = refl
second_none count (n ∷ m ∷ ns) h = absurd (omega (arith, h))

pub second_some : (count : ℕ) (ns : List ℤ) (d : ℤ) → 2 ≤ length ns → to_number count ns ≡ get_or ns 1 d
second_some count [] d h = absurd (omega (arith, h))
second_some count (n ∷ []) d h = absurd (omega (arith, h))
second_some count (n ∷ m ∷ ns) d h = refl

pub ruleset second_rules = (second_none, second_some)

pub below_none : (count : ℕ) (a b : ℤ) → a <ℤ pos 0 → numbers_between count a b ≡ None
below_none count (pos i) b h = absurd (omega (arith, ints, h))
below_none count (negsuc i) b h = refl

order_false : {X : Type 0} (a b c : ℕ) (x y : X) → b < a → (if nat_le a b && nat_le b c then x else y) ≡ y
order_false a b c x y h = if_first (nat_le a b) (nat_le b c) x y (grind (arith, common_steps, h))

most_false : {X : Type 0} (a b c : ℕ) (x y : X) → c < b → (if nat_le a b && nat_le b c then x else y) ≡ y
most_false a b c x y h = if_second (nat_le a b) (nat_le b c) x y (grind (arith, common_steps, h))

pub falling_none : (count : ℕ) (a b : ℤ) → b <ℤ a → numbers_between count a b ≡ None
falling_none count (pos i) (pos j) h = order_false i j count _ _ (omega (arith, ints, h))
falling_none count (pos i) (negsuc j) h = refl
falling_none count (negsuc i) b h = refl

pub past_none : (count : ℕ) (a b : ℤ) → pos count <ℤ b → numbers_between count a b ≡ None
past_none count (pos i) (pos j) h = most_false i j count _ _ (omega (arith, ints, h))
past_none count (pos i) (negsuc j) h = refl
past_none count (negsuc i) b h = refl

pub between_some : (count : ℕ) (a b : ℤ) (m n : ℕ) → a ≡ pos m → b ≡ pos n → m ≤ n → n ≤ count
    → numbers_between count a b ≡ Some (range_with_len m (n - m))
between_some count a b m n p q h g = ap (λ z. numbers_between count z b) p ∙ ap (numbers_between count (pos m)) q
    ∙ if_both (nat_le m n) (nat_le n count) _ _ (grind (arith, common_steps, h)) (grind (arith, common_steps, g))

pub ruleset between_rules = (below_none, falling_none, past_none, between_some, ints)

-- ---- the call

pub item_next : {X : Type 0} (g : ℕ → X) (a i : ℕ) (xs ys : List X) (x : X) → a ≤ i
    → xs ≡ map g (range_with_len a (i - a)) → ys ≡ xs ++ x ∷ [] → x ≡ g i → ys ≡ map g (range_with_len a ((i + 1) - a))
item_next g a i xs ys x h run e is =
    let more : (i + 1) - a ≡ (i - a) + 1 = omega (arith, h) in
    rw more (e ∙ ap (λ zs. zs ++ x ∷ []) run ∙ ap (λ z. map g (range_with_len a (i - a)) ++ z ∷ []) is
    ∙ sym (map-range_with_len_more g a (i - a) i (omega (arith, h))))

pub no_items : {X : Type 0} (g : ℕ → X) (a : ℕ) → map g (range_with_len a (a - a)) ≡ []
no_items g a = let none : a - a ≡ 0 = omega arith in rw none refl

pub ruleset call_rules = (item_next, no_items)

size_forest : (ts us : List WideTree) → total_size (forest (ts ++ us)) ≡ total_size (forest ts) + total_size (forest us)
size_forest [] us = omega arith
size_forest (t ∷ ts) us = omega (arith, size_forest ts us)

module _ (foo root x : List ℕ) where
  pub size_begun : (a : ℕ) → 1 ≡ size_of (call_over foo root x (range_with_len a (a - a)))
  size_begun a = rw (no_items (item_call foo x) a) refl

  pub size_next : (a i n m : ℕ) → a ≤ i → n ≡ size_of (call_over foo root x (range_with_len a (i - a)))
      → m ≡ n + size_of (item_call foo x i)
      → m ≡ size_of (call_over foo root x (range_with_len a ((i + 1) - a)))
  size_next a i n m h run e =
      let more = item_next (item_call foo x) a i _ _ (item_call foo x i) h refl refl refl in
      rw (← more)
      (omega (
        arith,
        e,
        run,
        size_forest (map (item_call foo x) (range_with_len a (i - a))) (item_call foo x i ∷ []),
      ))

pub ruleset size_rules = (size_begun, size_next)
