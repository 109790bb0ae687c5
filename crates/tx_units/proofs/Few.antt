-- There are few units.
use Rattle.std.proofs.Common.{◌≡◌, ℕ, zero, suc, ◌+◌, ◌*◌, ◌<◌, ◌≤◌, Bool, true, false, cond, List, [], ◌∷◌, ◌++◌}
use Rattle.std.proofs.Common.{length, map, get_or, refl, sym, ap, arith, length-append, ◌∙◌}
use Rattle.std.specs.Prelude.{codes, not, if◌then◌else◌, ◌||◌, Option, Some, None, option_and_then, slice_get}
use Rattle.std.specs.List.{AllByRecursion, filter, filter_map, flat_map, enumerate_from, list_any, cons_option}
use Rattle.std.specs.Option.{option_map_or}
use Rattle.std.specs.Str.{bytes_eq}
use Rattle.std.specs.Cmp.Lexicographic.{bytes_decides}
use Rattle.std.proofs.lemmas.List.{length-map}
use Rattle.std.proofs.lemmas.List.FromFn.{length-enumerate_from}
use Rattle.std.proofs.Math.Nat.{le-max_left}
use Rattle.tx_doc.specs.Bodies.{is_labelled, body_of}
use Rattle.tx_doc.specs.Buffers.{AreFormed, tree_of, number_of}
use Rattle.tx_doc.specs.declared.buffer.Buffer.{Buffer}
use Rattle.tx_tree.specs.Paths.{subtree}
use Rattle.tx_tree.specs.WideTree.{WideTree, leaf, node, nil, cons, trees, children_of, text_of, arity_of, count}
use Rattle.tx_tree.specs.WideTree.{widest}
use Rattle.tx_tree.proofs.Children.{count-trees}
use Rattle.std.proofs.lemmas.List.Quantifiers.{position-Some}
use Rattle.tx_units.specs.BaseStyle.{tag, assign_tag, base_style}
use Rattle.tx_units.specs.declared.kinds.UnitKind.TheVariants.{Style, Initial}
use Rattle.tx_units.specs.Documents.{is_document, section, names_in, each_once, style_names, entries, paragraphs_in}
use Rattle.tx_units.specs.Documents.{paragraphs}
use Rattle.tx_units.specs.Units.{unit, body_unit, front_units, base_units, loaded_units, absent_unit, named_units}
use Rattle.tx_units.specs.Units.{style_units, entry_units, initial_units, units_at, body_units, units}
use Rattle.tx_units.proofs.Within.{child_inside, section_inside}

abbrev Names : Type 0
Names = List (List ℕ)

-- ---- names that occur once each

abbrev Apart : Names → Type 0
Apart [] = Unit {0}
Apart (n ∷ ns) = AllByRecursion (λ k. bytes_eq k n ≡ false) ns × Apart ns

all_kept : (P : List ℕ → Type 0) (p : List ℕ → Bool) (ns : Names) → AllByRecursion P ns → AllByRecursion P (filter p ns)
all_kept P p [] h = tt
all_kept P p (n ∷ ns) h = by (p n) (all_kept P p ns h.1)
  where
    by : (b : Bool) → AllByRecursion P (filter p ns) → AllByRecursion P (cond b (n ∷ filter p ns) (filter p ns))
    by true rest = (h.0, rest)
    by false rest = rest

apart_kept : (p : List ℕ → Bool) (ns : Names) → Apart ns → Apart (filter p ns)
apart_kept p [] h = tt
apart_kept p (n ∷ ns) h = by (p n) (apart_kept p ns h.1)
  where
    by : (b : Bool) → Apart (filter p ns) → Apart (cond b (n ∷ filter p ns) (filter p ns))
    by true rest = (all_kept (λ k. bytes_eq k n ≡ false) p ns h.0, rest)
    by false rest = rest

all_others : (n : List ℕ) (ns : Names)
    → AllByRecursion (λ k. bytes_eq k n ≡ false) (filter (λ k. not (bytes_eq k n)) ns)
all_others n [] = tt
all_others n (k ∷ ns) = by (bytes_eq k n) refl (all_others n ns)
  where
    by : (b : Bool) → bytes_eq k n ≡ b
        → AllByRecursion (λ k. bytes_eq k n ≡ false) (filter (λ k. not (bytes_eq k n)) ns)
        → AllByRecursion (λ k. bytes_eq k n ≡ false)
        (cond (not b) (k ∷ filter (λ k. not (bytes_eq k n)) ns) (filter (λ k. not (bytes_eq k n)) ns))
    by true e rest = rest
    by false e rest = (e, rest)

each_apart : (ns : Names) → Apart (each_once ns)
each_apart [] = tt
each_apart (n ∷ ns) = (all_others n (each_once ns), apart_kept (λ k. not (bytes_eq k n)) (each_once ns) (each_apart ns))

fewer_kept : (p : List ℕ → Bool) (ns : Names) → length (filter p ns) ≤ length ns
fewer_kept p [] = omega arith
fewer_kept p (n ∷ ns) = by (p n) (fewer_kept p ns)
  where
    by : (b : Bool) → length (filter p ns) ≤ length ns
        → length (cond b (n ∷ filter p ns) (filter p ns)) ≤ length (n ∷ ns)
    by true rest = omega (arith, rest)
    by false rest = omega (arith, rest)

fewer_once : (ns : Names) → length (each_once ns) ≤ length ns
fewer_once [] = omega arith
fewer_once (n ∷ ns) = omega (arith, fewer_kept (λ k. not (bytes_eq k n)) (each_once ns), fewer_once ns)

-- ---- how many names are those of buffers

same_bool : false ≡ true → ⊥
same_bool e = cc

abbrev one_if : Bool → ℕ
one_if true = 1
one_if false = 0

abbrev how_many : (List ℕ → Bool) → Names → ℕ
how_many p [] = 0
how_many p (n ∷ ns) = one_if (p n) + how_many p ns

none_more : (m n : List ℕ) (ns : Names) → m ≡ n → AllByRecursion (λ k. bytes_eq k n ≡ false) ns
    → how_many (bytes_eq m) ns ≡ 0
none_more m n [] e h = refl
none_more m n (k ∷ ns) e h = by (bytes_eq m k) refl (none_more m n ns e h.1)
  where
    by : (b : Bool) → bytes_eq m k ≡ b → how_many (bytes_eq m) ns ≡ 0 → one_if b + how_many (bytes_eq m) ns ≡ 0
    by true t rest =
        let same : k ≡ n = sym ((bytes_decides m k).0 t) ∙ e in
        let there : bytes_eq k n ≡ true = (bytes_decides k n).1 same in
        absurd (same_bool (sym h.0 ∙ there))
    by false t rest = omega (arith, rest)

one_named : (m : List ℕ) (ns : Names) → Apart ns → how_many (bytes_eq m) ns ≤ 1
one_named m [] h = omega arith
one_named m (n ∷ ns) h = by (bytes_eq m n) refl (one_named m ns h.1)
  where
    by : (b : Bool) → bytes_eq m n ≡ b → how_many (bytes_eq m) ns ≤ 1 → one_if b + how_many (bytes_eq m) ns ≤ 1
    by true t rest = omega (arith, none_more m n ns ((bytes_decides m n).0 t) h.0)
    by false t rest = omega (arith, rest)

either : (p q r : List ℕ → Bool) (ns : Names) → ((n : List ℕ) → r n ≡ (p n || q n))
    → how_many r ns ≤ how_many p ns + how_many q ns
either p q r [] e = omega arith
either p q r (n ∷ ns) e = by (p n) (q n) (r n) (e n) (either p q r ns e)
  where
    by : (a b c : Bool) → c ≡ (a || b) → how_many r ns ≤ how_many p ns + how_many q ns
        → one_if c + how_many r ns ≤ (one_if a + how_many p ns) + (one_if b + how_many q ns)
    by true b c h rest = let it : c ≡ true = h in rw it (omega (arith, rest))
    by false b c h rest = let same : c ≡ b = h in rw same (omega (arith, rest))

none_of : (ns : Names) → how_many (λ n. false) ns ≡ 0
none_of [] = refl
none_of (n ∷ ns) = omega (arith, none_of ns)

abbrev named_by : List Buffer → List ℕ → Bool
named_by bs n = list_any (λ b. bytes_eq b.name n) bs

-- names that occur once each name no more buffers than there are
few_named : (bs : List Buffer) (ns : Names) → Apart ns → how_many (named_by bs) ns ≤ length bs
few_named [] ns h = omega (arith, none_of ns)
few_named (b ∷ bs) ns h =
    omega (
      arith,
      either (bytes_eq b.name) (named_by bs) (named_by (b ∷ bs)) ns (λ n. refl),
      one_named b.name ns h,
      few_named bs ns h,
    )

any_at : (p : Buffer → Bool) (bs : List Buffer) (k : ℕ) (d : Buffer) → k < length bs → p (get_or bs k d) ≡ true
    → list_any p bs ≡ true
any_at p [] k d lt e = absurd (omega arith)
any_at p (b ∷ bs) zero d lt e = ap (λ c. c || list_any p bs) e
any_at p (b ∷ bs) (suc k) d lt e = by (p b) (any_at p bs k d (omega arith) e)
  where
    by : (c : Bool) → list_any p bs ≡ true → (c || list_any p bs) ≡ true
    by true rest = refl
    by false rest = rest

no_buffer : Buffer
no_buffer = record { name = []; tree = leaf [] }

number_named : (bs : List Buffer) (n : List ℕ) (k : ℕ) → number_of bs n ≡ Some k → named_by bs n ≡ true
number_named bs n k e =
    let h = position-Some (λ b. bytes_eq b.name n) bs k no_buffer e in
    any_at (λ b. bytes_eq b.name n) bs k no_buffer h.0 h.1

-- ---- paragraphs

few_children : (t : WideTree) → length (children_of t) ≤ arity_of t
few_children (leaf text) = omega arith
few_children (node label ts) = omega (arith, count-trees ts, le-max_left (count ts) (widest ts))

narrow_at : (t s : WideTree) (path : List ℕ) → subtree t path ≡ Some s → arity_of s ≤ arity_of t
narrow_at t s [] e = let same : t ≡ s = cc in rw same (omega arith)
narrow_at t s (i ∷ path) e = by (slice_get (children_of t) i) refl e (λ u h. narrow_at u s path h)
  where
    by : (o : Option WideTree) → slice_get (children_of t) i ≡ o → option_and_then (λ u. subtree u path) o ≡ Some s
        → ((u : WideTree) → subtree u path ≡ Some s → arity_of s ≤ arity_of u) → arity_of s ≤ arity_of t
    by None f h on = absurd cc
    by (Some u) f h on = omega (arith, (child_inside t u i f).no_wider, on u h)

few_in : (t : WideTree) → arity_of t ≤ 65535 → length (paragraphs_in t) ≤ 65535
few_in t h = by (is_document t)
  where
    by : (b : Bool) → length (if b then children_of t else t ∷ []) ≤ 65535
    by true = omega (arith, few_children t, h)
    by false = omega arith

few_paragraphs : (t : WideTree) → arity_of t ≤ 65535 → length (paragraphs t) ≤ 65535
few_paragraphs t h = by (body_of t)
  where
    there : (path : List ℕ) (o : Option WideTree) → subtree t path ≡ o
        → length (option_map_or paragraphs_in o []) ≤ 65535
    there path None e = omega arith
    there path (Some s) e = few_in s (omega (arith, narrow_at t s path e, h))

    by : (o : Option (List ℕ)) → length (option_map_or (λ path. option_map_or paragraphs_in (subtree t path) []) o [])
        ≤ 65535
    by None = omega arith
    by (Some path) = there path (subtree t path) refl

few_at : (path : List ℕ) (t : WideTree) → arity_of t ≤ 65535 → length (units_at path t) ≤ 65535
few_at path t h = by (is_document t)
  where
    by : (b : Bool)
        → length (if b then map (λ p. body_unit p.1 (path ++ p.0 ∷ [])) (enumerate_from 0 (children_of t))
        else body_unit t path ∷ []) ≤ 65535
    by true =
        omega (
          arith,
          few_children t,
          h,
          length-enumerate_from 0 (children_of t),
          length-map (enumerate_from 0 (children_of t)) (λ p. body_unit p.1 (path ++ p.0 ∷ [])),
        )
    by false = omega arith

few_body : (t : WideTree) → arity_of t ≤ 65535 → length (body_units t) ≤ 65535
few_body t h = by (body_of t)
  where
    there : (path : List ℕ) (o : Option WideTree) → subtree t path ≡ o
        → length (option_map_or (units_at path) o []) ≤ 65535
    there path None e = omega arith
    there path (Some s) e = few_at path s (omega (arith, narrow_at t s path e, h))

    by : (o : Option (List ℕ)) → length (option_map_or (λ path. option_map_or (units_at path) (subtree t path) []) o [])
        ≤ 65535
    by None = omega arith
    by (Some path) = there path (subtree t path) refl

-- ---- styles

formed_at : (bs : List Buffer) (k : ℕ) → AreFormed bs → arity_of (tree_of bs k) ≤ 65535
formed_at [] k h = omega arith
formed_at (b ∷ bs) zero h = h.0.1.arity
formed_at (b ∷ bs) (suc k) h = formed_at bs k h.1

few_of_name : (bs : List Buffer) (n : List ℕ) → AreFormed bs
    → length (named_units bs n) ≤ 1 + 65535 * one_if (named_by bs n)
few_of_name bs n h = by (bytes_eq n (codes "generic"))
  where
    loaded : (o : Option ℕ) → number_of bs n ≡ o
        → length (option_map_or (λ k. loaded_units (k + 1) (tree_of bs k)) o (absent_unit n ∷ [])) ≤ 1 + 65535 * one_if
        (named_by bs n)
    loaded None e = omega arith
    loaded (Some k) e =
        rw (number_named bs n k e)
        (omega (
          arith,
          length-map (paragraphs (tree_of bs k)) (unit (Style (k + 1))),
          few_paragraphs (tree_of bs k) (formed_at bs k h),
        ))

    by : (b : Bool)
        → length (if b then [] else option_map_or (λ k. loaded_units (k + 1) (tree_of bs k)) (number_of bs n)
        (absent_unit n ∷ [])) ≤ 1 + 65535 * one_if (named_by bs n)
    by true = omega arith
    by false = loaded (number_of bs n) refl

few_of_names : (bs : List Buffer) (ns : Names) → AreFormed bs
    → length (flat_map (named_units bs) ns) ≤ length ns + 65535 * how_many (named_by bs) ns
few_of_names bs [] h = omega arith
few_of_names bs (n ∷ ns) h =
    omega (
      arith,
      length-append (named_units bs n) (flat_map (named_units bs) ns),
      few_of_name bs n h,
      few_of_names bs ns h,
    )

few_texts : (ts : List WideTree) → length (filter_map text_of ts) ≤ length ts
few_texts [] = omega arith
few_texts (t ∷ ts) = by (text_of t) (few_texts ts)
  where
    by : (o : Option (List ℕ)) → length (filter_map text_of ts) ≤ length ts
        → length (cons_option o (filter_map text_of ts)) ≤ length (t ∷ ts)
    by None rest = omega (arith, rest)
    by (Some n) rest = omega (arith, rest)

few_names_in : (s : WideTree) → arity_of s ≤ 65535 → length (names_in s) ≤ 65535
few_names_in (leaf text) h = omega arith
few_names_in (node label ts) h = by (bytes_eq label (codes "tuple"))
  where
    by : (b : Bool) → length (if b then filter_map text_of (trees ts) else []) ≤ 65535
    by true = omega (arith, few_texts (trees ts), few_children (node label ts), h)
    by false = omega arith

few_names : (t : WideTree) → arity_of t ≤ 65535 → length (style_names t) ≤ 65535
few_names t h = by (section (codes "style") t) refl
  where
    by : (o : Option WideTree) → section (codes "style") t ≡ o
        → length (each_once (option_map_or names_in o [])) ≤ 65535
    by None e = omega arith
    by (Some s) e =
        omega (
          arith,
          fewer_once (names_in s),
          few_names_in s (omega (arith, (section_inside (codes "style") t s e).no_wider, h)),
        )

few_styles : (t : WideTree) (bs : List Buffer) → arity_of t ≤ 65535 → AreFormed bs
    → length (style_units t bs) ≤ 65535 + 65535 * length bs
few_styles t bs h k =
    let names : Names = style_names t in
    omega (
      arith,
      few_of_names bs (style_names t) k,
      few_names t h,
      few_named bs (style_names t) (each_apart (option_map_or names_in (section (codes "style") t) [])),
    )

-- ---- the initial environment

few_entry : (t : WideTree) → length (entry_units t) ≤ 1
few_entry (leaf text) = omega arith
few_entry (node label nil) = omega arith
few_entry (node label (cons x nil)) = omega arith
few_entry (node label (cons x (cons v nil))) = by (bytes_eq label (codes "associate"))
  where
    by : (b : Bool) → length (if b then unit Initial (assign_tag x (tag (codes "quote") (v ∷ []))) ∷ [] else []) ≤ 1
    by true = omega arith
    by false = omega arith
few_entry (node label (cons x (cons v (cons y ts)))) = omega arith

few_of_entries : (ts : List WideTree) → length (flat_map entry_units ts) ≤ length ts
few_of_entries [] = omega arith
few_of_entries (t ∷ ts) =
    omega (arith, length-append (entry_units t) (flat_map entry_units ts), few_entry t, few_of_entries ts)

few_entries : (t : WideTree) → arity_of t ≤ 65535 → length (entries t) ≤ 65535
few_entries t h = by (section (codes "initial") t) refl
  where
    in_collection : (c : WideTree) (b : Bool) → arity_of c ≤ 65535 → length (if b then children_of c else []) ≤ 65535
    in_collection c true k = omega (arith, few_children c, k)
    in_collection c false k = omega arith

    by : (o : Option WideTree) → section (codes "initial") t ≡ o
        → length (option_map_or (λ c. if is_labelled (codes "collection") c then children_of c else []) o []) ≤ 65535
    by None e = omega arith
    by (Some c) e =
        in_collection c (is_labelled (codes "collection") c)
        (omega (arith, (section_inside (codes "initial") t c e).no_wider, h))

-- ---- all of them

pub base_count : length base_units ≡ 26
unfolding base_units base_style
base_count = refl

few_behind : (t : WideTree) (bs : List Buffer) → arity_of t ≤ 65535 → AreFormed bs → length bs ≤ 63
    → length (front_units t bs ++ body_units t) < 8388608
few_behind t bs h k few =
    omega (
      arith,
      base_count,
      few_styles t bs h k,
      few_of_entries (entries t),
      few_entries t h,
      few_body t h,
      length-append base_units (style_units t bs ++ initial_units t),
      length-append (style_units t bs) (initial_units t),
      length-append (front_units t bs) (body_units t),
      few,
    )

pub few_units : (bs : List Buffer) → AreFormed bs → length bs ≤ 64 → length (units bs) < 8388608
few_units [] h few = few_behind (leaf []) [] (omega arith) tt (omega arith)
few_units (b ∷ bs) h few = few_behind b.tree bs h.0.1.arity h.1 (omega (arith, few))
