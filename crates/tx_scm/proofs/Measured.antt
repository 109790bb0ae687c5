-- What is measured of bytes that spell a tree.
use Rattle.std.proofs.Common.{◌≡◌, ℕ, ◌+◌, ◌<◌, ◌≤◌, max, true, List, [], ◌∷◌, ◌++◌, length, drop, get_or, refl, sym}
use Rattle.std.proofs.Common.{ap, subst, ◌∙◌, append_assoc, arith}
use Rattle.std.specs.List.{AllByRecursion, flat_map}
use Rattle.std.proofs.lemmas.List.{append-nil, drop_more, drop_all}
use Rattle.tx_tree.specs.Labels.{is_label_byte}
use Rattle.tx_tree.specs.WideTree.{WideTree, Forest, leaf, node, nil, cons, count, text_length_of, longest_text}
use Rattle.tx_tree.specs.WideTree.{arity_of, widest, depth_of, deepest, size_of, total_size}
use Rattle.tx_scm.specs.declared.kinds.Kind.{Kind}
use Rattle.tx_scm.specs.declared.kinds.Kind.TheVariants.{Opens, Closes, Quote, Backslash}
use Rattle.tx_scm.specs.declared.measures.Part.{Part}
use Rattle.tx_scm.specs.declared.measures.Part.TheVariants.{Outside, Inside, Escaped}
use Rattle.tx_scm.specs.Kinds.{kind_of}
use Rattle.tx_scm.specs.Spelling.{AreWhite, escaped, SpellsTree, SpellsTrees, Spells}
use Rattle.tx_scm.specs.Measuring.{Gauge, counted, gauge_closed, gauge_longer, outside_step, inside_step, step, step_in}
use Rattle.tx_scm.specs.Measuring.{measured}
use Rattle.tx_scm.specs.Measuring.{empty_gauge, Measures, AreCountsBelow, IsShortPart, IsSmallGauge}
use Rattle.tx_scm.proofs.ByteKinds.{white_kind, letter_kind, opens_kind, closes_kind, quote_kind, backslash_kind}
use Rattle.tx_scm.proofs.ByteKinds.{EscapedAs, escaped_as}
use Rattle.tx_scm.proofs.Complete.{leaf_parts, node_parts, cons_parts}

-- a gauge by its parts
abbrev at_rest : List ℕ → ℕ → ℕ → ℕ → ℕ → Gauge
at_rest counts text arity depth size =
    record { part = Outside; counts = counts; text = text; arity = arity; depth = depth; size = size }

abbrev in_string : ℕ → List ℕ → ℕ → ℕ → ℕ → ℕ → Gauge
in_string n counts text arity depth size =
    record { part = Inside n; counts = counts; text = text; arity = arity; depth = depth; size = size }

module _ (counts : List ℕ) (text arity depth size : ℕ) where
  white_run : (w y : List ℕ) → AreWhite w → measured (at_rest counts text arity depth size) (w ++ y) ≡ measured
      (at_rest counts text arity depth size) y
  unfolding outside_step
  white_run [] y h = refl
  white_run (b ∷ w) y h =
      ap (λ k. measured (outside_step (at_rest counts text arity depth size) k) (w ++ y)) (white_kind b h.0)
      ∙ white_run w y h.1

  label_run : (l y : List ℕ) → AllByRecursion (λ b. is_label_byte b ≡ true) l
      → measured (at_rest counts text arity depth size) (l ++ y) ≡ measured (at_rest counts text arity depth size) y
  unfolding outside_step
  label_run [] y h = refl
  label_run (b ∷ l) y h =
      ap (λ k. measured (outside_step (at_rest counts text arity depth size) k) (l ++ y)) (letter_kind b h.0)
      ∙ label_run l y h.1

  open_step : (y : List ℕ) → measured (at_rest counts text arity depth size) (40 ∷ y) ≡ measured
      (at_rest (0 ∷ counts) text arity (max depth (length counts + 1)) (size + 1)) y
  unfolding outside_step
  open_step y = ap (λ k. measured (outside_step (at_rest counts text arity depth size) k) y) opens_kind

  quote_step : (y : List ℕ) → measured (at_rest counts text arity depth size) (34 ∷ y) ≡ measured
      (in_string 0 counts text arity (max depth (length counts + 1)) (size + 1)) y
  unfolding outside_step
  quote_step y = ap (λ k. measured (outside_step (at_rest counts text arity depth size) k) y) quote_kind

  close_step : (n : ℕ) (y : List ℕ) → measured (at_rest (n ∷ counts) text arity depth size) (41 ∷ y) ≡ measured
      (at_rest (counted counts) text (max arity n) depth size) y
  unfolding outside_step
  close_step n y = ap (λ k. measured (outside_step (at_rest (n ∷ counts) text arity depth size) k) y) closes_kind

  -- one byte of a text, as it is written in a string
  text_byte : (k : Kind) (e : List ℕ) (b n : ℕ) (y : List ℕ) → kind_of b ≡ k → EscapedAs k b e
      → measured (in_string n counts text arity depth size) (e ++ y) ≡ measured
      (in_string (n + 1) counts text arity depth (size + 1)) y
  unfolding inside_step
  text_byte Quote e b n y k h =
      ap (λ e. measured (in_string n counts text arity depth size) (e ++ y)) h
      ∙ ap (λ k. measured (inside_step (in_string n counts text arity depth size) n k) (b ∷ y)) backslash_kind
  text_byte Backslash e b n y k h =
      ap (λ e. measured (in_string n counts text arity depth size) (e ++ y)) h
      ∙ ap (λ k. measured (inside_step (in_string n counts text arity depth size) n k) (b ∷ y)) backslash_kind
  text_byte _ e b n y k h =
      ap (λ e. measured (in_string n counts text arity depth size) (e ++ y)) h
      ∙ ap (λ k. measured (inside_step (in_string n counts text arity depth size) n k) y) k

  text_end : (n : ℕ) (y : List ℕ) → measured (in_string n counts text arity depth size) (34 ∷ y) ≡ measured
      (at_rest (counted counts) (max text n) arity depth size) y
  unfolding inside_step
  text_end n y = ap (λ k. measured (inside_step (in_string n counts text arity depth size) n k) y) quote_kind

text_run : (counts : List ℕ) (text arity depth size n : ℕ) (more y : List ℕ)
    → measured (in_string n counts text arity depth size) (flat_map escaped more ++ 34 ∷ y) ≡ measured
    (at_rest (counted counts) (max text (n + length more)) arity depth (size + length more)) y
text_run counts text arity depth size n [] y =
    text_end counts text arity depth size n y
    ∙ ap (λ m. measured (at_rest (counted counts) (max text m) arity depth size) y) (omega arith)
    ∙ ap (λ m. measured (at_rest (counted counts) (max text (n + 0)) arity depth m) y) (omega arith)
text_run counts text arity depth size n (b ∷ more) y =
    ap (λ x. measured (in_string n counts text arity depth size) x)
    (append_assoc (escaped b) (flat_map escaped more) (34 ∷ y))
    ∙ text_byte counts text arity depth size (kind_of b) (escaped b) b n (flat_map escaped more ++ 34 ∷ y) refl
    (escaped_as (kind_of b) b refl)
    ∙ text_run counts text arity depth (size + 1) (n + 1) more y
    ∙ ap (λ m. measured (at_rest (counted counts) (max text m) arity depth (size + 1 + length more)) y) (omega arith)
    ∙ ap (λ m. measured (at_rest (counted counts) (max text (n + length (b ∷ more))) arity depth m) y) (omega arith)

-- equal numbers make equal gauges
same_gauge : (counts : List ℕ) (text text' arity arity' depth depth' size size' : ℕ) (y : List ℕ) → text ≡ text'
    → arity ≡ arity' → depth ≡ depth' → size ≡ size'
    → measured (at_rest counts text arity depth size) y ≡ measured (at_rest counts text' arity' depth' size') y
same_gauge counts text text' arity arity' depth depth' size size' y a b c d = rw (a, b, c, d) refl

same_counts : (counts : List ℕ) (m n text text' arity arity' depth depth' size size' : ℕ) (y : List ℕ) → m ≡ n
    → text ≡ text' → arity ≡ arity' → depth ≡ depth' → size ≡ size'
    → measured (at_rest (m ∷ counts) text arity depth size) y ≡ measured
    (at_rest (n ∷ counts) text' arity' depth' size') y
same_counts counts m n text text' arity arity' depth depth' size size' y e a b c d = rw (e, a, b, c, d) refl

mutual
  tree_run : (t : WideTree) (counts : List ℕ) (text arity depth size : ℕ) (x y : List ℕ) → SpellsTree x t
      → measured (at_rest counts text arity depth size) (x ++ y)
      ≡ measured (at_rest (counted counts) (max text (text_length_of t)) (max arity (arity_of t))
      (max depth (length counts + depth_of t)) (size + size_of t)) y
  tree_run (leaf s) counts text arity depth size x y h =
      ap (λ b. measured (at_rest counts text arity depth size) b) (leaf_parts x s y h.1)
      ∙ quote_step counts text arity depth size (flat_map escaped s ++ 34 ∷ y)
      ∙ text_run counts text arity (max depth (length counts + 1)) (size + 1) 0 s y
      ∙ same_gauge (counted counts) _ _ _ _ _ _ _ _ y (omega arith) (omega arith) refl (omega arith)
  tree_run (node label ts) counts text arity depth size x y h =
      let d : ℕ = max depth (length counts + 1) in
      let d' : ℕ = max d (length counts + 1 + deepest ts) in
      let n : ℕ = count ts in
      let z : List ℕ = h.2 ++ 41 ∷ y in
      ap (λ b. measured (at_rest counts text arity depth size) b) (node_parts x h.0 label h.1 h.2 y h.7)
      ∙ open_step counts text arity depth size (h.0 ++ (label ++ (h.1 ++ z)))
      ∙ white_run (0 ∷ counts) text arity d (size + 1) h.0 (label ++ (h.1 ++ z)) h.3
      ∙ label_run (0 ∷ counts) text arity d (size + 1) label (h.1 ++ z) h.4.each
      ∙ trees_run ts counts 0 text arity d (size + 1) h.1 z (omega arith) h.5
      ∙ white_run ((0 + n) ∷ counts) (max text (longest_text ts)) (max arity (widest ts)) d' (size + 1 + total_size ts)
      h.2 (41 ∷ y) h.6
      ∙ close_step counts (max text (longest_text ts)) (max arity (widest ts)) d' (size + 1 + total_size ts) (0 + n) y
      ∙ same_gauge (counted counts) _ _ _ _ _ _ _ _ y refl (omega arith) (omega arith) (omega arith)

  trees_run : (ts : Forest) (counts : List ℕ) (n text arity depth size : ℕ) (x y : List ℕ) → length counts + 1 ≤ depth
      → SpellsTrees x ts → measured (at_rest (n ∷ counts) text arity depth size) (x ++ y)
      ≡ measured (at_rest ((n + count ts) ∷ counts) (max text (longest_text ts)) (max arity (widest ts))
      (max depth (length counts + 1 + deepest ts)) (size + total_size ts)) y
  trees_run nil counts n text arity depth size x y deep h =
      ap (λ x. measured (at_rest (n ∷ counts) text arity depth size) (x ++ y)) h
      ∙ same_counts counts _ _ _ _ _ _ _ _ _ _ y (omega arith) (omega arith) (omega arith) (omega arith) (omega arith)
  trees_run (cons t ts) counts n text arity depth size x y deep h =
      ap (λ z. measured (at_rest (n ∷ counts) text arity depth size) z) (cons_parts x h.0 h.1 h.2 y h.6)
      ∙ white_run (n ∷ counts) text arity depth size h.0 (h.1 ++ (h.2 ++ y)) h.3
      ∙ tree_run t (n ∷ counts) text arity depth size h.1 (h.2 ++ y) h.4
      ∙ trees_run ts counts (n + 1) (max text (text_length_of t)) (max arity (arity_of t))
      (max depth (length (n ∷ counts) + depth_of t)) (size + size_of t) h.2 y (omega arith) h.5
      ∙ same_counts counts _ _ _ _ _ _ _ _ _ _ y (omega arith) (omega arith) (omega arith) (omega arith) (omega arith)

-- the numbers after all bytes are those of the tree
pub measures : (bytes : List ℕ) (t : WideTree) → Spells bytes t → Measures (measured empty_gauge bytes) t
measures bytes t h =
    let is : measured empty_gauge bytes ≡ at_rest [] (max 0 (text_length_of t)) (max 0 (arity_of t))
    (max 0 (0 + depth_of t)) (0 + size_of t) =
    ap (λ b. measured empty_gauge b) h.6
    ∙ white_run [] 0 0 0 0 h.0 (h.1 ++ h.2) h.3
    ∙ tree_run t [] 0 0 0 0 h.1 h.2 h.4
    ∙ ap (λ x. measured
    (at_rest [] (max 0 (text_length_of t)) (max 0 (arity_of t)) (max 0 (0 + depth_of t)) (0 + size_of t)) x)
    (sym (append-nil h.2))
    ∙ white_run [] (max 0 (text_length_of t)) (max 0 (arity_of t)) (max 0 (0 + depth_of t)) (0 + size_of t) h.2 []
    h.5 in
    subst (λ g. Measures g t) (sym is)
    (record { text = omega arith; arity = omega arith; depth = omega arith; size = omega arith })

-- ---- the loop

module _ (bytes : List ℕ) (g : Gauge) (i : ℕ) where
  pub measured_more : (h : Gauge) → i < length bytes → h ≡ step g (kind_of (get_or bytes i 0))
      → measured g (drop i bytes) ≡ measured h (drop (i + 1) bytes)
  measured_more h lt e =
      ap (λ x. measured g x) (drop_more bytes i 0 lt) ∙ ap (λ h. measured h (drop (i + 1) bytes)) (sym e)

  pub measured_all : length bytes ≤ i → measured g (drop i bytes) ≡ g
  measured_all le = ap (λ x. measured g x) (drop_all i bytes le)

-- ---- each number is at most the number of bytes

module _ (m n : ℕ) (le : m ≤ n) where
  are_small : (counts : List ℕ) → AreCountsBelow m counts → AreCountsBelow n counts
  are_small [] h = tt
  are_small (c ∷ counts) h = (omega (arith, le, h.0), are_small counts h.1)

  is_short : (part : Part) → IsShortPart m part → IsShortPart n part
  is_short Outside h = tt
  is_short (Inside c) h = omega (arith, le, h)
  is_short (Escaped c) h = omega (arith, le, h)

  pub small_more : (g : Gauge) → IsSmallGauge m g → IsSmallGauge n g
  small_more g h =
      record { part = is_short g.part h.part; counts = are_small g.counts h.counts; size = omega (arith, le, h.size) }

counted_small : (n : ℕ) (counts : List ℕ) → AreCountsBelow n counts → AreCountsBelow (n + 1) (counted counts)
counted_small n [] h = tt
counted_small n (c ∷ counts) h = (omega (arith, h.0), are_small n (n + 1) (omega arith) counts h.1)

module _ (n : ℕ) (g : Gauge) (some : 0 < n) (h : IsSmallGauge n g) where
  longer_small : (m : ℕ) → m < n → IsSmallGauge (n + 1) (gauge_longer g m)
  longer_small m lt =
      record {
        part = omega (arith, lt);
        counts = are_small n (n + 1) (omega arith) g.counts h.counts;
        size = omega (arith, h.size);
      }

  closed_small : (counts : List ℕ) → AreCountsBelow n counts → IsSmallGauge (n + 1) (gauge_closed g counts)
  closed_small [] k = small_more n (n + 1) (omega arith) g h
  closed_small (c ∷ counts) k =
      record {
        part = is_short n (n + 1) (omega arith) g.part h.part;
        counts = counted_small n counts k.1;
        size = omega (arith, h.size);
      }

  outside_small : (k : Kind) → IsSmallGauge (n + 1) (outside_step g k)
  unfolding outside_step
  outside_small Opens =
      record {
        part = is_short n (n + 1) (omega arith) g.part h.part;
        counts =
            (omega (arith, some), are_small n (n + 1) (omega arith) g.counts h.counts);
        size = omega (arith, h.size);
      }
  outside_small Quote =
      record {
        part = omega (arith, some);
        counts = are_small n (n + 1) (omega arith) g.counts h.counts;
        size = omega (arith, h.size);
      }
  outside_small Closes = closed_small g.counts h.counts
  outside_small _ = small_more n (n + 1) (omega arith) g h

  inside_small : (m : ℕ) (k : Kind) → m < n → IsSmallGauge (n + 1) (inside_step g m k)
  unfolding inside_step
  inside_small m Quote lt =
      record { part = tt; counts = counted_small n g.counts h.counts; size = omega (arith, h.size) }
  inside_small m Backslash lt =
      record {
        part = omega (arith, lt);
        counts = are_small n (n + 1) (omega arith) g.counts h.counts;
        size = omega (arith, h.size);
      }
  inside_small m _ lt = longer_small m lt

  part_small : (part : Part) (k : Kind) → IsShortPart n part → IsSmallGauge (n + 1) (step_in part g k)
  part_small Outside k lt = outside_small k
  part_small (Inside m) k lt = inside_small m k lt
  part_small (Escaped m) k lt = longer_small m lt

  pub step_small : (k : Kind) → IsSmallGauge (n + 1) (step g k)
  step_small k = part_small g.part k h.part
