-- What spells a tree within the limits is read.
use Rattle.std.proofs.Common.{◌≡◌, ℕ, suc, ◌+◌, ◌<◌, ◌≤◌, true, List, [], ◌∷◌, ◌++◌, length, Some, refl, sym, ap, subst}
use Rattle.std.proofs.Common.{◌∙◌, append_assoc, length-append, arith}
use Rattle.std.specs.List.{AllByRecursion, flat_map}
use Rattle.std.proofs.lemmas.List.{append-nil}
use Rattle.std.proofs.lemmas.Bool.{lt-ltb, and_from}
use Rattle.std.proofs.Math.Nat.{le-max_left, le-max_right}
use Rattle.tx_tree.specs.Texts.{IsText}
use Rattle.tx_tree.specs.Labels.{is_label_byte, IsLabel}
use Rattle.tx_tree.specs.TextScan.{begins_text}
use Rattle.tx_tree.specs.WideTree.{WideTree, Forest, leaf, node, nil, cons, forest, trees, count, depth_of, deepest}
use Rattle.tx_tree.specs.WideTree.{arity_of, widest, text_length_of, size_of}
use Rattle.tx_tree.proofs.Scanning.{text_tested, begins_tested}
use Rattle.tx_tree.proofs.Children.{forest_trees}
use Rattle.tx_scm.specs.declared.kinds.Kind.{Kind}
use Rattle.tx_scm.specs.declared.kinds.Kind.TheVariants.{Opens, Closes, Quote, Backslash, Letter}
use Rattle.tx_scm.specs.Spelling.{AreWhite, escaped, string_of, SpellsTree, SpellsTrees, Spells}
use Rattle.tx_scm.specs.Kinds.{kind_of}
use Rattle.tx_scm.specs.Machine.{Open, Bounds, Limits, between, opened, naming, texting, whole, put_tree, only_if}
use Rattle.tx_scm.specs.Machine.{has_place}
use Rattle.tx_scm.specs.Machine.{has_tree_room, within, may_keep, closed, with_bracket, lengthened, step_between}
use Rattle.tx_scm.specs.Machine.{step_opened}
use Rattle.tx_scm.specs.Machine.{step_naming, step_texting, step_escaping, step_whole, run, tree_in, completes}
use Rattle.tx_scm.proofs.ByteKinds.{white_kind, letter_kind, opens_kind, closes_kind, quote_kind, backslash_kind}
use Rattle.tx_scm.proofs.ByteKinds.{EscapedAs, escaped_as}
use Rattle.tx_scm.proofs.Bounded.{IsBelow, AreBelow, below_all, below_first, below_others, keeps_below}

abbrev pub open_of : List ℕ → List WideTree → Open
open_of label children = record { label = label; children = children }

-- there is a first byte, and it is no letter
abbrev pub NoLetter : List ℕ → Type 0
NoLetter [] = ⊥
NoLetter (b ∷ bytes) = kind_of b ≡ Letter → ⊥

module _ (bounds : Bounds) where
  -- ---- white

  pub white_run : (w y : List ℕ) (opens : List Open) → AreWhite w
      → run bounds (between opens) (w ++ y) ≡ run bounds (between opens) y
  unfolding step_between
  white_run [] y opens h = refl
  white_run (b ∷ w) y opens h = ap (λ k. run bounds (step_between bounds opens k) (w ++ y)) (white_kind b h.0)
      ∙ white_run w y opens h.1

  pub white_run_opened : (w y : List ℕ) (opens : List Open) → AreWhite w
      → run bounds (opened opens) (w ++ y) ≡ run bounds (opened opens) y
  unfolding step_opened
  white_run_opened [] y opens h = refl
  white_run_opened (b ∷ w) y opens h = ap (λ k. run bounds (step_opened opens k b) (w ++ y)) (white_kind b h.0)
      ∙ white_run_opened w y opens h.1

  pub white_run_whole : (w : List ℕ) (t : WideTree) → AreWhite w → run bounds (whole t) w ≡ whole t
  unfolding step_whole
  white_run_whole [] t h = refl
  white_run_whole (b ∷ w) t h = ap (λ k. run bounds (step_whole t k) w) (white_kind b h.0) ∙ white_run_whole w t h.1

  -- ---- strings

  lengthened_is : (text y : List ℕ) (opens : List Open) (b : ℕ) → bounds.longer text ≡ true
      → begins_text (text ++ b ∷ []) ≡ true
      → run bounds (lengthened bounds text opens b) y ≡ run bounds (texting (text ++ b ∷ []) opens) y
  lengthened_is text y opens b l g =
      ap (λ c. run bounds (only_if c (texting (text ++ b ∷ []) opens)) y) (and_from _ _ l g)

  -- one byte of a text, as it is written in a string
  pub text_byte : (k : Kind) (e : List ℕ) (b : ℕ) (text y : List ℕ) (opens : List Open) → kind_of b ≡ k
      → EscapedAs k b e → bounds.longer text ≡ true → begins_text (text ++ b ∷ []) ≡ true
      → run bounds (texting text opens) (e ++ y) ≡ run bounds (texting (text ++ b ∷ []) opens) y
  unfolding step_texting step_escaping
  text_byte Quote e b text y opens k h l g =
      ap (λ e. run bounds (texting text opens) (e ++ y)) h
      ∙ ap (λ k. run bounds (step_texting bounds text opens k 92) (b ∷ y)) backslash_kind
      ∙ ap (λ k. run bounds (step_escaping bounds text opens k b) y) k
      ∙ lengthened_is text y opens b l g
  text_byte Backslash e b text y opens k h l g =
      ap (λ e. run bounds (texting text opens) (e ++ y)) h
      ∙ ap (λ k. run bounds (step_texting bounds text opens k 92) (b ∷ y)) backslash_kind
      ∙ ap (λ k. run bounds (step_escaping bounds text opens k b) y) k
      ∙ lengthened_is text y opens b l g
  text_byte _ e b text y opens k h l g =
      ap (λ e. run bounds (texting text opens) (e ++ y)) h
      ∙ ap (λ k. run bounds (step_texting bounds text opens k b) y) k
      ∙ lengthened_is text y opens b l g

  pub text_end : (text y : List ℕ) (opens : List Open) → IsText text
      → run bounds (texting text opens) (34 ∷ y) ≡ run bounds (put_tree (leaf text) opens) y
  unfolding step_texting
  text_end text y opens h =
      ap (λ k. run bounds (step_texting bounds text opens k 34) y) quote_kind
      ∙ ap (λ c. run bounds (only_if c (put_tree (leaf text) opens)) y) (text_tested text h)

  -- ---- labels

  name_byte : (k : Kind) (b : ℕ) (label : List ℕ) (opens : List Open) → k ≡ Letter → length label < 64
      → step_naming bounds label opens k b ≡ naming (label ++ b ∷ []) opens
  unfolding step_naming
  name_byte Letter b label opens h n = ap (λ c. only_if c (naming (label ++ b ∷ []) opens)) (lt-ltb _ _ n)
  name_byte _ b label opens h n = absurd cc

  pub name_run : (more label y : List ℕ) (opens : List Open) → AllByRecursion (λ b. is_label_byte b ≡ true) more
      → length label + length more ≤ 64
      → run bounds (naming label opens) (more ++ y) ≡ run bounds (naming (label ++ more) opens) y
  name_run [] label y opens h n = ap (λ a. run bounds (naming a opens) y) (sym (append-nil label))
  name_run (b ∷ more) label y opens h n =
      ap (λ s. run bounds s (more ++ y)) (name_byte (kind_of b) b label opens (letter_kind b h.0) (omega arith))
      ∙ name_run more (label ++ b ∷ []) y opens h.1 (omega (arith, length-append label (b ∷ [])))
      ∙ ap (λ a. run bounds (naming a opens) y) (append_assoc label (b ∷ []) more)

  name_ends : (k : Kind) (b : ℕ) (label : List ℕ) (opens : List Open) → (k ≡ Letter → ⊥)
      → step_naming bounds label opens k b ≡ step_between bounds (with_bracket label opens) k
  unfolding step_naming
  name_ends Letter b label opens h = absurd (h refl)
  name_ends _ b label opens h = refl

  after_name : (y label : List ℕ) (opens : List Open) → NoLetter y
      → run bounds (naming label opens) y ≡ run bounds (between (with_bracket label opens)) y
  after_name [] label opens h = absurd h
  after_name (b ∷ y) label opens h = ap (λ s. run bounds s y) (name_ends (kind_of b) b label opens h)

  pub label_run : (label y : List ℕ) (opens : List Open) → IsLabel label → NoLetter y
      → run bounds (opened opens) (label ++ y) ≡ run bounds (between (with_bracket label opens)) y
  unfolding step_opened
  label_run [] y opens h n = absurd (omega (arith, h.some))
  label_run (b ∷ label) y opens h n =
      ap (λ k. run bounds (step_opened opens k b) (label ++ y)) (letter_kind b h.each.0)
      ∙ name_run label (b ∷ []) y opens h.each.1 (omega (arith, h.short))
      ∙ after_name y (b ∷ label) opens n

  -- ---- brackets

  pub quote_step : (y : List ℕ) (opens : List Open) → bounds.room opens ≡ true
      → run bounds (between opens) (34 ∷ y) ≡ run bounds (texting [] opens) y
  unfolding step_between
  quote_step y opens h = ap (λ k. run bounds (step_between bounds opens k) y) quote_kind
      ∙ ap (λ c. run bounds (only_if c (texting [] opens)) y) h

  pub open_step : (y : List ℕ) (opens : List Open) → bounds.room opens ≡ true
      → run bounds (between opens) (40 ∷ y) ≡ run bounds (opened opens) y
  unfolding step_between
  open_step y opens h = ap (λ k. run bounds (step_between bounds opens k) y) opens_kind
      ∙ ap (λ c. run bounds (only_if c (opened opens)) y) h

  pub close_step : (y : List ℕ) (opens : List Open)
      → run bounds (between opens) (41 ∷ y) ≡ run bounds (closed bounds opens) y
  unfolding step_between
  close_step y opens = ap (λ k. run bounds (step_between bounds opens k) y) closes_kind

-- ---- what comes after a label

pub NoLetter-white : (w y : List ℕ) → AreWhite w → NoLetter y → NoLetter (w ++ y)
NoLetter-white [] y h n = n
NoLetter-white (b ∷ w) y h n = λ e. let white = white_kind b h.0 in cc

NoLetter-kind : (b : ℕ) (k : Kind) (y : List ℕ) → kind_of b ≡ k → (k ≡ Letter → ⊥) → NoLetter (b ∷ y)
NoLetter-kind b k y e n = λ f. n (sym e ∙ f)

pub NoLetter-quote : (y : List ℕ) → NoLetter (34 ∷ y)
NoLetter-quote y = NoLetter-kind 34 Quote y quote_kind (λ e. cc)

pub NoLetter-open : (y : List ℕ) → NoLetter (40 ∷ y)
NoLetter-open y = NoLetter-kind 40 Opens y opens_kind (λ e. cc)

pub NoLetter-close : (y : List ℕ) → NoLetter (41 ∷ y)
NoLetter-close y = NoLetter-kind 41 Closes y closes_kind (λ e. cc)

pub leaf_parts : (bytes text y : List ℕ) → bytes ≡ string_of text → bytes ++ y ≡ 34 ∷ (flat_map escaped text ++ 34 ∷ y)
leaf_parts bytes text y e = rw e (simp append_assoc)

pub node_parts : (bytes before label x behind y : List ℕ)
    → bytes ≡ 40 ∷ (before ++ (label ++ (x ++ (behind ++ 41 ∷ []))))
    → bytes ++ y ≡ 40 ∷ (before ++ (label ++ (x ++ (behind ++ 41 ∷ y))))
node_parts bytes before label x behind y e = rw e (simp append_assoc)

pub cons_parts : (bytes w x z y : List ℕ) → bytes ≡ w ++ (x ++ z) → bytes ++ y ≡ w ++ (x ++ (z ++ y))
cons_parts bytes w x z y e = rw e (simp append_assoc)

NoLetter-tree : (t : WideTree) (x y : List ℕ) → SpellsTree x t → NoLetter (x ++ y)
NoLetter-tree (leaf text) x y h =
    subst NoLetter (sym (leaf_parts x text y h.1)) (NoLetter-quote (flat_map escaped text ++ 34 ∷ y))
NoLetter-tree (node label ts) x y h =
    subst NoLetter (sym (node_parts x h.0 label h.1 h.2 y h.7))
    (NoLetter-open (h.0 ++ (label ++ (h.1 ++ (h.2 ++ 41 ∷ y)))))

pub NoLetter-trees : (ts : Forest) (x y : List ℕ) → SpellsTrees x ts → NoLetter y → NoLetter (x ++ y)
NoLetter-trees nil x y h n = subst (λ b. NoLetter (b ++ y)) (sym h) n
NoLetter-trees (cons t ts) x y h n =
    subst NoLetter (sym (cons_parts x h.0 h.1 h.2 y h.6))
    (NoLetter-white h.0 (h.1 ++ (h.2 ++ y)) h.3 (NoLetter-tree t h.1 (h.2 ++ y) h.4))

module _ (limits : Limits) where
  pub text_run : (more text y : List ℕ) (opens : List Open) → IsText (text ++ more)
      → length text + length more ≤ limits.text
      → run (within limits) (texting text opens) (flat_map escaped more ++ 34 ∷ y) ≡ run (within limits)
      (put_tree (leaf (text ++ more)) opens) y
  text_run [] text y opens h n =
      text_end (within limits) text y opens (subst IsText (append-nil text) h)
      ∙ ap (λ a. run (within limits) (put_tree (leaf a) opens) y) (sym (append-nil text))
  text_run (b ∷ more) text y opens h n =
      let longer : IsText ((text ++ b ∷ []) ++ more) = subst IsText (sym (append_assoc text (b ∷ []) more)) h in
      ap (λ x. run (within limits) (texting text opens) x) (append_assoc (escaped b) (flat_map escaped more) (34 ∷ y))
      ∙ text_byte (within limits) (kind_of b) (escaped b) b text (flat_map escaped more ++ 34 ∷ y) opens refl
      (escaped_as (kind_of b) b refl) (lt-ltb _ _ (omega arith)) (begins_tested (text ++ b ∷ []) more longer)
      ∙ text_run more (text ++ b ∷ []) y opens longer (omega (arith, length-append text (b ∷ [])))
      ∙ ap (λ a. run (within limits) (put_tree (leaf a) opens) y) (append_assoc text (b ∷ []) more)

  room_is : (opens : List Open) → length opens < limits.depth → has_place limits opens ≡ true
      → has_tree_room limits opens ≡ true
  room_is opens n r = and_from _ _ (lt-ltb _ _ n) r

  kept_step : (y : List ℕ) (o : Open) (opens : List Open) (t : WideTree) → node o.label (forest o.children) ≡ t
      → IsBelow limits t
      → run (within limits) (closed (within limits) (o ∷ opens)) y ≡ run (within limits) (put_tree t opens) y
  kept_step y o opens t e h =
      ap (λ u. run (within limits) (only_if (may_keep limits u) (put_tree u opens)) y) e
      ∙ ap (λ c. run (within limits) (only_if c (put_tree t opens)) y) (keeps_below limits t h)

  mutual
    pub complete_tree : (t : WideTree) (x y : List ℕ) (opens : List Open) → length opens + depth_of t ≤ limits.depth
        → IsBelow limits t → has_place limits opens ≡ true
        → SpellsTree x t → run (within limits) (between opens) (x ++ y) ≡ run (within limits) (put_tree t opens) y
    complete_tree (leaf text) x y opens d w r h =
        ap (λ b. run (within limits) (between opens) b) (leaf_parts x text y h.1)
        ∙ quote_step (within limits) (flat_map escaped text ++ 34 ∷ y) opens (room_is opens (omega arith) r)
        ∙ text_run text [] y opens h.0 (omega (arith, w.text))
    complete_tree (node label ts) x y opens d w r h =
        ap (λ b. run (within limits) (between opens) b) (node_parts x h.0 label h.1 h.2 y h.7)
        ∙ open_step (within limits) (h.0 ++ (label ++ (h.1 ++ (h.2 ++ 41 ∷ y)))) opens (room_is opens (omega arith) r)
        ∙ white_run_opened (within limits) h.0 (label ++ (h.1 ++ (h.2 ++ 41 ∷ y))) opens h.3
        ∙ label_run (within limits) label (h.1 ++ (h.2 ++ 41 ∷ y)) opens h.4
        (NoLetter-trees ts h.1 (h.2 ++ 41 ∷ y) h.5 (NoLetter-white h.2 (41 ∷ y) h.6 (NoLetter-close y)))
        ∙ complete_trees ts h.1 (h.2 ++ 41 ∷ y) label [] opens (omega arith) (below_all limits label ts w)
        (omega (arith, w.arity, le-max_left (count ts) (widest ts))) h.5
        ∙ white_run (within limits) h.2 (41 ∷ y) (open_of label (trees ts) ∷ opens) h.6
        ∙ close_step (within limits) y (open_of label (trees ts) ∷ opens)
        ∙ kept_step y (open_of label (trees ts)) opens (node label ts) (ap (node label) (forest_trees ts)) w

    pub complete_trees : (ts : Forest) (x y label : List ℕ) (before : List WideTree) (opens : List Open)
        → suc (length opens) + deepest ts ≤ limits.depth → AreBelow limits ts → length before + count ts ≤ limits.arity
        → SpellsTrees x ts → run (within limits) (between (open_of label before ∷ opens)) (x ++ y) ≡ run (within limits)
        (between (open_of label (before ++ trees ts) ∷ opens)) y
    complete_trees nil x y label before opens a w c h =
        ap (λ z. run (within limits) (between (open_of label before ∷ opens)) (z ++ y)) h
        ∙ ap (λ e. run (within limits) (between (open_of label e ∷ opens)) y) (sym (append-nil before))
    complete_trees (cons t ts) x y label before opens a w c h =
        ap (λ z. run (within limits) (between (open_of label before ∷ opens)) z) (cons_parts x h.0 h.1 h.2 y h.6)
        ∙ white_run (within limits) h.0 (h.1 ++ (h.2 ++ y)) (open_of label before ∷ opens) h.3
        ∙ complete_tree t h.1 (h.2 ++ y) (open_of label before ∷ opens)
        (omega (arith, le-max_left (depth_of t) (deepest ts))) (below_first limits t ts w)
        (lt-ltb _ _ (omega arith)) h.4
        ∙ complete_trees ts h.2 y label (before ++ t ∷ []) opens (omega (arith, le-max_right (depth_of t) (deepest ts)))
        (below_others limits t ts w) (omega (arith, length-append before (t ∷ []))) h.5
        ∙ ap (λ e. run (within limits) (between (open_of label e ∷ opens)) y) (append_assoc before (t ∷ []) (trees ts))

  pub whole_run : (t : WideTree) (x : List ℕ) → IsBelow limits t → Spells x t
      → run (within limits) (between []) x ≡ whole t
  whole_run t x w h =
      ap (λ b. run (within limits) (between []) b) h.6
      ∙ white_run (within limits) h.0 (h.1 ++ h.2) [] h.3
      ∙ complete_tree t h.1 h.2 [] (omega (arith, w.depth)) w refl h.4
      ∙ white_run_whole (within limits) h.2 t h.5

  pub complete : (t : WideTree) (x : List ℕ) → IsBelow limits t → Spells x t
      → completes (within limits) (between []) x ≡ Some t
  complete t x w h = ap tree_in (whole_run t x w h)

-- the same bytes spell at most one tree
pub spelled_once : (bytes : List ℕ) (t u : WideTree) → Spells bytes t → Spells bytes u → t ≡ u
spelled_once bytes t u h k =
    let limits : Limits = record {
      text = text_length_of t + text_length_of u;
      arity = arity_of t + arity_of u;
      depth = depth_of t + depth_of u;
      size = size_of t + size_of u;
    } in
    let a = complete limits t bytes
    (record { text = omega arith; arity = omega arith; depth = omega arith; size = omega arith }) h in
    let b = complete limits u bytes
    (record { text = omega arith; arity = omega arith; depth = omega arith; size = omega arith }) k in
    cc
