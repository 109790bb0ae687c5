-- The machine without bounds, over unfinished bytes.
use Rattle.std.proofs.Common.{◌≡◌, ℕ, zero, suc, ◌+◌, Bool, true, false, ◌&&◌, List, [], ◌∷◌, ◌++◌, length, refl, sym}
use Rattle.std.proofs.Common.{ap, subst, ◌∙◌, append_assoc, arith, ◌⊎◌, inl, inr, ⊎_elim}
use Rattle.std.specs.List.{flat_map}
use Rattle.std.proofs.lemmas.List.{append-nil}
use Rattle.tx_tree.specs.Texts.{IsText}
use Rattle.tx_tree.specs.TextScan.{begins_text}
use Rattle.tx_tree.specs.WideTree.{WideTree, Forest, forest, trees, count, depth_of, deepest, arity_of, widest}
use Rattle.tx_tree.specs.WideTree.{text_length_of, longest_text, size_of, total_size}
use Rattle.tx_tree.specs.Labels.{BeginsLabel}
use Rattle.tx_tree.proofs.Scanning.{begins_tested}
use Rattle.tx_tree.proofs.Children.{forest_trees, trees_forest}
use Rattle.tx_scm.specs.declared.kinds.Kind.{Kind}
use Rattle.tx_scm.specs.declared.kinds.Kind.TheVariants.{Opens, Closes, Quote, Backslash, Letter}
use Rattle.tx_scm.specs.Kinds.{kind_of}
use Rattle.tx_scm.specs.Spelling.{escaped, SpellsTrees, Spells}
use Rattle.tx_scm.specs.Faults.{AreOpen, IsLabelOpen, IsStringOpen, IsEscapeOpen}
use Rattle.tx_scm.specs.Machine.{Open, State, Bounds, Limits, between, opened, naming, texting, escaping, whole, failed}
use Rattle.tx_scm.specs.Machine.{put_tree, only_if, within, wide, node_of, closed, with_bracket, lengthened}
use Rattle.tx_scm.specs.Machine.{step_between}
use Rattle.tx_scm.specs.Machine.{step_opened, step_naming, step_texting, step_escaping, step, run}
use Rattle.tx_scm.proofs.ByteKinds.{letter_kind, backslash_kind, escaped_as}
use Rattle.tx_scm.proofs.Bounded.{AreBelow}
use Rattle.tx_scm.proofs.Complete.{open_of, NoLetter, NoLetter-white, NoLetter-open, NoLetter-quote, NoLetter-trees}
use Rattle.tx_scm.proofs.Complete.{white_run, white_run_opened, label_run, name_run, text_byte, open_step, quote_step}
use Rattle.tx_scm.proofs.Complete.{complete_trees, whole_run}
use Rattle.tx_scm.proofs.Sound.{OpensTook}

-- ---- a machine with bounds does the same, or fails

only_agrees : (c : Bool) (s : State) → (only_if c s ≡ failed) ⊎ (only_if c s ≡ s)
only_agrees true s = inr refl
only_agrees false s = inl refl

and_agrees : (c d : Bool) (s : State) → (only_if (c && d) s ≡ failed) ⊎ (only_if (c && d) s ≡ only_if d s)
and_agrees true d s = inr refl
and_agrees false d s = inl refl

pub run-append : (bounds : Bounds) (x y : List ℕ) (s : State) → run bounds s (x ++ y) ≡ run bounds (run bounds s x) y
run-append bounds [] y s = refl
run-append bounds (b ∷ x) y s = run-append bounds x y (step bounds s (kind_of b) b)

module _ (bounds : Bounds) where
  closed_agrees : (opens : List Open) → (closed bounds opens ≡ failed) ⊎ (closed bounds opens ≡ closed wide opens)
  closed_agrees [] = inr refl
  closed_agrees (o ∷ opens) = only_agrees (bounds.keeps (node_of o)) (put_tree (node_of o) opens)

  between_agrees : (k : Kind) (opens : List Open) → (step_between bounds opens k ≡ failed)
      ⊎ (step_between bounds opens k ≡ step_between wide opens k)
  unfolding step_between
  between_agrees Opens opens = only_agrees (bounds.room opens) (opened opens)
  between_agrees Quote opens = only_agrees (bounds.room opens) (texting [] opens)
  between_agrees Closes opens = closed_agrees opens
  between_agrees _ opens = inr refl

  naming_agrees : (k : Kind) (b : ℕ) (label : List ℕ) (opens : List Open)
      → (step_naming bounds label opens k b ≡ failed)
      ⊎ (step_naming bounds label opens k b ≡ step_naming wide label opens k b)
  unfolding step_naming
  naming_agrees Letter b label opens = inr refl
  naming_agrees k b label opens = between_agrees k (with_bracket label opens)

  lengthened_agrees : (text : List ℕ) (opens : List Open) (b : ℕ) → (lengthened bounds text opens b ≡ failed)
      ⊎ (lengthened bounds text opens b ≡ lengthened wide text opens b)
  lengthened_agrees text opens b =
      and_agrees (bounds.longer text) (begins_text (text ++ b ∷ [])) (texting (text ++ b ∷ []) opens)

  texting_agrees : (k : Kind) (b : ℕ) (text : List ℕ) (opens : List Open)
      → (step_texting bounds text opens k b ≡ failed)
      ⊎ (step_texting bounds text opens k b ≡ step_texting wide text opens k b)
  unfolding step_texting
  texting_agrees Quote b text opens = inr refl
  texting_agrees Backslash b text opens = inr refl
  texting_agrees _ b text opens = lengthened_agrees text opens b

  escaping_agrees : (k : Kind) (b : ℕ) (text : List ℕ) (opens : List Open)
      → (step_escaping bounds text opens k b ≡ failed)
      ⊎ (step_escaping bounds text opens k b ≡ step_escaping wide text opens k b)
  unfolding step_escaping
  escaping_agrees Quote b text opens = lengthened_agrees text opens b
  escaping_agrees Backslash b text opens = lengthened_agrees text opens b
  escaping_agrees _ b text opens = inr refl

  pub step_agrees : (s : State) (k : Kind) (b : ℕ)
      → (step bounds s k b ≡ failed) ⊎ (step bounds s k b ≡ step wide s k b)
  step_agrees (between opens) k b = between_agrees k opens
  step_agrees (naming label opens) k b = naming_agrees k b label opens
  step_agrees (texting text opens) k b = texting_agrees k b text opens
  step_agrees (escaping text opens) k b = escaping_agrees k b text opens
  step_agrees _ k b = inr refl

  failed_run : (x : List ℕ) → run bounds failed x ≡ failed
  failed_run [] = refl
  failed_run (b ∷ x) = failed_run x

  run_agrees : (x : List ℕ) (s : State) → (run bounds s x ≡ failed) ⊎ (run bounds s x ≡ run wide s x)
  run_agrees [] s = inr refl
  run_agrees (b ∷ x) s =
      ⊎_elim
      (λ e. inl (ap (λ t. run bounds t x) e ∙ failed_run x))
      (λ e. subst (λ t. (run bounds t x ≡ failed) ⊎ (run bounds t x ≡ run wide (step wide s (kind_of b) b) x)) (sym e)
      (run_agrees x (step wide s (kind_of b) b)))
      (step_agrees s (kind_of b) b)

  -- where a machine with bounds gets to, the one without gets to
  comes_too : (x : List ℕ) (s t : State) → (t ≡ failed → ⊥) → run bounds s x ≡ t → run wide s x ≡ t
  comes_too x s t n e = ⊎_elim (λ f. absurd (n (sym e ∙ f))) (λ f. sym f ∙ e) (run_agrees x s)

-- ---- whole trees

pub wide_whole : (x : List ℕ) (t : WideTree) → Spells x t → run wide (between []) x ≡ whole t
wide_whole x t h =
    let limits : Limits =
    record { text = text_length_of t; arity = arity_of t; depth = depth_of t; size = size_of t } in
    comes_too (within limits) x (between []) (whole t) (λ e. cc)
    (whole_run limits t x
    (record { text = omega arith; arity = omega arith; depth = omega arith; size = omega arith }) h)

-- the children of a bracket
wide_trees : (ts : Forest) (x y label : List ℕ) (opens : List Open) → SpellsTrees x ts
    → run wide (between (with_bracket label opens)) (x ++ y) ≡ run wide (between (open_of label (trees ts) ∷ opens)) y
wide_trees ts x y label opens h =
    let limits : Limits =
    record {
      text = longest_text ts;
      arity = count ts + widest ts;
      depth = suc (length opens) + deepest ts;
      size = total_size ts;
    } in
    let below : AreBelow limits ts =
    record { text = omega arith; arity = omega arith; depth = omega arith; size = omega arith } in
    let come : run (within limits) (between (with_bracket label opens)) (x ++ []) ≡ between
    (open_of label (trees ts) ∷ opens) =
    complete_trees limits ts x [] label [] opens (omega arith) below (omega arith) h in
    let all : run wide (between (with_bracket label opens)) x ≡ between (open_of label (trees ts) ∷ opens) =
    comes_too (within limits) x (between (with_bracket label opens)) _ (λ e. cc)
    (ap (λ z. run (within limits) (between (with_bracket label opens)) z) (sym (append-nil x)) ∙ come) in
    run-append wide x y (between (with_bracket label opens)) ∙ ap (λ s. run wide s y) all

-- ---- open brackets

bracket_parts : (x p before label children behind y : List ℕ)
    → x ≡ p ++ 40 ∷ (before ++ (label ++ (children ++ behind)))
    → x ++ y ≡ p ++ 40 ∷ (before ++ (label ++ (children ++ (behind ++ y))))
bracket_parts x p before label children behind y e = rw e (simp append_assoc)

pub wide_opens : (opens : List Open) (x y : List ℕ) → OpensTook opens x → NoLetter y
    → run wide (between []) (x ++ y) ≡ run wide (between opens) y
wide_opens [] x y h n = white_run wide x y [] h
wide_opens (o ∷ opens) x y h n =
    let z : List ℕ = h.2 ++ (h.3 ++ y) in
    ap (λ z. run wide (between []) z) (bracket_parts x h.0 h.1 o.label h.2 h.3 y h.9)
    ∙ wide_opens opens h.0 (40 ∷ (h.1 ++ (o.label ++ z))) h.4 (NoLetter-open (h.1 ++ (o.label ++ z)))
    ∙ open_step wide (h.1 ++ (o.label ++ z)) opens refl
    ∙ white_run_opened wide h.1 (o.label ++ z) opens h.5
    ∙ label_run wide o.label z opens h.6
    (NoLetter-trees (forest o.children) h.2 (h.3 ++ y) h.7 (NoLetter-white h.3 y h.8 n))
    ∙ wide_trees (forest o.children) h.2 (h.3 ++ y) o.label opens h.7
    ∙ ap (λ ts. run wide (between (open_of o.label ts ∷ opens)) (h.3 ++ y)) (trees_forest o.children)
    ∙ white_run wide h.3 y (o ∷ opens) h.8

-- brackets by their number, and by their labels and trees
pub are_open : (opens : List Open) (x : List ℕ) → OpensTook opens x → AreOpen (length opens) x
are_open [] x h = h
are_open (o ∷ opens) x h =
    (h.0, h.1, o.label, h.2, h.3, forest o.children, are_open opens h.0 h.4, h.5, h.6, h.7, h.8, h.9)

pub open_lists : (n : ℕ) (x : List ℕ) → AreOpen n x → (opens : List Open) × OpensTook opens x
open_lists zero x h = ([], h)
open_lists (suc n) x h =
    let outer = open_lists n h.0 h.6 in
    let o : Open = record { label = h.2; children = trees h.5 } in (
      o ∷ outer.0,
      (
        h.0,
        h.1,
        h.3,
        h.4,
        outer.1,
        h.7,
        h.8,
        subst (λ ts. SpellsTrees h.3 ts) (sym (forest_trees h.5)) h.9,
        h.10,
        h.11,
      ),
    )

-- ---- unfinished labels

abbrev pub after_label : List ℕ → List Open → State
after_label [] opens = opened opens
after_label (b ∷ label) opens = naming (b ∷ label) opens

label_front : (label : List ℕ) (opens : List Open) → BeginsLabel label
    → run wide (opened opens) label ≡ after_label label opens
unfolding step_opened
label_front [] opens h = refl
label_front (b ∷ label) opens h =
    ap (λ k. run wide (step_opened opens k b) label) (letter_kind b h.0.0)
    ∙ ap (λ x. run wide (naming (b ∷ []) opens) x) (sym (append-nil label))
    ∙ name_run wide label (b ∷ []) [] opens h.0.1 (omega (arith, h.1))

pub wide_label : (label x : List ℕ) → IsLabelOpen label x
    → (opens : List Open) × (run wide (between []) x ≡ after_label label opens)
wide_label label x h =
    let outer = open_lists h.0 h.1 h.3 in
    let opens = outer.0 in (
      opens,
      ap (λ z. run wide (between []) z) h.6
          ∙ wide_opens opens h.1 (40 ∷ (h.2 ++ label)) outer.1 (NoLetter-open (h.2 ++ label))
          ∙ open_step wide (h.2 ++ label) opens refl
          ∙ white_run_opened wide h.2 label opens h.4
          ∙ label_front label opens h.5,
    )

-- ---- unfinished strings

text_front : (more text rest : List ℕ) (opens : List Open) → IsText (text ++ (more ++ rest))
    → run wide (texting text opens) (flat_map escaped more) ≡ texting (text ++ more) opens
text_front [] text rest opens h = ap (λ a. texting a opens) (sym (append-nil text))
text_front (b ∷ more) text rest opens h =
    let longer : IsText ((text ++ b ∷ []) ++ (more ++ rest)) =
    subst IsText (sym (append_assoc text (b ∷ []) (more ++ rest))) h in
    text_byte wide (kind_of b) (escaped b) b text (flat_map escaped more) opens refl (escaped_as (kind_of b) b refl)
    refl (begins_tested (text ++ b ∷ []) (more ++ rest) longer)
    ∙ text_front more (text ++ b ∷ []) rest opens longer
    ∙ ap (λ a. texting a opens) (append_assoc text (b ∷ []) more)

pub wide_string : (x : List ℕ) → IsStringOpen x → (text : List ℕ) × (opens : List Open)
    × (run wide (between []) x ≡ texting text opens)
wide_string x h =
    let outer = open_lists h.0 h.1 h.4 in
    let opens = outer.0 in (
      h.2,
      opens,
      ap (λ z. run wide (between []) z) h.6
          ∙ wide_opens opens h.1 (34 ∷ flat_map escaped h.2) outer.1 (NoLetter-quote (flat_map escaped h.2))
          ∙ quote_step wide (flat_map escaped h.2) opens refl
          ∙ text_front h.2 [] h.3 opens h.5,
    )

backslash_step : (text : List ℕ) (opens : List Open) → run wide (texting text opens) (92 ∷ []) ≡ escaping text opens
unfolding step_texting
backslash_step text opens = ap (λ k. step_texting wide text opens k 92) backslash_kind

pub wide_escape : (x : List ℕ) → IsEscapeOpen x → (text : List ℕ) × (opens : List Open)
    × (run wide (between []) x ≡ escaping text opens)
wide_escape x h =
    let string = wide_string h.0 h.1 in (
      string.0,
      string.1,
      ap (λ z. run wide (between []) z) h.2
          ∙ run-append wide h.0 (92 ∷ []) (between [])
          ∙ ap (λ s. run wide s (92 ∷ [])) string.2
          ∙ backslash_step string.0 string.1,
    )
