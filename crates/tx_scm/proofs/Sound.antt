-- The bytes spell the tree that is read, and it is within the limits.
use Rattle.std.proofs.Common.{◌≡◌, ℕ, ◌≤◌, Bool, true, false, ltb, ◌&&◌, List, [], ◌∷◌, ◌++◌, length, Some, refl, sym}
use Rattle.std.proofs.Common.{subst, append_assoc, length-append, arith}
use Rattle.std.specs.List.{flat_map}
use Rattle.std.proofs.lemmas.List.{append-nil}
use Rattle.std.proofs.lemmas.List.Concat.{flat_map-append}
use Rattle.std.proofs.lemmas.Bool.{ltb-true, and_parts}
use Rattle.tx_tree.specs.Limits.{IsWithinLimits}
use Rattle.tx_tree.specs.Labels.{IsLabel}
use Rattle.tx_tree.specs.TextScan.{is_text, begins_text}
use Rattle.tx_tree.specs.WideTree.{WideTree, leaf, forest}
use Rattle.tx_tree.proofs.Scanning.{text_test, all_snoc}
use Rattle.tx_scm.specs.declared.kinds.Kind.{Kind}
use Rattle.tx_scm.specs.declared.kinds.Kind.TheVariants.{White, Opens, Closes, Quote, Backslash, Letter, Other}
use Rattle.tx_scm.specs.Spelling.{is_white, AreWhite, escaped, string_of, SpellsTree, SpellsTrees, Spells}
use Rattle.tx_scm.specs.Kinds.{kind_of}
use Rattle.tx_scm.specs.Machine.{Open, State, Bounds, the_limits, between, opened, naming, texting, escaping, whole}
use Rattle.tx_scm.specs.Machine.{failed, put_tree, only_if, within, may_keep, node_of, closed, with_bracket, lengthened}
use Rattle.tx_scm.specs.Machine.{step_between}
use Rattle.tx_scm.specs.Machine.{step_opened, step_naming, step_texting, step_escaping, step_whole, step, run, tree_in}
use Rattle.tx_scm.specs.Machine.{completes}
use Rattle.tx_scm.proofs.ByteKinds.{is_white_kind, is_letter_kind, is_opens_kind, is_closes_kind, is_quote_kind}
use Rattle.tx_scm.proofs.ByteKinds.{is_backslash_kind, escaped_as}
use Rattle.tx_scm.proofs.Bounded.{below_kept, within_below}

-- ---- lists

-- ---- trees

-- one more tree, after white
one_more : (ts : List WideTree) (t : WideTree) (x w y : List ℕ) → SpellsTrees x (forest ts) → AreWhite w
    → SpellsTree y t → SpellsTrees (x ++ (w ++ y)) (forest (ts ++ t ∷ []))
one_more [] t x w y h white k = (w, y, [], white, k, refl, rw (h, append-nil y) refl)
one_more (a ∷ ts) t x w y h white k =
    (h.0, h.1, h.2 ++ (w ++ y), h.3, h.4, one_more ts t h.2 w y h.5 white k, rw h.6 (simp append_assoc))

-- ---- what has been read

-- the bytes so far, from the opening bracket of each open node
abbrev pub OpensTook : List Open → List ℕ → Type 0
OpensTook [] x = AreWhite x
OpensTook (o ∷ opens) x =
    (p before children behind : List ℕ) × OpensTook opens p × AreWhite before × IsLabel o.label
    × SpellsTrees children (forest o.children) × AreWhite behind
    × (x ≡ p ++ 40 ∷ (before ++ (o.label ++ (children ++ behind))))

abbrev pub Took : State → List ℕ → Type 0
Took (between opens) x = OpensTook opens x
Took (opened opens) x = (p before : List ℕ) × OpensTook opens p × AreWhite before × (x ≡ p ++ 40 ∷ before)
Took (naming label opens) x =
    (p before : List ℕ) × OpensTook opens p × AreWhite before × IsLabel label × (x ≡ p ++ 40 ∷ (before ++ label))
Took (texting text opens) x = (p : List ℕ) × OpensTook opens p × (x ≡ p ++ 34 ∷ flat_map escaped text)
Took (escaping text opens) x = (p : List ℕ) × OpensTook opens p × (x ≡ p ++ 34 ∷ (flat_map escaped text ++ 92 ∷ []))
Took (whole t) x = Spells x t
Took failed x = Unit {0}

pub put_took : (opens : List Open) (t : WideTree) (p y : List ℕ) → OpensTook opens p → SpellsTree y t
    → Took (put_tree t opens) (p ++ y)
put_took [] t p y h k = (p, y, [], h, k, tt, rw append-nil refl)
put_took (o ∷ opens) t p y h k = (
  h.0,
  h.1,
  h.2 ++ (h.3 ++ y),
  [],
  h.4,
  h.5,
  h.6,
  one_more o.children t h.2 h.3 y h.7 h.8 k,
  tt,
  rw h.9 (simp (append_assoc, append-nil)),
)

white_took : (opens : List Open) (x : List ℕ) (b : ℕ) → is_white b ≡ true → OpensTook opens x
    → OpensTook opens (x ++ b ∷ [])
white_took [] x b w h = all_snoc _ x b h w
white_took (o ∷ opens) x b w h =
    (h.0, h.1, h.2, h.3 ++ b ∷ [], h.4, h.5, h.6, h.7, all_snoc _ h.3 b h.8 w, rw h.9 (simp append_assoc))

pub named_took : (label : List ℕ) (opens : List Open) (x : List ℕ) → Took (naming label opens) x
    → OpensTook (with_bracket label opens) x
named_took label opens x h = (h.0, h.1, [], [], h.2, h.3, h.4, refl, tt, rw (h.5, append-nil) refl)

only_took : (c : Bool) (s : State) (x : List ℕ) → (c ≡ true → Took s x) → Took (only_if c s) x
only_took true s x h = h refl
only_took false s x h = tt

-- one byte more in a string
text_more : (b : ℕ) (text p x : List ℕ) → x ++ b ∷ [] ≡ p ++ 34 ∷ (flat_map escaped text ++ escaped b)
    → x ++ b ∷ [] ≡ p ++ 34 ∷ flat_map escaped (text ++ b ∷ [])
text_more b text p x e = rw (flat_map-append escaped text (b ∷ []), append-nil (escaped b)) e

module _ (bounds : Bounds) where
  pub close_took : (opens : List Open) (x : List ℕ) → OpensTook opens x → Took (closed bounds opens) (x ++ 41 ∷ [])
  close_took [] x h = tt
  close_took (o ∷ opens) x h =
      let inner = h.1 ++ (o.label ++ (h.2 ++ (h.3 ++ 41 ∷ []))) in
      let tree : SpellsTree (40 ∷ inner) (node_of o) = (h.1, h.2, h.3, h.5, h.6, h.7, h.8, refl) in
      let e : x ++ 41 ∷ [] ≡ h.0 ++ 40 ∷ inner = rw h.9 (simp append_assoc) in
      only_took (bounds.keeps (node_of o)) (put_tree (node_of o) opens) (x ++ 41 ∷ [])
      (λ kept. subst (λ z. Took (put_tree (node_of o) opens) z) (sym e)
      (put_took opens (node_of o) h.0 (40 ∷ inner) h.4 tree))

  between_took : (k : Kind) (b : ℕ) (opens : List Open) (x : List ℕ) → kind_of b ≡ k → OpensTook opens x
      → Took (step_between bounds opens k) (x ++ b ∷ [])
  unfolding step_between
  between_took White b opens x e h = white_took opens x b (is_white_kind b e) h
  between_took Opens b opens x e h =
      only_took (bounds.room opens) (opened opens) (x ++ b ∷ []) (λ room. (x, [], h, tt, rw (is_opens_kind b e) refl))
  between_took Quote b opens x e h =
      only_took (bounds.room opens) (texting [] opens) (x ++ b ∷ []) (λ room. (x, h, rw (is_quote_kind b e) refl))
  between_took Closes b opens x e h = rw (is_closes_kind b e) (close_took opens x h)
  between_took _ b opens x e h = tt

  opened_took : (k : Kind) (b : ℕ) (opens : List Open) (x : List ℕ) → kind_of b ≡ k → Took (opened opens) x
      → Took (step_opened opens k b) (x ++ b ∷ [])
  unfolding step_opened
  opened_took White b opens x e h =
      (h.0, h.1 ++ b ∷ [], h.2, all_snoc _ h.1 b h.3 (is_white_kind b e), rw h.4 (simp append_assoc))
  opened_took Letter b opens x e h = (
    h.0,
    h.1,
    h.2,
    h.3,
    record { each = (is_letter_kind b e, tt); some = omega arith; short = omega arith },
    rw h.4 (simp append_assoc),
  )
  opened_took _ b opens x e h = tt

  naming_took : (k : Kind) (b : ℕ) (label : List ℕ) (opens : List Open) (x : List ℕ) → kind_of b ≡ k
      → Took (naming label opens) x → Took (step_naming bounds label opens k b) (x ++ b ∷ [])
  unfolding step_naming
  naming_took Letter b label opens x e h =
      only_took (ltb (length label) 64) (naming (label ++ b ∷ []) opens) (x ++ b ∷ []) (λ lt. (
        h.0,
        h.1,
        h.2,
        h.3,
        record {
          each = all_snoc _ label b h.4.each (is_letter_kind b e);
          some = omega (arith, length-append label (b ∷ []), h.4.some);
          short = omega (arith, length-append label (b ∷ []), ltb-true _ _ lt);
        },
        rw h.5 (simp append_assoc),
      ))
  naming_took k b label opens x e h = between_took k b (with_bracket label opens) x e (named_took label opens x h)

  lengthened_took : (text : List ℕ) (opens : List Open) (b : ℕ) (p x : List ℕ) → OpensTook opens p
      → x ++ b ∷ [] ≡ p ++ 34 ∷ (flat_map escaped text ++ escaped b)
      → Took (lengthened bounds text opens b) (x ++ b ∷ [])
  lengthened_took text opens b p x h e =
      only_took (bounds.longer text && begins_text (text ++ b ∷ [])) (texting (text ++ b ∷ []) opens) (x ++ b ∷ [])
      (λ takes. (p, h, text_more b text p x e))

  texting_took : (k : Kind) (b : ℕ) (text : List ℕ) (opens : List Open) (x : List ℕ) → kind_of b ≡ k
      → Took (texting text opens) x → Took (step_texting bounds text opens k b) (x ++ b ∷ [])
  unfolding step_texting
  texting_took Quote b text opens x e h =
      only_took (is_text text) (put_tree (leaf text) opens) (x ++ b ∷ []) (λ is.
      let parts : x ++ b ∷ [] ≡ h.0 ++ string_of text = rw (is_quote_kind b e, h.2) (simp append_assoc) in
      let tree : SpellsTree (string_of text) (leaf text) = (text_test text is, refl) in
      subst (λ z. Took (put_tree (leaf text) opens) z) (sym parts)
      (put_took opens (leaf text) h.0 (string_of text) h.1 tree))
  texting_took Backslash b text opens x e h = (h.0, h.1, rw (is_backslash_kind b e, h.2) (simp append_assoc))
  texting_took White b text opens x e h =
      lengthened_took text opens b h.0 x h.1 (rw (escaped_as White b e, h.2) (simp append_assoc))
  texting_took Opens b text opens x e h =
      lengthened_took text opens b h.0 x h.1 (rw (escaped_as Opens b e, h.2) (simp append_assoc))
  texting_took Closes b text opens x e h =
      lengthened_took text opens b h.0 x h.1 (rw (escaped_as Closes b e, h.2) (simp append_assoc))
  texting_took Letter b text opens x e h =
      lengthened_took text opens b h.0 x h.1 (rw (escaped_as Letter b e, h.2) (simp append_assoc))
  texting_took Other b text opens x e h =
      lengthened_took text opens b h.0 x h.1 (rw (escaped_as Other b e, h.2) (simp append_assoc))

  escaping_took : (k : Kind) (b : ℕ) (text : List ℕ) (opens : List Open) (x : List ℕ) → kind_of b ≡ k
      → Took (escaping text opens) x → Took (step_escaping bounds text opens k b) (x ++ b ∷ [])
  unfolding step_escaping
  escaping_took Quote b text opens x e h =
      lengthened_took text opens b h.0 x h.1 (rw (escaped_as Quote b e, h.2) (simp append_assoc))
  escaping_took Backslash b text opens x e h =
      lengthened_took text opens b h.0 x h.1 (rw (escaped_as Backslash b e, h.2) (simp append_assoc))
  escaping_took _ b text opens x e h = tt

  whole_took : (k : Kind) (b : ℕ) (t : WideTree) (x : List ℕ) → kind_of b ≡ k → Took (whole t) x
      → Took (step_whole t k) (x ++ b ∷ [])
  unfolding step_whole
  whole_took White b t x e h =
      (h.0, h.1, h.2 ++ b ∷ [], h.3, h.4, all_snoc _ h.2 b h.5 (is_white_kind b e), rw h.6 (simp append_assoc))
  whole_took _ b t x e h = tt

  step_took : (s : State) (b : ℕ) (x : List ℕ) → Took s x → Took (step bounds s (kind_of b) b) (x ++ b ∷ [])
  step_took (between opens) b x h = between_took (kind_of b) b opens x refl h
  step_took (opened opens) b x h = opened_took (kind_of b) b opens x refl h
  step_took (naming label opens) b x h = naming_took (kind_of b) b label opens x refl h
  step_took (texting text opens) b x h = texting_took (kind_of b) b text opens x refl h
  step_took (escaping text opens) b x h = escaping_took (kind_of b) b text opens x refl h
  step_took (whole t) b x h = whole_took (kind_of b) b t x refl h
  step_took failed b x h = tt

  pub run_took : (y x : List ℕ) (s : State) → Took s x → Took (run bounds s y) (x ++ y)
  run_took [] x s h = subst (λ z. Took s z) (sym (append-nil x)) h
  run_took (b ∷ y) x s h =
      subst (λ z. Took (run bounds (step bounds s (kind_of b) b) y) z) (append_assoc x (b ∷ []) y)
      (run_took y (x ++ b ∷ []) (step bounds s (kind_of b) b) (step_took s b x h))

-- ---- the limits

abbrev Fits : State → Type 0
Fits (texting text opens) = length text ≤ the_limits.text
Fits (escaping text opens) = length text ≤ the_limits.text
Fits (whole t) = IsWithinLimits t
Fits _ = Unit {0}

put_fits : (t : WideTree) (opens : List Open) → IsWithinLimits t → Fits (put_tree t opens)
put_fits t [] h = h
put_fits t (o ∷ opens) h = tt

only_fits : (c : Bool) (s : State) → (c ≡ true → Fits s) → Fits (only_if c s)
only_fits true s h = h refl
only_fits false s h = tt

close_fits : (opens : List Open) → Fits (closed (within the_limits) opens)
close_fits [] = tt
close_fits (o ∷ opens) =
    only_fits (may_keep the_limits (node_of o)) (put_tree (node_of o) opens)
    (λ kept. put_fits (node_of o) opens (within_below (node_of o) (below_kept the_limits (node_of o) kept)))

between_fits : (k : Kind) (opens : List Open) → Fits (step_between (within the_limits) opens k)
unfolding step_between
between_fits White opens = tt
between_fits Opens opens = only_fits ((within the_limits).room opens) (opened opens) (λ room. tt)
between_fits Quote opens = only_fits ((within the_limits).room opens) (texting [] opens) (λ room. omega arith)
between_fits Closes opens = close_fits opens
between_fits _ opens = tt

opened_fits : (k : Kind) (opens : List Open) (b : ℕ) → Fits (step_opened opens k b)
unfolding step_opened
opened_fits White opens b = tt
opened_fits Letter opens b = tt
opened_fits _ opens b = tt

naming_fits : (k : Kind) (label : List ℕ) (opens : List Open) (b : ℕ)
    → Fits (step_naming (within the_limits) label opens k b)
unfolding step_naming
naming_fits Letter label opens b = only_fits (ltb (length label) 64) (naming (label ++ b ∷ []) opens) (λ lt. tt)
naming_fits k label opens b = between_fits k (with_bracket label opens)

lengthened_fits : (text : List ℕ) (opens : List Open) (b : ℕ) → Fits (lengthened (within the_limits) text opens b)
lengthened_fits text opens b =
    only_fits (ltb (length text) the_limits.text && begins_text (text ++ b ∷ [])) (texting (text ++ b ∷ []) opens)
    (λ takes. omega (
      arith,
      length-append text (b ∷ []),
      ltb-true (length text) the_limits.text
          (and_parts (ltb (length text) the_limits.text) (begins_text (text ++ b ∷ [])) takes).0,
    ))

leaf_within : (text : List ℕ) → length text ≤ the_limits.text → IsWithinLimits (leaf text)
leaf_within text h = record { text = h; arity = omega arith; depth = omega arith; size = omega arith }

texting_fits : (k : Kind) (text : List ℕ) (opens : List Open) (b : ℕ) → length text ≤ the_limits.text
    → Fits (step_texting (within the_limits) text opens k b)
unfolding step_texting
texting_fits Quote text opens b h =
    only_fits (is_text text) (put_tree (leaf text) opens) (λ is. put_fits (leaf text) opens (leaf_within text h))
texting_fits Backslash text opens b h = h
texting_fits _ text opens b h = lengthened_fits text opens b

escaping_fits : (k : Kind) (text : List ℕ) (opens : List Open) (b : ℕ)
    → Fits (step_escaping (within the_limits) text opens k b)
unfolding step_escaping
escaping_fits Quote text opens b = lengthened_fits text opens b
escaping_fits Backslash text opens b = lengthened_fits text opens b
escaping_fits _ text opens b = tt

whole_fits : (k : Kind) (t : WideTree) → IsWithinLimits t → Fits (step_whole t k)
unfolding step_whole
whole_fits White t h = h
whole_fits _ t h = tt

step_fits : (s : State) (k : Kind) (b : ℕ) → Fits s → Fits (step (within the_limits) s k b)
step_fits (between opens) k b h = between_fits k opens
step_fits (opened opens) k b h = opened_fits k opens b
step_fits (naming label opens) k b h = naming_fits k label opens b
step_fits (texting text opens) k b h = texting_fits k text opens b h
step_fits (escaping text opens) k b h = escaping_fits k text opens b
step_fits (whole t) k b h = whole_fits k t h
step_fits failed k b h = tt

run_fits : (y : List ℕ) (s : State) → Fits s → Fits (run (within the_limits) s y)
run_fits [] s h = h
run_fits (b ∷ y) s h = run_fits y (step (within the_limits) s (kind_of b) b) (step_fits s (kind_of b) b h)

whole_from : (s : State) (t : WideTree) → tree_in s ≡ Some t → s ≡ whole t
whole_from (whole u) t e = cc
whole_from _ t e = absurd cc

-- the bytes spell the tree that the machine reads, and it is within the limits
pub sound : (x : List ℕ) (t : WideTree) → completes (within the_limits) (between []) x ≡ Some t
    → Spells x t × IsWithinLimits t
sound x t e =
    let is-whole : run (within the_limits) (between []) x ≡ whole t =
    whole_from (run (within the_limits) (between []) x) t e in (
      subst (λ s. Took s x) is-whole (run_took (within the_limits) x [] (between []) tt),
      subst (λ s. Fits s) is-whole (run_fits x (between []) tt),
    )
