-- Tokens, each at once.
use Rattle.std.proofs.Common.{◌≡◌, ℕ, ◌+◌, ◌-◌, ◌<◌, ◌≤◌, true, false, ltb, cond, List, [], ◌∷◌, ◌++◌, length, get_or}
use Rattle.std.proofs.Common.{take, drop, Option, Some, None, refl, sym, ap, subst, ◌∙◌, length-append, arith}
use Rattle.std.proofs.Common.{is_some, ◌⊎◌, inl, inr, ⊎_elim}
use Rattle.std.proofs.lemmas.Bool.{ltb-true}
use Rattle.std.specs.List.{AllByRecursion}
use Rattle.std.proofs.lemmas.List.{append-nil, drop_more, drop_all, take_all, drop-drop, take-append-drop, length-drop}
use Rattle.std.proofs.lemmas.List.{length-take-le, get_or-drop}
use Rattle.std.specs.Prelude.{All, slice_range}
use Rattle.std.proofs.lemmas.List.Elements.{recursion_from_All}
use Rattle.tx_tree.specs.Labels.{is_label_byte, IsLabel}
use Rattle.tx_tree.specs.Texts.{IsText}
use Rattle.tx_tree.specs.TextScan.{is_text, takes_byte}
use Rattle.tx_tree.specs.WideTree.{WideTree, leaf}
use Rattle.tx_scm.specs.declared.kinds.Kind.{Kind}
use Rattle.tx_scm.specs.declared.kinds.Kind.TheVariants.{White, Opens, Closes, Quote, Backslash, Letter}
use Rattle.tx_scm.specs.Kinds.{kind_of}
use Rattle.tx_scm.specs.Spelling.{is_white}
use Rattle.tx_scm.specs.Recognising.{behind_white}
use Rattle.tx_scm.specs.Machine.{Open, State, Bounds, between, opened, naming, texting, escaping, whole, failed}
use Rattle.tx_scm.specs.Machine.{put_tree}
use Rattle.tx_scm.specs.Machine.{the_limits, within, wide, has_tree_room, only_if, with_bracket, lengthened}
use Rattle.tx_scm.specs.Machine.{step_between}
use Rattle.tx_scm.specs.Machine.{step_opened}
use Rattle.tx_scm.specs.Machine.{step_naming, step_texting, step_escaping, step_whole, step, run, tree_in, completes}
use Rattle.tx_scm.specs.Machine.{reads, leads}
use Rattle.tx_scm.specs.States.{standing, GoesTo}
use Rattle.tx_scm.proofs.ByteKinds.{white_kind, letter_kind, is_white_kind, is_letter_kind, opens_kind, quote_kind}
use Rattle.tx_scm.proofs.ByteKinds.{backslash_kind, is_quote_kind, is_backslash_kind}
use Rattle.tx_scm.proofs.Keeping.{text_is, text_is_none}
use Rattle.tx_scm.proofs.Complete.{NoLetter, label_run, open_step}
use Rattle.tx_scm.proofs.Making.{leads_more}
use Rattle.tx_scm.proofs.Runs.{failed_run, step_more, step_fails}

-- ---- one byte, and one token after the other

module _ (bytes : List ℕ) (s : State) (at b : ℕ) (lt : at < length bytes) (is : get_or bytes at 0 ≡ b) where
  pub byte_goes : (t : State) → (t ≡ failed → ⊥) → t ≡ step (within the_limits) s (kind_of b) b
      → GoesTo bytes s at t (at + 1)
  byte_goes t n e =
      record {
        later = omega arith;
        there = omega (arith, lt);
        same = step_more bytes s at b lt is t e;
        led = leads_more bytes s at b lt is t n e;
      }

pub goes_on : (bytes : List ℕ) (s t u : State) (at mid end : ℕ) → GoesTo bytes s at t mid → GoesTo bytes t mid u end
    → GoesTo bytes s at u end
goes_on bytes s t u at mid end h k =
    record {
      later = omega (arith, h.later, k.later);
      there = k.there;
      same = h.same ∙ k.same;
      led = h.led ∙ k.led;
    }

-- ---- the label of a bracket

-- no letter comes first
abbrev pub StartsNoLabel : List ℕ → Type 0
StartsNoLabel [] = Unit {0}
StartsNoLabel (b ∷ x) = is_label_byte b ≡ false

starts_none : (x : List ℕ) → (0 < length x → is_label_byte (get_or x 0 0) ≡ false) → StartsNoLabel x
starts_none [] h = tt
starts_none (b ∷ x) h = h (omega arith)

starts_other : (x : List ℕ) → 0 < length x → is_label_byte (get_or x 0 0) ≡ false → NoLetter x
starts_other [] lt h = absurd (omega (arith, lt))
starts_other (b ∷ x) lt h = λ e. let l = is_letter_kind b e in cc

module _ (bounds : Bounds) (opens : List Open) where
  opened_white : (x : List ℕ) → run bounds (opened opens) x ≡ run bounds (opened opens) (behind_white x)
  unfolding step_opened
  opened_white [] = refl
  opened_white (b ∷ x) =
      elim (is_white b) as (λ c. is_white b ≡ c → run bounds (opened opens) (b ∷ x)
      ≡ run bounds (opened opens) (cond c (behind_white x) (b ∷ x))) [
        | true ↦ λ e. ap (λ k. run bounds (step_opened opens k b) x) (white_kind b e) ∙ opened_white x
        | false ↦ λ e. refl
      ] refl

  stuck : (k : Kind) (b : ℕ) → (k ≡ White → ⊥) → (k ≡ Letter → ⊥) → step_opened opens k b ≡ failed
  unfolding step_opened
  stuck White b n m = absurd (n refl)
  stuck Letter b n m = absurd (m refl)
  stuck _ b n m = refl

  no_label : (x : List ℕ) → StartsNoLabel (behind_white x) → completes bounds (opened opens) x ≡ None
  unfolding step_opened
  no_label [] h = refl
  no_label (b ∷ x) h =
      elim (is_white b) as (λ c. is_white b ≡ c → StartsNoLabel (cond c (behind_white x) (b ∷ x))
      → completes bounds (opened opens) (b ∷ x) ≡ None) [
        | true ↦ λ e g. ap (λ k. completes bounds (step_opened opens k b) x) (white_kind b e) ∙ no_label x g
        | false ↦ λ e g.
            ap (λ s. completes bounds s x)
            (stuck (kind_of b) b (λ k. let w = is_white_kind b k in cc) (λ k. let l = is_letter_kind b k in cc))
            ∙ failed_run bounds x
      ] refl h

  letter_more : (b : ℕ) (label x : List ℕ) → is_label_byte b ≡ true
      → completes bounds (naming label opens) (b ∷ x)
      ≡ completes bounds (only_if (ltb (length label) 64) (naming (label ++ b ∷ []) opens)) x
  unfolding step_naming
  letter_more b label x h = ap (λ k. completes bounds (step_naming bounds label opens k b) x) (letter_kind b h)

  -- the bytes end within a label, or the label is too long
  letters_end : (x label : List ℕ) → AllByRecursion (λ b. is_label_byte b ≡ true) x
      → completes bounds (naming label opens) x ≡ None
  letters_end [] label h = refl
  letters_end (b ∷ x) label h =
      letter_more b label x h.0
      ∙ elim (ltb (length label) 64) as (λ c. completes bounds (only_if c (naming (label ++ b ∷ []) opens)) x ≡ None) [
        | true ↦ letters_end x (label ++ b ∷ []) h.1
        | false ↦ failed_run bounds x
      ]

  too_many : (x y label : List ℕ) → AllByRecursion (λ b. is_label_byte b ≡ true) x → length label ≤ 64
      → 64 < length label + length x → completes bounds (naming label opens) (x ++ y) ≡ None
  too_many [] y label h le lt = absurd (omega (arith, le, lt))
  too_many (b ∷ x) y label h le lt =
      letter_more b label (x ++ y) h.0
      ∙ elim (ltb (length label) 64) as (λ c. ltb (length label) 64 ≡ c
      → completes bounds (only_if c (naming (label ++ b ∷ []) opens)) (x ++ y) ≡ None) [
        | true ↦ λ e.
            too_many x y (label ++ b ∷ []) h.1
            (omega (arith, ltb-true (length label) 64 e, length-append label (b ∷ [])))
            (omega (arith, lt, length-append label (b ∷ [])))
        | false ↦ λ e. failed_run bounds (x ++ y)
      ] refl

  first_letter : (b : ℕ) (x : List ℕ) → is_label_byte b ≡ true
      → completes bounds (opened opens) (b ∷ x) ≡ completes bounds (naming (b ∷ []) opens) x
  unfolding step_opened
  first_letter b x h = ap (λ k. completes bounds (step_opened opens k b) x) (letter_kind b h)

  pub label_ends : (x : List ℕ) → AllByRecursion (λ b. is_label_byte b ≡ true) x
      → completes bounds (opened opens) x ≡ None
  label_ends [] h = refl
  label_ends (b ∷ x) h = first_letter b x h.0 ∙ letters_end x (b ∷ []) h.1

  pub label_long : (x y : List ℕ) → AllByRecursion (λ b. is_label_byte b ≡ true) x → 64 < length x
      → completes bounds (opened opens) (x ++ y) ≡ None
  label_long [] y h lt = absurd (omega (arith, lt))
  label_long (b ∷ x) y h lt = first_letter b (x ++ y) h.0 ∙ too_many x y (b ∷ []) h.1 (omega arith) (omega (arith, lt))

-- ---- an opening bracket with its label: white up to `from`, and so many letters

module _ (bytes : List ℕ) (opens : List Open) (at from count : ℕ) (lt : at < length bytes)
    (is : get_or bytes at 0 ≡ 40) (rest : drop from bytes ≡ behind_white (drop (at + 1) bytes)) where
  -- what comes after the white
  abbrev pub tail : List ℕ
  tail = slice_range bytes from (length bytes)

  abbrev pub letters : List ℕ
  letters = take count (drop from bytes)

  tail_is : tail ≡ drop from bytes
  tail_is = take_all (length bytes - from) (drop from bytes) (omega (arith, length-drop from bytes))

  -- the letters that come first there, as many as there are
  abbrev pub AreLetters : Type 0
  AreLetters = All (λ b. is_label_byte b ≡ true) (take count tail)

  abbrev pub StopsThere : Type 0
  StopsThere = count < length tail → is_label_byte (get_or tail count 0) ≡ false

  each : AreLetters → AllByRecursion (λ b. is_label_byte b ≡ true) letters
  each h = recursion_from_All (λ b. is_label_byte b ≡ true) letters
      (subst (λ x. All (λ b. is_label_byte b ≡ true) (take count x)) tail_is h)

  stops : StopsThere → count < length (drop from bytes) → is_label_byte (get_or (drop from bytes) count 0) ≡ false
  stops h = subst (λ x. count < length x → is_label_byte (get_or x count 0) ≡ false) tail_is h

  size : count ≤ length tail → length letters ≡ count
  size le = length-take-le count (drop from bytes) (subst (λ x. count ≤ length x) tail_is le)

  split : drop from bytes ≡ letters ++ drop (from + count) bytes
  split = sym (take-append-drop count (drop from bytes)) ∙ ap (λ x. letters ++ x) (drop-drop count from bytes)

  opened_here : (bounds : Bounds) → bounds.room opens ≡ true
      → run bounds (between opens) (drop at bytes) ≡ run bounds (opened opens) (drop from bytes)
  opened_here bounds room =
      ap (run bounds (between opens)) (drop_more bytes at 0 lt ∙ ap (λ b. b ∷ drop (at + 1) bytes) is)
      ∙ open_step bounds (drop (at + 1) bytes) opens room
      ∙ opened_white bounds opens (drop (at + 1) bytes)
      ∙ ap (run bounds (opened opens)) (sym rest)

  module _ (room : has_tree_room the_limits opens ≡ true) where
    none_here : completes (within the_limits) (opened opens) (drop from bytes) ≡ None
        → reads (between opens) (drop at bytes) ≡ None
    unfolding reads
    none_here e = ap tree_in (opened_here (within the_limits) room) ∙ e

    pub no_letter : count ≡ 0 → StopsThere → reads (between opens) (drop at bytes) ≡ None
    no_letter e h =
        let none : 0 < length (drop from bytes) → is_label_byte (get_or (drop from bytes) 0 0) ≡ false =
        subst (λ n. n < length (drop from bytes) → is_label_byte (get_or (drop from bytes) n 0) ≡ false) e (stops h) in
        none_here
        (ap (completes (within the_limits) (opened opens)) rest
        ∙ ap tree_in (sym (opened_white (within the_limits) opens (drop (at + 1) bytes)))
        ∙ no_label (within the_limits) opens (drop (at + 1) bytes)
        (subst StartsNoLabel rest (starts_none (drop from bytes) none)))

    pub too_long : AreLetters → count ≤ length tail → 64 < count
        → reads (between opens) (drop at bytes) ≡ None
    too_long h le lt =
        none_here
        (ap (completes (within the_limits) (opened opens)) split
        ∙ label_long (within the_limits) opens letters (drop (from + count) bytes)
        (each h) (omega (arith, lt, size le)))

    pub ends_there : AreLetters → length bytes ≤ from + count
        → reads (between opens) (drop at bytes) ≡ None
    ends_there h le =
        none_here
        (ap (completes (within the_limits) (opened opens))
        (split ∙ ap (λ x. letters ++ x) (drop_all (from + count) bytes le) ∙ append-nil letters)
        ∙ label_ends (within the_limits) opens letters (each h))

    named_here : (bounds : Bounds) → bounds.room opens ≡ true → IsLabel letters → NoLetter (drop (from + count) bytes)
        → run bounds (between opens) (drop at bytes)
        ≡ run bounds (between (with_bracket letters opens)) (drop (from + count) bytes)
    named_here bounds room label other =
        opened_here bounds room ∙ ap (run bounds (opened opens)) split
        ∙ label_run bounds letters (drop (from + count) bytes) opens label other

    pub is_label : AreLetters → count ≤ length tail → (count ≡ 0 → ⊥) → count ≤ 64 → IsLabel letters
    is_label h le some short =
        record { each = each h; some = omega (arith, size le, some); short = omega (arith, size le, short) }

    pub opens_bracket : at < from → from + count < length bytes → IsLabel letters → StopsThere
        → GoesTo bytes (between opens) at (between (with_bracket letters opens)) (from + count)
    unfolding reads leads
    opens_bracket from_at there label stop =
        let behind : 0 < length (drop (from + count) bytes) =
        omega (arith, there, length-drop (from + count) bytes) in
        let first : get_or (drop from bytes) count 0 ≡ get_or (drop (from + count) bytes) 0 0 =
        get_or-drop from bytes count 0
        ∙ sym (get_or-drop (from + count) bytes 0 0 ∙ ap (λ i. get_or bytes i 0) (omega arith)) in
        let next = starts_other (drop (from + count) bytes) behind
        (ap is_label_byte (sym first) ∙ stops stop (omega (arith, there, length-drop from bytes))) in
        record {
          later = omega (arith, from_at);
          there = omega (arith, there);
          same = ap tree_in (named_here (within the_limits) room label next);
          led = named_here wide refl label next;
        }

module _ (bytes : List ℕ) (opens : List Open) (at : ℕ) (lt : at < length bytes) (is : get_or bytes at 0 ≡ 40) where
  refused : has_tree_room the_limits opens ≡ false → step (within the_limits) (between opens) (kind_of 40) 40 ≡ failed
  unfolding step_between
  refused h = ap (λ k. step_between (within the_limits) opens k) opens_kind ∙ ap (λ c. only_if c (opened opens)) h

  pub no_room : has_tree_room the_limits opens ≡ false → reads (between opens) (drop at bytes) ≡ None
  no_room h = step_fails bytes (between opens) at 40 lt is (sym (refused h))

-- ---- a string

module _ (bytes : List ℕ) (opens : List Open) (at : ℕ) (lt : at < length bytes) (is : get_or bytes at 0 ≡ 34) where
  quote : step (within the_limits) (between opens) (kind_of 34) 34
      ≡ only_if (has_tree_room the_limits opens) (texting [] opens)
  unfolding step_between
  quote = ap (λ k. step_between (within the_limits) opens k) quote_kind

  pub no_room_for_text : has_tree_room the_limits opens ≡ false → reads (between opens) (drop at bytes) ≡ None
  no_room_for_text h =
      step_fails bytes (between opens) at 34 lt is (sym (quote ∙ ap (λ c. only_if c (texting [] opens)) h))

  pub opens_string : has_tree_room the_limits opens ≡ true → GoesTo bytes (between opens) at (texting [] opens) (at + 1)
  opens_string h =
      byte_goes bytes (between opens) at 34 lt is (texting [] opens) (λ e. cc)
      (sym (quote ∙ ap (λ c. only_if c (texting [] opens)) h))

-- the byte after a backslash
module _ (bytes text : List ℕ) (opens : List Open) (at : ℕ) (lt : at < length bytes) (is : get_or bytes at 0 ≡ 92) where
  backslash : escaping text opens ≡ step (within the_limits) (texting text opens) (kind_of 92) 92
  unfolding step_texting
  backslash = sym (ap (λ k. step_texting (within the_limits) text opens k 92) backslash_kind)

  escapes : GoesTo bytes (texting text opens) at (escaping text opens) (at + 1)
  escapes = byte_goes bytes (texting text opens) at 92 lt is (escaping text opens) (λ e. cc) backslash

  pub escape_ends : length bytes ≤ at + 1 → reads (texting text opens) (drop at bytes) ≡ None
  unfolding reads
  escape_ends le = escapes.same ∙ ap (reads (escaping text opens)) (drop_all (at + 1) bytes le)

  module _ (b : ℕ) (next : at + 1 < length bytes) (next_is : get_or bytes (at + 1) 0 ≡ b) where
    not_escaped : (k : Kind) → (k ≡ Quote → ⊥) → (k ≡ Backslash → ⊥)
        → step_escaping (within the_limits) text opens k b ≡ failed
    unfolding step_escaping
    not_escaped Quote q s = absurd (q refl)
    not_escaped Backslash q s = absurd (s refl)
    not_escaped _ q s = refl

    pub no_escape : (b ≡ 34 → ⊥) → (b ≡ 92 → ⊥) → reads (texting text opens) (drop at bytes) ≡ None
    no_escape q s =
        escapes.same
        ∙ step_fails bytes (escaping text opens) (at + 1) b next next_is
        (sym (not_escaped (kind_of b) (λ e. q (is_quote_kind b e)) (λ e. s (is_backslash_kind b e))))

    is_escaped : (k : Kind) → kind_of b ≡ k → (k ≡ Quote) ⊎ (k ≡ Backslash)
        → step_escaping (within the_limits) text opens k b ≡ lengthened (within the_limits) text opens b
    unfolding step_escaping
    is_escaped Quote e h = refl
    is_escaped Backslash e h = refl
    is_escaped _ e h = ⊎_elim (λ f. absurd cc) (λ f. absurd cc) h

    kinds : (b ≡ 34) ⊎ (b ≡ 92) → (kind_of b ≡ Quote) ⊎ (kind_of b ≡ Backslash)
    kinds h = ⊎_elim (λ e. inl (ap kind_of e ∙ quote_kind)) (λ e. inr (ap kind_of e ∙ backslash_kind)) h

    escaped : (b ≡ 34) ⊎ (b ≡ 92) → step (within the_limits) (escaping text opens) (kind_of b) b
        ≡ only_if (takes_byte text b) (texting (text ++ b ∷ []) opens)
    escaped h = is_escaped (kind_of b) refl (kinds h)

    pub escape_refused : (b ≡ 34) ⊎ (b ≡ 92) → takes_byte text b ≡ false
        → reads (texting text opens) (drop at bytes) ≡ None
    escape_refused h bad =
        escapes.same
        ∙ step_fails bytes (escaping text opens) (at + 1) b next next_is
        (sym (escaped h ∙ ap (λ c. only_if c (texting (text ++ b ∷ []) opens)) bad))

    pub escape_taken : (b ≡ 34) ⊎ (b ≡ 92) → takes_byte text b ≡ true
        → GoesTo bytes (texting text opens) at (texting (text ++ b ∷ []) opens) (at + 2)
    escape_taken h good =
        goes_on bytes (texting text opens) (escaping text opens) (texting (text ++ b ∷ []) opens) at (at + 1) (at + 2)
        escapes
        (subst (λ n. GoesTo bytes (escaping text opens) (at + 1) (texting (text ++ b ∷ []) opens) n) (omega arith)
        (byte_goes bytes (escaping text opens) (at + 1) b next next_is (texting (text ++ b ∷ []) opens) (λ e. cc)
        (sym (escaped h ∙ ap (λ c. only_if c (texting (text ++ b ∷ []) opens)) good))))

-- the quote after a text

put_stands : (t : WideTree) (opens : List Open) → put_tree t opens ≡ failed → ⊥
put_stands t [] e = cc
put_stands t (o ∷ opens) e = cc

module _ (bytes text : List ℕ) (opens : List Open) (at : ℕ) (lt : at < length bytes) (is : get_or bytes at 0 ≡ 34) where
  ending :
      step (within the_limits) (texting text opens) (kind_of 34) 34
      ≡ only_if (is_text text) (put_tree (leaf text) opens)
  unfolding step_texting
  ending = ap (λ k. step_texting (within the_limits) text opens k 34) quote_kind

  pub no_text : (IsText text → ⊥) → reads (texting text opens) (drop at bytes) ≡ None
  no_text h =
      step_fails bytes (texting text opens) at 34 lt is
      (sym (ending ∙ ap (λ c. only_if c (put_tree (leaf text) opens)) (text_is_none text h)))

  pub text_ends : IsText text → GoesTo bytes (texting text opens) at (put_tree (leaf text) opens) (at + 1)
  text_ends h =
      byte_goes bytes (texting text opens) at 34 lt is (put_tree (leaf text) opens) (put_stands (leaf text) opens)
      (sym (ending ∙ ap (λ c. only_if c (put_tree (leaf text) opens)) (text_is text h)))

-- ---- tokens of one byte

white_stays : (w : Option WideTree) (opens : List Open) (k : Kind) (b : ℕ) → k ≡ White
    → standing w opens ≡ step (within the_limits) (standing w opens) k b
unfolding step_between step_whole
white_stays None opens White b e = refl
white_stays (Some t) opens White b e = refl
white_stays w opens _ b e = absurd cc

standing_stands : (w : Option WideTree) (opens : List Open) → standing w opens ≡ failed → ⊥
standing_stands None opens e = cc
standing_stands (Some t) opens e = cc

pub tree_standing : (w : Option WideTree) (opens : List Open) → w ≡ tree_in (standing w opens)
tree_standing None opens = refl
tree_standing (Some t) opens = refl

pub white_goes : (bytes : List ℕ) (w : Option WideTree) (opens : List Open) (at : ℕ) → at < length bytes
    → kind_of (get_or bytes at 0) ≡ White → GoesTo bytes (standing w opens) at (standing w opens) (at + 1)
white_goes bytes w opens at lt e =
    byte_goes bytes (standing w opens) at (get_or bytes at 0) lt refl (standing w opens) (standing_stands w opens)
    (white_stays w opens (kind_of (get_or bytes at 0)) (get_or bytes at 0) e)

behind_all : (t : WideTree) (k : Kind) (b : ℕ) → (k ≡ White → ⊥) → failed ≡ step (within the_limits) (whole t) k b
unfolding step_whole
behind_all t White b n = absurd (n refl)
behind_all t _ b n = refl

others : (opens : List Open) (k : Kind) (b : ℕ) → (k ≡ White → ⊥) → (k ≡ Opens → ⊥) → (k ≡ Closes → ⊥)
    → (k ≡ Quote → ⊥) → failed ≡ step (within the_limits) (between opens) k b
unfolding step_between
others opens White b w o c q = absurd (w refl)
others opens Opens b w o c q = absurd (o refl)
others opens Closes b w o c q = absurd (c refl)
others opens Quote b w o c q = absurd (q refl)
others opens _ b w o c q = refl

closing : (opens : List Open) (k : Kind) (b : ℕ) → k ≡ Closes
    → step_between (within the_limits) opens Closes ≡ step (within the_limits) (between opens) k b
closing opens k b e = ap (λ k. step_between (within the_limits) opens k) (sym e)

module _ (bytes : List ℕ) (at : ℕ) (lt : at < length bytes) where
  abbrev first : ℕ
  first = get_or bytes at 0

  pub none_behind : (w : Option WideTree) (opens : List Open) → is_some w ≡ true → (kind_of first ≡ White → ⊥)
      → reads (standing w opens) (drop at bytes) ≡ None
  none_behind None opens e n = absurd cc
  none_behind (Some t) opens e n = step_fails bytes (whole t) at first lt refl (behind_all t (kind_of first) first n)

  pub none_else : (w : Option WideTree) (opens : List Open) → is_some w ≡ false → (kind_of first ≡ White → ⊥)
      → (kind_of first ≡ Opens → ⊥) → (kind_of first ≡ Closes → ⊥) → (kind_of first ≡ Quote → ⊥)
      → reads (standing w opens) (drop at bytes) ≡ None
  none_else None opens e n o c q =
      step_fails bytes (between opens) at first lt refl (others opens (kind_of first) first n o c q)
  none_else (Some t) opens e n o c q = absurd cc

  pub none_closed : (w : Option WideTree) (opens : List Open) → is_some w ≡ false → kind_of first ≡ Closes
      → failed ≡ step_between (within the_limits) opens Closes → reads (standing w opens) (drop at bytes) ≡ None
  none_closed None opens e k f =
      step_fails bytes (between opens) at first lt refl (f ∙ closing opens (kind_of first) first k)
  none_closed (Some t) opens e k f = absurd cc

  pub closes : (w v : Option WideTree) (opens others : List Open) → is_some w ≡ false → kind_of first ≡ Closes
      → standing v others ≡ step_between (within the_limits) opens Closes
      → GoesTo bytes (standing w opens) at (standing v others) (at + 1)
  closes None v opens others e k f =
      byte_goes bytes (between opens) at first lt refl (standing v others) (standing_stands v others)
      (f ∙ closing opens (kind_of first) first k)
  closes (Some t) v opens others e k f = absurd cc
