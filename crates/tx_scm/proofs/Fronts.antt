-- The bytes that the scan takes are a front, and where it stops nothing longer is a front. The table of the place where
-- it stops.
use Rattle.std.proofs.Common.{◌≡◌, ℕ, suc, ◌+◌, ◌<◌, ◌≤◌, Bool, true, false, List, [], ◌∷◌, ◌++◌, length, take, get_or}
use Rattle.std.proofs.Common.{Option, Some, None, is_some, refl, sym, ap, subst, ◌∙◌, append_assoc, add-one, arith, inl}
use Rattle.std.proofs.Common.{inr, ⊎_elim}
use Rattle.std.specs.List.{flat_map}
use Rattle.std.proofs.lemmas.List.{append-nil, take_more, take_all}
use Rattle.std.proofs.lemmas.List.Concat.{flat_map-append}
use Rattle.std.proofs.lemmas.Bool.{cases_lt}
use Rattle.tx_base.specs.Fronts.{IsFront, IsLongestFront}
use Rattle.tx_tree.specs.declared.texts.TextPlace.{TextPlace}
use Rattle.tx_tree.specs.declared.faults.ReadFault.TheVariants.{Unclosed, BadEscape, BadText}
use Rattle.tx_tree.specs.Texts.{IsText}
use Rattle.tx_tree.specs.TextScan.{text_step, begins_text}
use Rattle.tx_tree.specs.Labels.{is_label_byte, IsLabel}
use Rattle.tx_tree.specs.WideTree.{WideTree, leaf, node, nil}
use Rattle.tx_tree.specs.ReadFaults.{SpellsSome}
use Rattle.tx_tree.proofs.Scanning.{no_bytes, begins_test}
use Rattle.tx_base.proofs.Fronts.{take_less}
use Rattle.tx_scm.specs.declared.kinds.Kind.{Kind}
use Rattle.tx_scm.specs.declared.kinds.Kind.TheVariants.{White, Opens, Closes, Quote}
use Rattle.tx_scm.specs.declared.spots.Spot.{Spot}
use Rattle.tx_scm.specs.declared.spots.Spot.TheVariants.{Between, Opened, Naming, Texting, Escaping, Whole}
use Rattle.tx_scm.specs.Kinds.{kind_of}
use Rattle.tx_scm.specs.Spelling.{is_white, escaped, string_of, SpellsTree, Spells}
use Rattle.tx_scm.specs.Faults.{ends_label, IsInLabelPlace, IsEscapeOpen, IsStringOpen, IsStop, IsKind, IsSchemeFault}
use Rattle.tx_scm.specs.Machine.{Open, State, wide, between, opened, naming, texting, escaping, whole, failed, put_tree}
use Rattle.tx_scm.specs.Machine.{node_of, run}
use Rattle.tx_scm.specs.Spots.{closed, only_if, between_step, naming_step, in_text, whole_step, step, spots, fault_at}
use Rattle.tx_scm.proofs.ByteKinds.{white_kind}
use Rattle.tx_tree.proofs.FrontBytes.{AreBytes, bytes_together, text_closed}
use Rattle.tx_scm.proofs.SmallBytes.{string_end}
use Rattle.tx_scm.proofs.Sound.{OpensTook, Took, put_took, close_took, run_took}
use Rattle.tx_scm.proofs.Wide.{wide_whole, are_open, after_label, wide_label, wide_string, wide_escape}
use Rattle.tx_scm.proofs.Following.{in_escape, place_of, one_more, place_more, spot_of, spots_nothing, spots_none}
use Rattle.tx_scm.proofs.Following.{spots-append, run_spots}

abbrev start : Option Spot
start = Some (Between 0)

-- these can be continued to a tree by bytes
abbrev pub GoesOn : List ℕ → Type 0
GoesOn x = (more : List ℕ) × AreBytes more × SpellsSome Spells (x ++ more)

-- ---- what is open can be closed

-- what can be continued after one more closing bracket can be continued
close_one : (x : List ℕ) → GoesOn (x ++ 41 ∷ []) → GoesOn x
close_one x c =
    (41 ∷ c.0, (omega arith, c.1), (c.2.0, subst (λ z. Spells z c.2.0) (append_assoc x (41 ∷ []) c.0) c.2.1))

close_all : (opens : List Open) (t : WideTree) (x : List ℕ) → Took (put_tree t opens) x → GoesOn x
close_all [] t x h = ([], tt, (t, subst (λ z. Spells z t) (sym (append-nil x)) h))
close_all (o ∷ opens) t x h =
    let grown : Open = record { label = o.label; children = o.children ++ t ∷ [] } in
    close_one x (close_all opens (node_of grown) (x ++ 41 ∷ []) (close_took wide (grown ∷ opens) x h))

-- bytes that end in a whole tree after some more bytes can be continued
close_tree : (opens : List Open) (t : WideTree) (x more p y : List ℕ) → AreBytes more → OpensTook opens p
    → SpellsTree y t → x ++ more ≡ p ++ y → GoesOn x
close_tree opens t x more p y small h k e =
    let c = close_all opens t (p ++ y) (put_took opens t p y h k) in (
      more ++ c.0,
      bytes_together more c.0 small c.1,
      (c.2.0, subst (λ z. Spells z c.2.0) (ap (λ z. z ++ c.0) (sym e) ∙ append_assoc x more c.0) c.2.1),
    )

between_closes : (opens : List Open) (x : List ℕ) → OpensTook opens x → GoesOn x
between_closes [] x h =
    close_tree [] (leaf []) x (34 ∷ 34 ∷ []) x (34 ∷ 34 ∷ []) (omega arith, (omega arith, tt)) h (no_bytes, refl) refl
between_closes (o ∷ opens) x h =
    close_one x (close_all opens (node_of o) (x ++ 41 ∷ []) (close_took wide (o ∷ opens) x h))

bracket : List ℕ → List ℕ → List ℕ
bracket before label = 40 ∷ (before ++ (label ++ ([] ++ ([] ++ 41 ∷ []))))

opened_parts : (x p before : List ℕ) → x ≡ p ++ 40 ∷ before → x ++ 97 ∷ 41 ∷ [] ≡ p ++ bracket before (97 ∷ [])
unfolding bracket
opened_parts x p before e = rw e (append_assoc p (40 ∷ before) (97 ∷ 41 ∷ []))

naming_parts : (x p before label : List ℕ) → x ≡ p ++ 40 ∷ (before ++ label) → x ++ 41 ∷ [] ≡ p ++ bracket before label
unfolding bracket
naming_parts x p before label e = rw e (simp append_assoc)

text_parts : (x p text more : List ℕ) → x ≡ p ++ 34 ∷ flat_map escaped text
    → x ++ (flat_map escaped more ++ 34 ∷ []) ≡ p ++ string_of (text ++ more)
text_parts x p text more e = rw (e, flat_map-append escaped text more) (simp append_assoc)

escape_parts : (x p text more : List ℕ) → x ≡ p ++ 34 ∷ (flat_map escaped text ++ 92 ∷ [])
    → x ++ 34 ∷ (flat_map escaped more ++ 34 ∷ []) ≡ p ++ string_of ((text ++ 34 ∷ []) ++ more)
escape_parts x p text more e =
    rw (e, flat_map-append escaped (text ++ 34 ∷ []) more, flat_map-append escaped text (34 ∷ [])) (simp append_assoc)

-- the text of a string can go on
text_begins : (text : List ℕ) (d : ℕ) (p : Option TextPlace) (s : Spot) → place_of text ≡ p → in_text p d ≡ Some s
    → begins_text text ≡ true
unfolding begins_text
text_begins text d None s e f = absurd cc
text_begins text d (Some p) s e f = ap is_some e

escape_begins : (text : List ℕ) (d : ℕ) (p : Option TextPlace) (s : Spot) → place_of text ≡ p → in_escape p d ≡ Some s
    → begins_text (text ++ 34 ∷ []) ≡ true
unfolding begins_text
escape_begins text d None s e f = absurd cc
escape_begins text d (Some p) s e f = ap is_some (place_more text 34 ∙ ap (λ p. one_more p 34) e)
    ∙ taken (is_some (text_step p 34)) f
  where
    taken : (c : Bool) → only_if c (Escaping p d) ≡ Some s → c ≡ true
    taken true g = refl
    taken false g = absurd cc

an_a : IsLabel (97 ∷ [])
unfolding is_label_byte
an_a = record { each = (refl, tt); some = omega arith; short = omega arith }

closes : (m : State) (x : List ℕ) (s : Spot) → Took m x → spot_of m ≡ Some s → GoesOn x
unfolding bracket
closes (between opens) x s h e = between_closes opens x h
closes (opened opens) x s h e =
    close_tree opens (node (97 ∷ []) nil) x (97 ∷ 41 ∷ []) h.0 (bracket h.1 (97 ∷ []))
    (omega arith, (omega arith, tt)) h.2
    (h.1, [], [], h.3, an_a, refl, tt, refl) (opened_parts x h.0 h.1 h.4)
closes (naming label opens) x s h e =
    close_tree opens (node label nil) x (41 ∷ []) h.0 (bracket h.1 label) (omega arith, tt) h.2
    (h.1, [], [], h.3, h.4, refl, tt, refl)
    (naming_parts x h.0 h.1 label h.5)
closes (texting text opens) x s h e =
    let rest = text_closed text (text_begins text (length opens) (place_of text) s refl e) in
    close_tree opens (leaf (text ++ rest.0)) x (flat_map escaped rest.0 ++ 34 ∷ []) h.0 (string_of (text ++ rest.0))
    (string_end rest.0 rest.1) h.1 (rest.2, refl) (text_parts x h.0 text rest.0 h.2)
closes (escaping text opens) x s h e =
    let rest = text_closed (text ++ 34 ∷ []) (escape_begins text (length opens) (place_of text) s refl e) in
    close_tree opens (leaf ((text ++ 34 ∷ []) ++ rest.0)) x (34 ∷ (flat_map escaped rest.0 ++ 34 ∷ [])) h.0
    (string_of ((text ++ 34 ∷ []) ++ rest.0)) (omega arith, string_end rest.0 rest.1) h.1 (rest.2, refl)
    (escape_parts x h.0 text rest.0 h.2)
closes (whole t) x s h e = ([], tt, (t, subst (λ z. Spells z t) (sym (append-nil x)) h))
closes failed x s h e = absurd cc

-- the scan is where the machine is
stands : (x : List ℕ) (s : Spot) → spots start x ≡ Some s → spot_of (run wide (between []) x) ≡ Some s
stands x s e = run_spots x (between []) ∙ e

took : (x : List ℕ) → Took (run wide (between []) x) x
took x = run_took wide x [] (between []) tt

pub goes_on : (x : List ℕ) (s : Spot) → spots start x ≡ Some s → GoesOn x
goes_on x s e = closes (run wide (between []) x) x s (took x) (stands x s e)

-- what continues x may be any numbers
goes_on_by_some : (x : List ℕ) (s : Spot) → spots start x ≡ Some s → (more : List ℕ) × SpellsSome Spells (x ++ more)
goes_on_by_some x s e = let c = goes_on x s e in (c.0, c.2)

-- ---- a byte that isn't taken ends every continuation

pub whole_scan : (x : List ℕ) (t : WideTree) → Spells x t → spots start x ≡ Some Whole
whole_scan x t h = sym (run_spots x (between [])) ∙ ap spot_of (wide_whole x t h)

not_stuck : (x more : List ℕ) (t : WideTree) → Spells (x ++ more) t → spots start x ≡ None → ⊥
not_stuck x more t h e =
    let all : None ≡ Some Whole = sym (spots_none more) ∙ ap (λ s. spots s more) (sym e)
    ∙ sym (spots-append x more start) ∙ whole_scan (x ++ more) t h in
    absurd cc

-- bytes can be continued exactly if the scan takes them all
pub front_closes_by_bytes : (x : List ℕ) → is_some (spots start x) ≡ true → GoesOn x
front_closes_by_bytes x h = by_spot (spots start x) refl h
  where
    by_spot : (p : Option Spot) → spots start x ≡ p → is_some p ≡ true → GoesOn x
    by_spot (Some s) e h = goes_on x s e
    by_spot None e h = absurd cc

pub front_closes : (x : List ℕ) → is_some (spots start x) ≡ true → (more : List ℕ) × SpellsSome Spells (x ++ more)
front_closes x h = let c = front_closes_by_bytes x h in (c.0, c.2)

pub front_stands : (x more : List ℕ) → SpellsSome Spells (x ++ more) → is_some (spots start x) ≡ true
front_stands x more h = by_spot (spots start x) refl
  where
    by_spot : (p : Option Spot) → spots start x ≡ p → is_some p ≡ true
    by_spot (Some s) e = refl
    by_spot None e = absurd (not_stuck x more h.0 h.1 e)

-- what continues a front can be bytes
pub by_bytes : (x more : List ℕ) → SpellsSome Spells (x ++ more) → GoesOn x
by_bytes x more h = front_closes_by_bytes x (front_stands x more h)

module _ (bytes : List ℕ) (i : ℕ) (s : Spot) (lt : i < length bytes) (e : spots start (take i bytes) ≡ Some s) where
  pub scan_more : spots start (take (i + 1) bytes) ≡ step s (kind_of (get_or bytes i 0)) (get_or bytes i 0)
  scan_more =
      ap (λ x. spots start x) (take_more bytes i 0 lt) ∙ spots-append (take i bytes) (get_or bytes i 0 ∷ []) start
      ∙ ap (λ s. spots s (get_or bytes i 0 ∷ [])) e
      ∙ spots_nothing (step s (kind_of (get_or bytes i 0)) (get_or bytes i 0))

  stops_at : step s (kind_of (get_or bytes i 0)) (get_or bytes i 0) ≡ None → IsLongestFront (SpellsSome Spells) bytes i
  stops_at stop =
      record {
        front = (omega arith, goes_on_by_some (take i bytes) s e);
        longest = λ m f. ⊎_elim (λ (past : i < m). absurd (no_front m past f)) (λ (le : m ≤ i). le) (cases_lt i m);
      }
    where
      no_front : (m : ℕ) → i < m → IsFront (SpellsSome Spells) bytes m → ⊥
      no_front m past f =
          let t = take_less bytes (i + 1) m (omega arith) in
          not_stuck (take (i + 1) bytes) (t.0 ++ f.1.0) f.1.1.0
          (subst (λ z. Spells z f.1.1.0) (ap (λ z. z ++ f.1.0) t.1 ∙ append_assoc (take (i + 1) bytes) t.0 f.1.0)
          f.1.1.1) (scan_more ∙ stop)

-- ---- the table

abbrev InLabel : State → Type 0
InLabel (opened opens) = Unit {0}
InLabel (naming label opens) = Unit {0}
InLabel _ = ⊥

in_label : (label : List ℕ) (opens : List Open) → InLabel (after_label label opens)
in_label [] opens = tt
in_label (b ∷ label) opens = tt

plain_byte : (b : ℕ) (k : Kind) → kind_of b ≡ k → (k ≡ White → ⊥) → (k ≡ Opens → ⊥) → (k ≡ Closes → ⊥) → (k ≡ Quote → ⊥)
    → ends_label b ≡ false
unfolding kind_of
plain_byte b k e w o c q = grind arith

label_stuck : (k : Kind) (b n d : ℕ) → kind_of b ≡ k → naming_step n d k ≡ None → ends_label b ≡ false
unfolding naming_step between_step
label_stuck White b n d e f = absurd cc
label_stuck Opens b n d e f = absurd cc
label_stuck Quote b n d e f = absurd cc
label_stuck Closes b n d e f = let some : closed (suc d) ≡ None = ap closed (sym (add-one d)) ∙ f in absurd cc
label_stuck k b n d e f = plain_byte b k e (λ g. cc) (λ g. cc) (λ g. cc) (λ g. cc)

white_taken : (b : ℕ) → whole_step (kind_of b) ≡ None → is_white b ≡ false
white_taken b e =
    elim (is_white b) as (λ c. is_white b ≡ c → c ≡ false) [
      | true ↦ λ w. let taken : Some Whole ≡ None = ap whole_step (sym (white_kind b w)) ∙ e in absurd (cc)
      | false ↦ λ w. refl
    ] refl

text_fault : (p : Option TextPlace) (d n : ℕ) (s : Spot) → in_text p d ≡ Some s → fault_at s n ≡ BadText n
text_fault None d n s e = absurd cc
text_fault (Some p) d n s e = let is : Texting p d ≡ s = cc in ap (λ s. fault_at s n) (sym is)

escape_fault : (p : Option TextPlace) (d n : ℕ) (s : Spot) → in_escape p d ≡ Some s → fault_at s n ≡ BadEscape n
escape_fault None d n s e = absurd cc
escape_fault (Some p) d n s e = taken (is_some (text_step p 34)) e
  where
    taken : (c : Bool) → only_if c (Escaping p d) ≡ Some s → fault_at s n ≡ BadEscape n
    taken true e = let is : Escaping p d ≡ s = cc in ap (λ s. fault_at s n) (sym is)
    taken false e = absurd cc

module _ (x : List ℕ) (b n : ℕ) where
  no_label : (m : State) → run wide (between []) x ≡ m → (InLabel m → ⊥) → IsInLabelPlace x b → ⊥
  no_label m e f h = let w = wide_label h.0 x h.1 in f (subst InLabel (sym w.1 ∙ e) (in_label h.0 w.0))

  no_escape : (m : State) → run wide (between []) x ≡ m
      → ((text : List ℕ) (opens : List Open) → escaping text opens ≡ m → ⊥) → IsEscapeOpen x → ⊥
  no_escape m e f h = let w = wide_escape x h in f w.0 w.1 (sym w.2 ∙ e)

  no_string : (m : State) → run wide (between []) x ≡ m
      → ((text : List ℕ) (opens : List Open) → texting text opens ≡ m → ⊥) → IsStringOpen x → ⊥
  no_string m e f h = let w = wide_string x h in f w.0 w.1 (sym w.2 ∙ e)

  no_tree : (m : State) → run wide (between []) x ≡ m → ((t : WideTree) → whole t ≡ m → ⊥)
      → SpellsSome Spells x × (is_white b ≡ false) → ⊥
  no_tree m e f h = f h.0.0 (sym (wide_whole x h.0.0 h.0.1) ∙ e)

  row_of : (m : State) (s : Spot) → run wide (between []) x ≡ m → Took m x → spot_of m ≡ Some s
      → step s (kind_of b) b ≡ None → IsStop x b n (fault_at s n)
  row_of (between opens) s is h e stop =
      let m : State = between opens in
      let at : Between (length opens) ≡ s = cc in
      inr (
        no_label m is (λ f. f),
        inr (
          no_escape m is (λ text opens f. cc),
          inr (no_string m is (λ text opens f. cc), inr (no_tree m is (λ t f. cc), ap (λ s. fault_at s n) (sym at))),
        ),
      )
  row_of (opened opens) s is h e stop =
      let at : Opened (length opens) ≡ s = cc in
      inl (
        (
          [],
          (length opens, h.0, h.1, are_open opens h.0 h.2, h.3, (tt, omega arith), rw append-nil h.4),
          λ some. absurd (omega (arith, some)),
        ),
        ap (λ s. fault_at s n) (sym at),
      )
  row_of (naming label opens) s is h e stop =
      let at : Naming (length label) (length opens) ≡ s = cc in
      inl (
        (
          label,
          (length opens, h.0, h.1, are_open opens h.0 h.2, h.3, (h.4.each, h.4.short), h.5),
          λ some. label_stuck (kind_of b) b (length label) (length opens) refl (ap (λ s. step s (kind_of b) b) at
              ∙ stop),
        ),
        ap (λ s. fault_at s n) (sym at),
      )
  row_of (texting text opens) s is h e stop =
      let m : State = texting text opens in
      let rest = begins_test text (text_begins text (length opens) (place_of text) s refl e) in
      let string : IsStringOpen x = (length opens, h.0, text, rest.0, are_open opens h.0 h.1, rest.1, h.2) in
      inr (
        no_label m is (λ f. f),
        inr (no_escape m is (λ text opens f. cc), inl (string, text_fault (place_of text) (length opens) n s e)),
      )
  row_of (escaping text opens) s is h e stop =
      let m : State = escaping text opens in
      let rest = begins_test (text ++ 34 ∷ []) (escape_begins text (length opens) (place_of text) s refl e) in
      let string : IsStringOpen (h.0 ++ 34 ∷ flat_map escaped text) = (
        length opens,
        h.0,
        text,
        34 ∷ rest.0,
        are_open opens h.0 h.1,
        subst IsText (append_assoc text (34 ∷ []) rest.0) rest.1,
        refl,
      ) in
      let whole_escape : IsEscapeOpen x = (
        h.0 ++ 34 ∷ flat_map escaped text,
        string,
        h.2
            ∙ sym (append_assoc h.0 (34 ∷ flat_map escaped text) (92 ∷ [])),
      ) in
      inr (no_label m is (λ f. f), inl (whole_escape, escape_fault (place_of text) (length opens) n s e))
  row_of (whole t) s is h e stop =
      let m : State = whole t in
      let at : Whole ≡ s = cc in
      inr (
        no_label m is (λ f. f),
        inr (
          no_escape m is (λ text opens f. cc),
          inr (
            no_string m is (λ text opens f. cc),
            inl (((t, h), white_taken b (ap (λ s. step s (kind_of b) b) at ∙ stop)), ap (λ s. fault_at s n) (sym at)),
          ),
        ),
      )
  row_of failed s is h e stop = absurd cc

-- ---- the whole

at_spot : (bytes : List ℕ) (i : ℕ) (s : Spot) → IsLongestFront (SpellsSome Spells) bytes i → i < length bytes
    → IsKind bytes i (fault_at s i) → IsSchemeFault bytes (fault_at s i)
at_spot bytes i (Between d) h lt k = (i, h, lt, k)
at_spot bytes i (Opened d) h lt k = (i, h, lt, k)
at_spot bytes i (Naming l d) h lt k = (i, h, lt, k)
at_spot bytes i (Texting p d) h lt k = (i, h, lt, k)
at_spot bytes i (Escaping p d) h lt k = (i, h, lt, k)
at_spot bytes i Whole h lt k = (i, h, lt, k)

pub stopped : (bytes : List ℕ) (i : ℕ) (s : Spot) → i < length bytes → spots start (take i bytes) ≡ Some s
    → step s (kind_of (get_or bytes i 0)) (get_or bytes i 0) ≡ None
    → IsSchemeFault bytes (fault_at s i)
stopped bytes i s lt e stop =
    at_spot bytes i s (stops_at bytes i s lt e stop) lt
    (row_of (take i bytes) (get_or bytes i 0) i (run wide (between []) (take i bytes)) s refl (took (take i bytes))
    (stands (take i bytes) s e) stop)

pub unfinished : (bytes : List ℕ) (s : Spot) → spots start bytes ≡ Some s → (Whole ≡ s → ⊥)
    → IsSchemeFault bytes (Unclosed (length bytes))
unfinished bytes s e n = (
  refl,
  (
    omega arith,
    subst (λ x. (more : List ℕ) × SpellsSome Spells (x ++ more)) (sym (take_all (length bytes) bytes (omega arith)))
        (goes_on_by_some bytes s e),
  ),
  λ h. n (let same : Some Whole ≡ Some s = sym (whole_scan bytes h.0 h.1) ∙ e in cc),
)

pub spelled : (bytes : List ℕ) → spots start bytes ≡ Some Whole → SpellsSome Spells bytes
spelled bytes e = whole_from (run wide (between []) bytes) (took bytes) (stands bytes Whole e)
  where
    whole_from : (m : State) → Took m bytes → spot_of m ≡ Some Whole → SpellsSome Spells bytes
    whole_from (whole t) h e = (t, h)
    whole_from (between opens) h e = absurd cc
    whole_from (opened opens) h e = absurd cc
    whole_from (naming label opens) h e = absurd cc
    whole_from (texting text opens) h e = absurd (let f = text_fault (place_of text) (length opens) 0 Whole e in cc)
    whole_from (escaping text opens) h e = absurd (let f = escape_fault (place_of text) (length opens) 0 Whole e in cc)
    whole_from failed h e = absurd cc
