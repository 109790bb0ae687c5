-- Bytes have at most one fault as a text: none where they are a text within the limit, and else one.
use Rattle.std.proofs.Common.{◌≡◌, ℕ, zero, suc, ◌+◌, ◌<◌, ◌≤◌, true, List, [], ◌++◌, length, take, get_or, Option}
use Rattle.std.proofs.Common.{Some, None, refl, sym, ap, subst, ◌∙◌, arith, ◌⊎◌, inl, inr, ⊎_elim}
use Rattle.std.specs.Prelude.{slice_get}
use Rattle.std.proofs.lemmas.List.{append-nil, take_all}
use Rattle.std.proofs.lemmas.Option.{get_or_from_slice_get}
use Rattle.std.proofs.lemmas.Bool.{cases_lt}
use Rattle.tx_base.specs.Fronts.{IsLongestFront}
use Rattle.tx_base.proofs.Fronts.{whole_front, one_front}
use Rattle.tx_tree.specs.declared.texts.TextFault.{TextFault}
use Rattle.tx_tree.specs.declared.texts.TextFault.TheVariants.{TooLong, BadByte, BadSymbol, Memory}
use Rattle.tx_tree.specs.declared.texts.TextPlace.{TextPlace}
use Rattle.tx_tree.specs.declared.texts.TextPlace.TheVariants.{Between, InSymbol}
use Rattle.tx_tree.specs.Texts.{begins_no_item, IsText, IsTextFault}
use Rattle.tx_tree.specs.TextScan.{text_step, text_run, fault_at}
use Rattle.tx_tree.proofs.Scanning.{text_runs, begins_test, begins_some, run_more, ends_at, in_symbol, between_text}
use Rattle.tx_tree.proofs.Scanning.{fault_there}

-- a front that is a text and one that is none are not the same
apart : (bytes : List ℕ) (m n : ℕ) → IsLongestFront IsText bytes m → IsLongestFront IsText bytes n
    → IsText (take m bytes) → (IsText (take n bytes) → ⊥) → ⊥
apart bytes m n h k text none = none (subst (λ i. IsText (take i bytes)) (one_front IsText bytes m n h k) text)

pub text_fault_once : (bytes : List ℕ) (f g : TextFault) → IsTextFault bytes f → IsTextFault bytes g → f ≡ g
text_fault_once bytes (TooLong m) (TooLong n) h k = ap (λ i. TooLong i) (h.1 ∙ sym k.1)
text_fault_once bytes (TooLong m) (BadByte n) h k = absurd (omega (arith, h.0, k.0))
text_fault_once bytes (TooLong m) (BadSymbol n) h k = absurd (omega (arith, h.0, k.0))
text_fault_once bytes (TooLong m) Memory h k = absurd k
text_fault_once bytes (BadByte m) (TooLong n) h k = absurd (omega (arith, h.0, k.0))
text_fault_once bytes (BadByte m) (BadByte n) h k = ap (λ i. BadByte i) (one_front IsText bytes m n h.1 k.1)
text_fault_once bytes (BadByte m) (BadSymbol n) h k = absurd (apart bytes m n h.1 k.1 h.3 k.2)
text_fault_once bytes (BadByte m) Memory h k = absurd k
text_fault_once bytes (BadSymbol m) (TooLong n) h k = absurd (omega (arith, h.0, k.0))
text_fault_once bytes (BadSymbol m) (BadByte n) h k = absurd (apart bytes n m k.1 h.1 k.3 h.2)
text_fault_once bytes (BadSymbol m) (BadSymbol n) h k = ap (λ i. BadSymbol i) (one_front IsText bytes m n h.1 k.1)
text_fault_once bytes (BadSymbol m) Memory h k = absurd k
text_fault_once bytes Memory g h k = absurd h

pub text_has_no_fault : (bytes : List ℕ) (fault : TextFault) → IsText bytes → length bytes ≤ 1048575
    → IsTextFault bytes fault → ⊥
text_has_no_fault bytes (TooLong n) h short f = omega (arith, f.0)
text_has_no_fault bytes (BadByte n) h short f = let most = f.1.longest (length bytes) (whole_front IsText bytes h) in
    omega (arith, f.2, most)
text_has_no_fault bytes (BadSymbol n) h short f =
    let most = f.1.longest (length bytes) (whole_front IsText bytes h) in
    f.2 (subst IsText (sym (take_all n bytes most)) h)
text_has_no_fault bytes Memory h short f = f

-- ---- bytes are a text within the limit, or have a fault

abbrev IsTextOr : List ℕ → Type 0
IsTextOr bytes = (IsText bytes × (length bytes ≤ 1048575)) ⊎ ((fault : TextFault) × IsTextFault bytes fault)

at_end : (bytes : List ℕ) (p : TextPlace) → length bytes ≤ 1048575 → text_run (Some Between) bytes ≡ Some p
    → IsTextOr bytes
at_end bytes Between short e = inl (between_text bytes e, short)
at_end bytes (InSymbol n) short e =
    inr (
      BadSymbol (length bytes),
      (
        short,
        ends_at bytes (InSymbol n) e,
        λ h. in_symbol bytes n e (subst IsText (take_all (length bytes) bytes (omega arith)) h),
      ),
    )

text_or_from : (bytes : List ℕ) (k i : ℕ) (p : TextPlace) → i + k ≡ length bytes → length bytes ≤ 1048575
    → text_run (Some Between) (take i bytes) ≡ Some p → IsTextOr bytes
text_or_from bytes zero i p all short e =
    at_end bytes p short (ap (text_run (Some Between)) (sym (take_all i bytes (omega arith))) ∙ e)
text_or_from bytes (suc k) i p all short e =
    by_step (text_step p (get_or bytes i 0)) refl (λ q s. text_or_from bytes k (i + 1) q (omega arith) short s)
  where
    by_step : (o : Option TextPlace) → text_step p (get_or bytes i 0) ≡ o
        → ((q : TextPlace) → text_run (Some Between) (take (i + 1) bytes) ≡ Some q → IsTextOr bytes) → IsTextOr bytes
    by_step None stop on = inr (fault_at p i, fault_there bytes i p (fault_at p i) short (omega arith) e stop refl)
    by_step (Some q) step on = on q (run_more bytes i p (omega arith) e ∙ step)

pub text_or_fault : (bytes : List ℕ) → (IsText bytes × (length bytes ≤ 1048575))
    ⊎ ((fault : TextFault) × IsTextFault bytes fault)
text_or_fault bytes =
    ⊎_elim
    (λ (long : 1048575 < length bytes). inr (TooLong (length bytes), (long, refl)))
    (λ (short : length bytes ≤ 1048575). text_or_from bytes (length bytes) 0 Between (omega arith) short refl)
    (cases_lt 1048575 (length bytes))

-- ---- what is at a fault

no_item : (b : ℕ) → text_step Between b ≡ None → begins_no_item b ≡ true
unfolding text_step
no_item b e = grind arith

pub bad_byte_there : (bytes : List ℕ) (n b : ℕ) → IsTextFault bytes (BadByte n) → slice_get bytes n ≡ Some b
    → begins_no_item b ≡ true
bad_byte_there bytes n b h is =
    subst (λ x. begins_no_item x ≡ true) (get_or_from_slice_get bytes n b 0 is)
    (no_item (get_or bytes n 0) (by_step (text_step Between (get_or bytes n 0)) refl))
  where
    read : text_run (Some Between) (take n bytes) ≡ Some Between
    read = ap (text_run (Some Between)) (sym (append-nil (take n bytes))) ∙ text_runs (take n bytes) [] h.3

    by_step : (o : Option TextPlace) → text_step Between (get_or bytes n 0) ≡ o → o ≡ None
    by_step None e = refl
    by_step (Some p) e =
        let on = begins_test (take (n + 1) bytes)
        (begins_some (take (n + 1) bytes) p (run_more bytes n Between h.2 read ∙ e)) in
        absurd (omega (arith, h.2, h.1.longest (n + 1) (omega (arith, h.2), on)))

-- with the byte at a fault no text goes on
pub text_stops : (bytes more : List ℕ) (n : ℕ) → IsLongestFront IsText bytes n → n < length bytes
    → IsText (take (n + 1) bytes ++ more) → ⊥
text_stops bytes more n h lt text = omega (arith, lt, h.longest (n + 1) (omega arith, (more, text)))
