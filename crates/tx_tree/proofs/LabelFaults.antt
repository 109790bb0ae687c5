-- Bytes are a label or have one fault.
use Rattle.std.proofs.Common.{◌≡◌, ℕ, zero, suc, ◌+◌, ◌<◌, ◌≤◌, Bool, true, false, List, length, take, get_or, refl}
use Rattle.std.proofs.Common.{ap, subst, arith, ◌⊎◌, inl, inr, ⊎_elim}
use Rattle.std.proofs.lemmas.List.{take_all}
use Rattle.std.proofs.lemmas.Bool.{cases_lt}
use Rattle.tx_base.proofs.Fronts.{one_front}
use Rattle.tx_tree.specs.declared.labels.LabelFault.{LabelFault}
use Rattle.tx_tree.specs.declared.labels.LabelFault.TheVariants.{BadLabel, Memory}
use Rattle.tx_tree.specs.Labels.{is_label_byte, IsLabel, IsLabelFault}
use Rattle.tx_tree.proofs.Labelling.{AreLabelBytes, all_more, label_stops, label_empty}

pub label_fault_once : (bytes : List ℕ) (f g : LabelFault) → IsLabelFault bytes f → IsLabelFault bytes g → f ≡ g
label_fault_once bytes (BadLabel m) (BadLabel n) h k = ap (λ i. BadLabel i) (one_front IsLabel bytes m n h.0 k.0)
label_fault_once bytes (BadLabel m) Memory h k = absurd k
label_fault_once bytes Memory g h k = absurd h

pub label_has_no_fault : (bytes : List ℕ) (fault : LabelFault) → IsLabel bytes → IsLabelFault bytes fault → ⊥
label_has_no_fault bytes (BadLabel n) h f = f.1 h
label_has_no_fault bytes Memory h f = f

abbrev IsLabelOr : List ℕ → Type 0
IsLabelOr bytes = IsLabel bytes ⊎ ((fault : LabelFault) × IsLabelFault bytes fault)

at_end : (bytes : List ℕ) → AreLabelBytes bytes → length bytes ≤ 64 → IsLabelOr bytes
at_end bytes h short =
    ⊎_elim
    (λ (some : 0 < length bytes). inl (record { each = h; some = omega arith; short = short }))
    (λ (none : length bytes ≤ 0). inr (BadLabel 0, label_empty bytes (omega arith)))
    (cases_lt 0 (length bytes))

label_or_from : (bytes : List ℕ) (k i : ℕ) → i + k ≡ length bytes → i ≤ 64 → AreLabelBytes (take i bytes)
    → IsLabelOr bytes
label_or_from bytes zero i all short h =
    at_end bytes (subst AreLabelBytes (take_all i bytes (omega arith)) h) (omega arith)
label_or_from bytes (suc k) i all short h =
    ⊎_elim
    (λ (below : i < 64). by_byte (is_label_byte (get_or bytes i 0)) refl
    (λ e. label_or_from bytes k (i + 1) (omega arith) (omega arith) (all_more bytes i (omega arith) h e)))
    (λ (most : 64 ≤ i). inr (BadLabel i, label_stops bytes i (omega arith) h short (λ below. absurd (omega arith))))
    (cases_lt i 64)
  where
    by_byte : (taken : Bool) → is_label_byte (get_or bytes i 0) ≡ taken
        → (is_label_byte (get_or bytes i 0) ≡ true → IsLabelOr bytes) → IsLabelOr bytes
    by_byte true e on = on e
    by_byte false e on = inr (BadLabel i, label_stops bytes i (omega arith) h short (λ below. e))

pub label_or_fault : (bytes : List ℕ) → IsLabel bytes ⊎ ((fault : LabelFault) × IsLabelFault bytes fault)
label_or_fault bytes = label_or_from bytes (length bytes) 0 (omega arith) (omega arith) tt
