-- Bytes have at most one fault, and those that spell no tree have the one at which the machine with marks stops.
use Rattle.std.proofs.Common.{◌≡◌, ◌⊎◌, ⊎_elim, inl, inr, ℕ, zero, suc, ◌<◌, ◌≤◌, Bool, true, false, if◌then◌else◌}
use Rattle.std.proofs.Common.{List, [], ◌∷◌, ◌++◌, length, take, drop, get_or, Option, Some, None, refl, sym, ap, subst}
use Rattle.std.proofs.Common.{◌∙◌, arith}
use Rattle.std.proofs.lemmas.List.{append-nil, take_all}
use Rattle.tx_tree.specs.declared.faults.Which.{Which}
use Rattle.tx_tree.specs.declared.faults.ReadFault.{ReadFault}
use Rattle.tx_tree.specs.declared.faults.ReadFault.TheVariants.{Unclosed, BadEscape, BadLabel, BadText, Mismatch, Limit}
use Rattle.tx_tree.specs.ReadFaults.{SpellsSome, IsPassed}
use Rattle.tx_tree.specs.Limits.{IsWithinLimits}
use Rattle.tx_tree.specs.WideTree.{WideTree}
use Rattle.tx_tree.proofs.OneFault.{passed_once, no_fault, passed, row_once}
use Rattle.tx_tm_form.specs.declared.marks.TagMark.{TagMark}
use Rattle.tx_tm_form.specs.declared.marks.Inside.TheVariants.{Parts}
use Rattle.tx_tm_form.specs.declared.places.TagForm.TheVariants.{Middle, Closing}
use Rattle.tx_tm_form.specs.Tokens.{Token}
use Rattle.tx_tm_form.specs.Forms.{Spells}
use Rattle.tx_tm_form.specs.Machine.{Lex, labelled, Bytewise, at, lost, step, run, keep, start}
use Rattle.tx_tm_form.specs.Fronts.{goes_on, IsLongestTmFront}
use Rattle.tx_tm_form.specs.Marks.{Standing, standing_in, Marked, keep_marks, start_marks, standing_goes_on}
use Rattle.tx_tm_form.specs.Marks.{marks_go_on}
use Rattle.tx_tm_form.specs.Marks.{stop_fault, spells_whole, fault_from, fault_of}
use Rattle.tx_tm_form.specs.Faults.{IsScanned, IsInRepeated, IsOpenTag, IsByteFault, IsKind, IsTmFault}
use Rattle.tx_tm_form.proofs.Words.{one_tree}
use Rattle.tx_tm_form.proofs.Stops.{front_goes_on}
use Rattle.tx_tm_form.proofs.Begun.{scanned_run}
use Rattle.tx_tm_form.proofs.Marking.{marks_same, go_on_same}
use Rattle.tx_tm_form.proofs.Passing.{marked, marks_fold, block_mark}
use Rattle.tx_tm_form.proofs.Stopping.{one_more, stop_there, end_there, whole_there}

-- ---- one place of the open tag

abbrev pub file_marked : Marked
file_marked = marked 0 false (standing_in Parts [])

repeated_scanned : (x : List ℕ) (ts : List Token) → IsInRepeated x ts → (q : Lex) × IsScanned x ts q
repeated_scanned x ts (l, inl s) = (labelled Middle l, s)
repeated_scanned x ts (l, inr s) = (labelled Closing l, s)

pub goes_on_some : (q : Lex) (o : Option Standing) → standing_goes_on q o ≡ true → (z : Standing) × (o ≡ Some z)
goes_on_some q None e = absurd cc
goes_on_some q (Some z) e = (z, refl)

abbrev first_at : List TagMark → ℕ
first_at [] = 0
first_at (m ∷ ms) = m.at

abbrev first_of : Option Standing → ℕ
first_of None = 0
first_of (Some z) = first_at z.marks

abbrev now_of : Bytewise Marked → Option Standing
now_of (at q m) = m.now
now_of lost = None

-- the place follows from the bytes
tag_at : (x : List ℕ) (place : ℕ) → goes_on (run keep start x) ≡ true → IsOpenTag x place
    → place ≡ first_of (now_of (run keep_marks start_marks x))
tag_at x place on h =
    let r = repeated_scanned x h.0 h.1 in
    let e : run keep_marks start_marks x ≡ at r.0 (marks_fold file_marked h.0) =
    scanned_run Marked keep_marks x h.0 r.0 file_marked r.1 in
    let going : standing_goes_on r.0 (marks_fold file_marked h.0).now ≡ true =
    sym (go_on_same (run keep start x) (run keep_marks start_marks x) (marks_same x) ∙ ap marks_go_on e) ∙ on in
    let z = goes_on_some r.0 (marks_fold file_marked h.0).now going in
    let o = block_mark h.0 place z.0 h.2 z.1 in
    sym (ap (λ w. first_of (now_of w)) e ∙ ap first_of z.1 ∙ ap first_of o.1)

-- ---- one kind

-- where both are one value
both_told : (f g v : ReadFault) → f ≡ v → g ≡ v → f ≡ g
both_told f g v h k = h ∙ sym k

kind_once : (x : List ℕ) (b n : ℕ) (f g : ReadFault) → goes_on (run keep start x) ≡ true → IsByteFault x b n f
    → IsByteFault x b n g → f ≡ g
kind_once x b n f g on =
    row_once _ _ _ _ _ (f ≡ g)
    (λ h k. h.2 ∙ ap (λ p. Mismatch p n) (tag_at x h.0 on h.1 ∙ sym (tag_at x k.0 on k.1)) ∙ sym k.2)
    (row_once _ _ _ _ _ (f ≡ g) (both_told f g (BadLabel n))
    (row_once _ _ _ _ _ (f ≡ g) (both_told f g (BadEscape n))
    (row_once _ _ _ _ _ (f ≡ g) (both_told f g (BadText n)) (λ h k. h ∙ sym k))))

-- ---- one fault

abbrev AtByte : List ℕ → ReadFault → Type 0
AtByte bytes fault = (n : ℕ) × IsLongestTmFront bytes n × (n < length bytes) × IsKind bytes n fault

front_unlike : (bytes : List ℕ) (n m : ℕ) → IsTmFault bytes (Unclosed n) → IsLongestTmFront bytes m → m < length bytes
    → ⊥
front_unlike bytes n m h l lt = let k : n ≤ m = l.longest n h.1 in omega (arith, k, lt, h.0)

tree_unlike : (bytes : List ℕ) (t : WideTree) (m : ℕ) → Spells bytes t → IsLongestTmFront bytes m → m < length bytes → ⊥
tree_unlike bytes t m h l lt =
    let whole : Spells (take (length bytes) bytes ++ []) t =
    subst (λ x. Spells x t)
    (sym (append-nil (take (length bytes) bytes) ∙ take_all (length bytes) bytes (omega arith))) h in
    let k : length bytes ≤ m = l.longest (length bytes) (omega arith, ([], (t, whole))) in
    omega (arith, k, lt)

place_once : (bytes : List ℕ) (f g : ReadFault) (n m : ℕ) → IsLongestTmFront bytes n → IsLongestTmFront bytes m
    → IsKind bytes n f → IsKind bytes m g → f ≡ g
place_once bytes f g n m l k h i =
    let a : n ≤ m = k.longest n l.front in
    let b : m ≤ n = l.longest m k.front in
    let e : m ≡ n = omega (arith, a, b) in
    kind_once (take n bytes) (get_or bytes n 0) n f g
    (front_goes_on (take n bytes) l.front.1.0 l.front.1.1.0 l.front.1.1.1) h (subst (λ j. IsKind bytes j g) e i)

-- the sort of a fault
pub data Sort (bytes : List ℕ) (fault : ReadFault) : Type 0 where
  unfinished : (n : ℕ) → fault ≡ Unclosed n → IsTmFault bytes (Unclosed n) → Sort bytes fault
  past : (which : Which) (n : ℕ) → fault ≡ Limit which n → IsTmFault bytes (Limit which n) → Sort bytes fault
  placed : AtByte bytes fault → Sort bytes fault

sort_of : (bytes : List ℕ) (fault : ReadFault) → IsTmFault bytes fault → Sort bytes fault
sort_of bytes (Unclosed n) h = unfinished n refl h
sort_of bytes (Limit which n) h = past which n refl h
sort_of bytes _ h = placed h

sorts_once : (bytes : List ℕ) (f g : ReadFault) → Sort bytes f → Sort bytes g → f ≡ g
sorts_once bytes f g (unfinished n e h) (unfinished m i k) = e ∙ ap Unclosed (h.0 ∙ sym k.0) ∙ sym i
sorts_once bytes f g (unfinished n e h) (past which m i k) = absurd (h.2 (k.0, k.1))
sorts_once bytes f g (unfinished n e h) (placed k) = absurd (front_unlike bytes n k.0 h k.1 k.2)
sorts_once bytes f g (past which n e h) (unfinished m i k) = absurd (k.2 (h.0, h.1))
sorts_once bytes f g (past which n e h) (past other m i k) =
    e ∙ passed_once h.0 which other n m h.2 (subst (λ t. IsPassed t other m) (one_tree bytes k.0 h.0 k.1 h.1) k.2)
    ∙ sym i
sorts_once bytes f g (past which n e h) (placed k) = absurd (tree_unlike bytes h.0 k.0 h.1 k.1 k.2)
sorts_once bytes f g (placed h) (unfinished m i k) = absurd (front_unlike bytes m h.0 k h.1 h.2)
sorts_once bytes f g (placed h) (past which m i k) = absurd (tree_unlike bytes k.0 h.0 k.1 h.1 h.2)
sorts_once bytes f g (placed h) (placed k) = place_once bytes f g h.0 k.0 h.1 k.1 h.3 k.3

pub one_fault : (bytes : List ℕ) (f g : ReadFault) → IsTmFault bytes f → IsTmFault bytes g → f ≡ g
one_fault bytes f g h k = sorts_once bytes f g (sort_of bytes f h) (sort_of bytes g k)

-- ---- the fault that the machine finds

abbrev pub Tells : List ℕ → Option ReadFault → Type 0
Tells bytes None = SpellsSome Spells bytes
Tells bytes (Some fault) = IsTmFault bytes fault

drop_first : (bytes : List ℕ) (n b : ℕ) (rest : List ℕ) → drop n bytes ≡ b ∷ rest
    → (n < length bytes) × (b ≡ get_or bytes n 0) × (rest ≡ drop (suc n) bytes)
drop_first [] zero b rest e = absurd cc
drop_first [] (suc n) b rest e = absurd cc
drop_first (c ∷ bytes) zero b rest e = (omega arith, cc, cc)
drop_first (c ∷ bytes) (suc n) b rest e = let p = drop_first bytes n b rest e in (omega (arith, p.0), p.1, p.2)

drop_none : (bytes : List ℕ) (n : ℕ) → n ≤ length bytes → drop n bytes ≡ [] → n ≡ length bytes
drop_none [] zero h e = refl
drop_none [] (suc n) h e = absurd (omega (arith, h))
drop_none (c ∷ bytes) zero h e = absurd cc
drop_none (c ∷ bytes) (suc n) h e = let p = drop_none bytes n (omega (arith, h)) e in omega (arith, p)

at_end : (c : Bool) (bytes : List ℕ) (w : Bytewise Marked) → run keep_marks start_marks bytes ≡ w → marks_go_on w ≡ true
    → spells_whole w ≡ c → Tells bytes (if c then None else Some (Unclosed (length bytes)))
at_end true bytes w e on h = whole_there w bytes e h
at_end false bytes w e on h = end_there w bytes e on h

told_from : (rest bytes : List ℕ) (n : ℕ) (w : Bytewise Marked) → n ≤ length bytes → drop n bytes ≡ rest
    → run keep_marks start_marks (take n bytes) ≡ w → marks_go_on w ≡ true → Tells bytes (fault_from n w rest)
told_from [] bytes n w h e r on =
    let i = drop_none bytes n h e in
    subst (λ j. Tells bytes (if spells_whole w then None else Some (Unclosed j))) (sym i)
    (at_end (spells_whole w) bytes w (ap (λ x. run keep_marks start_marks x) (sym (take_all n bytes (omega (arith, i))))
    ∙ r) on refl)
told_from (b ∷ rest) bytes n w h e r on =
    let p = drop_first bytes n b rest e in
    let next : run keep_marks start_marks (take (suc n) bytes) ≡ step keep_marks w b = one_more bytes n w p.0 r
    ∙ ap (λ c. step keep_marks w c) (sym p.1) in
    elim (marks_go_on (step keep_marks w b)) as
    (λ z. marks_go_on (step keep_marks w b) ≡ z
    → Tells bytes (if z then fault_from (suc n) (step keep_marks w b) rest else Some (stop_fault w b n))) [
      | true ↦ λ k. told_from rest bytes (suc n) (step keep_marks w b) (omega (arith, p.0)) (sym p.2) next k
      | false ↦ λ k.
          subst (λ c. IsTmFault bytes (stop_fault w c n)) (sym p.1)
          (stop_there w bytes n p.0 r on (ap (λ c. marks_go_on (step keep_marks w c)) (sym p.1) ∙ k))
    ] refl

pub fault_is_told : (bytes : List ℕ) → Tells bytes (fault_of bytes)
unfolding fault_of
fault_is_told bytes = told_from bytes bytes 0 start_marks (omega arith) refl refl refl

pub told : (bytes : List ℕ) (fault : ReadFault) → fault_of bytes ≡ Some fault → IsTmFault bytes fault
told bytes fault e = subst (λ o. Tells bytes o) e (fault_is_told bytes)

pub told_tree : (bytes : List ℕ) → fault_of bytes ≡ None → (t : WideTree) × Spells bytes t
told_tree bytes e = subst (λ o. Tells bytes o) e (fault_is_told bytes)

pub no_fault_of_tree : (bytes : List ℕ) (fault : ReadFault) (t : WideTree) → IsTmFault bytes fault → Spells bytes t
    → IsWithinLimits t → ⊥
no_fault_of_tree = no_fault Spells IsKind one_tree

abbrev TreeOrFault : List ℕ → Type 0
TreeOrFault bytes = ((t : WideTree) × Spells bytes t × IsWithinLimits t) ⊎ ((fault : ReadFault) × IsTmFault bytes fault)

pub tree_or_fault : (bytes : List ℕ) → TreeOrFault bytes
tree_or_fault bytes = by_told (fault_of bytes) (fault_is_told bytes)
  where
    by_told : (o : Option ReadFault) → Tells bytes o → TreeOrFault bytes
    by_told (Some fault) h = inr (fault, h)
    by_told None h =
        ⊎_elim (λ (w : IsWithinLimits h.0). inl (h.0, h.1, w))
        (λ (p : (which : Which) × (n : ℕ) × IsPassed h.0 which n). inr (Limit p.0 p.1, (h.0, h.1, p.2)))
        (passed h.0)
