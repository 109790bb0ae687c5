-- Where the machine with marks stops, and at the end of the bytes.
use Rattle.std.proofs.Common.{◌≡◌, inr, ℕ, suc, ◌<◌, Bool, true, false, ◌==◌, ◌||◌, ◌&&◌, if◌then◌else◌, List, [], ◌∷◌}
use Rattle.std.proofs.Common.{◌++◌, length, take, get_or, Option, Some, None, refl, sym, ap, subst, ◌∙◌, arith}
use Rattle.std.proofs.Math.Seq.{take-suc}
use Rattle.std.proofs.lemmas.List.{take_all}
use Rattle.tx_tree.specs.declared.faults.ReadFault.{ReadFault}
use Rattle.tx_tree.specs.declared.faults.ReadFault.TheVariants.{Unclosed, Stray, BadEscape, BadLabel, BadText, Limit}
use Rattle.tx_tree.specs.ReadFaults.{SpellsSome}
use Rattle.tx_tree.specs.WideTree.{WideTree}
use Rattle.tx_tm_form.specs.declared.places.TagForm.TheVariants.{Short, Long, Middle, Closing}
use Rattle.tx_tm_form.specs.declared.marks.TagMark.{TagMark}
use Rattle.tx_tm_form.specs.declared.marks.Inside.{Inside}
use Rattle.tx_tm_form.specs.declared.marks.Inside.TheVariants.{Parts, Symbol, Digits}
use Rattle.tx_tm_form.specs.Tokens.{Token, without_joins}
use Rattle.tx_tm_form.specs.Forms.{nothing, Spells}
use Rattle.tx_tm_form.specs.Machine.{State, reading, naming, counting, failed, feeds, Lex, ready, slashed, returned}
use Rattle.tx_tm_form.specs.Machine.{angled, labelled, Bytewise, at, lost, step, run, Keeping, keep, start, state_tree}
use Rattle.tx_tm_form.specs.Machine.{tree_if, tree_in, reads}
use Rattle.tx_tm_form.specs.Fronts.{goes_on, IsLongestTmFront}
use Rattle.tx_tm_form.specs.Marks.{Standing, is_symbol, is_parts, standing_goes_on, Marked, keep_marks, start_marks}
use Rattle.tx_tm_form.specs.Marks.{marks_go_on, mismatch, fault_by, standing_fault, stop_fault, is_whole, spells_whole}
use Rattle.tx_tm_form.specs.Faults.{IsKind, IsTmFault}
use Rattle.tx_tm_form.proofs.Words.{keeps_state, file_state, spelled_is_read}
use Rattle.tx_tm_form.proofs.Sound.{Took, feeds_took}
use Rattle.tx_tm_form.proofs.Taken.{kept_tokens, read_is_spelled}
use Rattle.tx_tm_form.proofs.Closing.{goes_on_is_front, here_placed, file_closes}
use Rattle.tx_tm_form.proofs.Longest.{stop_is_longest}
use Rattle.tx_tm_form.proofs.Begun.{run_behind, read_behind}
use Rattle.tx_tm_form.proofs.Marking.{IsStanding, IsMarked, IsKept, IsSame, marks_same, go_on_same}
use Rattle.tx_tm_form.proofs.Standing.{is_taken}
use Rattle.tx_tm_form.proofs.Rows.{kind_there}
use Rattle.tx_tm_form.proofs.Formed.{is_same_number}

-- ---- both machines

abbrev pub IsRead : List ℕ → Lex → Marked → Type 0
IsRead x q m = (k : Keeping) × (run keep start x ≡ at q k) × IsKept k m

same_there : (w : Bytewise Keeping) (q : Lex) (m : Marked) → IsSame w (at q m)
    → (k : Keeping) × (w ≡ at q k) × IsKept k m
same_there (at r k) q m h = (k, ap (λ z. at z k) h.0, h.1)
same_there lost q m h = absurd h

pub read_too : (x : List ℕ) (q : Lex) (m : Marked) → run keep_marks start_marks x ≡ at q m → IsRead x q m
read_too x q m e = same_there (run keep start x) q m (subst (λ v. IsSame (run keep start x) v) e (marks_same x))

pub goes_on_there : (x : List ℕ) (w : Bytewise Marked) → run keep_marks start_marks x ≡ w
    → goes_on (run keep start x) ≡ marks_go_on w
goes_on_there x w e = go_on_same (run keep start x) (run keep_marks start_marks x) (marks_same x) ∙ ap marks_go_on e

-- ---- a stop

pub one_more : (bytes : List ℕ) (n : ℕ) (w : Bytewise Marked) → n < length bytes
    → run keep_marks start_marks (take n bytes) ≡ w → run keep_marks start_marks (take (suc n) bytes) ≡ step keep_marks
    w (get_or bytes n 0)
one_more bytes n w lt e =
    ap (λ x. run keep_marks start_marks x) (take-suc bytes n 0 lt)
    ∙ run_behind Marked keep_marks (take n bytes) (get_or bytes n 0 ∷ []) start_marks
    ∙ ap (λ v. run keep_marks v (get_or bytes n 0 ∷ [])) e

longest_there : (bytes : List ℕ) (n : ℕ) (w : Bytewise Marked) → n < length bytes
    → run keep_marks start_marks (take n bytes) ≡ w → marks_go_on w ≡ true
    → marks_go_on (step keep_marks w (get_or bytes n 0)) ≡ false → IsLongestTmFront bytes n
longest_there bytes n w lt e on stop =
    stop_is_longest bytes n
    (record {
      within = omega (arith, lt);
      taken = goes_on_there (take n bytes) w e ∙ on;
      stop = inr (goes_on_there (take (suc n) bytes) (step keep_marks w (get_or bytes n 0)) (one_more bytes n w lt e)
          ∙ stop);
    })

abbrev IsPlaced : ReadFault → Type 0
IsPlaced (Unclosed n) = ⊥
IsPlaced (Limit which n) = ⊥
IsPlaced _ = Unit {0}

mismatch_placed : (ms : List TagMark) (n : ℕ) → IsPlaced (mismatch ms n)
mismatch_placed [] n = tt
mismatch_placed (m ∷ ms) n = tt

if_placed : (c : Bool) (f g : ReadFault) → IsPlaced f → IsPlaced g → IsPlaced (if c then f else g)
if_placed true f g h k = h
if_placed false f g h k = k

fault_placed : (q : Lex) (inside : Inside) (ms : List TagMark) (b n : ℕ) → IsPlaced (fault_by q inside ms b n)
fault_placed ready inside ms b n = if_placed (is_symbol inside) (BadText n) (Stray n) tt tt
fault_placed slashed inside ms b n = if_placed (is_symbol inside || b == 62) (BadText n) (BadEscape n) tt tt
fault_placed returned inside ms b n = tt
fault_placed angled inside ms b n = if_placed (b == 124 || b == 47) (Stray n) (BadLabel n) tt tt
fault_placed (labelled Short l) inside ms b n = tt
fault_placed (labelled Long l) inside ms b n = tt
fault_placed (labelled Middle l) inside ms b n = mismatch_placed ms n
fault_placed (labelled Closing l) inside ms b n = mismatch_placed ms n

placed_fault : (fault : ReadFault) (bytes : List ℕ) (n : ℕ) → IsPlaced fault → IsLongestTmFront bytes n
    → n < length bytes → IsKind bytes n fault → IsTmFault bytes fault
placed_fault (Unclosed m) bytes n h l lt k = absurd h
placed_fault (Limit which m) bytes n h l lt k = absurd h
placed_fault _ bytes n h l lt k = (n, l, lt, k)

stop_at : (q : Lex) (m : Marked) (o : Option Standing) (bytes : List ℕ) (n : ℕ) → m.now ≡ o → n < length bytes
    → run keep_marks start_marks (take n bytes) ≡ at q m
    → standing_goes_on q o ≡ true → IsLongestTmFront bytes n → IsTmFault bytes (standing_fault q o (get_or bytes n 0) n)
stop_at q m None bytes n i lt e on l = absurd cc
stop_at q m (Some z) bytes n i lt e on l =
    let r = read_too (take n bytes) q m e in
    placed_fault (fault_by q z.inside z.marks (get_or bytes n 0) n) bytes n
    (fault_placed q z.inside z.marks (get_or bytes n 0) n) l lt
    (kind_there q (take n bytes) z (get_or bytes n 0) n (is_taken (take n bytes) q r.0 m z r.1 e i r.2.1) on)

-- the byte at which the machine stops has this fault
pub stop_there : (w : Bytewise Marked) (bytes : List ℕ) (n : ℕ) → n < length bytes
    → run keep_marks start_marks (take n bytes) ≡ w → marks_go_on w ≡ true
    → marks_go_on (step keep_marks w (get_or bytes n 0)) ≡ false → IsTmFault bytes (stop_fault w (get_or bytes n 0) n)
stop_there lost bytes n lt e on stop = absurd cc
stop_there (at q m) bytes n lt e on stop =
    stop_at q m m.now bytes n refl lt e on (longest_there bytes n (at q m) lt e on stop)

-- ---- the end

no_mark : (m : TagMark) (ms : List TagMark) → (length (m ∷ ms) == 0) ≡ true → ⊥
no_mark m ms e = omega (arith, is_same_number (length (m ∷ ms)) 0 e)

whole_in : (s : State) (inside : Inside) (ms : List TagMark) (t : WideTree) → IsStanding s inside ms
    → state_tree s ≡ Some t → (is_parts inside && length ms == 0) ≡ true
whole_in (reading here []) Parts [] t h e = refl
whole_in (reading here []) Parts (m ∷ ms) t h e = absurd h
whole_in (reading here []) (Symbol j) ms t h e = absurd h
whole_in (reading here []) Digits ms t h e = absurd h
whole_in (reading here (f ∷ fs)) inside ms t h e = absurd cc
whole_in (naming n here fs) inside ms t h e = absurd cc
whole_in (counting ds here fs) inside ms t h e = absurd cc
whole_in failed inside ms t h e = absurd cc

whole_of : (s : State) (o : Option Standing) (t : WideTree) → IsMarked s o → state_tree s ≡ Some t → is_whole o ≡ true
whole_of s None t h e = absurd (let g : state_tree failed ≡ Some t = sym (ap state_tree h) ∙ e in cc)
whole_of s (Some z) t h e = whole_in s z.inside z.marks t h e

tree_marked : (q : Lex) (k : Keeping) (s : State) (o : Option Standing) (t : WideTree) → k.state ≡ s → IsMarked s o
    → tree_if q k ≡ Some t → (q ≡ ready) × (is_whole o ≡ true)
tree_marked ready k s o t i h e = (refl, whole_of s o t h (sym (ap state_tree i) ∙ e))
tree_marked slashed k s o t i h e = absurd cc
tree_marked returned k s o t i h e = absurd cc
tree_marked angled k s o t i h e = absurd cc
tree_marked (labelled form l) k s o t i h e = absurd cc

no_whole : (q : Lex) (m : Marked) → q ≡ ready → is_whole m.now ≡ true → spells_whole (at q m) ≡ false → ⊥
no_whole q m e h g = let k : spells_whole (at q m) ≡ true = ap (λ p. spells_whole (at p m)) e ∙ h in cc

no_tree : (bytes : List ℕ) (q : Lex) (m : Marked) → run keep_marks start_marks bytes ≡ at q m
    → spells_whole (at q m) ≡ false → SpellsSome Spells bytes → ⊥
unfolding reads
no_tree bytes q m e h s =
    let r = read_too bytes q m e in
    let p = tree_marked q r.0 r.0.state m.now s.0 refl r.2.1 (sym (ap tree_in r.1) ∙ spelled_is_read bytes s.0 s.1) in
    no_whole q m p.0 p.1 h

-- all bytes have been taken, and spell no tree
pub end_there : (w : Bytewise Marked) (bytes : List ℕ) → run keep_marks start_marks bytes ≡ w → marks_go_on w ≡ true
    → spells_whole w ≡ false → IsTmFault bytes (Unclosed (length bytes))
end_there lost bytes e on h = absurd cc
end_there (at q m) bytes e on h =
    let f = goes_on_is_front bytes (goes_on_there bytes (at q m) e ∙ on) in (
      refl,
      (
        omega arith,
        (f.0, (f.1, subst (λ x. Spells (x ++ f.0) f.1) (sym (take_all (length bytes) bytes (omega arith))) f.2)),
      ),
      no_tree bytes q m e h,
    )

file_read_in : (s : State) (inside : Inside) (ms : List TagMark) (ts : List Token) → IsStanding s inside ms
    → (is_parts inside && length ms == 0) ≡ true → Took s ts → (t : WideTree) × (state_tree s ≡ Some t)
file_read_in s (Symbol j) ms ts h e k = absurd cc
file_read_in s Digits ms ts h e k = absurd cc
file_read_in s Parts (m ∷ ms) ts h e k = absurd (no_mark m ms e)
file_read_in (reading here []) Parts [] ts h e k = file_closes here (here_placed [] here ts k)
file_read_in (reading here (f ∷ fs)) Parts [] ts h e k = absurd h
file_read_in (naming n here fs) Parts [] ts h e k = absurd h
file_read_in (counting ds here fs) Parts [] ts h e k = absurd h
file_read_in failed Parts [] ts h e k = absurd h

file_read : (s : State) (o : Option Standing) (ts : List Token) → IsMarked s o → is_whole o ≡ true → Took s ts
    → (t : WideTree) × (state_tree s ≡ Some t)
file_read s (Some z) ts h e k = file_read_in s z.inside z.marks ts h e k
file_read s None ts h e k = absurd cc

whole_ready : (q : Lex) (m : Marked) → spells_whole (at q m) ≡ true → (q ≡ ready) × (is_whole m.now ≡ true)
whole_ready ready m h = (refl, h)
whole_ready slashed m h = absurd cc
whole_ready returned m h = absurd cc
whole_ready angled m h = absurd cc
whole_ready (labelled form l) m h = absurd cc

-- all bytes have been taken, and spell a tree
pub whole_there : (w : Bytewise Marked) (bytes : List ℕ) → run keep_marks start_marks bytes ≡ w → spells_whole w ≡ true
    → SpellsSome Spells bytes
unfolding reads
whole_there lost bytes e h = absurd cc
whole_there (at q m) bytes e h =
    let r = read_too bytes q m e in
    let w = whole_ready q m h in
    let b = read_behind bytes q r.0 r.1 in
    let s : r.0.state ≡ feeds file_state (without_joins false b.0) = ap (λ y. y.state) b.2
    ∙ keeps_state b.0 false file_state in
    let took : Took r.0.state (without_joins false b.0) =
    subst (λ y. Took y (without_joins false b.0)) (sym s)
    (feeds_took (without_joins false b.0) file_state [] (kept_tokens b.0 false b.1.each) (nothing, refl, refl)) in
    let t = file_read r.0.state m.now (without_joins false b.0) r.2.1 w.1 took in
    (t.0, read_is_spelled bytes t.0 (ap tree_in (r.1 ∙ ap (λ p. at p r.0) w.0) ∙ t.1))
